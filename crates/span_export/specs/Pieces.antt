-- Entries given in pieces, each after the place of the last entry before.
use Rattle.std.specs.Prelude.{◌≡◌, ◌<◌, ℕ, Bool, true, false, cond, ◌||◌, List, [], ◌∷◌, ◌++◌, take, drop, filter, Option, Some, None}
use Rattle.std.specs.Ordering.{is_lt}
use Rattle.mvcc_keys.specs.Times.{Time, time_le, time_lt}
use Rattle.mvcc_keys.specs.Codes.{mvcc_cmp}
use Rattle.mvcc_keys.specs.declared.entries.Entry.{Entry}
use Rattle.range_tombstones.specs.Intervals.{is_between}
use Rattle.fact_model.specs.Facts.{date}
use Rattle.version_store.specs.Tables.{ByteFact, Bytes, Tables, with_fact}
use Rattle.span_export.specs.Plans.{plan_entries}
use Rattle.span_export.specs.declared.cursor.Place.{Place}
use Rattle.span_export.specs.declared.plan.Plan.{Plan}
use Rattle.span_export.specs.declared.plan.Plan.TheVariants.{Changes, Whole}

-- where an entry stands
abbrev pub place_of : Entry → Place
place_of (Entry.Put key at value) = Place.Point key at
place_of (Entry.Del key at) = Place.Point key at
place_of (Entry.Range lo hi at) = Place.Range at

-- an entry comes after a place: puts and deletions by key and newest first, then range deletions by date
abbrev pub is_after : Place → Entry → Bool
is_after (Place.Point k t) (Entry.Put key at value) = is_lt (mvcc_cmp k t key at)
is_after (Place.Point k t) (Entry.Del key at) = is_lt (mvcc_cmp k t key at)
is_after (Place.Point k t) (Entry.Range lo hi at) = true
is_after (Place.Range t) (Entry.Put key at value) = false
is_after (Place.Range t) (Entry.Del key at) = false
is_after (Place.Range t) (Entry.Range lo hi at) = time_lt t at

-- a range deletion's place
abbrev pub is_range : Place → Bool
is_range (Place.Point k t) = false
is_range (Place.Range t) = true

-- the key and the date of a put or of a deletion
abbrev pub point_at : Place → Option (Bytes × Time)
point_at (Place.Point k t) = Some (k, t)
point_at (Place.Range t) = None

-- a cursor is at a range deletion, so that all puts and deletions were given
abbrev pub is_past_points : Option Place → Bool
is_past_points None = false
is_past_points (Some place) = is_range place

-- the put or deletion at which a cursor is
abbrev pub point_of : Option Place → Option (Bytes × Time)
point_of None = None
point_of (Some place) = point_at place

-- an entry wasn't given yet
abbrev pub is_left : Option Place → Entry → Bool
is_left None e = true
is_left (Some place) e = is_after place e

-- the entries after a cursor
abbrev pub after_place : Option Place → List Entry → List Entry
after_place cursor es = filter (is_left cursor) es

-- the cursor at the last of some entries, or as it was where there is none
abbrev pub cursor_after : Option Place → List Entry → Option Place
cursor_after cursor [] = cursor
cursor_after cursor (e ∷ es) = cursor_after (Some (place_of e)) es

-- pieces that are given from a cursor on, each the next n entries after the cursor that the one before left, until none is left
abbrev pub ArePieces : ℕ → List Entry → Option Place → List (List Entry) → Type 0
ArePieces n es cursor [] = after_place cursor es ≡ []
ArePieces n es cursor (piece ∷ pieces) = (piece ≡ take n (after_place cursor es)) × ArePieces n es (cursor_after cursor piece) pieces

abbrev pub joined : List (List Entry) → List Entry
joined [] = []
joined (piece ∷ pieces) = piece ++ joined pieces

-- The pieces of a plan, one after the other, are its entries, and there are such pieces. Where its entries are some that are done and
-- those after a cursor, the cursor after the next piece leaves those that the piece leaves.
pub record PiecesAreWhole : Type 0 where
  pub whole : (h : Tables) (table : ℕ) (plan : Plan) (n : ℕ) (pieces : List (List Entry)) → ArePieces n (plan_entries h table plan) None pieces → joined pieces ≡ plan_entries h table plan
  pub given : (h : Tables) (table : ℕ) (plan : Plan) (n : ℕ) → 0 < n → (pieces : List (List Entry)) × ArePieces n (plan_entries h table plan) None pieces
  pub follows : (h : Tables) (table : ℕ) (plan : Plan) (n : ℕ) (done left : List Entry) (cursor : Option Place) → plan_entries h table plan ≡ done ++ left → after_place cursor (plan_entries h table plan) ≡ left → after_place (cursor_after cursor (take n left)) (plan_entries h table plan) ≡ drop n left

-- a fact of a date may show in a plan's entries
abbrev pub is_seen : Plan → Time → Bool
is_seen (Changes after upto every) t = is_between after upto t
is_seen (Whole floor upto every) t = time_le t floor || cond every (is_between floor upto t) false

-- a fact that is added outside a plan's dates leaves the plan's entries as they were
abbrev pub OthersAreUnseen : Type 0
OthersAreUnseen = (h : Tables) (id table : ℕ) (plan : Plan) (f : ByteFact) → is_seen plan (date f) ≡ false → plan_entries (with_fact id f h) table plan ≡ plan_entries h table plan
