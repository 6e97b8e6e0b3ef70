-- Where a merge stands in each of its parts.
use Rattle.std.specs.Prelude.{◌≡◌, ℕ, ◌+◌, ◌*◌, ◌≤◌, Bool, true, false, not, ◌&&◌, List, [], ◌∷◌, ◌++◌, length, Option, Some, None, option_to_list}
use Rattle.std.specs.declared.cmp.Ordering.{Ordering}
use Rattle.std.specs.Ordering.{nat_cmp, on, flip_args, then_cmp, is_gt, is_le, is_lt}
use Rattle.std.specs.Cmp.Lexicographic.{slice_cmp}
use Rattle.mvcc_keys.specs.Times.{Time, zero_time, time_lt, time_le}
use Rattle.mvcc_keys.specs.Codes.{mvcc_cmp}
use Rattle.list_laws.specs.Members.{Has}
use Rattle.mvcc_keys.specs.Entries.{key_of}
use Rattle.mvcc_keys.specs.declared.entries.Entry.{Entry}
use Rattle.chunk_file.specs.Entries.{is_range, date_of, are_ordered, comes_before}
use Rattle.chunk_file.specs.Held.{IsEntryStart, left_at}
use Rattle.layer_merge.specs.declared.wanted.Wanted.{Wanted}
use Rattle.layer_merge.specs.Loads.{World}

-- a chunk that is held, the entries of it from one on, and the numbers of the chunks after it
pub record Stand : Type 0 where
  pub layer : ℕ
  pub number : ℕ
  pub entries : List Entry
  pub left : List Entry
  pub numbers : List ℕ

abbrev pub stand : ℕ → ℕ → List Entry → List Entry → List ℕ → Stand
stand layer number entries left numbers = record { layer = layer; number = number; entries = entries; left = left; numbers = numbers }

-- the offset of an entry of a chunk that is held
pub record IsAt (entries : List Entry) (offset : ℕ) : Type 0 where
  pub start : IsEntryStart entries offset
  pub live : 1 ≤ length (left_at entries offset)
  pub most : length entries ≤ 256
  pub ordered : are_ordered None entries ≡ true

-- the entries of some chunks of a layer
abbrev pub entries_in : World → ℕ → List ℕ → List Entry
entries_in w layer [] = []
entries_in w layer (n ∷ ns) = w layer n ++ entries_in w layer ns

-- what is still to come
abbrev pub coming : World → Stand → List Entry
coming w s = s.left ++ entries_in w s.layer s.numbers

abbrev pub first_of : List Entry → Option Entry
first_of [] = None
first_of (e ∷ es) = Some e

-- more than the entries that are still to come
abbrev pub room : Stand → ℕ
room s = (length s.left + 258 * length s.numbers) + 1

-- ---- order

-- points come first, then ranges, then nothing
abbrev pub rank_of : Option Entry → ℕ
rank_of None = 2
rank_of (Some (Entry.Put key at value)) = 0
rank_of (Some (Entry.Del key at)) = 0
rank_of (Some (Entry.Range lo hi at)) = 1

abbrev pub key_in : Option Entry → List ℕ
key_in None = []
key_in (Some e) = key_of e

abbrev pub date_in : Option Entry → Time
date_in None = zero_time
date_in (Some e) = date_of e

-- points by key and newest first, before all else
abbrev pub entry_cmp : Option Entry → Option Entry → Ordering
entry_cmp = then_cmp (on rank_of nat_cmp) (then_cmp (on key_in (slice_cmp nat_cmp)) (flip_args (on date_in (then_cmp (on (λ (t : Time). t.wall) nat_cmp) (on (λ (t : Time). t.logical) nat_cmp)))))

-- the one whose entry comes first is the greatest
abbrev pub stand_cmp : Stand → Stand → Ordering
stand_cmp = flip_args (on (λ (s : Stand). first_of s.left) entry_cmp)

-- ---- which entries count

abbrev pub is_after : Option (List ℕ) → List ℕ → Bool
is_after None key = true
is_after (Some done) key = is_lt (slice_cmp nat_cmp done key)

abbrev pub is_below : Option (List ℕ) → List ℕ → Bool
is_below None key = true
is_below (Some hi) key = is_lt (slice_cmp nat_cmp key hi)

abbrev pub is_later : Option Time → Time → Bool
is_later None t = true
is_later (Some s) t = time_lt s t

-- a key and a date that a merge is asked for
abbrev pub is_wanted : Wanted → List ℕ → Time → Bool
is_wanted v key at = (is_le (slice_cmp nat_cmp v.lo key) && is_below v.hi key) && (is_later v.after at && time_le at v.upto)

-- a put or deletion that is asked for, of a key after the last one that was given
unfoldable pub counts : Wanted → Option (List ℕ) → Entry → Bool
counts v done e = not (is_range e) && (is_after done (key_of e) && is_wanted v (key_of e) (date_of e))

abbrev pub counts_first : Wanted → Option (List ℕ) → Option Entry → Bool
counts_first v last None = true
counts_first v last (Some e) = counts v last e

-- ---- steps

-- the chunk goes on where the one before it ended
abbrev pub goes_on : Option Entry → Option Entry → Bool
goes_on (Some d) (Some e) = comes_before d e
goes_on d e = true

-- what is to come is one entry and what is then to come
abbrev pub Moves : World → Stand → Option Stand → Type 0
Moves w s None = coming w s ≡ option_to_list (first_of s.left)
Moves w s (Some m) = (coming w s ≡ option_to_list (first_of s.left) ++ coming w m) × (1 ≤ length m.left)

-- nothing is to come of later chunks, or the first of them was loaded
abbrev pub Loaded : World → Stand → Option Stand → Type 0
Loaded w s None = entries_in w s.layer s.numbers ≡ []
Loaded w s (Some m) = (entries_in w s.layer s.numbers ≡ coming w m) × (1 ≤ length m.left)

-- what is to come of later chunks comes after the entry at which the stand is
abbrev pub IsLast : World → Stand → Type 0
IsLast w s = are_ordered (first_of s.left) (entries_in w s.layer s.numbers) ≡ true

-- ---- all parts

-- Of these entries all that count are still to come. What is to come is in order in each part, and of these entries.
pub record AreAt (w : World) (v : Wanted) (done : Option (List ℕ)) (all : List Entry) (stands : List Stand) : Type 0 where
  pub ordered : (s : Stand) → Has s stands → are_ordered None (coming w s) ≡ true
  pub there : (e : Entry) → Has e all → counts v done e ≡ true → (s : Stand) × (Has s stands × Has e (coming w s))
  pub only : (s : Stand) (e : Entry) → Has s stands → Has e (coming w s) → Has e all
  pub live : (s : Stand) → Has s stands → 1 ≤ length s.left

-- the order of puts and deletions: by key and newest first
abbrev pub point_cmp : Entry → Entry → Ordering
point_cmp d e = mvcc_cmp (key_of d) (date_of d) (key_of e) (date_of e)

-- an entry that counts, and comes before all others that do
pub record IsNext (v : Wanted) (done : Option (List ℕ)) (all : List Entry) (e : Entry) : Type 0 where
  pub among : Has e all
  pub counted : counts v done e ≡ true
  pub least : (d : Entry) → Has d all → counts v done d ≡ true → is_gt (point_cmp e d) ≡ false

-- the first of the entries that count, at which a stand is; or none counts
pub record IsFound (w : World) (v : Wanted) (done : Option (List ℕ)) (all : List Entry) (s : Stand) (stands : List Stand) : Type 0 where
  pub entry : Entry
  pub first : first_of s.left ≡ Some entry
  pub next : IsNext v done all entry
  pub again : AreAt w v done all (s ∷ stands)

-- none counts
pub record IsEnded (w : World) (v : Wanted) (done : Option (List ℕ)) (all : List Entry) (stands : List Stand) : Type 0 where
  pub none : (e : Entry) → Has e all → counts v done e ≡ true → ⊥
  pub again : AreAt w v done all stands

abbrev pub Finds : World → Wanted → Option (List ℕ) → List Entry → Option Stand → List Stand → Type 0
Finds w v last all None stands = IsEnded w v last all stands
Finds w v last all (Some s) stands = IsFound w v last all s stands
