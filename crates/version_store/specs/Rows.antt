-- Rows of versions as dated facts, and what walks over them compute.
use Rattle.std.specs.Prelude.{◌≡◌, ℕ, ◌+◌, Bool, true, false, not, ◌&&◌, cond, List, [], ◌∷◌, ◌++◌, map, filter, Option, Some, None, ⊤}
use Rattle.std.specs.Global.{Vec}
use Rattle.std.specs.List.{AllByRecursion}
use Rattle.std.specs.Borrow.{Bor}
use Rattle.std.specs.BTreeMap.{is_at}
use Rattle.std.specs.List.Sorted.{IsStrictlySortedBy}
use Rattle.std.specs.Map.{lookup}
use Rattle.std.specs.Option.{option_to_list}
use Rattle.std.specs.Ordering.{is_le, is_lt}
use Rattle.mvcc_keys.specs.Codes.{mvcc_cmp}
use Rattle.range_tombstones.specs.declared.upto.Upto.{Upto}
use Rattle.range_tombstones.specs.Intervals.{is_between}
use Rattle.mvcc_keys.specs.Times.{Time, time_le, time_lt}
use Rattle.mvcc_keys.specs.declared.entries.Entry.{Entry}
use Rattle.range_tombstones.specs.declared.deletion.RangeDeletion.{RangeDeletion}
use Rattle.range_tombstones.specs.Ranges.{newest_cover}
use Rattle.fact_model.specs.Facts.{Fact}
use Rattle.fact_model.specs.Listed.{key_of}
use Rattle.fact_model.specs.Facts as facts
use Rattle.list_laws.specs.Members as members
use Rattle.version_store.specs.Tables.{Bytes, ByteFact, Tables, bytes_cmp, entries_of, events_at, newest_events_at}
use Rattle.version_store.specs.Lists.{seen_item}
use Rattle.version_store.specs.declared.row.Version.{Version}
use Rattle.version_store.specs.declared.choice.Choice.{Choice}
use Rattle.version_store.specs.declared.choice.Choice.TheVariants.{All, Newest}

-- the fact that a version of a key is
abbrev pub held : Bytes → Time → Option Bytes → ByteFact
held k at None = Fact.Del k at
held k at (Some value) = Fact.Put k value at

abbrev pub version_fact : Bytes → Version → ByteFact
version_fact k v = held k v.at v.value

abbrev pub row_facts : Bytes → List Version → List ByteFact
row_facts k vs = map (version_fact k) vs

abbrev pub Rows : Type 0
Rows = List (Vec ℕ × List Version)

-- the facts of rows by key, and of each row as its versions stand
unfoldable pub map_facts : List (Vec ℕ × List Version) → List ByteFact
map_facts [] = []
map_facts (e ∷ es) = row_facts e.0.items e.1 ++ map_facts es

abbrev pub range_fact : RangeDeletion → ByteFact
range_fact r = Fact.DelRange r.lo r.hi r.at

abbrev pub range_facts : List RangeDeletion → List ByteFact
range_facts rs = map range_fact rs

abbrev pub KeysAscend : List (Vec ℕ × List Version) → Type 0
KeysAscend es = IsStrictlySortedBy (λ (p q : Vec ℕ). bytes_cmp p.items q.items) (map (λ e. e.0) es)

-- each version is newer than those after it
unfoldable pub IsNewestFirst : List Version → Type 0
IsNewestFirst [] = ⊤
IsNewestFirst (v ∷ vs) = AllByRecursion (λ w. time_lt w.at v.at ≡ true) vs × IsNewestFirst vs

abbrev pub AllNewestFirst : List (Vec ℕ × List Version) → Type 0
AllNewestFirst es = AllByRecursion (λ e. IsNewestFirst e.1) es

-- ---- one row

-- a version behind the newer ones in front
unfoldable pub with_version : Version → List Version → List Version
with_version v [] = v ∷ []
with_version v (w ∷ ws) = cond (time_lt v.at w.at) (w ∷ with_version v ws) (v ∷ w ∷ ws)

-- the first version dated up to t
unfoldable pub first_upto : Time → List Version → Option Version
first_upto t [] = None
first_upto t (v ∷ vs) = cond (time_le v.at t) (Some v) (first_upto t vs)

-- the newest range deletion over a key is later
abbrev pub is_hidden : Time → Option Time → Bool
is_hidden at None = false
is_hidden at (Some cover) = time_lt at cover

abbrev pub shown_as : Time → Option Bytes → Option (facts.Version Bytes)
shown_as at None = None
shown_as at (Some value) = Some (record { value = value; at = at })

-- what a row shows, by its first version up to a time and the newest range deletion over its key
abbrev pub row_shown : Option Version → Option Time → Option (facts.Version Bytes)
row_shown None cover = None
row_shown (Some v) cover = cond (is_hidden v.at cover) None (shown_as v.at v.value)

-- the version is a put that isn't hidden
abbrev pub shows : Option Bytes → Bool → Bool
shows None hidden = false
shows (Some value) hidden = not hidden

-- the same of the first version up to a time, if there is one
abbrev pub shows_first : Option Time → Option Version → Bool
shows_first cover None = false
shows_first cover (Some v) = shows v.value (is_hidden v.at cover)

-- what a collection up to g leaves of a row: the newer versions, and what the row shows at g
unfoldable pub trimmed : Time → Option Time → List Version → List Version
trimmed g cover [] = []
trimmed g cover (v ∷ vs) = cond (time_lt g v.at) (v ∷ trimmed g cover vs) (cond (shows v.value (is_hidden v.at cover)) (v ∷ []) [])

-- how many versions in front are newer than a date
unfoldable pub count_newer : Time → List Version → ℕ
count_newer at [] = 0
count_newer at (v ∷ vs) = cond (time_lt at v.at) (1 + count_newer at vs) 0

-- how many versions in front a collection leaves
unfoldable pub count_left : Time → Option Time → List Version → ℕ
count_left g cover [] = 0
count_left g cover (v ∷ vs) = cond (time_lt g v.at) (1 + count_left g cover vs) (cond (shows v.value (is_hidden v.at cover)) 1 0)

-- ---- places

-- a key and a date come after a place
abbrev pub is_after : Option (Bytes × Time) → Bytes → Time → Bool
is_after None key at = true
is_after (Some place) key at = is_lt (mvcc_cmp place.0 place.1 key at)

-- ---- all rows

-- the puts that the rows show as of t
unfoldable pub hits : Time → List RangeDeletion → List (Vec ℕ × List Version) → List Entry
hits t rs [] = []
hits t rs (e ∷ es) = seen_item e.0.items (row_shown (first_upto t e.1) (newest_cover e.0.items t rs)) ++ hits t rs es

-- the put that a row shows, where it comes after a place
abbrev pub seen_past : Option (Bytes × Time) → Bytes → Option (facts.Version Bytes) → List Entry
seen_past place k None = []
seen_past place k (Some v) = cond (is_after place k v.at) (Entry.Put k v.at v.value ∷ []) []

-- the puts that the rows show as of t and that come after a place
unfoldable pub hits_past : Option (Bytes × Time) → Time → List RangeDeletion → List (Vec ℕ × List Version) → List Entry
hits_past place t rs [] = []
hits_past place t rs (e ∷ es) = seen_past place e.0.items (row_shown (first_upto t e.1) (newest_cover e.0.items t rs)) ++ hits_past place t rs es

abbrev pub with_row : Vec ℕ → List Version → List (Vec ℕ × List Version) → List (Vec ℕ × List Version)
with_row k [] es = es
with_row k (v ∷ vs) es = (k, v ∷ vs) ∷ es

-- what a collection leaves of the rows
unfoldable pub trimmed_rows : Time → List RangeDeletion → List (Vec ℕ × List Version) → List (Vec ℕ × List Version)
trimmed_rows g rs [] = []
trimmed_rows g rs (e ∷ es) = with_row e.0 (trimmed g (newest_cover e.0.items g rs) e.1) (trimmed_rows g rs es)

-- the rows from a key on
abbrev pub rows_from : Bytes → List (Vec ℕ × List Version) → List (Vec ℕ × List Version)
rows_from k es = filter (λ e. is_le (bytes_cmp k e.0.items)) es

-- the entries of those of a row's versions whose key and date pass
abbrev pub row_events : (Bytes → Time → Bool) → Bytes → List Version → List Entry
row_events p k vs = entries_of (row_facts k (filter (λ v. p k v.at) vs))

-- the same of all rows, by key
unfoldable pub events_in : (Bytes → Time → Bool) → List (Vec ℕ × List Version) → List Entry
events_in p [] = []
events_in p (e ∷ es) = row_events p e.0.items e.1 ++ events_in p es

abbrev pub is_event : Time → Upto → Option (Bytes × Time) → Bytes → Time → Bool
is_event from upto place key at = is_between from upto at && is_after place key at

-- the key from which a walk to a place starts
abbrev pub start_of : Option (Bytes × Time) → Bytes
start_of None = []
start_of (Some place) = place.0

-- the first version of an interval
unfoldable pub first_between : Time → Upto → List Version → Option Version
first_between from upto [] = None
first_between from upto (v ∷ vs) = cond (is_between from upto v.at) (Some v) (first_between from upto vs)

-- of each row the newest version of an interval alone
abbrev pub newest_rows : Time → Upto → List (Vec ℕ × List Version) → List (Vec ℕ × List Version)
newest_rows from upto es = map (λ (e : Vec ℕ × List Version). (e.0, option_to_list (first_between from upto e.1))) es

-- ---- choices

-- the date after which a choice begins
abbrev pub from_of : Choice → Time
from_of (All from upto) = from
from_of (Newest from upto) = from

-- what a choice has of a row after a place
abbrev pub row_chosen : Choice → Option (Bytes × Time) → Bytes → List Version → List Entry
row_chosen (All from upto) place k vs = row_events (is_event from upto place) k vs
row_chosen (Newest from upto) place k vs = row_events (is_after place) k (option_to_list (first_between from upto vs))

-- the same of all rows, by key
unfoldable pub chosen_in : Choice → Option (Bytes × Time) → List (Vec ℕ × List Version) → List Entry
chosen_in choice place [] = []
chosen_in choice place (e ∷ es) = row_chosen choice place e.0.items e.1 ++ chosen_in choice place es

-- the first n that a choice has of a table after a place
abbrev pub chosen_at : Tables → ℕ → Choice → Option (Bytes × Time) → ℕ → List Entry
chosen_at h id (All from upto) place n = events_at h id from upto place n
chosen_at h id (Newest from upto) place n = newest_events_at h id from upto place n

-- the versions of a key, none where it has no row
abbrev pub versions_in : Option (List Version) → List Version
versions_in None = []
versions_in (Some vs) = vs

abbrev pub row_at : Bytes → List (Vec ℕ × List Version) → List Version
row_at key es = versions_in (lookup (is_at (λ (q : Vec ℕ). bytes_cmp key q.items)) es)

abbrev pub version_seen : Bor (List ℕ) × Time → facts.Version Bytes
version_seen p = record { value = p.0.now; at = p.1 }

-- one element more somewhere in a list
pub record IsInserted {X : Type 0} (x : X) (xs ys : List X) : Type 0 where
  pub front : List X
  pub back : List X
  pub before : xs ≡ front ++ back
  pub after : ys ≡ front ++ x ∷ back

-- a fact more among those of rows, and rows that stay newest first where no fact of its key has its date
pub record IsRowAdded (f : ByteFact) (es new : List (Vec ℕ × List Version)) : Type 0 where
  pub put : IsInserted f (map_facts es) (map_facts new)
  pub first : AllNewestFirst es → ((g : ByteFact) → members.Has g (map_facts es) → facts.touches bytes_cmp (key_of f) g ≡ true → facts.date g ≡ facts.date f → ⊥) → AllNewestFirst new
