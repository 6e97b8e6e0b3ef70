-- The facts of each table in bytes, and what the calls of a store mean over them.
use Rattle.std.specs.Prelude.{◌≡◌, ◌≢◌, ℕ, Bool, true, false, not, ◌&&◌, ◌==◌, cond, List, [], ◌∷◌, ◌++◌, map, take, filter, Option, Some, None, option_map, Result, Ok, Err}
use Rattle.std.specs.declared.cmp.Ordering.{Ordering}
use Rattle.std.specs.List.{list_any}
use Rattle.std.specs.Ordering.{nat_cmp, is_eq, is_lt}
use Rattle.std.specs.Cmp.Lexicographic.{slice_cmp}
use Rattle.mvcc_keys.specs.Times.{Time, zero_time, time_lt}
use Rattle.mvcc_keys.specs.Codes.{mvcc_cmp}
use Rattle.list_laws.specs.Members.{Has}
use Rattle.mvcc_keys.specs.declared.entries.Entry.{Entry}
use Rattle.key_encoding.specs.Reading.{read_uvarint}
use Rattle.key_encoding.specs.declared.fault.KeyFault.{KeyFault}
use Rattle.range_tombstones.specs.declared.upto.Upto.{Upto}
use Rattle.range_tombstones.specs.Intervals.{is_between}
use Rattle.fact_model.specs.Facts.{Fact, date, touches, Version, value}
use Rattle.fact_model.specs.Scans.{image}
use Rattle.fact_model.specs.Listed.{is_point, key_of, points, ranges}

abbrev pub Bytes : Type 0
Bytes = List ℕ

abbrev pub bytes_cmp : Bytes → Bytes → Ordering
bytes_cmp = slice_cmp nat_cmp

abbrev pub ByteFact : Type 0
ByteFact = Fact Bytes Bytes

-- the entry in which a fact is handed out
abbrev pub entry_of : ByteFact → Entry
entry_of (Fact.Put key value at) = Entry.Put key at value
entry_of (Fact.Del key at) = Entry.Del key at
entry_of (Fact.DelRange lo hi at) = Entry.Range lo hi at

abbrev pub entries_of : List ByteFact → List Entry
entries_of fs = map entry_of fs

-- ---- tables

abbrev pub id_read : Result (ℕ × List ℕ) KeyFault → Option ℕ
id_read (Ok p) = Some p.0
id_read (Err fault) = None

-- the table of a key: the id that is spelled in front of it
unfoldable pub table_of : Bytes → Option ℕ
table_of key = id_read (read_uvarint key)

-- by table, all facts that were ever accepted, and the time up to which they may be forgotten
pub record Tables : Type 0 where
  pub facts : ℕ → List ByteFact
  pub threshold : ℕ → Time

-- nothing was accepted yet
abbrev pub no_facts : Tables
no_facts = record { facts = λ id. []; threshold = λ id. zero_time }

-- one fact more in a table
abbrev pub with_fact : ℕ → ByteFact → Tables → Tables
with_fact id f h = record { facts = λ i. cond (i == id) (h.facts i ++ f ∷ []) (h.facts i); threshold = h.threshold }

-- a table's threshold, raised where the time is greater
abbrev pub raised : ℕ → Time → Tables → Tables
raised id g h = record { facts = h.facts; threshold = λ i. cond (i == id && time_lt (h.threshold i) g) g (h.threshold i) }

-- ---- what may be added

-- the keys of the fact are of the table, and a range isn't empty
abbrev pub IsOfTable : ℕ → ByteFact → Type 0
IsOfTable id (Fact.Put key value at) = table_of key ≡ Some id
IsOfTable id (Fact.Del key at) = table_of key ≡ Some id
IsOfTable id (Fact.DelRange lo hi at) = (table_of lo ≡ Some id) × (table_of hi ≡ Some id) × (is_lt (bytes_cmp lo hi) ≡ true)

-- a fact may be added to a table: it is after the threshold, no fact that touches one of its keys has its date,
-- and no two range deletions have one date
pub record MayAdd (h : Tables) (id : ℕ) (f : ByteFact) : Type 0 where
  pub table : IsOfTable id f
  pub late : time_lt (h.threshold id) (date f) ≡ true
  pub fresh : (k : Bytes) (g : ByteFact) → Has g (h.facts id) → touches bytes_cmp k g ≡ true → touches bytes_cmp k f ≡ true → date g ≢ date f
  pub other_range : (g : ByteFact) → Has g (h.facts id) → is_point g ≡ false → is_point f ≡ false → date g ≢ date f

-- ---- the newest of each key

-- two puts or deletions have one key
abbrev pub same_key : ByteFact → ByteFact → Bool
same_key f g = is_eq (bytes_cmp (key_of f) (key_of g))

-- none of some puts and deletions has the key of f and a later date
abbrev pub is_newest : List ByteFact → ByteFact → Bool
is_newest fs f = not (list_any (λ g. same_key g f && time_lt (date f) (date g)) fs)

-- those of some puts and deletions that are the newest of their keys
unfoldable pub newest_points : List ByteFact → List ByteFact
newest_points fs = filter (is_newest fs) fs

-- ---- what is answered

-- the value of a key of a table as of t
abbrev pub value_at : Tables → ℕ → Bytes → Time → Option Bytes
value_at h id key t = option_map (λ (v : Version Bytes). v.value) (value bytes_cmp key t (h.facts id))

-- the visible puts of a table as of t, by key
abbrev pub scan_at : Tables → ℕ → Time → List Entry
scan_at h id t = entries_of (image bytes_cmp t (h.facts id))

-- the fact comes after a place: a key and a date of the order by key and newest first
abbrev pub is_past : Option (Bytes × Time) → ByteFact → Bool
is_past None f = true
is_past (Some place) f = is_lt (mvcc_cmp place.0 place.1 (key_of f) (date f))

-- the first n puts and deletions of an interval after a place
abbrev pub events_at : Tables → ℕ → Time → Upto → Option (Bytes × Time) → ℕ → List Entry
events_at h id from upto place n = entries_of (take n (filter (is_past place) (points bytes_cmp (is_between from upto) (h.facts id))))

-- the first n of the visible puts as of t that come after a place
abbrev pub scan_after_at : Tables → ℕ → Time → Option (Bytes × Time) → ℕ → List Entry
scan_after_at h id t place n = entries_of (take n (filter (is_past place) (image bytes_cmp t (h.facts id))))

-- the first n, after a place, of the puts and deletions of an interval that are the newest of their keys
abbrev pub newest_events_at : Tables → ℕ → Time → Upto → Option (Bytes × Time) → ℕ → List Entry
newest_events_at h id from upto place n = entries_of (take n (filter (is_past place) (newest_points (points bytes_cmp (is_between from upto) (h.facts id)))))

-- the range deletions of an interval, by date
abbrev pub ranges_at : Tables → ℕ → Time → Upto → List Entry
ranges_at h id from upto = entries_of (ranges (is_between from upto) (h.facts id))
