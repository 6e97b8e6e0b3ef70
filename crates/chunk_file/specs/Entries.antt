-- Entries of chunks: what they are, how they are spelled and read, and their order.
use Rattle.std.specs.Prelude.{◌≡◌, ℕ, zero, suc, ◌<◌, ◌^◌, Bool, true, false, ◌&&◌, ◌||◌, nat_eq, Option, Some, None, List, [], ◌∷◌, ◌++◌, length, if◌then◌else◌}
use Rattle.std.specs.List.{AllByRecursion}
use Rattle.std.specs.Option.{option_map}
use Rattle.std.specs.Ordering.{nat_cmp, is_lt}
use Rattle.std.specs.Cmp.Lexicographic.{slice_cmp}
use Rattle.mvcc_keys.specs.Times.{Time, IsTime, time_lt}
use Rattle.mvcc_keys.specs.Codes.{mvcc_key, read_mvcc_key, mvcc_cmp}
use Rattle.mvcc_keys.specs.declared.entries.Entry.{Entry}
use Rattle.mvcc_keys.specs.declared.entries.EntryView.{EntryView}
use Rattle.row_codec.specs.KeyReading.{is_key_of, read_row_key}
use Rattle.row_codec.specs.RowValues.{sized, read_sized, read_row_value, reads}
use Rattle.row_codec.specs.declared.rows.Kind.{Kind}
use Rattle.list_laws.specs.Options.{◌>>=◌}
use Rattle.mvcc_keys.specs.Entries.{key_of}

-- what a borrowed entry is
abbrev pub seen : EntryView → Entry
seen (EntryView.Put key at value) = Entry.Put key.now at value.now
seen (EntryView.Del key at) = Entry.Del key.now at
seen (EntryView.Range lo hi at) = Entry.Range lo.now hi.now at

-- ---- order

abbrev pub is_range : Entry → Bool
is_range (Entry.Put key at value) = false
is_range (Entry.Del key at) = false
is_range (Entry.Range lo hi at) = true

abbrev pub date_of : Entry → Time
date_of (Entry.Put key at value) = at
date_of (Entry.Del key at) = at
date_of (Entry.Range lo hi at) = at

-- puts and deletions stand first, by key ascending and of one key the newer first; range deletions follow by date
unfoldable pub comes_before : Entry → Entry → Bool
comes_before d e =
    if is_range d then is_range e && time_lt (date_of d) (date_of e)
    else is_range e || is_lt (mvcc_cmp (key_of d) (date_of d) (key_of e) (date_of e))

-- after the last one, if there is one
abbrev pub may_follow : Option Entry → Entry → Bool
may_follow None e = true
may_follow (Some d) e = comes_before d e

-- each comes after the one before it, and the first after the last one
abbrev pub are_ordered : Option Entry → List Entry → Bool
are_ordered last [] = true
are_ordered last (e ∷ es) = may_follow last e && are_ordered (Some e) es

-- entries stand in a strict order, and what is ordered one by one is ordered throughout
pub record EntriesAreOrdered : Type 0 where
  pub chains : (a b c : Entry) → comes_before a b ≡ true → comes_before b c ≡ true → comes_before a c ≡ true
  pub one_way : (a b : Entry) → comes_before a b ≡ true → comes_before b a ≡ false
  pub throughout : (a : Entry) (es : List Entry) → are_ordered (Some a) es ≡ true → AllByRecursion (λ e. comes_before a e ≡ true) es

-- ---- entries of a table

-- the key of a row of the table with key columns of these kinds
abbrev pub is_row_key : ℕ → List Kind → List ℕ → Bool
is_row_key table kinds key = is_key_of table (read_row_key kinds key)

-- its keys are row keys, its value is a row value, and a range isn't empty
unfoldable pub is_entry : ℕ → List Kind → Entry → Bool
is_entry table kinds (Entry.Put key at value) = is_row_key table kinds key && reads (read_row_value value)
is_entry table kinds (Entry.Del key at) = is_row_key table kinds key
is_entry table kinds (Entry.Range lo hi at) = is_row_key table kinds lo && is_row_key table kinds hi && is_lt (slice_cmp nat_cmp lo hi)

-- a time, and lengths of 64 bits: what an entry's Rust type says of it
abbrev pub IsStored : Entry → Type 0
IsStored (Entry.Put key at value) = IsTime at × (length (mvcc_key key at) < 2 ^ 64) × (length value < 2 ^ 64)
IsStored (Entry.Del key at) = IsTime at × (length (mvcc_key key at) < 2 ^ 64)
IsStored (Entry.Range lo hi at) = IsTime at × (length (mvcc_key lo at) < 2 ^ 64) × (length hi < 2 ^ 64)

-- ---- spelling

-- 01 for a put, 02 for a deletion, 03 for a range deletion; the key with its date; the value, or the range's end
unfoldable pub entry_code : Entry → List ℕ
entry_code (Entry.Put key at value) = 1 ∷ (sized (mvcc_key key at) ++ sized value)
entry_code (Entry.Del key at) = 2 ∷ sized (mvcc_key key at)
entry_code (Entry.Range lo hi at) = 3 ∷ (sized (mvcc_key lo at) ++ sized hi)

abbrev pub entries_code : List Entry → List ℕ
entries_code [] = []
entries_code (e ∷ es) = entry_code e ++ entries_code es

-- ---- reading

-- the key and the date of what was cut off
abbrev pub dated : List ℕ × List ℕ → Option ((List ℕ × Time) × List ℕ)
dated p = option_map (λ d. (d, p.1)) (read_mvcc_key p.0)

unfoldable pub read_dated : List ℕ → Option ((List ℕ × Time) × List ℕ)
read_dated b = read_sized b >>= dated

unfoldable pub read_put : List ℕ → Option (Entry × List ℕ)
read_put b = do
  key ← read_dated b
  value ← read_sized key.1
  Some (Entry.Put key.0.0 key.0.1 value.0, value.1)

unfoldable pub read_del : List ℕ → Option (Entry × List ℕ)
read_del b = do
  key ← read_dated b
  Some (Entry.Del key.0.0 key.0.1, key.1)

unfoldable pub read_range : List ℕ → Option (Entry × List ℕ)
read_range b = do
  lo ← read_dated b
  hi ← read_sized lo.1
  Some (Entry.Range lo.0.0 hi.0 lo.0.1, hi.1)

-- the entry that is spelled in front, and what follows
unfoldable pub read_entry : List ℕ → Option (Entry × List ℕ)
read_entry [] = None
read_entry (mark ∷ b) =
    if nat_eq mark 1 then read_put b
    else if nat_eq mark 2 then read_del b
    else if nat_eq mark 3 then read_range b
    else None

-- the first n entries that are spelled
abbrev pub with_listed : (List ℕ → List Entry) → Option (Entry × List ℕ) → List Entry
with_listed others (Some p) = p.0 ∷ others p.1
with_listed others None = []

abbrev pub listed : ℕ → List ℕ → List Entry
listed zero b = []
listed (suc n) b = with_listed (listed n) (read_entry b)
