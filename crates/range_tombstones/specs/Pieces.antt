-- Adjoining pieces of the key space, each up to the next, with the dates of the range deletions that cover it.
use Rattle.std.specs.Prelude.{◌≡◌, ℕ, Bool, true, false, ◌||◌, cond, List, [], ◌∷◌, ◌++◌, take, drop, map, filter, Option, Some, None}
use Rattle.std.specs.List.{AllByRecursion}
use Rattle.std.specs.Ordering.{is_eq, nat_cmp}
use Rattle.std.specs.Cmp.Lexicographic.{pointwise, slice_cmp}
use Rattle.mvcc_keys.specs.Times.{Time, time_lt, time_eq}
use Rattle.range_tombstones.specs.declared.piece.Piece.{Piece}
use Rattle.range_tombstones.specs.Dates.{Ascends, has_date, with_date, without_date}
use Rattle.range_tombstones.specs.declared.deletion.RangeDeletion.{RangeDeletion}
use Rattle.range_tombstones.specs.Ranges.{Bytes, by_date, dates_of, bytes_le, bytes_lt, is_within, covers}

abbrev pub piece : Bytes → List Time → Piece
piece start dates = record { start = start; dates = dates }

abbrev pub begins_before : Piece → Piece → Bool
begins_before p q = bytes_lt p.start q.start

-- the piece in which a key lies: the last that begins at or before it
abbrev pub piece_after : Option Piece → Bytes → List Piece → Option Piece
piece_after before key [] = before
piece_after before key (p ∷ ps) = piece_after (cond (bytes_le p.start key) (Some p) before) key ps

unfoldable pub piece_at : Bytes → List Piece → Option Piece
piece_at key ps = piece_after None key ps

abbrev pub dates_in : Option Piece → List Time
dates_in None = []
dates_in (Some p) = p.dates

abbrev pub dates_at : Bytes → List Piece → List Time
dates_at key ps = dates_in (piece_at key ps)

-- a piece begins at the key
abbrev pub is_start : Bytes → List Piece → Bool
is_start key [] = false
is_start key (p ∷ ps) = is_eq (slice_cmp nat_cmp p.start key) || is_start key ps

-- pieces are made of range deletions: at each key stand the dates of those that cover it
pub record IsMadeOf (ps : List Piece) (rs : List RangeDeletion) : Type 0 where
  pub pieces : Ascends begins_before ps
  pub ascends : Ascends by_date rs
  pub proper : AllByRecursion (λ r. bytes_lt r.lo r.hi ≡ true) rs
  pub dates : (key : Bytes) → dates_at key ps ≡ dates_of (filter (covers key) rs)

-- ---- changes of pieces

-- a piece begins at the key, where one began one still does, and each key has the dates that it had
pub record IsSplit (key : Bytes) (ps qs : List Piece) : Type 0 where
  pub ascends : Ascends begins_before qs
  pub begun : is_start key qs ≡ true
  pub others : (k : Bytes) → is_start k ps ≡ true → is_start k qs ≡ true
  pub dates : (k : Bytes) → dates_at k qs ≡ dates_at k ps

-- the date put into a piece of the range
abbrev pub dated : Bytes → Bytes → Time → Piece → Piece
dated lo hi t p = cond (is_within lo hi p.start) (piece p.start (with_date t p.dates)) p

-- some of the pieces in front are dated, and the others as they were
abbrev pub PartlyDated : Bytes → Bytes → Time → List Piece → List Piece → Type 0
PartlyDated lo hi t ps qs = (n : ℕ) × (qs ≡ map (dated lo hi t) (take n ps) ++ drop n ps)

abbrev pub undated : Time → Piece → Piece
undated t p = piece p.start (without_date t p.dates)

abbrev pub dated_after : Time → Piece → Piece
dated_after g p = piece p.start (filter (λ d. time_lt g d) p.dates)

-- a date that isn't among the dates of a piece, which ascend
abbrev pub MayDate : Time → Piece → Type 0
MayDate t p = Ascends time_lt p.dates × (has_date t p.dates ≡ false)

abbrev pub same_dates : Piece → Piece → Bool
same_dates p q = pointwise time_eq p.dates q.dates
