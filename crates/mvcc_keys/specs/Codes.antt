-- Times in 12 bytes, and the keys of versions: a key, 00, and a time in 9 or 13 bytes.
use Rattle.std.specs.Prelude.{◌≡◌, ℕ, ◌-◌, nat_lt, nat_le, ◌==◌, ◌&&◌, Option, Some, None, if◌then◌else◌, List, [], ◌∷◌, ◌++◌, length, take, drop, slice_index}
use Rattle.std.specs.Int.{w32, w64, to_be_bytes, from_be_bytes}
use Rattle.std.specs.declared.cmp.Ordering.{Ordering}
use Rattle.std.specs.Ordering.{nat_cmp, ordering_then}
use Rattle.std.specs.Cmp.Lexicographic.{slice_cmp}
use Rattle.list_laws.specs.Bytes.{AreBytes}
use Rattle.mvcc_keys.specs.Times.{Time, time, IsTime}

-- numbers of 8 and of 4 bytes, the highest byte first
unfoldable pub bytes64 : ℕ → List ℕ
bytes64 n = to_be_bytes w64 n

unfoldable pub bytes32 : ℕ → List ℕ
bytes32 n = to_be_bytes w32 n

unfoldable pub number64 : List ℕ → ℕ
number64 b = from_be_bytes w64 b

unfoldable pub number32 : List ℕ → ℕ
number32 b = from_be_bytes w32 b

-- ---- times

-- the wall in 8 bytes and the counter in 4, the highest first
unfoldable pub time_bytes : Time → List ℕ
time_bytes t = bytes64 t.wall ++ bytes32 t.logical

-- a time, if the counter is in its range, and what follows
abbrev pub in_range : ℕ → ℕ → List ℕ → Option (Time × List ℕ)
in_range wall logical rest = if nat_le logical 2147483647 then Some (time wall logical, rest) else None

unfoldable pub read_time_bytes : List ℕ → Option (Time × List ℕ)
read_time_bytes b =
    if nat_lt (length b) 12 then None
    else in_range (number64 (take 8 b)) (number32 (take 4 (drop 8 b))) (drop 4 (drop 8 b))

-- the bytes of times are read as they are, whatever follows, and no time's bytes begin another's
pub record TimeBytesAreExact : Type 0 where
  pub found : (t : Time) (r : List ℕ) → IsTime t → read_time_bytes (time_bytes t ++ r) ≡ Some (t, r)
  pub only : (b : List ℕ) (t : Time) (r : List ℕ) → AreBytes b → read_time_bytes b ≡ Some (t, r) → IsTime t × (b ≡ time_bytes t ++ r)
  pub apart : (s t : Time) (r q : List ℕ) → IsTime s → IsTime t → time_bytes s ++ r ≡ time_bytes t ++ q → (s ≡ t) × (r ≡ q)

-- ---- keys of versions

-- a counter that isn't 0, and the mark of whether it is written
abbrev pub counter_bytes : ℕ → List ℕ
counter_bytes n = if n == 0 then 9 ∷ [] else bytes32 n ++ 13 ∷ []

unfoldable pub mvcc_key : List ℕ → Time → List ℕ
mvcc_key key t = key ++ 0 ∷ (bytes64 t.wall ++ counter_bytes t.logical)

-- the last byte of some
abbrev pub last_byte : List ℕ → ℕ
last_byte b = slice_index (drop (length b - 1) b) 0

-- a key and a wall, with 00 between, and the counter that was read after them
unfoldable pub read_wall : List ℕ → ℕ → Option (List ℕ × Time)
read_wall b logical =
    if nat_lt (length b) 9 then None
    else (if slice_index (drop (length b - 9) b) 0 == 0
    then Some (take (length b - 9) b, time (number64 (drop 1 (drop (length b - 9) b))) logical)
    else None)

-- a counter that is written is from 1 to 2147483647
unfoldable pub read_counter : List ℕ → Option (List ℕ × Time)
read_counter b =
    if nat_lt (length b) 4 then None
    else (if nat_le 1 (number32 (drop (length b - 4) b)) && nat_le (number32 (drop (length b - 4) b)) 2147483647
    then read_wall (take (length b - 4) b) (number32 (drop (length b - 4) b))
    else None)

-- from the end
unfoldable pub read_mvcc_key : List ℕ → Option (List ℕ × Time)
read_mvcc_key b =
    if nat_lt (length b) 1 then None
    else if last_byte b == 9 then read_wall (take (length b - 1) b) 0
    else if last_byte b == 13 then read_counter (take (length b - 1) b)
    else None

-- keys of versions are read as they are, and end where their bytes end
pub record MvccKeysAreExact : Type 0 where
  pub found : (key : List ℕ) (t : Time) → IsTime t → read_mvcc_key (mvcc_key key t) ≡ Some (key, t)
  pub only : (b key : List ℕ) (t : Time) → AreBytes b → read_mvcc_key b ≡ Some (key, t) → IsTime t × (b ≡ mvcc_key key t)
  pub apart : (j k : List ℕ) (s t : Time) → IsTime s → IsTime t → mvcc_key j s ≡ mvcc_key k t → (j ≡ k) × (s ≡ t)

-- ---- order

abbrev pub time_cmp : Time → Time → Ordering
time_cmp s t = ordering_then (nat_cmp s.wall t.wall) (nat_cmp s.logical t.logical)

-- keys ascending, and of equal keys the newer first
abbrev pub mvcc_cmp : List ℕ → Time → List ℕ → Time → Ordering
mvcc_cmp a s b t = ordering_then (slice_cmp nat_cmp a b) (time_cmp t s)
