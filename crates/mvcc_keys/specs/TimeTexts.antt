-- The text of a time: the wall in decimal without leading zeros, a point, and ten digits.
use Rattle.std.specs.Prelude.{◌≡◌, ℕ, ◌+◌, ◌-◌, ◌*◌, ◌^◌, Bool, true, false, not, ◌&&◌, ◌==◌, nat_lt, nat_le, Option, Some, None, if◌then◌else◌, List, [], ◌∷◌, ◌++◌, length, take, drop, replicate}
use Rattle.std.specs.List.{list_all}
use Rattle.std.specs.Fmt.{decimal}
use Rattle.mvcc_keys.specs.Times.{Time, time, IsTime}

-- a number in ten digits, with zeros in front
abbrev pub ten_digits : ℕ → List ℕ
ten_digits n = replicate (10 - length (decimal n)) 48 ++ decimal n

unfoldable pub time_text : Time → List ℕ
time_text t = decimal t.wall ++ 46 ∷ ten_digits t.logical

-- ---- reading

abbrev pub is_digit : ℕ → Bool
is_digit b = nat_le 48 b && nat_le b 57

-- digits alone
abbrev pub are_digits : List ℕ → Bool
are_digits ds = list_all is_digit ds

-- the value of digits that follow those of n
abbrev pub digits_after : ℕ → List ℕ → ℕ
digits_after n [] = n
digits_after n (d ∷ ds) = digits_after (10 * n + (d - 48)) ds

-- the number that digits write, if it has at most 64 bits
unfoldable pub read_digits : List ℕ → Option ℕ
read_digits ds = if are_digits ds && nat_lt (digits_after 0 ds) (2 ^ 64) then Some (digits_after 0 ds) else None

-- some digits, and no zero in front of others
abbrev pub is_least : List ℕ → Bool
is_least [] = false
is_least (d ∷ []) = true
is_least (d ∷ e ∷ ds) = not (d == 48)

abbrev pub is_point : List ℕ → Bool
is_point [] = false
is_point (b ∷ bs) = b == 46

-- the time of a wall and a counter that were read, if the counter is in its range
abbrev pub time_of : Option ℕ → Option ℕ → Option Time
time_of (Some wall) (Some logical) = if nat_le logical 2147483647 then Some (time wall logical) else None
time_of (Some wall) None = None
time_of None logical = None

-- the time whose wall stands before the last eleven bytes, a point and ten digits
unfoldable pub read_time : List ℕ → Option Time
read_time text =
    if nat_lt (length text) 11 then None
    else (if is_least (take (length text - 11) text) && is_point (drop (length text - 11) text)
    then time_of (read_digits (take (length text - 11) text)) (read_digits (drop 1 (drop (length text - 11) text)))
    else None)

-- what is read of a text is the one time whose text it is
pub record TimesAreExact : Type 0 where
  pub found : (t : Time) → IsTime t → read_time (time_text t) ≡ Some t
  pub only : (text : List ℕ) (t : Time) → read_time text ≡ Some t → IsTime t × (text ≡ time_text t)
