-- How values are spelled.
use Rattle.std.specs.Prelude.{ℕ, suc, ℤ, pos, negsuc, ◌+◌, ◌-◌, ◌^◌, nat_lt, nat_eq, Bool, true, List, [], ◌∷◌, ◌++◌, map, if◌then◌else◌}
use Rattle.std.specs.Int.{bytes_high_first}

-- the least number of bytes that a number below 2 ^ 64 takes, from 1
abbrev pub byte_count : ℕ → ℕ
byte_count v =
    if nat_lt v (2 ^ 8) then 1
    else if nat_lt v (2 ^ 16) then 2
    else if nat_lt v (2 ^ 24) then 3
    else if nat_lt v (2 ^ 32) then 4
    else if nat_lt v (2 ^ 40) then 5
    else if nat_lt v (2 ^ 48) then 6
    else if nat_lt v (2 ^ 56) then 7
    else 8

-- a number: below 110 in one byte, else its count of bytes and the bytes
unfoldable pub uvarint : ℕ → List ℕ
uvarint v = if nat_lt v 110 then (136 + v) ∷ [] else (245 + byte_count v) ∷ bytes_high_first (byte_count v) v

-- the number -1 - k: as many low bytes of two's complement as 1 + k takes
unfoldable pub negative : ℕ → List ℕ
negative k = (136 - byte_count (suc k)) ∷ bytes_high_first (byte_count (suc k)) (2 ^ 64 - suc k)

-- a signed number
abbrev pub varint : ℤ → List ℕ
varint (pos v) = uvarint v
varint (negsuc k) = negative k

-- the bitwise complement
abbrev pub complement : ℤ → ℤ
complement (pos v) = negsuc v
complement (negsuc k) = pos k

-- a signed number of the order turned round
abbrev pub varint_down : ℤ → List ℕ
varint_down z = varint (complement z)

-- a byte: 00 is followed by ff
abbrev pub escape : ℕ → List ℕ
escape x = if nat_eq x 0 then 0 ∷ 255 ∷ [] else x ∷ []

-- each byte, and then the end 00 01
abbrev pub escaped : List ℕ → List ℕ
escaped [] = 0 ∷ 1 ∷ []
escaped (x ∷ xs) = escape x ++ escaped xs

-- a byte, or its complement
abbrev pub turned : Bool → ℕ → ℕ
turned down x = if down then 255 - x else x

-- some bytes
unfoldable pub bytes_code : List ℕ → List ℕ
bytes_code xs = 18 ∷ escaped xs

-- some bytes of the order turned round: another marker, and the complement of each byte after it
unfoldable pub bytes_down_code : List ℕ → List ℕ
bytes_down_code xs = 19 ∷ map (turned true) (escaped xs)
