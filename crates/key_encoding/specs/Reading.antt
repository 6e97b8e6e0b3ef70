-- What the readers answer: the value and what follows its spelling, or the first fault.
use Rattle.std.specs.Prelude.{◌≡◌, ℕ, ℤ, pos, negsuc, suc, ◌+◌, ◌*◌, ◌-◌, ◌^◌, nat_lt, nat_le, nat_eq, ◌||◌, ◌&&◌, not, Bool, true, false, List, [], ◌∷◌, length, take, drop, Option, Some, None, Result, Ok, Err, if◌then◌else◌, ◌⊎◌}
use Rattle.std.specs.Borrow.{Bor}
use Rattle.std.specs.Global.{Vec}
use Rattle.key_encoding.specs.Spelling.{byte_count, turned}
use Rattle.key_encoding.specs.declared.fault.KeyFault.{KeyFault}
use Rattle.key_encoding.specs.declared.fault.KeyKind.{KeyKind}
use Rattle.key_encoding.specs.declared.fault.KeyKind.TheVariants.{Short, Marker, NotLeast, Escape, Memory}

-- the fault of a kind at an offset
abbrev pub fault_at : KeyKind → ℕ → KeyFault
fault_at k at = record { kind = k; offset = at }

abbrev pub refused : {X : Type 0} → KeyKind → ℕ → Result X KeyFault
refused k at = Err (fault_at k at)

-- the number that some bytes spell, the highest first
abbrev pub number_of : List ℕ → ℕ
number_of [] = 0
number_of (x ∷ xs) = x * 256 ^ length xs + number_of xs

-- the number of n digits in front of some bytes, of an input of len bytes
abbrev pub read_digits : ℕ → ℕ → List ℕ → Result (ℕ × List ℕ) KeyFault
read_digits n len rest =
    if nat_lt (length rest) n then refused Short len
    else if nat_lt (number_of (take n rest)) 110 || not (nat_eq (byte_count (number_of (take n rest))) n) then refused NotLeast 0
    else Ok (number_of (take n rest), drop n rest)

-- a number
abbrev pub read_uvarint : List ℕ → Result (ℕ × List ℕ) KeyFault
read_uvarint [] = refused Short 0
read_uvarint (x ∷ rest) =
    if nat_lt x 136 || nat_lt 253 x then refused Marker 0
    else if nat_le x 245 then Ok (x - 136, rest)
    else read_digits (x - 245) (length (x ∷ rest)) rest

-- the k of -1 - k in n digits, of an input of len bytes: -1 - k + 256 ^ n is the digits' number
abbrev pub read_negative : ℕ → ℕ → List ℕ → Result (ℕ × List ℕ) KeyFault
read_negative n len rest =
    if nat_lt (length rest) n then refused Short len
    else if nat_le (2 ^ 63) (256 ^ n - 1 - number_of (take n rest)) || not (nat_eq (byte_count (256 ^ n - 1 - number_of (take n rest) + 1)) n) then refused NotLeast 0
    else Ok (256 ^ n - 1 - number_of (take n rest), drop n rest)

abbrev pub on_value : {X Y : Type 0} → (X → Y) → Result (X × List ℕ) KeyFault → Result (Y × List ℕ) KeyFault
on_value f (Ok p) = Ok (f p.0, p.1)
on_value f (Err e) = Err e

-- a number that isn't negative is below 2 ^ 63
abbrev pub below_sign : Result (ℕ × List ℕ) KeyFault → Result ((Bool × ℕ) × List ℕ) KeyFault
below_sign (Ok p) = if nat_lt p.0 (2 ^ 63) then Ok ((false, p.0), p.1) else refused NotLeast 0
below_sign (Err e) = Err e

-- a number, and whether its complement was spelled
abbrev pub read_signed : List ℕ → Result ((Bool × ℕ) × List ℕ) KeyFault
read_signed [] = refused Short 0
read_signed (x ∷ rest) =
    if nat_le 128 x && nat_lt x 136 then on_value (λ k. (true, k)) (read_negative (136 - x) (length (x ∷ rest)) rest)
    else below_sign (read_uvarint (x ∷ rest))

-- the number, or its complement
abbrev pub signed : Bool → ℕ → ℤ
signed negative k = if negative then negsuc k else pos k

-- a signed number
abbrev pub read_varint : List ℕ → Result (ℤ × List ℕ) KeyFault
read_varint b = on_value (λ p. signed p.0 p.1) (read_signed b)

-- a signed number of the order turned round
abbrev pub read_varint_down : List ℕ → Result (ℤ × List ℕ) KeyFault
read_varint_down b = on_value (λ p. signed (not p.0) p.1) (read_signed b)

-- escaped bytes and their end, from the left: whether each byte is turned, the length of the whole input, and whether a 00 stands before
abbrev pub unescaped : Bool → ℕ → Bool → List ℕ → Result (List ℕ × List ℕ) KeyFault
unescaped down len zero [] = refused Short len
unescaped down len zero (x ∷ rest) =
    if not zero then (if nat_eq (turned down x) 0 then unescaped down len true rest else on_value (λ v. turned down x ∷ v) (unescaped down len false rest))
    else if nat_eq (turned down x) 255 then on_value (λ v. 0 ∷ v) (unescaped down len false rest)
    else if nat_eq (turned down x) 1 then Ok ([], rest)
    else refused Escape (len - suc (length rest))

-- the next byte of escaped ones, or none at their end, and what follows
abbrev pub after_zero : Bool → ℕ → List ℕ → Result (Option ℕ × List ℕ) KeyFault
after_zero down len [] = refused Short len
after_zero down len (y ∷ rest) =
    if nat_eq (turned down y) 255 then Ok (Some 0, rest)
    else if nat_eq (turned down y) 1 then Ok (None, rest)
    else refused Escape (len - suc (length rest))

abbrev pub read_next : Bool → ℕ → List ℕ → Result (Option ℕ × List ℕ) KeyFault
read_next down len [] = refused Short len
read_next down len (x ∷ rest) = if nat_eq (turned down x) 0 then after_zero down len rest else Ok (Some (turned down x), rest)

-- some bytes after their marker
abbrev pub read_marked : Bool → ℕ → List ℕ → Result (List ℕ × List ℕ) KeyFault
read_marked down marker [] = refused Short 0
read_marked down marker (x ∷ rest) = if nat_eq x marker then unescaped down (suc (length rest)) false rest else refused Marker 0

abbrev pub read_bytes : List ℕ → Result (List ℕ × List ℕ) KeyFault
read_bytes b = read_marked false 18 b

abbrev pub read_bytes_down : List ℕ → Result (List ℕ × List ℕ) KeyFault
read_bytes_down b = read_marked true 19 b

-- a reader's answer, by the values of what it hands out
abbrev pub result_now : {A E : Type 0} → Result (A × Bor (List ℕ)) E → Result (A × List ℕ) E
result_now (Ok p) = Ok (p.0, p.1.now)
result_now (Err e) = Err e

-- want of memory
abbrev pub no_memory : KeyFault
no_memory = record { kind = Memory; offset = 0 }

-- the answer of a reader that hands out bytes of its own is the reading, unless memory was wanting
abbrev pub Answers : Result (Vec ℕ × Bor (List ℕ)) KeyFault → Result (List ℕ × List ℕ) KeyFault → Type 0
Answers (Ok p) read = read ≡ Ok (p.0.items, p.1.now)
Answers (Err e) read = (read ≡ Err e) ⊎ (e ≡ no_memory)
