-- Fields of files: how they are spelled, and readers of them. A reader answers a value and what follows it, or how many bytes are
-- left where the first item begins that doesn't read.
use Rattle.std.specs.Prelude.{◌≡◌, ℕ, zero, suc, ◌-◌, ◌^◌, Bool, true, false, nat_lt, nat_le, nat_eq, Option, Some, None, Result, Ok, Err, List, [], ◌∷◌, ◌++◌, length, take, drop, if◌then◌else◌}
use Rattle.key_encoding.specs.Spelling.{uvarint}
use Rattle.key_encoding.specs.Reading.{read_uvarint}
use Rattle.key_encoding.specs.declared.fault.KeyFault.{KeyFault}
use Rattle.mvcc_keys.specs.Times.{Time}
use Rattle.mvcc_keys.specs.Codes.{read_time_bytes}
use Rattle.list_laws.specs.Bytes.{AreBytes}
use Rattle.table_descriptors.specs.Names.{is_name}
use Rattle.table_descriptors.specs.declared.fields.FieldFault.{FieldFault}
use Rattle.table_descriptors.specs.declared.fields.FieldFault.TheVariants.{Broken, Memory}

-- what a function returned, seen by view, is the reading, unless memory ran out
abbrev pub FaultReads : {Y : Type 0} → FieldFault → Result Y ℕ → Type 0
FaultReads Memory read = Unit {0}
FaultReads (Broken left) read = read ≡ Err left

abbrev pub Reads : {X Y : Type 0} → (X → Y) → Result X FieldFault → Result Y ℕ → Type 0
Reads view (Ok x) read = read ≡ Ok (view x)
Reads view (Err e) read = FaultReads e read

-- values of a condition, their spellings, and a reader of just these
pub record IsFormat {X : Type 0} (P : X → Type 0) (code : X → List ℕ) (read : List ℕ → Result (X × List ℕ) ℕ) : Type 0 where
  -- a spelling in front of any bytes is read as its value and those bytes
  pub found : (x : X) (r : List ℕ) → P x → read (code x ++ r) ≡ Ok (x, r)
  -- and nothing else is read
  pub only : (b : List ℕ) (x : X) (r : List ℕ) → AreBytes b → read b ≡ Ok (x, r) → P x × (b ≡ code x ++ r)

-- ---- one field after another

abbrev pub and_value : {X Y : Type 0} → X → Result (Y × List ℕ) ℕ → Result ((X × Y) × List ℕ) ℕ
and_value x (Ok q) = Ok ((x, q.0), q.1)
and_value x (Err left) = Err left

abbrev pub and_next : {X Y : Type 0} → (X → List ℕ → Result (Y × List ℕ) ℕ) → Result (X × List ℕ) ℕ → Result ((X × Y) × List ℕ) ℕ
and_next next (Ok p) = and_value p.0 (next p.0 p.1)
and_next next (Err left) = Err left

-- a field and what follows it, which may depend on it
infixr 10 ◌then◌
abbrev pub ◌then◌ : {X Y : Type 0} → (List ℕ → Result (X × List ℕ) ℕ) → (X → List ℕ → Result (Y × List ℕ) ℕ) → List ℕ → Result ((X × Y) × List ℕ) ℕ
(first then next) b = and_next next (first b)

-- the value made of what was read
abbrev pub made_of : {X Y : Type 0} → (X → Y) → Result (X × List ℕ) ℕ → Result (Y × List ℕ) ℕ
made_of make (Ok p) = Ok (make p.0, p.1)
made_of make (Err left) = Err left

-- a value that passes a test, or the place where it begins
abbrev pub tested : {X : Type 0} → (X → Bool) → ℕ → Result (X × List ℕ) ℕ → Result (X × List ℕ) ℕ
tested ok at (Ok p) = if ok p.0 then Ok p else Err at
tested ok at (Err left) = Err left

abbrev pub such : {X : Type 0} → (X → Bool) → (List ℕ → Result (X × List ℕ) ℕ) → List ℕ → Result (X × List ℕ) ℕ
such ok read b = tested ok (length b) (read b)

-- fields that are one item: it begins where the first of them does
abbrev pub begun_at : {X : Type 0} → ℕ → Result (X × List ℕ) ℕ → Result (X × List ℕ) ℕ
begun_at at (Ok p) = Ok p
begun_at at (Err left) = Err at

abbrev pub item : {X : Type 0} → (List ℕ → Result (X × List ℕ) ℕ) → List ℕ → Result (X × List ℕ) ℕ
item read b = begun_at (length b) (read b)

-- ---- lists

-- the spellings of some values, one after the other
abbrev pub codes_of : {X : Type 0} → (X → List ℕ) → List X → List ℕ
codes_of code [] = []
codes_of code (x ∷ xs) = code x ++ codes_of code xs

-- each value has a property that may depend on those before it
abbrev pub EachAfter : {X : Type 0} → (List X → X → Type 0) → List X → List X → Type 0
EachAfter P before [] = Unit {0}
EachAfter P before (x ∷ xs) = P before x × EachAfter P (before ++ x ∷ []) xs

abbrev pub read_on : {X : Type 0} → (List X → List ℕ → Result (List X × List ℕ) ℕ) → List X → Result (X × List ℕ) ℕ → Result (List X × List ℕ) ℕ
read_on others before (Ok p) = others (before ++ p.0 ∷ []) p.1
read_on others before (Err left) = Err left

-- so many values after those before them
abbrev pub read_items : {X : Type 0} → (List X → List ℕ → Result (X × List ℕ) ℕ) → ℕ → List X → List ℕ → Result (List X × List ℕ) ℕ
read_items one zero before b = Ok (before, b)
read_items one (suc n) before b = read_on (read_items one n) before (one before b)

-- ---- fields

abbrev pub or_left : {X : Type 0} → ℕ → Option X → Result X ℕ
or_left left (Some x) = Ok x
or_left left None = Err left

abbrev pub number_or : ℕ → Result (ℕ × List ℕ) KeyFault → Result (ℕ × List ℕ) ℕ
number_or left (Ok p) = Ok p
number_or left (Err e) = Err left

-- a number of 64 bits
abbrev pub read_number : List ℕ → Result (ℕ × List ℕ) ℕ
read_number b = number_or (length b) (read_uvarint b)

-- a number of 32 bits
abbrev pub is_id : ℕ → Bool
is_id n = nat_lt n (2 ^ 32)

abbrev pub read_id : List ℕ → Result (ℕ × List ℕ) ℕ
read_id = such is_id read_number

-- a number of 32 bits from 1
abbrev pub is_count : ℕ → Bool
is_count n = nat_lt 0 n

abbrev pub read_count : List ℕ → Result (ℕ × List ℕ) ℕ
read_count = such is_count read_id

-- so many bytes
abbrev pub read_exactly : ℕ → List ℕ → Result (List ℕ × List ℕ) ℕ
read_exactly n b = if nat_le n (length b) then Ok (take n b, drop n b) else Err (length b)

-- a length and so many bytes, as one field
abbrev pub read_sized : List ℕ → Result (List ℕ × List ℕ) ℕ
read_sized b = made_of (λ p. p.1) (item (read_number then read_exactly) b)

-- a name with its length
abbrev pub read_name : List ℕ → Result (List ℕ × List ℕ) ℕ
read_name = such is_name read_sized

abbrev pub read_time : List ℕ → Result (Time × List ℕ) ℕ
read_time b = or_left (length b) (read_time_bytes b)

-- a byte with a meaning
abbrev pub with_rest : {X : Type 0} → List ℕ → Option X → Option (X × List ℕ)
with_rest rest (Some x) = Some (x, rest)
with_rest rest None = None

abbrev pub read_byte : {X : Type 0} → (ℕ → Option X) → List ℕ → Result (X × List ℕ) ℕ
read_byte means [] = Err 0
read_byte means (x ∷ rest) = or_left (suc (length rest)) (with_rest rest (means x))

-- 00 is false, and 01 is true
abbrev pub flag_of : ℕ → Option Bool
flag_of x = if nat_eq x 0 then Some false else if nat_eq x 1 then Some true else None

abbrev pub flag_code : Bool → ℕ
flag_code b = if b then 1 else 0

-- ---- a count and values

abbrev pub list_code : {X : Type 0} → (X → List ℕ) → List X → List ℕ
list_code code xs = uvarint (length xs) ++ codes_of code xs

-- a count that passes a test, and so many values
abbrev pub read_list : {X : Type 0} → (ℕ → Bool) → (ℕ → List X → List ℕ → Result (X × List ℕ) ℕ) → List ℕ → Result (List X × List ℕ) ℕ
read_list ok one b = made_of (λ p. p.1) ((such ok read_number then (λ n. read_items (one n) n [])) b)

-- ---- whole inputs

-- nothing follows; a place is counted from the front of the input
abbrev pub whole : {X : Type 0} → ℕ → Result (X × List ℕ) ℕ → Result X ℕ
whole len (Ok p) = if nat_eq (length p.1) 0 then Ok p.0 else Err (len - length p.1)
whole len (Err left) = Err (len - left)
