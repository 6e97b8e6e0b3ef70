-- What is left of a key after fields that are only tested.
use Rattle.std.specs.Prelude.{◌≡◌, ℕ, ◌<◌, ◌≤◌, Option, Some, None, Result, Ok, Err, true, false, ◌&&◌, List, [], ◌∷◌, ◌++◌, take, nat_eq, Bool, if◌then◌else◌}
use Rattle.std.specs.Str.{is_utf8}
use Rattle.key_encoding.specs.declared.fault.KeyFault.{KeyFault}
use Rattle.row_codec.specs.declared.checks.Held.{Held}
use Rattle.row_codec.specs.KeyReading.{read_byte, read_values}
use Rattle.row_codec.specs.declared.rows.Datum.{Datum}
use Rattle.row_codec.specs.declared.rows.Kind.{Kind}

-- what follows bytes
abbrev pub left_after : Result (List ℕ × List ℕ) KeyFault → Option (List ℕ)
left_after (Ok p) = Some p.1
left_after (Err e) = None

-- what follows bytes that are a text together with those before them
abbrev pub text_after : List ℕ → Result (List ℕ × List ℕ) KeyFault → Option (List ℕ)
text_after held (Ok p) = if is_utf8 (held ++ p.0) then Some p.1 else None
text_after held (Err e) = None

abbrev pub rest_of : Option (Datum × List ℕ) → Option (List ℕ)
rest_of (Some p) = Some p.1
rest_of None = None

abbrev pub values_left : Result (List Datum × List ℕ) ℕ → Option (List ℕ)
values_left (Ok p) = Some p.1
values_left (Err o) = None

-- a byte and nothing more
abbrev pub is_last : Option (List ℕ) → Bool
is_last (Some []) = true
is_last (Some (x ∷ rest)) = false
is_last None = false

abbrev pub then_byte : ℕ → Option (List ℕ) → Option (List ℕ)
then_byte x (Some b) = read_byte x b
then_byte x None = None

-- values of these kinds, 88 for the column family, and nothing more
unfoldable pub are_values : List Kind → ℕ → List ℕ → Bool
are_values kinds len b = is_last (then_byte 136 (values_left (read_values kinds len b)))

abbrev pub index_tests : List Kind → ℕ → Option (List ℕ) → Bool
index_tests kinds len (Some b) = are_values kinds len b
index_tests kinds len None = false

-- the table's id, 89 for the index, and the values
abbrev pub key_tests : ℕ → List Kind → ℕ → Option (ℕ × List ℕ) → Bool
key_tests table kinds len (Some p) = index_tests kinds len (read_byte 137 p.1) && nat_eq p.0 table
key_tests table kinds len None = false

-- the bytes that are held
abbrev pub held_bytes : Held → List ℕ
held_bytes h = take h.count h.bytes

-- fewer bytes than the longest character, and no text in front of them
pub record IsPart (h : Held) : Type 0 where
  pub few : h.count < 4
  pub none : (m : ℕ) → 0 < m → m ≤ h.count → is_utf8 (take m h.bytes) ≡ false
