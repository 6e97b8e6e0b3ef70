-- Names.
use Rattle.std.specs.Prelude.{ℕ, Bool, false, ◌&&◌, ◌||◌, ◌==◌, nat_le, Option, Some, None, if◌then◌else◌, List, [], ◌∷◌, length}
use Rattle.std.specs.List.{list_all}

-- a lower-case letter or `_`
abbrev pub is_name_start : ℕ → Bool
is_name_start b = (nat_le 97 b && nat_le b 122) || b == 95

-- the same, or a digit
abbrev pub is_name_byte : ℕ → Bool
is_name_byte b = is_name_start b || (nat_le 48 b && nat_le b 57)

abbrev pub is_name_text : List ℕ → Bool
is_name_text [] = false
is_name_text (b ∷ bs) = is_name_start b && list_all is_name_byte bs

-- from 1 to 32 bytes: a lower-case letter or `_`, then those and digits
unfoldable pub is_name : List ℕ → Bool
is_name bs = nat_le (length bs) 32 && is_name_text bs

-- the bytes, if they are a name
abbrev pub name_of : List ℕ → Option (List ℕ)
name_of bs = if is_name bs then Some bs else None
