-- Forms of lines: which tokens spell a value, and how they are read from the left.
use Rattle.std.specs.Prelude.{◌≡◌, ℕ, zero, suc, Bool, true, false, List, [], ◌∷◌, ◌++◌, length, Option, Some, None, ◌⊎◌, if◌then◌else◌, ◌==◌, is_some, min, Result, Ok, Err}
use Rattle.std.specs.Str.{bytes_eq}
use Rattle.script_tokens.specs.declared.token.Token.{Token}
use Rattle.script_tokens.specs.declared.token.Token.TheVariants.{Word, Number, Text, Bytes, Mark, Bad}
use Rattle.script_grammar.specs.declared.broken.Broken.{Broken}
use Rattle.script_grammar.specs.declared.broken.Broken.TheVariants.{At, Memory}

-- A value and the tokens after it, or so many tokens that are left at a fault.
pub data Progress (A : Type 0) : Type 0 where
  Read : A → List Token → Progress A
  Fault : ℕ → Progress A

-- `Spells ts a rest`: the tokens ts are a spelling of a, and then rest.
pub record Form (A : Type 0) : Type 1 where
  pub Spells : List Token → A → List Token → Type 0
  pub read : List Token → Progress A

-- ---- nothing, one token, one form after another

abbrev pub give : {A : Type 0} → A → Form A
give a = record { Spells = λ ts b rest. (b ≡ a) × (ts ≡ rest); read = λ ts. Read a ts }

abbrev pub and_read : {A B : Type 0} → Progress A → (A → List Token → Progress B) → Progress B
and_read (Read a rest) go = go a rest
and_read (Fault left) go = Fault left

infixl 10 ◌>>=◌
abbrev pub ◌>>=◌ : {A B : Type 0} → Form A → (A → Form B) → Form B
f >>= g = record {
  Spells = λ ts b rest. (a : _) × (middle : List Token) × f.Spells ts a middle × (g a).Spells middle b rest;
  read = λ ts. and_read (f.read ts) (λ a rest. (g a).read rest);
}

infixl 10 ◌>>◌
abbrev pub ◌>>◌ : {A B : Type 0} → Form A → Form B → Form B
f >> g = f >>= (λ _. g)

abbrev pub SpellsOne : {A : Type 0} → (Token → Option A) → List Token → A → List Token → Type 0
SpellsOne means [] a rest = ⊥
SpellsOne means (t ∷ ts) a rest = (means t ≡ Some a) × (ts ≡ rest)

abbrev pub token_or_fault : {A : Type 0} → ℕ → Option A → List Token → Progress A
token_or_fault left None ts = Fault left
token_or_fault left (Some a) ts = Read a ts

abbrev pub read_one : {A : Type 0} → (Token → Option A) → List Token → Progress A
read_one means [] = Fault 0
read_one means (t ∷ ts) = token_or_fault (length (t ∷ ts)) (means t) ts

-- one token of those that mean something
abbrev pub one : {A : Type 0} → (Token → Option A) → Form A
one means = record { Spells = SpellsOne means; read = read_one means }

-- ---- words and marks

abbrev pub is_word : List ℕ → Token → Bool
is_word w (Word v) = bytes_eq v w
is_word w (Number n) = false
is_word w (Text s) = false
is_word w (Bytes s) = false
is_word w (Mark b) = false
is_word w Bad = false

abbrev pub is_mark : ℕ → Token → Bool
is_mark m (Word v) = false
is_mark m (Number n) = false
is_mark m (Text s) = false
is_mark m (Bytes s) = false
is_mark m (Mark b) = b == m
is_mark m Bad = false

abbrev pub fits : (Token → Bool) → Token → Option (Unit {0})
fits test t = if test t then Some tt else None

abbrev pub word : List ℕ → Form (Unit {0})
word w = one (fits (is_word w))

abbrev pub mark : ℕ → Form (Unit {0})
mark m = one (fits (is_mark m))

-- ---- any number of times, and one of two

abbrev pub Repeats : {A : Type 0} → (List Token → A → List Token → Type 0) → List Token → List A → List Token → Type 0
Repeats F ts [] rest = ts ≡ rest
Repeats F ts (a ∷ others) rest = (middle : List Token) × F ts a middle × Repeats F middle others rest

abbrev pub begins_with : (Token → Bool) → List Token → Bool
begins_with starts [] = false
begins_with starts (t ∷ ts) = starts t

abbrev pub read_within : {A : Type 0} → ℕ → (Token → Bool) → (List Token → Progress A) → List Token → Progress (List A)
read_within zero starts item ts = Read [] ts
read_within (suc n) starts item ts =
    if begins_with starts ts
    then and_read (item ts) (λ a rest. and_read (read_within n starts item rest) (λ others end. Read (a ∷ others) end))
    else Read [] ts

-- `{f}`, where f begins with a token that starts it, and what follows does not
abbrev pub many : {A : Type 0} → (Token → Bool) → Form A → Form (List A)
many starts f = record { Spells = Repeats f.Spells; read = λ ts. read_within (length ts) starts f.read ts }

-- `f {, f}`
abbrev pub list_of : {A : Type 0} → Form A → Form (List A)
list_of f = do
  x ← f
  xs ← many (is_mark 44) (mark 44 >> f)
  give (x ∷ xs)

-- how a list with commas is read, from how its items are
abbrev pub read_next : {A : Type 0} → (List Token → Progress A) → List Token → Progress A
read_next item ts = and_read ((mark 44).read ts) (λ _ rest. item rest)

abbrev pub read_list : {A : Type 0} → (List Token → Progress A) → List Token → Progress (List A)
read_list item ts = and_read (item ts) (λ x rest. and_read (read_within (length rest) (is_mark 44) (read_next item) rest) (λ xs end. Read (x ∷ xs) end))

-- `f | g`, where f begins with a token that starts it, and g does not
abbrev pub either : {A : Type 0} → (Token → Bool) → Form A → Form A → Form A
either starts f g = record {
  Spells = λ ts a rest. f.Spells ts a rest ⊎ g.Spells ts a rest;
  read = λ ts. if begins_with starts ts then f.read ts else g.read ts;
}

-- `[token of a class]`
abbrev pub maybe_one : {A : Type 0} → (Token → Option A) → A → Form A
maybe_one means otherwise = either (λ t. is_some (means t)) (one means) (give otherwise)

-- ---- forms of a line

-- a command ends with its line, or with a semicolon before it
abbrev pub EndsLine : List Token → Type 0
EndsLine [] = Unit {0}
EndsLine (t ∷ []) = is_mark 59 t ≡ true
EndsLine (t ∷ u ∷ ts) = ⊥

abbrev pub read_ending : {A : Type 0} → A → List Token → Progress A
read_ending a [] = Read a []
read_ending a (t ∷ ts) = if is_mark 59 t then (if begins_with (λ _. true) ts then Fault (length ts) else Read a []) else Fault (length (t ∷ ts))

abbrev pub ending : {A : Type 0} → A → Form A
ending a = record { Spells = λ ts b rest. (b ≡ a) × (rest ≡ []) × EndsLine ts; read = read_ending a }

abbrev pub read_making : {A B : Type 0} → Progress A → (A → B) → Progress B
read_making p make = and_read p (λ a rest. Read (make a) rest)

-- what is made of what f says
infixl 7 ◌making◌
abbrev pub ◌making◌ : {A B : Type 0} → Form A → (A → B) → Form B
f making make = record {
  Spells = λ ts b rest. (a : _) × f.Spells ts a rest × (b ≡ make a);
  read = λ ts. read_making (f.read ts) make;
}

abbrev pub farthest : {A : Type 0} → Progress A → Progress A → Progress A
farthest (Read a rest) other = Read a rest
farthest (Fault left) (Read a rest) = Read a rest
farthest (Fault left) (Fault less) = Fault (min left less)

-- one of two forms of a line; of two faults the farther one
infixl 5 ◌or◌
abbrev pub ◌or◌ : {A : Type 0} → Form A → Form A → Form A
f or g = record {
  Spells = λ ts a rest. f.Spells ts a rest ⊎ g.Spells ts a rest;
  read = λ ts. farthest (f.read ts) (g.read ts);
}

-- ---- what a function of the code answered

abbrev pub Fails : {A : Type 0} → Broken → Progress A → Type 0
Fails (At left) read = read ≡ Fault left
Fails Memory read = Unit {0}

abbrev pub Gives : {X A : Type 0} → (X → A) → (X → List Token) → Result X Broken → Progress A → Type 0
Gives value rest (Ok x) read = read ≡ Read (value x) (rest x)
Gives value rest (Err e) read = Fails e read

-- what was read before, and then more
abbrev pub with_front : {A : Type 0} → List A → Progress (List A) → Progress (List A)
with_front before (Read others rest) = Read (before ++ others) rest
with_front before (Fault left) = Fault left
