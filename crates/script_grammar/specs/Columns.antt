-- Where tokens that spell nothing break off. Nothing here reads from the left.
use Rattle.std.specs.Prelude.{◌≡◌, ℕ, List, [], ◌∷◌, ◌++◌, length}
use Rattle.script_tokens.specs.declared.token.Token.{Token}
use Rattle.script_grammar.specs.Grammar.{Form, Progress, Read, Fault}

-- the token lists that a form has, with what each says
abbrev pub Lists : {A : Type 0} → Form A → List Token → A → Type 0
Lists form ts a = form.Spells ts a []

-- some list of the form begins with these tokens
abbrev pub Begins : {A : Type 0} → (List Token → A → Type 0) → List Token → Type 0
Begins {A = A} L ts = (more : List Token) × (a : A) × L (ts ++ more) a

-- Nothing begins with the tokens up to and including the next. Where no token is next, the tokens are not whole.
abbrev pub Stops : {A : Type 0} → (List Token → A → Type 0) → List Token → List Token → Type 0
Stops {A = A} L before [] = (a : A) → L before a → ⊥
Stops L before (t ∷ after) = Begins L (before ++ t ∷ []) → ⊥

-- The first token such that no list begins with the tokens up to and including it is the one with `left` tokens
-- from it on. With 0 the line ends too early.
pub record Breaks {A : Type 0} (L : List Token → A → Type 0) (ts : List Token) (left : ℕ) : Type 0 where
  pub before : List Token
  pub after : List Token
  pub split : ts ≡ before ++ after
  pub left_is : length after ≡ left
  pub begins : Begins L before
  pub stops : Stops L before after

-- what was read of tokens is what they say: the one value that they spell, or where they break off
abbrev pub Explains : {A : Type 0} → (List Token → A → Type 0) → List Token → Progress A → Type 0
Explains {A = A} L ts (Read a rest) = (rest ≡ []) × L ts a × ((b : A) → L ts b → b ≡ a)
Explains L ts (Fault left) = Breaks L ts left

-- whatever the tokens are, what is read of them is what they say
abbrev pub IsExact : {A : Type 0} → Form A → Type 0
IsExact form = (ts : List Token) → Explains (Lists form) ts (form.read ts)
