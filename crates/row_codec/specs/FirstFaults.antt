-- Which place is the first fault of bytes that aren't of a grammar, by what is spelled before it.
use Rattle.std.specs.Prelude.{◌≡◌, ◌↔◌, ℕ, ◌<◌, ◌^◌, true, Result, Err, List, [], ◌∷◌, ◌++◌, fold, length, ◌⊎◌}
use Rattle.list_laws.specs.Bytes.{AreBytes}
use Rattle.key_encoding.specs.Spelling.{uvarint}
use Rattle.row_codec.specs.KeyReading.{read_row_key}
use Rattle.row_codec.specs.RowKeys.{IsValue, datum_code, is_of_kind}
use Rattle.row_codec.specs.RowOrder.{is_down, rank}
use Rattle.row_codec.specs.RowValues.{IsCell, cell_code, read_row_value}
use Rattle.row_codec.specs.declared.rows.Cell.{Cell}
use Rattle.row_codec.specs.declared.rows.Datum.{Datum}
use Rattle.row_codec.specs.declared.rows.Kind.{Kind}

-- The items of a format in their order, each with its condition and its spelling. What follows an item may depend on it.
--   Over: nothing more
--   Item: one item, and what follows it
--   UpToEnd: any number of items up to the end of the bytes, each under a condition on what is known of those before it
pub data Grammar : Type 1 where
  Over : Grammar
  Item : {X : Type 0} → (X → Type 0) → (X → List ℕ) → (X → Grammar) → Grammar
  UpToEnd : {S X : Type 0} → (S → X → Type 0) → (X → List ℕ) → (S → X → S) → S → Grammar

-- no item of a condition is spelled in front of these bytes
abbrev pub HasNone : {X : Type 0} → (X → Type 0) → (X → List ℕ) → List ℕ → Type 0
HasNone {X} P code b = (x : X) (r : List ℕ) → P x → b ≡ code x ++ r → ⊥

-- the spellings of some items, one after the other
abbrev pub spellings : {X : Type 0} → (X → List ℕ) → List X → List ℕ
spellings code [] = []
spellings code (x ∷ xs) = code x ++ spellings code xs

-- each item keeps its condition
abbrev pub EachFrom : {S X : Type 0} → (S → X → Type 0) → (S → X → S) → S → List X → Type 0
EachFrom P after s [] = Unit {0}
EachFrom P after s (x ∷ xs) = P s x × EachFrom P after (after s x) xs

-- Bytes are cut in two: the front is the spelling of the first items, and the next item isn't spelled in front of the rest, or
-- bytes are left where nothing more may follow.
abbrev pub IsCut : Grammar → List ℕ → List ℕ → Type 0
IsCut Over front rest = (front ≡ []) × (0 < length rest)
IsCut (Item {X} P code next) front rest =
    ((front ≡ []) × HasNone P code rest) ⊎ ((x : X) × (more : List ℕ) × P x × (front ≡ code x ++ more) × IsCut (next x) more rest)
IsCut (UpToEnd {S} {X} P code after s) front rest =
    (xs : List X) × EachFrom P after s xs × (front ≡ spellings code xs) × (0 < length rest) × HasNone (P (fold after s xs)) code rest

-- the place where the first item begins that isn't spelled there, or breaks a condition with those before it, or of the first byte left over
pub record IsFirstFault (g : Grammar) (b : List ℕ) (at : ℕ) : Type 0 where
  pub front : List ℕ
  pub rest : List ℕ
  pub bytes : b ≡ front ++ rest
  pub cut : IsCut g front rest
  pub place : at ≡ length front

-- a reader refuses just the bytes that have a first fault, at its place
abbrev pub FaultsAreFirst : {X : Type 0} → Grammar → (List ℕ → Result X ℕ) → Type 0
FaultsAreFirst g read = (b : List ℕ) (at : ℕ) → AreBytes b → (read b ≡ Err at) ↔ IsFirstFault g b at

-- ---- row keys

-- these bytes, and what follows
abbrev pub mark : List ℕ → Grammar → Grammar
mark bytes next = Item (λ (x : Unit {0}). Unit {0}) (λ x. bytes) (λ x. next)

-- a value of each kind
abbrev pub values : List Kind → Grammar → Grammar
values [] next = next
values (kind ∷ kinds) next = Item (λ (x : Datum). (is_of_kind kind x ≡ true) × IsValue x) (datum_code (is_down kind)) (λ x. values kinds next)

-- the table's id, 89 for the index, a value for each key column, 88 for the column family
abbrev pub key_grammar : List Kind → Grammar
key_grammar kinds = Item (λ (table : ℕ). table < 2 ^ 32) uvarint (λ table. mark (137 ∷ []) (values kinds (mark (136 ∷ []) Over)))

-- a row key is refused where its first fault is
abbrev pub KeyFaultsAreFirst : Type 0
KeyFaultsAreFirst = (kinds : List Kind) → FaultsAreFirst (key_grammar kinds) (read_row_key kinds)

-- ---- row values

-- cells of ascending columns from 1, without NULL
abbrev pub value_grammar : Grammar
value_grammar = UpToEnd (λ (last : ℕ) (c : Cell). (last < c.column) × (0 < rank c.datum) × IsCell c) cell_code (λ last c. c.column) 0

-- a row value is refused where its first fault is
abbrev pub ValueFaultsAreFirst : Type 0
ValueFaultsAreFirst = FaultsAreFirst value_grammar read_row_value
