-- What is written of values and of rows, as a script would say it.
use Rattle.std.specs.Prelude.{◌≡◌, ℕ, Some, List, [], ◌∷◌, ◌++◌}
use Rattle.std.specs.List.{AllByRecursion}
use Rattle.row_codec.specs.declared.rows.Datum.{Datum}
use Rattle.row_codec.specs.RowKeys.{IsValue}
use Rattle.script_tokens.specs.declared.token.Token.{Token}
use Rattle.script_tokens.specs.Tokens.{pieces, piece, tokens}
use Rattle.script_grammar.specs.Parts.{datum_of, row}
use Rattle.reply_texts.specs.Texts.{datum_text, row_text}

-- A value's text is one token, which says the value. The line of a row of some values is, before its end, a row of them.
pub record ValuesReadBack : Type 0 where
  pub a_value : (x : Datum) → IsValue x → (t : Token) × (pieces (datum_text x) ≡ piece t 1 ∷ []) × (datum_of t ≡ Some x)
  pub a_row : (x : Datum) (xs : List Datum) → AllByRecursion IsValue (x ∷ xs)
      → (line : List ℕ) × (row_text (x ∷ xs) ≡ line ++ 10 ∷ []) × row.Spells (tokens line) (x ∷ xs) []
