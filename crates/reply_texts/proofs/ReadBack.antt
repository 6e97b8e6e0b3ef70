-- What is written of values and rows is read back.
use Rattle.std.proofs.Common.{◌≡◌, ℕ, suc, ◌+◌, List, [], ◌∷◌, ◌++◌, length, map, Some, codes, refl, sym, ap, ◌∙◌, append_assoc}
use Rattle.std.specs.List.{AllByRecursion}
use Rattle.std.proofs.lemmas.List.{append-nil}
use Rattle.row_codec.specs.declared.rows.Datum.{Datum}
use Rattle.row_codec.specs.RowKeys.{IsValue}
use Rattle.script_tokens.specs.declared.token.Token.{Token}
use Rattle.script_tokens.specs.declared.token.Token.TheVariants.{Mark}
use Rattle.script_tokens.specs.Tokens.{Piece, piece, pieces, pieces_after, tokens}
use Rattle.script_tokens.specs.Spellings.{AsMark}
use Rattle.script_grammar.specs.Grammar.{◌>>◌, one, mark, Repeats}
use Rattle.script_grammar.specs.Parts.{datum_of, row}
use Rattle.script_tokens.proofs.Pieces.{mark_ends}
use Rattle.script_tokens.proofs.Parting.{piece_spelled, blank_skipped, nothing_left}
use Rattle.reply_texts.specs.Texts.{datum_text, more_text, values_text, row_text}
use Rattle.reply_texts.specs.ReadBack.{ValuesReadBack}
use Rattle.reply_texts.proofs.Written.{Closes, IsWritten, written}

value_back : (x : Datum) → IsValue x → (t : Token) × (pieces (datum_text x) ≡ piece t 1 ∷ []) × (datum_of t ≡ Some x)
value_back x h =
    let w = written x h in
    let all = piece_spelled 1 (datum_text x) [] w.token w.spells w.good (w.solid []) (w.ends [] tt) in
    let whole : pieces_after 0 1 (datum_text x) ≡ pieces_after 0 1 (datum_text x ++ []) = ap (λ (ys : List ℕ). pieces_after 0 1 ys) (sym (append-nil (datum_text x))) in
    (w.token, whole ∙ (all ∙ ap (λ (ps : List Piece). piece w.token 1 ∷ ps) (nothing_left (1 + length (datum_text x)))), w.means)

-- the tokens of bytes that begin at a place
abbrev tokens_at : ℕ → List ℕ → List Token
tokens_at at bs = map (λ p. p.token) (pieces_after 0 at bs)

open_next : (at : ℕ) (rest : List ℕ) → tokens_at at (40 ∷ rest) ≡ Mark 40 ∷ tokens_at (at + 1) rest
open_next at rest = ap (λ (ps : List Piece). map (λ p. p.token) ps) (piece_spelled at (40 ∷ []) rest (Mark 40) (AsMark 40 refl refl refl) refl refl (mark_ends 40 rest refl))

comma_next : (at : ℕ) (rest : List ℕ) → tokens_at at (44 ∷ 32 ∷ rest) ≡ Mark 44 ∷ tokens_at (suc (at + 1)) rest
comma_next at rest =
    ap (λ (ps : List Piece). map (λ p. p.token) ps) (piece_spelled at (44 ∷ []) (32 ∷ rest) (Mark 44) (AsMark 44 refl refl refl) refl refl (mark_ends 44 (32 ∷ rest) refl))
    ∙ ap (λ (ps : List Piece). Mark 44 ∷ map (λ p. p.token) ps) (blank_skipped (at + 1) 32 rest refl)

close_next : (at : ℕ) → tokens_at at (41 ∷ []) ≡ Mark 41 ∷ []
close_next at =
    ap (λ (ps : List Piece). map (λ p. p.token) ps) (piece_spelled at (41 ∷ []) [] (Mark 41) (AsMark 41 refl refl refl) refl refl (mark_ends 41 [] refl))
    ∙ ap (λ (ps : List Piece). Mark 41 ∷ map (λ p. p.token) ps) (nothing_left (at + 1))

value_next : (at : ℕ) (x : Datum) (rest : List ℕ) (w : IsWritten (datum_text x) x) → Closes rest → tokens_at at (datum_text x ++ rest) ≡ w.token ∷ tokens_at (at + length (datum_text x)) rest
value_next at x rest w closes = ap (λ (ps : List Piece). map (λ p. p.token) ps) (piece_spelled at (datum_text x) rest w.token w.spells w.good (w.solid rest) (w.ends rest closes))

more_close : (xs : List Datum) → Closes (more_text xs ++ 41 ∷ [])
more_close [] = refl
more_close (x ∷ xs) = refl

-- a comma and a value
abbrev NextValue : List Token → Datum → List Token → Type 0
NextValue = (mark 44 >> one datum_of).Spells

more_spelled : (at : ℕ) (xs : List Datum) → AllByRecursion IsValue xs → Repeats NextValue (tokens_at at (more_text xs ++ 41 ∷ [])) xs (Mark 41 ∷ [])
more_spelled at [] all = close_next at
more_spelled at (x ∷ xs) all =
    let w = written x all.0 in
    let rest = more_text xs ++ 41 ∷ [] in
    let place = suc (at + 1) in
    let text : ((codes ", " ++ datum_text x) ++ more_text xs) ++ 41 ∷ [] ≡ 44 ∷ 32 ∷ (datum_text x ++ rest) = ap (λ (ys : List ℕ). 44 ∷ 32 ∷ ys) (append_assoc (datum_text x) (more_text xs) (41 ∷ [])) in
    let same : tokens_at at (more_text (x ∷ xs) ++ 41 ∷ []) ≡ Mark 44 ∷ w.token ∷ tokens_at (place + length (datum_text x)) rest =
    ap (λ (ys : List ℕ). tokens_at at ys) text ∙ (comma_next at (datum_text x ++ rest) ∙ ap (λ (ts : List Token). Mark 44 ∷ ts) (value_next place x rest w (more_close xs))) in
    let others = more_spelled (place + length (datum_text x)) xs all.1 in
    rw same (tokens_at (place + length (datum_text x)) rest, (tt, w.token ∷ tokens_at (place + length (datum_text x)) rest, (refl, refl), (w.means, refl)), others)

row_spelled : (ts : List Token) (t : Token) (others : List Token) (x : Datum) (xs : List Datum) → ts ≡ Mark 40 ∷ t ∷ others → datum_of t ≡ Some x
    → Repeats NextValue others xs (Mark 41 ∷ []) → row.Spells ts (x ∷ xs) []
unfolding row
row_spelled ts t others x xs same means more =
    rw same (tt, t ∷ others, (refl, refl), (x ∷ xs, Mark 41 ∷ [], (x, others, (means, refl), (xs, Mark 41 ∷ [], more, (refl, refl))), (tt, [], (refl, refl), (refl, refl))))

row_line : (row : List Datum) → row_text row ≡ (codes "  (" ++ (values_text row ++ codes ")")) ++ 10 ∷ []
unfolding row_text
row_line row = ap (λ (ys : List ℕ). 32 ∷ 32 ∷ 40 ∷ ys) (sym (append_assoc (values_text row) (41 ∷ []) (10 ∷ [])))

row_back : (x : Datum) (xs : List Datum) → AllByRecursion IsValue (x ∷ xs) → (line : List ℕ) × (row_text (x ∷ xs) ≡ line ++ 10 ∷ []) × row.Spells (tokens line) (x ∷ xs) []
row_back x xs all =
    let w = written x all.0 in
    let rest = more_text xs ++ 41 ∷ [] in
    let line = codes "  (" ++ (values_text (x ∷ xs) ++ codes ")") in
    let text : line ≡ 32 ∷ 32 ∷ 40 ∷ (datum_text x ++ rest) = ap (λ (ys : List ℕ). 32 ∷ 32 ∷ 40 ∷ ys) (append_assoc (datum_text x) (more_text xs) (41 ∷ [])) in
    let blanks : pieces_after 0 1 (32 ∷ 32 ∷ 40 ∷ (datum_text x ++ rest)) ≡ pieces_after 0 3 (40 ∷ (datum_text x ++ rest)) =
    blank_skipped 1 32 (32 ∷ 40 ∷ (datum_text x ++ rest)) refl ∙ blank_skipped 2 32 (40 ∷ (datum_text x ++ rest)) refl in
    let same : tokens line ≡ Mark 40 ∷ w.token ∷ tokens_at (4 + length (datum_text x)) rest =
    ap (λ (ys : List ℕ). tokens ys) text ∙ (ap (λ (ps : List Piece). map (λ p. p.token) ps) blanks ∙ (open_next 3 (datum_text x ++ rest) ∙ ap (λ (ts : List Token). Mark 40 ∷ ts) (value_next 4 x rest w (more_close xs)))) in
    (line, row_line (x ∷ xs), row_spelled (tokens line) w.token (tokens_at (4 + length (datum_text x)) rest) x xs same w.means (more_spelled (4 + length (datum_text x)) xs all.1))

pub read_back : ValuesReadBack
read_back = record { a_value = value_back; a_row = row_back }
