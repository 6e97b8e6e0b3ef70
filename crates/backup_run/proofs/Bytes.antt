-- What one byte does to the lines that are still to come.
use Rattle.std.proofs.Common.{◌≡◌, ℕ, suc, ◌+◌, ◌<◌, ◌≤◌, Bool, true, false, ◌||◌, eqb, ltb, List, [], ◌∷◌, ◌++◌, length, refl, ap, ◌∙◌, arith, length-append}
use Rattle.std.specs.Prelude.{Option, is_none}
use Rattle.std.proofs.lemmas.Bool.Decides.{nat_tests}
use Rattle.std.proofs.lemmas.List.{append-nil, nil_from_length}
use Rattle.std.proofs.Math.Nat.{min-eq_left, min-eq_right}
use Rattle.machine_model.specs.Machine.{World, Machine}
use Rattle.machine_model.specs.Script.{Line, Within, Beyond, put_front, lines, outcome, malformed_at, column_beyond}
use Rattle.command_lang.specs.Lines.{reading, Malformed}
use Rattle.backup_run.specs.Run.{At, put_all, with_refused, outcome_of_lines, outcome_of_rest}

pub put_all_within : (p bytes : List ℕ) (ls : List Line) → put_all p (Within bytes ∷ ls) ≡ Within (p ++ bytes) ∷ ls
put_all_within [] bytes ls = refl
put_all_within (b ∷ p) bytes ls = rw (put_all_within p bytes ls) refl

pub put_all_beyond : (p bytes : List ℕ) (ls : List Line) → put_all p (Beyond bytes ∷ ls) ≡ Beyond (p ++ bytes) ∷ ls
put_all_beyond [] bytes ls = refl
put_all_beyond (b ∷ p) bytes ls = rw (put_all_beyond p bytes ls) refl

pub put_all_push : (p : List ℕ) (b : ℕ) (ls : List Line) → put_all (p ++ b ∷ []) ls ≡ put_all p (put_front b ls)
put_all_push [] b ls = refl
put_all_push (c ∷ p) b ls = ap (put_front c) (put_all_push p b ls)

-- a line that is too long reads as no command
pub long_line : (first : Bool) (line : List ℕ) → 65536 < length line → reading first line ≡ Malformed 65537
unfolding reading
long_line first line long = let t : ltb 65536 (length line) ≡ true = grind (arith, nat_tests) in rw t refl

-- where the line so far has all the bytes that a line may have, another byte makes it malformed
too_long : (worlds : List World) (n : ℕ) (m : Option Machine) (p : List ℕ) (b : ℕ) (ls : List Line) → length p ≡ 65536 → outcome worlds n m (put_all p (put_front b ls)) ≡ malformed_at n 65537 m
unfolding outcome
too_long worlds n m p b [] full =
    rw (put_all_within p (b ∷ []) [], long_line (is_none m) (p ++ b ∷ []) (omega (arith, length-append p (b ∷ [])))) refl
too_long worlds n m p b (Within x ∷ ls) full =
    rw (put_all_within p (b ∷ x) ls, long_line (is_none m) (p ++ b ∷ x) (omega (arith, length-append p (b ∷ x)))) refl
too_long worlds n m p b (Beyond x ∷ ls) full =
    let len : length (p ++ b ∷ x) ≡ length p + length (b ∷ x) = length-append p (b ∷ x) in
    let column : column_beyond (p ++ b ∷ x) ≡ 65537 = min-eq_left (omega (arith, len, full)) in
    rw (put_all_beyond p (b ∷ x) ls, column) refl

pub rest_too_long : (worlds : List World) (a : At) (room b : ℕ) (more : List ℕ) → a.room ≡ suc room → eqb b 10 ≡ false → length a.pending ≡ 65536 → outcome_of_rest worlds a (b ∷ more) ≡ with_refused a.refused (malformed_at a.line 65537 a.machine)
unfolding outcome_of_rest outcome_of_lines lines
rest_too_long worlds a room b more is other full = rw (is, other, too_long worlds a.line a.machine a.pending b (lines room more) full) refl

-- the script has no room for another byte
pub rest_beyond : (worlds : List World) (a : At) (b : ℕ) (more : List ℕ) → a.room ≡ 0 → length a.pending ≤ 65536 → outcome_of_rest worlds a (b ∷ more) ≡ with_refused a.refused (malformed_at a.line (length a.pending + 1) a.machine)
unfolding outcome_of_rest outcome_of_lines lines outcome
rest_beyond worlds a b more is fits =
    let column : column_beyond (a.pending ++ []) ≡ length a.pending + 1 = ap (λ (p : List ℕ). column_beyond p) (append-nil a.pending) ∙ min-eq_right (omega (arith, fits)) in
    rw (is, put_all_beyond a.pending [] [], column) refl

-- a newline ends the line
pub rest_newline : (worlds : List World) (a : At) (room b : ℕ) (more : List ℕ) → a.room ≡ suc room → eqb b 10 ≡ true → outcome_of_rest worlds a (b ∷ more) ≡ outcome_of_lines worlds a (Within a.pending ∷ lines room more)
unfolding outcome_of_rest outcome_of_lines lines
rest_newline worlds a room b more is newline = rw (is, newline, put_all_within a.pending [] (lines room more)) (ap (λ (p : List ℕ). outcome_of_lines worlds a (Within p ∷ lines room more)) (append-nil a.pending))

-- any other byte goes on with it
pub rest_other : (worlds : List World) (a : At) (room b : ℕ) (more : List ℕ) → a.room ≡ suc room → eqb b 10 ≡ false → outcome_of_rest worlds a (b ∷ more) ≡ outcome_of_lines worlds a (put_all (a.pending ++ b ∷ []) (lines room more))
unfolding outcome_of_rest lines
rest_other worlds a room b more is other = rw (is, other, put_all_push a.pending b (lines room more)) refl

-- the end of the input ends a line that has begun
put_all_end : (p : List ℕ) → 0 < length p → put_all p [] ≡ Within p ∷ []
put_all_end [] some = absurd (omega arith)
put_all_end (b ∷ []) some = refl
put_all_end (b ∷ c ∷ p) some = rw (put_all_end (c ∷ p) (omega arith)) refl

pub rest_ends : (worlds : List World) (a : At) → 0 < length a.pending → outcome_of_rest worlds a [] ≡ outcome_of_lines worlds a (Within a.pending ∷ [])
unfolding outcome_of_rest lines
rest_ends worlds a some = ap (outcome_of_lines worlds a) (put_all_end a.pending some)

-- nothing is left where no line has begun
pub rest_nothing : (worlds : List World) (a : At) → length a.pending ≡ 0 → outcome_of_rest worlds a [] ≡ record { text = []; refused = a.refused || false; malformed = false; machine = a.machine }
unfolding outcome_of_rest outcome_of_lines lines outcome
rest_nothing worlds a none = rw (nil_from_length a.pending none) refl
