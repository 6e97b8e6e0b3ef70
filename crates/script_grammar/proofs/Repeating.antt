-- The loop that reads a part any number of times.
use Rattle.std.proofs.Common.{◌≡◌, ℕ, zero, suc, Bool, true, false, List, [], ◌∷◌, ◌++◌, refl, sym, ap, arith, append_assoc}
use Rattle.std.proofs.lemmas.List.{append-nil}
use Rattle.script_tokens.specs.declared.token.Token.{Token}
use Rattle.script_grammar.specs.Grammar.{Progress, Read, Fault, read_within, with_front, begins_with, and_read, Fails}
use Rattle.script_grammar.specs.declared.broken.Broken.{Broken}
use Rattle.script_grammar.specs.declared.broken.Broken.TheVariants.{At, Memory}

pub stopped : {A : Type 0} (n : ℕ) (starts : Token → Bool) (item : List Token → Progress A) (before : List A) (ts : List Token)
    → begins_with starts ts ≡ false → with_front before (read_within n starts item ts) ≡ Read before ts
stopped zero starts item before ts stops = ap (λ xs. Read xs ts) (append-nil before)
stopped (suc n) starts item before ts stops = rw stops (ap (λ xs. Read xs ts) (append-nil before))

front_front : {A : Type 0} (before : List A) (a : A) (more : Progress (List A))
    → with_front before (and_read more (λ others end. Read (a ∷ others) end)) ≡ with_front (before ++ a ∷ []) more
front_front before a (Read others rest) = ap (λ xs. Read xs rest) (sym (append_assoc before (a ∷ []) others))
front_front before a (Fault left) = refl

pub went_on : {A : Type 0} (n m : ℕ) (starts : Token → Bool) (item : List Token → Progress A) (before : List A) (ts : List Token) (a : A) (rest : List Token)
    → n ≡ suc m → begins_with starts ts ≡ true → item ts ≡ Read a rest
    → with_front before (read_within n starts item ts) ≡ with_front (before ++ a ∷ []) (read_within m starts item rest)
went_on zero m starts item before ts a rest count begins is = absurd (omega arith)
went_on (suc n) m starts item before ts a rest count begins is =
    let same : n ≡ m = omega arith in
    rw begins (rw is (rw same (front_front before a (read_within m starts item rest))))

pub went_wrong : {A : Type 0} (n : ℕ) (starts : Token → Bool) (item : List Token → Progress A) (before : List A) (ts : List Token) (e : Broken)
    → (n ≡ 0 → ⊥) → begins_with starts ts ≡ true → Fails e (item ts)
    → Fails e (with_front before (read_within n starts item ts))
went_wrong zero starts item before ts e some begins is = absurd (some refl)
went_wrong (suc n) starts item before ts (At left) some begins is = rw begins (rw is refl)
went_wrong (suc n) starts item before ts Memory some begins is = tt
