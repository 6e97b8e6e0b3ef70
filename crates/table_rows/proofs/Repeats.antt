-- Keys that come twice, by the set of their bytes.
use Rattle.std.proofs.Common.{◌≡◌, ℕ, zero, suc, ◌+◌, ◌<◌, length, get_or, take, drop, append-nil, append_assoc, Bool, true, false, cond, not, ◌||◌, sym, refl, ap, ap₂, ◌∙◌, List, [], ◌∷◌, ◌++◌, Option, Some, None, Ordering, is_eq, arith}
use Rattle.std.proofs.lemmas.List.{drop_more, take_more, length-take-le}
use Rattle.std.proofs.lemmas.List.Folds.{list_any-append}
use Rattle.std.specs.Global.{Vec}
use Rattle.std.specs.List.{list_any}
use Rattle.std.specs.Ordering.{nat_cmp}
use Rattle.std.specs.Cmp.Lexicographic.{slice_cmp}
use Rattle.std.specs.BTreeSet.{BTreeSet, contains, Updates}
use Rattle.row_codec.specs.declared.rows.Kind.{Kind}
use Rattle.row_codec.specs.RowOrder.{row_cmp}
use Rattle.row_codec.specs.RowKeys.{row_key, IsKey}
use Rattle.history_model.specs.Rows.{Key}
use Rattle.history_model.specs.RowTests.{repeated_after}
use Rattle.version_store.specs.Tables.{bytes_cmp}
use Rattle.table_rows.proofs.Coded.{keys-ordered}

abbrev pub vec_cmp : Vec ℕ → Vec ℕ → Ordering
vec_cmp a b = slice_cmp nat_cmp a.items b.items

-- a set has the bytes of just these keys
abbrev pub HasSeen : List Kind → BTreeSet (Vec ℕ) → List Key → Type 0
HasSeen kinds seen ks = (q : Vec ℕ) (k : Key) → IsKey kinds k → q.items ≡ row_key 0 kinds k → contains vec_cmp seen q ≡ list_any (λ x. is_eq (row_cmp kinds x k)) ks

pub seen-more : (kinds : List Kind) (old new : BTreeSet (Vec ℕ)) (b : Vec ℕ) (ks : List Key) (i : ℕ) (k : Key) → i < length ks → k ≡ get_or ks i k → IsKey kinds k → b.items ≡ row_key 0 kinds k
    → Updates vec_cmp old new b true → HasSeen kinds old (take i ks) → HasSeen kinds new (take (i + 1) ks)
seen-more kinds old new b ks i k l at is bytes updates so_far q j isj e =
    let tied : is_eq (vec_cmp b q) ≡ is_eq (row_cmp kinds k j) = ap is_eq (ap₂ bytes_cmp bytes e ∙ keys-ordered 0 kinds (omega arith) k j is isj) in
    let f : Key → Bool = λ x. is_eq (row_cmp kinds x j) in
    let front : take (i + 1) ks ≡ take i ks ++ k ∷ [] = take_more ks i k l ∙ ap (λ (x : Key). take i ks ++ x ∷ []) (sym at) in
    updates.0 q ∙ (ap₂ (λ (t old_has : Bool). cond t true old_has) tied (so_far q j isj e)
    ∙ (by (f k) (list_any f (take i ks)) ∙ (sym (list_any-append f (take i ks) (k ∷ [])) ∙ ap (list_any f) (sym front))))
  where
    by : (x y : Bool) → cond x true y ≡ (y || (x || false))
    by true true = refl
    by true false = refl
    by false true = refl
    by false false = refl

pub repeated_here : (cmp : Key → Key → Ordering) (ks : List Key) (i : ℕ) (k : Key) (whole : Option ℕ) → i < length ks → k ≡ get_or ks i k
    → list_any (λ x. is_eq (cmp x k)) (take i ks) ≡ true → repeated_after cmp (take i ks) (drop i ks) ≡ whole → Some (i + 1) ≡ whole
repeated_here cmp ks i k whole l at seen so_far =
    let there : drop i ks ≡ k ∷ drop (i + 1) ks = drop_more ks i k l ∙ ap (λ (q : Key). q ∷ drop (i + 1) ks) (sym at) in
    let len : length (take i ks) ≡ i = length-take-le i ks (omega (arith, l)) in
    let found : repeated_after cmp (take i ks) (drop i ks) ≡ Some (i + 1) = rw (there, seen, len) refl in
    sym found ∙ so_far

pub repeated_later : (cmp : Key → Key → Ordering) (ks : List Key) (i : ℕ) (k : Key) (whole : Option ℕ) → i < length ks → k ≡ get_or ks i k
    → list_any (λ x. is_eq (cmp x k)) (take i ks) ≡ false → repeated_after cmp (take i ks) (drop i ks) ≡ whole → repeated_after cmp (take (i + 1) ks) (drop (i + 1) ks) ≡ whole
repeated_later cmp ks i k whole l at seen so_far =
    let rest = drop (i + 1) ks in
    let there : drop i ks ≡ k ∷ rest = drop_more ks i k l ∙ ap (λ (q : Key). q ∷ rest) (sym at) in
    let front : take (i + 1) ks ≡ take i ks ++ k ∷ [] = take_more ks i k l ∙ ap (λ (q : Key). take i ks ++ q ∷ []) (sym at) in
    let step : repeated_after cmp (take i ks) (drop i ks) ≡ repeated_after cmp (take i ks ++ k ∷ []) rest = rw (there, seen) refl in
    ap (λ (f : List Key). repeated_after cmp f rest) front ∙ sym step ∙ so_far

-- where none comes twice, an earlier key differs from each later one
pub none-repeats : (cmp : Key → Key → Ordering) (seen ks : List Key) (i : ℕ) (k : Key) → repeated_after cmp seen ks ≡ None → i < length ks → k ≡ get_or ks i k → list_any (λ x. is_eq (cmp x k)) (seen ++ take i ks) ≡ false
none-repeats cmp seen [] i k none l at = absurd (omega (arith, l))
none-repeats cmp seen (y ∷ ys) i k none l at = by (list_any (λ x. is_eq (cmp x y)) seen) i refl l at (λ j. none-repeats cmp (seen ++ y ∷ []) ys j k)
  where
    by : (b : Bool) (i : ℕ) → list_any (λ x. is_eq (cmp x y)) seen ≡ b → i < length (y ∷ ys) → k ≡ get_or (y ∷ ys) i k
        → ((j : ℕ) → repeated_after cmp (seen ++ y ∷ []) ys ≡ None → j < length ys → k ≡ get_or ys j k → list_any (λ x. is_eq (cmp x k)) ((seen ++ y ∷ []) ++ take j ys) ≡ false) → list_any (λ x. is_eq (cmp x k)) (seen ++ take i (y ∷ ys)) ≡ false
    by true i e l at more = let no : Some (length seen + 1) ≡ None = sym (ap (λ (b : Bool). cond b (Some (length seen + 1)) (repeated_after cmp (seen ++ y ∷ []) ys)) e) ∙ none in cc no
    by false zero e l at more = ap (list_any (λ x. is_eq (cmp x k))) (append-nil seen) ∙ (ap (λ (z : Key). list_any (λ x. is_eq (cmp x z)) seen) at ∙ e)
    by false (suc j) e l at more =
        let later : repeated_after cmp (seen ++ y ∷ []) ys ≡ None = sym (ap (λ (b : Bool). cond b (Some (length seen + 1)) (repeated_after cmp (seen ++ y ∷ []) ys)) e) ∙ none in
        ap (list_any (λ x. is_eq (cmp x k))) (sym (append_assoc seen (y ∷ []) (take j ys))) ∙ more j later (omega (arith, l)) at

-- what an insertion tells of the keys before
pub was-seen : (added has : Bool) → added ≡ not has → added ≡ false → has ≡ true
was-seen added true e f = refl
was-seen added false e f = cc (e, f)

pub was-unseen : (added has : Bool) → added ≡ not has → added ≡ true → has ≡ false
was-unseen added false e t = refl
was-unseen added true e t = cc (e, t)
