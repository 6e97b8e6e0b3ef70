-- What a change of one entry, or of one touched name, does to lists by name.
use Rattle.std.proofs.Common.{◌≡◌, ◌≢◌, ⊎_elim, ℕ, zero, suc, ◌≤◌, insert, take_while, length, one-add, arith, Bool, true, false, cond, not, T, List, [], ◌∷◌, map, Option, Some, None, refl, sym, ◌∙◌, ap, subst}
use Rattle.std.proofs.lemmas.List.Folds.{length-prefix_len}
use Rattle.std.proofs.lemmas.List.Sums.{prefix_len-le-length}
use Rattle.std.specs.Prelude.{is_some}
use Rattle.std.specs.Cmp.{eq_by_cmp_equiv}
use Rattle.std.specs.FinMap.{find, put, is_sorted, get-from_sorted, entries-from_sorted, keys, slice_cmp-IsAntisymmetric, nat_cmp-IsAntisymmetric}
use Rattle.std.specs.FinMap.Entries.{by_order, is_sorted-put, find-put, is_sorted-where_key, find-where_key, is_some-find}
use Rattle.std.specs.declared.cmp.Ordering.TheVariants.{Less, Equal, Greater}
use Rattle.std.specs.List.{list_any}
use Rattle.std.specs.Cmp.Lexicographic.{slice_cmp, nat_list_cmp_total}
use Rattle.std.specs.Ordering.{eq_by_cmp, is_eq, is_gt, nat_cmp}
use Rattle.outside_world.specs.Entries.{Entries, last_value, IsSet, IsTouched, in_order, are_in_order, is_touched, objects_of, others}
use Rattle.outside_world.specs.Objects.{at}
use Rattle.outside_world.proofs.Names.{same_name, other_name, name_cases}

pub found_at : (es : Entries) (q : List ℕ) → T (in_order es) → at (objects_of es) q ≡ find (slice_cmp nat_cmp) q es
found_at es q h = get-from_sorted (slice_cmp nat_cmp) es q h

pub keys_of : (es : Entries) → T (in_order es) → keys (objects_of es) ≡ map (λ e. e.0) es
keys_of es h = ap (map (λ e. e.0)) (entries-from_sorted (slice_cmp nat_cmp) es h)

-- entries that answer at each name by this value at one name, and else as others do
by_find : (es fs : Entries) (name : List ℕ) (value : Option (List ℕ)) → T (in_order es) → T (in_order fs)
    → ((q : List ℕ) → find (slice_cmp nat_cmp) q fs ≡ cond (eq_by_cmp (slice_cmp nat_cmp) q name) value (find (slice_cmp nat_cmp) q es)) → IsSet name value es fs
by_find es fs name value h i is = record {
  ordered = i;
  here = found_at fs name i ∙ is name ∙ ap (λ (b : Bool). cond b value (find (slice_cmp nat_cmp) name es)) (same_name name);
  others = λ n ne. found_at fs n i ∙ is n ∙ ap (λ (b : Bool). cond b value (find (slice_cmp nat_cmp) n es)) (other_name n name ne) ∙ sym (found_at es n h);
}

abbrev differs : List ℕ → List ℕ → Bool
differs name x = not (eq_by_cmp (slice_cmp nat_cmp) name x)

turned : {X : Type 0} (a b : Bool) (x : Option X) → a ≡ b → cond (not a) x None ≡ cond b None x
turned a true x e = ap (λ (t : Bool). cond (not t) x None) e
turned a false x e = ap (λ (t : Bool). cond (not t) x None) e

find-others : {X : Type 0} (name q : List ℕ) (es : List (List ℕ × X)) → find (slice_cmp nat_cmp) q (others (λ e. e.0) name es) ≡ cond (eq_by_cmp (slice_cmp nat_cmp) q name) None (find (slice_cmp nat_cmp) q es)
find-others name q es = find-where_key (slice_cmp nat_cmp) (differs name) q (λ x e. ap (differs name) (sym (slice_cmp-IsAntisymmetric nat_cmp-IsAntisymmetric q x e))) es
    ∙ turned _ _ _ ((eq_by_cmp_equiv nat_list_cmp_total).symm name q)

pub set_removed : (es fs : Entries) (name : List ℕ) → T (in_order es) → fs ≡ others (λ e. e.0) name es → IsSet name None es fs
set_removed es fs name h is = subst (λ (l : Entries). IsSet name None es l) (sym is)
    (by_find es _ name None h (is_sorted-where_key (slice_cmp nat_cmp) (differs name) es h) (λ q. find-others name q es))

-- how many come before the first whose name isn't below this one
abbrev pub count_below : {X : Type 0} → (X → List ℕ) → List ℕ → List X → ℕ
count_below name_of n xs = length (take_while (λ x. is_gt (slice_cmp nat_cmp n (name_of x))) xs)

-- the same by its first element
count-next : {X : Type 0} (name_of : X → List ℕ) (n : List ℕ) (x : X) (xs : List X) → count_below name_of n (x ∷ xs) ≡ cond (is_gt (slice_cmp nat_cmp n (name_of x))) (suc (count_below name_of n xs)) 0
count-next name_of n x xs =
    let p : _ → Bool = λ y. is_gt (slice_cmp nat_cmp n (name_of y)) in
    length-prefix_len p (x ∷ xs) ∙ ap (λ (k : ℕ). cond (p x) k 0) (one-add _ ∙ ap suc (sym (length-prefix_len p xs)))

pub below-le : {X : Type 0} (name_of : X → List ℕ) (n : List ℕ) (xs : List X) → count_below name_of n xs ≤ length xs
below-le name_of n xs = let p : _ → Bool = λ y. is_gt (slice_cmp nat_cmp n (name_of y)) in omega (arith, length-prefix_len p xs, prefix_len-le-length p xs)

-- to put one where it belongs among those with other names
insert-others : {X : Type 0} (n : List ℕ) (v : X) (es : List (List ℕ × X)) → insert (others (λ e. e.0) n es) (count_below (λ e. e.0) n (others (λ e. e.0) n es)) (n, v) ≡ put (slice_cmp nat_cmp) n v (others (λ e. e.0) n es)
insert-others n v [] = refl
insert-others {X = X} n v (e ∷ es) =
    let rest : List (List ℕ × X) = others (λ x. x.0) n es in
    let P : List (List ℕ × X) → Type 0 = λ l. insert l (count_below (λ x. x.0) n l) (n, v) ≡ put (slice_cmp nat_cmp) n v l in
    elim (slice_cmp nat_cmp n e.0) as (λ o. slice_cmp nat_cmp n e.0 ≡ o → P (cond (not (is_eq o)) (e ∷ rest) rest)) [
      | Less ↦ λ is. ap (λ (k : ℕ). insert (e ∷ rest) k (n, v)) (count-next (λ x. x.0) n e rest ∙ ap (λ o. cond (is_gt o) (suc (count_below (λ x. x.0) n rest)) 0) is)
          ∙ sym (ap (λ o. by_order o ((n, v) ∷ e ∷ rest) ((e.0, v) ∷ rest) (e ∷ put (slice_cmp nat_cmp) n v rest)) is)
      | Equal ↦ λ is. insert-others n v es
      | Greater ↦ λ is. ap (λ (k : ℕ). insert (e ∷ rest) k (n, v)) (count-next (λ x. x.0) n e rest ∙ ap (λ o. cond (is_gt o) (suc (count_below (λ x. x.0) n rest)) 0) is)
          ∙ ap (λ (l : List (List ℕ × X)). e ∷ l) (insert-others n v es)
          ∙ sym (ap (λ o. by_order o ((n, v) ∷ e ∷ rest) ((e.0, v) ∷ rest) (e ∷ put (slice_cmp nat_cmp) n v rest)) is)
    ] refl

twice : {X : Type 0} (b : Bool) (x y : Option X) → cond b x (cond b None y) ≡ cond b x y
twice true x y = refl
twice false x y = refl

find-again : {X : Type 0} (n q : List ℕ) (v : X) (es : List (List ℕ × X)) → find (slice_cmp nat_cmp) q (put (slice_cmp nat_cmp) n v (others (λ e. e.0) n es)) ≡ cond (eq_by_cmp (slice_cmp nat_cmp) q n) (Some v) (find (slice_cmp nat_cmp) q es)
find-again {X = X} n q v es = find-put (slice_cmp nat_cmp) nat_list_cmp_total q n v (others (λ e. e.0) n es)
    ∙ ap (λ (o : Option X). cond (eq_by_cmp (slice_cmp nat_cmp) q n) (Some v) o) (find-others n q es) ∙ twice (eq_by_cmp (slice_cmp nat_cmp) q n) (Some v) (find (slice_cmp nat_cmp) q es)

sorted-again : {X : Type 0} (n : List ℕ) (v : X) (es : List (List ℕ × X)) → T (is_sorted (slice_cmp nat_cmp) es) → T (is_sorted (slice_cmp nat_cmp) (put (slice_cmp nat_cmp) n v (others (λ e. e.0) n es)))
sorted-again n v es h = is_sorted-put (slice_cmp nat_cmp) nat_list_cmp_total n v _ (is_sorted-where_key (slice_cmp nat_cmp) (differs n) es h)

pub set_put : (es ds fs : Entries) (name bytes : List ℕ) (k : ℕ) → T (in_order es) → ds ≡ others (λ e. e.0) name es → k ≡ count_below (λ e. e.0) name ds → fs ≡ insert ds k (name, bytes) → IsSet name (Some bytes) es fs
set_put es ds fs name bytes k h removed count is =
    let put_at : Entries → Entries = λ l. insert l (count_below (λ e. e.0) name l) (name, bytes) in
    subst (λ (l : Entries). IsSet name (Some bytes) es l) (sym (is ∙ ap (λ (i : ℕ). insert ds i (name, bytes)) count ∙ ap put_at removed ∙ insert-others name bytes es))
    (by_find es _ name (Some bytes) h (sorted-again name bytes es h) (λ q. find-again name q bytes es))

abbrev entries_of : List (List ℕ) → List (List ℕ × Unit {0})
entries_of names = map (λ n. (n, tt)) names

names-entries_of : (ts : List (List ℕ)) → map (λ e. e.0) (entries_of ts) ≡ ts
names-entries_of [] = refl
names-entries_of (t ∷ ts) = ap (λ (l : List (List ℕ)). t ∷ l) (names-entries_of ts)

touched-find : (ts : List (List ℕ)) (q : List ℕ) → is_touched ts q ≡ is_some (find (slice_cmp nat_cmp) q (entries_of ts))
touched-find ts q = ap (list_any (eq_by_cmp (slice_cmp nat_cmp) q)) (sym (names-entries_of ts)) ∙ sym (is_some-find (slice_cmp nat_cmp) q (entries_of ts))

others-entries_of : (n : List ℕ) (ts : List (List ℕ)) → entries_of (others (λ t. t) n ts) ≡ others (λ e. e.0) n (entries_of ts)
others-entries_of n [] = refl
others-entries_of n (t ∷ ts) = elim (not (eq_by_cmp (slice_cmp nat_cmp) n t)) as (λ b. entries_of (cond b (t ∷ others (λ x. x) n ts) (others (λ x. x) n ts)) ≡ cond b ((t, tt) ∷ others (λ e. e.0) n (entries_of ts)) (others (λ e. e.0) n (entries_of ts))) [
  | true ↦ ap (λ (l : List (List ℕ × Unit {0})). (t, tt) ∷ l) (others-entries_of n ts)
  | false ↦ others-entries_of n ts
]

below-entries_of : (n : List ℕ) (ts : List (List ℕ)) → count_below (λ t. t) n ts ≡ count_below (λ e. e.0) n (entries_of ts)
below-entries_of n [] = refl
below-entries_of n (t ∷ ts) = count-next (λ x. x) n t ts ∙ ap (λ (k : ℕ). cond (is_gt (slice_cmp nat_cmp n t)) (suc k) 0) (below-entries_of n ts) ∙ sym (count-next (λ e. e.0) n (t, tt) (entries_of ts))

insert-entries_of : (n : List ℕ) (ts : List (List ℕ)) (k : ℕ) → entries_of (insert ts k n) ≡ insert (entries_of ts) k (n, tt)
insert-entries_of n [] zero = refl
insert-entries_of n [] (suc k) = refl
insert-entries_of n (t ∷ ts) zero = refl
insert-entries_of n (t ∷ ts) (suc k) = ap (λ (l : List (List ℕ × Unit {0})). (t, tt) ∷ l) (insert-entries_of n ts k)

-- names by what is found among them as entries
touched_by : (ts us : List (List ℕ)) (name : List ℕ) → T (are_in_order ts) → entries_of us ≡ put (slice_cmp nat_cmp) name tt (others (λ e. e.0) name (entries_of ts)) → IsTouched name ts us
touched_by ts us name h is =
    let found : (q : List ℕ) → is_touched us q ≡ is_some (cond (eq_by_cmp (slice_cmp nat_cmp) q name) (Some tt) (find (slice_cmp nat_cmp) q (entries_of ts))) =
    λ q. touched-find us q ∙ ap (λ (l : List (List ℕ × Unit {0})). is_some (find (slice_cmp nat_cmp) q l)) is ∙ ap (λ (o : Option (Unit {0})). is_some o) (find-again name q tt (entries_of ts)) in
    record {
      ordered = subst (λ (l : List (List ℕ × Unit {0})). T (is_sorted (slice_cmp nat_cmp) l)) (sym is) (sorted-again name tt (entries_of ts) h);
      here = found name ∙ ap (λ (b : Bool). is_some (cond b (Some tt) (find (slice_cmp nat_cmp) name (entries_of ts)))) (same_name name);
      others = λ n ne. found n ∙ ap (λ (b : Bool). is_some (cond b (Some tt) (find (slice_cmp nat_cmp) n (entries_of ts)))) (other_name n name ne) ∙ sym (touched-find ts n);
    }

pub touched_put : (ts ds us : List (List ℕ)) (name : List ℕ) (k : ℕ) → T (are_in_order ts) → ds ≡ others (λ t. t) name ts → k ≡ count_below (λ t. t) name ds → us ≡ insert ds k name → IsTouched name ts us
touched_put ts ds us name k h removed count is =
    let es : List (List ℕ × Unit {0}) = entries_of ts in
    let put_at : List (List ℕ × Unit {0}) → List (List ℕ × Unit {0}) = λ l. insert l (count_below (λ e. e.0) name l) (name, tt) in
    touched_by ts us name h (ap entries_of is ∙ insert-entries_of name ds k
    ∙ ap (λ (i : ℕ). insert (entries_of ds) i (name, tt)) (count ∙ below-entries_of name ds)
    ∙ ap put_at (ap entries_of removed ∙ others-entries_of name ts) ∙ insert-others name tt es)

-- a list of objects, one by one
pub last_value-none : (es : Entries) (n : List ℕ) (rest : Entries) → es ≡ [] → last_value n rest (at (objects_of es) n) ≡ last_value n rest None
last_value-none es n rest is = ap (λ (o : Option (List ℕ)). last_value n rest o) (ap (λ (l : Entries). at (objects_of l) n) is ∙ found_at [] n tt)

at_set : (name bytes n : List ℕ) (es fs : Entries) → IsSet name (Some bytes) es fs → at (objects_of fs) n ≡ cond (eq_by_cmp (slice_cmp nat_cmp) n name) (Some bytes) (at (objects_of es) n)
at_set name bytes n es fs s = ⊎_elim
    (λ (e : n ≡ name). ap (at (objects_of fs)) e ∙ s.here ∙ ap (λ (b : Bool). cond b (Some bytes) (at (objects_of es) n)) (sym (ap (λ (m : List ℕ). eq_by_cmp (slice_cmp nat_cmp) m name) e ∙ same_name name)))
    (λ (ne : n ≢ name). s.others n ne ∙ ap (λ (b : Bool). cond b (Some bytes) (at (objects_of es) n)) (sym (other_name n name ne)))
    (name_cases n name)

pub last_value-next : (name bytes n : List ℕ) (es fs rest all : Entries) → IsSet name (Some bytes) es fs → all ≡ (name, bytes) ∷ rest → last_value n rest (at (objects_of fs) n) ≡ last_value n all (at (objects_of es) n)
last_value-next name bytes n es fs rest all s is = ap (last_value n rest) (at_set name bytes n es fs s) ∙ sym (ap (λ (l : Entries). last_value n l (at (objects_of es) n)) is)

pub last_value-end : (rest : Entries) (n : List ℕ) (value : Option (List ℕ)) → length rest ≡ 0 → last_value n rest value ≡ value
last_value-end [] n value none = refl
last_value-end (e ∷ rest) n value none = absurd (omega arith)
