-- Facts that are added one after another.
use Rattle.std.proofs.Common.{◌≡◌, ℕ, ◌+◌, ◌<◌, ◌≤◌, Bool, true, false, ◌||◌, sym, refl, ap, ◌∙◌, subst, inl, inr, arith, length, get_or, take, List, [], ◌∷◌, ◌++◌, map, None, Ordering, is_eq}
use Rattle.std.proofs.lemmas.List.{take_more, take_all, map-append, take-map, length-map}
use Rattle.std.proofs.lemmas.Bool.{eq-eqb}
use Rattle.std.proofs.Math.ListN.{get_or-map}
use Rattle.std.specs.List.{list_any}
use Rattle.row_codec.specs.RowOrder.{row_cmp}
use Rattle.row_codec.specs.RowKeys.{IsKey}
use Rattle.table_descriptors.specs.Descriptors.{Schema, key_kinds}
use Rattle.fact_model.specs.Facts.{touches}
use Rattle.list_laws.specs.Members.{Has}
use Rattle.list_laws.proofs.Members.{has-append_right, map-has, has-map}
use Rattle.fact_model.specs.Listed.{is_point}
use Rattle.history_model.specs.Rows.{Key, RowFact}
use Rattle.history_model.specs.RowTests.{repeated_key}
use Rattle.version_store.specs.Tables.{Tables}
use Rattle.table_rows.specs.RowTables.{RowTables, IsRowFact, HasRows, HasFront, with_facts, MayAdd}
use Rattle.table_rows.proofs.Coded.{may-next, next-added, key-same}
use Rattle.table_rows.proofs.Repeats.{none-repeats}

-- no key of a front compares as equal to a later one
not-any : {X : Type 0} (p : X → Bool) (xs : List X) (x : X) → Has x xs → p x ≡ true → list_any p xs ≡ false → ⊥
not-any p [] x has e none = has
not-any p (y ∷ ys) x (inl same) e none = let no : true ≡ false = sym (ap (λ (b : Bool). b || list_any p ys) (sym (ap p same) ∙ e)) ∙ none in cc no
not-any p (y ∷ ys) x (inr has) e none = not-any p ys x has e (by (p y) (list_any p ys) none)
  where
    by : (a b : Bool) → (a || b) ≡ false → b ≡ false
    by true b n = cc n
    by false b n = n

module _ {X : Type 0} (T : RowTables) (d : Schema) (fact : X → RowFact) (key : X → Key) (xs : List X) (kinds : T.kinds d.id ≡ key_kinds d) (once : repeated_key d (map key xs) ≡ None)
    (point : (x : X) → is_point (fact x) ≡ true) (touched : (cmp : Key → Key → Ordering) (k : Key) (x : X) → touches cmp k (fact x) ≡ is_eq (cmp (key x) k)) (of : (ks : _) (x : X) → IsRowFact ks (fact x) → IsKey ks (key x)) where
  -- the next of some facts with different keys may be added after those before
  pub next-may : (S : Tables → Type 0) (i : ℕ) (x : X) → i < length xs → x ≡ get_or xs i x → HasRows S (with_facts d.id (map fact (take i xs)) T) → MayAdd T d.id (fact x)
      → IsKey (T.kinds d.id) (key x) → MayAdd (with_facts d.id (map fact (take i xs)) T) d.id (fact x)
  next-may S i x l at has may is = may-next T d.id (map fact (take i xs)) (fact x) (point x) other may
    where
      other : (g : RowFact) → Has g (map fact (take i xs)) → (k : Key) → IsKey (T.kinds d.id) k → touches (row_cmp (T.kinds d.id)) k g ≡ true → touches (row_cmp (T.kinds d.id)) k (fact x) ≡ true → ⊥
      other g within k isk tg tf =
          let y = map-has fact g (take i xs) within in
          let ts : touches (row_cmp (T.kinds d.id)) k (fact y.0) ≡ true = subst (λ (f : RowFact). touches (row_cmp (T.kinds d.id)) k f ≡ true) y.2 tg in
          let isy : IsKey (T.kinds d.id) (key y.0) = of (T.kinds d.id) y.0 (subst (λ (f : RowFact). IsRowFact (T.kinds d.id) f) y.2 (has.rows d.id g (rw (eq-eqb d.id d.id refl) (has-append_right g (T.facts d.id) (map fact (take i xs)) within)))) in
          let same : key y.0 ≡ key x = key-same (T.kinds d.id) (key y.0) k isy isk (sym (touched (row_cmp (T.kinds d.id)) k y.0) ∙ ts) ∙ sym (key-same (T.kinds d.id) (key x) k is isk (sym (touched (row_cmp (T.kinds d.id)) k x) ∙ tf)) in
          let tied : is_eq (row_cmp (key_kinds d) (key y.0) (key x)) ≡ true =
          ap (λ (z : Key). is_eq (row_cmp (key_kinds d) (key y.0) z)) (sym same ∙ key-same (T.kinds d.id) (key y.0) k isy isk (sym (touched (row_cmp (T.kinds d.id)) k y.0) ∙ ts))
          ∙ (ap (λ ks. is_eq (row_cmp ks (key y.0) k)) (sym kinds) ∙ (sym (touched (row_cmp (T.kinds d.id)) k y.0) ∙ ts)) in
          let len : length (map key xs) ≡ length xs = length-map xs key in
          let none = none-repeats (row_cmp (key_kinds d)) [] (map key xs) i (key x) once (omega (arith, l, len)) (ap key at ∙ sym (get_or-map key xs i x)) in
          not-any (λ (z : Key). is_eq (row_cmp (key_kinds d) z (key x))) (take i (map key xs)) (key y.0) (subst (λ (zs : List Key). Has (key y.0) zs) (sym (take-map key i xs)) (has-map key y.0 (take i xs) y.1)) tied none

  -- facts up to the next
  pub next-has : (S : Tables → Type 0) (i : ℕ) (x : X) → i < length xs → x ≡ get_or xs i x → HasRows S (with_facts d.id (fact x ∷ []) (with_facts d.id (map fact (take i xs)) T)) → HasRows S (with_facts d.id (map fact (take (i + 1) xs)) T)
  next-has S i x l at has = subst (λ (fs : List RowFact). HasRows S (with_facts d.id fs T)) (sym (ap (map fact) (take_more xs i x l ∙ ap (λ (y : X). take i xs ++ y ∷ []) (sym at)) ∙ map-append fact (take i xs) (x ∷ []))) (next-added S T d.id (map fact (take i xs)) (fact x) has)

  pub front-has : (S : Tables → Type 0) (i : ℕ) → HasRows S (with_facts d.id (map fact (take i xs)) T) → HasFront S T d.id (map fact xs)
  front-has S i has = record { n = i; rows = subst (λ (fs : List RowFact). HasRows S (with_facts d.id fs T)) (sym (take-map fact i xs)) has }

  -- all of them
  pub all-has : (S : Tables → Type 0) (i : ℕ) → length xs ≤ i → HasRows S (with_facts d.id (map fact (take i xs)) T) → HasRows S (with_facts d.id (map fact xs) T)
  all-has S i l has = subst (λ (ys : List X). HasRows S (with_facts d.id (map fact ys) T)) (take_all i xs l) has
