-- Lists in which no two elements are so related, and names of tables as of a time.
use Rattle.std.proofs.Common.{◌≡◌, ◌≢◌, ◌⊎◌, inl, inr, ⊎_elim, ℕ, zero, suc, ◌+◌, Bool, true, false, not, eqb, refl, sym, ap, subst, ◌∙◌, arith, List, [], ◌∷◌, ◌++◌, map, length, reverse, Some, None, slice_get, slice_set, option_map, unwrap_or, if◌then◌else◌}
use Rattle.std.specs.List.{find}
use Rattle.std.proofs.lemmas.Bool.{cases_Bool}
use Rattle.std.proofs.lemmas.Bool.Decides.{nat_tests}
use Rattle.std.proofs.lemmas.List.{reverse-append}
use Rattle.mvcc_keys.specs.Times.{Time, time_le, time_lt}
use Rattle.mvcc_keys.proofs.TimeOrder.{le-trans, lt-le}
use Rattle.table_descriptors.specs.Descriptors.{Schema}
use Rattle.list_laws.specs.Members.{Has}
use Rattle.list_laws.proofs.Members.{reverse-has}
use Rattle.history_model.specs.Histories.{Table, has_name, in_force, is_named}
use Rattle.machine_model.specs.Tables.{described}
use Rattle.machine_model.specs.Proper.{NoTwo, ShareName}
use Rattle.machine_model.proofs.Lists.{got-set, got-set_other, got-has}

-- ---- no two

pub got-split : {X : Type 0} (xs ys : List X) (i : ℕ) (x : X) → slice_get (xs ++ ys) i ≡ Some x → (slice_get xs i ≡ Some x) ⊎ ((k : ℕ) × (i ≡ length xs + k) × (slice_get ys k ≡ Some x))
got-split [] ys i x e = inr (i, omega arith, e)
got-split (z ∷ zs) ys zero x e = inl e
got-split (z ∷ zs) ys (suc i) x e = elim (got-split zs ys i x e) [ inl a ↦ inl a | inr b ↦ (let p = b.1 in inr (b.0, omega (arith, p), b.2)) ]

pub got-map : {X Y : Type 0} (f : X → Y) (xs : List X) (i : ℕ) (y : Y) → slice_get (map f xs) i ≡ Some y → (x : X) × (slice_get xs i ≡ Some x) × (y ≡ f x)
got-map f [] i y e = cc e
got-map f (z ∷ zs) zero y e = let same : f z ≡ y = cc e in (z, refl, sym same)
got-map f (z ∷ zs) (suc i) y e = got-map f zs i y e

module _ {X : Type 0} (R : X → X → Type 0) where
  pub two-none : NoTwo R []
  two-none i j x y gx gy r = absurd (let no : None ≡ Some x = gx in cc no)

  pub two-one : (x : X) → NoTwo R (x ∷ [])
  two-one z zero zero x y gx gy r = refl
  two-one z zero (suc j) x y gx gy r = absurd (let no : None ≡ Some y = gy in cc no)
  two-one z (suc i) j x y gx gy r = absurd (let no : None ≡ Some x = gx in cc no)

  pub two-append : (xs ys : List X) → NoTwo R xs → NoTwo R ys → ((x y : X) → Has x xs → Has y ys → R x y → ⊥) → ((x y : X) → Has x xs → Has y ys → R y x → ⊥) → NoTwo R (xs ++ ys)
  two-append xs ys one two across back i j x y gx gy r = by (got-split xs ys i x gx) (got-split xs ys j y gy)
    where
      by : (slice_get xs i ≡ Some x) ⊎ ((k : ℕ) × (i ≡ length xs + k) × (slice_get ys k ≡ Some x)) → (slice_get xs j ≡ Some y) ⊎ ((k : ℕ) × (j ≡ length xs + k) × (slice_get ys k ≡ Some y)) → i ≡ j
      by (inl a) (inl b) = one i j x y a b r
      by (inl a) (inr b) = absurd (across x y (got-has xs i x a) (got-has ys b.0 y b.2) r)
      by (inr a) (inl b) = absurd (back y x (got-has xs j y b) (got-has ys a.0 x a.2) r)
      by (inr a) (inr b) = let same = two a.0 b.0 x y a.2 b.2 r in let p = a.1 in let q = b.1 in omega (arith, same, p, q)

  pub two-set : (xs : List X) (i : ℕ) (old new : X) → slice_get xs i ≡ Some old → NoTwo R xs → ((j : ℕ) (y : X) → slice_get xs j ≡ Some y → j ≢ i → R new y → ⊥) → ((j : ℕ) (y : X) → slice_get xs j ≡ Some y → j ≢ i → R y new → ⊥) → NoTwo R (slice_set xs i new)
  two-set xs i old new got all away back j k x y gx gy r = by (cases_Bool (eqb j i)) (cases_Bool (eqb k i))
    where
      is-new : (p : ℕ) (z : X) → p ≡ i → slice_get (slice_set xs i new) p ≡ Some z → z ≡ new
      is-new p z same g = let at : Some z ≡ Some new = sym (subst (λ (q : ℕ). slice_get (slice_set xs i new) q ≡ Some z) same g) ∙ got-set xs i old new got in cc at

      by : (eqb j i ≡ true) ⊎ (eqb j i ≡ false) → (eqb k i ≡ true) ⊎ (eqb k i ≡ false) → j ≡ k
      by (inl a) (inl b) = grind (arith, nat_tests, a, b)
      by (inl a) (inr b) =
          let same : j ≡ i = grind (arith, nat_tests, a) in
          let other : k ≢ i = grind (arith, nat_tests, b) in
          absurd (away k y (sym (got-set_other xs i k new other) ∙ gy) other (subst (λ (z : X). R z y) (is-new j x same gx) r))
      by (inr a) (inl b) =
          let same : k ≡ i = grind (arith, nat_tests, b) in
          let other : j ≢ i = grind (arith, nat_tests, a) in
          absurd (back j x (sym (got-set_other xs i j new other) ∙ gx) other (subst (λ (z : X). R x z) (is-new k y same gy) r))
      by (inr a) (inr b) =
          let other : j ≢ i = grind (arith, nat_tests, a) in
          let too : k ≢ i = grind (arith, nat_tests, b) in
          all j k x y (sym (got-set_other xs i j new other) ∙ gx) (sym (got-set_other xs i k new too) ∙ gy) r

pub two-map : {X Y : Type 0} (f : X → Y) (R : Y → Y → Type 0) (xs : List X) → NoTwo (λ (a b : X). R (f a) (f b)) xs → NoTwo R (map f xs)
two-map f R xs all i j x y gx gy r =
    let a = got-map f xs i x gx in
    let b = got-map f xs j y gy in
    all i j a.0 b.0 a.1 b.1 (subst (λ z. R (f a.0) z) b.2 (subst (λ z. R z y) a.2 r))

pub two-weaker : {X : Type 0} (R S : X → X → Type 0) (xs : List X) → ((x y : X) → Has x xs → Has y xs → R x y → S x y) → NoTwo S xs → NoTwo R xs
two-weaker R S xs weaker all i j x y gx gy r = all i j x y gx gy (weaker x y (got-has xs i x gx) (got-has xs j y gy) r)

-- ---- descriptors in force

find-same : {X : Type 0} (p q : X → Bool) (xs : List X) → ((x : X) → Has x xs → p x ≡ q x) → find p xs ≡ find q xs
find-same p q [] same = refl
find-same p q (x ∷ xs) same = elim (cases_Bool (q x)) [ inl t ↦ rw (same x (inl refl), t) refl | inr f ↦ rw (same x (inl refl), f) (find-same p q xs (λ y has. same y (inr has))) ]

pub force-more : (ds : List Schema) (e : Schema) (x : Time) → in_force (ds ++ e ∷ []) x ≡ (if time_le e.modified x then Some e else in_force ds x)
force-more ds e x = ap (find (λ (d : Schema). time_le d.modified x)) (reverse-append ds (e ∷ []))

pub force-late : (ds : List Schema) (c x : Time) → ((d : Schema) → Has d ds → time_le d.modified c ≡ true) → time_le c x ≡ true → in_force ds x ≡ in_force ds c
force-late ds c x dated le = find-same (λ (d : Schema). time_le d.modified x) (λ (d : Schema). time_le d.modified c) (reverse ds)
    (λ d has. le-trans d.modified c x (dated d (reverse-has ds d has)) le ∙ sym (dated d (reverse-has ds d has)))

pub named-late : (name : List ℕ × List ℕ) (ds : List Schema) (c x : Time) → ((d : Schema) → Has d ds → time_le d.modified c ≡ true) → time_le c x ≡ true → is_named name x ds ≡ is_named name c ds
named-late name ds c x dated le = ap (λ o. unwrap_or (option_map (has_name name) o) false) (force-late ds c x dated le)

named-if : (name : List ℕ × List ℕ) (ds : List Schema) (e : Schema) (x : Time) → is_named name x (ds ++ e ∷ []) ≡ unwrap_or (option_map (has_name name) (if time_le e.modified x then Some e else in_force ds x)) false
named-if name ds e x = ap (λ o. unwrap_or (option_map (has_name name) o) false) (force-more ds e x)

pub named-then : (name : List ℕ × List ℕ) (ds : List Schema) (e : Schema) (x : Time) → time_le e.modified x ≡ true → is_named name x (ds ++ e ∷ []) ≡ has_name name e
named-then name ds e x le = named-if name ds e x ∙ ap (λ (b : Bool). unwrap_or (option_map (has_name name) (if b then Some e else in_force ds x)) false) le

pub named-before : (name : List ℕ × List ℕ) (ds : List Schema) (e : Schema) (x : Time) → time_le e.modified x ≡ false → is_named name x (ds ++ e ∷ []) ≡ is_named name x ds
named-before name ds e x le = named-if name ds e x ∙ ap (λ (b : Bool). unwrap_or (option_map (has_name name) (if b then Some e else in_force ds x)) false) le

-- ---- names of tables

-- no table has the name at t
abbrev pub IsFree : List Table → Time → List ℕ × List ℕ → Type 0
IsFree tables t name = (j : ℕ) (other : Table) → slice_get tables j ≡ Some other → is_named name t other.descriptors ≡ true → ⊥

-- all descriptors are dated up to c
abbrev pub AreDatedUpTo : Time → List Table → Type 0
AreDatedUpTo c tables = (i : ℕ) (table : Table) → slice_get tables i ≡ Some table → (d : Schema) → Has d table.descriptors → time_le d.modified c ≡ true

module _ (tables : List Table) (c t : Time) (dated : AreDatedUpTo c tables) (after : time_lt c t ≡ true) (names : (x : Time) → NoTwo (ShareName x) tables) where
  -- from t on a table has the names that it has at t
  named-at : (j : ℕ) (other : Table) (name : List ℕ × List ℕ) (x : Time) → slice_get tables j ≡ Some other → time_le t x ≡ true → is_named name x other.descriptors ≡ true → is_named name t other.descriptors ≡ true
  named-at j other name x got le is =
      let c-t = lt-le c t after in
      named-late name other.descriptors c t (dated j other got) c-t ∙ (sym (named-late name other.descriptors c x (dated j other got) (le-trans c t x c-t le)) ∙ is)

  -- a further descriptor of one of them, whose name the table had or nobody
  pub names-described : (i : ℕ) (table : Table) (e : Schema) → slice_get tables i ≡ Some table → e.modified ≡ t
      → ((name : List ℕ × List ℕ) → has_name name e ≡ true → (is_named name t table.descriptors ≡ true) ⊎ IsFree tables t name) → (x : Time) → NoTwo (ShareName x) (slice_set tables i (described table e))
  names-described i table e got at own x = two-set (ShareName x) tables i table (described table e) got (names x)
      (λ j other there ne share. clash j other there ne share.0 share.1 share.2) (λ j other there ne share. clash j other there ne share.0 share.2 share.1)
    where
      clash : (j : ℕ) (other : Table) → slice_get tables j ≡ Some other → j ≢ i → (name : List ℕ × List ℕ) → is_named name x (table.descriptors ++ e ∷ []) ≡ true → is_named name x other.descriptors ≡ true → ⊥
      clash j other there ne name mine theirs = by (cases_Bool (time_le e.modified x))
        where
          by : (time_le e.modified x ≡ true) ⊎ (time_le e.modified x ≡ false) → ⊥
          by (inl le) =
              let there-at = named-at j other name x there (subst (λ (y : Time). time_le y x ≡ true) at le) theirs in
              ⊎_elim (λ had. ne (names t j i other table there got (name, there-at, had))) (λ free. free j other there there-at) (own name (sym (named-then name table.descriptors e x le) ∙ mine))
          by (inr not) = ne (names x j i other table there got (name, theirs, sym (named-before name table.descriptors e x not) ∙ mine))

  -- further tables, which have names from t on, and those are free
  pub names-more : (others : List Table) → ((x : Time) → NoTwo (ShareName x) others)
      → ((table : Table) → Has table others → (name : List ℕ × List ℕ) (x : Time) → is_named name x table.descriptors ≡ true → (time_le t x ≡ true) × IsFree tables t name) → (x : Time) → NoTwo (ShareName x) (tables ++ others)
  names-more others apart free x = two-append (ShareName x) tables others (names x) (apart x)
      (λ a b old new share. clash a b old new share.0 share.1 share.2) (λ a b old new share. clash a b old new share.0 share.2 share.1)
    where
      place : (xs : List Table) (a : Table) → Has a xs → (j : ℕ) × (slice_get xs j ≡ Some a)
      place [] a has = absurd has
      place (y ∷ ys) a (inl is) = (0, ap Some (sym is))
      place (y ∷ ys) a (inr has) = let p = place ys a has in (suc p.0, p.1)

      clash : (a b : Table) → Has a tables → Has b others → (name : List ℕ × List ℕ) → is_named name x a.descriptors ≡ true → is_named name x b.descriptors ≡ true → ⊥
      clash a b old new name mine theirs =
          let f = free b new name x theirs in
          let p = place tables a old in
          f.1 p.0 a p.1 (named-at p.0 a name x p.1 f.0 mine)
