-- A change keeps the kinds of the key columns.
use Rattle.std.proofs.Common.{◌≡◌, ◌⊎◌, inl, inr, ℕ, ◌==◌, Bool, true, false, not, ◌&&◌, refl, ap, arith, List, [], ◌∷◌, ◌++◌, map, filter, Some, None, option_map, unwrap_or, if◌then◌else◌}
use Rattle.std.specs.List.{list_any, list_all, find}
use Rattle.std.specs.Str.{bytes_eq}
use Rattle.std.proofs.lemmas.Bool.Decides.{nat_tests}
use Rattle.mvcc_keys.specs.Times.{Time}
use Rattle.row_codec.specs.declared.rows.Kind.{Kind}
use Rattle.row_codec.specs.declared.rows.Kind.TheVariants.{Int}
use Rattle.table_descriptors.specs.declared.columns.Column.{Column}
use Rattle.table_descriptors.specs.declared.changes.Change.{Change}
use Rattle.table_descriptors.specs.declared.changes.Change.TheVariants.{Add, Remove, RenameColumn, Rename, Become}
use Rattle.table_descriptors.specs.Descriptors.{Schema, IsProperSchema, key_kinds, key_kind, kind_of, turned, has_id, is_column, is_key_name, bad_change, changed_schema, columns_after, renamed}
use Rattle.list_laws.specs.Members.{Has}
use Rattle.list_laws.proofs.Bools.{or-true}
use Rattle.list_laws.proofs.Filters.{any-none}

cases : (b : Bool) → (b ≡ true) ⊎ (b ≡ false)
cases true = inl refl
cases false = inr refl

find-front : {X : Type 0} (p : X → Bool) (xs ys : List X) → list_any p xs ≡ true → find p (xs ++ ys) ≡ find p xs
find-front p [] ys some = cc some
find-front p (x ∷ xs) ys some = elim (cases (p x)) [ inl t ↦ rw t refl | inr f ↦ rw f (find-front p xs ys (rw f at some)) ]

find-filter : {X : Type 0} (p q : X → Bool) (xs : List X) → ((x : X) → Has x xs → p x ≡ true → q x ≡ true) → find p (filter q xs) ≡ find p xs
find-filter p q [] all = refl
find-filter p q (x ∷ xs) all =
    let rest : find p (filter q xs) ≡ find p xs = find-filter p q xs (λ y has. all y (inr has)) in
    elim (cases (p x)) [
      | inl t ↦ rw (all x (inl refl) t, t) refl
      | inr f ↦ elim (cases (q x)) [ inl kept ↦ rw (kept, f) rest | inr out ↦ rw (out, f) rest ]
    ]

find-map : (p : Column → Bool) (r : Column → Column) (xs : List Column) → ((x : Column) → p (r x) ≡ p x) → ((x : Column) → (r x).kind ≡ x.kind) → option_map (λ (c : Column). c.kind) (find p (map r xs)) ≡ option_map (λ (c : Column). c.kind) (find p xs)
find-map p r [] same kinds = refl
find-map p r (x ∷ xs) same kinds = elim (cases (p x)) [ inl t ↦ rw (same x, t) (ap Some (kinds x)) | inr f ↦ rw (same x, f) (find-map p r xs same kinds) ]

pub all-has : {X : Type 0} (p : X → Bool) (xs : List X) (x : X) → list_all p xs ≡ true → Has x xs → p x ≡ true
all-has p [] x all has = absurd has
all-has p (y ∷ ys) x all has = elim (cases (p y)) [ inl t ↦ elim has [ inl e ↦ rw e t | inr more ↦ all-has p ys x (rw t at all) more ] | inr f ↦ (let no : false ≡ true = rw f at all in absurd cc) ]

has-id : (ids : List ℕ) (id : ℕ) → Has id ids → has_id id ids ≡ true
has-id [] id has = absurd has
has-id (x ∷ xs) id (inl e) = let t : (x == id) ≡ true = grind (arith, nat_tests, e) in rw t refl
has-id (x ∷ xs) id (inr more) = rw (has-id xs id more) (or-true (x == id))

map-same : (f g : ℕ → Kind) (ids : List ℕ) → ((id : ℕ) → Has id ids → f id ≡ g id) → map f ids ≡ map g ids
map-same f g [] same = refl
map-same f g (x ∷ xs) same = rw (same x (inl refl), map-same f g xs (λ id has. same id (inr has))) refl

kind-kept : (d : Schema) (change : Change) (id : ℕ) → bad_change d change ≡ None → Has id d.key_columns → is_column id d.columns ≡ true → kind_of (columns_after d change) id ≡ kind_of d.columns id
kind-kept d (Add name kind) id fine key there = ap (λ r. unwrap_or (option_map (λ (c : Column). c.kind) r) Int) (find-front (λ (c : Column). c.id == id) d.columns _ there)
kind-kept d (Remove name) id fine key there = ap (λ r. unwrap_or (option_map (λ (c : Column). c.kind) r) Int) (find-filter (λ (c : Column). c.id == id) (λ (c : Column). not (bytes_eq c.name name)) d.columns keeps)
  where
    no_key : is_key_name d name ≡ false
    no_key = elim (cases (is_key_name d name)) [ inl t ↦ (let no : Some 5 ≡ None = rw t at fine in cc no) | inr f ↦ f ]

    keeps : (c : Column) → Has c d.columns → (c.id == id) ≡ true → not (bytes_eq c.name name) ≡ true
    keeps c has is =
        let same : c.id ≡ id = grind (arith, nat_tests, is) in
        let of_key : has_id c.id d.key_columns ≡ true = rw same (has-id d.key_columns id key) in
        let both : (bytes_eq c.name name && has_id c.id d.key_columns) ≡ false = any-none (λ (c : Column). bytes_eq c.name name && has_id c.id d.key_columns) d.columns c no_key has in
        elim (cases (bytes_eq c.name name)) [ inl t ↦ (let no : true ≡ false = rw (t, of_key) at both in absurd cc) | inr f ↦ rw f refl ]
kind-kept d (RenameColumn from to) id fine key there = ap (λ r. unwrap_or r Int) (find-map (λ (c : Column). c.id == id) (renamed from to) d.columns (λ c. ap (λ (i : ℕ). i == id) (of-id c)) of-kind)
  where
    of-id : (c : Column) → (renamed from to c).id ≡ c.id
    of-id c = elim (cases (bytes_eq c.name from)) [ inl t ↦ rw t refl | inr f ↦ rw f refl ]

    of-kind : (c : Column) → (renamed from to c).kind ≡ c.kind
    of-kind c = elim (cases (bytes_eq c.name from)) [ inl t ↦ rw t refl | inr f ↦ rw f refl ]
kind-kept d (Rename to) id fine key there = refl
kind-kept d (Become state) id fine key there = refl

pub kinds-kept : (d : Schema) (change : Change) (at : Time) → IsProperSchema d → bad_change d change ≡ None → key_kinds (changed_schema d change at) ≡ key_kinds d
unfolding changed_schema
kinds-kept d change at proper fine =
    map-same (key_kind (changed_schema d change at)) (key_kind d) d.key_columns
    (λ id has. ap (λ (k : Kind). if has_id id d.down then turned k else k) (kind-kept d change id fine has (all-has (λ i. is_column i d.columns) d.key_columns id proper.key_columns has)))
