-- Versions stay within the number of descriptors that were made, so a next version can be.
use Rattle.std.proofs.Common.{◌≡◌, ◌⊎◌, inl, inr, ℕ, zero, suc, ◌+◌, ◌-◌, ◌<◌, ◌≤◌, nat_lt, refl, sym, ap, subst, arith, List, [], ◌∷◌, ◌++◌, Option, Some, None, unwrap_or, slice_get, slice_set}
use Rattle.std.proofs.lemmas.Bool.{cases_Bool}
use Rattle.mvcc_keys.specs.Times.{Time}
use Rattle.table_descriptors.specs.Descriptors.{Schema}
use Rattle.list_laws.specs.Members.{Has}
use Rattle.list_laws.proofs.Members.{has-append_cases}
use Rattle.history_model.specs.Histories.{in_force}
use Rattle.schema_catalog.specs.Catalogs.{Schemas, history_of, id_named, IsChangeable, AreChangeable, with_descriptor, dropped, drop_each}
use Rattle.cluster_core.specs.declared.cluster.Cluster.TheInside.{Inside}
use Rattle.cluster_core.specs.ClusterView.{AreWithin, IsSound}
use Rattle.cluster_core.specs.Finding.{found_in}
use Rattle.machine_model.proofs.Lists.{got-has}
use Rattle.cluster_core.proofs.Kept.{in_force-has}

pub found-force : (s : Schemas) (name : List ℕ × List ℕ) (t : Time) (id : ℕ) (d : Schema) → found_in s name t ≡ Some (id, d) → in_force (history_of s id) t ≡ Some d
found-force s name t id d e = by (id_named s name t) refl
  where
    pair : (i : ℕ) (x : Schema) → in_force (history_of s i) t ≡ Some x → ◌≡◌ {A = ℕ × Schema} (i, x) (id, d) → in_force (history_of s id) t ≡ Some d
    pair i x force p = let first : i ≡ id = ap (λ (y : ℕ × Schema). y.0) p in let second : x ≡ d = ap (λ (y : ℕ × Schema). y.1) p in rw (sym first, sym second) force

    some-pair : (x y : ℕ × Schema) → Some x ≡ Some y → x ≡ y
    some-pair x y p = cc p

    at : (i : ℕ) (r : Option Schema) → id_named s name t ≡ Some i → in_force (history_of s i) t ≡ r → in_force (history_of s id) t ≡ Some d
    at i None named force = let no : None ≡ Some (id, d) = rw (named, force) at e in cc no
    at i (Some x) named force = pair i x force (some-pair (i, x) (id, d) (rw (named, force) at e))

    by : (r : Option ℕ) → id_named s name t ≡ r → in_force (history_of s id) t ≡ Some d
    by None named = let no : None ≡ Some (id, d) = rw named at e in cc no
    by (Some i) named = at i (in_force (history_of s i) t) named refl

-- descriptors at a place, none past the end
got-within : (n : ℕ) (tables : List (List Schema)) (i : ℕ) (d : Schema) → AreWithin n tables → Has d (unwrap_or (slice_get tables i) []) → d.version ≤ n
got-within n tables i d within has = by (slice_get tables i) refl has
  where
    by : (r : Option (List Schema)) → slice_get tables i ≡ r → Has d (unwrap_or r []) → d.version ≤ n
    by None got none = absurd none
    by (Some ds) got is = within ds d (got-has tables i ds got) is

history-within : (n : ℕ) (s : Schemas) (id : ℕ) (d : Schema) → AreWithin n s.tables → Has d (history_of s id) → d.version ≤ n
history-within n s id d within has = elim (cases_Bool (nat_lt id 100)) [
  | inl low ↦ absurd (rw low at has)
  | inr high ↦ got-within n s.tables (id - 100) d within (rw high at has)
]

pub version-within : (n : ℕ) (s : Schemas) (name : List ℕ × List ℕ) (t : Time) (id : ℕ) (d : Schema) → AreWithin n s.tables → found_in s name t ≡ Some (id, d) → d.version ≤ n
version-within n s name t id d within e = history-within n s id d within (in_force-has (history_of s id) t d (found-force s name t id d e))

pub changeable : (n : ℕ) (s : Schemas) (name : List ℕ × List ℕ) (t : Time) (id : ℕ) (d : Schema) → AreWithin n s.tables → n ≤ 67108866 → found_in s name t ≡ Some (id, d) → IsChangeable s t id
changeable n s name t id d within small e = record {
  schema = d;
  found = found-force s name t id d e;
  version = (let bound = version-within n s name t id d within e in omega (arith, bound, small));
}

pub one-changeable : (n : ℕ) (s : Schemas) (name : List ℕ × List ℕ) (t : Time) (id : ℕ) (d : Schema) → AreWithin n s.tables → n ≤ 67108866 → found_in s name t ≡ Some (id, d) → AreChangeable s t (id ∷ [])
one-changeable n s name t id d within small e = record { each = (changeable n s name t id d within small e, tt); differ = refl }

pub one-dropped : (s : Schemas) (t : Time) (id : ℕ) (d : Schema) → in_force (history_of s id) t ≡ Some d → drop_each s t (id ∷ []) ≡ with_descriptor s (id - 100) (dropped d t)
one-dropped s t id d e = rw e refl

-- ---- a descriptor more

one-within : (n : ℕ) (d e : Schema) → e.version ≤ n → Has d (e ∷ []) → d.version ≤ n
one-within n d e small (inl is) = rw is small
one-within n d e small (inr none) = absurd none

has-set : {X : Type 0} (xs : List X) (i : ℕ) (x y : X) → Has y (slice_set xs i x) → Has y xs ⊎ (y ≡ x)
has-set [] i x y has = inl has
has-set (z ∷ zs) zero x y (inl e) = inr e
has-set (z ∷ zs) zero x y (inr more) = inl (inr more)
has-set (z ∷ zs) (suc i) x y (inl e) = inl (inl e)
has-set (z ∷ zs) (suc i) x y (inr more) = elim (has-set zs i x y more) [ inl there ↦ inl (inr there) | inr new ↦ inr new ]

pub within-described : (n m : ℕ) (s : Schemas) (place : ℕ) (e : Schema) → AreWithin n s.tables → n ≤ m → e.version ≤ m → AreWithin m (with_descriptor s place e).tables
within-described n m s place e within less small ds d has is = elim (has-set s.tables place _ ds has) [
  | inl there ↦ (let bound = within ds d there is in omega (arith, bound, less))
  | inr new ↦ elim (has-append_cases d (unwrap_or (slice_get s.tables place) []) (e ∷ []) (subst (Has d) new is)) [
    | inl old ↦ (let bound = got-within n s.tables place d within old in omega (arith, bound, less))
    | inr last ↦ one-within m d e small last
  ]
]

pub within-new : (n m : ℕ) (tables : List (List Schema)) (e : Schema) → AreWithin n tables → n ≤ m → e.version ≤ m → AreWithin m (tables ++ (e ∷ []) ∷ [])
within-new n m tables e within less small ds d has is = elim (has-append_cases ds tables ((e ∷ []) ∷ []) has) [
  | inl there ↦ (let bound = within ds d there is in omega (arith, bound, less))
  | inr new ↦ one new
]
  where
    one : Has ds ((e ∷ []) ∷ []) → d.version ≤ m
    one (inl same) = one-within m d e small (subst (Has d) same is)
    one (inr none) = absurd none

-- ---- a table with a descriptor more

-- what holds of a cluster's numbers holds after a command that described a table anew
pub redescribed-keeps : (c : Inside) (name : List ℕ × List ℕ) (at : Time) (id : ℕ) (d e : Schema) (schemas : Schemas) → IsSound c → c.changes < c.steps → found_in c.catalog name at ≡ Some (id, d)
    → (d.version ≤ c.changes + 2 → e.version ≤ c.changes + 1 + 2) → schemas ≡ with_descriptor c.catalog (id - 100) e → IsSound (record c { clock = at; catalog = schemas; changes = c.changes + 1 })
redescribed-keeps c name at id d e schemas sound less found version made = record {
  room = sound.room;
  versions = subst (λ (s : Schemas). AreWithin (c.changes + 1 + 2) s.tables) (sym made)
      (within-described (c.changes + 2) (c.changes + 1 + 2) c.catalog (id - 100) e sound.versions (omega arith) (version (version-within (c.changes + 2) c.catalog name at id d sound.versions found)));
  changes = omega (arith, less);
  steps = sound.steps;
  few = sound.few;
  jobs = sound.jobs;
}
