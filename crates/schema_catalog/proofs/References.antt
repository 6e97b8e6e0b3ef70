-- Names that differ belong to different tables.
use Rattle.std.proofs.Common.{◌≡◌, ℕ, ◌<◌, ◌==◌, ◌&&◌, ◌||◌, not, nat_le, nat_lt, Bool, true, false, sym, refl, ap, ap₂, ◌∙◌, arith, List, [], ◌∷◌, length, get_or, Option, Some, None, option_map, unwrap_or, is_some, if◌then◌else◌}
use Rattle.std.proofs.lemmas.Bool.{eqb-true}
use Rattle.std.proofs.lemmas.Bool.Decides.{nat_tests}
use Rattle.std.proofs.lemmas.List.Quantifiers.{position-Some}
use Rattle.std.proofs.lemmas.Slice.Eq.{bytes_eq-Decides}
use Rattle.std.specs.List.{list_any}
use Rattle.std.specs.Str.{bytes_eq}
use Rattle.mvcc_keys.specs.Times.{Time}
use Rattle.row_codec.specs.declared.rows.Kind.{Kind}
use Rattle.row_codec.proofs.KeyOrder.{both_true}
use Rattle.table_descriptors.specs.Descriptors.{Schema, repeats, repeats_id, repeats_column, repeats_key_column, are_columns, broken_rule, bad_schema}
use Rattle.history_model.specs.Histories.{in_force, is_dropped, has_name, is_named, place_named}
use Rattle.schema_catalog.specs.declared.faults.CatalogFault.{CatalogFault}
use Rattle.schema_catalog.specs.declared.faults.CatalogFault.TheVariants.{NoSuchDatabase, NameTaken, TooManyTables}
use Rattle.schema_catalog.specs.Catalogs.{Schemas, id_at, has_database, first_fault, fault_if, schema_fault, is_same_name, missing_fault, offline_fault, table_fault, reference_ids}
use Rattle.list_laws.proofs.Options.{some-is}
use Rattle.list_laws.proofs.Bools.{or-neither}

abbrev Name : Type 0
Name = List ℕ × List ℕ

named-by : (n : Name) (r : Option Schema) → unwrap_or (option_map (has_name n) r) false ≡ true → (d : Schema) × (r ≡ Some d) × (bytes_eq d.database n.0 ≡ true) × (bytes_eq d.name n.1 ≡ true)
named-by n None e = cc e
named-by n (Some d) e =
    let p = both_true (bytes_eq d.database n.0 && bytes_eq d.name n.1) (not (is_dropped d.state)) e in
    let q = both_true (bytes_eq d.database n.0) (bytes_eq d.name n.1) p.0 in
    (d, refl, q.0, q.1)

same-text : (a b c : List ℕ) → bytes_eq a b ≡ true → bytes_eq a c ≡ true → bytes_eq b c ≡ true
same-text a b c p q = (bytes_eq-Decides b c).1 (sym ((bytes_eq-Decides a b).0 p) ∙ (bytes_eq-Decides a c).0 q)

-- two names that belong to one table are the same
same-name : (tables : List (List Schema)) (t : Time) (m n : Name) (i : ℕ) → place_named tables m t ≡ Some i → place_named tables n t ≡ Some i → is_same_name m n ≡ true
same-name tables t m n i p q =
    let a = named-by m (in_force (get_or tables i []) t) (position-Some (is_named m t) tables i [] p).1 in
    let b = named-by n (in_force (get_or tables i []) t) (position-Some (is_named n t) tables i [] q).1 in
    let d : a.0 ≡ b.0 = some-is a.0 b.0 (sym a.1 ∙ b.1) in
    ap₂ (λ (x y : Bool). x && y)
    (same-text b.0.database m.0 n.0 (ap (λ (s : Schema). bytes_eq s.database m.0) (sym d) ∙ a.2) b.2)
    (same-text b.0.name m.1 n.1 (ap (λ (s : Schema). bytes_eq s.name m.1) (sym d) ∙ a.3) b.3)

module _ (s : Schemas) (t : Time) where
  -- the table of a name is none of those of other names
  other-ids : (n : Name) (i : ℕ) (ms : List Name) → place_named s.tables n t ≡ Some i → list_any (λ m. is_same_name m n) ms ≡ false → list_any (λ y. y == id_at i) (reference_ids s t ms) ≡ false
  other-ids n i [] p none = refl
  other-ids n i (m ∷ ms) p none = by (place_named s.tables m t) refl (other-ids n i ms p (or-neither (is_same_name m n) (list_any (λ m. is_same_name m n) ms) none).1)
    where
      apart : (j : ℕ) → place_named s.tables m t ≡ Some j → (b : Bool) → id_at j == id_at i ≡ b → b ≡ false
      apart j e false q = refl
      apart j e true q =
          let ids : id_at j ≡ id_at i = eqb-true (id_at j) (id_at i) q in
          let same : j ≡ i = omega (arith, ids) in
          let no : true ≡ false = sym (same-name s.tables t m n i (e ∙ ap (λ (k : ℕ). Some k) same) p) ∙ (or-neither (is_same_name m n) (list_any (λ m. is_same_name m n) ms) none).0 in
          cc no

      by : (r : Option ℕ) → place_named s.tables m t ≡ r → list_any (λ y. y == id_at i) (reference_ids s t ms) ≡ false → list_any (λ y. y == id_at i) (reference_ids s t (m ∷ ms)) ≡ false
      by None e rest = rw (e) rest
      by (Some j) e rest = rw (e) (ap₂ (λ (x y : Bool). x || y) (apart j e (id_at j == id_at i) refl) rest)

  -- names that differ have ids that differ
  differ : (ms : List Name) → repeats is_same_name ms ≡ false → repeats_id (reference_ids s t ms) ≡ false
  differ [] none = refl
  differ (n ∷ ms) none =
      let p = or-neither (list_any (λ y. is_same_name y n) ms) (repeats is_same_name ms) none in
      by (place_named s.tables n t) refl p.0 (differ ms p.1)
    where
      by : (r : Option ℕ) → place_named s.tables n t ≡ r → list_any (λ y. is_same_name y n) ms ≡ false → repeats_id (reference_ids s t ms) ≡ false → repeats_id (reference_ids s t (n ∷ ms)) ≡ false
      by None e none rest = rw (e) rest
      by (Some i) e none rest = rw (e) (ap₂ (λ (x y : Bool). x || y) (other-ids n i ms e none) rest)

-- ---- a table that no test refuses

-- no reference is repeated where no rule is broken
rule-once : (columns : List (List ℕ × Kind)) (key : List (List ℕ × Bool)) (b : Bool) → broken_rule columns key b ≡ None → b ≡ false
rule-once columns key false e = refl
rule-once columns key true e = by (repeats_column columns) (not (are_columns columns key)) (repeats_key_column key) (nat_lt 64 (length columns)) e
  where
    first : Bool → Bool → Bool → Bool → Option ℕ
    first a b c d = if a then Some 1 else (if b then Some 2 else (if c then Some 3 else (if d then Some 4 else Some 8)))

    by : (a b c d : Bool) → first a b c d ≡ None → true ≡ false
    by true b c d e = cc e
    by false true c d e = cc e
    by false false true d e = cc e
    by false false false true e = cc e
    by false false false false e = cc e

none-of : (a b c d e f : Option CatalogFault) → first_fault (a ∷ b ∷ c ∷ d ∷ e ∷ f ∷ []) ≡ None → (c ≡ None) × (f ≡ None)
none-of None None None None None None n = (refl, refl)
none-of (Some x) b c d e f n = cc n
none-of None (Some x) c d e f n = cc n
none-of None None (Some x) d e f n = cc n
none-of None None None (Some x) e f n = cc n
none-of None None None None (Some x) f n = cc n
none-of None None None None None (Some x) n = cc n

no-rule : (r : Option ℕ) → schema_fault r ≡ None → r ≡ None
no-rule None e = refl
no-rule (Some w) e = cc e

unless-limit : (b : Bool) → fault_if b TooManyTables ≡ None → b ≡ false
unless-limit false e = refl
unless-limit true e = cc e

-- the rules hold of the ids where they hold of the names, and there is an id left
pub table_fits : (s : Schemas) (t : Time) (name : Name) (columns : List (List ℕ × Kind)) (key : List (List ℕ × Bool)) (references : List Name) → table_fault s t name columns key references ≡ None
    → (bad_schema columns key (reference_ids s t references) ≡ None) × (length s.tables < s.limit)
unfolding table_fault
table_fits s t name columns key references none =
    let n = none-of (fault_if (not (has_database s name.0)) (NoSuchDatabase name.0)) (fault_if (is_some (place_named s.tables name t)) (NameTaken name))
    (schema_fault (broken_rule columns key (repeats is_same_name references))) (missing_fault s t references) (offline_fault s t references) (fault_if (nat_le s.limit (length s.tables)) TooManyTables) none in
    let rule : broken_rule columns key (repeats is_same_name references) ≡ None = no-rule (broken_rule columns key (repeats is_same_name references)) n.0 in
    let room : nat_le s.limit (length s.tables) ≡ false = unless-limit (nat_le s.limit (length s.tables)) n.1 in
    let once : repeats is_same_name references ≡ false = rule-once columns key (repeats is_same_name references) rule in
    (ap (broken_rule columns key) (differ s t references once ∙ sym once) ∙ rule, grind (arith, nat_tests, room))
