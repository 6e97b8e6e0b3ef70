-- Tables by their ids.
use Rattle.std.proofs.Common.{◌≡◌, ℕ, zero, suc, ◌+◌, ◌-◌, ◌<◌, nat_lt, Bool, true, false, sym, refl, ap, ◌∙◌, arith, List, [], ◌∷◌, length, Option, Some, None, slice_get, unwrap_or, if◌then◌else◌}
use Rattle.std.proofs.lemmas.Bool.Decides.{nat_tests}
use Rattle.mvcc_keys.specs.Times.{Time}
use Rattle.table_descriptors.specs.declared.changes.Change.{Change}
use Rattle.table_descriptors.specs.Descriptors.{Schema, changed_schema}
use Rattle.history_model.specs.Histories.{in_force}
use Rattle.schema_catalog.specs.Catalogs.{Schemas, history_of, IsTableId}

got : (xs : List (List Schema)) (i : ℕ) (t : Time) (d : Schema) → in_force (unwrap_or (slice_get xs i) []) t ≡ Some d → i < length xs
got [] i t d e = cc e
got (x ∷ xs) zero t d e = omega arith
got (x ∷ xs) (suc i) t d e = let more : i < length xs = got xs i t d e in omega (arith, more)

-- a table with a descriptor is there
pub table_there : (s : Schemas) (id : ℕ) (t : Time) (d : Schema) → in_force (history_of s id) t ≡ Some d → IsTableId s id
table_there s id t d e = by (nat_lt id 100) refl
  where
    by : (b : Bool) → nat_lt id 100 ≡ b → IsTableId s id
    by true l = let no : None ≡ Some d = sym (ap (λ (b : Bool). in_force (if b then [] else unwrap_or (slice_get s.tables (id - 100)) []) t) l) ∙ e in cc no
    by false l = (grind (arith, nat_tests, l), got s.tables (id - 100) t d (sym (ap (λ (b : Bool). in_force (if b then [] else unwrap_or (slice_get s.tables (id - 100)) []) t) l) ∙ e))

pub next-version : (d : Schema) (change : Change) (at : Time) → (changed_schema d change at).version ≡ d.version + 1
unfolding changed_schema
next-version d change at = refl

pub one-schema : (x y : Schema) (r : Option Schema) → Some x ≡ r → r ≡ Some y → x ≡ y
one-schema x y r p q = let e : Some x ≡ Some y = p ∙ q in cc e
