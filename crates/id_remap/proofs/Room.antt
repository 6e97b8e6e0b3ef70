-- Tables that no test refuses fit into the catalog.
use Rattle.std.proofs.Common.{◌≡◌, ◌+◌, ◌≤◌, nat_lt, Bool, true, false, refl, arith, List, [], ◌∷◌, length, Option, Some, None, if◌then◌else◌}
use Rattle.std.proofs.lemmas.Bool.Decides.{nat_tests}
use Rattle.mvcc_keys.specs.Times.{Time}
use Rattle.table_descriptors.specs.Descriptors.{Schema}
use Rattle.schema_catalog.specs.Catalogs.{Schemas}
use Rattle.id_remap.specs.declared.targets.Target.{Target}
use Rattle.id_remap.specs.declared.faults.RemapFault.{RemapFault}
use Rattle.id_remap.specs.declared.faults.RemapFault.TheVariants.{TooManyTables}
use Rattle.id_remap.specs.Remapping.{ids_of, missing_reference, absent_database, present_database, taken_name, lacks_ids, first_fault, remap_fault}

none-of : (a b c d e : Option RemapFault) → first_fault (a ∷ b ∷ c ∷ d ∷ e ∷ []) ≡ None → e ≡ None
none-of None None None None None n = refl
none-of (Some x) b c d e n = cc n
none-of None (Some x) c d e n = cc n
none-of None None (Some x) d e n = cc n
none-of None None None (Some x) e n = cc n
none-of None None None None (Some x) n = cc n

unless-limit : (b : Bool) → (if b then Some TooManyTables else None) ≡ None → b ≡ false
unless-limit false e = refl
unless-limit true e = cc e

pub room : (s : Schemas) (chosen : List Schema) (target : Target) (skip : Bool) (t : Time) → remap_fault s chosen target skip t ≡ None → length s.tables + length chosen ≤ s.limit
unfolding remap_fault
room s chosen target skip t none =
    let n = none-of (missing_reference (ids_of chosen) skip chosen) (absent_database s target chosen) (present_database s target) (taken_name s target t chosen) (lacks_ids s chosen) none in
    let fits : nat_lt s.limit (length s.tables + length chosen) ≡ false = unless-limit (nat_lt s.limit (length s.tables + length chosen)) n in
    grind (arith, nat_tests, fits)
