-- RESTORE DATABASE: its tests, and the rows that it reads.
use Rattle.std.proofs.Common.{◌≡◌, List, [], ◌∷◌, map, length, Option, Some, None, refl, sym, ap, subst, ◌∙◌, arith, Result, Err, IsErrAnd}
use Rattle.std.specs.Prelude.{IfErr, IfOk}
use Rattle.std.proofs.lemmas.Result.{err_from_is_err_and}
use Rattle.std.specs.Global.{Vec}
use Rattle.std.proofs.lemmas.List.{length-map}
use Rattle.std.proofs.lemmas.List.Sums.{sum_by-cons}
use Rattle.mvcc_keys.specs.Times.{Time}
use Rattle.mvcc_keys.specs.declared.entries.Entry.{Entry}
use Rattle.table_descriptors.specs.Descriptors.{Schema, key_kinds}
use Rattle.history_model.specs.Histories.{Table}
use Rattle.layer_chains.specs.Chains.{stored_put}
use Rattle.reply_texts.specs.declared.refusals.Refusal.{Refusal}
use Rattle.machine_model.specs.Machine.{first_refusal}
use Rattle.machine_model.specs.Restores.{count_to_restore, rows_to_restore}
use Rattle.cluster_core.specs.declared.halts.Halt.{Halt}
use Rattle.cluster_core.specs.declared.halts.Halt.TheVariants.{Refused, Disk, Memory}
use Rattle.cluster_core.specs.Standing.{RefusedBy}
use Rattle.cluster_core.specs.Chains.{entries_in, stored_rows}
use Rattle.cluster_core.specs.Restoring.{count_rows, entries_of}
use Rattle.cluster_core.specs.Restores.{EndsBy, IsHard}

-- ---- tests

early : (a b more : Option Refusal) (r : Refusal) → first_refusal (a ∷ b ∷ []) ≡ Some r → first_refusal (a ∷ b ∷ more ∷ []) ≡ Some r
early None None more r e = cc e
early None (Some x) more r e = e
early (Some x) b more r e = e

pub ends-early : (a b more : Option Refusal) (e : Halt) → RefusedBy e (first_refusal (a ∷ b ∷ [])) → EndsBy e (first_refusal (a ∷ b ∷ more ∷ []))
ends-early a b more (Refused r) is = early a b more r is
ends-early a b more Disk is = absurd is
ends-early a b more Memory is = tt

pub ends-hard : (e : Halt) (test : Option Refusal) → IsHard e → EndsBy e test
ends-hard (Refused r) test hard = absurd hard
ends-hard Disk test hard = tt
ends-hard Memory test hard = tt

pub ends-late : (a b test : Option Refusal) (e : Halt) → a ≡ None → b ≡ None → RefusedBy e test → EndsBy e (first_refusal (a ∷ b ∷ test ∷ []))
ends-late a b test (Refused r) first second is = rw (first, second, is) refl
ends-late a b test Disk first second is = absurd is
ends-late a b test Memory first second is = tt

pub ended : {T : Type 0} (P : T → Type 0) (Q : Halt → Type 0) (r : Result T Halt) (e : Halt) → IsErrAnd r (λ y. y ≡ e) → Q e → IfOk r P × IfErr r Q
ended P Q r e is q = let w = err_from_is_err_and r is in subst (λ (x : Result _ Halt). IfOk x P × IfErr x Q) (sym (w.1 ∙ ap Err w.2)) (tt, q)

-- ---- rows

count-stored : (tables : List Table) (t : Time) (chosen : List Schema) → count_rows (map (stored_rows tables t) chosen) ≡ count_to_restore tables t chosen
count-stored tables t [] = refl
count-stored tables t (d ∷ ds) =
    let a = sum_by-cons (λ (es : List Entry). length es) (stored_rows tables t d) (map (stored_rows tables t) ds) in
    let b = sum_by-cons (λ (x : Schema). length (rows_to_restore tables t x)) d ds in
    let n = length-map (rows_to_restore tables t d) (stored_put d.id (key_kinds d)) in
    let more = count-stored tables t ds in
    omega (arith, a, b, n, more)

pub count-is : (tables : List Table) (t : Time) (chosen : List Schema) (rows : List (Vec Entry)) → map entries_in rows ≡ map (stored_rows tables t) chosen → count_rows (entries_of rows) ≡ count_to_restore tables t chosen
count-is tables t chosen rows are = ap count_rows are ∙ count-stored tables t chosen
