use Rattle.std.proofs.Common.{◌≡◌, ◌∙◌, refl, ap, map, None}
use Rattle.std.proofs.lemmas.List.{map-id}
use Rattle.row_codec.specs.RowKeys.{are_of_kinds}
use Rattle.table_descriptors.specs.Descriptors.{key_kinds}
use Rattle.list_laws.proofs.Members.{has-map}
use Rattle.history_model.specs.Rows.{Key}
use Rattle.history_model.specs.RowTests.{repeated_key}
use Rattle.table_rows.specs.RowTables.{deletion}
use Rattle.table_rows.proofs.Lists.{passes, has-at}
use Rattle.table_rows.proofs.Coded.{none-added}
use Rattle.table_rows.proofs.Runs.{next-may, next-has, front-has, all-has}
use Rattle.table_rows.proofs.Passed.{keys-passed, err-always}
use Rattle.table_rows.proofs.rows.TableRows.delete.Goals as goal

pub returns-in_err-kinds-clause-part : goal.returns-in_err-kinds-clause-part
returns-in_err-kinds-clause-part g c = err-always c.from_residual.result (λ T has kinds may. record { n = 0; rows = none-added _ T c.args.d.now.id has })

pub delete_key-requires-clause-kinds : goal.delete_key-requires-clause-kinds
delete_key-requires-clause-kinds g c = c.deref.ensures.value ∙ c.in_ok-kinds.ensures

pub delete_key-requires-clause-fits : goal.delete_key-requires-clause-fits
delete_key-requires-clause-fits g c = passes (are_of_kinds (key_kinds c.args.d.now)) c.args.keys.now c.loop-key.key-index c.key-item.result (keys-passed c.args.d.now c.args.keys.now c.requires).0 c.loop-key-test.true c.key-item.is

pub returns-in_err-delete_key-clause-part : goal.returns-in_err-delete_key-clause-part
returns-in_err-delete_key-clause-part g c = err-always c.from_residual-in_err-delete_key.result (λ T has kinds may.
    front-has T c.args.d.now (deletion c.args.at) (λ k. k) c.args.keys.now kinds (ap (repeated_key c.args.d.now) (map-id c.args.keys.now) ∙ (keys-passed c.args.d.now c.args.keys.now c.requires).1)
    (λ k. refl) (λ cmp k x. refl) (λ ks x is. is) (g.V.Versions.stands c.delete_key.new.self) c.loop-key.key-index (c.in_err-delete_key.ensures.kept _ (c.loop-key.invariant T has kinds may)))

pub loop-key-preserved : goal.loop-key-preserved
loop-key-preserved g c = (λ T has kinds may.
    let d = c.args.d.now in
    let once : repeated_key d (map (λ (k : Key). k) c.args.keys.now) ≡ None = ap (repeated_key d) (map-id c.args.keys.now) ∙ (keys-passed d c.args.keys.now c.requires).1 in
    let front = c.loop-key.invariant T has kinds may in
    let next = may (deletion c.args.at c.key-item.result) (has-map (deletion c.args.at) c.key-item.result c.args.keys.now (has-at c.args.keys.now c.loop-key.key-index c.key-item.result c.loop-key-test.true c.key-item.is)) in
    next-has T d (deletion c.args.at) (λ k. k) c.args.keys.now kinds once (λ k. refl) (λ cmp k x. refl) (λ ks x is. is) (g.V.Versions.stands c.delete_key.new.self) c.loop-key.key-index c.key-item.result c.loop-key-test.true c.key-item.is
    (c.in_ok-delete_key.ensures.added _ front kinds
    (next-may T d (deletion c.args.at) (λ k. k) c.args.keys.now kinds once (λ k. refl) (λ cmp k x. refl) (λ ks x is. is) (g.V.Versions.stands c.loop-key.self) c.loop-key.key-index c.key-item.result c.loop-key-test.true c.key-item.is front next)))

pub returns-clause-added : goal.returns-clause-added
returns-clause-added g c = (λ T has kinds may.
    all-has T c.args.d.now (deletion c.args.at) (λ k. k) c.args.keys.now kinds (ap (repeated_key c.args.d.now) (map-id c.args.keys.now) ∙ (keys-passed c.args.d.now c.args.keys.now c.requires).1)
    (λ k. refl) (λ cmp k x. refl) (λ ks x is. is) (g.V.Versions.stands c.loop-key.self) c.loop-key.key-index c.loop-key-test.false (c.loop-key.invariant T has kinds may))
