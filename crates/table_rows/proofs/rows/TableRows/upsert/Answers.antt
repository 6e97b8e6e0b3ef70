use Rattle.std.proofs.Common.{◌∙◌, refl}
use Rattle.list_laws.proofs.Members.{has-map}
use Rattle.history_model.specs.Rows.{key_of, put_of, wrong_column}
use Rattle.table_rows.proofs.Lists.{right, has-at}
use Rattle.table_rows.proofs.Coded.{none-added}
use Rattle.table_rows.proofs.Runs.{next-may, next-has, front-has, all-has}
use Rattle.table_rows.proofs.Passed.{rows-passed, err-always}
use Rattle.table_rows.proofs.rows.TableRows.upsert.Goals as goal

pub returns-in_err-kinds-clause-part : goal.returns-in_err-kinds-clause-part
returns-in_err-kinds-clause-part g c = err-always c.from_residual.result (λ T has kinds may. record { n = 0; rows = none-added _ T c.args.d.now.id has })

pub put_row-requires-clause-kinds : goal.put_row-requires-clause-kinds
put_row-requires-clause-kinds g c = c.deref.ensures.value ∙ c.in_ok-kinds.ensures

pub put_row-requires-clause-fits : goal.put_row-requires-clause-fits
put_row-requires-clause-fits g c = right (wrong_column c.args.d.now) 1 c.args.rows.now c.loop-row.row-index c.row-item.result (rows-passed c.args.d.now c.args.rows.now c.requires).0 c.loop-row-test.true c.row-item.is

pub returns-in_err-put_row-clause-part : goal.returns-in_err-put_row-clause-part
returns-in_err-put_row-clause-part g c = err-always c.from_residual-in_err-put_row.result (λ T has kinds may.
    front-has T c.args.d.now (put_of c.args.d.now c.args.at) (key_of c.args.d.now) c.args.rows.now kinds (rows-passed c.args.d.now c.args.rows.now c.requires).1
    (λ r. refl) (λ cmp k r. refl) (λ ks r is. is.0) (g.V.Versions.stands c.put_row.new.self) c.loop-row.row-index (c.in_err-put_row.ensures.kept _ (c.loop-row.invariant T has kinds may)))

pub loop-row-preserved : goal.loop-row-preserved
loop-row-preserved g c = (λ T has kinds may.
    let d = c.args.d.now in
    let once = (rows-passed d c.args.rows.now c.requires).1 in
    let front = c.loop-row.invariant T has kinds may in
    let next = may (put_of d c.args.at c.row-item.result) (has-map (put_of d c.args.at) c.row-item.result c.args.rows.now (has-at c.args.rows.now c.loop-row.row-index c.row-item.result c.loop-row-test.true c.row-item.is)) in
    next-has T d (put_of d c.args.at) (key_of d) c.args.rows.now kinds once (λ r. refl) (λ cmp k r. refl) (λ ks r is. is.0) (g.V.Versions.stands c.put_row.new.self) c.loop-row.row-index c.row-item.result c.loop-row-test.true c.row-item.is
    (c.in_ok-put_row.ensures.added _ front kinds
    (next-may T d (put_of d c.args.at) (key_of d) c.args.rows.now kinds once (λ r. refl) (λ cmp k r. refl) (λ ks r is. is.0) (g.V.Versions.stands c.loop-row.self) c.loop-row.row-index c.row-item.result c.loop-row-test.true c.row-item.is front next)))

pub returns-clause-added : goal.returns-clause-added
returns-clause-added g c = (λ T has kinds may.
    all-has T c.args.d.now (put_of c.args.d.now c.args.at) (key_of c.args.d.now) c.args.rows.now kinds (rows-passed c.args.d.now c.args.rows.now c.requires).1
    (λ r. refl) (λ cmp k r. refl) (λ ks r is. is.0) (g.V.Versions.stands c.loop-row.self) c.loop-row.row-index c.loop-row-test.false (c.loop-row.invariant T has kinds may))
