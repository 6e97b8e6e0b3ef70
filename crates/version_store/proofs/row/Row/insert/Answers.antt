use Rattle.std.proofs.Common.{◌∙◌, ap, sym, List}
use Rattle.list_laws.proofs.Results.{on-ok}
use Rattle.version_store.specs.Rows.{count_newer}
use Rattle.version_store.specs.declared.row.Version.{Version}
use Rattle.version_store.proofs.row.Row.insert.Goals as goal
use Rattle.version_store.proofs.RowChanges.{inserted}

pub returns-clause-ok : goal.returns-clause-ok
returns-clause-ok c = rw (← c.self.view_is) (inserted c.args.version c.self.inside.versions.items _ c.place_of-place.result (c.place_of-place.ensures.place ∙ ap (λ (vs : List Version). count_newer c.args.version.at vs) (sym c.self.view_is)) (on-ok c.insert.result _ (sym c.is_err-refused.ensures.value ∙ c.if-refused.false) c.insert.ensures.items))
