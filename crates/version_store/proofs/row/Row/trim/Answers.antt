use Rattle.std.proofs.Common.{◌∙◌, ap, sym, List}
use Rattle.version_store.specs.Rows.{count_left}
use Rattle.version_store.specs.declared.row.Version.{Version}
use Rattle.version_store.proofs.row.Row.trim.Goals as goal
use Rattle.version_store.proofs.RowChanges.{left}

pub returns : goal.returns
returns c = rw (← c.self.view_is) (left c.args.g c.args.cover c.self.inside.versions.items _ c.count_left-left.result (c.count_left-left.ensures ∙ ap (λ (vs : List Version). count_left c.args.g c.args.cover vs) (sym c.self.view_is)) c.truncate.ensures.items)
