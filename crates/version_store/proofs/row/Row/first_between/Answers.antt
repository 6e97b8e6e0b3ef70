use Rattle.std.proofs.Common.{◌∙◌, ap, sym, Bor, option_map}
use Rattle.version_store.specs.declared.row.Version.{Version}
use Rattle.version_store.proofs.row.Row.first_between.Goals as goal
use Rattle.version_store.proofs.RowParts.{between-newer, between-older}

pub returns-in-Some : goal.returns-in-Some
returns-in-Some c = between-newer c.args.from c.args.upto.now c.as_slices.result.0.now c.as_slices.result.1.now c.args.self.now c.in-Some.version.now (c.as_slices.ensures.items ∙ c.self.view_is) (ap (option_map (λ (v : Bor Version). v.now)) (sym c.in-Some.is) ∙ c.first_within.ensures)

pub returns-in-None : goal.returns-in-None
returns-in-None c = between-older c.args.from c.args.upto.now c.as_slices.result.0.now c.as_slices.result.1.now c.args.self.now _ (c.as_slices.ensures.items ∙ c.self.view_is) (ap (option_map (λ (v : Bor Version). v.now)) (sym c.in-None.is) ∙ c.first_within.ensures) c.first_within-in-None.ensures
