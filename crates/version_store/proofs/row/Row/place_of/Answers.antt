use Rattle.std.proofs.Common.{◌∙◌, arith}
use Rattle.version_store.proofs.row.Row.place_of.Goals as goal
use Rattle.version_store.proofs.RowParts.{place-beyond, place-within}

pub returns-then-place-newer-clause-place : goal.returns-then-place-newer-clause-place
returns-then-place-newer-clause-place c = place-within c.args.at c.as_slices.result.0.now c.as_slices.result.1.now c.args.self.now c.count_newer-place.result (c.as_slices.ensures.items ∙ c.self.view_is) c.count_newer-place.ensures.value c.if-place-newer.true

pub returns-clause-place : goal.returns-clause-place
returns-clause-place c = place-beyond c.args.at c.as_slices.result.0.now c.as_slices.result.1.now c.args.self.now c.count_newer-place.result c.count_newer.result (c.as_slices.ensures.items ∙ c.self.view_is) c.count_newer-place.ensures.value c.count_newer.ensures.value (omega (arith, c.if-place-newer.false))
