use Rattle.span_export.proofs.Exact.{entries-exact}
use Rattle.span_export.proofs.laws.entries_are_exact.Goals as goal

pub returns : goal.returns
returns c = entries-exact
