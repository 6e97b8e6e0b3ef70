use Rattle.std.proofs.Common.{sym, ap, ◌∙◌}
use Rattle.std.specs.Option.{option_copied}
use Rattle.introduced_spans.specs.Spans.{descriptors_of}
use Rattle.cluster_core.proofs.Names.{none-named}
use Rattle.cluster_core.proofs.finding.has_one_of.Goals as goal

pub returns-in-None : goal.returns-in-None
returns-in-None c = none-named c.args.names.now c.args.t (descriptors_of c.args.catalog.now.tables c.args.id) (sym c.at.ensures ∙ ap option_copied c.in-None.is)
