use Rattle.std.proofs.Common.{length, ◌∙◌}
use Rattle.row_codec.proofs.KeyTests.{tests-tell}
use Rattle.row_codec.proofs.checks.check_row_key.Goals as goal

pub returns : goal.returns
returns c = c.is_key.ensures (length c.args.b.now) ∙ tests-tell c.args.table c.args.kinds.now c.args.b.now
