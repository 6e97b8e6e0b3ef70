use Rattle.std.proofs.Common.{sym, ◌∙◌}
use Rattle.chunk_file.proofs.EntryLaws.{length-counted, length-uncounted}
use Rattle.chunk_file.proofs.writing.mvcc_len.Goals as goal

pub returns-then-logical-eq0 : goal.returns-then-logical-eq0
returns-then-logical-eq0 c = length-uncounted c.args.key.now c.args.at (sym c.logical.ensures.value ∙ c.if-logical-eq0.true)

pub returns-else-logical-eq0 : goal.returns-else-logical-eq0
returns-else-logical-eq0 c = length-counted c.args.key.now c.args.at (λ e. c.if-logical-eq0.false (c.logical.ensures.value ∙ e))
