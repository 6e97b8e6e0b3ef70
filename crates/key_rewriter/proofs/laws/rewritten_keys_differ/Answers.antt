use Rattle.key_rewriter.proofs.Rewrites.{keeps-differences}
use Rattle.key_rewriter.proofs.laws.rewritten_keys_differ.Goals as goal

pub returns : goal.returns
returns c = keeps-differences
