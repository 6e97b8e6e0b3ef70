use Rattle.key_rewriter.proofs.Rewrites.{keeps-order}
use Rattle.key_rewriter.proofs.laws.rewritten_keys_keep_their_order.Goals as goal

pub returns : goal.returns
returns c = keeps-order
