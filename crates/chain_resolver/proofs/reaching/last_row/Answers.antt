use Rattle.std.proofs.Common.{◌≡◌, ◌+◌, suc, arith, ◌∙◌}
use Rattle.chain_resolver.proofs.Covers.{reach-next}
use Rattle.chain_resolver.proofs.reaching.last_row.Goals as goal

pub loop-k-preserved : goal.loop-k-preserved
loop-k-preserved c =
    let same : c.loop-k.k + 1 ≡ suc c.loop-k.k = omega arith in
    reach-next c.args.layers.now c.loop-k.k (c.loop-k.k + 1) c.as_slice.result.now c.in_ok-row-2.row same (c.as_slice.ensures ∙ c.loop-k.invariant) c.in_ok-row-2.ensures
