use Rattle.std.proofs.Common.{length, ◌∙◌, ap, List}
use Rattle.mvcc_keys.specs.Times.{Time, latest, or_zero}
use Rattle.chain_resolver.proofs.Covers.{marked-reached}
use Rattle.chain_resolver.proofs.reaching.reached_before.Goals as goal

pub returns : goal.returns
returns c =
    c.time_or_zero.ensures ∙ ap or_zero c.latest.ensures ∙ ap (λ (ts : List Time). or_zero (latest ts))
    (c.as_slice-2.ensures.value ∙ c.in_ok-times.ensures ∙ marked-reached c.args.layers.now c.args.t (length c.args.layers.now) c.as_slice.result.now (c.as_slice.ensures ∙ c.in_ok-row.ensures))
