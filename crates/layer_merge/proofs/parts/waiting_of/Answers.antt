-- One part more.
use Rattle.std.proofs.Common.{◌≡◌, false, refl, is_err}
use Rattle.layer_merge.proofs.StartLaws.{pushed-part}
use Rattle.layer_merge.proofs.NewMerges.{waiting-more}
use Rattle.layer_merge.proofs.parts.waiting_of.Goals as goal

pub loop-part-preserved : goal.loop-part-preserved
loop-part-preserved c =
    let e : is_err c.push_back.result ≡ false = cc in
    waiting-more c.args.wanted.now c.args.parts.now c.loop-part.part-index c.part-item.result _ _ _ c.loop-part-test.true c.part-item.is c.loop-part.invariant (pushed-part _ _ _ _ e c.push_back.ensures.items) refl c.in-Ok.ensures
