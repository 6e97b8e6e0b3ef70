use Rattle.stored_chunks.proofs.MergeParts.{parts-more}
use Rattle.stored_chunks.proofs.parts.merge_parts.Goals as goal

pub loop-place-preserved : goal.loop-place-preserved
loop-place-preserved c = parts-more c.loop-place.place c.args.parts.now _ _ _ _ c.loop-place-test.true c.index-parts-place.is c.loop-place.invariant c.in_ok-push.ensures.items c.in_ok-part.ensures
