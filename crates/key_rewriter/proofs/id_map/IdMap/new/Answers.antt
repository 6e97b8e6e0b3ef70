use Rattle.key_rewriter.proofs.Pairs.{all-ids}
use Rattle.key_rewriter.proofs.id_map.IdMap.new.Goals as goal

pub invariant_of-result : goal.invariant_of-result
invariant_of-result c = all-ids c.args.first c.loop-i.i c.args.old.now c.loop-i.pairs.items c.requires.ascending c.requires.room c.loop-i-test.false c.loop-i.invariant
