use Rattle.cluster_core.proofs.Covers.{from-ordered}
use Rattle.cluster_core.proofs.cluster.Cluster.chain_of.Goals as goal

pub chain_over-requires : goal.chain_over-requires
chain_over-requires c = let s = c.requires.stands in rw c.deref.ensures.value (from-ordered _ s.1.tables s.1.backups c.args.source.now c.args.collection.now c.in_ok-layers.layers.items c.in_ok-layers.ensures.layers)
