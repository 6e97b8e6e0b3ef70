use Rattle.cluster_core.proofs.Kept.{stands-empty}
use Rattle.cluster_core.proofs.cluster.Cluster.new.Goals as goal

pub returns-clause-stands : goal.returns-clause-stands
returns-clause-stands c = rw (c.new-book.ensures, c.new-4.ensures.items) (stands-empty c.args.name c.in_ok-copy.field-0 c.args.limits.events c.args.limits.tables c.args.clock c.new.result c.new-3.result c.new.ensures (rw c.new-3.ensures c.new-2.ensures))
