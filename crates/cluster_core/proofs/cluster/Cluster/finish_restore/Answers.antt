use Rattle.std.proofs.Common.{List, sym, subst}
use Rattle.std.specs.Global.{Vec}
use Rattle.mvcc_keys.specs.declared.entries.Entry.{Entry}
use Rattle.cluster_core.specs.Restoring.{AreRowsOfEach, entries_of}
use Rattle.cluster_core.proofs.cluster.Cluster.finish_restore.Goals as goal

pub returns-in-Ok-clause-kept : goal.returns-in-Ok-clause-kept
returns-in-Ok-clause-kept c old chosen items k is order has =
    c.in-Ok.ensures.kept old chosen items k is order (subst (λ (vs : List (Vec Entry)). AreRowsOfEach c.args.made chosen (entries_of vs) items) (sym c.deref-2.ensures.value) has)
