use Rattle.std.proofs.Common.{sym}
use Rattle.std.proofs.lemmas.List.{append-nil}
use Rattle.std.proofs.lemmas.Option.{slice_get_past}
use Rattle.cluster_core.proofs.chains.add_layer.Goals as goal

pub returns-in-None : goal.returns-in-None
returns-in-None c = rw (slice_get_past c.args.layers.now c.args.place c.in-None.ensures.lookup.3) (sym (append-nil c.args.list.now.items))
