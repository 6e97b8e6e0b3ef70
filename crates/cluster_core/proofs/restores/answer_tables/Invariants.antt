use Rattle.std.proofs.Common.{◌≡◌, ◌++◌, drop, map}
use Rattle.id_remap.specs.declared.targets.Target.TheVariants as target
use Rattle.machine_model.specs.Restores.{restored_as}
use Rattle.cluster_core.proofs.restores.answer_tables.Given as goal

abbrev pub invariant-loop-d : goal.invariant-loop-d
invariant-loop-d l = l.tables.items ++ map (restored_as l.ids (target.Database l.database)) (drop l.d-index l.chosen) ≡ map (restored_as l.ids (target.Database l.database)) l.chosen
