use Rattle.std.proofs.Common.{◌≡◌, ◌++◌, drop, map}
use Rattle.layer_objects.specs.Contents.{AreProper, part_of}
use Rattle.backup_job.proofs.starting.parts_of.Given as goal

abbrev pub invariant-loop-plan : goal.invariant-loop-plan
invariant-loop-plan l = AreProper l.parts.items × (l.parts.items ++ map (part_of l.catalog l.history l.floor l.end) (drop l.plan-index l.plans) ≡ map (part_of l.catalog l.history l.floor l.end) l.plans)
