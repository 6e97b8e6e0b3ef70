use Rattle.std.proofs.Common.{drop, length, ◌<◌, ◌^◌}
use Rattle.std.specs.List.{AllByRecursion}
use Rattle.layer_manifest.specs.declared.manifest.TablePart.{TablePart}
use Rattle.cluster_core.proofs.backups.are_counted.Given as goal

abbrev pub invariant-loop-part : goal.invariant-loop-part
invariant-loop-part l = AllByRecursion (λ (part : TablePart). length part.descriptors < 2 ^ 64) (drop l.part-index l.parts) → AllByRecursion (λ (part : TablePart). length part.descriptors < 2 ^ 64) l.parts
