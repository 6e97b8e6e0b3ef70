use Rattle.std.proofs.Common.{◌≡◌, ◌++◌, filter_map}
use Rattle.layer_manifest.specs.declared.manifest.TablePart.{TablePart}
use Rattle.machine_model.specs.Restores.{chosen_by}
use Rattle.cluster_core.proofs.chains.chosen_of.Given as goal

abbrev pub invariant-loop-part : goal.invariant-loop-part
invariant-loop-part l = l.list.items ++ filter_map (λ (part : TablePart). chosen_by l.database l.t part.descriptors) l.part-iterator.rest.items ≡ filter_map (λ (part : TablePart). chosen_by l.database l.t part.descriptors) l.fn.m.tables
