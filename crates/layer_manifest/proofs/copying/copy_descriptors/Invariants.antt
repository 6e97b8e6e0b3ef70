use Rattle.std.proofs.Common.{◌≡◌, ◌++◌, drop}
use Rattle.layer_manifest.proofs.copying.copy_descriptors.Given as goal

abbrev pub invariant-loop-descriptor : goal.invariant-loop-descriptor
invariant-loop-descriptor l = l.copies.items ++ drop l.descriptor-index l.descriptors ≡ l.descriptors
