use Rattle.std.proofs.Common.{◌≡◌, drop}
use Rattle.layer_manifest.specs.Manifests.{same_kinds}
use Rattle.layer_manifest.proofs.tables.same_kinds.Given as goal

abbrev pub invariant-loop-kind : goal.invariant-loop-kind
invariant-loop-kind l = same_kinds (drop l.kind-index l.a) l.others ≡ same_kinds l.a l.b
