use Rattle.layer_manifest.proofs.Steps.{second_version}
use Rattle.layer_manifest.proofs.items.take_version.Goals as goal

pub returns-then-eq-2 : goal.returns-then-eq-2
returns-then-eq-2 c =
    second_version c.args.b.now c.in_ok-mark.mark.now c.in_ok-mark.rest.now c.in_ok-mark.ensures (rw c.as_slice.ensures at c.if-eq.ensures) (rw c.as_slice-2.ensures at c.if-eq-2.ensures)
