use Rattle.std.proofs.Common.{◌≡◌, ◌<◌, length, arith, ◌∙◌}
use Rattle.std.proofs.lemmas.Bool.Decides.{nat_tests}
use Rattle.row_codec.proofs.Texts.{are_of_kinds-short}
use Rattle.row_codec.proofs.keys.are_of_kinds.Goals as goal
use Rattle.row_codec.proofs.keys.are_of_kinds.Goals.{then-values-test+else-not-is_empty, else-values-test}

pub returns-else-is_empty : goal.returns-else-is_empty
returns-else-is_empty c =
    let some : 0 < length c.values.kinds_left.now = grind (arith, nat_tests) in
    let none : length c.values.left.now ≡ 0 = elim c.values-test.branch [ then-values-test+else-not-is_empty w ↦ grind (arith, nat_tests) | else-values-test w ↦ grind (arith, nat_tests) ] in
    c.if-is_empty.false ∙ (are_of_kinds-short c.values.kinds_left.now c.values.left.now some none ∙ c.values.invariant)
