use Rattle.std.proofs.Common.{◌≡◌, length, ◌∙◌, arith, ◌⊎◌, inl, inr}
use Rattle.std.proofs.lemmas.Bool.Decides.{nat_tests}
use Rattle.row_codec.proofs.RowEnds.{lengths_decide}
use Rattle.row_codec.proofs.order.row_cmp.Goals as goal
use Rattle.row_codec.proofs.order.row_cmp.Goals.{then-columns-test+else-not-is_empty, else-columns-test}

pub returns : goal.returns
returns c =
    let ends : (length c.columns.x_left.now ≡ 0) ⊎ (length c.columns.y_left.now ≡ 0) = elim c.columns-test.branch [ then-columns-test+else-not-is_empty w ↦ inr (grind (arith, nat_tests)) | else-columns-test w ↦ inl (grind (arith, nat_tests)) ] in
    c.cmp.ensures ∙ lengths_decide c.columns.kinds_left.now c.columns.x_left.now c.columns.y_left.now ends ∙ c.columns.invariant
