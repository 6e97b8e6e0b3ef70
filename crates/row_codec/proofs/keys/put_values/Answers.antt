use Rattle.std.proofs.Common.{◌≡◌, length, rules, arith, ◌⊎◌, inl, inr}
use Rattle.std.proofs.lemmas.Bool.Decides.{nat_tests}
use Rattle.row_codec.proofs.Texts.{values_code-end}
use Rattle.row_codec.proofs.keys.put_values.Goals as goal
use Rattle.row_codec.proofs.keys.put_values.Goals.{then-values-test+else-not-is_empty, else-values-test}

pub returns-clause-ok : goal.returns-clause-ok
returns-clause-ok c =
    let ends : (length c.values.kinds_left.now ≡ 0) ⊎ (length c.values.left.now ≡ 0) = elim c.values-test.branch [ then-values-test+else-not-is_empty w ↦ inr (grind (arith, nat_tests)) | else-values-test w ↦ inl (grind (arith, nat_tests)) ] in
    let written = rw (values_code-end c.values.kinds_left.now c.values.left.now ends) at c.values.invariant.written in
    rw (← written) (search rules)
