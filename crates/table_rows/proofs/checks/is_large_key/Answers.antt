use Rattle.std.proofs.Common.{◌∙◌, ap, length, List, ℕ}
use Rattle.table_rows.proofs.KeySizes.{large-key}
use Rattle.table_rows.proofs.checks.is_large_key.Goals as goal

pub returns : goal.returns
returns c = large-key c.args.kinds.now c.args.key.now (length c.as_slice.result.now) c.requires (ap (λ (xs : List ℕ). length xs) (c.as_slice.ensures.value ∙ c.in_ok-key_bytes.ensures))
