use Rattle.std.proofs.Common.{◌+◌, sym, ap, ◌∙◌, Some, ℕ}
use Rattle.row_codec.specs.RowKeys.{are_of_kinds, IsKey}
use Rattle.row_codec.specs.RowOrder.{row_cmp}
use Rattle.table_rows.proofs.Lists.{passes}
use Rattle.table_rows.proofs.Repeats.{seen-more, repeated_here, repeated_later, was-seen, was-unseen}
use Rattle.table_rows.proofs.checks.repeated_key.Goals as goal

pub key_bytes-requires : goal.key_bytes-requires
key_bytes-requires c = passes (are_of_kinds c.args.kinds.now) c.args.keys.now c.loop-key.key-index c.key-item.result c.requires c.loop-key-test.true c.key-item.is

pub returns-then-not-branch : goal.returns-then-not-branch
returns-then-not-branch c =
    let kinds = c.args.kinds.now in
    let key = c.key-item.result in
    let is : IsKey kinds key = (passes (are_of_kinds kinds) c.args.keys.now c.loop-key.key-index key c.requires c.loop-key-test.true c.key-item.is, c.prove_values_fit.ensures) in
    let has = c.loop-key.invariant.2 c.in_ok-bytes.bytes key is c.in_ok-bytes.ensures in
    ap (λ (n : ℕ). Some n) c.loop-key.invariant.0
    ∙ repeated_here (row_cmp kinds) c.args.keys.now c.loop-key.key-index key _ c.loop-key-test.true c.key-item.is (sym has ∙ was-seen c.in_ok-insert.field-0 _ c.in_ok-insert.ensures.added c.if-not-branch.true) c.loop-key.invariant.1

pub loop-key-preserved : goal.loop-key-preserved
loop-key-preserved c =
    let kinds = c.args.kinds.now in
    let key = c.key-item.result in
    let is : IsKey kinds key = (passes (are_of_kinds kinds) c.args.keys.now c.loop-key.key-index key c.requires c.loop-key-test.true c.key-item.is, c.prove_values_fit.ensures) in
    let has = c.loop-key.invariant.2 c.in_ok-bytes.bytes key is c.in_ok-bytes.ensures in (
      ap (λ (n : ℕ). n + 1) c.loop-key.invariant.0,
      repeated_later (row_cmp kinds) c.args.keys.now c.loop-key.key-index key _ c.loop-key-test.true c.key-item.is (sym has ∙ was-unseen c.in_ok-insert.field-0 _ c.in_ok-insert.ensures.added c.if-not-branch.false) c.loop-key.invariant.1,
      seen-more kinds c.loop-key.seen c.insert.new.self c.in_ok-bytes.bytes c.args.keys.now c.loop-key.key-index key c.loop-key-test.true c.key-item.is is c.in_ok-bytes.ensures c.in_ok-insert.ensures.updates c.loop-key.invariant.2,
    )
