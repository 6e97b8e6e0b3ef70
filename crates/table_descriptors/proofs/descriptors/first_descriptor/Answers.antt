use Rattle.std.proofs.Common.{◌^◌, arith}
use Rattle.table_descriptors.specs.Descriptors.{new_schema}
use Rattle.table_descriptors.proofs.SchemaLaws.{new_schema-proper}
use Rattle.table_descriptors.proofs.ListLaws.{all-ids}
use Rattle.table_descriptors.proofs.descriptors.first_descriptor.Goals as goal

pub invariant_of-result : goal.invariant_of-result
unfolding new_schema
invariant_of-result c =
    let a = c.args in
    rw (c.in_ok-copy.ensures.same, c.in_ok-copy-2.ensures.same, c.in_ok-number_columns.ensures.made, c.in_ok-key_ids.ensures, c.in_ok-from_slice.ensures.items, c.a_time.ensures.same, c.in_ok-down_ids.ensures)
    (new_schema-proper a.id a.database.now a.name.now a.columns.now a.key.now a.references.now a.at c.ranges.id.fits (rw c.in_ok-copy.ensures.same at c.in_ok-copy.ensures.form)
    (rw c.in_ok-copy-2.ensures.same at c.in_ok-copy-2.ensures.form) c.requires.allowed c.requires.some
    (rw c.in_ok-number_columns.ensures.made at c.in_ok-number_columns.ensures.named) (all-ids (2 ^ 32) a.references.now (λ i. omega (arith, c.type_inv.references i))) (rw c.a_time.ensures.same at c.a_time.ensures.form))
