use Rattle.std.proofs.Common.{◌^◌, arith}
use Rattle.table_descriptors.specs.DescriptorView.{view_of}
use Rattle.table_descriptors.specs.Restoring.{restored_schema}
use Rattle.table_descriptors.proofs.ListLaws.{all-ids}
use Rattle.table_descriptors.proofs.Restores.{restored-proper}
use Rattle.table_descriptors.proofs.descriptors.Descriptor.restored.Goals as goal

pub invariant_of-result : goal.invariant_of-result
unfolding restored_schema
invariant_of-result c =
    let a = c.args in
    let d = view_of c.self.inside in
    let named = rw c.in_ok-copy.ensures.same at c.in_ok-copy.ensures.form in
    let form = rw c.a_time.ensures.same at c.a_time.ensures.form in
    rw (
      c.in_ok-copy.ensures.same,
      c.in_ok-copy-2.ensures.same,
      c.in_ok-copies.ensures.made,
      c.as_slice.ensures.value,
      c.in_ok-from_slice.ensures.items,
      c.as_slice-2.ensures.value,
      c.in_ok-from_slice-2.ensures.items,
      c.a_time.ensures.same,
      c.in_ok-from_slice-3.ensures.items,
      c.as_slice-3.ensures.value,
    )
    (restored-proper d a.id a.database.now a.references.now a.at c.self.invariant c.ranges.id.fits named (all-ids (2 ^ 32) a.references.now (λ i. omega (arith, c.type_inv.references i))) c.requires form)
