use Rattle.table_descriptors.specs.Descriptors.{changed_schema}
use Rattle.table_descriptors.specs.DescriptorView.{view_of}
use Rattle.table_descriptors.proofs.SchemaLaws.{changed-proper}
use Rattle.table_descriptors.proofs.descriptors.Descriptor.next_descriptor.Goals as goal

pub invariant_of-result : goal.invariant_of-result
unfolding changed_schema
invariant_of-result c =
    let d = view_of c.self.inside in
    let named = rw (c.in_ok-name_after.ensures.made, ← c.self.view_is) at c.in_ok-name_after.ensures.named in
    let columns = rw (c.in_ok-columns_after.ensures.made, ← c.self.view_is) at c.in_ok-columns_after.ensures.named in
    let form = rw c.a_time.ensures.same at c.a_time.ensures.form in
    rw (
      c.in_ok-copy.ensures.same,
      c.in_ok-name_after.ensures.made,
      c.state_after.ensures,
      c.in_ok-columns_after.ensures.made,
      c.in_ok-from_slice.ensures.items,
      c.as_slice.ensures.value,
      c.in_ok-from_slice-2.ensures.items,
      c.as_slice-2.ensures.value,
      c.next_after.ensures,
      c.a_time.ensures.same,
      c.in_ok-from_slice-3.ensures.items,
      c.as_slice-3.ensures.value,
      ← c.self.view_is,
    )
    (changed-proper d c.args.change.now c.args.at c.self.invariant (rw (← c.self.view_is) at c.requires.allowed) (rw (← c.self.view_is) at c.requires.version) columns named form)
