use Rattle.table_descriptors.proofs.descriptors.Descriptor.copy.Goals as goal

pub invariant_of-result : goal.invariant_of-result
invariant_of-result c =
    rw (
      c.in_ok-copy.ensures.same,
      c.in_ok-copy-2.ensures.same,
      c.in_ok-copies.ensures.made,
      c.as_slice.ensures.value,
      c.in_ok-from_slice.ensures.items,
      c.as_slice-2.ensures.value,
      c.in_ok-from_slice-2.ensures.items,
      c.as_slice-3.ensures.value,
      c.in_ok-from_slice-3.ensures.items,
      c.as_slice-4.ensures.value,
    )
    c.self.invariant
