use Rattle.std.proofs.Common.{◌∙◌, append_assoc}
use Rattle.layer_model.specs.Names.{object_name}
use Rattle.layer_model.proofs.writing.part_name.Goals as goal

pub returns : goal.returns
unfolding object_name
returns c =
    let h = c.in_ok-text.ensures.ok in
    let k = rw (c.in_ok-full.ensures, c.in_ok-start.ensures, c.in_ok-end.ensures, c.in_ok-job.ensures, c.in_ok-part.ensures, c.as_str-collection.ensures, c.as_str-cluster.ensures) at h in
    c.from_string.ensures ∙ (simp append_assoc at k)
