use Rattle.std.proofs.Common.{length, sym, ap, ◌∙◌}
use Rattle.row_codec.proofs.KeyLaws.{ok_is}
use Rattle.table_descriptors.specs.Fields.{whole}
use Rattle.table_descriptors.specs.DescriptorFiles.{read_schema, read_descriptor}
use Rattle.table_descriptors.proofs.FieldLaws.{whole-found, whole-only}
use Rattle.table_descriptors.proofs.DescriptorLaws.{schema-format}
use Rattle.table_descriptors.proofs.DescriptorLengths.{schema-length}
use Rattle.table_descriptors.proofs.descriptor_files.descriptors_are_exact.Goals as goal

pub returns : goal.returns
unfolding read_descriptor
returns c = record {
  found = whole-found schema-format;
  only = whole-only schema-format;
  sized = schema-length;
  apart = λ d e hd he same. ok_is d e (sym (whole-found schema-format d hd) ∙ (ap (λ b. whole (length b) (read_schema b)) same ∙ whole-found schema-format e he));
}
