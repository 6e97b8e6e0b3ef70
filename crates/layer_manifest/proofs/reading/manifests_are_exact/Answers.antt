use Rattle.std.proofs.Common.{length, sym, ap, ◌∙◌}
use Rattle.row_codec.proofs.KeyLaws.{ok_is}
use Rattle.table_descriptors.specs.Fields.{whole}
use Rattle.table_descriptors.proofs.FieldLaws.{whole-found, whole-only}
use Rattle.layer_manifest.specs.ManifestFiles.{read_manifest_front, read_manifest}
use Rattle.layer_manifest.proofs.ManifestLaws.{manifest-format}
use Rattle.layer_manifest.proofs.reading.manifests_are_exact.Goals as goal

pub returns : goal.returns
unfolding read_manifest
returns c = record {
  found = whole-found manifest-format;
  only = whole-only manifest-format;
  apart = λ m n hm hn same. ok_is m n (sym (whole-found manifest-format m hm) ∙ (ap (λ b. whole (length b) (read_manifest_front b)) same ∙ whole-found manifest-format n hn));
}
