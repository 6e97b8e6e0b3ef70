use Rattle.std.proofs.Common.{◌∙◌, ap, subst, sym}
use Rattle.layer_manifest.specs.Manifests.{IsProperManifest}
use Rattle.collection_dir.specs.Versions.{first_version}
use Rattle.collection_dir.proofs.VersionLaws.{proper-first}
use Rattle.collection_dir.proofs.versions.first_bytes.Goals as goal

pub manifest_bytes-requires : goal.manifest_bytes-requires
manifest_bytes-requires c = subst IsProperManifest (sym (c.first_version-first.ensures ∙ ap first_version c.in_ok-copy_manifest.ensures)) (proper-first c.args.m.now c.requires.proper)
