-- What a load answers, by what was read.
use Rattle.std.proofs.Common.{◌≡◌, ◌≢◌, ℕ, Bool, true, false, refl, ap, ◌∙◌, List, Option, Some, None, option_map, Err}
use Rattle.std.specs.Str.{bytes_eq}
use Rattle.std.proofs.lemmas.Slice.Eq.{bytes_eq-Decides}
use Rattle.sha2.specs.Sha256.{sha256}
use Rattle.row_codec.specs.declared.rows.Kind.{Kind}
use Rattle.outside_world.specs.Disk.{Tells, View}
use Rattle.outside_world.specs.Objects.{at}
use Rattle.layer_manifest.specs.declared.manifest.ChunkInfo.{ChunkInfo}
use Rattle.layer_model.specs.declared.names.LayerName.{LayerName}
use Rattle.layer_model.specs.declared.names.Part.TheVariants.{Chunk}
use Rattle.layer_model.specs.Names.{object_name}
use Rattle.collection_dir.specs.declared.fault.DirFault.{DirFault}
use Rattle.collection_dir.specs.declared.fault.DirFault.TheVariants.{Failed, Memory, Damaged, Malformed, LayerDiffers}
use Rattle.collection_dir.specs.Reading.{DamagedAsHeld, IsChunkFault}
use Rattle.stored_chunks.specs.Told.{read_told}
use Rattle.stored_chunks.specs.Loads.{IsGiven, IsRefused, Reads, chunk_at, held, or_malformed}

module _ (layer : LayerName) (number table : ℕ) (kinds : List Kind) (info : ChunkInfo) (disk : View) where
  abbrev name : List ℕ
  name = object_name layer (Chunk number)

  damaged-at : (o : Option (List ℕ)) (object wanted : List ℕ) (found : Option (List ℕ)) → object ≡ name → wanted ≡ info.digest → found ≢ Some info.digest → found ≡ option_map sha256 o → held name table kinds info o ≡ Err (Damaged object wanted found)
  damaged-at None object wanted found p q other is = rw (p, q, is) refl
  damaged-at (Some bytes) object wanted found p q other is = by (bytes_eq (sha256 bytes) info.digest) refl
    where
      by : (b : Bool) → bytes_eq (sha256 bytes) info.digest ≡ b → held name table kinds info (Some bytes) ≡ Err (Damaged object wanted found)
      by true same = absurd (other (is ∙ ap (λ (d : List ℕ). Some d) ((bytes_eq-Decides (sha256 bytes) info.digest).0 same)))
      by false same = rw (same, p, q, is) refl

  pub load-refused : (e : DirFault) → IsChunkFault layer number info.digest e → (Tells disk → DamagedAsHeld layer number disk.objects e) → IsRefused layer number table kinds info disk true e
  unfolding chunk_at
  load-refused Failed fault as_held = record { of_chunk = tt; stored = λ tells. tt; failed_is = λ same. refl }
  load-refused Memory fault as_held = record { of_chunk = tt; stored = λ tells. tt; failed_is = λ same. refl }
  load-refused (Damaged object wanted found) fault as_held = record {
    of_chunk = fault;
    stored = λ tells. damaged-at (at disk.objects name) object wanted found fault.0 fault.1 fault.2 (as_held tells);
    failed_is = λ same. refl;
  }
  load-refused (Malformed object offset) fault as_held = absurd fault
  load-refused (LayerDiffers object wanted found) fault as_held = absurd fault

  same-digest : (bytes : List ℕ) → sha256 bytes ≡ info.digest → held name table kinds info (Some bytes) ≡ or_malformed name (read_told table kinds info bytes)
  same-digest bytes digest = rw ((bytes_eq-Decides (sha256 bytes) info.digest).1 digest) refl

  pub load-given : (bytes : List ℕ) → (Tells disk → at disk.objects name ≡ Some bytes) → sha256 bytes ≡ info.digest → Reads table kinds info bytes None → IsGiven layer number table kinds info disk bytes
  unfolding chunk_at
  load-given bytes there digest reads = record {
    entries = reads.0;
    spelled = reads.1.1;
    digest = digest;
    told = reads.1.0;
    bytes_are = there;
    stored = λ tells. ap (held name table kinds info) (there tells) ∙ (same-digest bytes digest ∙ ap (or_malformed name) reads.1.0);
  }

  pub load-malformed : (bytes : List ℕ) (offset : ℕ) (e : DirFault) → (Tells disk → at disk.objects name ≡ Some bytes) → sha256 bytes ≡ info.digest → read_told table kinds info bytes ≡ Err offset → e ≡ Malformed name offset → IsRefused layer number table kinds info disk true e
  unfolding chunk_at
  load-malformed bytes offset e there digest reads is = rw is (record {
    of_chunk = (refl, bytes, (digest, reads));
    stored = λ tells. ap (held name table kinds info) (there tells) ∙ (same-digest bytes digest ∙ ap (or_malformed name) reads);
    failed_is = λ same. refl;
  })
