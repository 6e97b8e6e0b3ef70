-- Faults of the first reading, said of the chunks that they name.
use Rattle.std.proofs.Common.{◌≡◌, ◌∙◌, inl, inr, ℕ, ◌+◌, ◌<◌, true, false, true≢false, sym, ap, subst, arith, List, length, Option, Some, None, slice_get, Result, Ok, Err}
use Rattle.mvcc_keys.specs.declared.entries.Entry.{Entry}
use Rattle.row_codec.specs.declared.rows.Kind.{Kind}
use Rattle.chunk_file.specs.Chunks.{head_code, read_chunk}
use Rattle.layer_merge.specs.Stands.{first_of, goes_on}
use Rattle.outside_world.specs.Disk.{View}
use Rattle.layer_manifest.specs.declared.manifest.ChunkInfo.{ChunkInfo}
use Rattle.layer_model.specs.declared.names.Part.TheVariants.{Chunk}
use Rattle.layer_model.specs.Names.{object_name}
use Rattle.collection_dir.specs.declared.fault.DirFault.{DirFault}
use Rattle.collection_dir.specs.declared.fault.DirFault.TheVariants.{Memory, Malformed}
use Rattle.stored_chunks.specs.Loads.{IsGiven, IsRefused, IsToldFault}
use Rattle.stored_chunks.specs.Places.{Stored, index_of, number_of}
use Rattle.restore_rows.specs.Checks.{last_in}
use Rattle.restore_rows.specs.Reading.{IsFaultOf, IsNextFault, IsOfDigest}
use Rattle.restore_rows.proofs.NextChunks.{told-read}
use Rattle.restore_rows.proofs.WholeParts.{none-goes}

module _ (p : Stored) (chunk table : ℕ) (kinds : List Kind) (disk : View) (last : Option Entry) (info : ChunkInfo) (lt : chunk < length p.chunks) (own_is : slice_get p.chunks (index_of p chunk) ≡ Some info) where
  index-is : index_of p chunk ≡ chunk
  index-is = omega (arith, lt)

  number-is : number_of p chunk ≡ p.first + chunk
  number-is = ap (λ (n : ℕ). p.first + n) index-is

  there : slice_get p.chunks chunk ≡ Some info
  there = ap (slice_get p.chunks) (sym index-is) ∙ own_is

  pub memory-told : (fault : DirFault) → fault ≡ Memory → IsNextFault p table kinds chunk last fault
  memory-told fault is = (info, there, inl (rw is tt))

  pub refused-told : (fault : DirFault) → IsRefused p.layer (number_of p chunk) table kinds info disk true fault → IsNextFault p table kinds chunk last fault
  refused-told fault refused = (info, there, inl (subst (λ (n : ℕ). IsToldFault (object_name p.layer (Chunk n)) table kinds info fault) number-is refused.of_chunk))

  module _ (bytes : List ℕ) (given : IsGiven p.layer (number_of p chunk) table kinds info disk bytes) where
    pub well-formed : (offset : ℕ) (fault : DirFault) → (let r : Result (List Entry) ℕ = Err offset in r ≡ read_chunk table kinds bytes) → IsNextFault p table kinds chunk last fault
    well-formed offset fault is = absurd (let both : Err offset ≡ Ok given.entries = is ∙ told-read table kinds info bytes given.entries given.told in cc both)

    module _ (held : List Entry) (is : (let r : Result (List Entry) ℕ = Ok held in r ≡ read_chunk table kinds bytes)) where
      held-is : held ≡ given.entries
      held-is = (let both : Ok held ≡ Ok given.entries = is ∙ told-read table kinds info bytes given.entries given.told in cc both)

      pub held-digest : IsOfDigest p table kinds chunk held
      held-digest = record { info = info; there = there; bytes = bytes; digest = given.digest; reads = given.told ∙ ap (λ (es : List Entry). Ok es) (sym held-is) }

      pub cut-told : goes_on last (first_of held) ≡ false → (fault : DirFault) → fault ≡ Malformed (object_name p.layer (Chunk (number_of p chunk))) (length (head_code held)) → IsNextFault p table kinds chunk last fault
      cut-told breaks fault fault_is = (
        info,
        there,
        inr (record {
          entries = held;
          own = held-digest;
          order = breaks;
          fault_is = fault_is ∙ ap (λ (n : ℕ). Malformed (object_name p.layer (Chunk n)) (length (head_code held))) number-is;
        }),
      )

-- the chunk before one was read, with its digest
abbrev pub HasBefore : Stored → ℕ → List Kind → ℕ → Option (List Entry) → Type 0
HasBefore p table kinds chunk None = Unit {0}
HasBefore p table kinds chunk (Some es) = (number : ℕ) × (chunk ≡ number + 1) × IsOfDigest p table kinds number es

pub fault-of : (p : Stored) (table : ℕ) (kinds : List Kind) (chunk : ℕ) (last : Option (List Entry)) (fault : DirFault) → HasBefore p table kinds chunk last → IsNextFault p table kinds chunk (last_in last) fault → IsFaultOf table kinds p fault
fault-of p table kinds chunk last fault before (info, got, inl told) = (chunk, (info, got, inl told))
fault-of p table kinds chunk None fault before (info, got, inr cut) = absurd (true≢false (sym (none-goes (first_of cut.entries)) ∙ cut.order))
fault-of p table kinds chunk (Some es) fault before (info, got, inr cut) = (chunk, (info, got, inr (record { number = before.0; before = es; next = before.1; own = before.2; cut = cut })))
