-- Loads of parts over a disk that tells: what they answer are the entries of the objects.
use Rattle.std.proofs.Common.{◌≡◌, ◌∙◌, inl, inr, ℕ, zero, suc, ◌+◌, Bool, refl, sym, ap, subst, arith, List, [], ◌∷◌, length, Option, Some, None, unwrap_or, Result, Ok, Err}
use Rattle.std.specs.List.{AllByRecursion, slice_get}
use Rattle.mvcc_keys.specs.declared.entries.Entry.{Entry}
use Rattle.list_laws.specs.Members.{Has}
use Rattle.list_laws.proofs.Members.{has-AllByRecursion}
use Rattle.row_codec.specs.declared.rows.Kind.{Kind}
use Rattle.chunk_file.specs.Chunks.{read_chunk}
use Rattle.layer_merge.specs.declared.parts.Part.{Part}
use Rattle.outside_world.specs.Disk.{Tells, View}
use Rattle.collection_dir.specs.declared.fault.DirFault.{DirFault}
use Rattle.collection_dir.specs.declared.fault.DirFault.TheVariants.{Failed, Memory, Damaged, Malformed, LayerDiffers}
use Rattle.collection_dir.specs.Faults.{IsDiskFault}
use Rattle.stored_chunks.specs.Loads.{Came, FaultIs, IsGiven, IsRefused, chunk_at}
use Rattle.stored_chunks.specs.Places.{ArePartsFrom, IsPartOf, Stored, index_of, number_of, part_at}
use Rattle.restore_rows.specs.Checks.{IsWholePart}
use Rattle.restore_rows.specs.Reading.{info_entries, or_none, world_of}
use Rattle.restore_rows.proofs.NextChunks.{told-read}
use Rattle.restore_rows.proofs.WholeParts.{whole-chunk}

-- ---- lists

pub got-has : {X : Type 0} (xs : List X) (i : ℕ) (x : X) → slice_get xs i ≡ Some x → Has x xs
got-has [] i x got = cc got
got-has (y ∷ ys) zero x got = inl (let same : y ≡ x = cc got in sym same)
got-has (y ∷ ys) (suc i) x got = inr (got-has ys i x got)

-- the part of each place is one of them
pub part-among : (p : Stored) (ps : List Stored) (place : ℕ) → Has (part_at (p ∷ ps) p place) (p ∷ ps)
part-among p ps place = by (slice_get (p ∷ ps) place) refl
  where
    by : (o : Option Stored) → slice_get (p ∷ ps) place ≡ o → Has (unwrap_or o p) (p ∷ ps)
    by None e = inl refl
    by (Some s) e = got-has (p ∷ ps) place s e

-- a part of a merge is that of a place
pub part-place : (k : ℕ) (ss : List Stored) (ps : List Part) (q : Part) → ArePartsFrom k ss ps → Has q ps → (i : ℕ) × (s : Stored) × (slice_get ss i ≡ Some s) × IsPartOf (k + i) s q
part-place k [] [] q are has = absurd has
part-place k [] (p ∷ ps) q are has = absurd (cc are)
part-place k (s ∷ ss) [] q are has = absurd has
part-place k (s ∷ ss) (p ∷ ps) q are (inl e) = (0, s, refl, (let n : k ≡ k + 0 = omega arith in subst (λ (x : Part). IsPartOf (k + 0) s x) (sym e) (subst (λ (m : ℕ). IsPartOf m s p) n are.0)))
part-place k (s ∷ ss) (p ∷ ps) q are (inr has) =
    let rest = part-place (k + 1) ss ps q are.1 has in
    (suc rest.0, rest.1, rest.2, (let n : k + 1 + rest.0 ≡ k + suc rest.0 = omega arith in subst (λ (m : ℕ). IsPartOf m rest.1 q) n rest.3))

pub count-parts : (k : ℕ) (ss : List Stored) (ps : List Part) → ArePartsFrom k ss ps → length ps ≡ length ss
count-parts k [] [] are = refl
count-parts k [] (p ∷ ps) are = absurd (cc are)
count-parts k (s ∷ ss) [] are = absurd are
count-parts k (s ∷ ss) (p ∷ ps) are = ap suc (count-parts (k + 1) ss ps are.1)

-- ---- loads

module _ (table : ℕ) (kinds : List Kind) (p : Stored) (ps : List Stored) (disk : View) (tells : Tells disk) where
  -- the bytes that are answered read as the entries of the objects
  pub came-reads : (place number : ℕ) (failed : Bool) (bytes : List ℕ) → Came (part_at (p ∷ ps) p place) number table kinds disk failed (Ok bytes) → read_chunk table kinds bytes ≡ Ok (world_of table kinds disk.objects (p ∷ ps) place number)
  came-reads place number failed bytes came =
      let q = part_at (p ∷ ps) p place in
      let given : IsGiven q.layer (number_of q number) table kinds came.info disk bytes = came.answers in
      told-read table kinds came.info bytes given.entries given.told
      ∙ ap (λ (es : List Entry). Ok es) (sym (ap (info_entries q (number_of q number) table kinds disk.objects) came.there ∙ ap or_none (given.stored tells)))

-- a fault that is that of the objects, of a chunk that is there
pub fault-disk : {X : Type 0} (fault : DirFault) (r : Result X DirFault) (x : X) → r ≡ Ok x → FaultIs fault r → IsDiskFault fault
fault-disk Failed r x is same = tt
fault-disk Memory r x is same = tt
fault-disk (Damaged object wanted found) r x is same = (let both : Ok x ≡ Err (Damaged object wanted found) = sym is ∙ same in cc both)
fault-disk (Malformed object offset) r x is same = (let both : Ok x ≡ Err (Malformed object offset) = sym is ∙ same in cc both)
fault-disk (LayerDiffers object wanted found) r x is same = (let both : Ok x ≡ Err (LayerDiffers object wanted found) = sym is ∙ same in cc both)

module _ (table : ℕ) (kinds : List Kind) (p : Stored) (ps : List Stored) (disk : View) (tells : Tells disk) (whole : AllByRecursion (IsWholePart table kinds disk.objects) (p ∷ ps)) where
  pub whole-at : (place : ℕ) → IsWholePart table kinds disk.objects (part_at (p ∷ ps) p place)
  whole-at place = has-AllByRecursion (IsWholePart table kinds disk.objects) (part_at (p ∷ ps) p place) (p ∷ ps) whole (part-among p ps place)

  -- of whole parts no load answers a fault of a chunk
  pub came-fault : (place number : ℕ) (failed : Bool) (fault : DirFault) → Came (part_at (p ∷ ps) p place) number table kinds disk failed (Err fault) → IsDiskFault fault
  came-fault place number failed fault came =
      let q = part_at (p ∷ ps) p place in
      let refused : IsRefused q.layer (number_of q number) table kinds came.info disk failed fault = came.answers in
      let chunk = whole-chunk q table kinds disk.objects (whole-at place) (index_of q number) came.info came.there in
      fault-disk fault (chunk_at q.layer (number_of q number) table kinds came.info disk.objects) chunk.0 chunk.2 (refused.stored tells)
