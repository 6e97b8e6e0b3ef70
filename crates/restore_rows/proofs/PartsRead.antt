-- Rows that were merged out of parts.
use Rattle.std.proofs.Common.{◌≡◌, ◌∙◌, ℕ, Bool, true, refl, sym, subst, List, [], ◌∷◌, length, Result, Ok}
use Rattle.std.specs.List.{AllByRecursion}
use Rattle.mvcc_keys.specs.Times.{Time}
use Rattle.mvcc_keys.specs.declared.entries.Entry.{Entry}
use Rattle.list_laws.proofs.Members.{all-weaker}
use Rattle.row_codec.specs.declared.rows.Kind.{Kind}
use Rattle.fact_model.specs.Ordered.{ordered}
use Rattle.fact_model.specs.Scans.{items, keys_put, scan}
use Rattle.chunk_file.specs.Chunks.{read_chunk}
use Rattle.chunk_file.specs.Entries.{IsStored, is_entry}
use Rattle.layer_merge.specs.declared.chunks.MergeFault.{MergeFault}
use Rattle.layer_merge.specs.declared.parts.Part.{Part}
use Rattle.layer_merge.specs.Loads.{World}
use Rattle.layer_merge.specs.Parts.{IsCountedChunk, counted_entries, merge_rows}
use Rattle.layer_merge.specs.Steps.{IsMergeFault, IsOfHeld}
use Rattle.outside_world.specs.Disk.{Tells, View}
use Rattle.collection_dir.specs.declared.fault.DirFault.{DirFault}
use Rattle.collection_dir.specs.Faults.{IsDiskFault}
use Rattle.stored_chunks.specs.Loads.{Came}
use Rattle.stored_chunks.specs.Places.{AreParts, Stored, part_at}
use Rattle.restore_rows.specs.Checks.{IsWholePart}
use Rattle.restore_rows.specs.Reading.{IsFaultIn, IsNamed, IsReadOf, Merges, Names, world_of}
use Rattle.restore_rows.proofs.MergeFaults.{held-read, held-typed, merge-sound, merge-told, names-part}
use Rattle.restore_rows.proofs.Worlds.{came-reads}

no-rows : (w : World) (t : Time) → merge_rows w [] t ≡ []
unfolding merge_rows counted_entries scan items keys_put ordered
no-rows w t = refl

-- no parts have no rows
pub none-merged : (w : World) (parts : List Stored) (t : Time) (rows : List Entry) → parts ≡ [] → Merges w parts t rows → rows ≡ []
none-merged w parts t rows none merges = sym (merges [] (subst (λ (ss : List Stored). AreParts ss []) (sym none) refl)).1 ∙ no-rows w t

module _ (table : ℕ) (kinds : List Kind) (parts : List Stored) (p : Stored) (ps : List Stored) (are : parts ≡ p ∷ ps) (disk : View) where
  -- what a load of a place answered
  abbrev pub AreAnswers : List Stored → Bool → ℕ → ℕ → ℕ → Result (List ℕ) DirFault → Type 0
  AreAnswers ss failed place t number r = Came (part_at ss p place) number t kinds disk failed r

  pub reads-world : Tells disk → (place number : ℕ) (failed : Bool) (bytes : List ℕ) → AreAnswers parts failed place table number (Ok bytes) → read_chunk table kinds bytes ≡ Ok (world_of table kinds disk.objects parts place number)
  reads-world tells place number failed bytes = subst (λ (ss : List Stored). AreAnswers ss failed place table number (Ok bytes) → read_chunk table kinds bytes ≡ Ok (world_of table kinds disk.objects ss place number)) (sym are) (came-reads table kinds p ps disk tells place number failed bytes)

  module _ (failed : Bool) where
    pub all-typed : (asked : ℕ → ℕ → Type 0) (es : List Entry) → AllByRecursion (IsOfHeld (AreAnswers parts failed) table kinds asked []) es → AllByRecursion (λ (e : Entry). (is_entry table kinds e ≡ true) × IsStored e) es
    all-typed asked es = subst (λ (ss : List Stored). AllByRecursion (IsOfHeld (AreAnswers ss failed) table kinds asked []) es → AllByRecursion (λ (e : Entry). (is_entry table kinds e ≡ true) × IsStored e) es) (sym are)
        (all-weaker (IsOfHeld (AreAnswers (p ∷ ps) failed) table kinds asked []) (λ (e : Entry). (is_entry table kinds e ≡ true) × IsStored e) (held-typed table kinds p ps disk failed asked) es)

    pub all-read : (asked : ℕ → ℕ → Type 0) (es : List Entry) → AllByRecursion (IsOfHeld (AreAnswers parts failed) table kinds asked []) es → AllByRecursion (IsReadOf table kinds parts disk) es
    all-read asked es = subst (λ (ss : List Stored). AllByRecursion (IsOfHeld (AreAnswers ss failed) table kinds asked []) es → AllByRecursion (IsReadOf table kinds ss disk) es) (sym are)
        (all-weaker (IsOfHeld (AreAnswers (p ∷ ps) failed) table kinds asked []) (IsReadOf table kinds (p ∷ ps) disk) (held-read table kinds p ps disk failed asked) es)

    module _ (all : List Part) (of : AreParts parts all) (fault : MergeFault DirFault) (is : IsMergeFault (AreAnswers parts failed) table kinds (IsCountedChunk all) [] fault) where
      abbrev IsWhy : List Stored → Type 0
      IsWhy ss = AreParts ss all × IsMergeFault (AreAnswers ss failed) table kinds (IsCountedChunk all) [] fault

      pub fault-names : IsNamed (length parts) fault
      fault-names = subst (λ (ss : List Stored). IsWhy ss → IsNamed (length ss) fault) (sym are) (λ why. names-part table kinds p ps disk failed all why.0 fault why.1) (of, is)

      pub fault-told : (named : DirFault) → Names parts fault named → IsFaultIn table kinds parts named
      fault-told named says = subst (λ (ss : List Stored). IsWhy ss → Names ss fault named → IsFaultIn table kinds ss named) (sym are) (λ why. merge-told table kinds p ps disk failed all why.0 fault named why.1) (of, is) says

      pub fault-sound : Tells disk → AllByRecursion (IsWholePart table kinds disk.objects) parts → (named : DirFault) → Names parts fault named → IsDiskFault named
      fault-sound tells whole named says = subst (λ (ss : List Stored). IsWhy ss → AllByRecursion (IsWholePart table kinds disk.objects) ss → Names ss fault named → IsDiskFault named) (sym are)
          (λ why whole. merge-sound table kinds p ps disk failed all why.0 tells whole fault named why.1) (of, is) whole says
