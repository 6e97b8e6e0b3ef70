-- What a merge of parts gives, and why it ends.
use Rattle.std.proofs.Common.{◌≡◌, ◌∙◌, inl, inr, ℕ, ◌+◌, ◌<◌, ◌≤◌, Bool, true, false, true≢false, refl, sym, ap, ap₂, subst, arith, List, [], ◌∷◌, length, Option, Some, None, unwrap_or, Result, Ok, Err}
use Rattle.std.specs.List.{AllByRecursion, slice_get}
use Rattle.std.proofs.lemmas.Option.{slice_get_within}
use Rattle.mvcc_keys.specs.declared.entries.Entry.{Entry}
use Rattle.list_laws.specs.Members.{Has}
use Rattle.list_laws.proofs.Members.{has-AllByRecursion}
use Rattle.row_codec.specs.declared.rows.Kind.{Kind}
use Rattle.chunk_file.specs.Chunks.{chunk_bytes, read_chunk}
use Rattle.chunk_file.specs.Entries.{IsStored, is_entry}
use Rattle.chunk_file.proofs.ChunkLaws.{chunks-exact}
use Rattle.layer_merge.specs.declared.chunks.MergeFault.{MergeFault}
use Rattle.layer_merge.specs.declared.chunks.MergeFault.TheVariants as merge
use Rattle.layer_merge.specs.declared.parts.Part.{Part}
use Rattle.layer_merge.specs.Parts.{IsCountedChunk, is_introduced}
use Rattle.layer_merge.specs.Stands.{Stand, first_of, goes_on}
use Rattle.layer_merge.specs.Steps.{IsHeld, IsLoaded, IsMergeFault, IsOfHeld, IsOutOfOrder, last_of}
use Rattle.layer_chains.proofs.Counted.{last-has}
use Rattle.outside_world.specs.Disk.{Tells, View}
use Rattle.layer_model.specs.declared.names.Part.TheVariants.{Chunk}
use Rattle.layer_model.specs.Names.{object_name}
use Rattle.collection_dir.specs.declared.fault.DirFault.{DirFault}
use Rattle.collection_dir.specs.declared.fault.DirFault.TheVariants.{Malformed}
use Rattle.collection_dir.specs.Faults.{IsDiskFault}
use Rattle.stored_chunks.specs.Loads.{Came, IsGiven, IsRefused, chunk_at}
use Rattle.stored_chunks.specs.Places.{AreParts, Stored, index_of, number_of, part_at}
use Rattle.restore_rows.specs.Checks.{IsWholePart, last_after}
use Rattle.restore_rows.specs.Reading.{IsBreak, IsFaultIn, IsNamed, IsOfDigest, IsReadOf, Names}
use Rattle.restore_rows.proofs.NextChunks.{told-read}
use Rattle.restore_rows.proofs.WholeParts.{whole-chunk}
use Rattle.restore_rows.proofs.Worlds.{came-fault, part-among, part-place, whole-at}

-- the last of some entries, said in two ways
last-same : (e : Entry) (es : List Entry) → last_of (e ∷ es) ≡ last_after (Some e) es
last-same e [] = refl
last-same e (d ∷ es) = last-same d es

last-is : (es : List Entry) → last_of es ≡ last_after None es
last-is [] = refl
last-is (e ∷ es) = last-same e es

module _ (table : ℕ) (kinds : List Kind) (p : Stored) (ps : List Stored) (disk : View) (failed : Bool) where
  abbrev parts : List Stored
  parts = p ∷ ps

  abbrev part : ℕ → Stored
  part place = part_at parts p place

  abbrev pub came_of : ℕ → ℕ → ℕ → Result (List ℕ) DirFault → Type 0
  came_of place t number r = Came (part place) number t kinds disk failed r

  -- ---- chunks that were loaded

  module _ (asked : ℕ → ℕ → Type 0) where
    loaded-of : (m : Stand) → IsHeld came_of table kinds asked [] m → IsLoaded came_of table kinds m.layer m.number m.entries × asked m.layer m.number
    loaded-of m (inl old) = absurd old.1.0
    loaded-of m (inr loaded) = loaded

    module _ (place number : ℕ) (es : List Entry) (loaded : IsLoaded came_of table kinds place number es) where
      given-of : IsGiven (part place).layer (number_of (part place) number) table kinds loaded.came.info disk (chunk_bytes es)
      given-of = loaded.came.answers

      -- what was loaded are the entries that its bytes read as
      entries-of : given-of.entries ≡ es
      entries-of =
          let both : Ok given-of.entries ≡ Ok es = sym (told-read table kinds loaded.came.info (chunk_bytes es) given-of.entries given-of.told) ∙ chunks-exact.found table kinds es loaded.chunk loaded.stored in
          cc both

      digest-of : IsOfDigest (part place) table kinds (index_of (part place) number) es
      digest-of = record {
        info = loaded.came.info;
        there = loaded.came.there;
        bytes = chunk_bytes es;
        digest = given-of.digest;
        reads = given-of.told ∙ ap (λ (x : List Entry). Ok x) entries-of;
      }

    -- ---- entries that are given

    pub held-typed : (e : Entry) → IsOfHeld came_of table kinds asked [] e → (is_entry table kinds e ≡ true) × IsStored e
    held-typed e held =
        let loaded = (loaded-of held.0 held.1.0).0 in
        (has-AllByRecursion (λ (x : Entry). is_entry table kinds x ≡ true) e held.0.entries loaded.chunk.each held.1.1, has-AllByRecursion IsStored e held.0.entries loaded.stored held.1.1)

    pub held-read : (e : Entry) → IsOfHeld came_of table kinds asked [] e → IsReadOf table kinds parts disk e
    held-read e held =
        let m = held.0 in
        let loaded = (loaded-of m held.1.0).0 in record {
          part = part m.layer;
          among = part-among p ps m.layer;
          chunk = index_of (part m.layer) m.number;
          info = loaded.came.info;
          there = loaded.came.there;
          bytes = chunk_bytes m.entries;
          given = given-of m.layer m.number m.entries loaded;
          holds = subst (Has e) (sym (entries-of m.layer m.number m.entries loaded)) held.1.1;
        }

  -- ---- faults

  module _ (all : List Part) (are : AreParts parts all) where
    -- a chunk of a part that counts is one of a part that is there
    pub asked-there : (place number : ℕ) → IsCountedChunk all place number → (s : Stored) × (slice_get parts place ≡ Some s) × (number < length s.chunks)
    asked-there place number asked =
        let q = asked.0 in
        let found = part-place 0 parts all q are (last-has is_introduced q all asked.1.0) in
        let here : found.0 ≡ place = (let n = found.3.layer in let l = asked.1.1.0 in omega (arith, n, l)) in
        (found.1, ap (slice_get parts) (sym here) ∙ found.2, (let n = found.3.chunks in let lt = asked.1.1.1 in omega (arith, n, lt)))

    part-is : (place number : ℕ) (asked : IsCountedChunk all place number) → part place ≡ (asked-there place number asked).0
    part-is place number asked = ap (λ (o : Option Stored). unwrap_or o p) (asked-there place number asked).1

    in-part : (place number : ℕ) → IsCountedChunk all place number → number < length (part place).chunks
    in-part place number asked = subst (λ (s : Stored). number < length s.chunks) (sym (part-is place number asked)) (asked-there place number asked).2

    index-is : (place number k : ℕ) → IsCountedChunk all place number → k ≤ number → index_of (part place) k ≡ k
    index-is place number k asked le = (let lt = in-part place number asked in omega (arith, lt, le))

    pub names-part : (fault : MergeFault DirFault) → IsMergeFault came_of table kinds (IsCountedChunk all) [] fault → IsNamed (length parts) fault
    names-part (merge.Chunk fault) is = tt
    names-part (merge.Malformed place number offset) is = (let there = asked-there place number is.1 in slice_get_within parts place there.0 there.1)
    names-part merge.Memory is = tt

    -- the chunks of a place where the order breaks
    module _ (place number offset : ℕ) (asked : IsCountedChunk all place number) (out : IsOutOfOrder came_of table kinds (IsCountedChunk all) [] place number offset) where
      before-loaded : IsLoaded came_of table kinds place out.before.number out.before.entries
      before-loaded = subst (λ (n : ℕ). IsLoaded came_of table kinds n out.before.number out.before.entries) out.same_layer (loaded-of (IsCountedChunk all) out.before out.held).0

      own-index : index_of (part place) number ≡ number
      own-index = index-is place number number asked (omega arith)

      before-index : index_of (part place) out.before.number ≡ out.before.number
      before-index = (let n = out.next in index-is place number out.before.number asked (omega (arith, n)))

      own-digest : IsOfDigest (part place) table kinds number out.entries
      own-digest = subst (λ (n : ℕ). IsOfDigest (part place) table kinds n out.entries) own-index (digest-of (IsCountedChunk all) place number out.entries out.loaded)

      before-digest : IsOfDigest (part place) table kinds out.before.number out.before.entries
      before-digest = subst (λ (n : ℕ). IsOfDigest (part place) table kinds n out.before.entries) before-index (digest-of (IsCountedChunk all) place out.before.number out.before.entries before-loaded)

      breaks : goes_on (last_after None out.before.entries) (first_of out.entries) ≡ false
      breaks = ap (λ (l : Option Entry). goes_on l (first_of out.entries)) (sym (last-is out.before.entries)) ∙ out.order

      broken : (fault : DirFault) → fault ≡ Malformed (object_name (part place).layer (Chunk (number_of (part place) number))) offset → IsBreak (part place) table kinds number fault
      broken fault is = record {
        number = out.before.number;
        before = out.before.entries;
        next = out.next;
        own = before-digest;
        cut = record {
          entries = out.entries;
          own = own-digest;
          order = breaks;
          fault_is = is ∙ ap₂ (λ (n o : ℕ). Malformed (object_name (part place).layer (Chunk ((part place).first + n))) o) own-index out.place;
        };
      }

      -- over whole parts there is none
      unbroken : Tells disk → AllByRecursion (IsWholePart table kinds disk.objects) parts → ⊥
      unfolding chunk_at digest-of
      unbroken tells whole =
          let q = part place in
          let w = whole-at table kinds p ps disk tells whole place in
          let own = digest-of (IsCountedChunk all) place number out.entries out.loaded in
          let last = digest-of (IsCountedChunk all) place out.before.number out.before.entries before-loaded in
          let one = whole-chunk q table kinds disk.objects w (index_of q number) own.info own.there in
          let two = whole-chunk q table kinds disk.objects w (index_of q out.before.number) last.info last.there in
          let own-is : one.0 ≡ out.entries = (let both : Ok one.0 ≡ Ok out.entries = sym one.2 ∙ ((given-of (IsCountedChunk all) place number out.entries out.loaded).stored tells ∙ ap (λ (x : List Entry). Ok x) (entries-of (IsCountedChunk all) place number out.entries out.loaded)) in cc both) in
          let last-is : two.0 ≡ out.before.entries = (let both : Ok two.0 ≡ Ok out.before.entries = sym two.2 ∙ ((given-of (IsCountedChunk all) place out.before.number out.before.entries before-loaded).stored tells ∙ ap (λ (x : List Entry). Ok x) (entries-of (IsCountedChunk all) place out.before.number out.before.entries before-loaded)) in cc both) in
          let at-before : slice_get w.chunks out.before.number ≡ Some out.before.entries = ap (slice_get w.chunks) (sym before-index) ∙ (two.1 ∙ ap (λ (x : List Entry). Some x) last-is) in
          let at-own : slice_get w.chunks (out.before.number + 1) ≡ Some out.entries = ap (slice_get w.chunks) (sym out.next ∙ sym own-index) ∙ (one.1 ∙ ap (λ (x : List Entry). Some x) own-is) in
          true≢false (sym (w.ordered out.before.number out.before.entries out.entries at-before at-own) ∙ breaks)

    -- a load of bytes that are no chunk of the table
    no-chunk : (place number offset : ℕ) (bytes : List ℕ) → came_of place table number (Ok bytes) → read_chunk table kinds bytes ≡ Err offset → ⊥
    no-chunk place number offset bytes came bad =
        let given : IsGiven (part place).layer (number_of (part place) number) table kinds came.info disk bytes = came.answers in
        let both : Ok given.entries ≡ Err offset = sym (told-read table kinds came.info bytes given.entries given.told) ∙ bad in
        cc both

    part-named : (place : ℕ) (s : Stored) → slice_get parts place ≡ Some s → part place ≡ s
    part-named place s got = ap (λ (o : Option Stored). unwrap_or o p) got

    pub merge-told : (fault : MergeFault DirFault) (named : DirFault) → IsMergeFault came_of table kinds (IsCountedChunk all) [] fault → Names parts fault named → IsFaultIn table kinds parts named
    merge-told (merge.Chunk fault) named is says =
        let came : came_of is.0 table is.1 (Err fault) = is.2.0 in
        let q = part is.0 in
        let refused : IsRefused q.layer (number_of q is.1) table kinds came.info disk failed fault = came.answers in
        inr (q, (part-among p ps is.0, (index_of q is.1, (came.info, came.there, inl (rw says refused.of_chunk)))))
    merge-told (merge.Malformed place number offset) named (inl bad, asked) says = absurd (no-chunk place number offset bad.0 bad.1.0 bad.1.1)
    merge-told (merge.Malformed place number offset) named (inr out, asked) (inl memory) = inl (rw memory tt)
    merge-told (merge.Malformed place number offset) named (inr out, asked) (inr says) =
        let same = part-named place says.0 says.1 in
        let fault = broken place number offset asked out named (says.2 ∙ ap (λ (s : Stored). Malformed (object_name s.layer (Chunk (number_of s number))) offset) (sym same)) in
        let own = own-digest place number offset asked out in
        inr (part place, (part-among p ps place, (number, (own.info, own.there, inr fault))))
    merge-told merge.Memory named is says = inl (rw says tt)

    pub merge-sound : Tells disk → AllByRecursion (IsWholePart table kinds disk.objects) parts → (fault : MergeFault DirFault) (named : DirFault) → IsMergeFault came_of table kinds (IsCountedChunk all) [] fault → Names parts fault named → IsDiskFault named
    merge-sound tells whole (merge.Chunk fault) named is says = subst IsDiskFault (sym says) (came-fault table kinds p ps disk tells whole is.0 is.1 failed fault is.2.0)
    merge-sound tells whole (merge.Malformed place number offset) named (inl bad, asked) says = absurd (no-chunk place number offset bad.0 bad.1.0 bad.1.1)
    merge-sound tells whole (merge.Malformed place number offset) named (inr out, asked) says = absurd (unbroken place number offset asked out tells whole)
    merge-sound tells whole merge.Memory named is says = rw says tt
