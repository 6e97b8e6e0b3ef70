-- One chunk more is read and tested.
use Rattle.std.proofs.Common.{◌≡◌, ◌∙◌, inl, inr, ℕ, ◌+◌, ◌<◌, Bool, true, false, if◌then◌else◌, refl, sym, ap, ap₂, subst, arith, get_or, List, ◌∷◌, length, drop, Option, Some, None, slice_get, Result, Ok, Err}
use Rattle.std.proofs.lemmas.List.{drop_more}
use Rattle.std.proofs.lemmas.Option.{get_or_from_slice_get, slice_get_cases}
use Rattle.mvcc_keys.specs.declared.entries.Entry.{Entry}
use Rattle.row_codec.specs.declared.rows.Kind.{Kind}
use Rattle.chunk_file.specs.Chunks.{head_code, read_chunk}
use Rattle.layer_merge.specs.Stands.{first_of, goes_on}
use Rattle.outside_world.specs.Disk.{Tells, View}
use Rattle.outside_world.specs.Objects.{Objects}
use Rattle.layer_manifest.specs.declared.manifest.ChunkInfo.{ChunkInfo}
use Rattle.layer_model.specs.declared.names.Part.TheVariants.{Chunk}
use Rattle.layer_model.specs.Names.{object_name}
use Rattle.collection_dir.specs.declared.fault.DirFault.{DirFault}
use Rattle.collection_dir.specs.declared.fault.DirFault.TheVariants.{Failed, Memory, Damaged, Malformed, LayerDiffers}
use Rattle.stored_chunks.specs.Told.{is_told, read_told, tested}
use Rattle.stored_chunks.specs.Loads.{FaultIs, IsGiven, IsRefused, chunk_at}
use Rattle.stored_chunks.specs.Places.{Stored, index_of, number_of}
use Rattle.restore_rows.specs.Checks.{check_chunk, check_from, check_part, check_parts, goes_after, last_after, then_check}

-- ---- bytes

pub told-read : (table : ℕ) (kinds : List Kind) (info : ChunkInfo) (bytes : List ℕ) (entries : List Entry) → read_told table kinds info bytes ≡ Ok entries → read_chunk table kinds bytes ≡ Ok entries
unfolding read_told
told-read table kinds info bytes entries e = by (read_chunk table kinds bytes) e
  where
    told-by : (found : List Entry) (t : Bool) → (let r : Result (List Entry) ℕ = if t then Ok found else Err 4 in r ≡ Ok entries) → (let r : Result (List Entry) ℕ = Ok found in r ≡ Ok entries)
    told-by found true is = is
    told-by found false is = absurd (cc)

    by : (r : Result (List Entry) ℕ) → tested info (length bytes) r ≡ Ok entries → r ≡ Ok entries
    by (Err offset) is = absurd (cc)
    by (Ok found) is = told-by found (is_told info (length bytes) found) is

-- ---- one chunk

pub goes-fault : {X : Type 0} (object : List ℕ) (last : Option Entry) (more : List Entry → Result X DirFault) (fault : DirFault) (r : Result (List Entry) DirFault) → FaultIs fault r → FaultIs fault (goes_after object last more r)
goes-fault object last more Failed r is = tt
goes-fault object last more Memory r is = tt
goes-fault object last more (Damaged name wanted found) r is = rw is refl
goes-fault object last more (Malformed name offset) r is = rw is refl
goes-fault object last more (LayerDiffers name wanted found) r is = rw is refl

module _ (p : Stored) (chunk table : ℕ) (kinds : List Kind) (disk : View) (last : Option Entry) (info own : ChunkInfo) (lt : chunk < length p.chunks) (own_is : slice_get p.chunks (index_of p chunk) ≡ Some own) (there : slice_get p.chunks chunk ≡ Some info) where
  index-is : index_of p chunk ≡ chunk
  index-is = omega (arith, lt)

  own-is : own ≡ info
  own-is = (let same : Some own ≡ Some info = sym own_is ∙ (ap (slice_get p.chunks) index-is ∙ there) in cc same)

  number-is : number_of p chunk ≡ p.first + chunk
  number-is = ap (λ (n : ℕ). p.first + n) index-is

  chunk-is : chunk_at p.layer (number_of p chunk) table kinds own disk.objects ≡ chunk_at p.layer (p.first + chunk) table kinds info disk.objects
  chunk-is = ap₂ (λ (n : ℕ) (i : ChunkInfo). chunk_at p.layer n table kinds i disk.objects) number-is own-is

  pub next-refused : (fault : DirFault) → IsRefused p.layer (number_of p chunk) table kinds own disk true fault → Tells disk → FaultIs fault (check_chunk p table kinds disk.objects chunk last info)
  next-refused fault refused tells = goes-fault (object_name p.layer (Chunk (p.first + chunk))) last (λ entries. Ok entries) fault (chunk_at p.layer (p.first + chunk) table kinds info disk.objects) (subst (FaultIs fault) chunk-is (refused.stored tells))

  module _ (bytes : List ℕ) (given : IsGiven p.layer (number_of p chunk) table kinds own disk bytes) where
    pub not-malformed : (offset : ℕ) → (let r : Result (List Entry) ℕ = Err offset in r ≡ read_chunk table kinds bytes) → ⊥
    not-malformed offset is = (let both : Err offset ≡ Ok given.entries = is ∙ told-read table kinds own bytes given.entries given.told in cc both)

    module _ (held : List Entry) (is : (let r : Result (List Entry) ℕ = Ok held in r ≡ read_chunk table kinds bytes)) where
      held-is : held ≡ given.entries
      held-is = (let both : Ok held ≡ Ok given.entries = is ∙ told-read table kinds own bytes given.entries given.told in cc both)

      chunk-found : Tells disk → chunk_at p.layer (p.first + chunk) table kinds info disk.objects ≡ Ok held
      chunk-found tells = sym chunk-is ∙ (given.stored tells ∙ ap (λ (es : List Entry). Ok es) (sym held-is))

      pub next-found : goes_on last (first_of held) ≡ true → Tells disk → check_chunk p table kinds disk.objects chunk last info ≡ Ok held
      next-found goes tells = ap (goes_after (object_name p.layer (Chunk (p.first + chunk))) last (λ entries. Ok entries)) (chunk-found tells) ∙ rw goes refl

      pub next-breaks : (fault : DirFault) → goes_on last (first_of held) ≡ false → fault ≡ Malformed (object_name p.layer (Chunk (number_of p chunk))) (length (head_code held)) → Tells disk → FaultIs fault (check_chunk p table kinds disk.objects chunk last info)
      next-breaks fault breaks fault_is tells =
          subst (λ (f : DirFault). FaultIs f (check_chunk p table kinds disk.objects chunk last info)) (sym fault_is)
          (ap (goes_after (object_name p.layer (Chunk (p.first + chunk))) last (λ entries. Ok entries)) (chunk-found tells) ∙ rw (breaks, number-is) refl)

-- ---- chunks and parts, one after another

pub then-fault : {X Y : Type 0} (more : X → Result Y DirFault) (fault : DirFault) (r : Result X DirFault) → FaultIs fault r → FaultIs fault (then_check more r)
then-fault more Failed r is = tt
then-fault more Memory r is = tt
then-fault more (Damaged name wanted found) r is = rw is refl
then-fault more (Malformed name offset) r is = rw is refl
then-fault more (LayerDiffers name wanted found) r is = rw is refl

module _ (p : Stored) (table : ℕ) (kinds : List Kind) (objects : Objects) where
  from-drop : (i : ℕ) (last : Option Entry) (info : ChunkInfo) → i < length p.chunks → slice_get p.chunks i ≡ Some info
      → check_from p table kinds objects i last (drop i p.chunks) ≡ then_check (λ entries. check_from p table kinds objects (i + 1) (last_after None entries) (drop (i + 1) p.chunks)) (check_chunk p table kinds objects i last info)
  from-drop i last info lt got = ap (check_from p table kinds objects i last) (drop_more p.chunks i info lt ∙ ap (λ (x : ChunkInfo). x ∷ drop (i + 1) p.chunks) (get_or_from_slice_get p.chunks i info info got))

  pub from-next : (i : ℕ) (last : Option Entry) (info : ChunkInfo) (held : List Entry) (whole : Result (Unit {0}) DirFault) → i < length p.chunks → slice_get p.chunks i ≡ Some info → check_chunk p table kinds objects i last info ≡ Ok held
      → check_from p table kinds objects i last (drop i p.chunks) ≡ whole → check_from p table kinds objects (i + 1) (last_after None held) (drop (i + 1) p.chunks) ≡ whole
  from-next i last info held whole lt got found so_far = sym (ap (then_check (λ entries. check_from p table kinds objects (i + 1) (last_after None entries) (drop (i + 1) p.chunks))) found) ∙ (sym (from-drop i last info lt got) ∙ so_far)

  pub from-fault : (i : ℕ) (last : Option Entry) (info : ChunkInfo) (fault : DirFault) (whole : Result (Unit {0}) DirFault) → i < length p.chunks → slice_get p.chunks i ≡ Some info → FaultIs fault (check_chunk p table kinds objects i last info)
      → check_from p table kinds objects i last (drop i p.chunks) ≡ whole → FaultIs fault whole
  from-fault i last info fault whole lt got found so_far = subst (FaultIs fault) (sym (from-drop i last info lt got) ∙ so_far) (then-fault (λ entries. check_from p table kinds objects (i + 1) (last_after None entries) (drop (i + 1) p.chunks)) fault (check_chunk p table kinds objects i last info) found)

  at-index : (i : ℕ) → i < length p.chunks → (info : ChunkInfo) × (slice_get p.chunks i ≡ Some info)
  at-index i lt = elim (slice_get_cases p.chunks i).1 [ inl w ↦ (w.0, w.2) | inr w ↦ absurd (let le = w.0 in omega (arith, lt, le)) ]

  -- the chunk of a number was read, over objects that are the same
  pub chunk-next : (now : Objects) (i : ℕ) (last : Option Entry) (held : List Entry) (whole : Result (Unit {0}) DirFault) → now ≡ objects → i < length p.chunks
      → ((info : ChunkInfo) → slice_get p.chunks i ≡ Some info → check_chunk p table kinds now i last info ≡ Ok held)
      → check_from p table kinds objects i last (drop i p.chunks) ≡ whole → check_from p table kinds objects (i + 1) (last_after None held) (drop (i + 1) p.chunks) ≡ whole
  chunk-next now i last held whole same lt found so_far =
      let info = at-index i lt in
      from-next i last info.0 held whole lt info.1 (subst (λ (o : Objects). check_chunk p table kinds o i last info.0 ≡ Ok held) same (found info.0 info.1)) so_far

  pub chunk-fault : (now : Objects) (i : ℕ) (last : Option Entry) (fault : DirFault) (whole : Result (Unit {0}) DirFault) → now ≡ objects → i < length p.chunks
      → ((info : ChunkInfo) → slice_get p.chunks i ≡ Some info → FaultIs fault (check_chunk p table kinds now i last info))
      → check_from p table kinds objects i last (drop i p.chunks) ≡ whole → FaultIs fault whole
  chunk-fault now i last fault whole same lt found so_far =
      let info = at-index i lt in
      from-fault i last info.0 fault whole lt info.1 (subst (λ (o : Objects). FaultIs fault (check_chunk p table kinds o i last info.0)) same (found info.0 info.1)) so_far

module _ (table : ℕ) (kinds : List Kind) (objects : Objects) (ps : List Stored) where
  parts-drop : (i : ℕ) (p : Stored) → i < length ps → p ≡ get_or ps i p → check_parts table kinds objects (drop i ps) ≡ then_check (λ (u : Unit {0}). check_parts table kinds objects (drop (i + 1) ps)) (check_part table kinds objects p)
  parts-drop i p lt is = ap (check_parts table kinds objects) (drop_more ps i p lt ∙ ap (λ (x : Stored). x ∷ drop (i + 1) ps) (sym is))

  pub part-next : (now : Objects) (i : ℕ) (p : Stored) (u : Unit {0}) (whole : Result (Unit {0}) DirFault) → now ≡ objects → i < length ps → p ≡ get_or ps i p → check_part table kinds now p ≡ Ok u
      → check_parts table kinds objects (drop i ps) ≡ whole → check_parts table kinds objects (drop (i + 1) ps) ≡ whole
  part-next now i p u whole same lt is found so_far =
      sym (ap (then_check (λ (x : Unit {0}). check_parts table kinds objects (drop (i + 1) ps))) (ap (λ (o : Objects). check_part table kinds o p) (sym same) ∙ found)) ∙ (sym (parts-drop i p lt is) ∙ so_far)

  pub part-fault : (now : Objects) (i : ℕ) (p : Stored) (fault : DirFault) (whole : Result (Unit {0}) DirFault) → now ≡ objects → i < length ps → p ≡ get_or ps i p → FaultIs fault (check_part table kinds now p)
      → check_parts table kinds objects (drop i ps) ≡ whole → FaultIs fault whole
  part-fault now i p fault whole same lt is found so_far =
      subst (FaultIs fault) (sym (parts-drop i p lt is) ∙ so_far) (then-fault (λ (x : Unit {0}). check_parts table kinds objects (drop (i + 1) ps)) fault (check_part table kinds objects p) (subst (λ (o : Objects). FaultIs fault (check_part table kinds o p)) same found))
