-- What the layers that stand on a disk store of a table: the pieces of its entries.
use Rattle.std.proofs.Common.{◌≡◌, ◌∙◌, inl, inr, ℕ, zero, suc, ◌+◌, Bool, true, false, not, ◌&&◌, ◌||◌, ◌==◌, cond, nat_lt, refl, sym, ap, ap₂, subst, arith, List, [], ◌∷◌, ◌++◌, length, map, take, Option, Some, None, option_map, position, unwrap_or, Result, Ok}
use Rattle.std.specs.Prelude.{if◌then◌else◌}
use Rattle.std.specs.List.{AllByRecursion, find, flat_map, list_any, position_or_len, slice_get}
use Rattle.std.proofs.lemmas.Bool.{eq-eqb, eqb-true}
use Rattle.std.proofs.lemmas.Bool.Decides.{nat_tests}
use Rattle.std.proofs.lemmas.List.{length-map}
use Rattle.std.proofs.lemmas.List.Folds.{find_at}
use Rattle.std.proofs.lemmas.List.Sums.{sum_by-cons}
use Rattle.std.proofs.lemmas.Option.{slice_get-map, slice_get_cases, slice_get_within}
use Rattle.std.proofs.lemmas.Simd.{map-map}
use Rattle.sha2.specs.Sha256.{sha256}
use Rattle.mvcc_keys.specs.declared.entries.Entry.{Entry}
use Rattle.row_codec.specs.declared.rows.Kind.{Kind}
use Rattle.list_laws.specs.Members.{Has}
use Rattle.list_laws.proofs.Filters.{none-any}
use Rattle.list_laws.proofs.Members.{all-weaker, map-has}
use Rattle.list_laws.proofs.Places.{none-left}
use Rattle.history_model.specs.Histories.{Table, schemas_of}
use Rattle.history_model.specs.Layers.{LayerRecord}
use Rattle.version_store.specs.Tables.{Tables}
use Rattle.table_rows.specs.RowTables.{bytes_of}
use Rattle.introduced_spans.specs.declared.plans.TablePlan.{TablePlan}
use Rattle.introduced_spans.specs.Spans.{members_of, table_plan}
use Rattle.introduced_spans.proofs.Lists.{all-both}
use Rattle.chunk_file.specs.Chunks.{IsChunk, chunk_bytes, read_chunk}
use Rattle.chunk_file.specs.Entries.{IsStored, is_entry}
use Rattle.chunk_file.proofs.ChunkLaws.{chunks-exact}
use Rattle.outside_world.specs.Objects.{Objects, at}
use Rattle.layer_manifest.specs.declared.manifest.ChunkInfo.{ChunkInfo}
use Rattle.layer_manifest.specs.declared.manifest.Manifest.{Manifest}
use Rattle.layer_manifest.specs.declared.manifest.TablePart.{TablePart}
use Rattle.layer_manifest.specs.Manifests.{chunk_count}
use Rattle.layer_model.specs.declared.names.LayerName.{LayerName}
use Rattle.layer_model.specs.declared.names.Part.TheVariants.{Chunk}
use Rattle.layer_model.specs.Names.{object_name}
use Rattle.collection_dir.specs.Versions.{first_chunk, first_table, first_version}
use Rattle.layer_objects.specs.Contents.{chunk_size, entries_in, in_a_row, info_of, part_of, pieces_of, with_each, with_pieces}
use Rattle.layer_objects.specs.Objects.{bounded_manifest, by_id, covers, described, manifest_of, name_of_record, objects_of, plan_of, rows_of, table_kinds}
use Rattle.layer_objects.proofs.CutPieces.{entries-cut}
use Rattle.layer_objects.proofs.Cutting.{size_pos}
use Rattle.layer_objects.proofs.Ordered.{pieces_chunks}
use Rattle.layer_objects.proofs.Sizes.{cut-all}
use Rattle.layer_chains.specs.Chains.{introduces, layer_entries, plan_for}
use Rattle.layer_chains.specs.Standing.{IsStandingLayer}
use Rattle.stored_chunks.specs.Told.{is_told}
use Rattle.stored_chunks.specs.Loads.{chunk_at}
use Rattle.stored_chunks.specs.Places.{Stored, is_of, stored, with_part, with_place}
use Rattle.stored_chunks.specs.Places as places
use Rattle.restore_rows.proofs.Bounds.{bounds-told}
use Rattle.restore_rows.proofs.WholeParts.{holds-chunk}
use Rattle.restore_rows.proofs.Worlds.{got-has}

-- ---- lists

got-left : {X : Type 0} (xs ys : List X) (i : ℕ) (x : X) → slice_get xs i ≡ Some x → slice_get (xs ++ ys) i ≡ Some x
got-left [] ys i x e = cc e
got-left (y ∷ xs) ys zero x e = e
got-left (y ∷ xs) ys (suc i) x e = got-left xs ys i x e

got-right : {X : Type 0} (xs ys : List X) (i : ℕ) → slice_get (xs ++ ys) (length xs + i) ≡ slice_get ys i
got-right [] ys i = ap (slice_get ys) (omega arith)
got-right (z ∷ zs) ys i = ap (slice_get (z ∷ zs ++ ys)) (let n : length (z ∷ zs) + i ≡ suc (length zs + i) = omega arith in n) ∙ got-right zs ys i

any-map : {X Y : Type 0} (p : Y → Bool) (f : X → Y) (q : X → Bool) → ((x : X) → p (f x) ≡ q x) → (xs : List X) → list_any p (map f xs) ≡ list_any q xs
any-map p f q same [] = refl
any-map p f q same (x ∷ xs) = ap₂ (λ (a b : Bool). a || b) (same x) (any-map p f q same xs)

-- ---- the tables of a manifest, one for each plan

module _ (g : TablePlan → TablePart) (own : (p : TablePlan) → (g p).id ≡ p.id) (id : ℕ) where
  abbrev planned : TablePlan → Bool
  planned p = p.id == id

  places-same : (plans : List TablePlan) → position_or_len (is_of id) (map g plans) ≡ position_or_len planned plans
  places-same [] = refl
  places-same (p ∷ plans) = ap₂ (λ (b : Bool) (n : ℕ). cond (not b) (1 + n) 0) (ap (λ (i : ℕ). i == id) (own p)) (places-same plans)

  position-is : (plans : List TablePlan) → position (is_of id) (map g plans) ≡ cond (nat_lt (position_or_len planned plans) (length plans)) (Some (position_or_len planned plans)) None
  position-is plans = ap₂ (λ (m k : ℕ). cond (nat_lt m k) (Some m) None) (places-same plans) (length-map plans g)

  pub place-none : (plans : List TablePlan) → find planned plans ≡ None → position (is_of id) (map g plans) ≡ None
  place-none plans e = elim (slice_get_cases plans (position_or_len planned plans)).1 [
    | inl w ↦ absurd (let no : None ≡ Some w.0 = sym e ∙ (find_at planned plans ∙ w.2) in cc no)
    | inr w ↦ (let past : nat_lt (position_or_len planned plans) (length plans) ≡ false = (let le = w.0 in grind (arith, nat_tests, le)) in position-is plans ∙ rw past refl)
  ]

  pub place-some : (plans : List TablePlan) (plan : TablePlan) → find planned plans ≡ Some plan → (n : ℕ) × (position (is_of id) (map g plans) ≡ Some n) × (slice_get plans n ≡ Some plan)
  place-some plans plan e =
      let n = position_or_len planned plans in
      let got : slice_get plans n ≡ Some plan = sym (find_at planned plans) ∙ e in
      let lt = slice_get_within plans n plan got in
      let before : nat_lt n (length plans) ≡ true = grind (arith, nat_tests, lt) in
      (n, position-is plans ∙ rw before refl, got)

-- the plan that is found has the id
found-id : (id : ℕ) (plans : List TablePlan) (plan : TablePlan) → find (λ (p : TablePlan). p.id == id) plans ≡ Some plan → plan.id ≡ id
found-id id [] plan e = cc e
found-id id (p ∷ plans) plan e = by (p.id == id) refl e (found-id id plans plan)
  where
    by : (b : Bool) → p.id == id ≡ b → cond b (Some p) (find (λ (q : TablePlan). q.id == id) plans) ≡ Some plan → (find (λ (q : TablePlan). q.id == id) plans ≡ Some plan → plan.id ≡ id) → plan.id ≡ id
    by true is e more = (let same : p ≡ plan = cc e in ap (λ (q : TablePlan). q.id) (sym same) ∙ eqb-true p.id id is)
    by false is e more = more e

-- plans by their ids: one introduces the table exactly where the first does
any-first : (f : ℕ → TablePlan) → ((i : ℕ) → (f i).id ≡ i) → (id : ℕ) (ids : List ℕ)
    → list_any (λ (p : TablePlan). p.id == id && p.introduced) (map f ids) ≡ unwrap_or (option_map (λ (p : TablePlan). p.introduced) (find (λ (p : TablePlan). p.id == id) (map f ids))) false
any-first f own id [] = refl
any-first f own id (i ∷ ids) = by ((f i).id == id) refl (any-first f own id ids)
  where
    rest : Bool
    rest = list_any (λ (p : TablePlan). p.id == id && p.introduced) (map f ids)

    first : Option TablePlan
    first = find (λ (p : TablePlan). p.id == id) (map f ids)

    same : (f i).id == id ≡ true → f i ≡ f id
    same is = ap f (sym (own i) ∙ eqb-true (f i).id id is)

    not-so : f i ≡ f id → (f i).introduced ≡ false → (p : TablePlan) → Has p (map f ids) → (p.id == id && p.introduced) ≡ false
    not-so is off p has = no-by (p.id == id) refl
      where
        m : (x : ℕ) × Has x ids × (p ≡ f x)
        m = map-has f p ids has

        no-by : (b : Bool) → p.id == id ≡ b → (b && p.introduced) ≡ false
        no-by false e = refl
        no-by true e =
            let x : m.0 ≡ id = sym (own m.0) ∙ (ap (λ (q : TablePlan). q.id) (sym m.2) ∙ eqb-true p.id id e) in
            ap (λ (q : TablePlan). q.introduced) (m.2 ∙ (ap f x ∙ sym is)) ∙ off

    introduced-by : (f i).id == id ≡ true → (b : Bool) → (f i).introduced ≡ b → (b || rest) ≡ b
    introduced-by is true e = refl
    introduced-by is false e = none-any (λ (p : TablePlan). p.id == id && p.introduced) (map f ids) (not-so (same is) e)

    by : (b : Bool) → (f i).id == id ≡ b → rest ≡ unwrap_or (option_map (λ (p : TablePlan). p.introduced) first) false
        → ((b && (f i).introduced) || rest) ≡ unwrap_or (option_map (λ (p : TablePlan). p.introduced) (cond b (Some (f i)) first)) false
    by true is more = introduced-by is (f i).introduced refl
    by false is more = more

-- ---- places of pieces

-- the pieces of the tables one after another: those of a place begin after as many as the tables before have chunks
row-at : (g : TablePlan → TablePart) (pieces : TablePlan → List (List Entry)) → ((p : TablePlan) → length (g p).chunks ≡ length (pieces p)) → (plans : List TablePlan) (n : ℕ) (plan : TablePlan) (i : ℕ) (piece : List Entry)
    → slice_get plans n ≡ Some plan → slice_get (pieces plan) i ≡ Some piece → slice_get (in_a_row (map pieces plans)) (chunk_count (take n (map g plans)) + i) ≡ Some piece
row-at g pieces long [] n plan i piece e f = cc e
row-at g pieces long (p ∷ ps) zero plan i piece e f =
    let same : p ≡ plan = cc e in
    ap (slice_get (in_a_row (map pieces (p ∷ ps)))) (let z : 0 + i ≡ i = omega arith in z) ∙ got-left (pieces p) (in_a_row (map pieces ps)) i piece (ap (λ (q : TablePlan). slice_get (pieces q) i) same ∙ f)
row-at g pieces long (p ∷ ps) (suc k) plan i piece e f =
    let front = sum_by-cons (λ (t : TablePart). length t.chunks) (g p) (take k (map g ps)) in
    let count = long p in
    let n : chunk_count (take (suc k) (map g (p ∷ ps))) + i ≡ length (pieces p) + (chunk_count (take k (map g ps)) + i) = omega (arith, front, count) in
    ap (slice_get (in_a_row (map pieces (p ∷ ps)))) n ∙ (got-right (pieces p) (in_a_row (map pieces ps)) (chunk_count (take k (map g ps)) + i) ∙ row-at g pieces long ps k plan i piece e f)

-- ---- one table

-- the chunks of a part hold the pieces of these entries
pub record HoldsPieces (id : ℕ) (kinds : List Kind) (objects : Objects) (s : Stored) (entries : List Entry) : Type 0 where
  pub pieces : List (List Entry)
  pub joined : flat_map (λ (piece : List Entry). piece) pieces ≡ entries
  pub counted : length pieces ≡ length s.chunks
  pub found : (i : ℕ) (info : ChunkInfo) (piece : List Entry) → slice_get s.chunks i ≡ Some info → slice_get pieces i ≡ Some piece → chunk_at s.layer (s.first + i) id kinds info objects ≡ Ok piece

-- what is stored of entries, if anything is, and whether the table is introduced with them
abbrev pub StoresEntries : ℕ → List Kind → Objects → Option Stored → List Entry → Bool → Type 0
StoresEntries id kinds objects None entries introduced = entries ≡ []
StoresEntries id kinds objects (Some s) entries introduced = HoldsPieces id kinds objects s entries × (s.introduced ≡ introduced)

module _ (tables : List Table) (r : LayerRecord) where
  abbrev h : Tables
  h = bytes_of (rows_of tables)

  abbrev plans : List TablePlan
  plans = (plan_of tables r).tables

  abbrev part : TablePlan → TablePart
  part = part_of (described tables) r.history (plan_of tables r).floor r.end

  -- the table of a plan in the manifest, in the first version or in the second
  abbrev pub made : Bool → TablePlan → TablePart
  made b p = if b then first_table (with_pieces (part p) (pieces_of h p)) else with_pieces (part p) (pieces_of h p)

  abbrev info_by : Bool → List Entry → ChunkInfo
  info_by b piece = if b then first_chunk (info_of piece) else info_of piece

  made-id : (b : Bool) (p : TablePlan) → (made b p).id ≡ p.id
  made-id true p = refl
  made-id false p = refl

  made-introduced : (b : Bool) (p : TablePlan) → (made b p).introduced ≡ p.introduced
  made-introduced true p = refl
  made-introduced false p = refl

  made-chunks : (b : Bool) (p : TablePlan) → (made b p).chunks ≡ map (info_by b) (pieces_of h p)
  unfolding info_of
  made-chunks true p = map-map first_chunk info_of (pieces_of h p)
  made-chunks false p = refl

  made-count : (b : Bool) (p : TablePlan) → length (made b p).chunks ≡ length (pieces_of h p)
  made-count b p = ap length (made-chunks b p) ∙ length-map (pieces_of h p) (info_by b)

  told-by : (b : Bool) (piece : List Entry) → is_told (info_by b piece) (length (chunk_bytes piece)) piece ≡ true
  unfolding info_of
  told-by true piece = rw (eq-eqb (length piece) (length piece) refl, eq-eqb (length (chunk_bytes piece)) (length (chunk_bytes piece)) refl) refl
  told-by false piece = rw (eq-eqb (length piece) (length piece) refl, eq-eqb (length (chunk_bytes piece)) (length (chunk_bytes piece)) refl, bounds-told piece) refl

  digest-by : (b : Bool) (piece : List Entry) → sha256 (chunk_bytes piece) ≡ (info_by b piece).digest
  unfolding info_of sha256
  digest-by true piece = refl
  digest-by false piece = refl

  each-made : (ps : List TablePlan) → with_each (map part ps) (map (pieces_of h) ps) ≡ map (made false) ps
  each-made [] = refl
  each-made (p ∷ ps) = ap (λ (ts : List TablePart). made false p ∷ ts) (each-made ps)

  tables-by : (b : Bool) → (let m : Manifest = if b then first_version (bounded_manifest tables r) else bounded_manifest tables r in m.tables ≡ map (made b) plans)
  unfolding first_version
  tables-by true = ap (map first_table) (each-made plans) ∙ map-map first_table (made false) plans
  tables-by false = each-made plans

  abbrev version : Bool
  version = r.version == 1

  tables-are : (manifest_of tables r).tables ≡ map (made version) plans
  tables-are = tables-by version

  -- ---- introductions

  pub introduced-same : (id : ℕ) → places.introduces id (name_of_record r, manifest_of tables r) ≡ introduces tables id r
  unfolding plan_of table_plan
  introduced-same id =
      ap (list_any (λ (t : TablePart). t.id == id && t.introduced)) tables-are
      ∙ (any-map (λ (t : TablePart). t.id == id && t.introduced) (made version) (λ (p : TablePlan). p.id == id && p.introduced)
      (λ p. ap₂ (λ (i : ℕ) (b : Bool). i == id && b) (made-id version p) (made-introduced version p)) plans
      ∙ any-first (table_plan (schemas_of tables) (covers r)) (λ i. refl) id (members_of (schemas_of tables) r.scope (covers r)))

  -- ---- what stands

  module _ (id : ℕ) (kinds : List Kind) (objects : Objects) (entry : LayerName × Manifest) (standing : IsStandingLayer tables objects r entry) (kinds_are : by_id [] table_kinds tables id ≡ kinds) where
    there-at : (n : ℕ) (plan : TablePlan) (i : ℕ) (piece : List Entry) → slice_get plans n ≡ Some plan → slice_get (pieces_of h plan) i ≡ Some piece
        → at objects (object_name (name_of_record r) (Chunk (chunk_count (take n (map (made version) plans)) + i))) ≡ Some (chunk_bytes piece)
    unfolding objects_of
    there-at n plan i piece got is =
        let number = chunk_count (take n (map (made version) plans)) + i in
        let row : slice_get (in_a_row (map (pieces_of h) plans)) number ≡ Some piece = row-at (made version) (pieces_of h) (made-count version) plans n plan i piece got is in
        let bytes : slice_get (map chunk_bytes (in_a_row (map (pieces_of h) plans))) number ≡ Some (chunk_bytes piece) = slice_get-map chunk_bytes (in_a_row (map (pieces_of h) plans)) number ∙ ap (option_map chunk_bytes) row in
        standing.chunks number (slice_get_within (map chunk_bytes (in_a_row (map (pieces_of h) plans))) number (chunk_bytes piece) bytes) ∙ bytes

    module _ (n : ℕ) (plan : TablePlan) (got : slice_get plans n ≡ Some plan) (own : plan.id ≡ id) where
      typed : AllByRecursion (λ (e : Entry). (is_entry plan.id kinds e ≡ true) × IsStored e) (entries_in h plan)
      typed = subst (λ (ks : List Kind). AllByRecursion (λ (e : Entry). (is_entry plan.id ks e ≡ true) × IsStored e) (entries_in h plan)) (ap (by_id [] table_kinds tables) own ∙ kinds_are) (standing.may.entries plan (got-has plans n plan got))

      chunks : AllByRecursion (λ (piece : List Entry). IsChunk plan.id kinds piece × AllByRecursion IsStored piece) (pieces_of h plan)
      chunks = all-both (IsChunk plan.id kinds) (AllByRecursion IsStored) (pieces_of h plan)
          (pieces_chunks h kinds plan (all-weaker (λ (e : Entry). (is_entry plan.id kinds e ≡ true) × IsStored e) (λ (e : Entry). is_entry plan.id kinds e ≡ true) (λ e t. t.0) (entries_in h plan) typed))
          (cut-all IsStored chunk_size (entries_in h plan) (all-weaker (λ (e : Entry). (is_entry plan.id kinds e ≡ true) × IsStored e) IsStored (λ e t. t.1) (entries_in h plan) typed))

      at-piece : (xs : List (List Entry)) (i : ℕ) (piece : List Entry) → AllByRecursion (λ (x : List Entry). IsChunk plan.id kinds x × AllByRecursion IsStored x) xs → slice_get xs i ≡ Some piece → IsChunk plan.id kinds piece × AllByRecursion IsStored piece
      at-piece [] i piece all e = cc e
      at-piece (x ∷ xs) zero piece all e = (let same : x ≡ piece = cc e in subst (λ (y : List Entry). IsChunk plan.id kinds y × AllByRecursion IsStored y) same all.0)
      at-piece (x ∷ xs) (suc i) piece all e = at-piece xs i piece all.1 e

      info-at : (i : ℕ) (info : ChunkInfo) (piece : List Entry) → slice_get (made version plan).chunks i ≡ Some info → slice_get (pieces_of h plan) i ≡ Some piece → info ≡ info_by version piece
      info-at i info piece got is =
          let both : Some info ≡ Some (info_by version piece) = sym got ∙ (ap (λ (xs : List ChunkInfo). slice_get xs i) (made-chunks version plan) ∙ (slice_get-map (info_by version) (pieces_of h plan) i ∙ ap (option_map (info_by version)) is)) in
          cc both

      pub holds-pieces : HoldsPieces id kinds objects (stored (name_of_record r) (made version plan).introduced (chunk_count (take n (map (made version) plans))) (made version plan).chunks) (entries_in h plan)
      holds-pieces = record {
        pieces = pieces_of h plan;
        joined = (entries-cut.pieces chunk_size (entries_in h plan) size_pos).joined;
        counted = sym (made-count version plan);
        found = λ i info piece is_info is_piece.
            let chunk = at-piece (pieces_of h plan) i piece chunks is_piece in
            let is = info-at i info piece is_info is_piece in
            subst (λ (x : ChunkInfo). chunk_at (name_of_record r) (chunk_count (take n (map (made version) plans)) + i) id kinds x objects ≡ Ok piece) (sym is)
            (holds-chunk (name_of_record r) (chunk_count (take n (map (made version) plans)) + i) id kinds (info_by version piece) objects piece (record {
              bytes = chunk_bytes piece;
              there = there-at n plan i piece got is_piece;
              digest = digest-by version piece;
              reads = ap (λ (k : ℕ). read_of k (chunk_bytes piece)) (sym own) ∙ chunks-exact.found plan.id kinds piece chunk.0 chunk.1;
              told = told-by version piece;
            }));
      }
        where
          read_of : ℕ → List ℕ → Result (List Entry) ℕ
          read_of k bytes = read_chunk k kinds bytes

    -- what the layer stores of the table
    pub layer-stores : StoresEntries id kinds objects (places.part_of id entry) (layer_entries tables id r) (introduces tables id r)
    layer-stores = subst (λ (o : Option Stored). StoresEntries id kinds objects o (layer_entries tables id r) (introduces tables id r)) (sym same) (by (plan_for tables id r) refl)
      where
        ts : List TablePart
        ts = map (made version) plans

        name : LayerName
        name = name_of_record r

        same : places.part_of id entry ≡ with_place name ts (position (is_of id) ts)
        same = ap₂ (λ (l : LayerName) (m : Manifest). places.part_of id (l, m)) standing.name standing.manifest ∙ ap (λ (xs : List TablePart). with_place name xs (position (is_of id) xs)) tables-are

        found : (n : ℕ) (plan : TablePlan) → slice_get plans n ≡ Some plan → plan.id ≡ id → (b : Bool) → (length (made version plan).chunks == 0) ≡ b
            → StoresEntries id kinds objects (if b then None else Some (stored name (made version plan).introduced (chunk_count (take n ts)) (made version plan).chunks)) (entries_in h plan) plan.introduced
        found n plan got own false some = (holds-pieces n plan got own, made-introduced version plan)
        found n plan got own true none =
            let p = holds-pieces n plan got own in
            let zero-long : length p.pieces ≡ 0 = p.counted ∙ eqb-true (length (made version plan).chunks) 0 none in
            sym p.joined ∙ ap (flat_map (λ (piece : List Entry). piece)) (none-left p.pieces zero-long)

        by : (o : Option TablePlan) → plan_for tables id r ≡ o → StoresEntries id kinds objects (with_place name ts (position (is_of id) ts)) (unwrap_or (option_map (entries_in h) o) []) (unwrap_or (option_map (λ (p : TablePlan). p.introduced) o) false)
        by None e = subst (λ (o : Option ℕ). StoresEntries id kinds objects (with_place name ts o) [] false) (sym (place-none (made version) (made-id version) id plans e)) refl
        by (Some plan) e =
            let place = place-some (made version) (made-id version) id plans plan e in
            let n = place.0 in
            let got : slice_get ts n ≡ Some (made version plan) = slice_get-map (made version) plans n ∙ ap (option_map (made version)) place.2 in
            subst (λ (o : Option ℕ). StoresEntries id kinds objects (with_place name ts o) (entries_in h plan) plan.introduced) (sym place.1)
            (subst (λ (o : Option TablePart). StoresEntries id kinds objects (with_part name (chunk_count (take n ts)) o) (entries_in h plan) plan.introduced) (sym got)
            (found n plan place.2 (found-id id plans plan e) (length (made version plan).chunks == 0) refl))
