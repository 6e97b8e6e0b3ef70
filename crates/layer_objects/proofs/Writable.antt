-- The law that layers may be written, and what their manifests tell.
use Rattle.std.proofs.Common.{◌≡◌, inl, ℕ, suc, ◌+◌, ◌-◌, ◌<◌, ◌≤◌, ◌^◌, ◌==◌, ◌||◌, Bool, true, false, nat_lt, refl, sym, ap, subst, ◌∙◌, arith, List, [], ◌∷◌, ◌++◌, length, map, filter, Some, Ok, if◌then◌else◌}
use Rattle.std.specs.Prelude.{slice_get, slice_index, not}
use Rattle.std.specs.List.{AllByRecursion, range_with_len, sum_by}
use Rattle.std.specs.List.Sorted.{IsStrictlyIncreasing}
use Rattle.std.proofs.lemmas.Bool.Decides.{nat_tests}
use Rattle.std.proofs.lemmas.List.{length-map}
use Rattle.std.proofs.lemmas.List.Filters.{sum_by-filter_both}
use Rattle.std.proofs.lemmas.List.FromFn.{length-range_with_len}
use Rattle.std.proofs.lemmas.List.Sums.{sum_by-cons}
use Rattle.std.proofs.lemmas.Option.{slice_get-get_or, slice_get-map, slice_get_within}
use Rattle.mvcc_keys.specs.Times.{Time, time_eq, zero_time}
use Rattle.mvcc_keys.specs.declared.entries.Entry.{Entry}
use Rattle.mvcc_keys.proofs.TimeOrder.{eq-refl}
use Rattle.row_codec.specs.declared.rows.Kind.{Kind}
use Rattle.row_codec.proofs.KeyLaws.{ok_is}
use Rattle.table_descriptors.specs.declared.scopes.Scope.{Scope}
use Rattle.table_descriptors.specs.Descriptors.{IsProperSchema, Schema, key_kinds}
use Rattle.table_descriptors.specs.Fields.{EachAfter}
use Rattle.table_descriptors.proofs.FieldLaws.{whole-found}
use Rattle.table_descriptors.proofs.ListLaws.{last-push}
use Rattle.list_laws.specs.Members.{Has}
use Rattle.list_laws.proofs.Bools.{and-both}
use Rattle.list_laws.proofs.Filters.{filter-fewer}
use Rattle.list_laws.proofs.Members.{all-weaker, AllByRecursion-has, has-AllByRecursion, map-has}
use Rattle.history_model.specs.Histories.{Table, accepted, schemas_of}
use Rattle.history_model.specs.Layers.{LayerRecord}
use Rattle.version_store.specs.Tables.{ByteFact, Tables, entry_of}
use Rattle.table_rows.specs.RowTables.{IsRowFact, bytes_of, coded}
use Rattle.span_export.specs.declared.plan.Plan.{Plan}
use Rattle.span_export.specs.Plans.{plan_entries}
use Rattle.introduced_spans.specs.declared.plans.Span.{Span}
use Rattle.introduced_spans.specs.declared.plans.TablePlan.{TablePlan}
use Rattle.introduced_spans.specs.PlanLaws.{ascend_after}
use Rattle.introduced_spans.specs.Spans.{descriptors_of, is_in_scope, is_member, layer_descriptors, members_of, plan_over, scope_ids, table_ids, table_plan}
use Rattle.introduced_spans.proofs.Lists.{all-both, all-filter, all-map, range-all}
use Rattle.introduced_spans.proofs.Standing.{ascending}
use Rattle.chunk_file.specs.Chunks.{IsChunk, chunk_bytes}
use Rattle.chunk_file.specs.Entries.{IsStored, entry_code, is_entry}
use Rattle.layer_manifest.specs.declared.manifest.Manifest.{Manifest}
use Rattle.layer_manifest.specs.declared.manifest.ChunkInfo.{ChunkInfo}
use Rattle.layer_manifest.specs.declared.manifest.TablePart.{TablePart}
use Rattle.layer_manifest.specs.Manifests.{IsNextTable, IsProperChunk, IsProperManifest, chunk_count, comes_after, kinds_of, part_id}
use Rattle.layer_manifest.specs.ManifestFiles.{manifest_code, read_manifest}
use Rattle.layer_manifest.proofs.FewChunks.{few_chunks}
use Rattle.layer_manifest.proofs.ManifestLaws.{manifest-format}
use Rattle.layer_manifest.proofs.Steps.{chunks_more}
use Rattle.collection_dir.specs.Safety.{with_manifest}
use Rattle.collection_dir.specs.Versions.{first_chunk, first_table, first_version}
use Rattle.collection_dir.proofs.VersionLaws.{count-first, proper-first}
use Rattle.layer_objects.specs.Contents.{chunk_size, entries_in, in_a_row, in_version, info_of, part_of, pieces_of, with_each, with_pieces}
use Rattle.layer_objects.specs.Objects.{bare, bounded_manifest, by_id, covers, described, in_first, manifest_of, objects_of, pieces_in, plan_of, rows_of, table_facts, table_kinds}
use Rattle.layer_objects.specs.Storable.{AreListable, AreStorable, IsRecord, IsSized, IsStorable, FirstVersionsAgree, LayersMayBeWritten, ManifestsTell, older_or}
use Rattle.layer_objects.proofs.Counts.{bare_count, count_each}
use Rattle.layer_objects.proofs.Final.{no-table}
use Rattle.layer_objects.proofs.Keys.{infos_proper}
use Rattle.layer_objects.proofs.Listing.{IsNextSchema, listable-next, listed-ascends, listed-has, listed-some, now-listable}
use Rattle.layer_objects.proofs.Names.{objects-manifest}
use Rattle.layer_objects.proofs.Ordered.{pieces_chunks}
use Rattle.layer_objects.proofs.Planned.{entry-there, plan-fewer}
use Rattle.layer_objects.proofs.Sizes.{IsSmall, chunk-short, coded-small, cut-all, cut-fewer}

-- ---- lists

sum-filter : {X : Type 0} (p : X → Bool) (f : X → ℕ) (xs : List X) → sum_by f (filter p xs) ≤ sum_by f xs
sum-filter p f xs = let both = sum_by-filter_both p (λ x. not (p x)) (λ x. refl) f xs in omega (arith, both)

sum-map : {X Y : Type 0} (f : X → Y) (g : Y → ℕ) (k : X → ℕ) → ((x : X) → g (f x) ≤ k x) → (xs : List X) → sum_by g (map f xs) ≤ sum_by k xs
sum-map f g k less [] = omega arith
sum-map f g k less (x ∷ xs) =
    let front = sum_by-cons g (f x) (map f xs) in
    let back = sum_by-cons k x xs in
    let one = less x in
    let more = sum-map f g k less xs in omega (arith, front, back, one, more)

each-place : {X : Type 0} (P : X → Type 0) (xs : List X) → ((i : ℕ) (x : X) → slice_get xs i ≡ Some x → P x) → AllByRecursion P xs
each-place P [] f = tt
each-place P (x ∷ xs) f = (f 0 x refl, each-place P xs (λ i y got. f (suc i) y got))

unmap : {X Y : Type 0} (P : Y → Type 0) (f : X → Y) (xs : List X) → AllByRecursion P (map f xs) → AllByRecursion (λ x. P (f x)) xs
unmap P f [] all = tt
unmap P f (x ∷ xs) all = (all.0, unmap P f xs all.1)

rising : (xs : List ℕ) (x : ℕ) → IsStrictlyIncreasing (x ∷ xs) → IsStrictlyIncreasing xs
rising xs x up k less = let next : suc k + 1 ≡ suc (k + 1) = omega arith in subst (λ (n : ℕ). slice_index xs k < slice_index (x ∷ xs) n) next (up (suc k) (omega (arith, less)))

-- ---- versions

version-count : (version : ℕ) (m : Manifest) → chunk_count (in_version version m).tables ≡ chunk_count m.tables
unfolding first_version
version-count version m = by (version == 1)
  where
    by : (b : Bool) → chunk_count (if b then first_version m else m).tables ≡ chunk_count m.tables
    by true = count-first m.tables
    by false = refl

version-proper : (version : ℕ) (m : Manifest) → IsProperManifest m → IsProperManifest (in_version version m)
version-proper version m proper = by (version == 1)
  where
    by : (b : Bool) → IsProperManifest (if b then first_version m else m)
    by true = proper-first m proper
    by false = proper

chunks-twice : (cs : List ChunkInfo) → map first_chunk (map first_chunk cs) ≡ map first_chunk cs
chunks-twice [] = refl
chunks-twice (c ∷ cs) = ap (λ (ds : List ChunkInfo). first_chunk c ∷ ds) (chunks-twice cs)

tables-twice : (ts : List TablePart) → map first_table (map first_table ts) ≡ map first_table ts
tables-twice [] = refl
tables-twice (t ∷ ts) =
    ap (λ (cs : List ChunkInfo). record { id = t.id; introduced = t.introduced; descriptors = t.descriptors; chunks = cs } ∷ map first_table (map first_table ts)) (chunks-twice t.chunks)
    ∙ ap (λ (us : List TablePart). first_table t ∷ us) (tables-twice ts)

-- in the first version it is the same whatever version it had
first-of : (version : ℕ) (m : Manifest) → first_version (in_version version m) ≡ first_version m
unfolding first_version
first-of version m = by (version == 1)
  where
    by : (b : Bool) → first_version (if b then first_version m else m) ≡ first_version m
    by true = ap (λ (ts : List TablePart). record { cluster = m.cluster; job = m.job; full = m.full; start = m.start; end = m.end; floor = m.floor; history = m.history; scope = m.scope; tables = ts; version = 1 }) (tables-twice m.tables)
    by false = refl

-- ---- counts of any layer

abbrev facts-of : List Table → Tables
facts-of tables = bytes_of (rows_of tables)

-- the manifest tells of as many chunks as there are
bounded-count : (tables : List Table) (r : LayerRecord) → chunk_count (bounded_manifest tables r).tables ≡ length (in_a_row (pieces_in tables r))
bounded-count tables r =
    let plans = (plan_of tables r).tables in
    let l = length-map plans (pieces_of (facts-of tables)) in
    let m = length-map plans (part_of (described tables) r.history (plan_of tables r).floor r.end) in
    let all = count_each (bare tables r).tables (pieces_in tables r) (omega (arith, l, m)) in
    let none = bare_count (described tables) r.history (plan_of tables r).floor r.end plans in
    all ∙ omega (arith, none)

pub same-count : (tables : List Table) (r : LayerRecord) → chunk_count (manifest_of tables r).tables ≡ length (objects_of tables r).chunks
unfolding objects_of
same-count tables r = version-count r.version (bounded_manifest tables r) ∙ (bounded-count tables r ∙ sym (length-map (in_a_row (pieces_in tables r)) chunk_bytes))

pub manifest-read : (m : Manifest) → IsProperManifest m → read_manifest (manifest_code m) ≡ Ok m
unfolding read_manifest
manifest-read m proper = whole-found manifest-format m proper

pub manifests-tell : ManifestsTell
manifests-tell tables r m written proper same =
    let is = ok_is m (manifest_of tables r) (sym (manifest-read m proper) ∙ (ap read_manifest (same ∙ objects-manifest tables r) ∙ manifest-read (manifest_of tables r) written.proper)) in
    (is, ap (λ (n : Manifest). chunk_count n.tables) is ∙ same-count tables r)

-- ---- tables by their ids

pub at-id : {X : Type 0} (none : X) (f : Table → X) (tables : List Table) (id i : ℕ) (table : Table) → id ≡ 100 + i → slice_get tables i ≡ Some table → by_id none f tables id ≡ f table
at-id none f tables id i table is got =
    let high : nat_lt id 100 ≡ false = grind (arith, nat_tests) in
    let place : id - 100 ≡ i = omega (arith, is) in
    rw (high, place, got) refl

-- the facts of the tables, from an id on, are all facts
sum-range : (g : ℕ → ℕ) (a : ℕ) (tables : List Table) → ((i : ℕ) (table : Table) → slice_get tables i ≡ Some table → g (a + i) ≡ length table.facts) → sum_by g (range_with_len a (length tables)) ≡ accepted tables
sum-range g a [] each = refl
sum-range g a (t ∷ ts) each =
    let front = sum_by-cons g a (range_with_len (a + 1) (length ts)) in
    let back = sum_by-cons (λ (x : Table). length x.facts) t ts in
    let one = each 0 t refl in
    let here : g a ≡ g (a + 0) = ap g (omega arith) in
    let more = sum-range g (a + 1) ts (λ i x got. ap g (let n : (a + 1) + i ≡ a + suc i = omega arith in n) ∙ each (suc i) x got) in
    omega (arith, front, back, one, here, more)

-- a table that is planned
record IsPlanned (tables : List Table) (s : Span) (id : ℕ) : Type 0 where
  pub place : ℕ
  pub table : Table
  pub is : id ≡ 100 + place
  pub got : slice_get tables place ≡ Some table
  pub member : is_member (schemas_of tables) s id ≡ true

planned : (tables : List Table) (scope : Scope) (s : Span) → AllByRecursion (IsPlanned tables s) (members_of (schemas_of tables) scope s)
unfolding members_of scope_ids
planned tables scope s =
    let IsThere : ℕ → Type 0 = λ id. (100 ≤ id) × (id < 100 + length (schemas_of tables)) in
    all-filter IsThere (IsPlanned tables s) (is_member (schemas_of tables) s) (λ id member there.
    let l = length-map tables (λ (t : Table). t.descriptors) in
    let low = there.0 in
    let high = there.1 in
    record { place = id - 100; table = _; is = omega (arith, low); got = slice_get-get_or tables (id - 100) no-table (omega (arith, l, low, high)); member = member })
    _ (all-filter IsThere IsThere (is_in_scope (schemas_of tables) scope) (λ id is there. there) _ (range-all 100 (length (schemas_of tables))))

few-ids : (tables : List Table) (scope : Scope) (s : Span) → length (members_of (schemas_of tables) scope s) ≤ length tables
unfolding members_of scope_ids
few-ids tables scope s =
    let D = schemas_of tables in
    let a = filter-fewer (is_member D s) (filter (is_in_scope D scope) (table_ids D)) in
    let b = filter-fewer (is_in_scope D scope) (table_ids D) in
    let c = length-range_with_len 100 (length D) in
    let d = length-map tables (λ (t : Table). t.descriptors) in omega (arith, a, b, c, d)

-- ---- storable tables

-- the descriptors of each table ascend by their dates
pub schemas-ascend : (tables : List Table) → AreStorable tables → AllByRecursion (λ ds. ascend_after zero_time ds ≡ true) (schemas_of tables)
schemas-ascend tables storable = all-map (λ ds. ascend_after zero_time ds ≡ true) (λ (t : Table). t.descriptors) tables (each-place _ tables (λ i t got. (storable i t got).ascend))

kinds-first : (kinds : List Kind) (ds : List Schema) → 0 < length ds → ((d : Schema) → Has d ds → kinds ≡ key_kinds d) → kinds_of ds ≡ kinds
kinds-first kinds [] some own = absurd (omega (arith, some))
kinds-first kinds (d ∷ ds) some own = sym (own d (inl refl))

module _ (tables : List Table) (storable : AreStorable tables) (few : 100 + length tables ≤ 2 ^ 32) (s : Span) where
  abbrev D : List (List Schema)
  D = schemas_of tables

  abbrev h : Tables
  h = facts-of tables

  abbrev kinds : ℕ → List Kind
  kinds id = by_id [] table_kinds tables id

  -- ---- entries

  fewer-pieces : (p : TablePlan) → length (pieces_of h p) ≤ length (h.facts p.id)
  fewer-pieces p =
      let pieces = cut-fewer chunk_size (entries_in h p) in
      let less = plan-fewer h p.id p.plan in omega (arith, pieces, less)

  module _ (id : ℕ) (is : IsPlanned tables s id) where
    fact : IsStorable (100 + is.place) is.table
    fact = storable is.place is.table is.got

    small : id < 2 ^ 32
    small = let l = slice_get_within tables is.place is.table is.got in let e = is.is in omega (arith, l, e, few)

    fact-small : (f : ByteFact) → Has f (h.facts id) → IsSmall id (kinds id) (entry_of f)
    fact-small f has =
        let row = map-has (coded id (kinds id)) f (by_id [] table_facts tables id) has in
        let known = fact.facts row.0 (subst (Has row.0) (at-id [] table_facts tables id is.place is.table is.is is.got) row.1) in
        let typed = subst (λ (ks : List Kind). IsRowFact ks row.0 × IsSized ks row.0) (sym (at-id [] table_kinds tables id is.place is.table is.is is.got)) known in
        subst (λ (g : ByteFact). IsSmall id (kinds id) (entry_of g)) (sym row.2) (coded-small id (kinds id) row.0 small typed.0 typed.1)

    entries-small : (plan : Plan) → AllByRecursion (IsSmall id (kinds id)) (plan_entries h id plan)
    entries-small plan = AllByRecursion-has _ (plan_entries h id plan) (λ e has. let f = entry-there h id plan e has in subst (IsSmall id (kinds id)) (sym f.2) (fact-small f.0 f.1))

    -- ---- descriptors

    there : descriptors_of D id ≡ is.table.descriptors
    there =
        let high : nat_lt id 100 ≡ false = (let e = is.is in grind (arith, nat_tests)) in
        let place : id - 100 ≡ is.place = (let e = is.is in omega (arith, e)) in
        rw (high, place, slice_get-map (λ (t : Table). t.descriptors) tables is.place, is.got) refl

    own : (d : Schema) → Has d (descriptors_of D id) → (d.id ≡ id) × (kinds id ≡ key_kinds d)
    own d has =
        let o = fact.schemas d (subst (Has d) there has) in
        (o.0 ∙ sym is.is, at-id [] table_kinds tables id is.place is.table is.is is.got ∙ o.1)

    rise : ascend_after zero_time (descriptors_of D id) ≡ true
    rise = ap (ascend_after zero_time) there ∙ fact.ascend

    abbrev listed : List Schema
    listed = layer_descriptors s.history s.floor s.end (descriptors_of D id)

    some-listed : 0 < length listed
    some-listed = listed-some s (descriptors_of D id) rise is.member

    same-kinds : kinds_of listed ≡ kinds id
    same-kinds = kinds-first (kinds id) listed some-listed (λ d has. (own d (listed-has s.history s.floor s.end (descriptors_of D id) d has)).1)

    next-listed : AreListable listed → EachAfter (IsNextSchema id) [] listed
    next-listed listable = listable-next id (kinds id) listed (listed-ascends s.history s.floor s.end (descriptors_of D id) rise) listable (λ d has. own d (listed-has s.history s.floor s.end (descriptors_of D id) d has))

  infos-proper : (p : TablePlan) → IsPlanned tables s p.id → AllByRecursion (IsProperChunk 2 p.id (kinds p.id)) (map info_of (pieces_of h p))
  infos-proper p is =
      let entries = entries-small p.id is p.plan in
      let chunks = pieces_chunks h (kinds p.id) p (all-weaker (IsSmall p.id (kinds p.id)) (λ e. is_entry p.id (kinds p.id) e ≡ true) (λ e s. s.0) _ entries) in
      let smalls = cut-all (IsSmall p.id (kinds p.id)) chunk_size (entries_in h p) entries in
      all-map (IsProperChunk 2 p.id (kinds p.id)) info_of (pieces_of h p)
      (all-weaker (λ piece. IsChunk p.id (kinds p.id) piece × AllByRecursion (IsSmall p.id (kinds p.id)) piece) (λ piece. IsProperChunk 2 p.id (kinds p.id) (info_of piece))
      (λ piece q. infos_proper p.id (kinds p.id) piece q.0 (all-weaker (IsSmall p.id (kinds p.id)) IsStored (λ e s. s.1) piece q.1) (chunk-short piece q.0.most (all-weaker (IsSmall p.id (kinds p.id)) (λ e. length (entry_code e) ≤ 40000) (λ e s. s.2) piece q.1)))
      _ (all-both (IsChunk p.id (kinds p.id)) (AllByRecursion (IsSmall p.id (kinds p.id))) (pieces_of h p) chunks smalls))

  -- ---- the tables of the manifest

  abbrev bare-part : TablePlan → TablePart
  bare-part p = part_of (described tables) s.history s.floor s.end p

  abbrev part : TablePlan → TablePart
  part p = with_pieces (bare-part p) (pieces_of h p)

  -- a planned table, with descriptors that can be listed
  abbrev IsReady : TablePlan → Type 0
  IsReady p = IsPlanned tables s p.id × AreListable (bare-part p).descriptors

  next-table : (before : List TablePart) (p : TablePlan) → IsReady p → comes_after part_id before p.id ≡ true → chunk_count before + length (part p).chunks ≤ 1000000 → IsNextTable 2 before (part p)
  next-table before p ready above some = record {
    id = small p.id ready.0;
    after = above;
    some = some-listed p.id ready.0;
    counted = ready.1.counted;
    descriptors = next-listed p.id ready.0 ready.1;
    few = some;
    chunks = subst (λ (ks : List Kind). AllByRecursion (IsProperChunk 2 p.id ks) (part p).chunks) (sym (same-kinds p.id ready.0)) (infos-proper p ready.0);
  }

  -- a greater id may follow
  above-last : (before : List TablePart) (t : TablePart) (n : ℕ) → t.id < n → comes_after part_id (before ++ t ∷ []) n ≡ true
  above-last [] t n less = ap (λ (m : ℕ). nat_lt m n) (last-push part_id [] t) ∙ grind (arith, nat_tests)
  above-last (b ∷ before) t n less = ap (λ (m : ℕ). nat_lt m n) (last-push part_id (b ∷ before) t) ∙ grind (arith, nat_tests)

  abbrev MayFollow : List TablePart → List TablePlan → Type 0
  MayFollow before [] = Unit {0}
  MayFollow before (p ∷ ps) = comes_after part_id before p.id ≡ true

  abbrev chunks-in : TablePlan → ℕ
  chunks-in p = length (part p).chunks

  abbrev ids-of : List TablePlan → List ℕ
  ids-of ps = map (λ (p : TablePlan). p.id) ps

  each-next : (before : List TablePart) (ps : List TablePlan) → AllByRecursion IsReady ps → IsStrictlyIncreasing (ids-of ps) → MayFollow before ps → chunk_count before + sum_by chunks-in ps ≤ 1000000 → EachAfter (IsNextTable 2) before (map part ps)
  each-next before [] all up follow some = tt
  each-next before (p ∷ ps) all up follow some =
      let front = sum_by-cons chunks-in p ps in
      let more = chunks_more before (part p) in
      (next-table before p all.0 follow (omega (arith, front, some)), each-next (before ++ part p ∷ []) ps all.1 (rising (ids-of ps) p.id up) (next ps up) (omega (arith, front, more, some)))
    where
      next : (qs : List TablePlan) → IsStrictlyIncreasing (ids-of (p ∷ qs)) → MayFollow (before ++ part p ∷ []) qs
      next [] up = tt
      next (q ∷ qs) up = above-last before (part p) q.id (up 0 (omega arith))

  tables-are : (ps : List TablePlan) → with_each (map bare-part ps) (map (pieces_of h) ps) ≡ map part ps
  tables-are [] = refl
  tables-are (p ∷ ps) = ap (λ (ts : List TablePart). part p ∷ ts) (tables-are ps)

  one-few : (id : ℕ) → chunks-in (table_plan D s id) ≤ length (h.facts id)
  unfolding table_plan
  one-few id =
      let p = table_plan D s id in
      let m = length-map (pieces_of h p) info_of in
      let f = fewer-pieces p in omega (arith, m, f)

  -- no more chunks than facts
  all-few : (scope : Scope) → sum_by chunks-in (map (table_plan D s) (members_of D scope s)) ≤ accepted tables
  unfolding members_of scope_ids
  all-few scope =
      let g : ℕ → ℕ = λ id. length (h.facts id) in
      let less = sum-map (table_plan D s) chunks-in g one-few (filter (is_member D s) (filter (is_in_scope D scope) (table_ids D))) in
      let a = sum-filter (is_member D s) g (filter (is_in_scope D scope) (table_ids D)) in
      let b = sum-filter (is_in_scope D scope) g (table_ids D) in
      let all : sum_by g (table_ids D) ≡ accepted tables =
      ap (λ (n : ℕ). sum_by g (range_with_len 100 n)) (length-map tables (λ (t : Table). t.descriptors))
      ∙ sum-range g 100 tables (λ i t got. length-map (by_id [] table_facts tables (100 + i)) (coded (100 + i) (kinds (100 + i))) ∙ ap length (at-id [] table_facts tables (100 + i) i t refl got)) in
      omega (arith, less, a, b, all)

  planned-plans : (scope : Scope) → AllByRecursion (λ (p : TablePlan). IsPlanned tables s p.id) (map (table_plan D s) (members_of D scope s))
  unfolding table_plan
  planned-plans scope = all-map (λ (p : TablePlan). IsPlanned tables s p.id) (table_plan D s) (members_of D scope s) (planned tables scope s)

-- ---- the law

module _ (tables : List Table) (r : LayerRecord) (storable : AreStorable tables) (few : 100 + length tables ≤ 2 ^ 32) (room : accepted tables ≤ 1000000) (is : IsRecord r)
    (listable : AllByRecursion (λ (t : TablePart). AreListable t.descriptors) (bare tables r).tables) where
  abbrev s : Span
  s = covers r

  abbrev plans : List TablePlan
  plans = (plan_over (schemas_of tables) r.scope (covers r)).tables

  -- of each table what it has in the manifest
  bounded-tables : (bounded_manifest tables r).tables ≡ map (part tables storable few s) plans
  unfolding plan_of
  bounded-tables = tables-are tables storable few s plans

  ready : AllByRecursion (IsReady tables storable few s) plans
  unfolding plan_of
  ready = all-both (λ (p : TablePlan). IsPlanned tables s p.id) (λ (p : TablePlan). AreListable (bare-part tables storable few s p).descriptors) plans (planned-plans tables storable few s r.scope)
      (unmap (λ (t : TablePart). AreListable t.descriptors) (bare-part tables storable few s) plans listable)

  floors : (b : Bool) → r.history ≡ b → (b || time_eq r.floor r.start) ≡ true
  floors true e = refl
  floors false e = ap (λ (t : Time). time_eq t r.start) (is.bare e) ∙ eq-refl r.start

  first : (ps : List TablePlan) → MayFollow tables storable few s [] ps
  first [] = tt
  first (p ∷ ps) = refl

  bounded-proper : IsProperManifest (bounded_manifest tables r)
  unfolding plan_of
  bounded-proper = record {
    version = refl;
    cluster = is.name.cluster;
    from_one = is.from_one;
    job = is.name.job;
    full = is.name.full;
    start = is.name.start;
    end = is.name.end;
    floor = is.floor;
    ends = and-both _ _ is.ends is.full;
    floors = and-both _ _ is.from is.upto;
    history = floors r.history refl;
    scope = is.scope;
    counted = let a = ap length bounded-tables in let b = length-map plans (part tables storable few s) in let c = length-map (members_of (schemas_of tables) r.scope s) (table_plan (schemas_of tables) s) in let d = few-ids tables r.scope s in omega (arith, a, b, c, d, few);
    tables = subst (EachAfter (IsNextTable 2) []) (sym bounded-tables) (each-next tables storable few s [] plans ready (ascending (schemas_of tables) r.scope s) (first plans) (let n = all-few tables storable few s r.scope in omega (arith, n, room)));
  }

  entries : (plan : TablePlan) → Has plan (plan_of tables r).tables → AllByRecursion (λ (e : Entry). (is_entry plan.id (by_id [] table_kinds tables plan.id) e ≡ true) × IsStored e) (entries_in (facts-of tables) plan)
  unfolding plan_of
  entries plan has =
      let one = has-AllByRecursion (λ (p : TablePlan). IsPlanned tables s p.id) plan plans (planned-plans tables storable few s r.scope) has in
      all-weaker (IsSmall plan.id (by_id [] table_kinds tables plan.id)) _ (λ e s. (s.0, s.1)) _ (entries-small tables storable few s plan.id one plan.plan)

  abbrev HasKinds : TablePart → Type 0
  HasKinds t = kinds_of t.descriptors ≡ by_id [] table_kinds tables t.id

  bounded-kinds : AllByRecursion HasKinds (bounded_manifest tables r).tables
  bounded-kinds = subst (AllByRecursion HasKinds) (sym bounded-tables)
      (all-map HasKinds (part tables storable few s) plans (all-weaker (λ (p : TablePlan). IsPlanned tables s p.id) (λ (p : TablePlan). HasKinds (part tables storable few s p)) (λ p planned. same-kinds tables storable few s p.id planned) plans (planned-plans tables storable few s r.scope)))

  version-kinds : (m : Manifest) → AllByRecursion HasKinds m.tables → (version : ℕ) → AllByRecursion HasKinds (in_version version m).tables
  unfolding first_version
  version-kinds m all version = by (version == 1)
    where
      by : (b : Bool) → AllByRecursion HasKinds (if b then first_version m else m).tables
      by true = all-map HasKinds first_table m.tables all
      by false = all

-- the manifest of the record with version 1
pub first-manifest : (tables : List Table) (r : LayerRecord) → (objects_of tables (in_first r)).manifest ≡ manifest_code (first_version (manifest_of tables r))
unfolding objects_of plan_of
first-manifest tables r = ap manifest_code (sym (first-of r.version (bounded_manifest tables r)))

pub layers-written : LayersMayBeWritten
layers-written tables r storable few room is listable =
    let proper = version-proper r.version (bounded_manifest tables r) (bounded-proper tables r storable few room is listable) in record {
      few = record { few = let c = same-count tables r in let l = few_chunks (manifest_of tables r) proper in omega (arith, c, l) };
      proper = proper;
      older = ap (λ (b : List ℕ). older_or b (read_manifest b)) (objects-manifest tables r) ∙ (ap (older_or (manifest_code (manifest_of tables r))) (manifest-read (manifest_of tables r) proper) ∙ sym (first-manifest tables r));
      entries = entries tables r storable few room is listable;
      pieces = version-kinds tables r storable few room is listable (bounded_manifest tables r) (bounded-kinds tables r storable few room is listable) r.version;
    }

pub versions-agree : FirstVersionsAgree
unfolding objects_of plan_of
versions-agree tables r written = ap (with_manifest (objects_of tables r)) written.older

-- without history proper descriptors can be listed
pub now-listed : (tables : List Table) (r : LayerRecord) → r.history ≡ false → AllByRecursion (λ (t : TablePart). AllByRecursion IsProperSchema t.descriptors) (bare tables r).tables → AllByRecursion (λ (t : TablePart). AreListable t.descriptors) (bare tables r).tables
now-listed tables r plain proper = by r.history plain proper
  where
    parts : Bool → List TablePart
    parts b = map (part_of (described tables) b (plan_of tables r).floor r.end) (plan_of tables r).tables

    each : (ps : List TablePlan) → AllByRecursion (λ (p : TablePlan). AllByRecursion IsProperSchema (part_of (described tables) false (plan_of tables r).floor r.end p).descriptors) ps → AllByRecursion (λ (p : TablePlan). AreListable (part_of (described tables) false (plan_of tables r).floor r.end p).descriptors) ps
    each [] all = tt
    each (p ∷ ps) all = (now-listable (plan_of tables r).floor r.end (descriptors_of (schemas_of tables) p.id) all.0, each ps all.1)

    by : (b : Bool) → b ≡ false → AllByRecursion (λ (t : TablePart). AllByRecursion IsProperSchema t.descriptors) (parts b) → AllByRecursion (λ (t : TablePart). AreListable t.descriptors) (parts b)
    by true e all = absurd (cc)
    by false e all = all-map (λ (t : TablePart). AreListable t.descriptors) (part_of (described tables) false (plan_of tables r).floor r.end) (plan_of tables r).tables (each (plan_of tables r).tables (unmap (λ (t : TablePart). AllByRecursion IsProperSchema t.descriptors) (part_of (described tables) false (plan_of tables r).floor r.end) (plan_of tables r).tables all))
