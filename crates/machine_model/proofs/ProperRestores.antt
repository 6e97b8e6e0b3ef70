-- A restore leads from a proper machine to a proper one.
use Rattle.std.proofs.Common.{◌≡◌, ◌⊎◌, inl, inr, ℕ, ◌+◌, ◌-◌, ◌<◌, ◌≤◌, ◌^◌, ◌&&◌, nat_lt, Bool, true, false, refl, sym, ap, ap₂, subst, ◌∙◌, arith, List, [], ◌∷◌, ◌++◌, map, length, filter, Option, Some, None, option_map, slice_get, unwrap_or, is_some, if◌then◌else◌}
use Rattle.std.specs.Prelude.{option_and_then}
use Rattle.std.specs.List.{AllByRecursion, find, list_any}
use Rattle.std.specs.Str.{bytes_eq}
use Rattle.std.proofs.lemmas.Bool.{cases_Bool}
use Rattle.std.proofs.lemmas.Bool.Decides.{nat_tests}
use Rattle.std.proofs.lemmas.List.{length-map}
use Rattle.std.proofs.lemmas.List.Sums.{sum_by-cons}
use Rattle.std.proofs.lemmas.Option.{slice_get-map, slice_get_within}
use Rattle.std.proofs.lemmas.Slice.Eq.{bytes_eq-Decides}
use Rattle.mvcc_keys.specs.Times.{IsTime, Time, next, zero_time, time_le, time_lt}
use Rattle.mvcc_keys.proofs.TimeOrder.{le-lt-lt, lt-le, lt-trans, zero-le}
use Rattle.table_descriptors.specs.Names.{is_name}
use Rattle.table_descriptors.specs.Descriptors.{Schema}
use Rattle.table_descriptors.proofs.Restores.{restored-proper}
use Rattle.list_laws.specs.Members.{Has}
use Rattle.list_laws.proofs.Bools.{or-neither}
use Rattle.list_laws.proofs.Filters.{any-none}
use Rattle.list_laws.proofs.Members.{all-append, has-AllByRecursion, map-has}
use Rattle.history_model.specs.Histories.{Table, accepted, in_force, is_named, place_named, schemas_of}
use Rattle.history_model.specs.Layers.{LayerRecord}
use Rattle.schema_catalog.specs.Catalogs.{Schemas, has_database, is_same_name, next_id}
use Rattle.introduced_spans.specs.Publicity.{is_public}
use Rattle.introduced_spans.specs.Spans.{descriptors_of, is_in_scope, scope_ids, table_ids}
use Rattle.introduced_spans.proofs.Lists.{find-none}
use Rattle.layer_objects.specs.Objects.{by_id, table_facts}
use Rattle.layer_objects.proofs.Writable.{at-id}
use Rattle.chain_resolver.specs.Best.{Chain, Cover, Uncovered, cover}
use Rattle.key_rewriter.specs.Ids.{IsIdMap, are_ascending}
use Rattle.key_rewriter.proofs.Pairs.{numbered-ids}
use Rattle.id_remap.specs.declared.faults.RemapFault.{RemapFault}
use Rattle.id_remap.specs.declared.faults.RemapFault.TheVariants as remap
use Rattle.id_remap.specs.declared.targets.Target.{Target}
use Rattle.id_remap.specs.declared.targets.Target.TheVariants as target
use Rattle.id_remap.specs.Remapping.{absent_database, first_fault, gets_before, ids_of, is_taken, lacks_ids, missing_reference, new_id, new_ids, new_references, present_database, remap_fault, remapped_schema, refers_outside, least_outside, target_name, taken_name}
use Rattle.id_remap.proofs.Once.{new_once}
use Rattle.id_remap.proofs.Room.{room}
use Rattle.script_grammar.specs.declared.backups.Src.{Src}
use Rattle.reply_texts.specs.declared.refusals.Refusal.{Refusal}
use Rattle.reply_texts.specs.declared.refusals.Refusal.TheVariants.{NothingToRestore}
use Rattle.command_lang.specs.Typed.{IfGiven, IsName}
use Rattle.machine_model.specs.Machine.{Machine, Stepped, catalog_of}
use Rattle.machine_model.specs.TableRows.{room_refusal}
use Rattle.machine_model.specs.Backups.{layers_in}
use Rattle.machine_model.specs.Restores.{chosen_by, chosen_tables, count_to_restore, if_chosen, last_of, layers_at, links_of, nothing_refusal, refusal_of_remap, restore_chain, restore_chosen, restore_database, restored_table, rows_to_restore, put_anew, time_of, with_cover, with_restored}
use Rattle.machine_model.specs.Orders.{IsInOrder}
use Rattle.machine_model.specs.Proper.{IsProperTable, NoTwo, ShareName}
use Rattle.machine_model.specs.ProperMachines.{IsTableWithin}
use Rattle.machine_model.proofs.Lists.{filter_map-has, got-has}
use Rattle.machine_model.proofs.Past.{next-later}
use Rattle.machine_model.proofs.ProperLists.{IsFree, got-map, names-more, two-map}
use Rattle.machine_model.proofs.ProperSteps.{HasProper, Keeps, drawing-keeps, first-none, found-keeps, free-names, has-room, keeps-more, keeps-same, next-time, not-some, tells-if, tells-map, timed-keeps, unless-keeps, Tells}
use Rattle.machine_model.proofs.ProperCommands.{force-has}
use Rattle.machine_model.proofs.ProperWalk.{dated, source-proper}
use Rattle.machine_model.proofs.ProperRestored.{ascend-filter, ascend-found, ascend-lower, ascend-range, ids-apart, new-id-at, new-small, restored-id, table-name, table-proper, table-within}

-- ---- refusals

-- tables that go into a database
abbrev into : List ℕ → Target
into name = target.Database name

abbrev told : Option RemapFault → Option Refusal
told fault = option_and_then refusal_of_remap fault

told-first : (fs : List (Option RemapFault)) → AllByRecursion (Tells told) fs → told (first_fault fs) ≡ None → first_fault fs ≡ None
told-first [] tells e = refl
told-first (None ∷ fs) tells e = told-first fs tells.1 e
told-first (Some x ∷ fs) tells e = tells.0 e

remap-parts : (a : Option RemapFault) (fs : List (Option RemapFault)) → first_fault (a ∷ fs) ≡ None → (a ≡ None) × (first_fault fs ≡ None)
remap-parts None fs e = (refl, e)
remap-parts (Some x) fs e = cc e

not-found : {X : Type 0} (f : X → RemapFault) (o : Option X) → option_map f o ≡ None → o ≡ None
not-found f None e = refl
not-found f (Some x) e = cc e

module _ (s : Schemas) (chosen : List Schema) (name : List ℕ) (t : Time) where
  abbrev to : Target
  to = into name

  remap-tells : told (remap_fault s chosen to false t) ≡ None → remap_fault s chosen to false t ≡ None
  unfolding remap_fault
  remap-tells e = told-first (missing_reference (ids_of chosen) false chosen ∷ absent_database s to chosen ∷ present_database s to ∷ taken_name s to t chosen ∷ lacks_ids s chosen ∷ []) (
    tells-map told (λ (d : Schema). remap.MissingReference d.id (least_outside (ids_of chosen) d.references)) (λ x f. cc f) (find (refers_outside (ids_of chosen)) chosen),
    (
      (λ f. refl),
      (
        tells-if told (remap.DatabaseExists name) (λ f. cc f) (has_database s name),
        (
          tells-map told (λ (d : Schema). remap.NameTaken (target_name to d)) (λ x f. cc f) (find (is_taken s to t chosen) chosen),
          (tells-if told remap.TooManyTables (λ f. cc f) (nat_lt s.limit (length s.tables + length chosen)), tt),
        ),
      ),
    ),
  ) e

  none-taken : remap_fault s chosen to false t ≡ None → AllByRecursion (λ d. is_taken s to t chosen d ≡ false) chosen
  unfolding remap_fault
  none-taken e =
      let last = taken_name s to t chosen ∷ lacks_ids s chosen ∷ [] in
      let a = remap-parts (missing_reference (ids_of chosen) false chosen) (absent_database s to chosen ∷ present_database s to ∷ last) e in
      let b = remap-parts (absent_database s to chosen) (present_database s to ∷ last) a.1 in
      let c = remap-parts (present_database s to) last b.1 in
      let d = remap-parts (taken_name s to t chosen) (lacks_ids s chosen ∷ []) c.1 in
      find-none (is_taken s to t chosen) chosen (not-found (λ (x : Schema). remap.NameTaken (target_name to x)) (find (is_taken s to t chosen) chosen) d.0)

-- ---- chosen tables

-- one that is chosen is among the descriptors
pub chosen-has : (database : List ℕ) (t : Time) (ds : List Schema) (d : Schema) → chosen_by database t ds ≡ Some d → Has d ds
chosen-has database t ds d e = by (in_force ds t) refl e
  where
    tested : (x : Schema) (b : Bool) → (if b then Some x else None) ≡ Some d → x ≡ d
    tested x true f = cc f
    tested x false f = cc f

    by : (o : Option Schema) → in_force ds t ≡ o → option_and_then (if_chosen database) o ≡ Some d → Has d ds
    by None is f = cc f
    by (Some x) is f = force-has ds t d (is ∙ ap (λ (y : Schema). Some y) (tested x (is_public x && bytes_eq x.database database) f))

-- the table of a descriptor
record IsOf (tables : List Table) (id : ℕ) (d : Schema) : Type 0 where
  place : ℕ
  table : Table
  is : id ≡ 100 + place
  got : slice_get tables place ≡ Some table
  has : Has d table.descriptors

described-by : (tables : List Table) (id : ℕ) (d : Schema) → Has d (descriptors_of (schemas_of tables) id) → IsOf tables id d
described-by tables id d has = by (nat_lt id 100) refl has
  where
    there : nat_lt id 100 ≡ false → (o : Option Table) → slice_get tables (id - 100) ≡ o → Has d (unwrap_or (option_map (λ (t : Table). t.descriptors) o) []) → IsOf tables id d
    there high None got h = absurd h
    there high (Some table) got h = record { place = id - 100; table = table; is = (let low : 100 ≤ id = grind (arith, nat_tests, high) in omega (arith, low)); got = got; has = h }

    by : (b : Bool) → nat_lt id 100 ≡ b → Has d (if b then [] else unwrap_or (slice_get (schemas_of tables) (id - 100)) []) → IsOf tables id d
    by true is h = absurd h
    by false is h = there is (slice_get tables (id - 100)) refl (subst (λ (o : Option (List Schema)). Has d (unwrap_or o [])) (slice_get-map (λ (t : Table). t.descriptors) tables (id - 100)) h)

module _ (tables : List Table) (proper : (i : ℕ) (table : Table) → slice_get tables i ≡ Some table → IsProperTable (100 + i) table) (database : List ℕ) (t : Time) (r : LayerRecord) where
  chosen-of : (id : ℕ) (d : Schema) → chosen_by database t (descriptors_of (schemas_of tables) id) ≡ Some d → IsOf tables id d × (d.id ≡ id)
  chosen-of id d e =
      let of = described-by tables id d (chosen-has database t (descriptors_of (schemas_of tables) id) d e) in
      let own = ((proper of.place of.table of.got).schemas d of.has).1 in
      (of, own ∙ sym of.is)

  chosen-are : (d : Schema) → Has d (chosen_tables tables database t r) → IsOf tables d.id d
  unfolding chosen_tables
  chosen-are d has =
      let one = filter_map-has (λ id. chosen_by database t (descriptors_of (schemas_of tables) id)) d (scope_ids (schemas_of tables) r.scope) has in
      let of = chosen-of one.0 d one.2 in
      subst (λ (i : ℕ). IsOf tables i d) (sym of.1) of.0

  chosen-ascend : are_ascending (ids_of (chosen_tables tables database t r)) ≡ true
  unfolding chosen_tables scope_ids
  chosen-ascend =
      let ids = table_ids (schemas_of tables) in
      ascend-found (λ id. chosen_by database t (descriptors_of (schemas_of tables) id)) 0 (filter (is_in_scope (schemas_of tables) r.scope) ids) (λ id d e. (chosen-of id d e).1)
      (ascend-filter (is_in_scope (schemas_of tables) r.scope) 0 ids (ascend-lower 0 100 ids (omega arith) (ascend-range 100 (length (schemas_of tables)))))

-- ---- counts

count-made : (tables : List Table) (ids : List (ℕ × ℕ)) (to : Target) (t at published : Time) (chosen : List Schema) → accepted (map (restored_table tables ids to t at published) chosen) ≡ count_to_restore tables t chosen
count-made tables ids to t at published [] = refl
count-made tables ids to t at published (d ∷ ds) =
    let make = restored_table tables ids to t at published in
    let a = sum_by-cons (λ (x : Table). length x.facts) (make d) (map make ds) in
    let b = sum_by-cons (λ (x : Schema). length (rows_to_restore tables t x)) d ds in
    let l = length-map (rows_to_restore tables t d) (put_anew at) in
    let rest = count-made tables ids to t at published ds in
    omega (arith, a, b, l, rest)

-- ---- names

same-itself : (a b : List ℕ × List ℕ) → a ≡ b → is_same_name a b ≡ true
same-itself a b e = ap₂ (λ (x y : Bool). x && y) ((bytes_eq-Decides a.0 b.0).1 (ap (λ p. p.0) e)) ((bytes_eq-Decides a.1 b.1).1 (ap (λ p. p.1) e))

-- of two tables that get one name the one of greater id is taken
later-taken : (s : Schemas) (to : Target) (t : Time) (chosen : List Schema) (a b : Schema) → AllByRecursion (λ d. is_taken s to t chosen d ≡ false) chosen → Has a chosen → Has b chosen → a.id < b.id → target_name to a ≡ target_name to b → ⊥
later-taken s to t chosen a b none ha hb less same =
    let free = has-AllByRecursion (λ d. is_taken s to t chosen d ≡ false) b chosen none hb in
    let never = any-none (gets_before to b) chosen a (or-neither (is_some (place_named s.tables (target_name to b) t)) (list_any (gets_before to b) chosen) free).1 ha in
    let below : nat_lt a.id b.id ≡ true = grind (arith, nat_tests, less) in
    let yes : gets_before to b a ≡ true = ap₂ (λ (x y : Bool). x && y) below (same-itself (target_name to a) (target_name to b) same) in
    let no : true ≡ false = sym yes ∙ never in cc no

names-differ : (s : Schemas) (to : Target) (t : Time) (chosen : List Schema) → are_ascending (ids_of chosen) ≡ true → AllByRecursion (λ d. is_taken s to t chosen d ≡ false) chosen → NoTwo (λ (a b : Schema). target_name to a ≡ target_name to b) chosen
names-differ s to t chosen up none i j a b ga gb same = by (cases_Bool (nat_lt a.id b.id)) (cases_Bool (nat_lt b.id a.id))
  where
    by : (nat_lt a.id b.id ≡ true) ⊎ (nat_lt a.id b.id ≡ false) → (nat_lt b.id a.id ≡ true) ⊎ (nat_lt b.id a.id ≡ false) → i ≡ j
    by (inl l) other = absurd (later-taken s to t chosen a b none (got-has chosen i a ga) (got-has chosen j b gb) (grind (arith, nat_tests, l)) same)
    by (inr l) (inl m) = absurd (later-taken s to t chosen b a none (got-has chosen j b gb) (got-has chosen i a ga) (grind (arith, nat_tests, m)) (sym same))
    by (inr l) (inr m) = ids-apart 0 chosen up i j a b ga gb (grind (arith, nat_tests, l, m))

-- ---- the command

module _ (n : ℕ) (m : Machine) (small : n < 2 ^ 32 - 2) (p : HasProper n m) (o : IsInOrder m) (few : m.limits.tables ≤ 4096) (events : m.limits.events ≤ 1000000) where
  module _ (name : List ℕ) (named : IsName name) (t at published : Time) (chosen : List Schema) (up : are_ascending (ids_of chosen) ≡ true) (of : (d : Schema) → Has d chosen → IsOf m.history.tables d.id d)
      (after : time_lt m.clock at ≡ true) (time : IsTime at) (later : time_lt at published ≡ true) (public_time : IsTime published)
      (fine : remap_fault (catalog_of m) chosen (into name) false at ≡ None) where
    abbrev ids : List (ℕ × ℕ)
    ids = new_ids (catalog_of m) chosen

    abbrev make : Schema → Table
    make = restored_table m.history.tables ids (into name) t at published

    space : length m.history.tables + length chosen ≤ 4096
    space =
        let fits = room (catalog_of m) chosen (into name) false at fine in
        let l = length-map m.history.tables (λ (x : Table). x.descriptors) in omega (arith, fits, l, few)

    id-map : IsIdMap ids
    id-map =
        let l = length-map m.history.tables (λ (x : Table). x.descriptors) in
        let k = length-map chosen (λ (d : Schema). d.id) in
        let fits = space in
        numbered-ids (next_id (catalog_of m)) (ids_of chosen) up (omega (arith, l, k, fits))

    new-tables : (k : ℕ) (x : Table) → slice_get (map make chosen) k ≡ Some x → IsProperTable (100 + (length m.history.tables + k)) x × IsTableWithin (n + 1 + 1) published x
    new-tables k x got =
        let one = got-map make chosen k x got in
        let d = one.0 in
        let here = of d (got-has chosen k d one.1) in
        let old = p.history.tables here.place here.table here.got in
        let own = old.schemas d here.has in
        let facts : by_id [] table_facts m.history.tables d.id ≡ here.table.facts = at-id [] table_facts m.history.tables d.id here.place here.table here.is here.got in
        let l = length-map m.history.tables (λ (x : Table). x.descriptors) in
        let num = new-id-at (next_id (catalog_of m)) (into name) at chosen k d up one.1 in
        let id : (remapped_schema ids (into name) at d).id ≡ 100 + (length m.history.tables + k) = omega (arith, num, l) in
        let new = restored-id d (new_id ids d.id) name (new_references ids d.references) at in
        let bound = slice_get_within chosen k d one.1 in
        let fits = space in
        let proper = restored-proper d (new_id ids d.id) name (new_references ids d.references) at own.0 (omega (arith, new, id, bound, fits)) named (new-small ids d.references id-map) (new_once ids id-map d.references own.0.once) time in
        let table = table-proper m.history.tables ids (into name) t at published d later proper
        (λ f has. old.facts d here.has f (subst (Has f) facts has)) (λ f has. old.sized d here.has f (subst (Has f) facts has))
        (le-lt-lt zero_time m.clock at (zero-le m.clock) after) time public_time in
        subst (λ (y : Table). IsProperTable (100 + (length m.history.tables + k)) y × IsTableWithin (n + 1 + 1) published y) (sym one.2)
        (subst (λ (i : ℕ). IsProperTable i (make d)) id table, table-within m.history.tables ids (into name) t at published d later n)

    new-names : (x : Time) → NoTwo (ShareName x) (m.history.tables ++ map make chosen)
    new-names = names-more m.history.tables m.clock at (dated n m small p o few events) after p.history.names (map make chosen)
        (λ x. two-map make (ShareName x) chosen (λ i j a b ga gb share.
        let q = table-name m.history.tables ids (into name) t at published a later share.0 x share.1 in
        let r = table-name m.history.tables ids (into name) t at published b later share.0 x share.2 in
        names-differ (catalog_of m) (into name) at chosen up none i j a b ga gb (q.1 ∙ sym r.1)))
        (λ table has. let one = map-has make table chosen has in
        subst (λ (y : Table). (word : List ℕ × List ℕ) (x : Time) → is_named word x y.descriptors ≡ true → (time_le at x ≡ true) × IsFree m.history.tables at word) (sym one.2)
        (λ word x is. let q = table-name m.history.tables ids (into name) t at published one.0 later word x is in (q.0, subst (IsFree m.history.tables at) q.1 (free one.0 one.1))))
      where
        none : AllByRecursion (λ d. is_taken (catalog_of m) (into name) at chosen d ≡ false) chosen
        none = none-taken (catalog_of m) chosen name at fine

        free : (d : Schema) → Has d chosen → IsFree m.history.tables at (target_name (into name) d)
        free d has =
            let taken = has-AllByRecursion (λ d. is_taken (catalog_of m) (into name) at chosen d ≡ false) d chosen none has in
            let spot = place_named (schemas_of m.history.tables) (target_name (into name) d) at in
            free-names m.history.tables at (target_name (into name) d) (not-some spot (or-neither (is_some spot) (list_any (gets_before (into name) d) chosen) taken).0)

    made-proper : room_refusal m (count_to_restore m.history.tables t chosen) ≡ None → HasProper (n + 1) (with_restored m name (map make chosen) published)
    made-proper holds =
        let second = lt-trans m.clock at published after later in
        let k = length-map chosen make in
        let count = count-made m.history.tables ids (into name) t at published chosen in
        let fits = has-room m (count_to_restore m.history.tables t chosen) holds events in
        let whole = space in
        keeps-more n m p published (m.history.databases ++ name ∷ []) (map make chosen) (lt-le m.clock published second) public_time (all-append (λ x. is_name x ≡ true) m.history.databases (name ∷ []) p.history.databases (named, tt))
        new-tables new-names (omega (arith, k, whole)) (omega (arith, count, fits)) (with_restored m name (map make chosen) published) refl refl

  chosen-proper : (name : List ℕ) → IsName name → (t at published : Time) (rs : List LayerRecord) (chosen : List Schema) → are_ascending (ids_of chosen) ≡ true → ((d : Schema) → Has d chosen → IsOf m.history.tables d.id d)
      → time_lt m.clock at ≡ true → IsTime at → time_lt at published ≡ true → IsTime published → Keeps n m p (restore_chosen m name t at published rs chosen)
  chosen-proper name named t at published rs chosen up of after time later public_time = unless-keeps n m p _ _ (λ e.
      let fault = remap_fault (catalog_of m) chosen (into name) false at in
      let last = room_refusal m (count_to_restore m.history.tables t chosen) ∷ [] in
      let a = first-none (told fault) last (first-none (nothing_refusal chosen) (told fault ∷ last) e).1 in
      let b = first-none (room_refusal m (count_to_restore m.history.tables t chosen)) [] a.1 in
      made-proper name named t at published chosen up of after time later public_time (remap-tells (catalog_of m) chosen name at a.0) b.0)

  chain-proper : (database name : List ℕ) → IsName name → (t at published : Time) (rs : List LayerRecord) → time_lt m.clock at ≡ true → IsTime at → time_lt at published ≡ true → IsTime published → Keeps n m p (restore_chain m database name t at published rs)
  chain-proper database name named t at published rs after time later public_time = found-keeps n m p NothingToRestore (last_of rs) _ (λ r e.
      chosen-proper name named t at published rs (chosen_tables m.history.tables database t r) (chosen-ascend m.history.tables p.history.tables database t r) (chosen-are m.history.tables p.history.tables database t r) after time later public_time)

  cover-proper : (rs : List LayerRecord) (c : Cover) (change : List LayerRecord → Stepped) → ((xs : List LayerRecord) → Keeps n m p (change xs)) → Keeps n m p (with_cover m rs c change)
  cover-proper rs (Chain places) change is = is (layers_at rs places)
  cover-proper rs (Uncovered fault) change is = keeps-same n m p

  new-name : (database : List ℕ) (new : Option (List ℕ)) → IsName database → IfGiven IsName new → IsName (unwrap_or new database)
  new-name database None own given = own
  new-name database (Some name) own given = given

  pub restore-proper : (database : List ℕ) (source : Src) (collection : List ℕ) (at : Option Time) (new : Option (List ℕ)) → IsName database → IfGiven IsName new → Keeps n m p (restore_database m database source collection at new)
  unfolding restore_database
  restore-proper database source collection at new named given = drawing-keeps n m p _ (λ made after time. timed-keeps n m p (next made) _ (λ published e. source-proper n m small p o few events source collection _ (λ s.
      let rs = layers_in m collection s in
      let t = time_of rs at in
      cover-proper rs (cover (links_of rs) t) (restore_chain m database (unwrap_or new database) t made published) (λ xs.
      chain-proper database (unwrap_or new database) (new-name database new named given) t made published xs after time (next-later made published e) (next-time made published time e)))))
