-- RESTORE DATABASE from a chain of layers in the book, over a ready disk and over every disk.
use Rattle.std.proofs.Common.{◌≡◌, ◌⊎◌, inl, inr, ⊎_elim, ℕ, ◌+◌, ◌-◌, ◌≤◌, ◌^◌, false, nat_lt, length, List, [], ◌∷◌, ◌++◌, map, Option, Some, None, option_and_then, refl, sym, ap, ap₂, subst, ◌∙◌, Result, Ok, Err}
use Rattle.std.specs.List.{AllByRecursion}
use Rattle.std.specs.Global.{Vec}
use Rattle.std.specs.Prelude.{IfErr, IfOk, OnOk}
use Rattle.mvcc_keys.specs.declared.entries.Entry.{Entry}
use Rattle.history_model.specs.Rows.{RowItem}
use Rattle.reply_texts.specs.declared.answers.Answer.{Answer}
use Rattle.reply_texts.specs.declared.answers.Answer.TheVariants.{RestoreDone}
use Rattle.reply_texts.specs.declared.answers.RestoredTable.{RestoredTable}
use Rattle.reply_texts.specs.declared.replies.Response.{Response}
use Rattle.mvcc_keys.specs.Times.{IsTime, Time, next, zero_time}
use Rattle.table_descriptors.specs.Descriptors.{Schema}
use Rattle.list_laws.specs.Members.{Has}
use Rattle.list_laws.proofs.Members.{has-AllByRecursion, has-append_cases, has-map}
use Rattle.history_model.specs.Histories.{Table}
use Rattle.history_model.specs.Layers.{LayerRecord}
use Rattle.schema_catalog.specs.Catalogs.{Schemas}
use Rattle.outside_world.specs.Disk.{View, IsImage, IsKnown, OnlyReads}
use Rattle.outside_world.specs.Moments.{LeavesOnly}
use Rattle.outside_world.specs.Objects.{Objects, at}
use Rattle.outside_world.proofs.Runs.{Run, only_read, run_read, started, still_known}
use Rattle.collection_dir.proofs.StandsLaws.{manifests-same}
use Rattle.layer_manifest.specs.declared.manifest.Manifest.{Manifest}
use Rattle.layer_model.specs.declared.names.LayerName.{LayerName}
use Rattle.layer_model.specs.Layers as stored
use Rattle.layer_objects.specs.Objects.{objects_of}
use Rattle.layer_chains.specs.Chains.{IsShown, Serves}
use Rattle.id_remap.specs.Remapping.{new_ids, remap_fault}
use Rattle.id_remap.specs.declared.targets.Target.TheVariants as target
use Rattle.reply_texts.specs.declared.refusals.Refusal.{Refusal}
use Rattle.reply_texts.specs.declared.refusals.Refusal.TheVariants.{NothingToRestore, TooManyEvents}
use Rattle.machine_model.specs.Machine.{Backup, Machine, Restore, Stepped, answered, catalog_of, first_refusal, refusal_if, refused, unless_refused, with_found}
use Rattle.machine_model.specs.Past.{IsLater}
use Rattle.machine_model.specs.Disks.{IsGone, IsReady, IsThere, StandsUntil, made_layers}
use Rattle.machine_model.specs.Restores.{chosen_tables, count_to_restore, last_of, nothing_refusal, refusal_of_remap, restore_chain, restore_chosen, restore_done, restored_as, restored_table, rows_to_restore, span_of, with_restored}
use Rattle.machine_model.specs.TableRows.{room_refusal}
use Rattle.machine_model.proofs.DiskLaws.{ready_images}
use Rattle.cluster_core.specs.declared.halts.Halt.{Halt}
use Rattle.cluster_core.specs.declared.halts.Halt.TheVariants.{Refused, Disk, Memory}
use Rattle.cluster_core.specs.declared.chains.Chain.{Chain}
use Rattle.cluster_core.specs.ClusterView.{ClusterState, record_of}
use Rattle.cluster_core.specs.Standing.{HasBackups, Keeps, MayStep, Runs, StandsFor, machine_of}
use Rattle.cluster_core.specs.Chains.{IsOwnChain, IsOwnLayer, IsStandingChain}
use Rattle.cluster_core.specs.Chains.{entries_in, stored_rows}
use Rattle.cluster_core.specs.declared.restores.Plan.{Plan}
use Rattle.cluster_core.specs.Restoring.{AreRowsOfEach, count_rows, entries_of, made_tables}
use Rattle.cluster_core.proofs.BackingUp.{idle-same}
use Rattle.cluster_core.proofs.Redone.{KeptBy, by-ids, kept-stands}
use Rattle.cluster_core.proofs.Restored.{all-restored}
use Rattle.cluster_core.proofs.Restorings.{count-is}
use Rattle.cluster_core.specs.Restores.{AreTested, EndsBy, IsPlanned, refusal_of_chosen, restored_by, with_restore, room_test, shown_tables}
use Rattle.cluster_core.proofs.Chosen.{all-shown}
use Rattle.cluster_core.proofs.Covers.{last-map, last-serves}
use Rattle.cluster_core.proofs.Others.{final}
use Rattle.machine_model.proofs.Lists.{got-has}
use Rattle.machine_model.proofs.Past.{chosen-later, finding-later, later-then, next-later}
use Rattle.cluster_core.proofs.Rereading.{chain-stands, items-stored, over, record-is, shown-chosen}

-- ---- a disk that is only read

pub ready-read : (m to : Machine) (a b : View) → OnlyReads a b → IsReady (Some m) (Some to) a → IsReady (Some m) (Some to) b
ready-read m to a b reads ready =
    let same = reads.content ready.known.tells in
    record {
      known = still_known ready.known reads.kind;
      settled = λ n. same.touched n ∙ ready.settled n;
      stands = subst (StandsUntil (Some to)) (sym same.objects) ready.stands;
      kept = record {
        there = λ r has. subst (IsThere (objects_of to.history.tables r)) (sym same.objects) (ready.kept.there r has);
        gone = λ r has. ⊎_elim (λ own. inl own) (λ was. inr (subst (IsGone (objects_of to.history.tables r)) (sym same.objects) was)) (ready.kept.gone r has);
      };
    }

pub leaves-read : (m to : Machine) (a b : View) → (IsKnown a → (image : Objects) → a.left_since a.moment image → IsImage a image) → OnlyReads a b → IsReady (Some m) (Some to) a → LeavesOnly a b (StandsUntil (Some to))
leaves-read m to a b only reads ready =
    let P = StandsUntil (Some to) in
    let begun : Run P P a a = started ready.known (only ready.known) (ready_images (Some m) (Some to) a ready) (λ image p. p) in
    let run : Run P P a b = run_read begun reads (λ image p. p) in
    run.so_far

-- ---- jobs

no-backup : (q : LayerRecord) → Has (Backup q) (Restore ∷ []) → ⊥
no-backup q (inl e) = cc e
no-backup q (inr none) = none

restored-ready : (m after to : Machine) (v : View) → after.layers ≡ m.layers → after.jobs ≡ m.jobs ++ Restore ∷ [] → IsReady (Some m) (Some to) v → IsReady (Some after) (Some to) v
restored-ready m after to v layers jobs ready = record {
  known = ready.known;
  settled = ready.settled;
  stands = ready.stands;
  kept = record {
    there = λ q has. ready.kept.there q (subst (Has q) layers has);
    gone = λ q has. subst (λ (ls : List LayerRecord). Has q ls ⊎ IsGone (objects_of to.history.tables q) v.objects) (sym layers)
        (ready.kept.gone q (⊎_elim (λ old. old) (λ last. absurd (no-backup q last)) (has-append_cases (Backup q) m.jobs (Restore ∷ []) (subst (Has (Backup q)) jobs has))));
  };
}

-- ---- the command

module _ (c : ClusterState) (database new : List ℕ) (x : Chain) (layer : LayerName × Manifest) (made published : Time) (chain : IsOwnChain c.book x) (last : last_of x.layers.items ≡ Some layer) where
  abbrev means : Machine → Stepped
  means m = restore_chain m database new x.time made published (map record_of x.layers.items)

  abbrev r : LayerRecord
  r = record_of layer

  abbrev shown : List Schema
  shown = shown_tables database x.time layer.1

  among : Has layer x.layers.items
  among = got-has x.layers.items (length x.layers.items - 1) layer last

  pub own : Has layer c.book.layers
  own = (has-AllByRecursion (IsOwnLayer c.book chain.collection chain.full) layer x.layers.items chain.layers among).own

  last-is : last_of (map record_of x.layers.items) ≡ Some r
  last-is = last-map record_of x.layers.items layer last

  serves : Serves x.time r
  serves = last-serves zero_time x.time (map record_of x.layers.items) r chain.chain last-is

  means-is : (m : Machine) → means m ≡ restore_chosen m new x.time made published (map record_of x.layers.items) (chosen_tables m.history.tables database x.time r)
  means-is m = ap (λ (o : Option LayerRecord). with_found m NothingToRestore o (λ q. restore_chosen m new x.time made published (map record_of x.layers.items) (chosen_tables m.history.tables database x.time q))) last-is

  module _ (first-is : next c.clock ≡ Some made) (second-is : next made ≡ Some published) (covered : IsTime x.time) (few : 100 + length c.schemas.tables ≤ 2 ^ 32) (events : c.events ≤ 1000000) where
    pub means-later : (tables : List Table) → IsLater (machine_of c tables) (means (machine_of c tables)).machine
    means-later tables = let m = machine_of c tables in
        finding-later m NothingToRestore (last_of (map record_of x.layers.items)) _ (λ q. chosen-later m new x.time made published (map record_of x.layers.items) (chosen_tables tables database x.time q) (next-later c.clock made first-is) (next-later made published second-is))

    module _ (tables : List Table) (k : Keeps c tables) (b : HasBackups c tables) where
      pub chosen-is : shown ≡ chosen_tables tables database x.time r
      chosen-is = shown-chosen c tables k b few events layer own x.time covered serves database

      catalog-is : catalog_of (machine_of c tables) ≡ c.schemas
      catalog-is = ap (λ (ts : List (List Schema)). record c.schemas { tables = ts }) k.schemas

      abbrev tests : Option Refusal
      tests = refusal_of_chosen c.schemas new made shown (room_test c (count_to_restore tables x.time shown) ∷ [])

      -- the tests of the meaning are those of the cluster
      pub tests-are : first_refusal (nothing_refusal (chosen_tables tables database x.time r)
          ∷ option_and_then refusal_of_remap (remap_fault (catalog_of (machine_of c tables)) (chosen_tables tables database x.time r) (target.Database new) false made)
          ∷ room_refusal (machine_of c tables) (count_to_restore tables x.time (chosen_tables tables database x.time r)) ∷ []) ≡ tests
      tests-are =
          let count : count_to_restore tables x.time (chosen_tables tables database x.time r) ≡ count_to_restore tables x.time shown = ap (count_to_restore tables x.time) (sym chosen-is) in
          ap (λ (s : Schemas). refusal_of_chosen s new made (chosen_tables tables database x.time r) (room_refusal (machine_of c tables) (count_to_restore tables x.time (chosen_tables tables database x.time r)) ∷ [])) catalog-is
          ∙ (ap₂ (λ (n e : ℕ). refusal_of_chosen c.schemas new made (chosen_tables tables database x.time r) (refusal_if (nat_lt c.most_events (e + n)) TooManyEvents ∷ [])) count k.events
          ∙ ap (λ (ds : List Schema). refusal_of_chosen c.schemas new made ds (room_test c (count_to_restore tables x.time shown) ∷ [])) (sym chosen-is))

      abbrev change : List Schema → Stepped
      change chosen =
          let y = machine_of c tables in
          answered (with_restored y new (map (restored_table tables (new_ids (catalog_of y) chosen) (target.Database new) x.time made published) chosen) published) (restore_done y (target.Database new) x.time made (map record_of x.layers.items) chosen)

      pub done-by : tests ≡ None → means (machine_of c tables) ≡ change shown
      done-by none =
          means-is (machine_of c tables) ∙ (ap (λ (t : Option Refusal). unless_refused (machine_of c tables) t (change (chosen_tables tables database x.time r))) (tests-are ∙ none)
          ∙ ap change (sym chosen-is))

      pub refused-by : (refusal : Refusal) → tests ≡ Some refusal → means (machine_of c tables) ≡ refused (machine_of c tables) refusal
      refused-by refusal is = means-is (machine_of c tables) ∙ ap (λ (t : Option Refusal). unless_refused (machine_of c tables) t (change (chosen_tables tables database x.time r))) (tests-are ∙ is)

    module _ (first now : View) (m to : Machine) (may : MayStep c m (means m) to first) where
      abbrev s : StandsFor c m
      s = may.stands

      later : IsLater (machine_of c s.tables) to
      later = later-then _ _ _ (means-later s.tables) (subst (λ (y : Machine). IsLater (means y).machine to) s.machine_is may.later)

      ready : IsReady (Some (machine_of c s.tables)) (Some to) first
      ready = subst (λ (y : Machine). IsReady (Some y) (Some to) first) s.machine_is may.ready

      -- each layer in the book is there as it was made
      layer-there : (p : LayerName × Manifest) → Has p c.book.layers → IsThere (objects_of s.tables (record_of p)) first.objects
      layer-there p has =
          let q = record_of p in
          let is : objects_of to.history.tables q ≡ objects_of s.tables q = final c s.tables to.history.tables c.clock q s.keeps later.tables (record-is c s.tables s.keeps s.backups few events p has) (over c s.tables s.keeps s.backups few events p has) in
          subst (λ (w : stored.LayerObjects). IsThere w first.objects) is (ready.kept.there q (has-map record_of p c.book.layers has))

      pub stands-there : IsStandingChain s.tables r.scope (map record_of x.layers.items) x.layers.items x.time first.objects
      stands-there = chain-stands c s.tables s.keeps s.backups few events x chain layer among first.objects layer-there

      pub shown-there : AllByRecursion (IsShown s.tables r.scope x.time) shown
      shown-there = subst (AllByRecursion (IsShown s.tables r.scope x.time)) (sym (chosen-is s.tables s.keeps s.backups)) (all-shown s.tables (λ i table got. (stands-there.mergeable i table got).storable) r database x.time)

      -- a test refuses it, the disk failed, or memory was wanting
      pub ended-runs : (IsKnown first → (image : Objects) → first.left_since first.moment image → IsImage first image) → OnlyReads first now → (e : Halt) → EndsBy e (tests s.tables s.keeps s.backups) → Runs c (means m) to (Err e) first now
      ended-runs only reads (Refused refusal) by =
          let is : means m ≡ refused m refusal = subst (λ (y : Machine). means y ≡ refused y refusal) (sym s.machine_is) (refused-by s.tables s.keeps s.backups refusal by) in
          record {
            responds = (subst (λ (y : Stepped). StandsFor c y.machine) (sym is) s, ap (λ (y : Stepped). y.response) is);
            ready = subst (λ (y : Stepped). IsReady (Some y.machine) (Some to) now) (sym is) (ready-read m to first now reads may.ready);
            leaves = leaves-read m to first now only reads may.ready;
            changes = only_read reads;
            ahead = λ w among later n is. ap (λ (o : Objects). at o n) (reads.content may.ready.known.tells).objects;
            manifests = manifests-same (made_layers to) first.objects now.objects (reads.content may.ready.known.tells).objects;
            idle = λ done. idle-same first now (reads.content may.ready.known.tells);
          }
      ended-runs only reads Disk by = record { responds = tt; ready = tt; leaves = leaves-read m to first now only reads may.ready; changes = only_read reads; ahead = λ w among later n is. ap (λ (o : Objects). at o n) (reads.content may.ready.known.tells).objects; manifests = manifests-same (made_layers to) first.objects now.objects (reads.content may.ready.known.tells).objects; idle = λ done. idle-same first now (reads.content may.ready.known.tells) }
      ended-runs only reads Memory by = record { responds = tt; ready = tt; leaves = leaves-read m to first now only reads may.ready; changes = only_read reads; ahead = λ w among later n is. ap (λ (o : Objects). at o n) (reads.content may.ready.known.tells).objects; manifests = manifests-same (made_layers to) first.objects now.objects (reads.content may.ready.known.tells).objects; idle = λ done. idle-same first now (reads.content may.ready.known.tells) }

      module _ (p : Plan) (planned : IsPlanned c.schemas new made shown p) (vs : List (Vec Entry)) (tested : AreTested shown vs) (time : IsTime made) (read : map entries_in vs ≡ map (stored_rows s.tables x.time) shown) (room : room_test c (count_rows (entries_of vs)) ≡ None) where
        count : count_rows (entries_of vs) ≡ count_to_restore s.tables x.time shown
        count = count-is s.tables x.time shown vs read

        passed : tests s.tables s.keeps s.backups ≡ None
        passed = rw (planned.some, planned.passed, sym count, room) refl

        is-done : means (machine_of c s.tables) ≡ change s.tables s.keeps s.backups shown
        is-done = done-by s.tables s.keeps s.backups passed

        abbrev items : List (List RowItem)
        items = map (rows_to_restore s.tables x.time) shown

        rows-are : AreRowsOfEach made shown (entries_of vs) items
        rows-are = items-stored made time s.tables (λ i table got. (stands-there.mergeable i table got).storable) r database x.time shown vs (λ d has. subst (Has d) (chosen-is s.tables s.keeps s.backups) has) tested read

        made-are : made_tables made published p.tables.items items ≡ map (restored_table s.tables (new_ids (catalog_of (machine_of c s.tables)) shown) (target.Database new) x.time made published) shown
        made-are =
            let ids = new_ids c.schemas shown in
            let goal = target.Database new in
            ap (λ (ss : List Schema). made_tables made published ss items) planned.tables
            ∙ (all-restored ids goal made published x.time s.tables shown
            ∙ ap (λ (y : Schemas). map (restored_table s.tables (new_ids y shown) goal x.time made published) shown) (sym (catalog-is s.tables s.keeps s.backups)))

        answer-is : (k : ℕ) → k ≡ count_rows (entries_of vs) → restore_done (machine_of c s.tables) (target.Database new) x.time made (map record_of x.layers.items) shown ≡ restored_by c new p.ids x.time made k x.layers.items p.chosen.items
        answer-is k k-is =
            let ids : new_ids (catalog_of (machine_of c s.tables)) shown ≡ p.ids = ap (λ (y : Schemas). new_ids y shown) (catalog-is s.tables s.keeps s.backups) ∙ sym planned.ids in
            ap₂ (λ (n : ℕ) (ts : List RestoredTable). RestoreDone (length c.jobs + 1) x.time made n (map span_of (map record_of x.layers.items)) ts) (sym count ∙ sym k-is)
            (ap₂ (λ (is : List (ℕ × ℕ)) (ds : List Schema). map (restored_as is (target.Database new)) ds) ids (sym planned.chosen_is))

        pub done-runs : (res : Result Answer Halt) (n : ClusterState) → KeptBy c n new made published p vs res → OnOk res (n ≡ with_restore c new published (count_rows (entries_of vs)) n.schemas.tables n.store)
            → (k : ℕ) → k ≡ count_rows (entries_of vs) → IfOk res (λ a. a ≡ restored_by c new p.ids x.time made k x.layers.items p.chosen.items) → IfErr res (λ e. e ≡ Memory)
            → (IsKnown first → (image : Objects) → first.left_since first.moment image → IsImage first image) → OnlyReads first now → Runs n (means m) to res first now
        done-runs (Err e) n kept rest k k-is answer fault only reads = subst (λ (y : Halt). Runs n (means m) to (Err y) first now) (sym fault) (record { responds = tt; ready = tt; leaves = leaves-read m to first now only reads may.ready; changes = only_read reads; ahead = λ w among later n is. ap (λ (o : Objects). at o n) (reads.content may.ready.known.tells).objects; manifests = manifests-same (made_layers to) first.objects now.objects (reads.content may.ready.known.tells).objects; idle = λ done. idle-same first now (reads.content may.ready.known.tells) })
        done-runs (Ok a) n kept rest k k-is answer fault only reads =
            let keeps = kept s.tables shown items s.keeps (by-ids c new made published first-is second-is shown p planned vs n) planned.in_order rows-are in
            let stands = kept-stands c new made published first-is second-is shown p planned vs n s.tables s.keeps s.backups items keeps (count_rows (entries_of vs)) rest in
            let is : means m ≡ change s.tables s.keeps s.backups shown = ap means s.machine_is ∙ is-done in
            let machine-is : machine_of n (s.tables ++ made_tables made published p.tables.items items) ≡ (change s.tables s.keeps s.backups shown).machine =
            ap (λ (y : ClusterState). machine_of y (s.tables ++ made_tables made published p.tables.items items)) rest
            ∙ ap (λ (ts : List Table). with_restored (machine_of c s.tables) new ts published) made-are in
            let t : StandsFor n (means m).machine = subst (StandsFor n) (machine-is ∙ sym (ap (λ (y : Stepped). y.machine) is)) stands in
            record {
              responds = (t, ap (λ (y : Stepped). y.response) is ∙ ap Response.Answered (answer-is k k-is ∙ sym answer));
              ready = restored-ready m (means m).machine to now
                  (ap (λ (y : Stepped). y.machine.layers) is ∙ sym (ap (λ (y : Machine). y.layers) s.machine_is))
                  (ap (λ (y : Stepped). y.machine.jobs) is ∙ sym (ap (λ (y : Machine). y.jobs ++ Restore ∷ []) s.machine_is))
                  (ready-read m to first now reads may.ready);
              leaves = leaves-read m to first now only reads may.ready;
              changes = only_read reads;
              ahead = λ w among later n is. ap (λ (o : Objects). at o n) (reads.content may.ready.known.tells).objects;
              manifests = manifests-same (made_layers to) first.objects now.objects (reads.content may.ready.known.tells).objects;
              idle = λ done. idle-same first now (reads.content may.ready.known.tells);
            }
