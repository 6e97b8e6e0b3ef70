-- FORGET over a ready disk, and over every disk.
use Rattle.std.proofs.Common.{◌≡◌, ◌≢◌, ◌⊎◌, inl, inr, ⊎_elim, ℕ, ◌<◌, ◌≤◌, ◌==◌, true, ◌&&◌, not, List, map, filter, length, Option, Some, None, option_map, slice_get, refl, sym, ap, subst, ◌∙◌, arith, Contains, Ok, Err, true≢false}
use Rattle.std.specs.List.{find}
use Rattle.std.proofs.lemmas.Bool.{cases_Bool}
use Rattle.std.proofs.lemmas.Bool.Decides.{nat_tests}
use Rattle.std.proofs.lemmas.Slice.Eq.{bytes_eq-Decides}
use Rattle.mvcc_keys.specs.Times.{Time, time_eq}
use Rattle.row_codec.proofs.KeyOrder.{both_true}
use Rattle.list_laws.specs.Members.{Has}
use Rattle.list_laws.proofs.Members.{filter-has, filter-passes, has-filter, has-map, map-has}
use Rattle.mvcc_keys.proofs.TimeOrder.{le-refl, eq-refl}
use Rattle.fact_model.proofs.Orders.{ordered-has}
use Rattle.history_model.specs.Histories.{Table}
use Rattle.history_model.specs.Layers as recorded
use Rattle.outside_world.specs.Disk.{View, IsImage, IsKnown}
use Rattle.outside_world.specs.Moments.{ChangesOnly, IsSettled, LeavesOnly, NoName}
use Rattle.outside_world.specs.Objects.{Objects, at}
use Rattle.outside_world.proofs.Runs.{as_read, only_less, still_known}
use Rattle.layer_manifest.specs.declared.manifest.Manifest.{Manifest}
use Rattle.layer_manifest.specs.Manifests.{chunk_count}
use Rattle.layer_model.specs.declared.names.LayerName.{LayerName}
use Rattle.layer_model.specs.declared.names.Part.{Part}
use Rattle.layer_model.specs.declared.names.Part.TheVariants.{Gate, Chunk, Mark}
use Rattle.layer_model.specs.declared.names.Part.TheVariants as part
use Rattle.layer_model.specs.Names.{IsNumbered, IsOwnName, object_name}
use Rattle.layer_model.specs.Layers.{IsPartName, LayerObjects}
use Rattle.collection_dir.specs.declared.fault.DirFault.{DirFault}
use Rattle.collection_dir.specs.declared.fault.DirFault.TheVariants as dir
use Rattle.collection_dir.specs.Faults.{IsDiskFault}
use Rattle.collection_dir.specs.Finishing.{StaysOver}
use Rattle.collection_dir.specs.Footprints.{AtForget}
use Rattle.collection_dir.specs.Safety.{IsForgotten, IsKept, MayForget}
use Rattle.collection_dir.specs.Standing.{KeepManifests}
use Rattle.collection_dir.proofs.StandsLaws.{ahead-by-one, manifests-by-one, part-own, stands-throughout}
use Rattle.layer_objects.specs.Objects.{name_of_record, objects_of}
use Rattle.layer_objects.specs.Storable.{older_manifest}
use Rattle.layer_objects.proofs.Names.{objects-name}
use Rattle.layer_book.specs.Books.{name_in, same_name, without_layer}
use Rattle.layer_book.specs.Subdirectories.{is_in, layers_of, place_cmp, subdirectories_of}
use Rattle.script_grammar.specs.declared.backups.Src.{Src}
use Rattle.reply_texts.specs.declared.refusals.Refusal.TheVariants.{NoSuchBackup, NoSuchLayer}
use Rattle.reply_texts.specs.declared.answers.Answer.TheVariants.{Plain}
use Rattle.machine_model.specs.Machine.{Backup, Job, Machine, Stepped, answered, refused, with_found}
use Rattle.machine_model.specs.Past.{IsLater}
use Rattle.machine_model.specs.Backups.{forget, forgetting, is_between_times, layers_in, source_among}
use Rattle.machine_model.specs.Disks.{IsDone, IsGone, IsReady, IsThere, StandsUntil, made_layers, setting_of}
use Rattle.machine_model.proofs.DiskLaws.{ready_images}
use Rattle.machine_model.proofs.Settings.{is-made, settings-proper}
use Rattle.cluster_core.specs.declared.halts.Halt.{Halt}
use Rattle.cluster_core.specs.declared.halts.Halt.TheVariants.{Refused, Disk, Memory}
use Rattle.cluster_core.specs.ClusterView.{ClusterState, record_of}
use Rattle.cluster_core.specs.Halting.{halt_of_dir}
use Rattle.cluster_core.specs.Standing.{AreAhead, HasBackups, IsOwnBackup, Keeps, MayPut, MayStep, Runs, StandsFor, machine_of}
use Rattle.cluster_core.specs.Backing.{AreLayersFrom, IsSourceFault}
use Rattle.cluster_core.proofs.BackingUp.{halted-runs, ready-over}
use Rattle.cluster_core.proofs.Kept.{keeps-as}
use Rattle.machine_model.proofs.Lists.{got-left, find-has}
use Rattle.cluster_core.proofs.Others.{IsSameOf, still-gone, still-there}
use Rattle.cluster_core.proofs.Sources.{between-is, layers-are, others-map, subdirectories-in}
use Rattle.cluster_core.proofs.Storing.{IsPast, has-place, own-place, past-backup, same-backups}

-- ---- names of layers

same-itself : (n : LayerName) → same_name n n ≡ true
same-itself n =
    let jobs : (n.job == n.job) ≡ true = grind (arith, nat_tests) in
    rw ((bytes_eq-Decides n.collection n.collection).1 refl, (bytes_eq-Decides n.cluster n.cluster).1 refl, eq-refl n.full, eq-refl n.start, eq-refl n.end, jobs) refl

other-job : (m n : LayerName) → m.job ≢ n.job → not (same_name m n) ≡ true
other-job m n other = elim (cases_Bool (same_name m n)) [
  | inl same ↦ (let rest = both_true (is_in n.collection n.cluster n.full m) (time_eq m.start n.start && (time_eq m.end n.end && m.job == n.job)) same in
      let ends = both_true (time_eq m.start n.start) (time_eq m.end n.end && m.job == n.job) rest.1 in
      let jobs = (both_true (time_eq m.end n.end) (m.job == n.job) ends.1).1 in
      absurd (other (grind (arith, nat_tests, jobs))))
  | inr differs ↦ rw differs refl
]

-- forgetting changes names of the layer's parts
part-at : (layer : LayerName) (chunks : ℕ) (w : LayerObjects) → w.name ≡ layer → length w.chunks ≡ chunks → (n : List ℕ) → AtForget layer chunks n → IsPartName w n
part-at layer chunks w name count n (inl e) = (Gate, tt, e ∙ ap (λ (x : LayerName). object_name x Gate) (sym name))
part-at layer chunks w name count n (inr (inl x)) = (Mark x.0, (let l = x.1 in omega (arith, l, count)), x.2 ∙ ap (λ (y : LayerName). object_name y (Mark x.0)) (sym name))
part-at layer chunks w name count n (inr (inr (inl e))) = (part.Manifest, tt, e ∙ ap (λ (x : LayerName). object_name x part.Manifest) (sym name))
part-at layer chunks w name count n (inr (inr (inr x))) = (Chunk x.0, (let l = x.1 in omega (arith, l, count)), x.2 ∙ ap (λ (y : LayerName). object_name y (Chunk x.0)) (sym name))

part-of : (layer : LayerName) (chunks : ℕ) → chunks ≤ 1000000 → (n : List ℕ) → AtForget layer chunks n → (part : Part) × IsNumbered part × (n ≡ object_name layer part)
part-of layer chunks few n (inl e) = (Gate, tt, e)
part-of layer chunks few n (inr (inl x)) = (Mark x.0, (let l = x.1 in omega (arith, l, few)), x.2)
part-of layer chunks few n (inr (inr (inl e))) = (part.Manifest, tt, e)
part-of layer chunks few n (inr (inr (inr x))) = (Chunk x.0, (let l = x.1 in omega (arith, l, few)), x.2)

all-gone : (layer : LayerName) (chunks : ℕ) (w : LayerObjects) (objects : Objects) → w.name ≡ layer → length w.chunks ≡ chunks → IsForgotten layer chunks objects → IsGone w objects
all-gone layer chunks w objects name count gone Gate has = ap (λ (x : LayerName). at objects (object_name x Gate)) name ∙ gone.gate
all-gone layer chunks w objects name count gone part.Manifest has = ap (λ (x : LayerName). at objects (object_name x part.Manifest)) name ∙ gone.manifest
all-gone layer chunks w objects name count gone (Chunk i) has = ap (λ (x : LayerName). at objects (object_name x (Chunk i))) name ∙ gone.chunks_gone i (omega (arith, has, count))
all-gone layer chunks w objects name count gone (Mark i) has = ap (λ (x : LayerName). at objects (object_name x (Mark i))) name ∙ gone.marks_gone i (omega (arith, has, count))

same-record : (q r : recorded.LayerRecord) → Some (Backup q) ≡ Some (Backup r) → q ≡ r
same-record q r e = cc e

module _ (c : ClusterState) (source : Src) (collection : List ℕ) (start end : Time) where
  abbrev means : Machine → Stepped
  means m = forget m source collection start end

  -- the source names no subdirectory
  no-source : (tables : List Table) (none : source_among source (subdirectories_of name_in collection c.book.layers) ≡ None) → means (machine_of c tables) ≡ refused (machine_of c tables) NoSuchBackup
  unfolding forget
  no-source tables none =
      let m = machine_of c tables in
      ap (λ (o : Option (List ℕ × Time)). with_found m NoSuchBackup o (λ s. with_found m NoSuchLayer (find (is_between_times start end) (layers_in m collection s)) (λ r. answered (forgetting m r) Plain)))
      (ap (source_among source) (subdirectories-in c tables collection) ∙ none)

  pub source-runs : (v : View) (e : Halt) → IsSourceFault c.book source collection e → (IsKnown v → (image : Objects) → v.left_since v.moment image → IsImage v image) → (m to : Machine) → MayStep c m (means m) to v → Runs c (means m) to (Err e) v v
  source-runs v (Refused refusal) fault only m to may =
      let s = may.stands in
      let is : means m ≡ refused m NoSuchBackup = subst (λ (x : Machine). means x ≡ refused x NoSuchBackup) (sym s.machine_is) (no-source s.tables fault.1) in
      halted-runs c m (means m) to v (Refused refusal) (Some NoSuchBackup) (ap Some (sym fault.0)) (λ x same. is ∙ ap (refused m) (let e : NoSuchBackup ≡ x = cc same in e)) only s may.ready
  source-runs v Disk fault only m to may = absurd fault
  source-runs v Memory fault only m to may = halted-runs c m (means m) to v Memory None tt (λ x no. absurd (cc no)) only may.stands may.ready

  module _ (ls : List (LayerName × Manifest)) (from : AreLayersFrom c.book source collection ls) where
    means-is : (tables : List Table) → means (machine_of c tables) ≡ with_found (machine_of c tables) NoSuchLayer (option_map record_of (find (λ x. is_between_times start end (record_of x)) ls)) (λ r. answered (forgetting (machine_of c tables) r) Plain)
    unfolding forget
    means-is tables =
        let m = machine_of c tables in
        ap (λ (o : Option (List ℕ × Time)). with_found m NoSuchBackup o (λ s. with_found m NoSuchLayer (find (is_between_times start end) (layers_in m collection s)) (λ r. answered (forgetting m r) Plain)))
        (ap (source_among source) (subdirectories-in c tables collection) ∙ from.among)
        ∙ ap (λ (o : Option recorded.LayerRecord). with_found m NoSuchLayer o (λ r. answered (forgetting m r) Plain))
        (ap (find (is_between_times start end)) (layers-are c tables collection from.subdirectory ∙ ap (map record_of) (sym from.are)) ∙ between-is start end ls)

    -- no layer has these times
    pub none-runs : find (λ x. is_between_times start end (record_of x)) ls ≡ None → (v : View) → (IsKnown v → (image : Objects) → v.left_since v.moment image → IsImage v image) → (m to : Machine) → MayStep c m (means m) to v → Runs c (means m) to (Err (Refused NoSuchLayer)) v v
    none-runs none v only m to may =
        let s = may.stands in
        let x = machine_of c s.tables in
        let is : means x ≡ refused x NoSuchLayer = means-is s.tables ∙ ap (λ (o : Option (LayerName × Manifest)). with_found x NoSuchLayer (option_map record_of o) (λ r. answered (forgetting x r) Plain)) none in
        let is-m : means m ≡ refused m NoSuchLayer = subst (λ (y : Machine). means y ≡ refused y NoSuchLayer) (sym s.machine_is) is in
        halted-runs c m (means m) to v (Refused NoSuchLayer) (Some NoSuchLayer) refl (λ y same. is-m ∙ ap (refused m) (let e : NoSuchLayer ≡ y = cc same in e)) only s may.ready

    module _ (p : LayerName × Manifest) (found : find (λ x. is_between_times start end (record_of x)) ls ≡ Some p) where
      abbrev r : recorded.LayerRecord
      r = record_of p

      abbrev without : ClusterState
      without = record c { book = without_layer c.book p.0 }

      in-book : Has p c.book.layers
      unfolding layers_of
      in-book =
          let s = from.subdirectory in
          let test = λ (x : LayerName × Manifest). is_in collection s.0 s.1 (name_in x) in
          filter-has test p c.book.layers (ordered-has (place_cmp name_in) p (filter test c.book.layers) (subst (Has p) from.are (find-has (λ x. is_between_times start end (record_of x)) ls p found)))

      place-of : (tables : List Table) → HasBackups c tables → (i : ℕ) × (slice_get c.jobs i ≡ Some (Backup r)) × (i < length c.jobs)
      place-of tables b = has-place (Backup r) c.jobs (b.layers p in-book).among

      own : (tables : List Table) (b : HasBackups c tables) → IsOwnBackup c tables (place-of tables b).0 r
      own tables b = let i = place-of tables b in b.backups i.0 r i.1

      pub few-chunks : (m : Machine) × StandsFor c m → chunk_count p.1.tables ≤ 1000000
      few-chunks x =
          let s = x.1 in
          let n = (s.backups.layers p in-book).chunks in
          let l = (own s.tables s.backups).few.few in
          omega (arith, n, l)

      -- only names of the cluster are removed
      pub own-changes : (chunks : ℕ) → chunks ≡ chunk_count p.1.tables → (a b : View) → ChangesOnly NoName (AtForget p.0 chunks) a b → (m : Machine) × StandsFor c m → ChangesOnly (IsOwnName c.name) (IsOwnName c.name) a b
      own-changes chunks count a b changes x =
          let s = x.1 in
          let few = few-chunks x in
          let o = own s.tables s.backups in
          only_less (λ n no. absurd no)
          (λ n at.
          let q = part-of p.0 chunks (omega (arith, count, few)) n at in
          record { object = record { layer = p.0; part = q.0 }; form = record { layer = o.is.name; part = q.1 }; own = o.cluster; spelled = q.2 })
          changes

      still : (x : recorded.LayerRecord) → Has x (map record_of without.book.layers) → Has x (map record_of c.book.layers)
      still x has =
          let m = map-has record_of x without.book.layers has in
          subst (λ (y : recorded.LayerRecord). Has y (map record_of c.book.layers)) (sym m.2) (has-map record_of m.0 c.book.layers (filter-has (λ y. not (same_name y.0 p.0)) m.0 c.book.layers m.1))

      taken : (tables : List Table) → Keeps c tables → HasBackups c tables → StandsFor without (forgetting (machine_of c tables) r)
      taken tables k b = record {
        tables = tables;
        keeps = keeps-as c without tables k refl refl refl (le-refl c.clock);
        machine_is = ap (λ (qs : List recorded.LayerRecord). record (machine_of c tables) { layers = qs }) (sym (others-map p.0 r refl c.book.layers));
        backups = record {
          backups = λ place q got. (let o = b.backups place q got in record { number = o.number; cluster = o.cluster; is = o.is; version = o.version; over = o.over; few = o.few; listed = o.listed });
          layers = λ x has. b.layers x (filter-has (λ y. not (same_name y.0 p.0)) x c.book.layers has);
          scopes = λ x y hx hy. b.scopes x y (still x hx) (still y hy);
        };
      }

      pub done-still : (new : ClusterState) → new ≡ without → (m : Machine) × StandsFor c m → (m : Machine) × StandsFor new m
      done-still new is-new x = let s = x.1 in (forgetting (machine_of c s.tables) r, subst (λ (n : ClusterState). StandsFor n (forgetting (machine_of c s.tables) r)) (sym is-new) (taken s.tables s.keeps s.backups))

      means-found : (tables : List Table) → means (machine_of c tables) ≡ answered (forgetting (machine_of c tables) r) Plain
      means-found tables = means-is tables ∙ ap (λ (o : Option (LayerName × Manifest)). with_found (machine_of c tables) NoSuchLayer (option_map record_of o) (λ q. answered (forgetting (machine_of c tables) q) Plain)) found

      -- ---- a ready disk

      module _ (chunks : ℕ) (count : chunks ≡ chunk_count p.1.tables) (first now : View) (kept : (w : LayerObjects) (older : List ℕ) → MayForget w older p.0 chunks first → LeavesOnly first now (IsKept (AtForget p.0 chunks) w older first)) where
        module _ (tables : List Table) (k : Keeps c tables) (b : HasBackups c tables) (to : Machine) (ready : IsReady (Some (machine_of c tables)) (Some to) first) (later : IsLater (forgetting (machine_of c tables) r) to) where
          abbrev ends : List Table
          ends = to.history.tables

          abbrev w : LayerObjects
          w = objects_of ends r

          past-of : (place : ℕ) (q : recorded.LayerRecord) → slice_get c.jobs place ≡ Some (Backup q) → IsPast tables ends q
          past-of place q got = past-backup c tables ends c.clock k later.tables (le-refl c.clock) place q (b.backups place q got)

          own-past : IsPast tables ends r
          own-past = let i = place-of tables b in past-of i.0 r i.1

          is-started : Contains (made_layers to) w
          is-started =
              let i = place-of tables b in
              let o = own tables b in
              is-made to i.0 r (ap (λ xs. slice_get xs i.0) later.jobs ∙ got-left c.jobs later.more i.0 (Backup r) i.1) (record {
                name = own-past.named;
                own = ap (λ (n : LayerName). n.cluster) (objects-name ends r) ∙ (o.cluster ∙ sym later.name);
                number = (let a = own-past.number in let e = o.number in omega (arith, a, e));
                few = own-past.few.few;
              })

          counted : length w.chunks ≡ chunks
          counted = ap (λ (x : LayerObjects). length x.chunks) own-past.final_is ∙ (sym (b.layers p in-book).chunks ∙ sym count)

          within : (n : List ℕ) → AtForget p.0 chunks n → IsPartName w n
          within n at = part-at p.0 chunks w (objects-name ends r) counted n at

          may-forget : MayForget w (older_manifest w) p.0 chunks first
          may-forget = record {
            may = record {
              known = ready.known;
              name = objects-name ends r;
              few = own-past.few;
              safe = λ image is. (ready_images (Some (machine_of c tables)) (Some to) first ready image is).safe w is-started;
              gate = ready.settled _;
            };
            is_open = ⊎_elim (λ whole. whole Gate tt) (λ whole. whole Gate tt) (ready.kept.there r (has-map record_of p c.book.layers in-book));
            count = counted;
          }

          moments : LeavesOnly first now (StandsUntil (Some to))
          moments = stands-throughout older_manifest (setting_of to) (settings-proper to) w is-started (AtForget p.0 chunks) within (inl is-started) first now (ready_images (Some (machine_of c tables)) (Some to) first ready) (kept w (older_manifest w) may-forget)

          -- only names of the layer are removed, and the other layers keep their manifests
          removes : (left : Machine) → ChangesOnly NoName (AtForget p.0 chunks) first now → ChangesOnly (MayPut left to first.objects) (IsOwnName to.name) first now
          removes left changes = only_less (λ n no. absurd no) (λ n at. part-own (setting_of to) (settings-proper to) w is-started n (within n at)) changes

          is-ahead : (left : Machine) → left.jobs ≡ c.jobs → ChangesOnly NoName (AtForget p.0 chunks) first now → AreAhead left to first.objects now.objects
          is-ahead left same changes =
              let i = place-of tables b in
              let a = own-past.number in
              let e = (own tables b).number in
              let jobs : length left.jobs ≡ length c.jobs = ap (λ (x : List Job). length x) same in
              ahead-by-one (setting_of to) (settings-proper to) w is-started NoName (AtForget p.0 chunks) (λ n no. absurd no) within first now ready.known.tells changes
              (length left.jobs) (let lt = i.2 in omega (arith, a, e, jobs, lt))

          manifests : ChangesOnly NoName (AtForget p.0 chunks) first now → (first.tells ≡ true → StaysOver p.0 first.objects now.objects) → KeepManifests (made_layers to) first.objects now.objects
          manifests changes stays = manifests-by-one (setting_of to) (settings-proper to) w is-started NoName (AtForget p.0 chunks) (λ n no. absurd no) within first now ready.known.tells changes
              (λ is_open. inr (may-forget.is_open, subst (λ (n : LayerName). StaysOver n first.objects now.objects) (sym (objects-name ends r)) (stays ready.known.tells) is_open))

          -- a backup of its number is that of the layer
          one-record : (place : ℕ) (q : recorded.LayerRecord) → slice_get c.jobs place ≡ Some (Backup q) → q.job ≡ r.job → q ≡ r
          one-record place q got same =
              let i = place-of tables b in
              let m = (b.backups place q got).number in
              let n = (own tables b).number in
              let at : place ≡ i.0 = omega (arith, m, n, same) in
              same-record q r (sym got ∙ (ap (slice_get c.jobs) at ∙ i.1))

          module _ (changes : ChangesOnly NoName (AtForget p.0 chunks) first now) (gone : IsForgotten p.0 chunks now.objects) where
            as-before : (place : ℕ) (q : recorded.LayerRecord) → slice_get c.jobs place ≡ Some (Backup q) → q.job ≢ r.job → IsSameOf (objects_of ends q) first.objects now.objects
            as-before place q got other =
                same-backups tables ends q w first now NoName (AtForget p.0 chunks) (past-of place q got) (λ n no. absurd no) within changes ready.known.tells own-past.few own-past.named (λ e. other (e ∙ own-past.number))

            there : (q : recorded.LayerRecord) → Has q (forgetting (machine_of c tables) r).layers → IsThere (objects_of ends q) now.objects
            there q has =
                let others = λ (x : recorded.LayerRecord). not (same_name (name_of_record x) (name_of_record r)) in
                let old = filter-has others q (map record_of c.book.layers) has in
                let i = own-place c tables b q old in
                let passes : not (same_name (name_of_record q) (name_of_record r)) ≡ true = filter-passes others q (map record_of c.book.layers) has in
                let other : q.job ≢ r.job = λ same. true≢false (sym passes ∙ (ap (λ (x : recorded.LayerRecord). not (same_name (name_of_record x) (name_of_record r))) (one-record i.0 q i.1 same) ∙ ap not (same-itself (name_of_record r)))) in
                still-there (objects_of ends q) first.objects now.objects (as-before i.0 q i.1 other) (ready.kept.there q old)

            is-gone : (q : recorded.LayerRecord) → Has (Backup q) c.jobs → Has q (forgetting (machine_of c tables) r).layers ⊎ IsGone (objects_of ends q) now.objects
            is-gone q has =
                let i = has-place (Backup q) c.jobs has in
                elim (cases_Bool (q.job == r.job)) [
                  | inl e ↦ (let same : q.job ≡ r.job = grind (arith, nat_tests, e) in
                      inr (subst (λ (x : recorded.LayerRecord). IsGone (objects_of ends x) now.objects) (sym (one-record i.0 q i.1 same)) (all-gone p.0 chunks w now.objects (objects-name ends r) counted gone)))
                  | inr e ↦ (let other : q.job ≢ r.job = grind (arith, nat_tests, e) in
                      ⊎_elim
                      (λ (old : Has q (map record_of c.book.layers)). inl (has-filter (λ x. not (same_name (name_of_record x) (name_of_record r))) q (map record_of c.book.layers) old (other-job (name_of_record q) (name_of_record r) other)))
                      (λ (was : IsGone (objects_of ends q) first.objects). inr (still-gone (objects_of ends q) first.objects now.objects (as-before i.0 q i.1 other) was))
                      (ready.kept.gone q has))
                ]

            done-ready : IsSettled now → StandsUntil (Some to) now.objects → IsReady (Some (forgetting (machine_of c tables) r)) (Some to) now
            done-ready settled stands = record { known = still_known ready.known changes.kind; settled = settled; stands = stands; kept = record { there = there; gone = is-gone } }

        is-found : (m to : Machine) (may : MayStep c m (means m) to first) → means m ≡ answered (forgetting (machine_of c may.stands.tables) r) Plain
        is-found m to may = ap means may.stands.machine_is ∙ means-found may.stands.tables

        later-of : (m to : Machine) (may : MayStep c m (means m) to first) → IsLater (forgetting (machine_of c may.stands.tables) r) to
        later-of m to may = subst (λ (x : Stepped). IsLater x.machine to) (is-found m to may) may.later

        leaves-of : (m to : Machine) → MayStep c m (means m) to first → LeavesOnly first now (StandsUntil (Some to))
        leaves-of m to may = let s = may.stands in moments s.tables s.keeps s.backups to (ready-over may) (later-of m to may)

        module _ (changes : ChangesOnly NoName (AtForget p.0 chunks) first now) (stays : first.tells ≡ true → StaysOver p.0 first.objects now.objects) where
          removes-of : (m to : Machine) → MayStep c m (means m) to first → ChangesOnly (MayPut (means m).machine to first.objects) (IsOwnName to.name) first now
          removes-of m to may = let s = may.stands in removes s.tables s.keeps s.backups to (ready-over may) (later-of m to may) (means m).machine changes

          ahead-of : (m to : Machine) → MayStep c m (means m) to first → AreAhead (means m).machine to first.objects now.objects
          ahead-of m to may = let s = may.stands in is-ahead s.tables s.keeps s.backups to (ready-over may) (later-of m to may) (means m).machine (ap (λ (x : Stepped). x.machine.jobs) (is-found m to may)) changes

          manifests-of : (m to : Machine) → MayStep c m (means m) to first → KeepManifests (made_layers to) first.objects now.objects
          manifests-of m to may = let s = may.stands in manifests s.tables s.keeps s.backups to (ready-over may) (later-of m to may) changes stays

        -- a layer that is forgotten is none of the script's end
        not-done : (m to : Machine) (may : MayStep c m (means m) to first) → IsDone to first.objects → ⊥
        not-done m to may done =
            let s = may.stands in
            let ready = ready-over may in
            let later = later-of m to may in
            let kept = (done (w s.tables s.keeps s.backups to ready later) (is-started s.tables s.keeps s.backups to ready later)).1 in
            let same : name_of_record kept.0 ≡ name_of_record r = kept.2 ∙ objects-name to.history.tables r in
            let i = place-of s.tables s.backups in
            let number = (own s.tables s.backups).number in
            ⊎_elim
            (λ has. true≢false (sym (filter-passes (λ x. not (same_name (name_of_record x) (name_of_record r))) kept.0 (map record_of c.book.layers) has) ∙ (ap (λ (n : LayerName). not (same_name n (name_of_record r))) same ∙ ap not (same-itself (name_of_record r)))))
            (λ after. (let at = ap (λ (n : LayerName). n.job) same in let lt = i.2 in omega (arith, after, at, number, lt)))
            (later.layers kept.0 kept.1)

        -- the disk failed, or memory was wanting
        pub fault-runs : ChangesOnly NoName (AtForget p.0 chunks) first now → (first.tells ≡ true → StaysOver p.0 first.objects now.objects) → (fault : DirFault) → IsDiskFault fault → (m to : Machine) → MayStep c m (means m) to first → Runs c (means m) to (Err (halt_of_dir fault)) first now
        fault-runs changes stays dir.Failed ok m to may = record { responds = tt; ready = tt; leaves = leaves-of m to may; changes = removes-of changes stays m to may; ahead = ahead-of changes stays m to may; manifests = manifests-of changes stays m to may; idle = λ done. absurd (not-done m to may done) }
        fault-runs changes stays dir.Memory ok m to may = record { responds = tt; ready = tt; leaves = leaves-of m to may; changes = removes-of changes stays m to may; ahead = ahead-of changes stays m to may; manifests = manifests-of changes stays m to may; idle = λ done. absurd (not-done m to may done) }
        fault-runs changes stays (dir.Damaged object wanted found) never m to may = absurd never
        fault-runs changes stays (dir.Malformed object offset) never m to may = absurd never
        fault-runs changes stays (dir.LayerDiffers object wanted found) never m to may = absurd never

        pub done-runs : ChangesOnly NoName (AtForget p.0 chunks) first now → (first.tells ≡ true → StaysOver p.0 first.objects now.objects) → (first.tells ≡ true → IsForgotten p.0 chunks now.objects) → (first.tells ≡ true → IsSettled now)
            → ((t : ℕ) (image : Objects) → IsKnown now → t ≤ now.moment → IsImage now image → now.left_since t image) → (new : ClusterState) → new ≡ without → (m to : Machine) → MayStep c m (means m) to first → Runs new (means m) to (Ok Plain) first now
        done-runs changes over gone settled counts new is-new m to may =
            let s = may.stands in
            let is = is-found m to may in
            let leaves = leaves-of m to may in
            let tells = may.ready.known.tells in
            let stands = leaves.each now.objects (counts first.moment now.objects (still_known may.ready.known changes.kind) leaves.later (as_read now)) in
            record {
              responds = (
                subst (λ (y : Stepped). StandsFor new y.machine) (sym is) (subst (λ (n : ClusterState). StandsFor n (forgetting (machine_of c s.tables) r)) (sym is-new) (taken s.tables s.keeps s.backups)),
                ap (λ (y : Stepped). y.response) is,
              );
              ready = subst (λ (y : Stepped). IsReady (Some y.machine) (Some to) now) (sym is) (done-ready s.tables s.keeps s.backups to (ready-over may) (later-of m to may) changes (gone tells) (settled tells) stands);
              leaves = leaves;
              changes = removes-of changes over m to may;
              ahead = ahead-of changes over m to may;
              manifests = manifests-of changes over m to may;
              idle = λ done. absurd (not-done m to may done);
            }
