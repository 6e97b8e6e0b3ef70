-- BACKUP over a ready disk, and over every disk.
use Rattle.std.proofs.Common.{◌≡◌, ℕ, ◌+◌, ◌≤◌, true, Contains, arith, map, length, List, [], ◌∷◌, ◌++◌, Option, Some, None, refl, sym, ap, subst, ◌∙◌, Result, Ok, Err, IsErrAnd}
use Rattle.std.specs.Prelude.{IfErr, MatchResult, OnOk}
use Rattle.std.proofs.lemmas.Result.{err_from_is_err_and}
use Rattle.mvcc_keys.specs.Times.{Time, time_le, time_lt}
use Rattle.history_model.specs.Histories.{Table}
use Rattle.outside_world.specs.Disk.{View, IsImage, IsKnown, IsSameContent}
use Rattle.outside_world.specs.Objects.{Objects}
use Rattle.outside_world.specs.Moments.{ChangesOnly, IsSettled, NoName}
use Rattle.outside_world.proofs.Runs.{as_read, only_less, only_none, still_known}
use Rattle.version_store.specs.Tables.{Tables}
use Rattle.version_store.specs.MapHolding.{KeepsAll}
use Rattle.version_store.specs.declared.mvcc_map.MvccMap.{MvccMap}
use Rattle.table_rows.specs.RowTables.{bytes_of}
use Rattle.layer_manifest.specs.Manifests.{chunk_count}
use Rattle.layer_model.specs.declared.names.LayerName.{LayerName}
use Rattle.layer_model.specs.Layers.{IsPartName, LayerObjects}
use Rattle.layer_model.specs.Names.{IsLayerName, IsOwnName}
use Rattle.layer_model.specs.Stands.{Setting}
use Rattle.collection_dir.specs.declared.fault.DirFault.{DirFault}
use Rattle.collection_dir.specs.declared.fault.DirFault.TheVariants as dir
use Rattle.collection_dir.specs.Faults.{CountsAs, DirHasCause, IsDiskFault}
use Rattle.collection_dir.specs.Footprints.{AtUnmarked}
use Rattle.collection_dir.specs.Standing.{KeepManifests}
use Rattle.collection_dir.proofs.StandsLaws.{ahead-by-one, manifests-by-one, manifests-same, part-own, unmarked-of-all}
use Rattle.backup_job.specs.Jobs.{Job, IsSameJob, MayRun, completed}
use Rattle.backup_job.specs.Units.{AtLayer}
use Rattle.backup_job.specs.Whole.{IsAmong, IsWriting, IsWritten, RunWrites}
use Rattle.layer_objects.specs.Objects.{manifest_of, objects_of, rows_of}
use Rattle.layer_objects.specs.Storable.{older_manifest}
use Rattle.layer_objects.proofs.Names.{objects-name}
use Rattle.list_laws.specs.Members.{Has}
use Rattle.std.proofs.lemmas.List.{length_push}
use Rattle.reply_texts.specs.declared.refusals.Refusal.{Refusal}
use Rattle.reply_texts.specs.declared.answers.Answer.{Answer}
use Rattle.reply_texts.specs.declared.replies.Response.{Response}
use Rattle.machine_model.specs.Machine.{Backup, Machine, Stepped, answered, refused, unless_refused}
use Rattle.machine_model.specs.Past.{IsLater}
use Rattle.machine_model.specs.declared.extents.Extent.{Extent}
use Rattle.machine_model.specs.Backups.{backup, backup_done, layer_record, with_backup as with_made}
use Rattle.machine_model.specs.Disks.{IsDone, IsIdle, IsReady, made_layers, setting_of}
use Rattle.machine_model.proofs.DiskLaws.{ready_leaves}
use Rattle.cluster_core.specs.declared.halts.Halt.{Halt}
use Rattle.cluster_core.specs.declared.halts.Halt.TheVariants.{Refused, Disk, Memory}
use Rattle.cluster_core.specs.ClusterView.{ClusterState, record_of}
use Rattle.cluster_core.specs.Halting.{halt_of_dir}
use Rattle.cluster_core.specs.Standing.{AreAhead, HaltCounts, HaltHasCause, Keeps, MayPut, MayStep, RefusedBy, Runs, StandsFor, machine_of}
use Rattle.cluster_core.specs.Backing.{IsBackupJob, IsOfScopeOf, StandsStill, done_of, layer_refusal, with_backup, with_job}
use Rattle.cluster_core.proofs.Storing.{answer-is, done-ready, failed, few, final-of, has-last, is-among-layers, is-writing, made, only-disk}

-- the disk is ready for the machine of the tables that the cluster has
pub ready-over : {c : ClusterState} {m to : Machine} {s : Stepped} {v : View} (may : MayStep c m s to v) → IsReady (Some (machine_of c may.stands.tables)) (Some to) v
ready-over {c} {m} {to} {s} {v} may = subst (λ (x : Machine). IsReady (Some x) (Some to) v) may.stands.machine_is may.ready

-- ---- commands that do nothing to the disk

pub idle-same : (a b : View) → IsSameContent a b → IsIdle a b
idle-same a b same = record { objects = same.objects; calls = same.calls }

pub idle-none : (v : View) → IsIdle v v
idle-none v = record { objects = refl; calls = refl }

-- ---- commands that stop before they change anything

-- a test refuses a command, or memory was wanting
pub halted-runs : (c : ClusterState) (m : Machine) (s : Stepped) (to : Machine) (v : View) (e : Halt) (test : Option Refusal) → RefusedBy e test → ((refusal : Refusal) → test ≡ Some refusal → s ≡ refused m refusal)
    → (IsKnown v → (image : Objects) → v.left_since v.moment image → IsImage v image) → StandsFor c m → IsReady (Some m) (Some to) v → Runs c s to (Err e) v v
halted-runs c m s to v (Refused refusal) test by means only stands ready =
    let is = means refusal by in
    record {
      responds = (subst (λ (x : Stepped). StandsFor c x.machine) (sym is) stands, ap (λ (x : Stepped). x.response) is);
      ready = subst (λ (x : Stepped). IsReady (Some x.machine) (Some to) v) (sym is) ready;
      leaves = ready_leaves (Some m) (Some to) v only ready;
      changes = only_none v;
      ahead = λ w among later n is. refl;
      manifests = manifests-same (made_layers to) v.objects v.objects refl;
      idle = λ done. idle-none v;
    }
halted-runs c m s to v Disk test by means only stands ready = absurd by
halted-runs c m s to v Memory test by means only stands ready = record { responds = tt; ready = tt; leaves = ready_leaves (Some m) (Some to) v only ready; changes = only_none v; ahead = λ w among later n is. refl; manifests = manifests-same (made_layers to) v.objects v.objects refl; idle = λ done. idle-none v }

pub as-returned : (P : Result Answer Halt → Type 0) (r : Result Answer Halt) (e : Halt) → IsErrAnd r (λ y. y ≡ e) → P (Err e) → P r
as-returned P r e is p = let q = err_from_is_err_and r is in subst P (sym (q.1 ∙ ap Err q.2)) p

-- the cluster is as it was
pub halted-still : (c : ClusterState) (e : Halt) → ((m : Machine) × StandsFor c m) → StandsStill (Err e) c
halted-still c (Refused refusal) stands = stands
halted-still c Disk stands = tt
halted-still c Memory stands = tt

pub still-by : (c : ClusterState) (e : Halt) → ((refusal : Refusal) → e ≡ Refused refusal → (m : Machine) × StandsFor c m) → StandsStill (Err e) c
still-by c (Refused refusal) stands = stands refusal refl
still-by c Disk stands = tt
still-by c Memory stands = tt

-- the count of the disk's faults over a call that ended the command
pub fault-counts : {T S : Type 0} (before now : ℕ) (r : Result T DirFault) (fault : DirFault) (e : Halt) → r ≡ Err fault → DirHasCause before now r → (CountsAs fault before now → HaltCounts e before now) → HaltHasCause {T = S} before now (Err e)
fault-counts before now r fault e is cause counts = record { later = cause.later; capped = cause.capped; counts = counts (subst (λ (x : Result _ DirFault). MatchResult x (λ u. now ≡ before) (λ f. CountsAs f before now)) is cause.counts) }

-- ---- BACKUP

abbrev tested : (m : Machine) → Option Refusal → Stepped → Stepped
tested m test change = unless_refused m test change

layer-refused : (m : Machine) (extent : Extent) (last clock : Time) (refusal : Refusal) → layer_refusal m extent last ≡ Some refusal → backup m [] extent last clock ≡ refused m refusal
layer-refused m extent last clock refusal is = ap (λ (test : Option Refusal). unless_refused m test (answered (with_made m clock (layer_record m extent)) (backup_done (layer_record m extent) (manifest_of m.history.tables (layer_record m extent))))) is

layer-made : (m : Machine) (extent : Extent) (last clock : Time) → layer_refusal m extent last ≡ None
    → backup m [] extent last clock ≡ answered (with_made m clock (layer_record m extent)) (backup_done (layer_record m extent) (manifest_of m.history.tables (layer_record m extent)))
layer-made m extent last clock is = ap (λ (test : Option Refusal). unless_refused m test (answered (with_made m clock (layer_record m extent)) (backup_done (layer_record m extent) (manifest_of m.history.tables (layer_record m extent))))) is

module _ (c : ClusterState) (extent : Extent) (last clock : Time) where
  abbrev means : Machine → Stepped
  means m = backup m [] extent last clock

  -- a test refuses the layer
  pub refused-runs : (v : View) (r : Result Answer Halt) (e : Halt) → IsErrAnd r (λ y. y ≡ e) → ((tables : List Table) → Keeps c tables → RefusedBy e (layer_refusal (machine_of c tables) extent last))
      → (IsKnown v → (image : Objects) → v.left_since v.moment image → IsImage v image) → (m to : Machine) → MayStep c m (means m) to v → Runs c (means m) to r v v
  refused-runs v r e is by only m to may =
      let s = may.stands in
      as-returned (λ (x : Result Answer Halt). Runs c (means m) to x v v) r e is
      (halted-runs c m (means m) to v e (layer_refusal m extent last) (subst (λ (x : Machine). RefusedBy e (layer_refusal x extent last)) (sym s.machine_is) (by s.tables s.keeps)) (layer-refused m extent last clock) only s may.ready)

  module _ (scopes : time_lt last extent.end ≡ true → IsOfScopeOf c.book extent) (within : time_le extent.end clock ≡ true) (on : time_le c.clock clock ≡ true) (job : Job) (full : (tables : List Table) → Keeps c tables → IsBackupJob (machine_of c tables) extent last job)
      (store : MvccMap) (is : store ≡ c.store) (result : Result (Unit {0}) DirFault) (next : Job) (kept : (h : Tables) → KeepsAll store.tables.entries h → MayRun h job → IsSameJob h job next) where
    abbrev dated : ClusterState
    dated = record c { clock = clock }

    holds : (tables : List Table) → Keeps c tables → KeepsAll store.tables.entries (bytes_of (rows_of tables))
    holds tables k = subst (λ (s : MvccMap). KeepsAll s.tables.entries (bytes_of (rows_of tables))) (sym is) k.rows.bytes

    pub may-run : (m : Machine) × StandsFor c m → (h : Tables) × KeepsAll store.tables.entries h × MayRun h job
    may-run x = let k = x.1.keeps in (bytes_of (rows_of x.1.tables), holds x.1.tables k, (let j = full x.1.tables k in subst (MayRun (bytes_of (rows_of x.1.tables))) (sym j.is) j.writes.may))

    same : (tables : List Table) (k : Keeps c tables) → IsSameJob (bytes_of (rows_of tables)) job next
    same tables k = let j = full tables k in kept (bytes_of (rows_of tables)) (holds tables k) (subst (MayRun (bytes_of (rows_of tables))) (sym j.is) j.writes.may)

    abbrev IsWhole : Type 0
    IsWhole = (h : Tables) → KeepsAll store.tables.entries h → MayRun h job → next.manifest ≡ completed h job

    whole-of : IsWhole → (tables : List Table) (k : Keeps c tables) → next.manifest ≡ completed (bytes_of (rows_of tables)) job
    whole-of whole tables k = let j = full tables k in whole (bytes_of (rows_of tables)) (holds tables k) (subst (MayRun (bytes_of (rows_of tables))) (sym j.is) j.writes.may)

    -- ---- every disk

    pub few-chunks : IsWhole → (m : Machine) × StandsFor c m → chunk_count next.manifest.tables ≤ 1000000
    few-chunks whole x = let s = x.1 in few c s.tables s.keeps s.backups extent last clock within on job (full s.tables s.keeps) next (same s.tables s.keeps) (whole-of whole s.tables s.keeps)

    pub done-still : IsWhole → (new : ClusterState) → new ≡ with_backup dated next → (m : Machine) × StandsFor c m → (m : Machine) × StandsFor new m
    done-still whole new is-new x = let s = x.1 in (
      with_made (machine_of c s.tables) clock (layer_record (machine_of c s.tables) extent),
      subst (λ (n : ClusterState). StandsFor n (with_made (machine_of c s.tables) clock (layer_record (machine_of c s.tables) extent))) (sym is-new)
          (made c s.tables s.keeps s.backups extent last clock within on job (full s.tables s.keeps) next (same s.tables s.keeps) (whole-of whole s.tables s.keeps) scopes),
    )

    pub failed-still : (new : ClusterState) → new ≡ with_job dated next → (m : Machine) × StandsFor c m → (m : Machine) × StandsFor new m
    failed-still new is-new x = let s = x.1 in let r = layer_record (machine_of c s.tables) extent in (
      record (machine_of c s.tables) { clock = clock; jobs = c.jobs ++ Backup r ∷ [] },
      subst (λ (n : ClusterState). StandsFor n (record (machine_of c s.tables) { clock = clock; jobs = c.jobs ++ Backup r ∷ [] })) (sym is-new)
          (failed c s.tables s.keeps s.backups extent last clock within on job (full s.tables s.keeps) next (same s.tables s.keeps)),
    )

    -- only names of the cluster are put
    pub own-changes : (a b : View) → ChangesOnly (AtLayer job.name) NoName a b → (m : Machine) × StandsFor c m → ChangesOnly (IsOwnName c.name) (IsOwnName c.name) a b
    own-changes a b changes x = let s = x.1 in let j = full s.tables s.keeps in
        only_less
        (λ n at. record {
          object = record { layer = job.name; part = at.0 };
          form = record { layer = subst IsLayerName (sym (ap (λ (y : Job). y.name) j.is)) j.form.name; part = at.1 };
          own = ap (λ (y : Job). y.name.cluster) j.is;
          spelled = at.2;
        })
        (λ n never. absurd never)
        changes

    -- ---- a ready disk

    module _ (first now : View) (disk : (h : Tables) → KeepsAll store.tables.entries h → (older : LayerObjects → List ℕ) (s : Setting) (w : LayerObjects) → IsAmong s w → IsWriting older s w h job first → RunWrites older s w (completed h job) result next first now)
        (counts : (t : ℕ) (image : Objects) → IsKnown now → t ≤ now.moment → IsImage now image → now.left_since t image) where
      later-of : (m to : Machine) (may : MayStep c m (means m) to first) → IsLater (with_made (machine_of c may.stands.tables) clock (layer_record (machine_of c may.stands.tables) extent)) to
      later-of m to may =
          let s = may.stands in
          let is-made = layer-made (machine_of c s.tables) extent last clock (full s.tables s.keeps).passed in
          subst (λ (x : Stepped). IsLater x.machine to) is-made (subst (λ (x : Machine). IsLater (means x).machine to) s.machine_is may.later)

      writes : (m to : Machine) (may : MayStep c m (means m) to first) → RunWrites older_manifest (setting_of to) (objects_of may.stands.tables (layer_record (machine_of c may.stands.tables) extent)) (completed (bytes_of (rows_of may.stands.tables)) job) result next first now
      writes m to may =
          let s = may.stands in
          disk (bytes_of (rows_of s.tables)) (holds s.tables s.keeps) older_manifest (setting_of to) _
          (is-among-layers c s.tables s.keeps s.backups extent last clock within on job (full s.tables s.keeps) to first (ready-over may) (later-of m to may))
          (is-writing c s.tables s.keeps s.backups extent last clock within on job (full s.tables s.keeps) to first (ready-over may) (later-of m to may))

      -- the layer is open already
      idle : (m to : Machine) → MayStep c m (means m) to first → IsDone to first.objects → IsIdle first now
      idle m to may done =
          let s = may.stands in
          let among = is-among-layers c s.tables s.keeps s.backups extent last clock within on job (full s.tables s.keeps) to first (ready-over may) (later-of m to may) in
          idle-same first now ((writes m to may).calm (done _ among.started.among).0)

      among-of : (m to : Machine) (may : MayStep c m (means m) to first) → IsAmong (setting_of to) (objects_of may.stands.tables (layer_record (machine_of c may.stands.tables) extent))
      among-of m to may =
          let s = may.stands in
          is-among-layers c s.tables s.keeps s.backups extent last clock within on job (full s.tables s.keeps) to first (ready-over may) (later-of m to may)

      made-of : (m to : Machine) (may : MayStep c m (means m) to first) → means m ≡ answered (with_made (machine_of c may.stands.tables) clock (layer_record (machine_of c may.stands.tables) extent))
          (backup_done (layer_record (machine_of c may.stands.tables) extent) (manifest_of may.stands.tables (layer_record (machine_of c may.stands.tables) extent)))
      made-of m to may = let s = may.stands in ap means s.machine_is ∙ layer-made (machine_of c s.tables) extent last clock (full s.tables s.keeps).passed

      -- of the layers that the script makes only this one's names are put, and none of a chunk that was marked
      puts : (m to : Machine) → MayStep c m (means m) to first → ChangesOnly (MayPut (means m).machine to first.objects) (IsOwnName to.name) first now
      puts m to may =
          let s = may.stands in
          let r = layer_record (machine_of c s.tables) extent in
          let w = objects_of s.tables r in
          let among = (among-of m to may).started in
          let final = final-of c s.tables s.keeps s.backups extent last clock within on job (full s.tables s.keeps) to first (ready-over may) (later-of m to may) in
          let has : Has r (means m).machine.layers = subst (λ (x : Stepped). Has r x.machine.layers) (sym (made-of m to may)) (has-last r (map record_of c.book.layers)) in
          only_less
          (λ n at. (
            part-own (setting_of to) among.proper w among.among n at.0,
            unmarked-of-all (setting_of to) among.proper w among.among first.objects n at,
            (r, has, subst (Contains (made_layers to)) (sym final) among.among, subst (λ (x : LayerObjects). IsPartName x n) (sym final) at.0),
          ))
          (λ n never. absurd never)
          (writes m to may).changes

      -- the layers of jobs that are still to come are as they were
      ahead : (m to : Machine) → MayStep c m (means m) to first → AreAhead (means m).machine to first.objects now.objects
      ahead m to may =
          let s = may.stands in
          let r = layer_record (machine_of c s.tables) extent in
          let w = objects_of s.tables r in
          let among = (among-of m to may).started in
          let run = writes m to may in
          let number : w.name.job ≡ length c.jobs + 1 = ap (λ (n : LayerName). n.job) (objects-name s.tables r) in
          let jobs : length (means m).machine.jobs ≡ length (c.jobs ++ Backup r ∷ []) = ap (λ (x : Stepped). length x.machine.jobs) (made-of m to may) in
          let one_more = length_push c.jobs (Backup r) in
          ahead-by-one (setting_of to) among.proper w among.among (AtUnmarked w first.objects) NoName (λ n at. at.0) (λ n never. absurd never) first now may.ready.known.tells run.changes
          (length (means m).machine.jobs) (omega (arith, number, jobs, one_more))

      -- and the others keep their manifests
      manifests : (m to : Machine) → MayStep c m (means m) to first → KeepManifests (made_layers to) first.objects now.objects
      manifests m to may =
          let s = may.stands in
          let w = objects_of s.tables (layer_record (machine_of c s.tables) extent) in
          let among = (among-of m to may).started in
          let run = writes m to may in
          manifests-by-one (setting_of to) among.proper w among.among (AtUnmarked w first.objects) NoName (λ n at. at.0) (λ n never. absurd never) first now may.ready.known.tells run.changes run.keeps

      -- the disk failed, or memory was wanting
      pub memory-runs : (new : ClusterState) (r : Result Answer Halt) → IsErrAnd r (λ y. y ≡ Memory) → (m to : Machine) → MayStep c m (means m) to first → Runs new (means m) to r first now
      memory-runs new r is-err m to may = as-returned (λ (x : Result Answer Halt). Runs new (means m) to x first now) r Memory is-err (record { responds = tt; ready = tt; leaves = (writes m to may).moments; changes = puts m to may; ahead = ahead m to may; manifests = manifests m to may; idle = idle m to may })

      fault-ends : (new : ClusterState) (m to : Machine) (may : MayStep c m (means m) to first) (fault : DirFault) → IsDiskFault fault → Runs new (means m) to (Err (halt_of_dir fault)) first now
      fault-ends new m to may dir.Failed ok = record { responds = tt; ready = tt; leaves = (writes m to may).moments; changes = puts m to may; ahead = ahead m to may; manifests = manifests m to may; idle = idle m to may }
      fault-ends new m to may dir.Memory ok = record { responds = tt; ready = tt; leaves = (writes m to may).moments; changes = puts m to may; ahead = ahead m to may; manifests = manifests m to may; idle = idle m to may }
      fault-ends new m to may (dir.Damaged object wanted found) never = absurd never
      fault-ends new m to may (dir.Malformed object offset) never = absurd never
      fault-ends new m to may (dir.LayerDiffers object wanted found) never = absurd never

      pub fault-runs : (new : ClusterState) (fault : DirFault) (e : Halt) → result ≡ Err fault → (IsDiskFault fault → e ≡ halt_of_dir fault) → (m to : Machine) → MayStep c m (means m) to first → Runs new (means m) to (Err e) first now
      fault-runs new fault e is-err of-disk m to may =
          let s = may.stands in
          let ok = (subst (λ (x : Result (Unit {0}) DirFault). IfErr x IsDiskFault) is-err
          (only-disk c s.tables s.keeps s.backups extent last clock within on job (full s.tables s.keeps) to first (ready-over may) (later-of m to may) result next now (writes m to may))) in
          subst (λ (y : Halt). Runs new (means m) to (Err y) first now) (sym (of-disk ok)) (fault-ends new m to may fault ok)

      pub done-runs : (u : Unit {0}) → result ≡ Ok u → IsWhole → (new : ClusterState) → new ≡ with_backup dated next → (a : Answer) → a ≡ done_of next.name next.manifest → (m to : Machine) → MayStep c m (means m) to first → Runs new (means m) to (Ok a) first now
      done-runs u is-ok whole new is-new a is-answer m to may =
          let s = may.stands in
          let j = full s.tables s.keeps in
          let x = machine_of c s.tables in
          let run = writes m to may in
          let is-made = ap means s.machine_is ∙ layer-made x extent last clock j.passed in
          let known = still_known may.ready.known run.changes.kind in
          let stands = run.moments.each now.objects (counts first.moment now.objects known run.moments.later (as_read now)) in
          let ready = done-ready c s.tables s.keeps s.backups extent last clock within on job j to first (ready-over may) (later-of m to may) now (only_less (λ n at. at.0) (λ n never. never) run.changes)
          (subst (λ (y : Result (Unit {0}) DirFault). OnOk y (IsWritten older_manifest (objects_of s.tables (layer_record x extent)) now)) is-ok run.is_written)
          (subst (λ (y : Result (Unit {0}) DirFault). OnOk y (IsSettled now)) is-ok (run.settled may.ready.settled)) stands in
          record {
            responds = (
              subst (λ (y : Stepped). StandsFor new y.machine) (sym is-made) (subst (λ (n : ClusterState). StandsFor n (with_made x clock (layer_record x extent))) (sym is-new)
                  (made c s.tables s.keeps s.backups extent last clock within on job j next (same s.tables s.keeps) (whole-of whole s.tables s.keeps) scopes)),
              ap (λ (y : Stepped). y.response) is-made ∙ ap Response.Answered (sym (is-answer ∙ answer-is c s.tables s.keeps s.backups extent last clock within on job j next (same s.tables s.keeps) (whole-of whole s.tables s.keeps))),
            );
            ready = subst (λ (y : Stepped). IsReady (Some y.machine) (Some to) now) (sym is-made) ready;
            leaves = run.moments;
            changes = puts m to may;
            ahead = ahead m to may;
            manifests = manifests m to may;
            idle = idle m to may;
          }
