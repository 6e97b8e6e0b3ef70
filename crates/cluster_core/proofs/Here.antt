-- Commands that have nothing to do with the disk: they leave the layers and the jobs, and the disk stays ready.
use Rattle.std.proofs.Common.{◌≡◌, ◌⊎◌, ℕ, Bool, true, arith, List, map, length, Some, slice_get, refl, sym, ap, subst, ◌∙◌, Result, Ok, Err, IfErr}
use Rattle.std.specs.List.{AllByRecursion}
use Rattle.mvcc_keys.specs.Times.{time_le}
use Rattle.list_laws.specs.Members.{Has}
use Rattle.mvcc_keys.proofs.TimeOrder.{le-refl, le-trans}
use Rattle.history_model.specs.Histories.{Table}
use Rattle.history_model.specs.Layers.{LayerRecord}
use Rattle.outside_world.specs.Disk.{View, IsImage, IsKnown}
use Rattle.outside_world.specs.Objects.{Objects}
use Rattle.outside_world.proofs.Runs.{only_none}
use Rattle.collection_dir.proofs.StandsLaws.{manifests-same}
use Rattle.layer_manifest.specs.declared.manifest.Manifest.{Manifest}
use Rattle.layer_manifest.specs.declared.manifest.TablePart.{TablePart}
use Rattle.layer_model.specs.declared.names.LayerName.{LayerName}
use Rattle.layer_model.specs.Layers as stored
use Rattle.layer_book.specs.Books.{Book}
use Rattle.layer_objects.specs.Objects.{objects_of}
use Rattle.layer_objects.specs.Past.{KeepsPast}
use Rattle.layer_objects.specs.Storable.{AreListable}
use Rattle.reply_texts.specs.declared.answers.Answer.{Answer}
use Rattle.machine_model.specs.Machine.{Backup, Job, Machine, Stepped, refused}
use Rattle.machine_model.specs.Past.{IsLater}
use Rattle.machine_model.specs.Disks.{IsGone, IsReady, made_layers}
use Rattle.machine_model.proofs.DiskLaws.{ready_leaves}
use Rattle.cluster_core.specs.declared.halts.Halt.{Halt}
use Rattle.cluster_core.specs.declared.halts.Halt.TheVariants.{Refused, Disk, Memory}
use Rattle.cluster_core.specs.ClusterView.{ClusterState, record_of}
use Rattle.cluster_core.specs.Standing.{AreOfOneScope, Does, HaltHasCause, HasBackups, HasTables, IsBooked, IsOwnBackup, Keeps, LeavesRest, MayStep, Runs, StandsFor, machine_of}
use Rattle.cluster_core.specs.Backing.{StandsStill}
use Rattle.cluster_core.proofs.BackingUp.{halted-runs, idle-none}
use Rattle.cluster_core.proofs.Flow.{same-refused}
use Rattle.cluster_core.proofs.Kept.{keeps-as}
use Rattle.cluster_core.proofs.Others.{final, final-bare}
use Rattle.cluster_core.proofs.Storing.{has-place}

-- ---- the backups

-- backups are the same over later tables
pub kept-backups : (old new : ClusterState) (tables later : List Table) → Keeps old tables → HasBackups old tables → KeepsPast old.clock tables later → time_le old.clock new.clock ≡ true → new.name ≡ old.name → new.jobs ≡ old.jobs → new.book ≡ old.book → HasBackups new later
kept-backups old new tables later k b past le name jobs book = record {
  backups = λ place r got. (let o = b.backups place r (subst (λ (js : List Job). slice_get js place ≡ Some (Backup r)) jobs got) in let is = same r o in
      record {
        number = o.number;
        cluster = o.cluster ∙ sym name;
        is = o.is;
        version = o.version;
        over = le-trans r.end old.clock new.clock o.over le;
        few = subst stored.IsLayer (sym is) o.few;
        listed = subst (λ (m : Manifest). AllByRecursion (λ (t : TablePart). AreListable t.descriptors) m.tables) (sym (final-bare old tables later old.clock r k past o.is o.over)) o.listed;
      });
  layers = λ p has. (let o = b.layers p (subst (λ (x : Book). Has p x.layers) book has) in let is = booked p o in
      record { among = subst (Has (Backup (record_of p))) (sym jobs) o.among; manifest = o.manifest ∙ ap (λ (w : stored.LayerObjects). w.manifest) (sym is); chunks = o.chunks ∙ ap (λ (w : stored.LayerObjects). length w.chunks) (sym is); proper = o.proper });
  scopes = subst (λ (x : Book). AreOfOneScope (map record_of x.layers)) (sym book) b.scopes;
}
  where
    same : {place : ℕ} (r : LayerRecord) → IsOwnBackup old tables place r → objects_of later r ≡ objects_of tables r
    same r o = final old tables later old.clock r k past o.is o.over

    booked : (p : LayerName × Manifest) → IsBooked old.jobs tables p → objects_of later (record_of p) ≡ objects_of tables (record_of p)
    booked p o = let at = has-place (Backup (record_of p)) old.jobs o.among in same (record_of p) (b.backups at.0 (record_of p) at.1)

-- counting commands, and whether one ended the cluster, changes nothing of what it stands for
pub recounted : (c : ClusterState) (steps : ℕ) (ended : Bool) (m : Machine) → StandsFor c m → StandsFor (record c { steps = steps; ended = ended }) m
recounted c steps ended m s = record {
  tables = s.tables;
  keeps = keeps-as c (record c { steps = steps; ended = ended }) s.tables s.keeps refl refl refl (le-refl c.clock);
  machine_is = s.machine_is;
  backups = record {
    backups = λ place r got. (let o = s.backups.backups place r got in record { number = o.number; cluster = o.cluster; is = o.is; version = o.version; over = o.over; few = o.few; listed = o.listed });
    layers = s.backups.layers;
    scopes = s.backups.scopes;
  };
}

-- ---- the command

module _ (old new : ClusterState) (meaning : Machine → Stepped) (later : (m : Machine) → IsLater m (meaning m).machine) (rest : LeavesRest old new) where
  stands-after : (tables : List Table) → Keeps old tables → HasBackups old tables → HasTables new (meaning (machine_of old tables)).machine → StandsFor new (meaning (machine_of old tables)).machine
  stands-after tables k b h =
      let l = subst (IsLater (machine_of old tables)) h.machine_is (later (machine_of old tables)) in
      record { tables = h.tables; keeps = h.keeps; machine_is = h.machine_is; backups = kept-backups old new tables h.tables k b l.tables l.clock l.name rest.jobs rest.book }

  -- the machine after a command for which the cluster stands
  stands-then : (m : Machine) (s : StandsFor old m) → HasTables new (meaning (machine_of old s.tables)).machine → StandsFor new (meaning m).machine
  stands-then m s h = subst (λ (x : Machine). StandsFor new (meaning x).machine) (sym s.machine_is) (stands-after s.tables s.keeps s.backups h)

  ready-then : (m to : Machine) (v : View) → StandsFor old m → StandsFor new (meaning m).machine → IsReady (Some m) (Some to) v → IsReady (Some (meaning m).machine) (Some to) v
  ready-then m to v s t ready =
      let layers : (meaning m).machine.layers ≡ m.layers = ap (λ (x : Machine). x.layers) t.machine_is ∙ (ap (λ (b : Book). map record_of b.layers) rest.book ∙ sym (ap (λ (x : Machine). x.layers) s.machine_is)) in
      let jobs : (meaning m).machine.jobs ≡ m.jobs = ap (λ (x : Machine). x.jobs) t.machine_is ∙ (rest.jobs ∙ sym (ap (λ (x : Machine). x.jobs) s.machine_is)) in
      record {
        known = ready.known;
        settled = ready.settled;
        stands = ready.stands;
        kept = record {
          there = λ r has. ready.kept.there r (subst (Has r) layers has);
          gone = λ r has. subst (λ (ls : List LayerRecord). Has r ls ⊎ IsGone (objects_of to.history.tables r) v.objects) (sym layers) (ready.kept.gone r (subst (Has (Backup r)) jobs has));
        };
      }

  pub here-runs : (r : Result Answer Halt) → Does old new meaning r → (v : View) → (IsKnown v → (image : Objects) → v.left_since v.moment image → IsImage v image) → (m to : Machine) → MayStep old m (meaning m) to v → Runs new (meaning m) to r v v
  here-runs (Ok answer) does v only m to may =
      let s = may.stands in
      let done = does s.tables s.keeps in
      let t = stands-then m s done.stands in
      record {
        responds = (t, sym (done.response_is ∙ ap (λ (x : Machine). (meaning x).response) (sym s.machine_is)));
        ready = ready-then m to v s t may.ready;
        leaves = ready_leaves (Some m) (Some to) v only may.ready;
        changes = only_none v;
        ahead = λ w among later n is. refl;
        manifests = manifests-same (made_layers to) v.objects v.objects refl;
        idle = λ done. idle-none v;
      }
  here-runs (Err (Refused refusal)) does v only m to may =
      let s = may.stands in
      let is : meaning m ≡ refused m refusal = subst (λ (x : Machine). meaning x ≡ refused x refusal) (sym s.machine_is) (does.1 s.tables s.keeps) in
      subst (λ (c : ClusterState). Runs c (meaning m) to (Err (Refused refusal)) v v) (sym does.0) (halted-runs old m (meaning m) to v (Refused refusal) (Some refusal) refl (λ other e. is ∙ same-refused m refusal other e) only s may.ready)
  here-runs (Err Disk) does v only m to may = absurd does
  here-runs (Err Memory) does v only m to may = record { responds = tt; ready = tt; leaves = ready_leaves (Some m) (Some to) v only may.ready; changes = only_none v; ahead = λ w among later n is. refl; manifests = manifests-same (made_layers to) v.objects v.objects refl; idle = λ done. idle-none v }

  pub here-still : (r : Result Answer Halt) → Does old new meaning r → (m : Machine) × StandsFor old m → StandsStill r new
  here-still (Ok answer) does x = ((meaning x.0).machine, stands-then x.0 x.1 (does x.1.tables x.1.keeps).stands)
  here-still (Err (Refused refusal)) does x = (x.0, subst (λ (c : ClusterState). StandsFor c x.0) (sym does.0) x.1)
  here-still (Err Disk) does x = absurd does
  here-still (Err Memory) does x = tt

  -- nothing here calls the disk
  pub here-cause : (r : Result Answer Halt) → Does old new meaning r → (faults : ℕ) → HaltHasCause {T = Answer} faults faults r
  here-cause (Ok answer) does faults = record { later = omega arith; capped = λ le. le; counts = refl }
  here-cause (Err (Refused refusal)) does faults = record { later = omega arith; capped = λ le. le; counts = refl }
  here-cause (Err Disk) does faults = absurd does
  here-cause (Err Memory) does faults = record { later = omega arith; capped = λ le. le; counts = refl }

  -- and so no halt here is a fault of it
  pub here-halts : (X : Type 0) (r : Result Answer Halt) → Does old new meaning r → IfErr r (λ e. e ≡ Disk → X)
  here-halts X (Ok answer) does = tt
  here-halts X (Err (Refused refusal)) does = λ no. absurd (cc no)
  here-halts X (Err Disk) does = absurd does
  here-halts X (Err Memory) does = λ no. absurd (cc no)
