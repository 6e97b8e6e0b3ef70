-- A layer that is written over a ready disk: what the cluster and the disk are afterwards.
use Rattle.std.proofs.Common.{◌≡◌, ◌≢◌, ◌⊎◌, inl, inr, ⊎_elim, ℕ, suc, ◌<◌, ◌≤◌, true, true≢false, List, [], ◌∷◌, ◌++◌, map, length, Some, slice_get, refl, sym, ap, subst, ◌∙◌, arith, Contains, Result}
use Rattle.std.specs.Prelude.{IfErr}
use Rattle.std.proofs.lemmas.List.{map-append}
use Rattle.mvcc_keys.specs.Times.{Time, time_le, time_lt}
use Rattle.list_laws.specs.Members.{Has}
use Rattle.list_laws.proofs.Members.{has-append_cases, has-append_left, map-has}
use Rattle.mvcc_keys.proofs.TimeOrder.{le-refl, le-trans}
use Rattle.history_model.specs.Histories.{Table}
use Rattle.history_model.specs.Layers as recorded
use Rattle.outside_world.specs.Disk.{View}
use Rattle.outside_world.specs.Moments.{ChangesOnly, IsSettled, NoName}
use Rattle.outside_world.proofs.Runs.{as_read}
use Rattle.version_store.specs.Tables.{Tables}
use Rattle.table_rows.specs.RowTables.{bytes_of}
use Rattle.layer_manifest.specs.declared.manifest.Manifest.{Manifest}
use Rattle.layer_manifest.specs.ManifestFiles.{manifest_code}
use Rattle.layer_manifest.specs.Manifests.{chunk_count}
use Rattle.layer_model.specs.declared.names.LayerName.{LayerName}
use Rattle.layer_model.specs.Names.{IsLayerName}
use Rattle.layer_model.specs.Layers.{IsLayer, IsPartName, LayerObjects}
use Rattle.collection_dir.specs.declared.fault.DirFault.{DirFault}
use Rattle.collection_dir.specs.Faults.{IsDiskFault}
use Rattle.collection_dir.specs.Versions.{first_version}
use Rattle.backup_job.specs.Jobs.{IsAbout, Job, IsSameJob, MayRun, completed, written}
use Rattle.backup_job.specs.Whole.{IsAmong, IsWriting, IsWritten, RunWrites}
use Rattle.layer_objects.proofs.Counts.{bare_count}
use Rattle.layer_objects.specs.Objects.{described, manifest_of, name_of_record, objects_of, plan_of, rows_of}
use Rattle.layer_objects.specs.Past.{KeepsPast}
use Rattle.layer_objects.specs.Storable.{older_manifest}
use Rattle.layer_objects.proofs.Names.{objects-manifest, objects-name}
use Rattle.layer_objects.proofs.Writable.{first-manifest, manifests-tell}
use Rattle.machine_model.specs.Machine.{Backup, Machine, Stepped, answered}
use Rattle.machine_model.specs.Machine as machine
use Rattle.machine_model.specs.Past.{IsLater}
use Rattle.machine_model.specs.declared.extents.Extent.{Extent}
use Rattle.machine_model.specs.Backups.{backup_done, end_refusal, layer_record, plan_refusal, with_backup as with_made}
use Rattle.machine_model.specs.Disks.{IsGone, IsReady, IsThere, StandsUntil, made_layers, setting_of}
use Rattle.machine_model.proofs.DiskLaws.{ready_images}
use Rattle.machine_model.proofs.Passing.{end-after, first-passed}
use Rattle.machine_model.proofs.Settings.{is-made, settings-proper}
use Rattle.cluster_core.specs.ClusterView.{ClusterState, record_of}
use Rattle.cluster_core.specs.Standing.{AreOfOneScope, HasBackups, IsBooked, IsOwnBackup, Keeps, StandsFor, machine_of}
use Rattle.cluster_core.specs.Backing.{IsBackupJob, IsOfScopeOf, done_of, with_backup, with_job}
use Rattle.cluster_core.proofs.Kept.{keeps-as}
use Rattle.machine_model.proofs.Lists.{got-push}
use Rattle.cluster_core.proofs.Others.{IsSameOf, final, same-of-other, still-gone, still-there}

-- ---- lists

got-end : {X : Type 0} (xs ys : List X) (y : X) → slice_get ((xs ++ y ∷ []) ++ ys) (length xs) ≡ Some y
got-end [] ys y = refl
got-end (x ∷ xs) ys y = got-end xs ys y

pub has-last : {X : Type 0} (x : X) (xs : List X) → Has x (xs ++ x ∷ [])
has-last x [] = inl refl
has-last x (z ∷ zs) = inr (has-last x zs)

pub has-place : {X : Type 0} (x : X) (xs : List X) → Has x xs → (i : ℕ) × (slice_get xs i ≡ Some x) × (i < length xs)
has-place x [] h = absurd h
has-place x (z ∷ zs) (inl e) = (0, ap Some (sym e), omega arith)
has-place x (z ∷ zs) (inr more) = let p = has-place x zs more in (suc p.0, p.1, let l = p.2 in omega (arith, l))

one-only : {X : Type 0} (x y : X) → Has x (y ∷ []) → x ≡ y
one-only x y (inl e) = e
one-only x y (inr none) = absurd none

same-backup : (q r : recorded.LayerRecord) → Backup q ≡ Backup r → q ≡ r
same-backup q r e = cc e

-- ---- scopes

-- one more record, of the scope of those of its subdirectory
one-scope-more : (rs : List recorded.LayerRecord) (r : recorded.LayerRecord) → AreOfOneScope rs → ((q : recorded.LayerRecord) → Has q rs → q.collection ≡ r.collection → q.full ≡ r.full → q.scope ≡ r.scope) → AreOfOneScope (rs ++ r ∷ [])
one-scope-more rs r all its p q hp hq collection full = by (has-append_cases p rs (r ∷ []) hp) (has-append_cases q rs (r ∷ []) hq)
  where
    by : (Has p rs ⊎ Has p (r ∷ [])) → (Has q rs ⊎ Has q (r ∷ [])) → p.scope ≡ q.scope
    by (inl old) (inl also) = all p q old also collection full
    by (inl old) (inr new) = let is = one-only q r new in its p old (collection ∙ ap (λ (x : recorded.LayerRecord). x.collection) is) (full ∙ ap (λ (x : recorded.LayerRecord). x.full) is) ∙ ap (λ (x : recorded.LayerRecord). x.scope) (sym is)
    by (inr new) (inl old) = let is = one-only p r new in ap (λ (x : recorded.LayerRecord). x.scope) is ∙ sym (its q old (sym collection ∙ ap (λ (x : recorded.LayerRecord). x.collection) is) (sym full ∙ ap (λ (x : recorded.LayerRecord). x.full) is))
    by (inr new) (inr also) = ap (λ (x : recorded.LayerRecord). x.scope) (one-only p r new ∙ sym (one-only q r also))

-- ---- the cluster

-- the record that a job for this layer keeps
pub record-is : (c : ClusterState) (tables : List Table) (extent : Extent) (last : Time) (job : Job) → IsBackupJob (machine_of c tables) extent last job → (next : Job) → IsSameJob (bytes_of (rows_of tables)) job next
    → record_of (next.name, next.manifest) ≡ layer_record (machine_of c tables) extent
unfolding plan_of
record-is c tables extent last job j next same =
    let h = bytes_of (rows_of tables) in
    ap (λ (n : LayerName). record_of (n, next.manifest)) same.name
    ∙ (ap (λ (m : Manifest). record_of (job.name, m)) same.manifest ∙ ap (λ (x : Job). record_of (x.name, completed h x)) j.is)

module _ (c : ClusterState) (tables : List Table) (k : Keeps c tables) (b : HasBackups c tables) (extent : Extent) (last clock : Time) (within : time_le extent.end clock ≡ true) (on : time_le c.clock clock ≡ true)
    (job : Job) (j : IsBackupJob (machine_of c tables) extent last job) (next : Job) (same : IsSameJob (bytes_of (rows_of tables)) job next) where
  abbrev h : Tables
  h = bytes_of (rows_of tables)

  abbrev r : recorded.LayerRecord
  r = layer_record (machine_of c tables) extent

  abbrev dated : ClusterState
  dated = record c { clock = clock }

  is-record : record_of (next.name, next.manifest) ≡ r
  is-record = record-is c tables extent last job j next same

  keeps-dated : Keeps dated tables
  keeps-dated = keeps-as c dated tables k refl refl refl on

  own : IsOwnBackup (with_job dated next) tables (length c.jobs) r
  own = record { number = refl; cluster = refl; is = j.form; version = refl; over = within; few = j.may.few; listed = j.listed }

  still-own : (place : ℕ) (q : recorded.LayerRecord) → IsOwnBackup c tables place q → IsOwnBackup (with_job dated next) tables place q
  still-own place q o = record { number = o.number; cluster = o.cluster; is = o.is; version = o.version; over = le-trans q.end c.clock clock o.over on; few = o.few; listed = o.listed }

  jobs-are : (with_job dated next).jobs ≡ c.jobs ++ Backup r ∷ []
  jobs-are = ap (λ (q : recorded.LayerRecord). c.jobs ++ Backup q ∷ []) is-record

  backups : (place : ℕ) (q : recorded.LayerRecord) → slice_get (with_job dated next).jobs place ≡ Some (Backup q) → IsOwnBackup (with_job dated next) tables place q
  backups place q got = ⊎_elim
      (λ (before : slice_get c.jobs place ≡ Some (Backup q)). still-own place q (b.backups place q before))
      (λ (last : (place ≡ length c.jobs) × (Backup r ≡ Backup q)). subst (λ (i : ℕ). IsOwnBackup (with_job dated next) tables i q) (sym last.0) (subst (IsOwnBackup (with_job dated next) tables (length c.jobs)) (same-backup r q last.1) own))
      (got-push c.jobs (Backup r) place (Backup q) (ap (λ xs. slice_get xs place) (sym jobs-are) ∙ got))

  booked : (p : LayerName × Manifest) → IsBooked c.jobs tables p → IsBooked (with_job dated next).jobs tables p
  booked p o = record { among = subst (Has (Backup (record_of p))) (sym jobs-are) (has-append_left _ c.jobs _ o.among); manifest = o.manifest; chunks = o.chunks; proper = o.proper }

  -- a job that failed keeps its number
  pub failed : StandsFor (with_job dated next) (record (machine_of c tables) { clock = clock; jobs = c.jobs ++ Backup r ∷ [] })
  failed = record {
    tables = tables;
    keeps = keeps-as dated (with_job dated next) tables keeps-dated refl refl refl (le-refl clock);
    machine_is = ap (λ (xs : List machine.Job). record (machine_of c tables) { clock = clock; jobs = xs }) (sym jobs-are);
    backups = record { backups = backups; layers = λ p has. booked p (b.layers p has); scopes = b.scopes };
  }

  after : time_lt last extent.end ≡ true
  after = end-after extent.end last (first-passed (end_refusal extent.end last) (plan_refusal (machine_of c tables) extent ∷ []) j.passed).0

  module _ (whole : next.manifest ≡ completed h job) where
    manifest-is : next.manifest ≡ manifest_of tables r
    manifest-is = whole ∙ (ap (completed h) j.is ∙ j.writes.manifest)

    name-is : next.name ≡ name_of_record r
    name-is = same.name ∙ ap (λ (x : Job). x.name) j.is

    told : (next.manifest ≡ manifest_of tables r) × (chunk_count next.manifest.tables ≡ length (objects_of tables r).chunks)
    told = manifests-tell tables r next.manifest j.may (rw manifest-is j.may.proper) (ap manifest_code manifest-is ∙ sym (objects-manifest tables r))

    new-booked : IsBooked (with_job dated next).jobs tables (next.name, next.manifest)
    new-booked = record {
      among = has-last _ c.jobs;
      manifest = ap manifest_code manifest-is ∙ (sym (objects-manifest tables r) ∙ ap (λ (q : recorded.LayerRecord). (objects_of tables q).manifest) (sym is-record));
      chunks = told.1 ∙ ap (λ (q : recorded.LayerRecord). length (objects_of tables q).chunks) (sym is-record);
      proper = rw manifest-is j.may.proper;
    }

    layers : (p : LayerName × Manifest) → Has p (with_backup dated next).book.layers → IsBooked (with_job dated next).jobs tables p
    layers p has = ⊎_elim (λ (old : Has p c.book.layers). booked p (b.layers p old)) (λ (new : Has p ((next.name, next.manifest) ∷ [])). subst (IsBooked (with_job dated next).jobs tables) (sym (one-only p _ new)) new-booked) (has-append_cases p c.book.layers _ has)

    -- the own layers of the subdirectory have its scope, and so has it
    all-scopes : (time_lt last extent.end ≡ true → IsOfScopeOf c.book extent) → AreOfOneScope (map record_of (with_backup dated next).book.layers)
    all-scopes scopes = subst AreOfOneScope (sym (map-append record_of c.book.layers _ ∙ ap (λ (q : recorded.LayerRecord). map record_of c.book.layers ++ q ∷ []) is-record)) (one-scope-more (map record_of c.book.layers) r b.scopes (scopes after))

    machine-is : with_made (machine_of c tables) clock r ≡ machine_of (with_backup dated next) tables
    machine-is =
        ap (λ (q : recorded.LayerRecord). record (machine_of c tables) { clock = clock; layers = map record_of c.book.layers ++ q ∷ []; jobs = c.jobs ++ Backup q ∷ [] }) (sym is-record)
        ∙ ap (λ (qs : List recorded.LayerRecord). record (machine_of c tables) { clock = clock; layers = qs; jobs = c.jobs ++ Backup (record_of (next.name, next.manifest)) ∷ [] }) (sym (map-append record_of c.book.layers _))

    -- a job that is done adds its layer
    pub made : (time_lt last extent.end ≡ true → IsOfScopeOf c.book extent) → StandsFor (with_backup dated next) (with_made (machine_of c tables) clock r)
    made scopes = record {
      tables = tables;
      keeps = keeps-as dated (with_backup dated next) tables keeps-dated refl refl refl (le-refl clock);
      machine_is = machine-is;
      backups = record { backups = λ place q got. (let o = backups place q got in record { number = o.number; cluster = o.cluster; is = o.is; version = o.version; over = o.over; few = o.few; listed = o.listed }); layers = layers; scopes = all-scopes scopes };
    }

    pub answer-is : done_of next.name next.manifest ≡ backup_done r (manifest_of tables r)
    answer-is = ap (λ (n : LayerName). done_of n next.manifest) name-is ∙ ap (done_of (name_of_record r)) manifest-is

    pub few : chunk_count next.manifest.tables ≤ 1000000
    few = let n = told.1 in let l = j.may.few.few in omega (arith, n, l)

-- ---- the disk

-- what holds of the layer of a backup over later tables
pub record IsPast (tables new : List Table) (q : recorded.LayerRecord) : Type 0 where
  pub final_is : objects_of new q ≡ objects_of tables q
  pub few : IsLayer (objects_of new q)
  pub named : IsLayerName (objects_of new q).name
  pub number : (objects_of new q).name.job ≡ q.job

pub past : (tables new : List Table) (q : recorded.LayerRecord) → objects_of new q ≡ objects_of tables q → IsLayer (objects_of tables q) → IsLayerName (name_of_record q) → IsPast tables new q
past tables new q is few named = record {
  final_is = is;
  few = subst IsLayer (sym is) few;
  named = subst IsLayerName (sym (objects-name new q)) named;
  number = ap (λ (n : LayerName). n.job) (objects-name new q);
}

-- the backups of a cluster on its way to an end
pub past-backup : (c : ClusterState) (tables new : List Table) (t : Time) → Keeps c tables → KeepsPast t tables new → time_le c.clock t ≡ true → (place : ℕ) (q : recorded.LayerRecord) → IsOwnBackup c tables place q → IsPast tables new q
past-backup c tables new t k kept on place q o = past tables new q (final c tables new t q k kept o.is (le-trans q.end c.clock t o.over on)) o.few o.is.name

-- where only names of one layer changed, those of a backup of another number are as before
pub same-backups : (tables new : List Table) (q : recorded.LayerRecord) (w : LayerObjects) (a b : View) (P R : List ℕ → Type 0) → IsPast tables new q → ((n : List ℕ) → P n → IsPartName w n) → ((n : List ℕ) → R n → IsPartName w n) → ChangesOnly P R a b
    → a.tells ≡ true → IsLayer w → IsLayerName w.name → q.job ≢ w.name.job → IsSameOf (objects_of new q) a.objects b.objects
same-backups tables new q w a b P R p puts removals changes tells few named other =
    same-of-other (objects_of new q) w a b P R puts removals changes tells p.few few p.named named (λ e. other (sym p.number ∙ ap (λ (n : LayerName). n.job) e))

-- the place of an own layer's backup
pub own-place : (c : ClusterState) (tables : List Table) → HasBackups c tables → (q : recorded.LayerRecord) → Has q (map record_of c.book.layers) → (place : ℕ) × (slice_get c.jobs place ≡ Some (Backup q)) × (place < length c.jobs)
own-place c tables b q has =
    let m = map-has record_of q c.book.layers has in
    let p = has-place (Backup (record_of m.0)) c.jobs (b.layers m.0 m.1).among in
    (p.0, p.1 ∙ ap (λ (x : recorded.LayerRecord). Some (Backup x)) (sym m.2), p.2)

module _ (c : ClusterState) (tables : List Table) (k : Keeps c tables) (b : HasBackups c tables) (extent : Extent) (last clock : Time) (within : time_le extent.end clock ≡ true) (on : time_le c.clock clock ≡ true)
    (job : Job) (j : IsBackupJob (machine_of c tables) extent last job) (to : Machine) (first : View) (ready : IsReady (Some (machine_of c tables)) (Some to) first)
    (later : IsLater (with_made (machine_of c tables) clock (layer_record (machine_of c tables) extent)) to) where
  abbrev store : Tables
  store = bytes_of (rows_of tables)

  abbrev made-record : recorded.LayerRecord
  made-record = layer_record (machine_of c tables) extent

  abbrev new-layer : LayerObjects
  new-layer = objects_of tables made-record

  new-past : IsPast tables to.history.tables made-record
  new-past = past tables to.history.tables made-record (final c tables to.history.tables clock made-record k later.tables j.form within) j.may.few j.form.name

  got-new : slice_get to.jobs (length c.jobs) ≡ Some (Backup made-record)
  got-new = ap (λ xs. slice_get xs (length c.jobs)) later.jobs ∙ got-end c.jobs later.more (Backup made-record)

  is-started : Contains (made_layers to) new-layer
  is-started = subst (Contains (made_layers to)) new-past.final_is (is-made to (length c.jobs) made-record got-new (record {
    name = new-past.named;
    own = ap (λ (n : LayerName). n.cluster) (objects-name to.history.tables made-record) ∙ sym later.name;
    number = (let n = new-past.number in omega (arith, n));
    few = new-past.few.few;
  }))

  none-written : written job ≡ 0
  none-written = ap written j.is ∙ bare_count (described tables) extent.history (plan_of tables made-record).floor extent.end (plan_of tables made-record).tables

  -- its layer over the tables at the end
  pub final-of : objects_of to.history.tables made-record ≡ new-layer
  final-of = new-past.final_is

  pub is-among-layers : IsAmong (setting_of to) new-layer
  is-among-layers = record { started = record { proper = settings-proper to; among = is-started }; finished = is-started }

  pub is-writing : IsWriting older_manifest (setting_of to) new-layer store job first
  is-writing = record {
    known = ready.known;
    may = subst (MayRun store) (sym j.is) j.writes.may;
    about = subst (λ (x : Job). IsAbout store x new-layer) (sym j.is) j.writes.about;
    stands = ready_images (Some (machine_of c tables)) (Some to) first ready;
    gate = ready.settled _;
    ahead = λ i le lt. ready.settled _;
    chunks = λ i less. absurd (let z = none-written in omega (arith, less, z));
    marks = λ i less. absurd (let z = none-written in omega (arith, less, z));
    calm = record { marks = λ n touched. absurd (true≢false (sym touched ∙ ready.settled n)); shut = λ is_open n is_part. ready.settled n };
  }

  pub only-disk : {T : Type 0} (result : Result T DirFault) (next : Job) (now : View) → RunWrites older_manifest (setting_of to) new-layer (completed store job) result next first now → IfErr result IsDiskFault
  only-disk result next now runs = runs.fault (j.may.older ∙ (first-manifest tables made-record ∙ ap (λ (m : Manifest). manifest_code (first_version m)) (sym (ap (completed store) j.is ∙ j.writes.manifest))))

  module _ (now : View) (changes : ChangesOnly (IsPartName new-layer) NoName first now) where
    other-same : (place : ℕ) (q : recorded.LayerRecord) → slice_get c.jobs place ≡ Some (Backup q) → place < length c.jobs → IsSameOf (objects_of to.history.tables q) first.objects now.objects
    other-same place q got lt =
        let o = b.backups place q got in
        let n = o.number in
        let m = ap (λ (x : LayerName). x.job) (objects-name tables made-record) in
        same-backups tables to.history.tables q new-layer first now (IsPartName new-layer) NoName (past-backup c tables to.history.tables clock k later.tables on place q o) (λ x p. p) (λ x no. absurd no) changes ready.known.tells j.may.few
        (subst IsLayerName (sym (objects-name tables made-record)) j.form.name) (λ e. omega (arith, n, m, e, lt))

    pub done-ready : IsWritten older_manifest new-layer now → IsSettled now → StandsUntil (Some to) now.objects → IsReady (Some (with_made (machine_of c tables) clock made-record)) (Some to) now
    done-ready done settled stands = record { known = done.known; settled = settled; stands = stands; kept = record { there = there; gone = gone } }
      where
        new-there : IsThere (objects_of to.history.tables made-record) now.objects
        new-there = subst (λ (x : LayerObjects). IsThere x now.objects) (sym new-past.final_is) (done.whole now.objects (as_read now))

        there : (q : recorded.LayerRecord) → Has q (map record_of c.book.layers ++ made-record ∷ []) → IsThere (objects_of to.history.tables q) now.objects
        there q has = ⊎_elim
            (λ (old : Has q (map record_of c.book.layers)). let p = own-place c tables b q old in still-there (objects_of to.history.tables q) first.objects now.objects (other-same p.0 q p.1 p.2) (ready.kept.there q old))
            (λ (new : Has q (made-record ∷ [])). subst (λ (x : recorded.LayerRecord). IsThere (objects_of to.history.tables x) now.objects) (sym (one-only q made-record new)) new-there)
            (has-append_cases q (map record_of c.book.layers) (made-record ∷ []) has)

        gone : (q : recorded.LayerRecord) → Has (Backup q) (c.jobs ++ Backup made-record ∷ []) → Has q (map record_of c.book.layers ++ made-record ∷ []) ⊎ IsGone (objects_of to.history.tables q) now.objects
        gone q has = ⊎_elim
            (λ (old : Has (Backup q) c.jobs). ⊎_elim
            (λ (own : Has q (map record_of c.book.layers)). inl (has-append_left q (map record_of c.book.layers) (made-record ∷ []) own))
            (λ (was : IsGone (objects_of to.history.tables q) first.objects). inr (let p = has-place (Backup q) c.jobs old in still-gone (objects_of to.history.tables q) first.objects now.objects (other-same p.0 q p.1 p.2) was))
            (ready.kept.gone q old))
            (λ (new : Has (Backup q) (Backup made-record ∷ [])). inl (subst (λ (x : recorded.LayerRecord). Has x (map record_of c.book.layers ++ made-record ∷ [])) (sym (same-backup q made-record (one-only (Backup q) (Backup made-record) new))) (has-last made-record (map record_of c.book.layers))))
            (has-append_cases (Backup q) c.jobs (Backup made-record ∷ []) has)
