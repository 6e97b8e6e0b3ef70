-- The tests of BACKUP, and the job of a layer.
use Rattle.std.proofs.Common.{◌≡◌, inr, ⊎_elim, ℕ, ◌+◌, ◌-◌, ◌<◌, ◌≤◌, ◌^◌, nat_lt, Bool, true, false, true≢false, List, [], ◌∷◌, map, length, slice_get, option_map, unwrap_or, Option, Some, None, refl, sym, ap, subst, ◌∙◌, arith, Result, Err, IsErrAnd}
use Rattle.std.specs.Prelude.{IfErr, if◌then◌else◌, option_and_then}
use Rattle.std.specs.List.{AllByRecursion}
use Rattle.std.proofs.lemmas.List.{length-map}
use Rattle.std.proofs.lemmas.Option.{slice_get-map}
use Rattle.std.proofs.lemmas.Result.{err_from_is_err_and}
use Rattle.mvcc_keys.specs.Times.{IsTime, Time, time_le, time_lt, zero_time}
use Rattle.table_descriptors.specs.declared.scopes.Scope.{Scope}
use Rattle.table_descriptors.specs.Descriptors.{IsProperSchema, Schema}
use Rattle.list_laws.specs.Members.{Has}
use Rattle.mvcc_keys.proofs.TimeOrder.{le-lt-lt, le-refl, le-trans, lt-le}
use Rattle.history_model.specs.Rows.{RowFact}
use Rattle.history_model.specs.Histories.{Table, schemas_of}
use Rattle.history_model.specs.Layers.{LayerRecord}
use Rattle.schema_catalog.specs.Catalogs.{Schemas}
use Rattle.row_codec.specs.declared.rows.Kind.{Kind}
use Rattle.table_rows.specs.RowTables.{IsRowFact}
use Rattle.introduced_spans.specs.declared.plans.LayerPlan.{LayerPlan}
use Rattle.introduced_spans.specs.declared.plans.PlanFault.{PlanFault}
use Rattle.introduced_spans.specs.declared.plans.PlanFault.TheVariants as plan
use Rattle.introduced_spans.specs.declared.plans.TablePlan.{TablePlan}
use Rattle.introduced_spans.specs.Spans.{FaultIs, descriptors_of, floor_of, layer_plan, plan_fault, span_of}
use Rattle.layer_manifest.specs.declared.manifest.TablePart.{TablePart}
use Rattle.layer_model.specs.declared.names.LayerName.{LayerName}
use Rattle.layer_model.specs.Names.{IsLayerName}
use Rattle.backup_job.specs.Jobs.{Job, started}
use Rattle.layer_objects.specs.Contents.{part_of}
use Rattle.layer_objects.specs.Objects.{bare, by_id, described, name_of_record, plan_of, table_facts, table_kinds, table_threshold}
use Rattle.backup_job.specs.Jobs.{IsStillKept}
use Rattle.backup_job.specs.Records.{job_of}
use Rattle.backup_job.proofs.Going.{jobs-write}
use Rattle.introduced_spans.specs.PlanLaws.{IsKept}
use Rattle.introduced_spans.proofs.Standing.{plan-stands}
use Rattle.list_laws.proofs.Members.{all-weaker}
use Rattle.table_rows.specs.RowTables.{bytes_of}
use Rattle.layer_objects.specs.Objects.{rows_of}
use Rattle.layer_objects.specs.Storable.{AreListable, AreStorable, IsRecord}
use Rattle.layer_objects.proofs.Listing.{listed-has}
use Rattle.layer_objects.proofs.Writable.{layers-written}
use Rattle.layer_book.specs.Books.{name_in}
use Rattle.layer_book.specs.Subdirectories.{last_full_of}
use Rattle.layer_book.proofs.Carried.{last_full_map}
use Rattle.reply_texts.specs.declared.refusals.Refusal.{Refusal}
use Rattle.machine_model.specs.Machine.{first_refusal}
use Rattle.machine_model.specs.Machine.{Machine}
use Rattle.machine_model.specs.declared.extents.Extent.{Extent}
use Rattle.machine_model.specs.Backups.{end_refusal, floor_over, last_full, layer_record, plan_refusal, refusal_of_plan, thresholds}
use Rattle.machine_model.proofs.Passing.{end-after, first-passed, floor-from, floor-within}
use Rattle.cluster_core.specs.declared.halts.Halt.{Halt}
use Rattle.cluster_core.specs.declared.halts.Halt.TheVariants.{Refused, Disk, Memory}
use Rattle.cluster_core.specs.ClusterView.{ClusterState, record_of}
use Rattle.cluster_core.specs.Halting.{halt_of}
use Rattle.cluster_core.specs.Standing.{Keeps, RefusedBy, machine_of}
use Rattle.cluster_core.specs.Backing.{IsBackupJob, IsNext, layer_refusal}
use Rattle.cluster_core.proofs.Tables.{by_id-at}

-- ---- tests

pub if-err : {T : Type 0} (P : Halt → Type 0) (r : Result T Halt) (e : Halt) → IsErrAnd r (λ y. y ≡ e) → P e → IfErr r P
if-err P r e is p = let q = err_from_is_err_and r is in subst (λ (x : Result _ Halt). IfErr x P) (sym (q.1 ∙ ap Err q.2)) p

pub first-refused : (e : Halt) (test : Option Refusal) (tests : List (Option Refusal)) → RefusedBy e test → RefusedBy e (first_refusal (test ∷ tests))
first-refused (Refused refusal) test tests is = rw is refl
first-refused Disk test tests is = is
first-refused Memory test tests is = tt

pub then-refused : (e : Halt) (passed test : Option Refusal) → passed ≡ None → RefusedBy e test → RefusedBy e (first_refusal (passed ∷ test ∷ []))
then-refused e passed test none is = rw none (first-refused e test [] is)

pub both-passed : (a b : Option Refusal) → a ≡ None → b ≡ None → first_refusal (a ∷ b ∷ []) ≡ None
both-passed a b x y = rw (x, y) refl

-- ---- the end

-- the last full backup of the book is that of the machine
pub last-is : (c : ClusterState) (tables : List Table) (collection : List ℕ) → last_full (machine_of c tables) collection ≡ last_full_of name_in collection c.book.layers
last-is c tables collection = last_full_map record_of name_of_record collection c.book.layers

-- ---- the plan

by_plan : (e : PlanFault) (fault : Option PlanFault) → FaultIs e fault → RefusedBy (halt_of (refusal_of_plan e)) (option_and_then refusal_of_plan fault)
by_plan (plan.StartCollected table at start) fault p = ap (option_and_then refusal_of_plan) p
by_plan (plan.Collected table at) fault p = ap (option_and_then refusal_of_plan) p
by_plan plan.Memory fault p = tt

module _ (c : ClusterState) (tables : List Table) (k : Keeps c tables) (x : Extent) (threshold : ℕ → Time) (are : threshold ≡ by_id zero_time table_threshold tables) where
  pub fault-is : plan_fault (schemas_of tables) x.scope x.start x.end x.history (by_id zero_time table_threshold tables) ≡ plan_fault c.schemas.tables x.scope x.start x.end x.history threshold
  fault-is = ap (λ (ts : List (List Schema)). plan_fault ts x.scope x.start x.end x.history (by_id zero_time table_threshold tables)) k.schemas ∙ ap (plan_fault c.schemas.tables x.scope x.start x.end x.history) (sym are)

  pub plan-refused : (e : PlanFault) → FaultIs e (plan_fault c.schemas.tables x.scope x.start x.end x.history threshold) → RefusedBy (halt_of (refusal_of_plan e)) (plan_refusal (machine_of c tables) x)
  plan-refused e is = by_plan e _ (subst (FaultIs e) (sym fault-is) is)

  pub plan-allowed : plan_fault c.schemas.tables x.scope x.start x.end x.history threshold ≡ None → plan_refusal (machine_of c tables) x ≡ None
  plan-allowed none = ap (option_and_then refusal_of_plan) (fault-is ∙ none)

  pub plan-is : layer_plan c.schemas.tables x.scope x.start x.end x.history threshold ≡ plan_of tables (layer_record (machine_of c tables) x)
  unfolding layer_plan span_of plan_of
  plan-is = ap (layer_plan c.schemas.tables x.scope x.start x.end x.history) are ∙ ap (λ (ts : List (List Schema)). layer_plan ts x.scope x.start x.end x.history (by_id zero_time table_threshold tables)) (sym k.schemas)

-- ---- the job

-- what a manifest has before its chunks are written depends on the descriptors alone
started-same : (s : Schemas) (tables : List (List Schema)) (n : LayerName) (history : Bool) (scope : Scope) (p : LayerPlan) → tables ≡ s.tables
    → started n history scope p s ≡ started n history scope p (record { databases = []; tables = tables; limit = 0 })
started-same s tables n history scope p is = ap (λ (ts : List (List Schema)). started n history scope p (record { databases = []; tables = ts; limit = 0 })) (sym is)

pub storable : (c : ClusterState) (tables : List Table) → Keeps c tables → AreStorable tables
storable c tables k i table got =
    let o = k.orderly i table got in
    let kinds : by_id [] table_kinds tables (100 + i) ≡ table_kinds table = by_id-at [] table_kinds tables i table got in
    let facts : by_id [] table_facts tables (100 + i) ≡ table.facts = by_id-at [] table_facts tables i table got in
    record {
      id_is = o.id_is;
      facts = λ f has. (subst (λ (ks : List Kind). IsRowFact ks f) kinds (k.rows.rows (100 + i) f (subst (λ (fs : List RowFact). Has f fs) (sym facts) has)), o.sized f has);
      schemas = λ d has. (let own = o.schemas d has in (own.id_is, own.kinds_are));
      ascend = o.ascend;
    }

-- where no test refuses a layer, what its plan exports is still kept
kept-plan : (c : ClusterState) (tables : List Table) (x : Extent) → plan_fault (schemas_of tables) x.scope x.start x.end x.history (by_id zero_time table_threshold tables) ≡ None
    → AllByRecursion (IsStillKept (bytes_of (rows_of tables))) (plan_of tables (layer_record (machine_of c tables) x)).tables
unfolding layer_plan span_of plan_of
kept-plan c tables x allowed =
    let threshold = by_id zero_time table_threshold tables in
    all-weaker (IsKept threshold) (IsStillKept (bytes_of (rows_of tables))) (λ t is. is.export) _ ((plan-stands (schemas_of tables) x.scope x.start x.end x.history threshold).kept allowed)

-- ---- the record

no-history : (tables : List (List Schema)) (scope : Scope) (start end : Time) (threshold : ℕ → Time) (history : Bool) → history ≡ false → floor_of tables scope start end history threshold ≡ start
no-history tables scope start end threshold true plain = absurd (true≢false plain)
no-history tables scope start end threshold false plain = refl

-- the record of a layer that no test refuses is one of a layer
pub layer-form : (m : Machine) (x : Extent) (last : Time) → IsNext x last → layer_refusal m x last ≡ None → IsLayerName (name_of_record (layer_record m x)) → IsTime (floor_over m x) → IsRecord (layer_record m x)
layer-form m x last next passed name floor =
    let first = first-passed (end_refusal x.end last) (plan_refusal m x ∷ []) passed in
    let second = first-passed (plan_refusal m x) [] first.1 in
    let after : time_lt last x.end ≡ true = end-after x.end last first.0 in
    record {
      name = name;
      from_one = omega arith;
      ends = le-lt-lt x.start last x.end next.from after;
      full = ⊎_elim (λ (same : x.full ≡ x.end). ap (λ (t : Time). time_le t x.end) same ∙ le-refl x.end) (λ (before : time_le x.full last ≡ true). le-trans x.full last x.end before (lt-le last x.end after)) next.full;
      floor = floor;
      from = floor-from m x;
      upto = floor-within m x last next.from first.0 second.0;
      bare = no-history (schemas_of m.history.tables) x.scope x.start x.end (thresholds m) x.history;
      scope = next.scope;
      version = inr refl;
    }

-- ---- descriptors

unfoldable pub AreProper : TablePart → Type 0
AreProper t = AllByRecursion IsProperSchema t.descriptors

unfoldable pub AreFew : TablePart → Type 0
AreFew t = length t.descriptors < 2 ^ 64

-- the descriptors of a table have the same key columns
keyed-at : (c : ClusterState) (tables : List Table) → Keeps c tables → (id : ℕ) (d e : Schema) → Has d (descriptors_of (schemas_of tables) id) → Has e (descriptors_of (schemas_of tables) id) → d.key_columns ≡ e.key_columns
keyed-at c tables k id d e = by (nat_lt id 100) (slice_get tables (id - 100)) refl (slice_get-map (λ (t : Table). t.descriptors) tables (id - 100))
  where
    by : (early : Bool) (o : Option Table) → slice_get tables (id - 100) ≡ o → slice_get (schemas_of tables) (id - 100) ≡ option_map (λ (t : Table). t.descriptors) (slice_get tables (id - 100))
        → Has d (if early then [] else unwrap_or (slice_get (schemas_of tables) (id - 100)) []) → Has e (if early then [] else unwrap_or (slice_get (schemas_of tables) (id - 100)) []) → d.key_columns ≡ e.key_columns
    by true o got mapped hd he = absurd hd
    by false None got mapped hd he = absurd (let none : slice_get (schemas_of tables) (id - 100) ≡ None = mapped ∙ ap (option_map (λ (t : Table). t.descriptors)) got in let no : Has d (unwrap_or None []) = subst (λ (r : Option (List Schema)). Has d (unwrap_or r [])) none hd in no)
    by false (Some table) got mapped hd he =
        let some : slice_get (schemas_of tables) (id - 100) ≡ Some table.descriptors = mapped ∙ ap (option_map (λ (t : Table). t.descriptors)) got in
        (k.orderly (id - 100) table got).keyed d e (subst (λ (r : Option (List Schema)). Has d (unwrap_or r [])) some hd) (subst (λ (r : Option (List Schema)). Has e (unwrap_or r [])) some he)

parts-listable : (c : ClusterState) (tables : List Table) → Keeps c tables → (r : LayerRecord) → (ps : List TablePlan)
    → AllByRecursion AreProper (map (part_of (described tables) r.history (plan_of tables r).floor r.end) ps) → AllByRecursion AreFew (map (part_of (described tables) r.history (plan_of tables r).floor r.end) ps)
    → AllByRecursion (λ (t : TablePart). AreListable t.descriptors) (map (part_of (described tables) r.history (plan_of tables r).floor r.end) ps)
unfolding AreProper AreFew
parts-listable c tables k r [] proper few = tt
parts-listable c tables k r (p ∷ ps) proper few = (
  record {
    proper = proper.0;
    keyed = λ d e hd he. keyed-at c tables k p.id d e (listed-has r.history (plan_of tables r).floor r.end _ d hd) (listed-has r.history (plan_of tables r).floor r.end _ e he);
    counted = few.0;
  },
  parts-listable c tables k r ps proper.1 few.1,
)

pub layer-listed : (c : ClusterState) (tables : List Table) → Keeps c tables → (r : LayerRecord) → AllByRecursion AreProper (bare tables r).tables → AllByRecursion AreFew (bare tables r).tables → AllByRecursion (λ (t : TablePart). AreListable t.descriptors) (bare tables r).tables
layer-listed c tables k r proper few = parts-listable c tables k r (plan_of tables r).tables proper few

pub layer-job : (c : ClusterState) (tables : List Table) → Keeps c tables → (x : Extent) (last : Time) (n : LayerName) (p : LayerPlan) (job : Job)
    → IsNext x last → layer_refusal (machine_of c tables) x last ≡ None → n ≡ name_of_record (layer_record (machine_of c tables) x) → IsLayerName n
    → p ≡ plan_of tables (layer_record (machine_of c tables) x) → IsTime p.floor → job ≡ started n x.history x.scope p c.schemas
    → AllByRecursion (λ (t : TablePart). AllByRecursion IsProperSchema t.descriptors) job.manifest.tables → AllByRecursion (λ (t : TablePart). length t.descriptors < 2 ^ 64) job.manifest.tables
    → plan_fault (schemas_of tables) x.scope x.start x.end x.history (by_id zero_time table_threshold tables) ≡ None
    → 100 + length c.schemas.tables ≤ 2 ^ 32 → c.events ≤ c.most_events → c.most_events ≤ 1000000
    → IsBackupJob (machine_of c tables) x last job
unfolding AreProper AreFew plan_of
layer-job c tables k x last n p job next passed name-is form plan-is-p floor job-is proper counted allowed few room limit =
    let m = machine_of c tables in
    let r = layer_record m x in
    let is : job ≡ job_of tables r = job-is ∙ (started-same c.schemas (schemas_of tables) n x.history x.scope p k.schemas
    ∙ (ap (λ (y : LayerName). started y x.history x.scope p (described tables)) name-is ∙ ap (λ (y : LayerPlan). started (name_of_record r) x.history x.scope y (described tables)) plan-is-p)) in
    let is-record : IsRecord r = layer-form m x last next passed (subst IsLayerName name-is form) (subst (λ (y : LayerPlan). IsTime y.floor) plan-is-p floor) in
    let count : length tables ≡ length c.schemas.tables = sym (length-map tables (λ (y : Table). y.descriptors)) ∙ ap length k.schemas in
    let events = k.events in
    let listed = layer-listed c tables k r (subst (λ (j : Job). AllByRecursion AreProper j.manifest.tables) is proper) (subst (λ (j : Job). AllByRecursion AreFew j.manifest.tables) is counted) in
    let may = layers-written tables r (storable c tables k) (omega (arith, count, few)) (omega (arith, events, room, limit)) is-record listed in
    record {
      passed = passed;
      is = is;
      form = is-record;
      listed = listed;
      may = may;
      writes = jobs-write tables r may refl (kept-plan c tables x allowed);
    }
