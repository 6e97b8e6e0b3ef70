-- A job for a layer without tables may run.
use Rattle.std.proofs.Common.{◌≡◌, ℕ, true, false, refl, sym, subst, List, [], Result, Ok, Err, IfOk, arith}
use Rattle.mvcc_keys.specs.Times.{time, zero_time}
use Rattle.table_descriptors.specs.Names.{is_name}
use Rattle.table_descriptors.specs.declared.scopes.Scope.TheVariants.{Database}
use Rattle.schema_catalog.specs.Catalogs.{Schemas}
use Rattle.version_store.specs.Tables.{no_facts}
use Rattle.introduced_spans.specs.declared.plans.LayerPlan.{LayerPlan}
use Rattle.layer_manifest.specs.Manifests.{IsProperManifest}
use Rattle.layer_model.specs.declared.names.LayerName.{LayerName}
use Rattle.backup_job.specs.Jobs.{MayRun, completed, started}
use Rattle.backup_job.proofs.Starts.{started_run}

-- the full layer of job 1 to 3.0000000000
abbrev pub layer : List ℕ → List ℕ → LayerName
layer collection cluster = record { collection = collection; cluster = cluster; full = time 3 0; start = zero_time; end = time 3 0; job = 1 }

abbrev pub no_tables : LayerPlan
no_tables = record { floor = zero_time; tables = [] }

proper : (collection cluster database : List ℕ) (catalog : Schemas) → is_name cluster ≡ true → is_name database ≡ true → IsProperManifest (completed no_facts (started (layer collection cluster) false (Database database) no_tables catalog))
proper collection cluster database catalog named held = record {
  version = refl;
  cluster = named;
  from_one = omega arith;
  job = omega arith;
  full = (omega arith, omega arith);
  start = (omega arith, omega arith);
  end = (omega arith, omega arith);
  floor = (omega arith, omega arith);
  ends = refl;
  floors = refl;
  history = refl;
  scope = held;
  counted = omega arith;
  tables = tt;
}

pub bare_runs : (name : LayerName) (database : List ℕ) (plan : LayerPlan) (catalog : Schemas) → is_name name.cluster ≡ true → name ≡ layer name.collection name.cluster → is_name database ≡ true → plan ≡ no_tables → MayRun no_facts (started name false (Database database) plan catalog)
bare_runs name database plan catalog named is held empty =
    subst (λ (p : LayerPlan). MayRun no_facts (started name false (Database database) p catalog)) (sym empty)
    (subst (λ (n : LayerName). MayRun no_facts (started n false (Database database) no_tables catalog)) (sym is)
    (started_run no_facts (layer name.collection name.cluster) false (Database database) no_tables catalog tt (proper name.collection name.cluster database catalog named held)).0)

pub weaker : {X E : Type 0} (P Q : X → Type 0) (r : Result X E) → ((x : X) → P x → Q x) → IfOk r P → IfOk r Q
weaker P Q (Ok x) f p = f x p
weaker P Q (Err e) f p = tt
