use Rattle.std.proofs.Common.{◌∙◌, List, ap₂, subst, sym}
use Rattle.mvcc_keys.specs.Times.{Time}
use Rattle.version_store.specs.Tables.{no_facts}
use Rattle.introduced_spans.specs.declared.plans.LayerPlan.{LayerPlan}
use Rattle.introduced_spans.specs.declared.plans.TablePlan.{TablePlan}
use Rattle.backup_job.specs.Jobs.{Job, MayRun}
use Rattle.backup_job.proofs.Bare.{bare_runs, weaker}
use Rattle.job_cases.proofs.jobs.bare_job.Goals as goal

abbrev plan_of : Time → List TablePlan → LayerPlan
plan_of f ts = record { floor = f; tables = ts }

pub returns : goal.returns
returns c = weaker _ (MayRun no_facts) c.start.result (λ (j : Job) is. subst (MayRun no_facts) (sym is) (bare_runs c.in_ok-layer.layer c.in_ok-database.database _ c.new-catalog.result c.in_ok-layer.ensures.cluster c.in_ok-layer.ensures.form c.in_ok-database.ensures (ap₂ plan_of c.zero.ensures (c.from_vec.ensures ∙ c.new.ensures.items)))) c.start.ensures.job
