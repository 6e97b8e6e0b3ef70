use Rattle.std.proofs.Common.{ap, ◌∙◌}
use Rattle.introduced_spans.specs.Spans.{threshold_of}
use Rattle.cluster_core.specs.ClusterView.{view_of}
use Rattle.cluster_core.proofs.Backing.{both-passed, fault-is, first-refused, if-err, plan-allowed, plan-is, plan-refused, then-refused}
use Rattle.cluster_core.proofs.cluster.Cluster.layer_plan.Goals as goal

pub returns-in_err-check_end-clause-refused : goal.returns-in_err-check_end-clause-refused
returns-in_err-check_end-clause-refused c = if-err _ c.from_residual.result c.in_err-check_end.field-0.0 c.from_residual.ensures.1 (λ tables k. first-refused c.in_err-check_end.field-0.0 _ _ c.in_err-check_end.ensures.refused)

pub returns-in_err-plan-clause-refused : goal.returns-in_err-plan-clause-refused
returns-in_err-plan-clause-refused c = rw (← c.self.view_is) (if-err _ c.from_residual-in_err-plan.result _ c.from_residual-in_err-plan.ensures.1 (λ tables k.
    then-refused _ _ _ c.in_ok-check_end.ensures.passed
    (plan-refused (view_of c.self.inside) tables k c.args.extent.now (threshold_of c.deref.result.now) (ap threshold_of c.deref.ensures.value ∙ (rw (← c.self.view_is) at c.in_ok-thresholds.ensures.thresholds) tables k) c.in_err-plan.field-0.0 c.in_err-plan.ensures.fault)))

pub returns-clause-plan : goal.returns-clause-plan
returns-clause-plan c = rw (← c.self.view_is) (λ tables k.
    c.in_ok-plan.ensures.planned ∙ plan-is (view_of c.self.inside) tables k c.args.extent.now (threshold_of c.deref.result.now) (ap threshold_of c.deref.ensures.value ∙ (rw (← c.self.view_is) at c.in_ok-thresholds.ensures.thresholds) tables k))

pub returns-clause-allowed : goal.returns-clause-allowed
returns-clause-allowed c = rw (← c.self.view_is) (λ tables k.
    fault-is (view_of c.self.inside) tables k c.args.extent.now (threshold_of c.deref.result.now) (ap threshold_of c.deref.ensures.value ∙ (rw (← c.self.view_is) at c.in_ok-thresholds.ensures.thresholds) tables k) ∙ c.in_ok-plan.ensures.allowed)

pub returns-clause-passed : goal.returns-clause-passed
returns-clause-passed c = rw (← c.self.view_is) (λ tables k.
    both-passed _ _ c.in_ok-check_end.ensures.passed
    (plan-allowed (view_of c.self.inside) tables k c.args.extent.now (threshold_of c.deref.result.now) (ap threshold_of c.deref.ensures.value ∙ (rw (← c.self.view_is) at c.in_ok-thresholds.ensures.thresholds) tables k) c.in_ok-plan.ensures.allowed))
