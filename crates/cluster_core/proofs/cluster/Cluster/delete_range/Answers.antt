use Rattle.std.proofs.Common.{refl, inl, [], ◌∷◌}
use Rattle.fact_model.specs.Facts.{DelRange}
use Rattle.table_rows.specs.Checks.{range_fault}
use Rattle.reply_texts.specs.declared.answers.Answer.TheVariants.{RangeDeleted}
use Rattle.machine_model.specs.TableRows.{delete_range}
use Rattle.cluster_core.proofs.Flow.{exit_by, exit_missing, exit_rows}
use Rattle.cluster_core.proofs.Adding.{adds-missing, adds-offline, adds-fault, adds-room, adds-done, map-dated}
use Rattle.machine_model.proofs.Sizes.{range-sized}
use Rattle.cluster_core.proofs.cluster.Cluster.delete_range.Goals as goal

pub returns-in_err-d-clause-step : goal.returns-in_err-d-clause-step
unfolding delete_range
returns-in_err-d-clause-step c = rw (← c.self.view_is) (
    exit_missing _ (λ m. delete_range m c.args.name.now c.args.lo.now c.args.hi.now) _ c.in_err-d.field-0.0 c.args.name.now _ c.from_residual-in_err-d.ensures.1 c.in_err-d.ensures.missing
    (adds-missing c.args.name.now (λ d. range_fault d c.args.lo.now c.args.hi.now) (λ d t. DelRange c.args.lo.now c.args.hi.now t ∷ []) (λ t. RangeDeleted t) _ c.in_ok-at.at c.in_ok-at.ensures.drawn))

pub returns-in_err-check_public-clause-step : goal.returns-in_err-check_public-clause-step
unfolding delete_range
returns-in_err-check_public-clause-step c = rw (← c.self.view_is) (
    exit_by _ _ (λ m. delete_range m c.args.name.now c.args.lo.now c.args.hi.now) _ c.in_err-check_public.field-0.0 _ refl c.from_residual-in_err-check_public.ensures.1 c.in_err-check_public.ensures.refused
    (adds-offline c.args.name.now (λ d. range_fault d c.args.lo.now c.args.hi.now) (λ d t. DelRange c.args.lo.now c.args.hi.now t ∷ []) (λ t. RangeDeleted t) _ c.in_ok-at.at c.in_ok-d.field-0-0 c.in_ok-d.d.now c.in_ok-at.ensures.drawn c.in_ok-d.ensures.found))

pub returns-in_err-check_range-clause-step : goal.returns-in_err-check_range-clause-step
unfolding delete_range
returns-in_err-check_range-clause-step c = rw (← c.self.view_is) (
    exit_rows _ (λ m. delete_range m c.args.name.now c.args.lo.now c.args.hi.now) _ c.in_err-check_range.field-0.0 _ c.from_residual-in_err-check_range.ensures.1 c.in_err-check_range.ensures
    (adds-fault c.args.name.now (λ d. range_fault d c.args.lo.now c.args.hi.now) (λ d t. DelRange c.args.lo.now c.args.hi.now t ∷ []) (λ t. RangeDeleted t) _ c.in_ok-at.at c.in_ok-d.field-0-0 c.in_ok-d.d.now c.in_ok-at.ensures.drawn c.in_ok-d.ensures.found c.in_ok-check_public.ensures.passed))

pub returns-in_err-check_room-clause-step : goal.returns-in_err-check_room-clause-step
unfolding delete_range
returns-in_err-check_room-clause-step c = rw (← c.self.view_is) (
    exit_by _ _ (λ m. delete_range m c.args.name.now c.args.lo.now c.args.hi.now) _ c.in_err-check_room.field-0.0 _ refl c.from_residual-in_err-check_room.ensures.1 c.in_err-check_room.ensures.refused
    (adds-room c.args.name.now (λ d. range_fault d c.args.lo.now c.args.hi.now) (λ d t. DelRange c.args.lo.now c.args.hi.now t ∷ []) (λ t. RangeDeleted t) _ c.in_ok-at.at c.in_ok-d.field-0-0 c.in_ok-d.d.now (1) c.in_ok-at.ensures.drawn c.in_ok-d.ensures.found c.in_ok-check_public.ensures.passed c.in_ok-check_range.ensures refl))

pub returns-clause-step : goal.returns-clause-step
unfolding delete_range
returns-clause-step c = rw (← c.self.view_is) (
    adds-done c.args.name.now (λ d. range_fault d c.args.lo.now c.args.hi.now) (λ d t. DelRange c.args.lo.now c.args.hi.now t ∷ []) (λ t. RangeDeleted t) _ c.delete_range.new.self c.in_ok-at.at c.in_ok-d.field-0-0 c.in_ok-d.d.now (1) c.in_ok-at.ensures.drawn c.in_ok-d.ensures.found c.in_ok-check_public.ensures.passed c.in_ok-check_range.ensures refl
    c.in_ok-check_room.ensures.passed (map-dated (λ (u : Unit {0}). DelRange c.args.lo.now c.args.hi.now c.in_ok-at.at) c.in_ok-at.at (λ u. refl) (tt ∷ [])) (range-sized c.in_ok-d.d.now c.in_ok-at.at c.args.lo.now c.args.hi.now c.in_ok-at.ensures.time c.in_ok-check_range.ensures) (λ T has table may. c.in_ok-delete_range.ensures.added T has table (may _ (inl refl))))
