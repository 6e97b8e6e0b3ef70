use Rattle.std.proofs.Common.{refl, map, length}
use Rattle.std.proofs.lemmas.List.{length-map}
use Rattle.fact_model.specs.Facts.{Del}
use Rattle.table_rows.specs.Checks.{keys_fault}
use Rattle.reply_texts.specs.declared.answers.Answer.TheVariants.{RowsWritten}
use Rattle.machine_model.specs.TableRows.{delete}
use Rattle.cluster_core.proofs.Flow.{exit_by, exit_missing, exit_rows}
use Rattle.cluster_core.proofs.Adding.{adds-missing, adds-offline, adds-fault, adds-room, adds-done, map-dated}
use Rattle.machine_model.proofs.Sizes.{keys-sized}
use Rattle.cluster_core.proofs.cluster.Cluster.delete.Goals as goal

pub returns-in_err-d-clause-step : goal.returns-in_err-d-clause-step
unfolding delete
returns-in_err-d-clause-step c = rw (← c.self.view_is) (
    exit_missing _ (λ m. delete m c.args.name.now c.args.keys.now) _ c.in_err-d.field-0.0 c.args.name.now _ c.from_residual-in_err-d.ensures.1 c.in_err-d.ensures.missing
    (adds-missing c.args.name.now (λ d. keys_fault d c.args.keys.now) (λ d t. map (λ k. Del k t) c.args.keys.now) (λ t. RowsWritten (length c.args.keys.now) t) _ c.in_ok-at.at c.in_ok-at.ensures.drawn))

pub returns-in_err-check_public-clause-step : goal.returns-in_err-check_public-clause-step
unfolding delete
returns-in_err-check_public-clause-step c = rw (← c.self.view_is) (
    exit_by _ _ (λ m. delete m c.args.name.now c.args.keys.now) _ c.in_err-check_public.field-0.0 _ refl c.from_residual-in_err-check_public.ensures.1 c.in_err-check_public.ensures.refused
    (adds-offline c.args.name.now (λ d. keys_fault d c.args.keys.now) (λ d t. map (λ k. Del k t) c.args.keys.now) (λ t. RowsWritten (length c.args.keys.now) t) _ c.in_ok-at.at c.in_ok-d.field-0-0 c.in_ok-d.d.now c.in_ok-at.ensures.drawn c.in_ok-d.ensures.found))

pub returns-in_err-check_keys-clause-step : goal.returns-in_err-check_keys-clause-step
unfolding delete
returns-in_err-check_keys-clause-step c = rw (← c.self.view_is) (
    exit_rows _ (λ m. delete m c.args.name.now c.args.keys.now) _ c.in_err-check_keys.field-0.0 _ c.from_residual-in_err-check_keys.ensures.1 c.in_err-check_keys.ensures
    (adds-fault c.args.name.now (λ d. keys_fault d c.args.keys.now) (λ d t. map (λ k. Del k t) c.args.keys.now) (λ t. RowsWritten (length c.args.keys.now) t) _ c.in_ok-at.at c.in_ok-d.field-0-0 c.in_ok-d.d.now c.in_ok-at.ensures.drawn c.in_ok-d.ensures.found c.in_ok-check_public.ensures.passed))

pub returns-in_err-check_room-clause-step : goal.returns-in_err-check_room-clause-step
unfolding delete
returns-in_err-check_room-clause-step c = rw (← c.self.view_is) (
    exit_by _ _ (λ m. delete m c.args.name.now c.args.keys.now) _ c.in_err-check_room.field-0.0 _ refl c.from_residual-in_err-check_room.ensures.1 c.in_err-check_room.ensures.refused
    (adds-room c.args.name.now (λ d. keys_fault d c.args.keys.now) (λ d t. map (λ k. Del k t) c.args.keys.now) (λ t. RowsWritten (length c.args.keys.now) t) _ c.in_ok-at.at c.in_ok-d.field-0-0 c.in_ok-d.d.now (length c.args.keys.now) c.in_ok-at.ensures.drawn c.in_ok-d.ensures.found c.in_ok-check_public.ensures.passed c.in_ok-check_keys.ensures (length-map c.args.keys.now _)))

pub returns-clause-step : goal.returns-clause-step
unfolding delete
returns-clause-step c = rw (← c.self.view_is) (
    adds-done c.args.name.now (λ d. keys_fault d c.args.keys.now) (λ d t. map (λ k. Del k t) c.args.keys.now) (λ t. RowsWritten (length c.args.keys.now) t) _ c.delete.new.self c.in_ok-at.at c.in_ok-d.field-0-0 c.in_ok-d.d.now (length c.args.keys.now) c.in_ok-at.ensures.drawn c.in_ok-d.ensures.found c.in_ok-check_public.ensures.passed c.in_ok-check_keys.ensures (length-map c.args.keys.now _)
    c.in_ok-check_room.ensures.passed (map-dated (λ k. Del k c.in_ok-at.at) c.in_ok-at.at (λ k. refl) c.args.keys.now) (keys-sized c.in_ok-d.d.now c.in_ok-at.at c.args.keys.now c.in_ok-at.ensures.time c.in_ok-check_keys.ensures) c.in_ok-delete.ensures.added)
