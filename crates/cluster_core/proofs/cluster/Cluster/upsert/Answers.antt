use Rattle.std.proofs.Common.{refl, map, length}
use Rattle.std.proofs.lemmas.List.{length-map}
use Rattle.history_model.specs.Rows.{put_of}
use Rattle.table_rows.specs.Checks.{rows_fault}
use Rattle.reply_texts.specs.declared.answers.Answer.TheVariants.{RowsWritten}
use Rattle.machine_model.specs.TableRows.{upsert}
use Rattle.cluster_core.proofs.Flow.{exit_by, exit_missing, exit_rows}
use Rattle.cluster_core.proofs.Adding.{adds-missing, adds-offline, adds-fault, adds-room, adds-done, map-dated}
use Rattle.machine_model.proofs.Sizes.{rows-sized}
use Rattle.cluster_core.proofs.cluster.Cluster.upsert.Goals as goal

pub returns-in_err-d-clause-step : goal.returns-in_err-d-clause-step
unfolding upsert
returns-in_err-d-clause-step c = rw (← c.self.view_is) (
    exit_missing _ (λ m. upsert m c.args.name.now c.args.rows.now) _ c.in_err-d.field-0.0 c.args.name.now _ c.from_residual-in_err-d.ensures.1 c.in_err-d.ensures.missing
    (adds-missing c.args.name.now (λ d. rows_fault d c.args.rows.now) (λ d t. map (put_of d t) c.args.rows.now) (λ t. RowsWritten (length c.args.rows.now) t) _ c.in_ok-at.at c.in_ok-at.ensures.drawn))

pub returns-in_err-check_public-clause-step : goal.returns-in_err-check_public-clause-step
unfolding upsert
returns-in_err-check_public-clause-step c = rw (← c.self.view_is) (
    exit_by _ _ (λ m. upsert m c.args.name.now c.args.rows.now) _ c.in_err-check_public.field-0.0 _ refl c.from_residual-in_err-check_public.ensures.1 c.in_err-check_public.ensures.refused
    (adds-offline c.args.name.now (λ d. rows_fault d c.args.rows.now) (λ d t. map (put_of d t) c.args.rows.now) (λ t. RowsWritten (length c.args.rows.now) t) _ c.in_ok-at.at c.in_ok-d.field-0-0 c.in_ok-d.d.now c.in_ok-at.ensures.drawn c.in_ok-d.ensures.found))

pub returns-in_err-check_rows-clause-step : goal.returns-in_err-check_rows-clause-step
unfolding upsert
returns-in_err-check_rows-clause-step c = rw (← c.self.view_is) (
    exit_rows _ (λ m. upsert m c.args.name.now c.args.rows.now) _ c.in_err-check_rows.field-0.0 _ c.from_residual-in_err-check_rows.ensures.1 c.in_err-check_rows.ensures
    (adds-fault c.args.name.now (λ d. rows_fault d c.args.rows.now) (λ d t. map (put_of d t) c.args.rows.now) (λ t. RowsWritten (length c.args.rows.now) t) _ c.in_ok-at.at c.in_ok-d.field-0-0 c.in_ok-d.d.now c.in_ok-at.ensures.drawn c.in_ok-d.ensures.found c.in_ok-check_public.ensures.passed))

pub returns-in_err-check_room-clause-step : goal.returns-in_err-check_room-clause-step
unfolding upsert
returns-in_err-check_room-clause-step c = rw (← c.self.view_is) (
    exit_by _ _ (λ m. upsert m c.args.name.now c.args.rows.now) _ c.in_err-check_room.field-0.0 _ refl c.from_residual-in_err-check_room.ensures.1 c.in_err-check_room.ensures.refused
    (adds-room c.args.name.now (λ d. rows_fault d c.args.rows.now) (λ d t. map (put_of d t) c.args.rows.now) (λ t. RowsWritten (length c.args.rows.now) t) _ c.in_ok-at.at c.in_ok-d.field-0-0 c.in_ok-d.d.now (length c.args.rows.now) c.in_ok-at.ensures.drawn c.in_ok-d.ensures.found c.in_ok-check_public.ensures.passed c.in_ok-check_rows.ensures (length-map c.args.rows.now _)))

pub returns-clause-step : goal.returns-clause-step
unfolding upsert
returns-clause-step c = rw (← c.self.view_is) (
    adds-done c.args.name.now (λ d. rows_fault d c.args.rows.now) (λ d t. map (put_of d t) c.args.rows.now) (λ t. RowsWritten (length c.args.rows.now) t) _ c.upsert.new.self c.in_ok-at.at c.in_ok-d.field-0-0 c.in_ok-d.d.now (length c.args.rows.now) c.in_ok-at.ensures.drawn c.in_ok-d.ensures.found c.in_ok-check_public.ensures.passed c.in_ok-check_rows.ensures (length-map c.args.rows.now _)
    c.in_ok-check_room.ensures.passed (map-dated (put_of c.in_ok-d.d.now c.in_ok-at.at) c.in_ok-at.at (λ row. refl) c.args.rows.now) (rows-sized c.in_ok-d.d.now c.in_ok-at.at c.args.rows.now c.in_ok-at.ensures.time c.in_ok-check_rows.ensures) c.in_ok-upsert.ensures.added)
