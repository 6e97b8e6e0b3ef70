use Rattle.std.proofs.Common.{◌≡◌, refl, sym, ◌∙◌, append-nil, arith}
use Rattle.outside_world.proofs.Runs.{only_none, only_remove, only_sync, only_then}
use Rattle.layer_model.specs.declared.names.Part.TheVariants.{Mark}
use Rattle.collection_dir.proofs.Parts.{names_apart}
use Rattle.collection_dir.proofs.Removal.{absent_more, after_mark, after_marks, begun_marks, removed_more, unmarked_on_ok}
use Rattle.collection_dir.proofs.forgetting.remove_marks.Goals as goal

pub loop-i-init : goal.loop-i-init
loop-i-init g c = record {
  run = λ w older may. begun_marks w older _ _ _ may (g.met.D.Disk.only_now c.args.disk.now);
  absent = λ tells k none. absurd (omega arith);
  calls = λ tells. sym (append-nil _);
  changes = only_none _;
  faults = refl;
}

pub returns-in_err-remove_part-clause-layer : goal.returns-in_err-remove_part-clause-layer
returns-in_err-remove_part-clause-layer g c w older may =
    (after_mark w older _ _ _ may _ c.loop-i-test.true (c.loop-i.invariant.run w older may) c.remove_part.ensures.changes).so_far

pub returns-in_err-remove_part-clause-changes : goal.returns-in_err-remove_part-clause-changes
returns-in_err-remove_part-clause-changes g c = only_then c.loop-i.invariant.changes (only_remove (_, c.loop-i-test.true, refl) c.remove_part.ensures.changes)

pub loop-i-preserved : goal.loop-i-preserved
loop-i-preserved g c = record {
  run = λ w older may. after_mark w older _ _ _ may _ c.loop-i-test.true (c.loop-i.invariant.run w older may) c.remove_part.ensures.changes;
  absent = λ tells. absent_more c.args.layer.now Mark c.loop-i.i (λ k lt. names_apart c.args.layer.now (Mark k) (Mark c.loop-i.i) (omega (arith, lt, c.loop-i-test.true, c.requires)) (omega (arith, c.loop-i-test.true, c.requires)) (λ e. let same : k ≡ c.loop-i.i = cc in omega (arith, lt, same))) (c.loop-i.invariant.changes.kind.tells ∙ tells) c.in_ok-remove_part.ensures.changes (c.loop-i.invariant.absent tells);
  calls = λ tells. (c.in_ok-remove_part.ensures.changes.content (c.loop-i.invariant.changes.kind.tells ∙ tells)).calls ∙ removed_more c.args.layer.now Mark c.loop-i.i _ _ (c.loop-i.invariant.calls tells);
  changes = only_then c.loop-i.invariant.changes (only_remove (_, c.loop-i-test.true, refl) c.remove_part.ensures.changes);
  faults = c.in_ok-remove_part.ensures.cause.counts ∙ c.loop-i.invariant.faults;
}

pub returns-clause-layer : goal.returns-clause-layer
returns-clause-layer g c w older may = (after_marks w older _ _ _ may (c.loop-i.invariant.run w older may) c.sync.ensures.settles).so_far

pub returns-clause-next : goal.returns-clause-next
returns-clause-next g c w older may =
    unmarked_on_ok w older _ _ _ may (c.loop-i.invariant.run w older may) (λ k lt. c.loop-i.invariant.absent may.may.known.tells k (omega (arith, lt, c.loop-i-test.false))) c.sync.result c.sync.ensures.settles

pub returns-clause-changes : goal.returns-clause-changes
returns-clause-changes g c = only_then c.loop-i.invariant.changes (only_sync c.sync.ensures.settles)
