use Rattle.std.proofs.Common.{◌≡◌, inl, inr, refl, sym, ◌∙◌, append-nil, arith}
use Rattle.outside_world.proofs.Runs.{only_none, only_remove, only_sync, only_then}
use Rattle.layer_model.specs.declared.names.Part.TheVariants.{Chunk, Manifest}
use Rattle.layer_model.specs.Names.{object_name}
use Rattle.collection_dir.proofs.Parts.{names_apart, on_ok, through_change, through_sync}
use Rattle.collection_dir.proofs.Removal.{absent_more, after_all, after_chunk, after_manifest, begun_chunks, removed_more}
use Rattle.collection_dir.proofs.forgetting.remove_chunks.Goals as goal

pub loop-i-init : goal.loop-i-init
loop-i-init g c = record {
  run = λ w older may. begun_chunks w older _ _ _ may (g.met.D.Disk.only_now c.args.disk.now);
  absent = λ tells k none. absurd (omega arith);
  calls = λ tells. sym (append-nil _);
  changes = only_none _;
  faults = refl;
}

pub returns-in_err-remove_part-clause-layer : goal.returns-in_err-remove_part-clause-layer
returns-in_err-remove_part-clause-layer g c w older may =
    (after_chunk w older _ _ _ may _ c.loop-i-test.true (c.loop-i.invariant.run w older may) c.remove_part.ensures.changes).so_far

pub returns-in_err-remove_part-clause-changes : goal.returns-in_err-remove_part-clause-changes
returns-in_err-remove_part-clause-changes g c = only_then c.loop-i.invariant.changes (only_remove (inr (_, c.loop-i-test.true, refl)) c.remove_part.ensures.changes)

pub loop-i-preserved : goal.loop-i-preserved
loop-i-preserved g c = record {
  run = λ w older may. after_chunk w older _ _ _ may _ c.loop-i-test.true (c.loop-i.invariant.run w older may) c.remove_part.ensures.changes;
  absent = λ tells. absent_more c.args.layer.now Chunk c.loop-i.i (λ k lt. names_apart c.args.layer.now (Chunk k) (Chunk c.loop-i.i) (omega (arith, lt, c.loop-i-test.true, c.requires)) (omega (arith, c.loop-i-test.true, c.requires)) (λ e. let same : k ≡ c.loop-i.i = cc in omega (arith, lt, same))) (c.loop-i.invariant.changes.kind.tells ∙ tells) c.in_ok-remove_part.ensures.changes (c.loop-i.invariant.absent tells);
  calls = λ tells. (c.in_ok-remove_part.ensures.changes.content (c.loop-i.invariant.changes.kind.tells ∙ tells)).calls ∙ removed_more c.args.layer.now Chunk c.loop-i.i _ _ (c.loop-i.invariant.calls tells);
  changes = only_then c.loop-i.invariant.changes (only_remove (inr (_, c.loop-i-test.true, refl)) c.remove_part.ensures.changes);
  faults = c.in_ok-remove_part.ensures.cause.counts ∙ c.loop-i.invariant.faults;
}

pub returns-in_err-remove_part-2-clause-layer : goal.returns-in_err-remove_part-2-clause-layer
returns-in_err-remove_part-2-clause-layer g c w older may = (after_manifest w older _ _ _ may (c.loop-i.invariant.run w older may) c.remove_part-2.ensures.changes).so_far

pub returns-in_err-remove_part-2-clause-changes : goal.returns-in_err-remove_part-2-clause-changes
returns-in_err-remove_part-2-clause-changes g c = only_then c.loop-i.invariant.changes (only_remove (inl refl) c.remove_part-2.ensures.changes)

pub returns-clause-layer : goal.returns-clause-layer
returns-clause-layer g c w older may =
    let run = after_manifest w older _ _ _ may (c.loop-i.invariant.run w older may) c.remove_part-2.ensures.changes in
    (after_all w older _ _ _ may run c.sync.ensures.settles).so_far

pub returns-clause-changes : goal.returns-clause-changes
returns-clause-changes g c =
    only_then c.loop-i.invariant.changes (only_then (only_remove (inl refl) c.remove_part-2.ensures.changes) (only_sync c.sync.ensures.settles))

pub returns-clause-absent : goal.returns-clause-absent
returns-clause-absent g c tells =
    let layer = c.args.layer.now in
    let removed = c.loop-i.invariant.changes.kind.tells ∙ tells in
    let unlisted = c.remove_part-2.ensures.changes.kind.tells ∙ removed in
    on_ok c.sync.result (λ k lt. through_sync (object_name layer (Chunk k)) unlisted c.sync.ensures.settles
    ∙ through_change (object_name layer (Chunk k)) removed (names_apart layer (Chunk k) Manifest (omega (arith, lt, c.requires)) tt (λ e. cc)) c.remove_part-2.ensures.changes
    ∙ c.loop-i.invariant.absent tells k (omega (arith, lt, c.loop-i-test.false)))
