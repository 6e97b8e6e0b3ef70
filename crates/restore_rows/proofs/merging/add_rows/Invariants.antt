use Rattle.restore_rows.proofs.MergeRuns.{IsRunning}
use Rattle.restore_rows.proofs.merging.add_rows.Given as goal

abbrev pub invariant-loop-turn : goal.invariant-loop-turn
invariant-loop-turn g l = IsRunning g.C.Chunks.kept g.C.Chunks.came l.fn.chunks l.chunks l.fn.merge l.merge l.rows.items l.turn
