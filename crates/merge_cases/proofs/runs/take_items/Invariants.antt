use Rattle.std.proofs.Common.{◌≡◌, false}
use Rattle.merge_cases.proofs.runs.take_items.Given as goal

abbrev pub invariant-loop : goal.invariant-loop
invariant-loop g l = g.M.Merge.failed l.merge ≡ false
