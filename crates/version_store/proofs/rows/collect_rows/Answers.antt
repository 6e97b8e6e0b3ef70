use Rattle.std.proofs.Common.{rules}
use Rattle.version_store.proofs.RowChanges.{retained}
use Rattle.version_store.proofs.rows.collect_rows.Goals as goal

pub returns-clause-rows : goal.returns-clause-rows
returns-clause-rows c = retained _ c.args.g c.args.ranges.now _ (λ k vs b ws f' t. search rules) _ _ c.retain.ensures.filtered
