use Rattle.std.proofs.lemmas.Result.{on_ok_weaker}
use Rattle.table_rows.proofs.Coded.{put-added}
use Rattle.table_rows.proofs.rows.TableRows.put_stored.Goals as goal

pub returns-clause-added : goal.returns-clause-added
returns-clause-added g c = rw (← c.self.view_is) (on_ok_weaker c.put.result (λ takes T id xs cells has small k is v cs may. put-added _ _ T id xs cells c.args.at c.args.key.now c.args.value.now has small k is v cs may takes) c.put.ensures.added)
