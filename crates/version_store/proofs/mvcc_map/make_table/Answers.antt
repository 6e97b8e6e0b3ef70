use Rattle.std.proofs.Common.{◌∙◌, sym}
use Rattle.list_laws.proofs.Results.{on-ok}
use Rattle.version_store.proofs.MapHeld.{none-there, table-made}
use Rattle.version_store.proofs.mvcc_map.make_table.Goals as goal

pub returns-clause-made : goal.returns-clause-made
returns-clause-made c = table-made c.args.tables.now.entries c.insert.new.self.entries c.args.id c.new.result (none-there _ (sym c.contains_key.ensures ∙ c.if-contains_key.false)) (on-ok c.insert.result _ (sym c.is_err-refused.ensures.value ∙ c.if-refused.false) c.insert.ensures.entries) c.new.ensures.rows c.new.ensures.ranges c.new.ensures.threshold
