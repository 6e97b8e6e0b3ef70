use Rattle.std.proofs.Common.{◌∙◌, ap, sym}
use Rattle.std.specs.Option.{option_copied}
use Rattle.version_store.specs.MapHolding.{table_in}
use Rattle.version_store.proofs.MapHeld.{found-scan, scan-none}
use Rattle.version_store.proofs.mvcc_map.MvccMapVersions.scan_as_of.Goals as goal

pub returns-in-Some : goal.returns-in-Some
returns-in-Some c = found-scan c.scan_rows.result c.args.self.now.tables.entries c.args.table c.args.t c.in-Some.table.now (ap (table_in c.args.self.now.tables.entries) (sym c.from.ensures) ∙ (sym c.get.ensures.value ∙ ap option_copied c.in-Some.is)) c.scan_rows.ensures.ordered c.scan_rows.ensures.seen

pub returns-in-None : goal.returns-in-None
returns-in-None c h all le = c.new.ensures.items ∙ scan-none c.args.self.now.tables.entries c.args.table c.args.t h (ap (table_in c.args.self.now.tables.entries) (sym c.from.ensures) ∙ (sym c.get.ensures.value ∙ ap option_copied c.in-None.is)) all le
