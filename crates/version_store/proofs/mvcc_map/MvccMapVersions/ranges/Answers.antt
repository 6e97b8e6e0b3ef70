use Rattle.std.proofs.Common.{◌∙◌, ap, sym}
use Rattle.std.specs.Option.{option_copied}
use Rattle.version_store.specs.MapHolding.{table_in}
use Rattle.version_store.proofs.MapLists.{found-ranges, ranges-none}
use Rattle.version_store.proofs.mvcc_map.MvccMapVersions.ranges.Goals as goal

pub returns-in-Some : goal.returns-in-Some
returns-in-Some c = found-ranges c.originals.result c.args.self.now.tables.entries c.args.table c.in-Some.table.now c.args.from c.args.upto (ap (table_in c.args.self.now.tables.entries) (sym c.from.ensures) ∙ (sym c.get.ensures.value ∙ ap option_copied c.in-Some.is)) c.originals.ensures.by_date c.originals.ensures.listed

pub returns-in-None : goal.returns-in-None
returns-in-None c h all le = c.new.ensures.items ∙ ranges-none c.args.self.now.tables.entries c.args.table c.args.from c.args.upto h (ap (table_in c.args.self.now.tables.entries) (sym c.from.ensures) ∙ (sym c.get.ensures.value ∙ ap option_copied c.in-None.is)) all le
