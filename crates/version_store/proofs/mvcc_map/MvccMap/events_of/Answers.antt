use Rattle.std.proofs.Common.{◌∙◌, ap, sym}
use Rattle.std.specs.Option.{option_copied}
use Rattle.version_store.specs.MapHolding.{table_in}
use Rattle.version_store.proofs.Choices.{chosen-found, chosen-none}
use Rattle.version_store.proofs.mvcc_map.MvccMap.events_of.Goals as goal

pub returns-in_ok-seen-in-Some : goal.returns-in_ok-seen-in-Some
returns-in_ok-seen-in-Some c = chosen-found c.args.self.now.tables.entries c.args.table c.in-Some.table.now c.args.choice.now c.args.after.now c.args.n c.in_ok-seen-in-Some.seen.items c.truncate.new.self.items (ap (table_in c.args.self.now.tables.entries) (sym c.from.ensures) ∙ (sym c.get.ensures.value ∙ ap option_copied c.in-Some.is)) c.events_from.ensures.ordered c.truncate.ensures.items c.in_ok-seen-in-Some.ensures.seen

pub returns-in-None : goal.returns-in-None
returns-in-None c h all le = c.new.ensures.items ∙ chosen-none c.args.self.now.tables.entries c.args.table c.args.choice.now c.args.after.now c.args.n h (ap (table_in c.args.self.now.tables.entries) (sym c.from.ensures) ∙ (sym c.get.ensures.value ∙ ap option_copied c.in-None.is)) all le
