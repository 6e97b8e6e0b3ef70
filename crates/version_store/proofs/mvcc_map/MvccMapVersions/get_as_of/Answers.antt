use Rattle.std.proofs.Common.{◌∙◌, ap, sym}
use Rattle.std.specs.Option.{option_copied}
use Rattle.version_store.proofs.MapHeld.{value-found, value-none}
use Rattle.version_store.proofs.mvcc_map.MvccMapVersions.get_as_of.Goals as goal

pub returns-in-Some-get : goal.returns-in-Some-get
returns-in-Some-get c = value-found c.args.self.now.tables.entries c.table_of.result c.in-Some.id c.args.key.now c.args.t c.in-Some-get.table.now _ c.in-Some.is c.table_of.ensures (sym c.get.ensures.value ∙ ap option_copied c.in-Some-get.is) c.value_in.ensures.value c.value_in.ensures.ordered

pub returns-in-None-get : goal.returns-in-None-get
returns-in-None-get c = value-none c.args.self.now.tables.entries c.table_of.result c.in-Some.id c.args.key.now c.args.t c.in-Some.is c.table_of.ensures (sym c.get.ensures.value ∙ ap option_copied c.in-None-get.is)
