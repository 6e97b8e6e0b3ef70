use Rattle.std.proofs.Common.{◌∙◌, ap, sym, subst}
use Rattle.std.specs.Option.{option_copied_mut}
use Rattle.version_store.specs.MapHolding.{KeepsAll}
use Rattle.version_store.specs.Tables.{raised}
use Rattle.version_store.proofs.MapCollects.{table-collected}
use Rattle.version_store.proofs.mvcc_map.MvccMapVersions.collect.Goals as goal

pub returns-in-Some-clause-raised : goal.returns-in-Some-clause-raised
returns-in-Some-clause-raised c h all =
    let found = sym c.get_mut.ensures.value ∙ ap option_copied_mut c.in-Some.is in
    subst (λ id. KeepsAll (c.get_mut.follows.lender c.collect_table.new.table).entries (raised id c.args.g h)) c.from-id.ensures (table-collected c.make_table.new.tables.entries _ c.from-id.result c.args.g c.in-Some.table.now c.collect_table.new.table found (c.get_mut.follows.holds c.collect_table.new.table).0 c.collect_table.ensures.low c.collect_table.ensures.high h (c.in_ok-make_table.ensures.made.keeps h all))
