use Rattle.std.proofs.Common.{◌≡◌, ◌∙◌, ap, sym, refl, true, false}
use Rattle.std.specs.Option.{option_copied_mut}
use Rattle.range_tombstones.specs.Ranges.{bytes_lt, is_dated, range, with_range}
use Rattle.list_laws.proofs.Results.{ok-follows}
use Rattle.version_store.specs.Tables.{Tables}
use Rattle.version_store.proofs.MapHeld.{range-added}
use Rattle.version_store.proofs.mvcc_map.MvccMapVersions.delete_range.Goals as goal

pub returns-in-Some-get_mut-clause-added : goal.returns-in-Some-get_mut-clause-added
returns-in-Some-get_mut-clause-added c =
    let found = sym c.get_mut.ensures.value ∙ ap option_copied_mut c.in-Some-get_mut.is in
    ok-follows c.add_range.result _ _ (λ (a : bytes_lt c.args.lo.now c.args.hi.now ≡ true → is_dated c.args.at c.in-Some-get_mut.table.now.ranges ≡ false → c.add_range.new.ranges ≡ with_range (range c.args.lo.now c.args.hi.now c.args.at) c.in-Some-get_mut.table.now.ranges) (h : Tables) id all may. range-added c.make_table.new.tables.entries _ c.table_of.result c.in-Some.id c.args.lo.now c.args.hi.now c.args.at c.in-Some-get_mut.table.now _ c.in-Some.is (sym c.table_of.ensures) found (c.get_mut.follows.holds _).0 a refl refl h id (c.in_ok-make_table.ensures.made.keeps h all) may) c.add_range.ensures.ok
