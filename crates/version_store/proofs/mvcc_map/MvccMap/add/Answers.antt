use Rattle.std.proofs.Common.{◌≡◌, ◌∙◌, ap, sym, refl}
use Rattle.std.specs.Option.{option_copied_mut}
use Rattle.list_laws.proofs.Results.{ok-follows, err-follows}
use Rattle.version_store.specs.Rows.{IsRowAdded, version_fact}
use Rattle.version_store.specs.Tables.{Tables}
use Rattle.version_store.proofs.MapHeld.{stays-kept, version-added}
use Rattle.version_store.proofs.mvcc_map.MvccMap.add.Goals as goal

pub returns-in-Some-get_mut-clause-added : goal.returns-in-Some-get_mut-clause-added
returns-in-Some-get_mut-clause-added c =
    let found = sym c.get_mut.ensures.value ∙ ap option_copied_mut c.in-Some-get_mut.is in
    ok-follows c.add_version.result _ _ (λ (a : IsRowAdded (version_fact c.args.key.now c.args.version) c.in-Some-get_mut.table.now.rows.entries c.add_version.new.rows.entries) (h : Tables) id all may. version-added c.make_table.new.tables.entries _ c.table_of.result c.in-Some.id c.args.key.now c.args.version c.in-Some-get_mut.table.now _ c.in-Some.is (sym c.table_of.ensures) found (c.get_mut.follows.holds _).0 a refl refl h id (c.in_ok-make_table.ensures.made.keeps h all) may) c.add_version.ensures.ok

pub returns-in-Some-get_mut-clause-kept : goal.returns-in-Some-get_mut-clause-kept
returns-in-Some-get_mut-clause-kept c =
    let found = sym c.get_mut.ensures.value ∙ ap option_copied_mut c.in-Some-get_mut.is in
    err-follows c.add_version.result _ _ (λ (e : c.add_version.new.rows.entries ≡ c.in-Some-get_mut.table.now.rows.entries) (h : Tables) all. stays-kept c.make_table.new.tables.entries _ c.in-Some.id c.in-Some-get_mut.table.now _ found (c.get_mut.follows.holds _).0 e refl refl h (c.in_ok-make_table.ensures.made.keeps h all)) c.add_version.ensures.err
