use Rattle.std.proofs.Common.{◌∙◌, ap, sym, refl, Some}
use Rattle.std.specs.Option.{option_copied_mut}
use Rattle.std.proofs.lemmas.Map.Steps.{set_value_same}
use Rattle.list_laws.proofs.Results.{on-err, on-ok}
use Rattle.version_store.proofs.RowPuts.{at_key, added-there, added-new}
use Rattle.version_store.specs.Rows.{with_version}
use Rattle.version_store.proofs.rows.add_version.Goals as goal

pub returns-then-refused-clause-err : goal.returns-then-refused-clause-err
returns-then-refused-clause-err c =
    let found = sym c.get_mut.ensures.value ∙ ap option_copied_mut c.in-Some.is in
    let same = on-err c.insert.result _ (sym c.is_err-refused.ensures.value ∙ c.if-refused.true) c.insert.ensures.err in
    (c.get_mut.follows.holds c.insert.new.self).0 ∙ set_value_same (at_key c.args.key.now) c.args.rows.now.entries c.insert.new.self (found ∙ ap Some (sym same))

pub returns-in-Some-clause-ok : goal.returns-in-Some-clause-ok
returns-in-Some-clause-ok c =
    let found = sym c.get_mut.ensures.value ∙ ap option_copied_mut c.in-Some.is in
    let put = on-ok c.insert.result _ (sym c.is_err-refused.ensures.value ∙ c.if-refused.false) c.insert.ensures.ok in
    added-there c.args.key.now c.args.version c.args.rows.now.entries _ c.in-Some.row.now c.insert.new.self found put (c.get_mut.follows.holds c.insert.new.self).0

pub returns-clause-ok : goal.returns-clause-ok
returns-clause-ok c =
    let none = sym c.get_mut.ensures.value ∙ ap option_copied_mut c.in_default.is in
    let row = on-ok c.insert-2.result _ (sym c.is_err-refused-2.ensures.value ∙ c.if-refused-2.false) c.insert-2.ensures.ok ∙ ap (with_version c.args.version) c.new-row.ensures in
    let put = on-ok c.insert-3.result _ (sym c.is_err-refused-3.ensures.value ∙ c.if-refused-3.false) c.insert-3.ensures.entries in
    added-new c.args.key.now c.in-Ok.key c.args.version c.args.rows.now.entries c.insert-3.new.self.entries c.insert-2.new.self c.in-Ok.ensures.items none row (rw (put, c.get_mut.follows.holds-at-none) refl)
