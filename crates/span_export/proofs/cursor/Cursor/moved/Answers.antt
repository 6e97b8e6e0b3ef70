use Rattle.std.proofs.Common.{◌∙◌, ap, sym, Some}
use Rattle.span_export.proofs.Cuts.{place-at}
use Rattle.span_export.proofs.cursor.Cursor.moved.Goals as goal

pub returns-in_ok-place-in-Some : goal.returns-in_ok-place-in-Some
returns-in_ok-place-in-Some c = ap Some c.in_ok-place-in-Some.ensures ∙ sym (place-at c.args.self.now c.args.entries.now c.in-Some.entry.now (sym c.in-Some.ensures.value))
