use Rattle.std.proofs.Common.{◌∙◌, ap, ap₂, sym, is_eq}
use Rattle.version_store.specs.Tables.{bytes_cmp}
use Rattle.version_store.specs.Lists.{entries_same, is_same}
use Rattle.version_store.proofs.Firsts.{last-is}
use Rattle.version_store.proofs.newest.is_of_last.Goals as goal

pub returns-in-Some : goal.returns-in-Some
returns-in-Some c = c.is_eq.ensures ∙ (ap is_eq (c.cmp.ensures ∙ ap₂ bytes_cmp c.key_of.ensures c.key_of-in-Some.ensures) ∙ sym (ap (λ k. is_same entries_same k c.args.entry.now) (last-is c.args.kept.now ∙ sym c.in-Some.ensures.value)))
