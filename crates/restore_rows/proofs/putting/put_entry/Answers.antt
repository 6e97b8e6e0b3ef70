use Rattle.std.proofs.Common.{◌∙◌, ap, sym, List, ℕ, Ok}
use Rattle.mvcc_keys.specs.declared.entries.Entry.{Entry}
use Rattle.key_rewriter.specs.Rewriting.{rewritten}
use Rattle.restore_rows.proofs.Renewed.{put-renewed}
use Rattle.restore_rows.proofs.putting.put_entry.Goals as goal

pub returns-clause-added : goal.returns-clause-added
returns-clause-added g c T old new item has stored old_small new_small found good may =
    put-renewed _ _ T c.args.ids.now old new item c.args.at c.in-Put.at c.args.entry.now c.in-Put.key c.as_slice-2.result.now c.deref.result.now c.in_ok-put_stored.ensures.added
    (c.in-Put.is ∙ ap (λ (v : List ℕ). Entry.Put c.in-Put.key c.in-Put.at v) (sym c.as_slice-2.ensures))
    (ap (rewritten c.args.ids.now) (sym c.as_slice.ensures) ∙ (c.in_ok-key.ensures.key ∙ ap (λ (k : List ℕ). Ok k) (sym c.deref.ensures.value)))
    has stored old_small new_small found good may
