use Rattle.std.proofs.Common.{rules, ◌∙◌, ◌++◌, ap, List, ℕ, take}
use Rattle.version_store.specs.Rows.{row_chosen}
use Rattle.version_store.proofs.RowChanges.{chosen-more}
use Rattle.version_store.proofs.rows.events_from.Goals as goal

pub loop-key-preserved : goal.loop-key-preserved
loop-key-preserved c = chosen-more c.args.choice.now c.args.place.now c.args.n (c.in-Some.key.now, c.in-Some.row.now) c.next.new.self c.loop-key.seen.items c.add_chosen.new.seen.items _ (c.in_ok-add_chosen.ensures ∙ ap (λ (k : List ℕ). take c.args.n (c.loop-key.seen.items ++ row_chosen c.args.choice.now c.args.place.now k c.in-Some.row.now)) c.as_slice.ensures.value) (search rules)
