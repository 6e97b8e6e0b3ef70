-- The first of the range deletions that are kept.
use Rattle.std.proofs.Common.{◌≡◌, true, sym, subst, List}
use Rattle.std.specs.List.{AllByRecursion}
use Rattle.mvcc_keys.specs.declared.entries.Entry.{Entry}
use Rattle.chunk_file.specs.Entries.{is_range}
use Rattle.layer_merge.specs.Rows.{Gave}
use Rattle.layer_merge.proofs.EntryLaws.{held-ranges, queue-first, queue-gave, queue-ranges}
use Rattle.layer_merge.proofs.entry_merge.EntryMerge.first_range.Goals as goal

pub invariant_of-self : goal.invariant_of-self
invariant_of-self c = queue-ranges _ _ c.pop_front.ensures.rest (subst (AllByRecursion (λ (e : Entry). is_range e ≡ true)) (sym c.in-Ok.ensures) (held-ranges c.args.from c.self.inside.walk))

pub returns-in-Ok-clause-kind : goal.returns-in-Ok-clause-kind
returns-in-Ok-clause-kind c = queue-first _ _ _ c.pop_front.ensures.items (subst (AllByRecursion (λ (e : Entry). is_range e ≡ true)) (sym c.in-Ok.ensures) (held-ranges c.args.from c.self.inside.walk))

pub returns-in-Ok-clause-ranges : goal.returns-in-Ok-clause-ranges
returns-in-Ok-clause-ranges c = rw (← c.self.view_is) (subst (λ (l : List Entry). Gave c.pop_front.result l c.pop_front.new.self.items) c.in-Ok.ensures (queue-gave _ _ _ c.pop_front.ensures.items c.pop_front.ensures.rest))
