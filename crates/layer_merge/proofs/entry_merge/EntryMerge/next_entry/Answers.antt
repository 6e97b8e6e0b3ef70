-- The next row is the next entry.
use Rattle.layer_merge.proofs.StepLaws.{if-put}
use Rattle.layer_merge.proofs.entry_merge.EntryMerge.next_entry.Goals as goal

pub returns-in-None-clause-fault : goal.returns-in-None-clause-fault
returns-in-None-clause-fault g c = rw (← c.self.view_is) c.next_row.ensures.fault

pub returns-in-None-clause-order : goal.returns-in-None-clause-order
returns-in-None-clause-order g c = rw (← c.self.view_is) (λ e. c.next_row.ensures.order)

pub returns-in-None-clause-made : goal.returns-in-None-clause-made
returns-in-None-clause-made g c = rw (← c.self.view_is) c.next_row.ensures.made

pub returns-in-None-clause-behind : goal.returns-in-None-clause-behind
returns-in-None-clause-behind g c = rw (← c.self.view_is) (λ w all gives m. if-put c.next_row.result _ _ (λ e o p. o) (c.next_row.ensures.behind w all gives m))
