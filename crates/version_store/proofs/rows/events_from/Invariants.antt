use Rattle.std.proofs.Common.{◌≡◌, ◌++◌, take}
use Rattle.version_store.specs.Rows.{chosen_in}
use Rattle.version_store.proofs.rows.events_from.Given as goal

abbrev pub invariant-loop-key : goal.invariant-loop-key
invariant-loop-key l = take l.n (l.seen.items ++ chosen_in l.choice l.place l.key-iterator) ≡ take l.n (chosen_in l.choice l.place l.initial.key-iterator)
