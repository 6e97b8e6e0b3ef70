use Rattle.std.proofs.Common.{◌≡◌, T, ℕ, List, None}
use Rattle.outside_world.specs.Entries.{in_order, last_value, objects_of}
use Rattle.outside_world.specs.Objects.{at}
use Rattle.outside_world.proofs.entries.sort_entries.Given as goal

abbrev pub invariant-loop-name : goal.invariant-loop-name
invariant-loop-name l = T (in_order l.entries.items) × ((n : List ℕ) → last_value n l.name-iterator.rest.items (at (objects_of l.entries.items) n) ≡ last_value n l.fn.objects.items None)
