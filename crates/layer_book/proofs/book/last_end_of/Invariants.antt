use Rattle.std.proofs.Common.{◌≡◌, drop}
use Rattle.std.specs.List.{fold}
use Rattle.layer_book.specs.Books.{name_in}
use Rattle.layer_book.specs.Subdirectories.{end_times, greatest, later_time}
use Rattle.layer_book.proofs.book.last_end_of.Given as goal

abbrev pub invariant-loop-entry : goal.invariant-loop-entry
invariant-loop-entry l = fold later_time l.last (end_times name_in l.collection l.cluster l.full (drop l.entry-index l.layers)) ≡ greatest (end_times name_in l.collection l.cluster l.full l.layers)
