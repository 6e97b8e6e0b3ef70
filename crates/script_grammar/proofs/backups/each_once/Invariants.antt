use Rattle.std.proofs.Common.{◌≡◌, [], drop}
use Rattle.std.specs.List.{fold}
use Rattle.script_grammar.specs.Parts.{with_table}
use Rattle.script_grammar.proofs.backups.each_once.Given as goal

abbrev pub invariant-loop-table : goal.invariant-loop-table
invariant-loop-table l = fold with_table l.found.items (drop l.table-index l.tables) ≡ fold with_table [] l.tables
