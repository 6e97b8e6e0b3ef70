use Rattle.std.proofs.Common.{◌≡◌, None, drop}
use Rattle.std.specs.List.{fold}
use Rattle.std.specs.Option.{option_copied}
use Rattle.script_grammar.specs.Parts.{new_name_after}
use Rattle.script_grammar.proofs.options.new_name_in.Given as goal

abbrev pub invariant-loop-option : goal.invariant-loop-option
invariant-loop-option l = fold new_name_after (option_copied l.found) (drop l.option-index l.options) ≡ fold new_name_after None l.options
