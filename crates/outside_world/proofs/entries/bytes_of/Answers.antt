use Rattle.std.proofs.lemmas.Grind.{common_steps}
use Rattle.std.proofs.Common.{arith, ◌≡◌, Some, None, sym, ◌∙◌}
use Rattle.std.specs.FinMap.{find}
use Rattle.std.specs.Cmp.Lexicographic.{slice_cmp}
use Rattle.std.specs.Ordering.{nat_cmp}
use Rattle.outside_world.proofs.ByName.{found_at}
use Rattle.outside_world.proofs.entries.bytes_of.Goals as goal

pub returns-then-is_eq : goal.returns-then-is_eq
returns-then-is_eq c =
    let found : Some c.into_vec.result.items ≡ find (slice_cmp nat_cmp) c.args.name.now c.args.entries.now = grind (arith, common_steps) in
    found ∙ sym (found_at c.args.entries.now c.args.name.now c.requires)

pub returns : goal.returns
returns c =
    let found : None ≡ find (slice_cmp nat_cmp) c.args.name.now c.args.entries.now = grind (arith, common_steps) in
    found ∙ sym (found_at c.args.entries.now c.args.name.now c.requires)
