use Rattle.std.proofs.lemmas.Grind.{common_steps}
use Rattle.std.proofs.Common.{arith, ◌≡◌, sym, ◌∙◌, map}
use Rattle.outside_world.proofs.ByName.{keys_of}
use Rattle.outside_world.proofs.entries.names_of.Goals as goal

pub returns : goal.returns
returns c =
    let all : c.loop-entry.names.items ≡ map (λ e. e.0) c.args.entries.now = grind (arith, common_steps) in
    all ∙ sym (keys_of c.args.entries.now c.requires)
