use Rattle.std.proofs.Common.{rules, arith, ◌∙◌, ap, List, ℕ}
use Rattle.outside_world.proofs.ByName.{below-le, count_below, touched_put}
use Rattle.outside_world.proofs.entries.add_name.Goals as goal

pub returns : goal.returns
returns c = touched_put _ _ _ _ _ c.requires.ordered c.remove_name.ensures.items (c.name_place-place.ensures ∙ ap (λ (ts : List (List ℕ)). count_below (λ t. t) c.args.name ts) c.deref.ensures.value) (search rules)

pub insert-requires : goal.insert-requires
insert-requires c = omega (arith, c.name_place-place.ensures, below-le (λ t. t) c.args.name c.deref.result.now, c.deref.ensures.len)
