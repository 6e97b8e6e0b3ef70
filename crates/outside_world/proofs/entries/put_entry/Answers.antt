use Rattle.std.proofs.Common.{rules, arith, ◌∙◌, ap}
use Rattle.outside_world.specs.Entries.{Entries}
use Rattle.outside_world.proofs.ByName.{below-le, count_below, set_put}
use Rattle.outside_world.proofs.entries.put_entry.Goals as goal

pub returns : goal.returns
returns c = set_put _ _ _ _ _ _ c.requires.ordered c.remove_entry.ensures.items (c.entry_place-place.ensures ∙ ap (λ (es : Entries). count_below (λ e. e.0) c.args.name es) c.deref.ensures.value) (search rules)

pub insert-requires : goal.insert-requires
insert-requires c = omega (arith, c.entry_place-place.ensures, below-le (λ e. e.0) c.args.name c.deref.result.now, c.deref.ensures.len)
