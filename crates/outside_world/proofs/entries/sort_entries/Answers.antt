use Rattle.std.proofs.Common.{rules, ◌≡◌, ◌∷◌, ◌∙◌, ap, None, T, subst, sym}
use Rattle.outside_world.specs.Entries.{Entries, in_order, last_value, objects_of}
use Rattle.outside_world.specs.Objects.{at}
use Rattle.outside_world.proofs.ByName.{last_value-none, last_value-next, last_value-end}
use Rattle.outside_world.proofs.entries.sort_entries.Goals as goal

pub loop-name-init : goal.loop-name-init
loop-name-init c =
    let all : c.into_iter-name-iterator.result.rest.items ≡ c.args.objects.items = search rules in (
      subst (λ (l : Entries). T (in_order l)) (sym c.new-entries.ensures.items) tt,
      λ n. last_value-none _ n c.into_iter-name-iterator.result.rest.items c.new-entries.ensures.items ∙ ap (λ (l : Entries). last_value n l None) all,
    )

pub loop-name-preserved : goal.loop-name-preserved
loop-name-preserved c =
    let all : c.loop-name.name-iterator.rest.items ≡ (c.in-Some.name, c.in-Some.bytes) ∷ c.next.new.self.rest.items = search rules in (
      c.put_entry.ensures.ordered,
      λ n. last_value-next _ _ n _ _ _ _ c.put_entry.ensures all
          ∙ ap (λ (l : Entries). last_value n c.loop-name.name-iterator.rest.items (at (objects_of l) n)) c.in_ok-reserve.ensures.items
          ∙ c.loop-name.invariant.1 n,
    )

pub returns-clause-objects : goal.returns-clause-objects
returns-clause-objects c = λ n. sym (last_value-end _ n _ (sym c.loop-name.name-iterator.rest.ok.0 ∙ c.in-None.ensures.steps.0)) ∙ c.loop-name.invariant.1 n
