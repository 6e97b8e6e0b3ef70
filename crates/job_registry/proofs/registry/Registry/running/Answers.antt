use Rattle.std.proofs.Common.{◌-◌, arith, ap, inl, sym, ◌∙◌, Some}
use Rattle.std.specs.Option.{option_copied_mut}
use Rattle.indexmap.specs.IndexMap.{with_value_at}
use Rattle.indexmap.proofs.CallerLemmas.{keys-with_value_at, index_map_len-with_value_at}
use Rattle.std.proofs.lemmas.Map.Entries.{length-values_of}
use Rattle.job_registry.proofs.Numbered.{running_place, lent_value}
use Rattle.job_registry.proofs.registry.Registry.running.Goals as goal

pub invariant_of-self-lent : goal.invariant_of-self-lent
invariant_of-self-lent g c w =
    let m = c.self.inside.jobs in
    let n = with_value_at m (c.args.n - 1) (record { state = c.in-Some-get_index_mut.held.now.state; job = w }) in (
      rw (keys-with_value_at m (c.args.n - 1) _) c.self.invariant.0,
      omega (arith, length-values_of n.entries, length-values_of m.entries, index_map_len-with_value_at m (c.args.n - 1) (record { state = c.in-Some-get_index_mut.held.now.state; job = w }), c.self.invariant.1),
    )

pub returns-in-Some-get_index_mut : goal.returns-in-Some-get_index_mut
returns-in-Some-get_index_mut g c =
    let state = sym c.state.ensures.state ∙ (c.in-Some-Running.is ∙ ap Some c.in-Some-Running.field-0-is) in
    let at = sym c.get_index_mut.ensures.value ∙ ap option_copied_mut c.in-Some-get_index_mut.is in
    let place = running_place c.args.self.now c.args.n c.in-Some-get_index_mut.held.now (rw (← c.self.view_is) state) (rw (← c.self.view_is) at) in
    ((λ i. inl (c.held-1.given, λ w. lent_value c.args.self.now c.self.inside.jobs.entries c.args.n _ w c.self.view_is place.0 place.2 i)), record { writes_back = tt; answer = place.1 })
