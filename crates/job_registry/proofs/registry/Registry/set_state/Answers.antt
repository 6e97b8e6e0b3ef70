use Rattle.std.proofs.Common.{◌-◌, arith, ap, sym, ◌∙◌}
use Rattle.std.specs.Option.{option_copied_mut}
use Rattle.indexmap.specs.IndexMap.{with_value_at}
use Rattle.indexmap.proofs.CallerLemmas.{keys-with_value_at, index_map_len-with_value_at}
use Rattle.std.proofs.lemmas.Map.Entries.{length-values_of}
use Rattle.job_registry.proofs.Numbered.{stated_value}
use Rattle.job_registry.proofs.registry.Registry.set_state.Goals as goal

pub invariant_of-self-2 : goal.invariant_of-self-2
invariant_of-self-2 g c =
    let m = c.self.inside.jobs in
    let n = with_value_at m (c.args.n - 1) (record { state = c.args.state; job = c.in-Some.held.now.job }) in (
      rw (keys-with_value_at m (c.args.n - 1) _) c.self.invariant.0,
      omega (arith, length-values_of n.entries, length-values_of m.entries, index_map_len-with_value_at m (c.args.n - 1) (record { state = c.args.state; job = c.in-Some.held.now.job }), c.self.invariant.1),
    )

pub returns : goal.returns
returns g c =
    let at = sym c.get_index_mut.ensures.value ∙ ap option_copied_mut c.in-Some.is in
    stated_value c.args.self.now c.self.inside.jobs.entries c.args.n c.in-Some.held.now c.args.state c.self.view_is c.if-n-eq0.false (rw (← c.self.view_is) at)
