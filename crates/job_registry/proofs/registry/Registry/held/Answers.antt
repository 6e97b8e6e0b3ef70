use Rattle.std.proofs.Common.{◌∙◌}
use Rattle.job_registry.proofs.Numbered.{lookup-job_at}
use Rattle.job_registry.proofs.registry.Registry.held.Goals as goal

pub returns-clause-held : goal.returns-clause-held
returns-clause-held g c = rw (← c.self.view_is) (c.get.ensures.value ∙ lookup-job_at c.args.n c.self.inside.jobs.entries c.self.invariant.0)
