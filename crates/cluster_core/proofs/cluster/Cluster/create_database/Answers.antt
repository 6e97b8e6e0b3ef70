use Rattle.cluster_core.proofs.SchemaCommands.{database-made}
use Rattle.cluster_core.proofs.cluster.Cluster.create_database.Goals as goal

pub returns-clause-step : goal.returns-clause-step
returns-clause-step c = rw (← c.self.view_is, c.in_ok-create_database.ensures.made.1) (database-made _ c.args.name.now c.in_ok-create_database.ensures.made.0)
