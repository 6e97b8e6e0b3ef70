use Rattle.std.proofs.Common.{sym, ap, ◌∙◌}
use Rattle.reply_texts.specs.declared.answers.Answer.TheVariants.{BackupsShown}
use Rattle.machine_model.specs.Machine.{answered}
use Rattle.machine_model.specs.Backups.{show_backups}
use Rattle.cluster_core.specs.ClusterView.{view_of}
use Rattle.cluster_core.specs.Standing.{machine_of}
use Rattle.cluster_core.proofs.Flow.{does}
use Rattle.cluster_core.proofs.Sources.{subdirectories-are}
use Rattle.cluster_core.proofs.cluster.Cluster.show_backups.Goals as goal

pub returns : goal.returns
unfolding show_backups
returns c = rw (← c.self.view_is) (λ tables k. does (view_of c.self.inside) tables (BackupsShown c.from_vec.result) _ k
    (ap (λ xs. answered (machine_of (view_of c.self.inside) tables) (BackupsShown xs)) (subdirectories-are (view_of c.self.inside) tables c.args.collection.now ∙ sym (c.from_vec.ensures ∙ c.in_ok-subdirectories.ensures))))
