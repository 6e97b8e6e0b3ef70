use Rattle.std.proofs.Common.{List, sym, ap, subst, ◌∙◌}
use Rattle.layer_manifest.specs.declared.manifest.TablePart.{TablePart}
use Rattle.layer_manifest.specs.Manifests.{chunk_count}
use Rattle.layer_book.specs.Books.{Book, without_layer}
use Rattle.machine_model.specs.Backups.{forget}
use Rattle.cluster_core.specs.ClusterView.{ClusterState}
use Rattle.cluster_core.specs.Halting.{halt_of_dir}
use Rattle.cluster_core.specs.Standing.{Runs}
use Rattle.cluster_core.specs.Backing.{AreLayersFrom}
use Rattle.cluster_core.proofs.BackingUp.{as-returned}
use Rattle.cluster_core.proofs.Forgetting.{done-runs, done-still, fault-runs, few-chunks, none-runs, own-changes, source-runs}
use Rattle.cluster_core.proofs.cluster.Cluster.forget.Goals as goal

pub returns-in_err-layers-clause-step : goal.returns-in_err-layers-clause-step
returns-in_err-layers-clause-step g c = λ m to may. as-returned (λ r. Runs c.args.self.now (forget m c.args.source.now c.args.collection.now c.args.start c.args.end) to r (g.D.Disk.view c.args.disk.now) (g.D.Disk.view c.args.disk.now)) c.from_residual.result c.in_err-layers.field-0.0 c.from_residual.ensures.1 (source-runs c.args.self.now c.args.source.now c.args.collection.now c.args.start c.args.end (g.D.Disk.view c.args.disk.now) c.in_err-layers.field-0.0 c.in_err-layers.ensures.fault (g.met.D.Disk.only_now c.args.disk.now) m to may)

pub chunk_count-requires : goal.chunk_count-requires
chunk_count-requires g c = rw c.as_slice.ensures (few-chunks c.args.self.now c.args.source.now c.args.collection.now c.args.start c.args.end c.deref.result.now (subst (AreLayersFrom c.args.self.now.book c.args.source.now c.args.collection.now) (sym c.deref.ensures.value) c.in_ok-layers.ensures.layers) c.in-Some.field-0.now (sym c.in-Some.ensures) c.requires.stands)

pub forget_layer-requires : goal.forget_layer-requires
forget_layer-requires g c = rw (c.chunk_count.ensures, c.as_slice.ensures) (few-chunks c.args.self.now c.args.source.now c.args.collection.now c.args.start c.args.end c.deref.result.now (subst (AreLayersFrom c.args.self.now.book c.args.source.now c.args.collection.now) (sym c.deref.ensures.value) c.in_ok-layers.ensures.layers) c.in-Some.field-0.now (sym c.in-Some.ensures) c.requires.stands)

pub returns-in_err-forget_layer-in-Some-clause-step : goal.returns-in_err-forget_layer-in-Some-clause-step
returns-in_err-forget_layer-in-Some-clause-step g c = λ m to may. as-returned (λ r. Runs c.args.self.now (forget m c.args.source.now c.args.collection.now c.args.start c.args.end) to r (g.D.Disk.view c.args.disk.now) (g.D.Disk.view c.forget_layer.new.disk)) c.from_residual-in_err-forget_layer-in-Some.result (halt_of_dir c.in_err-forget_layer-in-Some.field-0.0) c.from_residual-in_err-forget_layer-in-Some.ensures.1 (fault-runs c.args.self.now c.args.source.now c.args.collection.now c.args.start c.args.end c.deref.result.now (subst (AreLayersFrom c.args.self.now.book c.args.source.now c.args.collection.now) (sym c.deref.ensures.value) c.in_ok-layers.ensures.layers) c.in-Some.field-0.now (sym c.in-Some.ensures) c.chunk_count.result (c.chunk_count.ensures ∙ ap (λ (ts : List TablePart). chunk_count ts) c.as_slice.ensures) (g.D.Disk.view c.args.disk.now) (g.D.Disk.view c.forget_layer.new.disk) c.forget_layer.ensures.layer c.forget_layer.ensures.changes c.forget_layer.ensures.stays c.in_err-forget_layer-in-Some.field-0.0 c.in_err-forget_layer-in-Some.ensures.fault m to may)

pub returns-in_err-forget_layer-in-Some-clause-changes : goal.returns-in_err-forget_layer-in-Some-clause-changes
returns-in_err-forget_layer-in-Some-clause-changes g c = own-changes c.args.self.now c.args.source.now c.args.collection.now c.args.start c.args.end c.deref.result.now (subst (AreLayersFrom c.args.self.now.book c.args.source.now c.args.collection.now) (sym c.deref.ensures.value) c.in_ok-layers.ensures.layers) c.in-Some.field-0.now (sym c.in-Some.ensures) c.chunk_count.result (c.chunk_count.ensures ∙ ap (λ (ts : List TablePart). chunk_count ts) c.as_slice.ensures) (g.D.Disk.view c.args.disk.now) (g.D.Disk.view c.forget_layer.new.disk) c.forget_layer.ensures.changes c.requires.stands

pub returns-in-Some-clause-step : goal.returns-in-Some-clause-step
returns-in-Some-clause-step g c = done-runs c.args.self.now c.args.source.now c.args.collection.now c.args.start c.args.end c.deref.result.now (subst (AreLayersFrom c.args.self.now.book c.args.source.now c.args.collection.now) (sym c.deref.ensures.value) c.in_ok-layers.ensures.layers) c.in-Some.field-0.now (sym c.in-Some.ensures) c.chunk_count.result (c.chunk_count.ensures ∙ ap (λ (ts : List TablePart). chunk_count ts) c.as_slice.ensures) (g.D.Disk.view c.args.disk.now) (g.D.Disk.view c.forget_layer.new.disk) c.forget_layer.ensures.layer c.forget_layer.ensures.changes c.forget_layer.ensures.stays c.in_ok-forget_layer-in-Some.ensures.absent c.in_ok-forget_layer-in-Some.ensures.settled (λ t image known le is. g.met.D.Disk.counts_now c.forget_layer.new.disk t image known le is) _ (ap (λ (x : ClusterState). record x { book = c.remove.new.self }) c.self.view_is ∙ ap (λ (b : Book). record c.args.self.now { book = b }) (c.remove.ensures ∙ ap (λ (x : ClusterState). without_layer x.book c.in-Some.field-0.now.0) c.self.view_is))

pub returns-in-Some-clause-stays : goal.returns-in-Some-clause-stays
returns-in-Some-clause-stays g c = done-still c.args.self.now c.args.source.now c.args.collection.now c.args.start c.args.end c.deref.result.now (subst (AreLayersFrom c.args.self.now.book c.args.source.now c.args.collection.now) (sym c.deref.ensures.value) c.in_ok-layers.ensures.layers) c.in-Some.field-0.now (sym c.in-Some.ensures) _ (ap (λ (x : ClusterState). record x { book = c.remove.new.self }) c.self.view_is ∙ ap (λ (b : Book). record c.args.self.now { book = b }) (c.remove.ensures ∙ ap (λ (x : ClusterState). without_layer x.book c.in-Some.field-0.now.0) c.self.view_is)) c.requires.stands

pub returns-in-Some-clause-changes : goal.returns-in-Some-clause-changes
returns-in-Some-clause-changes g c = own-changes c.args.self.now c.args.source.now c.args.collection.now c.args.start c.args.end c.deref.result.now (subst (AreLayersFrom c.args.self.now.book c.args.source.now c.args.collection.now) (sym c.deref.ensures.value) c.in_ok-layers.ensures.layers) c.in-Some.field-0.now (sym c.in-Some.ensures) c.chunk_count.result (c.chunk_count.ensures ∙ ap (λ (ts : List TablePart). chunk_count ts) c.as_slice.ensures) (g.D.Disk.view c.args.disk.now) (g.D.Disk.view c.forget_layer.new.disk) c.forget_layer.ensures.changes c.requires.stands

pub returns-clause-step : goal.returns-clause-step
returns-clause-step g c = none-runs c.args.self.now c.args.source.now c.args.collection.now c.args.start c.args.end c.deref.result.now (subst (AreLayersFrom c.args.self.now.book c.args.source.now c.args.collection.now) (sym c.deref.ensures.value) c.in_ok-layers.ensures.layers) (sym c.in-None.ensures) (g.D.Disk.view c.args.disk.now) (g.met.D.Disk.only_now c.args.disk.now)
