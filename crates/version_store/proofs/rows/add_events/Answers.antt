use Rattle.std.proofs.Common.{◌∙◌, ap, refl, take}
use Rattle.version_store.specs.Rows.{is_event}
use Rattle.version_store.proofs.RowChanges.{events-more}
use Rattle.version_store.proofs.rows.add_events.Goals as goal

pub loop-version-preserved : goal.loop-version-preserved
loop-version-preserved c = ap (take c.args.n) (events-more (is_event c.args.from c.args.upto.now c.args.place.now) c.args.key.now c.args.versions.now c.loop-version.version-index c.version-item.result c.loop-version.seen.items c.add_event.new.seen.items _ c.loop-version-test.true c.version-item.is c.in_ok-add_event.ensures refl) ∙ c.loop-version.invariant
