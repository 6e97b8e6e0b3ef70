-- The ranges of all parts, and then their first chunks.
use Rattle.std.proofs.Common.{refl, sym, subst, List, []}
use Rattle.std.specs.BinaryHeap.{heap_items}
use Rattle.mvcc_keys.specs.declared.entries.Entry.{Entry}
use Rattle.list_laws.proofs.Results.{ok-follows}
use Rattle.layer_merge.specs.Stands.{Stand}
use Rattle.layer_merge.specs.Starts.{BegunSoFar, RangesSoFar, parts_entries}
use Rattle.layer_merge.proofs.StandLaws.{counts-point}
use Rattle.layer_merge.proofs.StartLaws.{all-begun, all-kept, all-ready}
use Rattle.layer_merge.proofs.StepLaws.{if-err, start-fault, step-start, step-unstarted, unstarted-fault}
use Rattle.layer_merge.proofs.OrderLaws.{order-then}
use Rattle.layer_merge.proofs.start.start.Goals as goal

pub returns-clause-world : goal.returns-clause-world
returns-clause-world g c = λ w v done gives o dated hs rs.
    let r = subst (λ (l : List Entry). RangesSoFar w (parts_entries w c.args.waiting.now.items) [] c.all_ranges.new.ready.items l c.all_ranges.new.ranges) rs (c.in-Ok.ensures.world w gives o) in
    let b = all-ready w v done (parts_entries w c.args.waiting.now.items) c.all_ranges.new.ready.items c.all_ranges.new.ranges (counts-point v done) r in
    ok-follows c.begin_all.result _ _ (λ e. (all-kept w (parts_entries w c.args.waiting.now.items) c.all_ranges.new.ready.items c.all_ranges.new.ranges dated r, all-begun w v done (parts_entries w c.args.waiting.now.items) _ e))
    (c.begin_all.ensures.world w v done (parts_entries w c.args.waiting.now.items) (λ to layer number bytes h. gives to layer number bytes (g.met.C.Chunks.came_later _ _ _ _ _ _ _ c.in-Ok.ensures.step.kept h)) (subst (λ (l : List Stand). BegunSoFar w v done (parts_entries w c.args.waiting.now.items) c.all_ranges.new.ready.items l) (sym hs) b))

pub returns-in-Err-clause-step : goal.returns-in-Err-clause-step
returns-in-Err-clause-step g c = step-unstarted _ _ (record { same = g.met.C.Chunks.kept_same; chain = g.met.C.Chunks.kept_chain; later = g.met.C.Chunks.came_later; earlier = g.met.C.Chunks.came_earlier }) _ _ _ _ _ _ c.args.waiting.now.items c.in-Err.ensures.step

pub returns-in-Err-clause-fault : goal.returns-in-Err-clause-fault
returns-in-Err-clause-fault g c = unstarted-fault _ _ (record { same = g.met.C.Chunks.kept_same; chain = g.met.C.Chunks.kept_chain; later = g.met.C.Chunks.came_later; earlier = g.met.C.Chunks.came_earlier }) _ _ g.C.Chunks.loads _ _ (heap_items c.args.cursors.now) c.args.waiting.now.items _ c.in-Err.ensures.step.kept c.in-Err.ensures.fault

pub returns-clause-step : goal.returns-clause-step
returns-clause-step g c = step-start _ _ (record { same = g.met.C.Chunks.kept_same; chain = g.met.C.Chunks.kept_chain; later = g.met.C.Chunks.came_later; earlier = g.met.C.Chunks.came_earlier }) _ _ _ _ _ _ _ _ c.args.waiting.now.items c.all_ranges.new.ready.items c.in-Ok.ensures.fewer c.in-Ok.ensures.step c.begin_all.ensures.step

pub returns-clause-fault : goal.returns-clause-fault
returns-clause-fault g c = if-err c.begin_all.result _ _ (λ f h. start-fault _ _ (record { same = g.met.C.Chunks.kept_same; chain = g.met.C.Chunks.kept_chain; later = g.met.C.Chunks.came_later; earlier = g.met.C.Chunks.came_earlier }) _ _ _ _ _ _ (heap_items c.args.cursors.now) c.args.waiting.now.items c.all_ranges.new.ready.items f c.in-Ok.ensures.fewer c.in-Ok.ensures.step c.begin_all.ensures.step.kept h) c.begin_all.ensures.fault

pub returns-clause-sound : goal.returns-clause-sound
returns-clause-sound g c = λ w gives o. c.begin_all.ensures.sound w (λ to layer number bytes h. gives to layer number bytes (g.met.C.Chunks.came_later _ _ _ _ _ _ _ c.in-Ok.ensures.step.kept h))

pub returns-clause-order : goal.returns-clause-order
returns-clause-order g c = ok-follows c.begin_all.result _ _ (λ o. order-then _ _ (record { same = g.met.C.Chunks.kept_same; chain = g.met.C.Chunks.kept_chain; later = g.met.C.Chunks.came_later; earlier = g.met.C.Chunks.came_earlier }) _ _ _ _ _ _ _ _ _ c.in-Ok.ensures.step.kept c.begin_all.ensures.step.kept (λ cs ds b m. record { ranges = cs; points = ds; ready = c.all_ranges.new.ready.items; whole = refl; backwards = b; forwards = m }) c.in-Ok.ensures.order o) c.begin_all.ensures.order
