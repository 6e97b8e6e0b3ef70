-- One chunk more, from the last one backwards.
use Rattle.std.proofs.Common.{refl, ◌≡◌, ◌∙◌, true, false, [], sym, is_err, arith, append-nil}
use Rattle.layer_merge.specs.Stands.{first_of}
use Rattle.chunk_file.specs.Held.{left_at}
use Rattle.layer_merge.specs.Ranges.{begins_with_range, is_before}
use Rattle.layer_merge.specs.Steps.{MayLoad, loads_of, times}
use Rattle.layer_merge.proofs.RangeFaults.{loaded-there, unordered-fault}
use Rattle.layer_merge.proofs.StepLaws.{fault-after, fewer-left, fewer-none, load-fault, may-last, range-asked, step-lost, step-none, step-range}
use Rattle.layer_merge.proofs.RangeLaws.{chunk-upward, popped, pushed-ok, taken-more, taken-start, taken-stop, unbroken}
use Rattle.layer_merge.proofs.OrderLaws.{back-end, back-more, back-start, back-stop, goes-to, nothing, order-along, order-next, order-none}
use Rattle.layer_merge.proofs.ranges.take_ranges.Goals as goal

pub add_ranges-requires : goal.add_ranges-requires
add_ranges-requires g c = chunk-upward _ _ _ c.in-Ok.ensures.loaded.chunk

pub loop-number-init : goal.loop-number-init
loop-number-init g c = record { step = step-none _ _ (record { same = g.met.C.Chunks.kept_same; chain = g.met.C.Chunks.kept_chain; later = g.met.C.Chunks.came_later; earlier = g.met.C.Chunks.came_earlier }) _ _ _ _ _ _; last = tt; order = order-none _ _ (record { same = g.met.C.Chunks.kept_same; chain = g.met.C.Chunks.kept_chain; later = g.met.C.Chunks.came_later; earlier = g.met.C.Chunks.came_earlier }) _ _ _ _ _ (back-start _ _); layer = refl; world = λ w gives o. taken-start _ _ }

pub returns-in-Err-clause-step : goal.returns-in-Err-clause-step
returns-in-Err-clause-step g c = step-lost _ _ (record { same = g.met.C.Chunks.kept_same; chain = g.met.C.Chunks.kept_chain; later = g.met.C.Chunks.came_later; earlier = g.met.C.Chunks.came_earlier }) _ _ _ _ _ _ _ _ _ (step-range _ _ (record { same = g.met.C.Chunks.kept_same; chain = g.met.C.Chunks.kept_chain; later = g.met.C.Chunks.came_later; earlier = g.met.C.Chunks.came_earlier }) _ _ _ _ _ _ c.args.part.now.layer c.loop-number.part.layer c.in-Some.number c.args.part.now.numbers.items c.loop-number.part.numbers.items c.pop_back.new.self.items c.in-Some.ensures.items c.loop-number.invariant.layer c.loop-number.invariant.step c.in-Err.ensures.kept c.in-Err.ensures.told)

pub returns-in-Err-clause-fault : goal.returns-in-Err-clause-fault
returns-in-Err-clause-fault g c = fault-after _ _ (record { same = g.met.C.Chunks.kept_same; chain = g.met.C.Chunks.kept_chain; later = g.met.C.Chunks.came_later; earlier = g.met.C.Chunks.came_earlier }) _ _ _ _ _ _ [] [] _ _ _ c.loop-number.invariant.step c.in-Err.ensures.kept (load-fault _ _ (record { same = g.met.C.Chunks.kept_same; chain = g.met.C.Chunks.kept_chain; later = g.met.C.Chunks.came_later; earlier = g.met.C.Chunks.came_earlier }) _ _ _ _ _ _ _ _ _ (may-last _ c.args.part.now.layer c.loop-number.part.layer c.in-Some.number c.loop-number.part.numbers.items c.pop_back.new.self.items c.in-Some.ensures.items c.loop-number.invariant.layer) c.in-Err.ensures.fault)

pub returns-in-Err-clause-sound : goal.returns-in-Err-clause-sound
returns-in-Err-clause-sound g c = λ w gives o. c.in-Err.ensures.sound w (λ to layer number bytes h. gives to layer number bytes (g.met.C.Chunks.came_later _ _ _ _ _ _ _ c.loop-number.invariant.step.kept h))

pub returns-in-Err-add_ranges-clause-step : goal.returns-in-Err-add_ranges-clause-step
returns-in-Err-add_ranges-clause-step g c = step-lost _ _ (record { same = g.met.C.Chunks.kept_same; chain = g.met.C.Chunks.kept_chain; later = g.met.C.Chunks.came_later; earlier = g.met.C.Chunks.came_earlier }) _ _ _ _ _ _ _ _ _ (step-range _ _ (record { same = g.met.C.Chunks.kept_same; chain = g.met.C.Chunks.kept_chain; later = g.met.C.Chunks.came_later; earlier = g.met.C.Chunks.came_earlier }) _ _ _ _ _ _ c.args.part.now.layer c.loop-number.part.layer c.in-Some.number c.args.part.now.numbers.items c.loop-number.part.numbers.items c.pop_back.new.self.items c.in-Some.ensures.items c.loop-number.invariant.layer c.loop-number.invariant.step c.in-Ok.ensures.kept c.in-Ok.ensures.told)

pub returns-then-not-is_before-clause-step : goal.returns-then-not-is_before-clause-step
returns-then-not-is_before-clause-step g c = step-lost _ _ (record { same = g.met.C.Chunks.kept_same; chain = g.met.C.Chunks.kept_chain; later = g.met.C.Chunks.came_later; earlier = g.met.C.Chunks.came_earlier }) _ _ _ _ _ _ _ _ _ (step-range _ _ (record { same = g.met.C.Chunks.kept_same; chain = g.met.C.Chunks.kept_chain; later = g.met.C.Chunks.came_later; earlier = g.met.C.Chunks.came_earlier }) _ _ _ _ _ _ c.args.part.now.layer c.loop-number.part.layer c.in-Some.number c.args.part.now.numbers.items c.loop-number.part.numbers.items c.pop_back.new.self.items c.in-Some.ensures.items c.loop-number.invariant.layer c.loop-number.invariant.step c.in-Ok.ensures.kept c.in-Ok.ensures.told)

pub returns-then-not-is_before-clause-fault : goal.returns-then-not-is_before-clause-fault
returns-then-not-is_before-clause-fault g c =
    let b : is_before c.in-Some.number (first_of (left_at c.in-Ok.chunk c.in-Ok-add_ranges.last)) c.loop-number.after ≡ false = sym c.is_before.ensures ∙ c.if-not-is_before.true in
    unordered-fault _ _ (record { same = g.met.C.Chunks.kept_same; chain = g.met.C.Chunks.kept_chain; later = g.met.C.Chunks.came_later; earlier = g.met.C.Chunks.came_earlier }) _ _ _ _ _ (MayLoad (λ x. times x (loads_of c.args.table c.args.part.now.layer c.args.part.now.numbers.items)) c.args.table) _ _ _ _ _ _ _ _ _ c.loop-number.invariant.layer c.loop-number.invariant.step.kept c.in-Ok.ensures.kept c.in-Ok.ensures.loaded (range-asked _ _ (record { same = g.met.C.Chunks.kept_same; chain = g.met.C.Chunks.kept_chain; later = g.met.C.Chunks.came_later; earlier = g.met.C.Chunks.came_earlier }) _ _ _ _ _ c.args.part.now.layer c.loop-number.part.layer c.in-Some.number c.args.part.now.numbers.items c.loop-number.part.numbers.items c.pop_back.new.self.items c.in-Some.ensures.items c.loop-number.invariant.layer c.loop-number.invariant.step) c.loop-number.invariant.last c.in-Ok-add_ranges.ensures.start c.in-Ok-add_ranges.ensures.last b c.after_number.ensures c.after_first.ensures

pub returns-then-not-is_before-clause-sound : goal.returns-then-not-is_before-clause-sound
returns-then-not-is_before-clause-sound g c = λ w gives o.
    let b : is_before c.in-Some.number (first_of (left_at c.in-Ok.chunk c.in-Ok-add_ranges.last)) c.loop-number.after ≡ false = sym c.is_before.ensures ∙ c.if-not-is_before.true in
    let same = c.in-Ok.ensures.world w (λ to layer number bytes h. gives to layer number bytes (g.met.C.Chunks.came_later _ _ _ _ _ _ _ c.loop-number.invariant.step.kept h)) in
    absurd (unbroken _ _ c.in-Ok.chunk _ _ _ _ _ c.in-Ok-add_ranges.ensures.start b o (popped w _ _ _ _ _ c.in-Ok.chunk _ _ _ _ c.in-Some.ensures.items c.loop-number.invariant.layer same (c.loop-number.invariant.world w gives o)))

pub returns-then-is_err-clause-step : goal.returns-then-is_err-clause-step
returns-then-is_err-clause-step g c = step-lost _ _ (record { same = g.met.C.Chunks.kept_same; chain = g.met.C.Chunks.kept_chain; later = g.met.C.Chunks.came_later; earlier = g.met.C.Chunks.came_earlier }) _ _ _ _ _ _ _ _ _ (step-range _ _ (record { same = g.met.C.Chunks.kept_same; chain = g.met.C.Chunks.kept_chain; later = g.met.C.Chunks.came_later; earlier = g.met.C.Chunks.came_earlier }) _ _ _ _ _ _ c.args.part.now.layer c.loop-number.part.layer c.in-Some.number c.args.part.now.numbers.items c.loop-number.part.numbers.items c.pop_back.new.self.items c.in-Some.ensures.items c.loop-number.invariant.layer c.loop-number.invariant.step c.in-Ok.ensures.kept c.in-Ok.ensures.told)

pub returns-then-not-begins_with_range-clause-step : goal.returns-then-not-begins_with_range-clause-step
returns-then-not-begins_with_range-clause-step g c = step-lost _ _ (record { same = g.met.C.Chunks.kept_same; chain = g.met.C.Chunks.kept_chain; later = g.met.C.Chunks.came_later; earlier = g.met.C.Chunks.came_earlier }) _ _ _ _ _ _ _ _ _ (step-range _ _ (record { same = g.met.C.Chunks.kept_same; chain = g.met.C.Chunks.kept_chain; later = g.met.C.Chunks.came_later; earlier = g.met.C.Chunks.came_earlier }) _ _ _ _ _ _ c.args.part.now.layer c.loop-number.part.layer c.in-Some.number c.args.part.now.numbers.items c.loop-number.part.numbers.items c.pop_back.new.self.items c.in-Some.ensures.items c.loop-number.invariant.layer c.loop-number.invariant.step c.in-Ok.ensures.kept c.in-Ok.ensures.told)

pub returns-then-not-begins_with_range-clause-fewer : goal.returns-then-not-begins_with_range-clause-fewer
returns-then-not-begins_with_range-clause-fewer g c =
    let e : is_err c.push_back.result ≡ false = cc in
    fewer-left _ _ (record { same = g.met.C.Chunks.kept_same; chain = g.met.C.Chunks.kept_chain; later = g.met.C.Chunks.came_later; earlier = g.met.C.Chunks.came_earlier }) _ _ _ _ _ c.args.part.now.layer c.loop-number.part.layer c.in-Some.number c.args.part.now.numbers.items c.loop-number.part.numbers.items c.pop_back.new.self.items c.push_back.new.self.items c.in-Some.ensures.items (pushed-ok _ _ _ _ e c.push_back.ensures.items) c.loop-number.invariant.layer c.loop-number.invariant.step

pub returns-clause-step : goal.returns-clause-step
returns-clause-step g c = step-lost _ _ (record { same = g.met.C.Chunks.kept_same; chain = g.met.C.Chunks.kept_chain; later = g.met.C.Chunks.came_later; earlier = g.met.C.Chunks.came_earlier }) _ _ _ _ _ _ _ _ _ c.loop-number.invariant.step

pub returns-clause-fewer : goal.returns-clause-fewer
returns-clause-fewer g c = fewer-none _ _ (record { same = g.met.C.Chunks.kept_same; chain = g.met.C.Chunks.kept_chain; later = g.met.C.Chunks.came_later; earlier = g.met.C.Chunks.came_earlier }) _ _ _ _ _ c.args.part.now.layer c.loop-number.part.layer c.args.part.now.numbers.items c.loop-number.part.numbers.items c.pop_back.new.self.items c.in_default.ensures.items c.loop-number.invariant.layer c.loop-number.invariant.step

pub returns-then-not-begins_with_range-clause-world : goal.returns-then-not-begins_with_range-clause-world
returns-then-not-begins_with_range-clause-world g c = λ w gives o.
    let e : is_err c.push_back.result ≡ false = cc in
    let b : begins_with_range (first_of c.in-Ok.chunk) ≡ false = sym c.begins_with_range.ensures ∙ c.if-not-begins_with_range.true in
    let t = c.loop-number.invariant.world w gives o in
    let same = c.in-Ok.ensures.world w (λ to layer number bytes h. gives to layer number bytes (g.met.C.Chunks.came_later _ _ _ _ _ _ _ c.loop-number.invariant.step.kept h)) in
    taken-stop w _ _ _ _ _ _ c.in-Ok.chunk _ _ _ _ _ c.in-Some.ensures.items (pushed-ok _ _ _ _ e c.push_back.ensures.items) c.loop-number.invariant.layer same o b c.in-Ok.ensures.loaded.chunk.some c.in-Ok-add_ranges.ensures.kept t

pub loop-number-preserved : goal.loop-number-preserved
loop-number-preserved g c =
    let b : begins_with_range (first_of c.in-Ok.chunk) ≡ true = sym c.begins_with_range.ensures ∙ c.if-not-begins_with_range.false in
    record {
      step = step-range _ _ (record { same = g.met.C.Chunks.kept_same; chain = g.met.C.Chunks.kept_chain; later = g.met.C.Chunks.came_later; earlier = g.met.C.Chunks.came_earlier }) _ _ _ _ _ _ c.args.part.now.layer c.loop-number.part.layer c.in-Some.number c.args.part.now.numbers.items c.loop-number.part.numbers.items c.pop_back.new.self.items c.in-Some.ensures.items c.loop-number.invariant.layer c.loop-number.invariant.step c.in-Ok.ensures.kept c.in-Ok.ensures.told;
      last = loaded-there _ _ (record { same = g.met.C.Chunks.kept_same; chain = g.met.C.Chunks.kept_chain; later = g.met.C.Chunks.came_later; earlier = g.met.C.Chunks.came_earlier }) _ _ _ _ _ (MayLoad (λ x. times x (loads_of c.args.table c.args.part.now.layer c.args.part.now.numbers.items)) c.args.table) _ _ _ _ c.loop-number.invariant.layer c.loop-number.invariant.step.kept c.in-Ok.ensures.loaded (range-asked _ _ (record { same = g.met.C.Chunks.kept_same; chain = g.met.C.Chunks.kept_chain; later = g.met.C.Chunks.came_later; earlier = g.met.C.Chunks.came_earlier }) _ _ _ _ _ c.args.part.now.layer c.loop-number.part.layer c.in-Some.number c.args.part.now.numbers.items c.loop-number.part.numbers.items c.pop_back.new.self.items c.in-Some.ensures.items c.loop-number.invariant.layer c.loop-number.invariant.step);
      order = order-next _ _ (record { same = g.met.C.Chunks.kept_same; chain = g.met.C.Chunks.kept_chain; later = g.met.C.Chunks.came_later; earlier = g.met.C.Chunks.came_earlier }) _ _ _ _ _ _ _ _ _ _ _ _ c.loop-number.invariant.layer c.loop-number.invariant.step.kept c.in-Ok.ensures.kept c.in-Ok.ensures.loaded c.in-Ok.ensures.told (λ cs ds so one. back-more c.args.part.now.layer c.in-Some.number c.args.part.now.numbers.items c.loop-number.part.numbers.items c.pop_back.new.self.items c.in-Ok.chunk c.loop-number.after _ cs ds refl refl one c.in-Some.ensures.items (goes-to c.args.part.now.layer c.in-Some.number c.in-Ok-add_ranges.last c.in-Ok.chunk c.loop-number.after c.in-Ok-add_ranges.ensures.start c.in-Ok-add_ranges.ensures.last (c.in-Ok-add_ranges.ensures.some c.in-Ok.ensures.loaded.chunk.some) (sym c.is_before.ensures ∙ c.if-not-is_before.false)) b so) c.loop-number.invariant.order;
      layer = c.loop-number.invariant.layer;
      world = λ w gives o.
          let t = c.loop-number.invariant.world w gives o in
          let same = c.in-Ok.ensures.world w (λ to layer number bytes h. gives to layer number bytes (g.met.C.Chunks.came_later _ _ _ _ _ _ _ c.loop-number.invariant.step.kept h)) in
          taken-more _ _ c.in-Ok.chunk _ c.loop-number.ranges _ _ _ refl o b c.in-Ok-add_ranges.ensures.kept (popped w _ _ _ _ _ c.in-Ok.chunk _ _ _ _ c.in-Some.ensures.items c.loop-number.invariant.layer same t);
    }

pub returns-then-not-begins_with_range-clause-order : goal.returns-then-not-begins_with_range-clause-order
returns-then-not-begins_with_range-clause-order g c =
    let e : is_err c.push_back.result ≡ false = cc in
    let b : begins_with_range (first_of c.in-Ok.chunk) ≡ false = sym c.begins_with_range.ensures ∙ c.if-not-begins_with_range.true in
    order-next _ _ (record { same = g.met.C.Chunks.kept_same; chain = g.met.C.Chunks.kept_chain; later = g.met.C.Chunks.came_later; earlier = g.met.C.Chunks.came_earlier }) _ _ _ _ _ _ _ _ _ _ _ _ c.loop-number.invariant.layer c.loop-number.invariant.step.kept c.in-Ok.ensures.kept c.in-Ok.ensures.loaded c.in-Ok.ensures.told (λ cs ds so one. back-stop c.args.part.now.layer c.in-Some.number c.args.part.now.numbers.items c.loop-number.part.numbers.items c.pop_back.new.self.items c.push_back.new.self.items c.in-Ok.chunk c.loop-number.after cs ds one c.in-Some.ensures.items (pushed-ok _ _ _ _ e c.push_back.ensures.items) (goes-to c.args.part.now.layer c.in-Some.number c.in-Ok-add_ranges.last c.in-Ok.chunk c.loop-number.after c.in-Ok-add_ranges.ensures.start c.in-Ok-add_ranges.ensures.last (c.in-Ok-add_ranges.ensures.some c.in-Ok.ensures.loaded.chunk.some) (sym c.is_before.ensures ∙ c.if-not-is_before.false)) b so) c.loop-number.invariant.order

pub returns-clause-order : goal.returns-clause-order
returns-clause-order g c =
    let e : c.loop-number.part.numbers.items ≡ [] = nothing _ (omega (arith, c.loop-number.part.numbers.ok.0, c.in_default.ensures.cases)) in
    order-along _ _ (record { same = g.met.C.Chunks.kept_same; chain = g.met.C.Chunks.kept_chain; later = g.met.C.Chunks.came_later; earlier = g.met.C.Chunks.came_earlier }) _ _ _ _ _ _ _ (λ cs so. back-end c.args.part.now.layer c.args.part.now.numbers.items c.loop-number.part.numbers.items _ c.loop-number.after cs e (sym (append-nil c.pop_back.new.self.items) ∙ sym c.in_default.ensures.items ∙ e) so) c.loop-number.invariant.order
