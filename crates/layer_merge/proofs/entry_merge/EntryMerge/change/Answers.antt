-- After the last put or deletion the range deletions are what is left.
use Rattle.std.proofs.Common.{◌++◌, ◌∙◌, sym, ap, subst, true≢false, append-nil}
use Rattle.layer_merge.specs.Changes.{entry_state, ranges_held}
use Rattle.layer_merge.specs.Rows.{Gave}
use Rattle.layer_merge.specs.Walks.{MergesOver, WalkState}
use Rattle.layer_merge.specs.Orders.{Freely, HasLoaded, WalksBy}
use Rattle.layer_merge.proofs.BehindLaws.{some-weaker}
use Rattle.layer_merge.proofs.OrderLaws.{order-along, order-none}
use Rattle.layer_merge.proofs.EntryLaws.{gave-first, queue-first}
use Rattle.layer_merge.proofs.entry_merge.EntryMerge.change.Goals as goal

pub returns-in-Ok-clause-entries : goal.returns-in-Ok-clause-entries
returns-in-Ok-clause-entries g c =
    let asked = rw (← c.self.view_is) at c.requires in
    let changes = rw c.in-Ok-None.field-0-is at c.in-Ok-None.ensures.changes in
    rw (← c.self.view_is) (λ w all gives m.
    let none = changes w all gives m in
    let over = subst (MergesOver w all) (sym c.in-Ok.ensures.walk) none.1 in (
      gave-first all w (entry_state c.self.inside.walk c.self.inside.ranges.items c.self.inside.listed c.self.inside.failed) c.first_range.new.self c.args.from c.in-Ok.entry asked (ap (λ (x : WalkState). x.wanted) c.in-Ok.ensures.walk ∙ c.in-Ok-None.ensures.wanted) c.if-self.false c.in-Ok.ensures.listed (ap (λ (x : WalkState). x.begun) c.in-Ok.ensures.walk ∙ c.in-Ok-None.ensures.begun) over none.0.0 (subst (λ (x : WalkState). Gave c.in-Ok.entry (ranges_held c.args.from x) c.first_range.new.self.ranges) (sym c.in-Ok.ensures.walk) c.in-Ok.ensures.ranges),
      over,
    ))

pub returns-then-self-clause-order : goal.returns-then-self-clause-order
returns-then-self-clause-order g c = rw (← c.self.view_is) (λ e. absurd (true≢false (sym c.if-self.true ∙ e)))

pub returns-in-Ok-Some-clause-order : goal.returns-in-Ok-Some-clause-order
returns-in-Ok-Some-clause-order g c = rw (← c.self.view_is) (λ e. c.in-Ok-Some.ensures.order)

pub returns-in-Ok-clause-order : goal.returns-in-Ok-clause-order
returns-in-Ok-clause-order g c = rw (← c.self.view_is) (λ e. order-along _ _ (record { same = g.met.C.Chunks.kept_same; chain = g.met.C.Chunks.kept_chain; later = g.met.C.Chunks.came_later; earlier = g.met.C.Chunks.came_earlier }) _ _ _ _ _ _ _ (λ cs h. subst (λ (m : WalkState). WalksBy Freely c.self.inside.walk cs m.stands) (sym c.in-Ok.ensures.walk) h) c.in-Ok-None.ensures.order)

pub returns-then-self-clause-made : goal.returns-then-self-clause-made
returns-then-self-clause-made g c = rw (← c.self.view_is) (λ waiting before h. order-none _ _ (record { same = g.met.C.Chunks.kept_same; chain = g.met.C.Chunks.kept_chain; later = g.met.C.Chunks.came_later; earlier = g.met.C.Chunks.came_earlier }) _ _ _ _ _ (subst (HasLoaded waiting c.self.inside.walk) (sym (append-nil before)) h))

pub returns-in-Ok-Some-clause-made : goal.returns-in-Ok-Some-clause-made
returns-in-Ok-Some-clause-made g c = rw (← c.self.view_is) c.in-Ok-Some.ensures.made

pub returns-in-Ok-clause-made : goal.returns-in-Ok-clause-made
returns-in-Ok-clause-made g c = rw (← c.self.view_is) (λ waiting before h. order-along _ _ (record { same = g.met.C.Chunks.kept_same; chain = g.met.C.Chunks.kept_chain; later = g.met.C.Chunks.came_later; earlier = g.met.C.Chunks.came_earlier }) _ _ _ _ _ _ _ (λ cs l. subst (λ (m : WalkState). HasLoaded waiting m (before ++ cs)) (sym c.in-Ok.ensures.walk) l) (c.in-Ok-None.ensures.made waiting before h))

pub returns-in-Ok-Some-clause-behind : goal.returns-in-Ok-Some-clause-behind
returns-in-Ok-Some-clause-behind g c =
    let left = rw c.in-Ok-Some.field-0-is at c.in-Ok-Some.ensures.behind in
    rw (← c.self.view_is) (λ w all gives m p. left w all gives m)

pub returns-then-self-clause-behind : goal.returns-then-self-clause-behind
returns-then-self-clause-behind g c = rw (← c.self.view_is) (λ w all gives m. some-weaker c.pop_front.result _ _ (λ e r p. absurd (true≢false (sym r ∙ p))) (queue-first _ _ _ c.pop_front.ensures.items c.self.invariant))

pub returns-in-Ok-clause-behind : goal.returns-in-Ok-clause-behind
returns-in-Ok-clause-behind g c = rw (← c.self.view_is) (λ w all gives m. some-weaker c.in-Ok.entry _ _ (λ e r p. absurd (true≢false (sym r ∙ p))) c.in-Ok.ensures.kind)
