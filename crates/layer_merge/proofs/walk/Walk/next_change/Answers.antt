-- A change after the start.
use Rattle.std.proofs.Common.{◌++◌, ℕ, sym, ap₂, subst, List, Option, IfOk}
use Rattle.version_store.specs.Tables.{Bytes}
use Rattle.layer_merge.specs.declared.wanted.Wanted.{Wanted}
use Rattle.mvcc_keys.specs.declared.entries.Entry.{Entry}
use Rattle.row_codec.specs.declared.rows.Kind.{Kind}
use Rattle.layer_merge.specs.Loads.{Gives}
use Rattle.layer_merge.specs.Rows.{Gave}
use Rattle.layer_merge.specs.Walks.{MergesOver}
use Rattle.layer_merge.specs.Changes.{changes_left, changes_of}
use Rattle.layer_merge.proofs.StepLaws.{fault-after, if-err, if-put, of-held-after, step-then}
use Rattle.list_laws.proofs.Results.{ok-follows}
use Rattle.mvcc_keys.specs.Entries.{key_of}
use Rattle.layer_merge.specs.Orders.{Freely, IsUnheld, IsUpTo}
use Rattle.layer_merge.proofs.BehindLaws.{unheld-upto}
use Rattle.layer_merge.proofs.OrderLaws.{loaded-then, order-then, walks-then, walks-weaker}
use Rattle.layer_merge.proofs.walk.Walk.next_change.Goals as goal

pub returns-clause-changes : goal.returns-clause-changes
returns-clause-changes g c = λ w all gives m.
    let later : Gives g.C.Chunks.came c.args.self.now.table c.args.self.now.kinds w c.begin.new.chunks = λ to layer number bytes h. gives to layer number bytes (g.met.C.Chunks.came_later _ _ _ _ _ _ _ c.in-Ok.ensures.step.kept h) in
    let here = subst (λ (t : ℕ). Gives g.C.Chunks.came t c.begin.new.self.kinds w c.begin.new.chunks) (sym c.in-Ok.ensures.table) (subst (λ (k : List Kind). Gives g.C.Chunks.came c.args.self.now.table k w c.begin.new.chunks) (sym c.in-Ok.ensures.kinds) later) in
    subst (λ (l : List Entry). IfOk c.change.result (λ r. Gave r l (changes_of all c.change.new.self) × MergesOver w all c.change.new.self)) (ap₂ (λ (v : Wanted) (d : Option Bytes). changes_left v d all) c.in-Ok.ensures.wanted c.in-Ok.ensures.last) (c.change.ensures.world w all here (c.in-Ok.ensures.world w all gives m))

pub returns-clause-step : goal.returns-clause-step
returns-clause-step g c =
    let two = rw (c.in-Ok.ensures.table, c.in-Ok.ensures.kinds) at c.change.ensures.step in
    step-then _ _ (record { same = g.met.C.Chunks.kept_same; chain = g.met.C.Chunks.kept_chain; later = g.met.C.Chunks.came_later; earlier = g.met.C.Chunks.came_earlier }) _ _ _ _ _ _ _ _ _ _ _ _ c.in-Ok.ensures.step two

pub returns-clause-fault : goal.returns-clause-fault
returns-clause-fault g c =
    let two = rw (c.in-Ok.ensures.table, c.in-Ok.ensures.kinds) at c.change.ensures.fault in
    let kept = (rw (c.in-Ok.ensures.table, c.in-Ok.ensures.kinds) at c.change.ensures.step).kept in
    if-err c.change.result _ _ (λ f h. fault-after _ _ (record { same = g.met.C.Chunks.kept_same; chain = g.met.C.Chunks.kept_chain; later = g.met.C.Chunks.came_later; earlier = g.met.C.Chunks.came_earlier }) _ _ _ _ _ _ _ _ _ _ _ c.in-Ok.ensures.step kept h) two

pub returns-clause-put : goal.returns-clause-put
returns-clause-put g c =
    let two = rw (c.in-Ok.ensures.table, c.in-Ok.ensures.kinds) at c.change.ensures.put in
    let kept = (rw (c.in-Ok.ensures.table, c.in-Ok.ensures.kinds) at c.change.ensures.step).kept in
    if-put c.change.result _ _ (λ e h. of-held-after _ _ (record { same = g.met.C.Chunks.kept_same; chain = g.met.C.Chunks.kept_chain; later = g.met.C.Chunks.came_later; earlier = g.met.C.Chunks.came_earlier }) _ _ _ _ _ _ _ _ _ _ _ c.in-Ok.ensures.step kept h) two

pub returns-clause-sound : goal.returns-clause-sound
returns-clause-sound g c = λ w all gives m.
    let later : Gives g.C.Chunks.came c.args.self.now.table c.args.self.now.kinds w c.begin.new.chunks = λ to layer number bytes h. gives to layer number bytes (g.met.C.Chunks.came_later _ _ _ _ _ _ _ c.in-Ok.ensures.step.kept h) in
    let here = subst (λ (t : ℕ). Gives g.C.Chunks.came t c.begin.new.self.kinds w c.begin.new.chunks) (sym c.in-Ok.ensures.table) (subst (λ (k : List Kind). Gives g.C.Chunks.came c.args.self.now.table k w c.begin.new.chunks) (sym c.in-Ok.ensures.kinds) later) in
    c.change.ensures.sound w all here (c.in-Ok.ensures.world w all gives m)

pub returns-clause-order : goal.returns-clause-order
returns-clause-order g c =
    let two = rw (c.in-Ok.ensures.table, c.in-Ok.ensures.kinds) at c.change.ensures.order in
    let kept = (rw (c.in-Ok.ensures.table, c.in-Ok.ensures.kinds) at c.change.ensures.step).kept in
    ok-follows c.change.result _ _ (λ o. order-then _ _ (record { same = g.met.C.Chunks.kept_same; chain = g.met.C.Chunks.kept_chain; later = g.met.C.Chunks.came_later; earlier = g.met.C.Chunks.came_earlier }) _ _ _ _ _ _ _ _ _ c.in-Ok.ensures.step.kept kept (λ cs ds w m. walks-then Freely c.args.self.now c.begin.new.self.stands c.change.new.self.stands cs ds (walks-weaker IsUnheld Freely (λ p i. tt) c.args.self.now c.begin.new.self.stands cs w) m) c.in-Ok.ensures.order o) two

pub returns-clause-made : goal.returns-clause-made
returns-clause-made g c = λ waiting before h.
    let two = rw (c.in-Ok.ensures.table, c.in-Ok.ensures.kinds) at c.change.ensures.order in
    let kept = (rw (c.in-Ok.ensures.table, c.in-Ok.ensures.kinds) at c.change.ensures.step).kept in
    ok-follows c.change.result _ _ (λ o. order-then _ _ (record { same = g.met.C.Chunks.kept_same; chain = g.met.C.Chunks.kept_chain; later = g.met.C.Chunks.came_later; earlier = g.met.C.Chunks.came_earlier }) _ _ _ _ _ _ _ _ _ c.in-Ok.ensures.step.kept kept (λ cs ds w m. loaded-then waiting c.args.self.now c.change.new.self before (cs ++ ds) c.change.ensures.begun h (walks-then Freely c.args.self.now c.begin.new.self.stands c.change.new.self.stands cs ds (walks-weaker IsUnheld Freely (λ p i. tt) c.args.self.now c.begin.new.self.stands cs w) m)) c.in-Ok.ensures.order o) two

pub returns-clause-behind : goal.returns-clause-behind
returns-clause-behind g c = λ w all gives m.
    let later : Gives g.C.Chunks.came c.args.self.now.table c.args.self.now.kinds w c.begin.new.chunks = λ to layer number bytes h. gives to layer number bytes (g.met.C.Chunks.came_later _ _ _ _ _ _ _ c.in-Ok.ensures.step.kept h) in
    let here = subst (λ (t : ℕ). Gives g.C.Chunks.came t c.begin.new.self.kinds w c.begin.new.chunks) (sym c.in-Ok.ensures.table) (subst (λ (k : List Kind). Gives g.C.Chunks.came c.args.self.now.table k w c.begin.new.chunks) (sym c.in-Ok.ensures.kinds) later) in
    let left = c.change.ensures.behind w all here (c.in-Ok.ensures.world w all gives m) in
    let two = rw (c.in-Ok.ensures.table, c.in-Ok.ensures.kinds) at left in
    let kept = (rw (c.in-Ok.ensures.table, c.in-Ok.ensures.kinds) at c.change.ensures.step).kept in
    if-put c.change.result _ _ (λ e o. order-then _ _ (record { same = g.met.C.Chunks.kept_same; chain = g.met.C.Chunks.kept_chain; later = g.met.C.Chunks.came_later; earlier = g.met.C.Chunks.came_earlier }) _ _ _ _ _ _ _ _ _ c.in-Ok.ensures.step.kept kept (λ cs ds u n. walks-then (IsUpTo (key_of e)) c.args.self.now c.begin.new.self.stands c.change.new.self.stands cs ds (walks-weaker IsUnheld (IsUpTo (key_of e)) (λ p i. unheld-upto (key_of e) p i) c.args.self.now c.begin.new.self.stands cs u) n) c.in-Ok.ensures.order o) two
