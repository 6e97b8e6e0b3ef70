-- The next row.
use Rattle.std.proofs.Common.{sym, subst, List}
use Rattle.row_codec.specs.declared.rows.Kind.{Kind}
use Rattle.layer_merge.specs.Loads.{Gives}
use Rattle.layer_merge.proofs.MergeLaws.{walked, walked-any, walked-sound}
use Rattle.layer_merge.proofs.walk.Walk.row.Goals as goal

pub returns-clause-world : goal.returns-clause-world
returns-clause-world g c =
    let b = rw (← c.self.view_is) at c.requires.begun in
    rw (← c.self.view_is) (λ w all gives m.
    walked w all _ _ _ _ _ _ _ _ _ _ c.next_row.result _ b (λ ranges apart at. c.next_row.ensures.world w all (subst (λ (k : List Kind). Gives g.C.Chunks.came c.self.inside.table k w c.args.chunks.now) (sym c.as_slice.ensures.value) gives) apart ranges at) m)

pub returns-clause-step : goal.returns-clause-step
returns-clause-step g c = rw (← c.self.view_is) (rw c.as_slice.ensures.value at c.next_row.ensures.step)

pub returns-clause-fault : goal.returns-clause-fault
returns-clause-fault g c = rw (← c.self.view_is) (rw c.as_slice.ensures.value at c.next_row.ensures.fault)

pub returns-clause-put : goal.returns-clause-put
returns-clause-put g c = rw (← c.self.view_is) (rw c.as_slice.ensures.value at c.next_row.ensures.put)

pub returns-clause-sound : goal.returns-clause-sound
returns-clause-sound g c =
    let b = rw (← c.self.view_is) at c.requires.begun in
    rw (← c.self.view_is) (λ w all gives m. walked-sound w all _ _ _ _ _ _ _ _ c.next_row.result _ b (λ ranges apart at. c.next_row.ensures.sound w all (subst (λ (k : List Kind). Gives g.C.Chunks.came c.self.inside.table k w c.args.chunks.now) (sym c.as_slice.ensures.value) gives) apart ranges at) m)

pub returns-clause-order : goal.returns-clause-order
returns-clause-order g c = rw (← c.self.view_is) (rw c.as_slice.ensures.value at c.next_row.ensures.order)

pub returns-clause-behind : goal.returns-clause-behind
returns-clause-behind g c =
    let b = rw (← c.self.view_is) at c.requires.begun in
    let left = rw c.as_slice.ensures.value at c.next_row.ensures.behind in
    rw (← c.self.view_is) (λ w all gives m. walked-any w all _ _ _ _ _ _ _ _ _ b (λ ranges apart at. left w all gives apart ranges at) m)
