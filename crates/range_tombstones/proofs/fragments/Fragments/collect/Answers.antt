use Rattle.std.proofs.Common.{rules, sym, subst₂, List}
use Rattle.std.proofs.lemmas.Fn.{filter_same}
use Rattle.mvcc_keys.specs.Times.{time_lt}
use Rattle.range_tombstones.specs.declared.deletion.RangeDeletion.{RangeDeletion}
use Rattle.range_tombstones.specs.declared.piece.Piece.{Piece}
use Rattle.range_tombstones.specs.Pieces.{IsMadeOf}
use Rattle.range_tombstones.proofs.MadeLaws.{made-collected}
use Rattle.range_tombstones.proofs.fragments.Fragments.collect.Goals as goal

pub invariant_of-self : goal.invariant_of-self
invariant_of-self c =
    let e = filter_same _ (λ (r : RangeDeletion). time_lt c.args.g r.at) _ (λ x b f' k. search rules) _ _ c.retain.ensures.filtered in
    subst₂ (λ (ps : List Piece) (rs : List RangeDeletion). IsMadeOf ps rs) (sym c.collect.ensures) (sym e) (made-collected c.args.g c.self.inside.pieces.items _ c.self.invariant)

pub returns : goal.returns
returns c =
    let e = filter_same _ (λ (r : RangeDeletion). time_lt c.args.g r.at) _ (λ x b f' k. search rules) _ _ c.retain.ensures.filtered in
    rw (← c.self.view_is) e
