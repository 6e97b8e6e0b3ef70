use Rattle.std.proofs.Common.{◌≡◌, ◌∙◌, ap, sym, subst, List, map, true, false}
use Rattle.std.specs.List.{AllByRecursion}
use Rattle.list_laws.proofs.Results.{ok-follows}
use Rattle.range_tombstones.specs.declared.deletion.RangeDeletion.{RangeDeletion}
use Rattle.range_tombstones.specs.declared.piece.Piece.{Piece}
use Rattle.range_tombstones.specs.Ranges.{is_dated, range, with_range}
use Rattle.range_tombstones.specs.Pieces.{dated, is_start, IsMadeOf, MayDate}
use Rattle.range_tombstones.proofs.Lists.{written}
use Rattle.range_tombstones.proofs.MadeLaws.{made-dated, made-split, may-date}
use Rattle.range_tombstones.proofs.changes.add_range.Goals as goal

pub add_date-requires : goal.add_date-requires
add_date-requires c = subst (λ (ps : List Piece). AllByRecursion (MayDate c.args.t) ps) (sym c.as_mut_slice.ensures.value) (may-date c.args.t c.split-2.new.pieces.items c.requires.made.0 (made-split c.args.hi.now c.split.new.pieces.items c.split-2.new.pieces.items c.requires.made.0 (made-split c.args.lo.now c.args.pieces.now.items c.split.new.pieces.items c.requires.made.0 c.requires.made.1 c.in_ok-split.ensures.ok) c.in_ok-split-2.ensures.ok) c.requires.made.2)

pub returns-clause-ok : goal.returns-clause-ok
returns-clause-ok c =
    let lo : is_start c.args.lo.now c.split-2.new.pieces.items ≡ true = c.in_ok-split-2.ensures.ok.others c.args.lo.now c.in_ok-split.ensures.ok.begun in
    ok-follows c.add_date.result _ _ (λ (e : c.add_date.new.pieces ≡ map (dated c.args.lo.now c.args.hi.now c.args.t) c.as_mut_slice.result.now) (rs : List RangeDeletion) (m : IsMadeOf c.args.pieces.now.items rs) (new : is_dated c.args.t rs ≡ false). subst (λ (ps : List Piece). IsMadeOf ps (with_range (range c.args.lo.now c.args.hi.now c.args.t) rs)) (sym (written c.split-2.new.pieces.len c.add_date.new.pieces c.split-2.new.pieces.items (c.add_date.auto.pieces ∙ c.as_mut_slice.ensures.len) ∙ (e ∙ ap (map (dated c.args.lo.now c.args.hi.now c.args.t)) c.as_mut_slice.ensures.value))) (made-dated c.args.lo.now c.args.hi.now c.args.t c.split-2.new.pieces.items rs c.requires.order new (made-split c.args.hi.now c.split.new.pieces.items c.split-2.new.pieces.items rs (made-split c.args.lo.now c.args.pieces.now.items c.split.new.pieces.items rs m c.in_ok-split.ensures.ok) c.in_ok-split-2.ensures.ok) lo c.in_ok-split-2.ensures.ok.begun)) c.add_date.ensures.ok
