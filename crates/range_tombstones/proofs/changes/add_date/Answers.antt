use Rattle.std.proofs.Common.{◌∙◌, ap, sym, map}
use Rattle.range_tombstones.specs.Pieces.{undated}
use Rattle.list_laws.proofs.Results.{on-err}
use Rattle.range_tombstones.proofs.PieceLaws.{undated-back}
use Rattle.range_tombstones.proofs.changes.add_date.Goals as goal

pub returns-then-refused-clause-err : goal.returns-then-refused-clause-err
returns-then-refused-clause-err c =
    let partly = on-err c.date_pieces.result _ (sym c.is_err-refused.ensures.value ∙ c.if-refused.true) c.date_pieces.ensures.err in
    c.undate_pieces.ensures ∙ (ap (map (undated c.args.t)) partly.1 ∙ undated-back c.args.lo.now c.args.hi.now c.args.t partly.0 c.args.pieces.now c.requires)
