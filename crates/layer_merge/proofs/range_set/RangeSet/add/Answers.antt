-- A range deletion more, unless its date is there.
use Rattle.std.proofs.Common.{◌∙◌, sym, subst, List, [], ◌∷◌, map}
use Rattle.mvcc_keys.specs.declared.entries.Entry.{Entry}
use Rattle.range_tombstones.specs.declared.deletion.RangeDeletion.{RangeDeletion}
use Rattle.range_tombstones.specs.Ranges.{entry_of}
use Rattle.list_laws.proofs.Results.{ok-follows}
use Rattle.layer_merge.specs.Ranges.{AddsAll}
use Rattle.layer_merge.proofs.FragmentLaws.{adds-dated, adds-new}
use Rattle.layer_merge.proofs.range_set.RangeSet.add.Goals as goal

pub returns-then-has_date : goal.returns-then-has_date
returns-then-has_date c = rw (← c.self.view_is) (adds-dated _ _ _ _ (sym c.has_date.ensures ∙ c.if-has_date.true))

pub returns : goal.returns
returns c = rw (← c.self.view_is) (ok-follows c.add.result _ _ (λ e. subst (λ (l : List RangeDeletion). AddsAll (Entry.Range c.args.lo.now c.args.hi.now c.args.at ∷ []) (map entry_of c.self.inside.fragments) (map entry_of l)) (sym e) (adds-new _ _ _ _ (sym c.has_date.ensures ∙ c.if-has_date.false))) c.add.ensures.ok)
