-- One number more.
use Rattle.std.proofs.Common.{◌≡◌, ◌∙◌, ℕ, false, sym, slice_get, is_err}
use Rattle.layer_merge.specs.Within.{may_hold}
use Rattle.layer_merge.proofs.RangeLaws.{pushed-ok}
use Rattle.layer_merge.proofs.NewMerges.{numbers-passed, numbers-more}
use Rattle.layer_merge.proofs.parts.numbers_of.Goals.{then-may_hold+else-is_err, else-may_hold}
use Rattle.layer_merge.proofs.parts.numbers_of.Goals as goal

pub loop-number-preserved : goal.loop-number-preserved
loop-number-preserved c = elim c.if-may_hold.branch [
  | then-may_hold+else-is_err w ↦ (let e : is_err w.push_back.result ≡ false = cc in rw w.numbers-is (numbers-more (λ (n : ℕ). may_hold c.args.wanted.now (slice_get c.args.part.now.bounds.items n)) c.loop-number.number _ _ (sym c.may_hold.ensures ∙ w.if-may_hold.true) c.loop-number.invariant (pushed-ok _ _ _ _ e w.push_back.ensures.items)))
  | else-may_hold w ↦ rw w.numbers-is (numbers-passed (λ (n : ℕ). may_hold c.args.wanted.now (slice_get c.args.part.now.bounds.items n)) c.loop-number.number _ (sym c.may_hold.ensures ∙ w.if-may_hold.false) c.loop-number.invariant)
]
