-- Facts that are added outside a plan's dates.
use Rattle.std.proofs.Common.{◌≡◌, ◌∙◌, ◌==◌, Bool, true, false, cond, not, ◌&&◌, refl, ap, ap₂, List, [], ◌∷◌, ◌++◌, filter, append-nil}
use Rattle.std.proofs.lemmas.List.Elements.{filter-append}
use Rattle.mvcc_keys.specs.Times.{Time, time_le}
use Rattle.range_tombstones.specs.Intervals.{is_between}
use Rattle.fact_model.specs.Facts.{date}
use Rattle.fact_model.specs.Listed.{date_cmp, is_point, point_cmp, points, ranges}
use Rattle.fact_model.specs.Ordered.{ordered}
use Rattle.fact_model.proofs.Growth.{image-push_later}
use Rattle.version_store.specs.Tables.{ByteFact, bytes_cmp, entries_of, newest_points}
use Rattle.version_store.proofs.Bytes.{bytes_order}
use Rattle.span_export.specs.declared.plan.Plan.{Plan}
use Rattle.span_export.specs.declared.plan.Plan.TheVariants.{Changes, Whole}
use Rattle.span_export.specs.Plans.{plan_entries, plan_points, plan_ranges, whole_points}
use Rattle.span_export.specs.Pieces.{is_seen, OthersAreUnseen}
use Rattle.list_laws.proofs.Bools.{or-neither, and-off}

filter-but_last : {X : Type 0} (p : X → Bool) (xs : List X) (x : X) → p x ≡ false → filter p (xs ++ x ∷ []) ≡ filter p xs
filter-but_last {X} p xs x e = filter-append p xs (x ∷ []) ∙ (ap (λ (b : Bool). filter p xs ++ cond b (x ∷ []) []) e ∙ append-nil (filter p xs))

points-added : (dated : Time → Bool) (fs : List ByteFact) (f : ByteFact) → dated (date f) ≡ false → points bytes_cmp dated (fs ++ f ∷ []) ≡ points bytes_cmp dated fs
unfolding points
points-added dated fs f e = ap (ordered (point_cmp bytes_cmp)) (filter-but_last (λ g. is_point g && dated (date g)) fs f (and-off (is_point f) (dated (date f)) e))

ranges-added : (dated : Time → Bool) (fs : List ByteFact) (f : ByteFact) → dated (date f) ≡ false → ranges dated (fs ++ f ∷ []) ≡ ranges dated fs
unfolding ranges
ranges-added dated fs f e = ap (ordered date_cmp) (filter-but_last (λ g. not (is_point g) && dated (date g)) fs f (and-off (not (is_point f)) (dated (date f)) e))

whole-added : (floor : Time) (dated : Time → Bool) (fs : List ByteFact) (f : ByteFact) → time_le (date f) floor ≡ false → dated (date f) ≡ false → whole_points floor dated (fs ++ f ∷ []) ≡ whole_points floor dated fs
unfolding whole_points
whole-added floor dated fs f late e = ap₂ (λ (xs ys : List ByteFact). ordered (point_cmp bytes_cmp) (xs ++ ys)) (image-push_later bytes_cmp bytes_order floor fs f late) (points-added dated fs f e)

plan-added : (fs : List ByteFact) (plan : Plan) (f : ByteFact) → is_seen plan (date f) ≡ false → plan_points (fs ++ f ∷ []) plan ++ plan_ranges (fs ++ f ∷ []) plan ≡ plan_points fs plan ++ plan_ranges fs plan
plan-added fs (Changes after upto true) f e = ap₂ (λ (xs ys : List ByteFact). xs ++ ys) (points-added (is_between after upto) fs f e) (ranges-added (is_between after upto) fs f e)
plan-added fs (Changes after upto false) f e = ap₂ (λ (xs ys : List ByteFact). xs ++ ys) (ap newest_points (points-added (is_between after upto) fs f e)) (ranges-added (is_between after upto) fs f e)
plan-added fs (Whole floor upto true) f e = let n = or-neither (time_le (date f) floor) (is_between floor upto (date f)) e in ap₂ (λ (xs ys : List ByteFact). xs ++ ys) (whole-added floor (is_between floor upto) fs f n.0 n.1) (ranges-added (is_between floor upto) fs f n.1)
plan-added fs (Whole floor upto false) f e = let n = or-neither (time_le (date f) floor) false e in ap (λ (xs : List ByteFact). xs ++ []) (image-push_later bytes_cmp bytes_order floor fs f n.0)

pub others-unseen : OthersAreUnseen
unfolding plan_entries
others-unseen h id table plan f e = by (table == id)
  where
    by : (b : Bool) → entries_of (plan_points (cond b (h.facts table ++ f ∷ []) (h.facts table)) plan ++ plan_ranges (cond b (h.facts table ++ f ∷ []) (h.facts table)) plan) ≡ entries_of (plan_points (h.facts table) plan ++ plan_ranges (h.facts table) plan)
    by true = ap entries_of (plan-added (h.facts table) plan f e)
    by false = refl
