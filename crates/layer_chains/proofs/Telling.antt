-- What a layer that doesn't introduce a table tells of it.
use Rattle.std.proofs.Common.{◌≡◌, inl, inr, ℕ, Bool, true, false, cond, sym, refl, subst, ◌∙◌, true≢false, List, []}
use Rattle.mvcc_keys.specs.Times.{IsTime, Time, time_le, time_lt, zero_time}
use Rattle.list_laws.specs.Members.{Has}
use Rattle.list_laws.proofs.Bools.{and-both, and-left, and-right}
use Rattle.range_tombstones.specs.declared.upto.Upto.TheVariants.{At}
use Rattle.range_tombstones.specs.Intervals.{is_between, within}
use Rattle.fact_model.specs.Facts.{IsApart, date}
use Rattle.fact_model.specs.Listings.{RangesDiffer}
use Rattle.table_descriptors.specs.Descriptors.{Schema}
use Rattle.version_store.specs.Tables.{ByteFact, Tables, bytes_cmp}
use Rattle.version_store.specs.Lists.{facts_of}
use Rattle.span_export.specs.declared.plan.Plan.TheVariants.{Changes}
use Rattle.span_export.specs.Plans.{plan_entries}
use Rattle.introduced_spans.specs.declared.plans.Span.{Span}
use Rattle.introduced_spans.specs.PlanLaws.{ascend_after}
use Rattle.introduced_spans.specs.Publicity.{becomes_public_in, public_at, upto_of}
use Rattle.introduced_spans.specs.Spans.{is_member_over, plan_by}
use Rattle.introduced_spans.proofs.Untold.{reached}
use Rattle.layer_merge.specs.Joins.{Tells}
use Rattle.layer_chains.proofs.Membership.{IsReadTo, other-member}
use Rattle.layer_chains.proofs.Shared.{given-has, has-given}

module _ (h : Tables) (id : ℕ) (s : Span) (ds : List Schema) (x : Time) (a : ascend_after zero_time ds ≡ true) (apart : IsApart bytes_cmp (h.facts id)) (differ : RangesDiffer (h.facts id)) (times : (f : ByteFact) → Has f (h.facts id) → IsTime (date f)) (read : IsReadTo s x) (on : public_at ds x ≡ true) where
  abbrev fs : List ByteFact
  fs = h.facts id

  -- with history: all facts after the start, at least up to x
  all-tells : Tells s.start x fs (facts_of (plan_entries h id (Changes s.start (upto_of ds s.end) true)))
  all-tells = record {
    within = λ f has. (let g = has-given h id apart differ (Changes s.start (upto_of ds s.end) true) f has in (g.0, and-left (time_lt s.start (date f)) (within (upto_of ds s.end) (date f)) g.1));
    newest_there = λ f n. there f n.listed.0 n.listed.2;
    ranges_there = λ f l. there f l.0 l.2;
  }
    where
      there : (f : ByteFact) → Has f fs → is_between s.start (At x) (date f) ≡ true → Has f (facts_of (plan_entries h id (Changes s.start (upto_of ds s.end) true)))
      there f among between = given-has h id apart differ (Changes s.start (upto_of ds s.end) true) f (
        among,
        and-both (time_lt s.start (date f)) (within (upto_of ds s.end) (date f)) (and-left (time_lt s.start (date f)) (time_le (date f) x) between) (reached ds x s.end a on read.within (date f) (and-right (time_lt s.start (date f)) (time_le (date f) x) between)),
      )

  -- without history: of each key the newest put or deletion, and the range deletions
  newest-tells : Tells s.start s.end fs (facts_of (plan_entries h id (Changes s.start (At s.end) false)))
  newest-tells = record {
    within = λ f has. elim (has-given h id apart differ (Changes s.start (At s.end) false) f has) [ inl n ↦ (n.listed.0, and-left (time_lt s.start (date f)) (time_le (date f) s.end) n.listed.2) | inr l ↦ (l.0, and-left (time_lt s.start (date f)) (time_le (date f) s.end) l.2) ];
    newest_there = λ f n. given-has h id apart differ (Changes s.start (At s.end) false) f (inl n);
    ranges_there = λ f l. given-has h id apart differ (Changes s.start (At s.end) false) f (inr l);
  }

  -- where the table is no member there is nothing to tell
  none-tells : is_member_over s.history s ds ≡ false → becomes_public_in ds s.start s.end ≡ false → Tells s.start x fs []
  none-tells off none = record { within = λ f has. absurd has; newest_there = λ f n. never f n.listed.0 n.listed.2; ranges_there = λ f l. never f l.0 l.2 }
    where
      never : (f : ByteFact) → Has f fs → is_between s.start (At x) (date f) ≡ true → ⊥
      never f among between = true≢false (sym (other-member s ds a x read on (date f) (times f among) (and-left (time_lt s.start (date f)) (time_le (date f) x) between) (and-right (time_lt s.start (date f)) (time_le (date f) x) between) none) ∙ off)

  -- the entries of a layer that doesn't introduce the table tell of the time up to which it is read
  pub layer-tells : becomes_public_in ds s.start s.end ≡ false → Tells s.start x fs (facts_of (cond (is_member_over s.history s ds) (plan_entries h id (plan_by s.history (becomes_public_in ds s.start s.end) s ds)) []))
  layer-tells none = subst (λ (b : Bool). Tells s.start x fs (facts_of (cond (is_member_over s.history s ds) (plan_entries h id (plan_by s.history b s ds)) []))) (sym none) (by (is_member_over s.history s ds) refl s.history refl)
    where
      by : (m : Bool) → is_member_over s.history s ds ≡ m → (history : Bool) → s.history ≡ history → Tells s.start x fs (facts_of (cond m (plan_entries h id (plan_by history false s ds)) []))
      by false off history kept = none-tells off none
      by true there true kept = all-tells
      by true there false kept = subst (λ (t : Time). Tells s.start t fs (facts_of (plan_entries h id (Changes s.start (At s.end) false)))) (sym (read.now kept)) newest-tells
