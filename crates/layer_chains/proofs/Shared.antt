-- The entries of a layer that counts are a share of the table's facts.
use Rattle.std.proofs.Common.{◌≡◌, ◌⊎◌, inl, inr, ℕ, Bool, true, false, cond, ◌&&◌, sym, refl, ap, subst, ◌∙◌, true≢false, is_eq, List, []}
use Rattle.mvcc_keys.specs.Times.{IsTime, Time, time_le, time_lt, zero_time}
use Rattle.mvcc_keys.proofs.TimeOrder.{le-refl, lt-le-absurd}
use Rattle.list_laws.specs.Members.{Has}
use Rattle.list_laws.proofs.Bools.{and-both, and-left, and-right}
use Rattle.list_laws.proofs.Members.{has-map, map-has}
use Rattle.range_tombstones.specs.declared.upto.Upto.TheVariants.{At}
use Rattle.range_tombstones.specs.Intervals.{is_between, within}
use Rattle.fact_model.specs.Facts.{Fact, IsApart, date, touches}
use Rattle.fact_model.specs.Listed.{is_point, key_of}
use Rattle.fact_model.specs.Listings.{IsListed, IsNewestPoint, RangesDiffer}
use Rattle.fact_model.specs.Newest.{IsNewestFact}
use Rattle.fact_model.proofs.Stores.{IsMadeOf}
use Rattle.table_descriptors.specs.Descriptors.{Schema}
use Rattle.version_store.specs.Tables.{ByteFact, Bytes, Tables, bytes_cmp, entry_of}
use Rattle.version_store.specs.Lists.{fact_of, facts_of}
use Rattle.version_store.proofs.Bytes.{fact-entry}
use Rattle.span_export.specs.declared.plan.Plan.{Plan}
use Rattle.span_export.specs.declared.plan.Plan.TheVariants.{Changes, Whole}
use Rattle.span_export.specs.Entries.{IsGiven}
use Rattle.span_export.specs.Plans.{plan_entries}
use Rattle.span_export.proofs.Exact.{entries-exact, image-shown, shown-image}
use Rattle.introduced_spans.specs.declared.plans.Span.{Span}
use Rattle.introduced_spans.specs.PlanLaws.{ascend_after}
use Rattle.introduced_spans.specs.Publicity.{becomes_public_in, public_at, upto_of}
use Rattle.introduced_spans.specs.Spans.{is_member_over, plan_by}
use Rattle.introduced_spans.proofs.Untold.{reached}
use Rattle.layer_merge.specs.Shares.{IsShareOf, Reaches}
use Rattle.layer_chains.proofs.Membership.{IsReadTo, introduced-member, other-member}

-- ---- the facts of a plan's entries

module _ (h : Tables) (id : ℕ) (apart : IsApart bytes_cmp (h.facts id)) (differ : RangesDiffer (h.facts id)) where
  -- they are those that the plan has
  pub has-given : (plan : Plan) (f : ByteFact) → Has f (facts_of (plan_entries h id plan)) → IsGiven (h.facts id) plan f
  has-given plan f has =
      let m = map-has fact_of f (plan_entries h id plan) has in
      subst (IsGiven (h.facts id) plan) (sym m.2) (((entries-exact h id plan apart differ).has m.0).0 m.1)

  pub given-has : (plan : Plan) (f : ByteFact) → IsGiven (h.facts id) plan f → Has f (facts_of (plan_entries h id plan))
  given-has plan f given =
      let there = ((entries-exact h id plan apart differ).has (entry_of f)).1 (subst (IsGiven (h.facts id) plan) (sym (fact-entry f)) given) in
      subst (λ (g : ByteFact). Has g (facts_of (plan_entries h id plan))) (fact-entry f) (has-map fact_of (entry_of f) (plan_entries h id plan) there)

-- a put or deletion of the key of one that touches a key touches it too
touches-too : (k : Bytes) (f g : ByteFact) → is_point f ≡ true → is_point g ≡ true → key_of g ≡ key_of f → touches bytes_cmp k f ≡ true → touches bytes_cmp k g ≡ true
touches-too k (Fact.Put a v t) (Fact.Put b w u) p q same touched = ap (λ (x : Bytes). is_eq (bytes_cmp x k)) same ∙ touched
touches-too k (Fact.Put a v t) (Fact.Del b u) p q same touched = ap (λ (x : Bytes). is_eq (bytes_cmp x k)) same ∙ touched
touches-too k (Fact.Put a v t) (Fact.DelRange b c u) p q same touched = absurd (true≢false (sym q))
touches-too k (Fact.Del a t) (Fact.Put b w u) p q same touched = ap (λ (x : Bytes). is_eq (bytes_cmp x k)) same ∙ touched
touches-too k (Fact.Del a t) (Fact.Del b u) p q same touched = ap (λ (x : Bytes). is_eq (bytes_cmp x k)) same ∙ touched
touches-too k (Fact.Del a t) (Fact.DelRange b c u) p q same touched = absurd (true≢false (sym q))
touches-too k (Fact.DelRange a c t) g p q same touched = absurd (true≢false (sym p))

-- ---- the share of a layer

module _ (h : Tables) (id : ℕ) (s : Span) (ds : List Schema) (x : Time) (a : ascend_after zero_time ds ≡ true) (apart : IsApart bytes_cmp (h.facts id)) (differ : RangesDiffer (h.facts id)) (times : (f : ByteFact) → Has f (h.facts id) → IsTime (date f)) (read : IsReadTo s x) (on : public_at ds x ≡ true) where
  abbrev fs : List ByteFact
  fs = h.facts id

  -- each time up to x is one that the layer tells of
  told : (u : Time) → time_le u x ≡ true → within (upto_of ds s.end) u ≡ true
  told u early = reached ds x s.end a on read.within u early

  -- history, introduced: the image at the floor, and what came after it
  whole-made : IsMadeOf bytes_cmp s.floor x fs (facts_of (plan_entries h id (Whole s.floor (upto_of ds s.end) true)))
  whole-made = record {
    images = λ f has. given-has h id apart differ plan f (inl (image-shown s.floor fs f has));
    newer = λ k f n later. given-has h id apart differ plan f (inr (n.among, and-both (time_lt s.floor (date f)) (within (upto_of ds s.end) (date f)) later (told (date f) n.dated)));
    only = λ f has. elim (has-given h id apart differ plan f has) [ inl shown ↦ inl (shown-image s.floor fs f shown) | inr g ↦ inr (g.0, and-left (time_lt s.floor (date f)) (within (upto_of ds s.end) (date f)) g.1) ];
  }
    where
      plan : Plan
      plan = Whole s.floor (upto_of ds s.end) true

  -- no history, introduced: the image at the end
  image-made : x ≡ s.end → IsMadeOf bytes_cmp s.end x fs (facts_of (plan_entries h id (Whole s.end (At s.end) false)))
  image-made is = record {
    images = λ f has. given-has h id apart differ (Whole s.end (At s.end) false) f (image-shown s.end fs f has);
    newer = λ k f n later. absurd (lt-le-absurd s.end (date f) later (subst (λ (t : Time). time_le (date f) t ≡ true) is n.dated));
    only = λ f has. inl (shown-image s.end fs f (has-given h id apart differ (Whole s.end (At s.end) false) f has));
  }

  -- history, not introduced: what came after the start
  all-reach : Reaches bytes_cmp s.start x fs (facts_of (plan_entries h id (Changes s.start (upto_of ds s.end) true)))
  all-reach = record {
    within = λ f has. (let g = has-given h id apart differ plan f has in (g.0, and-left (time_lt s.start (date f)) (within (upto_of ds s.end) (date f)) g.1));
    newest_there = λ k f n later. given-has h id apart differ plan f (n.among, and-both (time_lt s.start (date f)) (within (upto_of ds s.end) (date f)) later (told (date f) n.dated));
  }
    where
      plan : Plan
      plan = Changes s.start (upto_of ds s.end) true

  -- no history, not introduced: of each key the newest put or deletion after the start, and the range deletions
  newest-reach : x ≡ s.end → Reaches bytes_cmp s.start x fs (facts_of (plan_entries h id (Changes s.start (At s.end) false)))
  newest-reach is = record {
    within = λ f has. elim (has-given h id apart differ plan f has) [ inl n ↦ (n.listed.0, and-left (time_lt s.start (date f)) (time_le (date f) s.end) n.listed.2) | inr l ↦ (l.0, and-left (time_lt s.start (date f)) (time_le (date f) s.end) l.2) ];
    newest_there = λ k f n later. given-has h id apart differ plan f (by k f n later (is_point f) refl);
  }
    where
      plan : Plan
      plan = Changes s.start (At s.end) false

      between : (f : ByteFact) → time_lt s.start (date f) ≡ true → time_le (date f) x ≡ true → is_between s.start (At s.end) (date f) ≡ true
      between f later early = and-both (time_lt s.start (date f)) (time_le (date f) s.end) later (subst (λ (t : Time). time_le (date f) t ≡ true) is early)

      by : (k : Bytes) (f : ByteFact) → IsNewestFact bytes_cmp k x fs f → time_lt s.start (date f) ≡ true → (b : Bool) → is_point f ≡ b → IsNewestPoint (is_between s.start (At s.end)) fs f ⊎ IsListed false (is_between s.start (At s.end)) fs f
      by k f n later true p = inl (record {
        listed = (n.among, p, between f later n.dated);
        last = λ g l same. n.last g l.0 (touches-too k f g p l.1 same n.touching) (subst (λ (t : Time). time_le (date g) t ≡ true) (sym is) (and-right (time_lt s.start (date g)) (time_le (date g) s.end) l.2));
      })
      by k f n later false p = inr (n.among, p, between f later n.dated)

  -- where the table is no member there is nothing to tell
  none-reach : is_member_over s.history s ds ≡ false → becomes_public_in ds s.start s.end ≡ false → Reaches bytes_cmp s.start x fs []
  none-reach off none = record {
    within = λ f has. absurd has;
    newest_there = λ k f n later. absurd (true≢false (sym (other-member s ds a x read on (date f) (times f n.among) later n.dated none) ∙ off));
  }

  pub layer-share : IsShareOf bytes_cmp (is_member_over s.history s ds && becomes_public_in ds s.start s.end) s.start x fs (facts_of (cond (is_member_over s.history s ds) (plan_entries h id (plan_by s.history (becomes_public_in ds s.start s.end) s ds)) []))
  layer-share = by (is_member_over s.history s ds) refl (becomes_public_in ds s.start s.end) refl s.history refl
    where
      by : (m : Bool) → is_member_over s.history s ds ≡ m → (i : Bool) → becomes_public_in ds s.start s.end ≡ i → (history : Bool) → s.history ≡ history → IsShareOf bytes_cmp (m && i) s.start x fs (facts_of (cond m (plan_entries h id (plan_by history i s ds)) []))
      by false off true became history kept = absurd (true≢false (sym (introduced-member s ds a x read on became) ∙ off))
      by false off false none history kept = none-reach off none
      by true there true became true kept = (s.floor, (read.past, whole-made))
      by true there true became false kept = let is = read.now kept in (s.end, (subst (λ (t : Time). time_le s.end t ≡ true) (sym is) (le-refl s.end), image-made is))
      by true there false none true kept = all-reach
      by true there false none false kept = newest-reach (read.now kept)
