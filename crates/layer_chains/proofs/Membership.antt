-- A table that is public at the time up to which a layer is read: whether it is a member of the layer.
use Rattle.std.proofs.Common.{◌≡◌, inl, inr, ◌+◌, ◌-◌, ◌^◌, nat_lt, Bool, true, false, not, ◌&&◌, ◌||◌, sym, refl, ap, subst, ◌∙◌, true≢false, arith, Option, Some, None, option_map, unwrap_or, List}
use Rattle.std.specs.Prelude.{if◌then◌else◌}
use Rattle.std.proofs.lemmas.Bool.Decides.{nat_tests}
use Rattle.mvcc_keys.specs.Times.{IsTime, Time, time, time_le, time_lt, zero_time}
use Rattle.mvcc_keys.proofs.TimeOrder.{le-refl, le-trans, lt-le}
use Rattle.table_descriptors.specs.Descriptors.{Schema}
use Rattle.list_laws.proofs.Bools.{and-both, or-left, or-right}
use Rattle.introduced_spans.specs.declared.plans.Span.{Span}
use Rattle.introduced_spans.specs.PlanLaws.{ascend_after}
use Rattle.introduced_spans.specs.Publicity.{becomes_public_in, is_public_after, is_public_in, next_wall, public_at, time_after}
use Rattle.introduced_spans.specs.Spans.{is_member_over}
use Rattle.introduced_spans.proofs.Walks.{became-between, became-wider}
use Rattle.history_model.specs.Layers.{LayerRecord}
use Rattle.layer_objects.specs.Objects.{covers}
use Rattle.layer_objects.specs.Storable.{IsRecord}
use Rattle.layer_chains.specs.Chains.{Serves}

-- ---- the least time after another

-- the least time after s isn't after a time that is
next-upto : (s u : Time) → IsTime u → time_lt s u ≡ true → (v : Time) × (time_after s ≡ Some v) × (time_le s v ≡ true) × (time_le v u ≡ true)
next-upto s u is after = by (nat_lt s.logical 2147483647) refl (nat_lt s.wall (2 ^ 64 - 1)) refl
  where
    by : (c : Bool) → nat_lt s.logical 2147483647 ≡ c → (w : Bool) → nat_lt s.wall (2 ^ 64 - 1) ≡ w → (v : Time) × (time_after s ≡ Some v) × (time_le s v ≡ true) × (time_le v u ≡ true)
    by true c w e = (time s.wall (s.logical + 1), ap (λ (b : Bool). if b then Some (time s.wall (s.logical + 1)) else next_wall s.wall) c, grind (arith, nat_tests), grind (arith, nat_tests))
    by false c true e = (
      time (s.wall + 1) 0,
      ap (λ (b : Bool). if b then Some (time s.wall (s.logical + 1)) else next_wall s.wall) c ∙ ap (λ (b : Bool). if b then Some (time (s.wall + 1) 0) else None) e,
      grind (arith, nat_tests),
      grind (arith, nat_tests, is.1),
    )
    by false c false e = absurd (grind (arith, nat_tests, is.0, is.1))

-- ---- what is read of a layer

-- a layer is read up to a time: one of its times, from its floor on; without history that is its end
pub record IsReadTo (s : Span) (x : Time) : Type 0 where
  pub after : time_lt s.start x ≡ true
  pub within : time_le x s.end ≡ true
  pub past : time_le s.floor x ≡ true
  pub now : s.history ≡ false → x ≡ s.end

pub read-to : (r : LayerRecord) (x : Time) → IsRecord r → Serves x r → IsReadTo (covers r) x
read-to r x is (inl e) = record {
  after = subst (λ (t : Time). time_lt r.start t ≡ true) (sym e) is.ends;
  within = subst (λ (t : Time). time_le t r.end ≡ true) (sym e) (le-refl r.end);
  past = subst (λ (t : Time). time_le r.floor t ≡ true) (sym e) is.upto;
  now = λ _. e;
}
read-to r x is (inr inside) = record { after = inside.1; within = lt-le x r.end inside.3; past = inside.2; now = λ none. absurd (true≢false (sym inside.0 ∙ none)) }

module _ (s : Span) (ds : List Schema) (a : ascend_after zero_time ds ≡ true) (x : Time) (read : IsReadTo s x) (on : public_at ds x ≡ true) where
  -- what didn't become public in the layer was public from its start on
  pub public-before : becomes_public_in ds s.start s.end ≡ false → (y : Time) → time_le s.start y ≡ true → time_le y x ≡ true → public_at ds y ≡ true
  public-before none y from upto = by (public_at ds y) refl
    where
      by : (b : Bool) → public_at ds y ≡ b → public_at ds y ≡ true
      by true is = is
      by false off = absurd (true≢false (sym (became-wider y x s.start s.end ds from read.within (became-between y x ds zero_time a off upto on)) ∙ none))

  introduced-by : (h : Bool) → s.history ≡ h → becomes_public_in ds s.start s.end ≡ true → is_member_over h s ds ≡ true
  unfolding is_public_in
  introduced-by false k is = subst (λ (t : Time). public_at ds t ≡ true) (read.now k) on
  introduced-by true k is = and-both (is_public_in ds s.start s.end) _ (or-right (is_public_after ds s.start s.end) _ is) (or-right (not (becomes_public_in ds s.start s.end)) _ (by (public_at ds s.floor) refl))
    where
      by : (b : Bool) → public_at ds s.floor ≡ b → (public_at ds s.floor || becomes_public_in ds s.floor s.end) ≡ true
      by true is = or-left (public_at ds s.floor) _ is
      by false off = or-right (public_at ds s.floor) _ (became-wider s.floor x s.floor s.end ds (le-refl s.floor) read.within (became-between s.floor x ds zero_time a off read.past on))

  -- a table that the layer introduces is a member
  pub introduced-member : becomes_public_in ds s.start s.end ≡ true → is_member_over s.history s ds ≡ true
  introduced-member is = introduced-by s.history refl is

  public-next : (u : Time) → IsTime u → time_lt s.start u ≡ true → time_le u x ≡ true → becomes_public_in ds s.start s.end ≡ false → is_public_after ds s.start s.end ≡ true
  public-next u is later upto none =
      let v = next-upto s.start u is later in
      let early : time_le v.0 x ≡ true = le-trans v.0 u x v.3 upto in
      ap (λ (o : Option Time). unwrap_or (option_map (λ t. time_le t s.end && public_at ds t) o) false) v.1
      ∙ and-both (time_le v.0 s.end) (public_at ds v.0) (le-trans v.0 x s.end early read.within) (public-before none v.0 v.2 early)

  other-by : (h : Bool) → s.history ≡ h → (u : Time) → IsTime u → time_lt s.start u ≡ true → time_le u x ≡ true → becomes_public_in ds s.start s.end ≡ false → is_member_over h s ds ≡ true
  unfolding is_public_in
  other-by false k u is later upto none = subst (λ (t : Time). public_at ds t ≡ true) (read.now k) on
  other-by true k u is later upto none = and-both (is_public_in ds s.start s.end) _ (or-left (is_public_after ds s.start s.end) _ (public-next u is later upto none)) (or-left (not (becomes_public_in ds s.start s.end)) _ (ap not none))

  -- another is one too, where there is a time in between at all
  pub other-member : (u : Time) → IsTime u → time_lt s.start u ≡ true → time_le u x ≡ true → becomes_public_in ds s.start s.end ≡ false → is_member_over s.history s ds ≡ true
  other-member u is later upto none = other-by s.history refl u is later upto none
