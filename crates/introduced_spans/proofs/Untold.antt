-- What isn't told isn't seen: a fact of a time from which on a table isn't public stands in no layer that has the table.
use Rattle.std.proofs.Common.{◌≡◌, Bool, true, false, not, ◌&&◌, ◌||◌, sym, refl, subst, ◌∙◌, List, filter, Option, Some, None, option_map, unwrap_or}
use Rattle.mvcc_keys.specs.Times.{Time, time_lt, time_le, zero_time}
use Rattle.table_descriptors.specs.Descriptors.{Schema}
use Rattle.list_laws.proofs.Members.{filter-passes}
use Rattle.mvcc_keys.proofs.TimeOrder.{le-refl, le-trans, lt-le, not_le-lt, lt-not_le, le-not_lt, le-lt-lt, lt-le-absurd}
use Rattle.range_tombstones.specs.Intervals.{within}
use Rattle.range_tombstones.specs.declared.upto.Upto.TheVariants.{At, Before}
use Rattle.span_export.specs.Pieces.{is_seen}
use Rattle.introduced_spans.specs.declared.plans.Span.{Span}
use Rattle.introduced_spans.specs.Publicity.{public_at, becomes_public_in, is_public_after, is_public_in, time_after, dates_where, ends, last_end, upto_of}
use Rattle.introduced_spans.specs.PlanLaws.{ascend_after}
use Rattle.introduced_spans.specs.Spans.{is_member_over, plan_by}
use Rattle.list_laws.proofs.Bools as lists
use Rattle.introduced_spans.specs.Publicity.{IsUntold}
use Rattle.introduced_spans.proofs.Walks.{became-at, ended, ended-after, latest-has}
use Rattle.list_laws.proofs.Bools.{and-off, or-off}

-- ---- after the end

-- where the table is public at e, the upto is e
upto-public : (ds : List Schema) (e : Time) → public_at ds e ≡ true → upto_of ds e ≡ At e
unfolding upto_of
upto-public ds e is = rw is refl

upto-ended : (ds : List Schema) (e : Time) (o : Option Time) → public_at ds e ≡ false → last_end ds e ≡ o → upto_of ds e ≡ unwrap_or (option_map Before o) (At e)
unfolding upto_of
upto-ended ds e o is last = rw (is, last) refl

-- up to a time at which the table is public, no later than e, each time is in the upto
pub reached : (ds : List Schema) (x e : Time) → ascend_after zero_time ds ≡ true → public_at ds x ≡ true → time_le x e ≡ true → (u : Time) → time_le u x ≡ true → within (upto_of ds e) u ≡ true
reached ds x e a on le u early = by (public_at ds e) refl
  where
    by : (b : Bool) → public_at ds e ≡ b → within (upto_of ds e) u ≡ true
    by true is = rw (upto-public ds e is) (le-trans u x e early le)
    by false off = let q = ended-after x e ds zero_time a on le off in rw (upto-ended ds e (Some q.0) off q.1) (le-lt-lt u x q.0 early q.2)

past-upto : (ds : List Schema) (e u : Time) → time_le u e ≡ false → within (upto_of ds e) u ≡ false
past-upto ds e u late = by (public_at ds e) refl (last_end ds e) refl
  where
    by : (b : Bool) → public_at ds e ≡ b → (o : Option Time) → last_end ds e ≡ o → within (upto_of ds e) u ≡ false
    by true is o last = rw (upto-public ds e is) late
    by false is None last = rw (upto-ended ds e None is last) late
    by false is (Some q) last =
        let upto : time_le q e ≡ true = filter-passes (λ t. time_le t e) q (dates_where ends false ds) (latest-has (filter (λ t. time_le t e) (dates_where ends false ds)) q last) in
        rw (upto-ended ds e (Some q) is last) (le-not_lt u q (le-trans q e u upto (lt-le e u (not_le-lt e u late))))

-- ---- a member was public

pub some-time : (s e : Time) (ds : List Schema) → ascend_after zero_time ds ≡ true → is_public_in ds s e ≡ true → (x : Time) × (time_le x e ≡ true) × (public_at ds x ≡ true)
unfolding is_public_in
some-time s e ds a is = by (is_public_after ds s e) refl is
  where
    at : (o : Option Time) → unwrap_or (option_map (λ t. time_le t e && public_at ds t) o) false ≡ true → (x : Time) × (time_le x e ≡ true) × (public_at ds x ≡ true)
    at None none = absurd (cc)
    at (Some t) both = (t, lists.and-left (time_le t e) (public_at ds t) both, lists.and-right (time_le t e) (public_at ds t) both)

    by : (b : Bool) → is_public_after ds s e ≡ b → (b || becomes_public_in ds s e) ≡ true → (x : Time) × (time_le x e ≡ true) × (public_at ds x ≡ true)
    by true after is = at (time_after s) after
    by false after is = let f = became-at s e ds zero_time a is in (f.0, f.2, f.3)

-- ---- what isn't seen

module _ (s : Span) (ds : List Schema) (u : Time) (a : ascend_after zero_time ds ≡ true) (span : time_le s.floor s.end ≡ true) where
  late-unseen : (h b : Bool) → time_le u s.end ≡ false → is_seen (plan_by h b s ds) u ≡ false
  late-unseen true true late = or-off (time_le u s.floor) _ (lt-not_le s.floor u (le-lt-lt s.floor s.end u span (not_le-lt s.end u late))) (and-off (time_lt s.floor u) _ (past-upto ds s.end u late))
  late-unseen true false late = and-off (time_lt s.start u) _ (past-upto ds s.end u late)
  late-unseen false true late = or-off (time_le u s.end) false late refl
  late-unseen false false late = and-off (time_lt s.start u) _ late

  module _ (untold : IsUntold ds s.end u) (early : time_le u s.end ≡ true) where
    off : public_at ds s.end ≡ false
    off = untold s.end early (le-refl s.end)

    -- the time is past the upto
    stopped : is_public_in ds s.start s.end ≡ true → within (upto_of ds s.end) u ≡ false
    stopped is =
        let p = some-time s.start s.end ds a is in
        let q = ended p.0 u s.end ds zero_time a p.2 p.1 off untold in
        rw (upto-ended ds s.end (Some q.0) off q.1) q.2

    -- and after the floor
    floored : (public_at ds s.floor || becomes_public_in ds s.floor s.end) ≡ true → time_le u s.floor ≡ false
    floored is = by (time_le u s.floor) refl
      where
        by : (b : Bool) → time_le u s.floor ≡ b → time_le u s.floor ≡ false
        by false e = e
        by true e =
            let no : public_at ds s.floor ≡ false = untold s.floor e span in
            let became : becomes_public_in ds s.floor s.end ≡ true = subst (λ (b : Bool). (b || becomes_public_in ds s.floor s.end) ≡ true) no is in
            let f = became-at s.floor s.end ds zero_time a became in
            absurd (let never : true ≡ false = sym f.3 ∙ untold f.0 (le-trans u s.floor f.0 e (lt-le s.floor f.0 f.1)) f.2 in cc)

    early-unseen : (h b : Bool) → becomes_public_in ds s.start s.end ≡ b → is_member_over h s ds ≡ true → is_seen (plan_by h b s ds) u ≡ false
    early-unseen true true is member =
        let public = lists.and-left (is_public_in ds s.start s.end) _ member in
        let further : (not (becomes_public_in ds s.start s.end) || (public_at ds s.floor || becomes_public_in ds s.floor s.end)) ≡ true = lists.and-right (is_public_in ds s.start s.end) _ member in
        or-off (time_le u s.floor) _ (floored (subst (λ (b : Bool). (not b || (public_at ds s.floor || becomes_public_in ds s.floor s.end)) ≡ true) is further)) (and-off (time_lt s.floor u) _ (stopped public))
    early-unseen true false is member = and-off (time_lt s.start u) _ (stopped (lists.and-left (is_public_in ds s.start s.end) _ member))
    early-unseen false b is member = absurd (let no : true ≡ false = sym member ∙ off in cc)

  pub unseen : IsUntold ds s.end u → is_member_over s.history s ds ≡ true → is_seen (plan_by s.history (becomes_public_in ds s.start s.end) s ds) u ≡ false
  unseen untold member = by (time_le u s.end) refl
    where
      by : (b : Bool) → time_le u s.end ≡ b → is_seen (plan_by s.history (becomes_public_in ds s.start s.end) s ds) u ≡ false
      by true early = early-unseen untold early s.history (becomes_public_in ds s.start s.end) refl member
      by false late = late-unseen s.history (becomes_public_in ds s.start s.end) late

-- what is dated after t is untold
pub later-untold : (ds : List Schema) (t u : Time) → time_lt t u ≡ true → IsUntold ds t u
later-untold ds t u after x from upto = absurd (lt-le-absurd t u after (le-trans u x t from upto))
