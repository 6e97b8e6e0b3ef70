-- Further descriptors, dated after a time, change nothing up to it.
use Rattle.std.proofs.Common.{◌≡◌, inl, inr, Bool, true, false, cond, not, ◌&&◌, ◌||◌, refl, ap, ◌∙◌, List, [], ◌∷◌, ◌++◌, map, filter, reverse, append-nil, Option, Some, None, option_map, unwrap_or}
use Rattle.std.specs.Prelude.{option_to_list, if◌then◌else◌}
use Rattle.std.specs.List.{find, list_any}
use Rattle.std.proofs.lemmas.List.{reverse-append, map-append}
use Rattle.std.proofs.lemmas.List.Elements.{filter-append}
use Rattle.std.proofs.lemmas.List.Folds.{list_any-append}
use Rattle.mvcc_keys.specs.Times.{Time, time_lt, time_le}
use Rattle.table_descriptors.specs.Descriptors.{Schema}
use Rattle.list_laws.specs.Members.{Has}
use Rattle.list_laws.proofs.Members.{reverse-has}
use Rattle.mvcc_keys.proofs.TimeOrder.{not_le-lt, lt-not_le, le-lt-lt}
use Rattle.history_model.specs.Histories.{in_force}
use Rattle.range_tombstones.specs.Intervals.{is_between}
use Rattle.range_tombstones.specs.declared.upto.Upto.{Upto}
use Rattle.range_tombstones.specs.declared.upto.Upto.TheVariants.{At, Before}
use Rattle.span_export.specs.declared.plan.Plan.TheVariants.{Changes, Whole}
use Rattle.introduced_spans.specs.declared.plans.Span.{Span}
use Rattle.introduced_spans.specs.Publicity.{is_public, public_at, begins, ends, with_before, dates_where, becomes_public_in, is_public_after, is_public_in, time_after, latest, last_end, upto_of}
use Rattle.introduced_spans.specs.Spans.{is_member_over, plan_by}
use Rattle.introduced_spans.specs.Spans.{layer_descriptors}
use Rattle.list_laws.proofs.Bools.{or-false}

-- each of some descriptors is dated after e
abbrev pub AreAfter : Time → List Schema → Type 0
AreAfter e more = (d : Schema) → Has d more → time_le d.modified e ≡ false

pub after-sooner : (v e : Time) (more : List Schema) → time_le v e ≡ true → AreAfter e more → AreAfter v more
after-sooner v e more le after d has = lt-not_le v d.modified (le-lt-lt v e d.modified le (not_le-lt e d.modified (after d has)))

find-later : (e : Time) (more ds : List Schema) → AreAfter e more → find (λ (d : Schema). time_le d.modified e) (more ++ ds) ≡ find (λ (d : Schema). time_le d.modified e) ds
find-later e [] ds after = refl
find-later e (d ∷ more) ds after = rw (after d (inl refl)) (find-later e more ds (λ x has. after x (inr has)))

-- ---- what is in force

pub force-longer : (e : Time) (ds more : List Schema) → AreAfter e more → in_force (ds ++ more) e ≡ in_force ds e
force-longer e ds more after = ap (find (λ (d : Schema). time_le d.modified e)) (reverse-append ds more) ∙ find-later e (reverse more) (reverse ds) (λ d has. after d (reverse-has more d has))

pub public-longer : (e : Time) (ds more : List Schema) → AreAfter e more → public_at (ds ++ more) e ≡ public_at ds e
public-longer e ds more after = ap (λ (o : Option Schema). unwrap_or (option_map is_public o) false) (force-longer e ds more after)

-- ---- dates

abbrev last-public : Bool → List Schema → Bool
last-public before [] = before
last-public before (d ∷ ds) = last-public (is_public d) ds

before-append : (before : Bool) (ds more : List Schema) → with_before before (ds ++ more) ≡ with_before before ds ++ with_before (last-public before ds) more
before-append before [] more = refl
before-append before (d ∷ ds) more = ap (λ xs. (before, d) ∷ xs) (before-append (is_public d) ds more)

dates-append : (test : Bool × Schema → Bool) (before : Bool) (ds more : List Schema) → dates_where test before (ds ++ more) ≡ dates_where test before ds ++ dates_where test (last-public before ds) more
dates-append test before ds more =
    ap (λ ps. map (λ (p : Bool × Schema). p.1.modified) (filter test ps)) (before-append before ds more)
    ∙ ap (map (λ (p : Bool × Schema). p.1.modified)) (filter-append test (with_before before ds) (with_before (last-public before ds) more))
    ∙ map-append (λ (p : Bool × Schema). p.1.modified) (filter test (with_before before ds)) (filter test (with_before (last-public before ds) more))

-- no later date passes a test that asks for one up to e
none-later : (e : Time) (p : Time → Bool) → ((u : Time) → time_le u e ≡ false → p u ≡ false) → (test : Bool × Schema → Bool) (before : Bool) (more : List Schema) → AreAfter e more → filter p (dates_where test before more) ≡ []
none-later e p late test before [] after = refl
none-later e p late test before (d ∷ more) after = by (test (before, d)) (none-later e p late test (is_public d) more (λ x has. after x (inr has)))
  where
    by : (b : Bool) → filter p (dates_where test (is_public d) more) ≡ [] → filter p (map (λ (p : Bool × Schema). p.1.modified) (cond b ((before, d) ∷ filter test (with_before (is_public d) more)) (filter test (with_before (is_public d) more)))) ≡ []
    by true rest = rw (late d.modified (after d (inl refl))) rest
    by false rest = rest

any-filter : (p : Time → Bool) (xs : List Time) → filter p xs ≡ [] → list_any p xs ≡ false
any-filter p [] e = refl
any-filter p (x ∷ xs) e = by (p x) (any-filter p xs) e
  where
    by : (b : Bool) → (filter p xs ≡ [] → list_any p xs ≡ false) → cond b (x ∷ filter p xs) (filter p xs) ≡ [] → (b || list_any p xs) ≡ false
    by true rest some = absurd (cc)
    by false rest more = rest more

not-between : (s e u : Time) → time_le u e ≡ false → is_between s (At e) u ≡ false
not-between s e u late = by (time_lt s u)
  where
    by : (b : Bool) → (b && time_le u e) ≡ false
    by true = late
    by false = refl

pub became-longer : (s e : Time) (ds more : List Schema) → AreAfter e more → becomes_public_in (ds ++ more) s e ≡ becomes_public_in ds s e
unfolding becomes_public_in
became-longer s e ds more after =
    ap (list_any (is_between s (At e))) (dates-append begins false ds more)
    ∙ list_any-append (is_between s (At e)) (dates_where begins false ds) (dates_where begins (last-public false ds) more)
    ∙ ap (λ (b : Bool). list_any (is_between s (At e)) (dates_where begins false ds) || b) (any-filter (is_between s (At e)) (dates_where begins (last-public false ds) more) (none-later e (is_between s (At e)) (not-between s e) begins (last-public false ds) more after))
    ∙ or-false _

last-longer : (e : Time) (ds more : List Schema) → AreAfter e more → last_end (ds ++ more) e ≡ last_end ds e
last-longer e ds more after =
    ap (λ ts. latest (filter (λ t. time_le t e) ts)) (dates-append ends false ds more)
    ∙ ap latest (filter-append (λ t. time_le t e) (dates_where ends false ds) (dates_where ends (last-public false ds) more))
    ∙ ap (λ ts. latest (filter (λ t. time_le t e) (dates_where ends false ds) ++ ts)) (none-later e (λ t. time_le t e) (λ u late. late) ends (last-public false ds) more after)
    ∙ ap latest (append-nil (filter (λ t. time_le t e) (dates_where ends false ds)))

-- ---- members and plans

after-longer : (s e : Time) (ds more : List Schema) → AreAfter e more → is_public_after (ds ++ more) s e ≡ is_public_after ds s e
after-longer s e ds more after = by (time_after s)
  where
    at : (t : Time) (b : Bool) → time_le t e ≡ b → (b && public_at (ds ++ more) t) ≡ (b && public_at ds t)
    at t true le = public-longer t ds more (after-sooner t e more le after)
    at t false le = refl

    by : (o : Option Time) → unwrap_or (option_map (λ t. time_le t e && public_at (ds ++ more) t) o) false ≡ unwrap_or (option_map (λ t. time_le t e && public_at ds t) o) false
    by None = refl
    by (Some t) = at t (time_le t e) refl

in-longer : (s e : Time) (ds more : List Schema) → AreAfter e more → is_public_in (ds ++ more) s e ≡ is_public_in ds s e
unfolding is_public_in
in-longer s e ds more after = ap (λ (b : Bool). b || becomes_public_in (ds ++ more) s e) (after-longer s e ds more after) ∙ ap (λ (b : Bool). is_public_after ds s e || b) (became-longer s e ds more after)

pub upto-longer : (e : Time) (ds more : List Schema) → AreAfter e more → upto_of (ds ++ more) e ≡ upto_of ds e
unfolding upto_of
upto-longer e ds more after =
    ap (λ (b : Bool). if b then At e else unwrap_or (option_map Before (last_end (ds ++ more) e)) (At e)) (public-longer e ds more after)
    ∙ ap (λ (o : Option Time). if public_at ds e then At e else unwrap_or (option_map Before o) (At e)) (last-longer e ds more after)

module _ (s : Span) (ds more : List Schema) (span : time_le s.floor s.end ≡ true) (after : AreAfter s.end more) where
  member-by : (h : Bool) → is_member_over h s (ds ++ more) ≡ is_member_over h s ds
  member-by false = public-longer s.end ds more after
  member-by true =
      ap (λ (a : Bool). a && (not (becomes_public_in (ds ++ more) s.start s.end) || (public_at (ds ++ more) s.floor || becomes_public_in (ds ++ more) s.floor s.end))) (in-longer s.start s.end ds more after)
      ∙ ap (λ (b : Bool). is_public_in ds s.start s.end && (not b || (public_at (ds ++ more) s.floor || becomes_public_in (ds ++ more) s.floor s.end))) (became-longer s.start s.end ds more after)
      ∙ ap (λ (c : Bool). is_public_in ds s.start s.end && (not (becomes_public_in ds s.start s.end) || (c || becomes_public_in (ds ++ more) s.floor s.end))) (public-longer s.floor ds more (after-sooner s.floor s.end more span after))
      ∙ ap (λ (d : Bool). is_public_in ds s.start s.end && (not (becomes_public_in ds s.start s.end) || (public_at ds s.floor || d))) (became-longer s.floor s.end ds more after)

  pub member-longer : is_member_over s.history s (ds ++ more) ≡ is_member_over s.history s ds
  member-longer = member-by s.history

  pub plan-longer : (h b : Bool) → plan_by h b s (ds ++ more) ≡ plan_by h b s ds
  plan-longer true true = ap (λ (u : Upto). Whole s.floor u true) (upto-longer s.end ds more after)
  plan-longer true false = ap (λ (u : Upto). Changes s.start u true) (upto-longer s.end ds more after)
  plan-longer false true = refl
  plan-longer false false = refl

  none-between : (xs : List Schema) → AreAfter s.end xs → filter (λ (d : Schema). is_between s.floor (At s.end) d.modified) xs ≡ []
  none-between [] off = refl
  none-between (x ∷ xs) off = rw (not-between s.floor s.end x.modified (off x (inl refl))) (none-between xs (λ y has. off y (inr has)))

  pub descriptors-longer : (h : Bool) → layer_descriptors h s.floor s.end (ds ++ more) ≡ layer_descriptors h s.floor s.end ds
  descriptors-longer false = ap (λ (o : Option Schema). option_to_list o) (force-longer s.end ds more after)
  descriptors-longer true =
      let p = λ (d : Schema). is_between s.floor (At s.end) d.modified in
      ap (λ (o : Option Schema). option_to_list o ++ filter p (ds ++ more)) (force-longer s.floor ds more (after-sooner s.floor s.end more span after))
      ∙ ap (λ (xs : List Schema). option_to_list (in_force ds s.floor) ++ xs) (filter-append p ds more ∙ ap (λ (xs : List Schema). filter p ds ++ xs) (none-between more after) ∙ append-nil (filter p ds))
