-- The entries of a plan are facts of its table, and no more than the table has.
use Rattle.std.proofs.Common.{◌≡◌, ℕ, suc, ◌≤◌, Bool, true, false, refl, sym, ap, subst, ◌∙◌, arith, List, [], ◌∷◌, ◌++◌, inl, inr, ⊎_elim, length, Less}
use Rattle.std.specs.List.{AllByRecursion}
use Rattle.std.specs.List.Sorted.{IsStrictlySortedBy}
use Rattle.std.proofs.lemmas.List.{length-map}
use Rattle.mvcc_keys.specs.Times.{Time}
use Rattle.mvcc_keys.specs.declared.entries.Entry.{Entry}
use Rattle.list_laws.specs.Members.{Has}
use Rattle.list_laws.proofs.Members.{filter-has, has-AllByRecursion, has-append_cases, has-map, map-has}
use Rattle.range_tombstones.specs.Intervals.{is_between}
use Rattle.fact_model.specs.Listed.{date_cmp, point_cmp, points, ranges}
use Rattle.fact_model.specs.Scans.{image}
use Rattle.fact_model.proofs.Orders.{ordered-has}
use Rattle.fact_model.proofs.Stores.{image-in}
use Rattle.version_store.specs.Tables.{ByteFact, Tables, bytes_cmp, entries_of, entry_of, is_newest, newest_points}
use Rattle.version_store.proofs.Bytes.{bytes_order}
use Rattle.span_export.specs.declared.plan.Plan.{Plan}
use Rattle.span_export.specs.declared.plan.Plan.TheVariants.{Changes, Whole}
use Rattle.span_export.specs.Entries.{order}
use Rattle.span_export.specs.Pieces.{is_after, place_of}
use Rattle.span_export.specs.Plans.{plan_entries, plan_points, plan_ranges, whole_points}
use Rattle.span_export.proofs.EntryOrder.{after-later, not_after-itself, plan-sorted}

-- ---- facts

point-there : (dated : Time → Bool) (fs : List ByteFact) (f : ByteFact) → Has f (points bytes_cmp dated fs) → Has f fs
unfolding points
point-there dated fs f has = filter-has _ f fs (ordered-has (point_cmp bytes_cmp) f _ has)

range-there : (dated : Time → Bool) (fs : List ByteFact) (f : ByteFact) → Has f (ranges dated fs) → Has f fs
unfolding ranges
range-there dated fs f has = filter-has _ f fs (ordered-has date_cmp f _ has)

newest-there : (dated : Time → Bool) (fs : List ByteFact) (f : ByteFact) → Has f (newest_points (points bytes_cmp dated fs)) → Has f fs
unfolding newest_points
newest-there dated fs f has = point-there dated fs f (filter-has (is_newest (points bytes_cmp dated fs)) f (points bytes_cmp dated fs) has)

whole-there : (floor : Time) (dated : Time → Bool) (fs : List ByteFact) (f : ByteFact) → Has f (whole_points floor dated fs) → Has f fs
unfolding whole_points
whole-there floor dated fs f has = ⊎_elim (image-in bytes_cmp bytes_order floor fs f) (point-there dated fs f)
    (has-append_cases f (image bytes_cmp floor fs) (points bytes_cmp dated fs) (ordered-has (point_cmp bytes_cmp) f (image bytes_cmp floor fs ++ points bytes_cmp dated fs) has))

points-there : (fs : List ByteFact) (plan : Plan) (f : ByteFact) → Has f (plan_points fs plan) → Has f fs
points-there fs (Changes after upto true) f has = point-there (is_between after upto) fs f has
points-there fs (Changes after upto false) f has = newest-there (is_between after upto) fs f has
points-there fs (Whole floor upto true) f has = whole-there floor (is_between floor upto) fs f has
points-there fs (Whole floor upto false) f has = image-in bytes_cmp bytes_order floor fs f has

ranges-there : (fs : List ByteFact) (plan : Plan) (f : ByteFact) → Has f (plan_ranges fs plan) → Has f fs
ranges-there fs (Changes after upto every) f has = range-there (is_between after upto) fs f has
ranges-there fs (Whole floor upto true) f has = range-there (is_between floor upto) fs f has
ranges-there fs (Whole floor upto false) f has = absurd has

-- each entry of a plan is a fact of its table
pub entry-there : (h : Tables) (table : ℕ) (plan : Plan) (e : Entry) → Has e (plan_entries h table plan) → (f : ByteFact) × Has f (h.facts table) × (e ≡ entry_of f)
unfolding plan_entries
entry-there h table plan e has =
    let fs = h.facts table in
    let m = map-has entry_of e (plan_points fs plan ++ plan_ranges fs plan) has in
    (m.0, ⊎_elim (points-there fs plan m.0) (ranges-there fs plan m.0) (has-append_cases m.0 (plan_points fs plan) (plan_ranges fs plan) m.1), m.2)

-- ---- counts

-- the list without one place at which an element stands
without : {X : Type 0} (x : X) (ys : List X) → Has x ys → List X
without x [] has = absurd has
without x (y ∷ ys) (inl is) = ys
without x (y ∷ ys) (inr has) = y ∷ without x ys has

length-without : {X : Type 0} (x : X) (ys : List X) (has : Has x ys) → suc (length (without x ys has)) ≡ length ys
unfolding without
length-without x [] has = absurd has
length-without x (y ∷ ys) (inl is) = refl
length-without x (y ∷ ys) (inr has) = ap suc (length-without x ys has)

still-there : {X : Type 0} (z x : X) (ys : List X) (has : Has x ys) → (z ≡ x → ⊥) → Has z ys → Has z (without x ys has)
unfolding without
still-there z x [] has other there = absurd has
still-there z x (y ∷ ys) (inl is) other (inl same) = absurd (other (same ∙ sym is))
still-there z x (y ∷ ys) (inl is) other (inr there) = there
still-there z x (y ∷ ys) (inr has) other (inl same) = inl same
still-there z x (y ∷ ys) (inr has) other (inr there) = inr (still-there z x ys has other there)

-- an entry isn't among those that come after it
not-later : (e : Entry) (es : List Entry) → AllByRecursion (λ d. order e d ≡ Less) es → Has e es → ⊥
not-later e es all has =
    let after : is_after (place_of e) e ≡ true = after-later e e (has-AllByRecursion (λ d. order e d ≡ Less) e es all has) in
    let no : true ≡ false = sym after ∙ not_after-itself e in cc no

-- sorted entries that are all among others are no more than those
fewer : (es ds : List Entry) → IsStrictlySortedBy order es → ((e : Entry) → Has e es → Has e ds) → length es ≤ length ds
unfolding IsStrictlySortedBy
fewer [] ds up all = omega arith
fewer (e ∷ es) ds up all =
    let here = all e (inl refl) in
    let less = fewer es (without e ds here) up.1 (λ d has. still-there d e ds here (λ same. not-later e es up.0 (subst (λ (x : Entry). Has x es) same has)) (all d (inr has))) in
    let one = length-without e ds here in omega (arith, less, one)

-- a plan has no more entries than its table has facts
pub plan-fewer : (h : Tables) (table : ℕ) (plan : Plan) → length (plan_entries h table plan) ≤ length (h.facts table)
plan-fewer h table plan =
    let less = fewer (plan_entries h table plan) (entries_of (h.facts table)) (plan-sorted h table plan)
    (λ e has. let f = entry-there h table plan e has in subst (λ (x : Entry). Has x (entries_of (h.facts table))) (sym f.2) (has-map entry_of f.0 (h.facts table) f.1)) in
    let mapped = length-map (h.facts table) entry_of in omega (arith, less, mapped)
