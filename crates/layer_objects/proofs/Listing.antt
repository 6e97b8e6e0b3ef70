-- The descriptors that a layer lists of a table are some of the table's, at least one of a member, and may stand in a manifest.
use Rattle.std.proofs.Common.{◌≡◌, ◌⊎◌, inl, inr, ⊎_elim, ℕ, ◌-◌, ◌<◌, Bool, true, false, ◌&&◌, cond, refl, sym, ap, subst, ◌∙◌, arith, List, [], ◌∷◌, ◌++◌, length, filter, Option, Some, None}
use Rattle.std.specs.Prelude.{option_map, option_to_list, reverse, slice_get, unwrap_or}
use Rattle.std.specs.List.{AllByRecursion, find}
use Rattle.std.proofs.lemmas.Bool.{eq-eqb}
use Rattle.std.proofs.lemmas.List.{length-append, reverse-append}
use Rattle.std.proofs.lemmas.Slice.Eq.{bytes_eq-Decides}
use Rattle.mvcc_keys.specs.Times.{Time, time_le, time_lt, zero_time}
use Rattle.mvcc_keys.proofs.TimeOrder.{le-lt-lt, le-trans, lt-trans, not_le-lt}
use Rattle.row_codec.specs.declared.rows.Kind.{Kind}
use Rattle.row_codec.specs.declared.rows.Kind.TheVariants.{Int, Text, Bytes, Bool as Truth, IntDown, TextDown, BytesDown, BoolDown}
use Rattle.table_descriptors.specs.Descriptors.{IsProperSchema, Schema, key_kinds}
use Rattle.table_descriptors.specs.Fields.{EachAfter}
use Rattle.list_laws.specs.Members.{Has}
use Rattle.list_laws.proofs.Bools.{and-both, and-left, and-right}
use Rattle.list_laws.proofs.Members.{filter-has, filter-passes, has-AllByRecursion, has-append_cases, has-append_left, has-append_right, has-filter, reverse-has}
use Rattle.range_tombstones.specs.declared.upto.Upto.TheVariants.{At}
use Rattle.range_tombstones.specs.Intervals.{is_between}
use Rattle.history_model.specs.Histories.{in_force}
use Rattle.introduced_spans.specs.declared.plans.Span.{Span}
use Rattle.introduced_spans.specs.PlanLaws.{ascend_after}
use Rattle.introduced_spans.specs.Publicity.{is_public, public_at}
use Rattle.introduced_spans.specs.Spans.{is_member_over, layer_descriptors}
use Rattle.introduced_spans.proofs.Untold.{some-time}
use Rattle.layer_manifest.specs.Manifests.{is_next_descriptor, same_key, same_kind, same_kinds}
use Rattle.layer_objects.specs.Storable.{AreListable}

-- ---- lists

pub find-has : {X : Type 0} (p : X → Bool) (x : X) (xs : List X) → find p xs ≡ Some x → Has x xs
find-has p x [] e = absurd cc
find-has p x (y ∷ ys) e = by (p y) (find-has p x ys) e
  where
    by : (b : Bool) → (find p ys ≡ Some x → Has x ys) → cond b (Some y) (find p ys) ≡ Some x → (x ≡ y) ⊎ Has x ys
    by true more e = inl (sym (let s : y ≡ x = cc in s))
    by false more e = inr (more e)

find-passes : {X : Type 0} (p : X → Bool) (x : X) (xs : List X) → find p xs ≡ Some x → p x ≡ true
find-passes p x [] e = absurd cc
find-passes p x (y ∷ ys) e = by (p y) refl (find-passes p x ys) e
  where
    by : (b : Bool) → p y ≡ b → (find p ys ≡ Some x → p x ≡ true) → cond b (Some y) (find p ys) ≡ Some x → p x ≡ true
    by true is more e = subst (λ z. p z ≡ true) (let s : y ≡ x = cc in s) is
    by false is more e = more e

-- what passes is found, or something before it
found-some : {X : Type 0} (p : X → Bool) (x : X) (xs : List X) → Has x xs → p x ≡ true → (y : X) × (find p xs ≡ Some y)
found-some p x [] has is = absurd has
found-some {X} p x (y ∷ ys) has is = by (λ more. found-some p x ys more is) (p y) refl has
  where
    by : (Has x ys → (z : X) × (find p ys ≡ Some z)) → (b : Bool) → p y ≡ b → (x ≡ y) ⊎ Has x ys → (z : X) × (cond b (Some y) (find p ys) ≡ Some z)
    by later true e has = (y, refl)
    by later false e (inl same) = absurd (let wrong : true ≡ false = sym is ∙ (ap p same ∙ e) in cc wrong)
    by later false e (inr more) = later more

has-reverse : {X : Type 0} (x : X) (xs : List X) → Has x xs → Has x (reverse xs)
has-reverse x [] has = absurd has
has-reverse {X} x (y ∷ ys) has = subst (λ (zs : List X). Has x zs) (sym (reverse-append (y ∷ []) ys)) (elim has [
  | inl same ↦ has-append_right x (reverse ys) (y ∷ []) (inl same)
  | inr more ↦ has-append_left x (reverse ys) (y ∷ []) (has-reverse x ys more)
])

one-of : {X : Type 0} (x : X) (o : Option X) → Has x (option_to_list o) → o ≡ Some x
one-of x None has = absurd has
one-of x (Some y) (inl is) = ap Some (sym is)
one-of x (Some y) (inr none) = absurd none

some-length : {X : Type 0} (x : X) (xs : List X) → Has x xs → 0 < length xs
some-length x [] has = absurd has
some-length x (y ∷ ys) has = omega arith

-- ---- what is listed

in-force-has : (ds : List Schema) (t : Time) (d : Schema) → in_force ds t ≡ Some d → Has d ds × (time_le d.modified t ≡ true)
in-force-has ds t d e = (reverse-has ds d (find-has (λ (x : Schema). time_le x.modified t) d (reverse ds) e), find-passes (λ (x : Schema). time_le x.modified t) d (reverse ds) e)

pub listed-has : (history : Bool) (floor end : Time) (ds : List Schema) (d : Schema) → Has d (layer_descriptors history floor end ds) → Has d ds
listed-has false floor end ds d has = (in-force-has ds end d (one-of d (in_force ds end) has)).0
listed-has true floor end ds d has = ⊎_elim (λ one. (in-force-has ds floor d (one-of d (in_force ds floor) one)).0) (filter-has _ d ds)
    (has-append_cases d (option_to_list (in_force ds floor)) (filter (λ (x : Schema). is_between floor (At end) x.modified) ds) has)

-- where a table is public some descriptor is in force
shown-some : (ds : List Schema) (t : Time) → public_at ds t ≡ true → (d : Schema) × (in_force ds t ≡ Some d)
shown-some ds t shown = by (in_force ds t) shown
  where
    by : (o : Option Schema) → unwrap_or (option_map is_public o) false ≡ true → (d : Schema) × (o ≡ Some d)
    by None e = absurd cc
    by (Some d) e = (d, refl)

-- of a table that was public up to the end a layer with history lists a descriptor
history-some : (floor end x : Time) (ds : List Schema) → time_le x end ≡ true → public_at ds x ≡ true → 0 < length (layer_descriptors true floor end ds)
history-some floor end x ds upto shown =
    let d = shown-some ds x shown in
    let has = in-force-has ds x d.0 d.1 in by d.0 has.0 (le-trans d.0.modified x end has.1 upto) (time_le d.0.modified floor) refl
  where
    front : List Schema
    front = option_to_list (in_force ds floor)

    back : List Schema
    back = filter (λ (e : Schema). is_between floor (At end) e.modified) ds

    by : (d : Schema) → Has d ds → time_le d.modified end ≡ true → (b : Bool) → time_le d.modified floor ≡ b → 0 < length (front ++ back)
    by d has le true early =
        let f = found-some (λ (e : Schema). time_le e.modified floor) d (reverse ds) (has-reverse d ds has) early in
        some-length f.0 (front ++ back) (has-append_left f.0 front back (subst (λ (o : Option Schema). Has f.0 (option_to_list o)) (sym f.1) (inl refl)))
    by d has le false late =
        some-length d (front ++ back) (has-append_right d front back (has-filter (λ (e : Schema). is_between floor (At end) e.modified) d ds has (and-both _ _ (not_le-lt floor d.modified late) le)))

-- a layer lists a descriptor of each member
pub listed-some : (s : Span) (ds : List Schema) → ascend_after zero_time ds ≡ true → is_member_over s.history s ds ≡ true → 0 < length (layer_descriptors s.history s.floor s.end ds)
listed-some s ds up member = by s.history member
  where
    by : (history : Bool) → is_member_over history s ds ≡ true → 0 < length (layer_descriptors history s.floor s.end ds)
    by false shown = let d = shown-some ds s.end shown in subst (λ (o : Option Schema). 0 < length (option_to_list o)) (sym d.1) (omega arith)
    by true is = let x = some-time s.start s.end ds up (and-left _ _ is) in history-some s.floor s.end x.0 ds x.1 x.2

-- ---- dates

lower : (low up : Time) (ds : List Schema) → time_lt low up ≡ true → ascend_after up ds ≡ true → ascend_after low ds ≡ true
lower low up [] less rise = refl
lower low up (d ∷ ds) less rise = and-both _ _ (lt-trans low up d.modified less (and-left _ _ rise)) (and-right _ _ rise)

ascend-filter : (p : Schema → Bool) (low : Time) (ds : List Schema) → ascend_after low ds ≡ true → ascend_after low (filter p ds) ≡ true
ascend-filter p low [] rise = refl
ascend-filter p low (d ∷ ds) rise = by (p d) (ascend-filter p d.modified ds (and-right _ _ rise))
  where
    by : (b : Bool) → ascend_after d.modified (filter p ds) ≡ true → ascend_after low (cond b (d ∷ filter p ds) (filter p ds)) ≡ true
    by true rest = and-both _ _ (and-left _ _ rise) rest
    by false rest = lower low d.modified (filter p ds) (and-left _ _ rise) rest

-- dates ascend from a descriptor on, if there is one
abbrev pub Ascends : List Schema → Type 0
Ascends [] = Unit {0}
Ascends (d ∷ ds) = ascend_after d.modified ds ≡ true

after-any : (low : Time) (ds : List Schema) → ascend_after low ds ≡ true → Ascends ds
after-any low [] rise = tt
after-any low (d ∷ ds) rise = and-right _ _ rise

-- from a time that isn't after dates that ascend
from-earlier : (low t : Time) (ds : List Schema) → ((d : Schema) → Has d ds → time_lt t d.modified ≡ true) → ascend_after low ds ≡ true → ascend_after t ds ≡ true
from-earlier low t [] above rise = refl
from-earlier low t (d ∷ ds) above rise = and-both _ _ (above d (inl refl)) (and-right _ _ rise)

pub listed-ascends : (history : Bool) (floor end : Time) (ds : List Schema) → ascend_after zero_time ds ≡ true → Ascends (layer_descriptors history floor end ds)
listed-ascends false floor end ds up = by (in_force ds end)
  where
    by : (o : Option Schema) → Ascends (option_to_list o)
    by None = tt
    by (Some d) = refl
listed-ascends true floor end ds up = by (in_force ds floor) refl
  where
    p : Schema → Bool
    p = λ (e : Schema). is_between floor (At end) e.modified

    by : (o : Option Schema) → in_force ds floor ≡ o → Ascends (option_to_list o ++ filter p ds)
    by None e = after-any zero_time (filter p ds) (ascend-filter p zero_time ds up)
    by (Some d) e = from-earlier zero_time d.modified (filter p ds)
        (λ x has. le-lt-lt d.modified floor x.modified (in-force-has ds floor d e).1 (and-left _ _ (filter-passes p x ds has)))
        (ascend-filter p zero_time ds up)

-- ---- keys

same-kind : (k : Kind) → same_kind k k ≡ true
same-kind Int = refl
same-kind Text = refl
same-kind Bytes = refl
same-kind Truth = refl
same-kind IntDown = refl
same-kind TextDown = refl
same-kind BytesDown = refl
same-kind BoolDown = refl

same-kinds : (ks : List Kind) → same_kinds ks ks ≡ true
same-kinds [] = refl
same-kinds (k ∷ ks) = and-both _ _ (same-kind k) (same-kinds ks)

keys-alike : (d e : Schema) → d.key_columns ≡ e.key_columns → key_kinds d ≡ key_kinds e → same_key d e ≡ true
keys-alike d e columns kinds = and-both _ _ ((bytes_eq-Decides d.key_columns e.key_columns).1 columns) (subst (λ (ks : List Kind). same_kinds (key_kinds d) ks ≡ true) kinds (same-kinds (key_kinds d)))

-- ---- in a manifest

front-stays : {X : Type 0} (x y : X) (xs : List X) → slice_get xs 0 ≡ Some x → slice_get (xs ++ y ∷ []) 0 ≡ Some x
front-stays x y [] got = absurd cc
front-stays x y (z ∷ xs) got = got

last-got : {X : Type 0} (x : X) (xs : List X) → slice_get (xs ++ x ∷ []) (length xs) ≡ Some x
last-got x [] = refl
last-got x (y ∷ xs) = last-got x xs

last-of : {X : Type 0} (x : X) (xs : List X) → slice_get (xs ++ x ∷ []) (length (xs ++ x ∷ []) - 1) ≡ Some x
last-of x xs =
    let l = length-append xs (x ∷ []) in
    let place : length (xs ++ x ∷ []) - 1 ≡ length xs = omega (arith, l) in rw place (last-got x xs)

-- what a manifest asks of a descriptor after others
abbrev pub IsNextSchema : ℕ → List Schema → Schema → Type 0
IsNextSchema id before d = IsProperSchema d × (is_next_descriptor id before d ≡ true)

-- a descriptor of the table, with the key of a first one
abbrev IsAlike : ℕ → Schema → Schema → Type 0
IsAlike id first d = IsProperSchema d × (d.id ≡ id) × (same_key first d ≡ true)

next-schemas : (id : ℕ) (first last : Schema) (before ds : List Schema) → slice_get before 0 ≡ Some first → slice_get before (length before - 1) ≡ Some last
    → ascend_after last.modified ds ≡ true → ((d : Schema) → Has d ds → IsAlike id first d) → EachAfter (IsNextSchema id) before ds
next-schemas id first last before [] front back rise all = tt
next-schemas id first last before (d ∷ ds) front back rise all =
    let a = all d (inl refl) in
    let dated = and-left (time_lt last.modified d.modified) (ascend_after d.modified ds) rise in (
      (a.0, rw (front, back) (and-both _ _ (and-both _ _ (eq-eqb d.id id a.1) dated) a.2)),
      next-schemas id first d (before ++ d ∷ []) ds (front-stays first d before front) (last-of d before) (and-right _ _ rise) (λ x has. all x (inr has)),
    )

all-next : (id : ℕ) (ds : List Schema) → Ascends ds → AllByRecursion IsProperSchema ds → ((d : Schema) → Has d ds → d.id ≡ id) → ((d e : Schema) → Has d ds → Has e ds → same_key d e ≡ true) → EachAfter (IsNextSchema id) [] ds
all-next id [] rise proper ids keys = tt
all-next id (d ∷ ds) rise proper ids keys = (
  (proper.0, ap (λ (b : Bool). b && true && true) (eq-eqb d.id id (ids d (inl refl)))),
  next-schemas id d d (d ∷ []) ds refl refl rise (λ x has. (has-AllByRecursion IsProperSchema x ds proper.1 has, ids x (inr has), keys d x (inl refl) (inr has))),
)

-- descriptors of one table that ascend, and that can be listed, may stand in a manifest
pub listable-next : (id : ℕ) (kinds : List Kind) (ds : List Schema) → Ascends ds → AreListable ds → ((d : Schema) → Has d ds → (d.id ≡ id) × (kinds ≡ key_kinds d)) → EachAfter (IsNextSchema id) [] ds
listable-next id kinds ds rise listable own =
    all-next id ds rise listable.proper (λ d has. (own d has).0) (λ d e has there. keys-alike d e (listable.keyed d e has there) (sym (own d has).1 ∙ (own e there).1))

-- ---- without history

-- one descriptor, or none, can be listed where it is a proper one
pub now-listable : (floor end : Time) (ds : List Schema) → AllByRecursion IsProperSchema (layer_descriptors false floor end ds) → AreListable (layer_descriptors false floor end ds)
now-listable floor end ds proper = by (in_force ds end) proper
  where
    by : (o : Option Schema) → AllByRecursion IsProperSchema (option_to_list o) → AreListable (option_to_list o)
    by None all = record { proper = all; keyed = λ d e none. absurd none; counted = omega arith }
    by (Some x) all = record {
      proper = all;
      keyed = λ d e has there. ap (λ (y : Schema). y.key_columns) (only d has ∙ sym (only e there));
      counted = omega arith;
    }
      where
        only : (d : Schema) → Has d (x ∷ []) → d ≡ x
        only d (inl is) = is
        only d (inr none) = absurd none
