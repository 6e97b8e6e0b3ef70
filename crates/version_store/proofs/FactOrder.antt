-- The orders of facts, and lists that ascend by them.
use Rattle.std.proofs.Common.{◌≡◌, ◌∙◌, Bool, true, false, not, ◌&&◌, sym, refl, ap, subst, List, [], ◌∷◌, map, filter, inl, inr, Ordering, Less, Equal, Greater, arith}
use Rattle.std.specs.Cmp.{IsTotalOrder}
use Rattle.std.specs.List.Sorted.{IsStrictlySortedBy}
use Rattle.std.specs.Ordering.{on, ordering_then}
use Rattle.std.proofs.lemmas.Bool.Decides.{nat_tests}
use Rattle.mvcc_keys.specs.Times.{Time, time_le, time_lt}
use Rattle.mvcc_keys.specs.Codes.{time_cmp}
use Rattle.list_laws.specs.Members.{Has}
use Rattle.fact_model.specs.Facts.{date}
use Rattle.fact_model.specs.Listed.{date_cmp, is_point, point_cmp, points, ranges}
use Rattle.fact_model.specs.Scans.{Item, image, put_of, scan}
use Rattle.list_laws.proofs.Members as members
use Rattle.fact_model.proofs.Listings as listings
use Rattle.fact_model.proofs.Orders as orders
use Rattle.fact_model.proofs.Scanned as scanned
use Rattle.version_store.specs.Tables.{Bytes, ByteFact, bytes_cmp}
use Rattle.version_store.proofs.Bytes.{bytes_order}
use Rattle.list_laws.proofs.Bools.{and-parts, not-true}

pub dates-total : IsTotalOrder (date_cmp {K = Bytes} {V = Bytes})
dates-total = listings.dates-total

pub points-total : IsTotalOrder (point_cmp {K = Bytes} {V = Bytes} bytes_cmp)
points-total = listings.points-total bytes_cmp bytes_order

pub less-lt : (s t : Time) → time_cmp s t ≡ Less → time_lt s t ≡ true
less-lt s t e = grind (arith, nat_tests)

pub greater-lt : (s t : Time) → time_cmp s t ≡ Greater → time_lt s t ≡ false
greater-lt s t e = grind (arith, nat_tests)

pub equal-lt : (s t : Time) → time_cmp s t ≡ Equal → time_lt s t ≡ false
equal-lt s t e = grind (arith, nat_tests)

-- a list that ascends, mapped by what keeps its order
pub sorted-map : {X Y : Type 0} (cmp : X → X → Ordering) (cmp' : Y → Y → Ordering) (f : X → Y) (xs : List X) → ((a b : X) → Has a xs → Has b xs → cmp a b ≡ Less → cmp' (f a) (f b) ≡ Less) → IsStrictlySortedBy cmp xs → IsStrictlySortedBy cmp' (map f xs)
unfolding IsStrictlySortedBy
sorted-map cmp cmp' f [] keeps up = tt
sorted-map {X} {Y} cmp cmp' f (x ∷ xs) keeps up = (members.AllByRecursion-has (λ y. cmp' (f x) y ≡ Less) (map f xs) (λ y h. let m = members.map-has f y xs h in ap (cmp' (f x)) m.2 ∙ keeps x m.0 (inl refl) (inr m.1) (members.has-AllByRecursion (λ z. cmp x z ≡ Less) m.0 xs up.0 m.1)), sorted-map cmp cmp' f xs (λ a b i j. keeps a b (inr i) (inr j)) up.1)

-- ---- the listings

pub points-sorted : (dated : Time → Bool) (fs : List ByteFact) → IsStrictlySortedBy (point_cmp bytes_cmp) (points bytes_cmp dated fs)
unfolding points
points-sorted dated fs = orders.ascending-ordered (point_cmp bytes_cmp) points-total (filter (λ f. is_point f && dated (date f)) fs)

pub ranges-sorted : (dated : Time → Bool) (fs : List ByteFact) → IsStrictlySortedBy date_cmp (ranges dated fs)
unfolding ranges
ranges-sorted dated fs = orders.ascending-ordered date_cmp dates-total (filter (λ f. not (is_point f) && dated (date f)) fs)

pub point-has : (dated : Time → Bool) (fs : List ByteFact) (f : ByteFact) → Has f (points bytes_cmp dated fs) → (is_point f ≡ true) × (dated (date f) ≡ true)
unfolding points
point-has dated fs f h = and-parts (is_point f) (dated (date f)) (members.filter-passes (λ g. is_point g && dated (date g)) f fs (orders.ordered-has (point_cmp bytes_cmp) f (filter (λ g. is_point g && dated (date g)) fs) h))

pub range-has : (dated : Time → Bool) (fs : List ByteFact) (f : ByteFact) → Has f (ranges dated fs) → is_point f ≡ false
unfolding ranges
range-has dated fs f h = not-true (is_point f) (and-parts (not (is_point f)) (dated (date f)) (members.filter-passes (λ g. not (is_point g) && dated (date g)) f fs (orders.ordered-has date_cmp f (filter (λ g. not (is_point g) && dated (date g)) fs) h))).0

pub image-sorted : (t : Time) (fs : List ByteFact) → IsStrictlySortedBy (point_cmp bytes_cmp) (image bytes_cmp t fs)
unfolding image
image-sorted t fs = sorted-map (on (λ (i : Item Bytes Bytes). i.key) bytes_cmp) (point_cmp bytes_cmp) put_of (scan bytes_cmp t fs) (λ a b i j e. ap (λ (o : Ordering). ordering_then o (time_cmp b.at a.at)) e) (scanned.scan-is bytes_cmp bytes_order t fs).ascends

pub image-has : (t : Time) (fs : List ByteFact) (f : ByteFact) → Has f (image bytes_cmp t fs) → (is_point f ≡ true) × (time_le (date f) t ≡ true)
image-has t fs f h = let m = scanned.image-has bytes_cmp bytes_order t fs f h in (ap is_point m.3, subst (λ (x : ByteFact). time_le (date x) t ≡ true) (sym m.3) (scanned.value-put bytes_cmp bytes_order t fs m.0 m.1 m.2).dated)
