-- The orders in which facts are listed, and what the listings have.
use Rattle.std.proofs.Common.{◌≡◌, ◌∙◌, Bool, true, false, not, ◌&&◌, sym, refl, ap, List, filter, true≢false, Ordering, Equal, is_eq}
use Rattle.std.specs.Cmp.{IsTotalOrder}
use Rattle.std.proofs.lemmas.Cmp.{back_total, on_total, then_total, tied_itself}
use Rattle.mvcc_keys.specs.Times.{Time}
use Rattle.mvcc_keys.specs.Codes.{time_cmp}
use Rattle.mvcc_keys.proofs.TimeOrder.{cmp-Equal, time_total}
use Rattle.list_laws.specs.Members.{Has}
use Rattle.list_laws.proofs.Bools.{and-both, and-parts, not-true}
use Rattle.list_laws.proofs.Members as members
use Rattle.list_laws.proofs.Orderings.{then-Equal}
use Rattle.fact_model.specs.Facts.{Fact, Put, Del, DelRange, IsApart, IsKeyOrder, date, touches}
use Rattle.fact_model.specs.Listed.{date_cmp, is_point, key_of, point_cmp, points, ranges}
use Rattle.fact_model.specs.Ordered.{ordered}
use Rattle.fact_model.specs.Listings.{IsListed, IsListing, RangesDiffer}
use Rattle.fact_model.proofs.Orders as orders

pub dates-total : {K V : Type 0} → IsTotalOrder (date_cmp {K = K} {V = V})
dates-total {K} {V} = on_total (λ (f : Fact K V). date f) time_total

pub ranges-listed : {K V : Type 0} (dated : Time → Bool) (fs : List (Fact K V)) → RangesDiffer fs → IsListing date_cmp (IsListed false dated fs) (ranges dated fs)
unfolding ranges
ranges-listed {K} {V} dated fs d = record { ascends = orders.ascending-ordered date_cmp dates-total (filter chosen fs); has = λ f. (there f, here f) }
  where
    chosen : Fact K V → Bool
    chosen f = not (is_point f) && dated (date f)

    among : (f : Fact K V) → Has f (filter chosen fs) → IsListed false dated fs f
    among f h = let e = and-parts (not (is_point f)) (dated (date f)) (members.filter-passes chosen f fs h) in (members.filter-has chosen f fs h, not-true (is_point f) e.0, e.1)

    there : (f : Fact K V) → Has f (ordered date_cmp (filter chosen fs)) → IsListed false dated fs f
    there f h = among f (orders.ordered-has date_cmp f (filter chosen fs) h)

    here : (f : Fact K V) → IsListed false dated fs f → Has f (ordered date_cmp (filter chosen fs))
    here f m = orders.ordered-there date_cmp f (filter chosen fs) (λ x y i j e. let a = among x i in let b = among y j in d.differ x y a.0 b.0 a.1 b.1 (cmp-Equal (date x) (date y) e)) (members.has-filter chosen f fs m.0 (and-both (not (is_point f)) (dated (date f)) (ap not m.1) m.2))

module _ {K V : Type 0} (cmp : K → K → Ordering) (o : IsKeyOrder cmp) where
  pub points-total : IsTotalOrder (point_cmp {K = K} {V = V} cmp)
  points-total = then_total (on_total (λ (f : Fact K V). key_of f) o.total) (back_total (on_total (λ (f : Fact K V). date f) time_total))

  point-touches : (k : K) (f : Fact K V) → is_point f ≡ true → key_of f ≡ k → touches cmp k f ≡ true
  point-touches k (Put q v t) p e = ap (λ (x : K). is_eq (cmp x k)) e ∙ ap is_eq (tied_itself o.total k)
  point-touches k (Del q t) p e = ap (λ (x : K). is_eq (cmp x k)) e ∙ ap is_eq (tied_itself o.total k)
  point-touches k (DelRange lo hi t) p e = absurd (true≢false (sym p))

  -- puts and deletions of facts that lie apart tie only with themselves
  pub points-same : (fs : List (Fact K V)) → IsApart cmp fs → (f g : Fact K V) → Has f fs → Has g fs → is_point f ≡ true → is_point g ≡ true → point_cmp cmp f g ≡ Equal → f ≡ g
  points-same fs a f g i j p q e =
      let tied = then-Equal (cmp (key_of f) (key_of g)) (time_cmp (date g) (date f)) e in
      let key : key_of f ≡ key_of g = o.same (key_of f) (key_of g) tied.0 in
      a.apart (key_of g) f g i j (point-touches (key_of g) f p key) (point-touches (key_of g) g q refl) (sym (cmp-Equal (date g) (date f) tied.1))

  pub points-listed : (dated : Time → Bool) (fs : List (Fact K V)) → IsApart cmp fs → IsListing (point_cmp cmp) (IsListed true dated fs) (points cmp dated fs)
  unfolding points
  points-listed dated fs a = record { ascends = orders.ascending-ordered (point_cmp cmp) points-total (filter chosen fs); has = λ f. (there f, here f) }
    where
      chosen : Fact K V → Bool
      chosen f = is_point f && dated (date f)

      among : (f : Fact K V) → Has f (filter chosen fs) → IsListed true dated fs f
      among f h = let e = and-parts (is_point f) (dated (date f)) (members.filter-passes chosen f fs h) in (members.filter-has chosen f fs h, e.0, e.1)

      there : (f : Fact K V) → Has f (ordered (point_cmp cmp) (filter chosen fs)) → IsListed true dated fs f
      there f h = among f (orders.ordered-has (point_cmp cmp) f (filter chosen fs) h)

      here : (f : Fact K V) → IsListed true dated fs f → Has f (ordered (point_cmp cmp) (filter chosen fs))
      here f m = orders.ordered-there (point_cmp cmp) f (filter chosen fs) (λ x y i j e. let b = among x i in let c = among y j in points-same fs a x y b.0 c.0 b.1 c.1 e) (members.has-filter chosen f fs m.0 (and-both (is_point f) (dated (date f)) m.1 m.2))
