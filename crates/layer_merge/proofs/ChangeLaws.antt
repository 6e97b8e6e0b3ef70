-- Changes given key by key: the first put or deletion that is due is the next one.
use Rattle.std.proofs.Common.{◌≡◌, Bool, true, false, not, ◌&&◌, sym, refl, ap, ◌∙◌, subst, List, [], ◌∷◌, filter, Option, Some, None, inl, inr, Ordering, Less, Equal, Greater, is_eq, is_lt, true≢false}
use Rattle.std.specs.List.{list_any}
use Rattle.std.specs.List.Sorted.{IsStrictlySortedBy}
use Rattle.std.specs.Ordering.{is_gt, ordering_then}
use Rattle.std.proofs.lemmas.Cmp.{tied_itself}
use Rattle.std.proofs.lemmas.List.Kept.{IsStrictlySortedBy-filter}
use Rattle.mvcc_keys.specs.Times.{Time, time_le, time_lt}
use Rattle.mvcc_keys.specs.Codes.{time_cmp}
use Rattle.mvcc_keys.proofs.TimeOrder as times
use Rattle.list_laws.specs.Members.{Has, AllIn}
use Rattle.list_laws.proofs.Members as members
use Rattle.list_laws.proofs.Bools.{and-parts, and-both, not-true}
use Rattle.list_laws.proofs.Filters.{any-none, none-any}
use Rattle.list_laws.proofs.Orderings.{lt-Less}
use Rattle.fact_model.specs.Facts.{Fact, IsApart, date, touches}
use Rattle.fact_model.specs.Listed.{is_point, key_of, point_cmp, points}
use Rattle.fact_model.specs.Listings.{IsListed, IsNewestPoint}
use Rattle.fact_model.proofs.Listings as listings
use Rattle.fact_model.proofs.Orders as orders
use Rattle.version_store.specs.Tables.{Bytes, ByteFact, bytes_cmp, is_newest, newest_points, same_key}
use Rattle.version_store.proofs.Bytes.{bytes_order}
use Rattle.version_store.proofs.FactOrder.{points-sorted, points-total}
use Rattle.layer_merge.specs.Nexts.{is_past, is_due, IsFirstDue}
use Rattle.layer_merge.proofs.Images.{le-from_cmp}

pub point-touches : (k : Bytes) (f : ByteFact) → is_point f ≡ true → key_of f ≡ k → touches bytes_cmp k f ≡ true
point-touches k (Fact.Put q v t) p e = ap (λ (x : Bytes). is_eq (bytes_cmp x k)) e ∙ ap is_eq (tied_itself bytes_order.total k)
point-touches k (Fact.Del q t) p e = ap (λ (x : Bytes). is_eq (bytes_cmp x k)) e ∙ ap is_eq (tied_itself bytes_order.total k)
point-touches k (Fact.DelRange lo hi t) p e = absurd (true≢false (sym p))

module _ (fs : List ByteFact) (apart : IsApart bytes_cmp fs) (dated : Time → Bool) where
  abbrev news : List ByteFact
  news = newest_points (points bytes_cmp dated fs)

  listed-is : (f : ByteFact) → (Has f (points bytes_cmp dated fs) → IsListed true dated fs f) × (IsListed true dated fs f → Has f (points bytes_cmp dated fs))
  listed-is f = let h = (listings.points-listed bytes_cmp bytes_order dated fs apart).has f in (h.0, h.1)

  pub newest-there : (f : ByteFact) → Has f news → IsNewestPoint dated fs f
  unfolding newest_points
  newest-there f h = record { listed = (listed-is f).0 (members.filter-has (is_newest ps) f ps h); last = last }
    where
      ps : List ByteFact
      ps = points bytes_cmp dated fs

      none : list_any (λ g. same_key g f && time_lt (date f) (date g)) ps ≡ false
      none = not-true (list_any (λ g. same_key g f && time_lt (date f) (date g)) ps) (members.filter-passes (is_newest ps) f ps h)

      last : (g : ByteFact) → IsListed true dated fs g → key_of g ≡ key_of f → time_le (date g) (date f) ≡ true
      last g l e =
          let same : same_key g f ≡ true = ap (λ (k : Bytes). is_eq (bytes_cmp k (key_of f))) e ∙ ap is_eq (tied_itself bytes_order.total (key_of f)) in
          times.not_lt-le (date f) (date g) (ap (λ (b : Bool). b && time_lt (date f) (date g)) (sym same) ∙ any-none (λ x. same_key x f && time_lt (date f) (date x)) ps g none ((listed-is g).1 l))

  pub there-newest : (f : ByteFact) → IsNewestPoint dated fs f → Has f news
  unfolding newest_points
  there-newest f n = members.has-filter (is_newest ps) f ps ((listed-is f).1 n.listed) (ap not (none-any (λ g. same_key g f && time_lt (date f) (date g)) ps (λ g i. older g i (same_key g f) refl)))
    where
      ps : List ByteFact
      ps = points bytes_cmp dated fs

      older : (g : ByteFact) → Has g ps → (b : Bool) → same_key g f ≡ b → (same_key g f && time_lt (date f) (date g)) ≡ false
      older g i true e = ap (λ (b : Bool). b && time_lt (date f) (date g)) e ∙ times.le-not_lt (date f) (date g) (n.last g ((listed-is g).0 i) (orders.tied bytes_cmp bytes_order (key_of g) (key_of f) e))
      older g i false e = ap (λ (b : Bool). b && time_lt (date f) (date g)) e

  pub news-sorted : IsStrictlySortedBy (point_cmp bytes_cmp) news
  unfolding newest_points
  news-sorted = IsStrictlySortedBy-filter (point_cmp bytes_cmp) (is_newest (points bytes_cmp dated fs)) (points bytes_cmp dated fs) (points-sorted dated fs)

  module _ (asked : Bytes → Bool) where
    abbrev comes : Option Bytes → ByteFact → Bool
    comes done f = is_past bytes_cmp done (key_of f) && asked (key_of f)

    abbrev left : Option Bytes → List ByteFact
    left done = filter (comes done) news

    left-due : (done : Option Bytes) (f : ByteFact) → Has f (left done) → is_due bytes_cmp asked dated done f ≡ true
    left-due done f h =
        let n = newest-there f (members.filter-has (comes done) f news h) in
        and-both (is_point f) (comes done f && dated (date f)) n.listed.1 (and-both (comes done f) (dated (date f)) (members.filter-passes (comes done) f news h) n.listed.2)

    -- where none is due, none is left
    pub none-left : (done : Option Bytes) → ((f : ByteFact) → Has f fs → is_due bytes_cmp asked dated done f ≡ true → ⊥) → left done ≡ []
    none-left done none = empty (left done) (λ f h. none f (newest-there f (members.filter-has (comes done) f news h)).listed.0 (left-due done f h))
      where
        empty : (gs : List ByteFact) → ((g : ByteFact) → Has g gs → ⊥) → gs ≡ []
        empty [] h = refl
        empty (g ∷ gs) h = absurd (h g (inl refl))

    past-later : (done : Option Bytes) (a b : Bytes) → is_past bytes_cmp done a ≡ true → bytes_cmp a b ≡ Less → is_past bytes_cmp done b ≡ true
    past-later None a b p l = refl
    past-later (Some d) a b p l = ap is_lt (bytes_order.total.trans d a b (lt-Less (bytes_cmp d a) p) l)

    module _ (done : Option Bytes) (f : ByteFact) (first : IsFirstDue bytes_cmp asked dated done fs f) where
      point : is_point f ≡ true
      point = (and-parts (is_point f) (comes done f && dated (date f)) first.due).0

      come : comes done f ≡ true
      come = (and-parts (comes done f) (dated (date f)) (and-parts (is_point f) (comes done f && dated (date f)) first.due).1).0

      of-date : dated (date f) ≡ true
      of-date = (and-parts (comes done f) (dated (date f)) (and-parts (is_point f) (comes done f && dated (date f)) first.due).1).1

      -- none of its key is later
      level : (g : ByteFact) → key_of g ≡ key_of f → is_gt (point_cmp bytes_cmp f g) ≡ false → time_le (date g) (date f) ≡ true
      level g same l = le-from_cmp (date g) (date f) (subst (λ (r : Ordering). is_gt (ordering_then r (time_cmp (date g) (date f))) ≡ false) (ap (bytes_cmp (key_of f)) same ∙ tied_itself bytes_order.total (key_of f)) l)

      due-of : (g : ByteFact) → IsListed true dated fs g → key_of g ≡ key_of f → is_due bytes_cmp asked dated done g ≡ true
      due-of g l same = and-both (is_point g) (comes done g && dated (date g)) l.1 (and-both (comes done g) (dated (date g)) (subst (λ (k : Bytes). (is_past bytes_cmp done k && asked k) ≡ true) (sym same) come) l.2)

      itself-newest : IsNewestPoint dated fs f
      itself-newest = record { listed = (first.among, point, of-date); last = λ g l same. level g same (first.least g l.0 (due-of g l same)) }

      -- another that is left comes after its key
      by-order : (g : ByteFact) (r : Ordering) → bytes_cmp (key_of f) (key_of g) ≡ r → Has g (left done) → is_gt (ordering_then r (time_cmp (date g) (date f))) ≡ false → Has g (f ∷ left (Some (key_of f)))
      by-order g Less e h l = inr (members.has-filter (comes (Some (key_of f))) g news (members.filter-has (comes done) g news h) (and-both (is_lt (bytes_cmp (key_of f) (key_of g))) (asked (key_of g)) (ap is_lt e) (and-parts (is_past bytes_cmp done (key_of g)) (asked (key_of g)) (members.filter-passes (comes done) g news h)).1))
      by-order g Equal e h l =
          let same : key_of f ≡ key_of g = bytes_order.same (key_of f) (key_of g) e in
          let n = newest-there g (members.filter-has (comes done) g news h) in
          let dates : date g ≡ date f = times.le-antisymm (date g) (date f) (le-from_cmp (date g) (date f) l) (n.last f (first.among, point, of-date) same) in
          inl (apart.apart (key_of f) g f n.listed.0 first.among (point-touches (key_of f) g n.listed.1 (sym same)) (point-touches (key_of f) f point refl) dates)
      by-order g Greater e h l = absurd (true≢false l)

      to-next : AllIn (left done) (f ∷ left (Some (key_of f)))
      to-next g h = by-order g (bytes_cmp (key_of f) (key_of g)) refl h (first.least g (newest-there g (members.filter-has (comes done) g news h)).listed.0 (left-due done g h))

      from-next : AllIn (f ∷ left (Some (key_of f))) (left done)
      from-next g (inl e) = subst (λ (x : ByteFact). Has x (left done)) (sym e) (members.has-filter (comes done) f news (there-newest f itself-newest) come)
      from-next g (inr h) =
          let p = and-parts (is_lt (bytes_cmp (key_of f) (key_of g))) (asked (key_of g)) (members.filter-passes (comes (Some (key_of f))) g news h) in
          members.has-filter (comes done) g news (members.filter-has (comes (Some (key_of f))) g news h) (and-both (is_past bytes_cmp done (key_of g)) (asked (key_of g)) (past-later done (key_of f) (key_of g) (and-parts (is_past bytes_cmp done (key_of f)) (asked (key_of f)) come).0 (lt-Less (bytes_cmp (key_of f) (key_of g)) p.0)) p.1)

      ascends : IsStrictlySortedBy (point_cmp bytes_cmp) (f ∷ left (Some (key_of f)))
      unfolding IsStrictlySortedBy
      ascends = (members.AllByRecursion-has (λ (g : ByteFact). point_cmp bytes_cmp f g ≡ Less) (left (Some (key_of f))) (λ g h. ap (λ (r : Ordering). ordering_then r (time_cmp (date g) (date f))) (lt-Less (bytes_cmp (key_of f) (key_of g)) (and-parts (is_lt (bytes_cmp (key_of f) (key_of g))) (asked (key_of g)) (members.filter-passes (comes (Some (key_of f))) g news h)).0)), IsStrictlySortedBy-filter (point_cmp bytes_cmp) (comes (Some (key_of f))) news news-sorted)

      -- what is left begins with the first that is due, and then has what comes after its key
      pub next-left : left done ≡ f ∷ left (Some (key_of f))
      next-left = orders.ascending-same (point_cmp bytes_cmp) points-total (left done) (f ∷ left (Some (key_of f))) (IsStrictlySortedBy-filter (point_cmp bytes_cmp) (comes done) news news-sorted) ascends to-next from-next
