-- An image given key by key: the first put or deletion that is due tells its next item.
use Rattle.std.proofs.Common.{◌≡◌, Bool, true, false, cond, ◌&&◌, sym, refl, ap, ◌∙◌, subst, List, [], ◌∷◌, ◌++◌, filter, Option, Some, None, option_map, option_to_list, inl, inr, Ordering, Less, Equal, Greater, is_eq, is_lt, true≢false, arith}
use Rattle.std.specs.List.Sorted.{IsStrictlySortedBy}
use Rattle.std.specs.Cmp.{IsTotalOrder}
use Rattle.std.specs.Ordering.{on, is_gt, ordering_then}
use Rattle.std.proofs.lemmas.Cmp.{on_total, tied_itself}
use Rattle.std.proofs.lemmas.Bool.Decides.{nat_tests}
use Rattle.std.specs.Prelude.{nat_lt, nat_le, ◌==◌, ◌||◌}
use Rattle.mvcc_keys.specs.Times.{Time, time_lt, time_le}
use Rattle.mvcc_keys.specs.Codes.{time_cmp}
use Rattle.list_laws.specs.Members.{Has, AllIn}
use Rattle.fact_model.specs.Facts.{Fact, Put, Del, DelRange, date, touches, IsApart, IsKeyOrder, Version, version_of, value, newest}
use Rattle.fact_model.specs.Scans.{Item, item, version, scan, IsScan}
use Rattle.fact_model.specs.Listed.{is_point, key_of}
use Rattle.mvcc_keys.proofs.TimeOrder as times
use Rattle.list_laws.proofs.Members as members
use Rattle.fact_model.proofs.Orders as orders
use Rattle.fact_model.proofs.Newest as newests
use Rattle.fact_model.specs.Newest.{IsNewestFact}
use Rattle.fact_model.proofs.Scanned as scanned
use Rattle.layer_merge.specs.Nexts.{is_past, to_come, is_due, IsFirstDue, IsCover, IsCoverDate, is_hidden}
use Rattle.list_laws.proofs.Bools.{and-parts, and-both}
use Rattle.list_laws.proofs.Orderings.{lt-Less}
use Rattle.list_laws.proofs.Members.{all-filter}

le-by : (a b c d e : Bool) → (c ≡ true → e ≡ true) → (d ≡ true → e ≡ true) → is_gt (ordering_then (cond a Less (cond b Equal Greater)) (cond c Less (cond d Equal Greater))) ≡ false → (a || (b && e)) ≡ true
le-by true b c d e p q h = refl
le-by false true true d e p q h = p refl
le-by false true false true e p q h = q refl
le-by false true false false e p q h = absurd (true≢false h)
le-by false false c d e p q h = absurd (true≢false h)

pub le-from_cmp : (s t : Time) → is_gt (time_cmp s t) ≡ false → time_le s t ≡ true
le-from_cmp s t h = le-by (nat_lt s.wall t.wall) (s.wall == t.wall) (nat_lt s.logical t.logical) (s.logical == t.logical) (nat_le s.logical t.logical) (λ p. grind (arith, nat_tests)) (λ p. grind (arith, nat_tests)) h

point-touches : {K V : Type 0} (cmp : K → K → Ordering) (k : K) (g : Fact K V) → is_point g ≡ true → touches cmp k g ≡ is_eq (cmp (key_of g) k)
point-touches cmp k (Put key v at) p = refl
point-touches cmp k (Del key at) p = refl
point-touches cmp k (DelRange lo hi at) p = absurd (true≢false (sym p))

no-version : {K V : Type 0} (g : Fact K V) → is_point g ≡ false → version_of (Some g) ≡ None
no-version (Put key v at) p = absurd (true≢false p)
no-version (Del key at) p = absurd (true≢false p)
no-version (DelRange lo hi at) p = refl

kept-ascends : {X : Type 0} (cmp : X → X → Ordering) (p : X → Bool) (xs : List X) → IsStrictlySortedBy cmp xs → IsStrictlySortedBy cmp (filter p xs)
unfolding IsStrictlySortedBy
kept-ascends cmp p [] s = tt
kept-ascends {X} cmp p (x ∷ xs) s = by (p x) (kept-ascends cmp p xs s.1)
  where
    by : (b : Bool) → IsStrictlySortedBy cmp (filter p xs) → IsStrictlySortedBy cmp (cond b (x ∷ filter p xs) (filter p xs))
    by true more = (all-filter (λ y. cmp x y ≡ Less) p xs s.0, more)
    by false more = more

module _ {K V : Type 0} (cmp : K → K → Ordering) (o : IsKeyOrder cmp) (asked : K → Bool) (t : Time) (fs : List (Fact K V)) where
  abbrev order : Item K V → Item K V → Ordering
  order = on (λ (i : Item K V). i.key) cmp

  the-scan : IsScan cmp t fs (scan cmp t fs)
  the-scan = scanned.scan-is cmp o t fs

  -- a visible put of a key that is due is due
  visible-due : (done : Option K) (k : K) (v : Version V) → value cmp k t fs ≡ Some v → (is_past cmp done k && asked k) ≡ true → is_due cmp asked (λ (d : Time). time_le d t) done (Put k v.value v.at) ≡ true
  visible-due done k v e p = and-both (is_past cmp done k && asked k) (time_le v.at t) p (scanned.value-put cmp o t fs k v e).dated

  -- where none is due, nothing is to come
  pub none-to-come : (done : Option K) → ((f : Fact K V) → Has f fs → is_due cmp asked (λ (d : Time). time_le d t) done f ≡ true → ⊥) → to_come cmp asked done (scan cmp t fs) ≡ []
  none-to-come done none = empty (to_come cmp asked done (scan cmp t fs)) (λ i h.
      let e = (the-scan.shows i).0 (members.filter-has (λ (j : Item K V). is_past cmp done j.key && asked j.key) i (scan cmp t fs) h) in
      none (Put i.key i.value i.at) (scanned.value-put cmp o t fs i.key (version i) e).among (visible-due done i.key (version i) e (members.filter-passes (λ (j : Item K V). is_past cmp done j.key && asked j.key) i (scan cmp t fs) h)))
    where
      empty : (is : List (Item K V)) → ((i : Item K V) → Has i is → ⊥) → is ≡ []
      empty [] h = refl
      empty (i ∷ is) h = absurd (h i (inl refl))

  past-later : (done : Option K) (a b : K) → is_past cmp done a ≡ true → cmp a b ≡ Less → is_past cmp done b ≡ true
  past-later None a b p l = refl
  past-later (Some d) a b p l = ap is_lt (o.total.trans d a b (lt-Less (cmp d a) p) l)

  module _ (done : Option K) (f : Fact K V) (first : IsFirstDue cmp asked (λ (d : Time). time_le d t) done fs f) where
    due-parts : (is_point f ≡ true) × (((is_past cmp done (key_of f) && asked (key_of f)) ≡ true) × (time_le (date f) t ≡ true))
    due-parts = let a = and-parts (is_point f) ((is_past cmp done (key_of f) && asked (key_of f)) && time_le (date f) t) first.due in (a.0, (let b = and-parts (is_past cmp done (key_of f) && asked (key_of f)) (time_le (date f) t) a.1 in (b.0, b.1)))

    abbrev next-items : List (Item K V)
    next-items = option_to_list (option_map (item (key_of f)) (value cmp (key_of f) t fs))

    abbrev later-items : List (Item K V)
    later-items = to_come cmp asked (Some (key_of f)) (scan cmp t fs)

    -- the item of f's key, if it is visible
    has-next : (i : Item K V) (r : Option (Version V)) → value cmp (key_of f) t fs ≡ r → Has i (option_to_list (option_map (item (key_of f)) r)) → (i.key ≡ key_of f) × Has i (scan cmp t fs)
    has-next i None e h = absurd h
    has-next i (Some v) e (inl q) = (ap (λ (j : Item K V). j.key) q, subst (λ (j : Item K V). Has j (scan cmp t fs)) (sym q) ((the-scan.shows (item (key_of f) v)).1 e))
    has-next i (Some v) e (inr q) = absurd q

    next-has : (i : Item K V) → i.key ≡ key_of f → value cmp i.key t fs ≡ Some (version i) → Has i next-items
    next-has i k e = rw (← k) (rw e (inl refl))

    by-order : (i : Item K V) (r : Ordering) → cmp (key_of f) i.key ≡ r → Has i (scan cmp t fs) → asked i.key ≡ true → is_gt (ordering_then r (time_cmp i.at (date f))) ≡ false → Has i (next-items ++ later-items)
    by-order i Less e h q l = members.has-append_right i next-items later-items (members.has-filter (λ (j : Item K V). is_past cmp (Some (key_of f)) j.key && asked j.key) i (scan cmp t fs) h (and-both (is_lt (cmp (key_of f) i.key)) (asked i.key) (ap is_lt e) q))
    by-order i Equal e h q l = members.has-append_left i next-items later-items (next-has i (sym (o.same (key_of f) i.key e)) ((the-scan.shows i).0 h))
    by-order i Greater e h q l = absurd (true≢false l)

    to-later : AllIn (to_come cmp asked done (scan cmp t fs)) (next-items ++ later-items)
    to-later i h =
        let j = members.filter-has (λ (x : Item K V). is_past cmp done x.key && asked x.key) i (scan cmp t fs) h in
        let p = members.filter-passes (λ (x : Item K V). is_past cmp done x.key && asked x.key) i (scan cmp t fs) h in
        let e = (the-scan.shows i).0 j in
        by-order i (cmp (key_of f) i.key) refl j (and-parts (is_past cmp done i.key) (asked i.key) p).1 (first.least (Put i.key i.value i.at) (scanned.value-put cmp o t fs i.key (version i) e).among (visible-due done i.key (version i) e p))

    from-later : AllIn (next-items ++ later-items) (to_come cmp asked done (scan cmp t fs))
    from-later i h = elim (members.has-append_cases i next-items later-items h) [ inl a ↦ from-next a | inr b ↦ from-rest b ]
      where
        from-next : Has i next-items → Has i (to_come cmp asked done (scan cmp t fs))
        from-next a = let n = has-next i (value cmp (key_of f) t fs) refl a in members.has-filter (λ (x : Item K V). is_past cmp done x.key && asked x.key) i (scan cmp t fs) n.1 (subst (λ (k : K). (is_past cmp done k && asked k) ≡ true) (sym n.0) due-parts.1.0)

        from-rest : Has i later-items → Has i (to_come cmp asked done (scan cmp t fs))
        from-rest b =
            let j = members.filter-has (λ (x : Item K V). is_past cmp (Some (key_of f)) x.key && asked x.key) i (scan cmp t fs) b in
            let p = and-parts (is_lt (cmp (key_of f) i.key)) (asked i.key) (members.filter-passes (λ (x : Item K V). is_past cmp (Some (key_of f)) x.key && asked x.key) i (scan cmp t fs) b) in
            members.has-filter (λ (x : Item K V). is_past cmp done x.key && asked x.key) i (scan cmp t fs) j (and-both (is_past cmp done i.key) (asked i.key) (past-later done (key_of f) i.key (and-parts (is_past cmp done (key_of f)) (asked (key_of f)) due-parts.1.0).0 (lt-Less (cmp (key_of f) i.key) p.0)) p.1)

    items-total : IsTotalOrder order
    items-total = on_total (λ (i : Item K V). i.key) o.total

    later-ascends : IsStrictlySortedBy order later-items
    later-ascends = kept-ascends order (λ (x : Item K V). is_past cmp (Some (key_of f)) x.key && asked x.key) (scan cmp t fs) the-scan.ascends

    ascends : (r : Option (Version V)) → IsStrictlySortedBy order (option_to_list (option_map (item (key_of f)) r) ++ later-items)
    unfolding IsStrictlySortedBy
    ascends None = later-ascends
    ascends (Some v) = (members.AllByRecursion-has (λ (j : Item K V). cmp (key_of f) j.key ≡ Less) later-items (λ j h. lt-Less (cmp (key_of f) j.key) (and-parts (is_lt (cmp (key_of f) j.key)) (asked j.key) (members.filter-passes (λ (x : Item K V). is_past cmp (Some (key_of f)) x.key && asked x.key) j (scan cmp t fs) h)).0), later-ascends)

    -- what is to come begins with the item of the key of the first that is due, if it is visible, and then what comes after that key
    pub next-to-come : to_come cmp asked done (scan cmp t fs) ≡ next-items ++ later-items
    next-to-come = orders.ascending-same order items-total (to_come cmp asked done (scan cmp t fs)) (next-items ++ later-items) (kept-ascends order (λ (x : Item K V). is_past cmp done x.key && asked x.key) (scan cmp t fs) the-scan.ascends) (ascends (value cmp (key_of f) t fs)) to-later from-later

    -- ---- whether it is visible

    -- no put or deletion of the key up to t is later
    newest-point : (g : Fact K V) → Has g fs → is_point g ≡ true → touches cmp (key_of f) g ≡ true → time_le (date g) t ≡ true → time_le (date g) (date f) ≡ true
    newest-point g h p q d = le-from_cmp (date g) (date f) (subst (λ (r : Ordering). is_gt (ordering_then r (time_cmp (date g) (date f))) ≡ false) level (first.least g h (and-both (is_point g) ((is_past cmp done (key_of g) && asked (key_of g)) && time_le (date g) t) p (and-both (is_past cmp done (key_of g) && asked (key_of g)) (time_le (date g) t) (subst (λ (k : K). (is_past cmp done k && asked k) ≡ true) (sym same) due-parts.1.0) d))))
      where
        same : key_of g ≡ key_of f
        same = orders.tied cmp o (key_of g) (key_of f) (sym (point-touches cmp (key_of f) g p) ∙ q)

        level : cmp (key_of f) (key_of g) ≡ Equal
        level = ap (cmp (key_of f)) same ∙ tied_itself o.total (key_of f)

    own-key : touches cmp (key_of f) f ≡ true
    own-key = point-touches cmp (key_of f) f due-parts.0 ∙ ap is_eq (tied_itself o.total (key_of f))

    newest-of : (r : Option Time) → IsCover cmp (key_of f) t fs r → is_hidden r (date f) ≡ false → IsNewestFact cmp (key_of f) t fs f
    newest-of r c open' = record { among = first.among; touching = own-key; dated = due-parts.1.1; last = λ g h q d. by r c open' g h q d (is_point g) refl }
      where
        by : (r : Option Time) → IsCover cmp (key_of f) t fs r → is_hidden r (date f) ≡ false → (g : Fact K V) → Has g fs → touches cmp (key_of f) g ≡ true → time_le (date g) t ≡ true → (b : Bool) → is_point g ≡ b → time_le (date g) (date f) ≡ true
        by r c u g h q d true p = newest-point g h p q d
        by None c u g h q d false p = absurd (c g h p q d)
        by (Some x) c u g h q d false p = times.le-trans (date g) x (date f) (c.last g h p q d) (times.not_lt-le (date f) x u)

    newest-cover : (x : Time) (c : IsCoverDate cmp (key_of f) t fs x) → time_lt (date f) x ≡ true → IsNewestFact cmp (key_of f) t fs c.range
    newest-cover x c l = record { among = c.among; touching = c.covers; dated = subst (λ (y : Time). time_le y t ≡ true) (sym c.dated) c.within; last = λ g h q d. subst (λ (y : Time). time_le (date g) y ≡ true) (sym c.dated) (by g h q d (is_point g) refl) }
      where
        by : (g : Fact K V) → Has g fs → touches cmp (key_of f) g ≡ true → time_le (date g) t ≡ true → (b : Bool) → is_point g ≡ b → time_le (date g) x ≡ true
        by g h q d true p = times.le-trans (date g) (date f) x (newest-point g h p q d) (times.lt-le (date f) x l)
        by g h q d false p = c.last g h p q d

    -- a put is visible unless a range deletion of a later date covers its key
    pub value-first : (c : Option Time) → IsApart cmp fs → IsCover cmp (key_of f) t fs c → value cmp (key_of f) t fs ≡ cond (is_hidden c (date f)) None (version_of (Some f))
    unfolding value
    value-first c a cover = by (is_hidden c (date f)) refl
      where
        hidden : (c : Option Time) → IsCover cmp (key_of f) t fs c → is_hidden c (date f) ≡ true → version_of (newest cmp (key_of f) t fs) ≡ None
        hidden None k e = absurd (true≢false (sym e))
        hidden (Some x) k e = ap version_of (newests.newest-from cmp (key_of f) t fs k.range a (newest-cover x k e)) ∙ no-version k.range k.is_range

        by : (b : Bool) → is_hidden c (date f) ≡ b → version_of (newest cmp (key_of f) t fs) ≡ cond b None (version_of (Some f))
        by true e = hidden c cover e
        by false e = ap version_of (newests.newest-from cmp (key_of f) t fs f a (newest-of c cover e))
