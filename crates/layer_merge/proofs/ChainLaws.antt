-- Layers that adjoin: what their shares of a table's facts say together.
use Rattle.std.proofs.Common.{◌≡◌, Bool, true, false, cond, ◌||◌, ◌&&◌, filter, sym, refl, ap, ◌∙◌, subst, List, [], ◌∷◌, ◌++◌, inl, inr, Ordering, append_assoc, append-nil}
use Rattle.std.specs.List.{list_any}
use Rattle.mvcc_keys.specs.Times.{Time, time_lt, time_le}
use Rattle.fact_model.specs.Facts.{Fact, date, IsApart, IsKeyOrder}
use Rattle.list_laws.specs.Members.{Has, AllIn}
use Rattle.fact_model.proofs.Chains as chains
use Rattle.fact_model.specs.Scans.{image, scan}
use Rattle.mvcc_keys.proofs.TimeOrder as times
use Rattle.list_laws.proofs.Members as members
use Rattle.fact_model.specs.Newest.{IsNewestFact}
use Rattle.fact_model.proofs.Scanned as scanned
use Rattle.fact_model.proofs.Stores as stores
use Rattle.fact_model.proofs.Stores.{IsMadeOf}
use Rattle.layer_merge.specs.FromLast.{from_last}
use Rattle.layer_merge.specs.Shares.{Share, is_introduced, flat, Reaches, IsShareOf, AreShares}
use Rattle.list_laws.proofs.Bools.{and-both, and-left}

module _ {K V : Type 0} (cmp : K → K → Ordering) where
  pub made-reached : (b s t : Time) (fs gs es : List (Fact K V)) → time_le b s ≡ true → time_le s t ≡ true → IsMadeOf cmp b s fs gs → Reaches cmp s t fs es → IsMadeOf cmp b t fs (gs ++ es)
  made-reached b s t fs gs es bs st m r = record {
    images = λ f h. members.has-append_left f gs es (m.images f h);
    newer = λ k f n later. by k f n later (time_le (date f) s) refl;
    only = λ f h. elim (members.has-append_cases f gs es h) [ inl i ↦ m.only f i | inr j ↦ let w = r.within f j in inr (w.0, times.le-lt-lt b s (date f) bs w.1) ];
  }
    where
      by : (k : K) (f : Fact K V) → IsNewestFact cmp k t fs f → time_lt b (date f) ≡ true → (c : Bool) → time_le (date f) s ≡ c → Has f (gs ++ es)
      by k f n later true p = members.has-append_left f gs es (m.newer k f (record { among = n.among; touching = n.touching; dated = p; last = λ g h q u. n.last g h q (times.le-trans (date g) s t u st) }) later)
      by k f n later false p = members.has-append_right f gs es (r.newest_there k f n (times.not_le-lt s (date f) p))

  -- what the layers so far and those that follow make together
  abbrev from_here : Bool → List (Fact K V) → List (Share K V) → List (Fact K V)
  from_here true gs ps = flat (from_last is_introduced ps)
  from_here false gs ps = gs ++ flat ps

  again : (c : Bool) (x : Share K V) (gs : List (Fact K V)) (ps : List (Share K V)) → list_any is_introduced ps ≡ c → from_here c (gs ++ x.facts) ps ≡ from_here c gs (x ∷ ps)
  again true x gs ps e = ap (λ (b : Bool). flat (cond b (from_last is_introduced ps) (x ∷ ps))) (sym e)
  again false x gs ps e = append_assoc gs x.facts (flat ps)

  afresh : (c : Bool) (x : Share K V) (ps : List (Share K V)) → list_any is_introduced ps ≡ c → from_here c x.facts ps ≡ flat (from_last is_introduced (x ∷ ps))
  afresh true x ps e = ap (λ (b : Bool). flat (cond b (from_last is_introduced ps) (x ∷ ps))) (sym e)
  afresh false x ps e = ap (λ (b : Bool). flat (cond b (from_last is_introduced ps) (x ∷ ps))) (sym e)

  abbrev Made : Time → List (Fact K V) → List (Fact K V) → Type 0
  Made t fs gs = (b : Time) × ((time_le b t ≡ true) × IsMadeOf cmp b t fs gs)

  -- what the layers so far made, unless a later one introduces the table
  abbrev Start : Bool → Time → List (Fact K V) → List (Fact K V) → Type 0
  Start true s fs gs = Unit {0}
  Start false s fs gs = Made s fs gs

  shares-made : (s t : Time) (fs gs : List (Fact K V)) (ps : List (Share K V)) → Start (list_any is_introduced ps) s fs gs → AreShares cmp s t fs ps → Made t fs (from_here (list_any is_introduced ps) gs ps)
  shares-made s t fs gs [] m a = subst (λ (x : Time). Made x fs (gs ++ [])) a (subst (Made s fs) (sym (append-nil gs)) m)
  shares-made s t fs gs (p ∷ ps) m a = by p.introduced refl (list_any is_introduced ps) refl m a.1.1.0 (λ (hs : List (Fact K V)) (n : Start (list_any is_introduced ps) a.0 fs hs). shares-made a.0 t fs hs ps n a.1.1.1)
    where
      by : (i : Bool) → p.introduced ≡ i → (c : Bool) → list_any is_introduced ps ≡ c → Start (i || c) s fs gs → (c ≡ false → IsShareOf cmp i s a.0 fs p.facts) → ((hs : List (Fact K V)) → Start c a.0 fs hs → Made t fs (from_here c hs ps)) → Made t fs (from_here (i || c) gs (p ∷ ps))
      by true e true f n share more = subst (Made t fs) (again true p gs ps f) (more (gs ++ p.facts) tt)
      by false e true f n share more = subst (Made t fs) (again true p gs ps f) (more (gs ++ p.facts) tt)
      by true e false f n share more = let h = share refl in subst (Made t fs) (afresh false p ps f) (more p.facts h)
      by false e false f n share more = subst (Made t fs) (again false p gs ps f) (more (gs ++ p.facts) (n.0, (times.le-trans n.0 s a.0 n.1.0 a.1.0, made-reached n.0 s a.0 fs gs p.facts n.1.0 a.1.0 n.1.1 (share refl))))

  module _ (o : IsKeyOrder cmp) where
    -- before all dates nothing is there
    made-nothing : (s : Time) (fs : List (Fact K V)) → ((f : Fact K V) → Has f fs → time_lt s (date f) ≡ true) → IsMadeOf cmp s s fs []
    made-nothing s fs later = record {
      images = λ f h. let m = scanned.image-has cmp o s fs f h in let n = scanned.value-put cmp o s fs m.0 m.1 m.2 in absurd (times.lt-le-absurd s (date f) (later f (stores.image-in cmp o s fs f h)) (subst (λ (x : Fact K V). time_le (date x) s ≡ true) (sym m.3) n.dated));
      newer = λ k f n l. absurd (times.lt-le-absurd s (date f) l n.dated);
      only = λ f h. absurd h;
    }

    pub all-of : (ps : List (Share K V)) → list_any is_introduced ps ≡ false → flat (from_last is_introduced ps) ≡ flat ps
    all-of [] e = refl
    all-of (p ∷ ps) e = ap (λ (b : Bool). flat (cond b (from_last is_introduced ps) (p ∷ ps))) (none p.introduced (list_any is_introduced ps) e)
      where
        none : (x y : Bool) → (x || y) ≡ false → y ≡ false
        none true y h = absurd (cc)
        none false y h = h

    -- layers from before all dates up to t: those that count show at t what all facts show
    pub shares-scan : (s t : Time) (fs : List (Fact K V)) (ps : List (Share K V)) → IsApart cmp fs → ((f : Fact K V) → Has f fs → time_lt s (date f) ≡ true) → AreShares cmp s t fs ps → scan cmp t (flat (from_last is_introduced ps)) ≡ scan cmp t fs
    shares-scan s t fs ps a later shares = by (list_any is_introduced ps) refl (shares-made s t fs [] ps (start (list_any is_introduced ps)) shares)
      where
        by : (c : Bool) → list_any is_introduced ps ≡ c → Made t fs (from_here c [] ps) → scan cmp t (flat (from_last is_introduced ps)) ≡ scan cmp t fs
        by true e made = stores.made-scan cmp o made.0 t fs (flat (from_last is_introduced ps)) a made.1.0 made.1.1
        by false e made = ap (scan cmp t) (all-of ps e) ∙ stores.made-scan cmp o made.0 t fs (flat ps) a made.1.0 made.1.1

        start : (c : Bool) → Start c s fs []
        start true = tt
        start false = (s, (times.le-refl s, made-nothing s fs later))

    -- where one of them introduces the table they show it, whatever came before
    pub introduced-scan : (s t : Time) (fs : List (Fact K V)) (ps : List (Share K V)) → IsApart cmp fs → list_any is_introduced ps ≡ true → AreShares cmp s t fs ps → scan cmp t (flat (from_last is_introduced ps)) ≡ scan cmp t fs
    introduced-scan s t fs ps a e shares =
        let made : Made t fs (flat (from_last is_introduced ps)) = subst (λ (c : Bool). Made t fs (from_here c [] ps)) e (shares-made s t fs [] ps (subst (λ (c : Bool). Start c s fs []) (sym e) tt) shares) in
        stores.made-scan cmp o made.0 t fs (flat (from_last is_introduced ps)) a made.1.0 made.1.1

-- ---- what the four kinds of entries are

module _ {K V : Type 0} (cmp : K → K → Ordering) where
  -- with history, a table that isn't introduced: the facts after the start, within dates that reach t at least
  pub history-share : (s t : Time) (fs : List (Fact K V)) (within : Time → Bool) → ((d : Time) → time_le d t ≡ true → within d ≡ true) → Reaches cmp s t fs (filter (λ f. time_lt s (date f) && within (date f)) fs)
  history-share s t fs within all = record {
    within = λ f h. (members.filter-has (λ x. time_lt s (date x) && within (date x)) f fs h, and-left (time_lt s (date f)) (within (date f)) (members.filter-passes (λ x. time_lt s (date x) && within (date x)) f fs h));
    newest_there = λ k f n later. members.has-filter (λ x. time_lt s (date x) && within (date x)) f fs n.among (and-both (time_lt s (date f)) (within (date f)) later (all (date f) n.dated));
  }

  -- with history, an introduced table: the image at the floor, and the facts after it
  pub introduced-share : (floor t : Time) (fs : List (Fact K V)) (within : Time → Bool) → time_le floor t ≡ true → ((d : Time) → time_le d t ≡ true → within d ≡ true) → IsMadeOf cmp floor t fs (image cmp floor fs ++ filter (λ f. time_lt floor (date f) && within (date f)) fs)
  introduced-share floor t fs within le all = made-reached cmp floor floor t fs (image cmp floor fs) (filter (λ f. time_lt floor (date f) && within (date f)) fs) (times.le-refl floor) le (chains.made-image cmp floor fs) (history-share floor t fs within all)

  -- without history, a table that isn't introduced: of each key the newest put or deletion, and the range deletions
  pub brief-share : (s e : Time) (fs es : List (Fact K V)) → chains.IsBrief cmp s e fs es → Reaches cmp s e fs es
  brief-share s e fs es b = let l = chains.brief-layer cmp s e fs es b in record { within = λ f h. let w = l.within f h in (w.0, w.1.0); newest_there = l.newest_there }

  -- the order in which entries stand says nothing
  pub reaches-same : (s t : Time) (fs es ds : List (Fact K V)) → AllIn es ds → AllIn ds es → Reaches cmp s t fs es → Reaches cmp s t fs ds
  reaches-same s t fs es ds f g r = record { within = λ x h. r.within x (g x h); newest_there = λ k x n l. f x (r.newest_there k x n l) }
