-- A chain of layers: what is made of an image and the layers after it.
use Rattle.std.proofs.Common.{◌≡◌, Bool, true, false, refl, List, ◌++◌, inl, inr, Ordering}
use Rattle.mvcc_keys.specs.Times.{Time, time_lt, time_le}
use Rattle.fact_model.specs.Facts.{Fact, date, after, upto}
use Rattle.list_laws.specs.Members.{Has, AllIn}
use Rattle.fact_model.specs.Scans.{image}
use Rattle.mvcc_keys.proofs.TimeOrder as times
use Rattle.list_laws.proofs.Members as members
use Rattle.fact_model.specs.Newest.{IsNewestFact}
use Rattle.fact_model.proofs.Stores.{IsMadeOf}

module _ {K V : Type 0} (cmp : K → K → Ordering) where
  -- the entries of one layer, of the dates in (s, e]: all are facts of that interval, and each fact that is newest at e is there
  pub record IsLayer (s e : Time) (fs es : List (Fact K V)) : Type 0 where
    pub within : (f : Fact K V) → Has f es → Has f fs × ((time_lt s (date f) ≡ true) × (time_le (date f) e ≡ true))
    pub newest_there : (k : K) (f : Fact K V) → IsNewestFact cmp k e fs f → time_lt s (date f) ≡ true → Has f es

  -- one with history has every fact of the interval
  pub history-layer : (s e : Time) (fs : List (Fact K V)) → IsLayer s e fs (upto e (after s fs))
  history-layer s e fs = record {
    within = λ f h. let j = members.filter-has (λ x. time_le (date x) e) f (after s fs) h in (members.filter-has (λ x. time_lt s (date x)) f fs j, (members.filter-passes (λ x. time_lt s (date x)) f fs j, members.filter-passes (λ x. time_le (date x) e) f (after s fs) h));
    newest_there = λ k f n later. members.has-filter (λ x. time_le (date x) e) f (after s fs) (members.has-filter (λ x. time_lt s (date x)) f fs n.among later) n.dated;
  }

  -- an image and layers: what is made of the facts up to s, and a layer from s to e, is made of the facts up to e
  pub made-layer : (b s e : Time) (fs gs es : List (Fact K V)) → time_le b s ≡ true → time_le s e ≡ true → IsMadeOf cmp b s fs gs → IsLayer s e fs es → IsMadeOf cmp b e fs (gs ++ es)
  made-layer b s e fs gs es bs se m l = record {
    images = λ f h. members.has-append_left f gs es (m.images f h);
    newer = λ k f n later. by k f n later (time_le (date f) s) refl;
    only = λ f h. elim (members.has-append_cases f gs es h) [ inl i ↦ m.only f i | inr j ↦ let w = l.within f j in inr (w.0, times.le-lt-lt b s (date f) bs w.1.0) ];
  }
    where
      by : (k : K) (f : Fact K V) → IsNewestFact cmp k e fs f → time_lt b (date f) ≡ true → (c : Bool) → time_le (date f) s ≡ c → Has f (gs ++ es)
      by k f n later true p = members.has-append_left f gs es (m.newer k f (record { among = n.among; touching = n.touching; dated = p; last = λ g h q r. n.last g h q (times.le-trans (date g) s e r se) }) later)
      by k f n later false p = members.has-append_right f gs es (l.newest_there k f n (times.not_le-lt s (date f) p))

  -- the last layer is read up to a time within it, if it has history
  pub made-cut : (b s t : Time) (fs gs : List (Fact K V)) → time_le b s ≡ true → time_le s t ≡ true → IsMadeOf cmp b s fs gs → IsMadeOf cmp b t fs (gs ++ upto t (after s fs))
  made-cut b s t fs gs bs st m = made-layer b s t fs gs (upto t (after s fs)) bs st m (history-layer s t fs)

  -- a chain begins with an image, at an introduction, or at nothing
  pub made-image : (b : Time) (fs : List (Fact K V)) → IsMadeOf cmp b b fs (image cmp b fs)
  made-image b fs = record {
    images = λ f h. h;
    newer = λ k f n later. absurd (times.lt-le-absurd b (date f) later n.dated);
    only = λ f h. inl h;
  }

  -- per key the newest put or deletion of an interval, and every range deletion of it
  pub record IsBrief (s e : Time) (fs es : List (Fact K V)) : Type 0 where
    pub part : AllIn es (upto e (after s fs))
    pub has_newest : (k : K) (f : Fact K V) → IsNewestFact cmp k e fs f → Has f (upto e (after s fs)) → Has f es

  pub brief-layer : (s e : Time) (fs es : List (Fact K V)) → IsBrief s e fs es → IsLayer s e fs es
  brief-layer s e fs es b = record {
    within = λ f h. (history-layer s e fs).within f (b.part f h);
    newest_there = λ k f n later. b.has_newest k f n ((history-layer s e fs).newest_there k f n later);
  }
