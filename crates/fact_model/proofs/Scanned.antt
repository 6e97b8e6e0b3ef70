-- A scan is the ascending list of the visible items, and is the only one.
use Rattle.std.proofs.Common.{◌≡◌, sym, refl, ap, ◌∙◌, subst, List, [], ◌∷◌, Option, Some, None, ◌⊎◌, inl, inr, Ordering, Less}
use Rattle.std.specs.Ordering.{on}
use Rattle.std.specs.List.Sorted.{IsStrictlySortedBy}
use Rattle.std.proofs.lemmas.Cmp.{on_total}
use Rattle.mvcc_keys.specs.Times.{Time}
use Rattle.fact_model.specs.Facts.{Fact, Put, Del, DelRange, newest, Version, version_of, value, IsKeyOrder}
use Rattle.list_laws.specs.Members.{Has, AllIn}
use Rattle.fact_model.specs.Ordered.{ordered}
use Rattle.fact_model.specs.Scans.{Item, keys_put, item, version, with_item, items, scan, IsScan, put_of, image}
use Rattle.list_laws.proofs.Members as members
use Rattle.fact_model.proofs.Orders as orders
use Rattle.fact_model.proofs.Newest as newests
use Rattle.fact_model.specs.Newest.{IsNewestFact, IsNewest}

module _ {K V : Type 0} where
  pub keys-has : (k : K) (v : V) (at : Time) (fs : List (Fact K V)) → Has (Put k v at) fs → Has k (keys_put fs)
  unfolding keys_put
  keys-has k v at [] h = h
  keys-has k v at (Put q w s ∷ fs) (inl e) = inl (put-key e)
    where
      put-key : Put k v at ≡ Put q w s → k ≡ q
      put-key e = cc
  keys-has k v at (Put q w s ∷ fs) (inr i) = inr (keys-has k v at fs i)
  keys-has k v at (Del q s ∷ fs) (inl e) = absurd (cc)
  keys-has k v at (Del q s ∷ fs) (inr i) = keys-has k v at fs i
  keys-has k v at (DelRange lo hi s ∷ fs) (inl e) = absurd (cc)
  keys-has k v at (DelRange lo hi s ∷ fs) (inr i) = keys-has k v at fs i

  pub items-has : (shown : K → Option (Version V)) (i : Item K V) (ks : List K) → Has i (items shown ks) → Has i.key ks × (shown i.key ≡ Some (version i))
  unfolding items
  items-has shown i [] h = absurd h
  items-has shown i (k ∷ ks) h = go (items-has shown i ks) (shown k) refl h
    where
      go : (Has i (items shown ks) → Has i.key ks × (shown i.key ≡ Some (version i))) → (r : Option (Version V)) → shown k ≡ r → Has i (with_item k r (items shown ks)) → ((i.key ≡ k) ⊎ Has i.key ks) × (shown i.key ≡ Some (version i))
      go more None e j = let m = more j in (inr m.0, m.1)
      go more (Some v) e (inl p) = (inl (ap (λ (x : Item K V). x.key) p), ap (λ (x : Item K V). shown x.key) p ∙ (e ∙ sym (ap (λ (x : Item K V). Some (version x)) p)))
      go more (Some v) e (inr j) = let m = more j in (inr m.0, m.1)

  pub has-items : (shown : K → Option (Version V)) (k : K) (v : Version V) (ks : List K) → Has k ks → shown k ≡ Some v → Has (item k v) (items shown ks)
  unfolding items
  has-items shown k v [] h e = absurd h
  has-items shown k v (q ∷ qs) (inl p) e = subst (λ (r : Option (Version V)). Has (item k v) (with_item q r (items shown qs))) (sym (ap shown (sym p) ∙ e)) (inl (ap (λ (x : K). item x v) p))
  has-items shown k v (q ∷ qs) (inr i) e = go (shown q) (has-items shown k v qs i e)
    where
      go : (r : Option (Version V)) → Has (item k v) (items shown qs) → Has (item k v) (with_item q r (items shown qs))
      go None j = j
      go (Some w) j = inr j

  module _ (cmp : K → K → Ordering) where
    pub items-ascend : (shown : K → Option (Version V)) (ks : List K) → IsStrictlySortedBy cmp ks → IsStrictlySortedBy (on (λ (i : Item K V). i.key) cmp) (items shown ks)
    unfolding items IsStrictlySortedBy
    items-ascend shown [] s = tt
    items-ascend shown (k ∷ ks) s = go (items-ascend shown ks s.1) (shown k)
      where
        go : IsStrictlySortedBy (on (λ (i : Item K V). i.key) cmp) (items shown ks) → (r : Option (Version V)) → IsStrictlySortedBy (on (λ (i : Item K V). i.key) cmp) (with_item k r (items shown ks))
        go more None = more
        go more (Some v) = (members.AllByRecursion-has (λ (j : Item K V). cmp k j.key ≡ Less) (items shown ks) (λ j h. members.has-AllByRecursion (λ q. cmp k q ≡ Less) j.key ks s.0 (items-has shown j ks h).0), more)

    module _ (o : IsKeyOrder cmp) (t : Time) (fs : List (Fact K V)) where
      -- a visible value is that of a put of its key, which is the newest fact there
      pub value-put : (k : K) (v : Version V) → value cmp k t fs ≡ Some v → IsNewestFact cmp k t fs (Put k v.value v.at)
      unfolding value
      value-put k v e = go (newest cmp k t fs) (newests.newest-is cmp k t fs) e
        where
          go : (r : Option (Fact K V)) → IsNewest cmp k t fs r → version_of r ≡ Some v → IsNewestFact cmp k t fs (Put k v.value v.at)
          go None n p = absurd (cc)
          go (Some (Put q w s)) n p = subst (λ (f : Fact K V). IsNewestFact cmp k t fs f) same n
            where
              same : Put q w s ≡ Put k v.value v.at
              same = let a = orders.tied cmp o q k n.touching in let b : record { value = w; at = s } ≡ v = cc in λ i. Put (a i) ((b i).value) ((b i).at)
          go (Some (Del q s)) n p = absurd (cc)
          go (Some (DelRange lo hi s)) n p = absurd (cc)

      pub value-key : (k : K) (v : Version V) → value cmp k t fs ≡ Some v → Has k (ordered cmp (keys_put fs))
      value-key k v e = orders.has-ordered cmp o k (keys_put fs) (keys-has k v.value v.at fs (value-put k v e).among)

      pub scan-is : IsScan cmp t fs (scan cmp t fs)
      unfolding scan
      scan-is = record { ascends = items-ascend (λ k. value cmp k t fs) (ordered cmp (keys_put fs)) (orders.ascending-ordered cmp o.total (keys_put fs)); shows = λ i. (λ h. (items-has (λ k. value cmp k t fs) i (ordered cmp (keys_put fs)) h).1, λ e. has-items (λ k. value cmp k t fs) i.key (version i) (ordered cmp (keys_put fs)) (value-key i.key (version i) e) e) }

    module _ (o : IsKeyOrder cmp) where
      -- two scans of lists that show the same values are one list
      pub scans-same : (t u : Time) (fs gs : List (Fact K V)) (is js : List (Item K V)) → ((k : K) → value cmp k t fs ≡ value cmp k u gs) → IsScan cmp t fs is → IsScan cmp u gs js → is ≡ js
      scans-same t u fs gs is js e a b = orders.ascending-same (on (λ (i : Item K V). i.key) cmp) (on_total (λ (i : Item K V). i.key) o.total) is js a.ascends b.ascends (λ i h. (b.shows i).1 (sym (e i.key) ∙ (a.shows i).0 h)) (λ i h. (a.shows i).1 (e i.key ∙ (b.shows i).0 h))

      pub scan-from : (t : Time) (fs : List (Fact K V)) (is : List (Item K V)) → IsScan cmp t fs is → is ≡ scan cmp t fs
      scan-from t fs is a = scans-same t t fs fs is (scan cmp t fs) (λ k. refl) a (scan-is o t fs)

      -- a scan is made of the values
      pub scan-by_value : (t u : Time) (fs gs : List (Fact K V)) → ((k : K) → value cmp k t fs ≡ value cmp k u gs) → scan cmp t fs ≡ scan cmp u gs
      scan-by_value t u fs gs e = scans-same t u fs gs (scan cmp t fs) (scan cmp u gs) e (scan-is o t fs) (scan-is o u gs)

      -- the facts of an image
      pub image-has : (g : Time) (fs : List (Fact K V)) (f : Fact K V) → Has f (image cmp g fs) → (k : K) × (v : Version V) × (value cmp k g fs ≡ Some v) × (f ≡ Put k v.value v.at)
      unfolding image
      image-has g fs f h = let m = members.map-has put_of f (scan cmp g fs) h in (m.0.key, version m.0, ((scan-is o g fs).shows m.0).0 m.1, m.2)

      pub has-image : (g : Time) (fs : List (Fact K V)) (k : K) (v : Version V) → value cmp k g fs ≡ Some v → Has (Put k v.value v.at) (image cmp g fs)
      unfolding image
      has-image g fs k v e = members.has-map put_of (item k v) (scan cmp g fs) (((scan-is o g fs).shows (item k v)).1 e)

      -- a walk over keys that ascend and have all keys of puts among them
      pub keys-in : (fs : List (Fact K V)) (ks : List K) → AllIn (keys_put fs) ks → AllIn (ordered cmp (keys_put fs)) ks
      keys-in fs ks i k h = i k (orders.ordered-has cmp k (keys_put fs) h)

      pub items-scan : (t : Time) (fs : List (Fact K V)) (ks : List K) → IsStrictlySortedBy cmp ks → AllIn (keys_put fs) ks → items (λ k. value cmp k t fs) ks ≡ scan cmp t fs
      items-scan t fs ks up i = scan-from t fs (items (λ k. value cmp k t fs) ks) (record { ascends = items-ascend (λ k. value cmp k t fs) ks up; shows = λ j. (λ h. (items-has (λ k. value cmp k t fs) j ks h).1, λ e. has-items (λ k. value cmp k t fs) j.key (version j) ks (keys-in fs ks i j.key (value-key o t fs j.key (version j) e)) e) })
