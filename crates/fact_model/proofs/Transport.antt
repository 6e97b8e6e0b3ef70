-- Facts under a map of their keys that keeps the order, and any map of their values.
use Rattle.std.proofs.Common.{◌≡◌, Bool, true, false, cond, sym, refl, ap, ap₂, ◌∙◌, subst, ◌&&◌, List, [], ◌∷◌, ◌++◌, Option, Some, None, inl, inr, map, Ordering, is_eq, is_le, is_lt, option_map}
use Rattle.std.proofs.lemmas.List.{map-append}
use Rattle.mvcc_keys.specs.Times.{Time, time_lt, time_le}
use Rattle.fact_model.specs.Facts.{Fact, Put, Del, DelRange, date, touches, later, newest, Version, version_of, value, after}
use Rattle.list_laws.specs.Members.{Has}
use Rattle.fact_model.specs.Ordered.{ordered}
use Rattle.fact_model.specs.Scans.{Item, keys_put, with_item, items, scan, put_of, image, kept}
use Rattle.fact_model.specs.Mapped.{map_fact, map_version, map_item, KeysMeet}
use Rattle.fact_model.specs.Laws.{IsKeyIn}
use Rattle.fact_model.proofs.Orders as orders
use Rattle.fact_model.proofs.Orders.{Each}

module _ {K L V W : Type 0} (cmp : K → K → Ordering) (cmp' : L → L → Ordering) (f : K → L) (w : V → W) (P : K → Type 0) (same : (a b : K) → P a → P b → cmp' (f a) (f b) ≡ cmp a b) where
  date-map : (x : Fact K V) → date (map_fact f w x) ≡ date x
  date-map (Put k v at) = refl
  date-map (Del k at) = refl
  date-map (DelRange lo hi at) = refl

  touches-map : (k : K) (x : Fact K V) → P k → KeysMeet P x → touches cmp' (f k) (map_fact f w x) ≡ touches cmp k x
  touches-map k (Put q v at) p m = ap is_eq (same q k m p)
  touches-map k (Del q at) p m = ap is_eq (same q k m p)
  touches-map k (DelRange lo hi at) p m = ap₂ (λ (a b : Ordering). is_le a && is_lt b) (same lo k m.0 p) (same k hi p m.1)

  later-map : (x : Fact K V) (r : Option (Fact K V)) → later (map_fact f w x) (option_map (map_fact f w) r) ≡ option_map (map_fact f w) (later x r)
  later-map x None = refl
  later-map x (Some y) = rw (date-map x, date-map y) (by (time_lt (date x) (date y)))
    where
      by : (b : Bool) → cond b (Some (map_fact f w y)) (Some (map_fact f w x)) ≡ option_map (map_fact f w) (cond b (Some y) (Some x))
      by true = refl
      by false = refl

  pub newest-map : (k : K) (t : Time) (fs : List (Fact K V)) → P k → Each (KeysMeet P) fs → newest cmp' (f k) t (map (map_fact f w) fs) ≡ option_map (map_fact f w) (newest cmp k t fs)
  unfolding newest
  newest-map k t [] p all = refl
  newest-map k t (x ∷ fs) p all = rw (touches-map k x p (all x (inl refl)), date-map x, newest-map k t fs p (λ z i. all z (inr i))) (by (touches cmp k x && time_le (date x) t))
    where
      by : (b : Bool) → cond b (later (map_fact f w x) (option_map (map_fact f w) (newest cmp k t fs))) (option_map (map_fact f w) (newest cmp k t fs)) ≡ option_map (map_fact f w) (cond b (later x (newest cmp k t fs)) (newest cmp k t fs))
      by true = later-map x (newest cmp k t fs)
      by false = refl

  version-map : (r : Option (Fact K V)) → version_of (option_map (map_fact f w) r) ≡ option_map (map_version w) (version_of r)
  version-map None = refl
  version-map (Some (Put k v at)) = refl
  version-map (Some (Del k at)) = refl
  version-map (Some (DelRange lo hi at)) = refl

  pub value-map : (k : K) (t : Time) (fs : List (Fact K V)) → P k → Each (KeysMeet P) fs → value cmp' (f k) t (map (map_fact f w) fs) ≡ option_map (map_version w) (value cmp k t fs)
  unfolding value
  value-map k t fs p all = ap version_of (newest-map k t fs p all) ∙ version-map (newest cmp k t fs)

  keys-map : (fs : List (Fact K V)) → keys_put (map (map_fact f w) fs) ≡ map f (keys_put fs)
  unfolding keys_put
  keys-map [] = refl
  keys-map (Put k v at ∷ fs) = ap (λ (ks : List L). f k ∷ ks) (keys-map fs)
  keys-map (Del k at ∷ fs) = keys-map fs
  keys-map (DelRange lo hi at ∷ fs) = keys-map fs

  keys-meet : (fs : List (Fact K V)) → Each (KeysMeet P) fs → Each P (keys_put fs)
  unfolding keys_put
  keys-meet [] all k h = absurd h
  keys-meet (Put q v at ∷ fs) all k (inl e) = subst P (sym e) (all (Put q v at) (inl refl))
  keys-meet (Put q v at ∷ fs) all k (inr i) = keys-meet fs (λ z j. all z (inr j)) k i
  keys-meet (Del q at ∷ fs) all k i = keys-meet fs (λ z j. all z (inr j)) k i
  keys-meet (DelRange lo hi at ∷ fs) all k i = keys-meet fs (λ z j. all z (inr j)) k i

  items-map : (shown : K → Option (Version V)) (shown' : L → Option (Version W)) (ks : List K) → ((k : K) → Has k ks → shown' (f k) ≡ option_map (map_version w) (shown k)) → items shown' (map f ks) ≡ map (map_item f w) (items shown ks)
  unfolding items
  items-map shown shown' [] e = refl
  items-map shown shown' (k ∷ ks) e = ap₂ (with_item (f k)) (e k (inl refl)) (items-map shown shown' ks (λ q i. e q (inr i))) ∙ by (shown k)
    where
      by : (r : Option (Version V)) → with_item (f k) (option_map (map_version w) r) (map (map_item f w) (items shown ks)) ≡ map (map_item f w) (with_item k r (items shown ks))
      by None = refl
      by (Some v) = refl

  pub scan-map : (t : Time) (fs : List (Fact K V)) → Each (KeysMeet P) fs → scan cmp' t (map (map_fact f w) fs) ≡ map (map_item f w) (scan cmp t fs)
  unfolding scan
  scan-map t fs all = ap (λ (ks : List L). items (λ k. value cmp' k t (map (map_fact f w) fs)) ks) (ap (ordered cmp') (keys-map fs) ∙ orders.ordered-map cmp cmp' f P same (keys_put fs) (keys-meet fs all)) ∙ items-map (λ k. value cmp k t fs) (λ k. value cmp' k t (map (map_fact f w) fs)) (ordered cmp (keys_put fs)) (λ k h. value-map k t fs (keys-meet fs all k (orders.ordered-has cmp k (keys_put fs) h)) all)

  puts-map : (is : List (Item K V)) → map put_of (map (map_item f w) is) ≡ map (map_fact f w) (map put_of is)
  puts-map [] = refl
  puts-map (i ∷ is) = ap (λ (xs : List (Fact L W)). Put (f i.key) (w i.value) i.at ∷ xs) (puts-map is)

  pub image-map : (t : Time) (fs : List (Fact K V)) → Each (KeysMeet P) fs → image cmp' t (map (map_fact f w) fs) ≡ map (map_fact f w) (image cmp t fs)
  unfolding image
  image-map t fs all = ap (map put_of) (scan-map t fs all) ∙ puts-map (scan cmp t fs)

  pub after-map : (s : Time) (fs : List (Fact K V)) → after s (map (map_fact f w) fs) ≡ map (map_fact f w) (after s fs)
  after-map s [] = refl
  after-map s (x ∷ fs) = rw (date-map x, after-map s fs) (by (time_lt s (date x)))
    where
      by : (b : Bool) → cond b (map_fact f w x ∷ map (map_fact f w) (after s fs)) (map (map_fact f w) (after s fs)) ≡ map (map_fact f w) (cond b (x ∷ after s fs) (after s fs))
      by true = refl
      by false = refl

  pub kept-map : (g : Time) (fs : List (Fact K V)) → Each (KeysMeet P) fs → kept cmp' g (map (map_fact f w) fs) ≡ map (map_fact f w) (kept cmp g fs)
  unfolding kept
  kept-map g fs all = ap₂ (λ (a b : List (Fact L W)). a ++ b) (image-map g fs all) (after-map g fs) ∙ sym (map-append (map_fact f w) (image cmp g fs) (after g fs))

-- each fact's keys are among those of all
pub keys-among : {K V : Type 0} (P : K → Type 0) (fs : List (Fact K V)) → ((k : K) → IsKeyIn fs k → P k) → Each (KeysMeet P) fs
keys-among P fs in_P (Put k v at) h = in_P k (Put k v at, (h, refl))
keys-among P fs in_P (Del k at) h = in_P k (Del k at, (h, refl))
keys-among P fs in_P (DelRange lo hi at) h = (in_P lo (DelRange lo hi at, (h, inl refl)), in_P hi (DelRange lo hi at, (h, inr refl)))
