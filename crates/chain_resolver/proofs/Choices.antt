-- The choice of the next layer, and steps of a walk.
use Rattle.std.proofs.Common.{◌≡◌, ℕ, zero, suc, Bool, true, false, ◌&&◌, ◌||◌, ◌≤◌, ◌<◌, ◌+◌, ◌-◌, sym, refl, ap, ◌∙◌, subst, List, [], ◌∷◌, ◌++◌, Option, Some, None, length, map, filter, cond, get_or, append_assoc, length-append, is_some, Result, Ok, Err, IfOk, true≢false, arith, ◌⊎◌, inl, inr}
use Rattle.std.specs.List.{slice_get, list_any, zip}
use Rattle.std.specs.Option.{option_map}
use Rattle.std.proofs.lemmas.Option.{slice_get_within, slice_get_read, gets, slice_get-map}
use Rattle.std.proofs.lemmas.Bool.{cases_lt, cases_eq, or_cases, and_from, and_parts, cases_Bool}
use Rattle.chain_resolver.specs.declared.layer.Layer.{Layer}
use Rattle.mvcc_keys.specs.Times.{Time, time_lt, time_le, time_eq}
use Rattle.chain_resolver.specs.Ways.{Route, IsBestWay, NoWay, usable}
use Rattle.chain_resolver.specs.Steps.{can, IsChoice, Walks, IsByEnd, IsForward}
use Rattle.chain_resolver.specs.declared.task.Task.{Task}
use Rattle.mvcc_keys.specs.declared.bytes.Memory.{Memory}
use Rattle.chain_resolver.specs.declared.task.Task.TheVariants.{Chain, Join, Span}
use Rattle.std.proofs.lemmas.Grind.{common_steps}
use Rattle.chain_resolver.specs.Tasks.{IsMarked, BestBelow, better, CanStart, StartsAt, AreRows, leads_on, route_of}
use Rattle.mvcc_keys.proofs.TimeOrder as times
use Rattle.chain_resolver.proofs.Walks as walks
use Rattle.list_laws.proofs.Options as options

before_or_at : (q i : ℕ) → q < i + 1 → (q < i) ⊎ (q ≡ i)
before_or_at q i h = elim (cases_lt q i) [ inl a ↦ inl a | inr a ↦ inr (omega arith) ]

pub list_any-found : {X : Type 0} (f : X → Bool) (xs : List X) → list_any f xs ≡ true → (i : ℕ) × (x : X) × (slice_get xs i ≡ Some x) × (f x ≡ true)
list_any-found f [] h = absurd (true≢false (sym h))
list_any-found {X = X} f (x ∷ xs) h = elim (or_cases (f x) (list_any f xs) h) [ inl a ↦ (0, x, refl, a) | inr a ↦ later (list_any-found f xs a) ]
  where
    later : (i : ℕ) × (y : X) × (slice_get xs i ≡ Some y) × (f y ≡ true) → (i : ℕ) × (y : X) × (slice_get (x ∷ xs) i ≡ Some y) × (f y ≡ true)
    later (i, y, e, p) = (suc i, y, e, p)

pub row-at : (r : Route) (ls : List Layer) (rows : List (List Bool)) (k : ℕ) (row given : List Bool) → AreRows r ls rows → k < length rows → row ≡ get_or rows k row → given ≡ row → given ≡ map (can r ls k) ls
row-at r ls rows k row given are lt is same = same ∙ are k row (slice_get_read rows (length rows) k row refl lt is)

module _ (r : Route) (ls : List Layer) (row : List Bool) (before : Option Layer) where
  same_layer : (q i : ℕ) (l m : Layer) → q ≡ i → IsMarked r ls row before q l → slice_get ls i ≡ Some m → l ≡ m
  same_layer q i l m e h at = options.some-is l m (sym h.there ∙ ap (slice_get ls) e ∙ at)

  -- one more place that doesn't count
  skips : (i : ℕ) (best : Option (ℕ × Layer)) → ((l : Layer) → IsMarked r ls row before i l → ⊥) → BestBelow r ls row before i best → BestBelow r ls row before (i + 1) best
  skips i None off h = λ q l lt k. elim (before_or_at q i lt) [ inl a ↦ h q l a k | inr a ↦ off l (subst (λ (n : ℕ). IsMarked r ls row before n l) a k) ]
  skips i (Some (p, m)) off h = record {
    below = let b = h.below in omega arith;
    among = h.among;
    greatest = λ q l lt k. elim (before_or_at q i lt) [ inl a ↦ h.greatest q l a k | inr a ↦ absurd (off l (subst (λ (n : ℕ). IsMarked r ls row before n l) a k)) ];
    lowest = λ q l lt k e. elim (before_or_at q i lt) [ inl a ↦ h.lowest q l a k e | inr a ↦ absurd (off l (subst (λ (n : ℕ). IsMarked r ls row before n l) a k)) ];
  }

  -- one that counts
  takes : (i : ℕ) (best : Option (ℕ × Layer)) (n : Layer) → IsMarked r ls row before i n → BestBelow r ls row before i best → BestBelow r ls row before (i + 1) (better best i n)
  takes i None n new h = record {
    below = omega arith;
    among = new;
    greatest = λ q l lt k. elim (before_or_at q i lt) [ inl a ↦ absurd (h q l a k) | inr a ↦ subst (λ (x : Layer). time_le x.end n.end ≡ true) (sym (same_layer q i l n a k new.there)) (times.le-refl n.end) ];
    lowest = λ q l lt k e. elim (before_or_at q i lt) [ inl a ↦ absurd (h q l a k) | inr a ↦ omega arith ];
  }
  takes i (Some (p, m)) n new h = by (time_lt m.end n.end) refl
    where
      by : (b : Bool) → time_lt m.end n.end ≡ b → BestBelow r ls row before (i + 1) (cond b (Some (i, n)) (Some (p, m)))
      by true lt = record {
        below = omega arith;
        among = new;
        greatest = λ q l j k. elim (before_or_at q i j) [ inl a ↦ times.le-lt-le l.end m.end n.end (h.greatest q l a k) lt | inr a ↦ subst (λ (x : Layer). time_le x.end n.end ≡ true) (sym (same_layer q i l n a k new.there)) (times.le-refl n.end) ];
        lowest = λ q l j k e. elim (before_or_at q i j) [ inl a ↦ absurd (times.lt-le-absurd m.end n.end lt (subst (λ (x : Time). time_le x m.end ≡ true) e (h.greatest q l a k))) | inr a ↦ omega arith ];
      }
      by false ge = record {
        below = let b = h.below in omega arith;
        among = h.among;
        greatest = λ q l j k. elim (before_or_at q i j) [ inl a ↦ h.greatest q l a k | inr a ↦ subst (λ (x : Layer). time_le x.end m.end ≡ true) (sym (same_layer q i l n a k new.there)) (times.not_lt-le m.end n.end ge) ];
        lowest = λ q l j k e. elim (before_or_at q i j) [ inl a ↦ h.lowest q l a k e | inr a ↦ let b = h.below in omega arith ];
      }

  pub best-step : (i : ℕ) (best next : Option (ℕ × Layer)) (l : Layer) (mark fit : Bool) → BestBelow r ls row before i best → slice_get ls i ≡ Some l → slice_get row i ≡ Some mark → fit ≡ r.follows before l → next ≡ cond (mark && fit) (better best i l) best → BestBelow r ls row before (i + 1) next
  best-step i best next l true true h at on fits e = subst (λ (o : Option (ℕ × Layer)). BestBelow r ls row before (i + 1) o) (sym e) (takes i best l (record { there = at; marked = on; follows = sym fits }) h)
  best-step i best next l true false h at on fits e = subst (λ (o : Option (ℕ × Layer)). BestBelow r ls row before (i + 1) o) (sym e) (skips i best (λ m k. true≢false (sym k.follows ∙ ap (r.follows before) (options.some-is m l (sym k.there ∙ at)) ∙ sym fits)) h)
  best-step i best next l false fit h at on fits e = subst (λ (o : Option (ℕ × Layer)). BestBelow r ls row before (i + 1) o) (sym e) (skips i best (λ m k. true≢false (options.some-is true false (sym k.marked ∙ on))) h)

  module _ (k : ℕ) (is : row ≡ map (can r ls k) ls) where
    marked-can : (q : ℕ) (l : Layer) → slice_get ls q ≡ Some l → slice_get row q ≡ Some (can r ls k l)
    marked-can q l at = ap (λ (xs : List Bool). slice_get xs q) is ∙ slice_get-map (can r ls k) ls q ∙ ap (option_map (can r ls k)) at

    can-marked : (q : ℕ) (l : Layer) → IsMarked r ls row before q l → can r ls k l ≡ true
    can-marked q l h = options.some-is (can r ls k l) true (sym (marked-can q l h.there) ∙ h.marked)

    is-marked : (q : ℕ) (l : Layer) → slice_get ls q ≡ Some l → (r.follows before l && can r ls k l) ≡ true → IsMarked r ls row before q l
    is-marked q l at h = let p = and_parts (r.follows before l) (can r ls k l) h in record { there = at; marked = marked-can q l at ∙ ap Some p.1; follows = p.0 }

    pub chosen : (p : ℕ) (m : Layer) → BestBelow r ls row before (length ls) (Some (p, m)) → IsChoice ls (λ l. r.follows before l && can r ls k l) p m
    chosen p m h = record {
      there = h.among.there;
      fits = and_from (r.follows before m) (can r ls k m) h.among.follows (can-marked p m h.among);
      greatest = λ q l at ok. h.greatest q l (slice_get_within ls q l at) (is-marked q l at ok);
      lowest = λ q l at ok e. h.lowest q l (slice_get_within ls q l at) (is-marked q l at ok) e;
    }

    pub chosen-can : (p : ℕ) (m : Layer) → BestBelow r ls row before (length ls) (Some (p, m)) → can r ls k m ≡ true
    chosen-can p m h = can-marked p m h.among

    pub chosen-start : (o : Option (ℕ × Layer)) (p : ℕ) (m : Layer) → o ≡ Some (p, m) → BestBelow r ls row before (length ls) o → CanStart r ls before k ≡ true
    chosen-start o p m e h = let c = chosen p m (subst (λ (x : Option (ℕ × Layer)). BestBelow r ls row before (length ls) x) e h) in walks.list_any-at (λ l. r.follows before l && can r ls k l) ls p m c.there c.fits

    pub none-start : BestBelow r ls row before (length ls) None → CanStart r ls before k ≡ false
    none-start h = elim (cases_Bool (CanStart r ls before k)) [ inl a ↦ absurd (found (list_any-found (λ l. r.follows before l && can r ls k l) ls a)) | inr a ↦ a ]
      where
        found : (i : ℕ) × (l : Layer) × (slice_get ls i ≡ Some l) × ((r.follows before l && can r ls k l) ≡ true) → ⊥
        found (i, l, at, ok) = h i l (slice_get_within ls i l at) (is-marked i l at ok)

    pub walk-stuck : (left : ℕ) → left ≡ suc k → StartsAt r ls before left → BestBelow r ls row before (length ls) None → ⊥
    walk-stuck left e starts h = true≢false (sym (subst (λ (n : ℕ). StartsAt r ls before n) e starts) ∙ none-start h)

    pub walk-starts : (p : ℕ) (m : Layer) → BestBelow r ls row before (length ls) (Some (p, m)) → StartsAt r ls (Some m) k
    walk-starts p m h = by k (chosen-can p m h)
      where
        by : (n : ℕ) → can r ls n m ≡ true → StartsAt r ls (Some m) n
        by zero e = tt
        by (suc n) e = e

    pub walk-step : (left : ℕ) → left ≡ suc k → (places more : List ℕ) (p : ℕ) (m : Layer) → more ≡ places ++ (p ∷ []) → BestBelow r ls row before (length ls) (Some (p, m)) → ((rest : List ℕ) → length rest ≡ left → Walks r ls before rest → Walks r ls None (places ++ rest)) → (rest : List ℕ) → length rest ≡ k → Walks r ls (Some m) rest → Walks r ls None (more ++ rest)
    walk-step left e places more p m grown h so_far rest len w =
        let choice : IsChoice ls (λ l. r.follows before l && can r ls (length rest) l) p m = subst (λ (n : ℕ). IsChoice ls (λ l. r.follows before l && can r ls n l) p m) (sym len) (chosen p m h) in
        let count : length (p ∷ rest) ≡ left = omega arith in
        rw (grown, append_assoc) (so_far (p ∷ rest) count (m, choice, w))

-- the row after these
pub rows-more : (r : Route) (ls : List Layer) (rows more : List (List Bool)) (row : List Bool) → AreRows r ls rows → row ≡ map (can r ls (length rows)) ls → more ≡ rows ++ (row ∷ []) → AreRows r ls more
rows-more r ls rows more row are is grown j given at = elim (cases_lt j (length rows)) [ inl a ↦ are j given (sym (slice_get-append-left j a) ∙ at') | inr a ↦ last (cases_eq j (length rows)) a ]
  where
    at' : slice_get (rows ++ (row ∷ [])) j ≡ Some given
    at' = ap (λ (xs : List (List Bool)). slice_get xs j) (sym grown) ∙ at

    slice_get-append-left : (j : ℕ) → j < length rows → slice_get (rows ++ (row ∷ [])) j ≡ slice_get rows j
    slice_get-append-left j lt = grind (arith, common_steps, gets)

    last : (j ≡ length rows) ⊎ (j ≡ length rows → ⊥) → length rows ≤ j → given ≡ map (can r ls j) ls
    last (inl e) le = let here : slice_get (rows ++ (row ∷ [])) j ≡ Some row = grind (arith, common_steps, gets) in options.some-is given row (sym at' ∙ here) ∙ is ∙ ap (λ (n : ℕ). map (can r ls n) ls) (sym e)
    last (inr n) le = let past : slice_get (rows ++ (row ∷ [])) j ≡ None = grind (arith, common_steps, gets) in absurd (no (sym at' ∙ past))
      where
        no : Some given ≡ None → ⊥
        no e = cc

pub leads-can : (r : Route) (ls : List Layer) (k : ℕ) (l : Layer) → leads_on r ls (map (can r ls k) ls) l ≡ can r ls (suc k) l
leads-can r ls k l = along ls
  where
    step : (f b : Bool) (x : Layer) (ps : List (Layer × Bool)) (rest : Bool) → r.follows (Some l) x ≡ f → list_any (λ m. r.follows (Some l) m) (map (λ (p : Layer × Bool). p.0) ps) ≡ rest → list_any (λ m. r.follows (Some l) m) (map (λ (p : Layer × Bool). p.0) (cond b ((x, b) ∷ ps) ps)) ≡ ((f && b) || rest)
    step true true x ps rest e h = ap (λ (c : Bool). c || list_any (λ m. r.follows (Some l) m) (map (λ (p : Layer × Bool). p.0) ps)) e
    step false true x ps rest e h = ap (λ (c : Bool). c || list_any (λ m. r.follows (Some l) m) (map (λ (p : Layer × Bool). p.0) ps)) e ∙ h
    step true false x ps rest e h = h
    step false false x ps rest e h = h

    along : (xs : List Layer) → list_any (λ m. r.follows (Some l) m) (map (λ (p : Layer × Bool). p.0) (filter (λ (p : Layer × Bool). p.1) (zip xs (map (can r ls k) xs)))) ≡ list_any (λ m. r.follows (Some l) m && can r ls k m) xs
    along [] = refl
    along (x ∷ xs) = step (r.follows (Some l) x) (can r ls k x) x (filter (λ (p : Layer × Bool). p.1) (zip xs (map (can r ls k) xs))) (list_any (λ m. r.follows (Some l) m && can r ls k m) xs) refl (along xs)

pub route-IsByEnd : (t : Task) → IsByEnd (route_of t)
route-IsByEnd (Chain t) = λ l m n e. ap (λ (x : Time). time_eq x n.start) e
route-IsByEnd (Join from to) = λ l m n e. ap (λ (x : Time). time_eq x n.start) e
route-IsByEnd (Span t1 t2) = λ l m n e. ap (λ (x : Time). usable t1 n && time_eq x n.start) e

pub found : (r : Route) (ls : List Layer) (n : ℕ) (ps : List ℕ) → IsByEnd r → Walks r ls None ps → length ps ≡ suc n → ((j : ℕ) → j < n → CanStart r ls None j ≡ false) → IsBestWay r ls ps
found r ls n [] by w e none = absurd (omega arith)
found r ls n (p ∷ ps) by w e none = walks.walks-IsBestWay r ls by p ps w (λ j lt. none j (omega arith))

pub no-way : (r : Route) (ls : List Layer) (n : ℕ) → IsForward r ls → length ls ≤ n → ((j : ℕ) → j < n → CanStart r ls None j ≡ false) → NoWay r ls
no-way r ls n fwd full none qs h = let a = walks.none-shorter r ls n none qs h in let b = walks.way-length r ls fwd qs h in omega arith

pub longer : (places more : List ℕ) (p left n : ℕ) → more ≡ places ++ (p ∷ []) → 0 < left → length places + left ≡ n → length more + (left - 1) ≡ n
longer places more p left n grown some e = rw (grown, length-append) (omega arith)

pub start-is : (r : Route) (ls : List Layer) (row : List Bool) (before : Option Layer) (k : ℕ) (is : row ≡ map (can r ls k) ls) (o : Option (ℕ × Layer)) → BestBelow r ls row before (length ls) o → is_some o ≡ CanStart r ls before k
start-is r ls row before k is None h = sym (none-start r ls row before k is h)
start-is r ls row before k is (Some (p, m)) h = sym (chosen-start r ls row before k is (Some (p, m)) p m refl h)

pub next-row : (r : Route) (ls : List Layer) (rows : List (List Bool)) (row given : List Bool) (res : Result (List Bool) Memory) → AreRows r ls rows → 0 < length rows → row ≡ get_or rows (length rows - 1) row → given ≡ row → IfOk res (λ v. v ≡ map (leads_on r ls given) ls) → IfOk res (λ v. v ≡ map (can r ls (length rows)) ls)
next-row r ls rows row given (Err e) are some is same h = h
next-row r ls rows row given (Ok v) are some is same h =
    let k : length rows ≡ suc (length rows - 1) = omega arith in
    let lt : length rows - 1 < length rows = omega arith in
    let e : given ≡ map (can r ls (length rows - 1)) ls = row-at r ls rows (length rows - 1) row given are lt is same in
    h ∙ ap (λ (xs : List Bool). map (leads_on r ls xs) ls) e ∙ (λ i. map (λ l. leads-can r ls (length rows - 1) l i) ls) ∙ ap (λ (n : ℕ). map (can r ls n) ls) (sym k)

pub row-known : (r : Route) (ls : List Layer) (rows now : List (List Bool)) (row : List Bool) → now ≡ rows → row ≡ map (can r ls (length now)) ls → row ≡ map (can r ls (length rows)) ls
row-known r ls rows now row e is = is ∙ ap (λ (xs : List (List Bool)). map (can r ls (length xs)) ls) e

length-push : (rows : List (List Bool)) (row : List Bool) → length (rows ++ (row ∷ [])) ≡ suc (length rows)
length-push rows row = rw length-append (omega arith)

pub start-now : (r : Route) (ls : List Layer) (rows more now : List (List Bool)) (row : List Bool) → more ≡ rows ++ (row ∷ []) → now ≡ more → CanStart r ls None (length rows) ≡ true → StartsAt r ls None (length now)
start-now r ls rows more now row grown same h = subst (λ (n : ℕ). StartsAt r ls None n) (sym (ap length (same ∙ grown) ∙ length-push rows row)) h

pub length-now : (rows more now : List (List Bool)) (row : List Bool) (n : ℕ) → more ≡ rows ++ (row ∷ []) → now ≡ more → n ≡ length now → n ≡ suc (length rows)
length-now rows more now row n grown same e = e ∙ ap length (same ∙ grown) ∙ length-push rows row

pub none-more : (r : Route) (ls : List Layer) (rows more : List (List Bool)) (row : List Bool) → more ≡ rows ++ (row ∷ []) → ((j : ℕ) → j < length rows → CanStart r ls None j ≡ false) → CanStart r ls None (length rows) ≡ false → (j : ℕ) → j < length more → CanStart r ls None j ≡ false
none-more r ls rows more row grown none now j lt = elim (cases_lt j (length rows)) [ inl a ↦ none j a | inr a ↦ let e : j ≡ length rows = omega (arith, ap length grown ∙ length-push rows row) in subst (λ (n : ℕ). CanStart r ls None n ≡ false) (sym e) now ]
