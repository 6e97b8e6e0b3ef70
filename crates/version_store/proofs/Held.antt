-- What a store says that holds what is kept of each table's facts.
use Rattle.std.proofs.Common.{◌≡◌, ◌≢◌, ◌∙◌, ℕ, ◌==◌, Bool, true, false, cond, sym, refl, ap, ap₂, subst, subst₂, List, [], ◌∷◌, ◌++◌, map, filter, take, Option, Some, None, option_map, Ok, Err, Result, OnOk, IfOk, ◌⊎◌, inl, inr, not, ◌&&◌, Ordering, append-nil}
use Rattle.std.specs.Global.{Vec}
use Rattle.std.proofs.lemmas.List.{map-append, take-map}
use Rattle.std.proofs.lemmas.List.Elements.{filter-append}
use Rattle.mvcc_keys.specs.Times.{Time, time_lt, time_le}
use Rattle.mvcc_keys.specs.declared.entries.Entry.{Entry}
use Rattle.range_tombstones.specs.declared.upto.Upto.{Upto}
use Rattle.range_tombstones.specs.Intervals.{is_between, within}
use Rattle.fact_model.specs.Facts.{Fact, touches, date, IsApart, value, Version}
use Rattle.list_laws.specs.Members.{Has}
use Rattle.fact_model.specs.Listed.{is_point, key_of, point_cmp, date_cmp, points, ranges}
use Rattle.fact_model.specs.Ordered.{ordered}
use Rattle.fact_model.specs.Scans.{scan, image, items, keys_put, kept, put_of}
use Rattle.mvcc_keys.proofs.TimeOrder as times
use Rattle.list_laws.proofs.Members as members
use Rattle.fact_model.proofs.Orders as orders
use Rattle.fact_model.proofs.Stores as stores
use Rattle.fact_model.proofs.Growth as growth
use Rattle.version_store.specs.Tables.{Bytes, ByteFact, bytes_cmp, entry_of, entries_of, table_of, Tables, no_facts, with_fact, IsOfTable, MayAdd, value_at, scan_at, scan_after_at, is_past, events_at, newest_events_at, newest_points, ranges_at}
use Rattle.version_store.specs.Lists.{fact_of, facts_of, is_id, is_of, of_table, is_listed, listing_cmp, listed, entries_same, firsts}
use Rattle.version_store.specs.Holding.{threshold_in, HoldsTable, Holds}
use Rattle.version_store.specs.declared.listings.Listing.{Listing}
use Rattle.version_store.specs.declared.listings.Listing.TheVariants.{Points, Ranges}
use Rattle.version_store.specs.declared.fact_list.Threshold.{Threshold}
use Rattle.version_store.proofs.Bytes.{bytes_order, id-turned, id-same, filter-both, filter-same, fact-entry, entries-facts}
use Rattle.version_store.proofs.FactOrder.{points-sorted}
use Rattle.version_store.proofs.Firsts.{newest-found}
use Rattle.list_laws.proofs.Filters.{filter-map}
use Rattle.list_laws.proofs.Bools.{and-parts}

-- ---- one fact more

-- a fact that no other of its date meets lies apart from the others
pub apart-push : (fs : List ByteFact) (f : ByteFact) → IsApart bytes_cmp fs → ((k : Bytes) (g : ByteFact) → Has g fs → touches bytes_cmp k g ≡ true → touches bytes_cmp k f ≡ true → date g ≢ date f) → IsApart bytes_cmp (fs ++ f ∷ [])
apart-push fs f a fresh = record { apart = λ k g h i j p q e. by k g h p q e (members.has-append_cases g fs (f ∷ []) i) (members.has-append_cases h fs (f ∷ []) j) }
  where
    touch : (k : Bytes) (x : ByteFact) → x ≡ f → touches bytes_cmp k x ≡ true → touches bytes_cmp k f ≡ true
    touch k x e p = subst (λ (y : ByteFact). touches bytes_cmp k y ≡ true) e p

    by : (k : Bytes) (g h : ByteFact) → touches bytes_cmp k g ≡ true → touches bytes_cmp k h ≡ true → date g ≡ date h → Has g fs ⊎ Has g (f ∷ []) → Has h fs ⊎ Has h (f ∷ []) → g ≡ h
    by k g h p q e (inl i) (inl j) = a.apart k g h i j p q e
    by k g h p q e (inl i) (inr (inl y)) = absurd (fresh k g i p (touch k h y q) (e ∙ ap date y))
    by k g h p q e (inl i) (inr (inr y)) = absurd y
    by k g h p q e (inr (inl x)) (inl j) = absurd (fresh k h j q (touch k g x p) (sym e ∙ ap date x))
    by k g h p q e (inr (inl x)) (inr (inl y)) = x ∙ sym y
    by k g h p q e (inr (inl x)) (inr (inr y)) = absurd y
    by k g h p q e (inr (inr x)) j = absurd x

pub own-key : (id : ℕ) (f : ByteFact) → IsOfTable id f → table_of (key_of f) ≡ Some id
own-key id (Fact.Put k v t) o = o
own-key id (Fact.Del k t) o = o
own-key id (Fact.DelRange lo hi t) o = o.0

holds-push : (es : List Entry) (ts : List Threshold) (h : Tables) (id : ℕ) (e : Entry) → Holds es ts h → MayAdd h id (fact_of e) → Holds (es ++ e ∷ []) ts (with_fact id (fact_of e) h)
holds-push es ts h id e all may = record { from = all.from; tables = λ i. by i (i == id) refl (all.tables i) }
  where
    split : (i : ℕ) (b : Bool) → is_of i e ≡ b → facts_of (of_table i (es ++ e ∷ [])) ≡ facts_of (of_table i es) ++ facts_of (cond b (e ∷ []) [])
    split i b q = ap facts_of (filter-append (is_of i) es (e ∷ []) ∙ ap (λ (x : Bool). of_table i es ++ cond x (e ∷ []) []) q) ∙ map-append fact_of (of_table i es) (cond b (e ∷ []) [])

    own : (i : ℕ) (b : Bool) → (i == id) ≡ b → is_of i e ≡ b
    own i b p = ap (is_id i) (own-key id (fact_of e) may.table) ∙ (id-turned id i ∙ p)

    by : (i : ℕ) (b : Bool) → (i == id) ≡ b → HoldsTable es i (h.threshold i) (h.facts i) → HoldsTable (es ++ e ∷ []) i (h.threshold i) (cond b (h.facts i ++ fact_of e ∷ []) (h.facts i))
    by i true p k = let m = subst (λ (x : ℕ). MayAdd h x (fact_of e)) (sym (id-same i id p)) may in record { apart = apart-push (h.facts i) (fact_of e) k.apart m.fresh; kept_facts = split i true (own i true p) ∙ (ap (λ (xs : List ByteFact). xs ++ fact_of e ∷ []) k.kept_facts ∙ sym (growth.kept-push bytes_cmp bytes_order (h.threshold i) (h.facts i) (fact_of e) m.late)) }
    by i false p k = record { apart = k.apart; kept_facts = split i false (own i false p) ∙ (append-nil (facts_of (of_table i es)) ∙ k.kept_facts) }

pub added : {R F : Type 0} (r : Result R F) (es new : List Entry) (ts news : List Threshold) (e : Entry) → OnOk r (new ≡ es ++ e ∷ []) → news ≡ ts → OnOk r ((h : Tables) (id : ℕ) → Holds es ts h → MayAdd h id (fact_of e) → Holds new news (with_fact id (fact_of e) h))
added (Ok x) es new ts news e pushed same = λ h id all may. subst (λ (xs : List Entry). Holds xs news (with_fact id (fact_of e) h)) (sym pushed) (subst (λ (us : List Threshold). Holds (es ++ e ∷ []) us (with_fact id (fact_of e) h)) (sym same) (holds-push es ts h id e all may))
added (Err x) es new ts news e pushed same = tt

-- ---- values and scans

pub got : (es es' : List Entry) (ts : List Threshold) (k : Bytes) (t : Time) (table : ℕ) (r : Option Bytes) → es' ≡ es → table_of k ≡ Some table → r ≡ option_map (λ (v : Version Bytes). v.value) (value bytes_cmp k t (facts_of (of_table table es'))) → (h : Tables) (id : ℕ) → Holds es ts h → table_of k ≡ Some id → time_le (h.threshold id) t ≡ true → r ≡ value_at h id k t
got es es' ts k t table r same own found h id all key le = found ∙ ap (option_map (λ (v : Version Bytes). v.value)) (ap₂ (λ (i : ℕ) (xs : List Entry). value bytes_cmp k t (facts_of (of_table i xs))) one same ∙ (ap (value bytes_cmp k t) (all.tables id).kept_facts ∙ stores.kept-value bytes_cmp bytes_order k (h.threshold id) t (h.facts id) (all.tables id).apart le))
  where
    one : table ≡ id
    one = let e : Some table ≡ Some id = sym own ∙ key in cc

held-scan : (es : List Entry) (ts : List Threshold) (h : Tables) (id : ℕ) (t : Time) → Holds es ts h → time_le (h.threshold id) t ≡ true → entries_of (image bytes_cmp t (facts_of (of_table id es))) ≡ scan_at h id t
unfolding image
held-scan es ts h id t all le = ap (λ is. entries_of (map put_of is)) (ap (scan bytes_cmp t) (all.tables id).kept_facts ∙ stores.kept-scan bytes_cmp bytes_order (h.threshold id) t (h.facts id) (all.tables id).apart le)

-- what is found of a table's entries, and what that is for a store that holds them
pub answered : {F : Type 0} (r : Result (Vec Entry) F) (es es' : List Entry) (ts : List Threshold) (id id' : ℕ) (t : Time) (found : ℕ → List Entry → List Entry) (meant : Tables → List Entry) → ((h : Tables) → Holds es ts h → time_le (h.threshold id) t ≡ true → found id es ≡ meant h) → id' ≡ id → es' ≡ es → IfOk r (λ seen. seen.items ≡ found id' es') → IfOk r (λ seen. (h : Tables) → Holds es ts h → time_le (h.threshold id) t ≡ true → seen.items ≡ meant h)
answered (Ok x) es es' ts id id' t found meant held ids same there = λ h all le. there ∙ (ap₂ found ids same ∙ held h all le)
answered (Err x) es es' ts id id' t found meant held ids same there = tt

pub scanned : {F : Type 0} (r : Result (Vec Entry) F) (es es' : List Entry) (ts : List Threshold) (id id' : ℕ) (t : Time) → id' ≡ id → es' ≡ es → IfOk r (λ seen. seen.items ≡ entries_of (image bytes_cmp t (facts_of (of_table id' es')))) → IfOk r (λ seen. (h : Tables) → Holds es ts h → time_le (h.threshold id) t ≡ true → seen.items ≡ scan_at h id t)
scanned r es es' ts id id' t ids same found = answered r es es' ts id id' t (λ i xs. entries_of (image bytes_cmp t (facts_of (of_table i xs)))) (λ h. scan_at h id t) (λ h all le. held-scan es ts h id t all le) ids same found

-- ---- listings

listed-facts : (l : Listing) (cmp : ByteFact → ByteFact → Ordering) (p : ByteFact → Bool) (id : ℕ) (es : List Entry) → ((a b : Entry) → cmp (fact_of a) (fact_of b) ≡ listing_cmp l a b) → ((e : Entry) → is_listed l e ≡ p (fact_of e)) → listed l id es ≡ entries_of (ordered cmp (filter p (facts_of (of_table id es))))
unfolding listed
listed-facts l cmp p id es same test = sym (ap entries_of (ap (ordered cmp) (filter-map p fact_of (of_table id es)) ∙ orders.ordered-map (listing_cmp l) cmp fact_of (λ e. Unit {0}) (λ a b x y. same a b) (filter (λ e. p (fact_of e)) (of_table id es)) (λ e x. tt)) ∙ (entries-facts (ordered (listing_cmp l) (filter (λ e. p (fact_of e)) (of_table id es))) ∙ ap (ordered (listing_cmp l)) (filter-both (is_of id) (λ e. p (fact_of e)) es ∙ filter-same (λ e. is_of id e && p (fact_of e)) (λ e. is_of id e && is_listed l e) es (λ e. ap (λ (b : Bool). is_of id e && b) (sym (test e))))))

-- what is after the threshold is all there
held-later : (es : List Entry) (ts : List Threshold) (h : Tables) (id : ℕ) (from : Time) (upto : Upto) (q : ByteFact → Bool) → Holds es ts h → time_le (h.threshold id) from ≡ true → filter (λ f. q f && is_between from upto (date f)) (facts_of (of_table id es)) ≡ filter (λ f. q f && is_between from upto (date f)) (h.facts id)
held-later es ts h id from upto q all le = ap (filter (λ f. q f && is_between from upto (date f))) (all.tables id).kept_facts ∙ growth.kept-later bytes_cmp bytes_order (h.threshold id) (λ f. q f && is_between from upto (date f)) (h.facts id) (λ f e. times.le-lt-lt (h.threshold id) from (date f) le (and-parts (time_lt from (date f)) (within upto (date f)) (and-parts (q f) (is_between from upto (date f)) e).1).0)

pub cut : (place : Option (Bytes × Time)) (n : ℕ) (fs : List ByteFact) → take n (filter (λ e. is_past place (fact_of e)) (entries_of fs)) ≡ entries_of (take n (filter (is_past place) fs))
cut place n fs = ap (take n) (filter-map (λ e. is_past place (fact_of e)) entry_of fs ∙ ap entries_of (filter-same (λ f. is_past place (fact_of (entry_of f))) (is_past place) fs (λ f. ap (is_past place) (fact-entry f)))) ∙ take-map entry_of n (filter (is_past place) fs)

held-points : (es : List Entry) (ts : List Threshold) (h : Tables) (id : ℕ) (from : Time) (upto : Upto) → Holds es ts h → time_le (h.threshold id) from ≡ true → listed (Points from upto) id es ≡ entries_of (points bytes_cmp (is_between from upto) (h.facts id))
unfolding points
held-points es ts h id from upto all le = listed-facts (Points from upto) (point_cmp bytes_cmp) (λ f. is_point f && is_between from upto (date f)) id es (λ a b. refl) (λ e. refl) ∙ ap (λ (fs : List ByteFact). entries_of (ordered (point_cmp bytes_cmp) fs)) (held-later es ts h id from upto is_point all le)

held-events : (es : List Entry) (ts : List Threshold) (h : Tables) (id : ℕ) (from : Time) (upto : Upto) (place : Option (Bytes × Time)) (n : ℕ) → Holds es ts h → time_le (h.threshold id) from ≡ true → take n (filter (λ e. is_past place (fact_of e)) (listed (Points from upto) id es)) ≡ events_at h id from upto place n
held-events es ts h id from upto place n all le = ap (λ (xs : List Entry). take n (filter (λ e. is_past place (fact_of e)) xs)) (held-points es ts h id from upto all le) ∙ cut place n (points bytes_cmp (is_between from upto) (h.facts id))

pub events-found : {F : Type 0} (r : Result (Vec Entry) F) (es es' : List Entry) (ts : List Threshold) (id id' : ℕ) (from : Time) (upto : Upto) (place : Option (Bytes × Time)) (n : ℕ) → id' ≡ id → es' ≡ es → IfOk r (λ seen. seen.items ≡ take n (filter (λ e. is_past place (fact_of e)) (listed (Points from upto) id' es'))) → IfOk r (λ seen. (h : Tables) → Holds es ts h → time_le (h.threshold id) from ≡ true → seen.items ≡ events_at h id from upto place n)
events-found r es es' ts id id' from upto place n ids same found = answered r es es' ts id id' from (λ i xs. take n (filter (λ e. is_past place (fact_of e)) (listed (Points from upto) i xs))) (λ h. events_at h id from upto place n) (λ h all le. held-events es ts h id from upto place n all le) ids same found

held-newest : (es : List Entry) (ts : List Threshold) (h : Tables) (id : ℕ) (from : Time) (upto : Upto) (place : Option (Bytes × Time)) (n : ℕ) → Holds es ts h → time_le (h.threshold id) from ≡ true → take n (filter (λ e. is_past place (fact_of e)) (firsts entries_same None (listed (Points from upto) id es))) ≡ newest_events_at h id from upto place n
held-newest es ts h id from upto place n all le =
    let fs = points bytes_cmp (is_between from upto) (h.facts id) in
    ap (λ (xs : List Entry). take n (filter (λ e. is_past place (fact_of e)) xs)) (ap (firsts entries_same None) (held-points es ts h id from upto all le) ∙ newest-found fs (points-sorted (is_between from upto) (h.facts id))) ∙ cut place n (newest_points fs)

pub newest-events-found : {F : Type 0} (r : Result (Vec Entry) F) (es es' : List Entry) (ts : List Threshold) (id id' : ℕ) (from : Time) (upto : Upto) (place : Option (Bytes × Time)) (n : ℕ) → id' ≡ id → es' ≡ es → IfOk r (λ seen. seen.items ≡ take n (filter (λ e. is_past place (fact_of e)) (firsts entries_same None (listed (Points from upto) id' es')))) → IfOk r (λ seen. (h : Tables) → Holds es ts h → time_le (h.threshold id) from ≡ true → seen.items ≡ newest_events_at h id from upto place n)
newest-events-found r es es' ts id id' from upto place n ids same found = answered r es es' ts id id' from (λ i xs. take n (filter (λ e. is_past place (fact_of e)) (firsts entries_same None (listed (Points from upto) i xs)))) (λ h. newest_events_at h id from upto place n) (λ h all le. held-newest es ts h id from upto place n all le) ids same found

held-scan-after : (es : List Entry) (ts : List Threshold) (h : Tables) (id : ℕ) (t : Time) (place : Option (Bytes × Time)) (n : ℕ) → Holds es ts h → time_le (h.threshold id) t ≡ true → take n (filter (λ e. is_past place (fact_of e)) (entries_of (image bytes_cmp t (facts_of (of_table id es))))) ≡ scan_after_at h id t place n
held-scan-after es ts h id t place n all le = ap (λ (xs : List Entry). take n (filter (λ e. is_past place (fact_of e)) xs)) (held-scan es ts h id t all le) ∙ cut place n (image bytes_cmp t (h.facts id))

pub scanned-after : {F : Type 0} (r : Result (Vec Entry) F) (es es' : List Entry) (ts : List Threshold) (id id' : ℕ) (t : Time) (place : Option (Bytes × Time)) (n : ℕ) → id' ≡ id → es' ≡ es → IfOk r (λ seen. seen.items ≡ take n (filter (λ e. is_past place (fact_of e)) (entries_of (image bytes_cmp t (facts_of (of_table id' es')))))) → IfOk r (λ seen. (h : Tables) → Holds es ts h → time_le (h.threshold id) t ≡ true → seen.items ≡ scan_after_at h id t place n)
scanned-after r es es' ts id id' t place n ids same found = answered r es es' ts id id' t (λ i xs. take n (filter (λ e. is_past place (fact_of e)) (entries_of (image bytes_cmp t (facts_of (of_table i xs)))))) (λ h. scan_after_at h id t place n) (λ h all le. held-scan-after es ts h id t place n all le) ids same found

held-ranges : (es : List Entry) (ts : List Threshold) (h : Tables) (id : ℕ) (from : Time) (upto : Upto) → Holds es ts h → time_le (h.threshold id) from ≡ true → listed (Ranges from upto) id es ≡ ranges_at h id from upto
unfolding ranges
held-ranges es ts h id from upto all le = listed-facts (Ranges from upto) date_cmp (λ f. not (is_point f) && is_between from upto (date f)) id es (λ a b. refl) (λ e. refl) ∙ ap (λ (fs : List ByteFact). entries_of (ordered date_cmp fs)) (held-later es ts h id from upto (λ f. not (is_point f)) all le)

pub ranges-found : {F : Type 0} (r : Result (Vec Entry) F) (es es' : List Entry) (ts : List Threshold) (id id' : ℕ) (from : Time) (upto : Upto) → id' ≡ id → es' ≡ es → IfOk r (λ seen. seen.items ≡ listed (Ranges from upto) id' es') → IfOk r (λ seen. (h : Tables) → Holds es ts h → time_le (h.threshold id) from ≡ true → seen.items ≡ ranges_at h id from upto)
ranges-found r es es' ts id id' from upto ids same found = answered r es es' ts id id' from (λ i xs. listed (Ranges from upto) i xs) (λ h. ranges_at h id from upto) (λ h all le. held-ranges es ts h id from upto all le) ids same found

-- ---- the empty store

pub holds-none : (es : List Entry) (ts : List Threshold) → es ≡ [] → ts ≡ [] → Holds es ts no_facts
unfolding threshold_in kept image scan items keys_put ordered
holds-none es ts a b = subst₂ (λ (xs : List Entry) (us : List Threshold). Holds xs us no_facts) (sym a) (sym b) (record { from = λ id. refl; tables = λ id. record { apart = record { apart = λ k f g h i p q e. absurd h }; kept_facts = refl } })
