-- The events and range deletions that a map of versions lists.
use Rattle.std.proofs.Common.{◌≡◌, ◌∙◌, ℕ, zero, suc, Bool, true, false, cond, not, ◌&&◌, sym, refl, ap, ap₂, subst, List, [], ◌∷◌, ◌++◌, map, filter, take, Option, Some, None, inl, inr, true≢false, Ordering, Less, Equal, is_le, is_lt, arith, Result, Ok, Err, IfOk}
use Rattle.std.specs.Global.{Vec}
use Rattle.std.specs.List.Sorted.{IsStrictlySortedBy}
use Rattle.std.specs.Ordering.{ordering_then}
use Rattle.std.proofs.lemmas.Bool.Decides.{nat_tests}
use Rattle.std.proofs.lemmas.Cmp.{tied_itself}
use Rattle.std.proofs.lemmas.List.{map-append, take-map}
use Rattle.std.proofs.lemmas.List.Elements.{filter-append}
use Rattle.std.proofs.lemmas.List.Kept.{IsStrictlySortedBy-filter}
use Rattle.mvcc_keys.specs.Times.{Time, time_le, time_lt}
use Rattle.mvcc_keys.specs.Codes.{time_cmp}
use Rattle.list_laws.specs.Members.{AllIn, Has}
use Rattle.mvcc_keys.specs.declared.entries.Entry.{Entry}
use Rattle.range_tombstones.specs.declared.upto.Upto.{Upto}
use Rattle.range_tombstones.specs.Dates.{Ascends}
use Rattle.range_tombstones.specs.Intervals.{is_between, within}
use Rattle.range_tombstones.specs.declared.deletion.RangeDeletion.{RangeDeletion}
use Rattle.range_tombstones.specs.Ranges.{ranges_between}
use Rattle.range_tombstones.specs.Ranges as deletions
use Rattle.range_tombstones.proofs.Lists as lists
use Rattle.fact_model.specs.Facts.{Fact, date}
use Rattle.fact_model.specs.Listed.{date_cmp, is_point, key_of, point_cmp, points, ranges}
use Rattle.fact_model.specs.Ordered.{ordered}
use Rattle.fact_model.specs.Scans.{kept}
use Rattle.mvcc_keys.proofs.TimeOrder as times
use Rattle.list_laws.proofs.Members as members
use Rattle.fact_model.proofs.Listings as listings
use Rattle.fact_model.proofs.Orders as orders
use Rattle.fact_model.proofs.Growth as growth
use Rattle.version_store.specs.Tables.{Bytes, ByteFact, bytes_cmp, entry_of, entries_of, Tables, is_past, events_at, ranges_at}
use Rattle.version_store.specs.Rows.{held, version_fact, row_facts, map_facts, range_fact, range_facts, KeysAscend, IsNewestFirst, AllNewestFirst, rows_from, row_events, events_in, is_after, is_event, start_of}
use Rattle.version_store.specs.MapHolding.{held_facts, KeepsTable, table_in, KeepsAll}
use Rattle.version_store.specs.declared.row.Version.{Version}
use Rattle.version_store.specs.declared.table_versions.TableVersions.{TableVersions}
use Rattle.version_store.proofs.Bytes.{bytes_order, filter-both, filter-same}
use Rattle.version_store.proofs.FactOrder.{dates-total, points-total}
use Rattle.list_laws.proofs.Filters.{filter-map}
use Rattle.list_laws.proofs.Bools.{and-false, and-parts}
use Rattle.version_store.proofs.RowPuts.{held-date, held-key}
use Rattle.version_store.proofs.RowScans.{map-has, keys-above}
use Rattle.version_store.proofs.MapHeld.{own-table}
use Rattle.mvcc_keys.proofs.TimeOrder.{cmp-Equal}
use Rattle.list_laws.proofs.Orders.{sorted-append}

-- ---- the orders of facts

lt-less : (s t : Time) → time_lt s t ≡ true → time_cmp s t ≡ Less
lt-less s t e = grind (arith, nat_tests)

-- ---- rows ascend

row-sorted : (k : Bytes) (vs : List Version) → IsNewestFirst vs → IsStrictlySortedBy (point_cmp bytes_cmp) (row_facts k vs)
unfolding IsStrictlySortedBy IsNewestFirst
row-sorted k [] first = tt
row-sorted k (v ∷ vs) first = (members.AllByRecursion-has (λ f. point_cmp bytes_cmp (version_fact k v) f ≡ Less) (row_facts k vs) (λ f h. let m = members.map-has (version_fact k) f vs h in ap (point_cmp bytes_cmp (version_fact k v)) m.2 ∙ less m.0 (members.has-AllByRecursion (λ (w : Version). time_lt w.at v.at ≡ true) m.0 vs first.0 m.1)), row-sorted k vs first.1)
  where
    less : (w : Version) → time_lt w.at v.at ≡ true → point_cmp bytes_cmp (version_fact k v) (version_fact k w) ≡ Less
    less w lt = ap₂ ordering_then (ap₂ bytes_cmp (held-key k v.at v.value) (held-key k w.at w.value) ∙ tied_itself bytes_order.total k) (ap₂ time_cmp (held-date k w.at w.value) (held-date k v.at v.value) ∙ lt-less w.at v.at lt)

pub rows-sorted : (es : List (Vec ℕ × List Version)) → KeysAscend es → AllNewestFirst es → IsStrictlySortedBy (point_cmp bytes_cmp) (map_facts es)
unfolding map_facts IsStrictlySortedBy
rows-sorted [] up first = tt
rows-sorted (e ∷ es) up first = sorted-append (point_cmp bytes_cmp) (row_facts e.0.items e.1) (map_facts es) (row-sorted e.0.items e.1 first.0) (rows-sorted es up.1 first.1) (λ f g h i. let m = members.map-has (version_fact e.0.items) f e.1 h in let n = map-has g es i in ap₂ (λ (k q : Bytes). ordering_then (bytes_cmp k q) (time_cmp (date g) (date f))) (ap key_of m.2 ∙ held-key e.0.items m.0.at m.0.value) (ap key_of n.4 ∙ held-key n.0.0.items n.2.at n.2.value) ∙ ap (λ o. ordering_then o (time_cmp (date g) (date f))) (keys-above e.0 es up.0 n.0 n.1))

ranges-sorted : (rs : List RangeDeletion) → Ascends (λ r s. time_lt r.at s.at) rs → IsStrictlySortedBy (date_cmp {K = Bytes} {V = Bytes}) (range_facts rs)
unfolding IsStrictlySortedBy
ranges-sorted [] a = tt
ranges-sorted (r ∷ rs) a = (members.AllByRecursion-has (λ (f : ByteFact). date_cmp (range_fact r) f ≡ Less) (range_facts rs) (λ f h. let m = members.map-has range_fact f rs h in ap (date_cmp (range_fact r)) m.2 ∙ lt-less r.at m.0.at (members.has-AllByRecursion (λ (s : RangeDeletion). time_lt r.at s.at ≡ true) m.0 rs a.0 m.1)), ranges-sorted rs a.1)

-- ---- what is after the threshold

-- those in the interval are after the threshold
later : (threshold from : Time) (upto : Upto) (kind : ByteFact → Bool) → time_le threshold from ≡ true → (x : ByteFact) → (kind x && is_between from upto (date x)) ≡ true → time_lt threshold (date x) ≡ true
later threshold from upto kind le x e = times.le-lt-lt threshold from (date x) le (and-parts (time_lt from (date x)) (within upto (date x)) (and-parts (kind x) (is_between from upto (date x)) e).1).0

held-point : (k : Bytes) (at : Time) (v : Option Bytes) → is_point (held k at v) ≡ true
held-point k at None = refl
held-point k at (Some v) = refl

module _ (t : TableVersions) (threshold from : Time) (upto : Upto) (facts : List ByteFact) (k : KeepsTable (Some t) threshold facts) (le : time_le threshold from ≡ true) where
  -- those of a kind that are held, in the interval
  later-in : (kind : ByteFact → Bool) (f : ByteFact) → Has f (held_facts (Some t)) → kind f ≡ true → is_between from upto (date f) ≡ true → Has f (filter (λ x. kind x && is_between from upto (date x)) facts)
  later-in kind f h p q = subst (Has f) (growth.kept-later bytes_cmp bytes_order threshold (λ x. kind x && is_between from upto (date x)) facts (later threshold from upto kind le)) (members.has-filter (λ x. kind x && is_between from upto (date x)) f (kept bytes_cmp threshold facts) (k.only f h) (ap₂ (λ (a b : Bool). a && b) p q))

  in-later : (kind : ByteFact → Bool) (f : ByteFact) → Has f (filter (λ x. kind x && is_between from upto (date x)) facts) → Has f (held_facts (Some t)) × (kind f ≡ true) × (is_between from upto (date f) ≡ true)
  in-later kind f h =
      let i = subst (Has f) (sym (growth.kept-later bytes_cmp bytes_order threshold (λ x. kind x && is_between from upto (date x)) facts (later threshold from upto kind le))) h in
      let e = and-parts (kind f) (is_between from upto (date f)) (members.filter-passes (λ x. kind x && is_between from upto (date x)) f facts h) in
      (k.found f (members.filter-has (λ x. kind x && is_between from upto (date x)) f (kept bytes_cmp threshold facts) i), e.0, e.1)

  among : (kind : ByteFact → Bool) (f : ByteFact) → Has f (filter (λ x. kind x && is_between from upto (date x)) facts) → Has f facts × (kind f ≡ true)
  among kind f h = (members.filter-has (λ x. kind x && is_between from upto (date x)) f facts h, (in-later kind f h).1)

  pub points-are : KeysAscend t.rows.entries → filter (λ f. is_between from upto (date f)) (map_facts t.rows.entries) ≡ points bytes_cmp (is_between from upto) facts
  unfolding points
  points-are up = orders.in-order (point_cmp bytes_cmp) (filter (λ f. is_between from upto (date f)) (map_facts t.rows.entries)) (filter (λ f. is_point f && is_between from upto (date f)) facts) points-total (IsStrictlySortedBy-filter (point_cmp bytes_cmp) (λ f. is_between from upto (date f)) (map_facts t.rows.entries) (rows-sorted t.rows.entries up k.first)) same there here
    where
      same : (f g : ByteFact) → Has f (filter (λ x. is_point x && is_between from upto (date x)) facts) → Has g (filter (λ x. is_point x && is_between from upto (date x)) facts) → point_cmp bytes_cmp f g ≡ Equal → f ≡ g
      same f g i j e = let a = among is_point f i in let b = among is_point g j in listings.points-same bytes_cmp bytes_order facts k.apart f g a.0 b.0 a.1 b.1 e

      there : AllIn (filter (λ f. is_between from upto (date f)) (map_facts t.rows.entries)) (filter (λ f. is_point f && is_between from upto (date f)) facts)
      there f h =
          let i = members.filter-has (λ x. is_between from upto (date x)) f (map_facts t.rows.entries) h in
          let m = map-has f t.rows.entries i in
          later-in is_point f (members.has-append_left f (map_facts t.rows.entries) (range_facts t.ranges) i) (ap is_point m.4 ∙ held-point m.0.0.items m.2.at m.2.value) (members.filter-passes (λ x. is_between from upto (date x)) f (map_facts t.rows.entries) h)

      here : AllIn (filter (λ f. is_point f && is_between from upto (date f)) facts) (filter (λ f. is_between from upto (date f)) (map_facts t.rows.entries))
      here f h = let m = in-later is_point f h in elim (members.has-append_cases f (map_facts t.rows.entries) (range_facts t.ranges) m.0) [ inl i ↦ members.has-filter (λ x. is_between from upto (date x)) f (map_facts t.rows.entries) i m.2 | inr j ↦ (let n = members.map-has range_fact f t.ranges j in absurd (true≢false (sym m.1 ∙ ap is_point n.2))) ]

  ranges-are : Ascends (λ r s. time_lt r.at s.at) t.ranges → range_facts (ranges_between from upto t.ranges) ≡ ranges (is_between from upto) facts
  unfolding ranges
  ranges-are up = orders.in-order date_cmp (range_facts (ranges_between from upto t.ranges)) (filter (λ f. not (is_point f) && is_between from upto (date f)) facts) dates-total (ranges-sorted (ranges_between from upto t.ranges) (ascends t.ranges up)) same there here
    where
      ascends : (rs : List RangeDeletion) → Ascends (λ r s. time_lt r.at s.at) rs → Ascends (λ r s. time_lt r.at s.at) (ranges_between from upto rs)
      ascends rs a = lists.ascends-filter (λ r s. time_lt r.at s.at) (λ r. is_between from upto r.at) rs a

      point : (f : ByteFact) → not (is_point f) ≡ true → is_point f ≡ false
      point (Fact.Put q v t) e = absurd (true≢false (sym e))
      point (Fact.Del q t) e = absurd (true≢false (sym e))
      point (Fact.DelRange lo hi t) e = refl

      same : (f g : ByteFact) → Has f (filter (λ x. not (is_point x) && is_between from upto (date x)) facts) → Has g (filter (λ x. not (is_point x) && is_between from upto (date x)) facts) → date_cmp f g ≡ Equal → f ≡ g
      same f g i j e = let a = among (λ x. not (is_point x)) f i in let b = among (λ x. not (is_point x)) g j in k.differ.differ f g a.0 b.0 (point f a.1) (point g b.1) (cmp-Equal (date f) (date g) e)

      there : AllIn (range_facts (ranges_between from upto t.ranges)) (filter (λ f. not (is_point f) && is_between from upto (date f)) facts)
      there f h =
          let m = members.map-has range_fact f (ranges_between from upto t.ranges) h in
          let i = members.filter-has (λ (r : RangeDeletion). is_between from upto r.at) m.0 t.ranges m.1 in
          later-in (λ x. not (is_point x)) f (members.has-append_right f (map_facts t.rows.entries) (range_facts t.ranges) (subst (λ (x : ByteFact). Has x (range_facts t.ranges)) (sym m.2) (members.has-map range_fact m.0 t.ranges i))) (ap (λ (x : ByteFact). not (is_point x)) m.2) (ap (λ (x : ByteFact). is_between from upto (date x)) m.2 ∙ members.filter-passes (λ (r : RangeDeletion). is_between from upto r.at) m.0 t.ranges m.1)

      here : AllIn (filter (λ f. not (is_point f) && is_between from upto (date f)) facts) (range_facts (ranges_between from upto t.ranges))
      here f h =
          let m = in-later (λ x. not (is_point x)) f h in
          elim (members.has-append_cases f (map_facts t.rows.entries) (range_facts t.ranges) m.0) [ inl i ↦ (let n = map-has f t.rows.entries i in absurd (true≢false (sym (held-point n.0.0.items n.2.at n.2.value) ∙ (sym (ap is_point n.4) ∙ point f m.1)))) | inr j ↦ (let n = members.map-has range_fact f t.ranges j in subst (λ (x : ByteFact). Has x (range_facts (ranges_between from upto t.ranges))) (sym n.2) (members.has-map range_fact n.0 (ranges_between from upto t.ranges) (members.has-filter (λ (r : RangeDeletion). is_between from upto r.at) n.0 t.ranges n.1 (sym (ap (λ (x : ByteFact). is_between from upto (date x)) n.2) ∙ m.2)))) ]

-- ---- the walk over the rows

pub events-filter : (p : Bytes → Time → Bool) (es : List (Vec ℕ × List Version)) → events_in p es ≡ entries_of (filter (λ f. p (key_of f) (date f)) (map_facts es))
unfolding events_in map_facts
events-filter p [] = refl
events-filter p (e ∷ es) = ap₂ (λ (xs ys : List Entry). xs ++ ys) (ap entries_of row) (events-filter p es) ∙ (sym (map-append entry_of (filter q (row_facts e.0.items e.1)) (filter q (map_facts es))) ∙ ap entries_of (sym (filter-append q (row_facts e.0.items e.1) (map_facts es))))
  where
    q : ByteFact → Bool
    q f = p (key_of f) (date f)

    row : row_facts e.0.items (filter (λ v. p e.0.items v.at) e.1) ≡ filter q (row_facts e.0.items e.1)
    row = ap (row_facts e.0.items) (filter-same (λ (v : Version). p e.0.items v.at) (λ v. q (version_fact e.0.items v)) e.1 (λ v. sym (ap₂ p (held-key e.0.items v.at v.value) (held-date e.0.items v.at v.value)))) ∙ sym (filter-map q (version_fact e.0.items) e.1)

-- what is before the place's key doesn't come after the place
pub none-before : (place : Option (Bytes × Time)) (k : Bytes) (at : Time) → is_le (bytes_cmp (start_of place) k) ≡ false → is_after place k at ≡ false
none-before None [] at e = absurd (true≢false e)
none-before None (b ∷ bs) at e = absurd (true≢false e)
none-before (Some place) k at e = by (bytes_cmp place.0 k) refl e
  where
    by : (o : Ordering) → bytes_cmp place.0 k ≡ o → is_le o ≡ false → is_after (Some place) k at ≡ false
    by Ordering.Less m n = absurd (true≢false n)
    by Ordering.Equal m n = absurd (true≢false n)
    by Ordering.Greater m n = ap (λ o. is_lt (ordering_then o (time_cmp at place.1))) m

-- where nothing of the rows before a place's key passes, they may be left out
pub from-start : (p : Bytes → Time → Bool) (place : Option (Bytes × Time)) → ((k : Bytes) (at : Time) → is_le (bytes_cmp (start_of place) k) ≡ false → p k at ≡ false) → (es : List (Vec ℕ × List Version)) → events_in p (rows_from (start_of place) es) ≡ events_in p es
unfolding events_in
from-start p place before [] = refl
from-start p place before (e ∷ es) = by (is_le (bytes_cmp (start_of place) e.0.items)) refl (from-start p place before es)
  where
    none : is_le (bytes_cmp (start_of place) e.0.items) ≡ false → (vs : List Version) → row_events p e.0.items vs ≡ []
    none off [] = refl
    none off (v ∷ vs) = ap (λ (b : Bool). entries_of (row_facts e.0.items (cond b (v ∷ filter (λ w. p e.0.items w.at) vs) (filter (λ w. p e.0.items w.at) vs)))) (before e.0.items v.at off) ∙ none off vs

    by : (b : Bool) → is_le (bytes_cmp (start_of place) e.0.items) ≡ b → events_in p (rows_from (start_of place) es) ≡ events_in p es → events_in p (cond b (e ∷ rows_from (start_of place) es) (rows_from (start_of place) es)) ≡ row_events p e.0.items e.1 ++ events_in p es
    by true m more = ap (λ (xs : List Entry). row_events p e.0.items e.1 ++ xs) more
    by false m more = more ∙ ap (λ (xs : List Entry). xs ++ events_in p es) (sym (none m e.1))

pub past-is : (place : Option (Bytes × Time)) (f : ByteFact) → is_after place (key_of f) (date f) ≡ is_past place f
past-is None f = refl
past-is (Some place) f = refl

pub events-found : (tables : List (ℕ × TableVersions)) (id : ℕ) (t : TableVersions) (from : Time) (upto : Upto) (place : Option (Bytes × Time)) (n : ℕ) (seen left : List Entry) → table_in tables id ≡ Some t → KeysAscend t.rows.entries → left ≡ take n seen → take n seen ≡ take n (events_in (is_event from upto place) (rows_from (start_of place) t.rows.entries)) → (h : Tables) → KeepsAll tables h → time_le (h.threshold id) from ≡ true → left ≡ events_at h id from upto place n
events-found tables id t from upto place n seen left e up cut found h all le =
    let k = own-table tables h id t e all in
    cut ∙ (found ∙ (ap (take n) (from-start (is_event from upto place) place (λ q at e. ap (λ (b : Bool). is_between from upto at && b) (none-before place q at e) ∙ and-false (is_between from upto at)) t.rows.entries ∙ (events-filter (is_event from upto place) t.rows.entries ∙ ap entries_of (filter-same (λ f. is_event from upto place (key_of f) (date f)) (λ f. is_between from upto (date f) && is_past place f) (map_facts t.rows.entries) (λ f. ap (λ (b : Bool). is_between from upto (date f) && b) (past-is place f)) ∙ (sym (filter-both (λ f. is_between from upto (date f)) (is_past place) (map_facts t.rows.entries)) ∙ ap (filter (is_past place)) (points-are t (h.threshold id) from upto (h.facts id) k le up))))) ∙ take-map entry_of n (filter (is_past place) (points bytes_cmp (is_between from upto) (h.facts id)))))

ranges-found : (tables : List (ℕ × TableVersions)) (id : ℕ) (t : TableVersions) (from : Time) (upto : Upto) (h : Tables) → table_in tables id ≡ Some t → Ascends (λ r s. time_lt r.at s.at) t.ranges → KeepsAll tables h → time_le (h.threshold id) from ≡ true → map deletions.entry_of (ranges_between from upto t.ranges) ≡ ranges_at h id from upto
ranges-found tables id t from upto h e up all le = mapped (ranges_between from upto t.ranges) ∙ ap entries_of (ranges-are t (h.threshold id) from upto (h.facts id) (own-table tables h id t e all) le up)
  where
    mapped : (rs : List RangeDeletion) → map deletions.entry_of rs ≡ entries_of (range_facts rs)
    mapped [] = refl
    mapped (r ∷ rs) = ap (λ (es : List Entry). deletions.entry_of r ∷ es) (mapped rs)

pub found-ranges : {F : Type 0} (r : Result (Vec Entry) F) (tables : List (ℕ × TableVersions)) (id : ℕ) (t : TableVersions) (from : Time) (upto : Upto) → table_in tables id ≡ Some t → Ascends (λ r s. time_lt r.at s.at) t.ranges → IfOk r (λ seen. seen.items ≡ map deletions.entry_of (ranges_between from upto t.ranges)) → IfOk r (λ seen. (h : Tables) → KeepsAll tables h → time_le (h.threshold id) from ≡ true → seen.items ≡ ranges_at h id from upto)
found-ranges (Ok seen) tables id t from upto e up found = λ h all le. found ∙ ranges-found tables id t from upto h e up all le
found-ranges (Err x) tables id t from upto e up found = tt

-- ---- a table that isn't there

pub none-later : (threshold from : Time) (upto : Upto) (facts : List ByteFact) (kind : ByteFact → Bool) → KeepsTable None threshold facts → time_le threshold from ≡ true → filter (λ f. kind f && is_between from upto (date f)) facts ≡ []
none-later threshold from upto facts kind k le = sym (growth.kept-later bytes_cmp bytes_order threshold (λ f. kind f && is_between from upto (date f)) facts (later threshold from upto kind le)) ∙ ap (filter (λ f. kind f && is_between from upto (date f))) (empty (kept bytes_cmp threshold facts) k.found)
  where
    empty : (fs : List ByteFact) → AllIn fs [] → fs ≡ []
    empty [] h = refl
    empty (f ∷ fs) h = absurd (h f (inl refl))

pub none-table : (tables : List (ℕ × TableVersions)) (id : ℕ) (h : Tables) → table_in tables id ≡ None → KeepsAll tables h → KeepsTable None (h.threshold id) (h.facts id)
none-table tables id h e all = subst (λ o. KeepsTable o (h.threshold id) (h.facts id)) e (all.table id)

pub events-none : (tables : List (ℕ × TableVersions)) (id : ℕ) (from : Time) (upto : Upto) (place : Option (Bytes × Time)) (n : ℕ) (h : Tables) → table_in tables id ≡ None → KeepsAll tables h → time_le (h.threshold id) from ≡ true → [] ≡ events_at h id from upto place n
unfolding points ordered
events-none tables id from upto place n h e all le = sym (ap (λ fs. entries_of (take n (filter (is_past place) (ordered (point_cmp bytes_cmp) fs)))) (none-later (h.threshold id) from upto (h.facts id) is_point (none-table tables id h e all) le) ∙ none n)
  where
    none : (m : ℕ) → entries_of (take m []) ≡ []
    none zero = refl
    none (suc m) = refl

pub ranges-none : (tables : List (ℕ × TableVersions)) (id : ℕ) (from : Time) (upto : Upto) (h : Tables) → table_in tables id ≡ None → KeepsAll tables h → time_le (h.threshold id) from ≡ true → [] ≡ ranges_at h id from upto
unfolding ranges ordered
ranges-none tables id from upto h e all le = sym (ap (λ fs. entries_of (ordered date_cmp fs)) (none-later (h.threshold id) from upto (h.facts id) (λ f. not (is_point f)) (none-table tables id h e all) le))
