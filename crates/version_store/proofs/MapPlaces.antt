-- What a map of versions shows after a place.
use Rattle.std.proofs.Common.{◌≡◌, ◌∙◌, ℕ, zero, suc, Bool, true, false, cond, sym, refl, ap, ap₂, ◌&&◌, true≢false, List, [], ◌∷◌, ◌++◌, map, filter, take, Option, Some, None, inl, inr, is_eq, is_le}
use Rattle.std.specs.Global.{Vec}
use Rattle.std.specs.Option.{option_to_list}
use Rattle.std.specs.List.Sorted.{IsStrictlySortedBy}
use Rattle.std.proofs.lemmas.Cmp.{tied_itself}
use Rattle.std.proofs.lemmas.List.{take-map}
use Rattle.std.proofs.lemmas.List.Elements.{filter-append}
use Rattle.std.proofs.lemmas.List.Kept.{IsStrictlySortedBy-filter}
use Rattle.mvcc_keys.specs.Times.{Time, time_le, time_lt, zero_time}
use Rattle.mvcc_keys.proofs.TimeOrder.{lt-not_le}
use Rattle.mvcc_keys.specs.declared.entries.Entry.{Entry}
use Rattle.range_tombstones.specs.declared.upto.Upto.{Upto}
use Rattle.range_tombstones.specs.Intervals.{is_between}
use Rattle.range_tombstones.specs.declared.deletion.RangeDeletion.{RangeDeletion}
use Rattle.range_tombstones.specs.Ranges.{newest_cover}
use Rattle.fact_model.specs.Facts as facts
use Rattle.fact_model.specs.Facts.{date, later, newest, touches, value, version_of}
use Rattle.fact_model.specs.Listed.{is_point, key_of, point_cmp, points}
use Rattle.fact_model.specs.Ordered.{ordered}
use Rattle.fact_model.specs.Scans.{image, items, keys_put, put_of, scan}
use Rattle.fact_model.proofs.Scanned as scanned
use Rattle.list_laws.specs.Members.{Has}
use Rattle.list_laws.proofs.Filters.{filter-map}
use Rattle.list_laws.proofs.Members as members
use Rattle.version_store.specs.Tables.{Bytes, ByteFact, bytes_cmp, entries_of, is_past, newest_events_at, newest_points, same_key, scan_after_at, Tables}
use Rattle.version_store.specs.Lists.{fact_of, firsts, seen_item}
use Rattle.version_store.specs.Rows.{AllNewestFirst, KeysAscend, events_in, first_between, first_upto, hits, hits_past, is_after, map_facts, newest_rows, row_facts, row_shown, rows_from, seen_past, start_of, version_fact}
use Rattle.version_store.specs.MapHolding.{KeepsAll, table_in}
use Rattle.version_store.specs.declared.row.Version.{Version}
use Rattle.version_store.specs.declared.table_versions.TableVersions.{TableVersions}
use Rattle.version_store.proofs.Bytes.{bytes_order, filter-same}
use Rattle.version_store.proofs.Firsts.{firsts-newest}
use Rattle.version_store.proofs.Held.{cut}
use Rattle.version_store.proofs.RowPuts.{held-date, held-key}
use Rattle.version_store.proofs.RowScans.{keys-above, map-has}
use Rattle.version_store.proofs.MapHeld.{own-table, scan-found, scan-none}
use Rattle.version_store.proofs.MapLists.{events-filter, from-start, none-before, none-later, none-table, past-is, points-are, rows-sorted}
use Rattle.list_laws.proofs.Places.{take-none}

-- ---- visible puts

put-past : (place : Option (Bytes × Time)) (k v : Bytes) (at : Time) → is_after place k at ≡ is_past place (facts.Fact.Put k v at)
put-past None k v at = refl
put-past (Some place) k v at = refl

seen-filter : (place : Option (Bytes × Time)) (k : Bytes) (r : Option (facts.Version Bytes)) → seen_past place k r ≡ filter (λ e. is_past place (fact_of e)) (seen_item k r)
seen-filter place k None = refl
seen-filter place k (Some v) = ap (λ (b : Bool). cond b (Entry.Put k v.at v.value ∷ []) []) (put-past place k v.value v.at)

past-filter : (place : Option (Bytes × Time)) (t : Time) (rs : List RangeDeletion) (es : List (Vec ℕ × List Version)) → hits_past place t rs es ≡ filter (λ e. is_past place (fact_of e)) (hits t rs es)
unfolding hits hits_past
past-filter place t rs [] = refl
past-filter place t rs (e ∷ es) =
    let r = row_shown (first_upto t e.1) (newest_cover e.0.items t rs) in
    ap₂ (λ (xs ys : List Entry). xs ++ ys) (seen-filter place e.0.items r) (past-filter place t rs es) ∙ sym (filter-append (λ d. is_past place (fact_of d)) (seen_item e.0.items r) (hits t rs es))

past-start : (place : Option (Bytes × Time)) (t : Time) (rs : List RangeDeletion) (es : List (Vec ℕ × List Version)) → hits_past place t rs (rows_from (start_of place) es) ≡ hits_past place t rs es
unfolding hits_past
past-start place t rs [] = refl
past-start place t rs (e ∷ es) = by (is_le (bytes_cmp (start_of place) e.0.items)) refl (past-start place t rs es)
  where
    none : is_le (bytes_cmp (start_of place) e.0.items) ≡ false → (r : Option (facts.Version Bytes)) → seen_past place e.0.items r ≡ []
    none off None = refl
    none off (Some v) = ap (λ (b : Bool). cond b (Entry.Put e.0.items v.at v.value ∷ []) []) (none-before place e.0.items v.at off)

    by : (b : Bool) → is_le (bytes_cmp (start_of place) e.0.items) ≡ b → hits_past place t rs (rows_from (start_of place) es) ≡ hits_past place t rs es → hits_past place t rs (cond b (e ∷ rows_from (start_of place) es) (rows_from (start_of place) es)) ≡ seen_past place e.0.items (row_shown (first_upto t e.1) (newest_cover e.0.items t rs)) ++ hits_past place t rs es
    by true m more = ap (λ (xs : List Entry). seen_past place e.0.items (row_shown (first_upto t e.1) (newest_cover e.0.items t rs)) ++ xs) more
    by false m more = more ∙ ap (λ (xs : List Entry). xs ++ hits_past place t rs es) (sym (none m (row_shown (first_upto t e.1) (newest_cover e.0.items t rs))))

pub scan-after-found : (tables : List (ℕ × TableVersions)) (id : ℕ) (t : TableVersions) (at : Time) (place : Option (Bytes × Time)) (n : ℕ) (seen left : List Entry) → table_in tables id ≡ Some t → KeysAscend t.rows.entries → left ≡ take n seen → take n seen ≡ take n (hits_past place at t.ranges (rows_from (start_of place) t.rows.entries)) → (h : Tables) → KeepsAll tables h → time_le (h.threshold id) at ≡ true → left ≡ scan_after_at h id at place n
scan-after-found tables id t at place n seen left e up taken found h all le = taken ∙ (found ∙ (ap (take n) (past-start place at t.ranges t.rows.entries ∙ (past-filter place at t.ranges t.rows.entries ∙ ap (filter (λ d. is_past place (fact_of d))) (scan-found tables id at t h e up all le))) ∙ cut place n (image bytes_cmp at (h.facts id))))

none-taken : {X Y : Type 0} (f : X → Y) (n : ℕ) → map f (take n []) ≡ []
none-taken f zero = refl
none-taken f (suc n) = refl

none-cut : (place : Option (Bytes × Time)) (n : ℕ) (fs : List ByteFact) → [] ≡ entries_of fs → [] ≡ entries_of (take n (filter (is_past place) fs))
none-cut place n fs e = sym (sym (cut place n fs) ∙ (ap (λ (xs : List Entry). take n (filter (λ d. is_past place (fact_of d)) xs)) (sym e) ∙ take-none n [] refl))

pub scan-after-none : (tables : List (ℕ × TableVersions)) (id : ℕ) (at : Time) (place : Option (Bytes × Time)) (n : ℕ) (h : Tables) → table_in tables id ≡ None → KeepsAll tables h → time_le (h.threshold id) at ≡ true → [] ≡ scan_after_at h id at place n
scan-after-none tables id at place n h e all le = none-cut place n (image bytes_cmp at (h.facts id)) (scan-none tables id at h e all le)

-- ---- before all dates

nothing-yet : (key : Bytes) (fs : List ByteFact) → ((f : ByteFact) → Has f fs → time_lt zero_time (date f) ≡ true) → newest bytes_cmp key zero_time fs ≡ None
unfolding newest
nothing-yet key [] begun = refl
nothing-yet key (f ∷ fs) begun = by (touches bytes_cmp key f) (time_le (date f) zero_time) (lt-not_le zero_time (date f) (begun f (inl refl))) (nothing-yet key fs (λ g has. begun g (inr has)))
  where
    by : (a b : Bool) → b ≡ false → newest bytes_cmp key zero_time fs ≡ None → cond (a && b) (later f (newest bytes_cmp key zero_time fs)) (newest bytes_cmp key zero_time fs) ≡ None
    by true false off more = more
    by false false off more = more
    by a true off more = absurd (true≢false off)

none-visible : (fs : List ByteFact) → ((f : ByteFact) → Has f fs → time_lt zero_time (date f) ≡ true) → image bytes_cmp zero_time fs ≡ []
unfolding image scan items keys_put ordered value newest
none-visible fs begun = ap (map put_of) (scanned.scan-by_value bytes_cmp bytes_order zero_time zero_time fs [] (λ key. ap version_of (nothing-yet key fs begun)))

-- no put is visible at the clock's first time
pub scan-after-begun : (tables : List (ℕ × TableVersions)) (id : ℕ) (place : Option (Bytes × Time)) (n : ℕ) (h : Tables) → KeepsAll tables h → [] ≡ scan_after_at h id zero_time place n
scan-after-begun tables id place n h all = none-cut place n (image bytes_cmp zero_time (h.facts id)) (ap entries_of (sym (none-visible (h.facts id) (all.table id).begun)))

-- ---- the newest of each key

module _ (from : Time) (upto : Upto) where
  abbrev in-interval : ByteFact → Bool
  in-interval f = is_between from upto (date f)

  -- the others of a key, and those of other keys, behind one of the key
  behind : (k : Bytes) (w : ByteFact) (vs : List Version) (gs : List ByteFact) → key_of w ≡ k → ((g : ByteFact) → Has g gs → is_eq (bytes_cmp k (key_of g)) ≡ false) → firsts same_key (Some w) (filter in-interval (row_facts k vs) ++ gs) ≡ firsts same_key None gs
  behind k w [] [] own other = refl
  behind k w [] (g ∷ gs) own other = ap (λ (b : Bool). cond b (firsts same_key (Some w) gs) (g ∷ firsts same_key (Some g) gs)) (ap (λ (q : Bytes). is_eq (bytes_cmp q (key_of g))) own ∙ other g (inl refl))
  behind k w (v ∷ vs) gs own other = by (in-interval (version_fact k v)) (behind k w vs gs own other)
    where
      f : ByteFact
      f = version_fact k v

      left : List ByteFact
      left = filter in-interval (row_facts k vs) ++ gs

      same : same_key w f ≡ true
      same = ap₂ (λ (p q : Bytes). is_eq (bytes_cmp p q)) own (held-key k v.at v.value) ∙ ap is_eq (tied_itself bytes_order.total k)

      by : (b : Bool) → firsts same_key (Some w) left ≡ firsts same_key None gs → firsts same_key (Some w) (cond b (f ∷ filter in-interval (row_facts k vs)) (filter in-interval (row_facts k vs)) ++ gs) ≡ firsts same_key None gs
      by true more = ap (λ (b : Bool). cond b (firsts same_key (Some w) left) (f ∷ firsts same_key (Some f) left)) same ∙ more
      by false more = more

  first-row : (k : Bytes) (vs : List Version) (gs : List ByteFact) → ((g : ByteFact) → Has g gs → is_eq (bytes_cmp k (key_of g)) ≡ false) → firsts same_key None (filter in-interval (row_facts k vs) ++ gs) ≡ row_facts k (option_to_list (first_between from upto vs)) ++ firsts same_key None gs
  unfolding first_between
  first-row k [] gs other = refl
  first-row k (v ∷ vs) gs other = ap (λ (b : Bool). firsts same_key None (cond b (version_fact k v ∷ filter in-interval (row_facts k vs)) (filter in-interval (row_facts k vs)) ++ gs)) (ap (is_between from upto) (held-date k v.at v.value)) ∙ by (is_between from upto v.at) (first-row k vs gs other)
    where
      by : (b : Bool) → firsts same_key None (filter in-interval (row_facts k vs) ++ gs) ≡ row_facts k (option_to_list (first_between from upto vs)) ++ firsts same_key None gs → firsts same_key None (cond b (version_fact k v ∷ filter in-interval (row_facts k vs)) (filter in-interval (row_facts k vs)) ++ gs) ≡ row_facts k (option_to_list (cond b (Some v) (first_between from upto vs))) ++ firsts same_key None gs
      by true more = ap (λ (xs : List ByteFact). version_fact k v ∷ xs) (behind k (version_fact k v) vs gs (held-key k v.at v.value) other)
      by false more = more

  first-rows : (es : List (Vec ℕ × List Version)) → KeysAscend es → firsts same_key None (filter in-interval (map_facts es)) ≡ map_facts (newest_rows from upto es)
  unfolding map_facts IsStrictlySortedBy
  first-rows [] up = refl
  first-rows (e ∷ es) up = ap (firsts same_key None) (filter-append in-interval (row_facts e.0.items e.1) (map_facts es)) ∙ (first-row e.0.items e.1 (filter in-interval (map_facts es)) other ∙ ap (λ (xs : List ByteFact). row_facts e.0.items (option_to_list (first_between from upto e.1)) ++ xs) (first-rows es up.1))
    where
      other : (g : ByteFact) → Has g (filter in-interval (map_facts es)) → is_eq (bytes_cmp e.0.items (key_of g)) ≡ false
      other g h =
          let m = map-has g es (members.filter-has in-interval g (map_facts es) h) in
          ap (λ (q : Bytes). is_eq (bytes_cmp e.0.items q)) (ap key_of m.4 ∙ held-key m.0.0.items m.2.at m.2.value) ∙ ap is_eq (keys-above e.0 es up.0 m.0 m.1)

  newest-rows : (es : List (Vec ℕ × List Version)) → KeysAscend es → AllNewestFirst es → map_facts (newest_rows from upto es) ≡ newest_points (filter in-interval (map_facts es))
  unfolding newest_points
  newest-rows es up first = sym (first-rows es up) ∙ firsts-newest [] (filter in-interval (map_facts es)) None tt (λ f b. refl) (IsStrictlySortedBy-filter (point_cmp bytes_cmp) in-interval (map_facts es) (rows-sorted es up first)) (λ f g h i. absurd h)

  newest-start : (place : Option (Bytes × Time)) (es : List (Vec ℕ × List Version)) → events_in (is_after place) (newest_rows from upto (rows_from (start_of place) es)) ≡ entries_of (filter (is_past place) (map_facts (newest_rows from upto es)))
  newest-start place es = ap (events_in (is_after place)) (sym (filter-map (λ (d : Vec ℕ × List Version). is_le (bytes_cmp (start_of place) d.0.items)) (λ (d : Vec ℕ × List Version). let r : Vec ℕ × List Version = (d.0, option_to_list (first_between from upto d.1)) in r) es)) ∙ (from-start (is_after place) place (none-before place) (newest_rows from upto es) ∙ (events-filter (is_after place) (newest_rows from upto es) ∙ ap entries_of (filter-same (λ f. is_after place (key_of f) (date f)) (is_past place) (map_facts (newest_rows from upto es)) (past-is place))))

pub newest-events-found : (tables : List (ℕ × TableVersions)) (id : ℕ) (t : TableVersions) (from : Time) (upto : Upto) (place : Option (Bytes × Time)) (n : ℕ) (seen left : List Entry) → table_in tables id ≡ Some t → KeysAscend t.rows.entries → left ≡ take n seen → take n seen ≡ take n (events_in (is_after place) (newest_rows from upto (rows_from (start_of place) t.rows.entries))) → (h : Tables) → KeepsAll tables h → time_le (h.threshold id) from ≡ true → left ≡ newest_events_at h id from upto place n
newest-events-found tables id t from upto place n seen left e up taken found h all le =
    let k = own-table tables h id t e all in
    taken ∙ (found ∙ (ap (take n) (newest-start from upto place t.rows.entries ∙ ap (λ (fs : List ByteFact). entries_of (filter (is_past place) fs)) (newest-rows from upto t.rows.entries up k.first ∙ ap newest_points (points-are t (h.threshold id) from upto (h.facts id) k le up))) ∙ take-map _ n (filter (is_past place) (newest_points (points bytes_cmp (is_between from upto) (h.facts id))))))

pub newest-events-none : (tables : List (ℕ × TableVersions)) (id : ℕ) (from : Time) (upto : Upto) (place : Option (Bytes × Time)) (n : ℕ) (h : Tables) → table_in tables id ≡ None → KeepsAll tables h → time_le (h.threshold id) from ≡ true → [] ≡ newest_events_at h id from upto place n
unfolding points ordered newest_points
newest-events-none tables id from upto place n h e all le = sym (ap (λ (fs : List ByteFact). entries_of (take n (filter (is_past place) (newest_points (ordered (point_cmp bytes_cmp) fs))))) (none-later (h.threshold id) from upto (h.facts id) is_point (none-table tables id h e all) le) ∙ none-taken _ n)
