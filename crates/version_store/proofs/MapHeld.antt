-- What a map of versions keeps after a change, and what it shows.
use Rattle.std.proofs.Common.{◌≡◌, ◌≢◌, ◌∙◌, ℕ, ◌==◌, Bool, true, false, cond, ◌&&◌, sym, refl, ap, ap₂, subst, List, [], ◌∷◌, ◌++◌, map, filter, Option, Some, None, option_map, inl, inr, ◌⊎◌, true≢false, Ordering, is_eq, nat_cmp, arith, Result, Ok, Err, IfOk}
use Rattle.std.specs.Global.{Vec}
use Rattle.std.specs.BTreeMap.{is_at, insert_entry}
use Rattle.std.specs.Map.{set_value}
use Rattle.std.specs.Option.{is_some}
use Rattle.std.specs.Ordering.{match_ordering}
use Rattle.std.proofs.lemmas.Bool.Decides.{nat_tests}
use Rattle.mvcc_keys.specs.declared.entries.Entry.{Entry}
use Rattle.mvcc_keys.specs.Times.{Time, zero_time, time_le, time_lt}
use Rattle.range_tombstones.specs.declared.deletion.RangeDeletion.{RangeDeletion}
use Rattle.range_tombstones.specs.Ranges.{bytes_lt, is_dated, newest_cover, range, with_range}
use Rattle.fact_model.specs.Facts.{Fact, IsApart, date, newest, touches, value}
use Rattle.list_laws.specs.Members.{AllIn, Has}
use Rattle.fact_model.specs.Facts as facts
use Rattle.fact_model.specs.Listed.{is_point, key_of}
use Rattle.fact_model.specs.Listings.{RangesDiffer}
use Rattle.fact_model.specs.Scans.{image, items, kept, keys_put, scan, put_of}
use Rattle.fact_model.specs.Ordered.{ordered}
use Rattle.list_laws.proofs.Members as members
use Rattle.fact_model.proofs.Stores as stores
use Rattle.fact_model.proofs.Growth as growth
use Rattle.fact_model.proofs.Scanned as scanned
use Rattle.mvcc_keys.proofs.TimeOrder as times
use Rattle.version_store.specs.Tables.{Bytes, ByteFact, bytes_cmp, entries_of, table_of, Tables, no_facts, with_fact, MayAdd, value_at, scan_at}
use Rattle.version_store.specs.Rows.{map_facts, range_fact, range_facts, version_fact, AllNewestFirst, KeysAscend, first_upto, hits, row_at, row_shown, IsRowAdded}
use Rattle.version_store.specs.MapHolding.{held_facts, KeepsTable, table_in, KeepsAll, IsMade}
use Rattle.version_store.specs.declared.row.Version.{Version}
use Rattle.version_store.specs.declared.table_versions.TableVersions.{TableVersions}
use Rattle.version_store.proofs.Bytes.{bytes_order, id-itself, id-same}
use Rattle.version_store.proofs.Held.{apart-push, own-key}
use Rattle.version_store.proofs.RowPuts.{held-key, own-touches, inserted-has, has-inserted}
use Rattle.version_store.proofs.RowScans.{value-is, hits-scan}

-- ---- what is kept is among the facts

pub kept-in : (g : Time) (fs : List ByteFact) → AllIn (kept bytes_cmp g fs) fs
unfolding kept
kept-in g fs f h = elim (members.has-append_cases f (image bytes_cmp g fs) (filter (λ x. time_lt g (date x)) fs) h) [ inl i ↦ stores.image-in bytes_cmp bytes_order g fs f i | inr i ↦ members.filter-has (λ x. time_lt g (date x)) f fs i ]

module _ (o : Option TableVersions) (threshold : Time) (facts : List ByteFact) (k : KeepsTable o threshold facts) where
  pub kept-apart : IsApart bytes_cmp (kept bytes_cmp threshold facts)
  kept-apart = stores.apart-part bytes_cmp facts (kept bytes_cmp threshold facts) k.apart (kept-in threshold facts)

  pub held-in : AllIn (held_facts o) facts
  held-in f h = kept-in threshold facts f (k.only f h)

  pub held-apart : IsApart bytes_cmp (held_facts o)
  held-apart = stores.apart-part bytes_cmp facts (held_facts o) k.apart held-in

  pub held-value : (key : Bytes) (t : Time) → time_le threshold t ≡ true → value bytes_cmp key t (held_facts o) ≡ value bytes_cmp key t facts
  held-value key t le = stores.value-same_facts bytes_cmp key t (kept bytes_cmp threshold facts) (held_facts o) kept-apart k.only k.found ∙ stores.kept-value bytes_cmp bytes_order key threshold t facts k.apart le

  pub held-image : (t : Time) → time_le threshold t ≡ true → image bytes_cmp t (held_facts o) ≡ image bytes_cmp t facts
  unfolding image
  held-image t le = ap (map put_of) (scanned.scan-by_value bytes_cmp bytes_order t t (held_facts o) facts (λ key. held-value key t le))

-- ---- a fact more in a table

-- what is held after one fact more
keeps-push : (t u : TableVersions) (threshold : Time) (facts : List ByteFact) (f : ByteFact) → KeepsTable (Some t) threshold facts → time_lt threshold (date f) ≡ true → IsApart bytes_cmp (facts ++ f ∷ []) → RangesDiffer (facts ++ f ∷ []) → u.threshold ≡ t.threshold → AllNewestFirst u.rows.entries → ((g : ByteFact) → Has g (held_facts (Some u)) → (g ≡ f) ⊎ Has g (held_facts (Some t))) → ((g : ByteFact) → (g ≡ f) ⊎ Has g (held_facts (Some t)) → Has g (held_facts (Some u))) → KeepsTable (Some u) threshold (facts ++ f ∷ [])
keeps-push t u threshold facts f k late apart differ same first only found = record {
  apart = apart;
  differ = differ;
  begun = λ g h. elim (members.has-append_cases g facts (f ∷ []) h) [ inl old ↦ k.begun g old | inr new ↦ newest-begun g new ];
  from = same ∙ k.from;
  first = first;
  only = λ g h. subst (Has g) (sym push) (elim (only g h) [ inl e ↦ members.has-append_right g (kept bytes_cmp threshold facts) (f ∷ []) (inl e) | inr i ↦ members.has-append_left g (kept bytes_cmp threshold facts) (f ∷ []) (k.only g i) ]);
  found = λ g h. found g (elim (members.has-append_cases g (kept bytes_cmp threshold facts) (f ∷ []) (subst (Has g) push h)) [ inl i ↦ inr (k.found g i) | inr e ↦ one g e ]);
}
  where
    push : kept bytes_cmp threshold (facts ++ f ∷ []) ≡ kept bytes_cmp threshold facts ++ f ∷ []
    push = growth.kept-push bytes_cmp bytes_order threshold facts f late

    newest-begun : (g : ByteFact) → Has g (f ∷ []) → time_lt zero_time (date g) ≡ true
    newest-begun g (inl e) = subst (λ (x : ByteFact). time_lt zero_time (date x) ≡ true) (sym e) (times.le-lt-lt zero_time threshold (date f) (times.zero-le threshold) late)
    newest-begun g (inr none) = absurd none

    one : (g : ByteFact) → Has g (f ∷ []) → (g ≡ f) ⊎ Has g (held_facts (Some t))
    one g (inl e) = inl e
    one g (inr h) = absurd h

differ-push : (facts : List ByteFact) (f : ByteFact) → RangesDiffer facts → ((g : ByteFact) → Has g facts → is_point g ≡ false → is_point f ≡ false → date g ≢ date f) → RangesDiffer (facts ++ f ∷ [])
differ-push facts f d fresh = record { differ = λ g h i j p q e. by g h p q e (members.has-append_cases g facts (f ∷ []) i) (members.has-append_cases h facts (f ∷ []) j) }
  where
    own : (x : ByteFact) → x ≡ f → is_point x ≡ false → is_point f ≡ false
    own x e p = sym (ap is_point e) ∙ p

    by : (g h : ByteFact) → is_point g ≡ false → is_point h ≡ false → date g ≡ date h → Has g facts ⊎ Has g (f ∷ []) → Has h facts ⊎ Has h (f ∷ []) → g ≡ h
    by g h p q e (inl i) (inl j) = d.differ g h i j p q e
    by g h p q e (inl i) (inr (inl y)) = absurd (fresh g i p (own h y q) (e ∙ ap date y))
    by g h p q e (inl i) (inr (inr y)) = absurd y
    by g h p q e (inr (inl x)) (inl j) = absurd (fresh h j q (own g x p) (sym e ∙ ap date x))
    by g h p q e (inr (inl x)) (inr (inl y)) = x ∙ sym y
    by g h p q e (inr (inl x)) (inr (inr y)) = absurd y
    by g h p q e (inr (inr x)) j = absurd x

-- a version
keeps-version : (t u : TableVersions) (h : Tables) (id : ℕ) (key : Bytes) (v : Version) → KeepsTable (Some t) (h.threshold id) (h.facts id) → MayAdd h id (version_fact key v) → IsRowAdded (version_fact key v) t.rows.entries u.rows.entries → u.ranges ≡ t.ranges → u.threshold ≡ t.threshold → KeepsTable (Some u) (h.threshold id) (h.facts id ++ version_fact key v ∷ [])
keeps-version t u h id key v k may added ranges same = keeps-push t u (h.threshold id) (h.facts id) (version_fact key v) k may.late (apart-push (h.facts id) (version_fact key v) k.apart may.fresh) (differ-push (h.facts id) (version_fact key v) k.differ may.other_range) same (added.first k.first fresh) only found
  where
    fresh : (g : ByteFact) → Has g (map_facts t.rows.entries) → touches bytes_cmp (key_of (version_fact key v)) g ≡ true → date g ≡ date (version_fact key v) → ⊥
    fresh g i p e = may.fresh (key_of (version_fact key v)) g (held-in (Some t) (h.threshold id) (h.facts id) k g (members.has-append_left g (map_facts t.rows.entries) (range_facts t.ranges) i)) p (ap (λ (q : Bytes). touches bytes_cmp q (version_fact key v)) (held-key key v.at v.value) ∙ own-touches key v) e

    only : (g : ByteFact) → Has g (held_facts (Some u)) → (g ≡ version_fact key v) ⊎ Has g (held_facts (Some t))
    only g i = elim (members.has-append_cases g (map_facts u.rows.entries) (range_facts u.ranges) i) [ inl a ↦ elim (inserted-has (version_fact key v) (map_facts t.rows.entries) (map_facts u.rows.entries) added.put g a) [ inl e ↦ inl e | inr b ↦ inr (members.has-append_left g (map_facts t.rows.entries) (range_facts t.ranges) b) ] | inr b ↦ inr (members.has-append_right g (map_facts t.rows.entries) (range_facts t.ranges) (subst (λ (rs : List RangeDeletion). Has g (range_facts rs)) ranges b)) ]

    found : (g : ByteFact) → (g ≡ version_fact key v) ⊎ Has g (held_facts (Some t)) → Has g (held_facts (Some u))
    found g (inl e) = members.has-append_left g (map_facts u.rows.entries) (range_facts u.ranges) (has-inserted (version_fact key v) (map_facts t.rows.entries) (map_facts u.rows.entries) added.put g (inl e))
    found g (inr i) = elim (members.has-append_cases g (map_facts t.rows.entries) (range_facts t.ranges) i) [ inl a ↦ members.has-append_left g (map_facts u.rows.entries) (range_facts u.ranges) (has-inserted (version_fact key v) (map_facts t.rows.entries) (map_facts u.rows.entries) added.put g (inr a)) | inr b ↦ members.has-append_right g (map_facts u.rows.entries) (range_facts u.ranges) (subst (λ (rs : List RangeDeletion). Has g (range_facts rs)) (sym ranges) b) ]

-- a range deletion
with-has : (r s : RangeDeletion) (rs : List RangeDeletion) → Has s (with_range r rs) → (s ≡ r) ⊎ Has s rs
unfolding with_range
with-has r s rs h = elim (members.has-append_cases s (filter (λ x. time_lt x.at r.at) rs) (r ∷ filter (λ x. time_lt r.at x.at) rs) h) [ inl i ↦ inr (members.filter-has (λ x. time_lt x.at r.at) s rs i) | inr i ↦ elim i [ inl e ↦ inl e | inr j ↦ inr (members.filter-has (λ x. time_lt r.at x.at) s rs j) ] ]

has-with : (r s : RangeDeletion) (rs : List RangeDeletion) → (s.at ≢ r.at) → Has s rs → Has s (with_range r rs)
unfolding with_range
has-with r s rs other h = by (time_le r.at s.at) refl
  where
    by : (b : Bool) → time_le r.at s.at ≡ b → Has s (filter (λ x. time_lt x.at r.at) rs ++ r ∷ filter (λ x. time_lt r.at x.at) rs)
    by false e = members.has-append_left s (filter (λ x. time_lt x.at r.at) rs) (r ∷ filter (λ x. time_lt r.at x.at) rs) (members.has-filter (λ x. time_lt x.at r.at) s rs h (times.not_le-lt s.at r.at e))
    by true e = members.has-append_right s (filter (λ x. time_lt x.at r.at) rs) (r ∷ filter (λ x. time_lt r.at x.at) rs) (inr (members.has-filter (λ x. time_lt r.at x.at) s rs h (above (time_lt r.at s.at) refl)))
      where
        above : (c : Bool) → time_lt r.at s.at ≡ c → c ≡ true
        above true f = refl
        above false f = absurd (other (times.le-antisymm s.at r.at (times.not_lt-le r.at s.at f) e))

own-with : (r : RangeDeletion) (rs : List RangeDeletion) → Has r (with_range r rs)
unfolding with_range
own-with r rs = members.has-append_right r (filter (λ s. time_lt s.at r.at) rs) (r ∷ filter (λ s. time_lt r.at s.at) rs) (inl refl)

keeps-range : (t u : TableVersions) (h : Tables) (id : ℕ) (lo hi : Bytes) (at : Time) → KeepsTable (Some t) (h.threshold id) (h.facts id) → MayAdd h id (Fact.DelRange lo hi at) → u.ranges ≡ with_range (range lo hi at) t.ranges → u.rows.entries ≡ t.rows.entries → u.threshold ≡ t.threshold → KeepsTable (Some u) (h.threshold id) (h.facts id ++ Fact.DelRange lo hi at ∷ [])
keeps-range t u h id lo hi at k may ranges rows same = keeps-push t u (h.threshold id) (h.facts id) (Fact.DelRange lo hi at) k may.late (apart-push (h.facts id) (Fact.DelRange lo hi at) k.apart may.fresh) (differ-push (h.facts id) (Fact.DelRange lo hi at) k.differ may.other_range) same (subst AllNewestFirst (sym rows) k.first) only found
  where
    r : RangeDeletion
    r = range lo hi at

    only : (g : ByteFact) → Has g (held_facts (Some u)) → (g ≡ Fact.DelRange lo hi at) ⊎ Has g (held_facts (Some t))
    only g i = elim (members.has-append_cases g (map_facts u.rows.entries) (range_facts u.ranges) i) [ inl a ↦ inr (members.has-append_left g (map_facts t.rows.entries) (range_facts t.ranges) (subst (λ es. Has g (map_facts es)) rows a)) | inr b ↦ (let m = members.map-has range_fact g u.ranges b in elim (with-has r m.0 t.ranges (subst (Has m.0) ranges m.1)) [ inl e ↦ inl (m.2 ∙ ap range_fact e) | inr j ↦ inr (members.has-append_right g (map_facts t.rows.entries) (range_facts t.ranges) (subst (λ (x : ByteFact). Has x (range_facts t.ranges)) (sym m.2) (members.has-map range_fact m.0 t.ranges j))) ]) ]

    other : (s : RangeDeletion) → Has s t.ranges → s.at ≢ at
    other s j = may.other_range (range_fact s) (held-in (Some t) (h.threshold id) (h.facts id) k (range_fact s) (members.has-append_right (range_fact s) (map_facts t.rows.entries) (range_facts t.ranges) (members.has-map range_fact s t.ranges j))) refl refl

    found : (g : ByteFact) → (g ≡ Fact.DelRange lo hi at) ⊎ Has g (held_facts (Some t)) → Has g (held_facts (Some u))
    found g (inl e) = members.has-append_right g (map_facts u.rows.entries) (range_facts u.ranges) (subst (λ (x : ByteFact). Has x (range_facts u.ranges)) (sym e) (members.has-map range_fact r u.ranges (subst (Has r) (sym ranges) (own-with r t.ranges))))
    found g (inr i) = elim (members.has-append_cases g (map_facts t.rows.entries) (range_facts t.ranges) i) [ inl a ↦ members.has-append_left g (map_facts u.rows.entries) (range_facts u.ranges) (subst (λ es. Has g (map_facts es)) (sym rows) a) | inr b ↦ (let m = members.map-has range_fact g t.ranges b in members.has-append_right g (map_facts u.rows.entries) (range_facts u.ranges) (subst (λ (x : ByteFact). Has x (range_facts u.ranges)) (sym m.2) (members.has-map range_fact m.0 u.ranges (subst (Has m.0) (sym ranges) (has-with r m.0 t.ranges (other m.0 m.1) m.1))))) ]

-- the date of a range deletion that may be added is new
new-date : (t : TableVersions) (h : Tables) (id : ℕ) (lo hi : Bytes) (at : Time) → KeepsTable (Some t) (h.threshold id) (h.facts id) → MayAdd h id (Fact.DelRange lo hi at) → is_dated at t.ranges ≡ false
new-date t h id lo hi at k may = none t.ranges (λ s j. may.other_range (range_fact s) (held-in (Some t) (h.threshold id) (h.facts id) k (range_fact s) (members.has-append_right (range_fact s) (map_facts t.rows.entries) (range_facts t.ranges) (members.has-map range_fact s t.ranges j))) refl refl)
  where
    none : (rs : List RangeDeletion) → ((s : RangeDeletion) → Has s rs → s.at ≢ at) → is_dated at rs ≡ false
    none [] f = refl
    none (s ∷ rs) f = rw (differs at s.at (f s (inl refl))) (none rs (λ x h. f x (inr h)))
      where
        differs : (a b : Time) → b ≢ a → (a.wall == b.wall && a.logical == b.logical) ≡ false
        differs a b ne = by (a.wall == b.wall && a.logical == b.logical) refl
          where
            by : (c : Bool) → (a.wall == b.wall && a.logical == b.logical) ≡ c → c ≡ false
            by false e = refl
            by true e = absurd (ne (sym (times.eq-is a b e)))

-- ---- tables by id

id-at : (i id : ℕ) → is_eq (nat_cmp i id) ≡ (i == id)
id-at i id = grind (arith, nat_tests)

pub in-set : (id i : ℕ) (tables : List (ℕ × TableVersions)) (t u : TableVersions) → table_in tables id ≡ Some t → table_in (set_value (is_at (nat_cmp id)) tables u) i ≡ cond (i == id) (Some u) (table_in tables i)
in-set id i [] t u e = absurd (cc)
in-set id i (d ∷ ds) t u e = by (is_eq (nat_cmp id d.0)) refl e (in-set id i ds t u)
  where
    own : (b : Bool) → cond b (Some u) (table_in ds i) ≡ cond b (Some u) (cond b (Some d.1) (table_in ds i))
    own true = refl
    own false = refl

    other : (b : Bool) → (i == id) ≡ b → is_eq (nat_cmp id d.0) ≡ false → cond (is_eq (nat_cmp i d.0)) (Some d.1) (cond b (Some u) (table_in ds i)) ≡ cond b (Some u) (cond (is_eq (nat_cmp i d.0)) (Some d.1) (table_in ds i))
    other true m a = ap (λ (c : Bool). cond c (Some d.1) (Some u)) (ap (λ n. is_eq (nat_cmp n d.0)) (id-same i id m) ∙ a)
    other false m a = refl

    by : (b : Bool) → is_eq (nat_cmp id d.0) ≡ b → cond b (Some d.1) (table_in ds id) ≡ Some t → (table_in ds id ≡ Some t → table_in (set_value (is_at (nat_cmp id)) ds u) i ≡ cond (i == id) (Some u) (table_in ds i)) → table_in (cond b ((d.0, u) ∷ ds) (d ∷ set_value (is_at (nat_cmp id)) ds u)) i ≡ cond (i == id) (Some u) (cond (is_eq (nat_cmp i d.0)) (Some d.1) (table_in ds i))
    by true a f more =
        let same : d.0 ≡ id = sym (id-same id d.0 (sym (id-at id d.0) ∙ a)) in
        let at : is_eq (nat_cmp i d.0) ≡ (i == id) = ap (λ n. is_eq (nat_cmp i n)) same ∙ id-at i id in
        ap (λ (c : Bool). cond c (Some u) (table_in ds i)) at ∙ (own (i == id) ∙ ap (λ (c : Bool). cond (i == id) (Some u) (cond c (Some d.1) (table_in ds i))) (sym at))
    by false a f more = ap (λ o. cond (is_eq (nat_cmp i d.0)) (Some d.1) o) (more f) ∙ other (i == id) refl a

in-insert : (id i : ℕ) (tables : List (ℕ × TableVersions)) (u : TableVersions) → table_in tables id ≡ None → table_in (insert_entry nat_cmp tables id u) i ≡ cond (i == id) (Some u) (table_in tables i)
in-insert id i [] u e = ap (λ (c : Bool). cond c (Some u) None) (id-at i id)
in-insert id i (d ∷ ds) u e = by (nat_cmp id d.0) refl e (in-insert id i ds u)
  where
    other : (b : Bool) → (i == id) ≡ b → is_eq (nat_cmp id d.0) ≡ false → cond (is_eq (nat_cmp i d.0)) (Some d.1) (cond b (Some u) (table_in ds i)) ≡ cond b (Some u) (cond (is_eq (nat_cmp i d.0)) (Some d.1) (table_in ds i))
    other true m a = ap (λ (c : Bool). cond c (Some d.1) (Some u)) (ap (λ n. is_eq (nat_cmp n d.0)) (id-same i id m) ∙ a)
    other false m a = refl

    by : (o : Ordering) → nat_cmp id d.0 ≡ o → cond (is_eq o) (Some d.1) (table_in ds id) ≡ None → (table_in ds id ≡ None → table_in (insert_entry nat_cmp ds id u) i ≡ cond (i == id) (Some u) (table_in ds i)) → table_in (match_ordering o ((id, u) ∷ d ∷ ds) ((d.0, u) ∷ ds) (d ∷ insert_entry nat_cmp ds id u)) i ≡ cond (i == id) (Some u) (cond (is_eq (nat_cmp i d.0)) (Some d.1) (table_in ds i))
    by Ordering.Less a f more = ap (λ (c : Bool). cond c (Some u) (cond (is_eq (nat_cmp i d.0)) (Some d.1) (table_in ds i))) (id-at i id)
    by Ordering.Equal a f more = absurd (cc)
    by Ordering.Greater a f more = ap (λ o. cond (is_eq (nat_cmp i d.0)) (Some d.1) o) (more f) ∙ other (i == id) refl (ap is_eq a)

-- one table changed
pub keeps-at : (tables new : List (ℕ × TableVersions)) (h g : Tables) (id : ℕ) (u : TableVersions) → ((i : ℕ) → table_in new i ≡ cond (i == id) (Some u) (table_in tables i)) → KeepsTable (Some u) (g.threshold id) (g.facts id) → ((i : ℕ) → (i == id) ≡ false → KeepsTable (table_in tables i) (h.threshold i) (h.facts i) → KeepsTable (table_in tables i) (g.threshold i) (g.facts i)) → KeepsAll tables h → KeepsAll new g
keeps-at tables new h g id u is own other all = record { table = λ i. subst (λ o. KeepsTable o (g.threshold i) (g.facts i)) (sym (is i)) (by i (i == id) refl) }
  where
    by : (i : ℕ) (b : Bool) → (i == id) ≡ b → KeepsTable (cond b (Some u) (table_in tables i)) (g.threshold i) (g.facts i)
    by i true e = subst (λ n. KeepsTable (Some u) (g.threshold n) (g.facts n)) (sym (id-same i id e)) own
    by i false e = other i e (all.table i)

keeps-fact : (tables : List (ℕ × TableVersions)) (h : Tables) (id : ℕ) (f : ByteFact) (t u : TableVersions) → table_in tables id ≡ Some t → KeepsAll tables h → KeepsTable (Some u) (h.threshold id) (h.facts id ++ f ∷ []) → KeepsAll (set_value (is_at (nat_cmp id)) tables u) (with_fact id f h)
keeps-fact tables h id f t u e all own = keeps-at tables (set_value (is_at (nat_cmp id)) tables u) h (with_fact id f h) id u (λ i. in-set id i tables t u e) (subst (λ (b : Bool). KeepsTable (Some u) (h.threshold id) (cond b (h.facts id ++ f ∷ []) (h.facts id))) (sym (id-itself id)) own) (λ i off k. subst (λ (b : Bool). KeepsTable (table_in tables i) (h.threshold i) (cond b (h.facts i ++ f ∷ []) (h.facts i))) (sym off) k) all

pub own-table : (tables : List (ℕ × TableVersions)) (h : Tables) (id : ℕ) (t : TableVersions) → table_in tables id ≡ Some t → KeepsAll tables h → KeepsTable (Some t) (h.threshold id) (h.facts id)
own-table tables h id t e all = subst (λ o. KeepsTable o (h.threshold id) (h.facts id)) e (all.table id)

pub keeps-same : (t u : TableVersions) (threshold : Time) (facts : List ByteFact) → u.rows.entries ≡ t.rows.entries → u.ranges ≡ t.ranges → u.threshold ≡ t.threshold → KeepsTable (Some t) threshold facts → KeepsTable (Some u) threshold facts
keeps-same t u threshold facts rows ranges same k = record {
  apart = k.apart;
  differ = k.differ;
  begun = k.begun;
  from = same ∙ k.from;
  first = subst AllNewestFirst (sym rows) k.first;
  only = subst (λ fs. AllIn fs (kept bytes_cmp threshold facts)) held k.only;
  found = subst (λ fs. AllIn (kept bytes_cmp threshold facts) fs) held k.found;
}
  where
    held : held_facts (Some t) ≡ held_facts (Some u)
    held = sym (ap₂ (λ es rs. map_facts es ++ range_facts rs) rows ranges)

-- ---- the changes of a store

pub version-added : (tables new : List (ℕ × TableVersions)) (own : Option ℕ) (id : ℕ) (key : Bytes) (v : Version) (t u : TableVersions) → own ≡ Some id → table_of key ≡ own → table_in tables id ≡ Some t → new ≡ set_value (is_at (nat_cmp id)) tables u → IsRowAdded (version_fact key v) t.rows.entries u.rows.entries → u.ranges ≡ t.ranges → u.threshold ≡ t.threshold → (h : Tables) (i : ℕ) → KeepsAll tables h → MayAdd h i (version_fact key v) → KeepsAll new (with_fact i (version_fact key v) h)
version-added tables new own id key v t u is table e made added ranges same h i all may =
    let one : i ≡ id = (let a = own-key i (version_fact key v) may.table in let b : Some i ≡ Some id = sym a ∙ (ap table_of (held-key key v.at v.value) ∙ (table ∙ is)) in cc) in
    subst (λ n. KeepsAll new (with_fact n (version_fact key v) h)) (sym one) (subst (λ ts. KeepsAll ts (with_fact id (version_fact key v) h)) (sym made) (keeps-fact tables h id (version_fact key v) t u e all (keeps-version t u h id key v (own-table tables h id t e all) (subst (λ n. MayAdd h n (version_fact key v)) one may) added ranges same)))

pub range-added : (tables new : List (ℕ × TableVersions)) (own : Option ℕ) (id : ℕ) (lo hi : Bytes) (at : Time) (t u : TableVersions) → own ≡ Some id → table_of lo ≡ own → table_in tables id ≡ Some t → new ≡ set_value (is_at (nat_cmp id)) tables u → (bytes_lt lo hi ≡ true → is_dated at t.ranges ≡ false → u.ranges ≡ with_range (range lo hi at) t.ranges) → u.rows.entries ≡ t.rows.entries → u.threshold ≡ t.threshold → (h : Tables) (i : ℕ) → KeepsAll tables h → MayAdd h i (Fact.DelRange lo hi at) → KeepsAll new (with_fact i (Fact.DelRange lo hi at) h)
range-added tables new own id lo hi at t u is table e made ranges rows same h i all may =
    let one : i ≡ id = (let b : Some i ≡ Some id = sym may.table.0 ∙ (table ∙ is) in cc) in
    let m = subst (λ n. MayAdd h n (Fact.DelRange lo hi at)) one may in
    let k = own-table tables h id t e all in
    subst (λ n. KeepsAll new (with_fact n (Fact.DelRange lo hi at) h)) (sym one) (subst (λ ts. KeepsAll ts (with_fact id (Fact.DelRange lo hi at) h)) (sym made) (keeps-fact tables h id (Fact.DelRange lo hi at) t u e all (keeps-range t u h id lo hi at k m (ranges m.table.2 (new-date t h id lo hi at k m)) rows same)))

pub stays-kept : (tables new : List (ℕ × TableVersions)) (id : ℕ) (t u : TableVersions) → table_in tables id ≡ Some t → new ≡ set_value (is_at (nat_cmp id)) tables u → u.rows.entries ≡ t.rows.entries → u.ranges ≡ t.ranges → u.threshold ≡ t.threshold → (h : Tables) → KeepsAll tables h → KeepsAll new h
stays-kept tables new id t u e made rows ranges same h all = subst (λ ts. KeepsAll ts h) (sym made) (keeps-at tables (set_value (is_at (nat_cmp id)) tables u) h h id u (λ i. in-set id i tables t u e) (keeps-same t u (h.threshold id) (h.facts id) rows ranges same (own-table tables h id t e all)) (λ i off k. k) all)

-- an empty table more
pub table-made : (tables new : List (ℕ × TableVersions)) (id : ℕ) (u : TableVersions) → table_in tables id ≡ None → new ≡ insert_entry nat_cmp tables id u → u.rows.entries ≡ [] → u.ranges ≡ [] → u.threshold ≡ zero_time → IsMade id tables new
unfolding map_facts
table-made tables new id u none e rows ranges zero = record {
  table = u;
  there = ap (λ ts. table_in ts id) e ∙ (in-insert id id tables u none ∙ ap (λ (b : Bool). cond b (Some u) (table_in tables id)) (id-itself id));
  keeps = λ h all. subst (λ ts. KeepsAll ts h) (sym e) (keeps-at tables (insert_entry nat_cmp tables id u) h h id u (λ i. in-insert id i tables u none) (own h (subst (λ o. KeepsTable o (h.threshold id) (h.facts id)) none (all.table id))) (λ i off k. k) all);
}
  where
    held : held_facts (Some u) ≡ []
    held = ap₂ (λ es rs. map_facts es ++ range_facts rs) rows ranges

    own : (h : Tables) → KeepsTable None (h.threshold id) (h.facts id) → KeepsTable (Some u) (h.threshold id) (h.facts id)
    own h k = record {
      apart = k.apart;
      differ = k.differ;
      begun = k.begun;
      from = zero ∙ k.from;
      first = subst AllNewestFirst (sym rows) tt;
      only = subst (λ fs. AllIn fs (kept bytes_cmp (h.threshold id) (h.facts id))) (sym held) k.only;
      found = subst (λ fs. AllIn (kept bytes_cmp (h.threshold id) (h.facts id)) fs) (sym held) k.found;
    }

pub table-there : (tables : List (ℕ × TableVersions)) (id : ℕ) (t : TableVersions) → table_in tables id ≡ Some t → IsMade id tables tables
table-there tables id t e = record { table = t; there = e; keeps = λ h all. all }

pub keeps-none : (tables : List (ℕ × TableVersions)) → tables ≡ [] → KeepsAll tables no_facts
unfolding kept image scan items keys_put ordered
keeps-none tables e = subst (λ ts. KeepsAll ts no_facts) (sym e) (record {
  table = λ id. record {
    apart = record { apart = λ k f g h i p q e. absurd h };
    differ = record { differ = λ f g h i p q e. absurd h };
    begun = λ f none. absurd none;
    from = refl;
    first = tt;
    only = λ f h. h;
    found = λ f h. h;
  };
})

-- ---- values and scans

pub value-found : (tables : List (ℕ × TableVersions)) (own : Option ℕ) (table : ℕ) (key : Bytes) (at : Time) (t : TableVersions) (r : Option Bytes) → own ≡ Some table → own ≡ table_of key → table_in tables table ≡ Some t → r ≡ option_map (λ (v : facts.Version Bytes). v.value) (row_shown (first_upto at (row_at key t.rows.entries)) (newest_cover key at t.ranges)) → KeysAscend t.rows.entries → (h : Tables) (id : ℕ) → KeepsAll tables h → table_of key ≡ Some id → time_le (h.threshold id) at ≡ true → r ≡ value_at h id key at
value-found tables own table key at t r is owned e found up h id all key_of le =
    let one : table ≡ id = (let b : Some table ≡ Some id = sym is ∙ (owned ∙ key_of) in cc) in
    let k = own-table tables h id t (ap (table_in tables) (sym one) ∙ e) all in
    found ∙ ap (option_map (λ (v : facts.Version Bytes). v.value)) (sym (value-is key at t.rows.entries t.ranges up k.first) ∙ held-value (Some t) (h.threshold id) (h.facts id) k key at le)

pub value-none : (tables : List (ℕ × TableVersions)) (own : Option ℕ) (table : ℕ) (key : Bytes) (at : Time) → own ≡ Some table → own ≡ table_of key → table_in tables table ≡ None → (h : Tables) (id : ℕ) → KeepsAll tables h → table_of key ≡ Some id → time_le (h.threshold id) at ≡ true → None ≡ value_at h id key at
unfolding value newest
value-none tables own table key at is owned e h id all key_of le =
    let one : table ≡ id = (let b : Some table ≡ Some id = sym is ∙ (owned ∙ key_of) in cc) in
    let k = subst (λ o. KeepsTable o (h.threshold id) (h.facts id)) (ap (table_in tables) (sym one) ∙ e) (all.table id) in
    ap (option_map (λ (v : facts.Version Bytes). v.value)) (held-value None (h.threshold id) (h.facts id) k key at le)

pub scan-found : (tables : List (ℕ × TableVersions)) (id : ℕ) (at : Time) (t : TableVersions) (h : Tables) → table_in tables id ≡ Some t → KeysAscend t.rows.entries → KeepsAll tables h → time_le (h.threshold id) at ≡ true → hits at t.ranges t.rows.entries ≡ scan_at h id at
scan-found tables id at t h e up all le = let k = own-table tables h id t e all in hits-scan at t.ranges t.rows.entries up k.first ∙ ap entries_of (held-image (Some t) (h.threshold id) (h.facts id) k at le)

pub scan-none : (tables : List (ℕ × TableVersions)) (id : ℕ) (at : Time) (h : Tables) → table_in tables id ≡ None → KeepsAll tables h → time_le (h.threshold id) at ≡ true → [] ≡ scan_at h id at
unfolding image scan items keys_put ordered
scan-none tables id at h e all le = ap entries_of (held-image None (h.threshold id) (h.facts id) (subst (λ o. KeepsTable o (h.threshold id) (h.facts id)) e (all.table id)) at le)

pub found-scan : {F : Type 0} (r : Result (Vec Entry) F) (tables : List (ℕ × TableVersions)) (id : ℕ) (at : Time) (t : TableVersions) → table_in tables id ≡ Some t → KeysAscend t.rows.entries → IfOk r (λ seen. seen.items ≡ hits at t.ranges t.rows.entries) → IfOk r (λ seen. (h : Tables) → KeepsAll tables h → time_le (h.threshold id) at ≡ true → seen.items ≡ scan_at h id at)
found-scan (Ok seen) tables id at t e up found = λ h all le. found ∙ scan-found tables id at t h e up all le
found-scan (Err x) tables id at t e up found = tt

pub none-there : (o : Option TableVersions) → is_some o ≡ false → o ≡ None
none-there None e = refl
none-there (Some t) e = absurd (true≢false e)
