-- What a collection leaves of a map's table.
use Rattle.std.proofs.Common.{◌≡◌, ◌∙◌, ℕ, Bool, true, false, cond, ◌&&◌, sym, refl, ap, ap₂, subst, List, [], ◌∷◌, ◌++◌, map, Option, Some, None, inl, inr, ◌⊎◌, true≢false, nat_cmp}
use Rattle.std.specs.Global.{Vec}
use Rattle.std.specs.BTreeMap.{is_at}
use Rattle.std.specs.Map.{lookup, set_value}
use Rattle.mvcc_keys.specs.Times.{Time, time_le, time_lt}
use Rattle.range_tombstones.specs.declared.deletion.RangeDeletion.{RangeDeletion}
use Rattle.range_tombstones.specs.Ranges.{newest_cover, ranges_after}
use Rattle.fact_model.specs.Facts.{Fact, IsApart, after, date, value}
use Rattle.list_laws.specs.Members.{AllIn, Has}
use Rattle.fact_model.specs.Facts as facts
use Rattle.fact_model.specs.Scans.{image, kept, put_of}
use Rattle.mvcc_keys.proofs.TimeOrder as times
use Rattle.list_laws.proofs.Members as members
use Rattle.fact_model.proofs.Stores as stores
use Rattle.fact_model.proofs.Growth as growth
use Rattle.fact_model.proofs.Scanned as scanned
use Rattle.version_store.specs.Tables.{Bytes, ByteFact, bytes_cmp, Tables, raised}
use Rattle.version_store.specs.Rows.{held, version_fact, row_facts, map_facts, range_fact, range_facts, IsNewestFirst, AllNewestFirst, first_upto, is_hidden, row_shown, row_at, shown_as, shows, trimmed, trimmed_rows, versions_in, with_row}
use Rattle.version_store.specs.MapHolding.{held_facts, IsCollected, KeepsTable, table_in, KeepsAll}
use Rattle.version_store.specs.declared.row.Version.{Version}
use Rattle.version_store.specs.declared.table_versions.TableVersions.{TableVersions}
use Rattle.version_store.proofs.Bytes.{bytes_order, id-itself}
use Rattle.version_store.proofs.RowPuts.{at_key, held-date, same-key}
use Rattle.version_store.proofs.RowScans.{map-has, has-map, value-is, row-own}
use Rattle.version_store.proofs.MapHeld.{in-set, keeps-at, kept-apart, held-apart, own-table}

-- ---- one row

trimmed-has : (g : Time) (cover : Option Time) (v : Version) (vs : List Version) → Has v (trimmed g cover vs) → Has v vs × (time_lt g v.at ≡ true) ⊎ (first_upto g vs ≡ Some v) × (shows v.value (is_hidden v.at cover) ≡ true)
unfolding trimmed first_upto
trimmed-has g cover v [] h = absurd h
trimmed-has g cover v (w ∷ ws) h = by (time_lt g w.at) refl h (trimmed-has g cover v ws)
  where
    one : (b : Bool) → shows w.value (is_hidden w.at cover) ≡ b → Has v (cond b (w ∷ []) []) → (v ≡ w) × (b ≡ true)
    one true e (inl same) = (same, refl)
    one true e (inr i) = absurd i
    one false e i = absurd i

    by : (b : Bool) → time_lt g w.at ≡ b → Has v (cond b (w ∷ trimmed g cover ws) (cond (shows w.value (is_hidden w.at cover)) (w ∷ []) [])) → (Has v (trimmed g cover ws) → Has v ws × (time_lt g v.at ≡ true) ⊎ (first_upto g ws ≡ Some v) × (shows v.value (is_hidden v.at cover) ≡ true)) → Has v (w ∷ ws) × (time_lt g v.at ≡ true) ⊎ (cond (time_le w.at g) (Some w) (first_upto g ws) ≡ Some v) × (shows v.value (is_hidden v.at cover) ≡ true)
    by true e (inl same) more = inl (inl same, ap (λ (x : Version). time_lt g x.at) same ∙ e)
    by true e (inr i) more = elim (more i) [ inl p ↦ inl (inr p.0, p.1) | inr p ↦ inr (ap (λ (b : Bool). cond b (Some w) (first_upto g ws)) (times.lt-not_le g w.at e) ∙ p.0, p.1) ]
    by false e i more =
        let m = one (shows w.value (is_hidden w.at cover)) refl i in
        inr (ap (λ (b : Bool). cond b (Some w) (first_upto g ws)) (times.not_lt-le g w.at e) ∙ ap Some (sym m.0), ap (λ (x : Version). shows x.value (is_hidden x.at cover)) m.0 ∙ m.1)

first-has : (g : Time) (v : Version) (vs : List Version) → first_upto g vs ≡ Some v → Has v vs
unfolding first_upto
first-has g v [] e = absurd (cc)
first-has g v (w ∷ ws) e = by (time_le w.at g) e (first-has g v ws)
  where
    by : (b : Bool) → cond b (Some w) (first_upto g ws) ≡ Some v → (first_upto g ws ≡ Some v → Has v ws) → (v ≡ w) ⊎ Has v ws
    by true f more = inl (cc)
    by false f more = inr (more f)

newer-trimmed : (g : Time) (cover : Option Time) (v : Version) (vs : List Version) → IsNewestFirst vs → Has v vs → time_lt g v.at ≡ true → Has v (trimmed g cover vs)
unfolding trimmed IsNewestFirst
newer-trimmed g cover v [] first h lt = absurd h
newer-trimmed g cover v (w ∷ ws) first h lt = by (time_lt g w.at) refl h (λ i. newer-trimmed g cover v ws first.1 i lt)
  where
    by : (b : Bool) → time_lt g w.at ≡ b → (v ≡ w) ⊎ Has v ws → (Has v ws → Has v (trimmed g cover ws)) → Has v (cond b (w ∷ trimmed g cover ws) (cond (shows w.value (is_hidden w.at cover)) (w ∷ []) []))
    by true e (inl same) more = inl same
    by true e (inr i) more = inr (more i)
    by false e (inl same) more = absurd (true≢false (sym lt ∙ (ap (λ (x : Version). time_lt g x.at) same ∙ e)))
    by false e (inr i) more = absurd (true≢false (sym (times.lt-trans g v.at w.at lt (members.has-AllByRecursion (λ (x : Version). time_lt x.at w.at ≡ true) v ws first.0 i)) ∙ e))

first-trimmed : (g : Time) (cover : Option Time) (v : Version) (vs : List Version) → first_upto g vs ≡ Some v → shows v.value (is_hidden v.at cover) ≡ true → Has v (trimmed g cover vs)
unfolding trimmed first_upto
first-trimmed g cover v [] e s = absurd (cc)
first-trimmed g cover v (w ∷ ws) e s = by (time_lt g w.at) refl e (λ f. first-trimmed g cover v ws f s)
  where
    by : (b : Bool) → time_lt g w.at ≡ b → cond (time_le w.at g) (Some w) (first_upto g ws) ≡ Some v → (first_upto g ws ≡ Some v → Has v (trimmed g cover ws)) → Has v (cond b (w ∷ trimmed g cover ws) (cond (shows w.value (is_hidden w.at cover)) (w ∷ []) []))
    by true m f more = inr (more (sym (ap (λ (b : Bool). cond b (Some w) (first_upto g ws)) (times.lt-not_le g w.at m)) ∙ f))
    by false m f more =
        let i : Some w ≡ Some v = sym (ap (λ (b : Bool). cond b (Some w) (first_upto g ws)) (times.not_lt-le g w.at m)) ∙ f in
        let same : w ≡ v = cc in
        subst (λ (b : Bool). Has v (cond b (w ∷ []) [])) (sym (ap (λ (x : Version). shows x.value (is_hidden x.at cover)) same ∙ s)) (inl (sym same))

trimmed-first : (g : Time) (cover : Option Time) (vs : List Version) → IsNewestFirst vs → IsNewestFirst (trimmed g cover vs)
unfolding trimmed IsNewestFirst
trimmed-first g cover [] first = tt
trimmed-first g cover (w ∷ ws) first = by (time_lt g w.at) (trimmed-first g cover ws first.1)
  where
    some : (v : Version) → Has v (trimmed g cover ws) → Has v ws
    some v h = elim (trimmed-has g cover v ws h) [ inl p ↦ p.0 | inr p ↦ first-has g v ws p.0 ]

    one : (b : Bool) → IsNewestFirst (cond b (w ∷ []) [])
    one true = (tt, tt)
    one false = tt

    by : (b : Bool) → IsNewestFirst (trimmed g cover ws) → IsNewestFirst (cond b (w ∷ trimmed g cover ws) (cond (shows w.value (is_hidden w.at cover)) (w ∷ []) []))
    by true more = (members.AllByRecursion-has (λ (x : Version). time_lt x.at w.at ≡ true) (trimmed g cover ws) (λ x h. members.has-AllByRecursion (λ (y : Version). time_lt y.at w.at ≡ true) x ws first.0 (some x h)), more)
    by false more = one (shows w.value (is_hidden w.at cover))

-- ---- all rows

with-row : (k : Vec ℕ) (vs : List Version) (es : List (Vec ℕ × List Version)) → map_facts (with_row k vs es) ≡ row_facts k.items vs ++ map_facts es
unfolding map_facts
with-row k [] es = refl
with-row k (v ∷ vs) es = refl

trims-has : (g : Time) (rs : List RangeDeletion) (f : ByteFact) (es : List (Vec ℕ × List Version)) → Has f (map_facts (trimmed_rows g rs es)) → (e : Vec ℕ × List Version) × Has e es × (v : Version) × Has v (trimmed g (newest_cover e.0.items g rs) e.1) × (f ≡ version_fact e.0.items v)
unfolding trimmed_rows map_facts
trims-has g rs f [] h = absurd h
trims-has g rs f (e ∷ es) h = elim (members.has-append_cases f (row_facts e.0.items (trimmed g (newest_cover e.0.items g rs) e.1)) (map_facts (trimmed_rows g rs es)) (subst (Has f) (with-row e.0 (trimmed g (newest_cover e.0.items g rs) e.1) (trimmed_rows g rs es)) h)) [ inl i ↦ (let m = members.map-has (version_fact e.0.items) f (trimmed g (newest_cover e.0.items g rs) e.1) i in (e, inl refl, m.0, m.1, m.2)) | inr i ↦ (let m = trims-has g rs f es i in (m.0, inr m.1, m.2, m.3, m.4)) ]

has-trims : (g : Time) (rs : List RangeDeletion) (e : Vec ℕ × List Version) (v : Version) (es : List (Vec ℕ × List Version)) → Has e es → Has v (trimmed g (newest_cover e.0.items g rs) e.1) → Has (version_fact e.0.items v) (map_facts (trimmed_rows g rs es))
unfolding trimmed_rows map_facts
has-trims g rs e v [] h i = absurd h
has-trims g rs e v (d ∷ es) (inl same) i = subst (Has (version_fact e.0.items v)) (sym (with-row d.0 (trimmed g (newest_cover d.0.items g rs) d.1) (trimmed_rows g rs es))) (members.has-append_left (version_fact e.0.items v) (row_facts d.0.items (trimmed g (newest_cover d.0.items g rs) d.1)) (map_facts (trimmed_rows g rs es)) (subst (λ (x : Vec ℕ × List Version). Has (version_fact e.0.items v) (row_facts x.0.items (trimmed g (newest_cover x.0.items g rs) x.1))) same (members.has-map (version_fact e.0.items) v (trimmed g (newest_cover e.0.items g rs) e.1) i)))
has-trims g rs e v (d ∷ es) (inr h) i = subst (Has (version_fact e.0.items v)) (sym (with-row d.0 (trimmed g (newest_cover d.0.items g rs) d.1) (trimmed_rows g rs es))) (members.has-append_right (version_fact e.0.items v) (row_facts d.0.items (trimmed g (newest_cover d.0.items g rs) d.1)) (map_facts (trimmed_rows g rs es)) (has-trims g rs e v es h i))

trims-first : (g : Time) (rs : List RangeDeletion) (es : List (Vec ℕ × List Version)) → AllNewestFirst es → AllNewestFirst (trimmed_rows g rs es)
unfolding trimmed_rows
trims-first g rs [] first = tt
trims-first g rs (e ∷ es) first = by (trimmed g (newest_cover e.0.items g rs) e.1) (trimmed-first g (newest_cover e.0.items g rs) e.1 first.0) (trims-first g rs es first.1)
  where
    by : (vs : List Version) → IsNewestFirst vs → AllNewestFirst (trimmed_rows g rs es) → AllNewestFirst (with_row e.0 vs (trimmed_rows g rs es))
    by [] a more = more
    by (v ∷ vs) a more = (a, more)

-- ---- what is left of the facts

-- a shown version is a put
shown-put : (v : Version) (cover : Option Time) → shows v.value (is_hidden v.at cover) ≡ true → (x : Bytes) × (row_shown (Some v) cover ≡ Some (record { value = x; at = v.at })) × (v.value ≡ Some x)
shown-put v cover e = by v.value refl (is_hidden v.at cover) refl e
  where
    by : (o : Option Bytes) → v.value ≡ o → (b : Bool) → is_hidden v.at cover ≡ b → shows o b ≡ true → (x : Bytes) × (cond (is_hidden v.at cover) None (shown_as v.at v.value) ≡ Some (record { value = x; at = v.at })) × (v.value ≡ Some x)
    by None m b n f = absurd (true≢false (sym f))
    by (Some x) m true n f = absurd (true≢false (sym f))
    by (Some x) m false n f = (x, ap₂ (λ (b : Bool) o. cond b None (shown_as v.at o)) n m, m)

-- what is shown is the row's first version
put-shown : (o : Option Version) (cover : Option Time) (ver : facts.Version Bytes) → row_shown o cover ≡ Some ver → (v : Version) × (o ≡ Some v) × (shows v.value (is_hidden v.at cover) ≡ true) × (v.value ≡ Some ver.value) × (v.at ≡ ver.at)
put-shown None cover ver e = absurd (cc)
put-shown (Some v) cover ver e = by v.value refl (is_hidden v.at cover) refl e
  where
    by : (o : Option Bytes) → v.value ≡ o → (b : Bool) → is_hidden v.at cover ≡ b → cond b None (shown_as v.at o) ≡ Some ver → (w : Version) × (Some v ≡ Some w) × (shows w.value (is_hidden w.at cover) ≡ true) × (w.value ≡ Some ver.value) × (w.at ≡ ver.at)
    by o m true n f = absurd (cc)
    by None m false n f = absurd (cc)
    by (Some x) m false n f =
        let same : ver ≡ record { value = x; at = v.at } = (cc) in
        (v, refl, ap₂ shows m n, m ∙ ap (λ (y : facts.Version Bytes). Some y.value) (sym same), ap (λ (y : facts.Version Bytes). y.at) (sym same))

row-found : (k : Bytes) (g : Time) (v : Version) (es : List (Vec ℕ × List Version)) → first_upto g (row_at k es) ≡ Some v → (e : Vec ℕ × List Version) × Has e es × (e.0.items ≡ k) × (first_upto g e.1 ≡ Some v)
unfolding first_upto
row-found k g v [] e = absurd (cc)
row-found k g v (d ∷ es) e = by (at_key k d.0) refl e (row-found k g v es)
  where
    by : (b : Bool) → at_key k d.0 ≡ b → first_upto g (versions_in (cond b (Some d.1) (lookup (at_key k) es))) ≡ Some v → (first_upto g (row_at k es) ≡ Some v → (e : Vec ℕ × List Version) × Has e es × (e.0.items ≡ k) × (first_upto g e.1 ≡ Some v)) → (e : Vec ℕ × List Version) × Has e (d ∷ es) × (e.0.items ≡ k) × (first_upto g e.1 ≡ Some v)
    by true m f more = (d, inl refl, same-key k d.0 m, f)
    by false m f more = let w = more f in (w.0, inr w.1, w.2, w.3)

module _ (g : Time) (t u : TableVersions) (c : IsCollected g t u) (first : AllNewestFirst t.rows.entries) where
  abbrev old : List ByteFact
  old = held_facts (Some t)

  abbrev rows : List ByteFact
  rows = map_facts (trimmed_rows g t.ranges t.rows.entries)

  left-is : held_facts (Some u) ≡ rows ++ range_facts (ranges_after g t.ranges)
  left-is = ap₂ (λ es rs. map_facts es ++ range_facts rs) c.rows c.ranges

  later-kept : (f : ByteFact) → Has f old → time_lt g (date f) ≡ true → Has f (kept bytes_cmp g old)
  unfolding kept
  later-kept f h lt = members.has-append_right f (image bytes_cmp g old) (after g old) (members.has-filter (λ x. time_lt g (date x)) f old h lt)

  image-kept : (f : ByteFact) → Has f (image bytes_cmp g old) → Has f (kept bytes_cmp g old)
  unfolding kept
  image-kept f h = members.has-append_left f (image bytes_cmp g old) (after g old) h

  collected-only : AllIn (held_facts (Some u)) (kept bytes_cmp g old)
  collected-only f h = elim (members.has-append_cases f rows (range_facts (ranges_after g t.ranges)) (subst (Has f) left-is h)) [ inl i ↦ row (trims-has g t.ranges f t.rows.entries i) | inr i ↦ deletion (members.map-has range_fact f (ranges_after g t.ranges) i) ]
    where
      deletion : (r : RangeDeletion) × Has r (ranges_after g t.ranges) × (f ≡ range_fact r) → Has f (kept bytes_cmp g old)
      deletion (r, i, e) = later-kept f (members.has-append_right f (map_facts t.rows.entries) (range_facts t.ranges) (subst (λ (x : ByteFact). Has x (range_facts t.ranges)) (sym e) (members.has-map range_fact r t.ranges (members.filter-has (λ (s : RangeDeletion). time_lt g s.at) r t.ranges i)))) (ap (λ (x : ByteFact). time_lt g (date x)) e ∙ members.filter-passes (λ (s : RangeDeletion). time_lt g s.at) r t.ranges i)

      row : (e : Vec ℕ × List Version) × Has e t.rows.entries × (v : Version) × Has v (trimmed g (newest_cover e.0.items g t.ranges) e.1) × (f ≡ version_fact e.0.items v) → Has f (kept bytes_cmp g old)
      row (e, i, v, j, same) = elim (trimmed-has g (newest_cover e.0.items g t.ranges) v e.1 j) [ inl p ↦ later-kept f (subst (λ (x : ByteFact). Has x old) (sym same) (members.has-append_left (version_fact e.0.items v) (map_facts t.rows.entries) (range_facts t.ranges) (has-map e v t.rows.entries i p.0))) (ap (λ (x : ByteFact). time_lt g (date x)) same ∙ (ap (time_lt g) (held-date e.0.items v.at v.value) ∙ p.1)) | inr p ↦ shown p.0 p.1 ]
        where
          shown : first_upto g e.1 ≡ Some v → shows v.value (is_hidden v.at (newest_cover e.0.items g t.ranges)) ≡ true → Has f (kept bytes_cmp g old)
          shown a b =
              let s = shown-put v (newest_cover e.0.items g t.ranges) b in
              let is : value bytes_cmp e.0.items g old ≡ Some (record { value = s.0; at = v.at }) = value-is e.0.items g t.rows.entries t.ranges c.ordered first ∙ (ap (λ vs. row_shown (first_upto g vs) (newest_cover e.0.items g t.ranges)) (row-own e t.rows.entries c.ordered i) ∙ (ap (λ o. row_shown o (newest_cover e.0.items g t.ranges)) a ∙ s.1)) in
              image-kept f (subst (λ (x : ByteFact). Has x (image bytes_cmp g old)) (sym (same ∙ ap (held e.0.items v.at) s.2)) (scanned.has-image bytes_cmp bytes_order g old e.0.items (record { value = s.0; at = v.at }) is))

  collected-found : AllIn (kept bytes_cmp g old) (held_facts (Some u))
  unfolding kept
  collected-found f h = subst (Has f) (sym left-is) (elim (members.has-append_cases f (image bytes_cmp g old) (after g old) h) [ inl i ↦ members.has-append_left f rows (range_facts (ranges_after g t.ranges)) (shown (scanned.image-has bytes_cmp bytes_order g old f i)) | inr i ↦ later (members.filter-has (λ x. time_lt g (date x)) f old i) (members.filter-passes (λ x. time_lt g (date x)) f old i) ])
    where
      shown : (k : Bytes) × (ver : facts.Version Bytes) × (value bytes_cmp k g old ≡ Some ver) × (f ≡ Fact.Put k ver.value ver.at) → Has f rows
      shown (k, ver, e, same) =
          let s = put-shown (first_upto g (row_at k t.rows.entries)) (newest_cover k g t.ranges) ver (sym (value-is k g t.rows.entries t.ranges c.ordered first) ∙ e) in
          let d = row-found k g s.0 t.rows.entries s.1 in
          let i = first-trimmed g (newest_cover d.0.0.items g t.ranges) s.0 d.0.1 d.3 (ap (λ (q : Bytes). shows s.0.value (is_hidden s.0.at (newest_cover q g t.ranges))) d.2 ∙ s.2) in
          subst (λ (x : ByteFact). Has x rows) (ap₂ (λ (q : Bytes) o. held q s.0.at o) d.2 s.3 ∙ (ap (λ at. Fact.Put k ver.value at) s.4 ∙ sym same)) (has-trims g t.ranges d.0 s.0 t.rows.entries d.1 i)

      later : Has f old → time_lt g (date f) ≡ true → Has f (rows ++ range_facts (ranges_after g t.ranges))
      later i lt = elim (members.has-append_cases f (map_facts t.rows.entries) (range_facts t.ranges) i) [ inl a ↦ members.has-append_left f rows (range_facts (ranges_after g t.ranges)) (row (map-has f t.rows.entries a)) | inr b ↦ members.has-append_right f rows (range_facts (ranges_after g t.ranges)) (deletion (members.map-has range_fact f t.ranges b)) ]
        where
          row : (e : Vec ℕ × List Version) × Has e t.rows.entries × (v : Version) × Has v e.1 × (f ≡ version_fact e.0.items v) → Has f rows
          row (e, i, v, j, same) = subst (λ (x : ByteFact). Has x rows) (sym same) (has-trims g t.ranges e v t.rows.entries i (newer-trimmed g (newest_cover e.0.items g t.ranges) v e.1 (members.has-AllByRecursion (λ (x : Vec ℕ × List Version). IsNewestFirst x.1) e t.rows.entries first i) j (sym (ap (λ (x : ByteFact). time_lt g (date x)) same ∙ ap (time_lt g) (held-date e.0.items v.at v.value)) ∙ lt)))

          deletion : (r : RangeDeletion) × Has r t.ranges × (f ≡ range_fact r) → Has f (range_facts (ranges_after g t.ranges))
          deletion (r, j, same) = subst (λ (x : ByteFact). Has x (range_facts (ranges_after g t.ranges))) (sym same) (members.has-map range_fact r (ranges_after g t.ranges) (members.has-filter (λ (s : RangeDeletion). time_lt g s.at) r t.ranges j (sym (ap (λ (x : ByteFact). time_lt g (date x)) same) ∙ lt)))

-- ---- a collected table

-- the same facts keep the same
kept-same : (g : Time) (fs gs : List ByteFact) → IsApart bytes_cmp fs → AllIn gs fs → AllIn fs gs → AllIn (kept bytes_cmp g gs) (kept bytes_cmp g fs)
unfolding kept image
kept-same g fs gs a p q f h = elim (members.has-append_cases f (image bytes_cmp g gs) (after g gs) h) [ inl i ↦ members.has-append_left f (image bytes_cmp g fs) (after g fs) (subst (λ is. Has f (map put_of is)) (scanned.scan-by_value bytes_cmp bytes_order g g gs fs (λ k. stores.value-same_facts bytes_cmp k g fs gs a p q)) i) | inr i ↦ members.has-append_right f (image bytes_cmp g fs) (after g fs) (members.has-filter (λ x. time_lt g (date x)) f fs (p f (members.filter-has (λ x. time_lt g (date x)) f gs i)) (members.filter-passes (λ x. time_lt g (date x)) f gs i)) ]

keeps-collected : (g threshold : Time) (facts : List ByteFact) (t u : TableVersions) → KeepsTable (Some t) threshold facts → time_le threshold g ≡ true → IsCollected g t u → KeepsTable (Some u) g facts
keeps-collected g threshold facts t u k le c = record {
  apart = k.apart;
  differ = k.differ;
  begun = k.begun;
  from = c.threshold;
  first = subst AllNewestFirst (sym c.rows) (trims-first g t.ranges t.rows.entries k.first);
  only = λ f h. subst (Has f) again (kept-same g before (held_facts (Some t)) (kept-apart (Some t) threshold facts k) k.only k.found f (collected-only g t u c k.first f h));
  found = λ f h. collected-found g t u c k.first f (kept-same g (held_facts (Some t)) before (held-apart (Some t) threshold facts k) k.found k.only f (subst (Has f) (sym again) h));
}
  where
    before : List ByteFact
    before = kept bytes_cmp threshold facts

    again : kept bytes_cmp g before ≡ kept bytes_cmp g facts
    again = growth.kept-kept bytes_cmp bytes_order threshold g facts k.apart le

pub table-collected : (tables new : List (ℕ × TableVersions)) (id : ℕ) (g : Time) (t u : TableVersions) → table_in tables id ≡ Some t → new ≡ set_value (is_at (nat_cmp id)) tables u → (time_le g t.threshold ≡ true → u ≡ t) → (time_le g t.threshold ≡ false → IsCollected g t u) → (h : Tables) → KeepsAll tables h → KeepsAll new (raised id g h)
table-collected tables new id g t u e made low high h all = subst (λ ts. KeepsAll ts (raised id g h)) (sym made) (keeps-at tables (set_value (is_at (nat_cmp id)) tables u) h (raised id g h) id u (λ i. in-set id i tables t u e) (subst (λ (b : Bool). KeepsTable (Some u) (cond (b && time_lt (h.threshold id) g) g (h.threshold id)) (h.facts id)) (sym (id-itself id)) (by (time_le g t.threshold) refl)) (λ i off k. subst (λ (b : Bool). KeepsTable (table_in tables i) (cond (b && time_lt (h.threshold i) g) g (h.threshold i)) (h.facts i)) (sym off) k) all)
  where
    k : KeepsTable (Some t) (h.threshold id) (h.facts id)
    k = own-table tables h id t e all

    by : (b : Bool) → time_le g t.threshold ≡ b → KeepsTable (Some u) (cond (time_lt (h.threshold id) g) g (h.threshold id)) (h.facts id)
    by true m = subst (λ (b : Bool). KeepsTable (Some u) (cond b g (h.threshold id)) (h.facts id)) (sym (times.le-not_lt (h.threshold id) g (ap (time_le g) (sym k.from) ∙ m))) (subst (λ (x : TableVersions). KeepsTable (Some x) (h.threshold id) (h.facts id)) (sym (low m)) k)
    by false m = let lt = times.not_le-lt (h.threshold id) g (ap (time_le g) (sym k.from) ∙ m) in subst (λ (b : Bool). KeepsTable (Some u) (cond b g (h.threshold id)) (h.facts id)) (sym lt) (keeps-collected g (h.threshold id) (h.facts id) t u k (times.lt-le (h.threshold id) g lt) (high m))
