-- Rows and range deletions show what their facts say.
use Rattle.std.proofs.Common.{◌≡◌, ◌∙◌, ℕ, Bool, true, false, cond, ◌&&◌, sym, refl, ap, ap₂, subst, List, [], ◌∷◌, ◌++◌, map, Option, Some, None, option_map, inl, inr, ◌⊎◌, true≢false, Ordering, Less, is_eq}
use Rattle.std.specs.Global.{Vec}
use Rattle.std.specs.List.{AllByRecursion}
use Rattle.std.specs.List.Sorted.{IsStrictlySortedBy}
use Rattle.std.specs.Map.{lookup}
use Rattle.std.specs.Ordering.{ordering_reverse}
use Rattle.std.proofs.lemmas.Cmp.{tied_itself}
use Rattle.mvcc_keys.specs.Times.{Time, time_le, time_lt}
use Rattle.mvcc_keys.specs.declared.entries.Entry.{Entry}
use Rattle.range_tombstones.specs.declared.deletion.RangeDeletion.{RangeDeletion}
use Rattle.range_tombstones.specs.Ranges.{covers, later_date, newest_cover}
use Rattle.fact_model.specs.Facts.{Fact, date, later, newest, touches, value, version_of}
use Rattle.list_laws.specs.Members.{Has}
use Rattle.fact_model.specs.Facts as facts
use Rattle.fact_model.specs.Joined.{joined}
use Rattle.fact_model.specs.Scans.{image, items, keys_put, put_of}
use Rattle.mvcc_keys.proofs.TimeOrder as times
use Rattle.list_laws.proofs.Members as members
use Rattle.fact_model.specs.Newest.{IsNewest}
use Rattle.fact_model.proofs.Newest as newests
use Rattle.fact_model.proofs.Joins as joins
use Rattle.fact_model.proofs.Scanned as scanned
use Rattle.version_store.specs.Tables.{Bytes, ByteFact, bytes_cmp, entries_of}
use Rattle.version_store.specs.Lists.{seen_item}
use Rattle.version_store.specs.Rows.{held, version_fact, row_facts, map_facts, range_fact, range_facts, KeysAscend, IsNewestFirst, AllNewestFirst, first_upto, shown_as, row_shown, row_at, versions_in, hits}
use Rattle.version_store.specs.declared.row.Version.{Version}
use Rattle.version_store.proofs.Bytes.{bytes_order}
use Rattle.version_store.proofs.RowPuts.{held-date, held-touches, own-touches, at_key}
use Rattle.version_store.proofs.Walks.{seen_of, seen-from}

-- ---- one row

-- the newest fact of a row is its first version up to the time
newest-row : (k : Bytes) (t : Time) (vs : List Version) → IsNewestFirst vs → newest bytes_cmp k t (row_facts k vs) ≡ option_map (version_fact k) (first_upto t vs)
unfolding newest first_upto IsNewestFirst
newest-row k t [] up = refl
newest-row k t (v ∷ vs) up = ap₂ (λ (a : Bool) (d : Time). cond (a && time_le d t) (later (version_fact k v) (newest bytes_cmp k t (row_facts k vs))) (newest bytes_cmp k t (row_facts k vs))) (own-touches k v) (held-date k v.at v.value) ∙ by (time_le v.at t) (newest-row k t vs up.1)
  where
    first : (r : Option ByteFact) → IsNewest bytes_cmp k t (row_facts k vs) r → later (version_fact k v) r ≡ Some (version_fact k v)
    first None n = refl
    first (Some g) n = let m = members.map-has (version_fact k) g vs n.among in let lt = members.has-AllByRecursion (λ (w : Version). time_lt w.at v.at ≡ true) m.0 vs up.0 m.1 in ap (λ (b : Bool). cond b (Some g) (Some (version_fact k v))) (ap₂ time_lt (held-date k v.at v.value) (ap date m.2 ∙ held-date k m.0.at m.0.value) ∙ times.le-not_lt v.at m.0.at (times.lt-le m.0.at v.at lt))

    by : (b : Bool) → newest bytes_cmp k t (row_facts k vs) ≡ option_map (version_fact k) (first_upto t vs) → cond b (later (version_fact k v) (newest bytes_cmp k t (row_facts k vs))) (newest bytes_cmp k t (row_facts k vs)) ≡ option_map (version_fact k) (cond b (Some v) (first_upto t vs))
    by true more = first (newest bytes_cmp k t (row_facts k vs)) (newests.newest-is bytes_cmp k t (row_facts k vs))
    by false more = more

-- ---- range deletions

pub cover-is : (k : Bytes) (t : Time) (rs : List RangeDeletion) → option_map date (newest bytes_cmp k t (range_facts rs)) ≡ newest_cover k t rs
unfolding newest newest_cover
cover-is k t [] = refl
cover-is k t (r ∷ rs) = by (covers k r && time_le r.at t) (cover-is k t rs)
  where
    later-is : (o : Option ByteFact) → option_map date (later (range_fact r) o) ≡ later_date r.at (option_map date o)
    later-is None = refl
    later-is (Some g) = go (time_lt r.at (date g))
      where
        go : (b : Bool) → option_map date (cond b (Some g) (Some (range_fact r))) ≡ cond b (Some (date g)) (Some r.at)
        go true = refl
        go false = refl

    by : (b : Bool) → option_map date (newest bytes_cmp k t (range_facts rs)) ≡ newest_cover k t rs → option_map date (cond b (later (range_fact r) (newest bytes_cmp k t (range_facts rs))) (newest bytes_cmp k t (range_facts rs))) ≡ cond b (later_date r.at (newest_cover k t rs)) (newest_cover k t rs)
    by true more = later-is (newest bytes_cmp k t (range_facts rs)) ∙ ap (later_date r.at) more
    by false more = more

-- a range deletion has no version
no-version : (k : Bytes) (t : Time) (rs : List RangeDeletion) (g : ByteFact) → newest bytes_cmp k t (range_facts rs) ≡ Some g → version_of (Some g) ≡ None
no-version k t rs g e = by (newest bytes_cmp k t (range_facts rs)) (newests.newest-is bytes_cmp k t (range_facts rs)) e
  where
    by : (r : Option ByteFact) → IsNewest bytes_cmp k t (range_facts rs) r → r ≡ Some g → version_of (Some g) ≡ None
    by None n p = absurd (cc)
    by (Some h) n p = let m = members.map-has range_fact h rs n.among in let q : h ≡ g = cc in ap (λ (x : ByteFact). version_of (Some x)) (sym q ∙ m.2)

held-version : (k : Bytes) (at : Time) (v : Option Bytes) → version_of (Some (held k at v)) ≡ shown_as at v
held-version k at None = refl
held-version k at (Some v) = refl

row-law : (k : Bytes) (t : Time) (a : Option Version) (rs : List RangeDeletion) → version_of (joined (option_map (version_fact k) a) (newest bytes_cmp k t (range_facts rs))) ≡ row_shown a (newest_cover k t rs)
row-law k t a rs = by a (newest bytes_cmp k t (range_facts rs)) refl ∙ ap (row_shown a) (cover-is k t rs)
  where
    by : (a : Option Version) (r : Option ByteFact) → newest bytes_cmp k t (range_facts rs) ≡ r → version_of (joined (option_map (version_fact k) a) r) ≡ row_shown a (option_map date r)
    by None None e = refl
    by None (Some g) e = no-version k t rs g e
    by (Some v) None e = held-version k v.at v.value
    by (Some v) (Some g) e = ap (λ (d : Time). version_of (cond (time_lt d (date g)) (Some g) (Some (version_fact k v)))) (held-date k v.at v.value) ∙ hid (time_lt v.at (date g))
      where
        hid : (b : Bool) → version_of (cond b (Some g) (Some (version_fact k v))) ≡ cond b None (shown_as v.at v.value)
        hid true = no-version k t rs g e
        hid false = held-version k v.at v.value

-- ---- all rows

-- a fact of rows is one of their versions
pub map-has : (f : ByteFact) (es : List (Vec ℕ × List Version)) → Has f (map_facts es) → (e : Vec ℕ × List Version) × Has e es × (v : Version) × Has v e.1 × (f ≡ version_fact e.0.items v)
unfolding map_facts
map-has f [] h = absurd h
map-has f (e ∷ es) h = elim (members.has-append_cases f (row_facts e.0.items e.1) (map_facts es) h) [ inl i ↦ (let m = members.map-has (version_fact e.0.items) f e.1 i in (e, inl refl, m.0, m.1, m.2)) | inr i ↦ (let m = map-has f es i in (m.0, inr m.1, m.2, m.3, m.4)) ]

pub has-map : (e : Vec ℕ × List Version) (v : Version) (es : List (Vec ℕ × List Version)) → Has e es → Has v e.1 → Has (version_fact e.0.items v) (map_facts es)
unfolding map_facts
has-map e v [] h i = absurd h
has-map e v (d ∷ es) (inl same) i = members.has-append_left (version_fact e.0.items v) (row_facts d.0.items d.1) (map_facts es) (subst (λ (x : Vec ℕ × List Version). Has (version_fact e.0.items v) (row_facts x.0.items x.1)) same (members.has-map (version_fact e.0.items) v e.1 i))
has-map e v (d ∷ es) (inr h) i = members.has-append_right (version_fact e.0.items v) (row_facts d.0.items d.1) (map_facts es) (has-map e v es h i)

abbrev pub row_keys : List (Vec ℕ × List Version) → List Bytes
row_keys es = map (λ e. e.0.items) es

pub keys-above : (p : Vec ℕ) (es : List (Vec ℕ × List Version)) → AllByRecursion (λ (q : Vec ℕ). bytes_cmp p.items q.items ≡ Less) (map (λ e. e.0) es) → (e : Vec ℕ × List Version) → Has e es → bytes_cmp p.items e.0.items ≡ Less
keys-above p [] all e h = absurd h
keys-above p (d ∷ es) all e (inl same) = ap (λ (x : Vec ℕ × List Version). bytes_cmp p.items x.0.items) same ∙ all.0
keys-above p (d ∷ es) all e (inr h) = keys-above p es all.1 e h

pub keys-ascend : (es : List (Vec ℕ × List Version)) → KeysAscend es → IsStrictlySortedBy bytes_cmp (row_keys es)
unfolding IsStrictlySortedBy
keys-ascend [] up = tt
keys-ascend (e ∷ es) up = (members.AllByRecursion-has (λ y. bytes_cmp e.0.items y ≡ Less) (row_keys es) (λ y h. let m = members.map-has (λ (x : Vec ℕ × List Version). x.0.items) y es h in ap (bytes_cmp e.0.items) m.2 ∙ keys-above e.0 es up.0 m.0 m.1), keys-ascend es up.1)

-- rows of greater keys say nothing of a key
others-untouched : (k : Bytes) (t : Time) (es : List (Vec ℕ × List Version)) → ((e : Vec ℕ × List Version) → Has e es → is_eq (bytes_cmp e.0.items k) ≡ false) → newest bytes_cmp k t (map_facts es) ≡ None
others-untouched k t es other = newests.newest-none bytes_cmp k t (map_facts es) (λ g h p q. let m = map-has g es h in true≢false (sym p ∙ (ap (touches bytes_cmp k) m.4 ∙ (held-touches m.0.0.items k m.2.at m.2.value ∙ other m.0 m.1))))

back : (a b : Bytes) → is_eq (bytes_cmp a b) ≡ is_eq (bytes_cmp b a)
back a b = ap is_eq (bytes_order.total.antisymm a b) ∙ by (bytes_cmp b a)
  where
    by : (o : Ordering) → is_eq (ordering_reverse o) ≡ is_eq o
    by Ordering.Less = refl
    by Ordering.Equal = refl
    by Ordering.Greater = refl

-- the newest fact of a key is the first version of its row
newest-map : (k : Bytes) (t : Time) (es : List (Vec ℕ × List Version)) → KeysAscend es → AllNewestFirst es → newest bytes_cmp k t (map_facts es) ≡ option_map (version_fact k) (first_upto t (row_at k es))
unfolding map_facts newest first_upto IsStrictlySortedBy
newest-map k t [] up first = refl
newest-map k t (e ∷ es) up first = joins.newest-append bytes_cmp k t (row_facts e.0.items e.1) (map_facts es) ∙ by (bytes_cmp k e.0.items) refl (newest-map k t es up.1 first.1)
  where
    none : (r : Option ByteFact) → joined r None ≡ r
    none None = refl
    none (Some f) = refl

    other : is_eq (bytes_cmp k e.0.items) ≡ false → newest bytes_cmp k t (row_facts e.0.items e.1) ≡ None
    other off = newests.newest-none bytes_cmp k t (row_facts e.0.items e.1) (λ g h p q. let m = members.map-has (version_fact e.0.items) g e.1 h in true≢false (sym p ∙ (ap (touches bytes_cmp k) m.2 ∙ (held-touches e.0.items k m.0.at m.0.value ∙ (back e.0.items k ∙ off)))))

    by : (o : Ordering) → bytes_cmp k e.0.items ≡ o → newest bytes_cmp k t (map_facts es) ≡ option_map (version_fact k) (first_upto t (row_at k es)) → joined (newest bytes_cmp k t (row_facts e.0.items e.1)) (newest bytes_cmp k t (map_facts es)) ≡ option_map (version_fact k) (first_upto t (versions_in (cond (is_eq o) (Some e.1) (lookup (at_key k) es))))
    by Ordering.Less o more = ap (λ (r : Option ByteFact). joined r (newest bytes_cmp k t (map_facts es))) (other (ap is_eq o)) ∙ more
    by Ordering.Greater o more = ap (λ (r : Option ByteFact). joined r (newest bytes_cmp k t (map_facts es))) (other (ap is_eq o)) ∙ more
    by Ordering.Equal o more =
        let same : k ≡ e.0.items = bytes_order.same k e.0.items o in
        ap (joined (newest bytes_cmp k t (row_facts e.0.items e.1))) (others-untouched k t es (λ d h. ap (λ (q : Bytes). is_eq (bytes_cmp d.0.items q)) same ∙ (back d.0.items e.0.items ∙ ap is_eq (keys-above e.0 es up.0 d h)))) ∙ (none (newest bytes_cmp k t (row_facts e.0.items e.1)) ∙ subst (λ (q : Bytes). newest bytes_cmp k t (row_facts q e.1) ≡ option_map (version_fact k) (first_upto t e.1)) same (newest-row k t e.1 first.0))

-- what a key shows is its value
pub value-is : (k : Bytes) (t : Time) (es : List (Vec ℕ × List Version)) (rs : List RangeDeletion) → KeysAscend es → AllNewestFirst es → value bytes_cmp k t (map_facts es ++ range_facts rs) ≡ row_shown (first_upto t (row_at k es)) (newest_cover k t rs)
unfolding value
value-is k t es rs up first = ap version_of (joins.newest-append bytes_cmp k t (map_facts es) (range_facts rs) ∙ ap (λ (r : Option ByteFact). joined r (newest bytes_cmp k t (range_facts rs))) (newest-map k t es up first)) ∙ row-law k t (first_upto t (row_at k es)) rs

-- the row of an entry's key is its own
pub row-own : (e : Vec ℕ × List Version) (es : List (Vec ℕ × List Version)) → KeysAscend es → Has e es → row_at e.0.items es ≡ e.1
unfolding IsStrictlySortedBy
row-own e [] up h = absurd h
row-own e (d ∷ es) up (inl same) = ap (λ (b : Bool). versions_in (cond b (Some d.1) (lookup (at_key e.0.items) es))) (ap (λ (x : Vec ℕ × List Version). is_eq (bytes_cmp e.0.items x.0.items)) (sym same) ∙ ap is_eq (tied_itself bytes_order.total e.0.items)) ∙ sym (ap (λ (x : Vec ℕ × List Version). x.1) same)
row-own e (d ∷ es) up (inr h) = ap (λ (b : Bool). versions_in (cond b (Some d.1) (lookup (at_key e.0.items) es))) (back e.0.items d.0.items ∙ ap is_eq (keys-above d.0 es up.0 e h)) ∙ row-own e es up.1 h

-- ---- scans

hits-are : (t : Time) (rs : List RangeDeletion) (shown : Bytes → Option (facts.Version Bytes)) (es : List (Vec ℕ × List Version)) → ((e : Vec ℕ × List Version) → Has e es → shown e.0.items ≡ row_shown (first_upto t e.1) (newest_cover e.0.items t rs)) → hits t rs es ≡ seen_of shown (row_keys es)
unfolding hits items
hits-are t rs shown [] same = refl
hits-are t rs shown (e ∷ es) same = ap₂ (λ (xs ys : List Entry). xs ++ ys) (ap (seen_item e.0.items) (sym (same e (inl refl)))) (hits-are t rs shown es (λ d h. same d (inr h))) ∙ sym (seen-from shown e.0.items (row_keys es))

-- the keys of puts are among the keys of the rows
keys-append : (k : Bytes) (fs gs : List ByteFact) → Has k (keys_put (fs ++ gs)) → Has k (keys_put fs) ⊎ Has k (keys_put gs)
unfolding keys_put
keys-append k [] gs h = inr h
keys-append k (Fact.Put q v t ∷ fs) gs (inl e) = inl (inl e)
keys-append k (Fact.Put q v t ∷ fs) gs (inr i) = elim (keys-append k fs gs i) [ inl a ↦ inl (inr a) | inr b ↦ inr b ]
keys-append k (Fact.Del q t ∷ fs) gs h = keys-append k fs gs h
keys-append k (Fact.DelRange lo hi t ∷ fs) gs h = keys-append k fs gs h

keys-ranges : (k : Bytes) (rs : List RangeDeletion) → Has k (keys_put (range_facts rs)) → ⊥
unfolding keys_put
keys-ranges k [] h = h
keys-ranges k (r ∷ rs) h = keys-ranges k rs h

keys-row : (q k : Bytes) (vs : List Version) → Has k (keys_put (row_facts q vs)) → k ≡ q
unfolding keys_put
keys-row q k [] h = absurd h
keys-row q k (v ∷ vs) h = by v.value h (keys-row q k vs)
  where
    by : (x : Option Bytes) → Has k (keys_put (held q v.at x ∷ row_facts q vs)) → (Has k (keys_put (row_facts q vs)) → k ≡ q) → k ≡ q
    by None i more = more i
    by (Some x) (inl e) more = e
    by (Some x) (inr i) more = more i

keys-rows : (k : Bytes) (es : List (Vec ℕ × List Version)) → Has k (keys_put (map_facts es)) → Has k (row_keys es)
unfolding map_facts keys_put
keys-rows k [] h = absurd h
keys-rows k (e ∷ es) h = elim (keys-append k (row_facts e.0.items e.1) (map_facts es) h) [ inl i ↦ inl (keys-row e.0.items k e.1 i) | inr i ↦ inr (keys-rows k es i) ]

-- a walk over the rows is the scan of their facts
pub hits-scan : (t : Time) (rs : List RangeDeletion) (es : List (Vec ℕ × List Version)) → KeysAscend es → AllNewestFirst es → hits t rs es ≡ entries_of (image bytes_cmp t (map_facts es ++ range_facts rs))
unfolding image
hits-scan t rs es up first = hits-are t rs (λ k. value bytes_cmp k t (map_facts es ++ range_facts rs)) es (λ e h. value-is e.0.items t es rs up first ∙ ap (λ (vs : List Version). row_shown (first_upto t vs) (newest_cover e.0.items t rs)) (row-own e es up h)) ∙ ap (λ is. entries_of (map put_of is)) (scanned.items-scan bytes_cmp bytes_order t (map_facts es ++ range_facts rs) (row_keys es) (keys-ascend es up) (λ k h. elim (keys-append k (map_facts es) (range_facts rs) h) [ inl i ↦ keys-rows k es i | inr i ↦ absurd (keys-ranges k rs i) ]))
