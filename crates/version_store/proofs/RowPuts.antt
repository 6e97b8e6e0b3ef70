-- A version put into its row.
use Rattle.std.proofs.Common.{◌≡◌, ◌∙◌, ℕ, Bool, true, false, cond, sym, refl, ap, subst, List, [], ◌∷◌, ◌++◌, Option, Some, None, inl, inr, ◌⊎◌, true≢false, Ordering, is_eq, append_assoc}
use Rattle.std.specs.Ordering.{match_ordering}
use Rattle.std.specs.Global.{Vec}
use Rattle.std.specs.BTreeMap.{is_at, insert_entry}
use Rattle.std.specs.Map.{lookup, set_value}
use Rattle.std.proofs.lemmas.Cmp.{tied_itself}
use Rattle.mvcc_keys.specs.Times.{Time, time_le, time_lt}
use Rattle.fact_model.specs.Facts.{date, touches}
use Rattle.list_laws.specs.Members.{Has}
use Rattle.fact_model.specs.Listed.{key_of}
use Rattle.mvcc_keys.proofs.TimeOrder as times
use Rattle.list_laws.proofs.Members as members
use Rattle.version_store.specs.Tables.{Bytes, ByteFact, bytes_cmp}
use Rattle.version_store.specs.Rows.{held, version_fact, row_facts, map_facts, IsNewestFirst, AllNewestFirst, with_version, IsInserted, IsRowAdded}
use Rattle.version_store.specs.declared.row.Version.{Version}
use Rattle.version_store.proofs.Bytes.{bytes_order}

earlier : (s t : Time) → time_le s t ≡ true → (s ≡ t → ⊥) → time_lt s t ≡ true
earlier s t p q = by (time_le t s) refl
  where
    by : (b : Bool) → time_le t s ≡ b → time_lt s t ≡ true
    by true e = absurd (q (times.le-antisymm s t p e))
    by false e = times.not_le-lt s t e

-- ---- what a version's fact is

pub held-date : (k : Bytes) (at : Time) (v : Option Bytes) → date (held k at v) ≡ at
held-date k at None = refl
held-date k at (Some v) = refl

pub held-key : (k : Bytes) (at : Time) (v : Option Bytes) → key_of (held k at v) ≡ k
held-key k at None = refl
held-key k at (Some v) = refl

pub held-touches : (k q : Bytes) (at : Time) (v : Option Bytes) → touches bytes_cmp q (held k at v) ≡ is_eq (bytes_cmp k q)
held-touches k q at None = refl
held-touches k q at (Some v) = refl

pub own-touches : (k : Bytes) (v : Version) → touches bytes_cmp k (version_fact k v) ≡ true
own-touches k v = held-touches k k v.at v.value ∙ ap is_eq (tied_itself bytes_order.total k)

-- ---- one element more

module _ {X : Type 0} (x : X) where
  inserted-before : (zs xs ys : List X) → IsInserted x xs ys → IsInserted x (zs ++ xs) (zs ++ ys)
  inserted-before zs xs ys i = record {
    front = zs ++ i.front;
    back = i.back;
    before = ap (λ ws. zs ++ ws) i.before ∙ sym (append_assoc zs i.front i.back);
    after = ap (λ ws. zs ++ ws) i.after ∙ sym (append_assoc zs i.front (x ∷ i.back));
  }

  inserted-after : (xs ys zs : List X) → IsInserted x xs ys → IsInserted x (xs ++ zs) (ys ++ zs)
  inserted-after xs ys zs i = record {
    front = i.front;
    back = i.back ++ zs;
    before = ap (λ ws. ws ++ zs) i.before ∙ append_assoc i.front i.back zs;
    after = ap (λ ws. ws ++ zs) i.after ∙ append_assoc i.front (x ∷ i.back) zs;
  }

  pub inserted-has : (xs ys : List X) → IsInserted x xs ys → (y : X) → Has y ys → (y ≡ x) ⊎ Has y xs
  inserted-has xs ys i y h = elim (members.has-append_cases y i.front (x ∷ i.back) (subst (Has y) i.after h)) [ inl a ↦ inr (subst (Has y) (sym i.before) (members.has-append_left y i.front i.back a)) | inr b ↦ back b ]
    where
      back : Has y (x ∷ i.back) → (y ≡ x) ⊎ Has y xs
      back (inl e) = inl e
      back (inr b) = inr (subst (Has y) (sym i.before) (members.has-append_right y i.front i.back b))

  pub has-inserted : (xs ys : List X) → IsInserted x xs ys → (y : X) → (y ≡ x) ⊎ Has y xs → Has y ys
  has-inserted xs ys i y (inl e) = subst (Has y) (sym i.after) (members.has-append_right y i.front (x ∷ i.back) (inl e))
  has-inserted xs ys i y (inr h) = elim (members.has-append_cases y i.front i.back (subst (Has y) i.before h)) [ inl a ↦ subst (Has y) (sym i.after) (members.has-append_left y i.front (x ∷ i.back) a) | inr b ↦ subst (Has y) (sym i.after) (members.has-append_right y i.front (x ∷ i.back) (inr b)) ]

-- ---- one row

row-inserted : (k : Bytes) (v : Version) (vs : List Version) → IsInserted (version_fact k v) (row_facts k vs) (row_facts k (with_version v vs))
unfolding with_version
row-inserted k v [] = record { front = []; back = []; before = refl; after = refl }
row-inserted k v (w ∷ ws) = by (time_lt v.at w.at) (row-inserted k v ws)
  where
    by : (b : Bool) → IsInserted (version_fact k v) (row_facts k ws) (row_facts k (with_version v ws)) → IsInserted (version_fact k v) (row_facts k (w ∷ ws)) (row_facts k (cond b (w ∷ with_version v ws) (v ∷ w ∷ ws)))
    by true more = inserted-before (version_fact k v) (version_fact k w ∷ []) (row_facts k ws) (row_facts k (with_version v ws)) more
    by false more = record { front = []; back = row_facts k (w ∷ ws); before = refl; after = refl }

with-has : (w v : Version) (vs : List Version) → Has w (with_version v vs) → (w ≡ v) ⊎ Has w vs
unfolding with_version
with-has w v [] h = h
with-has w v (u ∷ us) h = by (time_lt v.at u.at) h (with-has w v us)
  where
    by : (b : Bool) → Has w (cond b (u ∷ with_version v us) (v ∷ u ∷ us)) → (Has w (with_version v us) → (w ≡ v) ⊎ Has w us) → (w ≡ v) ⊎ Has w (u ∷ us)
    by true (inl e) more = inr (inl e)
    by true (inr i) more = elim (more i) [ inl e ↦ inl e | inr j ↦ inr (inr j) ]
    by false (inl e) more = inl e
    by false (inr i) more = inr i

with-first : (v : Version) (vs : List Version) → IsNewestFirst vs → ((w : Version) → Has w vs → w.at ≡ v.at → ⊥) → IsNewestFirst (with_version v vs)
unfolding with_version IsNewestFirst
with-first v [] first fresh = (tt, tt)
with-first v (w ∷ ws) first fresh = by (time_lt v.at w.at) refl (with-first v ws first.1 (λ u h. fresh u (inr h)))
  where
    older : (u : Version) → Has u ws → time_lt u.at w.at ≡ true
    older u h = members.has-AllByRecursion (λ x. time_lt x.at w.at ≡ true) u ws first.0 h

    by : (b : Bool) → time_lt v.at w.at ≡ b → IsNewestFirst (with_version v ws) → IsNewestFirst (cond b (w ∷ with_version v ws) (v ∷ w ∷ ws))
    by true e more = (members.AllByRecursion-has (λ u. time_lt u.at w.at ≡ true) (with_version v ws) (λ u h. elim (with-has u v ws h) [ inl same ↦ ap (λ (x : Version). time_lt x.at w.at) same ∙ e | inr i ↦ older u i ]), more)
    by false e more =
        let lt : time_lt w.at v.at ≡ true = earlier w.at v.at (times.not_lt-le v.at w.at e) (fresh w (inl refl)) in
        (members.AllByRecursion-has (λ u. time_lt u.at v.at ≡ true) (w ∷ ws) (λ u h. elim h [ inl same ↦ ap (λ (x : Version). time_lt x.at v.at) same ∙ lt | inr i ↦ times.lt-trans u.at w.at v.at (older u i) lt ]), first)

-- ---- the row of a key among all

abbrev pub at_key : Bytes → Vec ℕ → Bool
at_key k = is_at (λ (q : Vec ℕ). bytes_cmp k q.items)

pub same-key : (k : Bytes) (q : Vec ℕ) → at_key k q ≡ true → q.items ≡ k
same-key k q e = sym (by (bytes_cmp k q.items) refl e)
  where
    by : (o : Ordering) → bytes_cmp k q.items ≡ o → is_eq o ≡ true → k ≡ q.items
    by Ordering.Less a b = absurd (true≢false (sym b))
    by Ordering.Equal a b = bytes_order.same k q.items a
    by Ordering.Greater a b = absurd (true≢false (sym b))

abbrev Fresh : Bytes → Version → List ByteFact → Type 0
Fresh k v fs = (g : ByteFact) → Has g fs → touches bytes_cmp k g ≡ true → date g ≡ v.at → ⊥

fresh-row : (k : Bytes) (v : Version) (vs : List Version) (fs : List ByteFact) → Fresh k v (row_facts k vs ++ fs) → (w : Version) → Has w vs → w.at ≡ v.at → ⊥
fresh-row k v vs fs fresh w h e = fresh (version_fact k w) (members.has-append_left (version_fact k w) (row_facts k vs) fs (members.has-map (version_fact k) w vs h)) (own-touches k w) (held-date k w.at w.value ∙ e)

put-there : (k : Bytes) (v : Version) (es : List (Vec ℕ × List Version)) (vs : List Version) → lookup (at_key k) es ≡ Some vs → IsInserted (version_fact k v) (map_facts es) (map_facts (set_value (at_key k) es (with_version v vs)))
unfolding map_facts
put-there k v [] vs e = absurd (cc)
put-there k v (d ∷ es) vs e = by (at_key k d.0) refl e (put-there k v es vs)
  where
    by : (b : Bool) → at_key k d.0 ≡ b → cond b (Some d.1) (lookup (at_key k) es) ≡ Some vs → (lookup (at_key k) es ≡ Some vs → IsInserted (version_fact k v) (map_facts es) (map_facts (set_value (at_key k) es (with_version v vs)))) → IsInserted (version_fact k v) (row_facts d.0.items d.1 ++ map_facts es) (map_facts (cond b ((d.0, with_version v vs) ∷ es) (d ∷ set_value (at_key k) es (with_version v vs))))
    by true t f more =
        let is : vs ≡ d.1 = (cc) in
        let key = same-key k d.0 t in
        subst (λ (q : Bytes). IsInserted (version_fact k v) (row_facts q d.1 ++ map_facts es) (row_facts q (with_version v vs) ++ map_facts es)) (sym key) (subst (λ (ws : List Version). IsInserted (version_fact k v) (row_facts k ws ++ map_facts es) (row_facts k (with_version v vs) ++ map_facts es)) is (inserted-after (version_fact k v) (row_facts k vs) (row_facts k (with_version v vs)) (map_facts es) (row-inserted k v vs)))
    by false t f more = inserted-before (version_fact k v) (row_facts d.0.items d.1) (map_facts es) (map_facts (set_value (at_key k) es (with_version v vs))) (more f)

first-there : (k : Bytes) (v : Version) (es : List (Vec ℕ × List Version)) (vs : List Version) → lookup (at_key k) es ≡ Some vs → AllNewestFirst es → Fresh k v (map_facts es) → AllNewestFirst (set_value (at_key k) es (with_version v vs))
unfolding map_facts
first-there k v [] vs e first fresh = tt
first-there k v (d ∷ es) vs e first fresh = by (at_key k d.0) refl e (λ f. first-there k v es vs f first.1 (λ g h. fresh g (members.has-append_right g (row_facts d.0.items d.1) (map_facts es) h)))
  where
    by : (b : Bool) → at_key k d.0 ≡ b → cond b (Some d.1) (lookup (at_key k) es) ≡ Some vs → (lookup (at_key k) es ≡ Some vs → AllNewestFirst (set_value (at_key k) es (with_version v vs))) → AllNewestFirst (cond b ((d.0, with_version v vs) ∷ es) (d ∷ set_value (at_key k) es (with_version v vs)))
    by true t f more =
        let is : d.1 ≡ vs = (cc) in
        (with-first v vs (subst IsNewestFirst is first.0) (fresh-row k v vs (map_facts es) (subst (λ (ws : List Version). Fresh k v (row_facts k ws ++ map_facts es)) is (subst (λ (q : Bytes). Fresh k v (row_facts q d.1 ++ map_facts es)) (same-key k d.0 t) fresh))), first.1)
    by false t f more = (first.0, more f)

pub added-there : (k : Bytes) (v : Version) (es new : List (Vec ℕ × List Version)) (vs ws : List Version) → lookup (at_key k) es ≡ Some vs → ws ≡ with_version v vs → new ≡ set_value (at_key k) es ws → IsRowAdded (version_fact k v) es new
added-there k v es new vs ws found is e = subst (λ (ds : List (Vec ℕ × List Version)). IsRowAdded (version_fact k v) es ds) (sym (e ∙ ap (set_value (at_key k) es) is)) (record {
  put = put-there k v es vs found;
  first = λ first fresh. first-there k v es vs found first (λ g h t d. fresh g h (ap (λ (q : Bytes). touches bytes_cmp q g) (held-key k v.at v.value) ∙ t) (d ∙ sym (held-date k v.at v.value)));
})

-- ---- a row more

abbrev pub key_cmp : Vec ℕ → Vec ℕ → Ordering
key_cmp p q = bytes_cmp p.items q.items

put-new : (k : Vec ℕ) (v : Version) (es : List (Vec ℕ × List Version)) → lookup (at_key k.items) es ≡ None → IsInserted (version_fact k.items v) (map_facts es) (map_facts (insert_entry key_cmp es k (v ∷ [])))
unfolding map_facts
put-new k v [] e = record { front = []; back = []; before = refl; after = refl }
put-new k v (d ∷ es) e = by (bytes_cmp k.items d.0.items) refl e (put-new k v es)
  where
    by : (o : Ordering) → bytes_cmp k.items d.0.items ≡ o → cond (is_eq o) (Some d.1) (lookup (at_key k.items) es) ≡ None → (lookup (at_key k.items) es ≡ None → IsInserted (version_fact k.items v) (map_facts es) (map_facts (insert_entry key_cmp es k (v ∷ [])))) → IsInserted (version_fact k.items v) (row_facts d.0.items d.1 ++ map_facts es) (map_facts (match_ordering o ((k, v ∷ []) ∷ d ∷ es) ((d.0, v ∷ []) ∷ es) (d ∷ insert_entry key_cmp es k (v ∷ []))))
    by Ordering.Less c f more = record { front = []; back = row_facts d.0.items d.1 ++ map_facts es; before = refl; after = refl }
    by Ordering.Equal c f more = absurd (cc)
    by Ordering.Greater c f more = inserted-before (version_fact k.items v) (row_facts d.0.items d.1) (map_facts es) (map_facts (insert_entry key_cmp es k (v ∷ []))) (more f)

first-new : (k : Vec ℕ) (v : Version) (es : List (Vec ℕ × List Version)) → AllNewestFirst es → AllNewestFirst (insert_entry key_cmp es k (v ∷ []))
unfolding IsNewestFirst
first-new k v [] first = ((tt, tt), tt)
first-new k v (d ∷ es) first = by (bytes_cmp k.items d.0.items) (first-new k v es first.1)
  where
    by : (o : Ordering) → AllNewestFirst (insert_entry key_cmp es k (v ∷ [])) → AllNewestFirst (match_ordering o ((k, v ∷ []) ∷ d ∷ es) ((d.0, v ∷ []) ∷ es) (d ∷ insert_entry key_cmp es k (v ∷ [])))
    by Ordering.Less more = ((tt, tt), first)
    by Ordering.Equal more = ((tt, tt), first.1)
    by Ordering.Greater more = (first.0, more)

pub added-new : (k : Bytes) (q : Vec ℕ) (v : Version) (es new : List (Vec ℕ × List Version)) (ws : List Version) → q.items ≡ k → lookup (at_key k) es ≡ None → ws ≡ with_version v [] → new ≡ insert_entry key_cmp es q ws → IsRowAdded (version_fact k v) es new
unfolding with_version
added-new k q v es new ws key none is e = subst (λ (ds : List (Vec ℕ × List Version)). IsRowAdded (version_fact k v) es ds) (sym (e ∙ ap (insert_entry key_cmp es q) is)) (record {
  put = subst (λ (b : Bytes). IsInserted (version_fact b v) (map_facts es) (map_facts (insert_entry key_cmp es q (v ∷ [])))) key (put-new q v es (ap (λ (b : Bytes). lookup (at_key b) es) key ∙ none));
  first = λ first fresh. first-new q v es first;
})
