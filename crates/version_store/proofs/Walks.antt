-- Steps of the walks over facts.
use Rattle.std.proofs.Common.{◌≡◌, ◌∙◌, ℕ, ◌+◌, ◌<◌, ◌≤◌, Bool, true, false, cond, sym, refl, ap, List, [], ◌∷◌, ◌++◌, length, get_or, drop, map, filter, ◌&&◌, Option, Some, None, append_assoc, append-nil}
use Rattle.std.proofs.lemmas.List.{drop_more, drop_all}
use Rattle.mvcc_keys.specs.Times.{Time, time_le}
use Rattle.mvcc_keys.specs.declared.entries.Entry.{Entry}
use Rattle.fact_model.specs.Facts.{date, later, newest, touches, value, Version}
use Rattle.fact_model.specs.Listed.{key_of}
use Rattle.fact_model.specs.Ordered.{ordered}
use Rattle.fact_model.specs.Scans.{items, with_item, keys_put, scan, image, put_of}
use Rattle.fact_model.proofs.Orders.{ordered-map}
use Rattle.version_store.specs.Tables.{Bytes, bytes_cmp, entries_of}
use Rattle.version_store.specs.Lists.{fact_of, facts_of, is_of, of_table, is_put, is_listed, listing_cmp, listed, newest_step, seen_item}
use Rattle.version_store.specs.declared.listings.Listing.TheVariants.{Puts}

-- the newest among the facts from i on, from that of those after
pub newest_more : (id : ℕ) (k : Bytes) (t : Time) (xs : List Entry) (i j : ℕ) (d : Entry) → j ≡ i + 1 → i < length xs → newest bytes_cmp k t (facts_of (of_table id (drop i xs))) ≡ newest_step id k t (get_or xs i d) (newest bytes_cmp k t (facts_of (of_table id (drop j xs))))
unfolding newest
newest_more id k t xs i j d e l = rw (e, drop_more xs i d l) (by (is_of id (get_or xs i d)))
  where
    by : (b : Bool) → newest bytes_cmp k t (facts_of (cond b (get_or xs i d ∷ of_table id (drop (i + 1) xs)) (of_table id (drop (i + 1) xs)))) ≡ cond b (cond (touches bytes_cmp k (fact_of (get_or xs i d)) && time_le (date (fact_of (get_or xs i d))) t) (later (fact_of (get_or xs i d)) (newest bytes_cmp k t (facts_of (of_table id (drop (i + 1) xs))))) (newest bytes_cmp k t (facts_of (of_table id (drop (i + 1) xs))))) (newest bytes_cmp k t (facts_of (of_table id (drop (i + 1) xs))))
    by true = refl
    by false = refl

pub newest_none : (id : ℕ) (k : Bytes) (t : Time) (xs : List Entry) (i : ℕ) → length xs ≤ i → newest bytes_cmp k t (facts_of (of_table id (drop i xs))) ≡ None
unfolding newest
newest_none id k t xs i l = rw (drop_all i xs l)

-- ---- scans

-- the keys of entries
abbrev pub keys_of : List Entry → List Bytes
keys_of es = map (λ e. key_of (fact_of e)) es

-- the visible puts of some keys
abbrev pub seen_of : (Bytes → Option (Version Bytes)) → List Bytes → List Entry
seen_of shown ks = entries_of (map put_of (items shown ks))

pub seen-from : (shown : Bytes → Option (Version Bytes)) (k : Bytes) (ks : List Bytes) → seen_of shown (k ∷ ks) ≡ seen_item k (shown k) ++ seen_of shown ks
unfolding items
seen-from shown k ks = by (shown k)
  where
    by : (r : Option (Version Bytes)) → entries_of (map put_of (with_item k r (items shown ks))) ≡ seen_item k r ++ entries_of (map put_of (items shown ks))
    by None = refl
    by (Some v) = refl

-- a step of the walk over the listed puts, and its end
pub seen-more : (shown : Bytes → Option (Version Bytes)) (puts : List Entry) (i : ℕ) (e : Entry) (k : Bytes) (old new whole : List Entry) → i < length puts → e ≡ get_or puts i e → k ≡ key_of (fact_of e) → new ≡ old ++ seen_item k (shown k) → old ++ seen_of shown (keys_of (drop i puts)) ≡ whole → new ++ seen_of shown (keys_of (drop (i + 1) puts)) ≡ whole
seen-more shown puts i e k old new whole l at key pushed kept = ap (λ (xs : List Entry). xs ++ rest) pushed ∙ (append_assoc old (seen_item k (shown k)) rest ∙ (ap (λ (xs : List Entry). old ++ xs) (sym there) ∙ kept))
  where
    rest : List Entry
    rest = seen_of shown (keys_of (drop (i + 1) puts))

    there : seen_of shown (keys_of (drop i puts)) ≡ seen_item k (shown k) ++ rest
    there = ap (λ (es : List Entry). seen_of shown (keys_of es)) (drop_more puts i e l) ∙ (seen-from shown (key_of (fact_of (get_or puts i e))) (keys_of (drop (i + 1) puts)) ∙ ap (λ (q : Bytes). seen_item q (shown q) ++ rest) (ap (λ (x : Entry). key_of (fact_of x)) (sym at) ∙ sym key))

keys-put : (id : ℕ) (es : List Entry) → keys_of (filter (λ e. is_of id e && is_listed Puts e) es) ≡ keys_put (facts_of (of_table id es))
unfolding keys_put
keys-put id [] = refl
keys-put id (e ∷ es) = by (is_of id e) e (keys-put id es)
  where
    by : (b : Bool) (e : Entry) → keys_of (filter (λ e. is_of id e && is_listed Puts e) es) ≡ keys_put (facts_of (of_table id es)) → keys_of (cond (b && is_put (fact_of e)) (e ∷ filter (λ e. is_of id e && is_listed Puts e) es) (filter (λ e. is_of id e && is_listed Puts e) es)) ≡ keys_put (facts_of (cond b (e ∷ of_table id es) (of_table id es)))
    by false e more = more
    by true (Entry.Put k t v) more = ap (λ (ks : List Bytes). k ∷ ks) more
    by true (Entry.Del k t) more = more
    by true (Entry.Range lo hi t) more = more

keys-listed : (id : ℕ) (es : List Entry) → keys_of (listed Puts id es) ≡ ordered bytes_cmp (keys_put (facts_of (of_table id es)))
unfolding listed
keys-listed id es = sym (ordered-map (listing_cmp Puts) bytes_cmp (λ (e : Entry). key_of (fact_of e)) (λ e. Unit {0}) (λ a b p q. refl) (filter (λ e. is_of id e && is_listed Puts e) es) (λ e h. tt)) ∙ ap (ordered bytes_cmp) (keys-put id es)

pub seen-all : (id : ℕ) (t : Time) (es puts seen : List Entry) (i : ℕ) → length puts ≤ i → puts ≡ listed Puts id es → seen ++ seen_of (λ k. value bytes_cmp k t (facts_of (of_table id es))) (keys_of (drop i puts)) ≡ seen_of (λ k. value bytes_cmp k t (facts_of (of_table id es))) (keys_of puts) → seen ≡ entries_of (image bytes_cmp t (facts_of (of_table id es)))
unfolding image scan items
seen-all id t es puts seen i l e kept = sym (append-nil seen) ∙ (ap (λ (xs : List Entry). seen ++ seen_of (λ k. value bytes_cmp k t (facts_of (of_table id es))) (keys_of xs)) (sym (drop_all i puts l)) ∙ (kept ∙ ap (seen_of (λ k. value bytes_cmp k t (facts_of (of_table id es)))) (ap keys_of e ∙ keys-listed id es)))

-- ---- a filter of what is left

filter-from : {X : Type 0} (p : X → Bool) (x : X) (xs : List X) → filter p (x ∷ xs) ≡ filter p (x ∷ []) ++ filter p xs
filter-from p x xs = by (p x)
  where
    by : (b : Bool) → cond b (x ∷ filter p xs) (filter p xs) ≡ cond b (x ∷ []) [] ++ filter p xs
    by true = refl
    by false = refl

pub staying-more : {X : Type 0} (p : X → Bool) (xs : List X) (i : ℕ) (x : X) (old new whole : List X) → i < length xs → x ≡ get_or xs i x → new ≡ old ++ filter p (x ∷ []) → old ++ filter p (drop i xs) ≡ whole → new ++ filter p (drop (i + 1) xs) ≡ whole
staying-more {X} p xs i x old new whole l at pushed kept = ap (λ (ys : List X). ys ++ filter p (drop (i + 1) xs)) pushed ∙ (append_assoc old (filter p (x ∷ [])) (filter p (drop (i + 1) xs)) ∙ (ap (λ (ys : List X). old ++ ys) (sym there) ∙ kept))
  where
    there : filter p (drop i xs) ≡ filter p (x ∷ []) ++ filter p (drop (i + 1) xs)
    there = ap (filter p) (drop_more xs i x l) ∙ (filter-from p (get_or xs i x) (drop (i + 1) xs) ∙ ap (λ (y : X). filter p (y ∷ []) ++ filter p (drop (i + 1) xs)) (sym at))
