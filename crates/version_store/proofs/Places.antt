-- Listings, one fact after the other.
use Rattle.std.proofs.Common.{◌≡◌, ◌∙◌, ℕ, ◌+◌, ◌<◌, ◌≤◌, Bool, true, false, cond, sym, refl, ap, List, [], ◌∷◌, ◌++◌, length, get_or, take, drop, insert, filter, ◌&&◌, Ordering, Less, Equal, Greater, append_assoc}
use Rattle.std.proofs.lemmas.List.{drop_more, take_more, drop_all, take-append-drop}
use Rattle.mvcc_keys.specs.declared.entries.Entry.{Entry}
use Rattle.fact_model.specs.Ordered.{by_order, insert_by, ordered}
use Rattle.version_store.specs.declared.listings.Listing.{Listing}
use Rattle.version_store.specs.Lists.{is_of, is_listed, listing_cmp, listed, with_listed}

-- ---- the place of a fact

module _ {X : Type 0} (cmp : X → X → Ordering) (x d : X) (ys : List X) (i : ℕ) (l : i < length ys) (at : insert_by cmp x ys ≡ take i ys ++ insert_by cmp x (drop i ys)) where
  here : drop i ys ≡ get_or ys i d ∷ drop (i + 1) ys
  here = drop_more ys i d l

  by : (o : Ordering) → cmp x (get_or ys i d) ≡ o → insert_by cmp x ys ≡ take i ys ++ by_order o (x ∷ get_or ys i d ∷ drop (i + 1) ys) (get_or ys i d ∷ drop (i + 1) ys) (get_or ys i d ∷ insert_by cmp x (drop (i + 1) ys))
  unfolding insert_by
  by o e = at ∙ ap (λ (zs : List X). take i ys ++ zs) (ap (insert_by cmp x) here ∙ ap (λ (r : Ordering). by_order r (x ∷ get_or ys i d ∷ drop (i + 1) ys) (get_or ys i d ∷ drop (i + 1) ys) (get_or ys i d ∷ insert_by cmp x (drop (i + 1) ys))) e)

  pub place-greater : cmp x (get_or ys i d) ≡ Greater → insert_by cmp x ys ≡ take (i + 1) ys ++ insert_by cmp x (drop (i + 1) ys)
  place-greater e = by Greater e ∙ (sym (append_assoc (take i ys) (get_or ys i d ∷ []) (insert_by cmp x (drop (i + 1) ys))) ∙ ap (λ (zs : List X). zs ++ insert_by cmp x (drop (i + 1) ys)) (sym (take_more ys i d l)))

  pub place-less : cmp x (get_or ys i d) ≡ Less → insert_by cmp x ys ≡ insert ys i x
  place-less e = by Less e ∙ ap (λ (zs : List X). take i ys ++ x ∷ zs) (sym here)

  pub place-equal : cmp x (get_or ys i d) ≡ Equal → insert_by cmp x ys ≡ ys
  place-equal e = by Equal e ∙ (ap (λ (zs : List X). take i ys ++ zs) (sym here) ∙ take-append-drop i ys)

pub place-end : {X : Type 0} (cmp : X → X → Ordering) (x : X) (ys : List X) (i : ℕ) → length ys ≤ i → insert_by cmp x ys ≡ take i ys ++ insert_by cmp x (drop i ys) → insert_by cmp x ys ≡ insert ys i x
unfolding insert_by
place-end cmp x ys i l at = at ∙ (ap (λ zs. take i ys ++ insert_by cmp x zs) (drop_all i ys l) ∙ ap (λ zs. take i ys ++ x ∷ zs) (sym (drop_all i ys l)))

-- ---- the listing of the facts from i on

pub listed_more : (l : Listing) (id : ℕ) (xs : List Entry) (i j : ℕ) (d : Entry) → j ≡ i + 1 → i < length xs → listed l id (drop i xs) ≡ with_listed l id (get_or xs i d) (listed l id (drop j xs))
unfolding listed ordered
listed_more l id xs i j d e inside = rw (e, drop_more xs i d inside) (by (is_of id (get_or xs i d) && is_listed l (get_or xs i d)))
  where
    P : Entry → Bool
    P x = is_of id x && is_listed l x

    by : (b : Bool) → ordered (listing_cmp l) (cond b (get_or xs i d ∷ filter P (drop (i + 1) xs)) (filter P (drop (i + 1) xs))) ≡ cond b (insert_by (listing_cmp l) (get_or xs i d) (ordered (listing_cmp l) (filter P (drop (i + 1) xs)))) (ordered (listing_cmp l) (filter P (drop (i + 1) xs)))
    by true = refl
    by false = refl

pub listed_none : (l : Listing) (id : ℕ) (xs : List Entry) (i : ℕ) → length xs ≤ i → listed l id (drop i xs) ≡ []
unfolding listed ordered
listed_none l id xs i past = rw (drop_all i xs past)
