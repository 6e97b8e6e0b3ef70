-- A merge over the chunks that may hold a key that is asked for shows of these keys what all chunks show.
use Rattle.std.proofs.Common.{◌≡◌, ◌≤◌, ◌<◌, ◌+◌, ℕ, zero, suc, Bool, true, false, cond, ◌&&◌, sym, refl, ap, ap₂, ◌∙◌, subst, List, [], ◌∷◌, ◌++◌, filter, map, slice_get, Option, Some, None, inl, inr, Ordering, Less, Equal, Greater, is_eq, is_lt, true≢false, arith}
use Rattle.std.specs.List.{range_with_len}
use Rattle.std.specs.Prelude.{◌==◌}
use Rattle.std.proofs.lemmas.Bool.Decides.{nat_tests}
use Rattle.std.specs.Cmp.{IsTotalOrder}
use Rattle.std.specs.Ordering.{is_le, on}
use Rattle.std.proofs.lemmas.Cmp.{on_total, tied_itself}
use Rattle.std.proofs.lemmas.List.Sums.{sum_by-cons}
use Rattle.std.proofs.lemmas.List.Kept.{IsStrictlySortedBy-filter}
use Rattle.mvcc_keys.specs.Times.{Time}
use Rattle.mvcc_keys.specs.Entries.{end_of, key_of}
use Rattle.mvcc_keys.specs.declared.entries.Entry.{Entry}
use Rattle.list_laws.specs.Members.{Has, AllIn}
use Rattle.list_laws.proofs.Bools.{and-both, and-parts}
use Rattle.list_laws.proofs.Filters.{filter-all, filter-map}
use Rattle.list_laws.proofs.Members as members
use Rattle.fact_model.specs.Facts.{Fact, IsApart, IsKeyOrder, newest, touches, value, version_of}
use Rattle.fact_model.specs.Newest.{IsNewest}
use Rattle.fact_model.specs.Scans.{Item, scan}
use Rattle.fact_model.proofs.Newest as newests
use Rattle.fact_model.proofs.Orders as orders
use Rattle.fact_model.proofs.Scanned as scanned
use Rattle.chunk_file.specs.Entries.{are_ordered, comes_before, may_follow}
use Rattle.chunk_file.proofs.EntryOrder.{entries-ordered}
use Rattle.version_store.specs.Tables.{Bytes, ByteFact, bytes_cmp}
use Rattle.version_store.specs.Lists.{fact_of, facts_of}
use Rattle.version_store.proofs.Bytes.{bytes_order}
use Rattle.layer_merge.specs.declared.parts.Part.{Part}
use Rattle.layer_merge.specs.declared.ranges.Waiting.{Waiting}
use Rattle.layer_merge.specs.declared.wanted.Wanted.{Wanted}
use Rattle.layer_merge.specs.FromLast.{from_last}
use Rattle.layer_merge.specs.Loads.{Load, World, load}
use Rattle.layer_merge.specs.Nexts.{to_come}
use Rattle.layer_merge.specs.Parts.{AreProper, AreWaiting, IsCountedChunk, counted_entries, entries_of_part, entries_of_parts, is_introduced, merge_rows}
use Rattle.layer_merge.specs.Rows.{is_asked, put_of, rows_left}
use Rattle.layer_merge.specs.Stands.{Stand, entries_in, is_below}
use Rattle.layer_merge.specs.Starts.{AreInOrder, part_entries, parts_entries}
use Rattle.layer_merge.specs.Steps.{is_load, loads_of, times, to_begin, to_load}
use Rattle.layer_merge.specs.Walks.{IsAtWork, IsToLoad, MergesOver, WalkState, may_load}
use Rattle.layer_merge.specs.Within.{AreAsked, AreBounded, IsWantedChunk, entries_asked, keys_within, loads_asked, may_hold, reaches, rows_within, wanted_entries, wanted_loads, wanted_numbers}
use Rattle.layer_merge.proofs.NextRows.{facts-have}
use Rattle.layer_merge.proofs.StepLaws.{times-then, weight}

-- ---- the order of bytes

le-trans : (a b c : Bytes) → is_le (bytes_cmp a b) ≡ true → is_le (bytes_cmp b c) ≡ true → is_le (bytes_cmp a c) ≡ true
le-trans a b c = by (bytes_cmp a b) refl (bytes_cmp b c) refl
  where
    by : (o : Ordering) → bytes_cmp a b ≡ o → (p : Ordering) → bytes_cmp b c ≡ p → is_le o ≡ true → is_le p ≡ true → is_le (bytes_cmp a c) ≡ true
    by Less e Less f l m = ap is_le (bytes_order.total.trans a b c e f)
    by Less e Equal f l m = subst (λ (x : Bytes). is_le (bytes_cmp a x) ≡ true) (bytes_order.same b c f) (ap is_le e)
    by Less e Greater f l m = absurd (true≢false (sym m))
    by Equal e p f l m = subst (λ (x : Bytes). is_le (bytes_cmp x c) ≡ true) (sym (bytes_order.same a b e)) (ap is_le f ∙ m)
    by Greater e p f l m = absurd (true≢false (sym l))

le-lt : (a b c : Bytes) → is_le (bytes_cmp a b) ≡ true → is_lt (bytes_cmp b c) ≡ true → is_lt (bytes_cmp a c) ≡ true
le-lt a b c = by (bytes_cmp a b) refl (bytes_cmp b c) refl
  where
    by : (o : Ordering) → bytes_cmp a b ≡ o → (p : Ordering) → bytes_cmp b c ≡ p → is_le o ≡ true → is_lt p ≡ true → is_lt (bytes_cmp a c) ≡ true
    by Less e Less f l m = ap is_lt (bytes_order.total.trans a b c e f)
    by Less e Equal f l m = absurd (true≢false (sym m))
    by Less e Greater f l m = absurd (true≢false (sym m))
    by Equal e p f l m = subst (λ (x : Bytes). is_lt (bytes_cmp x c) ≡ true) (sym (bytes_order.same a b e)) (ap is_lt f ∙ m)
    by Greater e p f l m = absurd (true≢false (sym l))

lt-le : (o : Ordering) → is_lt o ≡ true → is_le o ≡ true
lt-le Less h = refl
lt-le Equal h = absurd (true≢false (sym h))
lt-le Greater h = absurd (true≢false (sym h))

eq-le : (o : Ordering) → is_eq o ≡ true → is_le o ≡ true
eq-le Less h = absurd (true≢false (sym h))
eq-le Equal h = refl
eq-le Greater h = absurd (true≢false (sym h))

-- an entry that touches a key begins at it or before, and ends at it or after
key-upto : (k : Bytes) (e : Entry) → touches bytes_cmp k (fact_of e) ≡ true → is_le (bytes_cmp (key_of e) k) ≡ true
key-upto k (Entry.Put key at v) h = eq-le (bytes_cmp key k) h
key-upto k (Entry.Del key at) h = eq-le (bytes_cmp key k) h
key-upto k (Entry.Range lo hi at) h = (and-parts (is_le (bytes_cmp lo k)) (is_lt (bytes_cmp k hi)) h).0

turned : (a b : Bytes) → is_eq (bytes_cmp a b) ≡ true → is_le (bytes_cmp b a) ≡ true
turned a b h = subst (λ (x : Bytes). is_le (bytes_cmp b x) ≡ true) (sym (orders.tied bytes_cmp bytes_order a b h)) (ap is_le (tied_itself bytes_order.total b))

upto-end : (k : Bytes) (e : Entry) → touches bytes_cmp k (fact_of e) ≡ true → is_le (bytes_cmp k (end_of e)) ≡ true
upto-end k (Entry.Put key at v) h = turned key k h
upto-end k (Entry.Del key at) h = turned key k h
upto-end k (Entry.Range lo hi at) h = lt-le (bytes_cmp k hi) (and-parts (is_le (bytes_cmp lo k)) (is_lt (bytes_cmp k hi)) h).1

below-least : (hi : Option Bytes) (least k : Bytes) → is_below hi k ≡ true → is_le (bytes_cmp least k) ≡ true → is_below hi least ≡ true
below-least None least k b l = refl
below-least (Some hi) least k b l = le-lt least k hi l b

-- a chunk within its bounds that has an entry that touches a key that is asked for may hold one
reached : (v : Wanted) (k least greatest : Bytes) (e : Entry) → is_asked v k ≡ true → touches bytes_cmp k (fact_of e) ≡ true → is_le (bytes_cmp least (key_of e)) ≡ true → is_le (bytes_cmp (end_of e) greatest) ≡ true → reaches v least greatest ≡ true
reached v k least greatest e a h l g =
    let q = and-parts (is_le (bytes_cmp v.lo k)) (is_below v.hi k) a in
    and-both (is_le (bytes_cmp v.lo greatest)) (is_below v.hi least) (le-trans v.lo k greatest q.0 (le-trans k (end_of e) greatest (upto-end k e h) g)) (below-least v.hi least k q.1 (le-trans least (key_of e) k l (key-upto k e h)))

-- ---- over any facts

module _ {K V : Type 0} (cmp : K → K → Ordering) (o : IsKeyOrder cmp) (asked : K → Bool) (t : Time) (some all : List (Fact K V)) (apart : IsApart cmp all) (sub : (f : Fact K V) → Has f some → Has f all) (there : (k : K) (f : Fact K V) → asked k ≡ true → Has f all → touches cmp k f ≡ true → Has f some) where
  newest-some : (k : K) → asked k ≡ true → (r : Option (Fact K V)) → IsNewest cmp k t some r → IsNewest cmp k t all r
  newest-some k a None h = λ g i p d. h g (there k g a i p) p d
  newest-some k a (Some f) h = record { among = sub f h.among; touching = h.touching; dated = h.dated; last = λ g i p d. h.last g (there k g a i p) p d }

  value-same : (k : K) → asked k ≡ true → value cmp k t some ≡ value cmp k t all
  unfolding value
  value-same k a = ap version_of (newests.newest-only cmp k t all apart (newest cmp k t some) (newest-some k a (newest cmp k t some) (newests.newest-is cmp k t some)))

  abbrev picked : List (Fact K V) → List (Item K V)
  picked fs = filter (λ (i : Item K V). asked i.key) (scan cmp t fs)

  shown : (xs ys : List (Fact K V)) → ((k : K) → asked k ≡ true → value cmp k t xs ≡ value cmp k t ys) → AllIn (picked xs) (picked ys)
  shown xs ys e i h =
      let a = members.filter-passes (λ (j : Item K V). asked j.key) i (scan cmp t xs) h in
      let s = ((scanned.scan-is cmp o t xs).shows i).0 (members.filter-has (λ (j : Item K V). asked j.key) i (scan cmp t xs) h) in
      members.has-filter (λ (j : Item K V). asked j.key) i (scan cmp t ys) (((scanned.scan-is cmp o t ys).shows i).1 (sym (e i.key a) ∙ s)) a

  items-total : IsTotalOrder (on (λ (i : Item K V). i.key) cmp)
  items-total = on_total (λ (i : Item K V). i.key) o.total

  pub scans-same : picked some ≡ picked all
  scans-same = orders.ascending-same (on (λ (i : Item K V). i.key) cmp) items-total (picked some) (picked all) (IsStrictlySortedBy-filter (on (λ (i : Item K V). i.key) cmp) (λ (j : Item K V). asked j.key) (scan cmp t some) (scanned.scan-is cmp o t some).ascends) (IsStrictlySortedBy-filter (on (λ (i : Item K V). i.key) cmp) (λ (j : Item K V). asked j.key) (scan cmp t all) (scanned.scan-is cmp o t all).ascends) (shown some all value-same) (shown all some (λ k a. sym (value-same k a)))

-- ---- the entries of chunks

in-chunk : (w : World) (layer : ℕ) (ns : List ℕ) (e : Entry) → Has e (entries_in w layer ns) → (n : ℕ) × (Has n ns × Has e (w layer n))
in-chunk w layer [] e h = absurd h
in-chunk w layer (n ∷ ns) e h = elim (members.has-append_cases e (w layer n) (entries_in w layer ns) h) [ inl i ↦ (n, (inl refl, i)) | inr j ↦ (let c = in-chunk w layer ns e j in (c.0, (inr c.1.0, c.1.1))) ]

chunk-in : (w : World) (layer : ℕ) (ns : List ℕ) (n : ℕ) (e : Entry) → Has n ns → Has e (w layer n) → Has e (entries_in w layer ns)
chunk-in w layer [] n e h i = absurd h
chunk-in w layer (x ∷ ns) n e (inl q) i = members.has-append_left e (w layer x) (entries_in w layer ns) (subst (λ (y : ℕ). Has e (w layer y)) q i)
chunk-in w layer (x ∷ ns) n e (inr j) i = members.has-append_right e (w layer x) (entries_in w layer ns) (chunk-in w layer ns n e j i)

abbrev holds : Wanted → Part → ℕ → Bool
holds v p n = may_hold v (slice_get p.bounds.items n)

module _ (w : World) (v : Wanted) where
  part-sub : (p : Part) (e : Entry) → Has e (entries_in w p.layer (wanted_numbers v p)) → Has e (entries_of_part w p)
  part-sub p e h = let c = in-chunk w p.layer (wanted_numbers v p) e h in chunk-in w p.layer (range_with_len 0 p.chunks) c.0 e (members.filter-has (holds v p) c.0 (range_with_len 0 p.chunks) c.1.0) c.1.1

  parts-sub : (ps : List Part) (e : Entry) → Has e (entries_asked w v ps) → Has e (entries_of_parts w ps)
  parts-sub [] e h = h
  parts-sub (p ∷ ps) e h = elim (members.has-append_cases e (entries_in w p.layer (wanted_numbers v p)) (entries_asked w v ps) h) [ inl i ↦ members.has-append_left e (entries_of_part w p) (entries_of_parts w ps) (part-sub p e i) | inr j ↦ members.has-append_right e (entries_of_part w p) (entries_of_parts w ps) (parts-sub ps e j) ]

  -- a chunk that holds an entry that touches a key that is asked for isn't passed over
  abbrev Keeps : Part → Type 0
  Keeps p = (n : ℕ) (e : Entry) (k : Bytes) → is_asked v k ≡ true → touches bytes_cmp k (fact_of e) ≡ true → Has e (w p.layer n) → holds v p n ≡ true

  part-there : (p : Part) → Keeps p → (k : Bytes) (e : Entry) → is_asked v k ≡ true → touches bytes_cmp k (fact_of e) ≡ true → Has e (entries_of_part w p) → Has e (entries_in w p.layer (wanted_numbers v p))
  part-there p keeps k e a h i = let c = in-chunk w p.layer (range_with_len 0 p.chunks) e i in chunk-in w p.layer (wanted_numbers v p) c.0 e (members.has-filter (holds v p) c.0 (range_with_len 0 p.chunks) c.1.0 (keeps c.0 e k a h c.1.1)) c.1.1

  parts-there : (ps : List Part) → ((p : Part) → Has p ps → Keeps p) → (k : Bytes) (e : Entry) → is_asked v k ≡ true → touches bytes_cmp k (fact_of e) ≡ true → Has e (entries_of_parts w ps) → Has e (entries_asked w v ps)
  parts-there [] keeps k e a h i = i
  parts-there (p ∷ ps) keeps k e a h i = elim (members.has-append_cases e (entries_of_part w p) (entries_of_parts w ps) i) [ inl j ↦ members.has-append_left e (entries_in w p.layer (wanted_numbers v p)) (entries_asked w v ps) (part-there p (keeps p (inl refl)) k e a h j) | inr j ↦ members.has-append_right e (entries_in w p.layer (wanted_numbers v p)) (entries_asked w v ps) (parts-there ps (λ q x. keeps q (inr x)) k e a h j) ]

  keeps-bounded : (ps : List Part) → AreBounded w ps → (p : Part) → Has p (from_last is_introduced ps) → Keeps p
  keeps-bounded ps b p i n e k a h x = by (slice_get p.bounds.items n) refl
    where
      by : (r : Option (Option (Bytes × Bytes))) → slice_get p.bounds.items n ≡ r → may_hold v r ≡ true
      by None q = refl
      by (Some None) q = refl
      by (Some (Some bounds)) q = let c = b p n bounds e i q x in reached v k bounds.0 bounds.1 e a h c.0 c.1

-- ---- order

follows : (d : Entry) (last : Option Entry) (ys : List Entry) → may_follow last d ≡ true → are_ordered (Some d) ys ≡ true → are_ordered last ys ≡ true
follows d last [] f o = refl
follows d None (y ∷ ys) f o = (and-parts (comes_before d y) (are_ordered (Some y) ys) o).1
follows d (Some c) (y ∷ ys) f o = let p = and-parts (comes_before d y) (are_ordered (Some y) ys) o in and-both (comes_before c y) (are_ordered (Some y) ys) (entries-ordered.chains c d y f p.0) p.1

ordered-skip : (last : Option Entry) (xs ys : List Entry) → are_ordered last (xs ++ ys) ≡ true → are_ordered last ys ≡ true
ordered-skip last [] ys o = o
ordered-skip last (x ∷ xs) ys o = let p = and-parts (may_follow last x) (are_ordered (Some x) (xs ++ ys)) o in follows x last ys p.0 (ordered-skip (Some x) xs ys p.1)

ordered-fewer : (last : Option Entry) (xs ys zs : List Entry) → ((l : Option Entry) → are_ordered l ys ≡ true → are_ordered l zs ≡ true) → are_ordered last (xs ++ ys) ≡ true → are_ordered last (xs ++ zs) ≡ true
ordered-fewer last [] ys zs f o = f last o
ordered-fewer last (x ∷ xs) ys zs f o = let p = and-parts (may_follow last x) (are_ordered (Some x) (xs ++ ys)) o in and-both (may_follow last x) (are_ordered (Some x) (xs ++ zs)) p.0 (ordered-fewer (Some x) xs ys zs f p.1)

ordered-some : (w : World) (layer : ℕ) (p : ℕ → Bool) (ns : List ℕ) (last : Option Entry) → are_ordered last (entries_in w layer ns) ≡ true → are_ordered last (entries_in w layer (filter p ns)) ≡ true
ordered-some w layer p [] last o = o
ordered-some w layer p (n ∷ ns) last o = by (p n) (ordered-some w layer p ns)
  where
    by : (b : Bool) → ((l : Option Entry) → are_ordered l (entries_in w layer ns) ≡ true → are_ordered l (entries_in w layer (filter p ns)) ≡ true) → are_ordered last (entries_in w layer (cond b (n ∷ filter p ns) (filter p ns))) ≡ true
    by true more = ordered-fewer last (w layer n) (entries_in w layer ns) (entries_in w layer (filter p ns)) more o
    by false more = more last (ordered-skip last (w layer n) (entries_in w layer ns) o)

-- ---- what a merge is of

asked-part : (w : World) (v : Wanted) (p : Part) (q : Waiting) → q.layer ≡ p.layer → q.numbers.items ≡ wanted_numbers v p → part_entries w q ≡ entries_in w p.layer (wanted_numbers v p)
asked-part w v p q l n = ap₂ (λ (x : ℕ) (ns : List ℕ). entries_in w x ns) l n

asked-parts : (w : World) (v : Wanted) (ps : List Part) (ws : List Waiting) → AreAsked v ps ws → entries_asked w v ps ≡ parts_entries w ws
asked-parts w v [] ws a = ap (parts_entries w) (sym a)
asked-parts w v (p ∷ ps) [] a = absurd a
asked-parts w v (p ∷ ps) (q ∷ ws) a = ap₂ (λ (xs ys : List Entry). xs ++ ys) (sym (asked-part w v p q a.0 a.1)) (asked-parts w v ps ws a.2)

asked-order : (w : World) (v : Wanted) (ps : List Part) (ws : List Waiting) → AreAsked v ps ws → ((p : Part) → Has p ps → are_ordered None (entries_of_part w p) ≡ true) → AreInOrder w ws
asked-order w v [] ws a o q h = absurd (subst (λ (l : List Waiting). Has q l) a h)
asked-order w v (p ∷ ps) [] a o q h = absurd h
asked-order w v (p ∷ ps) (x ∷ ws) a o q (inl i) = subst (λ (y : Waiting). are_ordered None (part_entries w y) ≡ true) (sym i) (subst (λ (l : List Entry). are_ordered None l ≡ true) (sym (asked-part w v p x a.0 a.1)) (ordered-some w p.layer (holds v p) (range_with_len 0 p.chunks) None (o p (inl refl))))
asked-order w v (p ∷ ps) (x ∷ ws) a o q (inr i) = asked-order w v ps ws a.2 (λ y j. o y (inr j)) q i

-- where all keys are asked for, all chunks are to be loaded
all-hold : (v : Wanted) → v.lo ≡ [] → v.hi ≡ None → (r : Option (Option (Bytes × Bytes))) → may_hold v r ≡ true
all-hold v l h None = refl
all-hold v l h (Some None) = refl
all-hold v l h (Some (Some b)) = rw (l, h) (by b.1)
  where
    by : (key : Bytes) → (is_le (bytes_cmp [] key) && true) ≡ true
    by [] = refl
    by (x ∷ key) = refl

pub asked-whole : (v : Wanted) (ps : List Part) (ws : List Waiting) → v.lo ≡ [] → v.hi ≡ None → AreAsked v ps ws → AreWaiting ps ws
asked-whole v [] ws l h a = a
asked-whole v (p ∷ ps) [] l h a = a
asked-whole v (p ∷ ps) (q ∷ ws) l h a = (a.0, a.1 ∙ filter-all (holds v p) (range_with_len 0 p.chunks) (λ n i. all-hold v l h (slice_get p.bounds.items n)), asked-whole v ps ws l h a.2)

whole-asked : (w : World) (v : Wanted) (ps : List Part) (ws : List Waiting) → AreAsked v (from_last is_introduced ps) ws → wanted_entries w v ps ≡ parts_entries w ws
unfolding wanted_entries
whole-asked w v ps ws a = asked-parts w v (from_last is_introduced ps) ws a

module _ (w : World) (v : Wanted) (ps : List Part) (proper : AreProper w ps) where
  sub : (e : Entry) → Has e (wanted_entries w v ps) → Has e (counted_entries w ps)
  unfolding wanted_entries counted_entries
  sub e h = parts-sub w v (from_last is_introduced ps) e h

  sub-fact : (f : ByteFact) → Has f (facts_of (wanted_entries w v ps)) → Has f (facts_of (counted_entries w ps))
  sub-fact f h = let m = facts-have f (wanted_entries w v ps) h in subst (λ (x : ByteFact). Has x (facts_of (counted_entries w ps))) (sym m.1.1) (members.has-map fact_of m.0 (counted_entries w ps) (sub m.0 m.1.0))

  pub made-within : (m : WalkState) → AreAsked v (from_last is_introduced ps) m.waiting → m.stands ≡ [] → m.ranges ≡ [] → m.begun ≡ false → MergesOver w (wanted_entries w v ps) m
  made-within m a s r b = record {
    apart = record { apart = λ k f g h i p q d. proper.apart.apart k f g (sub-fact f h) (sub-fact g i) p q d };
    dated = λ d e h i p q s. proper.dated d e (sub d h) (sub e i) p q s;
    work = subst (λ (x : Bool). IsAtWork x w (wanted_entries w v ps) m) (sym b) (record { stands = s; ranges = r; whole = whole-asked w v ps m.waiting a; ordered = asked-order w v (from_last is_introduced ps) m.waiting a proper.ordered });
  }

  module _ (bounded : AreBounded w ps) where
    there : (k : Bytes) (e : Entry) → is_asked v k ≡ true → touches bytes_cmp k (fact_of e) ≡ true → Has e (counted_entries w ps) → Has e (wanted_entries w v ps)
    unfolding wanted_entries counted_entries
    there k e a h i = parts-there w v (from_last is_introduced ps) (keeps-bounded w v ps bounded) k e a h i

    there-fact : (k : Bytes) (f : ByteFact) → is_asked v k ≡ true → Has f (facts_of (counted_entries w ps)) → touches bytes_cmp k f ≡ true → Has f (facts_of (wanted_entries w v ps))
    there-fact k f a h p = let m = facts-have f (counted_entries w ps) h in subst (λ (x : ByteFact). Has x (facts_of (wanted_entries w v ps))) (sym m.1.1) (members.has-map fact_of m.0 (wanted_entries w v ps) (there k m.0 a (subst (λ (x : ByteFact). touches bytes_cmp k x ≡ true) m.1.1 p) m.1.0))

    rows-asked : (done : Option Bytes) → done ≡ None → rows_left v done (wanted_entries w v ps) ≡ filter (λ (e : Entry). is_asked v (key_of e)) (map put_of (scan bytes_cmp v.upto (facts_of (counted_entries w ps))))
    unfolding rows_left
    rows-asked last n =
        ap (λ (d : Option Bytes). map put_of (to_come bytes_cmp (is_asked v) d (scan bytes_cmp v.upto (facts_of (wanted_entries w v ps))))) n
        ∙ ap (map put_of) (scans-same bytes_cmp bytes_order (is_asked v) v.upto (facts_of (wanted_entries w v ps)) (facts_of (counted_entries w ps)) proper.apart sub-fact there-fact)
        ∙ sym (filter-map (λ (e : Entry). is_asked v (key_of e)) put_of (scan bytes_cmp v.upto (facts_of (counted_entries w ps))))

pub rows-made_within : (w : World) (ps : List Part) (t : Time) (lo hi : Bytes) (v : Wanted) (done : Option Bytes) → AreProper w ps → AreBounded w ps → v ≡ keys_within lo hi t → done ≡ None → rows_left v done (wanted_entries w (keys_within lo hi t) ps) ≡ rows_within w ps t lo hi
unfolding rows_within merge_rows
rows-made_within w ps t lo hi v last p b e n = ap (λ (u : Wanted). rows_left u last (wanted_entries w (keys_within lo hi t) ps)) e ∙ rows-asked w (keys_within lo hi t) ps p b last n

-- ---- loads

begin-asked : (table : ℕ) (v : Wanted) (ps : List Part) (ws : List Waiting) (x : Load) → AreAsked v ps ws → to_begin table x ws ≡ times x (loads_asked table v ps)
begin-asked table v [] ws x a = ap (to_begin table x) a
begin-asked table v (p ∷ ps) [] x a = absurd a
begin-asked table v (p ∷ ps) (q ∷ ws) x a =
    sum_by-cons (λ (y : Waiting). times x (loads_of table y.layer y.numbers.items)) q ws
    ∙ ap₂ (λ (a b : ℕ). a + b) (ap₂ (λ (l : ℕ) (ns : List ℕ). times x (loads_of table l ns)) a.0 a.1) (begin-asked table v ps ws x a.2)
    ∙ sym (times-then x (loads_of table p.layer (wanted_numbers v p)) (loads_asked table v ps))

twice : (a b : ℕ) → a ≡ b → 0 + (a + a) ≡ b + b
twice a b e = omega (arith, e)

pub may-asked : (v : Wanted) (ps : List Part) (m : WalkState) (x : Load) → AreAsked v (from_last is_introduced ps) m.waiting → m.stands ≡ [] → m.begun ≡ false → may_load x m ≡ times x (wanted_loads m.table v ps) + times x (wanted_loads m.table v ps)
unfolding wanted_loads
may-asked v ps m x a s b =
    ap₂ (λ (c : Bool) (ss : List _). cond c (to_load m.table x ss) (to_load m.table x ss + (to_begin m.table x m.waiting + to_begin m.table x m.waiting))) b s
    ∙ twice (to_begin m.table x m.waiting) (times x (loads_asked m.table v (from_last is_introduced ps))) (begin-asked m.table v (from_last is_introduced ps) m.waiting x a)

-- ---- which chunks are to be loaded

times-has : (table layer layer' n : ℕ) (ns : List ℕ) → 1 ≤ times (load layer table n) (loads_of table layer' ns) → (layer' ≡ layer) × Has n ns
times-has table layer layer' n [] h = absurd (omega (arith, h))
times-has table layer layer' n (m ∷ ns) h = by (is_load (load layer table n) (load layer' table m)) refl (times-has table layer layer' n ns)
  where
    same : (a b : ℕ) → (a == b) ≡ true → a ≡ b
    same a b e = grind (arith, nat_tests)

    whole : times (load layer table n) (loads_of table layer' (m ∷ ns)) ≡ cond (is_load (load layer table n) (load layer' table m)) 1 0 + times (load layer table n) (loads_of table layer' ns)
    whole = sum_by-cons (λ (y : Load). cond (is_load (load layer table n) y) 1 0) (load layer' table m) (loads_of table layer' ns)

    by : (b : Bool) → is_load (load layer table n) (load layer' table m) ≡ b → (1 ≤ times (load layer table n) (loads_of table layer' ns) → (layer' ≡ layer) × Has n ns) → (layer' ≡ layer) × Has n (m ∷ ns)
    by true e more = let p = and-parts (layer == layer' && table == table) (n == m) e in let q = and-parts (layer == layer') (table == table) p.0 in (sym (same layer layer' q.0), inl (same n m p.1))
    by false e more =
        let c = ap weight e in
        let r = more (omega (arith, h, whole, c)) in
        (r.0, inr r.1)

begin-has : (table layer n : ℕ) (ws : List Waiting) → 1 ≤ to_begin table (load layer table n) ws → (q : Waiting) × (Has q ws × ((q.layer ≡ layer) × Has n q.numbers.items))
begin-has table layer n [] h = absurd (omega (arith, h))
begin-has table layer n (q ∷ ws) h = by (times (load layer table n) (loads_of table q.layer q.numbers.items)) refl (begin-has table layer n ws)
  where
    whole : to_begin table (load layer table n) (q ∷ ws) ≡ times (load layer table n) (loads_of table q.layer q.numbers.items) + to_begin table (load layer table n) ws
    whole = sum_by-cons (λ (y : Waiting). times (load layer table n) (loads_of table y.layer y.numbers.items)) q ws

    by : (k : ℕ) → times (load layer table n) (loads_of table q.layer q.numbers.items) ≡ k → (1 ≤ to_begin table (load layer table n) ws → (y : Waiting) × (Has y ws × ((y.layer ≡ layer) × Has n y.numbers.items))) → (y : Waiting) × (Has y (q ∷ ws) × ((y.layer ≡ layer) × Has n y.numbers.items))
    by zero e more = let r = more (omega (arith, h, whole, e)) in (r.0, (inr r.1.0, r.1.1))
    by (suc k) e more = (q, (inl refl, times-has table layer q.layer n q.numbers.items (omega (arith, e))))

asked-has : (v : Wanted) (ps : List Part) (ws : List Waiting) → AreAsked v ps ws → (q : Waiting) → Has q ws → (p : Part) × (Has p ps × ((q.layer ≡ p.layer) × (q.numbers.items ≡ wanted_numbers v p)))
asked-has v [] ws a q h = absurd (subst (λ (l : List Waiting). Has q l) a h)
asked-has v (p ∷ ps) [] a q h = absurd h
asked-has v (p ∷ ps) (x ∷ ws) a q (inl i) = (p, (inl refl, (ap (λ (y : Waiting). y.layer) i ∙ a.0, ap (λ (y : Waiting). y.numbers.items) i ∙ a.1)))
asked-has v (p ∷ ps) (x ∷ ws) a q (inr i) = let r = asked-has v ps ws a.2 q i in (r.0, (inr r.1.0, r.1.1))

-- a new merge is to load just such chunks
pub new-wanted : (v : Wanted) (ps : List Part) (m : WalkState) → AreAsked v (from_last is_introduced ps) m.waiting → m.stands ≡ [] → m.begun ≡ false → (layer number : ℕ) → IsToLoad m layer number → IsWantedChunk v ps layer number
new-wanted v ps m a s b layer number h =
    let x = load layer m.table number in
    let may = ap₂ (λ (c : Bool) (ss : List Stand). cond c (to_load m.table x ss) (to_load m.table x ss + (to_begin m.table x m.waiting + to_begin m.table x m.waiting))) b s in
    let q = begin-has m.table layer number m.waiting (omega (arith, h, may)) in
    let p = asked-has v (from_last is_introduced ps) m.waiting a q.0 q.1.0 in
    (p.0, (p.1.0, (sym p.1.1.0 ∙ q.1.1.0, subst (λ (ns : List ℕ). Has number ns) p.1.1.1 q.1.1.1)))

range-below : (a n x : ℕ) → Has x (range_with_len a n) → x < a + n
range-below a zero x h = absurd h
range-below a (suc n) x (inl i) = omega (arith, i)
range-below a (suc n) x (inr i) = let l = range-below (a + 1) n x i in omega (arith, l)

pub wanted-counted : (v : Wanted) (ps : List Part) (layer number : ℕ) → IsWantedChunk v ps layer number → IsCountedChunk ps layer number
wanted-counted v ps layer number w = (w.0, (w.1.0, (w.1.1.0, (let l = range-below 0 w.0.chunks number (members.filter-has (holds v w.0) number (range_with_len 0 w.0.chunks) w.1.1.1) in omega (arith, l)))))
