-- Parts that start, one after the other.
use Rattle.std.proofs.Common.{◌≡◌, ℕ, ◌≤◌, true, false, sym, refl, ap, ◌∙◌, subst, List, [], ◌∷◌, ◌++◌, length, Option, Some, None, option_to_list, inl, inr, ◌⊎◌, true≢false, append_assoc, append-nil, IsPermutation, Result, Ok, Err, is_err, is_ok, cond, arith}
use Rattle.std.proofs.lemmas.List.Sorted.{IsPermutation-sym}
use Rattle.mvcc_keys.specs.declared.entries.Entry.{Entry}
use Rattle.list_laws.specs.Members.{Has, AllIn}
use Rattle.list_laws.proofs.Members as members
use Rattle.chunk_file.specs.Entries.{are_ordered, is_range}
use Rattle.layer_merge.specs.declared.ranges.Waiting.{Waiting}
use Rattle.layer_merge.specs.declared.wanted.Wanted.{Wanted}
use Rattle.layer_merge.specs.Loads.{World}
use Rattle.layer_merge.specs.Stands.{Stand, coming, counts, entries_in, AreAt}
use Rattle.layer_merge.specs.Ranges.{AddsAll, TakesRanges, HasRanges, AreDated}
use Rattle.layer_merge.specs.Starts.{part_entries, parts_entries, AreInOrder, RangesSoFar, Begins, BegunSoFar}
use Rattle.layer_merge.proofs.RangeLaws.{adds-none}

parts-push : (w : World) (ps : List Waiting) (p : Waiting) → parts_entries w (ps ++ p ∷ []) ≡ parts_entries w ps ++ part_entries w p
parts-push w [] p = append-nil (part_entries w p)
parts-push w (q ∷ ps) p = ap (λ (xs : List Entry). part_entries w q ++ xs) (parts-push w ps p) ∙ sym (append_assoc (part_entries w q) (parts_entries w ps) (part_entries w p))

adds-next : (xs ys a b c : List Entry) → AddsAll xs a b → AddsAll ys b c → AddsAll (xs ++ ys) a c
adds-next xs ys a b c p q = record {
  kept = λ e h. q.kept e (p.kept e h);
  there = λ e h r. elim (members.has-append_cases e xs ys h) [ inl i ↦ (let t = p.there e i r in (t.0, (q.kept t.0 t.1.0, t.1.1))) | inr j ↦ q.there e j r ];
  only = λ e h. elim (q.only e h) [ inl i ↦ elim (p.only e i) [ inl j ↦ inl j | inr j ↦ inr (members.has-append_left e xs ys j.0, j.1) ] | inr i ↦ inr (members.has-append_right e xs ys i.0, i.1) ];
}

pub ranges-start : (w : World) (ps : List Waiting) (ready : List Waiting) (rs : List Entry) → ready ≡ [] → AreInOrder w ps → RangesSoFar w (parts_entries w ps) ps ready rs rs
ranges-start w ps ready rs e o = record {
  front = [];
  whole = refl;
  added = adds-none rs;
  points = λ x h. absurd h;
  only = λ x h. subst (λ (l : List Waiting). Has x (parts_entries w l)) e h;
  waiting_ordered = o;
  ready_ordered = λ p h. absurd (subst (λ (l : List Waiting). Has p l) e h);
}

pub ranges-more : (w : World) (all : List Entry) (ps ready ready' : List Waiting) (p p' : Waiting) (waiting : List Waiting) (old now new : List Entry) → waiting ≡ p ∷ ps → ready' ≡ ready ++ p' ∷ [] → TakesRanges (part_entries w p) (part_entries w p') now new → RangesSoFar w all waiting ready old now → RangesSoFar w all ps ready' old new
ranges-more w all ps ready ready' p p' waiting old now new e f t r = record {
  front = r.front ++ part_entries w p;
  whole = r.whole ∙ ap (λ (l : List Waiting). r.front ++ parts_entries w l) e ∙ sym (append_assoc r.front (part_entries w p) (parts_entries w ps));
  added = adds-next r.front (part_entries w p) old now new r.added t.added;
  points = λ x h n. subst (λ (l : List Entry). Has x l) (sym entries) (elim (members.has-append_cases x r.front (part_entries w p) h) [ inl i ↦ members.has-append_left x (parts_entries w ready) (part_entries w p') (r.points x i n) | inr j ↦ members.has-append_right x (parts_entries w ready) (part_entries w p') (t.points x j n) ]);
  only = λ x h. elim (members.has-append_cases x (parts_entries w ready) (part_entries w p') (subst (λ (l : List Entry). Has x l) entries h)) [ inl i ↦ members.has-append_left x r.front (part_entries w p) (r.only x i) | inr j ↦ members.has-append_right x r.front (part_entries w p) (t.only x j) ];
  waiting_ordered = λ q h. r.waiting_ordered q (subst (λ (l : List Waiting). Has q l) (sym e) (inr h));
  ready_ordered = λ q h. elim (members.has-append_cases q ready (p' ∷ []) (subst (λ (l : List Waiting). Has q l) f h)) [ inl i ↦ r.ready_ordered q i | inr j ↦ last q j ];
}
  where
    entries : parts_entries w ready' ≡ parts_entries w ready ++ part_entries w p'
    entries = ap (parts_entries w) f ∙ parts-push w ready p'

    last : (q : Waiting) → Has q (p' ∷ []) → are_ordered None (part_entries w q) ≡ true
    last q (inl i) = subst (λ (x : Waiting). are_ordered None (part_entries w x) ≡ true) (sym i) t.ordered
    last q (inr i) = absurd i

-- all parts are ready: their ranges are those that were kept, and what counts is left
pub all-ready : (w : World) (v : Wanted) (done : Option (List ℕ)) (all : List Entry) (ready : List Waiting) (rs : List Entry) → ((e : Entry) → counts v done e ≡ true → is_range e ≡ false) → RangesSoFar w all [] ready [] rs → BegunSoFar w v done all ready []
all-ready w v done all ready rs point r = record {
  ordered = λ s h. absurd h;
  there = λ e h c. inr (r.points e (subst (λ (l : List Entry). Has e l) whole h) (point e c));
  only = λ s e h. absurd h;
  only_ready = λ e h. subst (λ (l : List Entry). Has e l) (sym whole) (r.only e h);
  ready_ordered = r.ready_ordered;
  live = λ s h. absurd h;
}
  where
    whole : all ≡ r.front
    whole = r.whole ∙ append-nil r.front

pub all-kept : (w : World) (all : List Entry) (ready : List Waiting) (rs : List Entry) → AreDated all → RangesSoFar w all [] ready [] rs → HasRanges rs all
all-kept w all ready rs dated r = record {
  kept = λ e h x. (let t = r.added.there e (subst (λ (l : List Entry). Has e l) whole h) x in let o = from t.0 t.1.0 in subst (λ (y : Entry). Has y rs) (dated t.0 e o.0 h o.1 x t.1.1) t.1.0);
  only = from;
}
  where
    whole : all ≡ r.front
    whole = r.whole ∙ append-nil r.front

    from : (e : Entry) → Has e rs → Has e all × (is_range e ≡ true)
    from e h = elim (r.added.only e h) [ inl i ↦ absurd i | inr j ↦ (subst (λ (l : List Entry). Has e l) (sym whole) j.0, j.1) ]

pub begun-more : (w : World) (v : Wanted) (done : Option (List ℕ)) (all : List Entry) (ready ps : List Waiting) (p : Waiting) (mo : Option Stand) (h1 h2 : List Stand) → ready ≡ p ∷ ps → Begins w p mo → IsPermutation (option_to_list mo ++ h1) h2 → BegunSoFar w v done all ready h1 → BegunSoFar w v done all ps h2
begun-more w v done all ready ps p mo h1 h2 e b q r = record {
  ordered = λ s h. ordered mo b s (back s h);
  there = λ x h c. elim (r.there x h c) [ inl i ↦ inl (i.0, (to i.0 (members.has-append_right i.0 (option_to_list mo) h1 i.1.0), i.1.1)) | inr j ↦ split mo b x (members.has-append_cases x (part_entries w p) (parts_entries w ps) (subst (λ (l : List Waiting). Has x (parts_entries w l)) e j)) to ];
  only = λ s x h k. only mo b s x (back s h) k;
  only_ready = λ x h. r.only_ready x (subst (λ (l : List Waiting). Has x (parts_entries w l)) (sym e) (members.has-append_right x (part_entries w p) (parts_entries w ps) h));
  ready_ordered = λ o h. r.ready_ordered o (subst (λ (l : List Waiting). Has o l) (sym e) (inr h));
  live = λ s h. live mo b s (back s h);
}
  where
    to : AllIn (option_to_list mo ++ h1) h2
    to = members.permuted-in (option_to_list mo ++ h1) h2 q

    back : AllIn h2 (option_to_list mo ++ h1)
    back = members.permuted-in h2 (option_to_list mo ++ h1) (IsPermutation-sym (option_to_list mo ++ h1) h2 q)

    in-order : are_ordered None (part_entries w p) ≡ true
    in-order = r.ready_ordered p (subst (λ (l : List Waiting). Has p l) (sym e) (inl refl))

    of-part : (x : Entry) → Has x (part_entries w p) → Has x all
    of-part x h = r.only_ready x (subst (λ (l : List Waiting). Has x (parts_entries w l)) (sym e) (members.has-append_left x (part_entries w p) (parts_entries w ps) h))

    ordered : (m : Option Stand) → Begins w p m → (s : Stand) → Has s (option_to_list m ++ h1) → are_ordered None (coming w s) ≡ true
    ordered None c s h = r.ordered s h
    ordered (Some m) c s (inl i) = subst (λ (y : Stand). are_ordered None (coming w y) ≡ true) (sym i) (subst (λ (l : List Entry). are_ordered None l ≡ true) c.0 in-order)
    ordered (Some m) c s (inr i) = r.ordered s i

    only : (m : Option Stand) → Begins w p m → (s : Stand) (x : Entry) → Has s (option_to_list m ++ h1) → Has x (coming w s) → Has x all
    only None c s x h k = r.only s x h k
    only (Some m) c s x (inl i) k = of-part x (subst (λ (l : List Entry). Has x l) (sym c.0) (subst (λ (y : Stand). Has x (coming w y)) i k))
    only (Some m) c s x (inr i) k = r.only s x i k

    live : (m : Option Stand) → Begins w p m → (s : Stand) → Has s (option_to_list m ++ h1) → 1 ≤ length s.left
    live None c s h = r.live s h
    live (Some m) c s (inl i) = subst (λ (y : Stand). 1 ≤ length y.left) (sym i) c.1
    live (Some m) c s (inr i) = r.live s i

    split : (m : Option Stand) → Begins w p m → (x : Entry) → Has x (part_entries w p) ⊎ Has x (parts_entries w ps) → AllIn (option_to_list m ++ h1) h2 → ((s : Stand) × (Has s h2 × Has x (coming w s))) ⊎ Has x (parts_entries w ps)
    split m c x (inr j) f = inr j
    split None c x (inl i) f = absurd (subst (λ (l : List Entry). Has x l) c i)
    split (Some m) c x (inl i) f = inl (m, (f m (inl refl), subst (λ (l : List Entry). Has x l) c.0 i))

pub all-begun : (w : World) (v : Wanted) (done : Option (List ℕ)) (all : List Entry) (stands : List Stand) → BegunSoFar w v done all [] stands → AreAt w v done all stands
all-begun w v done all stands r = record { ordered = r.ordered; there = λ e h c. elim (r.there e h c) [ inl i ↦ i | inr j ↦ absurd j ]; only = r.only; live = r.live }

pub ranges-next : (w : World) (all : List Entry) (ps ready ready' : List Waiting) (p p' : Waiting) (waiting : List Waiting) (old now new : List Entry) → waiting ≡ p ∷ ps → ready' ≡ ready ++ p' ∷ [] → p'.layer ≡ p.layer → (are_ordered None (part_entries w p) ≡ true → TakesRanges (part_entries w p) (entries_in w p.layer p'.numbers.items) now new) → RangesSoFar w all waiting ready old now → RangesSoFar w all ps ready' old new
ranges-next w all ps ready ready' p p' waiting old now new e f l t r = ranges-more w all ps ready ready' p p' waiting old now new e f (subst (λ (n : ℕ). TakesRanges (part_entries w p) (entries_in w n p'.numbers.items) now new) (sym l) (t (r.waiting_ordered p (subst (λ (q : List Waiting). Has p q) (sym e) (inl refl))))) r

pub pushed-part : {T E : Type 0} (r : Result T E) (xs a b : List Waiting) → is_err r ≡ false → xs ≡ cond (is_ok r) a b → xs ≡ a
pushed-part (Ok x) xs a b e h = h
pushed-part (Err x) xs a b e h = absurd (true≢false e)

pub none-left : (xs : List Waiting) → length xs ≡ 0 → xs ≡ []
none-left [] h = refl
none-left (x ∷ xs) h = absurd (omega (arith, h))

pub first-waits : (waiting ps : List Waiting) (p : Waiting) → waiting ≡ p ∷ ps → Has p waiting
first-waits waiting ps p e = subst (λ (l : List Waiting). Has p l) (sym e) (inl refl)
