-- What is to come in each part, over plain lists.
use Rattle.std.proofs.Common.{◌≡◌, ℕ, ◌≤◌, ◌<◌, IsPermutation, IfSome, sum_by, Bool, true, false, cond, ◌&&◌, ◌||◌, sym, refl, ap, ◌∙◌, subst, List, [], ◌∷◌, ◌++◌, length, Option, Some, None, inl, inr, ◌⊎◌, Ordering, Less, Equal, Greater, true≢false, arith, option_to_list}
use Rattle.std.specs.Cmp.{IsTotalOrder}
use Rattle.std.specs.Ordering.{is_gt, is_lt, ordering_reverse}
use Rattle.std.specs.BinaryHeap.{IsUpperBound}
use Rattle.std.proofs.lemmas.Cmp.{nat_cmp_total, on_total, then_total, back_total, nat_list_cmp_total, upto}
use Rattle.mvcc_keys.specs.Times.{Time}
use Rattle.mvcc_keys.specs.Codes.{time_cmp}
use Rattle.list_laws.specs.Members.{Has, AllIn}
use Rattle.mvcc_keys.specs.Entries.{key_of}
use Rattle.mvcc_keys.specs.declared.entries.Entry.{Entry}
use Rattle.list_laws.proofs.Members as members
use Rattle.chunk_file.specs.Entries.{is_range, date_of, are_ordered, comes_before}
use Rattle.chunk_file.proofs.EntryOrder.{entries-ordered}
use Rattle.layer_merge.specs.declared.wanted.Wanted.{Wanted}
use Rattle.layer_merge.specs.Loads.{World}
use Rattle.layer_merge.specs.Stands.{Stand, coming, first_of, entry_cmp, stand_cmp, point_cmp, counts, counts_first, AreAt, Finds, Moves, room}
use Rattle.std.proofs.lemmas.List.Sums.{sum_by-cons}
use Rattle.chunk_file.specs.Held.{IsEntryStart, left_at}
use Rattle.chunk_file.proofs.HeldLaws.{left-is}
use Rattle.std.proofs.lemmas.List.Sorted.{IsPermutation-sym, sum_by-IsPermutation}
use Rattle.list_laws.proofs.Bools.{and-parts}

-- ---- order

times-total : IsTotalOrder time_cmp
times-total = then_total (on_total (λ (t : Time). t.wall) nat_cmp_total) (on_total (λ (t : Time). t.logical) nat_cmp_total)

pub points-total : IsTotalOrder point_cmp
points-total = then_total (on_total key_of nat_list_cmp_total) (back_total (on_total date_of times-total))

-- what counts is no range
pub counts-point : (v : Wanted) (done : Option (List ℕ)) (e : Entry) → counts v done e ≡ true → is_range e ≡ false
unfolding counts
counts-point v last (Entry.Put key at value) h = refl
counts-point v last (Entry.Del key at) h = refl
counts-point v last (Entry.Range lo hi at) h = absurd (true≢false (sym h))

-- an entry before a put or deletion is one, and before it by key and newest first
before-by : (a b c l : Bool) → cond a (b && c) (b || l) ≡ true → b ≡ false → (a ≡ false) × (l ≡ true)
before-by true true c l h e = absurd (true≢false e)
before-by true false c l h e = absurd (true≢false (sym h))
before-by false true c l h e = absurd (true≢false e)
before-by false false c l h e = (refl, h)

before-point : (d e : Entry) → comes_before d e ≡ true → is_range e ≡ false → (is_range d ≡ false) × (is_lt (point_cmp d e) ≡ true)
unfolding comes_before
before-point d e h p = before-by (is_range d) (is_range e) _ _ h p

not-gt : (o : Ordering) → is_lt o ≡ true → is_gt o ≡ false
not-gt Less h = refl
not-gt Equal h = refl
not-gt Greater h = absurd (true≢false (sym h))

turned-lt : (o : Ordering) → is_lt (ordering_reverse o) ≡ false → is_gt o ≡ false
turned-lt Less h = refl
turned-lt Equal h = refl
turned-lt Greater h = absurd (true≢false h)

-- of two puts or deletions that is first which isn't after the other
first-points : (a b : Entry) → is_range a ≡ false → is_range b ≡ false → is_lt (entry_cmp (Some b) (Some a)) ≡ false → is_lt (point_cmp b a) ≡ false
first-points (Entry.Put ka ta va) (Entry.Put kb tb vb) p q h = h
first-points (Entry.Put ka ta va) (Entry.Del kb tb) p q h = h
first-points (Entry.Del ka ta) (Entry.Put kb tb vb) p q h = h
first-points (Entry.Del ka ta) (Entry.Del kb tb) p q h = h
first-points (Entry.Put ka ta va) (Entry.Range lo hi at) p q h = absurd (true≢false q)
first-points (Entry.Del ka ta) (Entry.Range lo hi at) p q h = absurd (true≢false q)
first-points (Entry.Range lo hi at) b p q h = absurd (true≢false p)

pub first-upto : (a b : Entry) → is_range a ≡ false → is_range b ≡ false → is_lt (entry_cmp (Some b) (Some a)) ≡ false → is_gt (point_cmp a b) ≡ false
first-upto a b p q h = turned-lt (point_cmp a b) (ap is_lt (sym (points-total.antisymm b a)) ∙ first-points a b p q h)

-- ---- lists in order

ordered-tail : (e : Entry) (es : List Entry) → are_ordered None (e ∷ es) ≡ true → are_ordered None es ≡ true
ordered-tail e [] o = refl
ordered-tail e (x ∷ xs) o = (and-parts (comes_before e x) (are_ordered (Some x) xs) o).1

first-before : (e d : Entry) (es : List Entry) → are_ordered None (e ∷ es) ≡ true → Has d es → comes_before e d ≡ true
first-before e d es o h = members.has-AllByRecursion (λ x. comes_before e x ≡ true) d es (entries-ordered.throughout e es o) h

-- a put or deletion of a list in order isn't before the first entry, which is one too
pub in-order : (e d : Entry) (es : List Entry) → are_ordered None (e ∷ es) ≡ true → Has d (e ∷ es) → is_range d ≡ false → (is_range e ≡ false) × (is_gt (point_cmp e d) ≡ false)
in-order e d es o (inl i) p = (subst (λ (x : Entry). is_range x ≡ false) i p, subst (λ (x : Entry). is_gt (point_cmp e x) ≡ false) (sym i) (itself e))
  where
    itself : (x : Entry) → is_gt (point_cmp x x) ≡ false
    itself x = self-by (point_cmp x x) (points-total.antisymm x x)
      where
        self-by : (r : Ordering) → r ≡ ordering_reverse r → is_gt r ≡ false
        self-by Less e = refl
        self-by Equal e = refl
        self-by Greater e = absurd (cc)
in-order e d es o (inr i) p = let b = before-point e d (first-before e d es o i) p in (b.0, not-gt (point_cmp e d) b.1)

-- ---- stands

-- the same stands in another order
pub at-permuted : (w : World) (v : Wanted) (done : Option (List ℕ)) (all : List Entry) (xs ys : List Stand) → AllIn xs ys → AllIn ys xs → AreAt w v done all xs → AreAt w v done all ys
at-permuted w v last all xs ys f g a = record {
  ordered = λ s h. a.ordered s (g s h);
  there = λ e h c. let t = a.there e h c in (t.0, (f t.0 t.1.0, t.1.1));
  only = λ s e h i. a.only s e (g s h) i;
  live = λ s h. a.live s (g s h);
}

has-one : (e : Entry) (o : Option Entry) (rest : List Entry) → Has e (option_to_list o ++ rest) → (o ≡ Some e) ⊎ Has e rest
has-one e None rest h = inr h
has-one e (Some d) rest (inl i) = inl (ap Some (sym i))
has-one e (Some d) rest (inr i) = inr i

has-rest : (e : Entry) (o : Option Entry) (rest : List Entry) → Has e rest → Has e (option_to_list o ++ rest)
has-rest e None rest h = h
has-rest e (Some d) rest h = inr h

ordered-rest : (o : Option Entry) (rest : List Entry) → are_ordered None (option_to_list o ++ rest) ≡ true → are_ordered None rest ≡ true
ordered-rest None rest h = h
ordered-rest (Some e) rest h = ordered-tail e rest h

-- a stand that moves past an entry that doesn't count
pub at-moved : (w : World) (v : Wanted) (done : Option (List ℕ)) (all : List Entry) (s m : Stand) (rest : List Stand) → counts_first v done (first_of s.left) ≡ false → Moves w s (Some m) → AreAt w v done all (s ∷ rest) → AreAt w v done all (m ∷ rest)
at-moved w v done all s m rest off move a = record {
  ordered = λ x. elim [ inl i ↦ subst (λ (y : Stand). are_ordered None (coming w y) ≡ true) (sym i) moved | inr j ↦ a.ordered x (inr j) ];
  there = λ e h c. let t = a.there e h c in found e c t.0 t.1.0 t.1.1;
  only = λ x e. elim [ inl i ↦ λ k. a.only s e (inl refl) (subst (λ (l : List Entry). Has e l) (sym move.0) (has-rest e (first_of s.left) (coming w m) (subst (λ (y : Stand). Has e (coming w y)) i k))) | inr j ↦ a.only x e (inr j) ];
  live = λ x. elim [ inl i ↦ subst (λ (y : Stand). 1 ≤ length y.left) (sym i) move.1 | inr j ↦ a.live x (inr j) ];
}
  where
    moved : are_ordered None (coming w m) ≡ true
    moved = ordered-rest (first_of s.left) (coming w m) (subst (λ (l : List Entry). are_ordered None l ≡ true) move.0 (a.ordered s (inl refl)))

    found : (e : Entry) → counts v done e ≡ true → (x : Stand) → Has x (s ∷ rest) → Has e (coming w x) → (y : Stand) × (Has y (m ∷ rest) × Has e (coming w y))
    found e c x (inl i) k = elim (has-one e (first_of s.left) (coming w m) (subst (λ (l : List Entry). Has e l) move.0 (subst (λ (y : Stand). Has e (coming w y)) i k))) [ inl o ↦ absurd (true≢false (sym c ∙ ap (counts_first v done) (sym o) ∙ off)) | inr j ↦ (m, (inl refl, j)) ]
    found e c x (inr i) k = (x, (inr i, k))

-- one that ends there
pub at-ended : (w : World) (v : Wanted) (done : Option (List ℕ)) (all : List Entry) (s : Stand) (rest : List Stand) → counts_first v done (first_of s.left) ≡ false → Moves w s None → AreAt w v done all (s ∷ rest) → AreAt w v done all rest
at-ended w v done all s rest off move a = record {
  ordered = λ x h. a.ordered x (inr h);
  there = λ e h c. let t = a.there e h c in found e c t.0 t.1.0 t.1.1;
  only = λ x e h. a.only x e (inr h);
  live = λ x h. a.live x (inr h);
}
  where
    only-first : (e : Entry) (o : Option Entry) → Has e (option_to_list o) → o ≡ Some e
    only-first e None h = absurd h
    only-first e (Some d) (inl i) = ap Some (sym i)
    only-first e (Some d) (inr i) = absurd i

    found : (e : Entry) → counts v done e ≡ true → (x : Stand) → Has x (s ∷ rest) → Has e (coming w x) → (y : Stand) × (Has y rest × Has e (coming w y))
    found e c x (inl i) k = absurd (true≢false (sym c ∙ ap (counts_first v done) (sym (only-first e (first_of s.left) (subst (λ (l : List Entry). Has e l) move (subst (λ (y : Stand). Has e (coming w y)) i k)))) ∙ off))
    found e c x (inr i) k = (x, (i, k))

-- no stand is left
pub finds-none : (w : World) (v : Wanted) (done : Option (List ℕ)) (all : List Entry) (h0 h1 : List Stand) → h1 ≡ h0 → length h0 ≡ 0 → AreAt w v done all h0 → Finds w v done all None h1
finds-none w v done all h0 h1 e l a = record { none = by h0 l a; again = subst (AreAt w v done all) (sym e) a }
  where
    by : (h : List Stand) → length h ≡ 0 → AreAt w v done all h → (x : Entry) → Has x all → counts v done x ≡ true → ⊥
    by [] n b = λ x i c. (b.there x i c).1.0
    by (s ∷ h) n b = absurd (omega (arith, n))

-- what is to come begins with the entry at which the stand is
pub begun : (w : World) (s : Stand) (e : Entry) → first_of s.left ≡ Some e → (rest : List Entry) × (coming w s ≡ e ∷ rest)
begun w s e f = by s.left f _
  where
    by : (l : List Entry) → first_of l ≡ Some e → (more : List Entry) → (rest : List Entry) × (l ++ more ≡ e ∷ rest)
    by [] g more = absurd (cc)
    by (x ∷ xs) g more = (xs ++ more, (let i : x ≡ e = cc in ap (λ (y : Entry). y ∷ (xs ++ more)) i))

pub live-first : (l : List Entry) → 1 ≤ length l → (e : Entry) × (first_of l ≡ Some e)
live-first [] h = absurd (omega arith)
live-first (x ∷ xs) h = (x, refl)

-- the stand whose entry is first of all is at the first of all that count, if that counts
pub finds-first : (w : World) (v : Wanted) (done : Option (List ℕ)) (all : List Entry) (s : Stand) (stands : List Stand) → AreAt w v done all (s ∷ stands) → IsUpperBound stand_cmp s stands → counts_first v done (first_of s.left) ≡ true → Finds w v done all (Some s) stands
finds-first w v done all s stands a top c = record { entry = first.0; first = first.1; next = record { among = a.only s first.0 (inl refl) (subst (λ (l : List Entry). Has first.0 l) (sym start.1) (inl refl)); counted = counted; least = least }; again = a }
  where
    first : (e : Entry) × (first_of s.left ≡ Some e)
    first = live-first s.left (a.live s (inl refl))

    start : (rest : List Entry) × (coming w s ≡ first.0 ∷ rest)
    start = begun w s first.0 first.1

    counted : counts v done first.0 ≡ true
    counted = ap (counts_first v done) (sym first.1) ∙ c

    among : (x : Stand) (d : Entry) → Has x (s ∷ stands) → Has d (coming w x) → counts v done d ≡ true → is_gt (point_cmp first.0 d) ≡ false
    among x d (inl i) k cd = (in-order first.0 d start.0 (subst (λ (l : List Entry). are_ordered None l ≡ true) start.1 (a.ordered s (inl refl))) (subst (λ (l : List Entry). Has d l) start.1 (subst (λ (y : Stand). Has d (coming w y)) i k)) (counts-point v done d cd)).1
    among x d (inr i) k cd =
        let f = live-first x.left (a.live x (inr i)) in
        let b = begun w x f.0 f.1 in
        let o = in-order f.0 d b.0 (subst (λ (l : List Entry). are_ordered None l ≡ true) b.1 (a.ordered x (inr i))) (subst (λ (l : List Entry). Has d l) b.1 k) (counts-point v done d cd) in
        let t = members.has-AllByRecursion (λ (y : Stand). is_lt (stand_cmp s y) ≡ false) x stands top i in
        let t' = subst (λ (r : Option Entry). is_lt (entry_cmp r (first_of s.left)) ≡ false) f.1 t in
        let t'' = subst (λ (r : Option Entry). is_lt (entry_cmp (Some f.0) r) ≡ false) first.1 t' in
        upto points-total first.0 f.0 d (first-upto first.0 f.0 (counts-point v done first.0 counted) o.0 t'') o.1

    least : (d : Entry) → Has d all → counts v done d ≡ true → is_gt (point_cmp first.0 d) ≡ false
    least d h cd = let t = a.there d h cd in among t.0 d t.1.0 t.1.1 cd

-- ---- the loop's steps, over the heap's lists

pub at-passed : (w : World) (v : Wanted) (done : Option (List ℕ)) (all : List Entry) (s : Stand) (mo : Option Stand) (rest : List Stand) → counts_first v done (first_of s.left) ≡ false → Moves w s mo → AreAt w v done all (s ∷ rest) → AreAt w v done all (option_to_list mo ++ rest)
at-passed w v done all s None rest off move a = at-ended w v done all s rest off move a
at-passed w v done all s (Some m) rest off move a = at-moved w v done all s m rest off move a

pub at-reordered : (w : World) (v : Wanted) (done : Option (List ℕ)) (all : List Entry) (xs ys : List Stand) → IsPermutation xs ys → AreAt w v done all xs → AreAt w v done all ys
at-reordered w v done all xs ys p a = at-permuted w v done all xs ys (members.permuted-in xs ys p) (members.permuted-in ys xs (IsPermutation-sym xs ys p)) a

pub at-stepped : (w : World) (v : Wanted) (done : Option (List ℕ)) (all : List Entry) (h0 h1 h2 : List Stand) (s : Stand) (mo : Option Stand) → IsPermutation h0 (s ∷ h1) → IsPermutation (option_to_list mo ++ h1) h2 → counts_first v done (first_of s.left) ≡ false → Moves w s mo → AreAt w v done all h0 → AreAt w v done all h2
at-stepped w v done all h0 h1 h2 s mo p q off move a = at-reordered w v done all (option_to_list mo ++ h1) h2 q (at-passed w v done all s mo h1 off move (at-reordered w v done all h0 (s ∷ h1) p a))

room-moved : (s : Stand) (mo : Option Stand) (h1 : List Stand) → IfSome mo (λ m. room m < room s) → sum_by room (option_to_list mo ++ h1) < sum_by room (s ∷ h1)
room-moved s None h1 l = omega (arith, sum_by-cons room s h1)
room-moved s (Some m) h1 l = omega (arith, l, sum_by-cons room s h1, sum_by-cons room m h1)

pub room-stepped : (h0 h1 h2 : List Stand) (s : Stand) (mo : Option Stand) → IsPermutation h0 (s ∷ h1) → IsPermutation (option_to_list mo ++ h1) h2 → IfSome mo (λ m. room m < room s) → sum_by room h2 < sum_by room h0
room-stepped h0 h1 h2 s mo p q l = omega (arith, sum_by-IsPermutation room h0 (s ∷ h1) p, sum_by-IsPermutation room (option_to_list mo ++ h1) h2 q, room-moved s mo h1 l)

-- the entry at which a chunk is held is one of its entries
pub first-among : (es rest : List Entry) (offset : ℕ) (e : Entry) → IsEntryStart es offset → left_at es offset ≡ e ∷ rest → Has e es
first-among es rest offset e start at =
    let same = sym (left-is es start.0 offset start.1) ∙ at in
    subst (λ (l : List Entry). Has e l) (sym (start.1.whole ∙ ap (λ (l : List Entry). start.1.before ++ l) same)) (members.has-append_right e start.1.before (e ∷ rest) (inl refl))

pub room-after : (h0 h1 h2 : List Stand) (s : Stand) (mo : Option Stand) → sum_by room (s ∷ h1) ≤ sum_by room h0 → IsPermutation (option_to_list mo ++ h1) h2 → IfSome mo (λ m. room m < room s) → sum_by room h2 < sum_by room h0
room-after h0 h1 h2 s mo le q l = omega (arith, le, sum_by-IsPermutation room (option_to_list mo ++ h1) h2 q, room-moved s mo h1 l)
