-- What a chunk holds that the walk of the points leaves: nothing that comes after an entry that counts.
use Rattle.std.proofs.Common.{◌≡◌, Bool, true, false, true≢false, sym, refl, ap, ◌∙◌, subst, List, [], ◌∷◌, ◌++◌, length, ◌≤◌, ℕ, Option, Some, None, inl, inr, ◌⊎◌, Ordering, Less, Equal, Greater, arith, IfSome}
use Rattle.std.specs.Prelude.{◌&&◌}
use Rattle.std.specs.Ordering.{is_gt, is_le, is_lt, ordering_then}
use Rattle.std.specs.BinaryHeap.{IsUpperBound}
use Rattle.std.proofs.lemmas.Cmp.{upto}
use Rattle.mvcc_keys.specs.Codes.{time_cmp}
use Rattle.mvcc_keys.specs.Entries.{key_of}
use Rattle.mvcc_keys.specs.declared.entries.Entry.{Entry}
use Rattle.list_laws.specs.Members.{Has}
use Rattle.list_laws.proofs.Members as members
use Rattle.chunk_file.specs.Entries.{are_ordered, comes_before, date_of, is_range}
use Rattle.chunk_file.specs.Held.{IsEntryStart, left_at}
use Rattle.chunk_file.proofs.EntryOrder.{entries-ordered}
use Rattle.chunk_file.proofs.HeldLaws.{left-is}
use Rattle.version_store.specs.Tables.{Bytes, bytes_cmp}
use Rattle.layer_merge.specs.declared.wanted.Wanted.{Wanted}
use Rattle.layer_merge.specs.Loads.{World}
use Rattle.layer_merge.specs.Stands.{AreAt, IsFound, Stand, coming, counts, entry_cmp, first_of, point_cmp, stand_cmp}
use Rattle.layer_merge.specs.Orders.{EndsAt, IsBehind, IsUpTo, Place}
use Rattle.layer_merge.proofs.StandLaws.{begun, counts-point, first-upto, in-order, live-first, points-total}
use Rattle.layer_merge.proofs.NextRows.{counts-after, still-counts}

-- ---- the last entry of a chunk

ordered-tail : (e : Entry) (es : List Entry) → are_ordered None (e ∷ es) ≡ true → are_ordered None es ≡ true
ordered-tail e [] o = refl
ordered-tail e (x ∷ xs) o = both (comes_before e x) (are_ordered (Some x) xs) o
  where
    both : (a b : Bool) → a && b ≡ true → b ≡ true
    both true b h = h
    both false b h = absurd (true≢false (sym h))

last-after : (before : List Entry) (e x : Entry) → are_ordered None (before ++ e ∷ []) ≡ true → Has x (before ++ e ∷ []) → (x ≡ e) ⊎ (comes_before x e ≡ true)
last-after [] e x o (inl i) = inl i
last-after [] e x o (inr i) = absurd i
last-after (b ∷ before) e x o (inl i) = inr (subst (λ (y : Entry). comes_before y e ≡ true) (sym i) (members.has-AllByRecursion (λ y. comes_before b y ≡ true) e (before ++ e ∷ []) (entries-ordered.throughout b (before ++ e ∷ []) o) (members.has-append_right e before (e ∷ []) (inl refl))))
last-after (b ∷ before) e x o (inr i) = last-after before e x (ordered-tail b (before ++ e ∷ []) o) i

ends-left : (chunk left before : List Entry) → chunk ≡ before ++ left → length left ≤ 1 → 1 ≤ length left → are_ordered None chunk ≡ true → (x : Entry) → Has x chunk → (e : Entry) × ((first_of left ≡ Some e) × ((x ≡ e) ⊎ (comes_before x e ≡ true)))
ends-left chunk [] before w n m o x h = absurd (omega (arith, m))
ends-left chunk (e ∷ []) before w n m o x h = (e, (refl, last-after before e x (subst (λ (l : List Entry). are_ordered None l ≡ true) w o) (subst (λ (l : List Entry). Has x l) w h)))
ends-left chunk (e ∷ d ∷ left) before w n m o x h = absurd (omega (arith, n))

pub ends-at : (chunk : List Entry) (offset : ℕ) → IsEntryStart chunk offset → length (left_at chunk offset) ≤ 1 → 1 ≤ length (left_at chunk offset) → are_ordered None chunk ≡ true → (x : Entry) → Has x chunk → (e : Entry) × ((first_of (left_at chunk offset) ≡ Some e) × ((x ≡ e) ⊎ (comes_before x e ≡ true)))
ends-at chunk offset start n m o x h = ends-left chunk (left_at chunk offset) start.1.before (start.1.whole ∙ ap (λ (l : List Entry). start.1.before ++ l) (sym (left-is chunk start.0 offset start.1))) n m o x h

-- ---- entries that count

before-upto : (x e : Entry) → (x ≡ e) ⊎ (comes_before x e ≡ true) → is_range x ≡ false → is_range e ≡ false → is_gt (point_cmp x e) ≡ false
before-upto x e (inl i) p q = subst (λ (y : Entry). is_gt (point_cmp y e) ≡ false) (sym i) (in-order e e [] refl (inl refl) q).1
before-upto x e (inr i) p q = (in-order x e (e ∷ []) (subst (λ (b : Bool). (b && true) ≡ true) (sym i) refl) (inr (inl refl)) q).1

-- a point isn't first where a range is
first-point : (f e : Entry) → is_range f ≡ false → is_lt (entry_cmp (Some f) (Some e)) ≡ false → is_range e ≡ false
first-point f (Entry.Put key at value) p h = refl
first-point f (Entry.Del key at) p h = refl
first-point (Entry.Put key at value) (Entry.Range lo hi t) p h = absurd (true≢false h)
first-point (Entry.Del key at) (Entry.Range lo hi t) p h = absurd (true≢false h)
first-point (Entry.Range lo hi at) (Entry.Range lo' hi' t) p h = absurd (true≢false p)

-- the entry of the stand that is first isn't after one that counts
first-least : (w : World) (v : Wanted) (done : Option (List ℕ)) (all : List Entry) (s : Stand) (stands : List Stand) (e d : Entry) → AreAt w v done all (s ∷ stands) → IsUpperBound stand_cmp s stands → first_of s.left ≡ Some e → Has d all → counts v done d ≡ true → (is_range e ≡ false) × (is_gt (point_cmp e d) ≡ false)
first-least w v done all s stands e d a top first h c = let t = a.there d h c in among t.0 t.1.0 t.1.1
  where
    start : (rest : List Entry) × (coming w s ≡ e ∷ rest)
    start = begun w s e first

    among : (y : Stand) → Has y (s ∷ stands) → Has d (coming w y) → (is_range e ≡ false) × (is_gt (point_cmp e d) ≡ false)
    among y (inl i) k = in-order e d start.0 (subst (λ (l : List Entry). are_ordered None l ≡ true) start.1 (a.ordered s (inl refl))) (subst (λ (l : List Entry). Has d l) start.1 (subst (λ (z : Stand). Has d (coming w z)) i k)) (counts-point v done d c)
    among y (inr i) k =
        let f = live-first y.left (a.live y (inr i)) in
        let b = begun w y f.0 f.1 in
        let o = in-order f.0 d b.0 (subst (λ (l : List Entry). are_ordered None l ≡ true) b.1 (a.ordered y (inr i))) (subst (λ (l : List Entry). Has d l) b.1 k) (counts-point v done d c) in
        let t = members.has-AllByRecursion (λ (z : Stand). is_lt (stand_cmp s z) ≡ false) y stands top i in
        let t' = subst (λ (r : Option Entry). is_lt (entry_cmp r (first_of s.left)) ≡ false) f.1 t in
        let t'' = subst (λ (r : Option Entry). is_lt (entry_cmp (Some f.0) r) ≡ false) first t' in
        let p = first-point f.0 e o.0 t'' in
        (p, upto points-total e f.0 d (first-upto e f.0 p o.0 t'') o.1)

some-same : (a b : Entry) → Some a ≡ Some b → a ≡ b
some-same a b i = cc

-- the chunk that the stand leaves which is first
pub behind-first : (w : World) (v : Wanted) (done : Option (List ℕ)) (all : List Entry) (s : Stand) (stands : List Stand) (p : Place) → AreAt w v done all (s ∷ stands) → IsUpperBound stand_cmp s stands → EndsAt s p → IsBehind v done all p
behind-first w v done all s stands p a top e = λ x d h q i c.
    let o = e.1 x (subst (λ (y : Place). Has x y.entries) e.0 h) in
    let l = first-least w v done all s stands o.0 d a top o.1.0 i c in
    upto points-total x o.0 d (before-upto x o.0 o.1.1 q l.0) l.1

-- the chunk that a stand leaves which is at the first entry that counts
pub behind-found : (w : World) (v : Wanted) (done : Option Bytes) (all : List Entry) (s : Stand) (stands : List Stand) (p : Place) → IsFound w v done all s stands → EndsAt s p → IsBehind v done all p
behind-found w v done all s stands p f e = λ x d h q i c.
    let o = e.1 x (subst (λ (y : Place). Has x y.entries) e.0 h) in
    let same : o.0 ≡ f.entry = some-same o.0 f.entry (sym o.1.0 ∙ f.first) in
    let u = before-upto x f.entry (subst (λ (y : Entry). (x ≡ y) ⊎ (comes_before x y ≡ true)) same o.1.1) q (counts-point v done f.entry f.next.counted) in
    upto points-total x f.entry d u (f.next.least d i c)

-- fewer entries count after a later key
pub behind-later : (v : Wanted) (done after : Option Bytes) (all : List Entry) (e : Entry) (p : Place) → counts v done e ≡ true → after ≡ Some (key_of e) → IsBehind v done all p → IsBehind v after all p
behind-later v done after all e p c same b = λ x d h q i k. b x d h q i (still-counts v done (key_of e) d (counts-after v done e c) (subst (λ (l : Option Bytes). counts v l d ≡ true) same k))

-- keys up to that of an entry that counts
pub behind-key : (v : Wanted) (done : Option Bytes) (all : List Entry) (e : Entry) (p : Place) → Has e all → counts v done e ≡ true → IsBehind v done all p → IsUpTo (key_of e) p
behind-key v done all e p i c b = λ x h q. keys x e (b x e h q i c)
  where
    by : (a b : Ordering) → is_gt (ordering_then a b) ≡ false → is_le a ≡ true
    by Less b h = refl
    by Equal b h = refl
    by Greater b h = absurd (true≢false h)

    keys : (x d : Entry) → is_gt (point_cmp x d) ≡ false → is_le (bytes_cmp (key_of x) (key_of d)) ≡ true
    keys x d h = by (bytes_cmp (key_of x) (key_of d)) (time_cmp (date_of d) (date_of x)) h

pub behind-given : (w : World) (v : Wanted) (done : Option Bytes) (all : List Entry) (s : Stand) (stands : List Stand) (e : Entry) (p : Place) → IsFound w v done all s stands → first_of s.left ≡ Some e → IsBehind v done all p → IsUpTo (key_of e) p
behind-given w v done all s stands e p f first b = subst (λ (y : Entry). IsUpTo (key_of y) p) (some-same f.entry e (sym f.first ∙ first)) (behind-key v done all f.entry p f.next.among f.next.counted b)

-- no chunk was held
pub unheld-upto : (key : Bytes) (p : Place) → p.entries ≡ [] → IsUpTo key p
unheld-upto key p n = λ x h q. absurd (subst (λ (l : List Entry). Has x l) n h)

-- what is said of an entry that was given
pub some-given : (r : Option Entry) (P : Entry → Type 0) (e : Entry) → r ≡ Some e → P e → IfSome r P
some-given None P e i h = tt
some-given (Some x) P e i h = subst P (sym (some-same x e i)) h

pub some-weaker : (r : Option Entry) (P Q : Entry → Type 0) → ((e : Entry) → P e → Q e) → IfSome r P → IfSome r Q
some-weaker None P Q f h = tt
some-weaker (Some e) P Q f h = f e h
