-- The order of loads, one after the other.
use Rattle.std.proofs.Common.{◌≡◌, ℕ, ◌+◌, Bool, true, false, true≢false, ◌≤◌, length, sym, refl, ap, ◌∙◌, subst, List, [], ◌∷◌, ◌++◌, map, Option, Some, None, inl, inr, arith, Result, append_assoc, append-nil, IsPermutation}
use Rattle.std.proofs.lemmas.List.{map-append}
use Rattle.std.proofs.lemmas.List.Sorted.{IsPermutation-refl, IsPermutation-trans, IsPermutation-map, IsPermutation-append_left, IsPermutation-append_right as behind, IsPermutation-append_comm}
use Rattle.mvcc_keys.specs.declared.entries.Entry.{Entry}
use Rattle.row_codec.specs.declared.rows.Kind.{Kind}
use Rattle.list_laws.proofs.Members as members
use Rattle.std.specs.Prelude.{◌==◌, ◌&&◌, not}
use Rattle.chunk_file.specs.Held.{IsEntryStart, left_at}
use Rattle.layer_merge.specs.declared.ranges.Numbered.{Numbered}
use Rattle.layer_merge.specs.declared.ranges.Waiting.{Waiting}
use Rattle.layer_merge.specs.Loads.{Load, load, with_load, with_loads}
use Rattle.layer_merge.specs.Stands.{Stand, first_of, goes_on, stand}
use Rattle.layer_merge.specs.Steps.{IsLoaded}
use Rattle.layer_merge.specs.Ranges.{begins_with_range, is_before}
use Rattle.layer_merge.specs.Walks.{WalkState}
use Rattle.layer_merge.specs.Orders.{AfterRange, Backwards, EndsAt, Freely, GoesOn, GoesOnTo, HasLoaded, HasLoadedFrom, IsOrder, MovesBy, Place, PointsBy, RangesBy, StartsBy, TableChunk, WalksBy, WalksFrom, before_first, loads_made, place_of, places_of, table_chunk}
use Rattle.layer_merge.proofs.RangeLaws.{goes-at, not-broken}
use Rattle.layer_merge.proofs.StepLaws.{AreLaws, loaded-earlier, loaded-later, loads-none, told-then}

-- ---- moves

pub moves-none : (P : Place → Type 0) (xs : List Place) → MovesBy P [] xs xs
moves-none P xs = ([], subst (IsPermutation xs) (sym (append-nil xs)) (IsPermutation-refl xs))

pub moves-from : (P : Place → Type 0) (cs : List TableChunk) (xs ys zs : List Place) → IsPermutation xs ys → MovesBy P cs ys zs → MovesBy P cs xs zs
moves-from P [] xs ys zs p m = (m.0, IsPermutation-trans _ _ _ p m.1)
moves-from P (c ∷ cs) xs ys zs p m = (m.0, (m.1.0, (m.1.1.0, (IsPermutation-trans _ _ _ p m.1.1.1.0, m.1.1.1.1))))

pub moves-to : (P : Place → Type 0) (cs : List TableChunk) (xs ys zs : List Place) → IsPermutation ys zs → MovesBy P cs xs ys → MovesBy P cs xs zs
moves-to P [] xs ys zs p m = (m.0, IsPermutation-trans _ _ _ m.1 (IsPermutation-append_left m.0 ys zs p))
moves-to P (c ∷ cs) xs ys zs p m = (m.0, (m.1.0, (m.1.1.0, (m.1.1.1.0, (m.1.1.1.1.0, moves-to P cs (m.1.0 ∷ m.1.1.0) ys zs p m.1.1.1.1.1)))))

pub moves-beside : (P : Place → Type 0) (cs : List TableChunk) (xs ys zs : List Place) → MovesBy P cs xs ys → MovesBy P cs (xs ++ zs) (ys ++ zs)
moves-beside P [] xs ys zs m = (m.0, IsPermutation-trans _ _ _ (IsPermutation-append_left zs xs (ys ++ m.0) m.1) (subst (IsPermutation ((ys ++ m.0) ++ zs)) (sym (append_assoc ys zs m.0)) (subst (λ (l : List Place). IsPermutation l (ys ++ (zs ++ m.0))) (sym (append_assoc ys m.0 zs)) (behind ys (m.0 ++ zs) (zs ++ m.0) (IsPermutation-append_comm m.0 zs)))))
moves-beside P (c ∷ cs) xs ys zs m = (m.0, (m.1.0, (m.1.1.0 ++ zs, (IsPermutation-append_left zs xs (m.0 ∷ m.1.1.0) m.1.1.1.0, (m.1.1.1.1.0, moves-beside P cs (m.1.0 ∷ m.1.1.0) ys zs m.1.1.1.1.1)))))

-- places that are left
pub moves-lost : (P : Place → Type 0) (cs : List TableChunk) (xs ys zs : List Place) → MovesBy P cs xs (ys ++ zs) → MovesBy P cs xs ys
moves-lost P [] xs ys zs m = (zs ++ m.0, subst (IsPermutation xs) (append_assoc ys zs m.0) m.1)
moves-lost P (c ∷ cs) xs ys zs m = (m.0, (m.1.0, (m.1.1.0, (m.1.1.1.0, (m.1.1.1.1.0, moves-lost P cs (m.1.0 ∷ m.1.1.0) ys zs m.1.1.1.1.1)))))

pub moves-then : (P : Place → Type 0) (cs ds : List TableChunk) (xs ys zs : List Place) → MovesBy P cs xs ys → MovesBy P ds ys zs → MovesBy P (cs ++ ds) xs zs
moves-then P [] ds xs ys zs m n = moves-from P ds xs (ys ++ m.0) zs m.1 (moves-lost P ds (ys ++ m.0) zs m.0 (moves-beside P ds ys zs m.0 n))
moves-then P (c ∷ cs) ds xs ys zs m n = (m.0, (m.1.0, (m.1.1.0, (m.1.1.1.0, (m.1.1.1.1.0, moves-then P cs ds (m.1.0 ∷ m.1.1.0) ys zs m.1.1.1.1.1 n)))))

-- less is asked of the chunks that are left
pub moves-weaker : (P Q : Place → Type 0) → ((p : Place) → P p → Q p) → (cs : List TableChunk) (xs ys : List Place) → MovesBy P cs xs ys → MovesBy Q cs xs ys
moves-weaker P Q f [] xs ys m = m
moves-weaker P Q f (c ∷ cs) xs ys m = (m.0, (m.1.0, (m.1.1.0, (m.1.1.1.0, ((f m.0 m.1.1.1.1.0.0, m.1.1.1.1.0.1), moves-weaker P Q f cs (m.1.0 ∷ m.1.1.0) ys m.1.1.1.1.1)))))

-- ---- the same of stands

places-append : (xs ys : List Stand) → places_of (xs ++ ys) ≡ places_of xs ++ places_of ys
places-append xs ys = map-append place_of xs ys

places-permuted : (xs ys : List Stand) → IsPermutation xs ys → IsPermutation (places_of xs) (places_of ys)
places-permuted xs ys p = IsPermutation-map place_of xs ys p

pub walk-none : (P : Place → Type 0) (xs : List Stand) → PointsBy P xs xs []
unfolding PointsBy
walk-none P xs = moves-none P (places_of xs)

pub walk-to : (P : Place → Type 0) (xs ys zs : List Stand) (cs : List TableChunk) → IsPermutation ys zs → PointsBy P xs ys cs → PointsBy P xs zs cs
unfolding PointsBy
walk-to P xs ys zs cs p m = moves-to P cs (places_of xs) (places_of ys) (places_of zs) (places-permuted ys zs p) m

-- the first of some stands moves on
pub walk-over : (P : Place → Type 0) (first h0 h1 h2 ys : List Stand) (s : Stand) (cs ds : List TableChunk) → IsPermutation h0 (s ∷ h1) → IsPermutation (ys ++ h1) h2 → PointsBy P first h0 cs → PointsBy P (s ∷ []) ys ds → PointsBy P first h2 (cs ++ ds)
unfolding PointsBy
walk-over P first h0 h1 h2 ys s cs ds p q m n =
    moves-then P cs ds (places_of first) (places_of h0) (places_of h2) m
    (moves-from P ds (places_of h0) (places_of (s ∷ h1)) (places_of h2) (places-permuted h0 (s ∷ h1) p)
    (moves-to P ds (places_of (s ∷ h1)) (places_of ys ++ places_of h1) (places_of h2)
    (subst (λ (l : List Place). IsPermutation l (places_of h2)) (places-append ys h1) (places-permuted (ys ++ h1) h2 q))
    (moves-beside P ds (places_of (s ∷ [])) (places_of ys) (places_of h1) n)))

pub walk-then : (P : Place → Type 0) (xs ys zs : List Stand) (cs ds : List TableChunk) → PointsBy P xs ys cs → PointsBy P ys zs ds → PointsBy P xs zs (cs ++ ds)
unfolding PointsBy
walk-then P xs ys zs cs ds m n = moves-then P cs ds (places_of xs) (places_of ys) (places_of zs) m n

pub walk-weaker : (P Q : Place → Type 0) → ((p : Place) → P p → Q p) → (xs ys : List Stand) (cs : List TableChunk) → PointsBy P xs ys cs → PointsBy Q xs ys cs
unfolding PointsBy
walk-weaker P Q f xs ys cs m = moves-weaker P Q f cs (places_of xs) (places_of ys) m

-- the next chunk is loaded
pub walk-loaded : (P : Place → Type 0) (s m : Stand) (n : ℕ) (after : List Entry) (rest : List ℕ) → s.numbers ≡ n ∷ rest → GoesOn s.number s.entries (table_chunk s.layer n after) → m ≡ stand s.layer n after after rest → P (place_of s) → PointsBy P (s ∷ []) (m ∷ []) (table_chunk s.layer n after ∷ [])
unfolding PointsBy
walk-loaded P s m n after rest e g same may = (place_of s, (place_of m, ([], (IsPermutation-refl (place_of s ∷ []), ((may, record { rest = rest; next = e; layer = refl; order = g; moved = ap place_of same }), moves-none P (place_of m ∷ []))))))

pub walk-within : (P : Place → Type 0) (s m : Stand) (left : List Entry) → m ≡ stand s.layer s.number s.entries left s.numbers → PointsBy P (s ∷ []) (m ∷ []) []
unfolding PointsBy
walk-within P s m left e = subst (λ (p : Place). MovesBy P [] (place_of s ∷ []) (p ∷ [])) (sym (ap place_of e)) (moves-none P (place_of s ∷ []))

pub walk-ended : (P : Place → Type 0) (xs : List Stand) → PointsBy P xs [] []
unfolding PointsBy
walk-ended P xs = (places_of xs, IsPermutation-refl (places_of xs))

-- ---- the first chunks

pub moves-first : (P : Place → Type 0) (part : Waiting) (m : Stand) (n : ℕ) (after : List Entry) (rest : List ℕ) → part.numbers.items ≡ n ∷ rest → m ≡ stand part.layer n after after rest → P (before_first part) → MovesBy P (table_chunk part.layer n after ∷ []) (before_first part ∷ []) (places_of (m ∷ []))
moves-first P part m n after rest e same may = (before_first part, (place_of m, ([], (IsPermutation-refl (before_first part ∷ []), ((may, record { rest = rest; next = e; layer = refl; order = λ i. refl; moved = ap place_of same }), moves-none P (place_of m ∷ []))))))

pub moves-absent : (P : Place → Type 0) (xs : List Place) → MovesBy P [] xs []
moves-absent P xs = (xs, IsPermutation-refl xs)

pub moves-begun : (P : Place → Type 0) (first : List Place) (h1 h2 ys : List Stand) (ready ps : List Waiting) (p : Waiting) (cs ds : List TableChunk) → ready ≡ p ∷ ps → IsPermutation (ys ++ h1) h2 → MovesBy P cs first (map before_first ready ++ places_of h1) → MovesBy P ds (before_first p ∷ []) (places_of ys) → MovesBy P (cs ++ ds) first (map before_first ps ++ places_of h2)
moves-begun P first h1 h2 ys ready ps p cs ds e q m n =
    moves-then P cs ds first (map before_first (p ∷ ps) ++ places_of h1) (map before_first ps ++ places_of h2) (subst (λ (l : List Waiting). MovesBy P cs first (map before_first l ++ places_of h1)) e m)
    (moves-to P ds (map before_first (p ∷ ps) ++ places_of h1) (places_of ys ++ (map before_first ps ++ places_of h1)) (map before_first ps ++ places_of h2) through
    (moves-beside P ds (before_first p ∷ []) (places_of ys) (map before_first ps ++ places_of h1) n))
  where
    through : IsPermutation (places_of ys ++ (map before_first ps ++ places_of h1)) (map before_first ps ++ places_of h2)
    through =
        subst (λ (l : List Place). IsPermutation l (map before_first ps ++ places_of h2)) (append_assoc (places_of ys) (map before_first ps) (places_of h1))
        (IsPermutation-trans _ _ _ (IsPermutation-append_left (places_of h1) (places_of ys ++ map before_first ps) (map before_first ps ++ places_of ys) (IsPermutation-append_comm (places_of ys) (map before_first ps)))
        (subst (λ (l : List Place). IsPermutation l (map before_first ps ++ places_of h2)) (sym (append_assoc (map before_first ps) (places_of ys) (places_of h1)))
        (behind (map before_first ps) (places_of ys ++ places_of h1) (places_of h2) (subst (λ (l : List Place). IsPermutation l (places_of h2)) (places-append ys h1) (places-permuted (ys ++ h1) h2 q)))))

-- ---- the range deletions

abbrev pub chunk_after : ℕ → Option Numbered → Option TableChunk
chunk_after layer None = None
chunk_after layer (Some a) = Some (table_chunk layer a.number a.chunk)

pub nothing : {X : Type 0} (xs : List X) → length xs ≡ 0 → xs ≡ []
nothing [] h = refl
nothing (x ∷ xs) h = absurd (omega (arith, h))

-- what is still to be read of a part
abbrev pub BackSoFar : ℕ → List ℕ → List ℕ → Option Numbered → List TableChunk → Type 0
BackSoFar layer numbers now after read = (cs : List TableChunk) (left : List ℕ) → Backwards layer now (chunk_after layer after) cs left → Backwards layer numbers None (read ++ cs) left

pub goes-to : (layer number offset : ℕ) (chunk : List Entry) (after : Option Numbered) → IsEntryStart chunk offset → length (left_at chunk offset) ≤ 1 → 1 ≤ length (left_at chunk offset) → is_before number (first_of (left_at chunk offset)) after ≡ true → GoesOnTo (table_chunk layer number chunk) (chunk_after layer after)
goes-to layer number offset chunk None start one live h = tt
goes-to layer number offset chunk (Some after) start one live h = λ e. goes-at chunk offset (first_of after.chunk) start one live (not-broken number after.number (goes_on (first_of (left_at chunk offset)) (first_of after.chunk)) (not-true ((after.number == number + 1) && not (goes_on (first_of (left_at chunk offset)) (first_of after.chunk))) h) e)
  where
    not-true : (b : Bool) → not b ≡ true → b ≡ false
    not-true true e = absurd (true≢false (sym e))
    not-true false e = refl

pub back-start : (layer : ℕ) (numbers : List ℕ) → BackSoFar layer numbers numbers None []
back-start layer numbers = λ cs left h. h

pub back-more : (layer n : ℕ) (numbers now rest : List ℕ) (chunk : List Entry) (after : Option Numbered) (here : Numbered) (cs ds : List TableChunk) → here.number ≡ n → here.chunk ≡ chunk → ds ≡ table_chunk layer n chunk ∷ [] → now ≡ rest ++ n ∷ [] → GoesOnTo (table_chunk layer n chunk) (chunk_after layer after) → begins_with_range (first_of chunk) ≡ true → BackSoFar layer numbers now after cs → BackSoFar layer numbers rest (Some here) (cs ++ ds)
back-more layer n numbers now rest chunk after here cs ds same same' one e g b so = λ es left h.
    subst (λ (l : List TableChunk). Backwards layer numbers None l left) (ap (λ (l : List TableChunk). cs ++ (l ++ es)) (sym one) ∙ sym (append_assoc cs ds es))
    (so (table_chunk layer n chunk ∷ es) left (rest, (e, (refl, (g, subst (λ (t : Bool). AfterRange t (Backwards layer rest (Some (table_chunk layer n chunk)) es left) ((es ≡ []) × (left ≡ now))) (sym b) (subst (λ (x : List Entry). Backwards layer rest (Some (table_chunk layer n x)) es left) same' (subst (λ (x : ℕ). Backwards layer rest (Some (table_chunk layer x here.chunk)) es left) same h)))))))

pub back-stop : (layer n : ℕ) (numbers now rest back : List ℕ) (chunk : List Entry) (after : Option Numbered) (cs ds : List TableChunk) → ds ≡ table_chunk layer n chunk ∷ [] → now ≡ rest ++ n ∷ [] → back ≡ rest ++ n ∷ [] → GoesOnTo (table_chunk layer n chunk) (chunk_after layer after) → begins_with_range (first_of chunk) ≡ false → BackSoFar layer numbers now after cs → Backwards layer numbers None (cs ++ ds) back
back-stop layer n numbers now rest back chunk after cs ds one e f g b so = subst (λ (l : List TableChunk). Backwards layer numbers None (cs ++ l) back) (sym one) (so (table_chunk layer n chunk ∷ []) back (rest, (e, (refl, (g, subst (λ (t : Bool). AfterRange t (Backwards layer rest (Some (table_chunk layer n chunk)) [] back) ((◌≡◌ {A = List TableChunk} [] []) × (back ≡ now))) (sym b) (refl, f ∙ sym e))))))

pub back-end : (layer : ℕ) (numbers now left : List ℕ) (after : Option Numbered) (cs : List TableChunk) → now ≡ [] → left ≡ [] → BackSoFar layer numbers now after cs → Backwards layer numbers None cs left
back-end layer numbers now left after cs e f so = subst (λ (l : List TableChunk). Backwards layer numbers None l left) (append-nil cs) (so [] left (e, f))

-- what is still to be read of some parts
abbrev pub RangesLeft : List Waiting → List Waiting → List Waiting → List TableChunk → Type 0
RangesLeft first waiting ready read = (cs : List TableChunk) (qs : List Waiting) → RangesBy waiting cs qs → RangesBy first (read ++ cs) (ready ++ qs)

pub left-start : (first ready : List Waiting) → ready ≡ [] → RangesLeft first first ready []
left-start first ready e = λ cs qs h. subst (λ (l : List Waiting). RangesBy first cs (l ++ qs)) (sym e) h

pub left-more : (first waiting ps ready ready' : List Waiting) (p p' : Waiting) (cs ds : List TableChunk) → waiting ≡ p ∷ ps → ready' ≡ ready ++ p' ∷ [] → p'.layer ≡ p.layer → Backwards p.layer p.numbers.items None ds p'.numbers.items → RangesLeft first waiting ready cs → RangesLeft first ps ready' (cs ++ ds)
left-more first waiting ps ready ready' p p' cs ds e f l b so = λ es qs h.
    subst (λ (x : List TableChunk). RangesBy first x (ready' ++ qs)) (sym (append_assoc cs ds es))
    (subst (λ (x : List Waiting). RangesBy first (cs ++ (ds ++ es)) x) (sym (ap (λ (x : List Waiting). x ++ qs) f ∙ append_assoc ready (p' ∷ []) qs))
    (so (ds ++ es) (p' ∷ qs) (subst (λ (x : List Waiting). RangesBy x (ds ++ es) (p' ∷ qs)) (sym e) (ds, (es, (p', (qs, (refl, (refl, (l, (b, h)))))))))))

pub left-end : (first waiting ready : List Waiting) (cs : List TableChunk) → waiting ≡ [] → RangesLeft first waiting ready cs → RangesBy first cs ready
left-end first waiting ready cs e so = subst (λ (l : List TableChunk). RangesBy first l ready) (append-nil cs) (subst (λ (l : List Waiting). RangesBy first (cs ++ []) l) (append-nil ready) (so [] [] (subst (λ (l : List Waiting). RangesBy l [] []) (sym e) (refl, refl))))

-- ---- a merge's walk

pub walks-begun : (P : Place → Type 0) (m : WalkState) (stands : List Stand) (cs : List TableChunk) → m.begun ≡ true → PointsBy P m.stands stands cs → WalksBy P m cs stands
unfolding PointsBy
walks-begun P m stands cs e h = subst (λ (b : Bool). WalksFrom P b m.waiting cs (places_of m.stands) (places_of stands)) (sym e) h

pub walks-new : (P : Place → Type 0) (m : WalkState) (stands : List Stand) (cs : List TableChunk) → m.begun ≡ false → StartsBy P m.waiting cs (places_of m.stands) (places_of stands) → WalksBy P m cs stands
walks-new P m stands cs e h = subst (λ (b : Bool). WalksFrom P b m.waiting cs (places_of m.stands) (places_of stands)) (sym e) h

pub starts-then : (P : Place → Type 0) (waiting : List Waiting) (old mid new : List Place) (cs ds : List TableChunk) → StartsBy P waiting cs old mid → MovesBy P ds mid new → StartsBy P waiting (cs ++ ds) old new
starts-then P waiting old mid new cs ds s m = record {
  ranges = s.ranges;
  points = s.points ++ ds;
  ready = s.ready;
  whole = ap (λ (l : List TableChunk). l ++ ds) s.whole ∙ append_assoc s.ranges s.points ds;
  backwards = s.backwards;
  forwards = moves-then P s.points ds (map before_first s.ready ++ old) mid new s.forwards m;
}

pub walks-then : (P : Place → Type 0) (m : WalkState) (mid new : List Stand) (cs ds : List TableChunk) → WalksBy P m cs mid → PointsBy P mid new ds → WalksBy P m (cs ++ ds) new
unfolding PointsBy
walks-then P m mid new cs ds h k = by m.begun h
  where
    by : (b : Bool) → WalksFrom P b m.waiting cs (places_of m.stands) (places_of mid) → WalksFrom P b m.waiting (cs ++ ds) (places_of m.stands) (places_of new)
    by true w = moves-then P cs ds (places_of m.stands) (places_of mid) (places_of new) w k
    by false w = starts-then P m.waiting (places_of m.stands) (places_of mid) (places_of new) cs ds w k

pub starts-weaker : (P Q : Place → Type 0) → ((p : Place) → P p → Q p) → (waiting : List Waiting) (cs : List TableChunk) (old new : List Place) → StartsBy P waiting cs old new → StartsBy Q waiting cs old new
starts-weaker P Q f waiting cs old new s = record { ranges = s.ranges; points = s.points; ready = s.ready; whole = s.whole; backwards = s.backwards; forwards = moves-weaker P Q f s.points (map before_first s.ready ++ old) new s.forwards }

pub walks-weaker : (P Q : Place → Type 0) → ((p : Place) → P p → Q p) → (m : WalkState) (stands : List Stand) (cs : List TableChunk) → WalksBy P m cs stands → WalksBy Q m cs stands
walks-weaker P Q f m stands cs h = by m.begun h
  where
    by : (b : Bool) → WalksFrom P b m.waiting cs (places_of m.stands) (places_of stands) → WalksFrom Q b m.waiting cs (places_of m.stands) (places_of stands)
    by true w = moves-weaker P Q f cs (places_of m.stands) (places_of stands) w
    by false w = starts-weaker P Q f m.waiting cs (places_of m.stands) (places_of stands) w

pub loaded-new : (m : WalkState) → m.begun ≡ false → m.stands ≡ [] → HasLoaded m.waiting m []
loaded-new m e s = subst (λ (b : Bool). HasLoadedFrom b m.waiting m []) (sym e) (refl, (refl, s))

pub loaded-then : (waiting : List Waiting) (old new : WalkState) (before more : List TableChunk) → new.begun ≡ true → HasLoaded waiting old before → WalksBy Freely old more new.stands → HasLoaded waiting new (before ++ more)
loaded-then waiting old new before more e h w = subst (λ (b : Bool). HasLoadedFrom b waiting new (before ++ more)) (sym e) (by old.begun h w)
  where
    by : (b : Bool) → HasLoadedFrom b waiting old before → WalksFrom Freely b old.waiting more (places_of old.stands) (places_of new.stands) → StartsBy Freely waiting (before ++ more) [] (places_of new.stands)
    by true s m = starts-then Freely waiting [] (places_of old.stands) (places_of new.stands) before more s m
    by false n s = subst (λ (l : List TableChunk). StartsBy Freely waiting (l ++ more) [] (places_of new.stands)) (sym n.0) (subst (λ (ws : List Waiting). StartsBy Freely ws more [] (places_of new.stands)) n.1.0 (subst (λ (l : List Stand). StartsBy Freely old.waiting more (places_of l) (places_of new.stands)) n.1.1 s))

-- ---- orders

made-append : (table : ℕ) (xs ys : List TableChunk) → loads_made table (xs ++ ys) ≡ loads_made table xs ++ loads_made table ys
made-append table xs ys = map-append (λ (c : TableChunk). load c.layer table c.number) xs ys

module _ {C F : Type 0} (kept : C → C → Type 0) (came : C → C → ℕ → ℕ → ℕ → Result (List ℕ) F → Type 0) (laws : AreLaws kept came) (table : ℕ) (kinds : List Kind) (loads : C → Option (List Load)) where
  abbrev Order : C → C → (List TableChunk → Type 0) → Type 0
  Order a b P = IsOrder came loads table kinds a b P

  pub order-none : (a : C) (P : List TableChunk → Type 0) → P [] → Order a a P
  order-none a P p = record { read = []; told = loads-none (loads a); loaded = λ c h. absurd h; along = p }

  pub order-along : (a b : C) (P Q : List TableChunk → Type 0) → ((cs : List TableChunk) → P cs → Q cs) → Order a b P → Order a b Q
  order-along a b P Q f o = record { read = o.read; told = o.told; loaded = o.loaded; along = f o.read o.along }

  pub order-then : (a b c : C) (P Q R : List TableChunk → Type 0) → kept a b → kept b c → ((cs ds : List TableChunk) → P cs → Q ds → R (cs ++ ds)) → Order a b P → Order b c Q → Order a c R
  order-then a b c P Q R k l f o p = record {
    read = o.read ++ p.read;
    told = told-then (loads_made table o.read) (loads_made table p.read) (loads a) (loads b) (loads c) o.told p.told ∙ ap (λ (ls : List Load). with_loads ls (loads a)) (sym (made-append table o.read p.read));
    loaded = λ x h. elim (members.has-append_cases x o.read p.read h) [ inl i ↦ loaded-earlier kept came laws table kinds a b c x.layer x.number x.entries (o.loaded x i) l | inr j ↦ loaded-later kept came laws table kinds a b c x.layer x.number x.entries k (p.loaded x j) ];
    along = f o.read p.read o.along p.along;
  }

  pub order-one : (a b : C) (layer n : ℕ) (es : List Entry) (P : List TableChunk → Type 0) → IsLoaded (came a b) table kinds layer n es → loads b ≡ with_load layer table n (loads a) → P (table_chunk layer n es ∷ []) → Order a b P
  order-one a b layer n es P l t p = record {
    read = table_chunk layer n es ∷ [];
    told = t;
    loaded = λ c. elim [ inl i ↦ subst (λ (x : TableChunk). IsLoaded (came a b) table kinds x.layer x.number x.entries) (sym i) l | inr i ↦ absurd i ];
    along = p;
  }

  -- ---- steps of the walk of the points

  pub order-weaker : (P Q : Place → Type 0) → ((p : Place) → P p → Q p) → (a b : C) (xs ys : List Stand) → Order a b (PointsBy P xs ys) → Order a b (PointsBy Q xs ys)
  order-weaker P Q f a b xs ys o = order-along a b (PointsBy P xs ys) (PointsBy Q xs ys) (λ cs m. walk-weaker P Q f xs ys cs m) o

  pub order-reordered : (P : Place → Type 0) (a b : C) (xs ys zs : List Stand) → IsPermutation ys zs → Order a b (PointsBy P xs ys) → Order a b (PointsBy P xs zs)
  order-reordered P a b xs ys zs p o = order-along a b (PointsBy P xs ys) (PointsBy P xs zs) (λ cs m. walk-to P xs ys zs cs p m) o

  -- the first of some stands moves on
  pub order-over : (P : Place → Type 0) (a b c : C) (first h0 h1 h2 ys : List Stand) (s : Stand) → ((p : Place) → EndsAt s p → P p) → kept a b → kept b c → IsPermutation h0 (s ∷ h1) → IsPermutation (ys ++ h1) h2 → Order a b (PointsBy P first h0) → Order b c (PointsBy (EndsAt s) (s ∷ []) ys) → Order a c (PointsBy P first h2)
  order-over P a b c first h0 h1 h2 ys s f k l p q o r = order-then a b c (PointsBy P first h0) (PointsBy P (s ∷ []) ys) (PointsBy P first h2) k l (λ cs ds m n. walk-over P first h0 h1 h2 ys s cs ds p q m n) o (order-weaker (EndsAt s) P f b c (s ∷ []) ys r)

  pub order-after : (P : Place → Type 0) (a b c : C) (xs ys zs : List Stand) → kept a b → kept b c → Order a b (PointsBy P xs ys) → Order b c (PointsBy P ys zs) → Order a c (PointsBy P xs zs)
  order-after P a b c xs ys zs k l o p = order-then a b c (PointsBy P xs ys) (PointsBy P ys zs) (PointsBy P xs zs) k l (λ cs ds m n. walk-then P xs ys zs cs ds m n) o p

  -- one chunk more
  pub order-next : (a b c : C) (layer0 layer n : ℕ) (es : List Entry) (P R : List TableChunk → Type 0) → layer ≡ layer0 → kept a b → kept b c → IsLoaded (came b c) table kinds layer n es → loads c ≡ with_load layer table n (loads b) → ((cs ds : List TableChunk) → P cs → ds ≡ table_chunk layer0 n es ∷ [] → R (cs ++ ds)) → Order a b P → Order a c R
  order-next a b c layer0 layer n es P R same k l i t f o =
      order-then a b c P (λ ds. ds ≡ table_chunk layer0 n es ∷ []) R k l f o
      (order-one b c layer0 n es (λ ds. ds ≡ table_chunk layer0 n es ∷ []) (subst (λ (y : ℕ). IsLoaded (came b c) table kinds y n es) same i) (subst (λ (y : ℕ). loads c ≡ with_load y table n (loads b)) same t) refl)
