-- A merge as it is made.
use Rattle.std.proofs.Common.{◌≡◌, ℕ, zero, suc, ◌+◌, ◌<◌, Bool, true, false, cond, ◌&&◌, sym, refl, ap, ap₂, ◌∙◌, subst, List, [], ◌∷◌, ◌++◌, length, take, get_or, map, filter, append-nil, Option, None, inl, inr, arith}
use Rattle.std.specs.List.{range_with_len}
use Rattle.std.specs.Ordering.{is_le}
use Rattle.std.proofs.lemmas.List.{take_more}
use Rattle.std.proofs.lemmas.List.Elements.{filter-append}
use Rattle.mvcc_keys.specs.Times.{Time}
use Rattle.mvcc_keys.specs.declared.entries.Entry.{Entry}
use Rattle.list_laws.specs.Members.{Has}
use Rattle.fact_model.specs.Scans.{Item, scan}
use Rattle.chunk_file.specs.Entries.{are_ordered}
use Rattle.layer_merge.specs.declared.parts.Part.{Part}
use Rattle.layer_merge.specs.declared.ranges.Waiting.{Waiting}
use Rattle.layer_merge.specs.declared.wanted.Wanted.{Wanted}
use Rattle.layer_merge.specs.FromLast.{from_last}
use Rattle.layer_merge.specs.Loads.{World}
use Rattle.layer_merge.specs.Stands.{entries_in}
use Rattle.layer_merge.specs.Nexts.{to_come}
use Rattle.version_store.specs.Tables.{Bytes, bytes_cmp}
use Rattle.version_store.specs.Lists.{facts_of}
use Rattle.layer_merge.specs.Rows.{put_of, is_asked, rows_left}
use Rattle.layer_merge.specs.Starts.{parts_entries, part_entries, AreInOrder}
use Rattle.layer_merge.specs.Within.{AreAsked, wanted_numbers}
use Rattle.layer_merge.specs.Walks.{WalkState, IsAtWork, MergesOver}
use Rattle.layer_merge.specs.Parts.{AreProper, AreWaiting, counted_entries, entries_of_part, entries_of_parts, is_introduced, merge_rows}

numbers-from : (a n : ℕ) → range_with_len a (suc n) ≡ range_with_len a n ++ (a + n) ∷ []
numbers-from a zero = ap (λ (x : ℕ). x ∷ []) (omega arith)
numbers-from a (suc n) = ap (λ (xs : List ℕ). a ∷ xs) (numbers-from (a + 1) n) ∙ ap (λ (x : ℕ). a ∷ (range_with_len (a + 1) n ++ x ∷ [])) (omega arith)

-- the numbers so far that pass a test, and one more
numbers-step : (p : ℕ → Bool) (n : ℕ) → filter p (range_with_len 0 (n + 1)) ≡ filter p (range_with_len 0 n) ++ cond (p n) (n ∷ []) []
numbers-step p n =
    let z : 0 + n ≡ n = omega arith in
    let o : n + 1 ≡ suc n = omega arith in
    ap (λ (m : ℕ). filter p (range_with_len 0 m)) o ∙ ap (filter p) (numbers-from 0 n) ∙ filter-append p (range_with_len 0 n) ((0 + n) ∷ []) ∙ ap (λ (m : ℕ). filter p (range_with_len 0 n) ++ cond (p m) (m ∷ []) []) z

pub numbers-more : (p : ℕ → Bool) (n : ℕ) (xs ys : List ℕ) → p n ≡ true → xs ≡ filter p (range_with_len 0 n) → ys ≡ xs ++ n ∷ [] → ys ≡ filter p (range_with_len 0 (n + 1))
numbers-more p n xs ys t e f = f ∙ ap (λ (l : List ℕ). l ++ n ∷ []) e ∙ sym (numbers-step p n ∙ ap (λ (b : Bool). filter p (range_with_len 0 n) ++ cond b (n ∷ []) []) t)

pub numbers-passed : (p : ℕ → Bool) (n : ℕ) (xs : List ℕ) → p n ≡ false → xs ≡ filter p (range_with_len 0 n) → xs ≡ filter p (range_with_len 0 (n + 1))
numbers-passed p n xs t e = e ∙ sym (append-nil (filter p (range_with_len 0 n))) ∙ sym (numbers-step p n ∙ ap (λ (b : Bool). filter p (range_with_len 0 n) ++ cond b (n ∷ []) []) t)

waiting-push : (v : Wanted) (ps : List Part) (ws : List Waiting) (p : Part) (q : Waiting) → AreAsked v ps ws → q.layer ≡ p.layer → q.numbers.items ≡ wanted_numbers v p → AreAsked v (ps ++ p ∷ []) (ws ++ q ∷ [])
waiting-push v [] ws p q a l n = subst (λ (xs : List Waiting). AreAsked v (p ∷ []) (xs ++ q ∷ [])) (sym a) (l, n, refl)
waiting-push v (x ∷ ps) [] p q a l n = absurd a
waiting-push v (x ∷ ps) (y ∷ ws) p q a l n = (a.0, a.1, waiting-push v ps ws p q a.2 l n)

pub waiting-more : (v : Wanted) (ps : List Part) (i : ℕ) (p : Part) (ws ws' : List Waiting) (q : Waiting) → i < length ps → p ≡ get_or ps i p → AreAsked v (take i ps) ws → ws' ≡ ws ++ q ∷ [] → q.layer ≡ p.layer → q.numbers.items ≡ wanted_numbers v p → AreAsked v (take (i + 1) ps) ws'
waiting-more v ps i p ws ws' q h e a f l n = subst (λ (x : List Part). AreAsked v x ws') (sym (take_more ps i p h ∙ ap (λ (x : Part). take i ps ++ x ∷ []) (sym e))) (subst (λ (y : List Waiting). AreAsked v (take i ps ++ p ∷ []) y) (sym f) (waiting-push v (take i ps) ws p q a l n))

-- ---- what a new merge is of

same-part : (w : World) (p : Part) (q : Waiting) → q.layer ≡ p.layer → q.numbers.items ≡ range_with_len 0 p.chunks → part_entries w q ≡ entries_of_part w p
same-part w p q l n = ap₂ (λ (x : ℕ) (ns : List ℕ). entries_in w x ns) l n

same-parts : (w : World) (ps : List Part) (ws : List Waiting) → AreWaiting ps ws → entries_of_parts w ps ≡ parts_entries w ws
same-parts w [] ws a = ap (parts_entries w) (sym a)
same-parts w (p ∷ ps) [] a = absurd a
same-parts w (p ∷ ps) (q ∷ ws) a = ap₂ (λ (xs ys : List Entry). xs ++ ys) (sym (same-part w p q a.0 a.1)) (same-parts w ps ws a.2)

in-order : (w : World) (ps : List Part) (ws : List Waiting) → AreWaiting ps ws → ((p : Part) → Has p ps → are_ordered None (entries_of_part w p) ≡ true) → AreInOrder w ws
in-order w [] ws a o q h = absurd (subst (λ (l : List Waiting). Has q l) a h)
in-order w (p ∷ ps) [] a o q h = absurd h
in-order w (p ∷ ps) (x ∷ ws) a o q (inl i) = subst (λ (y : Waiting). are_ordered None (part_entries w y) ≡ true) (sym i) (subst (λ (l : List Entry). are_ordered None l ≡ true) (sym (same-part w p x a.0 a.1)) (o p (inl refl)))
in-order w (p ∷ ps) (x ∷ ws) a o q (inr i) = in-order w ps ws a.2 (λ y j. o y (inr j)) q i

pub all-asked : (v : Wanted) → v.lo ≡ [] → v.hi ≡ None → (key : Bytes) → is_asked v key ≡ true
all-asked v l h key = rw (l, h) (by key)
  where
    by : (key : Bytes) → (is_le (bytes_cmp [] key) && true) ≡ true
    by [] = refl
    by (x ∷ key) = refl

all-come : (v : Wanted) → v.lo ≡ [] → v.hi ≡ None → (is : List (Item Bytes Bytes)) → to_come bytes_cmp (is_asked v) None is ≡ is
all-come v l h [] = refl
all-come v l h (i ∷ is) = ap (λ (b : Bool). cond b (i ∷ to_come bytes_cmp (is_asked v) None is) (to_come bytes_cmp (is_asked v) None is)) (all-asked v l h i.key) ∙ ap (λ (xs : List (Item Bytes Bytes)). i ∷ xs) (all-come v l h is)

pub rows-whole : (all : List Entry) (v : Wanted) (done : Option Bytes) (t : Time) → v.lo ≡ [] → v.hi ≡ None → v.upto ≡ t → done ≡ None → rows_left v done all ≡ map put_of (scan bytes_cmp t (facts_of all))
unfolding rows_left
rows-whole all v last t l h u n = ap (λ (d : Option Bytes). map put_of (to_come bytes_cmp (is_asked v) d (scan bytes_cmp v.upto (facts_of all)))) n ∙ ap (map put_of) (all-come v l h (scan bytes_cmp v.upto (facts_of all))) ∙ ap (λ (x : Time). map put_of (scan bytes_cmp x (facts_of all))) u

pub rows-made : (w : World) (ps : List Part) (v : Wanted) (done : Option Bytes) (t : Time) → v.lo ≡ [] → v.hi ≡ None → v.upto ≡ t → done ≡ None → rows_left v done (counted_entries w ps) ≡ merge_rows w ps t
unfolding merge_rows
rows-made w ps v last t l h u n = rows-whole (counted_entries w ps) v last t l h u n

pub made : (w : World) (ps counted : List Part) (m : WalkState) → counted ≡ from_last is_introduced ps → AreWaiting counted m.waiting → m.stands ≡ [] → m.ranges ≡ [] → m.begun ≡ false → AreProper w ps → MergesOver w (counted_entries w ps) m
unfolding counted_entries
made w ps counted m e a s r b p =
    let a' : AreWaiting (from_last is_introduced ps) m.waiting = subst (λ (x : List Part). AreWaiting x m.waiting) e a in
    record { apart = p.apart; dated = p.dated; work = subst (λ (x : Bool). IsAtWork x w (counted_entries w ps) m) (sym b) (record { stands = s; ranges = r; whole = same-parts w (from_last is_introduced ps) m.waiting a'; ordered = in-order w (from_last is_introduced ps) m.waiting a' p.ordered }) }
