-- The pieces of entries that ascend.
use Rattle.std.proofs.Common.{◌≡◌, ◌∙◌, ℕ, zero, suc, ◌-◌, ◌<◌, ◌≤◌, sym, refl, ap, ap₂, subst, List, [], ◌∷◌, ◌++◌, length, take, drop, slice_get, append_assoc, inl, Option, Some, None, Less, arith}
use Rattle.std.specs.List.Sorted.{IsStrictlySortedBy}
use Rattle.std.proofs.lemmas.List.{take-append-drop, length-drop}
use Rattle.mvcc_keys.specs.declared.entries.Entry.{Entry}
use Rattle.list_laws.proofs.Members as members
use Rattle.span_export.specs.declared.cursor.Place.{Place}
use Rattle.span_export.specs.Plans.{plan_entries}
use Rattle.span_export.specs.Pieces.{after_place, ArePieces, is_after, is_left, joined, PiecesAreWhole, cursor_after, place_of}
use Rattle.span_export.specs.Entries.{order}
use Rattle.span_export.proofs.EntryOrder.{after-later, not_after-earlier, not_after-itself, plan-sorted}
use Rattle.list_laws.proofs.Filters.{filter-all}

-- ---- the cursor

-- the cursor is at the last of some entries
pub place-at : (cursor : Option Place) (es : List Entry) (e : Entry) → slice_get es (length es - 1) ≡ Some e → cursor_after cursor es ≡ Some (place_of e)
place-at cursor [] e h = absurd (cc)
place-at cursor (d ∷ []) e h = let same : d ≡ e = cc in ap (λ (x : Entry). Some (place_of x)) same
place-at cursor (d ∷ c ∷ es) e h = place-at (Some (place_of d)) (c ∷ es) e (let one : length (c ∷ es) - 1 ≡ length es = omega arith in let two : length (d ∷ c ∷ es) - 1 ≡ suc (length es) = omega arith in ap (slice_get (c ∷ es)) one ∙ (sym (ap (slice_get (d ∷ c ∷ es)) two) ∙ h))

-- ---- what is after a place

filter-past : (done : List Entry) (e : Entry) (more : List Entry) → IsStrictlySortedBy order (done ++ e ∷ more) → after_place (Some (place_of e)) (done ++ e ∷ more) ≡ more
unfolding IsStrictlySortedBy
filter-past [] e more up = rw (not_after-itself e) (filter-all (is_after (place_of e)) more (λ x h. after-later e x (members.has-AllByRecursion (λ y. order e y ≡ Less) x more up.0 h)))
filter-past (d ∷ done) e more up = rw (not_after-earlier d e (members.has-AllByRecursion (λ y. order d y ≡ Less) e (done ++ e ∷ more) up.0 (members.has-append_right e done (e ∷ more) (inl refl)))) (filter-past done e more up.1)

-- after a piece that comes next, the others are left
cut : (es : List Entry) → IsStrictlySortedBy order es → (done piece more : List Entry) (cursor : Option Place) → es ≡ done ++ (piece ++ more) → after_place cursor es ≡ piece ++ more → after_place (cursor_after cursor piece) es ≡ more
cut es up done [] more cursor e left = left
cut es up done (x ∷ piece) more cursor e left = cut es up (done ++ x ∷ []) piece more (Some (place_of x)) (e ∙ sym (append_assoc done (x ∷ []) (piece ++ more))) (ap (after_place (Some (place_of x))) e ∙ filter-past done x (piece ++ more) (subst (IsStrictlySortedBy order) e up))

next : (n : ℕ) (es : List Entry) → IsStrictlySortedBy order es → (done left : List Entry) (cursor : Option Place) → es ≡ done ++ left → after_place cursor es ≡ left → after_place (cursor_after cursor (take n left)) es ≡ drop n left
next n es up done left cursor e is = let whole : take n left ++ drop n left ≡ left = take-append-drop n left in cut es up done (take n left) (drop n left) cursor (e ∙ ap (λ (xs : List Entry). done ++ xs) (sym whole)) (is ∙ sym whole)

split : (n : ℕ) (es done left : List Entry) → es ≡ done ++ left → es ≡ (done ++ take n left) ++ drop n left
split n es done left e = e ∙ (ap (λ (xs : List Entry). done ++ xs) (sym (take-append-drop n left)) ∙ sym (append_assoc done (take n left) (drop n left)))

pieces-joined : (n : ℕ) (es : List Entry) → IsStrictlySortedBy order es → (done left : List Entry) (cursor : Option Place) (pieces : List (List Entry)) → es ≡ done ++ left → after_place cursor es ≡ left → ArePieces n es cursor pieces → joined pieces ≡ left
pieces-joined n es up done left cursor [] e is are = sym are ∙ is
pieces-joined n es up done left cursor (piece ∷ pieces) e is are = ap₂ (λ (xs ys : List Entry). xs ++ ys) here (pieces-joined n es up (done ++ take n left) (drop n left) (cursor_after cursor piece) pieces (split n es done left e) (ap (λ (xs : List Entry). after_place (cursor_after cursor xs) es) here ∙ next n es up done left cursor e is) are.1) ∙ take-append-drop n left
  where
    here : piece ≡ take n left
    here = are.0 ∙ ap (take n) is

pieces-given : (room n : ℕ) (es : List Entry) → IsStrictlySortedBy order es → 0 < n → (done left : List Entry) (cursor : Option Place) → length left ≤ room → es ≡ done ++ left → after_place cursor es ≡ left → (pieces : List (List Entry)) × ArePieces n es cursor pieces
pieces-given room n es up pos done [] cursor l e is = ([], is)
pieces-given zero n es up pos done (x ∷ left) cursor l e is = absurd (let m : suc (length left) ≤ 0 = l in omega arith)
pieces-given (suc room) n es up pos done (x ∷ left) cursor l e is =
    let fits : length (drop n (x ∷ left)) ≤ room = (let d = length-drop n (x ∷ left) in let m : suc (length left) ≤ suc room = l in let s : length (x ∷ left) ≡ suc (length left) = refl in omega arith) in
    let rest = pieces-given room n es up pos (done ++ take n (x ∷ left)) (drop n (x ∷ left)) (cursor_after cursor (take n (x ∷ left))) fits (split n es done (x ∷ left) e) (next n es up done (x ∷ left) cursor e is) in
    (take n (x ∷ left) ∷ rest.0, (sym (ap (take n) is), rest.1))

pub nothing-given : (es : List Entry) → after_place None es ≡ es
nothing-given es = filter-all (is_left None) es (λ x h. refl)

pub pieces-whole : PiecesAreWhole
pieces-whole = record {
  whole = λ h table plan n pieces are. pieces-joined n (plan_entries h table plan) (plan-sorted h table plan) [] (plan_entries h table plan) None pieces refl (nothing-given (plan_entries h table plan)) are;
  given = λ h table plan n pos. pieces-given (length (plan_entries h table plan)) n (plan_entries h table plan) (plan-sorted h table plan) pos [] (plan_entries h table plan) None (omega arith) refl (nothing-given (plan_entries h table plan));
  follows = λ h table plan n done left cursor e is. next n (plan_entries h table plan) (plan-sorted h table plan) done left cursor e is;
}
