-- The bounds that a manifest tells of a piece are its least and its greatest key.
use Rattle.std.proofs.Common.{◌≡◌, ◌⊎◌, inl, inr, Bool, true, false, not, ◌&&◌, refl, sym, ap, ap₂, ◌∙◌, List, [], ◌∷◌, fold, is_eq, if◌then◌else◌}
use Rattle.std.specs.List.{list_all, list_any}
use Rattle.mvcc_keys.specs.declared.entries.Entry.{Entry}
use Rattle.range_tombstones.specs.Ranges.{bytes_le, bytes_lt}
use Rattle.range_tombstones.proofs.KeyLaws.{le-itself, le-trans, lt-le, not-lt, same-itself}
use Rattle.version_store.specs.Tables.{Bytes, bytes_cmp}
use Rattle.mvcc_keys.specs.Entries.{key_of, end_of}
use Rattle.layer_objects.specs.Contents.{bounds_of}
use Rattle.stored_chunks.specs.Told.{are_bounds}
use Rattle.list_laws.proofs.Bools.{or-left, or-right}

-- the first of some keys, by an order
module _ (key : Entry → Bytes) (lt le : Bytes → Bytes → Bool) (itself : (a : Bytes) → le a a ≡ true) (trans : (a b c : Bytes) → le a b ≡ true → le b c ≡ true → le a c ≡ true)
    (lt-so : (a b : Bytes) → lt a b ≡ true → le a b ≡ true) (lt-not : (a b : Bytes) → not (lt a b) ≡ le b a) where
  abbrev pick : Bytes → Bytes → Bytes
  pick k x = if lt x k then x else k

  abbrev best : Bytes → List Entry → Bytes
  best k es = fold (λ (b : Bytes) (e : Entry). pick b (key e)) k es

  picked : (P : Bytes → Type 0) (k x : Bytes) → (lt x k ≡ true → P x) → (lt x k ≡ false → P k) → P (pick k x)
  picked P k x p q = by (lt x k) p q
    where
      by : (b : Bool) → (b ≡ true → P x) → (b ≡ false → P k) → P (if b then x else k)
      by true p q = p refl
      by false p q = q refl

  named : (e : Entry) (b : Bytes) → b ≡ key e → is_eq (bytes_cmp (key e) b) ≡ true
  named e b same = ap (λ (x : Bytes). is_eq (bytes_cmp (key e) x)) same ∙ same-itself (key e)

  best-of : (k : Bytes) (es : List Entry) → (le (best k es) k ≡ true) × (list_all (λ (d : Entry). le (best k es) (key d)) es ≡ true) × ((best k es ≡ k) ⊎ (list_any (λ (d : Entry). is_eq (bytes_cmp (key d) (best k es))) es ≡ true))
  best-of k [] = (itself k, refl, inl refl)
  best-of k (e ∷ es) =
      let next = pick k (key e) in
      let r = best-of next es in
      let first : le next k ≡ true = picked (λ b. le b k ≡ true) k (key e) (lt-so (key e) k) (λ f. itself k) in
      let second : le next (key e) ≡ true = picked (λ b. le b (key e) ≡ true) k (key e) (λ t. itself (key e)) (λ f. sym (lt-not (key e) k) ∙ ap not f) in
      let one : (next ≡ k) ⊎ (next ≡ key e) = picked (λ b. (b ≡ k) ⊎ (b ≡ key e)) k (key e) (λ t. inr refl) (λ f. inl refl) in (
        trans (best next es) next k r.0 first,
        ap₂ (λ (a b : Bool). a && b) (trans (best next es) next (key e) r.0 second) r.1,
        elim r.2 [ inl same ↦ elim one [ inl a ↦ inl (same ∙ a) | inr b ↦ inr (or-left _ _ (named e (best next es) (same ∙ b))) ] | inr later ↦ inr (or-right _ _ later) ],
      )

  among : (e : Entry) (es : List Entry) → (list_all (λ (d : Entry). le (best (key e) es) (key d)) (e ∷ es) && list_any (λ (d : Entry). is_eq (bytes_cmp (key d) (best (key e) es))) (e ∷ es)) ≡ true
  among e es =
      let r = best-of (key e) es in
      ap₂ (λ (a b : Bool). a && b) (ap₂ (λ (a b : Bool). a && b) r.0 r.1) (elim r.2 [ inl same ↦ or-left _ _ (named e (best (key e) es) same) | inr later ↦ or-right _ _ later ])

pub bounds-told : (piece : List Entry) → are_bounds (bounds_of piece) piece ≡ true
bounds-told [] = refl
bounds-told (e ∷ es) =
    ap₂ (λ (a b : Bool). a && b) (among key_of bytes_lt bytes_le le-itself le-trans lt-le not-lt e es)
    (among end_of (λ a b. bytes_lt b a) (λ a b. bytes_le b a) le-itself (λ a b c p q. le-trans c b a q p) (λ a b. lt-le b a) (λ a b. not-lt b a) e es)
