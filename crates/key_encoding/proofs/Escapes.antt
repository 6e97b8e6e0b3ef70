-- The order of escaped bytes, also of their complements.
use Rattle.std.proofs.Common.{◌≡◌, ℕ, ◌-◌, ◌<◌, List, [], ◌∷◌, ◌++◌, map, nat_eq, Bool, true, false, inl, inr, arith, refl, ap, ◌∙◌}
use Rattle.std.specs.declared.cmp.Ordering.{Ordering}
use Rattle.std.specs.declared.cmp.Ordering.TheVariants.{Less, Equal, Greater}
use Rattle.std.specs.Ordering.{nat_cmp, ordering_then}
use Rattle.std.specs.Cmp.{ranked}
use Rattle.std.specs.Cmp.Lexicographic.{slice_cmp}
use Rattle.std.proofs.lemmas.Bool.{cases_Bool}
use Rattle.std.proofs.lemmas.Bool.Decides.{nat_tests}
use Rattle.key_encoding.specs.Coding.{IsOrderedCode, turned_round}
use Rattle.list_laws.specs.Bytes.{AreBytes}
use Rattle.key_encoding.specs.Spelling.{escape, escaped, turned, bytes_code, bytes_down_code}
use Rattle.key_encoding.proofs.Ranks.{less, greater, equal, then_assoc}

pub zero_is : (x : ℕ) → nat_eq x 0 ≡ true → x ≡ 0
zero_is x h = grind (arith, nat_tests)

pub map-unturned : (xs : List ℕ) → map (turned false) xs ≡ xs
map-unturned [] = refl
map-unturned (x ∷ xs) = ap (λ t. x ∷ t) (map-unturned xs)

-- bytes and byte strings in the order, or in the order turned round
abbrev byte_way : Bool → ℕ → ℕ → Ordering
byte_way true x y = nat_cmp y x
byte_way false x y = nat_cmp x y

abbrev way : Bool → List ℕ → List ℕ → Ordering
way true a b = slice_cmp nat_cmp b a
way false a b = slice_cmp nat_cmp a b

way-step : (down : Bool) (x y : ℕ) (a b : List ℕ) → way down (x ∷ a) (y ∷ b) ≡ ordering_then (byte_way down x y) (way down a b)
way-step true x y a b = refl
way-step false x y a b = refl

byte_way-same : (down : Bool) (x y : ℕ) → x ≡ y → byte_way down x y ≡ Equal
byte_way-same true x y e = equal y x (omega arith)
byte_way-same false x y e = equal x y e

-- bytes that differ decide, turned or not
up : (down : Bool) (x y : ℕ) (p q : Ordering) → x < y → y < 256 → ordering_then (nat_cmp (turned down x) (turned down y)) p ≡ ordering_then (byte_way down x y) q
up true x y p q h hy = rw (greater (255 - x) (255 - y) (omega arith), greater y x h) refl
up false x y p q h hy = rw (less x y h) refl

fall : (down : Bool) (x y : ℕ) (p q : Ordering) → y < x → x < 256 → ordering_then (nat_cmp (turned down x) (turned down y)) p ≡ ordering_then (byte_way down x y) q
fall true x y p q h hx = rw (less (255 - x) (255 - y) (omega arith), less y x h) refl
fall false x y p q h hx = rw (greater x y h) refl

-- a byte's escape begins with the byte
lead : (x : ℕ) (xs : List ℕ) → (t : List ℕ) × (escape x ++ xs ≡ x ∷ t)
lead x xs =
    elim (cases_Bool (nat_eq x 0)) [
      | inl z ↦ (255 ∷ xs, let e = zero_is x z in rw (z, e) refl)
      | inr f ↦ (xs, rw f refl)
    ]

-- an escape before both
stripped : (down : Bool) (x : ℕ) (a b r s : List ℕ)
    → slice_cmp nat_cmp (map (turned down) (escape x ++ a) ++ r) (map (turned down) (escape x ++ b) ++ s) ≡ slice_cmp nat_cmp (map (turned down) a ++ r) (map (turned down) b ++ s)
stripped down x a b r s =
    elim (cases_Bool (nat_eq x 0)) [
      | inl z ↦ rw (z, equal (turned down 0) (turned down 0) refl, equal (turned down 255) (turned down 255) refl) refl
      | inr f ↦ rw (f, equal (turned down x) (turned down x) refl) refl
    ]

-- the comparison of two codes, and what it is to be
abbrev IsDecided : Bool → List ℕ → List ℕ → List ℕ → List ℕ → Type 0
IsDecided down a b r s = slice_cmp nat_cmp (map (turned down) (escaped a) ++ r) (map (turned down) (escaped b) ++ s) ≡ ordering_then (way down a b) (slice_cmp nat_cmp r s)

one_more : (down : Bool) (x y : ℕ) (a b r s : List ℕ) → x < 256 → y < 256 → IsDecided down a b r s → IsDecided down (x ∷ a) (y ∷ b) r s
one_more down x y a b r s hx hy rest = by (nat_cmp x y) refl
  where
    by : (o : Ordering) → o ≡ nat_cmp x y → IsDecided down (x ∷ a) (y ∷ b) r s
    by Less e = rw (way-step down x y a b, (lead x (escaped a)).1, (lead y (escaped b)).1, ← then_assoc (byte_way down x y) (way down a b) (slice_cmp nat_cmp r s)) (up down x y _ _ (ranked x y Less e) hy)
    by Equal e =
        let same : x ≡ y = ranked x y Equal e in
        rw (way-step down x y a b, byte_way-same down x y same, ← same) (stripped down x (escaped a) (escaped b) r s ∙ rest)
    by Greater e = rw (way-step down x y a b, (lead x (escaped a)).1, (lead y (escaped b)).1, ← then_assoc (byte_way down x y) (way down a b) (slice_cmp nat_cmp r s)) (fall down x y _ _ (ranked x y Greater e) hx)

-- the end against a byte
end_first : (down : Bool) (y : ℕ) (b r s : List ℕ) → y < 256 → IsDecided down [] (y ∷ b) r s
end_first true y b r s h =
    elim (cases_Bool (nat_eq y 0)) [
      | inl z ↦ rw z refl
      | inr f ↦ rw (f, greater 255 (255 - y) (let p : 0 < y = grind (arith, nat_tests) in omega arith)) refl
    ]
end_first false y b r s h =
    elim (cases_Bool (nat_eq y 0)) [
      | inl z ↦ rw z refl
      | inr f ↦ rw (f, less 0 y (grind (arith, nat_tests))) refl
    ]

end_last : (down : Bool) (x : ℕ) (a r s : List ℕ) → x < 256 → IsDecided down (x ∷ a) [] r s
end_last true x a r s h =
    elim (cases_Bool (nat_eq x 0)) [
      | inl z ↦ rw z refl
      | inr f ↦ rw (f, less (255 - x) 255 (let p : 0 < x = grind (arith, nat_tests) in omega arith)) refl
    ]
end_last false x a r s h =
    elim (cases_Bool (nat_eq x 0)) [
      | inl z ↦ rw z refl
      | inr f ↦ rw (f, greater x 0 (grind (arith, nat_tests))) refl
    ]

escaped-ordered : (down : Bool) (a b r s : List ℕ) → AreBytes a → AreBytes b → IsDecided down a b r s
escaped-ordered true [] [] r s ha hb = refl
escaped-ordered false [] [] r s ha hb = refl
escaped-ordered down [] (y ∷ b) r s ha hb = end_first down y b r s hb.0
escaped-ordered down (x ∷ a) [] r s ha hb = end_last down x a r s ha.0
escaped-ordered down (x ∷ a) (y ∷ b) r s ha hb = one_more down x y a b r s ha.0 hb.0 (escaped-ordered down a b r s ha.1 hb.1)

pub bytes-ordered : IsOrderedCode AreBytes (slice_cmp nat_cmp) bytes_code
unfolding bytes_code
bytes-ordered a b r s ha hb = rw (map-unturned (escaped a), map-unturned (escaped b)) at (escaped-ordered false a b r s ha hb)

pub bytes_down-ordered : IsOrderedCode AreBytes (turned_round (slice_cmp nat_cmp)) bytes_down_code
unfolding bytes_down_code
bytes_down-ordered a b r s ha hb = escaped-ordered true a b r s ha hb

-- the two codes as the writer makes them
pub bytes_code-marked : (xs : List ℕ) → bytes_code xs ≡ 18 ∷ map (turned false) (escaped xs)
unfolding bytes_code
bytes_code-marked xs = rw (map-unturned (escaped xs)) refl

pub bytes_down_code-marked : (xs : List ℕ) → bytes_down_code xs ≡ 19 ∷ map (turned true) (escaped xs)
unfolding bytes_down_code
bytes_down_code-marked xs = refl
