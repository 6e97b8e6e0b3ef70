-- The readers of bytes take just the spellings.
use Rattle.std.proofs.Common.{◌≡◌, ℕ, suc, ◌<◌, List, [], ◌∷◌, ◌++◌, map, length, nat_eq, Bool, true, false, inl, inr, arith, refl, ap, ◌∙◌, sym, Ok, if◌then◌else◌}
use Rattle.std.proofs.lemmas.Bool.{cases_Bool}
use Rattle.std.proofs.lemmas.Bool.Decides.{nat_tests}
use Rattle.list_laws.specs.Bytes.{AreBytes}
use Rattle.key_encoding.specs.Spelling.{escaped, turned, bytes_code, bytes_down_code}
use Rattle.key_encoding.specs.Reading.{unescaped, read_marked, read_bytes, read_bytes_down}
use Rattle.key_encoding.proofs.Answered.{ok_parts, on_value-ok}
use Rattle.key_encoding.proofs.Escapes.{zero_is, map-unturned}

twice : (down : Bool) (x : ℕ) → x < 256 → turned down (turned down x) ≡ x
twice true x h = omega arith
twice false x h = refl

-- a byte that reads as y is y's
turned_is : (down : Bool) (x y : ℕ) → x < 256 → nat_eq (turned down x) y ≡ true → x ≡ turned down y
turned_is down x y h e =
    let is : turned down x ≡ y = grind (arith, nat_tests) in
    sym (twice down x h) ∙ ap (turned down) is

unescaped-found : (down : Bool) (len : ℕ) (v r : List ℕ) → AreBytes v → unescaped down len false (map (turned down) (escaped v) ++ r) ≡ Ok (v, r)
unescaped-found true len [] r h = refl
unescaped-found false len [] r h = refl
unescaped-found down len (x ∷ v) r h =
    let rest = unescaped-found down len v r h.1 in
    elim (cases_Bool (nat_eq x 0)) [
      | inl z ↦ let e = zero_is x z in rw (z, e, twice down 0 (omega arith), twice down 255 (omega arith), rest) refl
      | inr f ↦ rw (f, twice down x h.0) (rw (f, rest) refl)
    ]

-- the 00 that stands before
abbrev pending : Bool → Bool → List ℕ
pending down zero = if zero then turned down 0 ∷ [] else []

-- what was read are bytes, and they are spelled there
abbrev Spelled : Bool → Bool → List ℕ → List ℕ → List ℕ → Type 0
Spelled down zero b v r = AreBytes v × (pending down zero ++ b ≡ map (turned down) (escaped v) ++ r)

turned_byte : (down : Bool) (x : ℕ) → x < 256 → turned down x < 256
turned_byte true x h = omega arith
turned_byte false x h = h

only_byte : (down : Bool) (x : ℕ) (rest v w r : List ℕ) → x < 256 → nat_eq (turned down x) 0 ≡ false → turned down x ∷ w ≡ v → Spelled down false rest w r → Spelled down false (x ∷ rest) v r
only_byte down x rest v w r h f e more = rw (← e) ((turned_byte down x h, more.0), rw (f, twice down x h) (ap (λ t. x ∷ t) more.1))

only_zero : (down : Bool) (x : ℕ) (rest v w r : List ℕ) → x < 256 → nat_eq (turned down x) 255 ≡ true → 0 ∷ w ≡ v → Spelled down false rest w r → Spelled down true (x ∷ rest) v r
only_zero down x rest v w r h z e more =
    rw (← e) ((omega arith, more.0), rw (turned_is down x 255 h z) (ap (λ t. turned down 0 ∷ turned down 255 ∷ t) more.1))

only_end : (down : Bool) (x : ℕ) (rest v r : List ℕ) → x < 256 → nat_eq (turned down x) 1 ≡ true → [] ≡ v → rest ≡ r → Spelled down true (x ∷ rest) v r
only_end down x rest v r h z e e' = rw (← e) (tt, rw (turned_is down x 1 h z) (ap (λ t. turned down 0 ∷ turned down 1 ∷ t) e'))

only_pending : (down : Bool) (x : ℕ) (rest v r : List ℕ) → x < 256 → nat_eq (turned down x) 0 ≡ true → Spelled down true rest v r → Spelled down false (x ∷ rest) v r
only_pending down x rest v r h z more = (more.0, rw (turned_is down x 0 h z) more.1)

unescaped-only : (down : Bool) (len : ℕ) (zero : Bool) (b v r : List ℕ) → AreBytes b → unescaped down len zero b ≡ Ok (v, r) → Spelled down zero b v r
unescaped-only down len zero [] v r h e = absurd (cc)
unescaped-only down len false (x ∷ rest) v r h e =
    elim (cases_Bool (nat_eq (turned down x) 0)) [
      | inl z ↦ only_pending down x rest v r h.0 z (unescaped-only down len true rest v r h.1 (rw z at e))
      | inr f ↦
          let read = on_value-ok (λ t. turned down x ∷ t) (unescaped down len false rest) v r (rw f at e) in
          only_byte down x rest v read.0 r h.0 f read.2 (unescaped-only down len false rest read.0 r h.1 read.1)
    ]
unescaped-only down len true (x ∷ rest) v r h e =
    elim (cases_Bool (nat_eq (turned down x) 255)) [
      | inl z ↦
          let read = on_value-ok (λ t. 0 ∷ t) (unescaped down len false rest) v r (rw z at e) in
          only_zero down x rest v read.0 r h.0 z read.2 (unescaped-only down len false rest read.0 r h.1 read.1)
      | inr f ↦
          elim (cases_Bool (nat_eq (turned down x) 1)) [
            | inl z ↦ let parts = ok_parts [] v rest r (rw (f, z) at e) in only_end down x rest v r h.0 z parts.0 parts.1
            | inr g ↦ let e' = rw (f, g) at e in absurd (cc)
          ]
    ]

pub marked-only : (down : Bool) (marker : ℕ) (b v r : List ℕ) → AreBytes b → read_marked down marker b ≡ Ok (v, r) → AreBytes v × (b ≡ marker ∷ map (turned down) (escaped v) ++ r)
marked-only down marker [] v r h e = absurd (cc)
marked-only down marker (x ∷ rest) v r h e =
    elim (cases_Bool (nat_eq x marker)) [
      | inl t ↦
          let e' = rw t at e in
          let more = unescaped-only down (suc (length rest)) false rest v r h.1 e' in
          let same : x ≡ marker = grind (arith, nat_tests) in
          (more.0, rw same (ap (λ t. marker ∷ t) more.1))
      | inr f ↦ let e' = rw f at e in absurd (cc)
    ]

pub bytes-found : (v r : List ℕ) → AreBytes v → read_bytes (bytes_code v ++ r) ≡ Ok (v, r)
unfolding bytes_code
bytes-found v r h =
    let len = suc (length (escaped v ++ r)) in
    rw (map-unturned (escaped v)) at (unescaped-found false len v r h)

pub bytes-only : (b v r : List ℕ) → AreBytes b → read_bytes b ≡ Ok (v, r) → AreBytes v × (b ≡ bytes_code v ++ r)
unfolding bytes_code
bytes-only b v r h e = rw (map-unturned (escaped v)) at (marked-only false 18 b v r h e)

pub bytes_down-found : (v r : List ℕ) → AreBytes v → read_bytes_down (bytes_down_code v ++ r) ≡ Ok (v, r)
unfolding bytes_down_code
bytes_down-found v r h = unescaped-found true (suc (length (map (turned true) (escaped v) ++ r))) v r h

pub bytes_down-only : (b v r : List ℕ) → AreBytes b → read_bytes_down b ≡ Ok (v, r) → AreBytes v × (b ≡ bytes_down_code v ++ r)
unfolding bytes_down_code
bytes_down-only b v r h e = marked-only true 19 b v r h e
