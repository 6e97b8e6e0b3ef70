-- What an answer of a reader says, and codes from their readers.
use Rattle.std.proofs.Common.{◌≡◌, ℕ, List, ◌++◌, ap, ◌∙◌, sym, Ok, Err, Result}
use Rattle.std.specs.declared.cmp.Ordering.{Ordering}
use Rattle.key_encoding.specs.Coding.{IsOrderedCode, IsCode}
use Rattle.list_laws.specs.Bytes.{AreBytes}
use Rattle.key_encoding.specs.Reading.{on_value}
use Rattle.key_encoding.specs.declared.fault.KeyFault.{KeyFault}

-- what an `Ok` of two parts holds
pub ok_parts : {X : Type 0} (a v : X) (b r : List ℕ) → (let x : Result (X × List ℕ) KeyFault = Ok (a, b) in x ≡ Ok (v, r)) → (a ≡ v) × (b ≡ r)
ok_parts {X} a v b r e =
    let pairs : (let x : X × List ℕ = (a, b) in x ≡ (v, r)) = cc in
    (ap (λ (p : X × List ℕ). p.0) pairs, ap (λ (p : X × List ℕ). p.1) pairs)

-- the value before a function of it
pub on_value-ok : {X Y : Type 0} (f : X → Y) (x : Result (X × List ℕ) KeyFault) (y : Y) (r : List ℕ) → on_value f x ≡ Ok (y, r) → (v : X) × (x ≡ Ok (v, r)) × (f v ≡ y)
on_value-ok {X} f (Ok p) y r e =
    let parts = ok_parts (f p.0) y p.1 r e in
    (p.0, ap (λ (t : List ℕ). let w : Result (X × List ℕ) KeyFault = Ok (p.0, t) in w) parts.1, parts.0)
on_value-ok f (Err err) y r e = absurd (cc)

pub is_code : {X : Type 0} (P : X → Type 0) (cmp : X → X → Ordering) (code : X → List ℕ) (read : List ℕ → Result (X × List ℕ) KeyFault)
    → IsOrderedCode P cmp code
    → ((v : X) (r : List ℕ) → P v → read (code v ++ r) ≡ Ok (v, r))
    → ((b : List ℕ) (v : X) (r : List ℕ) → AreBytes b → read b ≡ Ok (v, r) → P v × (b ≡ code v ++ r))
    → IsCode P cmp code read
is_code P cmp code read o f u = record {
  ordered = o;
  found = f;
  only = u;
  apart = λ a b r s pa pb e. ok_parts a b r s (sym (f a r pa) ∙ (ap read e ∙ f b s pb));
}
