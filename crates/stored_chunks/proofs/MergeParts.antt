-- One part of a merge more.
use Rattle.std.proofs.Common.{◌≡◌, ℕ, suc, ◌+◌, ◌<◌, Bool, true, false, sym, refl, ap, ◌∙◌, subst, arith, inl, inr, if◌then◌else◌, List, [], ◌∷◌, ◌++◌, length, take, get_or, slice_get, Option, Some}
use Rattle.std.specs.Prelude.{unwrap_or}
use Rattle.std.specs.List.{list_any}
use Rattle.std.proofs.lemmas.List.{length-take-le, take_more}
use Rattle.list_laws.specs.Members.{Has}
use Rattle.layer_merge.specs.FromLast.{from_last}
use Rattle.layer_merge.specs.Parts.{IsCountedChunk, is_introduced}
use Rattle.layer_merge.specs.declared.parts.Part.{Part}
use Rattle.stored_chunks.specs.Places.{AreParts, ArePartsFrom, IsPartOf, Stored, index_of, part_at}

parts-push : (k n : ℕ) (ss : List Stored) (ps : List Part) (s : Stored) (p : Part) → n ≡ k + length ss → ArePartsFrom k ss ps → IsPartOf n s p → ArePartsFrom k (ss ++ s ∷ []) (ps ++ p ∷ [])
parts-push k n [] [] s p same are is = (subst (λ (m : ℕ). IsPartOf m s p) (same ∙ (let z : k + 0 ≡ k = omega arith in z)) is, refl)
parts-push k n [] (q ∷ qs) s p same are is = absurd (cc)
parts-push k n (t ∷ ts) [] s p same are is = absurd are
parts-push k n (t ∷ ts) (q ∷ qs) s p same are is = (are.0, parts-push (k + 1) n ts qs s p (same ∙ (let l : length (t ∷ ts) ≡ length ts + 1 = omega arith in omega (arith, l))) are.1 is)

pub parts-more : (n : ℕ) (ss : List Stored) (ps qs : List Part) (s : Stored) (p : Part) → n < length ss → s ≡ get_or ss n s → ArePartsFrom 0 (take n ss) ps → qs ≡ ps ++ p ∷ [] → IsPartOf n s p → ArePartsFrom 0 (take (n + 1) ss) qs
parts-more n ss ps qs s p lt is are more part =
    let count : length (take n ss) ≡ n = length-take-le n ss (omega (arith, lt)) in
    subst (λ (x : List Stored). ArePartsFrom 0 x qs) (sym (take_more ss n s lt ∙ ap (λ (x : Stored). take n ss ++ x ∷ []) (sym is)))
    (subst (λ (y : List Part). ArePartsFrom 0 (take n ss ++ s ∷ []) y) (sym more) (parts-push 0 n (take n ss) ps s p (omega (arith, count)) are part))

-- ---- a chunk that a merge asks for

counts-there : (p : Part) (ps : List Part) → Has p (from_last is_introduced ps) → Has p ps
counts-there p [] h = absurd h
counts-there p (q ∷ ps) h = by (list_any is_introduced ps) h (counts-there p ps)
  where
    by : (b : Bool) → Has p (if b then from_last is_introduced ps else q ∷ ps) → (Has p (from_last is_introduced ps) → Has p ps) → Has p (q ∷ ps)
    by true i more = inr (more i)
    by false i more = i

part-there : (k : ℕ) (ss : List Stored) (ps : List Part) (p : Part) → ArePartsFrom k ss ps → Has p ps → (i : ℕ) × (s : Stored) × ((slice_get ss i ≡ Some s) × IsPartOf (k + i) s p)
part-there k [] ps p are h = absurd (subst (λ (l : List Part). Has p l) are h)
part-there k (s ∷ ss) [] p are h = absurd h
part-there k (s ∷ ss) (q ∷ ps) p are (inl i) = (0, s, (refl, subst (λ (n : ℕ). IsPartOf n s p) (let z : k ≡ k + 0 = omega arith in z) (subst (λ (y : Part). IsPartOf k s y) (sym i) are.0)))
part-there k (s ∷ ss) (q ∷ ps) p are (inr i) = let r = part-there (k + 1) ss ps p are.1 i in (suc r.0, r.1, (r.2.0, subst (λ (n : ℕ). IsPartOf n r.1 p) (let z : (k + 1) + r.0 ≡ k + suc r.0 = omega arith in z) r.2.1))

-- a chunk of a part that counts is one of a part that is stored, and no other stands for it
pub counted-there : (ss : List Stored) (ps : List Part) (other : Stored) (layer number : ℕ) → AreParts ss ps → IsCountedChunk ps layer number → (s : Stored) × ((slice_get ss layer ≡ Some s) × ((number < length s.chunks) × ((part_at ss other layer ≡ s) × (index_of s number ≡ number))))
counted-there ss ps other layer number are c =
    let r = part-there 0 ss ps c.0 are (counts-there c.0 ps c.1.0) in
    let place : r.0 ≡ layer = (let a = r.2.1.layer in let b = c.1.1.0 in let z : 0 + r.0 ≡ r.0 = omega arith in sym z ∙ (sym a ∙ b)) in
    let there = subst (λ (n : ℕ). slice_get ss n ≡ Some r.1) place r.2.0 in
    let few : number < length r.1.chunks = subst (λ (n : ℕ). number < n) r.2.1.chunks c.1.1.1 in
    (r.1, (there, (few, (ap (λ (o : Option Stored). unwrap_or o other) there, omega (arith, few)))))
