-- Rewritten keys keep their order and their differences.
use Rattle.std.proofs.Common.{◌≡◌, ℕ, ◌<◌, ◌^◌, nat_eq, List, ◌++◌, Option, Some, None, Result, Ok, Err, Equal, arith, refl, sym, ap, ◌∙◌}
use Rattle.std.specs.Map.{lookup}
use Rattle.std.specs.Ordering.{nat_cmp, ordering_then}
use Rattle.std.specs.Cmp.Lexicographic.{slice_cmp}
use Rattle.std.proofs.lemmas.Bool.Decides.{nat_tests}
use Rattle.key_encoding.specs.Coding.{IsCode, IsWord}
use Rattle.key_encoding.specs.Reading.{read_uvarint}
use Rattle.key_encoding.specs.Spelling.{uvarint}
use Rattle.key_encoding.specs.declared.fault.KeyFault.{KeyFault}
use Rattle.key_encoding.proofs.Answered.{is_code}
use Rattle.key_encoding.proofs.Grammars.{uvarint-found, uvarint-only}
use Rattle.key_encoding.proofs.UnsignedOrder.{uvarint-ordered}
use Rattle.key_rewriter.specs.Ids.{IsIdMap}
use Rattle.key_rewriter.specs.Rewriting.{KeepsDifferences, KeepsOrder, replaced, rewritten, rewritten_by}
use Rattle.key_rewriter.proofs.Pairs.{partner-one, partner-small}

uvarints : IsCode IsWord nat_cmp uvarint read_uvarint
uvarints = is_code _ _ _ _ uvarint-ordered uvarint-found uvarint-only

-- the id in front of a key, what follows it, and its partner
record Replaced (map : List (ℕ × ℕ)) (a x : List ℕ) : Type 0 where
  pub id : ℕ
  pub rest : List ℕ
  pub new : ℕ
  pub read : read_uvarint a ≡ Ok (id, rest)
  pub mapped : lookup (nat_eq id) map ≡ Some new
  pub wrote : x ≡ uvarint new ++ rest

is-Replaced : (map : List (ℕ × ℕ)) (a x : List ℕ) → rewritten map a ≡ Ok x → Replaced map a x
is-Replaced map a x e = by (read_uvarint a) refl e
  where
    got : (p : ℕ × List ℕ) → read_uvarint a ≡ Ok p → (o : Option ℕ) → lookup (nat_eq p.0) map ≡ o → replaced p.0 p.1 o ≡ Ok x → Replaced map a x
    got p is None l e = absurd (cc)
    got p is (Some new) l e = record { id = p.0; rest = p.1; new = new; read = is; mapped = l; wrote = let w : uvarint new ++ p.1 ≡ x = cc in sym w }

    by : (o : Result (ℕ × List ℕ) KeyFault) → read_uvarint a ≡ o → rewritten_by map o ≡ Ok x → Replaced map a x
    by (Err fault) is e = absurd (cc)
    by (Ok p) is e = got p is (lookup (nat_eq p.0) map) refl e

word : (map : List (ℕ × ℕ)) (id new : ℕ) → IsIdMap map → lookup (nat_eq id) map ≡ Some new → new < 2 ^ 64
word map id new h e = let small = partner-small id new map h e in omega arith

same-id : (n : ℕ) (r s : List ℕ) → n < 2 ^ 64 → slice_cmp nat_cmp (uvarint n ++ r) (uvarint n ++ s) ≡ slice_cmp nat_cmp r s
same-id n r s w =
    let even : nat_cmp n n ≡ Equal = grind (arith, nat_tests) in
    uvarint-ordered n n r s w w ∙ ap (λ o. ordering_then o (slice_cmp nat_cmp r s)) even

pub keeps-differences : KeepsDifferences
keeps-differences map a b x h p q e f =
    let k = is-Replaced map a x e in
    let l = is-Replaced map b x f in
    let alike = uvarints.apart k.new l.new k.rest l.rest (word map k.id k.new h k.mapped) (word map l.id l.new h l.mapped) (sym k.wrote ∙ l.wrote) in
    let ids : k.id ≡ l.id = partner-one k.id l.id l.new map h (k.mapped ∙ ap Some alike.0) l.mapped in
    (uvarint-only a k.id k.rest p k.read).1 ∙ ap (λ n. uvarint n ++ k.rest) ids ∙ ap (λ r. uvarint l.id ++ r) alike.1 ∙ sym (uvarint-only b l.id l.rest q l.read).1

pub keeps-order : KeepsOrder
keeps-order map id a b r s x y h p q m n e f = by (lookup (nat_eq id) map) refl (ap (rewritten_by map) (sym m) ∙ e) (ap (rewritten_by map) (sym n) ∙ f)
  where
    by : (o : Option ℕ) → lookup (nat_eq id) map ≡ o → replaced id r o ≡ Ok x → replaced id s o ≡ Ok y → slice_cmp nat_cmp x y ≡ slice_cmp nat_cmp a b
    by None l u v = absurd (cc)
    by (Some new) l u v =
        let w : uvarint new ++ r ≡ x = cc in
        let z : uvarint new ++ s ≡ y = cc in
        let front = uvarint-only a id r p m in
        let back = uvarint-only b id s q n in
        rw (← w, ← z, front.1, back.1) (same-id new r s (word map id new h l) ∙ sym (same-id id r s front.0))
