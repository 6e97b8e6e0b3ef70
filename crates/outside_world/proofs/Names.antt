-- Objects by name: what stands under one name after a change of another. Proofs above cite this.
use Rattle.std.proofs.Common.{◌≡◌, ◌≢◌, ◌⊎◌, inl, inr, ℕ, Bool, true, false, cond, List, Option, Some, None, refl, ◌∙◌, ap, subst}
use Rattle.std.specs.FinMap.{get, insert, remove, get-insert, get-remove, slice_cmp-IsAntisymmetric, nat_cmp-IsAntisymmetric}
use Rattle.std.specs.Cmp.{tied_itself}
use Rattle.std.specs.Cmp.Lexicographic.{slice_cmp, nat_list_cmp_total}
use Rattle.std.specs.Ordering.{eq_by_cmp, nat_cmp, is_eq}
use Rattle.std.proofs.lemmas.Map.Views.{tells_apart}
use Rattle.outside_world.specs.Objects.{Objects, at}

pub same_name : (n : List ℕ) → eq_by_cmp (slice_cmp nat_cmp) n n ≡ true
same_name n = ap is_eq (tied_itself nat_list_cmp_total n)

name_cases_at : (m n : List ℕ) (b : Bool) → eq_by_cmp (slice_cmp nat_cmp) m n ≡ b → (m ≡ n) ⊎ (m ≢ n)
name_cases_at m n true e = inl (tells_apart (slice_cmp-IsAntisymmetric nat_cmp-IsAntisymmetric) m n e)
name_cases_at m n false e = inr (λ s. let t : eq_by_cmp (slice_cmp nat_cmp) m n ≡ true = subst (λ (k : List ℕ). eq_by_cmp (slice_cmp nat_cmp) m k ≡ true) s (same_name m) in cc)

pub name_cases : (m n : List ℕ) → (m ≡ n) ⊎ (m ≢ n)
name_cases m n = name_cases_at m n _ refl

other_name_at : (m n : List ℕ) (b : Bool) → eq_by_cmp (slice_cmp nat_cmp) m n ≡ b → m ≢ n → b ≡ false
other_name_at m n true e ne = absurd (ne (tells_apart (slice_cmp-IsAntisymmetric nat_cmp-IsAntisymmetric) m n e))
other_name_at m n false e ne = refl

pub other_name : (m n : List ℕ) → m ≢ n → eq_by_cmp (slice_cmp nat_cmp) m n ≡ false
other_name m n ne = other_name_at m n _ refl ne

pub at-insert_same : (c : Objects) (n b : List ℕ) → at (insert c n b) n ≡ Some b
at-insert_same c n b = get-insert nat_list_cmp_total c n b n ∙ ap (λ (t : Bool). cond t (Some b) (get c n)) (same_name n)

pub at-insert_other : (c : Objects) (n b m : List ℕ) → m ≢ n → at (insert c n b) m ≡ at c m
at-insert_other c n b m ne = get-insert nat_list_cmp_total c n b m ∙ ap (λ (t : Bool). cond t (Some b) (get c m)) (other_name m n ne)

pub at-remove_same : (c : Objects) (n : List ℕ) → at (remove c n) n ≡ None
at-remove_same c n = get-remove nat_list_cmp_total c n n ∙ ap (λ (t : Bool). cond t None (get c n)) (same_name n)

pub at-remove_other : (c : Objects) (n m : List ℕ) → m ≢ n → at (remove c n) m ≡ at c m
at-remove_other c n m ne = get-remove nat_list_cmp_total c n m ∙ ap (λ (t : Bool). cond t None (get c m)) (other_name m n ne)

-- a map with one name set as another map has it
pub record IsReset (c : Objects) (name : List ℕ) (value : Option (List ℕ)) : Type 0 where
  pub map : Objects
  pub here : at map name ≡ value
  pub others : (n : List ℕ) → n ≢ name → at map n ≡ at c n

pub reset : (c : Objects) (name : List ℕ) (value : Option (List ℕ)) → IsReset c name value
reset c name None = record { map = remove c name; here = at-remove_same c name; others = at-remove_other c name }
reset c name (Some b) = record { map = insert c name b; here = at-insert_same c name b; others = at-insert_other c name b }
