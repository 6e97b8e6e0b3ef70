-- How a best way is found: from how many more layers a layer arrives, and the choice of the next layer.
use Rattle.std.specs.Prelude.{◌≡◌, ℕ, zero, suc, Bool, true, ◌&&◌, ◌≤◌, List, [], ◌∷◌, Option, Some, length}
use Rattle.std.specs.List.{slice_get, list_any}
use Rattle.chain_resolver.specs.declared.layer.Layer.{Layer}
use Rattle.mvcc_keys.specs.Times.{time_le, time_lt}
use Rattle.chain_resolver.specs.Ways.{Route}

-- whether a way of k more layers leads on from this one
abbrev pub can : Route → List Layer → ℕ → Layer → Bool
can r ls zero l = r.arrives l
can r ls (suc k) l = list_any (λ m. r.follows (Some l) m && can r ls k m) ls

-- of the layers that pass, the one with the greatest end, at the lowest place
pub record IsChoice (ls : List Layer) (passes : Layer → Bool) (p : ℕ) (m : Layer) : Type 0 where
  pub there : slice_get ls p ≡ Some m
  pub fits : passes m ≡ true
  pub greatest : (q : ℕ) (l : Layer) → slice_get ls q ≡ Some l → passes l ≡ true → time_le l.end m.end ≡ true
  pub lowest : (q : ℕ) (l : Layer) → slice_get ls q ≡ Some l → passes l ≡ true → l.end ≡ m.end → p ≤ q

-- each layer is chosen among those from which the way still arrives with as many layers as are left
abbrev pub Walks : Route → List Layer → Option Layer → List ℕ → Type 0
Walks r ls before [] = Unit {0}
Walks r ls before (p ∷ ps) = (m : Layer) × IsChoice ls (λ l. r.follows before l && can r ls (length ps) l) p m × Walks r ls (Some m) ps

-- what may follow a layer depends on its end alone
abbrev pub IsByEnd : Route → Type 0
IsByEnd r = (l m n : Layer) → l.end ≡ m.end → r.follows (Some l) n ≡ r.follows (Some m) n

-- what follows a layer of the list starts later
abbrev pub IsForward : Route → List Layer → Type 0
IsForward r ls = (p : ℕ) (l m : Layer) → slice_get ls p ≡ Some l → r.follows (Some l) m ≡ true → time_lt l.start m.start ≡ true
