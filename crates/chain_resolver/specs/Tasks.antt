-- What the search is asked for.
use Rattle.std.specs.Prelude.{◌≡◌, ℕ, suc, zero, Bool, true, ◌&&◌, ◌<◌, ◌≤◌, List, Option, Some, None, cond, map, filter}
use Rattle.std.specs.List.{slice_get, list_any, zip}
use Rattle.chain_resolver.specs.declared.layer.Layer.{Layer}
use Rattle.chain_resolver.specs.declared.task.Task.{Task}
use Rattle.chain_resolver.specs.declared.task.Task.TheVariants.{Chain, Join, Span}
use Rattle.mvcc_keys.specs.Times.{time_lt, time_le}
use Rattle.chain_resolver.specs.Ways.{Route, chain_to, join_between, span_over}
use Rattle.chain_resolver.specs.Steps.{can}

abbrev pub route_of : Task → Route
route_of (Chain t) = chain_to t
route_of (Join from to) = join_between from to
route_of (Span from to) = span_over from to

-- the layers that a row marks
abbrev pub marked_of : List Layer → List Bool → List Layer
marked_of ls row = map (λ p. p.0) (filter (λ p. p.1) (zip ls row))

-- one of some layers may follow
abbrev pub leads_to : Route → List Layer → Layer → Bool
leads_to r next l = list_any (λ m. r.follows (Some l) m) next

abbrev pub leads_on : Route → List Layer → List Bool → Layer → Bool
leads_on r ls row l = leads_to r (marked_of ls row) l

-- a marked layer that may follow
pub record IsMarked (r : Route) (ls : List Layer) (row : List Bool) (before : Option Layer) (q : ℕ) (l : Layer) : Type 0 where
  pub there : slice_get ls q ≡ Some l
  pub marked : slice_get row q ≡ Some true
  pub follows : r.follows before l ≡ true

-- the best of the marked layers at the places below i
pub record IsBestBelow (r : Route) (ls : List Layer) (row : List Bool) (before : Option Layer) (i p : ℕ) (m : Layer) : Type 0 where
  pub below : p < i
  pub among : IsMarked r ls row before p m
  pub greatest : (q : ℕ) (l : Layer) → q < i → IsMarked r ls row before q l → time_le l.end m.end ≡ true
  pub lowest : (q : ℕ) (l : Layer) → q < i → IsMarked r ls row before q l → l.end ≡ m.end → p ≤ q

-- the best of them, if there is one
abbrev pub BestBelow : Route → List Layer → List Bool → Option Layer → ℕ → Option (ℕ × Layer) → Type 0
BestBelow r ls row before i None = (q : ℕ) (l : Layer) → q < i → IsMarked r ls row before q l → ⊥
BestBelow r ls row before i (Some (p, m)) = IsBestBelow r ls row before i p m

-- the better of the best so far and a layer at a later place
abbrev pub better : Option (ℕ × Layer) → ℕ → Layer → Option (ℕ × Layer)
better None i l = Some (i, l)
better (Some (p, m)) i l = cond (time_lt m.end l.end) (Some (i, l)) (Some (p, m))

-- row j marks the layers from which a way arrives with j more
abbrev pub AreRows : Route → List Layer → List (List Bool) → Type 0
AreRows r ls rows = (j : ℕ) (row : List Bool) → slice_get rows j ≡ Some row → row ≡ map (can r ls j) ls

-- a way of k more layers than one can begin here
abbrev pub CanStart : Route → List Layer → Option Layer → ℕ → Bool
CanStart r ls before k = list_any (λ l. r.follows before l && can r ls k l) ls

-- a way of n layers can begin here
abbrev pub StartsAt : Route → List Layer → Option Layer → ℕ → Type 0
StartsAt r ls before zero = Unit {0}
StartsAt r ls before (suc k) = CanStart r ls before k ≡ true
