-- The best way and the cover of a time as functions of a list of layers. All lists of places that can be a way are tried.
use Rattle.std.specs.Prelude.{◌≡◌, ℕ, zero, suc, Bool, false, not, ◌&&◌, ◌||◌, List, [], ◌∷◌, length, map, Option, Some, None}
use Rattle.std.specs.List.{slice_get, list_all, find, flat_map, range_with_len}
use Rattle.std.specs.Ordering.{is_le}
use Rattle.mvcc_keys.specs.Times.{Time, latest, or_zero}
use Rattle.chain_resolver.specs.declared.layer.Layer.{Layer}
use Rattle.chain_resolver.specs.declared.faults.CoverFault.{CoverFault}
use Rattle.chain_resolver.specs.declared.faults.CoverFault.TheVariants.{Memory}
use Rattle.chain_resolver.specs.Ways.{AreOrdered, Route, IsBestWay, NoWay, chain_to, way_cmp}
use Rattle.chain_resolver.specs.Cover.{CoverFaultIs, reason}
use Rattle.chain_resolver.specs.Reaching.{reached_times}

-- there is a layer, and it passes
abbrev pub is_passing : (Layer → Bool) → Option Layer → Bool
is_passing test None = false
is_passing test (Some l) = test l

-- the test of GoesOn
abbrev pub goes_on : Route → List Layer → Option Layer → List ℕ → Bool
goes_on r ls before [] = is_passing r.arrives before
goes_on r ls before (p ∷ ps) = is_passing (λ l. r.follows before l && goes_on r ls (Some l) ps) (slice_get ls p)

-- the test of IsWay
abbrev pub is_way : Route → List Layer → List ℕ → Bool
is_way r ls ps = goes_on r ls None ps

-- the lists of at most so many places below n
abbrev pub lists_below : ℕ → ℕ → List (List ℕ)
lists_below n zero = [] ∷ []
lists_below n (suc k) = [] ∷ flat_map (λ p. map (λ ps. p ∷ ps) (lists_below n k)) (range_with_len 0 n)

-- of ordered layers no way has more places than there are layers
abbrev pub candidates : List Layer → List (List ℕ)
candidates ls = lists_below (length ls) (length ls)

-- a way, and none of the candidates that are ways comes before it
abbrev pub is_best : Route → List Layer → List ℕ → Bool
is_best r ls ps = is_way r ls ps && list_all (λ qs. not (is_way r ls qs) || is_le (way_cmp ls ps qs)) (candidates ls)

unfoldable pub best_way : Route → List Layer → Option (List ℕ)
best_way r ls = find (is_best r ls) (candidates ls)

-- the places of the best chain to a time, or why there is none
pub data Cover : Type 0 where
  Chain : List ℕ → Cover
  Uncovered : CoverFault → Cover

abbrev pub cover_of : Option (List ℕ) → CoverFault → Cover
cover_of (Some ps) fault = Chain ps
cover_of None fault = Uncovered fault

-- the greatest time before t that adjoining layers from zero reach, or zero
abbrev pub reached : List Layer → Time → Time
reached ls t = or_zero (latest (reached_times ls t (length ls)))

unfoldable pub cover : List Layer → Time → Cover
cover ls t = cover_of (best_way (chain_to t) ls) (reason ls t (reached ls t))

-- the cover tells of this fault; want of memory is no fault of layers
abbrev pub UncoveredBy : CoverFault → Cover → Type 0
UncoveredBy Memory c = Unit {0}
UncoveredBy fault c = c ≡ Uncovered fault

-- the functions give what the relations say
pub record CoversAreFound : Type 0 where
  pub best : (ls : List Layer) (t : Time) (ps : List ℕ) → AreOrdered ls → IsBestWay (chain_to t) ls ps → best_way (chain_to t) ls ≡ Some ps
  pub none : (ls : List Layer) (t : Time) → AreOrdered ls → NoWay (chain_to t) ls → best_way (chain_to t) ls ≡ None
  pub chain : (ls : List Layer) (t : Time) (ps : List ℕ) → AreOrdered ls → IsBestWay (chain_to t) ls ps → cover ls t ≡ Chain ps
  pub fault : (ls : List Layer) (t : Time) (fault : CoverFault) → AreOrdered ls → CoverFaultIs ls t fault → UncoveredBy fault (cover ls t)
