-- Ways through a list of layers, as lists of places, and the best of them: a chain to a time, a join of two times, a span over the changes between them.
use Rattle.std.specs.Prelude.{◌≡◌, ℕ, Bool, true, ◌&&◌, ◌||◌, List, [], ◌∷◌, Option, Some, None, length, map}
use Rattle.std.specs.List.{slice_get, list_all}
use Rattle.std.specs.Ordering.{nat_cmp, is_le, on, then_cmp, flip_args}
use Rattle.std.specs.Cmp.Lexicographic.{slice_cmp}
use Rattle.std.specs.declared.cmp.Ordering.{Ordering}
use Rattle.mvcc_keys.specs.Codes.{time_cmp}
use Rattle.mvcc_keys.specs.Times.{Time, zero_time, time_lt, time_le, time_eq}
use Rattle.chain_resolver.specs.declared.layer.Layer.{Layer}

-- each layer starts before its end
abbrev pub are_ordered : List Layer → Bool
are_ordered ls = list_all (λ l. time_lt l.start l.end) ls

abbrev pub AreOrdered : List Layer → Type 0
AreOrdered ls = are_ordered ls ≡ true

-- what makes a list of layers a way: which layer may come first (after None) or after another, and which may come last
pub record Route : Type 0 where
  pub follows : Option Layer → Layer → Bool
  pub arrives : Layer → Bool

abbrev pub IsAtEnd : Route → Option Layer → Type 0
IsAtEnd r None = ⊥
IsAtEnd r (Some l) = r.arrives l ≡ true

-- after `before` the layers at these places follow one another, and the last of all arrives
abbrev pub GoesOn : Route → List Layer → Option Layer → List ℕ → Type 0
GoesOn r ls before [] = IsAtEnd r before
GoesOn r ls before (p ∷ ps) = (l : Layer) × (slice_get ls p ≡ Some l) × (r.follows before l ≡ true) × GoesOn r ls (Some l) ps

-- a way isn't empty
abbrev pub IsWay : Route → List Layer → List ℕ → Type 0
IsWay r ls ps = GoesOn r ls None ps

abbrev pub NoWay : Route → List Layer → Type 0
NoWay r ls = (ps : List ℕ) → IsWay r ls ps → ⊥

abbrev pub end_of : Option Layer → Time
end_of None = zero_time
end_of (Some l) = l.end

abbrev pub ends : List Layer → List ℕ → List Time
ends ls ps = map (λ p. end_of (slice_get ls p)) ps

-- fewer layers come first; of as many, the greater end at the first difference; then the lower place
abbrev pub way_cmp : List Layer → List ℕ → List ℕ → Ordering
way_cmp ls = then_cmp (on length nat_cmp) (then_cmp (flip_args (on (ends ls) (slice_cmp time_cmp))) (slice_cmp nat_cmp))

-- a way, and none comes before it
pub record IsBestWay (r : Route) (ls : List Layer) (ps : List ℕ) : Type 0 where
  pub way : IsWay r ls ps
  pub best : (qs : List ℕ) → IsWay r ls qs → is_le (way_cmp ls ps qs) ≡ true

-- t is the end; or the layer has history, starts before t and ends after it, and its floor isn't after t
abbrev pub serves : Layer → Time → Bool
serves l t = time_eq l.end t || (l.history && time_lt l.start t && time_le l.floor t && time_lt t l.end)

-- starts at a time, or at the end of the layer before
abbrev pub adjoins : Time → Option Layer → Layer → Bool
adjoins from None l = time_eq from l.start
adjoins from (Some k) l = time_eq k.end l.start

-- a chain to t: adjoining layers from zero, the last serving t
abbrev pub chain_to : Time → Route
chain_to t = record { follows = adjoins zero_time; arrives = λ l. serves l t }

-- a join: adjoining layers from one time to another
abbrev pub join_between : Time → Time → Route
join_between from to = record { follows = adjoins from; arrives = λ l. time_eq l.end to }

-- tells the changes after `from`: it has history, and its floor is at most its start or `from`
abbrev pub usable : Time → Layer → Bool
usable from l = l.history && (time_le l.floor l.start || time_le l.floor from)

abbrev pub spans : Time → Option Layer → Layer → Bool
spans from None l = usable from l && time_le l.start from && time_lt from l.end
spans from (Some k) l = usable from l && time_eq k.end l.start

-- a span: adjoining usable layers, the first with start <= from < end, the last with start < to <= end
abbrev pub span_over : Time → Time → Route
span_over from to = record { follows = spans from; arrives = λ l. time_lt l.start to && time_le to l.end }
