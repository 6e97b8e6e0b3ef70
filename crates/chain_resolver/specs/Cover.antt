-- Why there is no chain, no join and no span.
use Rattle.std.specs.Prelude.{◌≡◌, ℕ, ◌&&◌, not, Bool, true, List, Option, Some, None, map, filter, if◌then◌else◌, ◌⊎◌}
use Rattle.std.specs.List.{list_any}
use Rattle.mvcc_keys.specs.Times.{Time, zero_time, time_lt, time_le, earliest, latest, or_zero}
use Rattle.chain_resolver.specs.declared.layer.Layer.{Layer}
use Rattle.chain_resolver.specs.declared.faults.CoverFault.{CoverFault}
use Rattle.chain_resolver.specs.declared.faults.CoverFault.TheVariants.{NotCovered, HistoryCollected, NeedsHistory, Gap, Memory}
use Rattle.chain_resolver.specs.declared.faults.JoinFault.{JoinFault}
use Rattle.chain_resolver.specs.declared.faults.JoinFault.TheVariants.{NoChain}
use Rattle.chain_resolver.specs.declared.faults.SpanFault.{SpanFault}
use Rattle.chain_resolver.specs.declared.faults.SpanFault.TheVariants.{NoSpan}
use Rattle.chain_resolver.specs.Ways.{IsWay, NoWay, chain_to, join_between, serves, span_over}

-- has t in its interval: start < t <= end
abbrev pub is_over : Time → Layer → Bool
is_over t l = time_lt l.start t && time_le t l.end

abbrev pub ends_of : List Layer → List Time
ends_of ls = map (λ l. l.end) ls

-- the floors after t of the layers over t that have history
abbrev pub late_floors : Time → List Layer → List Time
late_floors t ls = map (λ l. l.floor) (filter (λ l. is_over t l && (l.history && time_lt t l.floor)) ls)

-- why none serves t: the least floor that is too late, or else the greatest end before t, or zero, and the least end after t
abbrev pub unserved : List Time → Time → Option Time → CoverFault
unserved ts t (Some floor) = HistoryCollected floor
unserved ts t None = NeedsHistory (or_zero (latest (filter (λ s. time_lt s t) ts))) (or_zero (earliest (filter (λ s. time_lt t s) ts)))

-- why no chain leads to t: no layer is over it; or none serves it; or those that do aren't reached
abbrev pub reason : List Layer → Time → Time → CoverFault
reason ls t reached =
    if not (list_any (is_over t) ls) then NotCovered (or_zero (earliest (ends_of ls))) (or_zero (latest (ends_of ls)))
    else if not (list_any (λ l. serves l t) ls) then unserved (ends_of ls) t (earliest (late_floors t ls))
    else Gap reached (or_zero (earliest (map (λ l. l.start) (filter (λ l. serves l t) ls))))

-- the greatest time before t that adjoining layers from zero reach, or zero
pub record IsReached (ls : List Layer) (t x : Time) : Type 0 where
  pub is : (x ≡ zero_time) ⊎ ((time_lt x t ≡ true) × (ps : List ℕ) × IsWay (join_between zero_time x) ls ps)
  pub greatest : (y : Time) (ps : List ℕ) → time_lt y t ≡ true → IsWay (join_between zero_time y) ls ps → time_le y x ≡ true

-- no chain leads to t, and this is the first reason that holds
pub record IsReason (ls : List Layer) (t : Time) (fault : CoverFault) : Type 0 where
  pub none : NoWay (chain_to t) ls
  pub reached : Time
  pub reach : IsReached ls t reached
  pub first : fault ≡ reason ls t reached

-- want of memory has no cause
abbrev pub CoverFaultIs : List Layer → Time → CoverFault → Type 0
CoverFaultIs ls t Memory = Unit {0}
CoverFaultIs ls t fault = IsReason ls t fault

abbrev pub JoinFaultIs : List Layer → Time → Time → JoinFault → Type 0
JoinFaultIs ls from to (NoChain a b) = NoWay (join_between from to) ls × (a ≡ from) × (b ≡ to)
JoinFaultIs ls from to fault = Unit {0}

abbrev pub SpanFaultIs : List Layer → Time → Time → SpanFault → Type 0
SpanFaultIs ls from to NoSpan = NoWay (span_over from to) ls
SpanFaultIs ls from to fault = Unit {0}
