-- How far adjoining layers from zero reach, row after row.
use Rattle.std.specs.Prelude.{ℕ, zero, suc, ◌||◌, ◌&&◌, Bool, false, List, map, filter}
use Rattle.std.specs.List.{list_any, zip}
use Rattle.mvcc_keys.specs.Times.{Time, zero_time, time_lt, time_eq}
use Rattle.chain_resolver.specs.declared.layer.Layer.{Layer}

-- whether adjoining layers from zero, at most k of them, lead up to the end of this one
abbrev pub reach : List Layer → ℕ → Layer → Bool
reach ls zero l = false
reach ls (suc k) l = time_eq zero_time l.start || list_any (λ m. time_eq m.end l.start && reach ls k m) ls

-- the ends before t of the layers that are reached so
abbrev pub reached_times : List Layer → Time → ℕ → List Time
reached_times ls t n = map (λ l. l.end) (filter (λ l. time_lt l.end t && reach ls n l) ls)

-- starts at zero or at the end of a marked layer
abbrev pub reach_on : List Layer → List Bool → Layer → Bool
reach_on ls row l = time_eq zero_time l.start || list_any (λ p. time_eq p.0.end l.start && p.1) (zip ls row)

-- the ends before t of the marked layers
abbrev pub marked_times : Time → List Layer → List Bool → List Time
marked_times t ls row = map (λ p. p.0.end) (filter (λ p. time_lt p.0.end t && p.1) (zip ls row))
