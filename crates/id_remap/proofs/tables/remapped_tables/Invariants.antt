use Rattle.std.proofs.Common.{◌≡◌, ◌++◌, drop, map}
use Rattle.id_remap.specs.Remapping.{remapped_schema}
use Rattle.id_remap.proofs.tables.remapped_tables.Given as goal

abbrev pub invariant-loop-d : goal.invariant-loop-d
invariant-loop-d l = l.made.items ++ map (remapped_schema l.ids l.target l.at) (drop l.d-index l.chosen) ≡ map (remapped_schema l.ids l.target l.at) l.chosen
