use Rattle.std.proofs.Common.{◌≡◌, ◌++◌, drop, filter}
use Rattle.std.specs.List.{AllByRecursion}
use Rattle.range_tombstones.specs.declared.upto.Upto.TheVariants.{At}
use Rattle.range_tombstones.specs.Intervals.{is_between}
use Rattle.table_descriptors.specs.Descriptors.{IsProperSchema, Schema}
use Rattle.backup_job.proofs.starting.push_between.Given as goal

abbrev pub invariant-loop-d : goal.invariant-loop-d
invariant-loop-d l = (AllByRecursion IsProperSchema l.initial.copies.items → AllByRecursion IsProperSchema l.copies.items)
    × (l.copies.items ++ filter (λ (d : Schema). is_between l.from (At l.end) d.modified) (drop l.d-index l.descriptors) ≡ l.initial.copies.items ++ filter (λ (d : Schema). is_between l.from (At l.end) d.modified) l.descriptors)
