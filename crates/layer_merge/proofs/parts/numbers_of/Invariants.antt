-- The numbers so far.
use Rattle.std.proofs.Common.{◌≡◌, ℕ, filter, slice_get}
use Rattle.std.specs.List.{range_with_len}
use Rattle.layer_merge.specs.Within.{may_hold}
use Rattle.layer_merge.proofs.parts.numbers_of.Given as goal

abbrev pub invariant-loop-number : goal.invariant-loop-number
invariant-loop-number l = l.numbers.items ≡ filter (λ (n : ℕ). may_hold l.wanted (slice_get l.part.bounds.items n)) (range_with_len 0 l.number)
