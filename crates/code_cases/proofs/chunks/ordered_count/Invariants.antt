use Rattle.chunk_file.specs.Held.{IsEntryStart}
use Rattle.code_cases.proofs.chunks.ordered_count.Given as goal

abbrev pub invariant-loop : goal.invariant-loop
invariant-loop l = IsEntryStart l.held l.offset
