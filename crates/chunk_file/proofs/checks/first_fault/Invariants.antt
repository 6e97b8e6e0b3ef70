use Rattle.std.proofs.Common.{◌≡◌, None}
use Rattle.std.specs.Option.{option_map}
use Rattle.chunk_file.specs.Entries.{seen}
use Rattle.chunk_file.specs.Chunks.{fault_of, read_entries}
use Rattle.chunk_file.proofs.checks.first_fault.Given as goal

abbrev pub invariant-entries : goal.invariant-entries
invariant-entries l = fault_of (read_entries l.table l.kinds l.len l.expected (option_map seen l.last) l.left) ≡ fault_of (read_entries l.table l.kinds l.len l.count None l.b)

abbrev pub decreases-entries : goal.decreases-entries
decreases-entries l = l.expected
