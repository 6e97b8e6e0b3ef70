use Rattle.std.proofs.Common.{◌∙◌, sym}
use Rattle.std.specs.Option.{option_map}
use Rattle.chunk_file.specs.Entries.{seen}
use Rattle.chunk_file.proofs.ChunkLaws.{next-fault}
use Rattle.chunk_file.proofs.checks.first_fault.Goals as goal

pub entries-preserved : goal.entries-preserved
entries-preserved c =
    next-fault c.args.table c.args.kinds.now c.args.len c.entries.expected (option_map seen c.entries.last) c.entries.left.now (seen c.in-Some.entry) c.in-Some.rest.now c.entries-test.true (sym c.in-Some.ensures)
    ∙ c.entries.invariant
