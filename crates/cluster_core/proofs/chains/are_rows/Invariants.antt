use Rattle.std.proofs.Common.{◌≡◌, None, drop, option_map, take}
use Rattle.std.specs.List.{AllByRecursion}
use Rattle.std.specs.Option.{option_copied}
use Rattle.mvcc_keys.specs.Entries.{key_of}
use Rattle.cluster_core.specs.Chains.{HasBytes, are_rows}
use Rattle.cluster_core.proofs.chains.are_rows.Given as goal

abbrev pub invariant-loop-entry : goal.invariant-loop-entry
invariant-loop-entry l = (are_rows (option_map key_of (option_copied l.last)) (drop l.entry-index l.entries) ≡ are_rows None l.entries) × AllByRecursion HasBytes (take l.entry-index l.entries)
