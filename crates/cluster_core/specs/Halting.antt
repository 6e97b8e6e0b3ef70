-- What faults of the crates below make of a command.
use Rattle.std.specs.Prelude.{ℕ, Option, Some, None}
use Rattle.table_rows.specs.declared.faults.SelectFault.{SelectFault}
use Rattle.table_rows.specs.declared.faults.SelectFault.TheVariants.{Collected as Before, Memory as NoRoom}
use Rattle.collection_dir.specs.declared.fault.DirFault.{DirFault}
use Rattle.collection_dir.specs.declared.fault.DirFault.TheVariants as dir
use Rattle.reply_texts.specs.declared.refusals.Refusal.{Refusal}
use Rattle.reply_texts.specs.declared.refusals.Refusal.TheVariants.{Collected, Damaged, LayerDiffers, Malformed}
use Rattle.cluster_core.specs.declared.halts.Halt.{Halt}
use Rattle.cluster_core.specs.declared.halts.Halt.TheVariants.{Refused, Disk, Memory}

-- a fault that refuses nothing is want of memory
abbrev pub halt_of : Option Refusal → Halt
halt_of (Some refusal) = Refused refusal
halt_of None = Memory

-- a read of the table of this id
abbrev pub halt_of_select : ℕ → SelectFault → Halt
halt_of_select table (Before threshold) = Refused (Collected table threshold)
halt_of_select table NoRoom = Memory

-- a call on a layer's objects
abbrev pub halt_of_dir : DirFault → Halt
halt_of_dir dir.Failed = Disk
halt_of_dir dir.Memory = Memory
halt_of_dir (dir.Damaged object wanted found) = Refused (Damaged object wanted found)
halt_of_dir (dir.Malformed object offset) = Refused (Malformed object offset)
halt_of_dir (dir.LayerDiffers object wanted found) = Refused (LayerDiffers object wanted found)
