-- When a call on a layer's objects may answer a fault. Each of those calls cites this.
use Rattle.std.specs.Prelude.{ℕ, Bool, true, false, Result}
use Rattle.outside_world.specs.Causes.{Counted, HasCauseBy}
use Rattle.outside_world.specs.declared.disk.DiskFault.{DiskFault}
use Rattle.outside_world.specs.declared.disk.DiskFault.TheVariants as disk
use Rattle.collection_dir.specs.declared.fault.DirFault.{DirFault}
use Rattle.collection_dir.specs.declared.fault.DirFault.TheVariants.{Failed, Memory, Damaged, Malformed, LayerDiffers}

-- the disk's faults, passed on
abbrev pub fault_of : DiskFault → DirFault
fault_of disk.Failed = Failed
fault_of disk.Memory = Memory

-- the disk's failures are counted, and nothing else is
abbrev pub is_failure : DirFault → Bool
is_failure Failed = true
is_failure Memory = false
is_failure (Damaged object wanted found) = false
is_failure (Malformed object offset) = false
is_failure (LayerDiffers object wanted found) = false

abbrev pub CountsAs : DirFault → ℕ → ℕ → Type 0
CountsAs fault before now = Counted (is_failure fault) before now

abbrev pub DirHasCause : {T : Type 0} → ℕ → ℕ → Result T DirFault → Type 0
DirHasCause before now result = HasCauseBy is_failure before now result

-- the disk's faults and want of memory alone
abbrev pub IsDiskFault : DirFault → Type 0
IsDiskFault Failed = Unit {0}
IsDiskFault Memory = Unit {0}
IsDiskFault (Damaged object wanted found) = ⊥
IsDiskFault (Malformed object offset) = ⊥
IsDiskFault (LayerDiffers object wanted found) = ⊥
