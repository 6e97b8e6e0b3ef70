-- What a disk means, and what each of its calls does to that. The trait cites this.
use Rattle.std.specs.Prelude.{◌≡◌, ◌≢◌, ◌≤◌, ◌⊎◌, ℕ, Bool, true, false, List, [], ◌∷◌, ◌++◌, Option, Result, Ok, Err, OnOk, OnErr, IsErrOf}
use Rattle.outside_world.specs.declared.call.DiskCall.{DiskCall}
use Rattle.outside_world.specs.declared.call.DiskCall.TheVariants.{Sync}
use Rattle.outside_world.specs.declared.disk.DiskFault.{DiskFault}
use Rattle.outside_world.specs.declared.disk.DiskFault.TheVariants.{Failed, Memory}
use Rattle.outside_world.specs.Causes.{HasCauseBy}
use Rattle.outside_world.specs.Objects.{Objects, at, MayLeave}

-- a disk at one moment
pub record View : Type 1 where
  -- whether it tells the rest
  pub tells : Bool
  -- whether what a crash leaves of it is what the disk model says
  pub honest : Bool
  pub objects : Objects
  -- the names touched since the last sync that was Ok
  pub touched : List ℕ → Bool
  -- the calls of put, remove and sync but those that answered Memory, each with whether it was Ok
  pub calls : List (DiskCall × Bool)
  pub moment : ℕ
  -- what a crash at some moment from that one on might have left
  pub left_since : ℕ → Objects → Type 0
  pub faults : ℕ

abbrev pub Tells : View → Type 0
Tells v = v.tells ≡ true

-- it tells and is honest
pub record IsKnown (v : View) : Type 0 where
  pub tells : v.tells ≡ true
  pub honest : v.honest ≡ true

-- a crash now may leave this
abbrev pub IsImage : View → Objects → Type 0
IsImage v image = MayLeave v.objects v.touched image

-- it tells, and is honest, exactly where it was before
pub record IsSameKind (old new : View) : Type 0 where
  pub tells : new.tells ≡ old.tells
  pub honest : new.honest ≡ old.honest

-- the list of calls after one more
abbrev pub logged : {T : Type 0} → DiskCall → Result T DiskFault → List (DiskCall × Bool) → List (DiskCall × Bool)
logged call (Ok x) calls = calls ++ (call, true) ∷ []
logged call (Err Failed) calls = calls ++ (call, false) ∷ []
logged call (Err Memory) calls = calls

-- One name is set to a value, or to none, and touched; where the call failed, anything may stand there. Memory changes nothing.
pub record Writes {T : Type 0} (name : List ℕ) (value : Option (List ℕ)) (call : DiskCall) (result : Result T DiskFault) (old new : View) : Type 0 where
  pub others : (n : List ℕ) → n ≢ name → at new.objects n ≡ at old.objects n
  pub others_touched : (n : List ℕ) → n ≢ name → new.touched n ≡ old.touched n
  pub written : OnOk result (at new.objects name ≡ value)
  pub marks : OnOk result (new.touched name ≡ true)
  pub failed : IsErrOf result Failed → new.touched name ≡ true
  pub memory : IsErrOf result Memory → (at new.objects name ≡ at old.objects name) × (new.touched name ≡ old.touched name)
  pub calls : new.calls ≡ logged call result old.calls

-- no name is touched after a sync that is Ok; every other answer changes nothing but the list of calls
pub record Syncs {T : Type 0} (result : Result T DiskFault) (old new : View) : Type 0 where
  pub objects : new.objects ≡ old.objects
  pub ok : OnOk result ((n : List ℕ) → new.touched n ≡ false)
  pub err : OnErr result ((n : List ℕ) → new.touched n ≡ old.touched n)
  pub calls : new.calls ≡ logged Sync result old.calls

pub record IsSameContent (old new : View) : Type 0 where
  pub objects : new.objects ≡ old.objects
  pub touched : (n : List ℕ) → new.touched n ≡ old.touched n
  pub calls : new.calls ≡ old.calls

-- Time goes on: moments are only added, and from a known disk each one that is added leaves what the disk model allows.
pub record Elapses (old new : View) : Type 0 where
  pub later : old.moment ≤ new.moment
  pub keeps : (t : ℕ) (image : Objects) → t ≤ old.moment → old.left_since t image → new.left_since t image
  pub adds : IsKnown old → (t : ℕ) (image : Objects) → t ≤ old.moment → new.left_since t image → old.left_since t image ⊎ IsImage new image

-- what a call that only reads leaves
pub record OnlyReads (old new : View) : Type 0 where
  pub kind : IsSameKind old new
  pub time : Elapses old new
  pub content : Tells old → IsSameContent old new

-- what a put or a removal leaves
pub record Changes {T : Type 0} (name : List ℕ) (value : Option (List ℕ)) (call : DiskCall) (result : Result T DiskFault) (old new : View) : Type 0 where
  pub kind : IsSameKind old new
  pub time : Elapses old new
  pub content : Tells old → Writes name value call result old new

-- what a sync leaves
pub record Settles {T : Type 0} (result : Result T DiskFault) (old new : View) : Type 0 where
  pub kind : IsSameKind old new
  pub time : Elapses old new
  pub content : Tells old → Syncs result old new

-- the disk counts its failures, and no want of memory
abbrev pub is_failure : DiskFault → Bool
is_failure Failed = true
is_failure Memory = false

abbrev pub DiskHasCause : {T : Type 0} → ℕ → ℕ → Result T DiskFault → Type 0
DiskHasCause before now result = HasCauseBy is_failure before now result

pub never_known : false ≡ true → ⊥
never_known e = cc
