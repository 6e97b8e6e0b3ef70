-- What a disk in memory means: what it holds now, and what a crash might have left of each state that it has had.
use Rattle.std.specs.Prelude.{◌≡◌, ◌⊎◌, ℕ, Bool, true, false, List, [], ◌∷◌, ◌++◌, length, drop, Option, Result, Ok, Err, OnOk, OnErr, IfOk, IsErrOf, MatchBool, not, if◌then◌else◌}
use Rattle.outside_world.specs.declared.call.DiskCall.{DiskCall}
use Rattle.outside_world.specs.declared.call.DiskCall.TheVariants.{Sync}
use Rattle.outside_world.specs.declared.disk.DiskFault.{DiskFault}
use Rattle.outside_world.specs.declared.disk.DiskFault.TheVariants as fault
use Rattle.outside_world.specs.declared.memory_disk.MemoryDisk.{MemoryDisk}
use Rattle.std.proofs.Common.{inl, inr}
use Rattle.mvcc_keys.specs.declared.bytes.Memory.{Memory}
use Rattle.outside_world.specs.Disk.{View}
use Rattle.outside_world.specs.Entries.{Entries, IsSet, IsTouched, objects_of, is_touched}
use Rattle.outside_world.specs.Numbered.{next_call, is_failing}
use Rattle.outside_world.specs.Objects.{Objects, MayLeave}

-- the entries by name, and the touched names
abbrev pub State : Type 0
State = Entries × List (List ℕ)

abbrev pub Image : State → Objects → Type 0
Image s c = MayLeave (objects_of s.0) (is_touched s.1) c

-- one of these states might have left it
abbrev pub HadBeen : List State → Objects → Type 0
HadBeen [] c = ⊥
HadBeen (s ∷ past) c = Image s c ⊎ HadBeen past c

-- Moments are counted by the syncs that were Ok. Between two of them a crash leaves ever more, so the state before a sync has all images since the last.
abbrev pub memory_view : List State → State → List (DiskCall × Bool) → ℕ → View
memory_view past now calls faults = record {
  tells = true;
  honest = true;
  objects = objects_of now.0;
  touched = is_touched now.1;
  calls = calls;
  moment = length past;
  left_since = λ t c. Image now c ⊎ HadBeen (drop t past) c;
  faults = faults;
}

abbrev pub view_of : MemoryDisk → View
view_of d = memory_view d.past.items (d.entries.items, d.touched.items) d.calls.items d.faults

none_left : (past : List State) (c : Objects) → HadBeen (drop (length past) past) c → ⊥
none_left [] c had = had
none_left (s ∷ past) c had = none_left past c had

-- since the last state was kept there is only this one
pub only_state : (past : List State) (now : State) (c : Objects) → Image now c ⊎ HadBeen (drop (length past) past) c → Image now c
only_state past now c (inl here) = here
only_state past now c (inr had) = absurd (none_left past c had)

-- the names that get was called with, after one more call
abbrev pub logged_get : {T : Type 0} → Result T DiskFault → List ℕ → List (List ℕ) → List (List ℕ)
logged_get (Err fault.Memory) name gets = gets
logged_get (Err fault.Failed) name gets = gets ++ name ∷ []
logged_get (Ok found) name gets = gets ++ name ∷ []

-- whether the next call fails
abbrev pub fails_next : MemoryDisk → Bool
fails_next d = is_failing d.stop d.fails.items (next_call d.number)

-- a call is counted, and answers Failed at the numbers that fail, and at no others; want of memory yields
pub record IsCounted {T : Type 0} (result : Result T DiskFault) (old new : MemoryDisk) : Type 0 where
  pub fails : new.fails.items ≡ old.fails.items
  pub stop : new.stop ≡ old.stop
  pub number : new.number ≡ next_call old.number
  pub ok : OnOk result (fails_next old ≡ false)
  pub failed : IsErrOf result fault.Failed → fails_next old ≡ true

-- a disk that was just made
pub record IsFresh (fails : List ℕ) (stop : Option ℕ) (d : MemoryDisk) : Type 0 where
  pub touched : d.touched.items ≡ []
  pub past : d.past.items ≡ []
  pub calls : d.calls.items ≡ []
  pub gets : d.gets.items ≡ []
  pub fails_are : d.fails.items ≡ fails
  pub stop_is : d.stop ≡ stop
  pub number : d.number ≡ 0
  pub faults : d.faults ≡ 0

-- what no put, removal or sync changes before it answers
pub record IsSameRest (old new : MemoryDisk) : Type 0 where
  pub gets : new.gets.items ≡ old.gets.items
  pub fails : new.fails.items ≡ old.fails.items
  pub stop : new.stop ≡ old.stop
  pub number : new.number ≡ next_call old.number
  pub faults : new.faults ≡ old.faults

-- A put or a removal is done, or fails and leaves the object; both touch the name and are noted. Want of memory changes nothing.
pub record IsStep (name : List ℕ) (value : Option (List ℕ)) (call : DiskCall) (result : Result Bool Memory) (old new : MemoryDisk) : Type 0 where
  pub rest : IsSameRest old new
  pub past : new.past.items ≡ old.past.items
  pub answer : IfOk result (λ done. done ≡ not (fails_next old))
  pub objects : IfOk result (λ done. MatchBool done (IsSet name value old.entries.items new.entries.items) (new.entries.items ≡ old.entries.items))
  pub touched : OnOk result (IsTouched name old.touched.items new.touched.items)
  pub calls : IfOk result (λ done. new.calls.items ≡ old.calls.items ++ (call, done) ∷ [])
  pub same_objects : OnErr result (new.entries.items ≡ old.entries.items)
  pub same_touched : OnErr result (new.touched.items ≡ old.touched.items)
  pub same_calls : OnErr result (new.calls.items ≡ old.calls.items)

-- A sync is done, and keeps the state that was; or it fails and is noted. Want of memory changes nothing.
pub record IsSettling (result : Result Bool Memory) (old new : MemoryDisk) : Type 0 where
  pub rest : IsSameRest old new
  pub objects : new.entries.items ≡ old.entries.items
  pub answer : IfOk result (λ done. done ≡ not (fails_next old))
  pub past : IfOk result (λ done. new.past.items ≡ (if done then old.past.items ++ (old.entries.items, old.touched.items) ∷ [] else old.past.items))
  pub touched : IfOk result (λ done. new.touched.items ≡ (if done then [] else old.touched.items))
  pub calls : IfOk result (λ done. new.calls.items ≡ old.calls.items ++ (Sync, done) ∷ [])
  pub same_past : OnErr result (new.past.items ≡ old.past.items)
  pub same_touched : OnErr result (new.touched.items ≡ old.touched.items)
  pub same_calls : OnErr result (new.calls.items ≡ old.calls.items)
