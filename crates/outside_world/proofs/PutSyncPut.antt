-- A put, a sync, a put over what is then on the disk, and a sync: what a crash leaves at each of them, and what they change.
use Rattle.std.proofs.Common.{◌≡◌, ℕ, List, Option, Some, Result, Ok}
use Rattle.outside_world.specs.declared.call.DiskCall.{DiskCall}
use Rattle.outside_world.specs.declared.call.DiskCall.TheVariants.{Put}
use Rattle.outside_world.specs.declared.disk.DiskFault.{DiskFault}
use Rattle.outside_world.specs.Disk.{View, Changes, Settles}
use Rattle.outside_world.specs.Moments.{AgreeBut, ChangesOnly}
use Rattle.outside_world.specs.Objects.{Objects, at}
use Rattle.outside_world.proofs.Runs.{Run, only_put, only_sync, only_then, run_sync, run_synced, run_write}

-- What images have from stage to stage: Q until a sync is Ok, R until the second put, and S after it; P throughout.
pub record Stages (P Q R S : Objects → Type 0) (name bytes gate : List ℕ) (first : View) : Type 1 where
  pub begun : Run P Q first first
  pub on_put : (source image : Objects) → Q source → AgreeBut name source image → Q image
  pub on_sync : (call : DiskCall) (x : Unit {0}) (mid : View) → Changes name (Some bytes) call (Ok x) first mid → (image : Objects) → Q image → ((n : List ℕ) → at image n ≡ at mid.objects n) → R image
  pub on_gate : (source image : Objects) → R source → AgreeBut gate source image → S image
  pub before : (image : Objects) → Q image → P image
  pub between : (image : Objects) → R image → P image
  pub after : (image : Objects) → S image → P image

module _ {P Q R S : Objects → Type 0} {name bytes gate : List ℕ} {first : View} (stages : Stages P Q R S name bytes gate first) where
  pub run_put : {value : Option (List ℕ)} {call : DiskCall} {result : Result (Unit {0}) DiskFault} {new : View} → Changes name value call result first new → Run P Q first new
  run_put changes = run_write stages.begun changes (λ source image q un agree. stages.on_put source image q agree) stages.before

  pub run_put_sync : {value : Option (List ℕ)} {call : DiskCall} {result other : Result (Unit {0}) DiskFault} {mid new : View} → Changes name value call result first mid → Settles other mid new → Run P Q first new
  run_put_sync changes settles = run_sync (run_put changes) settles stages.before

  pub run_ready : {call : DiskCall} {x y : Unit {0}} {mid new : View} → Changes name (Some bytes) call (Ok x) first mid → Settles (Ok y) mid new → Run P R first new
  run_ready {call = call} {x = x} {mid = mid} changes settles = run_synced (run_put changes) settles (stages.on_sync call x mid changes) stages.between

  pub run_gate : {value : Option (List ℕ)} {call other : DiskCall} {x y : Unit {0}} {result : Result (Unit {0}) DiskFault} {mid synced new : View} → Changes name (Some bytes) call (Ok x) first mid → Settles (Ok y) mid synced → Changes gate value other result synced new → Run P S first new
  run_gate changes settles gates = run_write (run_ready changes settles) gates (λ source image r un agree. stages.on_gate source image r agree) stages.after

  pub run_last : {value : Option (List ℕ)} {call other : DiskCall} {x y : Unit {0}} {result last : Result (Unit {0}) DiskFault} {mid synced gated new : View} → Changes name (Some bytes) call (Ok x) first mid → Settles (Ok y) mid synced → Changes gate value other result synced gated → Settles last gated new → Run P S first new
  run_last changes settles gates settles_last = run_sync (run_gate changes settles gates) settles_last stages.after

module _ {P R : List ℕ → Type 0} {name : List ℕ} {value : Option (List ℕ)} (has : P name) where
  pub only_put_sync : {r s : Result (Unit {0}) DiskFault} {a b c : View} → Changes name value (Put name) r a b → Settles s b c → ChangesOnly P R a c
  only_put_sync put sync = only_then (only_put has put) (only_sync sync)

  pub only_put_sync_put : {gate : List ℕ} {other : Option (List ℕ)} → P gate → {r s t : Result (Unit {0}) DiskFault} {a b c d : View} → Changes name value (Put name) r a b → Settles s b c → Changes gate other (Put gate) t c d → ChangesOnly P R a d
  only_put_sync_put has_gate put sync gates = only_then (only_put_sync put sync) (only_put has_gate gates)

  pub only_put_sync_put_sync : {gate : List ℕ} {other : Option (List ℕ)} → P gate → {r s t u : Result (Unit {0}) DiskFault} {a b c d e : View} → Changes name value (Put name) r a b → Settles s b c → Changes gate other (Put gate) t c d → Settles u d e → ChangesOnly P R a e
  only_put_sync_put_sync has_gate put sync gates last = only_then (only_put_sync_put has_gate put sync gates) (only_sync last)
