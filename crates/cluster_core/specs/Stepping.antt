-- What a step answers, and what it leaves of the disk.
use Rattle.std.specs.Prelude.{◌≡◌, ℕ, Bool, true, false, Some, Result, IfOk, OnOk}
use Rattle.outside_world.specs.Causes.{HasCauseBy}
use Rattle.reply_texts.specs.declared.replies.Reply.{Reply}
use Rattle.reply_texts.specs.declared.replies.Response.{Response}
use Rattle.reply_texts.specs.Texts.{reply_text, refusal_of}
use Rattle.outside_world.specs.Disk.{View}
use Rattle.outside_world.specs.Moments.{ChangesOnly, LeavesOnly}
use Rattle.layer_model.specs.Names.{IsOwnName}
use Rattle.collection_dir.specs.Standing.{KeepManifests}
use Rattle.command_lang.specs.declared.command.Command.{Command}
use Rattle.command_lang.specs.declared.command.Command.TheVariants.{BackupDatabase, BackupLatest, BackupTables, Forget, RestoreDatabase}
use Rattle.machine_model.specs.Disks.{IsDone, IsIdle, IsReady, StandsUntil, made_layers}
use Rattle.machine_model.specs.Machine.{Machine, Stepped}
use Rattle.cluster_core.specs.declared.fault.RunFault.{RunFault}
use Rattle.cluster_core.specs.declared.fault.RunFault.TheVariants.{Disk, Memory, Ended}
use Rattle.cluster_core.specs.ClusterView.{ClusterState}
use Rattle.cluster_core.specs.Standing.{AreAhead, MayPut, StandsFor}

-- the reply of a response: its text, and the refusal if it is one
pub record IsReplyOf (response : Response) (reply : Reply) : Type 0 where
  pub text_is : reply.text ≡ reply_text response
  pub refusal_is : reply.refusal ≡ refusal_of response

-- after a step the cluster stands for its machine, and the reply is its reply
pub record IsReplied (c : ClusterState) (reply : Reply) (s : Stepped) : Type 0 where
  pub stands : StandsFor c s.machine
  pub reply_is : IsReplyOf s.response reply

-- the disk failed
abbrev pub is_disk : RunFault → Bool
is_disk Disk = true
is_disk Memory = false
is_disk Ended = false

-- the count of the disk's faults rose where the answer is Disk, and is as before at every other
abbrev pub RunHasCause : {T : Type 0} → ℕ → ℕ → Result T RunFault → Type 0
RunHasCause before now result = HasCauseBy is_disk before now result

-- What a step does over a disk that was ready: by the machine's step, and on the way to the end. It puts and removes objects of its cluster, and puts no chunk that was marked as it began.
-- A layer that is open afterwards and wasn't before has its manifest in version 2. Where all layers of the script are done, it does nothing to the disk.
pub record Steps (c : ClusterState) (s : Stepped) (end : Machine) (result : Result Reply RunFault) (old new : View) : Type 0 where
  pub replied : IfOk result (λ r. IsReplied c r s)
  pub ready : OnOk result (IsReady (Some s.machine) (Some end) new)
  pub leaves : LeavesOnly old new (StandsUntil (Some end))
  pub changes : ChangesOnly (MayPut s.machine end old.objects) (IsOwnName end.name) old new
  pub ahead : AreAhead s.machine end old.objects new.objects
  pub manifests : KeepManifests (made_layers end) old.objects new.objects
  pub idle : IsDone end old.objects → IsIdle old new

-- a command that may call the disk
abbrev pub is_of_disk : Command → Bool
is_of_disk (BackupDatabase database collection at history) = true
is_of_disk (BackupTables tables collection at history) = true
is_of_disk (BackupLatest collection at history) = true
is_of_disk (RestoreDatabase database source collection at name) = true
is_of_disk (Forget source collection start end) = true
is_of_disk c = false
