-- A step by what its command does: its reply, and what it leaves of the disk.
use Rattle.std.proofs.Common.{◌≡◌, ℕ, Bool, sym, ap, subst, ◌∙◌, Result, Ok, Err, IsErrAnd}
use Rattle.std.specs.Prelude.{OnOk}
use Rattle.std.proofs.lemmas.Result.{err_from_is_err_and}
use Rattle.outside_world.specs.Disk.{View}
use Rattle.reply_texts.specs.declared.refusals.Refusal.{Refusal}
use Rattle.reply_texts.specs.declared.answers.Answer.{Answer}
use Rattle.reply_texts.specs.declared.replies.Reply.{Reply}
use Rattle.reply_texts.specs.declared.replies.Response.{Response}
use Rattle.reply_texts.specs.declared.replies.Response.TheVariants as response
use Rattle.machine_model.specs.Machine.{Machine, Stepped}
use Rattle.cluster_core.specs.declared.fault.RunFault.{RunFault}
use Rattle.cluster_core.specs.declared.halts.Halt.{Halt}
use Rattle.cluster_core.specs.declared.halts.Halt.TheVariants.{Refused}
use Rattle.cluster_core.specs.ClusterView.{ClusterState}
use Rattle.cluster_core.specs.Standing.{MayStep, Runs, StandsFor}
use Rattle.cluster_core.specs.Stepping.{IsReplyOf, Steps}
use Rattle.cluster_core.proofs.Here.{recounted}

module _ (c : ClusterState) (s : Stepped) (end : Machine) (old new : View) where
  pub faulted : (result : Result Answer Halt) (e : RunFault) → Runs c s end result old new → Steps c s end (Err e) old new
  faulted result e runs = record { replied = tt; ready = tt; leaves = runs.leaves; changes = runs.changes; ahead = runs.ahead; manifests = runs.manifests; idle = runs.idle }

  pub faulted-by : (result : Result Answer Halt) (r : Result Reply RunFault) (e : RunFault) → IsErrAnd r (λ y. y ≡ e) → Runs c s end result old new → Steps c s end r old new
  faulted-by result r e is runs = let p = err_from_is_err_and r is in subst (λ (x : Result Reply RunFault). Steps c s end x old new) (sym (p.1 ∙ ap Err p.2)) (faulted result e runs)

  pub answered : (result : Result Answer Halt) (answer : Answer) (x : Response) (reply : Reply) → result ≡ Ok answer → x ≡ response.Answered answer → IsReplyOf x reply → Runs c s end result old new → Steps c s end (Ok reply) old new
  answered result answer x reply is of reads runs =
      let done = subst (λ (r : Result Answer Halt). Runs c s end r old new) is runs in
      record { replied = record { stands = done.responds.0; reply_is = subst (λ (y : Response). IsReplyOf y reply) (of ∙ sym done.responds.1) reads }; ready = done.ready; leaves = done.leaves; changes = done.changes; ahead = done.ahead; manifests = done.manifests; idle = done.idle }

  pub refused : (result : Result Answer Halt) (refusal : Refusal) (x : Response) (reply : Reply) → result ≡ Err (Refused refusal) → x ≡ response.Refused refusal → IsReplyOf x reply → Runs c s end result old new → Steps c s end (Ok reply) old new
  refused result refusal x reply is of reads runs =
      let done = subst (λ (r : Result Answer Halt). Runs c s end r old new) is runs in
      record { replied = record { stands = done.responds.0; reply_is = subst (λ (y : Response). IsReplyOf y reply) (of ∙ sym done.responds.1) reads }; ready = done.ready; leaves = done.leaves; changes = done.changes; ahead = done.ahead; manifests = done.manifests; idle = done.idle }

-- ---- counting commands, and whether one ended the cluster

pub may-recounted : (c : ClusterState) (steps : ℕ) (ended : Bool) (m : Machine) (s : Stepped) (end : Machine) (v : View) → MayStep c m s end v → MayStep (record c { steps = steps; ended = ended }) m s end v
may-recounted c steps ended m s end v may = record { stands = recounted c steps ended m may.stands; ready = may.ready; later = may.later }

pub steps-recounted : (c : ClusterState) (steps : ℕ) (ended : Bool) (s : Stepped) (end : Machine) (r : Result Reply RunFault) (old new : View) → Steps c s end r old new → Steps (record c { steps = steps; ended = ended }) s end r old new
steps-recounted c steps ended s end (Ok reply) old new done = record { replied = record { stands = recounted c steps ended s.machine done.replied.stands; reply_is = done.replied.reply_is }; ready = done.ready; leaves = done.leaves; changes = done.changes; ahead = done.ahead; manifests = done.manifests; idle = done.idle }
steps-recounted c steps ended s end (Err e) old new done = record { replied = tt; ready = tt; leaves = done.leaves; changes = done.changes; ahead = done.ahead; manifests = done.manifests; idle = done.idle }

pub stays-recounted : (c : ClusterState) (steps : ℕ) (ended : Bool) (r : Result Reply RunFault) → OnOk r ((m : Machine) × StandsFor c m) → OnOk r ((m : Machine) × StandsFor (record c { steps = steps; ended = ended }) m)
stays-recounted c steps ended (Ok reply) x = (x.0, recounted c steps ended x.0 x.1)
stays-recounted c steps ended (Err e) x = tt
