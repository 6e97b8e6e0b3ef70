-- What a command is answered, from each machine for which the cluster stands.
use Rattle.std.proofs.Common.{◌≡◌, ◌<◌, ⊎_elim, ℕ, Bool, true, false, List, Some, None, Ok, Contains, length, length-append, arith, refl, sym, ap, subst, ◌∙◌}
use Rattle.std.specs.Prelude.{Option, Result}
use Rattle.outside_world.specs.Disk.{DiskHasCause, View, IsImage, IsKnown}
use Rattle.outside_world.specs.Moments.{ChangesOnly}
use Rattle.outside_world.specs.Objects.{Objects, at}
use Rattle.outside_world.proofs.Runs.{only_less, only_none, only_then, then_call}
use Rattle.reply_texts.specs.declared.replies.Reply.{Reply}
use Rattle.reply_texts.specs.declared.replies.Response.{Response}
use Rattle.command_lang.specs.declared.command.Command.{Command}
use Rattle.command_lang.specs.declared.command.Command.TheVariants.{Cluster, Tick, CreateDatabase, CreateTable, AddColumn, DropColumn, RenameColumn, RenameTable, DropTable, Upsert, Delete, DeleteRange, Select, Gc, BackupDatabase, BackupTables, BackupLatest, RestoreDatabase, Forget, ShowBackups}
use Rattle.list_laws.specs.Members.{Has}
use Rattle.history_model.specs.Layers.{LayerRecord}
use Rattle.layer_model.specs.Names.{IsOwnName, NamesObject}
use Rattle.layer_model.specs.Layers.{IsMarked, IsWhole, LayerObjects, name_of_part}
use Rattle.layer_model.specs.declared.names.LayerName.{LayerName}
use Rattle.layer_model.specs.declared.names.Part.TheVariants.{Mark}
use Rattle.collection_dir.proofs.StandsLaws.{manifests-same, manifests-then, unmarked-of-all}
use Rattle.collection_dir.specs.Safety.{with_manifest}
use Rattle.layer_objects.specs.Objects.{objects_of}
use Rattle.layer_objects.specs.Storable.{older_manifest}
use Rattle.layer_objects.proofs.Names.{objects-name}
use Rattle.machine_model.specs.Machine.{World, Machine, Stepped}
use Rattle.machine_model.specs.Disks.{IsDoneIn, IsReady, IsThere, made_layers, setting_of}
use Rattle.machine_model.specs.Past.{IsLater, IsLaterIn}
use Rattle.machine_model.proofs.DiskLaws.{ready_leaves}
use Rattle.machine_model.specs.Step.{step}
use Rattle.machine_model.specs.Script.{Outcome, command_step, first_machine, first_step, after_reply, reply_before, response_of, machine_in, malformed_text}
use Rattle.machine_model.proofs.Past.{steps-later}
use Rattle.machine_model.proofs.Settings.{settings-proper}
use Rattle.cluster_core.specs.ClusterView.{ClusterState}
use Rattle.cluster_core.specs.declared.fault.RunFault.{RunFault}
use Rattle.cluster_core.specs.Standing.{AreAhead, MayPut, MayStep, StandsFor}
use Rattle.cluster_core.specs.Stepping.{IsReplied, IsReplyOf, Steps}
use Rattle.backup_run.specs.Endings.{KeepManifestsIn, Leads, MayPutIn}
use Rattle.backup_run.specs.Run.{StandsAs, IsAnswered, IsReadyFrom, MayGo, SaysLine}

-- what a command is answered, where it may step
abbrev pub Replies : ClusterState → ClusterState → View → Reply → Command → Type 0
Replies old new v reply command = (worlds : List World) (m end : Machine) → MayStep old m (step worlds m command) end v → IsReplied new reply (step worlds m command)

-- a command with a cluster may step
pub may_known : (old : ClusterState) (v : View) (command : Command) (worlds : List World) (began : Objects) (m end : Machine) → MayGo began (Some old) (Some m) (machine_in (command_step worlds (Some m) command)) (Some end) v → MayStep old m (step worlds m command) end v
may_known old v command worlds began m end may = record { stands = may.stands; ready = may.ready.now; later = may.later }

-- the first machine has no layers
nothing_kept : (name : List ℕ) (end : Machine) (v : View) → IsReady None (Some end) v → IsReady (Some (first_machine name)) (Some end) v
unfolding first_machine
nothing_kept name end v ready = record { known = ready.known; settled = ready.settled; stands = ready.stands; kept = record { there = λ r none. absurd none; gone = λ r none. absurd none } }

-- and so may the first one
pub may_first : (made : ClusterState) (v : View) (command : Command) (name : List ℕ) → command ≡ Cluster name → StandsFor made (first_machine name)
    → (worlds : List World) (began : Objects) (end : Machine) → MayGo began None None (machine_in (command_step worlds None command)) (Some end) v → MayStep made (first_machine name) (step worlds (first_machine name) command) end v
may_first made v command name is first worlds began end may = record {
  stands = first;
  ready = nothing_kept name end v may.ready.now;
  later = subst (λ (c : Command). IsLater (step worlds (first_machine name) c).machine end) (sym is) (subst (λ (c : Command). IsLaterIn (machine_in (command_step worlds None c)) (Some end)) is may.later);
}

pub answers_known : (old new : ClusterState) (v : View) (reply : Reply) (command : Command) → Replies old new v reply command
    → (worlds : List World) (began : Objects) (m end : Option Machine) → MayGo began (Some old) m (machine_in (command_step worlds m command)) end v → IsAnswered (Some new) (Some reply) (command_step worlds m command)
answers_known old new v reply command done worlds began None end may = absurd may.stands
answers_known old new v reply command done worlds began (Some m) None may = absurd may.later
answers_known old new v reply command done worlds began (Some m) (Some end) may = let r = done worlds m end (may_known old v command worlds began m end may) in (r.stands, r.reply_is)

pub answers_first : (made new : ClusterState) (v : View) (reply : Reply) (command : Command) (name : List ℕ) → command ≡ Cluster name → StandsFor made (first_machine name) → Replies made new v reply command
    → (worlds : List World) (began : Objects) (m end : Option Machine) → MayGo began None m (machine_in (command_step worlds m command)) end v → IsAnswered (Some new) (Some reply) (command_step worlds m command)
answers_first made new v reply command name is first done worlds began None None may = absurd (subst (λ (c : Command). IsLaterIn (machine_in (command_step worlds None c)) None) is may.later)
answers_first made new v reply command name is first done worlds began None (Some end) may =
    let r = done worlds (first_machine name) end (may_first made v command name is first worlds began end may) in
    let r2 = subst (λ (c : Command). IsReplied new reply (step worlds (first_machine name) c)) is r in
    rw is (r2.stands, r2.reply_is)
answers_first made new v reply command name is first done worlds began (Some m) end may = absurd may.stands

-- no other command is a first one
not_first : (worlds : List World) (c : Command) → ((name : List ℕ) → c ≡ Cluster name → ⊥) → first_step worlds c ≡ None
not_first worlds (Cluster name) other = absurd (other name refl)
not_first worlds (Tick wall) other = refl
not_first worlds (CreateDatabase name) other = refl
not_first worlds (CreateTable table columns key references) other = refl
not_first worlds (AddColumn table name kind) other = refl
not_first worlds (DropColumn table name) other = refl
not_first worlds (RenameColumn table name to) other = refl
not_first worlds (RenameTable table to) other = refl
not_first worlds (DropTable table) other = refl
not_first worlds (Upsert table rows) other = refl
not_first worlds (Delete table keys) other = refl
not_first worlds (DeleteRange table lo hi) other = refl
not_first worlds (Select table at) other = refl
not_first worlds (Gc table before) other = refl
not_first worlds (BackupDatabase database collection at history) other = refl
not_first worlds (BackupTables tables collection at history) other = refl
not_first worlds (BackupLatest collection at history) other = refl
not_first worlds (RestoreDatabase database source collection at new) other = refl
not_first worlds (Forget source collection start end) other = refl
not_first worlds (ShowBackups collection) other = refl

pub answers_none : (v : View) (command : Command) → ((name : List ℕ) → command ≡ Cluster name → ⊥) → (worlds : List World) (began : Objects) (m end : Option Machine) → MayGo began None m (machine_in (command_step worlds m command)) end v
    → IsAnswered None None (command_step worlds m command) × IsReadyFrom began (machine_in (command_step worlds m command)) end v
answers_none v command other worlds began None end may = rw (not_first worlds command other) (tt, may.ready)
answers_none v command other worlds began (Some m) end may = absurd may.stands

-- nothing called the disk
pub idle_cause : {T : Type 0} (x : T) (faults : ℕ) → DiskHasCause {T = T} faults faults (Ok x)
idle_cause x faults = record { later = omega arith; capped = λ le. le; counts = refl }

-- ---- the disk

-- manifests under open gates, where nothing changes, and over two changes
keep-same : (end : Option Machine) (objects : Objects) → KeepManifestsIn end objects objects
keep-same None objects = tt
keep-same (Some m) objects = manifests-same (made_layers m) objects objects refl

keep-then : (end : Option Machine) (a b c : Objects) → KeepManifestsIn end a b → KeepManifestsIn end b c → KeepManifestsIn end a c
keep-then None a b c first second = tt
keep-then (Some m) a b c first second = manifests-then (made_layers m) a b c first second

-- the disk stays as it was
pub still : (m end : Option Machine) (began : Objects) (v : View) → (IsKnown v → (image : Objects) → v.left_since v.moment image → IsImage v image) → IsReady m end v → Leads end began v v
still m end began v only ready = record { leaves = ready_leaves m end v only ready; changes = only_none v; manifests = keep-same end v.objects; idle = λ done. record { objects = refl; calls = refl } }

pub leads_then : (end : Option Machine) (began : Objects) (v0 v1 v2 : View) → Leads end began v0 v1 → Leads end began v1 v2 → Leads end began v0 v2
leads_then end began v0 v1 v2 l k = record {
  leaves = then_call l.leaves k.leaves (λ image stands. stands);
  changes = only_then l.changes k.changes;
  manifests = keep-then end v0.objects v1.objects v2.objects l.manifests k.manifests;
  idle = λ done. let a = l.idle done in let b = k.idle (subst (IsDoneIn end) (sym a.objects) done) in record { objects = b.objects ∙ a.objects; calls = b.calls ∙ a.calls };
}

-- own names are names of objects
pub own_changes : (name : List ℕ) (v0 v1 : View) → ChangesOnly (IsOwnName name) (IsOwnName name) v0 v1 → ChangesOnly NamesObject NamesObject v0 v1
own_changes name v0 v1 changes = only_less (λ n own. (own.object, own.form, own.spelled)) (λ n own. (own.object, own.form, own.spelled)) changes

-- ---- from where the run began

-- before the first command all is as it was
ahead_first : (m end : Machine) (began objects : Objects) → objects ≡ began → AreAhead m end began objects
ahead_first m end began objects same w made later n part = ap (λ (o : Objects). at o n) same

-- jobs that are still to come after a command were so before it
ahead_then : (m new end : Machine) (began a b : Objects) → IsLater m new → AreAhead m end began a → AreAhead new end a b → AreAhead new end began b
ahead_then m new end began a b later before after w made over n part =
    let longer = ap length later.jobs ∙ length-append m.jobs later.more in
    after w made over n part ∙ before w made (omega (arith, longer, over)) n part

pub ready_after : (m new end : Machine) (began : Objects) (v0 v1 : View) → IsLater m new → AreAhead m end began v0.objects → AreAhead new end v0.objects v1.objects → IsReady (Some new) (Some end) v1 → IsReadyFrom began (Some new) (Some end) v1
ready_after m new end began v0 v1 later before after ready = record { now = ready; ahead = ahead_then m new end began v0.objects v1.objects later before after }

-- the marks of a layer that is whole are there
marks_there : (w : LayerObjects) (objects : Objects) (i : ℕ) → i < length w.chunks → IsThere w objects → IsMarked w i objects
marks_there w objects i has there = ⊎_elim (λ (whole : IsWhole w objects). whole (Mark i) has) (λ (whole : IsWhole (with_manifest w (older_manifest w)) objects). whole (Mark i) has) there

-- A mark of a layer that a command leads to, which was there as the run began, is there as the command begins: the layer is one of the
-- machine's, or its job is still to come.
marked_still : (m new end : Machine) (began : Objects) (v : View) → IsLater m new → IsReady (Some m) (Some end) v → AreAhead m end began v.objects
    → (r : LayerRecord) → Has r new.layers → Contains (made_layers end) (objects_of end.history.tables r) → (i : ℕ) → i < length (objects_of end.history.tables r).chunks → IsMarked (objects_of end.history.tables r) i began → IsMarked (objects_of end.history.tables r) i v.objects
marked_still m new end began v later ready ahead r has made i fits marked =
    let w = objects_of end.history.tables r in
    ⊎_elim
    (λ (there : Has r m.layers). marks_there w v.objects i fits (ready.kept.there r there))
    (λ (over : length m.jobs < r.job).
    let number : w.name.job ≡ r.job = ap (λ (n : LayerName). n.job) (objects-name end.history.tables r) in
    ahead w made (subst (λ (job : ℕ). length m.jobs < job) (sym number) over) (name_of_part w (Mark i)) (Mark i, fits, refl) ∙ marked)
    (later.layers r has)

-- what a command may put is what the run may
may_put : (m new end : Machine) (began : Objects) (v : View) → IsLater m new → IsReady (Some m) (Some end) v → AreAhead m end began v.objects → (n : List ℕ) → MayPut new end v.objects n → MayPutIn (Some end) began n
may_put m new end began v later ready ahead n (own, unmarked, (r, has, made, part)) =
    let w = objects_of end.history.tables r in
    (own, unmarked-of-all (setting_of end) (settings-proper end) w made began n (part, λ marked. unmarked w made (marked.0, marked.1, marked_still m new end began v later ready ahead r has made marked.0 marked.1 marked.2, marked.3)))

-- what a step does to the disk is what a call does on the way to its end
pub step_leads : (c new : ClusterState) (v0 v1 : View) (command : Command) (result : Result Reply RunFault) → ((worlds : List World) (m end : Machine) → MayStep c m (step worlds m command) end v0 → Steps new (step worlds m command) end result v0 v1)
    → (worlds : List World) (began : Objects) (m end : Machine) → MayStep c m (step worlds m command) end v0 → AreAhead m end began v0.objects → Leads (Some end) began v0 v1
step_leads c new v0 v1 command result steps worlds began m end may ahead =
    let done = steps worlds m end may in
    record { leaves = done.leaves; changes = only_less (may_put m (step worlds m command).machine end began v0 (steps-later worlds m command) may.ready ahead) (λ n own. own) done.changes; manifests = done.manifests; idle = done.idle }

pub known_leads : (old : ClusterState) (v0 v1 : View) (command : Command) → ((worlds : List World) (began : Objects) (m end : Machine) → MayStep old m (step worlds m command) end v0 → AreAhead m end began v0.objects → Leads (Some end) began v0 v1)
    → (worlds : List World) (began : Objects) (m end : Option Machine) → MayGo began (Some old) m (machine_in (command_step worlds m command)) end v0 → Leads end began v0 v1
known_leads old v0 v1 command leads worlds began None end may = absurd may.stands
known_leads old v0 v1 command leads worlds began (Some m) None may = absurd may.later
known_leads old v0 v1 command leads worlds began (Some m) (Some end) may = leads worlds began m end (may_known old v0 command worlds began m end may) may.ready.ahead

pub first_leads : (made : ClusterState) (v0 v1 : View) (command : Command) (name : List ℕ) → command ≡ Cluster name → StandsFor made (first_machine name) → ((worlds : List World) (began : Objects) (m end : Machine) → MayStep made m (step worlds m command) end v0 → AreAhead m end began v0.objects → Leads (Some end) began v0 v1)
    → (worlds : List World) (began : Objects) (m end : Option Machine) → MayGo began None m (machine_in (command_step worlds m command)) end v0 → Leads end began v0 v1
first_leads made v0 v1 command name is first leads worlds began None None may = absurd (subst (λ (c : Command). IsLaterIn (machine_in (command_step worlds None c)) None) is may.later)
first_leads made v0 v1 command name is first leads worlds began None (Some end) may = leads worlds began (first_machine name) end (may_first made v0 command name is first worlds began end may) (ahead_first (first_machine name) end began v0.objects may.ready.ahead)
first_leads made v0 v1 command name is first leads worlds began (Some m) end may = absurd may.stands

pub known_ready : (old : ClusterState) (v0 v1 : View) (command : Command) → ((worlds : List World) (began : Objects) (m end : Machine) → MayStep old m (step worlds m command) end v0 → AreAhead m end began v0.objects → IsReadyFrom began (Some (step worlds m command).machine) (Some end) v1)
    → (worlds : List World) (began : Objects) (m end : Option Machine) → MayGo began (Some old) m (machine_in (command_step worlds m command)) end v0 → IsReadyFrom began (machine_in (command_step worlds m command)) end v1
known_ready old v0 v1 command ready worlds began None end may = absurd may.stands
known_ready old v0 v1 command ready worlds began (Some m) None may = absurd may.later
known_ready old v0 v1 command ready worlds began (Some m) (Some end) may = ready worlds began m end (may_known old v0 command worlds began m end may) may.ready.ahead

pub first_ready : (made : ClusterState) (v0 v1 : View) (command : Command) (name : List ℕ) → command ≡ Cluster name → StandsFor made (first_machine name) → ((worlds : List World) (began : Objects) (m end : Machine) → MayStep made m (step worlds m command) end v0 → AreAhead m end began v0.objects → IsReadyFrom began (Some (step worlds m command).machine) (Some end) v1)
    → (worlds : List World) (began : Objects) (m end : Option Machine) → MayGo began None m (machine_in (command_step worlds m command)) end v0 → IsReadyFrom began (machine_in (command_step worlds m command)) end v1
first_ready made v0 v1 command name is first ready worlds began None None may = absurd (subst (λ (c : Command). IsLaterIn (machine_in (command_step worlds None c)) None) is may.later)
first_ready made v0 v1 command name is first ready worlds began None (Some end) may =
    let r = subst (λ (c : Command). IsReadyFrom began (Some (step worlds (first_machine name) c).machine) (Some end) v1) is (ready worlds began (first_machine name) end (may_first made v0 command name is first worlds began end may) (ahead_first (first_machine name) end began v0.objects may.ready.ahead)) in
    rw is r
first_ready made v0 v1 command name is first ready worlds began (Some m) end may = absurd may.stands

-- ---- what a reply says

pub says_reply : (new : Option ClusterState) (reply : Reply) (s : Option Stepped) (number : ℕ) (malformed refused : Bool) (text : List ℕ) → IsAnswered new (Some reply) s
    → ((response : Response) → IsReplyOf response reply → SaysLine (machine_in s) malformed refused text (λ (o : Outcome). after_reply response o) (λ o. o)) → SaysLine (machine_in s) malformed refused text (λ (o : Outcome). reply_before number (response_of s) o) (λ o. o)
says_reply new reply None number malformed refused text a says = absurd a
says_reply new reply (Some s) number malformed refused text a says = says s.response a.1

pub says_none : (new : Option ClusterState) (s : Option Stepped) (number : ℕ) (malformed refused : Bool) (text : List ℕ) → IsAnswered new None s → malformed ≡ true → text ≡ malformed_text number 1
    → SaysLine (machine_in s) malformed refused text (λ (o : Outcome). reply_before number (response_of s) o) (λ o. o)
says_none new None number true refused text a bad is = λ o. ((sym is, refl), refl)
says_none new None number false refused text a bad is = absurd cc
says_none new (Some s) number malformed refused text a bad is = absurd a

pub machine_left : (new : Option ClusterState) (reply : Option Reply) (s : Option Stepped) → IsAnswered new reply s → StandsAs new (machine_in s)
machine_left new None None a = a
machine_left new None (Some s) a = absurd a
machine_left new (Some reply) None a = absurd a
machine_left new (Some reply) (Some s) a = a.0
