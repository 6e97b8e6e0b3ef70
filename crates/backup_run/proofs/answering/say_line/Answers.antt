use Rattle.std.proofs.Common.{◌≡◌, sym, ap, ◌∙◌}
use Rattle.std.specs.Prelude.{Bool}
use Rattle.std.proofs.lemmas.Result.{IfErr-weaker}
use Rattle.command_lang.specs.Lines.{Reads, reading}
use Rattle.machine_model.specs.Script.{read_at}
use Rattle.backup_run.proofs.Saying.{same-none}
use Rattle.backup_run.proofs.Stepping.{still}
use Rattle.backup_run.proofs.answering.say_line.Goals as goal

pub returns-in-Ok-Some-clause-said : goal.returns-in-Ok-Some-clause-said
returns-in-Ok-Some-clause-said g c = λ worlds began m end may.
    let read = rw c.in-Ok-Some.field-0-is at c.in-Ok-Some.ensures in
    let is : read_at m c.args.line.now ≡ Reads c.in-Ok-Some.command = ap (λ (first : Bool). reading first c.args.line.now) (same-none c.args.cluster.now m may.stands ∙ sym c.is_first-first.ensures) ∙ read in
    rw is (c.say_command.ensures.said worlds began m end (rw is at may))

pub returns-in-Ok-Some-clause-at : goal.returns-in-Ok-Some-clause-at
returns-in-Ok-Some-clause-at g c = λ worlds began m end may.
    let read = rw c.in-Ok-Some.field-0-is at c.in-Ok-Some.ensures in
    let is : read_at m c.args.line.now ≡ Reads c.in-Ok-Some.command = ap (λ (first : Bool). reading first c.args.line.now) (same-none c.args.cluster.now m may.stands ∙ sym c.is_first-first.ensures) ∙ read in
    rw is (c.say_command.ensures.at worlds began m end (rw is at may))

pub returns-in_err-say_malformed-in-Err-Wrong-clause-leads : goal.returns-in_err-say_malformed-in-Err-Wrong-clause-leads
returns-in_err-say_malformed-in-Err-Wrong-clause-leads g c = λ worlds began m end may. still m end began _ (g.met.D.Disk.only_now c.args.disk.now) may.ready.now

pub returns-in-Err-Memory-clause-leads : goal.returns-in-Err-Memory-clause-leads
returns-in-Err-Memory-clause-leads g c = λ worlds began m end may. still m end began _ (g.met.D.Disk.only_now c.args.disk.now) may.ready.now

pub returns-in-Ok-Some-clause-leads : goal.returns-in-Ok-Some-clause-leads
returns-in-Ok-Some-clause-leads g c = λ worlds began m end may.
    let read = rw c.in-Ok-Some.field-0-is at c.in-Ok-Some.ensures in
    let is : read_at m c.args.line.now ≡ Reads c.in-Ok-Some.command = ap (λ (first : Bool). reading first c.args.line.now) (same-none c.args.cluster.now m may.stands ∙ sym c.is_first-first.ensures) ∙ read in
    c.say_command.ensures.leads worlds began m end (rw is at may)

pub returns-in-Ok-None-clause-leads : goal.returns-in-Ok-None-clause-leads
returns-in-Ok-None-clause-leads g c = λ worlds began m end may. still m end began _ (g.met.D.Disk.only_now c.args.disk.now) may.ready.now

pub returns-in_ok-say_malformed-in-Err-Wrong-clause-leads : goal.returns-in_ok-say_malformed-in-Err-Wrong-clause-leads
returns-in_ok-say_malformed-in-Err-Wrong-clause-leads g c = λ worlds began m end may. still m end began _ (g.met.D.Disk.only_now c.args.disk.now) may.ready.now

pub returns-in-Ok-Some-clause-disk : goal.returns-in-Ok-Some-clause-disk
returns-in-Ok-Some-clause-disk g c =
    let read = rw c.in-Ok-Some.field-0-is at c.in-Ok-Some.ensures in
    IfErr-weaker c.say_command.result _ _ (λ e f no.
    let met = f no in
    record { command = c.in-Ok-Some.command; reads = ap (λ (first : Bool). reading first c.args.line.now) (sym met.0 ∙ sym c.is_first-first.ensures) ∙ read; of_disk = met.1 })
    c.say_command.ensures.disk
