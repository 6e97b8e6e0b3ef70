use Rattle.machine_model.specs.Script.{command_step, machine_in}
use Rattle.backup_run.proofs.Stepping.{says_reply, says_none, machine_left}
use Rattle.backup_run.proofs.answering.say_command.Goals as goal

pub returns-in-Some-clause-said : goal.returns-in-Some-clause-said
returns-in-Some-clause-said g c = λ worlds began m end may.
    says_reply c.execute.new.cluster c.in-Some.reply _ c.args.number _ _ _ ((rw c.in-Some.is at c.in_ok-reply.ensures.step) worlds began m end may) (λ response. c.say_reply.ensures (machine_in (command_step worlds m c.args.command.now)) response)

pub returns-in-Some-clause-at : goal.returns-in-Some-clause-at
returns-in-Some-clause-at g c = λ worlds began m end may. record { stands = machine_left c.execute.new.cluster c.in_ok-reply.field-0 _ (c.in_ok-reply.ensures.step worlds began m end may); ready = c.in_ok-reply.ensures.ready worlds began m end may }

pub returns-in_ok-say_malformed-in-None-clause-said : goal.returns-in_ok-say_malformed-in-None-clause-said
returns-in_ok-say_malformed-in-None-clause-said g c = λ worlds began m end may.
    says_none c.execute.new.cluster _ c.args.number _ _ _ ((rw c.in-None.is at c.in_ok-reply.ensures.step) worlds began m end may) c.in_ok-say_malformed-in-None.ensures.malformed c.in_ok-say_malformed-in-None.ensures.text

pub returns-in_ok-say_malformed-in-None-clause-at : goal.returns-in_ok-say_malformed-in-None-clause-at
returns-in_ok-say_malformed-in-None-clause-at g c = λ worlds began m end may. record { stands = machine_left c.execute.new.cluster c.in_ok-reply.field-0 _ (c.in_ok-reply.ensures.step worlds began m end may); ready = c.in_ok-reply.ensures.ready worlds began m end may }
