use Rattle.backup_run.proofs.Runs.{runs_script, read_cause, write_cause, store_cause, completes}
use Rattle.backup_run.proofs.top.run.Goals as goal

pub returns-clause-headline : goal.returns-clause-headline
returns-clause-headline g c = λ _ worlds script held tells holds ready.
    runs_script c.status_of.result.code worlds script held _ _ _ _ _ _ c.run_script.result c.status_of.ensures tells holds ready c.run_script.ensures.ran

pub returns-clause-complete : goal.returns-clause-complete
returns-clause-complete g c = λ _ worlds script held tells holds ready low4 low5 low6.
    let ran = runs_script c.status_of.result.code worlds script held _ _ _ _ _ _ c.run_script.result c.status_of.ensures tells holds ready c.run_script.ensures.ran in
    completes c.status_of.result.code worlds script held _ _ _ _ _ _ _ _ _ _ ran
    (read_cause c.run_script.result _ _ _ c.status_of.ensures c.run_script.ensures.read)
    (write_cause c.run_script.result _ _ _ c.status_of.ensures c.run_script.ensures.wrote)
    (store_cause c.run_script.result _ _ _ c.status_of.ensures c.run_script.ensures.stored)
    low4 low5 low6

pub returns-clause-read : goal.returns-clause-read
returns-clause-read g c = read_cause c.run_script.result _ _ _ c.status_of.ensures c.run_script.ensures.read

pub returns-clause-wrote : goal.returns-clause-wrote
returns-clause-wrote g c = write_cause c.run_script.result _ _ _ c.status_of.ensures c.run_script.ensures.wrote

pub returns-clause-stored : goal.returns-clause-stored
returns-clause-stored g c = store_cause c.run_script.result _ _ _ c.status_of.ensures c.run_script.ensures.stored
