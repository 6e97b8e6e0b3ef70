use Rattle.layer_model.proofs.names.LayerName.copy.Goals as goal

pub returns-clause-form : goal.returns-clause-form
returns-clause-form c = record {
  collection = c.in_ok-copy.ensures.form;
  cluster = c.in_ok-copy-2.ensures.form;
  full = c.is_time.ensures;
  start = c.is_time-2.ensures;
  end = c.is_time-3.ensures;
  job = c.is_job.ensures;
}
