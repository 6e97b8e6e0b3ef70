use Rattle.span_export.proofs.Added.{others-unseen}
use Rattle.span_export.proofs.laws.others_are_unseen.Goals as goal

pub returns : goal.returns
returns c = others-unseen
