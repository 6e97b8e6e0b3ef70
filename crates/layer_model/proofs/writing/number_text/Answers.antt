use Rattle.std.proofs.Common.{string_bytes}
use Rattle.layer_model.proofs.FieldTexts.{six_decimals}
use Rattle.layer_model.proofs.writing.number_text.Goals as goal

pub returns : goal.returns
returns c = six_decimals c.args.letter.now c.args.n (string_bytes c.in_ok-format.field-0) c.in_ok-format.ensures.ok
