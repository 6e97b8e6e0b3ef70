use Rattle.reply_texts.proofs.ReadBack.{read_back}
use Rattle.reply_texts.proofs.laws.values_read_back.Goals as goal

pub returns : goal.returns
returns c = read_back
