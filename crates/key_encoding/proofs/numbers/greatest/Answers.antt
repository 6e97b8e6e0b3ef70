use Rattle.key_encoding.proofs.NumberOf.{greatest_is}
use Rattle.key_encoding.proofs.numbers.greatest.Goals as goal

pub returns : goal.returns
returns c = greatest_is c.args.count c.requires.most
