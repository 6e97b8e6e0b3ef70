use Rattle.std.proofs.Common.{◌∙◌, arith, sym}
use Rattle.version_store.proofs.row.Row.count_left.Goals as goal
use Rattle.version_store.proofs.RowChanges.{left-hidden, left-shown, left-whole}

pub returns-then-len-newer : goal.returns-then-len-newer
returns-then-len-newer c = left-whole c.args.g c.args.cover c.args.self.now c.place_of-newer.result c.place_of-newer.ensures.place (omega (arith, c.if-len-newer.true, c.len.ensures))

pub returns-then-shows_at : goal.returns-then-shows_at
returns-then-shows_at c = left-shown c.args.g c.args.cover c.args.self.now c.place_of-newer.result c.place_of-newer.ensures.place (sym c.shows_at.ensures ∙ c.if-shows_at.true)

pub returns-else-shows_at : goal.returns-else-shows_at
returns-else-shows_at c = left-hidden c.args.g c.args.cover c.args.self.now c.place_of-newer.result c.place_of-newer.ensures.place (sym c.shows_at.ensures ∙ c.if-shows_at.false)
