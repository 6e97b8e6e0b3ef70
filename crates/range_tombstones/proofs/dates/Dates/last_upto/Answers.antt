use Rattle.std.proofs.Common.{◌∙◌, ap, List}
use Rattle.mvcc_keys.specs.Times.{Time}
use Rattle.range_tombstones.specs.Dates.{last_upto, last_of}
use Rattle.range_tombstones.proofs.DateLaws.{upto}
use Rattle.range_tombstones.proofs.Lists.{last-get}
use Rattle.range_tombstones.proofs.dates.Dates.last_upto.Goals as goal

pub returns : goal.returns
unfolding last_upto
returns c = rw (← c.self.view_is) (c.copied.ensures ∙ (c.last.ensures.value ∙ (last-get _ ∙ (ap last_of c.count_upto.ensures.front ∙ ap (λ (ds : List Time). last_of (upto c.args.t ds)) c.as_slice-dates.ensures.value))))
