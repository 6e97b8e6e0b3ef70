use Rattle.mvcc_keys.specs.TimeTexts.{time_text}
use Rattle.mvcc_keys.proofs.Numerals.{ten_digits-styled}
use Rattle.mvcc_keys.proofs.time_text.HlcDisplay.fmt.Goals as goal

pub returns-clause-writes : goal.returns-clause-writes
unfolding time_text
returns-clause-writes g c plain done =
    let h = c.write.ensures.writes plain done in
    rw (c.laid_out.ensures, ten_digits-styled, c.wall-wall.ensures, c.logical-logical.ensures.value) at h
