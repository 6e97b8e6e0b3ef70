use Rattle.std.proofs.Common.{[], length, false, sym}
use Rattle.key_encoding.specs.Reading.{unescaped}
use Rattle.row_codec.specs.KeyChecking.{held_bytes, text_after}
use Rattle.row_codec.proofs.CharSteps.{no_text, text_ends}
use Rattle.row_codec.proofs.checks.skip_escaped_text.Goals as goal

pub returns-in-None : goal.returns-in-None
returns-in-None c = λ len.
    let next = sym (rw c.in-Ok-Some-default.field-0-0-is at c.in-Ok-Some-default.ensures) in
    no_text c.args.down (length c.args.b.now) len (held_bytes c.loop-byte.held) c.loop-byte.left.now c.in-Ok-Some-default.rest.now c.in-Ok-Some-default.byte
    (text_after [] (unescaped c.args.down len false c.args.b.now)) next c.in-None.ensures.value (c.loop-byte.invariant.read len)

pub returns-then-held-eq0 : goal.returns-then-held-eq0
returns-then-held-eq0 c = λ len.
    let next = sym (rw c.in-Ok-None-default.field-0-0-is at c.in-Ok-None-default.ensures) in
    text_ends c.args.down (length c.args.b.now) len c.loop-byte.left.now c.in-Ok-None-default.rest.now
    (text_after [] (unescaped c.args.down len false c.args.b.now)) next (rw c.if-held-eq0.true at (c.loop-byte.invariant.read len))
