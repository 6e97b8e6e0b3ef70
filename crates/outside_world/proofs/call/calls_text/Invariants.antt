use Rattle.std.proofs.Common.{◌≡◌, take}
use Rattle.std.specs.Prelude.{string_bytes}
use Rattle.outside_world.specs.CallTexts.{calls_text}
use Rattle.outside_world.proofs.call.calls_text.Given as goal

abbrev pub invariant-loop-call : goal.invariant-loop-call
invariant-loop-call l = string_bytes l.text ≡ calls_text (take l.call-index l.calls)
