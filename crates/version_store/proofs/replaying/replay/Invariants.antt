use Rattle.std.proofs.Common.{◌≡◌, take}
use Rattle.version_store.specs.Tables.{Tables}
use Rattle.version_store.specs.Calls.{AreAllowed, after_calls, answers_of}
use Rattle.version_store.proofs.replaying.replay.Given as goal

abbrev pub invariant-loop-call : goal.invariant-loop-call
invariant-loop-call g l = (h : Tables) → g.V.Versions.stands l.initial.store h → AreAllowed h l.calls → g.V.Versions.stands l.store (after_calls (take l.call-index l.calls) h) × (l.answers.items ≡ answers_of h (take l.call-index l.calls))
