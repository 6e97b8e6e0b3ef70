-- How the calls of a disk are shown.
use Rattle.std.specs.Prelude.{ℕ, Bool, true, false, List, [], ◌∷◌, ◌++◌, fold}
use Rattle.outside_world.specs.declared.call.DiskCall.{DiskCall}
use Rattle.outside_world.specs.declared.call.DiskCall.TheVariants.{Put, Removal, Sync}

-- a put is a plus and its name, a removal a minus and its name, a sync a slash
abbrev pub call_text : DiskCall → List ℕ
call_text (Put name) = 43 ∷ name
call_text (Removal name) = 45 ∷ name
call_text Sync = 47 ∷ []

-- an exclamation mark ends a call that failed
abbrev pub mark_text : Bool → List ℕ
mark_text true = []
mark_text false = 33 ∷ []

-- the calls so far with one more, behind a blank
abbrev pub with_call : List ℕ → DiskCall × Bool → List ℕ
with_call text call = text ++ (32 ∷ (call_text call.0 ++ mark_text call.1))

abbrev pub calls_text : List (DiskCall × Bool) → List ℕ
calls_text calls = fold with_call [] calls
