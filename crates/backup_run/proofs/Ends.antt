-- The machine at a script's end is a later one of the same cluster.
use Rattle.std.specs.Prelude.{ℕ, ◌+◌, List, [], ◌∷◌, Option, Some, None}
use Rattle.command_lang.specs.declared.command.Command.{Command}
use Rattle.command_lang.specs.Lines.{Reading, Skipped, Reads, Malformed}
use Rattle.machine_model.specs.Machine.{World, Machine, Stepped}
use Rattle.machine_model.specs.Step.{step}
use Rattle.machine_model.specs.Past.{IsLaterIn}
use Rattle.machine_model.specs.Script.{Line, Within, Beyond, Outcome, outcome, command_step, machine_after, machine_in, response_of, reading_before, reply_before, read_at}
use Rattle.machine_model.proofs.Past.{later-same, later-then, steps-later}

pub answered-later : (worlds : List World) (m : Machine) (c : Command) (o : Option Machine) → IsLaterIn (Some (step worlds m c).machine) o → IsLaterIn (Some m) o
answered-later worlds m c None later = absurd later
answered-later worlds m c (Some new) later = later-then m (step worlds m c).machine new (steps-later worlds m c) later

read-later : (worlds : List World) (n : ℕ) (m : Machine) (r : Reading) (o : Outcome) → IsLaterIn (machine_after worlds (Some m) r) o.machine → IsLaterIn (Some m) (reading_before worlds n (Some m) r o).machine
read-later worlds n m Skipped o later = later
read-later worlds n m (Reads c) o later = answered-later worlds m c o.machine later
read-later worlds n m (Malformed column) o later = later-same m

pub ends-later : (worlds : List World) (n : ℕ) (m : Option Machine) (ls : List Line) → IsLaterIn m (outcome worlds n m ls).machine
unfolding outcome
ends-later worlds n None ls = tt
ends-later worlds n (Some m) [] = later-same m
ends-later worlds n (Some m) (Beyond bytes ∷ ls) = later-same m
ends-later worlds n (Some m) (Within line ∷ ls) =
    let r = read_at (Some m) line in
    read-later worlds n m r (outcome worlds (n + 1) (machine_after worlds (Some m) r) ls) (ends-later worlds (n + 1) (machine_after worlds (Some m) r) ls)

same-later : (m : Option Machine) → IsLaterIn m m
same-later None = tt
same-later (Some m) = later-same m

reply-later : (worlds : List World) (n : ℕ) (s : Option Stepped) (ls : List Line) → IsLaterIn (machine_in s) (reply_before n (response_of s) (outcome worlds (n + 1) (machine_in s) ls)).machine
reply-later worlds n None ls = tt
reply-later worlds n (Some s) ls = ends-later worlds (n + 1) (Some s.machine) ls

-- the machine after a line leads to the end of what follows
pub line-later : (worlds : List World) (n : ℕ) (m : Option Machine) (r : Reading) (ls : List Line) → IsLaterIn (machine_after worlds m r) (reading_before worlds n m r (outcome worlds (n + 1) (machine_after worlds m r) ls)).machine
line-later worlds n m Skipped ls = ends-later worlds (n + 1) m ls
line-later worlds n m (Reads c) ls = reply-later worlds n (command_step worlds m c) ls
line-later worlds n m (Malformed column) ls = same-later m
