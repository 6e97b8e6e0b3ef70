-- A script ends in the machine after its commands, and a longer one in a later machine.
use Rattle.std.proofs.Common.{◌≡◌, ℕ, zero, suc, ◌+◌, ◌==◌, Bool, true, false, List, [], ◌∷◌, ◌++◌, refl, sym, ap, subst, ◌∙◌}
use Rattle.std.specs.Prelude.{Option, Some, None, is_none}
use Rattle.command_lang.specs.declared.command.Command.{Command}
use Rattle.command_lang.specs.declared.command.Command.TheVariants.{Cluster}
use Rattle.command_lang.specs.Lines.{Reading, Skipped, Reads, Malformed, reading}
use Rattle.machine_model.specs.declared.limits.TheConstants.{SCRIPT_BYTES_MAX}
use Rattle.machine_model.specs.Machine.{Machine, Stepped, World}
use Rattle.machine_model.specs.Step.{step}
use Rattle.machine_model.specs.Past.{IsLater}
use Rattle.machine_model.specs.Orders.{IsInOrder}
use Rattle.machine_model.specs.Disks.{StandsUntil}
use Rattle.machine_model.specs.Script.{Line, Within, Beyond, command_step, first_machine, first_step, lines, machine_after, machine_in, outcome, put_front, reading_before, reply_before, response_of, script_outcome}
use Rattle.machine_model.specs.Extensions.{AppendedScriptsGoOn, LongerScriptsStand, ScriptsEndByCommands, commands_in, commands_with, if_stepped, machine_from, script_commands}
use Rattle.machine_model.proofs.Past.{later-same, later-then, steps-later}
use Rattle.machine_model.proofs.Orders.{steps-order}
use Rattle.machine_model.proofs.Extensions.{later-stand}

-- ---- the commands of a script

module _ (worlds : List World) where
  -- a line and those after it, once these end by their commands, whether a command came before or not
  line-ends : (n : ℕ) (m : Option Machine) (r : Reading) (ls : List Line)
      → ((k : Option Machine) → (outcome worlds (n + 1) k ls).machine ≡ machine_from worlds k (commands_in (is_none k) ls))
      → (reading_before worlds n m r (outcome worlds (n + 1) (machine_after worlds m r) ls)).machine ≡ machine_from worlds m (commands_with r (commands_in (is_none m) ls) (commands_in false ls))
  line-ends n m Skipped ls rest = rest m
  line-ends n m (Malformed column) ls rest = refl
  line-ends n m (Reads c) ls rest = by (command_step worlds m c) refl
    where
      by : (s : Option Stepped) → command_step worlds m c ≡ s → (reply_before n (response_of s) (outcome worlds (n + 1) (machine_in s) ls)).machine ≡ if_stepped s (machine_from worlds (machine_in s) (commands_in false ls))
      by None is = refl
      by (Some s) is = rest (Some s.machine)

  lines-end : (n : ℕ) (m : Option Machine) (ls : List Line) → (outcome worlds n m ls).machine ≡ machine_from worlds m (commands_in (is_none m) ls)
  unfolding outcome
  lines-end n m [] = refl
  lines-end n m (Beyond bytes ∷ ls) = refl
  lines-end n m (Within line ∷ ls) = line-ends n m (reading (is_none m) line) ls (λ k. lines-end (n + 1) k ls)

pub scripts-end : ScriptsEndByCommands
unfolding script_outcome script_commands
scripts-end worlds script = lines-end worlds 1 None (lines SCRIPT_BYTES_MAX script)

-- ---- longer scripts

module _ (worlds : List World) where
  -- commands and then others
  from-more : (m : Option Machine) (cs more : List Command) (n : Machine) → machine_from worlds m cs ≡ Some n → machine_from worlds m (cs ++ more) ≡ machine_from worlds (Some n) more
  from-more m [] more n is = ap (λ (x : Option Machine). machine_from worlds x more) is
  from-more m (c ∷ cs) more n is = by (command_step worlds m c) is (λ k e. from-more k cs more n e)
    where
      by : (s : Option Stepped) → if_stepped s (machine_from worlds (machine_in s) cs) ≡ Some n
          → ((k : Option Machine) → machine_from worlds k cs ≡ Some n → machine_from worlds k (cs ++ more) ≡ machine_from worlds (Some n) more)
          → if_stepped s (machine_from worlds (machine_in s) (cs ++ more)) ≡ machine_from worlds (Some n) more
      by None e rest = absurd (let no : None ≡ Some n = e in cc no)
      by (Some s) e rest = rest (Some s.machine) e

  -- commands lead to a later machine
  pub record IsReached (m : Machine) (cs : List Command) : Type 0 where
    pub end : Machine
    pub is : machine_from worlds (Some m) cs ≡ Some end
    pub later : IsLater m end
    pub order : IsInOrder end

  reached : (m : Machine) (cs : List Command) → IsInOrder m → IsReached m cs
  reached m [] o = record { end = m; is = refl; later = later-same m; order = o }
  reached m (c ∷ cs) o =
      let n = (step worlds m c).machine in
      let r = reached n cs (steps-order worlds m c o) in
      record { end = r.end; is = r.is; later = later-then m n r.end (steps-later worlds m c) r.later; order = r.order }

  first-order : (name : List ℕ) → IsInOrder (first_machine name)
  unfolding first_machine
  first-order name = record { tables = λ i table got. absurd (cc got); backups = λ place r got. absurd (cc got) }

  -- and a script's end is in order
  from-order : (cs : List Command) (n : Machine) → machine_from worlds None cs ≡ Some n → IsInOrder n
  from-order [] n is = absurd (cc is)
  from-order (c ∷ cs) n is = by (first_step worlds c) refl is
    where
      made : (d : Command) (s : Stepped) → first_step worlds d ≡ Some s → IsInOrder s.machine
      made (Cluster name) s e =
          let same : step worlds (first_machine name) (Cluster name) ≡ s = cc e in
          subst (λ (x : Stepped). IsInOrder x.machine) same (steps-order worlds (first_machine name) (Cluster name) (first-order name))
      made d s e = absurd (cc e)

      by : (s : Option Stepped) → first_step worlds c ≡ s → if_stepped s (machine_from worlds (machine_in s) cs) ≡ Some n → IsInOrder n
      by None first e = absurd (cc e)
      by (Some s) first e =
          let r = reached s.machine cs (made c s first) in
          let same : r.end ≡ n = let both : Some r.end ≡ Some n = sym r.is ∙ e in cc in
          subst IsInOrder same r.order

pub longer-stand : LongerScriptsStand
longer-stand worlds script longer m more ends goes objects stands =
    let from : machine_from worlds None (script_commands script) ≡ Some m = sym (scripts-end worlds script) ∙ ends in
    let o = from-order worlds (script_commands script) m from in
    let r = reached worlds m more o in
    let last : (script_outcome worlds longer).machine ≡ Some r.end = scripts-end worlds longer ∙ (ap (machine_from worlds None) goes ∙ (from-more worlds None (script_commands script) more m from ∙ r.is)) in
    subst (λ (x : Option Machine). StandsUntil x objects) (sym last) (later-stand m r.end o r.later objects stands)

-- ---- scripts that are written on

-- lines up to a newline, and those of what follows
pub record GoesOn (room : ℕ) (front more : List ℕ) : Type 0 where
  pub first : Line
  pub others : List Line
  pub rest : List Line
  pub before : lines room (front ++ 10 ∷ []) ≡ first ∷ others
  pub all : lines room (front ++ 10 ∷ more) ≡ first ∷ (others ++ rest)

put-more : (b : ℕ) (l : Line) (ls rest : List Line) → put_front b (l ∷ (ls ++ rest)) ≡ put_front b (l ∷ ls) ++ rest
put-more b (Within bytes) ls rest = refl
put-more b (Beyond bytes) ls rest = refl

byte-goes : (room b : ℕ) (front more : List ℕ) → GoesOn room front more → GoesOn (suc room) (b ∷ front) more
unfolding lines
byte-goes room b front more g = by (b == 10) refl
  where
    Goal : Type 0
    Goal = GoesOn (suc room) (b ∷ front) more

    other : (l : Line) → g.first ≡ l → (b == 10) ≡ false → Goal
    other (Within bytes) is not = record {
      first = Within (b ∷ bytes);
      others = g.others;
      rest = g.rest;
      before = rw not (ap (put_front b) g.before ∙ ap (λ (x : Line). put_front b (x ∷ g.others)) is);
      all = rw not (ap (put_front b) g.all ∙ ap (λ (x : Line). put_front b (x ∷ (g.others ++ g.rest))) is);
    }
    other (Beyond bytes) is not = record {
      first = Beyond (b ∷ bytes);
      others = g.others;
      rest = g.rest;
      before = rw not (ap (put_front b) g.before ∙ ap (λ (x : Line). put_front b (x ∷ g.others)) is);
      all = rw not (ap (put_front b) g.all ∙ ap (λ (x : Line). put_front b (x ∷ (g.others ++ g.rest))) is);
    }

    by : (t : Bool) → (b == 10) ≡ t → Goal
    by true is = record {
      first = Within [];
      others = g.first ∷ g.others;
      rest = g.rest;
      before = rw is (ap (λ (ls : List Line). Within [] ∷ ls) g.before);
      all = rw is (ap (λ (ls : List Line). Within [] ∷ ls) g.all);
    }
    by false is = other g.first refl is

lines-go : (room : ℕ) (front more : List ℕ) → GoesOn room front more
unfolding lines
lines-go zero [] more = record { first = Beyond []; others = []; rest = []; before = refl; all = refl }
lines-go zero (b ∷ front) more = record { first = Beyond []; others = []; rest = []; before = refl; all = refl }
lines-go (suc room) [] more = record { first = Within []; others = []; rest = lines room more; before = refl; all = refl }
lines-go (suc room) (b ∷ front) more = byte-goes room b front more (lines-go room front more)

-- more lines add commands at the end
commands-more : (first : Bool) (ls more : List Line) → (rest : List Command) × (commands_in first (ls ++ more) ≡ commands_in first ls ++ rest)
commands-more first [] more = (commands_in first more, refl)
commands-more first (Beyond bytes ∷ ls) more = ([], refl)
commands-more first (Within line ∷ ls) more = by (reading first line) (commands-more first ls more) (commands-more false ls more)
  where
    by : (r : Reading) → (rest : List Command) × (commands_in first (ls ++ more) ≡ commands_in first ls ++ rest) → (rest : List Command) × (commands_in false (ls ++ more) ≡ commands_in false ls ++ rest)
        → (rest : List Command) × (commands_with r (commands_in first (ls ++ more)) (commands_in false (ls ++ more)) ≡ commands_with r (commands_in first ls) (commands_in false ls) ++ rest)
    by Skipped same other = same
    by (Reads c) same other = (other.0, ap (λ (cs : List Command). c ∷ cs) other.1)
    by (Malformed column) same other = ([], refl)

pub appended-go : AppendedScriptsGoOn
unfolding script_commands
appended-go front more =
    let g = lines-go SCRIPT_BYTES_MAX front more in
    let c = commands-more true (g.first ∷ g.others) g.rest in
    (c.0, ap (commands_in true) g.all ∙ (c.1 ∙ ap (λ (ls : List Line). commands_in true ls ++ c.0) (sym g.before)))
