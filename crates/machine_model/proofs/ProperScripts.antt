-- Scripts end in machines with proper histories.
use Rattle.std.proofs.Common.{◌≡◌, ℕ, zero, suc, ◌+◌, ◌-◌, ◌<◌, ◌≤◌, ◌^◌, ◌==◌, Bool, true, false, refl, sym, subst, ◌∙◌, arith, List, [], ◌∷◌, length, Option, Some, None, if◌then◌else◌}
use Rattle.std.specs.List.{AllByRecursion}
use Rattle.list_laws.specs.Bytes.{AreBytes}
use Rattle.command_lang.specs.declared.command.Command.{Command}
use Rattle.command_lang.specs.declared.command.Command.TheVariants.{Cluster}
use Rattle.command_lang.specs.Lines.{Malformed, Reading, Reads, Skipped, reading}
use Rattle.command_lang.specs.Typed.{IsTyped}
use Rattle.command_lang.proofs.TypedCommands.{read-typed}
use Rattle.machine_model.specs.declared.limits.TheConstants.{SCRIPT_BYTES_MAX}
use Rattle.machine_model.specs.Machine.{Machine, Stepped, World}
use Rattle.machine_model.specs.Extensions.{commands_in, commands_with, if_stepped, machine_from, script_commands}
use Rattle.machine_model.specs.ProperMachines.{IsProperAfter, ScriptsHaveProperHistories, StepsKeepHistory}
use Rattle.machine_model.specs.Script.{Beyond, Line, Within, first_machine, first_step, lines, machine_in, put_front}
use Rattle.machine_model.specs.Step.{step}
use Rattle.machine_model.proofs.LongerScripts.{scripts-end}

-- ---- the commands of a script are in form, and there are no more than bytes

AreLines : List Line → Type 0
AreLines [] = Unit {0}
AreLines (Within bytes ∷ ls) = AreBytes bytes × AreLines ls
AreLines (Beyond bytes ∷ ls) = AreLines ls

front-are : (b : ℕ) (ls : List Line) → b < 256 → AreLines ls → AreLines (put_front b ls)
unfolding AreLines
front-are b [] small all = ((small, tt), tt)
front-are b (Within bytes ∷ ls) small all = ((small, all.0), all.1)
front-are b (Beyond bytes ∷ ls) small all = all

front-length : (b : ℕ) (ls : List Line) (n : ℕ) → length ls ≤ n + 1 → length (put_front b ls) ≤ n + 1
front-length b [] n le = omega arith
front-length b (Within bytes ∷ ls) n le = le
front-length b (Beyond bytes ∷ ls) n le = le

lines-are : (n : ℕ) (bs : List ℕ) → AreBytes bs → AreLines (lines n bs) × (length (lines n bs) ≤ n + 1)
unfolding lines AreLines
lines-are n [] all = (tt, omega arith)
lines-are zero (b ∷ bs) all = (tt, omega arith)
lines-are (suc n) (b ∷ bs) all = by (b == 10) (lines-are n bs all.1)
  where
    by : (t : Bool) → AreLines (lines n bs) × (length (lines n bs) ≤ n + 1) → AreLines (if t then Within [] ∷ lines n bs else put_front b (lines n bs)) × (length (if t then Within [] ∷ lines n bs else put_front b (lines n bs)) ≤ suc n + 1)
    by true rest = ((tt, rest.0), (let l = rest.1 in omega (arith, l)))
    by false rest = (front-are b (lines n bs) all.0 rest.0, (let l = front-length b (lines n bs) n rest.1 in omega (arith, l)))

commands-typed : (first : Bool) (ls : List Line) → AreLines ls → AllByRecursion IsTyped (commands_in first ls) × (length (commands_in first ls) ≤ length ls)
unfolding AreLines
commands-typed first [] all = (tt, omega arith)
commands-typed first (Beyond bytes ∷ ls) all = (tt, omega arith)
commands-typed first (Within line ∷ ls) all = by (reading first line) (λ c e. read-typed first line c all.0 e) (commands-typed first ls all.1) (commands-typed false ls all.1)
  where
    by : (r : Reading) → ((c : Command) → r ≡ Reads c → IsTyped c) → AllByRecursion IsTyped (commands_in first ls) × (length (commands_in first ls) ≤ length ls) → AllByRecursion IsTyped (commands_in false ls) × (length (commands_in false ls) ≤ length ls)
        → AllByRecursion IsTyped (commands_with r (commands_in first ls) (commands_in false ls)) × (length (commands_with r (commands_in first ls) (commands_in false ls)) ≤ length (Within line ∷ ls))
    by Skipped typed same more = (same.0, (let l = same.1 in omega (arith, l)))
    by (Reads c) typed same more = ((typed c refl, more.0), (let l = more.1 in omega (arith, l)))
    by (Malformed column) typed same more = (tt, omega arith)

-- ---- machines

module _ (steps : StepsKeepHistory) (worlds : List World) where
  reached-proper : (n : ℕ) (m : Machine) (cs : List Command) (end : Machine) → n + length cs < 2 ^ 32 - 2 → IsProperAfter n m → AllByRecursion IsTyped cs → machine_from worlds (Some m) cs ≡ Some end → IsProperAfter (n + length cs) end
  reached-proper n m [] end small proper typed is =
      let same : m ≡ end = cc is in
      subst (λ (k : ℕ). IsProperAfter k end) (let e : n ≡ n + 0 = omega arith in e) (subst (IsProperAfter n) same proper)
  reached-proper n m (c ∷ cs) end small proper typed is =
      let next = steps worlds n m c (omega (arith, small)) proper typed.0 in
      let rest = reached-proper (n + 1) (step worlds m c).machine cs end (omega (arith, small)) next typed.1 is in
      subst (λ (k : ℕ). IsProperAfter k end) (let e : n + 1 + length cs ≡ n + suc (length cs) = omega arith in e) rest

  first-proper : (name : List ℕ) → IsProperAfter 0 (first_machine name)
  unfolding first_machine
  first-proper name = record {
    history = record { tables = λ i table got. cc got; names = λ t i j x y gx gy r. cc gx; databases = tt; few = omega arith; events = omega arith };
    order = record { tables = λ i table got. absurd (cc got); backups = λ place r got. absurd (cc got) };
    tables = λ i table got. cc got;
    clock = (omega arith, omega arith);
    few = omega arith;
    events = omega arith;
  }

  from-proper : (cs : List Command) (end : Machine) → length cs < 2 ^ 32 - 2 → AllByRecursion IsTyped cs → machine_from worlds None cs ≡ Some end → IsProperAfter (length cs) end
  from-proper [] end small typed is = absurd (cc is)
  from-proper (c ∷ cs) end small typed is = by (first_step worlds c) refl is
    where
      made : (d : Command) (s : Stepped) → IsTyped d → first_step worlds d ≡ Some s → IsProperAfter 1 s.machine
      made (Cluster name) s good e =
          let same : step worlds (first_machine name) (Cluster name) ≡ s = cc e in
          subst (λ (x : Stepped). IsProperAfter 1 x.machine) same (steps worlds 0 (first_machine name) (Cluster name) (omega arith) (first-proper name) good)
      made d s good e = absurd (cc e)

      by : (s : Option Stepped) → first_step worlds c ≡ s → if_stepped s (machine_from worlds (machine_in s) cs) ≡ Some end → IsProperAfter (length (c ∷ cs)) end
      by None first e = absurd (cc e)
      by (Some s) first e = subst (λ (k : ℕ). IsProperAfter k end) (let e2 : 1 + length cs ≡ suc (length cs) = omega arith in e2) (reached-proper 1 s.machine cs end (omega (arith, small)) (made c s typed.0 first) typed.1 e)

  pub scripts-proper : (script : List ℕ) (m : Machine) → AreBytes script → machine_from worlds None (script_commands script) ≡ Some m → IsProperAfter (length (script_commands script)) m
  unfolding script_commands
  scripts-proper script m bytes is =
      let l = lines-are SCRIPT_BYTES_MAX script bytes in
      let c = commands-typed true (lines SCRIPT_BYTES_MAX script) l.0 in
      let few = l.1 in
      let fewer = c.1 in
      from-proper (script_commands script) m (omega (arith, few, fewer)) c.0 is

pub scripts-have : StepsKeepHistory → ScriptsHaveProperHistories
scripts-have steps worlds script m bytes ends = let p = scripts-proper steps worlds script m bytes (sym (scripts-end worlds script) ∙ ends) in (p.history, p.order)
