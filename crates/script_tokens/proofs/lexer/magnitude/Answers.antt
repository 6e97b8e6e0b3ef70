use Rattle.std.proofs.Common.{◌≡◌, ◌+◌, ◌*◌, ◌-◌, ◌∷◌, get_or, suc, drop, arith, drop-cons}
use Rattle.std.proofs.lemmas.Bool.Decides.{nat_tests}
use Rattle.script_tokens.specs.Tokens.{number_from}
use Rattle.script_tokens.proofs.Lexing.{number_from_grows}
use Rattle.script_tokens.proofs.lexer.magnitude.Goals as goal

pub returns-then-n-gt922337203685477580-clause-none : goal.returns-then-n-gt922337203685477580-clause-none
returns-then-n-gt922337203685477580-clause-none c =
    let ds = c.args.digits.now in
    let i = c.loop-d.d-index in
    let more : drop i ds ≡ get_or ds i 0 ∷ drop (suc i) ds = drop-cons ds i 0 (omega arith) in
    let so_far : number_from c.loop-d.n (drop i ds) ≡ number_from 0 ds = c.loop-d.invariant in
    let next : number_from (10 * c.loop-d.n + (get_or ds i 0 - 48)) (drop (suc i) ds) ≡ number_from 0 ds = rw more at so_far in
    let grows = number_from_grows (10 * c.loop-d.n + (get_or ds i 0 - 48)) (drop (suc i) ds) in
    grind (arith, nat_tests)
