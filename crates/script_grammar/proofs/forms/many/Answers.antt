use Rattle.std.proofs.Common.{◌≡◌, suc, length, ◌+◌, ◌-◌, true, false, sym, ◌∙◌, arith}
use Rattle.std.proofs.lemmas.Bool.Decides.{nat_tests}
use Rattle.std.proofs.lemmas.Result.{err_from_is_err_and}
use Rattle.script_grammar.specs.Grammar.{Read, read_within, begins_with, Fails}
use Rattle.script_grammar.proofs.Repeating.{stopped, went_on, went_wrong}
use Rattle.script_grammar.proofs.forms.many.Goals as goal

pub returns-then-not-begins_with : goal.returns-then-not-begins_with
returns-then-not-begins_with g c =
    let stops : begins_with g.P.Part.starts c.loop.rest.now ≡ false = grind (arith, nat_tests) in
    sym c.loop.invariant ∙ stopped (length c.args.tokens.now - c.loop.counter) g.P.Part.starts g.P.Part.reads c.loop.found.items c.loop.rest.now stops

pub returns-in_err-item : goal.returns-in_err-item
returns-in_err-item g c =
    let begins : begins_with g.P.Part.starts c.loop.rest.now ≡ true = grind (arith, nat_tests) in
    let some : length c.args.tokens.now - c.loop.counter ≡ 0 → ⊥ = λ none. omega (arith, none, c.loop-test.true) in
    let p = err_from_is_err_and c.from_residual.result c.from_residual.ensures.1 in
    let w = went_wrong (length c.args.tokens.now - c.loop.counter) g.P.Part.starts g.P.Part.reads c.loop.found.items c.loop.rest.now c.in_err-item.field-0.0 some begins (c.in_err-item.ensures) in
    let v : Fails c.in_err-item.field-0.0 (read_within (length c.args.tokens.now) g.P.Part.starts g.P.Part.reads c.args.tokens.now) = rw c.loop.invariant at w in
    rw (p.1, p.2) v

pub loop-preserved : goal.loop-preserved
loop-preserved g c =
    let begins : begins_with g.P.Part.starts c.loop.rest.now ≡ true = grind (arith, nat_tests) in
    let is : g.P.Part.reads c.loop.rest.now ≡ Read c.in_ok-item.item c.in_ok-item.after.now = c.in_ok-item.ensures in
    let count : length c.args.tokens.now - c.loop.counter ≡ suc (length c.args.tokens.now - (c.loop.counter + 1)) = omega (arith, c.loop-test.true) in
    rw c.in_ok-put.ensures (sym (went_on (length c.args.tokens.now - c.loop.counter) (length c.args.tokens.now - (c.loop.counter + 1)) g.P.Part.starts g.P.Part.reads c.loop.found.items c.loop.rest.now c.in_ok-item.item c.in_ok-item.after.now count begins is) ∙ c.loop.invariant)
