use Rattle.std.proofs.Common.{◌≡◌, ◌<◌, ◌≤◌, length, get_or, sym, ◌∙◌, arith}
use Rattle.std.proofs.lemmas.Bool.Decides.{nat_tests}
use Rattle.script_tokens.specs.Tokens.{hex_value}
use Rattle.script_tokens.proofs.Lexing.{hex_more, hex_end}
use Rattle.script_tokens.proofs.quoted.hex_bytes.Goals as goal

pub pairs-preserved : goal.pairs-preserved
pairs-preserved c =
    let rest = c.pairs.rest.now in
    let some : 2 ≤ length rest = grind (arith, nat_tests) in
    let high : c.hex_value.result ≡ hex_value (get_or rest 0 0) = c.hex_value.ensures.value in
    let low : c.hex_value-in-pairs.result ≡ hex_value (get_or rest 1 0) = c.hex_value-in-pairs.ensures.value in
    rw (c.in_ok-put_byte.ensures, high, low, c.split_at.ensures.back) (sym (hex_more c.pairs.found.items rest some) ∙ c.pairs.invariant)

pub returns : goal.returns
returns c =
    let few : length c.pairs.rest.now < 2 = grind (arith, nat_tests) in
    sym (hex_end c.pairs.found.items c.pairs.rest.now few) ∙ c.pairs.invariant
