use Rattle.std.proofs.Common.{◌≡◌, ◌≢◌, ◌<◌, ◌-◌, ◌+◌, true, false, length, length-drop, drop, get_or, sym, ◌∙◌, arith, refl}
use Rattle.std.proofs.lemmas.Bool.Decides.{nat_tests}
use Rattle.script_tokens.specs.Tokens.{is_doubled}
use Rattle.script_tokens.proofs.Lexing.{text_plain, text_double, text_end, text_none, doubled_two}
use Rattle.script_tokens.proofs.quoted.text_body.Goals as goal

pub all-preserved-then-first-ne39 : goal.all-preserved-then-first-ne39
all-preserved-then-first-ne39 c =
    let rest = c.all.rest.now in
    let some : 0 < length rest = grind (arith, nat_tests) in
    let other : get_or rest 0 0 ≢ 39 = c.if-first-ne39.true in
    let back : c.split_at.result.1.now ≡ drop 1 rest = c.split_at.ensures.back in
    let short : length c.split_at.result.1.now ≡ length rest - 1 = rw back (length-drop 1 rest) in
    let k : length c.args.bytes.now - length c.split_at.result.1.now ≡ c.all.len + 1 = omega (arith, short, some, c.all.invariant.0, c.all.invariant.1) in (
      omega (arith, short, c.all.invariant.0),
      refl,
      rw (k, c.in_ok-put_byte.ensures, back) (sym (text_plain c.all.found.items c.all.len rest some other) ∙ c.all.invariant.2),
    )

pub returns-then-not-is_doubled-clause-value : goal.returns-then-not-is_doubled-clause-value
returns-then-not-is_doubled-clause-value c =
    let rest = c.all.rest.now in
    let first : get_or rest 0 0 ≡ 39 = c.if-first-ne39.false in
    let single : is_doubled rest ≡ false = grind (arith, nat_tests) in
    sym (text_end c.all.found.items c.all.len rest first single) ∙ c.all.invariant.2

pub all-preserved : goal.all-preserved
all-preserved c =
    let rest = c.all.rest.now in
    let first : get_or rest 0 0 ≡ 39 = c.if-first-ne39.false in
    let double : is_doubled rest ≡ true = grind (arith, nat_tests) in
    let two = doubled_two rest double in
    let back : c.split_at-else-first-ne39.result.1.now ≡ drop 2 rest = c.split_at-else-first-ne39.ensures.back in
    let short : length c.split_at-else-first-ne39.result.1.now ≡ length rest - 2 = rw back (length-drop 2 rest) in
    let k : length c.args.bytes.now - length c.split_at-else-first-ne39.result.1.now ≡ c.all.len + 2 = omega (arith, short, two, c.all.invariant.0, c.all.invariant.1) in (
      omega (arith, short, c.all.invariant.0),
      refl,
      rw (k, c.in_ok-put_byte-2.ensures, back) (sym (text_double c.all.found.items c.all.len rest first double) ∙ c.all.invariant.2),
    )

pub returns-clause-value : goal.returns-clause-value
returns-clause-value c =
    let none : length c.all.rest.now ≡ 0 = grind (arith, nat_tests) in
    sym (text_none c.all.found.items c.all.len c.all.rest.now none) ∙ c.all.invariant.2
