use Rattle.std.proofs.Common.{◌≡◌, ◌<◌, ◌≤◌, ◌-◌, ◌+◌, true, false, length, length-drop, drop, get_or, append_assoc, sym, ap, ◌∙◌, arith}
use Rattle.std.proofs.lemmas.List.{append-nil}
use Rattle.std.proofs.lemmas.Bool.Decides.{nat_tests}
use Rattle.script_tokens.specs.Tokens.{is_blank, first_token, is_bad}
use Rattle.script_tokens.proofs.Lexing.{pieces_blank, pieces_bad, pieces_token, pieces_none}
use Rattle.script_tokens.proofs.lexer.tokens.Goals as goal

pub all-preserved-then-is_blank : goal.all-preserved-then-is_blank
all-preserved-then-is_blank c =
    let rest = c.all.rest.now in
    let line = c.args.line.now in
    let some : 0 < length rest = grind (arith, nat_tests) in
    let blank : is_blank (get_or rest 0 0) ≡ true = sym c.is_blank.ensures ∙ c.if-is_blank.true in
    let back : c.split_at.result.1.now ≡ drop 1 rest = c.split_at.ensures.back in
    let short : length c.split_at.result.1.now ≡ length rest - 1 = rw back (length-drop 1 rest) in
    let k : 1 + (length line - length c.split_at.result.1.now) ≡ (1 + (length line - length rest)) + 1 = omega (arith, short, some, c.all.invariant.0) in
    let step = pieces_blank (1 + (length line - length rest)) rest some blank in (
      omega (arith, short, c.all.invariant.0),
      rw (k, back, ← step) c.all.invariant.1,
      rw (k, back, ← step) c.all.invariant.2,
    )

pub returns-then-bad : goal.returns-then-bad
returns-then-bad c =
    let rest = c.all.rest.now in
    let line = c.args.line.now in
    let some : 0 < length rest = grind (arith, nat_tests) in
    let solid : is_blank (get_or rest 0 0) ≡ false = sym c.is_blank.ensures ∙ c.if-is_blank.false in
    let is = c.in_ok-token.ensures.token in
    let token : c.in_ok-token.token ≡ (first_token (get_or rest 0 0) (drop 1 rest)).token = ap (λ x. x.token) is in
    let bad : is_bad (first_token (get_or rest 0 0) (drop 1 rest)).token ≡ true = rw (← token) (sym c.is_bad-bad.ensures ∙ c.if-bad.true) in
    let step = pieces_bad (1 + (length line - length rest)) rest some solid bad in (
      rw (c.in_ok-put_token.ensures, token) (rw step at c.all.invariant.1),
      rw c.in_ok-put_place.ensures (rw step at c.all.invariant.2),
    )

pub all-preserved : goal.all-preserved
all-preserved c =
    let rest = c.all.rest.now in
    let line = c.args.line.now in
    let some : 0 < length rest = grind (arith, nat_tests) in
    let solid : is_blank (get_or rest 0 0) ≡ false = sym c.is_blank.ensures ∙ c.if-is_blank.false in
    let is = c.in_ok-token.ensures.token in
    let token : c.in_ok-token.token ≡ (first_token (get_or rest 0 0) (drop 1 rest)).token = ap (λ x. x.token) is in
    let len : c.in_ok-token.len ≡ (first_token (get_or rest 0 0) (drop 1 rest)).len = ap (λ x. x.len) is in
    let good : is_bad (first_token (get_or rest 0 0) (drop 1 rest)).token ≡ false = rw (← token) (sym c.is_bad-bad.ensures ∙ c.if-bad.false) in
    let long : 0 < (first_token (get_or rest 0 0) (drop 1 rest)).len = omega (arith, len, c.in_ok-token.ensures.some) in
    let few : (first_token (get_or rest 0 0) (drop 1 rest)).len ≤ length rest = omega (arith, len, c.in_ok-token.ensures.within) in
    let back : c.split_at-else-is_blank.result.1.now ≡ drop c.in_ok-token.len rest = c.split_at-else-is_blank.ensures.back in
    let short : length c.split_at-else-is_blank.result.1.now ≡ length rest - c.in_ok-token.len = rw back (length-drop c.in_ok-token.len rest) in
    let k : 1 + (length line - length c.split_at-else-is_blank.result.1.now) ≡ (1 + (length line - length rest)) + c.in_ok-token.len = omega (arith, short, c.in_ok-token.ensures.within, c.all.invariant.0) in
    let step = pieces_token (1 + (length line - length rest)) rest some solid good long few in (
      omega (arith, short, c.all.invariant.0),
      rw (k, back, c.in_ok-put_token.ensures, len, token, append_assoc) (rw step at c.all.invariant.1),
      rw (k, back, c.in_ok-put_place.ensures, len, append_assoc) (rw step at c.all.invariant.2),
    )

pub returns : goal.returns
returns c =
    let rest = c.all.rest.now in
    let none : length rest ≡ 0 = grind (arith, nat_tests) in
    let step = pieces_none (1 + (length c.args.line.now - length rest)) rest none in (
      sym (append-nil c.all.found.items) ∙ (rw step at c.all.invariant.1),
      sym (append-nil c.all.places.items) ∙ (rw step at c.all.invariant.2),
    )
