use Rattle.std.proofs.Common.{◌∙◌, ◌++◌, ap, sym, take, arith}
use Rattle.std.proofs.lemmas.List.{take-append-le}
use Rattle.span_export.proofs.exporting.with_ranges.Goals as goal

pub returns-then-len-n : goal.returns-then-len-n
returns-then-len-n g c = λ h stood le. sym (take-append-le c.args.n c.args.points.items _ (omega arith))

pub returns : goal.returns
returns g c = λ h stood le. ap (take c.args.n) (c.in_ok-append.ensures.items ∙ ap (λ xs. c.args.points.items ++ xs) (c.in_ok-ranges.ensures h stood le))
