use Rattle.std.proofs.Common.{◌++◌, ap, sym, ◌∙◌, take, drop, List, ℕ}
use Rattle.std.proofs.lemmas.List.{take-append-drop, drop-drop}
use Rattle.outside_world.proofs.next_bytes.give.Goals as goal

pub returns-clause-next : goal.returns-clause-next
returns-clause-next c =
    let xs = c.args.bytes.now in
    let n = c.copy_front.result in
    rw (c.copy_front.ensures.front, c.split_at.ensures.back)
    (sym (take-append-drop n (drop c.args.given xs)) ∙ ap (λ (r : List ℕ). take n (drop c.args.given xs) ++ r) (drop-drop n c.args.given xs))
