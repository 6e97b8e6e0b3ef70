use Rattle.std.proofs.Common.{ℕ, List, length, arith, refl, sym, ap}
use Rattle.chunk_file.proofs.HeldLaws.{stands-at, took, took-none}
use Rattle.chunk_file.proofs.held.HeldChunk.entry_at.Goals as goal

pub split_at-requires : goal.split_at-requires
split_at-requires c =
    let at = rw (← c.self.view_is) at c.requires in
    let stands = stands-at c.self.inside.bytes.items c.self.inside.first c.args.offset _ at.0 c.self.invariant at.1 in
    rw c.as_slice-bytes.ensures.value (omega (arith, stands.length_is))

pub overflow_sub-result : goal.overflow_sub-result
overflow_sub-result c =
    let at = rw (← c.self.view_is) at c.requires in
    let read = rw (c.split_at.ensures.back, c.as_slice-bytes.ensures.value) at (sym c.in-Some.ensures) in
    rw c.as_slice-bytes.ensures.value (took c.self.inside.bytes.items c.self.inside.first c.args.offset _ _ at.0 c.in-Some.entry c.in-Some.rest.now c.self.invariant at.1 read refl).0.fits

pub returns-in-Some-clause-entry : goal.returns-in-Some-clause-entry
returns-in-Some-clause-entry c =
    let at = rw (← c.self.view_is) at c.requires in
    let read = rw (c.split_at.ensures.back, c.as_slice-bytes.ensures.value) at (sym c.in-Some.ensures) in
    rw (← c.self.view_is, c.as_slice-bytes.ensures.value) (took c.self.inside.bytes.items c.self.inside.first c.args.offset _ _ at.0 c.in-Some.entry c.in-Some.rest.now c.self.invariant at.1 read refl).0.entry

pub returns-in-Some-clause-next : goal.returns-in-Some-clause-next
returns-in-Some-clause-next c =
    let at = rw (← c.self.view_is) at c.requires in
    let read = rw (c.split_at.ensures.back, c.as_slice-bytes.ensures.value) at (sym c.in-Some.ensures) in
    let step = (took c.self.inside.bytes.items c.self.inside.first c.args.offset _ _ at.0 c.in-Some.entry c.in-Some.rest.now c.self.invariant at.1 read refl).0 in
    let whole = ap (λ (t : List ℕ). length t) c.self.invariant.bytes in
    rw (← c.self.view_is, c.as_slice-bytes.ensures.value) (step.start, step.later, omega (arith, step.within, whole))

pub returns-in-Some-clause-ends : goal.returns-in-Some-clause-ends
returns-in-Some-clause-ends c =
    let at = rw (← c.self.view_is) at c.requires in
    let read = rw (c.split_at.ensures.back, c.as_slice-bytes.ensures.value) at (sym c.in-Some.ensures) in
    let before = (took c.self.inside.bytes.items c.self.inside.first c.args.offset _ _ at.0 c.in-Some.entry c.in-Some.rest.now c.self.invariant at.1 read refl).1 in
    let whole = ap (λ (t : List ℕ). length t) c.self.invariant.bytes in
    rw (← c.self.view_is) (λ e. absurd (cc), λ e. absurd (omega (arith, before, whole, e)))

pub returns-in-None-clause-entry : goal.returns-in-None-clause-entry
returns-in-None-clause-entry c =
    let at = rw (← c.self.view_is) at c.requires in
    let read = rw (c.split_at.ensures.back, c.as_slice-bytes.ensures.value) at (sym c.in-None.ensures) in
    rw (← c.self.view_is) (took-none c.self.inside.bytes.items c.self.inside.first c.args.offset _ at.0 c.self.invariant at.1 read).0

pub returns-in-None-clause-ends : goal.returns-in-None-clause-ends
returns-in-None-clause-ends c =
    let at = rw (← c.self.view_is) at c.requires in
    let read = rw (c.split_at.ensures.back, c.as_slice-bytes.ensures.value) at (sym c.in-None.ensures) in
    let end = (took-none c.self.inside.bytes.items c.self.inside.first c.args.offset _ at.0 c.self.invariant at.1 read).1 in
    let whole = ap (λ (t : List ℕ). length t) c.self.invariant.bytes in
    rw (← c.self.view_is) (λ e. omega (arith, end, whole), λ e. refl)
