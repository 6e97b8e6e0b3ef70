use Rattle.std.proofs.Common.{◌≡◌, arith, Result, Ok, Err, false, sym, ◌∙◌, OnOk}
use Rattle.std.specs.Result.{is_err}
use Rattle.job_registry.proofs.Numbered.{added}
use Rattle.job_registry.proofs.registry.Registry.add.Goals as goal

on_ok : {T E : Type 0} (r : Result T E) (P : Type 0) → is_err r ≡ false → OnOk r P → P
on_ok (Ok v) P h p = p
on_ok (Err e) P h p = cc

pub invariant_of-self-2 : goal.invariant_of-self-2
invariant_of-self-2 g c =
    let put = on_ok c.insert.result _ (sym c.is_err-refused.ensures.value ∙ c.if-refused.false) c.insert.ensures.entries in
    (added c.self.inside.jobs.entries _ _ _ c.self.invariant.0 (omega (arith, c.len.ensures.len)) (rw c.self.view_is c.requires) put).0

pub returns-clause-ok : goal.returns-clause-ok
returns-clause-ok g c =
    let put = on_ok c.insert.result _ (sym c.is_err-refused.ensures.value ∙ c.if-refused.false) c.insert.ensures.entries in
    rw (← c.self.view_is) (added c.self.inside.jobs.entries _ _ _ c.self.invariant.0 (omega (arith, c.len.ensures.len)) (rw c.self.view_is c.requires) put).1
