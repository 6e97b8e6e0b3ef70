use Rattle.std.proofs.Common.{◌≡◌, List, ℕ, None, Err, subst}
use Rattle.stored_chunks.specs.Loads.{Reads}
use Rattle.stored_chunks.specs.Told.{read_told}
use Rattle.stored_chunks.proofs.Loading.{load-given, load-malformed, load-refused}
use Rattle.stored_chunks.proofs.chunks.load_chunk.Goals as goal

pub returns-in-Err-clause-answers : goal.returns-in-Err-clause-answers
returns-in-Err-clause-answers g c = load-refused _ _ _ _ _ _ _ c.in-Err.ensures.fault c.in-Err.ensures.damaged

pub returns-in-None-clause-answers : goal.returns-in-None-clause-answers
returns-in-None-clause-answers g c = load-given _ _ _ _ _ _ _ c.in-Ok.ensures.bytes c.in-Ok.ensures.digest
    (subst (λ (b : List ℕ). Reads c.args.table c.args.kinds.now c.args.info.now b None) c.deref-2.ensures.value c.in-None.ensures)

pub returns-in_ok-malformed-in-Some-clause-answers : goal.returns-in_ok-malformed-in-Some-clause-answers
returns-in_ok-malformed-in-Some-clause-answers g c = load-malformed _ _ _ _ _ _ _ c.in-Some.offset _ c.in-Ok.ensures.bytes c.in-Ok.ensures.digest
    (subst (λ (b : List ℕ). read_told c.args.table c.args.kinds.now c.args.info.now b ≡ Err c.in-Some.offset) c.deref-2.ensures.value c.in-Some.ensures) c.in_ok-malformed-in-Some.ensures
