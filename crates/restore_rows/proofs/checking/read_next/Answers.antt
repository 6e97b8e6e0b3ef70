use Rattle.std.proofs.Common.{◌∙◌, ℕ, ap, ap₂, sym, subst, subst₂, IfErr}
use Rattle.std.proofs.lemmas.Result.{err_from_is_err_and}
use Rattle.layer_model.specs.declared.names.LayerName.{LayerName}
use Rattle.layer_model.specs.declared.names.Part.TheVariants.{Chunk}
use Rattle.layer_model.specs.Names.{object_name}
use Rattle.collection_dir.specs.declared.fault.DirFault.TheVariants.{Malformed}
use Rattle.stored_chunks.specs.Loads.{IsGiven}
use Rattle.stored_chunks.specs.Places.{number_of}
use Rattle.restore_rows.specs.Checks.{last_in}
use Rattle.restore_rows.specs.Reading.{IsNextFault}
use Rattle.restore_rows.proofs.NextChunks.{next-breaks, next-found, not-malformed}
use Rattle.restore_rows.proofs.ToldFaults.{cut-told, held-digest, memory-told, well-formed}
use Rattle.restore_rows.proofs.checking.read_next.Goals as goal

pub returns-in-Err-new-clause-found : goal.returns-in-Err-new-clause-found
returns-in-Err-new-clause-found g c info tells there =
    let given = subst₂ (λ (l : LayerName) (n : ℕ). IsGiven l n c.args.table c.args.kinds.now c.info_of.result.now (g.D.Disk.view c.args.disk.now) c.in-Ok.bytes.items) c.layer.ensures c.number_of-number.ensures.number c.in-Ok.ensures.answers in
    absurd (not-malformed c.args.part.now c.args.chunk c.args.table c.args.kinds.now (g.D.Disk.view c.args.disk.now) (last_in c.args.last.now) info c.info_of.result.now c.requires c.info_of.ensures there c.in-Ok.bytes.items given c.in-Err-new.fault.offset c.in-Err-new.ensures.read)

pub returns-then-not-may_follow-clause-found : goal.returns-then-not-may_follow-clause-found
returns-then-not-may_follow-clause-found g c info tells there =
    let given = subst₂ (λ (l : LayerName) (n : ℕ). IsGiven l n c.args.table c.args.kinds.now c.info_of.result.now (g.D.Disk.view c.args.disk.now) c.in-Ok.bytes.items) c.layer.ensures c.number_of-number.ensures.number c.in-Ok.ensures.answers in
    let named = c.in_ok-malformed.ensures ∙ (ap₂ (λ (l : LayerName) (n : ℕ). Malformed (object_name l (Chunk n)) c.first.result) c.layer-then-not-may_follow.ensures c.number_of-number.ensures.number
    ∙ ap (λ (n : ℕ). Malformed (object_name c.args.part.now.layer (Chunk (number_of c.args.part.now c.args.chunk))) n) c.first.ensures.place) in
    next-breaks c.args.part.now c.args.chunk c.args.table c.args.kinds.now (g.D.Disk.view c.args.disk.now) (last_in c.args.last.now) info c.info_of.result.now c.requires c.info_of.ensures there c.in-Ok.bytes.items given c.in-Ok-new.next c.in-Ok-new.ensures.read _ (sym c.may_follow.ensures ∙ c.if-not-may_follow.true) named tells

pub returns-clause-found : goal.returns-clause-found
returns-clause-found g c info tells there =
    let given = subst₂ (λ (l : LayerName) (n : ℕ). IsGiven l n c.args.table c.args.kinds.now c.info_of.result.now (g.D.Disk.view c.args.disk.now) c.in-Ok.bytes.items) c.layer.ensures c.number_of-number.ensures.number c.in-Ok.ensures.answers in
    next-found c.args.part.now c.args.chunk c.args.table c.args.kinds.now (g.D.Disk.view c.args.disk.now) (last_in c.args.last.now) info c.info_of.result.now c.requires c.info_of.ensures there c.in-Ok.bytes.items given c.in-Ok-new.next c.in-Ok-new.ensures.read (sym c.may_follow.ensures ∙ c.if-not-may_follow.false) tells

pub returns-in-Err-new-clause-told : goal.returns-in-Err-new-clause-told
returns-in-Err-new-clause-told g c =
    let given = subst₂ (λ (l : LayerName) (n : ℕ). IsGiven l n c.args.table c.args.kinds.now c.info_of.result.now (g.D.Disk.view c.args.disk.now) c.in-Ok.bytes.items) c.layer.ensures c.number_of-number.ensures.number c.in-Ok.ensures.answers in
    well-formed c.args.part.now c.args.chunk c.args.table c.args.kinds.now (g.D.Disk.view c.args.disk.now) (last_in c.args.last.now) c.info_of.result.now c.requires c.info_of.ensures c.in-Ok.bytes.items given c.in-Err-new.fault.offset c.in_ok-malformed-in-Err-new.field-0 c.in-Err-new.ensures.read

pub returns-in_err-malformed-clause-told : goal.returns-in_err-malformed-clause-told
returns-in_err-malformed-clause-told g c =
    let p = err_from_is_err_and c.from_residual-in_err-malformed.result c.from_residual-in_err-malformed.ensures.1 in
    subst (λ r. IfErr r (IsNextFault c.args.part.now c.args.table c.args.kinds.now c.args.chunk (last_in c.args.last.now))) (sym p.1) (memory-told c.args.part.now c.args.chunk c.args.table c.args.kinds.now (g.D.Disk.view c.args.disk.now) (last_in c.args.last.now) c.info_of.result.now c.requires c.info_of.ensures p.0 p.2)

pub returns-then-not-may_follow-clause-told : goal.returns-then-not-may_follow-clause-told
returns-then-not-may_follow-clause-told g c =
    let given = subst₂ (λ (l : LayerName) (n : ℕ). IsGiven l n c.args.table c.args.kinds.now c.info_of.result.now (g.D.Disk.view c.args.disk.now) c.in-Ok.bytes.items) c.layer.ensures c.number_of-number.ensures.number c.in-Ok.ensures.answers in
    let named = c.in_ok-malformed.ensures ∙ (ap₂ (λ (l : LayerName) (n : ℕ). Malformed (object_name l (Chunk n)) c.first.result) c.layer-then-not-may_follow.ensures c.number_of-number.ensures.number
    ∙ ap (λ (n : ℕ). Malformed (object_name c.args.part.now.layer (Chunk (number_of c.args.part.now c.args.chunk))) n) c.first.ensures.place) in
    cut-told c.args.part.now c.args.chunk c.args.table c.args.kinds.now (g.D.Disk.view c.args.disk.now) (last_in c.args.last.now) c.info_of.result.now c.requires c.info_of.ensures c.in-Ok.bytes.items given c.in-Ok-new.next c.in-Ok-new.ensures.read (sym c.may_follow.ensures ∙ c.if-not-may_follow.true) _ named

pub returns-clause-held : goal.returns-clause-held
returns-clause-held g c =
    let given = subst₂ (λ (l : LayerName) (n : ℕ). IsGiven l n c.args.table c.args.kinds.now c.info_of.result.now (g.D.Disk.view c.args.disk.now) c.in-Ok.bytes.items) c.layer.ensures c.number_of-number.ensures.number c.in-Ok.ensures.answers in
    held-digest c.args.part.now c.args.chunk c.args.table c.args.kinds.now (g.D.Disk.view c.args.disk.now) (last_in c.args.last.now) c.info_of.result.now c.requires c.info_of.ensures c.in-Ok.bytes.items given c.in-Ok-new.next c.in-Ok-new.ensures.read
