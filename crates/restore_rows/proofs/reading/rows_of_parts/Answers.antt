use Rattle.std.proofs.Common.{◌≡◌, ◌∙◌, sym, subst, List}
use Rattle.list_laws.proofs.Places.{none-left}
use Rattle.layer_merge.specs.declared.parts.Part.{Part}
use Rattle.layer_merge.specs.Parts.{AreProper, IsCountedChunk, merge_rows}
use Rattle.stored_chunks.specs.Places.{AreParts}
use Rattle.restore_rows.specs.Reading.{world_of}
use Rattle.restore_rows.proofs.PartsRead.{all-read, all-typed, fault-names, fault-sound, fault-told, none-merged, reads-world}
use Rattle.restore_rows.proofs.WholeParts.{checks-whole}
use Rattle.restore_rows.proofs.reading.rows_of_parts.Goals as goal

pub returns-in_default-clause-rows : goal.returns-in_default-clause-rows
returns-in_default-clause-rows g c rows tells merges =
    let none = none-left c.args.parts.now c.in_default.ensures.cases in
    c.new.ensures.items ∙ sym (none-merged (world_of c.args.table c.args.kinds.now (g.D.Disk.view c.args.disk.now).objects c.args.parts.now) c.args.parts.now c.args.t rows none merges)

pub returns-in-Ok-rows-clause-rows : goal.returns-in-Ok-rows-clause-rows
returns-in-Ok-rows-clause-rows g c rows tells merges =
    let w = world_of c.args.table c.args.kinds.now (g.D.Disk.view c.args.disk.now).objects c.args.parts.now in
    let all = subst (λ (ps : List Part). AreProper w ps × (merge_rows w ps c.args.t ≡ rows)) (sym c.deref.ensures.value) (merges c.in-Ok.merge.items c.in-Ok.ensures) in
    c.in-Ok-rows.ensures.rows w (λ to layer number bytes came. reads-world c.args.table c.args.kinds.now c.args.parts.now c.in-Some.other.now c.in-Some.field-0-1.now c.in-Some.ensures.cases.0 (g.D.Disk.view c.args.disk.now) tells layer number to.failed bytes came) all.0 ∙ all.1

pub returns-in-Ok-rows-clause-typed : goal.returns-in-Ok-rows-clause-typed
returns-in-Ok-rows-clause-typed g c = all-typed c.args.table c.args.kinds.now c.args.parts.now c.in-Some.other.now c.in-Some.field-0-1.now c.in-Some.ensures.cases.0 (g.D.Disk.view c.args.disk.now) c.merged_rows-rows.new.chunks.failed (IsCountedChunk c.deref.result.now) c.in-Ok-rows.rows.items c.in-Ok-rows.ensures.given

pub returns-in-Ok-rows-clause-given : goal.returns-in-Ok-rows-clause-given
returns-in-Ok-rows-clause-given g c = all-read c.args.table c.args.kinds.now c.args.parts.now c.in-Some.other.now c.in-Some.field-0-1.now c.in-Some.ensures.cases.0 (g.D.Disk.view c.args.disk.now) c.merged_rows-rows.new.chunks.failed (IsCountedChunk c.deref.result.now) c.in-Ok-rows.rows.items c.in-Ok-rows.ensures.given

pub named_fault-requires : goal.named_fault-requires
named_fault-requires g c = fault-names c.args.table c.args.kinds.now c.args.parts.now c.in-Some.other.now c.in-Some.field-0-1.now c.in-Some.ensures.cases.0 (g.D.Disk.view c.args.disk.now) c.merged_rows-rows.new.chunks.failed c.deref.result.now (subst (AreParts c.args.parts.now) (sym c.deref.ensures.value) c.in-Ok.ensures) c.in-Err-rows.fault c.in-Err-rows.ensures.fault

pub returns-clause-sound : goal.returns-clause-sound
returns-clause-sound g c tells whole = fault-sound c.args.table c.args.kinds.now c.args.parts.now c.in-Some.other.now c.in-Some.field-0-1.now c.in-Some.ensures.cases.0 (g.D.Disk.view c.args.disk.now) c.merged_rows-rows.new.chunks.failed c.deref.result.now (subst (AreParts c.args.parts.now) (sym c.deref.ensures.value) c.in-Ok.ensures) c.in-Err-rows.fault c.in-Err-rows.ensures.fault tells (checks-whole c.args.table c.args.kinds.now (g.D.Disk.view c.args.disk.now).objects c.args.parts.now whole) c.named_fault.result c.named_fault.ensures

pub returns-clause-told : goal.returns-clause-told
returns-clause-told g c = fault-told c.args.table c.args.kinds.now c.args.parts.now c.in-Some.other.now c.in-Some.field-0-1.now c.in-Some.ensures.cases.0 (g.D.Disk.view c.args.disk.now) c.merged_rows-rows.new.chunks.failed c.deref.result.now (subst (AreParts c.args.parts.now) (sym c.deref.ensures.value) c.in-Ok.ensures) c.in-Err-rows.fault c.in-Err-rows.ensures.fault c.named_fault.result c.named_fault.ensures
