use Rattle.std.proofs.Common.{◌∙◌, sym, ap, ap₂, subst, subst₂, List, map}
use Rattle.std.specs.List.{AllByRecursion}
use Rattle.std.proofs.lemmas.Result.{IfOk-weaker}
use Rattle.list_laws.proofs.Members.{all-weaker}
use Rattle.table_descriptors.specs.Descriptors.{key_kinds}
use Rattle.outside_world.specs.Objects.{Objects}
use Rattle.layer_chains.specs.Chains.{rows_at, stored_put}
use Rattle.stored_chunks.specs.Places.{Stored, counted_parts}
use Rattle.restore_rows.specs.Checks.{check_parts}
use Rattle.restore_rows.specs.Reading.{IsReadOf, Merges, world_of}
use Rattle.restore_rows.proofs.ShownParts.{read-before, shown-merge, shown-whole}
use Rattle.restore_rows.proofs.Worlds.{fault-disk}
use Rattle.restore_rows.proofs.reading.read_rows.Goals as goal

pub returns-in-Err-check_chunks_of-clause-rows : goal.returns-in-Err-check_chunks_of-clause-rows
returns-in-Err-check_chunks_of-clause-rows g c tables rs scope d tells stand of chain may shown id_is kinds_is =
    let objects = (g.D.Disk.view c.args.disk.now).objects in
    let whole = ap (check_parts c.args.table c.args.kinds.now objects) (c.deref.ensures.value ∙ c.in-Ok.ensures) ∙ shown-whole c.args.table c.args.kinds.now objects c.args.layers.now c.args.t tables rs scope d stand of chain may shown id_is kinds_is in
    (tt, fault-disk c.in-Err-check_chunks_of.fault (check_parts c.args.table c.args.kinds.now objects c.deref.result.now) tt whole (c.in-Err-check_chunks_of.ensures.found tells))

pub returns-clause-rows : goal.returns-clause-rows
returns-clause-rows g c tables rs scope d tells stand of chain may shown id_is kinds_is =
    let old = g.D.Disk.view c.args.disk.now in
    let reads = c.in-Ok-check_chunks_of.ensures.reads in
    let tells_still = reads.kind.tells ∙ tells in
    let same = (reads.content tells).objects in
    let parts_are = c.deref-2.ensures.value ∙ c.in-Ok.ensures in
    let rows = map (stored_put d.id (key_kinds d)) (rows_at tables c.args.t d) in
    let merges = subst₂ (λ (o : Objects) (ps : List Stored). Merges (world_of c.args.table c.args.kinds.now o ps) ps c.args.t rows) (sym same) (sym parts_are) (shown-merge c.args.table c.args.kinds.now old.objects c.args.layers.now c.args.t tables rs scope d stand of chain may shown id_is kinds_is) in
    let whole = ap₂ (λ (o : Objects) (ps : List Stored). check_parts c.args.table c.args.kinds.now o ps) same parts_are ∙ shown-whole c.args.table c.args.kinds.now old.objects c.args.layers.now c.args.t tables rs scope d stand of chain may shown id_is kinds_is in
    (c.rows_of_parts.ensures.rows rows tells_still merges, c.rows_of_parts.ensures.sound tells_still whole)

pub returns-clause-given : goal.returns-clause-given
returns-clause-given g c =
    let old = g.D.Disk.view c.args.disk.now in
    let new = g.D.Disk.view c.check_chunks_of.new.disk in
    let parts_are = c.deref-2.ensures.value ∙ c.in-Ok.ensures in
    IfOk-weaker c.rows_of_parts.result (λ v. AllByRecursion (IsReadOf c.args.table c.args.kinds.now c.deref-2.result.now new) v.items) (λ v. AllByRecursion (IsReadOf c.args.table c.args.kinds.now (counted_parts c.args.table c.args.layers.now) old) v.items)
    (λ v read. subst (λ (ps : List Stored). AllByRecursion (IsReadOf c.args.table c.args.kinds.now ps old) v.items) parts_are
    (all-weaker (IsReadOf c.args.table c.args.kinds.now c.deref-2.result.now new) (IsReadOf c.args.table c.args.kinds.now c.deref-2.result.now old) (read-before c.args.table c.args.kinds.now c.deref-2.result.now old new c.in-Ok-check_chunks_of.ensures.reads) v.items read))
    c.rows_of_parts.ensures.given
