use Rattle.std.proofs.Common.{rules, ◌≡◌, ◌∙◌, refl, ap, slice_get, Some, take}
use Rattle.std.proofs.lemmas.Option.{slice_get_read}
use Rattle.span_export.specs.Pieces.{after_place}
use Rattle.backup_job.specs.Jobs.{IsStillKept}
use Rattle.layer_objects.specs.Contents.{entries_in}
use Rattle.backup_job.proofs.Remaining.{all_at, first_piece, no_piece}
use Rattle.backup_job.proofs.pieces.piece_at.Goals as goal

pub returns-then-is_empty-clause-next : goal.returns-then-is_empty-clause-next
returns-then-is_empty-clause-next g c h stood kept reached =
    let plan = c.index-plans-place.result in
    let at : slice_get c.args.plans.now c.args.place ≡ Some plan = slice_get_read _ _ _ plan refl c.requires c.index-plans-place.is in
    let is = c.in_ok-entries.ensures.piece h stood (all_at (IsStillKept h) c.args.plans.now c.args.place plan kept at) in
    no_piece h c.args.plans.now c.args.place c.args.cursor.now plan c.in_ok-entries.entries.items at (is ∙ ap (λ n. take n (after_place c.args.cursor.now (entries_in h plan))) c.chunk_size.ensures.size) (search rules)

pub returns-clause-next : goal.returns-clause-next
returns-clause-next g c h stood kept reached =
    let plan = c.index-plans-place.result in
    let at : slice_get c.args.plans.now c.args.place ≡ Some plan = slice_get_read _ _ _ plan refl c.requires c.index-plans-place.is in
    let is = c.in_ok-entries.ensures.piece h stood (all_at (IsStillKept h) c.args.plans.now c.args.place plan kept at) in
    first_piece h c.args.plans.now c.args.place c.args.cursor.now c.in_ok-entries.cursor plan c.in_ok-entries.entries.items c.requires at reached (search rules) (is ∙ ap (λ n. take n (after_place c.args.cursor.now (entries_in h plan))) c.chunk_size.ensures.size) c.in_ok-entries.ensures.place
