use Rattle.std.proofs.Common.{◌≡◌, ◌<◌, ◌∙◌, List, length, OnOk, refl, subst, sym}
use Rattle.std.proofs.lemmas.Option.{slice_get_read}
use Rattle.layer_manifest.specs.declared.manifest.TablePart.{TablePart}
use Rattle.backup_job.specs.Units.{with_info}
use Rattle.backup_job.proofs.Parts.{with_info-on_ok}
use Rattle.backup_job.proofs.writing.add_info.Goals as goal

pub returns-clause-ok : goal.returns-clause-ok
returns-clause-ok c =
    let same = c.into_vec-parts.ensures ∙ c.replace.ensures.value in
    let at = slice_get_read c.into_vec-parts.result.items _ c.args.place c.index_mut.result.now refl (subst (λ (ts : List TablePart). c.args.place < length ts) (sym same) c.requires) c.index_mut.ensures.value in
    subst (λ (ts : List TablePart). OnOk c.push_info-done.result (c.from_vec-2.result ≡ with_info c.args.place c.args.info ts)) same
    (with_info-on_ok c.push_info-done.result c.args.place c.args.info c.into_vec-parts.result.items c.from_vec-2.result c.index_mut.result.now _ at c.from_vec-2.ensures c.push_info-done.ensures.ok)
