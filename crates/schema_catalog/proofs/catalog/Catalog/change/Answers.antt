use Rattle.std.proofs.Common.{◌≡◌, ◌∙◌, ◌+◌, ◌-◌, ap, subst, None}
use Rattle.table_descriptors.specs.Descriptors.{Schema, changed_schema}
use Rattle.schema_catalog.specs.Catalogs.{change_fault, with_descriptor}
use Rattle.schema_catalog.proofs.Places.{next-version, one-schema}
use Rattle.schema_catalog.proofs.catalog.Catalog.change.Goals as goal

pub returns-clause-made : goal.returns-clause-made
returns-clause-made c = λ d e.
    let same : c.in-Some.d.now ≡ d = one-schema c.in-Some.d.now d _ c.in-Some.ensures e in
    let made = c.in_ok-next.ensures.made in (
      subst (λ (x : Schema). change_fault c.args.self.now c.args.at x c.args.change.now ≡ None) same made.0,
      c.version-version.ensures ∙ (ap (λ (x : Schema). x.version) made.1 ∙ (next-version c.in-Some.d.now c.args.change.now c.args.at ∙ ap (λ (x : Schema). x.version + 1) same)),
      c.in_ok-push_descriptor.ensures.made ∙ ap (with_descriptor c.args.self.now (c.args.id - 100)) (made.1 ∙ ap (λ (x : Schema). changed_schema x c.args.change.now c.args.at) same),
    )
