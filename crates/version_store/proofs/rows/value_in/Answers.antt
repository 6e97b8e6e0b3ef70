use Rattle.std.proofs.Common.{◌∙◌, ap, sym, option_map}
use Rattle.std.specs.Option.{option_copied}
use Rattle.range_tombstones.specs.Ranges.{newest_cover}
use Rattle.fact_model.specs.Facts.{Version}
use Rattle.version_store.specs.Tables.{Bytes}
use Rattle.version_store.specs.Rows.{first_upto, row_shown, versions_in}
use Rattle.version_store.proofs.rows.value_in.Goals as goal

pub returns-in-None-clause-value : goal.returns-in-None-clause-value
unfolding first_upto
returns-in-None-clause-value c = ap (λ o. option_map (λ (v : Version Bytes). v.value) (row_shown (first_upto c.args.t (versions_in o)) (newest_cover c.args.key.now c.args.t c.args.ranges.now))) (ap option_copied (sym c.in-None.is) ∙ c.get.ensures.value)
