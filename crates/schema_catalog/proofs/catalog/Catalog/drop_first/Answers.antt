use Rattle.std.proofs.lemmas.Result.{on_ok_weaker}
use Rattle.schema_catalog.proofs.Drops.{drop_made, drop_others}
use Rattle.schema_catalog.proofs.catalog.Catalog.drop_first.Goals as goal

pub returns-clause-made : goal.returns-clause-made
returns-clause-made c = on_ok_weaker c.push_descriptor.result (λ made. drop_made c.args.self.now c.push_descriptor.new.self c.args.at c.args.id c.requires.schema c.in_ok-d.d c.requires.found (c.in_ok-d.ensures c.requires.schema c.requires.found) made) c.push_descriptor.ensures.made

pub returns-clause-others : goal.returns-clause-others
returns-clause-others c = on_ok_weaker c.push_descriptor.result (λ made. drop_others c.args.self.now c.push_descriptor.new.self c.args.at c.args.id c.requires.schema c.in_ok-d.d c.requires.found made) c.push_descriptor.ensures.made
