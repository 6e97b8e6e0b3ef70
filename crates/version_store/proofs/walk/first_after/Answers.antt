use Rattle.std.proofs.Common.{rules, ◌≡◌, ◌∙◌, ap, take, filter}
use Rattle.std.proofs.lemmas.Fn.{filter_same}
use Rattle.mvcc_keys.specs.declared.entries.Entry.{Entry}
use Rattle.version_store.specs.Tables.{is_past}
use Rattle.version_store.specs.Lists.{fact_of}
use Rattle.version_store.proofs.walk.first_after.Goals as goal

pub returns : goal.returns
returns c =
    let kept : c.retain.new.self.items ≡ filter (λ (e : Entry). is_past c.args.place.now (fact_of e)) c.args.seen.items = filter_same _ _ _ (λ x b f' k. search rules) _ _ c.retain.ensures.filtered in
    c.truncate.ensures.items ∙ ap (take c.args.n) kept
