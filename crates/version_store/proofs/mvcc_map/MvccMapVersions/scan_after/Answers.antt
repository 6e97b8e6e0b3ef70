use Rattle.std.proofs.Common.{◌≡◌, ◌∙◌, [], ap, subst, sym}
use Rattle.mvcc_keys.specs.Times.{Time}
use Rattle.mvcc_keys.proofs.TimeOrder.{eq-is}
use Rattle.std.specs.Option.{option_copied}
use Rattle.version_store.specs.MapHolding.{table_in}
use Rattle.version_store.specs.Tables.{scan_after_at}
use Rattle.version_store.proofs.MapPlaces.{scan-after-begun, scan-after-found, scan-after-none}
use Rattle.version_store.proofs.mvcc_map.MvccMapVersions.scan_after.Goals as goal

pub returns-in_ok-seen-in-Some : goal.returns-in_ok-seen-in-Some
returns-in_ok-seen-in-Some c = scan-after-found c.args.self.now.tables.entries c.args.table c.in-Some.table.now c.args.t c.args.after.now c.args.n c.in_ok-seen-in-Some.seen.items c.truncate.new.self.items (ap (table_in c.args.self.now.tables.entries) (sym c.from.ensures) ∙ (sym c.get.ensures.value ∙ ap option_copied c.in-Some.is)) c.scan_from.ensures.ordered c.truncate.ensures.items c.in_ok-seen-in-Some.ensures.seen

pub returns-in-None : goal.returns-in-None
returns-in-None c h all le = c.new-in-None.ensures.items ∙ scan-after-none c.args.self.now.tables.entries c.args.table c.args.t c.args.after.now c.args.n h (ap (table_in c.args.self.now.tables.entries) (sym c.from.ensures) ∙ (sym c.get.ensures.value ∙ ap option_copied c.in-None.is)) all le

pub returns-then-eq : goal.returns-then-eq
returns-then-eq c h all le =
    c.new.ensures.items
    ∙ subst (λ (t : Time). [] ≡ scan_after_at h c.args.table t c.args.after.now c.args.n) (sym (eq-is c.args.t c.zero.result (sym c.if-eq.ensures) ∙ c.zero.ensures)) (scan-after-begun c.args.self.now.tables.entries c.args.table c.args.after.now c.args.n h all)
