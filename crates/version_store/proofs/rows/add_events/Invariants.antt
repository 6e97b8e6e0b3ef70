use Rattle.std.proofs.Common.{◌≡◌, ◌++◌, drop, take}
use Rattle.version_store.specs.Rows.{is_event, row_events}
use Rattle.version_store.proofs.rows.add_events.Given as goal

abbrev pub invariant-loop-version : goal.invariant-loop-version
invariant-loop-version l = take l.n (l.seen.items ++ row_events (is_event l.from l.upto l.place) l.key (drop l.version-index l.versions)) ≡ take l.n (l.initial.seen.items ++ row_events (is_event l.from l.upto l.place) l.key l.versions)
