-- Where a run in memory stands.
use Rattle.std.specs.Prelude.{◌<◌, ◌≤◌, ◌+◌, length}
use Rattle.backup_run.specs.Run.{Here, HasStepped}
use Rattle.backup_run.specs.declared.session.Session.TheInside.{Inside}

abbrev pub view_of : Inside → Here
view_of s = record { cluster = s.cluster; pending = s.pending.items; line = s.line; room = s.room; refused = s.refused }

-- each byte of the script takes room, so the number of a line is bounded; no line has two commands
pub record Bounds (s : Inside) : Type 0 where
  pub script : s.line + length s.pending.items + s.room ≤ 67108865
  pub first : 0 < s.line
  pub line : length s.pending.items ≤ 65536
  pub steps : HasStepped s.cluster s.line
