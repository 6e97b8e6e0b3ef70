-- The entry is one of the chunk's.
use Rattle.layer_merge.proofs.StandLaws.{first-among}
use Rattle.layer_merge.proofs.cursor.Cursor.entry.Goals as goal

pub returns-in-Some-clause-among : goal.returns-in-Some-clause-among
returns-in-Some-clause-among c = rw (← c.self.view_is) (first-among _ _ c.self.inside.offset _ c.self.invariant.start c.in-Some.ensures.entry)
