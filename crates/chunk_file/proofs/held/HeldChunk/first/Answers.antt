use Rattle.chunk_file.proofs.HeldLaws.{first-starts, left-is}
use Rattle.chunk_file.proofs.held.HeldChunk.first.Goals as goal

pub returns-clause-start : goal.returns-clause-start
returns-clause-start c = rw (← c.self.view_is) (_, first-starts _ c.self.inside.first c.self.invariant.place)

pub returns-clause-all : goal.returns-clause-all
returns-clause-all c = rw (← c.self.view_is) (left-is _ _ c.self.inside.first (first-starts _ c.self.inside.first c.self.invariant.place))
