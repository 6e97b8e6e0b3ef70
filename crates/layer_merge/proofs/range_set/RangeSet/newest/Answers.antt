-- The newest that covers a key.
use Rattle.std.proofs.Common.{sym, subst, Option, map}
use Rattle.mvcc_keys.specs.Times.{Time}
use Rattle.range_tombstones.specs.Ranges.{entry_of}
use Rattle.version_store.specs.Tables.{bytes_cmp}
use Rattle.version_store.specs.Lists.{facts_of}
use Rattle.layer_merge.specs.Nexts.{IsCover}
use Rattle.layer_merge.proofs.FragmentLaws.{cover-newest}
use Rattle.layer_merge.proofs.range_set.RangeSet.newest.Goals as goal

pub returns : goal.returns
returns c = rw (← c.self.view_is) (subst (λ (r : Option Time). IsCover bytes_cmp c.args.key.now c.args.upto (facts_of (map entry_of c.self.inside.fragments)) r) (sym c.newest.ensures) (cover-newest _ _ _))
