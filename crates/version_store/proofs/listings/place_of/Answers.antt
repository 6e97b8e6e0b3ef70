use Rattle.std.proofs.Common.{arith}
use Rattle.version_store.specs.Lists.{listing_cmp}
use Rattle.version_store.proofs.Places.{place-less, place-equal, place-greater, place-end}
use Rattle.version_store.proofs.listings.place_of.Goals as goal

pub returns-in-Less : goal.returns-in-Less
returns-in-Less c = (c.loop-place.invariant.0, place-less (listing_cmp c.args.listing.now) c.args.fact.now c.index-list-place.result c.args.list.now c.loop-place.place c.loop-place-test.true c.loop-place.invariant.1 (cc))

pub returns-in-Equal : goal.returns-in-Equal
returns-in-Equal c = place-equal (listing_cmp c.args.listing.now) c.args.fact.now c.index-list-place.result c.args.list.now c.loop-place.place c.loop-place-test.true c.loop-place.invariant.1 (cc)

pub loop-place-preserved : goal.loop-place-preserved
loop-place-preserved c = (omega arith, place-greater (listing_cmp c.args.listing.now) c.args.fact.now c.index-list-place.result c.args.list.now c.loop-place.place c.loop-place-test.true c.loop-place.invariant.1 (cc))

pub returns : goal.returns
returns c = (c.loop-place.invariant.0, place-end (listing_cmp c.args.listing.now) c.args.fact.now c.args.list.now c.loop-place.place (omega arith) c.loop-place.invariant.1)
