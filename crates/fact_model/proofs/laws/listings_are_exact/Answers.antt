use Rattle.fact_model.proofs.Listings.{points-listed, ranges-listed}
use Rattle.fact_model.proofs.laws.listings_are_exact.Goals as goal

pub returns : goal.returns
returns g c = record { puts = λ cmp dated fs o a. points-listed cmp o dated fs a; deletions = ranges-listed }
