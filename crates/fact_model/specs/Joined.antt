-- The later of two facts that were found among others.
use Rattle.std.specs.Prelude.{Option, Some, None}
use Rattle.fact_model.specs.Facts.{Fact, later}

abbrev pub joined : {K V : Type 0} → Option (Fact K V) → Option (Fact K V) → Option (Fact K V)
joined None b = b
joined (Some f) b = later f b
