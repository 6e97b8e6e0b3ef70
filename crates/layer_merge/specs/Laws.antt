-- What holds of the parts of a merge.
use Rattle.std.specs.Prelude.{◌≡◌, true, List}
use Rattle.std.specs.declared.cmp.Ordering.{Ordering}
use Rattle.mvcc_keys.specs.Times.{Time, time_lt}
use Rattle.fact_model.specs.Facts.{Fact, date, IsApart, IsKeyOrder}
use Rattle.list_laws.specs.Members.{Has}
use Rattle.fact_model.specs.Scans.{scan}
use Rattle.layer_merge.specs.FromLast.{from_last}
use Rattle.layer_merge.specs.Shares.{Share, AreShares, flat, is_introduced}

-- Layers that adjoin, from before all dates up to t: those from the last one on that introduces the table show at t what all facts show.
abbrev pub ChainsAreWhole : Type 0 → Type 0 → Type 0
ChainsAreWhole K V = (cmp : K → K → Ordering) (fs : List (Fact K V)) (s t : Time) (shares : List (Share K V)) → IsKeyOrder cmp → IsApart cmp fs → ((f : Fact K V) → Has f fs → time_lt s (date f) ≡ true) → AreShares cmp s t fs shares → scan cmp t (flat (from_last is_introduced shares)) ≡ scan cmp t fs
