-- What the layers of a chain have of a table's facts.
use Rattle.std.specs.Prelude.{◌≡◌, Bool, true, false, List, [], ◌∷◌, ◌++◌}
use Rattle.std.specs.List.{list_any}
use Rattle.std.specs.declared.cmp.Ordering.{Ordering}
use Rattle.mvcc_keys.specs.Times.{Time, time_lt, time_le}
use Rattle.fact_model.specs.Facts.{Fact, date}
use Rattle.list_laws.specs.Members.{Has}
use Rattle.fact_model.specs.Newest.{IsNewestFact}
use Rattle.fact_model.proofs.Stores.{IsMadeOf}

-- what a layer has of a table, and whether it introduces the table
pub record Share (K V : Type 0) : Type 0 where
  pub introduced : Bool
  pub facts : List (Fact K V)

abbrev pub is_introduced : {K V : Type 0} → Share K V → Bool
is_introduced p = p.introduced

abbrev pub flat : {K V : Type 0} → List (Share K V) → List (Fact K V)
flat [] = []
flat (p ∷ ps) = p.facts ++ flat ps

module _ {K V : Type 0} (cmp : K → K → Ordering) where
  -- facts dated after s, among which are all of these that are newest at t
  pub record Reaches (s t : Time) (fs es : List (Fact K V)) : Type 0 where
    pub within : (f : Fact K V) → Has f es → Has f fs × (time_lt s (date f) ≡ true)
    pub newest_there : (k : K) (f : Fact K V) → IsNewestFact cmp k t fs f → time_lt s (date f) ≡ true → Has f es

  -- an image and what came after it, or what came after the start
  abbrev pub IsShareOf : Bool → Time → Time → List (Fact K V) → List (Fact K V) → Type 0
  IsShareOf true s t fs es = (b : Time) × ((time_le b t ≡ true) × IsMadeOf cmp b t fs es)
  IsShareOf false s t fs es = Reaches s t fs es

  -- the shares of layers that adjoin, the first from s on, the last read up to t; a layer before one that introduces the table may have anything
  abbrev pub AreShares : Time → Time → List (Fact K V) → List (Share K V) → Type 0
  AreShares s t fs [] = s ≡ t
  AreShares s t fs (p ∷ ps) = (e : Time) × ((time_le s e ≡ true) × ((list_any is_introduced ps ≡ false → IsShareOf p.introduced s e fs p.facts) × AreShares e t fs ps))
