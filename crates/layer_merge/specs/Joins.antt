-- What the layers of an interval tell of a table's facts, and the layer without history that joins them.
use Rattle.std.specs.Prelude.{◌≡◌, Bool, true, false, List, [], ◌∷◌}
use Rattle.std.specs.List.{list_any}
use Rattle.std.specs.declared.cmp.Ordering.{Ordering}
use Rattle.mvcc_keys.specs.Times.{Time, time_le, time_lt}
use Rattle.list_laws.specs.Members.{Has}
use Rattle.range_tombstones.specs.Intervals.{is_between}
use Rattle.range_tombstones.specs.declared.upto.Upto.TheVariants.{At}
use Rattle.fact_model.specs.Facts.{Fact, IsApart, date}
use Rattle.fact_model.specs.Listings.{IsListed, IsNewestPoint, RangesDiffer}
use Rattle.version_store.specs.Tables.{ByteFact, Bytes, bytes_cmp, entries_of}
use Rattle.layer_merge.specs.Changes.{direct_entries}
use Rattle.layer_merge.specs.FromLast.{from_last}
use Rattle.layer_merge.specs.Shares.{AreShares, Share, flat, is_introduced}

module _ {K V : Type 0} where
  -- some facts dated after s: of all those dated after s and up to e they have the newest put or deletion of each key, and every range deletion
  pub record Tells (s e : Time) (fs es : List (Fact K V)) : Type 0 where
    pub within : (f : Fact K V) → Has f es → Has f fs × (time_lt s (date f) ≡ true)
    pub newest_there : (f : Fact K V) → IsNewestPoint (is_between s (At e)) fs f → Has f es
    pub ranges_there : (f : Fact K V) → IsListed false (is_between s (At e)) fs f → Has f es

  -- what layers that adjoin tell, the first from s on, the last up to t
  abbrev pub AreTold : Time → Time → List (Fact K V) → List (Share K V) → Type 0
  AreTold s t fs [] = s ≡ t
  AreTold s t fs (p ∷ ps) = (e : Time) × ((time_le s e ≡ true) × (Tells s e fs p.facts × AreTold e t fs ps))

  -- what layers that are joined have: where one introduces the table what those of a chain have, and else what each interval tells
  abbrev pub AreJoined : (K → K → Ordering) → Bool → Time → Time → List (Fact K V) → List (Share K V) → Type 0
  AreJoined cmp true s t fs ps = AreShares cmp s t fs ps
  AreJoined cmp false s t fs ps = AreTold s t fs ps

-- Layers that adjoin from s to e: the entries that a layer without history from s to e has over those of them that count, from the last one
-- on that introduces the table, are those that it has over all facts. They are the image at e where one introduces the table; otherwise of
-- each key the newest put or deletion dated after s, up to e, and then all range deletions of these dates.
abbrev pub JoinsAreDirect : Type 0
JoinsAreDirect = (fs : List ByteFact) (s e : Time) (shares : List (Share Bytes Bytes)) → IsApart bytes_cmp fs → RangesDiffer fs → AreJoined bytes_cmp (list_any is_introduced shares) s e fs shares
    → direct_entries (list_any is_introduced shares) s e (entries_of (flat (from_last is_introduced shares))) ≡ direct_entries (list_any is_introduced shares) s e (entries_of fs)
