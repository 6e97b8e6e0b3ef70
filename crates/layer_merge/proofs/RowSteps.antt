-- One step of the rows.
use Rattle.std.proofs.Common.{◌≡◌, ◌∙◌, false, sym, ap, subst, List, [], ◌∷◌, ◌++◌, Option, Some, None, option_to_list, IsPermutation}
use Rattle.mvcc_keys.specs.Times.{Time}
use Rattle.mvcc_keys.specs.declared.entries.Entry.{Entry}
use Rattle.fact_model.specs.Facts.{IsApart}
use Rattle.mvcc_keys.specs.Entries.{key_of}
use Rattle.layer_merge.specs.declared.wanted.Wanted.{Wanted}
use Rattle.layer_merge.specs.Loads.{World}
use Rattle.layer_merge.specs.Stands.{Stand, counts_first, first_of, AreAt, IsFound, Finds, Moves}
use Rattle.version_store.specs.Tables.{Bytes, bytes_cmp}
use Rattle.version_store.specs.Lists.{facts_of}
use Rattle.layer_merge.specs.Rows.{rows_left}
use Rattle.layer_merge.specs.Ranges.{HasRanges}
use Rattle.layer_merge.specs.Decided.{IsDecided}
use Rattle.version_store.proofs.Bytes.{bytes_order}
use Rattle.layer_merge.proofs.StandLaws.{at-passed, at-reordered}
use Rattle.layer_merge.proofs.NextRows.{at-later, passed, rows-decided, rows-ended}

-- what is decided of the entry at which a stand is
abbrev pub Decided : List Entry → Time → Stand → Option Bytes → Option Entry → Type 0
Decided rs upto s done r = (e : Entry) → first_of s.left ≡ Some e → (done ≡ Some (key_of e)) × IsDecided rs upto e r

module _ (w : World) (v : Wanted) (start : v.after ≡ None) (all : List Entry) (apart : IsApart bytes_cmp (facts_of all)) where
  pub row-ended : (first done : Option Bytes) (stands : List Stand) → rows_left v first all ≡ rows_left v done all → Finds w v done all None stands → ((rows_left v first all ≡ []) × (rows_left v done all ≡ [])) × AreAt w v done all stands
  row-ended first done stands e f = let n = rows-ended v done all bytes_order start f.none in ((e ∙ n, n), f.again)

  module _ (rs : List Entry) (ranges : HasRanges rs all) (first done after : Option Bytes) (s : Stand) (rest : List Stand) (r : Option Entry) (same : rows_left v first all ≡ rows_left v done all) (f : IsFound w v done all s rest) (d : Decided rs v.upto s after r) where
    told : (after ≡ Some (key_of f.entry)) × IsDecided rs v.upto f.entry r
    told = d f.entry f.first

    left : rows_left v first all ≡ option_to_list r ++ rows_left v after all
    left = same ∙ subst (λ (k : Option Bytes). rows_left v done all ≡ option_to_list r ++ rows_left v k all) (sym told.0) (rows-decided v done rs all f.entry r start apart ranges f.next told.1)

    at : AreAt w v after all (s ∷ rest)
    at = subst (λ (k : Option Bytes). AreAt w v k all (s ∷ rest)) (sym told.0) (at-later w v done all (s ∷ rest) f.entry f.next.counted f.again)

    -- the row is given
    pub row-given : (x : Entry) (stands : List Stand) → r ≡ Some x → IsPermutation (s ∷ rest) stands → (rows_left v first all ≡ x ∷ rows_left v after all) × AreAt w v after all stands
    row-given x stands e p = (left ∙ ap (λ (o : Option Entry). option_to_list o ++ rows_left v after all) e, at-reordered w v after all (s ∷ rest) stands p at)

    -- the entry isn't shown, and the walk goes on
    pub row-passed : (mo : Option Stand) (stands : List Stand) → r ≡ None → Moves w s mo → IsPermutation (option_to_list mo ++ rest) stands → (rows_left v first all ≡ rows_left v after all) × AreAt w v after all stands
    row-passed mo stands e m p = (left ∙ ap (λ (o : Option Entry). option_to_list o ++ rows_left v after all) e, at-reordered w v after all (option_to_list mo ++ rest) stands p (at-passed w v after all s mo rest off m at))
      where
        off : counts_first v after (first_of s.left) ≡ false
        off = subst (λ (k : Option Bytes). counts_first v k (first_of s.left) ≡ false) (sym told.0) (ap (counts_first v (Some (key_of f.entry))) f.first ∙ passed v f.entry)
