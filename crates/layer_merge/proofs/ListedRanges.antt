-- The range deletions that a merge keeps, by date, are those of all entries.
use Rattle.std.proofs.Common.{◌≡◌, Bool, true, false, not, ◌&&◌, sym, refl, ap, ◌∙◌, List, [], ◌∷◌, map, filter, Result, Ok, Err, IfOk, Less, arith}
use Rattle.std.specs.Global.{Vec}
use Rattle.std.specs.List.Sorted.{IsStrictlySortedBy}
use Rattle.std.proofs.lemmas.Bool.Decides.{nat_tests}
use Rattle.std.proofs.lemmas.List.Kept.{IsStrictlySortedBy-filter}
use Rattle.mvcc_keys.specs.Times.{Time, time_lt}
use Rattle.mvcc_keys.specs.Codes.{time_cmp}
use Rattle.mvcc_keys.specs.declared.entries.Entry.{Entry}
use Rattle.list_laws.specs.Members.{Has, AllIn}
use Rattle.list_laws.proofs.Members as members
use Rattle.list_laws.proofs.Filters.{filter-map}
use Rattle.range_tombstones.specs.Dates.{Ascends}
use Rattle.range_tombstones.specs.Intervals.{is_between}
use Rattle.range_tombstones.specs.Ranges.{by_date, entry_of as range_entry, ranges_between}
use Rattle.range_tombstones.specs.declared.deletion.RangeDeletion.{RangeDeletion}
use Rattle.range_tombstones.specs.declared.upto.Upto.TheVariants.{At}
use Rattle.fact_model.specs.Facts.{Fact, date}
use Rattle.fact_model.specs.Listed.{date_cmp, is_point, ranges}
use Rattle.fact_model.specs.Listings.{IsListed, RangesDiffer}
use Rattle.fact_model.specs.Ordered.{ordered}
use Rattle.fact_model.proofs.Listings as listings
use Rattle.fact_model.proofs.Orders as orders
use Rattle.version_store.specs.Tables.{Bytes, ByteFact, entries_of}
use Rattle.version_store.specs.Lists.{fact_of, facts_of}
use Rattle.version_store.proofs.FactOrder.{dates-total, ranges-sorted}
use Rattle.layer_merge.specs.Ranges.{AreDated, HasRanges}
use Rattle.layer_merge.proofs.CoverLaws.{is-range, kept-fact, only-fact}
use Rattle.layer_merge.proofs.NextRows.{date-same, facts-have}

-- ---- what is kept

range_fact : RangeDeletion → ByteFact
range_fact r = Fact.DelRange r.lo r.hi r.at

lt-less : (s t : Time) → time_lt s t ≡ true → time_cmp s t ≡ Less
lt-less s t e = grind (arith, nat_tests)

ascends : (rs : List RangeDeletion) → Ascends by_date rs → IsStrictlySortedBy (date_cmp {K = Bytes} {V = Bytes}) (map range_fact rs)
unfolding IsStrictlySortedBy range_fact
ascends [] a = tt
ascends (r ∷ rs) a = (members.AllByRecursion-has (λ (f : ByteFact). date_cmp (range_fact r) f ≡ Less) (map range_fact rs) (λ f h. let m = members.map-has range_fact f rs h in ap (date_cmp (range_fact r)) m.2 ∙ lt-less r.at m.0.at (members.has-AllByRecursion (λ (s : RangeDeletion). time_lt r.at s.at ≡ true) m.0 rs a.0 m.1)), ascends rs a.1)

facts-kept : (rs : List RangeDeletion) → facts_of (map range_entry rs) ≡ map range_fact rs
unfolding range_fact
facts-kept [] = refl
facts-kept (r ∷ rs) = ap (λ (fs : List ByteFact). range_fact r ∷ fs) (facts-kept rs)

entries-kept : (rs : List RangeDeletion) → map range_entry rs ≡ entries_of (map range_fact rs)
unfolding range_fact
entries-kept [] = refl
entries-kept (r ∷ rs) = ap (λ (es : List Entry). range_entry r ∷ es) (entries-kept rs)

itself-ordered : (xs : List ByteFact) → IsStrictlySortedBy date_cmp xs → xs ≡ ordered date_cmp xs
itself-ordered xs up = orders.in-order date_cmp xs xs dates-total up (orders.sorted-tied date_cmp xs dates-total up) (λ x h. h) (λ x h. h)

module _ (from upto : Time) where
  abbrev chosen : ByteFact → Bool
  chosen f = not (is_point f) && is_between from (At upto) (date f)

  picked : (rs : List RangeDeletion) → filter chosen (map range_fact rs) ≡ map range_fact (ranges_between from (At upto) rs)
  unfolding range_fact
  picked rs = filter-map chosen range_fact rs

  pub listed-between : (rs : List RangeDeletion) → Ascends by_date rs → map range_entry (ranges_between from (At upto) rs) ≡ entries_of (ranges (is_between from (At upto)) (facts_of (map range_entry rs)))
  unfolding ranges
  listed-between rs a =
      entries-kept (ranges_between from (At upto) rs)
      ∙ ap entries_of (sym (picked rs) ∙ itself-ordered (filter chosen (map range_fact rs)) (IsStrictlySortedBy-filter date_cmp chosen (map range_fact rs) (ascends rs a)) ∙ ap (λ (fs : List ByteFact). ordered date_cmp (filter chosen fs)) (sym (facts-kept rs)))

pub ok-listed : {F : Type 0} (r : Result (Vec Entry) F) (xs ys : List Entry) → xs ≡ ys → IfOk r (λ es. es.items ≡ xs) → IfOk r (λ es. es.items ≡ ys)
ok-listed (Ok es) xs ys e h = h ∙ e
ok-listed (Err f) xs ys e h = tt

-- ---- those of all entries

module _ (rs all : List Entry) (has : HasRanges rs all) (dates : AreDated all) where
  differ-all : RangesDiffer (facts_of all)
  differ-all = record {
    differ = λ f g h i p q e.
        let a = facts-have f all h in
        let b = facts-have g all i in
        a.1.1 ∙ ap fact_of (dates a.0 b.0 a.1.0 b.1.0 (is-range a.0 (sym (ap is_point a.1.1) ∙ p)) (is-range b.0 (sym (ap is_point b.1.1) ∙ q)) (sym (date-same a.0) ∙ (sym (ap date a.1.1) ∙ (e ∙ ap date b.1.1)) ∙ date-same b.0)) ∙ sym b.1.1;
  }

  differ-kept : RangesDiffer (facts_of rs)
  differ-kept = record { differ = λ f g h i. differ-all.differ f g (only-fact rs all f has h) (only-fact rs all g has i) }

  pub ranges-kept : (dated : Time → Bool) → ranges dated (facts_of rs) ≡ ranges dated (facts_of all)
  ranges-kept dated = orders.ascending-same date_cmp dates-total (ranges dated (facts_of rs)) (ranges dated (facts_of all)) (ranges-sorted dated (facts_of rs)) (ranges-sorted dated (facts_of all)) to-all from-all
    where
      kept : (f : ByteFact) → (Has f (ranges dated (facts_of rs)) → IsListed false dated (facts_of rs) f) × (IsListed false dated (facts_of rs) f → Has f (ranges dated (facts_of rs)))
      kept f = let h = (listings.ranges-listed dated (facts_of rs) differ-kept).has f in (h.0, h.1)

      of-all : (f : ByteFact) → (Has f (ranges dated (facts_of all)) → IsListed false dated (facts_of all) f) × (IsListed false dated (facts_of all) f → Has f (ranges dated (facts_of all)))
      of-all f = let h = (listings.ranges-listed dated (facts_of all) differ-all).has f in (h.0, h.1)

      to-all : AllIn (ranges dated (facts_of rs)) (ranges dated (facts_of all))
      to-all f h = let l = (kept f).0 h in (of-all f).1 (only-fact rs all f has l.0, l.1, l.2)

      from-all : AllIn (ranges dated (facts_of all)) (ranges dated (facts_of rs))
      from-all f h = let l = (of-all f).0 h in (kept f).1 (kept-fact rs all f has l.1 l.0, l.1, l.2)
