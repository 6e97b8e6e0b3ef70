-- Fragments keep range deletions as a merge asks for.
use Rattle.std.proofs.Common.{◌≡◌, Bool, true, false, cond, not, ◌&&◌, ◌||◌, sym, refl, ap, ◌∙◌, subst, List, [], ◌∷◌, ◌++◌, map, filter, inl, inr, ◌⊎◌, true≢false, arith}
use Rattle.std.proofs.lemmas.Bool.Decides.{nat_tests}
use Rattle.mvcc_keys.specs.Times.{Time, time_lt, time_le, time_eq}
use Rattle.mvcc_keys.specs.declared.entries.Entry.{Entry}
use Rattle.list_laws.specs.Members.{Has}
use Rattle.range_tombstones.specs.declared.deletion.RangeDeletion.{RangeDeletion}
use Rattle.range_tombstones.specs.Ranges.{covers, entry_of, is_dated, later_date, newest_cover, range, with_range}
use Rattle.fact_model.specs.Facts.{Fact}
use Rattle.list_laws.proofs.Members as members
use Rattle.chunk_file.specs.Entries.{is_range, date_of}
use Rattle.layer_merge.specs.Nexts.{IsCover}
use Rattle.version_store.specs.Tables.{Bytes, bytes_cmp}
use Rattle.version_store.specs.Lists.{facts_of}
use Rattle.layer_merge.specs.Ranges.{AddsAll}
use Rattle.layer_merge.proofs.CoverLaws as covering
use Rattle.list_laws.proofs.Bools.{and-parts}
use Rattle.mvcc_keys.proofs.TimeOrder.{eq-is}

-- another date is earlier or later
apart : (s t : Time) → time_eq t s ≡ false → time_lt s t ≡ false → time_lt t s ≡ true
apart s t p q = grind (arith, nat_tests)

dated-in : (t : Time) (rs : List RangeDeletion) → is_dated t rs ≡ true → (r : RangeDeletion) × (Has r rs × (r.at ≡ t))
dated-in t [] h = absurd (true≢false (sym h))
dated-in t (r ∷ rs) h = by (time_eq t r.at) refl h (dated-in t rs)
  where
    by : (b : Bool) → time_eq t r.at ≡ b → (b || is_dated t rs) ≡ true → (is_dated t rs ≡ true → (x : RangeDeletion) × (Has x rs × (x.at ≡ t))) → (x : RangeDeletion) × (Has x (r ∷ rs) × (x.at ≡ t))
    by true e h more = (r, (inl refl, sym (eq-is t r.at e)))
    by false e h more = let m = more h in (m.0, (inr m.1.0, m.1.1))

not-dated : (t : Time) (rs : List RangeDeletion) → is_dated t rs ≡ false → (r : RangeDeletion) → Has r rs → time_eq t r.at ≡ false
not-dated t [] h r i = absurd i
not-dated t (x ∷ rs) h r i = by (time_eq t x.at) refl h i (not-dated t rs)
  where
    by : (b : Bool) → time_eq t x.at ≡ b → (b || is_dated t rs) ≡ false → Has r (x ∷ rs) → (is_dated t rs ≡ false → (y : RangeDeletion) → Has y rs → time_eq t y.at ≡ false) → time_eq t r.at ≡ false
    by true e h i more = absurd (true≢false h)
    by false e h (inl j) more = ap (λ (y : RangeDeletion). time_eq t y.at) j ∙ e
    by false e h (inr j) more = more h r j

range-entry : (r : RangeDeletion) → is_range (entry_of r) ≡ true
range-entry r = refl

-- a range deletion of a date that is there changes nothing
pub adds-dated : (lo hi : Bytes) (t : Time) (rs : List RangeDeletion) → is_dated t rs ≡ true → AddsAll (Entry.Range lo hi t ∷ []) (map entry_of rs) (map entry_of rs)
adds-dated lo hi t rs h = record {
  kept = λ e i. i;
  there = λ e. elim [ inl i ↦ λ r. (let d = dated-in t rs h in (entry_of d.0, (members.has-map entry_of d.0 rs d.1.0, d.1.1 ∙ sym (ap date_of i)))) | inr i ↦ absurd i ];
  only = λ e i. inl i;
}

abbrev earlier : Time → List RangeDeletion → List RangeDeletion
earlier t rs = filter (λ (s : RangeDeletion). time_lt s.at t) rs

abbrev later : Time → List RangeDeletion → List RangeDeletion
later t rs = filter (λ (s : RangeDeletion). time_lt t s.at) rs

abbrev new : Time → Bytes → Bytes → List RangeDeletion → List RangeDeletion
new t lo hi rs = earlier t rs ++ range lo hi t ∷ later t rs

-- one of another date is put in
pub adds-new : (lo hi : Bytes) (t : Time) (rs : List RangeDeletion) → is_dated t rs ≡ false → AddsAll (Entry.Range lo hi t ∷ []) (map entry_of rs) (map entry_of (with_range (range lo hi t) rs))
unfolding with_range
adds-new lo hi t rs h = record {
  kept = λ e i. let m = members.map-has entry_of e rs i in subst (λ (x : Entry). Has x (map entry_of (new t lo hi rs))) (sym m.2) (members.has-map entry_of m.0 (new t lo hi rs) (stays m.0 m.1));
  there = λ e. elim [ inl i ↦ λ r. (Entry.Range lo hi t, (members.has-map entry_of (range lo hi t) (new t lo hi rs) (members.has-append_right (range lo hi t) (earlier t rs) (range lo hi t ∷ later t rs) (inl refl)), sym (ap date_of i))) | inr i ↦ absurd i ];
  only = λ e i. let m = members.map-has entry_of e (new t lo hi rs) i in only-in e m.0 m.2 (members.has-append_cases m.0 (earlier t rs) (range lo hi t ∷ later t rs) m.1);
}
  where
    stays : (r : RangeDeletion) → Has r rs → Has r (new t lo hi rs)
    stays r i = by (time_lt r.at t) refl
      where
        by : (b : Bool) → time_lt r.at t ≡ b → Has r (new t lo hi rs)
        by true e = members.has-append_left r (earlier t rs) (range lo hi t ∷ later t rs) (members.has-filter (λ (s : RangeDeletion). time_lt s.at t) r rs i e)
        by false e = members.has-append_right r (earlier t rs) (range lo hi t ∷ later t rs) (inr (members.has-filter (λ (s : RangeDeletion). time_lt t s.at) r rs i (apart r.at t (not-dated t rs h r i) e)))

    only-in : (e : Entry) (r : RangeDeletion) → e ≡ entry_of r → Has r (earlier t rs) ⊎ Has r (range lo hi t ∷ later t rs) → Has e (map entry_of rs) ⊎ Has e (Entry.Range lo hi t ∷ []) × (is_range e ≡ true)
    only-in e r q (inl i) = inl (subst (λ (x : Entry). Has x (map entry_of rs)) (sym q) (members.has-map entry_of r rs (members.filter-has (λ (s : RangeDeletion). time_lt s.at t) r rs i)))
    only-in e r q (inr (inl i)) = inr (inl (q ∙ ap entry_of i), ap is_range q)
    only-in e r q (inr (inr i)) = inl (subst (λ (x : Entry). Has x (map entry_of rs)) (sym q) (members.has-map entry_of r rs (members.filter-has (λ (s : RangeDeletion). time_lt t s.at) r rs i)))

-- the newest that covers a key
off-by : (a b : Bool) → (a && b) ≡ false → (not false && (a && b)) ≡ false
off-by a b e = e

pub cover-newest : (key : Bytes) (t : Time) (rs : List RangeDeletion) → IsCover bytes_cmp key t (facts_of (map entry_of rs)) (newest_cover key t rs)
unfolding newest_cover
cover-newest key t [] = λ g h. absurd h
cover-newest key t (r ∷ rs) = by (covers key r && time_le r.at t) refl (cover-newest key t rs)
  where
    by : (b : Bool) → (covers key r && time_le r.at t) ≡ b → IsCover bytes_cmp key t (facts_of (map entry_of rs)) (newest_cover key t rs) → IsCover bytes_cmp key t (facts_of (map entry_of (r ∷ rs))) (cond b (later_date r.at (newest_cover key t rs)) (newest_cover key t rs))
    by true e more = let p = and-parts (covers key r) (time_le r.at t) e in covering.takes bytes_cmp key t (Fact.DelRange r.lo r.hi r.at) (facts_of (map entry_of rs)) refl p.0 p.1 (newest_cover key t rs) more
    by false e more = covering.skips bytes_cmp key t (Fact.DelRange r.lo r.hi r.at) (facts_of (map entry_of rs)) e (newest_cover key t rs) more
