-- The range deletions that are kept cover keys as those of all entries do.
use Rattle.std.proofs.Common.{◌≡◌, Bool, true, false, cond, not, ◌&&◌, sym, refl, ◌∙◌, subst, List, [], ◌∷◌, Option, Some, None, inl, inr, Ordering, true≢false}
use Rattle.mvcc_keys.specs.Times.{Time, time_lt, time_le}
use Rattle.mvcc_keys.specs.declared.entries.Entry.{Entry}
use Rattle.range_tombstones.specs.Ranges.{later_date}
use Rattle.fact_model.specs.Facts.{Fact, date, touches}
use Rattle.list_laws.specs.Members.{Has}
use Rattle.mvcc_keys.specs.Entries.{key_of}
use Rattle.fact_model.specs.Listed.{is_point}
use Rattle.mvcc_keys.proofs.TimeOrder as times
use Rattle.list_laws.proofs.Members as members
use Rattle.chunk_file.specs.Entries.{is_range}
use Rattle.layer_merge.specs.Nexts.{IsCover}
use Rattle.version_store.specs.Tables.{Bytes, bytes_cmp}
use Rattle.version_store.specs.Lists.{fact_of, facts_of}
use Rattle.layer_merge.specs.Rows.{shown_of}
use Rattle.layer_merge.specs.Ranges.{HasRanges}
use Rattle.layer_merge.specs.Decided.{IsDecided}
use Rattle.list_laws.proofs.Bools.{and-parts, not-true}

none-of : (a b c : Bool) → (not a && (b && c)) ≡ false → a ≡ false → b ≡ true → c ≡ true → ⊥
none-of true b c h p q r = absurd (true≢false p)
none-of false true true h p q r = true≢false h
none-of false true false h p q r = true≢false (sym r)
none-of false false c h p q r = true≢false (sym q)

module _ {K V : Type 0} (cmp : K → K → Ordering) (k : K) (t : Time) where
  abbrev Covered : List (Fact K V) → Type 0
  Covered fs = (c : Option Time) × IsCover cmp k t fs c

  pub skips : (f : Fact K V) (fs : List (Fact K V)) → (not (is_point f) && (touches cmp k f && time_le (date f) t)) ≡ false → (c : Option Time) → IsCover cmp k t fs c → IsCover cmp k t (f ∷ fs) c
  skips f fs off None h = λ g. elim [ inl e ↦ λ p q d. none-of (is_point f) (touches cmp k f) (time_le (date f) t) off (subst (λ (x : Fact K V). is_point x ≡ false) e p) (subst (λ (x : Fact K V). touches cmp k x ≡ true) e q) (subst (λ (x : Fact K V). time_le (date x) t ≡ true) e d) | inr j ↦ h g j ]
  skips f fs off (Some x) h = record { range = h.range; among = inr h.among; is_range = h.is_range; covers = h.covers; dated = h.dated; within = h.within; last = λ g. elim [ inl e ↦ λ p q d. absurd (none-of (is_point f) (touches cmp k f) (time_le (date f) t) off (subst (λ (y : Fact K V). is_point y ≡ false) e p) (subst (λ (y : Fact K V). touches cmp k y ≡ true) e q) (subst (λ (y : Fact K V). time_le (date y) t ≡ true) e d)) | inr j ↦ h.last g j ] }

  pub takes : (f : Fact K V) (fs : List (Fact K V)) → is_point f ≡ false → touches cmp k f ≡ true → time_le (date f) t ≡ true → (c : Option Time) → IsCover cmp k t fs c → IsCover cmp k t (f ∷ fs) (later_date (date f) c)
  takes f fs p q d None h = record { range = f; among = inl refl; is_range = p; covers = q; dated = refl; within = d; last = λ g. elim [ inl e ↦ λ _ _ _. subst (λ (y : Fact K V). time_le (date y) (date f) ≡ true) (sym e) (times.le-refl (date f)) | inr j ↦ λ a b c. absurd (h g j a b c) ] }
  takes f fs p q d (Some x) h = by (time_lt (date f) x) refl
    where
      by : (b : Bool) → time_lt (date f) x ≡ b → IsCover cmp k t (f ∷ fs) (cond b (Some x) (Some (date f)))
      by true l = record { range = h.range; among = inr h.among; is_range = h.is_range; covers = h.covers; dated = h.dated; within = h.within; last = λ g. elim [ inl e ↦ λ _ _ _. subst (λ (y : Fact K V). time_le (date y) x ≡ true) (sym e) (times.lt-le (date f) x l) | inr j ↦ h.last g j ] }
      by false l = record { range = f; among = inl refl; is_range = p; covers = q; dated = refl; within = d; last = λ g. elim [ inl e ↦ λ _ _ _. subst (λ (y : Fact K V). time_le (date y) (date f) ≡ true) (sym e) (times.le-refl (date f)) | inr j ↦ λ a b c. times.le-trans (date g) x (date f) (h.last g j a b c) (times.not_lt-le (date f) x l) ] }

  -- there is a greatest date of a range deletion that covers the key, or none covers it
  pub cover-of : (fs : List (Fact K V)) → (c : Option Time) × IsCover cmp k t fs c
  cover-of [] = (None, λ g h. absurd h)
  cover-of (f ∷ fs) = by (not (is_point f) && (touches cmp k f && time_le (date f) t)) refl (cover-of fs)
    where
      by : (b : Bool) → (not (is_point f) && (touches cmp k f && time_le (date f) t)) ≡ b → Covered fs → Covered (f ∷ fs)
      by false off h = (h.0, skips f fs off h.0 h.1)
      by true on h = let a = and-parts (not (is_point f)) (touches cmp k f && time_le (date f) t) on in let c = and-parts (touches cmp k f) (time_le (date f) t) a.1 in (later_date (date f) h.0, takes f fs (not-true (is_point f) a.0) c.0 c.1 h.0 h.1)

-- ---- of entries

pub range-fact : (e : Entry) → is_point (fact_of e) ≡ not (is_range e)
range-fact (Entry.Put key at value) = refl
range-fact (Entry.Del key at) = refl
range-fact (Entry.Range lo hi at) = refl

not-false : (b : Bool) → not b ≡ false → b ≡ true
not-false true e = refl
not-false false e = absurd (true≢false e)

pub is-range : (e : Entry) → is_point (fact_of e) ≡ false → is_range e ≡ true
is-range e p = not-false (is_range e) (sym (range-fact e) ∙ p)

-- a range of all entries is one that is kept, and the other way round
pub kept-fact : (rs all : List Entry) (g : Fact Bytes Bytes) → HasRanges rs all → is_point g ≡ false → Has g (facts_of all) → Has g (facts_of rs)
kept-fact rs all g r p h = let m = members.map-has fact_of g all h in subst (λ (x : Fact Bytes Bytes). Has x (facts_of rs)) (sym m.2) (members.has-map fact_of m.0 rs (r.kept m.0 m.1 (is-range m.0 (subst (λ (x : Fact Bytes Bytes). is_point x ≡ false) m.2 p))))

pub only-fact : (rs all : List Entry) (g : Fact Bytes Bytes) → HasRanges rs all → Has g (facts_of rs) → Has g (facts_of all)
only-fact rs all g r h = let m = members.map-has fact_of g rs h in subst (λ (x : Fact Bytes Bytes). Has x (facts_of all)) (sym m.2) (members.has-map fact_of m.0 all (r.only m.0 m.1).0)

pub cover-same : (rs all : List Entry) (key : Bytes) (t : Time) (c : Option Time) → HasRanges rs all → IsCover bytes_cmp key t (facts_of rs) c → IsCover bytes_cmp key t (facts_of all) c
cover-same rs all key t None r h = λ g i p. h g (kept-fact rs all g r p i) p
cover-same rs all key t (Some d) r h = record { range = h.range; among = only-fact rs all h.range r h.among; is_range = h.is_range; covers = h.covers; dated = h.dated; within = h.within; last = λ g i p. h.last g (kept-fact rs all g r p i) p }

-- what was decided is what the range deletions say
pub decided : (rs all : List Entry) (upto : Time) (e : Entry) (r : Option Entry) → HasRanges rs all → is_range e ≡ false → IsDecided rs upto e r → (c : Option Time) × (IsCover bytes_cmp (key_of e) upto (facts_of all) c × (r ≡ shown_of c e))
decided rs all upto (Entry.Put key at value) r h p d = (d.0, (cover-same rs all key upto d.0 h d.1.0, d.1.1))
decided rs all upto (Entry.Del key at) r h p d = let c = cover-of bytes_cmp key upto (facts_of all) in (c.0, (c.1, d))
decided rs all upto (Entry.Range lo hi at) r h p d = absurd (true≢false p)
