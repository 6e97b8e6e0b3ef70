-- What a collection leaves.
use Rattle.std.proofs.Common.{◌≡◌, ◌∙◌, ℕ, ◌==◌, Bool, true, false, cond, not, ◌&&◌, ◌||◌, sym, refl, ap, ap₂, subst, subst₂, List, [], ◌∷◌, ◌++◌, filter, Ok, Err, Result, OnOk, inl, inr}
use Rattle.std.proofs.lemmas.List.{map-append}
use Rattle.std.proofs.lemmas.List.Elements.{filter-append}
use Rattle.mvcc_keys.specs.Times.{Time, time_lt, time_le}
use Rattle.mvcc_keys.specs.declared.entries.Entry.{Entry}
use Rattle.fact_model.specs.Facts.{date, after}
use Rattle.list_laws.specs.Members.{Has}
use Rattle.fact_model.specs.Listed.{key_of}
use Rattle.fact_model.specs.Scans.{image, kept}
use Rattle.mvcc_keys.proofs.TimeOrder as times
use Rattle.list_laws.proofs.Members as members
use Rattle.fact_model.proofs.Stores as stores
use Rattle.fact_model.proofs.Growth as growth
use Rattle.version_store.specs.Tables.{ByteFact, bytes_cmp, entry_of, entries_of, table_of, Tables, raised}
use Rattle.version_store.specs.Lists.{fact_of, facts_of, is_id, is_of, of_table, stays}
use Rattle.version_store.specs.Holding.{threshold_in, HoldsTable, Holds}
use Rattle.version_store.specs.declared.fact_list.Threshold.{Threshold}
use Rattle.version_store.proofs.Bytes.{bytes_order, fact-entry, facts-entries, id-turned, id-same, one-table}

-- the entries of facts that all are of a table, or all aren't
of-all : (i : ℕ) (b : Bool) (fs : List ByteFact) → ((f : ByteFact) → Has f fs → is_id i (table_of (key_of f)) ≡ b) → of_table i (entries_of fs) ≡ cond b (entries_of fs) []
of-all i true [] all = refl
of-all i false [] all = refl
of-all i true (f ∷ fs) all = ap₂ (λ (c : Bool) (es : List Entry). cond c (entry_of f ∷ es) es) (ap (λ (x : ByteFact). is_id i (table_of (key_of x))) (fact-entry f) ∙ all f (inl refl)) (of-all i true fs (λ x h. all x (inr h)))
of-all i false (f ∷ fs) all = ap₂ (λ (c : Bool) (es : List Entry). cond c (entry_of f ∷ es) es) (ap (λ (x : ByteFact). is_id i (table_of (key_of x))) (fact-entry f) ∙ all f (inl refl)) (of-all i false fs (λ x h. all x (inr h)))

-- the keys of a table's image are the table's
image-own : (id : ℕ) (g : Time) (es : List Entry) (f : ByteFact) → Has f (image bytes_cmp g (facts_of (of_table id es))) → is_id id (table_of (key_of f)) ≡ true
image-own id g es f h =
    let m = members.map-has fact_of f (of_table id es) (stores.image-in bytes_cmp bytes_order g (facts_of (of_table id es)) f h) in
    ap (λ (x : ByteFact). is_id id (table_of (key_of x))) m.2 ∙ members.filter-passes (is_of id) m.0 es m.1

stay-own : (id : ℕ) (g : Time) (es : List Entry) → facts_of (of_table id (filter (stays id g) es)) ≡ after g (facts_of (of_table id es))
stay-own id g [] = refl
stay-own id g (e ∷ es) = by (is_of id e) refl (time_lt g (date (fact_of e))) refl (stay-own id g es)
  where
    by : (a : Bool) → is_of id e ≡ a → (b : Bool) → time_lt g (date (fact_of e)) ≡ b → facts_of (of_table id (filter (stays id g) es)) ≡ after g (facts_of (of_table id es)) → facts_of (of_table id (cond (not a || b) (e ∷ filter (stays id g) es) (filter (stays id g) es))) ≡ after g (facts_of (cond a (e ∷ of_table id es) (of_table id es)))
    by true p true q more = rw (p, q) (ap (λ (xs : List ByteFact). fact_of e ∷ xs) more)
    by true p false q more = rw q more
    by false p b q more = rw p more

stay-other : (id i : ℕ) (g : Time) (es : List Entry) → ((e : Entry) → is_of id e ≡ true → is_of i e ≡ false) → of_table i (filter (stays id g) es) ≡ of_table i es
stay-other id i g [] off = refl
stay-other id i g (e ∷ es) off = by (is_of id e) refl (time_lt g (date (fact_of e))) (stay-other id i g es off)
  where
    by : (a : Bool) → is_of id e ≡ a → (b : Bool) → of_table i (filter (stays id g) es) ≡ of_table i es → of_table i (cond (not a || b) (e ∷ filter (stays id g) es) (filter (stays id g) es)) ≡ cond (is_of i e) (e ∷ of_table i es) (of_table i es)
    by true p true more = rw (off e p) more
    by true p false more = rw (off e p) more
    by false p b more = ap (λ (xs : List Entry). cond (is_of i e) (e ∷ xs) xs) more

module _ (es : List Entry) (ts : List Threshold) (h : Tables) (id : ℕ) (g : Time) (later : time_lt (h.threshold id) g ≡ true) (all : Holds es ts h) where
  abbrev pub seen : List ByteFact
  seen = image bytes_cmp g (facts_of (of_table id es))

  abbrev pub left : List Entry
  left = entries_of seen ++ filter (stays id g) es

  split : (i : ℕ) → facts_of (of_table i left) ≡ facts_of (of_table i (entries_of seen)) ++ facts_of (of_table i (filter (stays id g) es))
  split i = ap facts_of (filter-append (is_of i) (entries_of seen) (filter (stays id g) es)) ∙ map-append fact_of (of_table i (entries_of seen)) (of_table i (filter (stays id g) es))

  -- the table itself, and the others
  own-held : HoldsTable left id g (h.facts id)
  unfolding kept
  own-held = record { apart = (all.tables id).apart; kept_facts = split id ∙ (ap₂ (λ (xs ys : List ByteFact). xs ++ ys) (ap facts_of (of-all id true seen (image-own id g es)) ∙ facts-entries seen) (stay-own id g es) ∙ (ap (kept bytes_cmp g) (all.tables id).kept_facts ∙ growth.kept-kept bytes_cmp bytes_order (h.threshold id) g (h.facts id) (all.tables id).apart (times.lt-le (h.threshold id) g later))) }

  other-held : (i : ℕ) → (i == id) ≡ false → HoldsTable left i (h.threshold i) (h.facts i)
  other-held i ne = record { apart = (all.tables i).apart; kept_facts = split i ∙ (ap₂ (λ (xs ys : List Entry). facts_of xs ++ facts_of ys) (of-all i false seen (λ f h'. one-table id i (table_of (key_of f)) ne (image-own id g es f h'))) (stay-other id i g es (λ e own. one-table id i (table_of (key_of (fact_of e))) ne own)) ∙ (all.tables i).kept_facts) }

  collected-held : Holds left (record { table = id; at = g } ∷ ts) (raised id g h)
  unfolding threshold_in
  collected-held = record { from = λ i. from i (i == id) refl; tables = λ i. by i (i == id) refl }
    where
      above : (i : ℕ) → i ≡ id → time_lt (h.threshold i) g ≡ true
      above i same = subst (λ (j : ℕ). time_lt (h.threshold j) g ≡ true) (sym same) later

      from : (i : ℕ) (b : Bool) → (i == id) ≡ b → cond (id == i) g (threshold_in ts i) ≡ cond (b && time_lt (h.threshold i) g) g (h.threshold i)
      from i true p = rw (id-turned id i, p, above i (id-same i id p))
      from i false p = rw (id-turned id i, p) (all.from i)

      by : (i : ℕ) (b : Bool) → (i == id) ≡ b → HoldsTable left i (cond (b && time_lt (h.threshold i) g) g (h.threshold i)) (h.facts i)
      by i true p = rw (above i (id-same i id p)) (subst (λ (j : ℕ). HoldsTable left j g (h.facts j)) (sym (id-same i id p)) own-held)
      by i false p = other-held i p

pub collect-changed : {R F : Type 0} (r : Result R F) (es new facts : List Entry) (ts news : List Threshold) (id : ℕ) (g was : Time) → was ≡ threshold_in ts id → time_le g was ≡ false → facts ≡ entries_of (image bytes_cmp g (facts_of (of_table id es))) ++ filter (stays id g) es → OnOk r ((new ≡ facts) × (news ≡ record { table = id; at = g } ∷ ts)) → OnOk r ((h : Tables) → Holds es ts h → Holds new news (raised id g h))
collect-changed (Ok x) es new facts ts news id g was at later made changed = λ h all. subst₂ (λ (xs : List Entry) (us : List Threshold). Holds xs us (raised id g h)) (sym (changed.0 ∙ made)) (sym changed.1) (collected-held es ts h id g (subst (λ (t : Time). time_lt t g ≡ true) (at ∙ all.from id) (times.not_le-lt was g later)) all)
collect-changed (Err x) es new facts ts news id g was at later made changed = tt
