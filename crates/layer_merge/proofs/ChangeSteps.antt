-- The first entry that counts is the next change.
use Rattle.std.proofs.Common.{◌≡◌, Bool, true, false, ◌&&◌, sym, refl, ap, ap₂, ◌∙◌, subst, List, [], ◌∷◌, filter, Option, Some, None, IsPermutation}
use Rattle.std.specs.Ordering.{is_gt}
use Rattle.mvcc_keys.specs.Entries.{key_of}
use Rattle.mvcc_keys.specs.declared.entries.Entry.{Entry}
use Rattle.list_laws.specs.Members.{Has}
use Rattle.list_laws.proofs.Members as members
use Rattle.fact_model.specs.Facts.{IsApart}
use Rattle.fact_model.specs.Listed.{key_of as fact_key, point_cmp as fact_cmp, points}
use Rattle.layer_merge.specs.declared.wanted.Wanted.{Wanted}
use Rattle.layer_merge.specs.Loads.{World}
use Rattle.layer_merge.specs.Stands.{Stand, counts, first_of, is_after, AreAt, IsFound, IsNext, Finds}
use Rattle.layer_merge.specs.Nexts.{is_past, is_due, IsFirstDue}
use Rattle.layer_merge.specs.Changes.{changes_left, is_dated}
use Rattle.version_store.specs.Tables.{Bytes, ByteFact, bytes_cmp, entries_of, newest_points}
use Rattle.version_store.specs.Lists.{fact_of, facts_of}
use Rattle.version_store.proofs.Bytes.{entry-fact}
use Rattle.layer_merge.specs.Rows.{Gave, is_asked}
use Rattle.layer_merge.proofs.ChangeLaws as changes
use Rattle.layer_merge.proofs.NextRows.{at-later, cmp-same, facts-have, key-same, past-same}
use Rattle.layer_merge.proofs.StandLaws.{at-reordered}

regroup : (p q r : Bool) → (p && (q && r)) ≡ ((p && q) && r)
regroup true q r = refl
regroup false q r = refl

-- what counts is due
due-is : (v : Wanted) (done : Option Bytes) (e : Entry) → counts v done e ≡ is_due bytes_cmp (is_asked v) (is_dated v) done (fact_of e)
unfolding counts
due-is v last (Entry.Put key at value) = rw (past-same last key) (regroup (is_after last key) (is_asked v key) (is_dated v at))
due-is v last (Entry.Del key at) = rw (past-same last key) (regroup (is_after last key) (is_asked v key) (is_dated v at))
due-is v last (Entry.Range lo hi at) = refl

first-due : (v : Wanted) (done : Option Bytes) (all : List Entry) (e : Entry) → IsNext v done all e → IsFirstDue bytes_cmp (is_asked v) (is_dated v) done (facts_of all) (fact_of e)
first-due v done all e x = record {
  among = members.has-map fact_of e all x.among;
  due = sym (due-is v done e) ∙ x.counted;
  least = λ g h d. let w = facts-have g all h in subst (λ (y : ByteFact). is_gt (fact_cmp bytes_cmp (fact_of e) y) ≡ false) (sym w.1.1) (ap is_gt (cmp-same e w.0) ∙ x.least w.0 w.1.0 (due-is v done w.0 ∙ ap (is_due bytes_cmp (is_asked v) (is_dated v) done) (sym w.1.1) ∙ d));
}

pub changes-ended : (v : Wanted) (done : Option Bytes) (all : List Entry) → IsApart bytes_cmp (facts_of all) → ((e : Entry) → Has e all → counts v done e ≡ true → ⊥) → changes_left v done all ≡ []
unfolding changes_left
changes-ended v done all a none = ap entries_of (changes.none-left (facts_of all) a (is_dated v) (is_asked v) done (λ f h d. let w = facts-have f all h in none w.0 w.1.0 (due-is v done w.0 ∙ ap (is_due bytes_cmp (is_asked v) (is_dated v) done) (sym w.1.1) ∙ d)))

pub changes-next : (v : Wanted) (done : Option Bytes) (all : List Entry) (e : Entry) → IsApart bytes_cmp (facts_of all) → IsNext v done all e → changes_left v done all ≡ e ∷ changes_left v (Some (key_of e)) all
unfolding changes_left
changes-next v done all e a x =
    ap entries_of (changes.next-left (facts_of all) a (is_dated v) (is_asked v) done (fact_of e) (first-due v done all e x))
    ∙ ap₂ (λ (d : Entry) (k : Bytes). d ∷ entries_of (filter (λ (f : ByteFact). is_past bytes_cmp (Some k) (fact_key f) && is_asked v (fact_key f)) (newest_points (points bytes_cmp (is_dated v) (facts_of all))))) (entry-fact e) (key-same e)

-- the entry at which a stand is, copied, and its key as the last one given
abbrev pub Copied : Stand → Option Bytes → Option Entry → Type 0
Copied s done r = (e : Entry) → first_of s.left ≡ Some e → (done ≡ Some (key_of e)) × (r ≡ Some e)

module _ (w : World) (v : Wanted) (all : List Entry) (apart : IsApart bytes_cmp (facts_of all)) where
  pub change-ended : (done : Option Bytes) (stands : List Stand) → Finds w v done all None stands → ((changes_left v done all ≡ []) × (changes_left v done all ≡ [])) × AreAt w v done all stands
  change-ended done stands f = let n = changes-ended v done all apart f.none in ((n, n), f.again)

  pub change-given : (done after : Option Bytes) (s : Stand) (rest stands : List Stand) (r : Option Entry) → IsFound w v done all s rest → Copied s after r → IsPermutation (s ∷ rest) stands → Gave r (changes_left v done all) (changes_left v after all) × AreAt w v after all stands
  change-given done after s rest stands r f c p =
      let told = c f.entry f.first in (
        subst (λ (x : Option Entry). Gave x (changes_left v done all) (changes_left v after all)) (sym told.1) (subst (λ (k : Option Bytes). changes_left v done all ≡ f.entry ∷ changes_left v k all) (sym told.0) (changes-next v done all f.entry apart f.next)),
        at-reordered w v after all (s ∷ rest) stands p (subst (λ (k : Option Bytes). AreAt w v k all (s ∷ rest)) (sym told.0) (at-later w v done all (s ∷ rest) f.entry f.next.counted f.again)),
      )
