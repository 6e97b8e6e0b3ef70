-- The first entry that counts tells the next row.
use Rattle.std.proofs.Common.{◌≡◌, Bool, true, false, cond, not, ◌&&◌, sym, refl, ap, ap₂, ◌∙◌, subst, List, [], ◌++◌, map, Option, Some, None, option_map, option_to_list, Ordering, is_lt, true≢false}
use Rattle.std.specs.Ordering.{is_gt, ordering_then}
use Rattle.std.proofs.lemmas.Cmp.{tied_itself, nat_list_cmp_total}
use Rattle.mvcc_keys.specs.Times.{Time, time_le}
use Rattle.mvcc_keys.specs.Codes.{time_cmp}
use Rattle.list_laws.specs.Members.{Has}
use Rattle.mvcc_keys.specs.Entries.{key_of}
use Rattle.mvcc_keys.specs.declared.entries.Entry.{Entry}
use Rattle.fact_model.specs.Facts.{Fact, date, IsApart, IsKeyOrder, Version, version_of, value}
use Rattle.fact_model.specs.Scans.{Item, item, scan}
use Rattle.fact_model.specs.Listed.{key_of as fact_key, point_cmp as fact_cmp}
use Rattle.list_laws.proofs.Members as members
use Rattle.chunk_file.specs.Entries.{is_range, date_of}
use Rattle.layer_merge.specs.declared.wanted.Wanted.{Wanted}
use Rattle.layer_merge.specs.Loads.{World}
use Rattle.layer_merge.specs.Stands.{Stand, counts, is_after, is_wanted, point_cmp, AreAt, IsNext}
use Rattle.layer_merge.specs.Nexts.{is_past, to_come, is_due, IsFirstDue, IsCover, is_hidden}
use Rattle.version_store.specs.Tables.{Bytes, bytes_cmp}
use Rattle.version_store.specs.Lists.{fact_of, facts_of}
use Rattle.layer_merge.specs.Rows.{put_of, is_asked, rows_left, shown_of}
use Rattle.layer_merge.specs.Ranges.{HasRanges}
use Rattle.layer_merge.specs.Decided.{IsDecided}
use Rattle.layer_merge.proofs.Images as images
use Rattle.layer_merge.proofs.CoverLaws as covers
use Rattle.version_store.proofs.Bytes.{bytes_order}
use Rattle.list_laws.proofs.Bools.{and-parts}
use Rattle.list_laws.proofs.Orderings.{lt-Less}

pub key-same : (e : Entry) → fact_key (fact_of e) ≡ key_of e
key-same (Entry.Put key at value) = refl
key-same (Entry.Del key at) = refl
key-same (Entry.Range lo hi at) = refl

pub date-same : (e : Entry) → date (fact_of e) ≡ date_of e
date-same (Entry.Put key at value) = refl
date-same (Entry.Del key at) = refl
date-same (Entry.Range lo hi at) = refl

pub cmp-same : (d e : Entry) → fact_cmp bytes_cmp (fact_of d) (fact_of e) ≡ point_cmp d e
cmp-same d e = ap₂ (λ (a b : Ordering). ordering_then a b) (ap₂ bytes_cmp (key-same d) (key-same e)) (ap₂ time_cmp (date-same e) (date-same d))

-- `counts`, without a first date, is `is_due`
regroup : (p q r : Bool) → (p && (q && (true && r))) ≡ ((p && q) && r)
regroup true q r = refl
regroup false q r = refl

pub past-same : (done : Option Bytes) (key : Bytes) → is_past bytes_cmp done key ≡ is_after done key
past-same None key = refl
past-same (Some d) key = refl

due-counts : (v : Wanted) (done : Option Bytes) (e : Entry) → v.after ≡ None → counts v done e ≡ is_due bytes_cmp (is_asked v) (λ (d : Time). time_le d v.upto) done (fact_of e)
unfolding counts
due-counts v last (Entry.Put key at value) n = rw (n, past-same last key) (regroup (is_after last key) (is_asked v key) (time_le at v.upto))
due-counts v last (Entry.Del key at) n = rw (n, past-same last key) (regroup (is_after last key) (is_asked v key) (time_le at v.upto))
due-counts v last (Entry.Range lo hi at) n = refl

pub facts-have : (f : Fact Bytes Bytes) (all : List Entry) → Has f (facts_of all) → (e : Entry) × (Has e all × (f ≡ fact_of e))
facts-have f all h = let m = members.map-has fact_of f all h in (m.0, (m.1, m.2))

next-due : (v : Wanted) (done : Option Bytes) (all : List Entry) (e : Entry) → v.after ≡ None → IsNext v done all e → IsFirstDue bytes_cmp (is_asked v) (λ (d : Time). time_le d v.upto) done (facts_of all) (fact_of e)
next-due v done all e n x = record {
  among = members.has-map fact_of e all x.among;
  due = sym (due-counts v done e n) ∙ x.counted;
  least = λ g h d. let w = facts-have g all h in subst (λ (y : Fact Bytes Bytes). is_gt (fact_cmp bytes_cmp (fact_of e) y) ≡ false) (sym w.1.1) (ap is_gt (cmp-same e w.0) ∙ x.least w.0 w.1.0 (due-counts v done w.0 n ∙ ap (is_due bytes_cmp (is_asked v) (λ (d : Time). time_le d v.upto) done) (sym w.1.1) ∙ d));
}

-- none counts: nothing is left
pub rows-ended : (v : Wanted) (done : Option Bytes) (all : List Entry) → IsKeyOrder bytes_cmp → v.after ≡ None → ((e : Entry) → Has e all → counts v done e ≡ true → ⊥) → rows_left v done all ≡ []
unfolding rows_left
rows-ended v done all o n none = ap (map put_of) (images.none-to-come bytes_cmp o (is_asked v) v.upto (facts_of all) done (λ f h d. let w = facts-have f all h in none w.0 w.1.0 (due-counts v done w.0 n ∙ ap (is_due bytes_cmp (is_asked v) (λ (d : Time). time_le d v.upto) done) (sym w.1.1) ∙ d)))

map-one : (o : Option (Version Bytes)) (key : Bytes) (is : List (Item Bytes Bytes)) → map put_of (option_to_list (option_map (item key) o) ++ is) ≡ option_to_list (option_map (λ (v : Version Bytes). Entry.Put key v.at v.value) o) ++ map put_of is
map-one None key is = refl
map-one (Some v) key is = refl

shown-is : (e : Entry) (c : Option Time) → is_range e ≡ false → option_map (λ (v : Version Bytes). Entry.Put (fact_key (fact_of e)) v.at v.value) (cond (is_hidden c (date (fact_of e))) None (version_of (Some (fact_of e)))) ≡ shown_of c e
shown-is (Entry.Put key at value) c p = by (is_hidden c at)
  where
    by : (b : Bool) → option_map (λ (v : Version Bytes). Entry.Put key v.at v.value) (cond b None (Some (record { value = value; at = at }))) ≡ cond b None (Some (Entry.Put key at value))
    by true = refl
    by false = refl
shown-is (Entry.Del key at) c p = by (is_hidden c at)
  where
    by : (b : Bool) → option_map (λ (v : Version Bytes). Entry.Put key v.at v.value) (cond b None None) ≡ None
    by true = refl
    by false = refl
shown-is (Entry.Range lo hi at) c p = absurd (true≢false p)

point-counts : (v : Wanted) (done : Option Bytes) (e : Entry) → counts v done e ≡ true → is_range e ≡ false
unfolding counts
point-counts v last (Entry.Put key at value) h = refl
point-counts v last (Entry.Del key at) h = refl
point-counts v last (Entry.Range lo hi at) h = absurd (true≢false (sym h))

-- the first that counts is shown, if it is, and what is left are the rows after its key
pub rows-next : (v : Wanted) (done : Option Bytes) (all : List Entry) (e : Entry) (c : Option Time) → IsKeyOrder bytes_cmp → v.after ≡ None → IsApart bytes_cmp (facts_of all) → IsCover bytes_cmp (key_of e) v.upto (facts_of all) c → IsNext v done all e → rows_left v done all ≡ option_to_list (shown_of c e) ++ rows_left v (Some (key_of e)) all
unfolding rows_left
rows-next v done all e c o n a cover x =
    ap (map put_of) (images.next-to-come bytes_cmp o (is_asked v) v.upto (facts_of all) done (fact_of e) due)
    ∙ map-one (value bytes_cmp (fact_key (fact_of e)) v.upto (facts_of all)) (fact_key (fact_of e)) (to_come bytes_cmp (is_asked v) (Some (fact_key (fact_of e))) (scan bytes_cmp v.upto (facts_of all)))
    ∙ ap₂ (λ (xs : List Entry) (k : Bytes). xs ++ map put_of (to_come bytes_cmp (is_asked v) (Some k) (scan bytes_cmp v.upto (facts_of all)))) shown (key-same e)
  where
    due : IsFirstDue bytes_cmp (is_asked v) (λ (d : Time). time_le d v.upto) done (facts_of all) (fact_of e)
    due = next-due v done all e n x

    shown : option_to_list (option_map (λ (w : Version Bytes). Entry.Put (fact_key (fact_of e)) w.at w.value) (value bytes_cmp (fact_key (fact_of e)) v.upto (facts_of all))) ≡ option_to_list (shown_of c e)
    shown = ap (λ (r : Option (Version Bytes)). option_to_list (option_map (λ (w : Version Bytes). Entry.Put (fact_key (fact_of e)) w.at w.value) r)) (images.value-first bytes_cmp o (is_asked v) v.upto (facts_of all) done (fact_of e) due c a (subst (λ (k : Bytes). IsCover bytes_cmp k v.upto (facts_of all) c) (sym (key-same e)) cover)) ∙ ap option_to_list (shown-is e c (point-counts v done e x.counted))

-- ---- after a key was given

after-later : (done : Option Bytes) (a b : Bytes) → is_after done a ≡ true → is_lt (bytes_cmp a b) ≡ true → is_after done b ≡ true
after-later None a b p l = refl
after-later (Some d) a b p l = ap is_lt (nat_list_cmp_total.trans d a b (lt-Less (bytes_cmp d a) p) (lt-Less (bytes_cmp a b) l))

-- an entry that counts after a key counts before it
pub still-counts : (v : Wanted) (done : Option Bytes) (key : Bytes) (d : Entry) → is_after done key ≡ true → counts v (Some key) d ≡ true → counts v done d ≡ true
unfolding counts
still-counts v done key d p c = by (and-parts (not (is_range d)) (is_lt (bytes_cmp key (key_of d)) && is_wanted v (key_of d) (date_of d)) c)
  where
    by : ((not (is_range d) ≡ true) × ((is_lt (bytes_cmp key (key_of d)) && is_wanted v (key_of d) (date_of d)) ≡ true)) → (not (is_range d) && (is_after done (key_of d) && is_wanted v (key_of d) (date_of d))) ≡ true
    by h = let w = and-parts (is_lt (bytes_cmp key (key_of d))) (is_wanted v (key_of d) (date_of d)) h.1 in ap₂ (λ (x y : Bool). x && y) h.0 (ap₂ (λ (x y : Bool). x && y) (after-later done key (key_of d) p w.0) w.1)

pub counts-after : (v : Wanted) (done : Option Bytes) (e : Entry) → counts v done e ≡ true → is_after done (key_of e) ≡ true
unfolding counts
counts-after v done e c = (and-parts (is_after done (key_of e)) (is_wanted v (key_of e) (date_of e)) (and-parts (not (is_range e)) (is_after done (key_of e) && is_wanted v (key_of e) (date_of e)) c).1).0

pub at-later : (w : World) (v : Wanted) (done : Option Bytes) (all : List Entry) (stands : List Stand) (e : Entry) → counts v done e ≡ true → AreAt w v done all stands → AreAt w v (Some (key_of e)) all stands
at-later w v done all stands e x a = record { ordered = a.ordered; there = λ d h c. a.there d h (still-counts v done (key_of e) d (counts-after v done e x) c); only = a.only; live = a.live }

-- the entry of the key that was given last doesn't count
pub passed : (v : Wanted) (e : Entry) → counts v (Some (key_of e)) e ≡ false
unfolding counts
passed v e = by (not (is_range e)) (is_lt (bytes_cmp (key_of e) (key_of e))) (is_wanted v (key_of e) (date_of e)) (ap is_lt (tied_itself nat_list_cmp_total (key_of e)))
  where
    by : (p q r : Bool) → q ≡ false → (p && (q && r)) ≡ false
    by true true r h = absurd (true≢false h)
    by true false r h = refl
    by false q r h = refl

-- ---- one step

-- what was decided of the first that counts: it is the next row, or there is none of its key
pub rows-decided : (v : Wanted) (done : Option Bytes) (rs all : List Entry) (e : Entry) (r : Option Entry) → v.after ≡ None → IsApart bytes_cmp (facts_of all) → HasRanges rs all → IsNext v done all e → IsDecided rs v.upto e r → rows_left v done all ≡ option_to_list r ++ rows_left v (Some (key_of e)) all
rows-decided v done rs all e r n a h x d =
    let c = covers.decided rs all v.upto e r h (point-counts v done e x.counted) d in
    rows-next v done all e c.0 bytes_order n a c.1.0 x ∙ ap (λ (y : Option Entry). option_to_list y ++ rows_left v (Some (key_of e)) all) (sym c.1.1)
