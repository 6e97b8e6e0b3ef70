-- A merge of entries between two calls.
use Rattle.std.proofs.Common.{◌≡◌, Bool, true, false, ◌&&◌, cond, sym, refl, ap, ap₂, ◌∙◌, subst, List, [], ◌∷◌, ◌++◌, length, drop, filter, map, Option, Some, None, option_to_list, IfSome, inl, arith, ◌+◌, ◌≤◌}
use Rattle.std.specs.List.{AllByRecursion, list_any}
use Rattle.std.proofs.lemmas.List.{map-append}
use Rattle.mvcc_keys.specs.Times.{Time, time_le}
use Rattle.mvcc_keys.specs.declared.entries.Entry.{Entry}
use Rattle.list_laws.specs.Members.{Has}
use Rattle.list_laws.proofs.Members as members
use Rattle.list_laws.proofs.Filters.{filter-all}
use Rattle.range_tombstones.specs.Intervals.{is_between}
use Rattle.range_tombstones.specs.declared.upto.Upto.TheVariants.{At}
use Rattle.fact_model.specs.Facts.{Fact}
use Rattle.fact_model.specs.Listed.{is_point, key_of, points, ranges}
use Rattle.fact_model.specs.Scans.{Item, image, scan, put_of as fact_of_item}
use Rattle.chunk_file.specs.Entries.{is_range}
use Rattle.version_store.specs.Tables.{Bytes, ByteFact, bytes_cmp, entry_of, entries_of, newest_points}
use Rattle.version_store.specs.Lists.{facts_of}
use Rattle.version_store.proofs.FactOrder.{range-has}
use Rattle.layer_merge.specs.declared.wanted.Wanted.{Wanted}
use Rattle.layer_merge.specs.Changes.{EntryState, changes_left, changes_of, direct_entries, entries_left, entry_state, first_date, merge_entries, is_dated, left_by, ranges_asked, ranges_held}
use Rattle.layer_merge.specs.Loads.{Load, World}
use Rattle.layer_merge.specs.Parts.{counted_entries, is_introduced}
use Rattle.layer_merge.specs.declared.parts.Part.{Part}
use Rattle.layer_merge.specs.Nexts.{is_past}
use Rattle.layer_merge.specs.Rows.{Gave, is_asked, put_of}
use Rattle.layer_merge.specs.Stands.{is_later}
use Rattle.layer_merge.specs.Steps.{to_begin, to_load}
use Rattle.layer_merge.specs.Walks.{IsAtWork, IsWalking, MergesOver, WalkState, may_load, rows_of}
use Rattle.layer_merge.proofs.ListedRanges.{ranges-kept}
use Rattle.layer_merge.proofs.NewMerges.{all-asked, rows-whole}

-- ---- loads that may still be made

pub stands-may : (m : WalkState) (x : Load) → to_load m.table x m.stands ≤ may_load x m
stands-may m x = by m.begun
  where
    by : (b : Bool) → to_load m.table x m.stands ≤ cond b (to_load m.table x m.stands) (to_load m.table x m.stands + (to_begin m.table x m.waiting + to_begin m.table x m.waiting))
    by true = omega arith
    by false = omega arith

-- ---- range deletions

-- the range deletions that a walk keeps are those of all entries
pub held-asked : (w : World) (all : List Entry) (m : WalkState) (from : Time) → m.wanted.after ≡ Some from → m.begun ≡ true → MergesOver w all m → ranges_held from m ≡ ranges_asked m.wanted all
unfolding ranges_asked
held-asked w all m from a b o =
    let work : IsWalking w all m = subst (λ (x : Bool). IsAtWork x w all m) b o.work in
    ap entries_of (ranges-kept m.ranges all work.ranges o.dated (is_between from (At m.wanted.upto)) ∙ ap (λ (s : Option Time). ranges (λ (d : Time). is_later s d && time_le d m.wanted.upto) (facts_of all)) (sym a))

emptied : (xs : List Entry) → xs ≡ drop 1 xs → xs ≡ []
emptied [] e = refl
emptied (x ∷ xs) e = let l : length (x ∷ xs) ≡ length xs = ap length e in absurd (omega (arith, l))

-- the first of a queue was given
pub queue-gave : (r : Option Entry) (old new : List Entry) → old ≡ option_to_list r ++ new → new ≡ drop 1 old → Gave r old new
queue-gave (Some e) old new h d = h
queue-gave None old new h d = let n = emptied old (h ∙ d) in (n, sym h ∙ n)

-- range deletions, and those after the first
pub queue-ranges : (xs ys : List Entry) → ys ≡ drop 1 xs → AllByRecursion (λ (e : Entry). is_range e ≡ true) xs → AllByRecursion (λ (e : Entry). is_range e ≡ true) ys
queue-ranges [] ys e a = rw e tt
queue-ranges (x ∷ xs) ys e a = rw e a.1

pub queue-first : (r : Option Entry) (old new : List Entry) → old ≡ option_to_list r ++ new → AllByRecursion (λ (e : Entry). is_range e ≡ true) old → IfSome r (λ (e : Entry). is_range e ≡ true)
queue-first None old new h a = tt
queue-first (Some e) old new h a = members.has-AllByRecursion (λ (x : Entry). is_range x ≡ true) e old a (subst (λ (l : List Entry). Has e l) (sym h) (inl refl))

range-of : (f : ByteFact) → is_point f ≡ false → is_range (entry_of f) ≡ true
range-of (Fact.Put key value at) p = cc
range-of (Fact.Del key at) p = cc
range-of (Fact.DelRange lo hi at) p = refl

pub held-ranges : (from : Time) (m : WalkState) → AllByRecursion (λ (e : Entry). is_range e ≡ true) (ranges_held from m)
held-ranges from m = members.AllByRecursion-has (λ (e : Entry). is_range e ≡ true) (ranges_held from m) (λ e h. let x = members.map-has entry_of e (ranges (is_between from (At m.wanted.upto)) (facts_of m.ranges)) h in ap is_range x.2 ∙ range-of x.0 (range-has (is_between from (At m.wanted.upto)) (facts_of m.ranges) x.0 x.1))

-- ---- what is left

module _ (all : List Entry) where
  pub left-listed : (m : EntryState) (from : Time) → m.walk.wanted.after ≡ Some from → m.listed ≡ true → entries_left all m ≡ m.ranges
  left-listed m from a l = ap₂ (λ (o : Option Time) (b : Bool). left_by o b all m) a l

  pub left-changes : (m : EntryState) (from : Time) → m.walk.wanted.after ≡ Some from → m.listed ≡ false → entries_left all m ≡ changes_of all m.walk ++ ranges_asked m.walk.wanted all
  left-changes m from a l = ap₂ (λ (o : Option Time) (b : Bool). left_by o b all m) a l

  pub left-rows : (m : EntryState) → m.walk.wanted.after ≡ None → entries_left all m ≡ rows_of all m.walk
  left-rows m a = ap (λ (o : Option Time). left_by o m.listed all m) a

  -- a range deletion was given, or none was left
  pub gave-range : (m n : EntryState) (from : Time) (r : Option Entry) → m.walk.wanted.after ≡ Some from → n.walk.wanted.after ≡ Some from → m.listed ≡ true → n.listed ≡ true → Gave r m.ranges n.ranges → Gave r (entries_left all m) (entries_left all n)
  gave-range m n from r a b l k g = subst (λ (x : List Entry). Gave r x (entries_left all n)) (sym (left-listed m from a l)) (subst (λ (x : List Entry). Gave r m.ranges x) (sym (left-listed n from b k)) g)

  -- a put or deletion was given
  pub gave-change : (m n : EntryState) (from : Time) (e : Entry) → m.walk.wanted.after ≡ Some from → n.walk.wanted ≡ m.walk.wanted → m.listed ≡ false → n.listed ≡ false → changes_of all m.walk ≡ e ∷ changes_of all n.walk → entries_left all m ≡ e ∷ entries_left all n
  gave-change m n from e a v l k h =
      left-changes m from a l
      ∙ ap₂ (λ (xs : List Entry) (u : Wanted). xs ++ ranges_asked u all) h (sym v)
      ∙ ap (λ (xs : List Entry). e ∷ xs) (sym (left-changes n from (ap (λ (u : Wanted). u.after) v ∙ a) k))

  -- no put or deletion was left, and the first range deletion was given
  pub gave-first : (w : World) (m n : EntryState) (from : Time) (r : Option Entry) → m.walk.wanted.after ≡ Some from → n.walk.wanted ≡ m.walk.wanted → m.listed ≡ false → n.listed ≡ true → n.walk.begun ≡ true → MergesOver w all n.walk → changes_of all m.walk ≡ [] → Gave r (ranges_held from n.walk) n.ranges → Gave r (entries_left all m) (entries_left all n)
  gave-first w m n from r a v l k b o h g =
      let a' : n.walk.wanted.after ≡ Some from = ap (λ (u : Wanted). u.after) v ∙ a in
      let start : entries_left all m ≡ ranges_held from n.walk = left-changes m from a l ∙ ap₂ (λ (xs : List Entry) (u : Wanted). xs ++ ranges_asked u all) h (sym v) ∙ sym (held-asked w all n.walk from a' b o) in
      subst (λ (x : List Entry). Gave r x (entries_left all n)) (sym start) (subst (λ (x : List Entry). Gave r (ranges_held from n.walk) x) (sym (left-listed n from a' k)) g)

  -- a row was given, or none was left
  pub gave-row : (m n : EntryState) (r : Option Entry) → m.walk.wanted.after ≡ None → n.walk.wanted ≡ m.walk.wanted → Gave r (rows_of all m.walk) (rows_of all n.walk) → Gave r (entries_left all m) (entries_left all n)
  gave-row m n r a v g = subst (λ (x : List Entry). Gave r x (entries_left all n)) (sym (left-rows m a)) (subst (λ (x : List Entry). Gave r (rows_of all m.walk) x) (sym (left-rows n (ap (λ (u : Wanted). u.after) v ∙ a))) g)

  -- ---- as it is made

  items-facts : (is : List (Item Bytes Bytes)) → map put_of is ≡ entries_of (map fact_of_item is)
  items-facts [] = refl
  items-facts (i ∷ is) = ap (λ (es : List Entry). put_of i ∷ es) (items-facts is)

  image-is : (t : Time) → map put_of (scan bytes_cmp t (facts_of all)) ≡ entries_of (image bytes_cmp t (facts_of all))
  unfolding image
  image-is t = items-facts (scan bytes_cmp t (facts_of all))

  asked-first : (v : Wanted) → v.lo ≡ [] → v.hi ≡ None → (fs : List ByteFact) → filter (λ (f : ByteFact). is_past bytes_cmp None (key_of f) && is_asked v (key_of f)) fs ≡ fs
  asked-first v l h fs = filter-all (λ (f : ByteFact). is_past bytes_cmp None (key_of f) && is_asked v (key_of f)) fs (λ f i. all-asked v l h (key_of f))

  changes-whole : (v : Wanted) (done : Option Bytes) (from to : Time) → v.lo ≡ [] → v.hi ≡ None → v.after ≡ Some from → v.upto ≡ to → done ≡ None → changes_left v done all ≡ entries_of (newest_points (points bytes_cmp (is_between from (At to)) (facts_of all)))
  unfolding changes_left
  changes-whole v last from to l h a u n =
      ap (λ (d : Option Bytes). entries_of (filter (λ (f : ByteFact). is_past bytes_cmp d (key_of f) && is_asked v (key_of f)) (newest_points (points bytes_cmp (is_dated v) (facts_of all))))) n
      ∙ ap entries_of (asked-first v l h (newest_points (points bytes_cmp (is_dated v) (facts_of all))))
      ∙ ap₂ (λ (s : Option Time) (t : Time). entries_of (newest_points (points bytes_cmp (λ (d : Time). is_later s d && time_le d t) (facts_of all)))) a u

  ranges-whole : (v : Wanted) (from to : Time) → v.after ≡ Some from → v.upto ≡ to → ranges_asked v all ≡ entries_of (ranges (is_between from (At to)) (facts_of all))
  unfolding ranges_asked
  ranges-whole v from to a u = ap₂ (λ (s : Option Time) (t : Time). entries_of (ranges (λ (d : Time). is_later s d && time_le d t) (facts_of all))) a u

  pub left-made : (b : Bool) (from to : Time) (m : EntryState) → m.walk.wanted.lo ≡ [] → m.walk.wanted.hi ≡ None → m.walk.wanted.after ≡ first_date b from → m.walk.wanted.upto ≡ to → m.walk.done ≡ None → m.listed ≡ false → entries_left all m ≡ direct_entries b from to all
  left-made true from to m l h a u n f = left-rows m a ∙ rows-whole all m.walk.wanted m.walk.done to l h u n ∙ image-is to
  left-made false from to m l h a u n f =
      left-changes m from a f
      ∙ ap₂ (λ (xs ys : List Entry). xs ++ ys) (changes-whole m.walk.wanted m.walk.done from to l h a u n) (ranges-whole m.walk.wanted from to a u)
      ∙ sym (map-append entry_of (newest_points (points bytes_cmp (is_between from (At to)) (facts_of all))) (ranges (is_between from (At to)) (facts_of all)))

pub merge-made : (w : World) (ps : List Part) (from to : Time) (m : WalkState) (rs : List Entry) → m.wanted.lo ≡ [] → m.wanted.hi ≡ None → m.wanted.after ≡ first_date (list_any is_introduced ps) from → m.wanted.upto ≡ to → m.done ≡ None → entries_left (counted_entries w ps) (entry_state m rs false false) ≡ merge_entries w ps from to
unfolding merge_entries
merge-made w ps from to m rs l h a u n = left-made (counted_entries w ps) (list_any is_introduced ps) from to (entry_state m rs false false) l h a u n refl
