-- What is left of a plan after a cursor.
use Rattle.std.proofs.Common.{◌≡◌, ◌∙◌, ℕ, zero, suc, true, false, sym, refl, ap, List, [], ◌∷◌, ◌++◌, take, filter, Option, Some, None, true≢false}
use Rattle.std.proofs.lemmas.List.{map-append, take-map}
use Rattle.std.proofs.lemmas.List.Elements.{filter-append}
use Rattle.mvcc_keys.specs.declared.entries.Entry.{Entry}
use Rattle.fact_model.specs.Facts.{Fact}
use Rattle.fact_model.specs.Listed.{is_point}
use Rattle.list_laws.proofs.Filters.{filter-map, filter-none, filter-same}
use Rattle.list_laws.proofs.Members as members
use Rattle.version_store.specs.Tables.{ByteFact, Tables, entry_of, entries_of, is_past}
use Rattle.span_export.specs.declared.cursor.Place.{Place}
use Rattle.span_export.specs.declared.plan.Plan.{Plan}
use Rattle.span_export.specs.Plans.{plan_entries, plan_points, plan_ranges}
use Rattle.span_export.specs.Pieces.{after_place, is_left, is_past_points, point_of}
use Rattle.span_export.proofs.EntryOrder.{plan_points-has}
use Rattle.list_laws.proofs.Places.{take-none}

-- a put or a deletion is left exactly where it comes after the put or deletion at which the cursor is
point-left : (cursor : Option Place) (f : ByteFact) → is_past_points cursor ≡ false → is_point f ≡ true → is_left cursor (entry_of f) ≡ is_past (point_of cursor) f
point-left None f on p = refl
point-left (Some (Place.Point k t)) (Fact.Put q v at) on p = refl
point-left (Some (Place.Point k t)) (Fact.Del q at) on p = refl
point-left (Some (Place.Point k t)) (Fact.DelRange lo hi at) on p = absurd (true≢false (sym p))
point-left (Some (Place.Range t)) f on p = absurd (true≢false on)

none-left : (cursor : Option Place) (f : ByteFact) → is_past_points cursor ≡ true → is_point f ≡ true → is_left cursor (entry_of f) ≡ false
none-left None f past p = absurd (true≢false (sym past))
none-left (Some (Place.Point k t)) f past p = absurd (true≢false (sym past))
none-left (Some (Place.Range t)) (Fact.Put q v at) past p = refl
none-left (Some (Place.Range t)) (Fact.Del q at) past p = refl
none-left (Some (Place.Range t)) (Fact.DelRange lo hi at) past p = absurd (true≢false (sym p))

module _ (h : Tables) (table : ℕ) (plan : Plan) (cursor : Option Place) (n : ℕ) where
  abbrev ps : List ByteFact
  ps = plan_points (h.facts table) plan

  abbrev rs : List ByteFact
  rs = plan_ranges (h.facts table) plan

  -- of the puts and deletions, those after the cursor's place
  pub points-left : is_past_points cursor ≡ false → entries_of (take n (filter (is_past (point_of cursor)) ps)) ≡ take n (after_place cursor (entries_of ps))
  points-left on = sym (ap (take n) (filter-map (is_left cursor) entry_of ps ∙ ap entries_of (filter-same (λ f. is_left cursor (entry_of f)) (is_past (point_of cursor)) ps (λ f i. point-left cursor f on (plan_points-has (h.facts table) plan f i)))) ∙ take-map entry_of n (filter (is_past (point_of cursor)) ps))

  -- none, where the cursor is at a range deletion
  pub no-points_left : is_past_points cursor ≡ true → [] ≡ take n (after_place cursor (entries_of ps))
  no-points_left past = sym (ap (take n) (filter-none (is_left cursor) (entries_of ps) (λ e i. let m = members.map-has entry_of e ps i in ap (is_left cursor) m.2 ∙ none-left cursor m.0 past (plan_points-has (h.facts table) plan m.0 m.1))) ∙ take-none n [] refl)

  take-front : (m : ℕ) (xs ys : List Entry) → take m (take m xs ++ ys) ≡ take m (xs ++ ys)
  take-front zero xs ys = refl
  take-front (suc m) [] ys = refl
  take-front (suc m) (x ∷ xs) ys = ap (λ (zs : List Entry). x ∷ zs) (take-front m xs ys)

  -- the next puts and deletions, and the range deletions behind them, are the next entries
  pub parts-left : (points : List Entry) → points ≡ take n (after_place cursor (entries_of ps)) → take n (points ++ after_place cursor (entries_of rs)) ≡ take n (after_place cursor (plan_entries h table plan))
  unfolding plan_entries
  parts-left points e = ap (λ (xs : List Entry). take n (xs ++ after_place cursor (entries_of rs))) e ∙ (take-front n (after_place cursor (entries_of ps)) (after_place cursor (entries_of rs)) ∙ ap (take n) (sym (ap (after_place cursor) (map-append entry_of ps rs) ∙ filter-append (is_left cursor) (entries_of ps) (entries_of rs))))
