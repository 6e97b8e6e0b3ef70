-- The tables that a layer's manifest shows, by their descriptors in force.
use Rattle.std.proofs.Common.{ℕ, ◌≡◌, ◌∙◌, ◌-◌, ◌==◌, nat_lt, Bool, true, false, cond, ◌&&◌, refl, sym, ap, ap₂, subst, true≢false, List, [], ◌∷◌, ◌++◌, map, filter, Option, Some, None, filter_map, option_map, option_to_list, slice_get, unwrap_or}
use Rattle.std.specs.List.{cons_option, find}
use Rattle.std.specs.Prelude.{reverse, option_and_then, if◌then◌else◌}
use Rattle.std.specs.Str.{bytes_eq}
use Rattle.std.proofs.lemmas.List.{reverse-append}
use Rattle.std.proofs.lemmas.Option.{slice_get-map}
use Rattle.mvcc_keys.specs.Times.{IsTime, Time, time_le, time_lt, zero_time}
use Rattle.mvcc_keys.proofs.TimeOrder.{le-lt-lt, le-not_lt, le-refl, le-trans, lt-le, lt-not_le, not_le-lt}
use Rattle.table_descriptors.specs.Descriptors.{Schema}
use Rattle.list_laws.proofs.Bools.{and-both, and-left, and-right}
use Rattle.history_model.specs.Histories.{Table, in_force, schemas_of}
use Rattle.history_model.specs.Layers.{LayerRecord}
use Rattle.range_tombstones.specs.Intervals.{is_between}
use Rattle.range_tombstones.specs.declared.upto.Upto.TheVariants.{At}
use Rattle.introduced_spans.specs.PlanLaws.{ascend_after}
use Rattle.introduced_spans.specs.Publicity.{becomes_public_in, is_public, public_at}
use Rattle.introduced_spans.specs.Spans.{descriptors_of, is_member, is_member_over, members_of, scope_ids, table_plan, layer_descriptors}
use Rattle.collection_dir.specs.Versions.{first_table, first_version}
use Rattle.layer_manifest.specs.declared.manifest.TablePart.{TablePart}
use Rattle.layer_objects.specs.Contents.{in_version, part_of, with_each}
use Rattle.mvcc_keys.specs.declared.entries.Entry.{Entry}
use Rattle.layer_manifest.specs.declared.manifest.Manifest.{Manifest}
use Rattle.layer_objects.specs.Objects.{bare, bounded_manifest, covers, described, manifest_of, pieces_in, plan_of}
use Rattle.layer_objects.specs.Storable.{AreStorable, IsRecord}
use Rattle.layer_chains.specs.Chains.{Serves}
use Rattle.layer_chains.proofs.Membership.{IsReadTo, introduced-member, other-member, read-to}
use Rattle.machine_model.specs.Restores.{chosen_by, chosen_tables, if_chosen}
use Rattle.cluster_core.proofs.Covers.{find-passes}

-- ---- a descriptor more

in_force-push : (ds : List Schema) (d : Schema) (t : Time) → in_force (ds ++ d ∷ []) t ≡ cond (time_le d.modified t) (Some d) (in_force ds t)
in_force-push ds d t = ap (find (λ (x : Schema). time_le x.modified t)) (reverse-append ds (d ∷ []))

pub in_force-last : (es ds : List Schema) (d : Schema) (t : Time) → es ≡ ds ++ d ∷ [] → time_le d.modified t ≡ true → in_force es t ≡ Some d
in_force-last es ds d t are is = ap (λ xs. in_force xs t) are ∙ (in_force-push ds d t ∙ ap (λ b. cond b (Some d) (in_force ds t)) is)

pub in_force-before : (es ds : List Schema) (d : Schema) (t : Time) → es ≡ ds ++ d ∷ [] → time_le d.modified t ≡ false → in_force es t ≡ in_force ds t
in_force-before es ds d t are is = ap (λ xs. in_force xs t) are ∙ (in_force-push ds d t ∙ ap (λ b. cond b (Some d) (in_force ds t)) is)

-- ---- a walk from the first descriptor on

-- the one in force at t by these descriptors, after others by which it is another or none
abbrev force-from : Option Schema → List Schema → Time → Option Schema
force-from was [] t = was
force-from was (d ∷ ds) t = force-from (cond (time_le d.modified t) (Some d) was) ds t

abbrev is-dated : Time → Schema → Bool
is-dated t d = time_le d.modified t

-- what is found, or else another
abbrev or-else : Option Schema → Option Schema → Option Schema
or-else was None = was
or-else was (Some d) = Some d

found-last : (was : Option Schema) (t : Time) (d : Schema) (xs : List Schema) → or-else was (find (is-dated t) (xs ++ d ∷ [])) ≡ or-else (cond (time_le d.modified t) (Some d) was) (find (is-dated t) xs)
found-last was t d [] = by (time_le d.modified t)
  where
    by : (b : Bool) → or-else was (cond b (Some d) None) ≡ cond b (Some d) was
    by true = refl
    by false = refl
found-last was t d (x ∷ xs) = by (time_le x.modified t) (found-last was t d xs)
  where
    last : Option Schema
    last = cond (time_le d.modified t) (Some d) was

    by : (b : Bool) → or-else was (find (is-dated t) (xs ++ d ∷ [])) ≡ or-else last (find (is-dated t) xs) → or-else was (cond b (Some x) (find (is-dated t) (xs ++ d ∷ []))) ≡ or-else last (cond b (Some x) (find (is-dated t) xs))
    by true more = refl
    by false more = more

walk : (was : Option Schema) (ds : List Schema) (t : Time) → or-else was (in_force ds t) ≡ force-from was ds t
walk was [] t = refl
walk was (d ∷ ds) t = ap (λ (xs : List Schema). or-else was (find (is-dated t) xs)) (reverse-append (d ∷ []) ds) ∙ (found-last was t d (reverse ds) ∙ walk (cond (time_le d.modified t) (Some d) was) ds t)

force-walk : (ds : List Schema) (t : Time) → in_force ds t ≡ force-from None ds t
force-walk ds t = by (in_force ds t) (walk None ds t)
  where
    by : (o : Option Schema) → or-else None o ≡ force-from None ds t → o ≡ force-from None ds t
    by None e = e
    by (Some d) e = e

-- of descriptors that come after a time none is in force up to it
none-dated : (was : Option Schema) (low t : Time) (ds : List Schema) → time_le t low ≡ true → ascend_after low ds ≡ true → force-from was ds t ≡ was
none-dated was low t [] le up = refl
none-dated was low t (d ∷ ds) le up =
    let above = and-left (time_lt low d.modified) (ascend_after d.modified ds) up in
    let past : time_le d.modified t ≡ false = lt-not_le t d.modified (le-lt-lt t low d.modified le above) in
    ap (λ (b : Bool). force-from (cond b (Some d) was) ds t) past
    ∙ none-dated was d.modified t ds (le-trans t low d.modified le (lt-le low d.modified above)) (and-right (time_lt low d.modified) (ascend_after d.modified ds) up)

-- ---- the descriptors that a layer lists

-- the descriptor in force is in force among itself
found-again : (ds : List Schema) (t : Time) → in_force (option_to_list (in_force ds t)) t ≡ in_force ds t
found-again ds t = by (in_force ds t) refl
  where
    by : (o : Option Schema) → in_force ds t ≡ o → in_force (option_to_list o) t ≡ o
    by None e = refl
    by (Some d) e = ap (λ b. cond b (Some d) None) (find-passes (λ (x : Schema). time_le x.modified t) (reverse ds) d e)

other-off : (a b : Bool) → a ≡ true → (a && b) ≡ false → b ≡ false
other-off a b on off = ap (λ (x : Bool). x && b) (sym on) ∙ off

-- with history, at a time from the floor to the end
module _ (floor end t : Time) (from : time_le floor t ≡ true) (upto : time_le t end ≡ true) where
  abbrev between : Schema → Bool
  between d = is_between floor (At end) d.modified

  -- of descriptors after the floor those after the end don't count
  after-floor : (was : Option Schema) (low : Time) (ds : List Schema) → time_le floor low ≡ true → ascend_after low ds ≡ true → force-from was (filter between ds) t ≡ force-from was ds t
  after-floor was low [] le up = refl
  after-floor was low (d ∷ ds) le up = by (between d) refl (λ w. after-floor w d.modified ds (lt-le floor d.modified above) (and-right (time_lt low d.modified) (ascend_after d.modified ds) up))
    where
      above : time_lt floor d.modified ≡ true
      above = le-lt-lt floor low d.modified le (and-left (time_lt low d.modified) (ascend_after d.modified ds) up)

      by : (b : Bool) → between d ≡ b → ((w : Option Schema) → force-from w (filter between ds) t ≡ force-from w ds t)
          → force-from was (cond b (d ∷ filter between ds) (filter between ds)) t ≡ force-from (cond (time_le d.modified t) (Some d) was) ds t
      by true is more = more (cond (time_le d.modified t) (Some d) was)
      by false is more =
          let late : time_lt end d.modified ≡ true = not_le-lt end d.modified (other-off (time_lt floor d.modified) (time_le d.modified end) above is) in
          let past : time_le d.modified t ≡ false = lt-not_le t d.modified (le-lt-lt t end d.modified upto late) in
          more was ∙ ap (λ (b : Bool). force-from (cond b (Some d) was) ds t) (sym past)

  from-floor : (was : Option Schema) (low : Time) (ds : List Schema) → ascend_after low ds ≡ true → force-from (force-from was ds floor) (filter between ds) t ≡ force-from was ds t
  from-floor was low [] up = refl
  from-floor was low (d ∷ ds) up = by (time_le d.modified floor) refl (λ w. from-floor w d.modified ds rest)
    where
      rest : ascend_after d.modified ds ≡ true
      rest = and-right (time_lt low d.modified) (ascend_after d.modified ds) up

      by : (b : Bool) → time_le d.modified floor ≡ b → ((w : Option Schema) → force-from (force-from w ds floor) (filter between ds) t ≡ force-from w ds t)
          → force-from (force-from (cond b (Some d) was) ds floor) (filter between (d ∷ ds)) t ≡ force-from was (d ∷ ds) t
      by true early more =
          let off : between d ≡ false = ap (λ (x : Bool). x && time_le d.modified end) (le-not_lt floor d.modified early) in
          ap (λ (x : Bool). force-from (force-from (Some d) ds floor) (cond x (d ∷ filter between ds) (filter between ds)) t) off
          ∙ (more (Some d) ∙ ap (λ (x : Bool). force-from (cond x (Some d) was) ds t) (sym (le-trans d.modified floor t early from)))
      by false late more =
          let above : time_lt floor d.modified ≡ true = not_le-lt floor d.modified late in
          ap (λ (w : Option Schema). force-from w (filter between (d ∷ ds)) t) (none-dated was d.modified floor ds (lt-le floor d.modified above) rest)
          ∙ after-floor was floor (d ∷ ds) (le-refl floor) (and-both (time_lt floor d.modified) (ascend_after d.modified ds) above rest)

  history-again : (ds : List Schema) → ascend_after zero_time ds ≡ true → in_force (layer_descriptors true floor end ds) t ≡ in_force ds t
  history-again ds up =
      force-walk (layer_descriptors true floor end ds) t
      ∙ (front (in_force ds floor) refl
      ∙ (ap (λ (o : Option Schema). force-from o (filter between ds) t) (force-walk ds floor)
      ∙ (from-floor None zero_time ds up ∙ sym (force-walk ds t))))
    where
      front : (o : Option Schema) → in_force ds floor ≡ o → force-from None (option_to_list o ++ filter between ds) t ≡ force-from o (filter between ds) t
      front None is = refl
      front (Some d) is = ap (λ (b : Bool). force-from (cond b (Some d) None) (filter between ds) t) (le-trans d.modified floor t (find-passes (λ (x : Schema). time_le x.modified floor) (reverse ds) d is) from)

-- ---- a table in a layer that serves a time

module _ (r : LayerRecord) (is : IsRecord r) (t : Time) (serves : Serves t r) (ds : List Schema) (up : ascend_after zero_time ds ≡ true) where
  read : IsReadTo (covers r) t
  read = read-to r t is serves

  -- the descriptors that are listed have the same one in force
  listed-again : in_force (layer_descriptors r.history r.floor r.end ds) t ≡ in_force ds t
  listed-again = by r.history refl
    where
      by : (h : Bool) → r.history ≡ h → in_force (layer_descriptors h r.floor r.end ds) t ≡ in_force ds t
      by true now = history-again r.floor r.end t read.past read.within ds up
      by false now = subst (λ (e : Time). in_force (layer_descriptors false r.floor e ds) t ≡ in_force ds t) (read.now now) (found-again ds t)

  -- what is public is a member
  public-member : IsTime t → public_at ds t ≡ true → is_member_over r.history (covers r) ds ≡ true
  public-member time on = by (becomes_public_in ds r.start r.end) refl
    where
      by : (b : Bool) → becomes_public_in ds r.start r.end ≡ b → is_member_over r.history (covers r) ds ≡ true
      by true new = introduced-member (covers r) ds up t read on new
      by false old = other-member (covers r) ds up t read on t time read.after (le-refl t) old

  other-hidden : IsTime t → is_member_over r.history (covers r) ds ≡ false → public_at ds t ≡ false
  other-hidden time none = by (public_at ds t) refl
    where
      by : (b : Bool) → public_at ds t ≡ b → public_at ds t ≡ false
      by true on = absurd (true≢false (sym (public-member time on) ∙ none))
      by false off = off

-- ---- the tables of a layer

none-chosen : (database : List ℕ) (ds : List Schema) (t : Time) → public_at ds t ≡ false → chosen_by database t ds ≡ None
none-chosen database ds t hidden = by (in_force ds t) hidden
  where
    by : (o : Option Schema) → unwrap_or (option_map is_public o) false ≡ false → option_and_then (if_chosen database) o ≡ None
    by None e = refl
    by (Some d) e = ap (λ b. if b && bytes_eq d.database database then Some d else None) e

filter_map-map : {X Y Z : Type 0} (f : Y → Option Z) (g : X → Y) (xs : List X) → filter_map f (map g xs) ≡ filter_map (λ x. f (g x)) xs
filter_map-map f g [] = refl
filter_map-map f g (x ∷ xs) = ap (cons_option (f (g x))) (filter_map-map f g xs)

-- what doesn't pass gives nothing
filter_map-filter : {X Y : Type 0} (f g : X → Option Y) (p : X → Bool) → ((x : X) → f x ≡ g x) → ((x : X) → p x ≡ false → g x ≡ None) → (xs : List X) → filter_map f (filter p xs) ≡ filter_map g xs
filter_map-filter f g p same none [] = refl
filter_map-filter {X} {Y} f g p same none (x ∷ xs) = by (p x) refl (filter_map-filter f g p same none xs)
  where
    by : (b : Bool) → p x ≡ b → filter_map f (filter p xs) ≡ filter_map g xs → filter_map f (cond b (x ∷ filter p xs) (filter p xs)) ≡ cons_option (g x) (filter_map g xs)
    by true is more = ap₂ cons_option (same x) more
    by false is more = more ∙ ap (λ (o : Option Y). cons_option o (filter_map g xs)) (sym (none x is))

-- chunks don't change descriptors
each-same : {X : Type 0} (f : List Schema → Option X) (ts : List TablePart) (pieces : List (List (List Entry))) → filter_map (λ (t : TablePart). f t.descriptors) (with_each ts pieces) ≡ filter_map (λ (t : TablePart). f t.descriptors) ts
each-same f [] pieces = refl
each-same f (t ∷ ts) [] = refl
each-same f (t ∷ ts) (p ∷ ps) = ap (cons_option (f t.descriptors)) (each-same f ts ps)

-- nor does the version
version-same : {X : Type 0} (f : List Schema → Option X) (version : ℕ) (m : Manifest) → filter_map (λ (t : TablePart). f t.descriptors) (in_version version m).tables ≡ filter_map (λ (t : TablePart). f t.descriptors) m.tables
unfolding first_version
version-same {X} f version m = by (version == 1)
  where
    by : (b : Bool) → filter_map (λ (t : TablePart). f t.descriptors) (if b then first_version m else m).tables ≡ filter_map (λ (t : TablePart). f t.descriptors) m.tables
    by true = filter_map-map (λ (t : TablePart). f t.descriptors) first_table m.tables
    by false = refl

-- the dates of a table's descriptors ascend
own-ascend : (tables : List Table) → AreStorable tables → (id : ℕ) → ascend_after zero_time (descriptors_of (schemas_of tables) id) ≡ true
own-ascend tables storable id = by (nat_lt id 100)
  where
    there : (o : Option Table) → slice_get tables (id - 100) ≡ o → ascend_after zero_time (unwrap_or (option_map (λ (t : Table). t.descriptors) o) []) ≡ true
    there None got = refl
    there (Some table) got = (storable (id - 100) table got).ascend

    by : (b : Bool) → ascend_after zero_time (if b then [] else unwrap_or (slice_get (schemas_of tables) (id - 100)) []) ≡ true
    by true = refl
    by false = subst (λ (o : Option (List Schema)). ascend_after zero_time (unwrap_or o []) ≡ true) (sym (slice_get-map (λ (t : Table). t.descriptors) tables (id - 100))) (there (slice_get tables (id - 100)) refl)

-- what a layer's manifest shows public at a time that the layer serves is what the tables do
pub chosen-shown : (tables : List Table) (storable : AreStorable tables) (r : LayerRecord) → IsRecord r → (t : Time) → IsTime t → Serves t r → (database : List ℕ)
    → filter_map (λ (part : TablePart). chosen_by database t part.descriptors) (manifest_of tables r).tables ≡ chosen_tables tables database t r
unfolding chosen_tables plan_of table_plan members_of
chosen-shown tables storable r is t time serves database =
    let D = schemas_of tables in
    let s = covers r in
    let shown : TablePart → Option Schema = λ part. chosen_by database t part.descriptors in
    let part = part_of (described tables) r.history r.floor r.end in
    version-same (chosen_by database t) r.version (bounded_manifest tables r)
    ∙ (each-same (chosen_by database t) (bare tables r).tables (pieces_in tables r)
    ∙ (filter_map-map shown part (plan_of tables r).tables
    ∙ (filter_map-map (λ plan. shown (part plan)) (table_plan D s) (members_of D r.scope s)
    ∙ filter_map-filter (λ id. shown (part (table_plan D s id))) (λ id. chosen_by database t (descriptors_of D id)) (is_member D s)
    (λ id. ap (option_and_then (if_chosen database)) (listed-again r is t serves (descriptors_of D id) (own-ascend tables storable id)))
    (λ id other. none-chosen database (descriptors_of D id) t (other-hidden r is t serves (descriptors_of D id) (own-ascend tables storable id) time other))
    (scope_ids D r.scope))))
