-- Where a layer goes on: after the last full backup, or after the layers of a subdirectory.
use Rattle.std.proofs.Common.{◌≡◌, inl, inr, ℕ, Bool, true, List, [], map, filter, Option, Some, None, option_map, refl, sym, ap, ap₂, subst, ◌∙◌}
use Rattle.std.proofs.lemmas.Slice.Eq.{bytes_eq-Decides}
use Rattle.mvcc_keys.specs.Times.{Time, time_le, time_lt, zero_time}
use Rattle.mvcc_keys.proofs.TimeOrder.{le-refl, le-trans, lt-le-absurd, zero-le}
use Rattle.table_descriptors.specs.declared.scopes.Scope.{Scope}
use Rattle.list_laws.specs.Members.{Has}
use Rattle.list_laws.proofs.Bools.{and-parts}
use Rattle.list_laws.proofs.Members.{has-filter, has-map}
use Rattle.history_model.specs.Histories.{Table}
use Rattle.history_model.specs.Layers.{LayerRecord}
use Rattle.layer_manifest.specs.declared.manifest.Manifest.{Manifest}
use Rattle.layer_manifest.specs.Manifests.{IsProperScope}
use Rattle.layer_model.specs.declared.names.LayerName.{LayerName}
use Rattle.layer_objects.specs.Objects.{name_of_record}
use Rattle.layer_objects.specs.Storable.{IsRecord}
use Rattle.layer_book.specs.Books.{Book, name_in}
use Rattle.layer_book.specs.Subdirectories.{end_times, first_of, full_times, is_in, is_of, last_end_of, last_full_of}
use Rattle.layer_book.proofs.Carried.{first_map, last_end_map, last_full_map}
use Rattle.layer_book.proofs.FullTimes.{fold_greatest}
use Rattle.reply_texts.specs.declared.refusals.Refusal.TheVariants.{NoSuchBackup}
use Rattle.machine_model.specs.Machine.{Machine, Stepped, refused, with_found}
use Rattle.machine_model.specs.declared.extents.Extent.{Extent}
use Rattle.machine_model.specs.Backups.{backup, full_backup, full_extent, increment_in, last_end_in, last_full, next_extent}
use Rattle.machine_model.proofs.Lists.{find-has}
use Rattle.cluster_core.specs.ClusterView.{ClusterState, record_of}
use Rattle.cluster_core.specs.Standing.{HasBackups, StandsFor, machine_of}
use Rattle.cluster_core.specs.Backing.{IsNext, IsOfScopeOf}
use Rattle.cluster_core.proofs.Backing.{last-is}
use Rattle.cluster_core.proofs.Covers.{find-passes}

-- ---- after the last full backup

last-greatest : {X : Type 0} (name : X → LayerName) (collection : List ℕ) (xs : List X) (x : X) → Has x xs → is_of collection (name x) ≡ true → time_le (name x).full (last_full_of name collection xs) ≡ true
unfolding last_full_of
last-greatest name collection xs x has is = fold_greatest (name x).full zero_time (full_times name collection xs) (has-map (λ y. (name y).full) x (filter (λ y. is_of collection (name y)) xs) (has-filter (λ y. is_of collection (name y)) x xs has is))

no-later-full : (book : Book) (collection : List ℕ) (r : LayerRecord) → Has r (map record_of book.layers) → r.collection ≡ collection → time_le r.full (last_full_of name_in collection book.layers) ≡ true
no-later-full book collection r has is =
    subst (λ (t : Time). time_le r.full t ≡ true) (last_full_map record_of name_of_record collection book.layers)
    (last-greatest name_of_record collection (map record_of book.layers) r has ((bytes_eq-Decides r.collection collection).1 is))

abbrev pub extent_from : List ℕ → Time → Time → Time → Bool → Scope → Extent
extent_from collection full start end history scope = record { collection = collection; full = full; start = start; end = end; history = history; scope = scope }

-- the same place and span, by the name and the start
pub same-extent : (collection other : List ℕ) (full start begin end : Time) (history : Bool) (scope : Scope) → other ≡ collection → begin ≡ start → extent_from other full begin end history scope ≡ extent_from collection full start end history scope
same-extent collection other full start begin end history scope named from = ap₂ (λ (n : List ℕ) (t : Time). extent_from n full t end history scope) named from

-- and by the scope
pub same-next : (collection other : List ℕ) (full start end : Time) (history : Bool) (scope owned : Scope) → other ≡ collection → owned ≡ scope → extent_from other full start end history owned ≡ extent_from collection full start end history scope
same-next collection other full start end history scope owned named scoped = ap₂ (λ (n : List ℕ) (s : Scope). extent_from n full start end history s) named scoped

pub full-next : (collection : List ℕ) (scope : Scope) (history : Bool) (end last : Time) (x : Extent) → x ≡ full_extent collection scope history end → IsProperScope scope → IsNext x last
full-next collection scope history end last x is proper = subst (λ (y : Extent). IsNext y last) (sym is) (record { scope = proper; from = zero-le last; full = inl refl })

-- no own layer is in the subdirectory of a full backup that ends later
pub full-scopes : (book : Book) (collection : List ℕ) (scope : Scope) (history : Bool) (end last : Time) (x : Extent) → x ≡ full_extent collection scope history end → last ≡ last_full_of name_in collection book.layers → time_lt last x.end ≡ true → IsOfScopeOf book x
full-scopes book collection scope history end last x is last-of after r has of full =
    absurd (lt-le-absurd last x.end after (subst (λ (t : Time). time_le t last ≡ true) (full ∙ (ap (λ (y : Extent). y.full) is ∙ ap (λ (y : Extent). y.end) (sym is)))
    (subst (λ (t : Time). time_le r.full t ≡ true) (sym last-of) (no-later-full book collection r has (of ∙ ap (λ (y : Extent). y.collection) is)))))

pub full-is : (c : ClusterState) (collection : List ℕ) (scope : Scope) (history : Bool) (end last clock : Time) (x : Extent) → x ≡ full_extent collection scope history end → last ≡ last_full_of name_in collection c.book.layers → (m : Machine) → StandsFor c m
    → full_backup m [] collection scope history end clock ≡ backup m [] x last clock
full-is c collection scope history end last clock x is last-of m s =
    ap (λ (t : Time). backup m [] (full_extent collection scope history end) t clock) (ap (λ (n : Machine). last_full n collection) s.machine_is ∙ (last-is c s.tables collection ∙ sym last-of))
    ∙ ap (λ (y : Extent). backup m [] y last clock) (sym is)

-- ---- after the layers of a subdirectory

module _ (book : Book) (collection cluster : List ℕ) (full : Time) (p : LayerName × Manifest) (found : first_of name_in collection cluster full book.layers ≡ Some p) where
  pub after-own : Has p book.layers
  after-own = find-has (λ x. is_in collection cluster full (name_in x)) book.layers p found

  inside : is_in collection cluster full p.0 ≡ true
  inside = find-passes (λ x. is_in collection cluster full (name_in x)) book.layers p found

  after-of : p.0.collection ≡ collection
  after-of = (bytes_eq-Decides p.0.collection collection).0 (and-parts (is_of collection p.0) _ inside).0

  ends-by : time_le p.0.end (last_end_of name_in collection cluster full book.layers) ≡ true
  unfolding last_end_of
  ends-by = fold_greatest p.0.end zero_time (end_times name_in collection cluster full book.layers)
      (has-map (λ x. (name_in x).end) p (filter (λ x. is_in collection cluster full (name_in x)) book.layers) (has-filter (λ x. is_in collection cluster full (name_in x)) p book.layers after-own inside))

  module _ (history : Bool) (end last : Time) (last-of : last ≡ last_end_of name_in collection cluster full book.layers) (x : Extent) (is : x ≡ next_extent collection (record_of p) last history end) where
    pub after-next : IsRecord (record_of p) → IsNext x last
    after-next form = subst (λ (y : Extent). IsNext y last) (sym is) (record {
      scope = form.scope;
      from = le-refl last;
      full = inr (subst (λ (t : Time). time_le p.0.full t ≡ true) (sym last-of) (le-trans p.0.full p.0.end _ form.full ends-by));
    })

    pub after-scopes : (c : ClusterState) (tables : List Table) → HasBackups c tables → c.book ≡ book → IsOfScopeOf book x
    after-scopes c tables b same r has of full_is =
        b.scopes r (record_of p) (subst (λ (y : Book). Has r (map record_of y.layers)) (sym same) has) (subst (λ (y : Book). Has (record_of p) (map record_of y.layers)) (sym same) (has-map record_of p book.layers after-own))
        (of ∙ (ap (λ (y : Extent). y.collection) is ∙ sym after-of)) (full_is ∙ ap (λ (y : Extent). y.full) is)
        ∙ ap (λ (y : Extent). y.scope) (sym is)

module _ (c : ClusterState) (collection : List ℕ) (s : List ℕ × Time) (history : Bool) (end clock : Time) where
  abbrev with-first : Machine → Option LayerRecord → Time → Stepped
  with-first m first last = with_found m NoSuchBackup first (λ r. backup m [] (next_extent collection r last history end) last clock)

  over-book : (tables : List Table) (o : Option (LayerName × Manifest)) → first_of name_in collection s.0 s.1 c.book.layers ≡ o
      → increment_in (machine_of c tables) collection s history end clock ≡ with-first (machine_of c tables) (option_map record_of o) (last_end_of name_in collection s.0 s.1 c.book.layers)
  over-book tables o found =
      ap (λ (first : Option LayerRecord). with-first (machine_of c tables) first (last_end_in (machine_of c tables) collection s)) (first_map record_of name_of_record collection s.0 s.1 c.book.layers ∙ ap (option_map record_of) found)
      ∙ ap (with-first (machine_of c tables) (option_map record_of o)) (last_end_map record_of name_of_record collection s.0 s.1 c.book.layers)

  pub after-is : (p : LayerName × Manifest) → first_of name_in collection s.0 s.1 c.book.layers ≡ Some p → (last : Time) → last ≡ last_end_of name_in collection s.0 s.1 c.book.layers → (x : Extent) → x ≡ next_extent collection (record_of p) last history end → (m : Machine) → StandsFor c m
      → increment_in m collection s history end clock ≡ backup m [] x last clock
  after-is p found last last-of x is m stands =
      subst (λ (n : Machine). increment_in n collection s history end clock ≡ backup n [] x last clock) (sym stands.machine_is)
      (over-book stands.tables (Some p) found
      ∙ (ap (λ (t : Time). backup (machine_of c stands.tables) [] (next_extent collection (record_of p) t history end) t clock) (sym last-of) ∙ ap (λ (y : Extent). backup (machine_of c stands.tables) [] y last clock) (sym is)))

  pub after-none : first_of name_in collection s.0 s.1 c.book.layers ≡ None → (m : Machine) → StandsFor c m → increment_in m collection s history end clock ≡ refused m NoSuchBackup
  after-none found m stands = subst (λ (n : Machine). increment_in n collection s history end clock ≡ refused n NoSuchBackup) (sym stands.machine_is) (over-book stands.tables None found)
