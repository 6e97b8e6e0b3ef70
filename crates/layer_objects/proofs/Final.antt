-- The law of finality: what a layer holds of its tables is the same when they are longer.
use Rattle.std.proofs.Common.{◌≡◌, ◌≢◌, inl, inr, ⊎_elim, ℕ, zero, suc, ◌+◌, ◌-◌, ◌<◌, ◌≤◌, Bool, true, false, not, ◌&&◌, ◌||◌, ◌==◌, nat_lt, List, [], ◌∷◌, ◌++◌, map, length, Some, None, refl, sym, ap, subst, ◌∙◌, arith, append_assoc}
use Rattle.std.specs.Prelude.{Option, option_map, slice_get, unwrap_or, filter, if◌then◌else◌}
use Rattle.std.specs.List.{range_with_len, AllByRecursion}
use Rattle.std.specs.Str.{bytes_eq}
use Rattle.std.proofs.lemmas.Bool.Decides.{nat_tests}
use Rattle.std.proofs.lemmas.List.{append-nil, map-append}
use Rattle.std.proofs.lemmas.List.Elements.{filter-append}
use Rattle.std.proofs.lemmas.Option.{slice_get-map, slice_get_within, slice_get-get_or, slice_get_past}
use Rattle.mvcc_keys.specs.Times.{Time, zero_time, time_le, time_lt}
use Rattle.row_codec.specs.declared.rows.Kind.{Kind}
use Rattle.table_descriptors.specs.declared.scopes.Scope.{Scope}
use Rattle.table_descriptors.specs.declared.scopes.Scope.TheVariants as scope
use Rattle.table_descriptors.specs.Descriptors.{Schema}
use Rattle.fact_model.specs.Facts.{date}
use Rattle.list_laws.specs.Members.{Has}
use Rattle.list_laws.proofs.Members.{has-append_cases}
use Rattle.mvcc_keys.proofs.TimeOrder.{le-trans, le-lt-lt, lt-not_le}
use Rattle.history_model.specs.Histories.{Table, schemas_of}
use Rattle.version_store.specs.Tables.{ByteFact, Tables, with_fact}
use Rattle.span_export.specs.declared.plan.Plan.{Plan}
use Rattle.span_export.specs.Plans.{plan_entries}
use Rattle.span_export.specs.Pieces.{is_seen}
use Rattle.span_export.proofs.Added.{others-unseen}
use Rattle.introduced_spans.specs.declared.plans.Span.{Span}
use Rattle.introduced_spans.specs.declared.plans.TablePlan.{TablePlan}
use Rattle.introduced_spans.specs.Publicity.{public_at, becomes_public_in, is_public_in, time_after}
use Rattle.introduced_spans.specs.PlanLaws.{ascend_after}
use Rattle.introduced_spans.specs.Spans.{descriptors_of, table_ids, is_in_scope, scope_ids, is_introduced, is_member, is_member_over, members_of, plan_by, protected_by, table_plan, plan_over}
use Rattle.introduced_spans.proofs.Lists.{range-all, all-filter, all-map, map-same}
use Rattle.introduced_spans.specs.declared.plans.LayerPlan.{LayerPlan}
use Rattle.introduced_spans.specs.Publicity.{IsUntold}
use Rattle.introduced_spans.specs.Spans.{layer_descriptors}
use Rattle.history_model.specs.Layers.{LayerRecord}
use Rattle.layer_manifest.specs.declared.manifest.TablePart.{TablePart}
use Rattle.layer_model.specs.Layers as stored
use Rattle.mvcc_keys.specs.declared.entries.Entry.{Entry}
use Rattle.table_rows.specs.RowTables.{bytes_of, coded}
use Rattle.list_laws.proofs.Members.{all-weaker}
use Rattle.table_rows.proofs.Coded.{date-coded}
use Rattle.layer_manifest.specs.declared.manifest.Manifest.{Manifest}
use Rattle.layer_objects.specs.Contents.{chunk_size, cut, in_a_row, in_version, layer_of, part_of, pieces_of, with_each}
use Rattle.layer_objects.specs.Objects.{covers, described, kinds_of, name_of_record, objects_of, plan_of, rows_of, table_kinds}
use Rattle.layer_objects.specs.Past.{IsLonger, KeepsPast, IsBegun, AreBegun, PastChains, IsFinal, LayersAreFinal}
use Rattle.introduced_spans.proofs.Longer.{AreAfter, public-longer, became-longer, member-longer, plan-longer, descriptors-longer}
use Rattle.introduced_spans.proofs.Untold.{unseen}
use Rattle.list_laws.proofs.Places.{append-then}

-- ---- twice longer

after-then : (s t : Time) (more further : List Schema) → time_le s t ≡ true → ((x : Schema) → Has x more → time_lt s x.modified ≡ true) → ((x : Schema) → Has x further → time_lt t x.modified ≡ true)
    → (x : Schema) → Has x (more ++ further) → time_lt s x.modified ≡ true
after-then s t more further le first second x has = ⊎_elim (first x) (λ is. le-lt-lt s t x.modified le (second x is)) (has-append_cases x more further has)

longer-then : (s t : Time) (a b c : Table) → time_le s t ≡ true → IsLonger s a b → IsLonger t b c → IsLonger s a c
longer-then s t a b c le p q = record {
  id_is = q.id_is ∙ p.id_is;
  facts = p.facts ++ q.facts;
  facts_are = append-then a.facts b.facts c.facts p.facts q.facts p.facts_are q.facts_are;
  untold = λ f has. ⊎_elim (p.untold f) (λ is x from upto.
      let late : (d : Schema) → Has d p.schemas → time_le d.modified x ≡ false = λ d there. lt-not_le x d.modified (le-lt-lt x s d.modified upto (p.schemas_after d there)) in
      sym (public-longer x a.descriptors p.schemas late) ∙ (ap (λ (ds : List Schema). public_at ds x) (sym p.schemas_are) ∙ q.untold f is x from (le-trans x s t upto le)))
      (has-append_cases f p.facts q.facts has);
  schemas = p.schemas ++ q.schemas;
  schemas_are = append-then a.descriptors b.descriptors c.descriptors p.schemas q.schemas p.schemas_are q.schemas_are;
  schemas_after = after-then s t p.schemas q.schemas le p.schemas_after q.schemas_after;
}

pub past-then : PastChains
past-then s t a b c le p q = record {
  kept = λ i table got. let m = p.kept i table got in let n = q.kept i m.0 m.1 in (n.0, n.1, longer-then s t table m.0 n.0 le m.2 n.2);
  added = λ i table none got. by i table none got (slice_get b i) refl;
}
  where
    by : (i : ℕ) (table : Table) → slice_get a i ≡ None → slice_get c i ≡ Some table → (o : Option Table) → slice_get b i ≡ o → (d : Schema) → Has d table.descriptors → time_lt s d.modified ≡ true
    by i table none got None fresh d has = le-lt-lt s t d.modified le (q.added i table fresh got d has)
    by i table none got (Some mid) there d has =
        let n = q.kept i mid there in
        let same : n.0 ≡ table = let e : Some n.0 ≡ Some table = sym n.1 ∙ got in cc in
        let ds : table.descriptors ≡ mid.descriptors ++ n.2.schemas = ap (λ (x : Table). x.descriptors) (sym same) ∙ n.2.schemas_are in
        after-then s t mid.descriptors n.2.schemas le (p.added i mid none there) n.2.schemas_after d (subst (λ (xs : List Schema). Has d xs) ds has)

-- ---- lists

map-twice : {X Y Z : Type 0} (f : X → Y) (g : Y → Z) (xs : List X) → map g (map f xs) ≡ map (λ x. g (f x)) xs
map-twice f g [] = refl
map-twice f g (x ∷ xs) = ap (λ zs. g (f x) ∷ zs) (map-twice f g xs)

all-pass : {X : Type 0} (P : X → Type 0) (p : X → Bool) (xs : List X) → AllByRecursion P xs → AllByRecursion (λ x. P x × (p x ≡ true)) (filter p xs)
all-pass P p xs all = all-filter P (λ x. P x × (p x ≡ true)) p (λ x is one. (one, is)) xs all

-- two tests in a row
two-filters : {X : Type 0} (p q : X → Bool) (x : X) (xs : List X) → filter q (filter p (x ∷ xs)) ≡ (if p x then (if q x then x ∷ filter q (filter p xs) else filter q (filter p xs)) else filter q (filter p xs))
two-filters p q x xs = by (p x) refl
  where
    by : (a : Bool) → p x ≡ a → filter q (filter p (x ∷ xs)) ≡ (if p x then (if q x then x ∷ filter q (filter p xs) else filter q (filter p xs)) else filter q (filter p xs))
    by true is = rw is refl
    by false is = rw is refl

filters-same : {X : Type 0} (p q p' q' : X → Bool) (xs : List X) → AllByRecursion (λ x. (p' x ≡ p x) × (q' x ≡ q x)) xs → filter q' (filter p' xs) ≡ filter q (filter p xs)
filters-same p q p' q' [] all = refl
filters-same p q p' q' (x ∷ xs) all =
    let rest = filter q' (filter p' xs) in
    two-filters p' q' x xs
    ∙ ap (λ (a : Bool). if a then (if q' x then x ∷ rest else rest) else rest) all.0.0
    ∙ ap (λ (b : Bool). if p x then (if b then x ∷ rest else rest) else rest) all.0.1
    ∙ ap (λ ys. if p x then (if q x then x ∷ ys else ys) else ys) (filters-same p q p' q' xs all.1)
    ∙ sym (two-filters p q x xs)

either-way : {X : Type 0} (a : Bool) (xs : List X) → (if a then xs else xs) ≡ xs
either-way true xs = refl
either-way false xs = refl

filters-none : {X : Type 0} (p q : X → Bool) (xs : List X) → AllByRecursion (λ x. q x ≡ false) xs → filter q (filter p xs) ≡ []
filters-none p q [] all = refl
filters-none p q (x ∷ xs) all =
    let rest = filter q (filter p xs) in
    two-filters p q x xs ∙ ap (λ (b : Bool). if p x then (if b then x ∷ rest else rest) else rest) all.0 ∙ either-way (p x) rest ∙ filters-none p q xs all.1

range-append : (a m n : ℕ) → range_with_len a (m + n) ≡ range_with_len a m ++ range_with_len (a + m) n
range-append a zero n =
    let none : 0 + n ≡ n = omega arith in
    let here : a + 0 ≡ a = omega arith in
    rw (none, here) refl
range-append a (suc m) n =
    let one : suc m + n ≡ suc (m + n) = omega arith in
    let there : a + suc m ≡ a + 1 + m = omega arith in
    rw (one, there) (ap (λ xs. a ∷ xs) (range-append (a + 1) m n))

no-place : {X : Type 0} (xs : List X) (i : ℕ) → i < length xs → slice_get xs i ≡ None → ⊥
no-place [] i less none = omega (arith, less)
no-place (x ∷ xs) zero less none = cc none
no-place (x ∷ xs) (suc i) less none = no-place xs i (omega (arith, less)) none

first-same : {X : Type 0} (xs ys : List X) → xs ≢ [] → slice_get (xs ++ ys) 0 ≡ slice_get xs 0
first-same [] ys some = absurd (some refl)
first-same (x ∷ xs) ys some = refl

kinds-same : (ds more : List Schema) → ds ≢ [] → kinds_of (ds ++ more) ≡ kinds_of ds
kinds-same [] more some = absurd (some refl)
kinds-same (d ∷ ds) more some = refl

pub has-map : {X Y : Type 0} (f : X → Y) (xs : List X) (y : Y) → Has y (map f xs) → (x : X) × Has x xs × (y ≡ f x)
has-map f [] y has = absurd has
has-map f (x ∷ xs) y has = ⊎_elim (λ is. (x, inl refl, is)) (λ more. let h = has-map f xs y more in (h.0, inr h.1, h.2)) has

-- ---- entries

entries-same : (id : ℕ) (plan : Plan) (h new : Tables) → new.facts id ≡ h.facts id → plan_entries new id plan ≡ plan_entries h id plan
unfolding plan_entries
entries-same id plan h new e = rw e refl

-- facts that a plan doesn't see
entries-more : (id : ℕ) (plan : Plan) (h new : Tables) (fs : List ByteFact) → new.facts id ≡ h.facts id ++ fs → ((f : ByteFact) → Has f fs → is_seen plan (date f) ≡ false) → plan_entries new id plan ≡ plan_entries h id plan
entries-more id plan h new [] is unseen = entries-same id plan h new (is ∙ append-nil (h.facts id))
entries-more id plan h new (f ∷ fs) is unseen =
    let itself : (id == id) ≡ true = grind (arith, nat_tests) in
    let one : (with_fact id f h).facts id ≡ h.facts id ++ f ∷ [] = rw itself refl in
    entries-more id plan (with_fact id f h) new fs (is ∙ sym (append_assoc (h.facts id) (f ∷ []) fs) ∙ ap (λ (xs : List ByteFact). xs ++ fs) (sym one)) (λ g has. unseen g (inr has))
    ∙ others-unseen h id id plan f (unseen f (inl refl))

-- without descriptors a table is never public
never-in : (s e : Time) → is_public_in [] s e ≡ false
unfolding is_public_in becomes_public_in
never-in s e = by (time_after s)
  where
    at : (b : Bool) → ((b && false) || false) ≡ false
    at true = refl
    at false = refl

    by : (o : Option Time) → (unwrap_or (option_map (λ t. time_le t e && public_at [] t) o) false || false) ≡ false
    by None = refl
    by (Some t) = at (time_le t e)

-- the entries of a planned table, and the descriptors that a layer lists of it, are the same
record IsToldAlike (s : Span) (old new : List Table) (p : TablePlan) : Type 0 where
  entries : plan_entries (bytes_of (rows_of new)) p.id p.plan ≡ plan_entries (bytes_of (rows_of old)) p.id p.plan
  descriptors : layer_descriptors s.history s.floor s.end (descriptors_of (schemas_of new) p.id) ≡ layer_descriptors s.history s.floor s.end (descriptors_of (schemas_of old) p.id)

-- ---- longer tables

abbrev pub no-table : Table
no-table = record { id = 0; facts = []; descriptors = []; threshold = zero_time }

module _ (t : Time) (old new : List Table) (begun : AreBegun old) (past : KeepsPast t old new) (sc : Scope) (s : Span) (span : time_le s.floor s.end ≡ true) (le : time_le s.end t ≡ true) where
  abbrev N : List (List Schema)
  N = schemas_of new

  abbrev O : List (List Schema)
  O = schemas_of old

  after-end : (u : Time) → time_lt t u ≡ true → time_le u s.end ≡ false
  after-end u lt = lt-not_le s.end u (le-lt-lt s.end t u le lt)

  at-place : (tables : List Table) (i : ℕ) → slice_get (schemas_of tables) i ≡ option_map (λ (x : Table). x.descriptors) (slice_get tables i)
  at-place tables i = slice_get-map (λ (x : Table). x.descriptors) tables i

  -- the descriptors at a place are those before and later ones
  placed : (i : ℕ) (r q : Option Table) → slice_get old i ≡ r → slice_get new i ≡ q
      → (more : List Schema) × (unwrap_or (slice_get N i) [] ≡ unwrap_or (slice_get O i) [] ++ more) × AreAfter s.end more
  placed i (Some table) q got there =
      let l = past.kept i table got in
      (l.2.schemas, rw (at-place new i, at-place old i, l.1, got) l.2.schemas_are, λ d has. after-end d.modified (l.2.schemas_after d has))
  placed i None None got there = ([], rw (at-place new i, at-place old i, there, got) refl, λ d no. absurd no)
  placed i None (Some table) got there = (table.descriptors, rw (at-place new i, at-place old i, there, got) refl, λ d has. after-end d.modified (past.added i table got there d has))

  longer : (id : ℕ) → (more : List Schema) × (descriptors_of N id ≡ descriptors_of O id ++ more) × AreAfter s.end more
  longer id = by (nat_lt id 100) refl
    where
      by : (b : Bool) → nat_lt id 100 ≡ b → (more : List Schema) × (descriptors_of N id ≡ descriptors_of O id ++ more) × AreAfter s.end more
      by true low = ([], rw low refl, λ d no. absurd no)
      by false high = rw high (placed (id - 100) (slice_get old (id - 100)) (slice_get new (id - 100)) refl refl)

  -- an id of the earlier tables
  abbrev IsOld : ℕ → Type 0
  IsOld id = (100 ≤ id) × (id < 100 + length old)

  old-table : (id : ℕ) → IsOld id → (table : Table) × (slice_get old (id - 100) ≡ Some table)
  old-table id is = by (slice_get old (id - 100)) refl
    where
      by : (r : Option Table) → slice_get old (id - 100) ≡ r → (table : Table) × (slice_get old (id - 100) ≡ Some table)
      by (Some table) got = (table, got)
      by None got = absurd (no-place old (id - 100) (let lo = is.0 in let hi = is.1 in omega (arith, lo, hi)) got)

  high : (id : ℕ) → IsOld id → nat_lt id 100 ≡ false
  high id is = let lo = is.0 in grind (arith, nat_tests)

  old-descriptors : (id : ℕ) → (is : IsOld id) → descriptors_of O id ≡ (old-table id is).0.descriptors
  old-descriptors id is = rw (high id is, at-place old (id - 100), (old-table id is).1) refl

  old-begun : (id : ℕ) → (is : IsOld id) → IsBegun (old-table id is).0
  old-begun id is = let o = old-table id is in begun (id - 100) o.0 o.1

  -- ---- members

  same-scope : (q : Scope) (id : ℕ) → IsOld id → is_in_scope N q id ≡ is_in_scope O q id
  same-scope (scope.Database name) id is =
      let l = longer id in
      ap (λ (o : Option Schema). unwrap_or (option_map (λ (d : Schema). bytes_eq d.database name) o) false)
      (ap (λ (ds : List Schema). slice_get ds 0) l.1 ∙ first-same (descriptors_of O id) l.0 (λ e. (old-begun id is).some (sym (old-descriptors id is) ∙ e)))
  same-scope (scope.Tables ids) id is = refl

  same-member : (id : ℕ) → is_member N s id ≡ is_member O s id
  same-member id = let l = longer id in ap (λ (ds : List Schema). is_member_over s.history s ds) l.1 ∙ member-longer s (descriptors_of O id) l.0 span l.2

  -- without descriptors a table is in no layer
  bare-member : (h : Bool) → is_member_over h s [] ≡ false
  bare-member false = refl
  bare-member true = ap (λ (a : Bool). a && (not (becomes_public_in [] s.start s.end) || (public_at [] s.floor || becomes_public_in [] s.floor s.end))) (never-in s.start s.end)

  more-tables : (k : ℕ) × (length new ≡ length old + k)
  more-tables = by (nat_lt (length new) (length old)) refl
    where
      by : (b : Bool) → nat_lt (length new) (length old) ≡ b → (k : ℕ) × (length new ≡ length old + k)
      by false fine = (length new - length old, let f : length old ≤ length new = grind (arith, nat_tests) in omega (arith, f))
      by true less =
          let l : length new < length old = grind (arith, nat_tests) in
          let got = slice_get-get_or old (length new) no-table l in
          let there = past.kept (length new) _ got in
          let within = slice_get_within new (length new) there.0 there.1 in
          absurd (omega (arith, within))

  length-schemas : (tables : List Table) → length (schemas_of tables) ≡ length tables
  length-schemas [] = refl
  length-schemas (x ∷ xs) = ap suc (length-schemas xs)

  -- a table that isn't among the earlier ones is no member
  never-member : (id : ℕ) → 100 + length old ≤ id → is_member N s id ≡ false
  never-member id past-end =
      let above : nat_lt id 100 ≡ false = grind (arith, nat_tests) in
      let none : slice_get old (id - 100) ≡ None = slice_get_past old (id - 100) (omega (arith, past-end)) in
      let nothing : descriptors_of O id ≡ [] = rw (above, at-place old (id - 100), none) refl in
      same-member id ∙ ap (λ (ds : List Schema). is_member_over s.history s ds) nothing ∙ bare-member s.history

  same-members : members_of N sc s ≡ members_of O sc s
  unfolding members_of scope_ids
  same-members =
      let k = more-tables.0 in
      let split : table_ids N ≡ range_with_len 100 (length old) ++ range_with_len (100 + length old) k =
      ap (range_with_len 100) (length-schemas new ∙ more-tables.1) ∙ range-append 100 (length old) k in
      let front : filter (is_member N s) (filter (is_in_scope N sc) (range_with_len 100 (length old))) ≡ filter (is_member O s) (filter (is_in_scope O sc) (range_with_len 100 (length old))) =
      filters-same (is_in_scope O sc) (is_member O s) (is_in_scope N sc) (is_member N s) (range_with_len 100 (length old))
      (all-weaker IsOld _ (λ id is. (same-scope sc id is, same-member id)) _ (range-all 100 (length old))) in
      let back : filter (is_member N s) (filter (is_in_scope N sc) (range_with_len (100 + length old) k)) ≡ [] =
      filters-none (is_in_scope N sc) (is_member N s) _ (all-weaker _ _ (λ id is. never-member id is.0) _ (range-all (100 + length old) k)) in
      ap (λ ids. filter (is_member N s) (filter (is_in_scope N sc) ids)) split
      ∙ ap (filter (is_member N s)) (filter-append (is_in_scope N sc) (range_with_len 100 (length old)) (range_with_len (100 + length old) k))
      ∙ filter-append (is_member N s) (filter (is_in_scope N sc) (range_with_len 100 (length old))) (filter (is_in_scope N sc) (range_with_len (100 + length old) k))
      ∙ ap (λ ids. filter (is_member N s) (filter (is_in_scope N sc) (range_with_len 100 (length old))) ++ ids) back
      ∙ append-nil _ ∙ front
      ∙ ap (λ (n : ℕ). filter (is_member O s) (filter (is_in_scope O sc) (range_with_len 100 n))) (sym (length-schemas old))

  -- each member is an earlier table, and passed the test
  old-members : AllByRecursion (λ id. IsOld id × (is_member O s id ≡ true)) (members_of O sc s)
  unfolding members_of scope_ids
  old-members = all-pass IsOld (is_member O s) _ (all-filter IsOld IsOld (is_in_scope O sc) (λ id is h. h) _
      (subst (λ (n : ℕ). AllByRecursion IsOld (range_with_len 100 n)) (sym (length-schemas old)) (range-all 100 (length old))))

  -- ---- plans

  same-plan : (id : ℕ) → table_plan N s id ≡ table_plan O s id
  unfolding table_plan
  same-plan id =
      let l = longer id in
      let b = is_introduced O s.start s.end id in
      let became : is_introduced N s.start s.end id ≡ b = ap (λ (ds : List Schema). becomes_public_in ds s.start s.end) l.1 ∙ became-longer s.start s.end (descriptors_of O id) l.0 l.2 in
      ap (λ (a : Bool). record { id = id; introduced = a; plan = plan_by s.history a s (descriptors_of N id); protected = protected_by s.history a s }) became
      ∙ ap (λ (p : Plan). record { id = id; introduced = b; plan = p; protected = protected_by s.history b s })
      (ap (λ (ds : List Schema). plan_by s.history b s ds) l.1 ∙ plan-longer s (descriptors_of O id) l.0 span l.2 s.history b)

  same-plans : plan_over N sc s ≡ plan_over O sc s
  same-plans = ap (λ (ps : List TablePlan). record { floor = s.floor; tables = ps })
      (map-same (table_plan N s) (table_plan O s) (members_of N sc s) (all-any same-plan (members_of N sc s)) ∙ ap (map (table_plan O s)) same-members)
    where
      all-any : ((id : ℕ) → table_plan N s id ≡ table_plan O s id) → (ids : List ℕ) → AllByRecursion (λ id. table_plan N s id ≡ table_plan O s id) ids
      all-any f [] = tt
      all-any f (id ∷ ids) = (f id, all-any f ids)

  -- ---- entries

  in-bytes : (id : ℕ) → (is : IsOld id) → (fs : List ByteFact) × ((bytes_of (rows_of new)).facts id ≡ (bytes_of (rows_of old)).facts id ++ fs) × ((f : ByteFact) → Has f fs → IsUntold (descriptors_of O id) t (date f))
  in-bytes id is =
      let o = old-table id is in
      let l = past.kept (id - 100) o.0 o.1 in
      let long = l.2 in
      let K = table_kinds o.0 in
      let kinds : table_kinds l.0 ≡ K = ap kinds_of long.schemas_are ∙ kinds-same o.0.descriptors long.schemas (old-begun id is).some in
      let here : (bytes_of (rows_of old)).facts id ≡ map (coded id K) o.0.facts = rw (high id is, o.1) refl in
      let there : (bytes_of (rows_of new)).facts id ≡ map (coded id (table_kinds l.0)) l.0.facts = rw (high id is, l.1) refl in (
        map (coded id K) long.facts,
        there ∙ ap (λ (ks : List Kind). map (coded id ks) l.0.facts) kinds ∙ ap (map (coded id K)) long.facts_are ∙ map-append (coded id K) o.0.facts long.facts
            ∙ ap (λ (fs : List ByteFact). fs ++ map (coded id K) long.facts) (sym here),
        λ f has. let h = has-map (coded id K) long.facts f has in
            let untold : IsUntold o.0.descriptors t (date h.0) = long.untold h.0 h.1 in
            let dated : date f ≡ date h.0 = ap date h.2 ∙ date-coded id K h.0 in
            subst (λ (u : Time). IsUntold (descriptors_of O id) t u) (sym dated) (subst (λ (ds : List Schema). IsUntold ds t (date h.0)) (sym (old-descriptors id is)) untold),
      )

  told : (id : ℕ) → IsOld id × (is_member O s id ≡ true) → IsToldAlike s old new (table_plan O s id)
  unfolding table_plan
  told id is =
      let b = in-bytes id is.0 in
      let l = longer id in
      let asc : ascend_after zero_time (descriptors_of O id) ≡ true = ap (ascend_after zero_time) (old-descriptors id is.0) ∙ (old-begun id is.0).ascend in
      record {
        entries = entries-more id (plan_by s.history (is_introduced O s.start s.end id) s (descriptors_of O id)) (bytes_of (rows_of old)) (bytes_of (rows_of new)) b.0 b.1
            (λ f has. unseen s (descriptors_of O id) (date f) asc span (λ x from upto. b.2 f has x from (le-trans x s.end t upto le)) is.1);
        descriptors = ap (λ (ds : List Schema). layer_descriptors s.history s.floor s.end ds) l.1 ∙ descriptors-longer s (descriptors_of O id) l.0 span l.2 s.history;
      }

  all-told : AllByRecursion (IsToldAlike s old new) (plan_over O sc s).tables
  all-told = all-map (IsToldAlike s old new) (table_plan O s) (members_of O sc s) (all-weaker _ _ told (members_of O sc s) old-members)

-- ---- a layer

-- a manifest from its parts and the pieces of its tables
abbrev told-by : LayerRecord → List TablePart → List (List (List Entry)) → Manifest
told-by r parts pieces = in_version r.version (record { cluster = r.cluster; job = r.job; full = r.full; start = r.start; end = r.end; floor = r.floor; history = r.history; scope = r.scope; tables = with_each parts pieces; version = 2 })

-- a layer from the same
abbrev made : LayerRecord → List TablePart → List (List (List Entry)) → stored.LayerObjects
made r parts pieces = layer_of (name_of_record r) (told-by r parts pieces) (in_a_row pieces)

module _ (t : Time) (old new : List Table) (r : LayerRecord) (begun : AreBegun old) (past : KeepsPast t old new) (span : time_le r.floor r.end ≡ true) (le : time_le r.end t ≡ true) where
  abbrev plans : List TablePlan
  plans = (plan_over (schemas_of old) r.scope (covers r)).tables

  same : plan_over (schemas_of new) r.scope (covers r) ≡ plan_over (schemas_of old) r.scope (covers r)
  same = same-plans t old new begun past r.scope (covers r) span le

  told-all : AllByRecursion (IsToldAlike (covers r) old new) plans
  told-all = all-told t old new begun past r.scope (covers r) span le

  all-pieces : map (pieces_of (bytes_of (rows_of new))) (plan_over (schemas_of new) r.scope (covers r)).tables ≡ map (pieces_of (bytes_of (rows_of old))) plans
  all-pieces =
      ap (λ (p : LayerPlan). map (pieces_of (bytes_of (rows_of new))) p.tables) same
      ∙ map-same (pieces_of (bytes_of (rows_of new))) (pieces_of (bytes_of (rows_of old))) plans (all-weaker _ _ (λ p is. ap (cut chunk_size) is.entries) plans told-all)

  all-parts : map (part_of (described new) r.history r.floor r.end) (plan_over (schemas_of new) r.scope (covers r)).tables ≡ map (part_of (described old) r.history r.floor r.end) plans
  all-parts =
      ap (λ (p : LayerPlan). map (part_of (described new) r.history r.floor r.end) p.tables) same
      ∙ map-same (part_of (described new) r.history r.floor r.end) (part_of (described old) r.history r.floor r.end) plans
      (all-weaker _ _ (λ p is. ap (λ (ds : List Schema). record { id = p.id; introduced = p.introduced; descriptors = ds; chunks = [] }) is.descriptors) plans told-all)

  final : IsFinal r old new
  unfolding objects_of plan_of
  final = record {
    plan = same;
    entries = all-weaker _ _ (λ p is. is.entries) plans told-all;
    bare = ap (λ (ps : List TablePart). record { cluster = r.cluster; job = r.job; full = r.full; start = r.start; end = r.end; floor = r.floor; history = r.history; scope = r.scope; tables = ps; version = 2 }) all-parts;
    manifest = ap (λ (ps : List TablePart). told-by r ps (map (pieces_of (bytes_of (rows_of new))) (plan_over (schemas_of new) r.scope (covers r)).tables)) all-parts
        ∙ ap (told-by r (map (part_of (described old) r.history r.floor r.end) plans)) all-pieces;
    objects = ap (λ (ps : List TablePart). made r ps (map (pieces_of (bytes_of (rows_of new))) (plan_over (schemas_of new) r.scope (covers r)).tables)) all-parts
        ∙ ap (made r (map (part_of (described old) r.history r.floor r.end) plans)) all-pieces;
  }

pub layers-final : LayersAreFinal
layers-final t old new r begun past span le = final t old new r begun past span le
