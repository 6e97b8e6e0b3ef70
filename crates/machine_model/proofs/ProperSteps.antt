-- What a step keeps of a proper machine, beside its order and its limits, and what its tests tell.
use Rattle.std.proofs.Common.{◌≡◌, ◌≢◌, inl, inr, ⊎_elim, ℕ, zero, suc, ◌+◌, ◌<◌, ◌≤◌, nat_lt, Bool, true, false, eqb, refl, sym, ap, subst, ◌∙◌, arith, List, [], ◌∷◌, ◌++◌, length, length-append, Option, Some, None, slice_get, slice_set, option_map, option_and_then, if◌then◌else◌, is_some}
use Rattle.std.specs.List.{AllByRecursion, position_or_len}
use Rattle.std.specs.Prelude.{position}
use Rattle.std.proofs.lemmas.Bool.{cases_Bool}
use Rattle.std.proofs.lemmas.Bool.Decides.{nat_tests}
use Rattle.std.proofs.lemmas.List.Sums.{sum_by-append, sum_by-cons}
use Rattle.mvcc_keys.specs.Times.{IsTime, Time, next, time_le, time_lt}
use Rattle.mvcc_keys.proofs.TimeOrder.{le-refl, le-trans}
use Rattle.table_descriptors.specs.Descriptors.{Schema}
use Rattle.table_descriptors.specs.Names.{is_name}
use Rattle.fact_model.specs.Facts.{date}
use Rattle.history_model.specs.Histories.{History, Table, Found, accepted, found_at, in_force, is_named, named, place_named, schemas_of}
use Rattle.schema_catalog.specs.declared.faults.CatalogFault.{CatalogFault}
use Rattle.schema_catalog.specs.Catalogs as catalogs
use Rattle.table_rows.specs.declared.faults.RowsFault.{RowsFault}
use Rattle.table_rows.specs.Checks as checks
use Rattle.reply_texts.specs.declared.refusals.Refusal.{Refusal}
use Rattle.reply_texts.specs.declared.refusals.Refusal.TheVariants.{NoSuchTable, TooManyEvents}
use Rattle.machine_model.specs.Machine.{Machine, Stepped, first_refusal, refusal_if, unless_refused, with_time, drawing, with_found, for_table}
use Rattle.machine_model.specs.Refusals.{catalog_refusal, rows_refusal}
use Rattle.machine_model.specs.TableRows.{room_refusal}
use Rattle.machine_model.specs.Proper.{IsProperHistory, IsProperTable, NoTwo, ShareName}
use Rattle.machine_model.specs.ProperMachines.{IsTableWithin}
use Rattle.machine_model.proofs.Lists.{got-set, got-set_other}
use Rattle.machine_model.proofs.Past.{next-later}
use Rattle.machine_model.proofs.ProperLists.{IsFree, got-split, two-set}

-- what a step keeps, beside order and limits
pub record HasProper (n : ℕ) (m : Machine) : Type 0 where
  pub history : IsProperHistory m.history
  pub tables : (i : ℕ) (table : Table) → slice_get m.history.tables i ≡ Some table → IsTableWithin (n + 1) m.clock table
  pub clock : IsTime m.clock

pub within-later : (n k : ℕ) (s t : Time) (table : Table) → n ≤ k → time_le s t ≡ true → IsTableWithin n s table → IsTableWithin k t table
within-later n k s t table more le is = record {
  facts = λ f has. le-trans (date f) s t (is.facts f has) le;
  versions = λ d has. let v = is.versions d has in omega (arith, v, more);
}

-- ---- tests

pub first-none : (o : Option Refusal) (os : List (Option Refusal)) → first_refusal (o ∷ os) ≡ None → (o ≡ None) × (first_refusal os ≡ None)
first-none None os e = (refl, e)
first-none (Some r) os e = cc e

pub not-refused : (b : Bool) (r : Refusal) → refusal_if b r ≡ None → b ≡ false
not-refused true r e = cc e
not-refused false r e = refl

-- a fault that there is refuses
abbrev pub Tells : {F : Type 0} → (Option F → Option Refusal) → Option F → Type 0
Tells refusal fault = refusal fault ≡ None → fault ≡ None

pub told-catalog : (fs : List (Option CatalogFault)) → AllByRecursion (Tells catalog_refusal) fs → catalog_refusal (catalogs.first_fault fs) ≡ None → catalogs.first_fault fs ≡ None
told-catalog [] told e = refl
told-catalog (None ∷ fs) told e = told-catalog fs told.1 e
told-catalog (Some x ∷ fs) told e = told.0 e

pub told-rows : (fs : List (Option RowsFault)) → AllByRecursion (Tells rows_refusal) fs → rows_refusal (checks.first_fault fs) ≡ None → checks.first_fault fs ≡ None
told-rows [] told e = refl
told-rows (None ∷ fs) told e = told-rows fs told.1 e
told-rows (Some x ∷ fs) told e = told.0 e

pub tells-map : {X F : Type 0} (refusal : Option F → Option Refusal) (f : X → F) → ((x : X) → refusal (Some (f x)) ≡ None → ⊥) → (o : Option X) → Tells refusal (option_map f o)
tells-map refusal f never None e = refl
tells-map refusal f never (Some x) e = absurd (never x e)

pub tells-if : {F : Type 0} (refusal : Option F → Option Refusal) (fault : F) → (refusal (Some fault) ≡ None → ⊥) → (b : Bool) → Tells refusal (if b then Some fault else None)
tells-if refusal fault never true e = absurd (never e)
tells-if refusal fault never false e = refl

pub fault-parts : (a : Option CatalogFault) (fs : List (Option CatalogFault)) → catalogs.first_fault (a ∷ fs) ≡ None → (a ≡ None) × (catalogs.first_fault fs ≡ None)
fault-parts None fs e = (refl, e)
fault-parts (Some x) fs e = cc e

pub fault-off : (b : Bool) (x : CatalogFault) → catalogs.fault_if b x ≡ None → b ≡ false
fault-off true x e = cc e
fault-off false x e = refl

pub has-room : (m : Machine) (more : ℕ) → room_refusal m more ≡ None → m.limits.events ≤ 1000000 → accepted m.history.tables + more ≤ 1000000
has-room m more e few = let l = not-refused (nat_lt m.limits.events (accepted m.history.tables + more)) TooManyEvents e in grind (arith, nat_tests, l, few)

-- ---- names

pub not-some : {X : Type 0} (o : Option X) → is_some o ≡ false → o ≡ None
not-some None e = refl
not-some (Some x) e = cc e

position-within : {X : Type 0} (p : X → Bool) (xs : List X) (j : ℕ) (x : X) → slice_get xs j ≡ Some x → p x ≡ true → position_or_len p xs < length xs
position-within p [] j x got is = cc got
position-within p (y ∷ ys) zero x got is = let same : y ≡ x = cc got in let t : p y ≡ true = ap p same ∙ is in rw t (omega arith)
position-within p (y ∷ ys) (suc j) x got is = elim (cases_Bool (p y)) [ inl t ↦ rw t (omega arith) | inr f ↦ (let rest = position-within p ys j x got is in rw f (omega (arith, rest))) ]

position-none : {X : Type 0} (p : X → Bool) (xs : List X) → position p xs ≡ None → (j : ℕ) (x : X) → slice_get xs j ≡ Some x → p x ≡ true → ⊥
position-none p xs none j x got is =
    let l = position-within p xs j x got is in
    let yes : nat_lt (position_or_len p xs) (length xs) ≡ true = grind (arith, nat_tests, l) in
    let no : Some (position_or_len p xs) ≡ None = rw yes at none in cc no

pub free-names : (tables : List Table) (t : Time) (name : List ℕ × List ℕ) → place_named (schemas_of tables) name t ≡ None → IsFree tables t name
free-names tables t name none j other got is = position-none (is_named name t) (schemas_of tables) none j other.descriptors (mapped tables j got) is
  where
    mapped : (ts : List Table) (i : ℕ) → slice_get ts i ≡ Some other → slice_get (schemas_of ts) i ≡ Some other.descriptors
    mapped [] i e = cc e
    mapped (z ∷ zs) zero e = let same : z ≡ other = cc e in ap (λ (x : Table). Some x.descriptors) same
    mapped (z ∷ zs) (suc i) e = mapped zs i e

-- ---- counts

pub length-set : {X : Type 0} (xs : List X) (i : ℕ) (y : X) → length (slice_set xs i y) ≡ length xs
length-set [] i y = refl
length-set (z ∷ zs) zero y = refl
length-set (z ∷ zs) (suc i) y = ap suc (length-set zs i y)

pub accepted-set : (tables : List Table) (i : ℕ) (old new : Table) (k : ℕ) → slice_get tables i ≡ Some old → length new.facts ≡ length old.facts + k → accepted (slice_set tables i new) ≡ accepted tables + k
accepted-set [] i old new k got more = cc got
accepted-set (z ∷ zs) zero old new k got more =
    let same : z ≡ old = cc got in
    let a = sum_by-cons (λ (t : Table). length t.facts) new zs in
    let b = sum_by-cons (λ (t : Table). length t.facts) z zs in
    let l = ap (λ (x : Table). length x.facts) same in
    omega (arith, a, b, l, more)
accepted-set (z ∷ zs) (suc i) old new k got more =
    let a = sum_by-cons (λ (t : Table). length t.facts) z (slice_set zs i new) in
    let b = sum_by-cons (λ (t : Table). length t.facts) z zs in
    let r = accepted-set zs i old new k got more in
    omega (arith, a, b, r)

pub accepted-more : (tables others : List Table) → accepted (tables ++ others) ≡ accepted tables + accepted others
accepted-more tables others = sum_by-append (λ (t : Table). length t.facts) tables others

-- ---- time

pub next-time : (s t : Time) → IsTime s → next s ≡ Some t → IsTime t
next-time s t is e = by (nat_lt s.logical 2147483647) refl e
  where
    by : (b : Bool) → nat_lt s.logical 2147483647 ≡ b → (if b then Some (record { wall = s.wall; logical = s.logical + 1 }) else None) ≡ Some t → IsTime t
    by true l f = let same : record { wall = s.wall; logical = s.logical + 1 } ≡ t = cc f in subst IsTime same (is.0, grind (arith, nat_tests, l))
    by false l f = cc f

-- ---- a table that was found

pub record IsFound (m : Machine) (t : Time) (f : Found) : Type 0 where
  pub got : slice_get m.history.tables f.place ≡ Some f.table
  pub force : in_force f.table.descriptors t ≡ Some f.schema

found-is : (m : Machine) (t : Time) (i : ℕ) (table : Table) (r : Option Schema) (f : Found) → slice_get m.history.tables i ≡ Some table → in_force table.descriptors t ≡ r
    → option_map (λ (d : Schema). record { place = i; table = table; schema = d }) r ≡ Some f → IsFound m t f
found-is m t i table None f got force e = cc e
found-is m t i table (Some d) f got force e =
    let same : record { place = i; table = table; schema = d } ≡ f = cc e in subst (IsFound m t) same (record { got = got; force = force })

found-in : (m : Machine) (t : Time) (i : ℕ) (r : Option Table) (f : Found) → slice_get m.history.tables i ≡ r → option_and_then (found_at i t) r ≡ Some f → IsFound m t f
found-in m t i None f got e = cc e
found-in m t i (Some table) f got e = found-is m t i table (in_force table.descriptors t) f got refl e

found-by : (m : Machine) (t : Time) (o : Option ℕ) (f : Found) → option_and_then (λ i. option_and_then (found_at i t) (slice_get m.history.tables i)) o ≡ Some f → IsFound m t f
found-by m t None f e = cc e
found-by m t (Some i) f e = found-in m t i (slice_get m.history.tables i) f refl e

-- ---- machines

module _ (n : ℕ) (m : Machine) (p : HasProper n m) where
  abbrev pub Keeps : Stepped → Type 0
  Keeps s = HasProper (n + 1) s.machine

  within : (t : Time) → time_le m.clock t ≡ true → (i : ℕ) (table : Table) → slice_get m.history.tables i ≡ Some table → IsTableWithin (n + 1 + 1) t table
  within t le i table got = within-later (n + 1) (n + 1 + 1) m.clock t table (omega arith) le (p.tables i table got)

  pub keeps-clock : (t : Time) → time_le m.clock t ≡ true → IsTime t → HasProper (n + 1) (record m { clock = t })
  keeps-clock t le time = record { history = p.history; tables = within t le; clock = time }

  pub keeps-all : (history : History) → IsProperHistory history → history.tables ≡ m.history.tables → HasProper (n + 1) (record m { history = history })
  keeps-all history proper same = record { history = proper; tables = λ i table got. within m.clock (le-refl m.clock) i table (ap (λ (ts : List Table). slice_get ts i) (sym same) ∙ got); clock = p.clock }

  pub keeps-same : HasProper (n + 1) m
  keeps-same = record { history = p.history; tables = within m.clock (le-refl m.clock); clock = p.clock }

  -- another table at a place
  pub keeps-set : (t : Time) (place : ℕ) (old new : Table) → time_le m.clock t ≡ true → IsTime t → slice_get m.history.tables place ≡ Some old → IsProperTable (100 + place) new → IsTableWithin (n + 1 + 1) t new
      → ((x : Time) → NoTwo (ShareName x) (slice_set m.history.tables place new)) → accepted (slice_set m.history.tables place new) ≤ 1000000
      → HasProper (n + 1) (record m { clock = t; history = record m.history { tables = slice_set m.history.tables place new } })
  keeps-set t place old new le time got proper in_new names events = record {
    history = record {
      tables = each (λ i x. IsProperTable (100 + i) x) proper p.history.tables;
      names = names;
      databases = p.history.databases;
      few = subst (λ (k : ℕ). k ≤ 4096) (sym (length-set m.history.tables place new)) p.history.few;
      events = events;
    };
    tables = each (λ i x. IsTableWithin (n + 1 + 1) t x) in_new (within t le);
    clock = time;
  }
    where
      each : (P : ℕ → Table → Type 0) → P place new → ((i : ℕ) (x : Table) → slice_get m.history.tables i ≡ Some x → P i x) → (i : ℕ) (x : Table) → slice_get (slice_set m.history.tables place new) i ≡ Some x → P i x
      each P is all i x there = elim (cases_Bool (eqb i place)) [
        | inl e ↦ (let same : i ≡ place = grind (arith, nat_tests, e) in
            let at : Some new ≡ Some x = sym (got-set m.history.tables place old new got) ∙ subst (λ (k : ℕ). slice_get (slice_set m.history.tables place new) k ≡ Some x) same there in
            let is-new : new ≡ x = cc at in subst (λ (k : ℕ). P k x) (sym same) (subst (P place) is-new is))
        | inr e ↦ (let other : i ≢ place = grind (arith, nat_tests, e) in all i x (sym (got-set_other m.history.tables place i new other) ∙ there))
      ]

  -- the same where the names are those of before
  pub names-stay : (place : ℕ) (old new : Table) → slice_get m.history.tables place ≡ Some old → new.descriptors ≡ old.descriptors → (x : Time) → NoTwo (ShareName x) (slice_set m.history.tables place new)
  names-stay place old new got same x = two-set (ShareName x) m.history.tables place old new got (p.history.names x)
      (λ j y there ne share. ne (p.history.names x j place y old there got (share.0, share.2, subst (λ (ds : List Schema). is_named share.0 x ds ≡ true) same share.1)))
      (λ j y there ne share. ne (p.history.names x j place y old there got (share.0, share.1, subst (λ (ds : List Schema). is_named share.0 x ds ≡ true) same share.2)))

  -- further tables
  pub keeps-more : (t : Time) (databases : List (List ℕ)) (others : List Table) → time_le m.clock t ≡ true → IsTime t → AllByRecursion (λ name. is_name name ≡ true) databases
      → ((k : ℕ) (x : Table) → slice_get others k ≡ Some x → IsProperTable (100 + (length m.history.tables + k)) x × IsTableWithin (n + 1 + 1) t x)
      → ((x : Time) → NoTwo (ShareName x) (m.history.tables ++ others)) → length m.history.tables + length others ≤ 4096 → accepted m.history.tables + accepted others ≤ 1000000
      → (new : Machine) → new.clock ≡ t → new.history ≡ record { databases = databases; tables = m.history.tables ++ others } → HasProper (n + 1) new
  keeps-more t databases others le time named all names few events new clock history = record {
    history = subst IsProperHistory (sym history) (record {
      tables = λ i x got. ⊎_elim (p.history.tables i x) (λ here. let at = here.1 in subst (λ (j : ℕ). IsProperTable (100 + j) x) (sym at) (all here.0 x here.2).0) (got-split m.history.tables others i x got);
      names = names;
      databases = named;
      few = let l = length-append m.history.tables others in omega (arith, l, few);
      events = subst (λ (k : ℕ). k ≤ 1000000) (sym (accepted-more m.history.tables others)) events;
    });
    tables = λ i x got. subst (λ (u : Time). IsTableWithin (n + 1 + 1) u x) (sym clock) (⊎_elim (within t le i x) (λ here. (all here.0 x here.2).1)
        (got-split m.history.tables others i x (ap (λ (h : History). slice_get h.tables i) (sym history) ∙ got)));
    clock = subst IsTime (sym clock) time;
  }

  pub unless-keeps : (o : Option Refusal) (change : Stepped) → (o ≡ None → Keeps change) → Keeps (unless_refused m o change)
  unless-keeps None change is = is refl
  unless-keeps (Some r) change is = keeps-same

  pub timed-keeps : (o : Option Time) (change : Time → Stepped) → ((t : Time) → o ≡ Some t → Keeps (change t)) → Keeps (with_time m o change)
  timed-keeps None change is = keeps-same
  timed-keeps (Some t) change is = is t refl

  pub drawing-keeps : (change : Time → Stepped) → ((t : Time) → time_lt m.clock t ≡ true → IsTime t → Keeps (change t)) → Keeps (drawing m change)
  drawing-keeps change is = timed-keeps (next m.clock) change (λ t e. is t (next-later m.clock t e) (next-time m.clock t p.clock e))

  pub found-keeps : (refusal : Refusal) {X : Type 0} (o : Option X) (change : X → Stepped) → ((x : X) → o ≡ Some x → Keeps (change x)) → Keeps (with_found m refusal o change)
  found-keeps refusal None change is = keeps-same
  found-keeps refusal (Some x) change is = is x refl

  pub table-keeps : (name : List ℕ × List ℕ) (t : Time) (change : Found → Stepped) → ((f : Found) → IsFound m t f → Keeps (change f)) → Keeps (for_table m name t change)
  table-keeps name t change is = found-keeps (NoSuchTable name) (named m.history.tables name t) change (λ f e. is f (found-by m t (place_named (schemas_of m.history.tables) name t) f e))
