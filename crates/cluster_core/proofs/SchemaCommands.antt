-- The commands on databases and tables: what their tests refuse, and what they leave where all pass.
use Rattle.std.proofs.Common.{◌≡◌, ℕ, ◌+◌, ◌-◌, ◌≤◌, Bool, refl, sym, ap, ◌∙◌, arith, List, [], ◌∷◌, length, Option, Some, None}
use Rattle.std.proofs.lemmas.List.{length-map}
use Rattle.mvcc_keys.specs.Times.{Time, next}
use Rattle.row_codec.specs.declared.rows.Kind.{Kind}
use Rattle.table_descriptors.specs.declared.changes.Change.{Change}
use Rattle.table_descriptors.specs.declared.changes.Change.TheVariants.{Become}
use Rattle.table_descriptors.specs.declared.columns.State.TheVariants.{Dropped}
use Rattle.table_descriptors.specs.Descriptors.{Schema, IsProperSchema, bad_change, changed_schema, new_schema}
use Rattle.history_model.specs.Histories.{Table}
use Rattle.schema_catalog.specs.declared.faults.CatalogFault.{CatalogFault}
use Rattle.schema_catalog.specs.Catalogs.{Schemas, database_fault, with_database, table_fault, next_id, first_schema, with_table, change_fault, drop_fault, dropped, with_descriptor}
use Rattle.reply_texts.specs.declared.refusals.Refusal.{Refusal}
use Rattle.reply_texts.specs.declared.refusals.Refusal.TheVariants.{NoSuchTable}
use Rattle.reply_texts.specs.declared.answers.Answer.TheVariants.{Plain, TableMade, TableChanged}
use Rattle.reply_texts.specs.declared.replies.Response.{Response}
use Rattle.machine_model.specs.Machine.{answered, judged, offline_refusal, catalog_of}
use Rattle.machine_model.specs.Refusals.{catalog_refusal}
use Rattle.machine_model.specs.Tables.{create_database, create_table, alter, drop_table, with_new_table, with_descriptor as with_described, redescribed}
use Rattle.cluster_core.specs.ClusterView.{ClusterState}
use Rattle.cluster_core.specs.Finding.{found_in}
use Rattle.cluster_core.specs.Standing.{Keeps, machine_of, IsStepped, Refuses}
use Rattle.mvcc_keys.proofs.TimeOrder.{le-refl}
use Rattle.machine_model.proofs.KeyKinds.{kinds-kept}
use Rattle.cluster_core.proofs.Kept.{in_force-has, redated, keeps-as, keeps-new, keeps-described}
use Rattle.machine_model.proofs.Past.{next-later}
use Rattle.cluster_core.proofs.Looking.{Sees, found_by, sees}
use Rattle.cluster_core.proofs.Flow.{draws, missing, finds, passes, stops, does, catalog-is}

-- ---- CREATE DATABASE

abbrev pub redefined : ClusterState → Schemas → ClusterState
redefined c schemas = record c { schemas = schemas }

pub database-made : (c : ClusterState) (name : List ℕ) → database_fault c.schemas name ≡ None → (tables : List Table) → Keeps c tables
    → IsStepped (redefined c (with_database c.schemas name)) (Response.Answered Plain) (create_database (machine_of c tables) name)
unfolding create_database
database-made c name fine tables k =
    does (redefined c (with_database c.schemas name)) tables Plain _ (keeps-as c (redefined c (with_database c.schemas name)) tables k refl refl refl (le-refl c.clock))
    (passes (machine_of c tables) (catalog_refusal (database_fault c.schemas name)) [] _ (ap catalog_refusal fine))

-- ---- CREATE TABLE

module _ (name : List ℕ × List ℕ) (columns : List (List ℕ × Kind)) (key : List (List ℕ × Bool)) (references : List (List ℕ × List ℕ)) where
  pub table-made : (c : ClusterState) (t : Time) (id : ℕ) (schemas : Schemas) → next c.clock ≡ Some t → table_fault c.schemas t name columns key references ≡ None → id ≡ next_id c.schemas
      → schemas ≡ with_table c.schemas (first_schema c.schemas t name columns key references) → (tables : List Table) → Keeps c tables
      → IsStepped (redated c schemas t) (Response.Answered (TableMade id t)) (create_table (machine_of c tables) name columns key references)
  unfolding create_table new_schema
  table-made c t id schemas draw fine id-is is tables k =
      let m = machine_of c tables in
      let d = first_schema c.schemas t name columns key references in
      let count : length c.schemas.tables ≡ length tables = ap length (sym k.schemas) ∙ length-map tables (λ (x : Table). x.descriptors) in
      let new = redated c (with_table c.schemas d) t in
      rw is (does new _ (TableMade id t) _
      (keeps-new c t tables d k (next-later c.clock t draw) (ap (λ (n : ℕ). 100 + n) count) refl)
      (draws m _ t draw ∙ (passes m (catalog_refusal (table_fault (catalog_of m) t name columns key references)) [] _ (ap (λ (s : Schemas). catalog_refusal (table_fault s t name columns key references)) (catalog-is c tables k) ∙ ap catalog_refusal fine)
      ∙ (ap (λ (s : Schemas). answered (with_new_table m (first_schema s t name columns key references)) (TableMade (next_id s) t)) (catalog-is c tables k)
      ∙ ap (λ (i : ℕ). answered (with_new_table m d) (TableMade i t)) (sym id-is)))))

pub first-version : (s : Schemas) (t : Time) (name : List ℕ × List ℕ) (columns : List (List ℕ × Kind)) (key : List (List ℕ × Bool)) (references : List (List ℕ × List ℕ)) → (first_schema s t name columns key references).version ≡ 1
unfolding new_schema
first-version s t name columns key references = refl

-- ---- ALTER TABLE

fine-change : (s : Schemas) (t : Time) (d : Schema) (change : Change) → change_fault s t d change ≡ None → bad_change d change ≡ None
unfolding change_fault
fine-change s t d change e = by (bad_change d change) refl
  where
    by : (r : Option ℕ) → bad_change d change ≡ r → r ≡ None
    by None is = refl
    by (Some which) is = let no : Some (CatalogFault.BadSchema which) ≡ None = rw is at e in cc no

pub next_version : (d : Schema) (change : Change) (at : Time) (n m : ℕ) → d.version ≤ n → n + 1 ≤ m → (changed_schema d change at).version ≤ m
unfolding changed_schema
next_version d change at n m bound less = omega (arith, bound, less)

module _ (name : List ℕ × List ℕ) (change : Change) where
  pub alter-missing : (c : ClusterState) (t : Time) → next c.clock ≡ Some t → found_in c.schemas name t ≡ None → Refuses c (λ m. alter m name change) (NoSuchTable name)
  unfolding alter
  alter-missing c t draw e tables k = draws (machine_of c tables) _ t draw ∙ missing c tables name t _ k e

  reach : (c : ClusterState) (tables : List Table) (t : Time) (id : ℕ) (d : Schema) → next c.clock ≡ Some t → Keeps c tables → (w : Sees tables name t id d)
      → alter (machine_of c tables) name change
      ≡ judged (machine_of c tables) (offline_refusal name d ∷ catalog_refusal (change_fault c.schemas t d change) ∷ []) (redescribed (machine_of c tables) (found_by name tables t id d w) (changed_schema d change t))
  unfolding alter
  reach c tables t id d draw k w =
      let m = machine_of c tables in
      draws m _ t draw ∙ (finds c tables name t id d _ k w
      ∙ ap (λ (s : Schemas). judged m (offline_refusal name d ∷ catalog_refusal (change_fault s t d change) ∷ []) (redescribed m (found_by name tables t id d w) (changed_schema d change t))) (catalog-is c tables k))

  pub alter-offline : (c : ClusterState) (t : Time) (id : ℕ) (d : Schema) → next c.clock ≡ Some t → found_in c.schemas name t ≡ Some (id, d)
      → (refusal : Refusal) → offline_refusal name d ≡ Some refusal → Refuses c (λ m. alter m name change) refusal
  alter-offline c t id d draw found refusal e tables k =
      reach c tables t id d draw k (sees c.schemas tables name t k.schemas id d found) ∙ stops (machine_of c tables) (offline_refusal name d) _ _ refusal e

  pub alter-refused : (c : ClusterState) (t : Time) (id : ℕ) (d : Schema) → next c.clock ≡ Some t → found_in c.schemas name t ≡ Some (id, d) → offline_refusal name d ≡ None
      → (refusal : Refusal) → catalog_refusal (change_fault c.schemas t d change) ≡ Some refusal → Refuses c (λ m. alter m name change) refusal
  alter-refused c t id d draw found public refusal e tables k =
      let m = machine_of c tables in
      reach c tables t id d draw k (sees c.schemas tables name t k.schemas id d found) ∙ (passes m (offline_refusal name d) _ _ public ∙ stops m (catalog_refusal (change_fault c.schemas t d change)) [] _ refusal e)

  pub alter-made : (c : ClusterState) (t : Time) (id : ℕ) (d : Schema) (schemas : Schemas) (version : ℕ) → next c.clock ≡ Some t → found_in c.schemas name t ≡ Some (id, d) → IsProperSchema d → offline_refusal name d ≡ None → change_fault c.schemas t d change ≡ None
      → schemas ≡ with_descriptor c.schemas (id - 100) (changed_schema d change t) → version ≡ d.version + 1
      → (tables : List Table) → Keeps c tables → IsStepped (redated c schemas t) (Response.Answered (TableChanged id version t)) (alter (machine_of c tables) name change)
  unfolding changed_schema
  alter-made c t id d schemas version draw found-is proper public fine is version-is tables k =
      let m = machine_of c tables in
      let e = changed_schema d change t in
      let w = sees c.schemas tables name t k.schemas id d found-is in
      let o = k.orderly w.place w.table w.got in
      let place : id - 100 ≡ w.place = omega (arith, w.id_is) in
      let same : w.table.id ≡ id = o.id_is ∙ sym w.id_is in
      let new = redated c (with_descriptor c.schemas (id - 100) e) t in
      rw (is, version-is) (does new _ (TableChanged id (d.version + 1) t) _
      (rw place (keeps-described c t tables w.place w.table d e k w.got (next-later c.clock t draw) (in_force-has w.table.descriptors t d w.force) refl (kinds-kept d change t proper (fine-change c.schemas t d change fine)) refl refl))
      (reach c tables t id d draw k w ∙ (passes m (offline_refusal name d) _ _ public ∙ (passes m (catalog_refusal (change_fault c.schemas t d change)) [] _ (ap catalog_refusal fine)
      ∙ ap (λ (i : ℕ). answered (with_described m (found_by name tables t id d w) e) (TableChanged i (d.version + 1) t)) same))))

-- ---- DROP TABLE

module _ (name : List ℕ × List ℕ) where
  pub drop-missing : (c : ClusterState) (t : Time) → next c.clock ≡ Some t → found_in c.schemas name t ≡ None → Refuses c (λ m. drop_table m name) (NoSuchTable name)
  unfolding drop_table
  drop-missing c t draw e tables k = draws (machine_of c tables) _ t draw ∙ missing c tables name t _ k e

  dropped-reach : (c : ClusterState) (tables : List Table) (t : Time) (id : ℕ) (d : Schema) → next c.clock ≡ Some t → Keeps c tables → (w : Sees tables name t id d)
      → drop_table (machine_of c tables) name
      ≡ judged (machine_of c tables) (catalog_refusal (drop_fault c.schemas t (id ∷ [])) ∷ []) (redescribed (machine_of c tables) (record { place = w.place; table = w.table; schema = d }) (dropped d t))
  unfolding drop_table
  dropped-reach c tables t id d draw k w =
      let m = machine_of c tables in
      let same : w.table.id ≡ id = (k.orderly w.place w.table w.got).id_is ∙ sym w.id_is in
      draws m _ t draw ∙ (finds c tables name t id d _ k w
      ∙ (ap (λ (s : Schemas). judged m (catalog_refusal (drop_fault s t (w.table.id ∷ [])) ∷ []) (redescribed m (record { place = w.place; table = w.table; schema = d }) (dropped d t))) (catalog-is c tables k)
      ∙ ap (λ (i : ℕ). judged m (catalog_refusal (drop_fault c.schemas t (i ∷ [])) ∷ []) (redescribed m (record { place = w.place; table = w.table; schema = d }) (dropped d t))) same))

  pub drop-refused : (c : ClusterState) (t : Time) (id : ℕ) (d : Schema) → next c.clock ≡ Some t → found_in c.schemas name t ≡ Some (id, d)
      → (refusal : Refusal) → catalog_refusal (drop_fault c.schemas t (id ∷ [])) ≡ Some refusal → Refuses c (λ m. drop_table m name) refusal
  drop-refused c t id d draw found refusal e tables k =
      dropped-reach c tables t id d draw k (sees c.schemas tables name t k.schemas id d found) ∙ stops (machine_of c tables) (catalog_refusal (drop_fault c.schemas t (id ∷ []))) [] _ refusal e

  pub drop-made : (c : ClusterState) (t : Time) (id : ℕ) (d : Schema) (schemas : Schemas) → next c.clock ≡ Some t → found_in c.schemas name t ≡ Some (id, d) → IsProperSchema d → drop_fault c.schemas t (id ∷ []) ≡ None
      → schemas ≡ with_descriptor c.schemas (id - 100) (dropped d t) → (tables : List Table) → Keeps c tables
      → IsStepped (redated c schemas t) (Response.Answered (TableChanged id (d.version + 1) t)) (drop_table (machine_of c tables) name)
  unfolding changed_schema
  drop-made c t id d schemas draw found-is proper fine is tables k =
      let m = machine_of c tables in
      let e = dropped d t in
      let w = sees c.schemas tables name t k.schemas id d found-is in
      let o = k.orderly w.place w.table w.got in
      let place : id - 100 ≡ w.place = omega (arith, w.id_is) in
      let same : w.table.id ≡ id = o.id_is ∙ sym w.id_is in
      let new = redated c (with_descriptor c.schemas (id - 100) e) t in
      rw is (does new _ (TableChanged id (d.version + 1) t) _
      (rw place (keeps-described c t tables w.place w.table d e k w.got (next-later c.clock t draw) (in_force-has w.table.descriptors t d w.force) refl (kinds-kept d (Become Dropped) t proper refl) refl refl))
      (dropped-reach c tables t id d draw k w ∙ (passes m (catalog_refusal (drop_fault c.schemas t (id ∷ []))) [] _ (ap catalog_refusal fine)
      ∙ ap (λ (i : ℕ). answered (with_described m (record { place = w.place; table = w.table; schema = d }) e) (TableChanged i (d.version + 1) t)) same)))
