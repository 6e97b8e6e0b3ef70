-- The commands that add facts: what their tests refuse, and what they leave where all pass.
use Rattle.std.proofs.Common.{◌≡◌, inl, inr, ℕ, ◌+◌, nat_lt, refl, sym, ap, ◌∙◌, subst, List, [], ◌∷◌, map, slice_set, length, Option, Some, None}
use Rattle.mvcc_keys.specs.Times.{Time, next}
use Rattle.row_codec.specs.declared.rows.Kind.{Kind}
use Rattle.table_descriptors.specs.Descriptors.{Schema, key_kinds}
use Rattle.fact_model.specs.Facts.{date}
use Rattle.list_laws.specs.Members.{Has}
use Rattle.history_model.specs.Rows.{RowFact}
use Rattle.history_model.specs.Histories.{Table}
use Rattle.version_store.specs.MapHolding.{KeepsAll}
use Rattle.version_store.specs.declared.mvcc_map.MvccMap.{MvccMap}
use Rattle.table_rows.specs.declared.faults.RowsFault.{RowsFault}
use Rattle.table_rows.specs.RowTables.{RowTables, HasRows, IsTableOf, MayAdd, MayAddAll, with_facts}
use Rattle.reply_texts.specs.declared.refusals.Refusal.{Refusal}
use Rattle.reply_texts.specs.declared.refusals.Refusal.TheVariants.{NoSuchTable, TooManyEvents}
use Rattle.reply_texts.specs.declared.answers.Answer.{Answer}
use Rattle.reply_texts.specs.declared.replies.Response.{Response}
use Rattle.machine_model.specs.Machine.{Machine, Stepped, answered, judged, refusal_if, offline_refusal}
use Rattle.machine_model.specs.Refusals.{rows_refusal}
use Rattle.machine_model.specs.TableRows.{adding, with_facts as with_rows, room_refusal, extended}
use Rattle.cluster_core.specs.ClusterView.{ClusterState}
use Rattle.cluster_core.specs.Finding.{found_in}
use Rattle.layer_objects.specs.Storable.{IsSized}
use Rattle.layer_objects.specs.Objects.{rows_of, table_kinds, by_id}
use Rattle.cluster_core.specs.Standing.{Keeps, machine_of, IsStepped, Refuses}
use Rattle.cluster_core.proofs.Tables.{by_id-at}
use Rattle.cluster_core.proofs.Kept.{in_force-has, grown, keeps-more, may-add}
use Rattle.machine_model.proofs.Past.{next-later}
use Rattle.cluster_core.proofs.Looking.{Sees, found_by, sees}
use Rattle.cluster_core.proofs.Flow.{draws, missing, finds, passes, stops, does}

module _ (name : List ℕ × List ℕ) (fault : Schema → Option RowsFault) (facts : Schema → Time → List RowFact) (answer : Time → Answer) where
  abbrev pub means : Machine → Stepped
  means m = adding m name fault facts answer

  pub adds-missing : (c : ClusterState) (t : Time) → next c.clock ≡ Some t → found_in c.schemas name t ≡ None → Refuses c means (NoSuchTable name)
  adds-missing c t draw e tables k = draws (machine_of c tables) _ t draw ∙ missing c tables name t _ k e

  abbrev tests : (c : ClusterState) (tables : List Table) (t : Time) (d : Schema) → List (Option Refusal)
  tests c tables t d = offline_refusal name d ∷ rows_refusal (fault d) ∷ room_refusal (machine_of c tables) (length (facts d t)) ∷ []

  reach : (c : ClusterState) (tables : List Table) (t : Time) (id : ℕ) (d : Schema) → next c.clock ≡ Some t → Keeps c tables → (w : Sees tables name t id d)
      → means (machine_of c tables) ≡ judged (machine_of c tables) (tests c tables t d) (answered (with_rows (machine_of c tables) (found_by name tables t id d w) (facts d t) t) (answer t))
  reach c tables t id d draw k w = draws (machine_of c tables) _ t draw ∙ finds c tables name t id d _ k w

  pub adds-offline : (c : ClusterState) (t : Time) (id : ℕ) (d : Schema) → next c.clock ≡ Some t → found_in c.schemas name t ≡ Some (id, d)
      → (refusal : Refusal) → offline_refusal name d ≡ Some refusal → Refuses c means refusal
  adds-offline c t id d draw found refusal e tables k =
      let m = machine_of c tables in
      reach c tables t id d draw k (sees c.schemas tables name t k.schemas id d found) ∙ stops m (offline_refusal name d) _ _ refusal e

  pub adds-fault : (c : ClusterState) (t : Time) (id : ℕ) (d : Schema) → next c.clock ≡ Some t → found_in c.schemas name t ≡ Some (id, d) → offline_refusal name d ≡ None
      → (refusal : Refusal) → rows_refusal (fault d) ≡ Some refusal → Refuses c means refusal
  adds-fault c t id d draw found public refusal e tables k =
      let m = machine_of c tables in
      reach c tables t id d draw k (sees c.schemas tables name t k.schemas id d found) ∙ (passes m (offline_refusal name d) _ _ public ∙ stops m (rows_refusal (fault d)) _ _ refusal e)

  room-is : (c : ClusterState) (tables : List Table) (n : ℕ) (t : Time) (d : Schema) → Keeps c tables → length (facts d t) ≡ n
      → room_refusal (machine_of c tables) (length (facts d t)) ≡ refusal_if (nat_lt c.most_events (c.events + n)) TooManyEvents
  room-is c tables n t d k len = rw (k.events, len) refl

  pub adds-room : (c : ClusterState) (t : Time) (id : ℕ) (d : Schema) (n : ℕ) → next c.clock ≡ Some t → found_in c.schemas name t ≡ Some (id, d) → offline_refusal name d ≡ None → fault d ≡ None
      → length (facts d t) ≡ n → (refusal : Refusal) → refusal_if (nat_lt c.most_events (c.events + n)) TooManyEvents ≡ Some refusal → Refuses c means refusal
  adds-room c t id d n draw found public fine len refusal e tables k =
      let m = machine_of c tables in
      reach c tables t id d draw k (sees c.schemas tables name t k.schemas id d found)
      ∙ (passes m (offline_refusal name d) _ _ public ∙ (passes m (rows_refusal (fault d)) _ _ (ap rows_refusal fine) ∙ stops m (room_refusal m (length (facts d t))) [] _ refusal (room-is c tables n t d k len ∙ e)))

  pub adds-done : (c : ClusterState) (store : MvccMap) (t : Time) (id : ℕ) (d : Schema) (n : ℕ) → next c.clock ≡ Some t → found_in c.schemas name t ≡ Some (id, d) → offline_refusal name d ≡ None → fault d ≡ None
      → length (facts d t) ≡ n → refusal_if (nat_lt c.most_events (c.events + n)) TooManyEvents ≡ None → ((f : RowFact) → Has f (facts d t) → date f ≡ t) → ((f : RowFact) → Has f (facts d t) → IsSized (key_kinds d) f)
      → ((T : RowTables) → HasRows (λ h. KeepsAll c.store.tables.entries h) T → IsTableOf T d → MayAddAll T d.id (facts d t) → HasRows (λ h. KeepsAll store.tables.entries h) (with_facts d.id (facts d t) T))
      → (tables : List Table) → Keeps c tables → IsStepped (grown c store t n) (Response.Answered (answer t)) (means (machine_of c tables))
  adds-done c store t id d n draw found public fine len room dated sized adds tables k =
      let m = machine_of c tables in
      let w = sees c.schemas tables name t k.schemas id d found in
      let own = (k.orderly w.place w.table w.got).schemas d (in_force-has w.table.descriptors t d w.force) in
      let kinds : by_id [] table_kinds tables d.id ≡ table_kinds w.table = subst (λ (i : ℕ). by_id [] table_kinds tables i ≡ table_kinds w.table) (sym own.id_is) (by_id-at [] table_kinds tables w.place w.table w.got) in
      let lt = next-later c.clock t draw in
      let fresh : MayAddAll (rows_of tables) d.id (facts d t) = (λ f has. subst (λ (i : ℕ). MayAdd (rows_of tables) i f) (sym own.id_is) (may-add c t tables w.place w.table f k w.got lt (dated f has))) in
      let has = adds (rows_of tables) k.rows (kinds ∙ own.kinds_are) fresh in
      let has' : HasRows (λ h. KeepsAll store.tables.entries h) (with_facts (100 + w.place) (facts d t) (rows_of tables)) = subst (λ (i : ℕ). HasRows (λ h. KeepsAll store.tables.entries h) (with_facts i (facts d t) (rows_of tables))) own.id_is has in
      does (grown c store t n) (slice_set tables w.place (extended w.table (facts d t))) (answer t) _
      (subst (λ (x : ℕ). Keeps (grown c store t x) (slice_set tables w.place (extended w.table (facts d t)))) len (keeps-more c store t tables w.place w.table (facts d t) k w.got lt dated (λ f is. subst (λ (ks : List Kind). IsSized ks f) (sym own.kinds_are) (sized f is)) has'))
      (reach c tables t id d draw k w
      ∙ (passes m (offline_refusal name d) _ _ public ∙ (passes m (rows_refusal (fault d)) _ _ (ap rows_refusal fine) ∙ passes m (room_refusal m (length (facts d t))) [] _ (room-is c tables n t d k len ∙ room))))

-- ---- dates

pub map-dated : {X : Type 0} (g : X → RowFact) (t : Time) → ((x : X) → date (g x) ≡ t) → (xs : List X) (f : RowFact) → Has f (map g xs) → date f ≡ t
map-dated g t all [] f has = absurd has
map-dated g t all (x ∷ xs) f (inl is) = ap date is ∙ all x
map-dated g t all (x ∷ xs) f (inr has) = map-dated g t all xs f has
