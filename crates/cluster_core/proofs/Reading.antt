-- SELECT, GC and TICK: what their tests refuse, and what they answer where all pass.
use Rattle.std.proofs.Common.{◌≡◌, ℕ, ◌+◌, Bool, true, false, not, refl, sym, ap, ◌∙◌, subst, List, [], ◌∷◌, Option, Some, None, unwrap_or, slice_set, Err}
use Rattle.mvcc_keys.specs.Times.{Time, time, time_lt, zero_time}
use Rattle.row_codec.specs.declared.rows.Datum.{Datum}
use Rattle.table_descriptors.specs.Descriptors.{Schema, key_kinds}
use Rattle.row_codec.specs.RowOrder.{row_cmp}
use Rattle.fact_model.specs.Scans.{scan}
use Rattle.history_model.specs.Rows.{RowFact, shown_rows}
use Rattle.history_model.specs.Histories.{Table}
use Rattle.version_store.specs.MapHolding.{KeepsAll}
use Rattle.version_store.specs.declared.mvcc_map.MvccMap.{MvccMap}
use Rattle.table_rows.specs.declared.faults.SelectFault.{SelectFault}
use Rattle.table_rows.specs.RowTables.{RowTables, HasRows, IsTableOf, with_threshold}
use Rattle.table_rows.specs.Checks.{rows_at as row_list, Shows, items_of}
use Rattle.cluster_core.specs.Halting.{halt_of_select}
use Rattle.reply_texts.specs.declared.refusals.Refusal.{Refusal}
use Rattle.reply_texts.specs.declared.refusals.Refusal.TheVariants.{NoSuchTable, Collected, Future, TickBack}
use Rattle.reply_texts.specs.declared.answers.Answer.TheVariants.{RowsShown, ThresholdRaised, ClockSet}
use Rattle.reply_texts.specs.declared.replies.Response.{Response}
use Rattle.machine_model.specs.Machine.{answered, judged, offline_refusal, refusal_if, for_table}
use Rattle.machine_model.specs.Tables.{tick}
use Rattle.machine_model.specs.TableRows.{select, select_at, collect, future_refusal, collected_refusal, rows_at, raised, with_threshold as with_raised}
use Rattle.cluster_core.specs.ClusterView.{ClusterState}
use Rattle.cluster_core.specs.Finding.{found_in}
use Rattle.layer_objects.specs.Objects.{rows_of, table_kinds, table_facts, table_threshold, by_id}
use Rattle.cluster_core.specs.Standing.{Keeps, machine_of, IsStepped, Refuses, Does}
use Rattle.machine_model.proofs.Lists.{got-set}
use Rattle.cluster_core.proofs.Tables.{by_id-at}
use Rattle.mvcc_keys.proofs.TimeOrder.{lt-le}
use Rattle.cluster_core.proofs.Kept.{in_force-has, restored, keeps-as, keeps-raised}
use Rattle.cluster_core.proofs.Looking.{Sees, found_by, sees}
use Rattle.cluster_core.proofs.Flow.{missing, finds, passes, stops, does}

-- the table of a cluster's rows is that of its machine
module _ (c : ClusterState) (tables : List Table) (name : List ℕ × List ℕ) (t : Time) (id : ℕ) (d : Schema) (k : Keeps c tables) (w : Sees tables name t id d) where
  own-id : d.id ≡ 100 + w.place
  own-id = ((k.orderly w.place w.table w.got).schemas d (in_force-has w.table.descriptors t d w.force)).id_is

  pub table-id : w.table.id ≡ id
  table-id = (k.orderly w.place w.table w.got).id_is ∙ sym w.id_is

  pub is-table : IsTableOf (rows_of tables) d
  is-table = subst (λ (i : ℕ). by_id [] table_kinds tables i ≡ key_kinds d) (sym own-id) (by_id-at [] table_kinds tables w.place w.table w.got ∙ ((k.orderly w.place w.table w.got).schemas d (in_force-has w.table.descriptors t d w.force)).kinds_are)

  pub facts-are : by_id [] table_facts tables d.id ≡ w.table.facts
  facts-are = subst (λ (i : ℕ). by_id [] table_facts tables i ≡ w.table.facts) (sym own-id) (by_id-at [] table_facts tables w.place w.table w.got)

  pub threshold-is : by_id zero_time table_threshold tables d.id ≡ w.table.threshold
  threshold-is = subst (λ (i : ℕ). by_id zero_time table_threshold tables i ≡ w.table.threshold) (sym own-id) (by_id-at zero_time table_threshold tables w.place w.table w.got)

-- ---- SELECT

module _ (name : List ℕ × List ℕ) (at : Option Time) (t : Time) where
  means : (c : ClusterState) (tables : List Table) → t ≡ unwrap_or at c.clock → select (machine_of c tables) name at ≡ select_at (machine_of c tables) name t
  unfolding select
  means c tables is = ap (select_at (machine_of c tables) name) (sym is)

  past : (c : ClusterState) (tables : List Table) → t ≡ unwrap_or at c.clock → refusal_if (time_lt c.clock t) (Future c.clock) ≡ None
      → select (machine_of c tables) name at ≡ for_table (machine_of c tables) name t (λ f. judged (machine_of c tables) (offline_refusal name f.schema ∷ collected_refusal f.table t ∷ []) (answered (machine_of c tables) (RowsShown (rows_at f t))))
  past c tables is e = means c tables is ∙ passes (machine_of c tables) (future_refusal (machine_of c tables) t) [] _ e

  pub select-missing : (c : ClusterState) → t ≡ unwrap_or at c.clock → refusal_if (time_lt c.clock t) (Future c.clock) ≡ None → found_in c.schemas name t ≡ None → Refuses c (λ m. select m name at) (NoSuchTable name)
  select-missing c is p e tables k = past c tables is p ∙ missing c tables name t _ k e

  reach : (c : ClusterState) (tables : List Table) (id : ℕ) (d : Schema) → t ≡ unwrap_or at c.clock → refusal_if (time_lt c.clock t) (Future c.clock) ≡ None → Keeps c tables → (w : Sees tables name t id d)
      → select (machine_of c tables) name at ≡ judged (machine_of c tables) (offline_refusal name d ∷ collected_refusal w.table t ∷ []) (answered (machine_of c tables) (RowsShown (rows_at (found_by name tables t id d w) t)))
  reach c tables id d is p k w = past c tables is p ∙ finds c tables name t id d _ k w

  pub select-offline : (c : ClusterState) (id : ℕ) (d : Schema) → t ≡ unwrap_or at c.clock → refusal_if (time_lt c.clock t) (Future c.clock) ≡ None → found_in c.schemas name t ≡ Some (id, d)
      → (refusal : Refusal) → offline_refusal name d ≡ Some refusal → Refuses c (λ m. select m name at) refusal
  select-offline c id d is p found refusal e tables k =
      reach c tables id d is p k (sees c.schemas tables name t k.schemas id d found) ∙ stops (machine_of c tables) (offline_refusal name d) _ _ refusal e

  pub select-collected : (c : ClusterState) (id : ℕ) (d : Schema) (threshold : Time) → t ≡ unwrap_or at c.clock → refusal_if (time_lt c.clock t) (Future c.clock) ≡ None → found_in c.schemas name t ≡ Some (id, d) → offline_refusal name d ≡ None
      → ((T : RowTables) → HasRows (λ h. KeepsAll c.store.tables.entries h) T → IsTableOf T d → (time_lt t (T.threshold d.id) ≡ true) × (threshold ≡ T.threshold d.id))
      → Refuses c (λ m. select m name at) (Collected id threshold)
  select-collected c id d threshold is p found public shows tables k =
      let m = machine_of c tables in
      let w = sees c.schemas tables name t k.schemas id d found in
      let s = shows (rows_of tables) k.rows (is-table c tables name t id d k w) in
      let own = threshold-is c tables name t id d k w in
      let before : time_lt t w.table.threshold ≡ true = subst (λ (x : Time). time_lt t x ≡ true) own s.0 in
      let same : threshold ≡ w.table.threshold = s.1 ∙ own in
      reach c tables id d is p k w ∙ (passes m (offline_refusal name d) _ _ public ∙ stops m (collected_refusal w.table t) [] _ (Collected id threshold) (rw (before, table-id c tables name t id d k w, same) refl))

  pub select-shown : (c : ClusterState) (id : ℕ) (d : Schema) (rows : List (List Datum)) → t ≡ unwrap_or at c.clock → refusal_if (time_lt c.clock t) (Future c.clock) ≡ None → found_in c.schemas name t ≡ Some (id, d) → offline_refusal name d ≡ None
      → ((T : RowTables) → HasRows (λ h. KeepsAll c.store.tables.entries h) T → IsTableOf T d → (time_lt t (T.threshold d.id) ≡ false) × (rows ≡ row_list T d t))
      → (tables : List Table) → Keeps c tables → IsStepped c (Response.Answered (RowsShown rows)) (select (machine_of c tables) name at)
  select-shown c id d rows is p found-is public shows tables k =
      let m = machine_of c tables in
      let w = sees c.schemas tables name t k.schemas id d found-is in
      let s = shows (rows_of tables) k.rows (is-table c tables name t id d k w) in
      let fine : collected_refusal w.table t ≡ None = (let f : time_lt t w.table.threshold ≡ false = subst (λ (x : Time). time_lt t x ≡ false) (threshold-is c tables name t id d k w) s.0 in rw f refl) in
      does c tables (RowsShown rows) _ k
      (reach c tables id d is p k w ∙ (passes m (offline_refusal name d) _ _ public ∙ (passes m (collected_refusal w.table t) [] _ fine
      ∙ ap (λ (xs : List (List Datum)). answered m (RowsShown xs)) (ap (λ (fs : List RowFact). shown_rows d (scan (row_cmp (key_kinds d)) t fs)) (sym (facts-are c tables name t id d k w)) ∙ sym s.1))))

  -- a read that isn't shown is refused by the threshold, unless memory was wanting
  pub select-fault : (c : ClusterState) (id : ℕ) (d : Schema) (fault : SelectFault) → t ≡ unwrap_or at c.clock → refusal_if (time_lt c.clock t) (Future c.clock) ≡ None → found_in c.schemas name t ≡ Some (id, d) → offline_refusal name d ≡ None
      → ((T : RowTables) → HasRows (λ h. KeepsAll c.store.tables.entries h) T → IsTableOf T d → Shows T d t (items_of (Err fault))) → Does c c (λ m. select m name at) (Err (halt_of_select id fault))
  select-fault c id d (SelectFault.Collected threshold) is p found public shows = (refl, select-collected c id d threshold is p found public shows)
  select-fault c id d SelectFault.Memory is p found public shows = tt

-- ---- GC

module _ (name : List ℕ × List ℕ) (g : Time) where
  pub collect-missing : (c : ClusterState) → found_in c.schemas name c.clock ≡ None → Refuses c (λ m. collect m name g) (NoSuchTable name)
  unfolding collect
  collect-missing c e tables k = missing c tables name c.clock _ k e

  collect-reach : (c : ClusterState) (tables : List Table) (id : ℕ) (d : Schema) → Keeps c tables → (w : Sees tables name c.clock id d)
      → collect (machine_of c tables) name g ≡ judged (machine_of c tables) (offline_refusal name d ∷ future_refusal (machine_of c tables) g ∷ [])
      (answered (with_raised (machine_of c tables) (found_by name tables c.clock id d w) (raised w.table.threshold g)) (ThresholdRaised (raised w.table.threshold g)))
  unfolding collect
  collect-reach c tables id d k w = finds c tables name c.clock id d _ k w

  pub collect-offline : (c : ClusterState) (id : ℕ) (d : Schema) → found_in c.schemas name c.clock ≡ Some (id, d) → (refusal : Refusal) → offline_refusal name d ≡ Some refusal → Refuses c (λ m. collect m name g) refusal
  collect-offline c id d found refusal e tables k =
      collect-reach c tables id d k (sees c.schemas tables name c.clock k.schemas id d found) ∙ stops (machine_of c tables) (offline_refusal name d) _ _ refusal e

  pub collect-future : (c : ClusterState) (id : ℕ) (d : Schema) → found_in c.schemas name c.clock ≡ Some (id, d) → offline_refusal name d ≡ None
      → (refusal : Refusal) → refusal_if (time_lt c.clock g) (Future c.clock) ≡ Some refusal → Refuses c (λ m. collect m name g) refusal
  collect-future c id d found public refusal e tables k =
      let m = machine_of c tables in
      collect-reach c tables id d k (sees c.schemas tables name c.clock k.schemas id d found) ∙ (passes m (offline_refusal name d) _ _ public ∙ stops m (future_refusal m g) [] _ refusal e)

  pub collect-done : (c : ClusterState) (store : MvccMap) (id : ℕ) (d : Schema) (threshold : Time) → found_in c.schemas name c.clock ≡ Some (id, d) → offline_refusal name d ≡ None → refusal_if (time_lt c.clock g) (Future c.clock) ≡ None
      → ((T : RowTables) → HasRows (λ h. KeepsAll c.store.tables.entries h) T → HasRows (λ h. KeepsAll store.tables.entries h) (with_threshold id g T))
      → ((T : RowTables) → HasRows (λ h. KeepsAll store.tables.entries h) T → threshold ≡ T.threshold id)
      → (tables : List Table) → Keeps c tables → IsStepped (restored c store) (Response.Answered (ThresholdRaised threshold)) (collect (machine_of c tables) name g)
  collect-done c store id d threshold found-is public past raises now tables k =
      let m = machine_of c tables in
      let w = sees c.schemas tables name c.clock k.schemas id d found-is in
      let has : HasRows (λ h. KeepsAll store.tables.entries h) (with_threshold (100 + w.place) g (rows_of tables)) = subst (λ (i : ℕ). HasRows (λ h. KeepsAll store.tables.entries h) (with_threshold i g (rows_of tables))) w.id_is (raises (rows_of tables) k.rows) in
      let u : Table = record w.table { threshold = raised w.table.threshold g } in
      let before : time_lt c.clock g ≡ false = not-future (time_lt c.clock g) refl past in
      let keeps = keeps-raised c store g tables w.place w.table k w.got before has in
      let same : threshold ≡ raised w.table.threshold g = now _ keeps.rows ∙ subst (λ (i : ℕ). by_id zero_time table_threshold (slice_set tables w.place u) i ≡ raised w.table.threshold g) (sym w.id_is) (by_id-at zero_time table_threshold (slice_set tables w.place u) w.place u (got-set tables w.place w.table u w.got)) in
      does (restored c store) _ (ThresholdRaised threshold) _ keeps
      (collect-reach c tables id d k w ∙ (passes m (offline_refusal name d) _ _ public ∙ (passes m (future_refusal m g) [] _ past
      ∙ ap (λ (x : Time). answered (with_raised m (found_by name tables c.clock id d w) (raised w.table.threshold g)) (ThresholdRaised x)) (sym same))))
    where
      not-future : (b : Bool) → time_lt c.clock g ≡ b → refusal_if b (Future c.clock) ≡ None → b ≡ false
      not-future true e clash = cc clash
      not-future false e _ = refl

-- ---- TICK

abbrev pub reclocked : ClusterState → Time → ClusterState
reclocked c t = record c { clock = t }

pub ticked : (c : ClusterState) (wall : ℕ) (t : Time) → t ≡ time wall 0 → time_lt c.clock t ≡ true → (tables : List Table) → Keeps c tables → IsStepped (reclocked c t) (Response.Answered (ClockSet t)) (tick (machine_of c tables) wall)
unfolding tick
ticked c wall t is after tables k =
    let later : time_lt c.clock (time wall 0) ≡ true = subst (λ (x : Time). time_lt c.clock x ≡ true) is after in
    let m = machine_of c tables in
    does (reclocked c t) tables (ClockSet t) _ (keeps-as c (reclocked c t) tables k refl refl refl (lt-le c.clock t after))
    (passes m (refusal_if (not (time_lt c.clock (time wall 0))) (TickBack c.clock)) [] _ (rw later refl)
    ∙ ap (λ (x : Time). answered (record m { clock = x }) (ClockSet x)) (sym is))
