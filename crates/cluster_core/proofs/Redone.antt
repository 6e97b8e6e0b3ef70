-- What a cluster and a ready disk are after RESTORE DATABASE.
use Rattle.std.proofs.Common.{◌≡◌, inl, inr, ⊎_elim, ℕ, ◌+◌, ◌≤◌, true, length, List, [], ◌∷◌, ◌++◌, map, Some, slice_get, refl, sym, ap, subst, ◌∙◌, arith, Result, Ok, Err}
use Rattle.std.specs.Prelude.{IfErr, OnOk}
use Rattle.std.specs.Global.{Vec}
use Rattle.std.specs.List.{AllByRecursion, range_with_len}
use Rattle.std.proofs.lemmas.List.{length-map}
use Rattle.mvcc_keys.specs.Times.{IsTime, Time, next, time_le, time_lt}
use Rattle.mvcc_keys.specs.declared.entries.Entry.{Entry}
use Rattle.table_descriptors.specs.declared.changes.Change.TheVariants.{Become}
use Rattle.table_descriptors.specs.declared.columns.State.TheVariants.{Public}
use Rattle.table_descriptors.specs.Descriptors.{Schema, changed_schema}
use Rattle.list_laws.specs.Members.{Has}
use Rattle.mvcc_keys.proofs.TimeOrder.{lt-le, lt-trans}
use Rattle.history_model.specs.Rows.{RowItem}
use Rattle.history_model.specs.Histories.{Table}
use Rattle.schema_catalog.specs.Catalogs.{next_id}
use Rattle.layer_objects.specs.Past.{KeepsPast}
use Rattle.id_remap.specs.declared.targets.Target.TheVariants as target
use Rattle.id_remap.specs.Remapping.{ids_of, new_ids, remapped_schema}
use Rattle.machine_model.specs.Machine.{Backup, Job, Machine, Restore}
use Rattle.reply_texts.specs.declared.answers.Answer.{Answer}
use Rattle.cluster_core.specs.declared.halts.Halt.{Halt}
use Rattle.cluster_core.specs.declared.halts.Halt.TheVariants.{Refused, Disk, Memory}
use Rattle.cluster_core.specs.declared.restores.Plan.{Plan}
use Rattle.cluster_core.specs.Backing.{StandsStill}
use Rattle.cluster_core.specs.Chains.{AreTypedRows}
use Rattle.cluster_core.proofs.Rereading.{items-any}
use Rattle.cluster_core.specs.ClusterView.{ClusterState, record_of}
use Rattle.cluster_core.specs.Standing.{HasBackups, Keeps, StandsFor, machine_of}
use Rattle.cluster_core.specs.Restoring.{AreRowsOfEach, HasRoomFor, IsFirst, count_rows, entries_of, made_tables}
use Rattle.cluster_core.specs.Restores.{AreTested, IsPlanned, with_restore}
use Rattle.cluster_core.proofs.Here.{kept-backups}
use Rattle.machine_model.proofs.Past.{changed-modified, next-later, past-more}
use Rattle.machine_model.proofs.Lists.{got-push}
use Rattle.cluster_core.proofs.Restored.{all-first}
use Rattle.list_laws.proofs.Members.{has-append_left}

-- ---- room

tested-alike : (ds : List Schema) (vs : List (Vec Entry)) → AreTested ds vs → length ds ≡ length vs
tested-alike [] [] tested = refl
tested-alike [] (v ∷ vs) tested = absurd tested
tested-alike (d ∷ ds) [] tested = absurd tested
tested-alike (d ∷ ds) (v ∷ vs) tested = let more = tested-alike ds vs tested.1 in omega (arith, more)

planned-first : (c : ClusterState) (new : List ℕ) (made : Time) (chosen : List Schema) (p : Plan) → IsPlanned c.schemas new made chosen p → AllByRecursion (IsFirst made) p.tables.items
planned-first c new made chosen p planned = subst (AllByRecursion (IsFirst made)) (sym planned.tables) (all-first (new_ids c.schemas chosen) (target.Database new) made chosen)

pub room-for : (c : ClusterState) (new : List ℕ) (made : Time) (chosen : List Schema) (p : Plan) → IsPlanned c.schemas new made chosen p → (vs : List (Vec Entry)) → AreTested chosen vs → c.events + count_rows (entries_of vs) ≤ c.most_events → HasRoomFor c made p.tables.items (entries_of vs)
room-for c new made chosen p planned vs tested fits = record {
  tables = planned.fits;
  events = fits;
  first = planned-first c new made chosen p planned;
  alike = ap length planned.tables ∙ (length-map chosen (remapped_schema (new_ids c.schemas chosen) (target.Database new) made) ∙ (tested-alike chosen vs tested ∙ sym (length-map vs (λ (v : Vec Entry). v.items))));
}

-- ---- the cluster

-- backups with a restore more
pub restore-backups : (old new : ClusterState) (tables later : List Table) → Keeps old tables → HasBackups old tables → KeepsPast old.clock tables later → time_le old.clock new.clock ≡ true → new.name ≡ old.name → new.jobs ≡ old.jobs ++ Restore ∷ [] → new.book ≡ old.book → HasBackups new later
restore-backups old new tables later k b past le name jobs book =
    let as_before : ClusterState = record new { jobs = old.jobs } in
    let same : HasBackups (record new { jobs = old.jobs }) later = kept-backups old (record new { jobs = old.jobs }) tables later k b past le name refl book in
    record {
      backups = λ place q got. ⊎_elim
          (λ (before : slice_get old.jobs place ≡ Some (Backup q)). let o = same.backups place q before in record { number = o.number; cluster = o.cluster; is = o.is; version = o.version; over = o.over; few = o.few; listed = o.listed })
          (λ last. absurd (let no : Restore ≡ Backup q = last.1 in cc no))
          (got-push old.jobs Restore place (Backup q) (sym (ap (λ (js : List Job). slice_get js place) jobs) ∙ got));
      layers = λ p has. (let o = same.layers p has in record { among = subst (Has (Backup (record_of p))) (sym jobs) (has-append_left (Backup (record_of p)) old.jobs (Restore ∷ []) o.among); manifest = o.manifest; chunks = o.chunks; proper = o.proper });
      scopes = same.scopes;
    }

-- new tables begin after a time before both of theirs
made-after : (s made published : Time) → time_lt s made ≡ true → time_lt s published ≡ true → (ss : List Schema) (items : List (List RowItem)) → AllByRecursion (IsFirst made) ss → (table : Table) → Has table (made_tables made published ss items)
    → (d : Schema) → Has d table.descriptors → time_lt s d.modified ≡ true
made-after s made published first second [] items firsts table has d in_it = absurd has
made-after s made published first second (x ∷ xs) [] firsts table has d in_it = absurd has
made-after s made published first second (x ∷ xs) (i ∷ is) firsts table (inr more) d in_it = made-after s made published first second xs is firsts.1 table more d in_it
made-after s made published first second (x ∷ xs) (i ∷ is) firsts table (inl same) d in_it = by (subst (λ (t : Table). Has d t.descriptors) same in_it)
  where
    by : Has d (x ∷ changed_schema x (Become Public) published ∷ []) → time_lt s d.modified ≡ true
    by (inl e) = subst (λ (y : Schema). time_lt s y.modified ≡ true) (sym e) (subst (λ (t : Time). time_lt s t ≡ true) (sym firsts.0.1) first)
    by (inr (inl e)) = subst (λ (y : Schema). time_lt s y.modified ≡ true) (sym e) (subst (λ (t : Time). time_lt s t ≡ true) (sym (changed-modified x (Become Public) published)) second)
    by (inr (inr none)) = absurd none

module _ (c : ClusterState) (new : List ℕ) (made published : Time) (first-is : next c.clock ≡ Some made) (second-is : next made ≡ Some published) (ss : List Schema) (firsts : AllByRecursion (IsFirst made) ss) (items : List (List RowItem)) (tables : List Table)
    (k : Keeps c tables) (b : HasBackups c tables) (n : ClusterState) (kept : Keeps n (tables ++ made_tables made published ss items)) (count : ℕ) (rest : n ≡ with_restore c new published count n.schemas.tables n.store) where
  abbrev all : List Table
  all = tables ++ made_tables made published ss items

  first : time_lt c.clock made ≡ true
  first = next-later c.clock made first-is

  second : time_lt c.clock published ≡ true
  second = lt-trans c.clock made published first (next-later made published second-is)

  -- the cluster stands for a machine with these tables
  pub restored-stands : StandsFor n (machine_of n all)
  restored-stands = record {
    tables = all;
    keeps = kept;
    machine_is = refl;
    backups = restore-backups c n tables all k b (past-more c.clock tables (made_tables made published ss items) (made-after c.clock made published first second ss items firsts))
        (subst (λ (t : Time). time_le c.clock t ≡ true) (sym (ap (λ (y : ClusterState). y.clock) rest)) (lt-le c.clock published second))
        (ap (λ (y : ClusterState). y.name) rest) (ap (λ (y : ClusterState). y.jobs) rest) (ap (λ (y : ClusterState). y.book) rest);
  }

-- ---- what is kept, on every disk

abbrev pub KeptBy : ClusterState → ClusterState → List ℕ → Time → Time → Plan → List (Vec Entry) → Result Answer Halt → Type 0
KeptBy c n new made published p vs res = (old : List Table) (chosen : List Schema) (items : List (List RowItem)) → Keeps c old → p.tables.items ≡ map (remapped_schema p.ids (target.Database new) made) chosen → ids_of p.tables.items ≡ range_with_len (next_id c.schemas) (length chosen) → AreRowsOfEach made chosen (entries_of vs) items
    → OnOk res (Keeps n (old ++ made_tables made published p.tables.items items))

module _ (c : ClusterState) (new : List ℕ) (made published : Time) (first-is : next c.clock ≡ Some made) (second-is : next made ≡ Some published) (chosen : List Schema) (p : Plan) (planned : IsPlanned c.schemas new made chosen p) (vs : List (Vec Entry)) (n : ClusterState) where
  pub by-ids : p.tables.items ≡ map (remapped_schema p.ids (target.Database new) made) chosen
  by-ids = planned.tables ∙ ap (λ (ids : List (ℕ × ℕ)). map (remapped_schema ids (target.Database new) made) chosen) (sym planned.ids)

  pub kept-stands : (tables : List Table) → Keeps c tables → HasBackups c tables → (items : List (List RowItem)) → Keeps n (tables ++ made_tables made published p.tables.items items) → (count : ℕ) → n ≡ with_restore c new published count n.schemas.tables n.store
      → StandsFor n (machine_of n (tables ++ made_tables made published p.tables.items items))
  kept-stands tables k b items kept count rest = restored-stands c new made published first-is second-is p.tables.items (planned-first c new made chosen p planned) items tables k b n kept count rest

  pub done-still : (res : Result Answer Halt) → IsTime made → AreTypedRows chosen vs → AreTested chosen vs → KeptBy c n new made published p vs res → OnOk res (n ≡ with_restore c new published (count_rows (entries_of vs)) n.schemas.tables n.store) → IfErr res (λ e. e ≡ Memory)
      → (m : Machine) × StandsFor c m → StandsStill res n
  done-still (Ok answer) time typed tested kept rest fault stands =
      let s = stands.1 in
      let items = items-any made time chosen vs typed tested in
      let keeps = kept s.tables chosen items.0 s.keeps by-ids planned.in_order items.1 in
      (machine_of n (s.tables ++ made_tables made published p.tables.items items.0), kept-stands s.tables s.keeps s.backups items.0 keeps (count_rows (entries_of vs)) rest)
  done-still (Err (Refused refusal)) time typed tested kept rest fault stands = absurd (let e : Refused refusal ≡ Memory = fault in cc e)
  done-still (Err Disk) time typed tested kept rest fault stands = tt
  done-still (Err Memory) time typed tested kept rest fault stands = tt
