-- The tests of a command, one after another: where one refuses, and where all pass.
use Rattle.std.proofs.Common.{◌≡◌, ℕ, refl, sym, ap, ◌∙◌, subst, List, ◌∷◌, Option, Some, None, Result, Err, IsErrAnd}
use Rattle.std.proofs.lemmas.Result.{err_from_is_err_and}
use Rattle.mvcc_keys.specs.Times.{Time, next}
use Rattle.table_descriptors.specs.Descriptors.{Schema}
use Rattle.history_model.specs.Histories.{Table, Found}
use Rattle.schema_catalog.specs.declared.faults.CatalogFault.{CatalogFault}
use Rattle.schema_catalog.specs.declared.faults.CatalogFault.TheVariants.{NoSuchDatabase as NoDatabase, DatabaseExists as Exists, NoSuchTable as NoTable, NameTaken as Taken, NotPublic as IsOffline, BadSchema as Bad, Referenced as IsReferenced, TooManyTables as Full, Memory as Wanted}
use Rattle.schema_catalog.specs.Catalogs.{FaultIs}
use Rattle.table_rows.specs.declared.faults.RowsFault.{RowsFault}
use Rattle.table_rows.specs.declared.faults.RowsFault.TheVariants.{WrongRow as Wrong, TooLarge as Large, DuplicateKey as Duplicate, EmptyRange as Empty, Memory as NoMemory}
use Rattle.table_rows.specs.Checks.{Finds}
use Rattle.reply_texts.specs.declared.refusals.Refusal.{Refusal}
use Rattle.reply_texts.specs.declared.refusals.Refusal.TheVariants.{NoSuchTable}
use Rattle.reply_texts.specs.declared.answers.Answer.{Answer}
use Rattle.reply_texts.specs.declared.replies.Response.{Response}
use Rattle.machine_model.specs.Machine.{Machine, Stepped, refused, answered, judged, drawing, with_time, for_table, with_found, catalog_of}
use Rattle.machine_model.specs.Refusals.{refusal_of_catalog, refusal_of_rows, catalog_refusal, rows_refusal}
use Rattle.cluster_core.specs.declared.halts.Halt.{Halt}
use Rattle.cluster_core.specs.declared.halts.Halt.TheVariants.{Refused, Disk, Memory}
use Rattle.cluster_core.specs.ClusterView.{ClusterState}
use Rattle.cluster_core.specs.Finding.{found_in, IsMissing}
use Rattle.cluster_core.specs.Halting.{halt_of}
use Rattle.cluster_core.specs.Standing.{Keeps, machine_of, IsStepped, RefusedBy, Refuses, Does}
use Rattle.cluster_core.proofs.Looking.{Sees, misses}

-- ---- halts

halted : (old new : ClusterState) (meaning : Machine → Stepped) (halt : Halt) (test : Option Refusal) → new ≡ old → RefusedBy halt test → ((refusal : Refusal) → test ≡ Some refusal → Refuses old meaning refusal) → Does old new meaning (Err halt)
halted old new meaning (Refused refusal) test same by go = (same, go refusal by)
halted old new meaning Disk test same by go = absurd by
halted old new meaning Memory test same by go = tt

missed : (old : ClusterState) (meaning : Machine → Stepped) (halt : Halt) (name : List ℕ × List ℕ) (found : Option (ℕ × Schema)) → IsMissing name found halt → (found ≡ None → Refuses old meaning (NoSuchTable name)) → Does old old meaning (Err halt)
missed old meaning (Refused refusal) name found is go = (refl, rw is.1 (go is.0))
missed old meaning Disk name found is go = absurd is
missed old meaning Memory name found is go = tt

returned : (old new : ClusterState) (meaning : Machine → Stepped) (r : Result Answer Halt) (e : Halt) → IsErrAnd r (λ y. y ≡ e) → Does old new meaning (Err e) → Does old new meaning r
returned old new meaning r e is does = let p = err_from_is_err_and r is in subst (Does old new meaning) (sym (p.1 ∙ ap Err p.2)) does

-- A test refuses a command: the exit of a `?`. By a halt, by a fault of the catalog, by a fault of rows, by a name without a table
pub exit_by : (old new : ClusterState) (meaning : Machine → Stepped) (r : Result Answer Halt) (e : Halt) (test : Option Refusal) → new ≡ old → IsErrAnd r (λ y. y ≡ e) → RefusedBy e test
    → ((refusal : Refusal) → test ≡ Some refusal → Refuses old meaning refusal) → Does old new meaning r
exit_by old new meaning r e test same is by go = returned old new meaning r e is (halted old new meaning e test same by go)

pub exit_missing : (old : ClusterState) (meaning : Machine → Stepped) (r : Result Answer Halt) (e : Halt) (name : List ℕ × List ℕ) (found : Option (ℕ × Schema)) → IsErrAnd r (λ y. y ≡ e) → IsMissing name found e
    → (found ≡ None → Refuses old meaning (NoSuchTable name)) → Does old old meaning r
exit_missing old meaning r e name found is by go = returned old old meaning r e is (missed old meaning e name found by go)

by_catalog : (e : CatalogFault) (fault : Option CatalogFault) → FaultIs e fault → RefusedBy (halt_of (refusal_of_catalog e)) (catalog_refusal fault)
by_catalog (NoDatabase database) fault p = ap catalog_refusal p
by_catalog (Exists database) fault p = ap catalog_refusal p
by_catalog (NoTable table) fault p = ap catalog_refusal p
by_catalog (Taken table) fault p = ap catalog_refusal p
by_catalog (IsOffline table) fault p = ap catalog_refusal p
by_catalog (Bad which) fault p = ap catalog_refusal p
by_catalog (IsReferenced by) fault p = ap catalog_refusal p
by_catalog Full fault p = ap catalog_refusal p
by_catalog Wanted fault p = tt

pub exit_catalog : (old new : ClusterState) (meaning : Machine → Stepped) (r : Result Answer Halt) (e : CatalogFault) (fault : Option CatalogFault) → new ≡ old → IsErrAnd r (λ y. y ≡ halt_of (refusal_of_catalog e)) → FaultIs e fault
    → ((refusal : Refusal) → catalog_refusal fault ≡ Some refusal → Refuses old meaning refusal) → Does old new meaning r
exit_catalog old new meaning r e fault same is by go = exit_by old new meaning r (halt_of (refusal_of_catalog e)) (catalog_refusal fault) same is (by_catalog e fault by) go

by_rows : (e : RowsFault) (fault : Option RowsFault) → Finds (Err e) fault → RefusedBy (halt_of (refusal_of_rows e)) (rows_refusal fault)
by_rows (Wrong row column) fault p = ap rows_refusal p
by_rows (Large row) fault p = ap rows_refusal p
by_rows (Duplicate row) fault p = ap rows_refusal p
by_rows Empty fault p = ap rows_refusal p
by_rows NoMemory fault p = tt

pub exit_rows : (old : ClusterState) (meaning : Machine → Stepped) (r : Result Answer Halt) (e : RowsFault) (fault : Option RowsFault) → IsErrAnd r (λ y. y ≡ halt_of (refusal_of_rows e)) → Finds (Err e) fault
    → ((refusal : Refusal) → rows_refusal fault ≡ Some refusal → Refuses old meaning refusal) → Does old old meaning r
exit_rows old meaning r e fault is by go = exit_by old old meaning r (halt_of (refusal_of_rows e)) (rows_refusal fault) refl is (by_rows e fault by) go

-- ---- tests

pub passes : (m : Machine) (test : Option Refusal) (tests : List (Option Refusal)) (change : Stepped) → test ≡ None → judged m (test ∷ tests) change ≡ judged m tests change
passes m test tests change is = rw is refl

pub stops : (m : Machine) (test : Option Refusal) (tests : List (Option Refusal)) (change : Stepped) (refusal : Refusal) → test ≡ Some refusal → judged m (test ∷ tests) change ≡ refused m refusal
stops m test tests change refusal is = rw is refl

pub same-refused : (m : Machine) (a b : Refusal) → Some a ≡ Some b → refused m a ≡ refused m b
same-refused m a b e = let same : a ≡ b = cc e in ap (refused m) same

pub draws : (m : Machine) (change : Time → Stepped) (t : Time) → next m.clock ≡ Some t → drawing m change ≡ change t
draws m change t is = ap (λ (t : Option Time). with_time m t change) is

pub missing : (c : ClusterState) (tables : List Table) (name : List ℕ × List ℕ) (t : Time) (change : Found → Stepped) → Keeps c tables → found_in c.schemas name t ≡ None → for_table (machine_of c tables) name t change ≡ refused (machine_of c tables) (NoSuchTable name)
missing c tables name t change k e = ap (λ (f : Option Found). with_found (machine_of c tables) (NoSuchTable name) f change) (misses c.schemas tables name t k.schemas e)

pub finds : (c : ClusterState) (tables : List Table) (name : List ℕ × List ℕ) (t : Time) (id : ℕ) (d : Schema) (change : Found → Stepped) → Keeps c tables → (w : Sees tables name t id d)
    → for_table (machine_of c tables) name t change ≡ change (record { place = w.place; table = w.table; schema = d })
finds c tables name t id d change k w = ap (λ (f : Option Found). with_found (machine_of c tables) (NoSuchTable name) f change) w.named_is

-- the catalog of the machine
pub catalog-is : (c : ClusterState) (tables : List Table) → Keeps c tables → catalog_of (machine_of c tables) ≡ c.schemas
catalog-is c tables k = ap (λ (xs : List (List Schema)). record { databases = c.schemas.databases; tables = xs; limit = c.schemas.limit }) k.schemas

-- ---- answers

pub does : (new : ClusterState) (tables : List Table) (answer : Answer) (s : Stepped) → Keeps new tables → s ≡ answered (machine_of new tables) answer → IsStepped new (Response.Answered answer) s
does new tables answer s k is = record {
  stands = record { tables = tables; keeps = k; machine_is = ap (λ (x : Stepped). x.machine) is };
  response_is = sym (ap (λ (x : Stepped). x.response) is);
}
