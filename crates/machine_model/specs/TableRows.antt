-- The commands on rows, one definition each.
use Rattle.std.specs.Prelude.{ℕ, ◌+◌, nat_lt, List, [], ◌∷◌, ◌++◌, map, length, Option, unwrap_or, slice_set, if◌then◌else◌}
use Rattle.mvcc_keys.specs.Times.{Time, time_lt}
use Rattle.row_codec.specs.declared.rows.Datum.{Datum}
use Rattle.table_descriptors.specs.Descriptors.{Schema}
use Rattle.reply_texts.specs.declared.refusals.Refusal.{Refusal}
use Rattle.reply_texts.specs.declared.refusals.Refusal.TheVariants.{Future, Collected, TooManyEvents}
use Rattle.reply_texts.specs.declared.answers.Answer.{Answer}
use Rattle.reply_texts.specs.declared.answers.Answer.TheVariants.{RowsWritten, RangeDeleted, ThresholdRaised, RowsShown}
use Rattle.fact_model.specs.Facts.{Del, DelRange}
use Rattle.fact_model.specs.Scans.{scan}
use Rattle.history_model.specs.Rows.{Key, RowFact, put_of, shown_rows}
use Rattle.history_model.specs.Histories.{Table, Found, key_order, accepted}
use Rattle.table_rows.specs.declared.faults.RowsFault.{RowsFault}
use Rattle.table_rows.specs.Checks.{rows_fault, keys_fault, range_fault}
use Rattle.machine_model.specs.Machine.{Machine, Stepped, answered, refusal_if, judged, drawing, for_table, offline_refusal}
use Rattle.machine_model.specs.Refusals.{rows_refusal}

-- ---- UPSERT, DELETE, DELETE RANGE

-- the facts ever accepted and so many more would be more than the cluster may accept
abbrev pub room_refusal : Machine → ℕ → Option Refusal
room_refusal m more = refusal_if (nat_lt m.limits.events (accepted m.history.tables + more)) TooManyEvents

-- more facts of the table at a place, which were accepted at t
abbrev pub extended : Table → List RowFact → Table
extended table facts = record table { facts = table.facts ++ facts }

abbrev pub with_facts : Machine → Found → List RowFact → Time → Machine
with_facts m f facts t = record m { clock = t; history = record m.history { tables = slice_set m.history.tables f.place (extended f.table facts) } }

-- Facts are added to the table of a name, where no test of what is given refuses that. Fault, facts and answer go by the table's
-- descriptor and the drawn time.
abbrev pub adding : Machine → List ℕ × List ℕ → (Schema → Option RowsFault) → (Schema → Time → List RowFact) → (Time → Answer) → Stepped
adding m name fault facts answer =
    drawing m (λ t. for_table m name t (λ f.
    judged m (offline_refusal name f.schema ∷ rows_refusal (fault f.schema) ∷ room_refusal m (length (facts f.schema t)) ∷ [])
    (answered (with_facts m f (facts f.schema t) t) (answer t))))

-- UPSERT
unfoldable pub upsert : Machine → List ℕ × List ℕ → List (List Datum) → Stepped
upsert m name rows = adding m name (λ d. rows_fault d rows) (λ d t. map (put_of d t) rows) (λ t. RowsWritten (length rows) t)

-- DELETE, whether the rows are there or not
unfoldable pub delete : Machine → List ℕ × List ℕ → List Key → Stepped
delete m name keys = adding m name (λ d. keys_fault d keys) (λ d t. map (λ k. Del k t) keys) (λ t. RowsWritten (length keys) t)

-- DELETE RANGE of the keys from lo up to, not including, hi
unfoldable pub delete_range : Machine → List ℕ × List ℕ → Key → Key → Stepped
delete_range m name lo hi = adding m name (λ d. range_fault d lo hi) (λ d t. DelRange lo hi t ∷ []) (λ t. RangeDeleted t)

-- ---- SELECT

-- the rows of a table at t: its scan, in the columns of the descriptor in force at t
abbrev pub rows_at : Found → Time → List (List Datum)
rows_at f t = shown_rows f.schema (scan (key_order f.schema) t f.table.facts)

-- the time is after the clock
abbrev pub future_refusal : Machine → Time → Option Refusal
future_refusal m t = refusal_if (time_lt m.clock t) (Future m.clock)

-- what was collected can't be read
abbrev pub collected_refusal : Table → Time → Option Refusal
collected_refusal table t = refusal_if (time_lt t table.threshold) (Collected table.id table.threshold)

abbrev pub select_at : Machine → List ℕ × List ℕ → Time → Stepped
select_at m name t =
    judged m (future_refusal m t ∷ [])
    (for_table m name t (λ f. judged m (offline_refusal name f.schema ∷ collected_refusal f.table t ∷ []) (answered m (RowsShown (rows_at f t)))))

-- SELECT, as of the time that is given, or of the clock
unfoldable pub select : Machine → List ℕ × List ℕ → Option Time → Stepped
select m name at = select_at m name (unwrap_or at m.clock)

-- ---- GC

-- a threshold that is raised to g where that is greater
abbrev pub raised : Time → Time → Time
raised threshold g = if time_lt threshold g then g else threshold

abbrev pub with_threshold : Machine → Found → Time → Machine
with_threshold m f threshold = record m { history = record m.history { tables = slice_set m.history.tables f.place (record f.table { threshold = threshold }) } }

-- GC
unfoldable pub collect : Machine → List ℕ × List ℕ → Time → Stepped
collect m name g =
    for_table m name m.clock (λ f.
    judged m (offline_refusal name f.schema ∷ future_refusal m g ∷ [])
    (answered (with_threshold m f (raised f.table.threshold g)) (ThresholdRaised (raised f.table.threshold g))))
