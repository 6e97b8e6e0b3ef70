-- What a list of facts stands for.
use Rattle.std.specs.Prelude.{◌≡◌, ℕ, ◌==◌, cond, List, [], ◌∷◌}
use Rattle.mvcc_keys.specs.Times.{Time, zero_time}
use Rattle.mvcc_keys.specs.declared.entries.Entry.{Entry}
use Rattle.fact_model.specs.Facts.{IsApart}
use Rattle.fact_model.specs.Scans.{kept}
use Rattle.version_store.specs.Tables.{ByteFact, Tables, bytes_cmp}
use Rattle.version_store.specs.Lists.{facts_of, of_table}
use Rattle.version_store.specs.declared.fact_list.Threshold.{Threshold}

-- the first one of the table, or the clock's first time
unfoldable pub threshold_in : List Threshold → ℕ → Time
threshold_in [] id = zero_time
threshold_in (t ∷ ts) id = cond (t.table == id) t.at (threshold_in ts id)

-- the entries of a table are what is kept of its facts
pub record HoldsTable (entries : List Entry) (id : ℕ) (threshold : Time) (facts : List ByteFact) : Type 0 where
  pub apart : IsApart bytes_cmp facts
  pub kept_facts : facts_of (of_table id entries) ≡ kept bytes_cmp threshold facts

-- every table is held, with its threshold
pub record Holds (entries : List Entry) (thresholds : List Threshold) (h : Tables) : Type 0 where
  pub from : (id : ℕ) → threshold_in thresholds id ≡ h.threshold id
  pub tables : (id : ℕ) → HoldsTable entries id (h.threshold id) (h.facts id)
