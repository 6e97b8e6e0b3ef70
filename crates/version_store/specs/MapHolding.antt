-- What a map of versions stands for.
use Rattle.std.specs.Prelude.{◌≡◌, ℕ, true, List, [], ◌++◌, Option, Some, None}
use Rattle.std.specs.BTreeMap.{is_at}
use Rattle.std.specs.Map.{lookup}
use Rattle.std.specs.Ordering.{nat_cmp}
use Rattle.mvcc_keys.specs.Times.{Time, time_lt, zero_time}
use Rattle.range_tombstones.specs.Ranges.{ranges_after}
use Rattle.fact_model.specs.Facts.{IsApart, date}
use Rattle.fact_model.specs.Listings.{RangesDiffer}
use Rattle.list_laws.specs.Members.{AllIn, Has}
use Rattle.fact_model.specs.Scans.{kept}
use Rattle.version_store.specs.Tables.{ByteFact, Tables, bytes_cmp}
use Rattle.version_store.specs.Rows.{AllNewestFirst, KeysAscend, map_facts, range_facts, trimmed_rows}
use Rattle.version_store.specs.declared.table_versions.TableVersions.{TableVersions}

-- the facts of a table, none where there is no such table
abbrev pub held_facts : Option TableVersions → List ByteFact
held_facts None = []
held_facts (Some t) = map_facts t.rows.entries ++ range_facts t.ranges

abbrev pub held_threshold : Option TableVersions → Time
held_threshold None = zero_time
held_threshold (Some t) = t.threshold

abbrev pub RowsNewestFirst : Option TableVersions → Type 0
RowsNewestFirst None = Unit {0}
RowsNewestFirst (Some t) = AllNewestFirst t.rows.entries

-- a table has just the facts that are kept of its history, all dated after the clock's first time, and its threshold
pub record KeepsTable (table : Option TableVersions) (threshold : Time) (facts : List ByteFact) : Type 0 where
  pub apart : IsApart bytes_cmp facts
  pub differ : RangesDiffer facts
  pub begun : (f : ByteFact) → Has f facts → time_lt zero_time (date f) ≡ true
  pub from : held_threshold table ≡ threshold
  pub first : RowsNewestFirst table
  pub only : AllIn (held_facts table) (kept bytes_cmp threshold facts)
  pub found : AllIn (kept bytes_cmp threshold facts) (held_facts table)

abbrev pub table_in : List (ℕ × TableVersions) → ℕ → Option TableVersions
table_in tables id = lookup (is_at (nat_cmp id)) tables

-- every table does
pub record KeepsAll (tables : List (ℕ × TableVersions)) (h : Tables) : Type 0 where
  pub table : (id : ℕ) → KeepsTable (table_in tables id) (h.threshold id) (h.facts id)

-- what a collection up to g makes of a table
pub record IsCollected (g : Time) (t u : TableVersions) : Type 0 where
  pub rows : u.rows.entries ≡ trimmed_rows g t.ranges t.rows.entries
  pub ranges : u.ranges ≡ ranges_after g t.ranges
  pub threshold : u.threshold ≡ g
  pub ordered : KeysAscend t.rows.entries

-- a table that isn't there has no facts, so an empty one may be made
pub record IsMade (id : ℕ) (tables new : List (ℕ × TableVersions)) : Type 0 where
  pub table : TableVersions
  pub there : table_in new id ≡ Some table
  pub keeps : (h : Tables) → KeepsAll tables h → KeepsAll new h
