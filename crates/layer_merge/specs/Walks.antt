-- What a merge is between two calls.
use Rattle.std.specs.Prelude.{◌≡◌, ◌+◌, ℕ, Bool, true, false, cond, List, [], Option}
use Rattle.mvcc_keys.specs.declared.entries.Entry.{Entry}
use Rattle.row_codec.specs.declared.rows.Kind.{Kind}
use Rattle.fact_model.specs.Facts.{IsApart}
use Rattle.layer_merge.specs.declared.ranges.Waiting.{Waiting}
use Rattle.layer_merge.specs.declared.wanted.Wanted.{Wanted}
use Rattle.layer_merge.specs.Loads.{Load, World}
use Rattle.layer_merge.specs.Steps.{MayLoad, to_begin, to_load}
use Rattle.layer_merge.specs.Stands.{Stand, AreAt}
use Rattle.version_store.specs.Tables.{Bytes, bytes_cmp}
use Rattle.version_store.specs.Lists.{facts_of}
use Rattle.layer_merge.specs.Rows.{rows_left}
use Rattle.layer_merge.specs.Ranges.{HasRanges, AreDated}
use Rattle.layer_merge.specs.Starts.{AreInOrder, parts_entries}

pub record WalkState : Type 0 where
  pub table : ℕ
  pub kinds : List Kind
  pub wanted : Wanted
  pub waiting : List Waiting
  pub stands : List Stand
  pub ranges : List Entry
  pub done : Option Bytes
  pub begun : Bool

abbrev pub walk_state : ℕ → List Kind → Wanted → List Waiting → List Stand → List Entry → Option Bytes → Bool → WalkState
walk_state table kinds wanted waiting stands ranges done begun = record { table = table; kinds = kinds; wanted = wanted; waiting = waiting; stands = stands; ranges = ranges; done = done; begun = begun }

-- nothing was loaded yet: all entries are those of the parts
pub record IsNew (w : World) (all : List Entry) (m : WalkState) : Type 0 where
  pub stands : m.stands ≡ []
  pub ranges : m.ranges ≡ []
  pub whole : all ≡ parts_entries w m.waiting
  pub ordered : AreInOrder w m.waiting

-- the range deletions are kept, and what counts is to come
pub record IsWalking (w : World) (all : List Entry) (m : WalkState) : Type 0 where
  pub ranges : HasRanges m.ranges all
  pub at : AreAt w m.wanted m.done all m.stands

abbrev pub IsAtWork : Bool → World → List Entry → WalkState → Type 0
IsAtWork false w all m = IsNew w all m
IsAtWork true w all m = IsWalking w all m

-- the merge is one of these entries, which its chunks in w hold
pub record MergesOver (w : World) (all : List Entry) (m : WalkState) : Type 0 where
  pub apart : IsApart bytes_cmp (facts_of all)
  pub dated : AreDated all
  pub work : IsAtWork m.begun w all m

-- the rows that it has still to give
abbrev pub rows_of : List Entry → WalkState → List Entry
rows_of all m = rows_left m.wanted m.done all

-- how often a load is made at most from now on: once for the ranges and once for the points before the walk began, and once for the points after
abbrev pub may_load : Load → WalkState → ℕ
may_load x m = cond m.begun (to_load m.table x m.stands) (to_load m.table x m.stands + (to_begin m.table x m.waiting + to_begin m.table x m.waiting))

-- a chunk of a layer is still to be loaded, for its ranges or its points
abbrev pub IsToLoad : WalkState → ℕ → ℕ → Type 0
IsToLoad m layer number = MayLoad (λ x. may_load x m) m.table layer number

-- ---- the merge of rows

pub record RowState : Type 0 where
  pub walk : WalkState
  pub failed : Bool

abbrev pub row_state : WalkState → Bool → RowState
row_state walk failed = record { walk = walk; failed = failed }
