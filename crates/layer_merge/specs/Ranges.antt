-- The range deletions that a merge keeps.
use Rattle.std.specs.Prelude.{◌≡◌, ◌⊎◌, ◌++◌, ◌+◌, ◌==◌, ◌&&◌, ℕ, Bool, true, false, not, List, Option, Some, None}
use Rattle.std.specs.Ordering.{is_lt}
use Rattle.version_store.specs.Tables.{bytes_cmp}
use Rattle.layer_merge.specs.declared.ranges.Numbered.{Numbered}
use Rattle.layer_merge.specs.Stands.{first_of, goes_on}
use Rattle.mvcc_keys.specs.declared.entries.Entry.{Entry}
use Rattle.list_laws.specs.Members.{Has}
use Rattle.chunk_file.specs.Entries.{is_range, date_of, are_ordered}

-- the range deletions of some entries were put in, each unless one of its date was there; the others stay
pub record AddsAll (es old new : List Entry) : Type 0 where
  pub kept : (e : Entry) → Has e old → Has e new
  pub there : (e : Entry) → Has e es → is_range e ≡ true → (d : Entry) × (Has d new × (date_of d ≡ date_of e))
  pub only : (e : Entry) → Has e new → Has e old ⊎ Has e es × (is_range e ≡ true)

-- these are the range deletions of some entries
pub record HasRanges (rs all : List Entry) : Type 0 where
  pub kept : (e : Entry) → Has e all → is_range e ≡ true → Has e rs
  pub only : (e : Entry) → Has e rs → Has e all × (is_range e ≡ true)

-- no two range deletions of the entries have one date
abbrev pub AreDated : List Entry → Type 0
AreDated all = (d e : Entry) → Has d all → Has e all → is_range d ≡ true → is_range e ≡ true → date_of d ≡ date_of e → d ≡ e

-- a range deletion isn't empty
abbrev pub IsUpward : Entry → Type 0
IsUpward (Entry.Put key at value) = Unit {0}
IsUpward (Entry.Del key at) = Unit {0}
IsUpward (Entry.Range lo hi at) = is_lt (bytes_cmp lo hi) ≡ true

abbrev pub begins_with_range : Option Entry → Bool
begins_with_range None = false
begins_with_range (Some e) = is_range e

-- a chunk of a number that ends with an entry may stand before the one that was loaded before it: that one isn't the next, or goes on where this one ends
abbrev pub is_before : ℕ → Option Entry → Option Numbered → Bool
is_before number last None = true
is_before number last (Some after) = not ((after.number == number + 1) && not (goes_on last (first_of after.chunk)))

-- of the entries of a part those that are left have all puts and deletions and are in order, and the range deletions were kept
pub record TakesRanges (all left old new : List Entry) : Type 0 where
  pub added : AddsAll all old new
  pub points : (e : Entry) → Has e all → is_range e ≡ false → Has e left
  pub only : (e : Entry) → Has e left → Has e all
  pub ordered : are_ordered None left ≡ true

-- some entries begin with those of a chunk, where one was loaded
abbrev pub BeginsWith : Option Numbered → List Entry → Type 0
BeginsWith None tail = Unit {0}
BeginsWith (Some after) tail = (more : List Entry) × (tail ≡ after.chunk ++ more)

-- the same while the walk goes on: those that are left, and behind them range deletions, which were kept
pub record TakenSoFar (all left : List Entry) (after : Option Numbered) (old new : List Entry) : Type 0 where
  pub tail : List Entry
  pub whole : all ≡ left ++ tail
  pub begins : BeginsWith after tail
  pub ranges : (e : Entry) → Has e tail → is_range e ≡ true
  pub added : AddsAll tail old new
