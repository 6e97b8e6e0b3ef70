-- What a list of calls means over tables.
use Rattle.std.specs.Prelude.{◌≡◌, ℕ, true, List, [], ◌∷◌, Option, Some, None}
use Rattle.mvcc_keys.specs.Times.{Time, time_le}
use Rattle.fact_model.specs.Facts.{Fact}
use Rattle.version_store.specs.Tables.{Bytes, ByteFact, Tables, table_of, with_fact, raised, MayAdd, value_at, scan_at, scan_after_at, events_at, newest_events_at, ranges_at}
use Rattle.version_store.specs.declared.calls.VersionCall.{VersionCall}
use Rattle.version_store.specs.declared.calls.VersionCall.TheVariants.{Put, Delete, DeleteRange, GetAsOf, ScanAsOf, ScanAfter, Events, NewestEvents, Ranges, Collect, Threshold}
use Rattle.version_store.specs.declared.calls.VersionAnswer.{VersionAnswer}

-- the fact is accepted in the table of its key
abbrev pub accepted : Option ℕ → ByteFact → Tables → Tables
accepted None f h = h
accepted (Some id) f h = with_fact id f h

-- the tables after a call
abbrev pub after_call : VersionCall → Tables → Tables
after_call (Put key at value) h = accepted (table_of key) (Fact.Put key value at) h
after_call (Delete key at) h = accepted (table_of key) (Fact.Del key at) h
after_call (DeleteRange lo hi at) h = accepted (table_of lo) (Fact.DelRange lo hi at) h
after_call (GetAsOf key t) h = h
after_call (ScanAsOf table t) h = h
after_call (ScanAfter table t after n) h = h
after_call (Events table from upto after n) h = h
after_call (NewestEvents table from upto after n) h = h
after_call (Ranges table from upto) h = h
after_call (Collect table g) h = raised table g h
after_call (Threshold table) h = h

-- what a call asks: a table in which its fact may be added, or a time that isn't before the threshold
abbrev pub IsAllowed : Tables → VersionCall → Type 0
IsAllowed h (Put key at value) = (id : ℕ) × MayAdd h id (Fact.Put key value at)
IsAllowed h (Delete key at) = (id : ℕ) × MayAdd h id (Fact.Del key at)
IsAllowed h (DeleteRange lo hi at) = (id : ℕ) × MayAdd h id (Fact.DelRange lo hi at)
IsAllowed h (GetAsOf key t) = (id : ℕ) × (table_of key ≡ Some id) × (time_le (h.threshold id) t ≡ true)
IsAllowed h (ScanAsOf table t) = time_le (h.threshold table) t ≡ true
IsAllowed h (ScanAfter table t after n) = time_le (h.threshold table) t ≡ true
IsAllowed h (Events table from upto after n) = time_le (h.threshold table) from ≡ true
IsAllowed h (NewestEvents table from upto after n) = time_le (h.threshold table) from ≡ true
IsAllowed h (Ranges table from upto) = time_le (h.threshold table) from ≡ true
IsAllowed h (Collect table g) = Unit {0}
IsAllowed h (Threshold table) = Unit {0}

-- the value of a key in its table
abbrev pub value_in : Tables → Option ℕ → Bytes → Time → Option Bytes
value_in h None key t = None
value_in h (Some id) key t = value_at h id key t

-- what a call answers
abbrev pub answer_of : Tables → VersionCall → VersionAnswer
answer_of h (Put key at value) = VersionAnswer.Put
answer_of h (Delete key at) = VersionAnswer.Delete
answer_of h (DeleteRange lo hi at) = VersionAnswer.DeleteRange
answer_of h (GetAsOf key t) = VersionAnswer.GetAsOf (value_in h (table_of key) key t)
answer_of h (ScanAsOf table t) = VersionAnswer.ScanAsOf (scan_at h table t)
answer_of h (ScanAfter table t after n) = VersionAnswer.ScanAfter (scan_after_at h table t after n)
answer_of h (NewestEvents table from upto after n) = VersionAnswer.NewestEvents (newest_events_at h table from upto after n)
answer_of h (Events table from upto after n) = VersionAnswer.Events (events_at h table from upto after n)
answer_of h (Ranges table from upto) = VersionAnswer.Ranges (ranges_at h table from upto)
answer_of h (Collect table g) = VersionAnswer.Collect
answer_of h (Threshold table) = VersionAnswer.Threshold (h.threshold table)

-- ---- lists of calls

-- the tables after all of them
unfoldable pub after_calls : List VersionCall → Tables → Tables
after_calls [] h = h
after_calls (c ∷ cs) h = after_calls cs (after_call c h)

-- each is allowed when its turn comes
unfoldable pub AreAllowed : Tables → List VersionCall → Type 0
AreAllowed h [] = Unit {0}
AreAllowed h (c ∷ cs) = IsAllowed h c × AreAllowed (after_call c h) cs

-- what they answer, in their order
unfoldable pub answers_of : Tables → List VersionCall → List VersionAnswer
answers_of h [] = []
answers_of h (c ∷ cs) = answer_of h c ∷ answers_of (after_call c h) cs
