-- Facts in the order in which a layer lists them: puts and deletions by key and newest first, range deletions by date.
use Rattle.std.specs.Prelude.{Bool, true, false, not, ◌&&◌, List, filter}
use Rattle.std.specs.declared.cmp.Ordering.{Ordering}
use Rattle.std.specs.Ordering.{ordering_then}
use Rattle.mvcc_keys.specs.Times.{Time}
use Rattle.mvcc_keys.specs.Codes.{time_cmp}
use Rattle.fact_model.specs.Facts.{Fact, Put, Del, DelRange, date}
use Rattle.fact_model.specs.Ordered.{ordered}

-- a put or a deletion of one key
abbrev pub is_point : {K V : Type 0} → Fact K V → Bool
is_point (Put key value at) = true
is_point (Del key at) = true
is_point (DelRange lo hi at) = false

-- the key of a put or of a deletion, the first key of a range
abbrev pub key_of : {K V : Type 0} → Fact K V → K
key_of (Put key value at) = key
key_of (Del key at) = key
key_of (DelRange lo hi at) = lo

-- by key, and of one key the newer first
abbrev pub point_cmp : {K V : Type 0} → (K → K → Ordering) → Fact K V → Fact K V → Ordering
point_cmp cmp f g = ordering_then (cmp (key_of f) (key_of g)) (time_cmp (date g) (date f))

abbrev pub date_cmp : {K V : Type 0} → Fact K V → Fact K V → Ordering
date_cmp f g = time_cmp (date f) (date g)

-- the puts and deletions of some dates, in order
unfoldable pub points : {K V : Type 0} → (K → K → Ordering) → (Time → Bool) → List (Fact K V) → List (Fact K V)
points cmp dated fs = ordered (point_cmp cmp) (filter (λ f. is_point f && dated (date f)) fs)

-- the range deletions of some dates, in order
unfoldable pub ranges : {K V : Type 0} → (Time → Bool) → List (Fact K V) → List (Fact K V)
ranges dated fs = ordered date_cmp (filter (λ f. not (is_point f) && dated (date f)) fs)
