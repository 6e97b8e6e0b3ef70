-- Lists of entries read as facts: what a list of facts computes.
use Rattle.std.specs.Prelude.{◌≡◌, ◌≤◌, ℕ, Bool, true, false, not, ◌&&◌, ◌||◌, ◌==◌, cond, List, [], ◌∷◌, length, insert, map, filter, Option, Some, None}
use Rattle.std.specs.declared.cmp.Ordering.{Ordering}
use Rattle.mvcc_keys.specs.Times.{Time, time_le, time_lt}
use Rattle.mvcc_keys.specs.declared.entries.Entry.{Entry}
use Rattle.range_tombstones.specs.Intervals.{is_between}
use Rattle.fact_model.specs.Facts.{Fact, Version, date, later, touches}
use Rattle.fact_model.specs.Ordered.{insert_by, ordered}
use Rattle.fact_model.specs.Listed.{is_point, key_of, point_cmp, date_cmp}
use Rattle.version_store.specs.Tables.{Bytes, ByteFact, bytes_cmp, same_key, table_of}
use Rattle.version_store.specs.declared.listings.Listing.{Listing}
use Rattle.version_store.specs.declared.listings.Listing.TheVariants.{Puts, Points, Ranges}

-- the fact of an entry
abbrev pub fact_of : Entry → ByteFact
fact_of (Entry.Put key at value) = Fact.Put key value at
fact_of (Entry.Del key at) = Fact.Del key at
fact_of (Entry.Range lo hi at) = Fact.DelRange lo hi at

abbrev pub facts_of : List Entry → List ByteFact
facts_of es = map fact_of es

-- ---- the entries of one table

abbrev pub is_id : ℕ → Option ℕ → Bool
is_id id None = false
is_id id (Some own) = own == id

abbrev pub is_of : ℕ → Entry → Bool
is_of id e = is_id id (table_of (key_of (fact_of e)))

abbrev pub of_table : ℕ → List Entry → List Entry
of_table id es = filter (is_of id) es

-- ---- listings

abbrev pub is_put : ByteFact → Bool
is_put (Fact.Put key value at) = true
is_put (Fact.Del key at) = false
is_put (Fact.DelRange lo hi at) = false

-- which facts are listed
abbrev pub is_listed : Listing → Entry → Bool
is_listed Puts e = is_put (fact_of e)
is_listed (Points from upto) e = is_point (fact_of e) && is_between from upto (date (fact_of e))
is_listed (Ranges from upto) e = not (is_point (fact_of e)) && is_between from upto (date (fact_of e))

-- in which order
abbrev pub listing_cmp : Listing → Entry → Entry → Ordering
listing_cmp Puts a b = bytes_cmp (key_of (fact_of a)) (key_of (fact_of b))
listing_cmp (Points from upto) a b = point_cmp bytes_cmp (fact_of a) (fact_of b)
listing_cmp (Ranges from upto) a b = date_cmp (fact_of a) (fact_of b)

-- the listing of a table
unfoldable pub listed : Listing → ℕ → List Entry → List Entry
listed l id es = ordered (listing_cmp l) (filter (λ e. is_of id e && is_listed l e) es)

-- a listing with one entry more, if that is listed
abbrev pub with_listed : Listing → ℕ → Entry → List Entry → List Entry
with_listed l id e es = cond (is_of id e && is_listed l e) (insert_by (listing_cmp l) e es) es

-- where x goes in a list in order, if it isn't there
abbrev pub IsPlace : {X : Type 0} → (X → X → Ordering) → X → List X → Option ℕ → Type 0
IsPlace cmp x ys None = insert_by cmp x ys ≡ ys
IsPlace cmp x ys (Some i) = (i ≤ length ys) × (insert_by cmp x ys ≡ insert ys i x)

-- ---- walks

-- the newest fact of a key with one entry more in front
abbrev pub newest_step : ℕ → Bytes → Time → Entry → Option ByteFact → Option ByteFact
newest_step id k t e best = cond (is_of id e) (cond (touches bytes_cmp k (fact_of e) && time_le (date (fact_of e)) t) (later (fact_of e) best) best) best

-- the entry of a key that has a version
abbrev pub seen_item : Bytes → Option (Version Bytes) → List Entry
seen_item k None = []
seen_item k (Some v) = Entry.Put k v.at v.value ∷ []

-- a collection leaves the entry as it is: another table's, or a later one
abbrev pub stays : ℕ → Time → Entry → Bool
stays id g e = not (is_of id e) || time_lt g (date (fact_of e))

-- ---- the first of each key

abbrev pub is_same : {X : Type 0} → (X → X → Bool) → Option X → X → Bool
is_same same None x = false
is_same same (Some k) x = same k x

-- the elements that aren't the same as the last one kept
abbrev pub firsts : {X : Type 0} → (X → X → Bool) → Option X → List X → List X
firsts same k [] = []
firsts same k (x ∷ xs) = cond (is_same same k x) (firsts same k xs) (x ∷ firsts same (Some x) xs)

-- the last element kept
abbrev pub last_of : {X : Type 0} → Option X → List X → Option X
last_of k [] = k
last_of k (x ∷ xs) = last_of (Some x) xs

abbrev pub entries_same : Entry → Entry → Bool
entries_same d e = same_key (fact_of d) (fact_of e)
