-- The order of entries is strict.
use Rattle.std.proofs.Common.{◌≡◌, Bool, true, false, List, [], ◌∷◌, Some, Ordering, refl, ap, ◌∙◌}
use Rattle.std.specs.Prelude.{◌&&◌, ◌||◌, if◌then◌else◌}
use Rattle.std.specs.List.{AllByRecursion}
use Rattle.std.specs.Ordering.{is_lt, ordering_reverse}
use Rattle.std.specs.Cmp.{IsTotalOrder}
use Rattle.std.proofs.lemmas.Cmp.{nat_cmp_total, on_total, then_total, back_total, nat_list_cmp_total}
use Rattle.mvcc_keys.specs.Times.{Time}
use Rattle.mvcc_keys.specs.Codes.{mvcc_cmp, time_cmp}
use Rattle.mvcc_keys.specs.Entries.{key_of}
use Rattle.mvcc_keys.specs.declared.entries.Entry.{Entry}
use Rattle.row_codec.proofs.KeyOrder.{both_true}
use Rattle.chunk_file.specs.Entries.{EntriesAreOrdered, are_ordered, comes_before, date_of, is_range}
use Rattle.list_laws.proofs.Orderings.{lt-Less}
use Rattle.mvcc_keys.proofs.TimeOrder.{lt-trans, lt-not_back}

-- the order of puts and deletions
abbrev point_cmp : Entry → Entry → Ordering
point_cmp d e = mvcc_cmp (key_of d) (date_of d) (key_of e) (date_of e)

time_total : IsTotalOrder time_cmp
time_total = then_total (on_total (λ (t : Time). t.wall) nat_cmp_total) (on_total (λ (t : Time). t.logical) nat_cmp_total)

point_total : IsTotalOrder point_cmp
point_total = then_total (on_total key_of nat_list_cmp_total) (back_total (on_total date_of time_total))

points-chain : (a b c : Entry) → is_lt (point_cmp a b) ≡ true → is_lt (point_cmp b c) ≡ true → is_lt (point_cmp a c) ≡ true
points-chain a b c h k = ap is_lt (point_total.trans a b c (lt-Less (point_cmp a b) h) (lt-Less (point_cmp b c) k))

points-one-way : (a b : Entry) → is_lt (point_cmp a b) ≡ true → is_lt (point_cmp b a) ≡ false
points-one-way a b h = ap is_lt (point_total.antisymm b a ∙ ap ordering_reverse (lt-Less (point_cmp a b) h))

-- which of two entries stands before, by whether they are ranges
abbrev before : Bool → Bool → Bool → Bool → Bool
before d e dates points = if d then e && dates else e || points

chains-by : (a b c : Bool) (ab bc ac : Bool) (pq qr pr : Bool) → (ab ≡ true → bc ≡ true → ac ≡ true) → (pq ≡ true → qr ≡ true → pr ≡ true) → before a b ab pq ≡ true → before b c bc qr ≡ true → before a c ac pr ≡ true
chains-by true true true ab bc ac pq qr pr f g h k = f h k
chains-by true true false ab bc ac pq qr pr f g h k = k
chains-by true false c ab bc ac pq qr pr f g h k = absurd (cc)
chains-by false b true ab bc ac pq qr pr f g h k = refl
chains-by false true false ab bc ac pq qr pr f g h k = absurd (cc)
chains-by false false false ab bc ac pq qr pr f g h k = g h k

one-way-by : (a b : Bool) (ab ba : Bool) (pq qp : Bool) → (ab ≡ true → ba ≡ false) → (pq ≡ true → qp ≡ false) → before a b ab pq ≡ true → before b a ba qp ≡ false
one-way-by true true ab ba pq qp f g h = f h
one-way-by true false ab ba pq qp f g h = absurd (cc)
one-way-by false true ab ba pq qp f g h = refl
one-way-by false false ab ba pq qp f g h = g h

chains : (a b c : Entry) → comes_before a b ≡ true → comes_before b c ≡ true → comes_before a c ≡ true
unfolding comes_before
chains a b c h k = chains-by (is_range a) (is_range b) (is_range c) _ _ _ _ _ _ (lt-trans (date_of a) (date_of b) (date_of c)) (points-chain a b c) h k

one-way : (a b : Entry) → comes_before a b ≡ true → comes_before b a ≡ false
unfolding comes_before
one-way a b h = one-way-by (is_range a) (is_range b) _ _ _ _ (lt-not_back (date_of a) (date_of b)) (points-one-way a b) h

before-all : (a b : Entry) (es : List Entry) → comes_before a b ≡ true → AllByRecursion (λ e. comes_before b e ≡ true) es → AllByRecursion (λ e. comes_before a e ≡ true) es
before-all a b [] h k = tt
before-all a b (e ∷ es) h k = (chains a b e h k.0, before-all a b es h k.1)

throughout : (a : Entry) (es : List Entry) → are_ordered (Some a) es ≡ true → AllByRecursion (λ e. comes_before a e ≡ true) es
throughout a [] h = tt
throughout a (e ∷ es) h =
    let both = both_true (comes_before a e) (are_ordered (Some e) es) h in
    (both.0, before-all a e es both.0 (throughout e es both.1))

pub entries-ordered : EntriesAreOrdered
entries-ordered = record { chains = chains; one_way = one-way; throughout = throughout }
