-- A piece more where none began.
use Rattle.std.proofs.Common.{◌≡◌, ℕ, Bool, true, false, cond, ◌||◌, List, [], ◌∷◌, ◌++◌, take, drop, Option, Some, None, filter, refl, sym, ap, ap₂, ◌∙◌, subst, true≢false, ◌⊎◌, inl, inr, is_eq, nat_cmp, take-append-drop}
use Rattle.std.specs.Cmp.Lexicographic.{slice_cmp}
use Rattle.mvcc_keys.specs.Times.{Time}
use Rattle.range_tombstones.specs.declared.piece.Piece.{Piece}
use Rattle.range_tombstones.specs.Dates.{Ascends, last_after, last_of}
use Rattle.list_laws.specs.Members.{Has}
use Rattle.range_tombstones.specs.Ranges.{Bytes, bytes_le, bytes_lt}
use Rattle.range_tombstones.specs.Pieces.{piece, begins_before, piece_after, piece_at, dates_in, dates_at, is_start, IsSplit}
use Rattle.range_tombstones.proofs.Lists as lists
use Rattle.list_laws.proofs.Members as members
use Rattle.range_tombstones.proofs.KeyLaws as keys
use Rattle.range_tombstones.proofs.PieceLaws.{begun, at-begun}
use Rattle.list_laws.proofs.Bools.{or-false, or-true}

abbrev pub begins : Bytes → Option Piece → Bool
begins key None = false
begins key (Some p) = is_eq (slice_cmp nat_cmp p.start key)

last-begins : (key : Bytes) (ps : List Piece) → Ascends begins_before ps → begins key (last_of (begun key ps)) ≡ is_start key ps
last-begins key [] a = refl
last-begins key (p ∷ ps) a = by (bytes_le p.start key) refl (last-begins key ps a.1)
  where
    is : Piece → Bool
    is q = is_eq (slice_cmp nat_cmp q.start key)

    at : (qs : List Piece) → begun key ps ≡ qs → begins key (last_of (begun key ps)) ≡ is_start key ps → begins key (Some (last_after p qs)) ≡ (is p || is_start key ps)
    at [] e more = sym (or-false (is p)) ∙ ap (λ (b : Bool). is p || b) (ap (λ qs. begins key (last_of qs)) (sym e) ∙ more)
    at (q ∷ qs) e more =
        let i : Has q (begun key ps) = subst (λ rs. Has q rs) (sym e) (inl refl) in
        let lt : bytes_lt p.start q.start ≡ true = lists.all-has (λ r. begins_before p r ≡ true) ps a.0 q (members.filter-has (λ r. bytes_le r.start key) q ps i) in
        ap (λ rs. begins key (last_of rs)) (sym e) ∙ (more ∙ ap (λ (b : Bool). b || is_start key ps) (sym (keys.lt-other p.start key (keys.lt-upto p.start q.start key lt (members.filter-passes (λ r. bytes_le r.start key) q ps i)))))

    by : (b : Bool) → bytes_le p.start key ≡ b → begins key (last_of (begun key ps)) ≡ is_start key ps → begins key (last_of (cond b (p ∷ begun key ps) (begun key ps))) ≡ (is p || is_start key ps)
    by true e more = at (begun key ps) refl more
    by false e more = more ∙ ap (λ (b : Bool). b || is_start key ps) (sym (keys.not-le_other p.start key e))

pub start-is : (key : Bytes) (ps : List Piece) (o : Option Piece) → Ascends begins_before ps → o ≡ piece_at key ps → begins key o ≡ is_start key ps
start-is key ps o a e = ap (begins key) (e ∙ sym (at-begun key ps)) ∙ last-begins key ps a

start-append : (key : Bytes) (ps qs : List Piece) → is_start key (ps ++ qs) ≡ (is_start key ps || is_start key qs)
start-append key [] qs = refl
start-append key (p ∷ ps) qs = ap (λ (b : Bool). is_eq (slice_cmp nat_cmp p.start key) || b) (start-append key ps qs) ∙ by (is_eq (slice_cmp nat_cmp p.start key))
  where
    by : (b : Bool) → (b || (is_start key ps || is_start key qs)) ≡ ((b || is_start key ps) || is_start key qs)
    by true = refl
    by false = refl

no-start : (key : Bytes) (ps : List Piece) → is_start key ps ≡ false → (p : Piece) → Has p ps → is_eq (slice_cmp nat_cmp p.start key) ≡ false
no-start key [] e p h = absurd h
no-start key (q ∷ qs) e p h = by (is_eq (slice_cmp nat_cmp q.start key)) refl (is_start key qs) refl e h (λ f i. no-start key qs f p i)
  where
    by : (a : Bool) → is_eq (slice_cmp nat_cmp q.start key) ≡ a → (b : Bool) → is_start key qs ≡ b → (a || b) ≡ false → (p ≡ q) ⊎ Has p qs → (is_start key qs ≡ false → Has p qs → is_eq (slice_cmp nat_cmp p.start key) ≡ false) → is_eq (slice_cmp nat_cmp p.start key) ≡ false
    by true m b n e h more = absurd (true≢false e)
    by false m true n e h more = absurd (true≢false e)
    by false m false n e (inl same) more = ap (λ (r : Piece). is_eq (slice_cmp nat_cmp r.start key)) same ∙ m
    by false m false n e (inr i) more = more n i

pub after-append : (before : Option Piece) (key : Bytes) (ps qs : List Piece) → piece_after before key (ps ++ qs) ≡ piece_after (piece_after before key ps) key qs
after-append before key [] qs = refl
after-append before key (p ∷ ps) qs = after-append (cond (bytes_le p.start key) (Some p) before) key ps qs

-- pieces that begin above a key
pub after-above : (before : Option Piece) (key : Bytes) (ps : List Piece) → ((p : Piece) → Has p ps → bytes_lt key p.start ≡ true) → piece_after before key ps ≡ before
after-above before key [] f = refl
after-above before key (p ∷ ps) f = ap (λ (b : Bool). piece_after (cond b (Some p) before) key ps) (keys.lt-not_le key p.start (f p (inl refl))) ∙ after-above before key ps (λ q h. f q (inr h))

-- pieces that begin at or before two keys
after-both : (before : Option Piece) (key k : Bytes) (ps : List Piece) → bytes_le key k ≡ true → ((p : Piece) → Has p ps → bytes_le p.start key ≡ true) → piece_after before k ps ≡ piece_after before key ps
after-both before key k [] le f = refl
after-both before key k (p ∷ ps) le f = ap (λ (a : Bool). piece_after (cond a (Some p) before) k ps) (keys.le-trans p.start key k (f p (inl refl)) le) ∙ (after-both (Some p) key k ps le (λ q h. f q (inr h)) ∙ ap (λ (b : Bool). piece_after (cond b (Some p) before) key ps) (sym (f p (inl refl))))

pub dates-after : (a b : Option Piece) (key : Bytes) (ps : List Piece) → dates_in a ≡ dates_in b → dates_in (piece_after a key ps) ≡ dates_in (piece_after b key ps)
dates-after a b key [] e = e
dates-after a b key (p ∷ ps) e = by (bytes_le p.start key) (λ c d f. dates-after c d key ps f)
  where
    by : (x : Bool) → ((c d : Option Piece) → dates_in c ≡ dates_in d → dates_in (piece_after c key ps) ≡ dates_in (piece_after d key ps)) → dates_in (piece_after (cond x (Some p) a) key ps) ≡ dates_in (piece_after (cond x (Some p) b) key ps)
    by true more = refl
    by false more = more a b e

module _ (key : Bytes) (xs ys : List Piece) (ds : List Time) (low : (p : Piece) → Has p xs → bytes_le p.start key ≡ true) (high : (p : Piece) → Has p ys → bytes_lt key p.start ≡ true) (is : ds ≡ dates_at key (xs ++ ys)) where
  put-dates : (k : Bytes) → dates_at k (xs ++ piece key ds ∷ ys) ≡ dates_at k (xs ++ ys)
  unfolding piece_at
  put-dates k = ap dates_in (after-append None k xs (piece key ds ∷ ys)) ∙ (by (bytes_le key k) refl ∙ ap dates_in (sym (after-append None k xs ys)))
    where
      own : ds ≡ dates_in (piece_after None key xs)
      own = is ∙ ap dates_in (after-append None key xs ys ∙ after-above (piece_after None key xs) key ys high)

      by : (b : Bool) → bytes_le key k ≡ b → dates_in (piece_after (cond b (Some (piece key ds)) (piece_after None k xs)) k ys) ≡ dates_in (piece_after (piece_after None k xs) k ys)
      by true e = dates-after (Some (piece key ds)) (piece_after None k xs) k ys (own ∙ ap dates_in (sym (after-both None key k xs e low)))
      by false e = refl

-- a piece put at its place
pub split-put : (key : Bytes) (ps qs xs : List Piece) (i : ℕ) (p : Piece) → Ascends begins_before ps → is_start key ps ≡ false → xs ≡ ps → take i xs ≡ begun key xs → drop i xs ≡ filter (λ q. bytes_lt key q.start) xs → p.start ≡ key → p.dates ≡ dates_at key ps → qs ≡ take i ps ++ p ∷ drop i ps → IsSplit key ps qs
split-put key ps qs xs i p a none same front back start dates is = subst (λ rs. IsSplit key ps rs) (sym put) (record {
  ascends = lists.ascends-put begins_before (λ q r s. keys.lt-trans q.start r.start s.start) (piece key p.dates) lows highs (lists.ascends-filter begins_before (λ q. bytes_le q.start key) ps a) (lists.ascends-filter begins_before (λ q. bytes_lt key q.start) ps a) (λ q h. keys.le-other_lt q.start key (low q h) (no-start key ps none q (members.filter-has (λ r. bytes_le r.start key) q ps h))) high;
  begun = start-append key lows (piece key p.dates ∷ highs) ∙ (ap (λ (b : Bool). is_start key lows || (b || is_start key highs)) (keys.same-itself key) ∙ or-true (is_start key lows));
  others = λ k e. start-append k lows (piece key p.dates ∷ highs) ∙ more (is_start k lows) (is_eq (slice_cmp nat_cmp key k)) (is_start k highs) (sym (start-append k lows highs) ∙ (ap (is_start k) whole ∙ e));
  dates = λ k. put-dates key lows highs p.dates low high (dates ∙ ap (dates_at key) (sym whole)) k ∙ ap (dates_at k) whole;
})
  where
    lows : List Piece
    lows = begun key ps

    highs : List Piece
    highs = filter (λ q. bytes_lt key q.start) ps

    front-is : take i ps ≡ lows
    front-is = subst (λ rs. take i rs ≡ begun key rs) same front

    back-is : drop i ps ≡ highs
    back-is = subst (λ rs. drop i rs ≡ filter (λ q. bytes_lt key q.start) rs) same back

    whole : lows ++ highs ≡ ps
    whole = ap₂ (λ (ys zs : List Piece). ys ++ zs) (sym front-is) (sym back-is) ∙ take-append-drop i ps

    put : qs ≡ lows ++ piece key p.dates ∷ highs
    put = is ∙ (ap₂ (λ (ys zs : List Piece). ys ++ p ∷ zs) front-is back-is ∙ ap (λ (s : Bytes). lows ++ piece s p.dates ∷ highs) start)

    low : (q : Piece) → Has q lows → bytes_le q.start key ≡ true
    low q h = members.filter-passes (λ r. bytes_le r.start key) q ps h

    high : (q : Piece) → Has q highs → bytes_lt key q.start ≡ true
    high q h = members.filter-passes (λ r. bytes_lt key r.start) q ps h

    more : (x y z : Bool) → (x || z) ≡ true → (x || (y || z)) ≡ true
    more true y z e = refl
    more false true z e = refl
    more false false z e = e
