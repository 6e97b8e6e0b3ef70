-- What changes of pieces mean for the range deletions that they are made of.
use Rattle.std.proofs.Common.{◌≡◌, Bool, true, false, not, cond, ◌&&◌, ◌||◌, List, [], ◌∷◌, ◌++◌, Option, Some, None, option_map, map, filter, refl, sym, ap, ap₂, ◌∙◌, subst, true≢false, inl, inr, is_eq, nat_cmp}
use Rattle.std.specs.List.{AllByRecursion, dedup}
use Rattle.std.specs.Cmp.Lexicographic.{pointwise, slice_cmp}
use Rattle.std.proofs.lemmas.List.{map-append}
use Rattle.std.proofs.lemmas.List.Elements.{filter-append}
use Rattle.mvcc_keys.specs.Times.{Time, time_lt, time_eq}
use Rattle.range_tombstones.specs.declared.piece.Piece.{Piece}
use Rattle.range_tombstones.specs.Dates.{Ascends, has_date, with_date}
use Rattle.list_laws.specs.Members.{Has}
use Rattle.range_tombstones.specs.declared.deletion.RangeDeletion.{RangeDeletion}
use Rattle.range_tombstones.specs.Ranges.{Bytes, by_date, range, bytes_le, bytes_lt, is_within, covers, with_range, dates_of, is_dated, ranges_after}
use Rattle.range_tombstones.specs.Pieces.{piece, begins_before, piece_after, piece_at, dates_in, dates_at, dated, dated_after, is_start, same_dates, IsMadeOf, IsSplit, MayDate}
use Rattle.range_tombstones.proofs.Lists as lists
use Rattle.list_laws.proofs.Filters as filters
use Rattle.list_laws.proofs.Members as members
use Rattle.mvcc_keys.proofs.TimeOrder as times
use Rattle.range_tombstones.proofs.DateLaws as dates
use Rattle.range_tombstones.proofs.KeyLaws as keys
use Rattle.range_tombstones.proofs.PieceLaws as pieces
use Rattle.range_tombstones.proofs.SplitLaws as splits

-- ---- the piece of a key

-- a piece that begins at or before a key has the key's piece at it or after it
pub le-last : (before : Option Piece) (key : Bytes) (ps : List Piece) (p : Piece) → Ascends begins_before ps → Has p ps → bytes_le p.start key ≡ true → (q : Piece) × (piece_after before key ps ≡ Some q) × (bytes_le p.start q.start ≡ true)
le-last before key [] p a h le = absurd h
le-last before key (r ∷ ps) p a (inr i) le = le-last (cond (bytes_le r.start key) (Some r) before) key ps p a.1 i le
le-last before key (r ∷ ps) p a (inl e) le =
    let w = go r ps a in
    (w.0, ap (λ (b : Bool). piece_after (cond b (Some r) before) key ps) (ap (λ (x : Piece). bytes_le x.start key) (sym e) ∙ le) ∙ w.1, ap (λ (x : Piece). bytes_le x.start w.0.start) e ∙ w.2)
  where
    go : (r : Piece) (ps : List Piece) → Ascends begins_before (r ∷ ps) → (q : Piece) × (piece_after (Some r) key ps ≡ Some q) × (bytes_le r.start q.start ≡ true)
    go r [] a = (r, refl, keys.le-itself r.start)
    go r (s ∷ ps) a = by (bytes_le s.start key) (go s ps a.1) (go r ps (a.0.1, a.1.1))
      where
        by : (b : Bool) → (q : Piece) × (piece_after (Some s) key ps ≡ Some q) × (bytes_le s.start q.start ≡ true) → (q : Piece) × (piece_after (Some r) key ps ≡ Some q) × (bytes_le r.start q.start ≡ true) → (q : Piece) × (piece_after (cond b (Some s) (Some r)) key ps ≡ Some q) × (bytes_le r.start q.start ≡ true)
        by true m n = (m.0, m.1, keys.le-trans r.start s.start m.0.start (keys.lt-le r.start s.start a.0.0) m.2)
        by false m n = n

-- a piece's own key
pub own-piece : (before : Option Piece) (ps : List Piece) (p : Piece) → Ascends begins_before ps → Has p ps → piece_after before p.start ps ≡ Some p
own-piece before [] p a h = absurd h
own-piece before (q ∷ ps) p a (inr i) = own-piece (cond (bytes_le q.start p.start) (Some q) before) ps p a.1 i
own-piece before (q ∷ ps) p a (inl e) = ap (λ (b : Bool). piece_after (cond b (Some q) before) p.start ps) (ap (λ (x : Piece). bytes_le x.start p.start) (sym e) ∙ keys.le-itself p.start) ∙ (splits.after-above (Some q) p.start ps (λ r h. ap (λ (x : Piece). bytes_lt x.start r.start) e ∙ lists.all-has (λ s. begins_before q s ≡ true) ps a.0 r h) ∙ ap Some (sym e))

begun-last : (before : Option Piece) (key : Bytes) (ps : List Piece) (q : Piece) → ((p : Piece) → before ≡ Some p → bytes_le p.start key ≡ true) → piece_after before key ps ≡ Some q → bytes_le q.start key ≡ true
begun-last before key [] q b e = b q e
begun-last before key (p ∷ ps) q b e = begun-last (cond (bytes_le p.start key) (Some p) before) key ps q (by (bytes_le p.start key) refl) e
  where
    by : (c : Bool) → bytes_le p.start key ≡ c → (r : Piece) → cond c (Some p) before ≡ Some r → bytes_le r.start key ≡ true
    by true m r f = let same : p ≡ r = cc in ap (λ (x : Piece). bytes_le x.start key) (sym same) ∙ m
    by false m r f = b r f

start-has : (key : Bytes) (ps : List Piece) → is_start key ps ≡ true → (p : Piece) × Has p ps × (p.start ≡ key)
start-has key [] e = absurd (true≢false (sym e))
start-has key (q ∷ qs) e = by (is_eq (slice_cmp nat_cmp q.start key)) refl e (start-has key qs)
  where
    by : (b : Bool) → is_eq (slice_cmp nat_cmp q.start key) ≡ b → (b || is_start key qs) ≡ true → (is_start key qs ≡ true → (p : Piece) × Has p qs × (p.start ≡ key)) → (p : Piece) × Has p (q ∷ qs) × (p.start ≡ key)
    by true m e more = (q, inl refl, keys.same-is q.start key m)
    by false m e more = let w = more e in (w.0, inr w.1, w.2)

-- where a piece begins at x, x is at or before a key just where it is at or before the beginning of the key's piece
abbrev StartsSo : Bytes → Bytes → Option Piece → Type 0
StartsSo x key None = bytes_le x key ≡ false
StartsSo x key (Some q) = bytes_le x key ≡ bytes_le x q.start

starts-so : (x key : Bytes) (ps : List Piece) → Ascends begins_before ps → is_start x ps ≡ true → StartsSo x key (piece_at key ps)
unfolding piece_at
starts-so x key ps a s = by (piece_after None key ps) refl
  where
    w : (p : Piece) × Has p ps × (p.start ≡ x)
    w = start-has x ps s

    last : bytes_le x key ≡ true → (q : Piece) × (piece_after None key ps ≡ Some q) × (bytes_le x q.start ≡ true)
    last le = let v = le-last None key ps w.0 a w.1 (ap (λ (y : Bytes). bytes_le y key) w.2 ∙ le) in (v.0, v.1, ap (λ (y : Bytes). bytes_le y v.0.start) (sym w.2) ∙ v.2)

    by : (o : Option Piece) → piece_after None key ps ≡ o → StartsSo x key o
    by None e = none (bytes_le x key) refl
      where
        none : (b : Bool) → bytes_le x key ≡ b → b ≡ false
        none false f = refl
        none true f = let v = last f in let no_such : None ≡ Some v.0 = sym e ∙ v.1 in absurd (cc)
    by (Some q) e = both (bytes_le x key) refl (bytes_le x q.start) refl
      where
        both : (b : Bool) → bytes_le x key ≡ b → (c : Bool) → bytes_le x q.start ≡ c → b ≡ c
        both true f true g = refl
        both false f false g = refl
        both true f false g = let v = last f in let same : Some v.0 ≡ Some q = sym v.1 ∙ e in let is : v.0 ≡ q = cc in absurd (true≢false (sym v.2 ∙ (ap (λ (y : Piece). bytes_le x y.start) is ∙ g)))
        both false f true g = absurd (true≢false (sym (keys.le-trans x q.start key g (begun-last None key ps q (λ p n. absurd (cc)) e)) ∙ f))

-- ---- a range deletion more

-- the dates of a key where a date was put into the pieces of a range
dated-at : (lo hi : Bytes) (t : Time) (key : Bytes) (ps : List Piece) → Ascends begins_before ps → is_start lo ps ≡ true → is_start hi ps ≡ true → dates_at key (map (dated lo hi t) ps) ≡ cond (is_within lo hi key) (with_date t (dates_at key ps)) (dates_at key ps)
dated-at lo hi t key ps a s u = ap dates_in (pieces.at-map (dated lo hi t) same key ps) ∙ by (piece_at key ps) (starts-so lo key ps a s) (starts-so hi key ps a u)
  where
    same : (p : Piece) → (dated lo hi t p).start ≡ p.start
    same p = at (is_within lo hi p.start)
      where
        at : (b : Bool) → (cond b (piece p.start (with_date t p.dates)) p).start ≡ p.start
        at true = refl
        at false = refl

    by : (o : Option Piece) → StartsSo lo key o → StartsSo hi key o → dates_in (option_map (dated lo hi t) o) ≡ cond (is_within lo hi key) (with_date t (dates_in o)) (dates_in o)
    by None e f = sym (ap (λ (b : Bool). cond (b && bytes_lt key hi) (with_date t []) []) e)
    by (Some q) e f = at (is_within lo hi q.start) ∙ sym (ap (λ (b : Bool). cond b (with_date t q.dates) q.dates) (ap₂ (λ (b c : Bool). b && c) e (sym (keys.not-le hi key) ∙ (ap not f ∙ keys.not-le hi q.start))))
      where
        at : (b : Bool) → (cond b (piece q.start (with_date t q.dates)) q).dates ≡ cond b (with_date t q.dates) q.dates
        at true = refl
        at false = refl

abbrev pub covering : Bytes → List RangeDeletion → List Time
covering key rs = dates_of (filter (covers key) rs)

-- a test of dates commutes with what covers a key
covering-filter : (p : Time → Bool) (key : Bytes) (rs : List RangeDeletion) → covering key (filter (λ r. p r.at) rs) ≡ filter p (covering key rs)
covering-filter p key rs = ap (map (λ r. r.at)) (filters.filter-filter (covers key) (λ r. p r.at) rs) ∙ sym (filters.filter-map p (λ r. r.at) (filter (covers key) rs))

pub map-ascends : (rs : List RangeDeletion) → Ascends by_date rs → Ascends time_lt (map (λ r. r.at) rs)
map-ascends [] a = tt
map-ascends (r ∷ rs) a = (by rs a.0, map-ascends rs a.1)
  where
    by : (ss : List RangeDeletion) → AllByRecursion (λ s. by_date r s ≡ true) ss → AllByRecursion (λ d. time_lt r.at d ≡ true) (map (λ s. s.at) ss)
    by [] h = tt
    by (s ∷ ss) h = (h.0, by ss h.1)

pub covering-ascends : (key : Bytes) (rs : List RangeDeletion) → Ascends by_date rs → Ascends time_lt (covering key rs)
covering-ascends key rs a = map-ascends (filter (covers key) rs) (lists.ascends-filter by_date (covers key) rs a)

pub at-has : (t : Time) (rs : List RangeDeletion) → Has t (map (λ r. r.at) rs) → (r : RangeDeletion) × Has r rs × (t ≡ r.at)
at-has t [] h = absurd h
at-has t (r ∷ rs) (inl e) = (r, inl refl, e)
at-has t (r ∷ rs) (inr i) = let w = at-has t rs i in (w.0, inr w.1, w.2)

pub has-at : (r : RangeDeletion) (rs : List RangeDeletion) → Has r rs → Has r.at (dates_of rs)
has-at r [] h = absurd h
has-at r (s ∷ rs) (inl e) = inl (ap (λ (x : RangeDeletion). x.at) e)
has-at r (s ∷ rs) (inr i) = inr (has-at r rs i)

pub new-covering : (t : Time) (key : Bytes) (rs : List RangeDeletion) → is_dated t rs ≡ false → has_date t (covering key rs) ≡ false
new-covering t key rs f = dates.no-date t (covering key rs) (λ d h. by (time_eq t d) d refl h)
  where
    by : (b : Bool) (d : Time) → time_eq t d ≡ b → Has d (covering key rs) → b ≡ false
    by false d e h = refl
    by true d e h = let w = at-has d (filter (covers key) rs) h in sym (dates.has-date_has t (dates_of rs) (subst (λ s. Has s (dates_of rs)) (sym (times.eq-is t d e ∙ w.2)) (has-at w.0 rs (members.filter-has (covers key) w.0 rs w.1)))) ∙ f

-- the dates that cover a key, where there is a range deletion more
covering-with : (key : Bytes) (r : RangeDeletion) (rs : List RangeDeletion) → Ascends by_date rs → is_dated r.at rs ≡ false → covering key (with_range r rs) ≡ cond (covers key r) (with_date r.at (covering key rs)) (covering key rs)
unfolding with_range with_date
covering-with key r rs a f = ap (map (λ s. s.at)) (filter-append (covers key) lows (r ∷ highs)) ∙ (map-append (λ s. s.at) (filter (covers key) lows) (filter (covers key) (r ∷ highs)) ∙ by (covers key r))
  where
    lows : List RangeDeletion
    lows = filter (λ s. time_lt s.at r.at) rs

    highs : List RangeDeletion
    highs = filter (λ s. time_lt r.at s.at) rs

    front : covering key lows ≡ filter (λ d. time_lt d r.at) (covering key rs)
    front = covering-filter (λ d. time_lt d r.at) key rs

    back : covering key highs ≡ filter (λ d. time_lt r.at d) (covering key rs)
    back = covering-filter (λ d. time_lt r.at d) key rs

    by : (b : Bool) → covering key lows ++ map (λ s. s.at) (cond b (r ∷ filter (covers key) highs) (filter (covers key) highs)) ≡ cond b (filter (λ d. time_lt d r.at) (covering key rs) ++ r.at ∷ filter (λ d. time_lt r.at d) (covering key rs)) (covering key rs)
    by true = ap₂ (λ (xs ys : List Time). xs ++ r.at ∷ ys) front back
    by false = ap₂ (λ (xs ys : List Time). xs ++ ys) front back ∙ dates.halves r.at (covering key rs) (covering-ascends key rs a) (new-covering r.at key rs f)

-- the range deletion added to what pieces are made of, where one begins at each of its ends
pub made-dated : (lo hi : Bytes) (t : Time) (ps : List Piece) (rs : List RangeDeletion) → bytes_lt lo hi ≡ true → is_dated t rs ≡ false → IsMadeOf ps rs → is_start lo ps ≡ true → is_start hi ps ≡ true → IsMadeOf (map (dated lo hi t) ps) (with_range (range lo hi t) rs)
unfolding with_range
made-dated lo hi t ps rs order new m s u = record {
  pieces = pieces.ascends-map (dated lo hi t) same ps m.pieces;
  ascends = lists.ascends-put by_date (λ x y z. times.lt-trans x.at y.at z.at) (range lo hi t) (filter (λ x. time_lt x.at t) rs) (filter (λ x. time_lt t x.at) rs) (lists.ascends-filter by_date (λ x. time_lt x.at t) rs m.ascends) (lists.ascends-filter by_date (λ x. time_lt t x.at) rs m.ascends) (λ x h. members.filter-passes (λ y. time_lt y.at t) x rs h) (λ x h. members.filter-passes (λ y. time_lt t y.at) x rs h);
  proper = members.all-append (λ x. bytes_lt x.lo x.hi ≡ true) (filter (λ x. time_lt x.at t) rs) (range lo hi t ∷ filter (λ x. time_lt t x.at) rs) (members.all-filter (λ x. bytes_lt x.lo x.hi ≡ true) (λ x. time_lt x.at t) rs m.proper) (order, members.all-filter (λ x. bytes_lt x.lo x.hi ≡ true) (λ x. time_lt t x.at) rs m.proper);
  dates = λ key. dated-at lo hi t key ps m.pieces s u ∙ (ap (λ (ds : List Time). cond (is_within lo hi key) (with_date t ds) ds) (m.dates key) ∙ sym (covering-with key (range lo hi t) rs m.ascends new));
}
  where
    same : (p : Piece) → (dated lo hi t p).start ≡ p.start
    same p = at (is_within lo hi p.start)
      where
        at : (b : Bool) → (cond b (piece p.start (with_date t p.dates)) p).start ≡ p.start
        at true = refl
        at false = refl

-- a new date may be put into each piece
pub may-date : (t : Time) (ps : List Piece) (rs : List RangeDeletion) → IsMadeOf ps rs → is_dated t rs ≡ false → AllByRecursion (MayDate t) ps
unfolding piece_at
may-date t ps rs m new = members.AllByRecursion-has (MayDate t) ps (λ p h. let is : covering p.start rs ≡ p.dates = sym (m.dates p.start) ∙ ap dates_in (own-piece None ps p m.pieces h) in (subst (λ (ds : List Time). Ascends time_lt ds) is (covering-ascends p.start rs m.ascends), sym (ap (has_date t) is) ∙ new-covering t p.start rs new))

-- what stays as it was under a split
pub made-split : (key : Bytes) (ps qs : List Piece) (rs : List RangeDeletion) → IsMadeOf ps rs → IsSplit key ps qs → IsMadeOf qs rs
made-split key ps qs rs m s = record { pieces = s.ascends; ascends = m.ascends; proper = m.proper; dates = λ k. s.dates k ∙ m.dates k }

-- ---- the range deletions up to a time forgotten

same-dates : (xs ys : List Time) → pointwise time_eq xs ys ≡ true → xs ≡ ys
same-dates [] [] e = refl
same-dates [] (y ∷ ys) e = absurd (true≢false (sym e))
same-dates (x ∷ xs) [] e = absurd (true≢false (sym e))
same-dates (x ∷ xs) (y ∷ ys) e = by (time_eq x y) refl e (same-dates xs ys)
  where
    by : (b : Bool) → time_eq x y ≡ b → (b && pointwise time_eq xs ys) ≡ true → (pointwise time_eq xs ys ≡ true → xs ≡ ys) → x ∷ xs ≡ y ∷ ys
    by true m e more = ap₂ (λ (z : Time) zs. z ∷ zs) (times.eq-is x y m) (more e)
    by false m e more = absurd (true≢false (sym e))

dedup-after : (before : Option Piece) (key : Bytes) (p : Piece) (ps : List Piece) → Ascends begins_before (p ∷ ps) → dates_in (piece_after before key (dedup same_dates (p ∷ ps))) ≡ dates_in (piece_after before key (p ∷ ps))
dedup-after before key p [] a = refl
dedup-after before key p (q ∷ ps) a = by (same_dates q p) refl (λ b. dedup-after b key p ps (a.0.1, a.1.1)) (λ b. dedup-after b key q ps a.1)
  where
    here : Option Piece
    here = cond (bytes_le p.start key) (Some p) before

    step : (b : Bool) → bytes_le q.start key ≡ b → p.dates ≡ q.dates → dates_in here ≡ dates_in (cond b (Some q) here)
    step true le e = ap (λ (b : Bool). dates_in (cond b (Some p) before)) (keys.le-down key p.start q.start a.0.0 le) ∙ e
    step false le e = refl

    by : (b : Bool) → same_dates q p ≡ b → ((o : Option Piece) → dates_in (piece_after o key (dedup same_dates (p ∷ ps))) ≡ dates_in (piece_after o key (p ∷ ps))) → ((o : Option Piece) → dates_in (piece_after o key (dedup same_dates (q ∷ ps))) ≡ dates_in (piece_after o key (q ∷ ps))) → dates_in (piece_after before key (cond b (dedup same_dates (p ∷ ps)) (p ∷ dedup same_dates (q ∷ ps)))) ≡ dates_in (piece_after before key (p ∷ q ∷ ps))
    by true e own rest = own before ∙ splits.dates-after here (cond (bytes_le q.start key) (Some q) here) key ps (step (bytes_le q.start key) refl (sym (same-dates q.dates p.dates e)))
    by false e own rest = rest here

dedup-at : (key : Bytes) (ps : List Piece) → Ascends begins_before ps → dates_at key (dedup same_dates ps) ≡ dates_at key ps
unfolding piece_at
dedup-at key [] a = refl
dedup-at key (p ∷ ps) a = dedup-after None key p ps a

dedup-has : (r p : Piece) (ps : List Piece) → Has r (dedup same_dates (p ∷ ps)) → Has r (p ∷ ps)
dedup-has r p [] h = h
dedup-has r p (q ∷ ps) h = by (same_dates q p) (dedup-has r p ps) (dedup-has r q ps) h
  where
    by : (b : Bool) → (Has r (dedup same_dates (p ∷ ps)) → Has r (p ∷ ps)) → (Has r (dedup same_dates (q ∷ ps)) → Has r (q ∷ ps)) → Has r (cond b (dedup same_dates (p ∷ ps)) (p ∷ dedup same_dates (q ∷ ps))) → Has r (p ∷ q ∷ ps)
    by true own rest h = elim (own h) [ inl e ↦ inl e | inr i ↦ inr (inr i) ]
    by false own rest (inl e) = inl e
    by false own rest (inr i) = inr (rest i)

dedup-ascends : (p : Piece) (ps : List Piece) → Ascends begins_before (p ∷ ps) → Ascends begins_before (dedup same_dates (p ∷ ps))
dedup-ascends p [] a = a
dedup-ascends p (q ∷ ps) a = by (same_dates q p) (dedup-ascends p ps (a.0.1, a.1.1)) (dedup-ascends q ps a.1)
  where
    by : (b : Bool) → Ascends begins_before (dedup same_dates (p ∷ ps)) → Ascends begins_before (dedup same_dates (q ∷ ps)) → Ascends begins_before (cond b (dedup same_dates (p ∷ ps)) (p ∷ dedup same_dates (q ∷ ps)))
    by true own rest = own
    by false own rest = (members.AllByRecursion-has (λ r. begins_before p r ≡ true) (dedup same_dates (q ∷ ps)) (λ r h. lists.all-has (λ s. begins_before p s ≡ true) (q ∷ ps) a.0 r (dedup-has r q ps h)), rest)

pub made-collected : (g : Time) (ps : List Piece) (rs : List RangeDeletion) → IsMadeOf ps rs → IsMadeOf (dedup same_dates (map (dated_after g) ps)) (ranges_after g rs)
made-collected g ps rs m = record {
  pieces = deduped (map (dated_after g) ps) left;
  ascends = lists.ascends-filter by_date (λ r. time_lt g r.at) rs m.ascends;
  proper = members.all-filter (λ r. bytes_lt r.lo r.hi ≡ true) (λ r. time_lt g r.at) rs m.proper;
  dates = λ key. dedup-at key (map (dated_after g) ps) left ∙ (ap dates_in (pieces.at-map (dated_after g) (λ p. refl) key ps) ∙ (kept (piece_at key ps) ∙ (ap (filter (λ d. time_lt g d)) (m.dates key) ∙ sym (covering-filter (λ d. time_lt g d) key rs))));
}
  where
    left : Ascends begins_before (map (dated_after g) ps)
    left = pieces.ascends-map (dated_after g) (λ p. refl) ps m.pieces

    deduped : (qs : List Piece) → Ascends begins_before qs → Ascends begins_before (dedup same_dates qs)
    deduped [] a = tt
    deduped (q ∷ qs) a = dedup-ascends q qs a

    kept : (o : Option Piece) → dates_in (option_map (dated_after g) o) ≡ filter (λ d. time_lt g d) (dates_in o)
    kept None = refl
    kept (Some q) = refl
