-- Of puts and deletions by key and newest first, the first of each key is its newest.
use Rattle.std.proofs.Common.{◌≡◌, ◌∙◌, ◌-◌, Bool, true, false, cond, not, ◌&&◌, ◌||◌, sym, refl, ap, ap₂, subst, List, [], ◌∷◌, ◌++◌, length, map, filter, slice_get, option_map, append_assoc, append-nil, inl, inr, Option, Some, None, true≢false, Ordering, Less, Equal, Greater, is_eq, arith}
use Rattle.std.specs.List.{list_any}
use Rattle.std.specs.List.Sorted.{IsStrictlySortedBy}
use Rattle.std.specs.Ordering.{ordering_reverse, ordering_then}
use Rattle.mvcc_keys.specs.Times.{time_lt}
use Rattle.mvcc_keys.specs.Codes.{time_cmp}
use Rattle.list_laws.specs.Members.{Has}
use Rattle.fact_model.specs.Facts.{date}
use Rattle.fact_model.specs.Listed.{key_of, point_cmp}
use Rattle.list_laws.proofs.Members as members
use Rattle.fact_model.proofs.Orders as orders
use Rattle.version_store.specs.Tables.{Bytes, ByteFact, bytes_cmp, entry_of, entries_of, is_newest, newest_points, same_key}
use Rattle.version_store.proofs.Bytes.{bytes_order, fact-entry}
use Rattle.version_store.specs.Lists.{entries_same, firsts, is_same, last_of}
use Rattle.version_store.proofs.FactOrder.{greater-lt, less-lt, points-total}
use Rattle.list_laws.proofs.Bools.{and-false, or-false}
use Rattle.mvcc_keys.proofs.TimeOrder.{lt-irrefl}

-- g has the key of f and a later date
abbrev is_later : ByteFact → ByteFact → Bool
is_later f g = same_key g f && time_lt (date f) (date g)

later-before : (f g : ByteFact) → point_cmp bytes_cmp g f ≡ Less → is_later f g ≡ same_key g f
later-before f g e = by (bytes_cmp (key_of g) (key_of f)) e
  where
    by : (o : Ordering) → ordering_then o (time_cmp (date f) (date g)) ≡ Less → (is_eq o && time_lt (date f) (date g)) ≡ is_eq o
    by Less h = refl
    by Equal h = less-lt (date f) (date g) h
    by Greater h = refl

later-not_before : (f g : ByteFact) → point_cmp bytes_cmp g f ≡ Greater → is_later f g ≡ false
later-not_before f g e = by (bytes_cmp (key_of g) (key_of f)) e
  where
    by : (o : Ordering) → ordering_then o (time_cmp (date f) (date g)) ≡ Greater → (is_eq o && time_lt (date f) (date g)) ≡ false
    by Less h = refl
    by Equal h = greater-lt (date f) (date g) h
    by Greater h = refl

later-itself : (f : ByteFact) → is_later f f ≡ false
later-itself f = ap (λ (b : Bool). same_key f f && b) (lt-irrefl (date f)) ∙ and-false (same_key f f)

any-append : {X : Type 0} (p : X → Bool) (xs ys : List X) → list_any p (xs ++ ys) ≡ (list_any p xs || list_any p ys)
any-append p [] ys = refl
any-append p (x ∷ xs) ys = ap (λ (b : Bool). p x || b) (any-append p xs ys) ∙ by (p x)
  where
    by : (b : Bool) → (b || (list_any p xs || list_any p ys)) ≡ ((b || list_any p xs) || list_any p ys)
    by true = refl
    by false = refl

none-after : (f : ByteFact) (gs : List ByteFact) → ((g : ByteFact) → Has g gs → point_cmp bytes_cmp f g ≡ Less) → list_any (is_later f) gs ≡ false
none-after f [] all = refl
none-after f (g ∷ gs) all = ap₂ (λ (a b : Bool). a || b) (later-not_before f g (points-total.antisymm g f ∙ ap ordering_reverse (all g (inl refl)))) (none-after f gs (λ x h. all x (inr h)))

-- ---- what the last one kept says of those before

abbrev IsAmong : List ByteFact → Option ByteFact → Type 0
IsAmong fs None = Unit {0}
IsAmong fs (Some k) = Has k fs

abbrev Before : List ByteFact → ByteFact → Type 0
Before fs f = (g : ByteFact) → Has g fs → point_cmp bytes_cmp g f ≡ Less

-- among fs there is a later one of a key that comes after them exactly where the last one kept has it
abbrev Covers : List ByteFact → Option ByteFact → Type 0
Covers fs k = (f : ByteFact) → Before fs f → list_any (is_later f) fs ≡ is_same same_key k f

or-same : (a b : Bool) → a ≡ b → (a || (b || false)) ≡ b
or-same true b e = e
or-same false b e = or-false b

after-one : (fs : List ByteFact) (k : Option ByteFact) (x f : ByteFact) → Covers fs k → Before (fs ++ x ∷ []) f → list_any (is_later f) (fs ++ x ∷ []) ≡ (is_same same_key k f || (same_key x f || false))
after-one fs k x f covers before = any-append (is_later f) fs (x ∷ []) ∙ ap₂ (λ (a b : Bool). a || (b || false)) (covers f (λ g h. before g (members.has-append_left g fs (x ∷ []) h))) (later-before f x (before x (members.has-append_right x fs (x ∷ []) (inl refl))))

covers-dropped : (fs : List ByteFact) (k : Option ByteFact) (x : ByteFact) → Covers fs k → is_same same_key k x ≡ true → Covers (fs ++ x ∷ []) k
covers-dropped fs None x covers e f before = absurd (true≢false (sym e))
covers-dropped fs (Some k) x covers e f before = after-one fs (Some k) x f covers before ∙ (or-same (same_key k f) (same_key x f) one ∙ sym one)
  where
    one : same_key k f ≡ same_key x f
    one = ap (λ (q : Bytes). is_eq (bytes_cmp q (key_of f))) (orders.tied bytes_cmp bytes_order (key_of k) (key_of x) e)

-- keys that differ and ascend stay apart
apart-on : (k x f : ByteFact) → point_cmp bytes_cmp k x ≡ Less → same_key k x ≡ false → point_cmp bytes_cmp x f ≡ Less → same_key k f ≡ false
apart-on k x f a e b = by (bytes_cmp (key_of k) (key_of x)) refl a e (bytes_cmp (key_of x) (key_of f)) refl b
  where
    by : (o : Ordering) → bytes_cmp (key_of k) (key_of x) ≡ o → ordering_then o (time_cmp (date x) (date k)) ≡ Less → is_eq o ≡ false → (p : Ordering) → bytes_cmp (key_of x) (key_of f) ≡ p → ordering_then p (time_cmp (date f) (date x)) ≡ Less → same_key k f ≡ false
    by Less i a e Less j b = ap is_eq (bytes_order.total.trans (key_of k) (key_of x) (key_of f) i j)
    by Less i a e Equal j b = ap is_eq (ap (bytes_cmp (key_of k)) (sym (bytes_order.same (key_of x) (key_of f) j)) ∙ i)
    by Less i a e Greater j b = absurd (cc)
    by Equal i a e p j b = absurd (true≢false e)
    by Greater i a e p j b = absurd (cc)

covers-kept : (fs : List ByteFact) (k : Option ByteFact) (x : ByteFact) → IsAmong fs k → Before fs x → Covers fs k → is_same same_key k x ≡ false → Covers (fs ++ x ∷ []) (Some x)
covers-kept fs k x among up covers e f before = after-one fs k x f covers before ∙ (ap (λ (a : Bool). a || (same_key x f || false)) (off k among e) ∙ or-false (same_key x f))
  where
    off : (k : Option ByteFact) → IsAmong fs k → is_same same_key k x ≡ false → is_same same_key k f ≡ false
    off None a d = refl
    off (Some k) a d = apart-on k x f (up k a) d (before x (members.has-append_right x fs (x ∷ []) (inl refl)))

among-more : (fs : List ByteFact) (k : Option ByteFact) (x : ByteFact) → IsAmong fs k → IsAmong (fs ++ x ∷ []) k
among-more fs None x a = tt
among-more fs (Some k) x a = members.has-append_left k fs (x ∷ []) a

pub firsts-newest : (before fs : List ByteFact) (k : Option ByteFact) → IsAmong before k → Covers before k → IsStrictlySortedBy (point_cmp bytes_cmp) fs → ((f g : ByteFact) → Has f before → Has g fs → point_cmp bytes_cmp f g ≡ Less) → firsts same_key k fs ≡ filter (is_newest (before ++ fs)) fs
unfolding IsStrictlySortedBy
firsts-newest before [] k among covers up on = refl
firsts-newest before (x ∷ xs) k among covers up on = go (is_same same_key k x) refl (λ q a c. firsts-newest (before ++ x ∷ []) xs q a c up.1 on-more ∙ ap (λ (all : List ByteFact). filter (is_newest all) xs) (append_assoc before (x ∷ []) xs)) ∙ ap (λ (b : Bool). cond (not b) (x ∷ filter (is_newest (before ++ x ∷ xs)) xs) (filter (is_newest (before ++ x ∷ xs)) xs)) (sym test)
  where
    above : (g : ByteFact) → Has g xs → point_cmp bytes_cmp x g ≡ Less
    above g h = members.has-AllByRecursion (λ z. point_cmp bytes_cmp x z ≡ Less) g xs up.0 h

    on-more : (f g : ByteFact) → Has f (before ++ x ∷ []) → Has g xs → point_cmp bytes_cmp f g ≡ Less
    on-more f g h i = elim (members.has-append_cases f before (x ∷ []) h) [ inl j ↦ on f g j (inr i) | inr j ↦ elim j [ inl e ↦ subst (λ (w : ByteFact). point_cmp bytes_cmp w g ≡ Less) (sym e) (above g i) | inr n ↦ absurd n ] ]

    test : list_any (is_later x) (before ++ x ∷ xs) ≡ is_same same_key k x
    test = any-append (is_later x) before (x ∷ xs) ∙ (ap₂ (λ (a b : Bool). a || b) (covers x (λ g h. on g x h (inl refl))) (ap₂ (λ (a b : Bool). a || b) (later-itself x) (none-after x xs above)) ∙ or-false (is_same same_key k x))

    go : (b : Bool) → is_same same_key k x ≡ b → ((q : Option ByteFact) → IsAmong (before ++ x ∷ []) q → Covers (before ++ x ∷ []) q → firsts same_key q xs ≡ filter (is_newest (before ++ x ∷ xs)) xs) → cond b (firsts same_key k xs) (x ∷ firsts same_key (Some x) xs) ≡ cond (not b) (x ∷ filter (is_newest (before ++ x ∷ xs)) xs) (filter (is_newest (before ++ x ∷ xs)) xs)
    go true e more = more k (among-more before k x among) (covers-dropped before k x covers e)
    go false e more = ap (λ (ys : List ByteFact). x ∷ ys) (more (Some x) (members.has-append_right x before (x ∷ []) (inl refl)) (covers-kept before k x among (λ g h. on g x h (inl refl)) covers e))

-- ---- at entries

firsts-map : {X Y : Type 0} (f : X → Y) (same : X → X → Bool) (same' : Y → Y → Bool) → ((a b : X) → same' (f a) (f b) ≡ same a b) → (k : Option X) (xs : List X) → firsts same' (option_map f k) (map f xs) ≡ map f (firsts same k xs)
firsts-map f same same' keeps k [] = refl
firsts-map {X} {Y} f same same' keeps k (x ∷ xs) = ap (λ (b : Bool). cond b (firsts same' (option_map f k) (map f xs)) (f x ∷ firsts same' (Some (f x)) (map f xs))) (test k) ∙ by (is_same same k x) (firsts-map f same same' keeps k xs) (firsts-map f same same' keeps (Some x) xs)
  where
    test : (k : Option X) → is_same same' (option_map f k) (f x) ≡ is_same same k x
    test None = refl
    test (Some q) = keeps q x

    by : (b : Bool) → firsts same' (option_map f k) (map f xs) ≡ map f (firsts same k xs) → firsts same' (Some (f x)) (map f xs) ≡ map f (firsts same (Some x) xs) → cond b (firsts same' (option_map f k) (map f xs)) (f x ∷ firsts same' (Some (f x)) (map f xs)) ≡ map f (cond b (firsts same k xs) (x ∷ firsts same (Some x) xs))
    by true a b = a
    by false a b = ap (λ (ys : List Y). f x ∷ ys) b

pub newest-found : (fs : List ByteFact) → IsStrictlySortedBy (point_cmp bytes_cmp) fs → firsts entries_same None (entries_of fs) ≡ entries_of (newest_points fs)
unfolding newest_points
newest-found fs up = firsts-map entry_of same_key entries_same (λ a b. ap₂ same_key (fact-entry a) (fact-entry b)) None fs ∙ ap entries_of (firsts-newest [] fs None tt (λ f b. refl) up (λ f g h i. absurd h))

-- ---- the walk

last-more : {X : Type 0} (k : Option X) (xs : List X) (x : X) → last_of k (xs ++ x ∷ []) ≡ Some x
last-more k [] x = refl
last-more k (y ∷ ys) x = last-more (Some y) ys x

pub kept-more : {X : Type 0} (same : X → X → Bool) (x : X) (old new xs whole : List X) → new ≡ old ++ firsts same (last_of None old) (x ∷ []) → old ++ firsts same (last_of None old) (x ∷ xs) ≡ whole → new ++ firsts same (last_of None new) xs ≡ whole
kept-more {X} same x old new xs whole pushed kept = ap (λ (ys : List X). ys ++ firsts same (last_of None ys) xs) pushed ∙ (by (is_same same (last_of None old) x) ∙ kept)
  where
    by : (b : Bool) → (old ++ cond b [] (x ∷ [])) ++ firsts same (last_of None (old ++ cond b [] (x ∷ []))) xs ≡ old ++ cond b (firsts same (last_of None old) xs) (x ∷ firsts same (Some x) xs)
    by true = rw (append-nil old) refl
    by false = rw (last-more None old x) (append_assoc old (x ∷ []) (firsts same (Some x) xs))

last-from : {X : Type 0} (x : X) (xs : List X) → last_of (Some x) xs ≡ slice_get (x ∷ xs) (length xs)
last-from x [] = refl
last-from x (y ∷ ys) = last-from y ys

pub last-is : {X : Type 0} (xs : List X) → last_of None xs ≡ slice_get xs (length xs - 1)
last-is [] = refl
last-is {X} (x ∷ xs) = let e : length (x ∷ xs) - 1 ≡ length xs = omega arith in rw e (last-from x xs)

pub kept-all : {X : Type 0} (same : X → X → Bool) (kept xs whole : List X) → length xs ≡ 0 → kept ++ firsts same (last_of None kept) xs ≡ whole → kept ≡ whole
kept-all same kept [] whole e is = sym (append-nil kept) ∙ is
kept-all same kept (x ∷ xs) whole e is = absurd (omega arith)
