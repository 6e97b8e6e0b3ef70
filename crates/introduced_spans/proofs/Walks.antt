-- A walk over dated descriptors: when a table is public by them, when it becomes so, and when it stops.
use Rattle.std.proofs.Common.{◌≡◌, ◌⊎◌, inl, inr, ⊎_elim, Bool, true, false, cond, not, ◌&&◌, ◌||◌, sym, refl, ap, subst, ◌∙◌, true≢false, List, [], ◌∷◌, ◌++◌, map, filter, reverse, Option, Some, None, option_map, unwrap_or}
use Rattle.std.specs.Prelude.{fold}
use Rattle.std.specs.List.{find, list_any}
use Rattle.std.proofs.lemmas.List.{reverse-append}
use Rattle.mvcc_keys.specs.Times.{Time, time_lt, time_le}
use Rattle.table_descriptors.specs.Descriptors.{Schema}
use Rattle.list_laws.specs.Members.{Has}
use Rattle.list_laws.proofs.Members.{filter-has, filter-passes, has-filter}
use Rattle.mvcc_keys.proofs.TimeOrder.{le-refl, le-trans, lt-le, not_le-lt, lt-not_le, le-lt-lt, lt-le-lt, lt-trans, le-later, le-later_second}
use Rattle.list_laws.proofs.Options.{some-is}
use Rattle.list_laws.proofs.Filters.{any-none}
use Rattle.history_model.specs.Histories.{in_force}
use Rattle.range_tombstones.specs.Intervals.{is_between}
use Rattle.range_tombstones.specs.declared.upto.Upto.TheVariants.{At}
use Rattle.introduced_spans.specs.Publicity.{is_public, public_at, begins, ends, with_before, dates_where, becomes_public_in, later, later_or, latest, last_end}
use Rattle.introduced_spans.specs.PlanLaws.{ascend_after}
use Rattle.list_laws.proofs.Bools as lists

-- public at t by these descriptors, after others by which it is or isn't
abbrev pub public-from : Bool → List Schema → Time → Bool
public-from was [] t = was
public-from was (d ∷ ds) t = public-from (cond (time_le d.modified t) (is_public d) was) ds t

abbrev is-dated : Time → Schema → Bool
is-dated t d = time_le d.modified t

abbrev says : Bool → Option Schema → Bool
says was found = unwrap_or (option_map is_public found) was

says-last : (was : Bool) (t : Time) (d : Schema) (xs : List Schema) → says was (find (is-dated t) (xs ++ d ∷ [])) ≡ says (cond (time_le d.modified t) (is_public d) was) (find (is-dated t) xs)
says-last was t d [] = by (time_le d.modified t)
  where
    by : (b : Bool) → says was (cond b (Some d) None) ≡ cond b (is_public d) was
    by true = refl
    by false = refl
says-last was t d (x ∷ xs) = by (time_le x.modified t) (says-last was t d xs)
  where
    last : Bool
    last = cond (time_le d.modified t) (is_public d) was

    by : (b : Bool) → says was (find (is-dated t) (xs ++ d ∷ [])) ≡ says last (find (is-dated t) xs) → says was (cond b (Some x) (find (is-dated t) (xs ++ d ∷ []))) ≡ says last (cond b (Some x) (find (is-dated t) xs))
    by true more = refl
    by false more = more

says-in_force : (was : Bool) (ds : List Schema) (t : Time) → says was (in_force ds t) ≡ public-from was ds t
says-in_force was [] t = refl
says-in_force was (d ∷ ds) t = ap (λ (xs : List Schema). says was (find (is-dated t) xs)) (reverse-append (d ∷ []) ds) ∙ (says-last was t d (reverse ds) ∙ says-in_force (cond (time_le d.modified t) (is_public d) was) ds t)

pub public-walk : (ds : List Schema) (t : Time) → public_at ds t ≡ public-from false ds t
public-walk ds t = says-in_force false ds t

-- ---- one descriptor

head-after : (low : Time) (d : Schema) (ds : List Schema) → ascend_after low (d ∷ ds) ≡ true → time_lt low d.modified ≡ true
head-after low d ds a = lists.and-left (time_lt low d.modified) (ascend_after d.modified ds) a

rest-after : (low : Time) (d : Schema) (ds : List Schema) → ascend_after low (d ∷ ds) ≡ true → ascend_after d.modified ds ≡ true
rest-after low d ds a = lists.and-right (time_lt low d.modified) (ascend_after d.modified ds) a

-- no descriptor is dated up to a time before all of them
pub none-dated : (was : Bool) (low t : Time) (ds : List Schema) → ascend_after low ds ≡ true → time_le t low ≡ true → public-from was ds t ≡ was
none-dated was low t [] a e = refl
none-dated was low t (d ∷ ds) a e =
    let h = head-after low d ds a in
    let past : time_le d.modified t ≡ false = lt-not_le t d.modified (le-lt-lt t low d.modified e h) in
    ap (λ (b : Bool). public-from (cond b (is_public d) was) ds t) past ∙ none-dated was d.modified t ds (rest-after low d ds a) (le-trans t low d.modified e (lt-le low d.modified h))

-- a descriptor that is dated up to t counts, one that is dated later doesn't
counts : (was : Bool) (d : Schema) (ds : List Schema) (t : Time) → time_le d.modified t ≡ true → public-from was (d ∷ ds) t ≡ public-from (is_public d) ds t
counts was d ds t e = ap (λ (b : Bool). public-from (cond b (is_public d) was) ds t) e

-- before all of them nothing counts
before-all : (was : Bool) (low t : Time) (d : Schema) (ds : List Schema) → ascend_after low (d ∷ ds) ≡ true → time_lt t d.modified ≡ true → public-from was (d ∷ ds) t ≡ was
before-all was low t d ds a e =
    ap (λ (b : Bool). public-from (cond b (is_public d) was) ds t) (lt-not_le t d.modified e)
    ∙ none-dated was d.modified t ds (rest-after low d ds a) (lt-le t d.modified e)

-- ---- dates

-- a date of a test is the first one's or one of the others
dates-cases : (test : Bool × Schema → Bool) (was : Bool) (d : Schema) (ds : List Schema) (q : Time) → Has q (dates_where test was (d ∷ ds)) → ((test (was, d) ≡ true) × (q ≡ d.modified)) ⊎ Has q (dates_where test (is_public d) ds)
dates-cases test was d ds q = by (test (was, d)) refl
  where
    rest : List (Bool × Schema)
    rest = filter test (with_before (is_public d) ds)

    by : (b : Bool) → test (was, d) ≡ b → Has q (map (λ (p : Bool × Schema). p.1.modified) (cond b ((was, d) ∷ rest) rest)) → ((test (was, d) ≡ true) × (q ≡ d.modified)) ⊎ Has q (dates_where test (is_public d) ds)
    by true is (inl e) = inl (is, e)
    by true is (inr more) = inr more
    by false is more = inr more

dates-first : (test : Bool × Schema → Bool) (was : Bool) (d : Schema) (ds : List Schema) → test (was, d) ≡ true → Has d.modified (dates_where test was (d ∷ ds))
dates-first test was d ds is = subst (λ (b : Bool). Has d.modified (map (λ (p : Bool × Schema). p.1.modified) (cond b ((was, d) ∷ filter test (with_before (is_public d) ds)) (filter test (with_before (is_public d) ds))))) (sym is) (inl refl)

dates-rest : (test : Bool × Schema → Bool) (was : Bool) (d : Schema) (ds : List Schema) (q : Time) → Has q (dates_where test (is_public d) ds) → Has q (dates_where test was (d ∷ ds))
dates-rest test was d ds q has = by (test (was, d))
  where
    by : (b : Bool) → Has q (map (λ (p : Bool × Schema). p.1.modified) (cond b ((was, d) ∷ filter test (with_before (is_public d) ds)) (filter test (with_before (is_public d) ds))))
    by true = inr has
    by false = has

-- all dates come after a time before all descriptors
dates-after : (test : Bool × Schema → Bool) (was : Bool) (low q : Time) (ds : List Schema) → ascend_after low ds ≡ true → Has q (dates_where test was ds) → time_lt low q ≡ true
dates-after test was low q [] a has = absurd has
dates-after test was low q (d ∷ ds) a has =
    let h = head-after low d ds a in
    ⊎_elim (λ first. subst (λ (t : Time). time_lt low t ≡ true) (sym first.1) h) (λ more. lt-trans low d.modified q h (dates-after test (is_public d) d.modified q ds (rest-after low d ds a) more)) (dates-cases test was d ds q has)

-- at a date at which it begins the table is public
begun-at : (was : Bool) (low q : Time) (ds : List Schema) → ascend_after low ds ≡ true → Has q (dates_where begins was ds) → public-from was ds q ≡ true
begun-at was low q [] a has = absurd has
begun-at was low q (d ∷ ds) a has = ⊎_elim first (rest (begun-at (is_public d) d.modified q ds (rest-after low d ds a))) (dates-cases begins was d ds q has)
  where
    first : (begins (was, d) ≡ true) × (q ≡ d.modified) → public-from was (d ∷ ds) q ≡ true
    first f = subst (λ (t : Time). public-from was (d ∷ ds) t ≡ true) (sym f.1)
        (counts was d ds d.modified (le-refl d.modified) ∙ none-dated (is_public d) d.modified d.modified ds (rest-after low d ds a) (le-refl d.modified) ∙ lists.and-left (is_public d) (not was) f.0)

    rest : (Has q (dates_where begins (is_public d) ds) → public-from (is_public d) ds q ≡ true) → Has q (dates_where begins (is_public d) ds) → public-from was (d ∷ ds) q ≡ true
    rest begun more = let past = dates-after begins (is_public d) d.modified q ds (rest-after low d ds a) more in
        counts was d ds q (lt-le d.modified q past) ∙ begun more

-- a date at which it ends: from each time before it on, it was public at some time up to it
ended-at : (was : Bool) (low u q : Time) (ds : List Schema) → ascend_after low ds ≡ true → Has q (dates_where ends was ds) → time_lt u q ≡ true
    → (x : Time) × (time_le u x ≡ true) × (time_le x q ≡ true) × (public-from was ds x ≡ true)
ended-at was low u q [] a has less = absurd has
ended-at was low u q (d ∷ ds) a has less = ⊎_elim first (rest (λ v. ended-at (is_public d) d.modified v q ds (rest-after low d ds a))) (dates-cases ends was d ds q has)
  where
    Found : Type 0
    Found = (x : Time) × (time_le u x ≡ true) × (time_le x q ≡ true) × (public-from was (d ∷ ds) x ≡ true)

    first : (ends (was, d) ≡ true) × (q ≡ d.modified) → Found
    first f = let before : time_lt u d.modified ≡ true = subst (λ (t : Time). time_lt u t ≡ true) f.1 less in
        (u, le-refl u, lt-le u q less, before-all was low u d ds a before ∙ lists.and-right (not (is_public d)) was f.0)

    rest : ((v : Time) → Has q (dates_where ends (is_public d) ds) → time_lt v q ≡ true → (x : Time) × (time_le v x ≡ true) × (time_le x q ≡ true) × (public-from (is_public d) ds x ≡ true)) → Has q (dates_where ends (is_public d) ds) → Found
    rest ended more = from (time_le d.modified u) refl
      where
        past : time_lt d.modified q ≡ true
        past = dates-after ends (is_public d) d.modified q ds (rest-after low d ds a) more

        later-one : (v : Time) → time_le d.modified v ≡ true → time_le u v ≡ true → time_lt v q ≡ true → Found
        later-one v on le lt = let f = ended v more lt in
            (f.0, le-trans u v f.0 le f.1, f.2, counts was d ds f.0 (le-trans d.modified v f.0 on f.1) ∙ f.3)

        from : (b : Bool) → time_le d.modified u ≡ b → Found
        from true on = later-one u on (le-refl u) less
        from false off = later-one d.modified (le-refl d.modified) (lt-le u d.modified (not_le-lt u d.modified off)) past

-- the descriptors that change what a table is: where it is public those that end it, where it isn't those at which it begins
abbrev pub changes : Bool → Bool × Schema → Bool
changes true = ends
changes false = begins

-- the first of these is a change, as the table is something else by it
change-first : (b was is : Bool) (d : Schema) → was ≡ b → is_public d ≡ is → is ≡ not b → changes b (was, d) ≡ true
change-first true was is d w k n = ap (λ (c : Bool). not c && was) (k ∙ n) ∙ w
change-first false was is d w k n = ap (λ (c : Bool). c && not was) (k ∙ n) ∙ ap not w

either : (p b : Bool) → (p ≡ b) ⊎ (p ≡ not b)
either true true = inl refl
either true false = inr refl
either false true = inr refl
either false false = inl refl

opposite : (b : Bool) → b ≡ not b → ⊥
opposite true e = true≢false e
opposite false e = true≢false (sym e)

-- what is one thing at a time, and another at a later one, changed in between
pub changed-by : (b was : Bool) (low x e : Time) (ds : List Schema) → ascend_after low ds ≡ true → public-from was ds x ≡ b → time_le x e ≡ true → public-from was ds e ≡ not b
    → (q : Time) × (time_lt x q ≡ true) × (time_le q e ≡ true) × Has q (dates_where (changes b) was ds)
changed-by b was low x e [] a on le off = absurd (opposite b (sym on ∙ off))
changed-by b was low x e (d ∷ ds) a on le off = by (λ v. changed-by b (is_public d) d.modified v e ds (rest-after low d ds a)) (time_le d.modified x) refl (time_le d.modified e) refl (is_public d) refl
  where
    asc : ascend_after d.modified ds ≡ true
    asc = rest-after low d ds a

    Found : Type 0
    Found = (q : Time) × (time_lt x q ≡ true) × (time_le q e ≡ true) × Has q (dates_where (changes b) was (d ∷ ds))

    Further : Type 0
    Further = (v : Time) → public-from (is_public d) ds v ≡ b → time_le v e ≡ true → public-from (is_public d) ds e ≡ not b → (q : Time) × (time_lt v q ≡ true) × (time_le q e ≡ true) × Has q (dates_where (changes b) (is_public d) ds)

    further : Further → (v : Time) → time_le x v ≡ true → public-from (is_public d) ds v ≡ b → time_le v e ≡ true → time_le d.modified e ≡ true → Found
    further go v from is upto dated = let f = go v is upto (sym (counts was d ds e dated) ∙ off) in (f.0, le-lt-lt x v f.0 from f.1, f.2, dates-rest (changes b) was d ds f.0 f.3)

    by : Further → (i : Bool) → time_le d.modified x ≡ i → (c : Bool) → time_le d.modified e ≡ c → (p : Bool) → is_public d ≡ p → Found
    by go true i c j p k = further go x (le-refl x) (sym (counts was d ds x i) ∙ on) le (le-trans d.modified x e i le)
    by go false i false j p k =
        let was-on : was ≡ b = sym (before-all was low x d ds a (not_le-lt x d.modified i)) ∙ on in
        let was-off : was ≡ not b = sym (before-all was low e d ds a (not_le-lt e d.modified j)) ∙ off in
        absurd (opposite b (sym was-on ∙ was-off))
    by go false i true j p k =
        let past : time_lt x d.modified ≡ true = not_le-lt x d.modified i in
        let was-on : was ≡ b = sym (before-all was low x d ds a past) ∙ on in
        ⊎_elim (λ same. further go d.modified (lt-le x d.modified past) (none-dated (is_public d) d.modified d.modified ds asc (le-refl d.modified) ∙ (k ∙ same)) j j)
        (λ other. (d.modified, past, j, dates-first (changes b) was d ds (change-first b was p d was-on k other)))
        (either p b)

-- ---- the latest

latest-from : (b : Time) (xs : List Time) → (q : Time) × (fold later_or (Some b) xs ≡ Some q) × ((q ≡ b) ⊎ Has q xs)
latest-from b [] = (b, refl, inl refl)
latest-from b (x ∷ xs) = by (more (λ c. latest-from c xs)) (time_lt b x)
  where
    Least : Time → Type 0
    Least c = (q : Time) × (fold later_or (Some c) xs ≡ Some q) × ((q ≡ c) ⊎ Has q xs)

    Goal : Time → Type 0
    Goal c = (c ≡ b) ⊎ (c ≡ x) → (q : Time) × (fold later_or (Some c) xs ≡ Some q) × ((q ≡ b) ⊎ Has q (x ∷ xs))

    more : ((c : Time) → Least c) → (c : Time) → Goal c
    more go c from = let f = go c in (f.0, f.1, ⊎_elim (λ is. ⊎_elim (λ e. inl (is ∙ e)) (λ e. inr (inl (is ∙ e))) from) (λ h. inr (inr h)) f.2)

    by : ((c : Time) → Goal c) → (l : Bool) → (q : Time) × (fold later_or (Some (cond l x b)) xs ≡ Some q) × ((q ≡ b) ⊎ Has q (x ∷ xs))
    by go true = go x (inr refl)
    by go false = go b (inl refl)

latest-some : (xs : List Time) (any : Time) → Has any xs → (q : Time) × (latest xs ≡ Some q) × Has q xs
latest-some [] any has = absurd has
latest-some (x ∷ xs) any has = let f = latest-from x xs in (f.0, f.1, ⊎_elim (λ is. inl is) (λ h. inr h) f.2)

-- and none of them is later
greatest-from : (b q : Time) (xs : List Time) → fold later_or (Some b) xs ≡ Some q → (time_le b q ≡ true) × ((any : Time) → Has any xs → time_le any q ≡ true)
greatest-from b q [] is = let e : b ≡ q = some-is b q is in (subst (λ (t : Time). time_le b t ≡ true) e (le-refl b), λ any has. absurd has)
greatest-from b q (x ∷ xs) is =
    let f = greatest-from (later b x) q xs is in
    (le-trans b (later b x) q (le-later b x) f.0, λ any. elim [ inl e ↦ le-trans any (later b x) q (subst (λ (t : Time). time_le t (later b x) ≡ true) (sym e) (le-later_second b x)) f.0 | inr has ↦ f.1 any has ])

latest-greatest : (xs : List Time) (q any : Time) → latest xs ≡ Some q → Has any xs → time_le any q ≡ true
latest-greatest [] q any is has = absurd has
latest-greatest (x ∷ xs) q any is has = let f = greatest-from x q xs is in elim has [ inl e ↦ subst (λ (t : Time). time_le t q ≡ true) (sym e) f.0 | inr more ↦ f.1 any more ]

pub latest-has : (xs : List Time) (q : Time) → latest xs ≡ Some q → Has q xs
latest-has [] q is = absurd (cc)
latest-has (x ∷ xs) q is = let f = latest-some (x ∷ xs) x (inl refl) in subst (λ (t : Time). Has t (x ∷ xs)) (let e : Some f.0 ≡ Some q = sym f.1 ∙ is in cc) f.2

-- ---- what the walks give

any-has : (p : Time → Bool) (xs : List Time) → list_any p xs ≡ true → (x : Time) × Has x xs × (p x ≡ true)
any-has p [] none = absurd (cc)
any-has p (x ∷ xs) passes = by (any-has p xs) (p x) refl passes
  where
    by : (list_any p xs ≡ true → (y : Time) × Has y xs × (p y ≡ true)) → (b : Bool) → p x ≡ b → (b || list_any p xs) ≡ true → (y : Time) × Has y (x ∷ xs) × (p y ≡ true)
    by go true is rest = (x, inl refl, is)
    by go false is rest = let f = go rest in (f.0, inr f.1, f.2)

-- at some time up to e, after s, the table became public
pub became-at : (s e : Time) (ds : List Schema) (low : Time) → ascend_after low ds ≡ true → becomes_public_in ds s e ≡ true → (x : Time) × (time_lt s x ≡ true) × (time_le x e ≡ true) × (public_at ds x ≡ true)
unfolding becomes_public_in
became-at s e ds low a is =
    let f = any-has (is_between s (At e)) (dates_where begins false ds) is in
    (f.0, lists.and-left (time_lt s f.0) (time_le f.0 e) f.2, lists.and-right (time_lt s f.0) (time_le f.0 e) f.2, public-walk ds f.0 ∙ begun-at false low f.0 ds a f.1)

pub any-there : {X : Type 0} (p : X → Bool) (xs : List X) (x : X) → Has x xs → p x ≡ true → list_any p xs ≡ true
any-there p xs x has passes = by (list_any p xs) refl
  where
    by : (b : Bool) → list_any p xs ≡ b → list_any p xs ≡ true
    by true some = some
    by false none = absurd (true≢false (sym passes ∙ any-none p xs x none has))

-- what wasn't public at a time and is at a later one became so in between
pub became-between : (s t : Time) (ds : List Schema) (low : Time) → ascend_after low ds ≡ true → public_at ds s ≡ false → time_le s t ≡ true → public_at ds t ≡ true → becomes_public_in ds s t ≡ true
unfolding becomes_public_in
became-between s t ds low a off le on =
    let f = changed-by false false low s t ds a (sym (public-walk ds s) ∙ off) le (sym (public-walk ds t) ∙ on) in
    any-there (is_between s (At t)) (dates_where begins false ds) f.0 f.3 (lists.and-both (time_lt s f.0) (time_le f.0 t) f.1 f.2)

-- where all dates are after s, what is public at a time became so after s
pub became : (s t : Time) (ds : List Schema) → ascend_after s ds ≡ true → public_at ds t ≡ true → becomes_public_in ds s t ≡ true
became s t ds a on = by (time_le t s) refl
  where
    off : (u : Time) → time_le u s ≡ true → public_at ds u ≡ false
    off u early = public-walk ds u ∙ none-dated false s u ds a early

    by : (b : Bool) → time_le t s ≡ b → becomes_public_in ds s t ≡ true
    by true early = absurd (true≢false (sym on ∙ off t early))
    by false late = became-between s t ds s a (off s (le-refl s)) (lt-le s t (not_le-lt s t late)) on

-- what became so in an interval did in a wider one
pub became-wider : (s t u v : Time) (ds : List Schema) → time_le u s ≡ true → time_le t v ≡ true → becomes_public_in ds s t ≡ true → becomes_public_in ds u v ≡ true
unfolding becomes_public_in
became-wider s t u v ds from upto is =
    let f = any-has (is_between s (At t)) (dates_where begins false ds) is in
    any-there (is_between u (At v)) (dates_where begins false ds) f.0 f.1
    (lists.and-both (time_lt u f.0) (time_le f.0 v) (le-lt-lt u s f.0 from (lists.and-left (time_lt s f.0) (time_le f.0 t) f.2)) (le-trans f.0 t v (lists.and-right (time_lt s f.0) (time_le f.0 t) f.2) upto))

-- the last end up to a time, of descriptors that end the table up to it
last-ended : (e any : Time) (ds : List Schema) → time_le any e ≡ true → Has any (dates_where ends false ds) → (q : Time) × (last_end ds e ≡ Some q) × (time_le any q ≡ true) × (time_le q e ≡ true) × Has q (dates_where ends false ds)
last-ended e any ds within has =
    let ts = filter (λ t. time_le t e) (dates_where ends false ds) in
    let there = has-filter (λ t. time_le t e) any (dates_where ends false ds) has within in
    let l = latest-some ts any there in
    (l.0, l.1, latest-greatest ts l.0 any l.1 there, filter-passes (λ t. time_le t e) l.0 (dates_where ends false ds) l.2, filter-has (λ t. time_le t e) l.0 (dates_where ends false ds) l.2)

-- what was public before and isn't at e last ended after that
pub ended-after : (x e : Time) (ds : List Schema) (low : Time) → ascend_after low ds ≡ true → public_at ds x ≡ true → time_le x e ≡ true → public_at ds e ≡ false → (q : Time) × (last_end ds e ≡ Some q) × (time_lt x q ≡ true)
ended-after x e ds low a on le off =
    let f = changed-by true false low x e ds a (sym (public-walk ds x) ∙ on) le (sym (public-walk ds e) ∙ off) in
    let l = last-ended e f.0 ds f.2 f.3 in
    (l.0, l.1, lt-le-lt x f.0 l.0 f.1 l.2)

-- what was public before and isn't at e last ended at a time, since which, from no earlier one on, it wasn't public
pub ended : (x u e : Time) (ds : List Schema) (low : Time) → ascend_after low ds ≡ true → public_at ds x ≡ true → time_le x e ≡ true → public_at ds e ≡ false
    → ((y : Time) → time_le u y ≡ true → time_le y e ≡ true → public_at ds y ≡ false) → (q : Time) × (last_end ds e ≡ Some q) × (time_lt u q ≡ false)
ended x u e ds low a on le off untold =
    let f = changed-by true false low x e ds a (sym (public-walk ds x) ∙ on) le (sym (public-walk ds e) ∙ off) in
    let l = last-ended e f.0 ds f.2 f.3 in
    (l.0, l.1, never l.0 l.3 l.4 (time_lt u l.0) refl)
  where
    never : (q : Time) → time_le q e ≡ true → Has q (dates_where ends false ds) → (b : Bool) → time_lt u q ≡ b → time_lt u q ≡ false
    never q within has false is = is
    never q within has true is =
        let f = ended-at false low u q ds a has is in
        absurd (let never : true ≡ false = sym (public-walk ds f.0 ∙ f.3) ∙ untold f.0 f.1 (le-trans f.0 q e f.2 within) in cc)
