-- Forms that are read exactly as they are defined.
use Rattle.std.proofs.Common.{◌≡◌, ℕ, zero, suc, ◌≤◌, Bool, true, false, List, [], ◌∷◌, ◌++◌, length, Option, Some, None, refl, sym, ap, ◌∙◌, arith, length-append, ◌⊎◌, inl, inr, if◌then◌else◌}
use Rattle.script_tokens.specs.declared.token.Token.{Token}
use Rattle.script_tokens.specs.declared.token.Token.TheVariants.{Word, Mark}
use Rattle.script_grammar.specs.Grammar.{Form, Progress, Read, Fault, read_within, begins_with, and_read, give, one, fits, word, is_word, mark, is_mark, many, list_of, either, ending, EndsLine, ◌making◌, read_making, ◌or◌, farthest, ◌>>=◌, ◌>>◌, token_or_fault, Repeats}
use Rattle.script_grammar.specs.Columns.{Lists, Begins, Stops, Explains}
use Rattle.list_laws.proofs.Options.{none-some}
use Rattle.script_tokens.proofs.Lexing.{apart}

-- ---- languages

-- where one language goes on as another does after a token
shift : {A : Type 0} (L M : List Token → A → Type 0) (t : Token) (us : List Token) (p : Progress A)
    → ((vs : List Token) (a : A) → L vs a → M (t ∷ vs) a)
    → ((vs : List Token) (a : A) → M (t ∷ vs) a → L vs a)
    → Explains L us p → Explains M (t ∷ us) p
shift L M t us (Read a rest) into back e = (e.0, into us a e.1, λ b m. e.2 b (back us b m))
shift {A = A} L M t us (Fault left) into back e = record {
  before = t ∷ e.before;
  after = e.after;
  split = ap (λ xs. t ∷ xs) e.split;
  left_is = e.left_is;
  begins = (e.begins.0, e.begins.1, into (e.before ++ e.begins.0) e.begins.1 e.begins.2);
  stops = stop e.after e.stops;
}
  where
    stop : (after : List Token) → Stops L e.before after → Stops M (t ∷ e.before) after
    stop [] s = λ a m. s a (back e.before a m)
    stop (u ∷ after) s = λ b. s (b.0, b.1, back ((e.before ++ u ∷ []) ++ b.0) b.1 b.2)

-- where one language has what another has of lists that begin as these tokens do
grow : {A : Type 0} (L M : List Token → A → Type 0) (t : Token) (us : List Token) (p : Progress A)
    → ((vs : List Token) (a : A) → L vs a → M vs a)
    → ((vs : List Token) (a : A) → M (t ∷ vs) a → L (t ∷ vs) a)
    → Explains L (t ∷ us) p → Explains M (t ∷ us) p
grow L M t us (Read a rest) into back e = (e.0, into (t ∷ us) a e.1, λ b m. e.2 b (back us b m))
grow {A = A} L M t us (Fault left) into back e = record {
  before = e.before;
  after = e.after;
  split = e.split;
  left_is = e.left_is;
  begins = (e.begins.0, e.begins.1, into (e.before ++ e.begins.0) e.begins.1 e.begins.2);
  stops = stop e.before e.after e.split e.stops;
}
  where
    first : (u : Token) (vs xs : List Token) (a : A) → t ∷ us ≡ u ∷ vs → M (u ∷ xs) a → L (u ∷ xs) a
    first u vs xs a s m =
        let same : t ≡ u = cc in
        let m' : M (t ∷ xs) a = rw same m in
        rw (sym same) (back xs a m')

    stop : (before after : List Token) → t ∷ us ≡ before ++ after → Stops L before after → Stops M before after
    stop [] [] s h = absurd (omega (arith, ap length s))
    stop [] (u ∷ after) s h = λ b. h (b.0, b.1, first u after b.0 b.1 s b.2)
    stop (v ∷ before) [] s h = λ a m. h a (first v (before ++ []) before a s m)
    stop (v ∷ before) (u ∷ after) s h = λ b. h (b.0, b.1, first v (before ++ u ∷ after) ((before ++ u ∷ []) ++ b.0) b.1 s b.2)

grow_none : {A : Type 0} (L M : List Token → A → Type 0) (p : Progress A)
    → ((vs : List Token) (a : A) → L vs a → M vs a)
    → ((a : A) → M [] a → L [] a)
    → Explains L [] p → Explains M [] p
grow_none L M (Read a rest) into back e = (e.0, into [] a e.1, λ b m. e.2 b (back b m))
grow_none L M (Fault left) into back e = record {
  before = e.before;
  after = e.after;
  split = e.split;
  left_is = e.left_is;
  begins = (e.begins.0, e.begins.1, into (e.before ++ e.begins.0) e.begins.1 e.begins.2);
  stops = stop e.before e.after e.split e.stops;
}
  where
    stop : (before after : List Token) → [] ≡ before ++ after → Stops L before after → Stops M before after
    stop [] [] s h = λ a m. h a (back a m)
    stop [] (u ∷ after) s h = absurd (omega (arith, ap length s))
    stop (v ∷ before) after s h = absurd (omega (arith, ap length s))

same_lists : {A : Type 0} (L M : List Token → A → Type 0) (ts : List Token) (p : Progress A)
    → ((vs : List Token) (a : A) → L vs a → M vs a)
    → ((vs : List Token) (a : A) → M vs a → L vs a)
    → Explains L ts p → Explains M ts p
same_lists L M [] p into back e = grow_none L M p into (back []) e
same_lists L M (t ∷ ts) p into back e = grow L M t ts p into (λ vs a m. back (t ∷ vs) a m) e

-- ---- forms

-- A form that goes to the end of its line is read right, on lists of at most n tokens.
abbrev pub ReadsUpTo : {A : Type 0} → ℕ → Form A → Type 0
ReadsUpTo n form = (ts : List Token) → length ts ≤ n → Explains (Lists form) ts (form.read ts)

-- no list of the form begins with such a token
abbrev pub Refuses : {A : Type 0} → (Token → Bool) → Form A → Type 0
Refuses {A = A} starts form = (t : Token) (ts : List Token) (a : A) (rest : List Token) → starts t ≡ true → form.Spells (t ∷ ts) a rest → ⊥

-- each list of the form begins with such a token
abbrev pub Wants : {A : Type 0} → (Token → Bool) → Form A → Type 0
Wants {A = A} starts form = (ts : List Token) (a : A) (rest : List Token) → form.Spells ts a rest → begins_with starts ts ≡ true

-- A part takes a token or more, and the line is read right if what follows the part is.
abbrev pub IsPart : {A : Type 0} → Form A → Type 1
IsPart {A = A} f = (B : Type 0) (n : ℕ) (g : A → Form B) → ((a : A) → ReadsUpTo n (g a)) → ReadsUpTo (suc n) (f >>= g)

-- the same for a part that may be empty
abbrev pub IsRest : {A : Type 0} → Form A → Type 1
IsRest {A = A} f = (B : Type 0) (n : ℕ) (g : A → Form B) → ((a : A) → ReadsUpTo n (g a)) → ReadsUpTo n (f >>= g)

-- a form that is read right has some list
some_list : {A : Type 0} (n : ℕ) (f : Form A) → ReadsUpTo n f → Begins (Lists f) []
some_list n f right = go (f.read []) (right [] (omega arith))
  where
    at : (before after : List Token) → [] ≡ before ++ after → Begins (Lists f) before → Begins (Lists f) []
    at [] after s b = b
    at (t ∷ ts) after s b = absurd (omega (arith, ap length s))

    go : (p : Progress _) → Explains (Lists f) [] p → Begins (Lists f) []
    go (Read a rest) e = ([], a, e.1)
    go (Fault left) e = at e.before e.after e.split e.begins

pub part_rest : {A : Type 0} (f : Form A) → IsPart f → IsRest f
part_rest f part B n g right ts short = part B n g right ts (omega (arith, short))

some_same : {A : Type 0} (o : Option A) (a b : A) → o ≡ Some a → o ≡ Some b → a ≡ b
some_same o a b e f = cc

pub one_part : {A : Type 0} (means : Token → Option A) (t : Token) (a : A) → means t ≡ Some a → IsPart (one means)
one_part means sample value is B n g right [] short =
    let some = some_list n (g value) (right value) in
    record {
      before = [];
      after = [];
      split = refl;
      left_is = refl;
      begins = (sample ∷ some.0, some.1, (value, some.0, (is, refl), some.2));
      stops = λ b l. l.2;
    }
one_part {A = A} means sample value is B n g right (t ∷ ts) short = go (means t) refl
  where
    go : (o : Option A) → means t ≡ o → Explains (Lists (one means >>= g)) (t ∷ ts) (and_read (token_or_fault (length (t ∷ ts)) o ts) (λ a rest. (g a).read rest))
    go None e =
        let some = some_list n (g value) (right value) in
        record {
          before = [];
          after = t ∷ ts;
          split = refl;
          left_is = refl;
          begins = (sample ∷ some.0, some.1, (value, some.0, (is, refl), some.2));
          stops = λ b. none-some (means t) b.2.0 e b.2.2.0;
        }
    go (Some a) e = shift (Lists (g a)) (Lists (one means >>= g)) t ts ((g a).read ts)
        (λ vs b l. (a, vs, (e, refl), l))
        (λ vs b l. let same : a ≡ l.0 = some_same (means t) a l.0 e l.2.0 in rw same (rw l.2.1 l.3))
        (right a ts (omega (arith, short)))

-- ---- one after another

pub upto_assoc : {A B C : Type 0} (f : Form A) (h : A → Form B) (g : B → Form C) (n : ℕ) → ReadsUpTo n (f >>= (λ a. h a >>= g)) → ReadsUpTo n ((f >>= h) >>= g)
upto_assoc {A = A} f h g n right ts short =
    same_lists (Lists (f >>= (λ a. h a >>= g))) (Lists ((f >>= h) >>= g)) ts _
    (λ vs b l. (l.3.0, l.3.1, (l.0, l.1, l.2, l.3.2), l.3.3))
    (λ vs b l. (l.2.0, l.2.1, l.2.2, (l.0, l.1, l.2.3, l.3)))
    (go (f.read ts) (right ts short))
  where
    go : (p : Progress A)
        → Explains (Lists (f >>= (λ a. h a >>= g))) ts (and_read p (λ a rest. and_read ((h a).read rest) (λ b end. (g b).read end)))
        → Explains (Lists (f >>= (λ a. h a >>= g))) ts (and_read (and_read p (λ a rest. (h a).read rest)) (λ b end. (g b).read end))
    go (Read a rest) e = e
    go (Fault left) e = e

pub part_then : {A B : Type 0} (f : Form A) (h : A → Form B) → IsPart f → ((a : A) → IsRest (h a)) → IsPart (f >>= h)
part_then f h part rest C n g right = upto_assoc f h g (suc n) (part C n (λ a. h a >>= g) (λ a. rest a C n g right))

pub give_then : {A B : Type 0} (a : A) (g : A → Form B) (n : ℕ) → ReadsUpTo n (g a) → ReadsUpTo n (give a >>= g)
give_then a g n right ts short =
    same_lists (Lists (g a)) (Lists (give a >>= g)) ts ((g a).read ts)
    (λ vs b l. (a, vs, (refl, refl), l))
    (λ vs b l. rw (sym l.2.0) (rw l.2.1 l.3))
    (right ts short)

pub give_rest : {A : Type 0} (a : A) → IsRest (give a)
give_rest a B n g right = give_then a g n (right a)

-- A part that takes a token or more, where what follows it doesn't begin with some tokens.
abbrev pub IsPartBefore : {A : Type 0} → (Token → Bool) → Form A → Type 1
IsPartBefore {A = A} stop f = (B : Type 0) (n : ℕ) (g : A → Form B) → ((a : A) → ReadsUpTo n (g a)) → ((a : A) → Refuses stop (g a)) → ReadsUpTo (suc n) (f >>= g)

pub part_before : {A : Type 0} (f : Form A) → IsPart f → IsPartBefore (λ _. false) f
part_before f part B n g right refuses = part B n g right

pub refuses_then : {A B : Type 0} (stop : Token → Bool) (f : Form A) (g : A → Form B) → Refuses stop f → Refuses stop (f >>= g)
refuses_then stop f g refuses t ts b rest hit l = refuses t ts l.0 l.1 hit l.2

pub part_before_then : {A B : Type 0} (stop : Token → Bool) (f : Form A) (h : A → Form B) → IsPart f
    → ((C : Type 0) (n : ℕ) (g : B → Form C) → ((b : B) → ReadsUpTo n (g b)) → ((b : B) → Refuses stop (g b)) → (a : A) → ReadsUpTo n (h a >>= g))
    → IsPartBefore stop (f >>= h)
part_before_then stop f h part rest C n g right refuses = upto_assoc f h g (suc n) (part C n (λ a. h a >>= g) (rest C n g right refuses))

-- ---- any number of times

stop_there : {A B : Type 0} (starts : Token → Bool) (f : Form A) (g : List A → Form B) → Wants starts f
    → (ts : List Token) (p : Progress B) → begins_with starts ts ≡ false
    → Explains (Lists (g [])) ts p → Explains (Lists (many starts f >>= g)) ts p
stop_there {A = A} {B = B} starts f g wants [] p miss = grow_none (Lists (g [])) (Lists (many starts f >>= g)) p
    (λ vs b l. ([], vs, refl, l))
    (λ b l. back l.0 l.1 b l.2 l.3)
  where
    back : (os : List A) (m : List Token) (b : B) → Repeats f.Spells [] os m → (g os).Spells m b [] → (g []).Spells [] b []
    back [] m b r l = rw (sym r) at l
    back (a ∷ os) m b r l = absurd (not_both (wants [] a r.0 r.1))
      where
        not_both : false ≡ true → ⊥
        not_both e = cc
stop_there {A = A} {B = B} starts f g wants (t ∷ ts) p miss = grow (Lists (g [])) (Lists (many starts f >>= g)) t ts p
    (λ vs b l. ([], vs, refl, l))
    (λ vs b l. back l.0 vs l.1 b l.2 l.3)
  where
    back : (os : List A) (vs m : List Token) (b : B) → Repeats f.Spells (t ∷ vs) os m → (g os).Spells m b [] → (g []).Spells (t ∷ vs) b []
    back [] vs m b r l = rw r l
    back (a ∷ os) vs m b r l = absurd (not_both (starts t) miss (wants (t ∷ vs) a r.0 r.1))
      where
        not_both : (x : Bool) → x ≡ false → x ≡ true → ⊥
        not_both x d e = cc

-- the line, where so many tokens may still be read
repeat_within : {A B : Type 0} (starts stop : Token → Bool) (f : Form A) → IsPartBefore stop f → Wants starts f → ((t : Token) → stop t ≡ true → starts t ≡ false)
    → (n : ℕ) (g : List A → Form B) → ((os : List A) → ReadsUpTo n (g os)) → ((os : List A) → Refuses starts (g os)) → ((os : List A) → Refuses stop (g os))
    → (ts : List Token) → length ts ≤ n
    → Explains (Lists (many starts f >>= g)) ts (and_read (read_within n starts f.read ts) (λ os rest. (g os).read rest))
repeat_within starts stop f part wants other zero g right refuses stops [] short = stop_there starts f g wants [] ((g []).read []) refl (right [] [] short)
repeat_within starts stop f part wants other zero g right refuses stops (t ∷ ts) short = absurd (omega (arith, short))
repeat_within starts stop f part wants other (suc n) g right refuses stops [] short = stop_there starts f g wants [] ((g []).read []) refl (right [] [] short)
repeat_within {A = A} {B = B} starts stop f part wants other (suc n) g right refuses stops (t ∷ ts) short =
    go (λ a us few. repeat_within starts stop f part wants other n (λ os. g (a ∷ os)) (λ os vs fit. right (a ∷ os) vs (omega (arith, fit))) (λ os. refuses (a ∷ os)) (λ os. stops (a ∷ os)) us few) (starts t) refl
  where
    after : A → Form B
    after a = record {
      Spells = (many starts f >>= (λ os. g (a ∷ os))).Spells;
      read = λ us. and_read (read_within n starts f.read us) (λ os rest. (g (a ∷ os)).read rest);
    }

    reads : (p : Progress A)
        → Explains (Lists (f >>= after)) (t ∷ ts) (and_read p (λ a rest. (after a).read rest))
        → Explains (Lists (f >>= after)) (t ∷ ts) (and_read (and_read p (λ a rest. and_read (read_within n starts f.read rest) (λ others end. Read (a ∷ others) end))) (λ os rest. (g os).read rest))
    reads (Fault left) e = e
    reads (Read a rest) e = inner (read_within n starts f.read rest) e
      where
        inner : (q : Progress (List A))
            → Explains (Lists (f >>= after)) (t ∷ ts) (and_read q (λ os end. (g (a ∷ os)).read end))
            → Explains (Lists (f >>= after)) (t ∷ ts) (and_read (and_read q (λ others end. Read (a ∷ others) end)) (λ os end. (g os).read end))
        inner (Read os end) h = h
        inner (Fault left) h = h

    follow : (a : A) (u : Token) (us : List Token) (b : B) (rest : List Token) → stop u ≡ true → (os : List A) (m : List Token) → Repeats f.Spells (u ∷ us) os m → (g (a ∷ os)).Spells m b rest → ⊥
    follow a u us b rest hit [] m r l =
        let l' : (g (a ∷ [])).Spells (u ∷ us) b rest = rw r l in
        stops (a ∷ []) u us b rest hit l'
    follow a u us b rest hit (x ∷ os) m r l = apart (starts u) (other u hit) (wants (u ∷ us) x r.0 r.1)

    follows : (a : A) → Refuses stop (after a)
    follows a u us b rest hit l = follow a u us b rest hit l.0 l.1 l.2 l.3

    back : starts t ≡ true → (os : List A) (vs m : List Token) (b : B) → Repeats f.Spells (t ∷ vs) os m → (g os).Spells m b [] → Lists (f >>= after) (t ∷ vs) b
    back hit [] vs m b r l =
        let l' : (g []).Spells (t ∷ vs) b [] = rw r l in
        absurd (refuses [] t vs b [] hit l')
    back hit (a ∷ os) vs m b r l = (a, r.0, r.1, (os, m, r.2, l))

    go : ((a : A) → ReadsUpTo n (after a)) → (x : Bool) → starts t ≡ x
        → Explains (Lists (many starts f >>= g)) (t ∷ ts)
        (and_read (if x then and_read (f.read (t ∷ ts)) (λ a rest. and_read (read_within n starts f.read rest) (λ others end. Read (a ∷ others) end)) else Read [] (t ∷ ts)) (λ os rest. (g os).read rest))
    go again false miss = stop_there starts f g wants (t ∷ ts) ((g []).read (t ∷ ts)) miss (right [] (t ∷ ts) short)
    go again true hit = grow (Lists (f >>= after)) (Lists (many starts f >>= g)) t ts _
        (λ vs b l. (l.0 ∷ l.3.0, l.3.1, (l.1, l.2, l.3.2), l.3.3))
        (λ vs b l. back hit l.0 vs l.1 b l.2 l.3)
        (reads (f.read (t ∷ ts)) (part B n after again follows (t ∷ ts) short))

pub repeat_before : {A B : Type 0} (starts stop : Token → Bool) (f : Form A) → IsPartBefore stop f → Wants starts f → ((t : Token) → stop t ≡ true → starts t ≡ false)
    → (n : ℕ) (g : List A → Form B) → ((os : List A) → ReadsUpTo n (g os)) → ((os : List A) → Refuses starts (g os)) → ((os : List A) → Refuses stop (g os))
    → ReadsUpTo n (many starts f >>= g)
repeat_before starts stop f part wants other n g right refuses stops ts short =
    repeat_within starts stop f part wants other (length ts) g (λ os us few. right os us (omega (arith, few, short))) refuses stops ts (omega arith)

pub repeat_then : {A B : Type 0} (starts : Token → Bool) (f : Form A) → IsPart f → Wants starts f
    → (n : ℕ) (g : List A → Form B) → ((os : List A) → ReadsUpTo n (g os)) → ((os : List A) → Refuses starts (g os))
    → ReadsUpTo n (many starts f >>= g)
repeat_then starts f part wants n g right refuses =
    repeat_before starts (λ _. false) f (part_before f part) wants (λ t hit. absurd (apart false refl hit)) n g right refuses (λ os t ts b rest hit l. apart false refl hit)

-- ---- what lists begin with

pub wants_one : {A B : Type 0} (starts : Token → Bool) (means : Token → Option A) (g : A → Form B) → ((t : Token) (a : A) → means t ≡ Some a → starts t ≡ true) → Wants starts (one means >>= g)
wants_one starts means g fits [] b rest l = absurd l.2
wants_one starts means g fits (t ∷ ts) b rest l = fits t l.0 l.2.0

pub refuses_one : {A B : Type 0} (stop : Token → Bool) (means : Token → Option A) (g : A → Form B) → ((t : Token) → stop t ≡ true → means t ≡ None) → Refuses stop (one means >>= g)
refuses_one stop means g none t ts b rest hit l = none-some (means t) l.0 (none t hit) l.2.0

pub refuses_give : {A B : Type 0} (stop : Token → Bool) (a : A) (g : A → Form B) → Refuses stop (g a) → Refuses stop (give a >>= g)
refuses_give stop a g refuses t ts b rest hit l =
    let l' : (g a).Spells (t ∷ ts) b rest = rw (sym l.2.0) (rw l.2.1 l.3) in
    refuses t ts b rest hit l'

pub refuses_either : {A B : Type 0} (stop starts : Token → Bool) (f g : Form A) (k : A → Form B) → Wants starts f → ((t : Token) → stop t ≡ true → starts t ≡ false) → Refuses stop (g >>= k) → Refuses stop (either starts f g >>= k)
refuses_either stop starts f g k wants other refuses t ts b rest hit l = elim l.2 [
  | inl s ↦ apart (starts t) (other t hit) (wants (t ∷ ts) l.0 l.1 s)
  | inr s ↦ refuses t ts b rest hit (l.0, l.1, s, l.3)
]

pub refuses_repeated : {A B : Type 0} (stop starts : Token → Bool) (f : Form A) (g : List A → Form B) → Wants starts f → ((t : Token) → stop t ≡ true → starts t ≡ false) → ((os : List A) → Refuses stop (g os)) → Refuses stop (many starts f >>= g)
refuses_repeated {A = A} {B = B} stop starts f g wants other refuses t ts b rest hit l = go l.0 l.1 l.2 l.3
  where
    go : (os : List A) (m : List Token) → Repeats f.Spells (t ∷ ts) os m → (g os).Spells m b rest → ⊥
    go [] m r s =
        let s' : (g []).Spells (t ∷ ts) b rest = rw r s in
        refuses [] t ts b rest hit s'
    go (a ∷ os) m r s = apart (starts t) (other t hit) (wants (t ∷ ts) a r.0 r.1)

pub wants_bare : {A : Type 0} (starts : Token → Bool) (means : Token → Option A) → ((t : Token) (a : A) → means t ≡ Some a → starts t ≡ true) → Wants starts (one means)
wants_bare starts means fits [] a rest l = absurd l
wants_bare starts means fits (t ∷ ts) a rest l = fits t a l.0

pub refuses_ending : {A : Type 0} (stop : Token → Bool) (a : A) → ((t : Token) → stop t ≡ true → is_mark 59 t ≡ false) → Refuses stop (ending a)
refuses_ending stop a other t [] b rest hit l = apart (is_mark 59 t) (other t hit) l.2
refuses_ending stop a other t (u ∷ ts) b rest hit l = l.2

-- ---- one of two

pub either_then : {A B : Type 0} (starts : Token → Bool) (f g : Form A) → Wants starts f
    → (n : ℕ) (k : A → Form B) → ReadsUpTo n (f >>= k) → ReadsUpTo n (g >>= k) → Refuses starts (g >>= k)
    → ReadsUpTo n (either starts f g >>= k)
either_then starts f g wants n k left right refuses [] short =
    grow_none (Lists (g >>= k)) (Lists (either starts f g >>= k)) _
    (λ vs b l. (l.0, l.1, inr l.2, l.3))
    (λ b l. elim l.2 [ inl s ↦ absurd (apart false refl (wants [] l.0 l.1 s)) | inr s ↦ (l.0, l.1, s, l.3) ])
    (right [] short)
either_then {A = A} {B = B} starts f g wants n k left right refuses (t ∷ ts) short = go (starts t) refl
  where
    go : (x : Bool) → starts t ≡ x
        → Explains (Lists (either starts f g >>= k)) (t ∷ ts) (and_read (if x then f.read (t ∷ ts) else g.read (t ∷ ts)) (λ a rest. (k a).read rest))
    go true hit = grow (Lists (f >>= k)) (Lists (either starts f g >>= k)) t ts _
        (λ vs b l. (l.0, l.1, inl l.2, l.3))
        (λ vs b l. elim l.2 [ inl s ↦ (l.0, l.1, s, l.3) | inr s ↦ absurd (refuses t vs b [] hit (l.0, l.1, s, l.3)) ])
        (left (t ∷ ts) short)
    go false miss = grow (Lists (g >>= k)) (Lists (either starts f g >>= k)) t ts _
        (λ vs b l. (l.0, l.1, inr l.2, l.3))
        (λ vs b l. elim l.2 [ inl s ↦ absurd (apart (starts t) miss (wants (t ∷ vs) l.0 l.1 s)) | inr s ↦ (l.0, l.1, s, l.3) ])
        (right (t ∷ ts) short)

-- ---- a list with commas

pub word_part : (w : List ℕ) → fits (is_word w) (Word w) ≡ Some tt → IsPart (word w)
word_part w is = one_part (fits (is_word w)) (Word w) tt is

pub mark_part : (m : ℕ) → fits (is_mark m) (Mark m) ≡ Some tt → IsPart (mark m)
mark_part m is = one_part (fits (is_mark m)) (Mark m) tt is

pub fits_test : (test : Token → Bool) (t : Token) (a : Unit {0}) → fits test t ≡ Some a → test t ≡ true
fits_test test t a = go (test t)
  where
    go : (x : Bool) → (if x then Some tt else None) ≡ Some a → x ≡ true
    go true e = refl
    go false e = cc

pub refuses_assoc : {A B C : Type 0} (stop : Token → Bool) (f : Form A) (h : A → Form B) (g : B → Form C) → Refuses stop (f >>= (λ a. h a >>= g)) → Refuses stop ((f >>= h) >>= g)
refuses_assoc stop f h g refuses t ts c rest hit l = refuses t ts c rest hit (l.2.0, l.2.1, l.2.2, (l.0, l.1, l.2.3, l.3))

-- what follows begins with no comma, and with none-some that the items may not stand before
pub listed_upto : {A B : Type 0} (stop : Token → Bool) (f : Form A) (k : List A → Form B) (n : ℕ) → IsPartBefore stop f → ((t : Token) → stop t ≡ true → is_mark 44 t ≡ false)
    → ((xs : List A) → ReadsUpTo n (k xs)) → ((xs : List A) → Refuses (is_mark 44) (k xs)) → ((xs : List A) → Refuses stop (k xs))
    → ReadsUpTo n (list_of f >>= k)
listed_upto {A = A} {B = B} stop f k n part other right commas stops =
    upto_assoc f tail k n (λ ts short. part B n (λ x. tail x >>= k) whole barred ts (omega (arith, short)))
  where
    more : Form (List A)
    more = many (is_mark 44) (mark 44 >> f)

    tail : A → Form (List A)
    tail x = more >>= (λ xs. give (x ∷ xs))

    next : IsPartBefore stop (mark 44 >> f)
    next = part_before_then stop (mark 44) (λ _. f) (mark_part 44 refl) (λ C m g reads refuses _ ts short. part C m g reads refuses ts (omega (arith, short)))

    opens : Wants (is_mark 44) (mark 44 >> f)
    opens = wants_one (is_mark 44) (fits (is_mark 44)) (λ _. f) (fits_test (is_mark 44))

    whole : (x : A) → ReadsUpTo n (tail x >>= k)
    whole x = upto_assoc more (λ xs. give (x ∷ xs)) k n (repeat_before (is_mark 44) stop (mark 44 >> f) next opens other n (λ xs. give (x ∷ xs) >>= k)
        (λ xs. give_then (x ∷ xs) k n (right (x ∷ xs))) (λ xs. refuses_give (is_mark 44) (x ∷ xs) k (commas (x ∷ xs))) (λ xs. refuses_give stop (x ∷ xs) k (stops (x ∷ xs))))

    barred : (x : A) → Refuses stop (tail x >>= k)
    barred x = refuses_assoc stop more (λ xs. give (x ∷ xs)) k (refuses_repeated stop (is_mark 44) (mark 44 >> f) (λ xs. give (x ∷ xs) >>= k) opens other (λ xs. refuses_give stop (x ∷ xs) k (stops (x ∷ xs))))

pub listed_rest : {A B : Type 0} (stop : Token → Bool) (f : Form A) (h : List A → Form B) → IsPartBefore stop f → ((t : Token) → stop t ≡ true → is_mark 44 t ≡ false)
    → ((xs : List A) → IsRest (h xs)) → ((xs : List A) → Refuses (is_mark 44) (h xs)) → ((xs : List A) → Refuses stop (h xs)) → IsRest (list_of f >>= h)
listed_rest stop f h part other rest commas stops C n g right =
    upto_assoc (list_of f) h g n (listed_upto stop f (λ xs. h xs >>= g) n part other (λ xs. rest xs C n g right) (λ xs. refuses_then (is_mark 44) (h xs) g (commas xs)) (λ xs. refuses_then stop (h xs) g (stops xs)))

-- ---- the end

pub ending_right : {A : Type 0} (a : A) (n : ℕ) → ReadsUpTo n (ending a)
ending_right a n [] short = (refl, (refl, refl, tt), λ b l. l.0)
ending_right a n (t ∷ []) short = go (is_mark 59 t) refl
  where
    none : (more : List Token) → is_mark 59 t ≡ false → EndsLine (t ∷ more) → ⊥
    none [] miss e = apart (is_mark 59 t) miss e
    none (u ∷ more) miss e = e

    go : (x : Bool) → is_mark 59 t ≡ x → Explains (Lists (ending a)) (t ∷ []) (if x then Read a [] else Fault 1)
    go true hit = (refl, (refl, refl, hit), λ b l. l.0)
    go false miss = record { before = []; after = t ∷ []; split = refl; left_is = refl; begins = ([], a, (refl, refl, tt)); stops = λ b. none b.0 miss b.2.2 }
ending_right a n (t ∷ u ∷ ts) short = go (is_mark 59 t) refl
  where
    none : (more : List Token) → is_mark 59 t ≡ false → EndsLine (t ∷ more) → ⊥
    none [] miss e = apart (is_mark 59 t) miss e
    none (v ∷ more) miss e = e

    go : (x : Bool) → is_mark 59 t ≡ x → Explains (Lists (ending a)) (t ∷ u ∷ ts) (if x then Fault (suc (length ts)) else Fault (suc (suc (length ts))))
    go true hit = record { before = t ∷ []; after = u ∷ ts; split = refl; left_is = refl; begins = ([], a, (refl, refl, hit)); stops = λ b. b.2.2 }
    go false miss = record { before = []; after = t ∷ u ∷ ts; split = refl; left_is = refl; begins = ([], a, (refl, refl, tt)); stops = λ b. none b.0 miss b.2.2 }

-- ---- what is made of a form

making_exact : {A B : Type 0} (L : List Token → A → Type 0) (make : A → B) (ts : List Token) (p : Progress A)
    → Explains L ts p → Explains (λ us b. (a : A) × L us a × (b ≡ make a)) ts (read_making p make)
making_exact L make ts (Read a rest) e = (e.0, (a, e.1, refl), λ b l. l.2 ∙ ap make (e.2 l.0 l.1))
making_exact {A = A} {B = B} L make ts (Fault left) e = record {
  before = e.before;
  after = e.after;
  split = e.split;
  left_is = e.left_is;
  begins = (e.begins.0, make e.begins.1, (e.begins.1, e.begins.2, refl));
  stops = stop e.after e.stops;
}
  where
    stop : (after : List Token) → Stops L e.before after → Stops (λ us b. (a : A) × L us a × (b ≡ make a)) e.before after
    stop [] s = λ b l. s l.0 l.1
    stop (u ∷ after) s = λ b. s (b.0, b.2.0, b.2.1)

pub making_upto : {A B : Type 0} (n : ℕ) (f : Form A) (make : A → B) → ReadsUpTo n f → ReadsUpTo n (f making make)
making_upto n f make right ts short = making_exact (Lists f) make ts (f.read ts) (right ts short)

-- ---- several forms

-- what stops at some place stops at each later one
beyond : {A : Type 0} (L : List Token → A → Type 0) (b a b' a' : List Token) → b ++ a ≡ b' ++ a' → length a' ≤ length a → Stops L b a → Stops L b' a'
beyond L [] a [] a' same less s = rw (sym same) s
beyond {A = A} L [] a (v ∷ b') a' same less s = at a'
  where
    s' : Stops L [] (v ∷ (b' ++ a'))
    s' = rw same at s

    at : (x : List Token) → Stops L (v ∷ b') x
    at [] = λ a l. s' (b', a, l)
    at (u ∷ x) = λ c. s' ((b' ++ u ∷ []) ++ c.0, c.1, c.2)
beyond L (t ∷ b) a [] a' same less s = absurd (omega (arith, ap length same, length-append b a, less))
beyond {A = A} L (t ∷ b) a (v ∷ b') a' same less s = back a' (beyond (λ ts x. L (t ∷ ts) x) b a b' a' tails less (go a s))
  where
    heads : t ≡ v
    heads = cc

    tails : b ++ a ≡ b' ++ a'
    tails = cc

    go : (x : List Token) → Stops L (t ∷ b) x → Stops (λ ts x. L (t ∷ ts) x) b x
    go [] h = h
    go (u ∷ x) h = h

    back : (x : List Token) → Stops (λ ts x. L (t ∷ ts) x) b' x → Stops L (v ∷ b') x
    back [] h = rw (sym heads) h
    back (u ∷ x) h = rw (sym heads) h

stops_or : {A : Type 0} (L M : List Token → A → Type 0) (b a : List Token) → Stops L b a → Stops M b a → Stops (λ ts x. L ts x ⊎ M ts x) b a
stops_or L M b [] s r = λ x l. elim l [ inl h ↦ s x h | inr h ↦ r x h ]
stops_or L M b (u ∷ a) s r = λ c. elim c.2 [ inl h ↦ s (c.0, c.1, h) | inr h ↦ r (c.0, c.1, h) ]

both : {A : Type 0} (L M : List Token → A → Type 0) (ts : List Token) (p q : Progress A)
    → ((a b : A) → L ts a → M ts b → ⊥)
    → Explains L ts p → Explains M ts q → Explains (λ us x. L us x ⊎ M us x) ts (farthest p q)
both L M ts (Read a rest) q only e h = (e.0, inl e.1, λ b l. elim l [ inl k ↦ e.2 b k | inr k ↦ absurd (only a b e.1 k) ])
both L M ts (Fault left) (Read a rest) only e h = (h.0, inr h.1, λ b l. elim l [ inl k ↦ absurd (only b a k h.1) | inr k ↦ h.2 b k ])
both L M ts (Fault left) (Fault less) only e h = elim (total left less) [
  | inl below ↦ record {
    before = e.before;
    after = e.after;
    split = e.split;
    left_is = e.left_is ∙ omega (arith, below);
    begins = (e.begins.0, e.begins.1, inl e.begins.2);
    stops = stops_or L M e.before e.after e.stops (beyond M h.before h.after e.before e.after (sym h.split ∙ e.split) (omega (arith, below, e.left_is, h.left_is)) h.stops);
  }
  | inr above ↦ record {
    before = h.before;
    after = h.after;
    split = h.split;
    left_is = h.left_is ∙ omega (arith, above);
    begins = (h.begins.0, h.begins.1, inr h.begins.2);
    stops = stops_or L M h.before h.after (beyond L e.before e.after h.before h.after (sym e.split ∙ h.split) (omega (arith, above, e.left_is, h.left_is)) e.stops) h.stops;
  }
]
  where
    total : (m n : ℕ) → (m ≤ n) ⊎ (n ≤ m)
    total m n = grind arith

pub or_right : {A : Type 0} (n : ℕ) (f g : Form A) → ((ts : List Token) (a b : A) → Lists f ts a → Lists g ts b → ⊥) → ReadsUpTo n f → ReadsUpTo n g → ReadsUpTo n (f or g)
or_right n f g only left right ts short = both (Lists f) (Lists g) ts (f.read ts) (g.read ts) (only ts) (left ts short) (right ts short)
