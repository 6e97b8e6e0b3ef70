-- Several forms of a line: no tokens are in two of them, since the words that they begin with differ.
use Rattle.std.proofs.Common.{◌≡◌, Bool, true, false, ℕ, List, [], ◌∷◌, ◌++◌, Option, Some, None, refl, sym, not, ◌&&◌, ◌||◌, ◌⊎◌, inl, inr}
use Rattle.std.specs.Str.{bytes_eq}
use Rattle.std.proofs.lemmas.Slice.Eq.{bytes_eq-Decides}
use Rattle.script_tokens.specs.declared.token.Token.{Token}
use Rattle.script_grammar.specs.Grammar.{Form, give, one, fits, word, is_word, mark, is_mark, ◌making◌, ◌or◌, ◌>>=◌, ◌>>◌}
use Rattle.script_grammar.specs.Columns.{Lists}
use Rattle.script_grammar.specs.Parts.{name, name_of_token, table}
use Rattle.script_grammar.proofs.Exactness.{fits_test, or_right}
use Rattle.script_tokens.proofs.Lexing.{apart}
use Rattle.script_grammar.proofs.Rights.{IsRight, making_, from_word}
use Rattle.list_laws.proofs.Bools.{and-parts, not-or}

-- what tokens begin with: Some w is this word, None any token
abbrev pub Lead : Type 0
Lead = List (Option (List ℕ))

abbrev pub fits_lead : Lead → List Token → Bool
fits_lead [] ts = true
fits_lead (p ∷ ps) [] = false
fits_lead (None ∷ ps) (t ∷ ts) = fits_lead ps ts
fits_lead (Some w ∷ ps) (t ∷ ts) = is_word w t && fits_lead ps ts

-- two leads that no tokens fit
abbrev pub clash : Lead → Lead → Bool
clash [] qs = false
clash (p ∷ ps) [] = false
clash (None ∷ ps) (q ∷ qs) = clash ps qs
clash (Some w ∷ ps) (None ∷ qs) = clash ps qs
clash (Some w ∷ ps) (Some v ∷ qs) = not (bytes_eq v w) || clash ps qs

abbrev pub clash_all : Lead → List Lead → Bool
clash_all ps [] = true
clash_all ps (qs ∷ more) = clash ps qs && clash_all ps more

abbrev pub clash_lists : List Lead → List Lead → Bool
clash_lists [] qss = true
clash_lists (ps ∷ pss) qss = clash_all ps qss && clash_lists pss qss

clash_apart : (ps qs : Lead) (ts : List Token) → clash ps qs ≡ true → fits_lead ps ts ≡ true → fits_lead qs ts ≡ true → ⊥
clash_apart [] qs ts c f g = apart false refl c
clash_apart (p ∷ ps) [] ts c f g = apart false refl c
clash_apart (p ∷ ps) (q ∷ qs) [] c f g = apart false refl f
clash_apart (None ∷ ps) (None ∷ qs) (t ∷ ts) c f g = clash_apart ps qs ts c f g
clash_apart (None ∷ ps) (Some v ∷ qs) (t ∷ ts) c f g = clash_apart ps qs ts c f (and-parts (is_word v t) (fits_lead qs ts) g).1
clash_apart (Some w ∷ ps) (None ∷ qs) (t ∷ ts) c f g = clash_apart ps qs ts c (and-parts (is_word w t) (fits_lead ps ts) f).1 g
clash_apart (Some w ∷ ps) (Some v ∷ qs) (t ∷ ts) c f g =
    let ws = and-parts (is_word w t) (fits_lead ps ts) f in
    let vs = and-parts (is_word v t) (fits_lead qs ts) g in
    let same : bytes_eq v w ≡ true = from_word w (λ u. is_word v u ≡ true → bytes_eq v w ≡ true) (λ h. eq_back v w h) t ws.0 vs.0 in
    clash_apart ps qs ts (not-or (bytes_eq v w) (clash ps qs) same c) ws.1 vs.1
  where
    eq_back : (x y : List ℕ) → bytes_eq y x ≡ true → bytes_eq x y ≡ true
    eq_back x y h = (bytes_eq-Decides x y).1 (sym ((bytes_eq-Decides y x).0 h))

-- ---- what a form begins with

pub record Leads {A : Type 0} (ps : Lead) (form : Form A) : Type 0 where
  pub leads : (ts : List Token) (a : A) (rest : List Token) → form.Spells ts a rest → fits_lead ps ts ≡ true

pub lead_end : {A : Type 0} (form : Form A) → Leads [] form
lead_end form = record { leads = λ ts a rest l. refl }

pub lead_any : {A B : Type 0} (ps : Lead) (means : Token → Option A) (g : A → Form B) → ((a : A) → Leads ps (g a)) → Leads (None ∷ ps) (one means >>= g)
lead_any {A = A} {B = B} ps means g on = record { leads = go }
  where
    go : (ts : List Token) (b : B) (rest : List Token) → (one means >>= g).Spells ts b rest → fits_lead (None ∷ ps) ts ≡ true
    go [] b rest l = absurd l.2
    go (t ∷ ts) b rest l = rw l.2.1 ((on l.0).leads l.1 b rest l.3)

pub lead_word : {B : Type 0} (ps : Lead) (w : List ℕ) (g : Form B) → Leads ps g → Leads (Some w ∷ ps) (word w >> g)
lead_word {B = B} ps w g on = record { leads = go }
  where
    go : (ts : List Token) (b : B) (rest : List Token) → (word w >> g).Spells ts b rest → fits_lead (Some w ∷ ps) ts ≡ true
    go [] b rest l = absurd l.2
    go (t ∷ ts) b rest l =
        let hit : is_word w t ≡ true = fits_test (is_word w) t l.0 l.2.0 in
        let more : fits_lead ps l.1 ≡ true = on.leads l.1 b rest l.3 in
        rw (hit, l.2.1) more

lead_assoc : {A B C : Type 0} (ps : Lead) (f : Form A) (h : A → Form B) (g : B → Form C) → Leads ps (f >>= (λ a. h a >>= g)) → Leads ps ((f >>= h) >>= g)
lead_assoc ps f h g on = record { leads = λ ts c rest l. on.leads ts c rest (l.2.0, l.2.1, l.2.2, (l.0, l.1, l.2.3, l.3)) }

lead_give : {A B : Type 0} (ps : Lead) (a : A) (g : A → Form B) → Leads ps (g a) → Leads ps (give a >>= g)
lead_give {A = A} {B = B} ps a g on = record { leads = λ ts b rest l. (let l' : (g a).Spells ts b rest = rw (sym l.2.0) (rw l.2.1 l.3) in on.leads ts b rest l') }

pub lead_table : {B : Type 0} (ps : Lead) (g : List ℕ × List ℕ → Form B) → ((t : List ℕ × List ℕ) → Leads ps (g t)) → Leads (None ∷ None ∷ None ∷ ps) (table >>= g)
unfolding table
lead_table ps g on =
    lead_assoc (None ∷ None ∷ None ∷ ps) name (λ d. mark 46 >> (name >>= (λ n. give (d, n)))) g (lead_any (None ∷ None ∷ ps) name_of_token (λ d. (mark 46 >> (name >>= (λ n. give (d, n)))) >>= g) (λ d.
    lead_assoc (None ∷ None ∷ ps) (mark 46) (λ _. name >>= (λ n. give (d, n))) g (lead_any (None ∷ ps) (fits (is_mark 46)) (λ _. (name >>= (λ n. give (d, n))) >>= g) (λ _.
    lead_assoc (None ∷ ps) name (λ n. give (d, n)) g (lead_any ps name_of_token (λ n. give (d, n) >>= g) (λ n.
    lead_give ps (d, n) g (on (d, n))))))))

-- ---- families of forms

abbrev pub Among : List Lead → List Token → Type 0
Among [] ts = ⊥
Among (ps ∷ pss) ts = (fits_lead ps ts ≡ true) ⊎ Among pss ts

among_left : (pss qss : List Lead) (ts : List Token) → Among pss ts → Among (pss ++ qss) ts
among_left [] qss ts a = absurd a
among_left (ps ∷ pss) qss ts (inl h) = inl h
among_left (ps ∷ pss) qss ts (inr a) = inr (among_left pss qss ts a)

among_right : (pss qss : List Lead) (ts : List Token) → Among qss ts → Among (pss ++ qss) ts
among_right [] qss ts a = a
among_right (ps ∷ pss) qss ts a = inr (among_right pss qss ts a)

apart_from : (ps : Lead) (qss : List Lead) (ts : List Token) → clash_all ps qss ≡ true → fits_lead ps ts ≡ true → Among qss ts → ⊥
apart_from ps [] ts c f a = a
apart_from ps (qs ∷ qss) ts c f (inl g) = clash_apart ps qs ts (and-parts (clash ps qs) (clash_all ps qss) c).0 f g
apart_from ps (qs ∷ qss) ts c f (inr a) = apart_from ps qss ts (and-parts (clash ps qs) (clash_all ps qss) c).1 f a

apart_lists : (pss qss : List Lead) (ts : List Token) → clash_lists pss qss ≡ true → Among pss ts → Among qss ts → ⊥
apart_lists [] qss ts c a b = a
apart_lists (ps ∷ pss) qss ts c (inl f) b = apart_from ps qss ts (and-parts (clash_all ps qss) (clash_lists pss qss) c).0 f b
apart_lists (ps ∷ pss) qss ts c (inr a) b = apart_lists pss qss ts (and-parts (clash_all ps qss) (clash_lists pss qss) c).1 a b

-- a form that is read right, each list of which begins in one of these ways
pub record Family {A : Type 0} (pss : List Lead) (form : Form A) : Type 0 where
  pub right : IsRight form
  pub led : (ts : List Token) (a : A) → Lists form ts a → Among pss ts

pub family : {A : Type 0} (ps : Lead) (f : Form A) → IsRight f → Leads ps f → Family (ps ∷ []) f
family ps f right on = record { right = right; led = λ ts a l. inl (on.leads ts a [] l) }

pub making_family : {A B : Type 0} (pss : List Lead) (f : Form A) (make : A → B) → Family pss f → Family pss (f making make)
making_family pss f make fam = record { right = making_ f make fam.right; led = λ ts b l. fam.led ts l.0 l.1 }

-- one of two families of forms that begin in unlike ways
pub or_ : {A : Type 0} (pss qss : List Lead) (f g : Form A) → Family pss f → Family qss g → clash_lists pss qss ≡ true → Family (pss ++ qss) (f or g)
or_ pss qss f g fam more c = record {
  right = record { upto = λ n. or_right n f g (λ ts a b l m. apart_lists pss qss ts c (fam.led ts a l) (more.led ts b m)) (fam.right.upto n) (more.right.upto n) };
  led = λ ts a l. elim l [ inl h ↦ among_left pss qss ts (fam.led ts a h) | inr h ↦ among_right pss qss ts (more.led ts a h) ];
}
