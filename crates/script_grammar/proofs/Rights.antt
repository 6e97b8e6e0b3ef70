-- Forms that are read right, put together as their `do` blocks are.
use Rattle.std.proofs.Common.{◌≡◌, ℕ, Bool, true, false, List, length, Option, Some, None, refl, arith}
use Rattle.std.proofs.lemmas.Bool.{eqb-true}
use Rattle.std.proofs.lemmas.Slice.Eq.{bytes_eq-Decides}
use Rattle.script_tokens.specs.declared.token.Token.{Token}
use Rattle.script_tokens.specs.declared.token.Token.TheVariants.{Word, Number, Text, Bytes, Mark, Bad}
use Rattle.script_grammar.specs.Grammar.{Form, give, one, fits, word, is_word, mark, is_mark, many, list_of, either, ending, ◌making◌, ◌>>=◌, ◌>>◌}
use Rattle.script_grammar.specs.Columns.{IsExact}
use Rattle.script_grammar.proofs.Exactness.{ReadsUpTo, Refuses, Wants, IsPart, IsPartBefore, part_rest, part_before, give_then, upto_assoc, repeat_then, listed_upto, either_then, ending_right, making_upto, word_part, mark_part, fits_test, wants_one, refuses_one, refuses_give, refuses_either, refuses_ending, refuses_then, refuses_assoc}
use Rattle.script_tokens.proofs.Lexing.{apart}

-- a form that goes to the end of its line is read right
pub record IsRight {A : Type 0} (form : Form A) : Type 0 where
  pub upto : (n : ℕ) → ReadsUpTo n form

pub explained : {A : Type 0} (form : Form A) → IsRight form → IsExact form
explained form right ts = right.upto (length ts) ts (omega arith)

-- no list of the form begins with such a token
pub record Bars {A : Type 0} (stop : Token → Bool) (form : Form A) : Type 0 where
  pub bars : Refuses stop form

-- each list of the form begins with such a token
pub record Opens {A : Type 0} (starts : Token → Bool) (form : Form A) : Type 0 where
  pub opens : Wants starts form

-- ---- a line goes on

pub then_ : {A B : Type 0} (f : Form A) (g : A → Form B) → IsPart f → ((a : A) → IsRight (g a)) → IsRight (f >>= g)
then_ {B = B} f g part right = record { upto = λ n. part_rest f part B n g (λ a. (right a).upto n) }

-- a part that may not stand before some tokens
pub then_before_ : {A B : Type 0} (stop : Token → Bool) (f : Form A) (g : A → Form B) → IsPartBefore stop f → ((a : A) → IsRight (g a)) → ((a : A) → Bars stop (g a)) → IsRight (f >>= g)
then_before_ {B = B} stop f g part right bars = record { upto = λ n ts short. part B n g (λ a. (right a).upto n) (λ a. (bars a).bars) ts (omega (arith, short)) }

pub word_ : {B : Type 0} (w : List ℕ) (g : Form B) → fits (is_word w) (Word w) ≡ Some tt → IsRight g → IsRight (word w >> g)
word_ w g is right = then_ (word w) (λ _. g) (word_part w is) (λ _. right)

pub mark_ : {B : Type 0} (m : ℕ) (g : Form B) → fits (is_mark m) (Mark m) ≡ Some tt → IsRight g → IsRight (mark m >> g)
mark_ m g is right = then_ (mark m) (λ _. g) (mark_part m is) (λ _. right)

pub end_ : {A : Type 0} (a : A) → IsRight (ending a)
end_ a = record { upto = ending_right a }

pub making_ : {A B : Type 0} (f : Form A) (make : A → B) → IsRight f → IsRight (f making make)
making_ f make right = record { upto = λ n. making_upto n f make (right.upto n) }

pub assoc_ : {A B C : Type 0} (f : Form A) (h : A → Form B) (g : B → Form C) → IsRight (f >>= (λ a. h a >>= g)) → IsRight ((f >>= h) >>= g)
assoc_ f h g right = record { upto = λ n. upto_assoc f h g n (right.upto n) }

pub give_ : {A B : Type 0} (a : A) (g : A → Form B) → IsRight (g a) → IsRight (give a >>= g)
give_ {B = B} a g right = record { upto = λ n. give_then a g n (right.upto n) }

pub repeat_ : {A B : Type 0} (starts : Token → Bool) (f : Form A) (g : List A → Form B) → IsPart f → Opens starts f → ((os : List A) → IsRight (g os)) → ((os : List A) → Bars starts (g os)) → IsRight (many starts f >>= g)
repeat_ starts f g part wants right refuses = record { upto = λ n. repeat_then starts f part wants.opens n g (λ os. (right os).upto n) (λ os. (refuses os).bars) }

pub listed_ : {A B : Type 0} (f : Form A) (k : List A → Form B) → IsPart f → ((xs : List A) → IsRight (k xs)) → ((xs : List A) → Bars (is_mark 44) (k xs)) → IsRight (list_of f >>= k)
listed_ f k part right bars = record {
  upto = λ n. listed_upto (λ _. false) f k n (part_before f part) (λ t hit. absurd (apart false refl hit))
      (λ xs. (right xs).upto n) (λ xs. (bars xs).bars) (λ xs t ts b rest hit l. apart false refl hit);
}

pub either_ : {A B : Type 0} (starts : Token → Bool) (f g : Form A) (k : A → Form B) → Opens starts f → IsRight (f >>= k) → IsRight (g >>= k) → Bars starts (g >>= k) → IsRight (either starts f g >>= k)
either_ starts f g k wants left right refuses = record { upto = λ n. either_then starts f g wants.opens n k (left.upto n) (right.upto n) refuses.bars }

-- ---- what begins with what

pub fits_none : (test : Token → Bool) (t : Token) → test t ≡ false → fits test t ≡ None
fits_none test t e = rw e refl

pub opens_one : {A B : Type 0} (starts : Token → Bool) (means : Token → Option A) (g : A → Form B) → ((t : Token) (a : A) → means t ≡ Some a → starts t ≡ true) → Opens starts (one means >>= g)
opens_one starts means g is = record { opens = wants_one starts means g is }

pub bars_one : {A B : Type 0} (stop : Token → Bool) (means : Token → Option A) (g : A → Form B) → ((t : Token) → stop t ≡ true → means t ≡ None) → Bars stop (one means >>= g)
bars_one stop means g none = record { bars = refuses_one stop means g none }

pub opens_mark : {A : Type 0} (m : ℕ) (g : Form A) → Opens (is_mark m) (mark m >> g)
opens_mark m g = record { opens = wants_one (is_mark m) (fits (is_mark m)) (λ _. g) (fits_test (is_mark m)) }

pub opens_word : {A : Type 0} (w : List ℕ) (g : Form A) → Opens (is_word w) (word w >> g)
opens_word w g = record { opens = wants_one (is_word w) (fits (is_word w)) (λ _. g) (fits_test (is_word w)) }

-- a token that is one mark is nothing that this mark isn't
pub from_mark : (m : ℕ) (P : Token → Type 0) → P (Mark m) → (t : Token) → is_mark m t ≡ true → P t
from_mark m P p (Word v) hit = absurd (apart false refl hit)
from_mark m P p (Number n) hit = absurd (apart false refl hit)
from_mark m P p (Text s) hit = absurd (apart false refl hit)
from_mark m P p (Bytes s) hit = absurd (apart false refl hit)
from_mark m P p (Mark b) hit =
    let same : b ≡ m = eqb-true b m hit in
    rw same p
from_mark m P p Bad hit = absurd (apart false refl hit)

pub from_word : (w : List ℕ) (P : Token → Type 0) → P (Word w) → (t : Token) → is_word w t ≡ true → P t
from_word w P p (Word v) hit =
    let same : v ≡ w = (bytes_eq-Decides v w).0 hit in
    rw same p
from_word w P p (Number n) hit = absurd (apart false refl hit)
from_word w P p (Text s) hit = absurd (apart false refl hit)
from_word w P p (Bytes s) hit = absurd (apart false refl hit)
from_word w P p (Mark b) hit = absurd (apart false refl hit)
from_word w P p Bad hit = absurd (apart false refl hit)

-- the next is a mark, a word or the end, and not the mark or word that stops
pub bars_mark_mark : {A : Type 0} (m k : ℕ) (g : Form A) → fits (is_mark k) (Mark m) ≡ None → Bars (is_mark m) (mark k >> g)
bars_mark_mark m k g is = record { bars = refuses_one (is_mark m) (fits (is_mark k)) (λ _. g) (from_mark m (λ t. fits (is_mark k) t ≡ None) is) }

pub bars_mark_word : {A : Type 0} (m : ℕ) (w : List ℕ) (g : Form A) → Bars (is_mark m) (word w >> g)
bars_mark_word m w g = record { bars = refuses_one (is_mark m) (fits (is_word w)) (λ _. g) (from_mark m (λ t. fits (is_word w) t ≡ None) refl) }

pub bars_mark_end : {A : Type 0} (m : ℕ) (a : A) → is_mark 59 (Mark m) ≡ false → Bars (is_mark m) (ending a)
bars_mark_end m a is = record { bars = refuses_ending (is_mark m) a (from_mark m (λ t. is_mark 59 t ≡ false) is) }

pub bars_word_end : {A : Type 0} (w : List ℕ) (a : A) → Bars (is_word w) (ending a)
bars_word_end w a = record { bars = refuses_ending (is_word w) a (from_word w (λ t. is_mark 59 t ≡ false) refl) }

pub bars_give : {A B : Type 0} (stop : Token → Bool) (a : A) (g : A → Form B) → Bars stop (g a) → Bars stop (give a >>= g)
bars_give stop a g b = record { bars = refuses_give stop a g b.bars }

pub bars_then : {A B : Type 0} (stop : Token → Bool) (f : Form A) (g : A → Form B) → Bars stop f → Bars stop (f >>= g)
bars_then stop f g b = record { bars = refuses_then stop f g b.bars }

pub bars_assoc : {A B C : Type 0} (stop : Token → Bool) (f : Form A) (h : A → Form B) (g : B → Form C) → Bars stop (f >>= (λ a. h a >>= g)) → Bars stop ((f >>= h) >>= g)
bars_assoc stop f h g b = record { bars = refuses_assoc stop f h g b.bars }

pub bars_word_either : {A B : Type 0} (w v : List ℕ) (f g : Form A) (k : A → Form B) → Opens (is_word v) f → is_word v (Word w) ≡ false → Bars (is_word w) (g >>= k) → Bars (is_word w) (either (is_word v) f g >>= k)
bars_word_either w v f g k opens is b = record { bars = refuses_either (is_word w) (is_word v) f g k opens.opens (from_word w (λ t. is_word v t ≡ false) is) b.bars }
