-- Readers of field after field refuse bytes at their first fault.
use Rattle.std.proofs.Common.{◌≡◌, ℕ, zero, suc, ◌-◌, Bool, true, false, List, [], ◌∷◌, ◌++◌, length, nat_eq, nat_le, Option, Some, None, Result, Ok, Err, ◌⊎◌, inl, inr, arith, refl, sym, ◌∙◌}
use Rattle.std.proofs.lemmas.Bool.{cases_Bool}
use Rattle.std.proofs.lemmas.Bool.Decides.{nat_tests}
use Rattle.key_encoding.specs.Coding.{IsWord}
use Rattle.key_encoding.specs.Reading.{read_uvarint}
use Rattle.key_encoding.specs.declared.fault.KeyFault.{KeyFault}
use Rattle.list_laws.specs.Bytes.{AreBytes}
use Rattle.mvcc_keys.specs.Codes.{read_time_bytes}
use Rattle.row_codec.specs.KeyReading.{◌>>=◌}
use Rattle.row_codec.specs.FirstFaults.{Grammar, Over, Item}
use Rattle.row_codec.proofs.KeyLaws.{pair_parts, ok_is}
use Rattle.row_codec.proofs.FaultWalks.{LeftAt, Walks, Tells, item-walks, none-walks, bind-walks, over, not-over}
use Rattle.table_descriptors.specs.Fields.{IsFormat, and_value, and_next, ◌then◌, made_of, tested, such, begun_at, item, read_on, read_items, or_left, number_or, read_number, is_id, read_id, is_count, read_count, read_exactly, read_sized, read_name, read_time, with_rest, read_byte, read_list, whole}
use Rattle.table_descriptors.specs.DescriptorFaults.{times, counted}
use Rattle.table_descriptors.proofs.FieldLaws.{number-format, such-format}

-- a reader refuses bytes where they begin
abbrev pub FailsInFront : {X : Type 0} → (List ℕ → Result (X × List ℕ) ℕ) → Type 0
FailsInFront read = (b : List ℕ) (left : ℕ) → read b ≡ Err left → left ≡ length b

-- what a reader answers, with how many bytes are left at the fault
abbrev pub Goes : {X : Type 0} → Grammar → (X → Grammar) → List ℕ → Result (X × List ℕ) ℕ → Type 0
Goes g next b o = Walks (λ n. n) g next b o

left_is : {X : Type 0} (m n : ℕ) → (let u : Result (X × List ℕ) ℕ = Err m in u) ≡ Err n → m ≡ n
left_is m n e = cc

-- ---- fields

pub field-goes : {X : Type 0} {Q : X → Type 0} {code : X → List ℕ} {read : List ℕ → Result (X × List ℕ) ℕ} (P : X → Type 0) (next : X → Grammar) → IsFormat Q code read → FailsInFront read → ((x : X) → P x → Q x) → ((x : X) → Q x → P x)
    → (b : List ℕ) → AreBytes b → Goes (Item P code next) next b (read b)
field-goes {X} {Q} {code} {read} P next f front into out b h =
    item-walks P code next (λ n. n) b (read b) h (λ x r p spelled. rw spelled (f.found x r (into x p))) (λ x r e. let was = f.only b x r h e in (out x was.0, was.1)) (λ at e. front b at e)

pub such-front : {X : Type 0} (ok : X → Bool) (read : List ℕ → Result (X × List ℕ) ℕ) → FailsInFront read → FailsInFront (such ok read)
such-front {X} ok read front b left e = by (read b) refl e
  where
    by : (o : Result (X × List ℕ) ℕ) → read b ≡ o → tested ok (length b) o ≡ Err left → left ≡ length b
    by (Ok p) is h =
        elim (cases_Bool (ok p.0)) [
          | inl t ↦ let h' = rw t at h in absurd (cc)
          | inr f ↦ sym (left_is (length b) left (rw f at h))
        ]
    by (Err k) is h = front b left (is ∙ h)

pub item-front : {X : Type 0} (read : List ℕ → Result (X × List ℕ) ℕ) → FailsInFront (item read)
item-front {X} read b left e = by (read b) e
  where
    by : (o : Result (X × List ℕ) ℕ) → begun_at (length b) o ≡ Err left → left ≡ length b
    by (Ok p) h = absurd (cc)
    by (Err k) h = sym (left_is (length b) left h)

pub made-front : {X Y : Type 0} (make : X → Y) (read : List ℕ → Result (X × List ℕ) ℕ) → FailsInFront read → FailsInFront (λ b. made_of make (read b))
made-front {X} {Y} make read front b left e = by (read b) refl e
  where
    by : (o : Result (X × List ℕ) ℕ) → read b ≡ o → made_of make o ≡ Err left → left ≡ length b
    by (Ok p) is h = absurd (cc)
    by (Err k) is h = let same = left_is k left h in rw same at (front b k is)

pub number-front : FailsInFront read_number
number-front b left e = by (read_uvarint b) e
  where
    by : (o : Result (ℕ × List ℕ) KeyFault) → number_or (length b) o ≡ Err left → left ≡ length b
    by (Ok p) h = absurd (cc)
    by (Err k) h = sym (left_is (length b) left h)

pub id-front : FailsInFront read_id
id-front = such-front is_id read_number number-front

pub count-front : FailsInFront read_count
count-front = such-front is_count read_id id-front

pub exactly-front : (n : ℕ) → FailsInFront (read_exactly n)
exactly-front n b left e =
    elim (cases_Bool (nat_le n (length b))) [
      | inl t ↦ let e' = rw t at e in absurd (cc)
      | inr f ↦ sym (left_is (length b) left (rw f at e))
    ]

pub sized-front : FailsInFront read_sized
sized-front = made-front (λ (p : ℕ × List ℕ). p.1) (item (read_number then read_exactly)) (item-front (read_number then read_exactly))

pub name-front : FailsInFront read_name
name-front = such-front _ read_sized sized-front

or_left-front : {X : Type 0} (at left : ℕ) (o : Option (X × List ℕ)) → or_left at o ≡ Err left → left ≡ at
or_left-front at left (Some x) e = absurd (cc)
or_left-front at left None e = sym (left_is at left e)

pub time-front : FailsInFront read_time
time-front b left e = or_left-front (length b) left (read_time_bytes b) e

pub byte-front : {X : Type 0} (means : ℕ → Option X) → FailsInFront (read_byte means)
byte-front means [] left e = sym (left_is 0 left e)
byte-front means (x ∷ rest) left e = or_left-front (suc (length rest)) left (with_rest rest (means x)) e

-- ---- one after another

pub made-goes : {X Y : Type 0} (make : X → Y) (g : Grammar) (next : Y → Grammar) (b : List ℕ) (o : Result (X × List ℕ) ℕ) → Goes g (λ x. next (make x)) b o → Goes g next b (made_of make o)
made-goes {X} {Y} make g next b (Ok p) w = record {
  fails = λ at e. absurd (cc);
  goes = λ y r e. let parts = pair_parts (make p.0, p.1) (y, r) (ok_is (make p.0, p.1) (y, r) e) in rw (← parts.0, ← parts.1) (w.goes p.0 p.1 refl);
  back = λ left l. by left (w.back left l);
}
  where
    by : (left : ℕ) → ((let u : Result (X × List ℕ) ℕ = Ok p in u) ≡ Err left) ⊎ ((x : X) × (r : List ℕ) × ((let u : Result (X × List ℕ) ℕ = Ok p in u) ≡ Ok (x, r)) × LeftAt (next (make x)) r left)
        → ((let u : Result (Y × List ℕ) ℕ = Ok (make p.0, p.1) in u) ≡ Err left) ⊎ ((y : Y) × (r : List ℕ) × ((let u : Result (Y × List ℕ) ℕ = Ok (make p.0, p.1) in u) ≡ Ok (y, r)) × LeftAt (next y) r left)
    by left (inl e) = absurd (cc)
    by left (inr s) = let parts = pair_parts p (s.0, s.1) (ok_is p (s.0, s.1) s.2) in inr (make p.0, p.1, refl, rw (← parts.0, ← parts.1) at s.3)
made-goes {X} {Y} make g next b (Err k) w = record {
  fails = λ at e. let is : (let u : Result (X × List ℕ) ℕ = Err k in u) ≡ Err at = cc in w.fails at is;
  goes = λ y r e. absurd (cc);
  back = λ left l. by left (w.back left l);
}
  where
    by : (left : ℕ) → ((let u : Result (X × List ℕ) ℕ = Err k in u) ≡ Err left) ⊎ ((x : X) × (r : List ℕ) × ((let u : Result (X × List ℕ) ℕ = Err k in u) ≡ Ok (x, r)) × LeftAt (next (make x)) r left)
        → ((let u : Result (Y × List ℕ) ℕ = Err k in u) ≡ Err left) ⊎ ((y : Y) × (r : List ℕ) × ((let u : Result (Y × List ℕ) ℕ = Err k in u) ≡ Ok (y, r)) × LeftAt (next y) r left)
    by left (inl e) = inl (cc)
    by left (inr s) = let e = s.2 in absurd (cc)

next_is : {X Y : Type 0} (f : X → List ℕ → Result (Y × List ℕ) ℕ) (o : Result (X × List ℕ) ℕ) → and_next f o ≡ (o >>= (λ p. made_of (λ y. (p.0, y)) (f p.0 p.1)))
next_is {X} {Y} f (Ok p) = by (f p.0 p.1)
  where
    by : (o : Result (Y × List ℕ) ℕ) → and_value p.0 o ≡ made_of (λ y. (p.0, y)) o
    by (Ok q) = refl
    by (Err k) = refl
next_is f (Err k) = refl

-- a field, and those after it
pub then-goes : {X Y : Type 0} (g : Grammar) (next : X → Grammar) (last : X × Y → Grammar) (first : List ℕ → Result (X × List ℕ) ℕ) (f : X → List ℕ → Result (Y × List ℕ) ℕ) (b : List ℕ) → Goes g next b (first b)
    → ((x : X) (r : List ℕ) → AreBytes r → Goes (next x) (λ y. last (x, y)) r (f x r)) → Goes g last b ((first then f) b)
then-goes {X} {Y} g next last first f b w others =
    rw (next_is f (first b)) (bind-walks (λ n. n) g next last b (first b) (λ (p : X × List ℕ). made_of (λ y. (p.0, y)) (f p.0 p.1)) w (λ x r h. made-goes (λ y. (x, y)) (next x) last r (f x r) (others x r h)))

on_is : {X : Type 0} (others : List X → List ℕ → Result (List X × List ℕ) ℕ) (before : List X) (o : Result (X × List ℕ) ℕ) → read_on others before o ≡ (o >>= (λ p. others (before ++ p.0 ∷ []) p.1))
on_is others before (Ok p) = refl
on_is others before (Err k) = refl

pub items-go : {X : Type 0} (form : List X → (X → Grammar) → Grammar) (one : List X → List ℕ → Result (X × List ℕ) ℕ) → ((before : List X) (next : X → Grammar) (b : List ℕ) → AreBytes b → Goes (form before next) next b (one before b))
    → (n : ℕ) (before : List X) (next : List X → Grammar) (b : List ℕ) → AreBytes b → Goes (times n form before next) next b (read_items one n before b)
items-go form one each zero before next b h = none-walks (λ n. n) next before b h
items-go {X} form one each (suc n) before next b h =
    rw (on_is (read_items one n) before (one before b)) (bind-walks (λ k. k) (form before (λ x. times n form (before ++ x ∷ []) next)) (λ x. times n form (before ++ x ∷ []) next) next b (one before b) (λ (p : X × List ℕ). read_items one n (before ++ p.0 ∷ []) p.1) (each before (λ x. times n form (before ++ x ∷ []) next) b h)
    (λ x r hr. items-go form one each n (before ++ x ∷ []) next r hr))

-- a count and so many values
pub list-goes : {X : Type 0} (P : ℕ → Type 0) (ok : ℕ → Bool) (form : ℕ → List X → (X → Grammar) → Grammar) (one : ℕ → List X → List ℕ → Result (X × List ℕ) ℕ) (next : List X → Grammar)
    → ((n : ℕ) → P n → IsWord n × (ok n ≡ true)) → ((n : ℕ) → IsWord n × (ok n ≡ true) → P n)
    → ((n : ℕ) (before : List X) (following : X → Grammar) (b : List ℕ) → AreBytes b → Goes (form n before following) following b (one n before b)) → (b : List ℕ) → AreBytes b → Goes (counted P form next) next b (read_list ok one b)
list-goes {X} P ok form one next into out each b h =
    made-goes (λ (p : ℕ × List X). p.1) (counted P form next) next b ((such ok read_number then (λ n. read_items (one n) n [])) b)
    (then-goes (counted P form next) (λ n. times n (form n) [] next) (λ p. next p.1) (such ok read_number) (λ n. read_items (one n) n []) b
    (field-goes P (λ n. times n (form n) [] next) (such-format ok number-format) (such-front ok read_number number-front) into out b h)
    (λ n r hr. items-go (form n) (one n) (each n) n [] next r hr))

-- ---- whole inputs

pub whole-tells : {X : Type 0} (g : Grammar) (b : List ℕ) (o : Result (X × List ℕ) ℕ) → Goes g (λ x. Over) b o → Tells g b (whole (length b) o)
whole-tells {X} g b (Err k) w = record {
  fails = λ at e. let f = w.fails k refl in (k, (let is : length b - k ≡ at = cc in sym is), rw (← f.1) at f.2);
  back = λ left l. by left (w.back left l);
}
  where
    by : (left : ℕ) → ((let u : Result (X × List ℕ) ℕ = Err k in u) ≡ Err left) ⊎ ((x : X) × (r : List ℕ) × ((let u : Result (X × List ℕ) ℕ = Err k in u) ≡ Ok (x, r)) × LeftAt Over r left)
        → (let u : Result X ℕ = Err (length b - k) in u) ≡ Err (length b - left)
    by left (inl e) = let is = left_is k left e in rw is refl
    by left (inr s) = let e = s.2 in absurd (cc)
whole-tells {X} g b (Ok p) w = record { fails = fails; back = λ left l. by left (w.back left l) }
  where
    errs : (m n : ℕ) → (let u : Result X ℕ = Err m in u) ≡ Err n → m ≡ n
    errs m n e = cc

    fails : (at : ℕ) → whole (length b) (Ok p) ≡ Err at → (left : ℕ) × (at ≡ length b - left) × LeftAt g b left
    fails at e =
        elim (cases_Bool (nat_eq (length p.1) 0)) [
          | inl t ↦ let e' = rw t at e in absurd (cc)
          | inr f ↦ (length p.1, sym (errs (length b - length p.1) at (rw f at e)), (w.goes p.0 p.1 refl).1 (length p.1) (over p.1 (grind (arith, nat_tests))))
        ]

    by : (left : ℕ) → ((let u : Result (X × List ℕ) ℕ = Ok p in u) ≡ Err left) ⊎ ((x : X) × (r : List ℕ) × ((let u : Result (X × List ℕ) ℕ = Ok p in u) ≡ Ok (x, r)) × LeftAt Over r left)
        → whole (length b) (Ok p) ≡ Err (length b - left)
    by left (inl e) = absurd (cc)
    by left (inr s) =
        let parts = pair_parts p (s.0, s.1) (ok_is p (s.0, s.1) s.2) in
        let l = not-over s.1 left s.3 in
        let some : nat_eq (length p.1) 0 ≡ false = let q = l.0 in rw (parts.1) (grind (arith, nat_tests)) in
        let same : left ≡ length p.1 = rw parts.1 l.1 in
        rw (some, same) refl
