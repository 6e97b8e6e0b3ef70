-- The fields of an object's name, each both ways.
use Rattle.std.proofs.Common.{◌≡◌, ℕ, zero, suc, ◌+◌, ◌-◌, ◌*◌, ◌/◌, ◌%◌, ◌^◌, ◌<◌, ◌≤◌, ◌==◌, Bool, true, false, ◌&&◌, List, [], ◌∷◌, ◌++◌, length, slice_index, drop, Some, Result, Ok, Err, refl, sym, ap, subst, ◌∙◌, arith, inl, inr, nat_lt, nat_le, length-append, append-nil}
use Rattle.std.specs.Prelude.{if◌then◌else◌, codes, option_map}
use Rattle.std.specs.List.{list_all, take_while}
use Rattle.std.specs.Result.{result_ok, result_unwrap_or}
use Rattle.std.specs.Str.{bytes_eq}
use Rattle.std.specs.Fmt.{decimal}
use Rattle.std.proofs.Math.Seq.{drop-append_seam}
use Rattle.std.proofs.lemmas.Bool.{and_parts, cases_Bool, cases_eq, eqb-true}
use Rattle.std.proofs.lemmas.Bool.Decides.{nat_tests}
use Rattle.std.proofs.lemmas.Fmt.{decimal_digit}
use Rattle.std.proofs.lemmas.List.Sums.{take_while-cons}
use Rattle.std.proofs.lemmas.Nat.{be_bytes_4, from_be_bytes-to_be_bytes_4}
use Rattle.std.proofs.lemmas.Slice.Eq.{bytes_eq-Decides}
use Rattle.hex.specs.Hex.{IsBytes, decode_of, decode_pairs, decode_sized, encode_with, encode_lower, hex_digit_value, lower_digits, pair_value}
use Rattle.hex.specs.declared.error.FromHexError.{FromHexError}
use Rattle.hex.proofs.HexLemmas.{decode_of-even, decode_of-ok, decode_sized-encode_lower, decode_sized-ok, decode_sized-twice}
use Rattle.hex.proofs.Pairs.{cons_byte, decode_pairs-ok_pair}
use Rattle.mvcc_keys.specs.Codes.{bytes32, bytes64, number32, read_time_bytes, time_bytes}
use Rattle.list_laws.specs.Bytes.{AreBytes}
use Rattle.mvcc_keys.specs.TimeTexts.{are_digits, is_digit}
use Rattle.mvcc_keys.specs.Times.{Time, IsTime}
use Rattle.mvcc_keys.proofs.CodeLaws.{length-time_bytes, time_bytes-exact}
use Rattle.table_descriptors.specs.Names.{is_name, is_name_text, is_name_byte}
use Rattle.layer_model.specs.declared.names.Part.{Part}
use Rattle.layer_model.specs.declared.names.Part.TheVariants.{Gate, Manifest, Chunk, Mark}
use Rattle.layer_model.specs.Names.{IsNumbered, digit_value, is_lower_digit, is_no_point, job_digits, last_digit, part_text, read_hex, read_job, read_numbered, read_part, read_six, read_time, read_word, six_digits, time_digits}
use Rattle.list_laws.proofs.Options.{bind-some, map-some, cond-some, some-parts}
use Rattle.list_laws.proofs.Bytes.{bytes-get}
use Rattle.list_laws.proofs.Places.{none-left}

-- ---- what an answer holds

-- ---- words

take_while-word : (w r : List ℕ) → list_all is_no_point w ≡ true → take_while is_no_point (w ++ 46 ∷ r) ≡ w
take_while-word [] r h = take_while-cons is_no_point 46 r
take_while-word (x ∷ w) r h =
    let parts : (is_no_point x ≡ true) × (list_all is_no_point w ≡ true) = grind (arith, nat_tests) in
    rw (take_while-cons is_no_point x (w ++ 46 ∷ r), parts.0, take_while-word w r parts.1) refl

pub word-found : (w r : List ℕ) → list_all is_no_point w ≡ true → read_word (w ++ 46 ∷ r) ≡ Some (w, r)
unfolding read_word
word-found w r h =
    let room : nat_lt (length w) (length (w ++ 46 ∷ r)) ≡ true = let l = length-append w (46 ∷ r) in grind (arith, nat_tests) in
    rw (take_while-word w r h, room, drop-append_seam w (46 ∷ r)) refl

word_split : (b : List ℕ) → length (take_while is_no_point b) < length b → b ≡ take_while is_no_point b ++ 46 ∷ drop 1 (drop (length (take_while is_no_point b)) b)
word_split [] h = absurd (omega arith)
word_split (x ∷ b) h = elim (cases_Bool (is_no_point x)) [
  | inl holds ↦
      let e : take_while is_no_point (x ∷ b) ≡ x ∷ take_while is_no_point b = rw (take_while-cons is_no_point x b, holds) refl in
      let less : length (take_while is_no_point b) < length b = omega (arith, ap length e) in
      rw e (ap (λ (t : List ℕ). x ∷ t) (word_split b less))
  | inr fails ↦
      let e : take_while is_no_point (x ∷ b) ≡ [] = rw (take_while-cons is_no_point x b, fails) refl in
      let is : x ≡ 46 = grind (arith, nat_tests) in
      rw (e, is) refl
]

pub word-only : (b w r : List ℕ) → read_word b ≡ Some (w, r) → b ≡ w ++ 46 ∷ r
unfolding read_word
word-only b w r e =
    let front = take_while is_no_point b in
    let t = cond-some (nat_lt (length front) (length b)) (Some (front, drop 1 (drop (length front) b))) (w, r) e in
    let parts = some-parts front w (drop 1 (drop (length front) b)) r t.1 in
    let less : length front < length b = let l = t.0 in grind (arith, nat_tests) in
    rw (← parts.0, ← parts.1) (word_split b less)

-- ---- names have no point

name_bytes : (bs : List ℕ) → list_all is_name_byte bs ≡ true → list_all is_no_point bs ≡ true
name_bytes [] h = refl
name_bytes (b ∷ bs) h =
    let parts : (is_name_byte b ≡ true) × (list_all is_name_byte bs ≡ true) = grind (arith, nat_tests) in
    let one : is_no_point b ≡ true = let p = parts.0 in grind (arith, nat_tests) in
    rw (one, name_bytes bs parts.1) refl

name_text_bytes : (bs : List ℕ) → is_name_text bs ≡ true → list_all is_name_byte bs ≡ true
name_text_bytes [] h = refl
name_text_bytes (b ∷ bs) h = grind (arith, nat_tests)

pub name_has_no_point : (bs : List ℕ) → is_name bs ≡ true → list_all is_no_point bs ≡ true
unfolding is_name
name_has_no_point bs h = name_bytes bs (name_text_bytes bs (grind (arith, nat_tests)))

-- ---- hexadecimal digits

-- a test of each number below one
abbrev all_below : (ℕ → Bool) → ℕ → Bool
all_below p zero = true
all_below p (suc n) = p n && all_below p n

all_below-at : (p : ℕ → Bool) (n k : ℕ) → all_below p n ≡ true → k < n → p k ≡ true
all_below-at p zero k h lt = absurd (omega arith)
all_below-at p (suc n) k h lt =
    let parts = and_parts (p n) (all_below p n) h in
    elim (cases_eq k n) [
      | inl top ↦ rw top parts.0
      | inr other ↦ all_below-at p n k parts.1 (omega (arith, lt, other))
    ]

digit_is_lower : (d : ℕ) → d < 16 → is_lower_digit (slice_index lower_digits d) ≡ true
digit_is_lower d h = all_below-at (λ k. is_lower_digit (slice_index lower_digits k)) 16 d refl h

pub record IsLowerDigit (c : ℕ) : Type 0 where
  pub value : ℕ
  pub small : value < 16
  pub reads : hex_digit_value c ≡ Some value
  pub is : slice_index lower_digits value ≡ c

-- a lower-case digit of this value is where the table has it
abbrev digit_stands : ℕ → Bool
digit_stands v = slice_index lower_digits v == (if nat_lt v 10 then 48 + v else 87 + v)

stands : (v : ℕ) → v < 16 → slice_index lower_digits v ≡ (if nat_lt v 10 then 48 + v else 87 + v)
stands v h = eqb-true (slice_index lower_digits v) (if nat_lt v 10 then 48 + v else 87 + v) (all_below-at digit_stands 16 v refl h)

lower_is : (c : ℕ) → is_lower_digit c ≡ true → IsLowerDigit c
lower_is c h = elim (cases_Bool (nat_le c 57)) [
  | inl low ↦
      let v = c - 48 in
      let bounds : (48 ≤ c) × (c ≤ 57) = grind (arith, nat_tests) in
      let few : nat_lt v 10 ≡ true = grind (arith, nat_tests) in
      let back : 48 + v ≡ c = omega (arith, bounds) in
      record { value = v; small = omega (arith, bounds); reads = grind (arith, nat_tests); is = stands v (omega (arith, bounds)) ∙ rw few back }
  | inr high ↦
      let v = c - 87 in
      let bounds : (97 ≤ c) × (c ≤ 102) = grind (arith, nat_tests) in
      let few : nat_lt v 10 ≡ false = grind (arith, nat_tests) in
      let back : 87 + v ≡ c = omega (arith, bounds) in
      record { value = v; small = omega (arith, bounds); reads = grind (arith, nat_tests); is = stands v (omega (arith, bounds)) ∙ rw few back }
]

lower_encoded : (xs : List ℕ) → IsBytes xs → list_all is_lower_digit (encode_lower xs) ≡ true
unfolding encode_with
lower_encoded [] h = refl
lower_encoded (b ∷ xs) h =
    let fits : b < 256 = h 0 in
    rw (digit_is_lower (b / 16) (omega arith), digit_is_lower (b % 16) (omega arith), lower_encoded xs (λ i. h (suc i))) refl

lower_no_point : (bs : List ℕ) → list_all is_lower_digit bs ≡ true → list_all is_no_point bs ≡ true
lower_no_point [] h = refl
lower_no_point (b ∷ bs) h =
    let parts = and_parts (is_lower_digit b) (list_all is_lower_digit bs) h in
    let one : is_no_point b ≡ true = let p = parts.0 in grind (arith, nat_tests) in
    rw (one, lower_no_point bs parts.1) refl

hex_has_no_point : (xs : List ℕ) → IsBytes xs → list_all is_no_point (encode_lower xs) ≡ true
hex_has_no_point xs h = lower_no_point (encode_lower xs) (lower_encoded xs h)

hex-found : (n : ℕ) (xs : List ℕ) → length xs ≡ n → IsBytes xs → read_hex n (encode_lower xs) ≡ Some xs
unfolding read_hex
hex-found n xs l h = rw (lower_encoded xs h, decode_sized-encode_lower xs n l h) refl

-- a pair of lower-case digits reads as the byte that is written so
pub record IsPair (i a b : ℕ) : Type 0 where
  pub byte : ℕ
  pub reads : pair_value a b i ≡ Ok byte
  pub high : slice_index lower_digits (byte / 16) ≡ a
  pub low : slice_index lower_digits (byte % 16) ≡ b

pair_is : (i a b : ℕ) → IsLowerDigit a → IsLowerDigit b → IsPair i a b
pair_is i a b da db =
    let v = da.value in
    let w = db.value in
    let over : (v * 16 + w) / 16 ≡ v = omega (arith, db.small) in
    let rest : (v * 16 + w) % 16 ≡ w = omega (arith, db.small) in
    record { byte = v * 16 + w; reads = rw (da.reads, db.reads) refl; high = rw over da.is; low = rw rest db.is }

consed : (v : ℕ) (r : Result (List ℕ) FromHexError) (xs : List ℕ) → cons_byte v r ≡ Ok xs → (ys : List ℕ) × (r ≡ Ok ys) × (xs ≡ v ∷ ys)
consed v (Ok ys) xs e = (ys, refl, sym (ap (λ (r : Result (List ℕ) FromHexError). result_unwrap_or r []) e))
consed v (Err f) xs e = cc e

lower_decoded : (i : ℕ) (s xs : List ℕ) → list_all is_lower_digit s ≡ true → decode_pairs i s ≡ Ok xs → s ≡ encode_lower xs
unfolding decode_pairs encode_with
lower_decoded i [] xs h e =
    let none : [] ≡ xs = ap (λ (r : Result (List ℕ) FromHexError). result_unwrap_or r []) e in
    rw (← none) refl
lower_decoded i (a ∷ []) xs h e = cc e
lower_decoded i (a ∷ b ∷ s) xs h e =
    let first = and_parts (is_lower_digit a) (list_all is_lower_digit (b ∷ s)) h in
    let second = and_parts (is_lower_digit b) (list_all is_lower_digit s) first.1 in
    let pair = pair_is i a b (lower_is a first.0) (lower_is b second.0) in
    let more = consed pair.byte (decode_pairs (i + 2) s) xs (sym (decode_pairs-ok_pair i a b pair.byte s pair.reads) ∙ e) in
    let rest = lower_decoded (i + 2) s more.0 second.1 more.1 in
    rw (more.2, pair.high, pair.low, ← rest) refl

pub record IsHexOf (n : ℕ) (digits xs : List ℕ) : Type 0 where
  pub is : digits ≡ encode_lower xs
  pub long : length xs ≡ n
  pub bytes : IsBytes xs

ok_read : (r : Result (List ℕ) FromHexError) (xs : List ℕ) → result_ok r ≡ Some xs → r ≡ Ok xs
ok_read (Ok ys) xs e = let same : ys ≡ xs = cc in ap Ok same
ok_read (Err f) xs e = absurd cc

hex-only : (n : ℕ) (digits xs : List ℕ) → read_hex n digits ≡ Some xs → IsHexOf n digits xs
unfolding read_hex
hex-only n digits xs e =
    let t = cond-some (list_all is_lower_digit digits) (result_ok (decode_sized digits n)) xs e in
    let sized = ok_read (decode_sized digits n) xs t.1 in
    let long = decode_sized-ok digits n xs sized in
    let whole : decode_of digits ≡ Ok xs = sym (decode_sized-twice digits n long) ∙ sized in
    let ok = decode_of-ok digits xs whole in
    record { is = lower_decoded 0 digits xs t.0 (sym (decode_of-even digits ok.0) ∙ whole); long = omega (arith, long, ok.2); bytes = ok.3 }

-- ---- times and jobs

bytes_by_index : (b : List ℕ) → IsBytes b → AreBytes b
bytes_by_index [] h = tt
bytes_by_index (x ∷ b) h = (h 0, bytes_by_index b (λ i. h (suc i)))

time_bytes-bytes : (t : Time) → AreBytes (time_bytes t)
unfolding time_bytes bytes64 bytes32
time_bytes-bytes t =
    let b : (n : ℕ) → n % 256 < 256 = λ n. omega arith in
    (b _, (b _, (b _, (b _, (b _, (b _, (b _, (b _, (b _, (b _, (b _, (b _, tt))))))))))))

bytes32-bytes : (n : ℕ) → AreBytes (bytes32 n)
unfolding bytes32
bytes32-bytes n =
    let b : (n : ℕ) → n % 256 < 256 = λ n. omega arith in
    (b _, (b _, (b _, (b _, tt))))

pub time_has_no_point : (t : Time) → list_all is_no_point (time_digits t) ≡ true
time_has_no_point t = hex_has_no_point (time_bytes t) (λ i. bytes-get (time_bytes t) i (time_bytes-bytes t))

pub job_has_no_point : (n : ℕ) → list_all is_no_point (job_digits n) ≡ true
job_has_no_point n = hex_has_no_point (bytes32 n) (λ i. bytes-get (bytes32 n) i (bytes32-bytes n))

pub time-found : (t : Time) → IsTime t → read_time (time_digits t) ≡ Some t
unfolding read_time
time-found t h =
    let bytes = time_bytes-exact.found t [] h in
    rw (hex-found 12 (time_bytes t) (length-time_bytes t) (λ i. bytes-get (time_bytes t) i (time_bytes-bytes t)), ← append-nil (time_bytes t)) (rw bytes refl)

pub time-only : (digits : List ℕ) (t : Time) → read_time digits ≡ Some t → IsTime t × (digits ≡ time_digits t)
unfolding read_time
time-only digits t e =
    let hex = bind-some (read_hex 12 digits) (λ bytes. option_map (λ p. p.0) (read_time_bytes bytes)) t e in
    let is = hex-only 12 digits hex.0 hex.1 in
    let read = map-some (read_time_bytes hex.0) (λ (p : Time × List ℕ). p.0) t hex.2 in
    let only = time_bytes-exact.only hex.0 read.0.0 read.0.1 (bytes_by_index hex.0 is.bytes) read.1 in
    let rest : read.0.1 ≡ [] = none-left read.0.1 (omega (arith, is.long, ap length only.1, length-append (time_bytes read.0.0) read.0.1, length-time_bytes read.0.0)) in
    let bytes : hex.0 ≡ time_bytes read.0.0 = only.1 ∙ rw rest (append-nil (time_bytes read.0.0)) in
    rw (← read.2) (only.0, is.is ∙ ap encode_lower bytes)

pub job-found : (n : ℕ) → n < 2 ^ 32 → read_job (job_digits n) ≡ Some n
unfolding read_job number32 bytes32
job-found n h = rw (hex-found 4 (bytes32 n) refl (λ i. bytes-get (bytes32 n) i (bytes32-bytes n))) (ap Some (from_be_bytes-to_be_bytes_4 n h))

number32-fits : (b : List ℕ) → IsBytes b → number32 b < 2 ^ 32
unfolding number32
number32-fits b h = omega (arith, h 0, h 1, h 2, h 3)

bytes32-number32 : (b : List ℕ) → length b ≡ 4 → IsBytes b → bytes32 (number32 b) ≡ b
unfolding bytes32 number32
bytes32-number32 b l h = be_bytes_4 b _ l h refl

pub job-only : (digits : List ℕ) (n : ℕ) → read_job digits ≡ Some n → (n < 2 ^ 32) × (digits ≡ job_digits n)
unfolding read_job
job-only digits n e =
    let read = map-some (read_hex 4 digits) number32 n e in
    let is = hex-only 4 digits read.0 read.1 in
    rw (← read.2) (number32-fits read.0 is.bytes, is.is ∙ ap encode_lower (sym (bytes32-number32 read.0 is.long is.bytes)))

-- ---- six decimal digits

-- six decimal digits, each written as a number
pub six_decimals : (letter : List ℕ) (n : ℕ) (text : List ℕ) → text ≡ letter ++ (decimal (n / 100000 % 10) ++ (decimal (n / 10000 % 10) ++ (decimal (n / 1000 % 10) ++ (decimal (n / 100 % 10) ++ (decimal (n / 10 % 10) ++ decimal (n % 10)))))) → text ≡ letter ++ six_digits n
unfolding six_digits
six_decimals letter n text e = e ∙ rw (decimal_digit (n / 100000 % 10) (omega arith), decimal_digit (n / 10000 % 10) (omega arith), decimal_digit (n / 1000 % 10) (omega arith), decimal_digit (n / 100 % 10) (omega arith), decimal_digit (n / 10 % 10) (omega arith), decimal_digit (n % 10) (omega arith)) refl

-- the value of six digits
abbrev pub six_value : List ℕ → ℕ
six_value ds = 100000 * digit_value (slice_index ds 0) + 10000 * digit_value (slice_index ds 1) + 1000 * digit_value (slice_index ds 2) + 100 * digit_value (slice_index ds 3) + 10 * digit_value (slice_index ds 4) + digit_value (slice_index ds 5)

six_read : (ds : List ℕ) → length ds == 6 ≡ true → are_digits ds ≡ true → read_six ds ≡ Some (six_value ds)
unfolding read_six
six_read ds l p = rw (l, p) refl

six_are_digits : (n : ℕ) → are_digits (six_digits n) ≡ true
unfolding six_digits
six_are_digits n =
    let d : (k : ℕ) → is_digit (last_digit k) ≡ true = λ k. grind (arith, nat_tests) in
    let d0 = d (n / 100000) in let d1 = d (n / 10000) in let d2 = d (n / 1000) in
    let d3 = d (n / 100) in let d4 = d (n / 10) in let d5 = d n in
    grind (arith, nat_tests)

pub six-found : (n : ℕ) → n < 1000000 → read_six (six_digits n) ≡ Some n
unfolding six_digits
six-found n h =
    let same : six_value (six_digits n) ≡ n = omega (arith, h) in
    six_read (six_digits n) refl (six_are_digits n) ∙ ap Some same

six_numbers : (a b c d x y n : ℕ) → are_digits (a ∷ b ∷ c ∷ d ∷ x ∷ y ∷ []) ≡ true → six_value (a ∷ b ∷ c ∷ d ∷ x ∷ y ∷ []) ≡ n → (n < 1000000) × (a ∷ b ∷ c ∷ d ∷ x ∷ y ∷ [] ≡ six_digits n)
unfolding six_digits
six_numbers a b c d x y n p e =
    let r : (48 ≤ a) × (a ≤ 57) × (48 ≤ b) × (b ≤ 57) × (48 ≤ c) × (c ≤ 57) × (48 ≤ d) × (d ≤ 57) × (48 ≤ x) × (x ≤ 57) × (48 ≤ y) × (y ≤ 57) = grind (arith, nat_tests) in
    let ea : last_digit (n / 100000) ≡ a = omega (arith, r, e) in
    let eb : last_digit (n / 10000) ≡ b = omega (arith, r, e) in
    let ec : last_digit (n / 1000) ≡ c = omega (arith, r, e) in
    let ed : last_digit (n / 100) ≡ d = omega (arith, r, e) in
    let ex : last_digit (n / 10) ≡ x = omega (arith, r, e) in
    let ey : last_digit n ≡ y = omega (arith, r, e) in
    (omega (arith, r, e), rw (ea, eb, ec, ed, ex, ey) refl)

-- a first one and the others
parted : (n : ℕ) (xs : List ℕ) → length xs ≡ suc n → (x : ℕ) × (rest : List ℕ) × (xs ≡ x ∷ rest) × (length rest ≡ n)
parted n [] l = absurd (omega arith)
parted n (x ∷ xs) l = (x, xs, refl, omega (arith, l))

longer : {xs rest tail : List ℕ} {x : ℕ} → xs ≡ x ∷ rest → rest ≡ tail → xs ≡ x ∷ tail
longer {x = x} is same = is ∙ ap (λ (t : List ℕ). x ∷ t) same

six_of : (ds : List ℕ) (n : ℕ) → length ds ≡ 6 → are_digits ds ≡ true → six_value ds ≡ n → (n < 1000000) × (ds ≡ six_digits n)
six_of ds n l p e =
    let a = parted 5 ds l in
    let b = parted 4 a.1 a.3 in
    let c = parted 3 b.1 b.3 in
    let d = parted 2 c.1 c.3 in
    let x = parted 1 d.1 d.3 in
    let y = parted 0 x.1 x.3 in
    let is = longer a.2 (longer b.2 (longer c.2 (longer d.2 (longer x.2 (longer y.2 (none-left y.1 y.3)))))) in
    let found = six_numbers a.0 b.0 c.0 d.0 x.0 y.0 n (subst (λ k. are_digits k ≡ true) is p) (subst (λ k. six_value k ≡ n) is e) in
    (found.0, is ∙ found.1)

pub six-only : (ds : List ℕ) (n : ℕ) → read_six ds ≡ Some n → (n < 1000000) × (ds ≡ six_digits n)
unfolding read_six
six-only ds n e =
    let t = cond-some (length ds == 6 && are_digits ds) (Some (six_value ds)) n e in
    let tests = and_parts (length ds == 6) (are_digits ds) t.0 in
    let same : six_value ds ≡ n = let v = t.1 in cc in
    six_of ds n (eqb-true (length ds) 6 tests.0) tests.1 same

-- ---- parts

mark_no_manifest : (n : ℕ) → bytes_eq (part_text (Mark n)) (codes "manifest") ≡ false
unfolding part_text six_digits
mark_no_manifest n = elim (cases_Bool (bytes_eq (part_text (Mark n)) (codes "manifest"))) [
  | inl same ↦
      let second : last_digit (n / 100000) ≡ 97 = ap (λ (l : List ℕ). slice_index l 1) ((bytes_eq-Decides (part_text (Mark n)) (codes "manifest")).0 same) in
      absurd (omega (arith, second))
  | inr other ↦ other
]

pub part-found : (part : Part) → IsNumbered part → read_part (part_text part) ≡ Some part
unfolding read_part part_text
part-found Gate h = refl
part-found Manifest h = refl
part-found (Chunk n) h = rw (six-found n h) refl
part-found (Mark n) h = rw (mark_no_manifest n, six-found n h) refl

chunk_is : (b n : ℕ) (ds : List ℕ) (part : Part) → b ≡ 99 → n < 1000000 → ds ≡ six_digits n → Chunk n ≡ part → IsNumbered part × (b ∷ ds ≡ part_text part)
unfolding part_text
chunk_is b n ds part is fits digits chunk = rw (← chunk, is, digits) (fits, refl)

mark_is : (b n : ℕ) (ds : List ℕ) (part : Part) → b ≡ 109 → n < 1000000 → ds ≡ six_digits n → Mark n ≡ part → IsNumbered part × (b ∷ ds ≡ part_text part)
unfolding part_text
mark_is b n ds part is fits digits mark = rw (← mark, is, digits) (fits, refl)

numbered-only : (text : List ℕ) (part : Part) → read_numbered text ≡ Some part → IsNumbered part × (text ≡ part_text part)
unfolding part_text
numbered-only [] part e = absurd cc
numbered-only (b ∷ ds) part e = elim (cases_Bool (b == 99)) [
  | inl chunk ↦
      let read = map-some (read_six ds) Chunk part (rw chunk at e) in
      let six = six-only ds read.0 read.1 in
      chunk_is b read.0 ds part (eqb-true b 99 chunk) six.0 six.1 read.2
  | inr other ↦ elim (cases_Bool (b == 109)) [
    | inl mark ↦
        let read = map-some (read_six ds) Mark part (rw (other, mark) at e) in
        let six = six-only ds read.0 read.1 in
        mark_is b read.0 ds part (eqb-true b 109 mark) six.0 six.1 read.2
    | inr none ↦ let never = rw (other, none) at e in absurd (cc)
  ]
]

gate-text : part_text Gate ≡ codes "gate"
unfolding part_text
gate-text = refl

manifest-text : part_text Manifest ≡ codes "manifest"
unfolding part_text
manifest-text = refl

pub part-only : (text : List ℕ) (part : Part) → read_part text ≡ Some part → IsNumbered part × (text ≡ part_text part)
unfolding read_part
part-only text part e = elim (cases_Bool (bytes_eq text (codes "gate"))) [
  | inl gate ↦
      let h = rw gate at e in
      let is : Gate ≡ part = cc in
      rw (← is) (tt, (bytes_eq-Decides text (codes "gate")).0 gate ∙ sym gate-text)
  | inr other ↦ elim (cases_Bool (bytes_eq text (codes "manifest"))) [
    | inl manifest ↦
        let h = rw (other, manifest) at e in
        let is : Manifest ≡ part = cc in
        rw (← is) (tt, (bytes_eq-Decides text (codes "manifest")).0 manifest ∙ sym manifest-text)
    | inr neither ↦ numbered-only text part (rw (other, neither) at e)
  ]
]
