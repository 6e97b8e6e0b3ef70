-- The bytes of times and of versions' keys, both ways.
use Rattle.std.proofs.Common.{◌≡◌, ℕ, suc, ◌-◌, ◌^◌, ◌<◌, ◌≤◌, true, false, List, [], ◌∷◌, ◌++◌, length, take, drop, Some, None, refl, sym, ap, ◌∙◌, append_assoc, arith, inl, inr, nat_lt, nat_le, length-append}
use Rattle.std.specs.Prelude.{◌==◌, ◌&&◌, slice_index, if◌then◌else◌}
use Rattle.std.proofs.lemmas.Bool.{cases_Bool}
use Rattle.std.proofs.lemmas.Bool.Decides.{nat_tests}
use Rattle.std.proofs.lemmas.List.{take_at, drop_at, take-append-drop, length-take-le, length-drop}
use Rattle.std.proofs.lemmas.Nat.{be_bytes_4, be_bytes_8, from_be_bytes-to_be_bytes_4, from_be_bytes-to_be_bytes_8}
use Rattle.mvcc_keys.specs.Times.{Time, time, IsTime}
use Rattle.mvcc_keys.specs.Codes.{bytes32, bytes64, number32, number64, time_bytes, read_time_bytes, mvcc_key, last_byte, read_wall, read_counter, read_mvcc_key, TimeBytesAreExact, MvccKeysAreExact}
use Rattle.list_laws.specs.Bytes.{AreBytes}
use Rattle.list_laws.proofs.Options.{some-parts}
use Rattle.list_laws.proofs.Bytes.{bytes-get, bytes-take, bytes-drop}

-- ---- numbers

number64-bytes64 : (n : ℕ) → n < 2 ^ 64 → number64 (bytes64 n) ≡ n
unfolding bytes64 number64
number64-bytes64 n h = from_be_bytes-to_be_bytes_8 n h

number32-bytes32 : (n : ℕ) → n < 2 ^ 32 → number32 (bytes32 n) ≡ n
unfolding bytes32 number32
number32-bytes32 n h = from_be_bytes-to_be_bytes_4 n h

length-bytes64 : (n : ℕ) → length (bytes64 n) ≡ 8
unfolding bytes64
length-bytes64 n = refl

length-bytes32 : (n : ℕ) → length (bytes32 n) ≡ 4
unfolding bytes32
length-bytes32 n = refl

-- a time has 12 bytes
pub length-time_bytes : (t : Time) → length (time_bytes t) ≡ 12
unfolding time_bytes bytes64 bytes32
length-time_bytes t = refl

bytes64-number64 : (b : List ℕ) → length b ≡ 8 → AreBytes b → bytes64 (number64 b) ≡ b
unfolding bytes64 number64
bytes64-number64 b l h = be_bytes_8 b _ l (λ i. bytes-get b i h) refl

bytes32-number32 : (b : List ℕ) → length b ≡ 4 → AreBytes b → bytes32 (number32 b) ≡ b
unfolding bytes32 number32
bytes32-number32 b l h = be_bytes_4 b _ l (λ i. bytes-get b i h) refl

number64-fits : (b : List ℕ) → AreBytes b → number64 b < 2 ^ 64
unfolding number64
number64-fits b h = omega (arith, bytes-get b 0 h, bytes-get b 1 h, bytes-get b 2 h, bytes-get b 3 h, bytes-get b 4 h, bytes-get b 5 h, bytes-get b 6 h, bytes-get b 7 h)

-- ---- what an answer holds

-- the end of some bytes, by its length
parted : (n : ℕ) (xs ys : List ℕ) → length ys ≡ n → (take (length (xs ++ ys) - n) (xs ++ ys) ≡ xs) × (drop (length (xs ++ ys) - n) (xs ++ ys) ≡ ys) × (n ≤ length (xs ++ ys))
parted n xs ys l =
    let whole = length-append xs ys in
    let place : length (xs ++ ys) - n ≡ length xs = omega arith in
    rw place (take_at xs ys (length xs) refl, drop_at xs ys (length xs) refl, omega arith)

-- ---- times

time-found : (t : Time) (r : List ℕ) → IsTime t → read_time_bytes (time_bytes t ++ r) ≡ Some (t, r)
unfolding time_bytes read_time_bytes
time-found t r h =
    let w = bytes64 t.wall in
    let l = bytes32 t.logical in
    let lw = length-bytes64 t.wall in
    let ll = length-bytes32 t.logical in
    let long : nat_lt (length (w ++ (l ++ r))) 12 ≡ false =
    let p = length-append w (l ++ r) in let q = length-append l r in grind (arith, nat_tests) in
    let low : nat_le t.logical 2147483647 ≡ true = let c = h.1 in grind (arith, nat_tests) in
    rw (append_assoc w l r, long, take_at w (l ++ r) 8 lw, drop_at w (l ++ r) 8 lw, take_at l r 4 ll, drop_at l r 4 ll, number64-bytes64 t.wall h.0, number32-bytes32 t.logical (omega (arith, h.1)), low) refl

time-only : (b : List ℕ) (t : Time) (r : List ℕ) → AreBytes b → read_time_bytes b ≡ Some (t, r) → IsTime t × (b ≡ time_bytes t ++ r)
unfolding time_bytes read_time_bytes
time-only b t r h e =
    let rest = drop 8 b in
    let wall = number64 (take 8 b) in
    let logical = number32 (take 4 rest) in
    elim (cases_Bool (nat_lt (length b) 12)) [
      | inl f ↦ let e' = rw f at e in absurd (cc)
      | inr long ↦
          elim (cases_Bool (nat_le logical 2147483647)) [
            | inr f ↦ let e' = rw (long, f) at e in absurd (cc)
            | inl low ↦
                let parts = some-parts (time wall logical) t (drop 4 rest) r (rw (long, low) at e) in
                let room : 12 ≤ length b = grind (arith, nat_tests) in
                let left = length-drop 8 b in
                let front : bytes64 wall ≡ take 8 b = bytes64-number64 (take 8 b) (length-take-le 8 b (omega arith)) (bytes-take 8 b h) in
                let middle : bytes32 logical ≡ take 4 rest = bytes32-number32 (take 4 rest) (length-take-le 4 rest (omega arith)) (bytes-take 4 rest (bytes-drop 8 b h)) in
                rw (← parts.0, ← parts.1) (
                  (number64-fits (take 8 b) (bytes-take 8 b h), grind (arith, nat_tests)),
                  rw (front, middle, append_assoc (take 8 b) (take 4 rest) (drop 4 rest), take-append-drop 4 rest) (sym (take-append-drop 8 b)),
                )
          ]
    ]

pub time_bytes-exact : TimeBytesAreExact
time_bytes-exact = record {
  found = time-found;
  only = time-only;
  apart = λ s t r q hs ht e. some-parts s t r q (sym (time-found s r hs) ∙ (ap read_time_bytes e ∙ time-found t q ht));
}

-- ---- keys of versions

wall-found : (key ws : List ℕ) (logical : ℕ) → length ws ≡ 8 → read_wall (key ++ 0 ∷ ws) logical ≡ Some (key, time (number64 ws) logical)
unfolding read_wall
wall-found key ws logical l =
    let p = parted 9 key (0 ∷ ws) (ap suc l) in
    let room : nat_lt (length (key ++ 0 ∷ ws)) 9 ≡ false = let q = p.2 in grind (arith, nat_tests) in
    rw (room, p.1, p.0) refl

counter-found : (front ls : List ℕ) → length ls ≡ 4 → 1 ≤ number32 ls → number32 ls ≤ 2147483647 → read_counter (front ++ ls) ≡ read_wall front (number32 ls)
unfolding read_counter
counter-found front ls l lo hi =
    let p = parted 4 front ls l in
    let room : nat_lt (length (front ++ ls)) 4 ≡ false = let q = p.2 in grind (arith, nat_tests) in
    let a : nat_le 1 (number32 ls) ≡ true = grind (arith, nat_tests) in
    let b : nat_le (number32 ls) 2147483647 ≡ true = grind (arith, nat_tests) in
    rw (room, p.1, p.0, a, b) refl

mark-found : (front : List ℕ) (mark : ℕ) → read_mvcc_key (front ++ mark ∷ []) ≡ (if mark == 9 then read_wall front 0 else if mark == 13 then read_counter front else None)
unfolding read_mvcc_key
mark-found front mark =
    let p = parted 1 front (mark ∷ []) refl in
    let room : nat_lt (length (front ++ mark ∷ [])) 1 ≡ false = let q = p.2 in grind (arith, nat_tests) in
    rw (room, p.1, p.0) refl

key-found : (key : List ℕ) (t : Time) → IsTime t → read_mvcc_key (mvcc_key key t) ≡ Some (key, t)
unfolding mvcc_key
key-found key t h =
    let ws = bytes64 t.wall in
    let front = key ++ 0 ∷ ws in
    let read = wall-found key ws 0 (length-bytes64 t.wall) in
    elim (cases_Bool (t.logical == 0)) [
      | inl z ↦
          let zero : t.logical ≡ 0 = grind (arith, nat_tests) in
          rw (z, ← append_assoc key (0 ∷ ws) (9 ∷ []))
          (mark-found front 9 ∙ (wall-found key ws 0 (length-bytes64 t.wall) ∙ rw (number64-bytes64 t.wall h.0, ← zero) refl))
      | inr f ↦
          let ls = bytes32 t.logical in
          let some : 1 ≤ t.logical = grind (arith, nat_tests) in
          let value = number32-bytes32 t.logical (omega (arith, h.1)) in
          rw (f, ← append_assoc ws ls (13 ∷ []), ← append_assoc key (0 ∷ (ws ++ ls)) (13 ∷ []), ← append_assoc key (0 ∷ ws) ls)
          (mark-found (front ++ ls) 13 ∙ (counter-found front ls (length-bytes32 t.logical) (rw value some) (rw value h.1) ∙ rw value (wall-found key ws t.logical (length-bytes64 t.wall) ∙ rw (number64-bytes64 t.wall h.0) refl)))
    ]

-- a first byte and the others
first_byte : (b : List ℕ) → 1 ≤ length b → b ≡ slice_index b 0 ∷ drop 1 b
first_byte [] h = absurd (omega arith)
first_byte (x ∷ b) h = refl

wall-only : (b key : List ℕ) (logical : ℕ) (t : Time) → AreBytes b → read_wall b logical ≡ Some (key, t) → (t.wall < 2 ^ 64) × (t.logical ≡ logical) × (b ≡ key ++ 0 ∷ bytes64 t.wall)
unfolding read_wall
wall-only b key logical t h e =
    let n = length b - 9 in
    let date = drop n b in
    let ws = drop 1 date in
    elim (cases_Bool (nat_lt (length b) 9)) [
      | inl f ↦ let e' = rw f at e in absurd (cc)
      | inr long ↦
          elim (cases_Bool (slice_index date 0 == 0)) [
            | inr f ↦ let e' = rw (long, f) at e in absurd (cc)
            | inl z ↦
                let parts = some-parts (take n b) key (time (number64 ws) logical) t (rw (long, z) at e) in
                let room : 9 ≤ length b = grind (arith, nat_tests) in
                let len : length date ≡ 9 = omega (arith, length-drop n b) in
                let fits = bytes-drop 1 date (bytes-drop n b h) in
                let back : bytes64 (number64 ws) ≡ ws = bytes64-number64 ws (omega (arith, length-drop 1 date)) fits in
                let zero : slice_index date 0 ≡ 0 = grind (arith, nat_tests) in
                let whole : date ≡ 0 ∷ ws = first_byte date (omega arith) ∙ ap (λ x. x ∷ ws) zero in
                rw (← parts.0, ← parts.1) (number64-fits ws fits, refl, rw (back, ← whole) (sym (take-append-drop n b)))
          ]
    ]

counter-only : (b key : List ℕ) (t : Time) → AreBytes b → read_counter b ≡ Some (key, t) → IsTime t × (1 ≤ t.logical) × (b ≡ key ++ 0 ∷ (bytes64 t.wall ++ bytes32 t.logical))
unfolding read_counter
counter-only b key t h e =
    let n = length b - 4 in
    let ls = drop n b in
    let got = number32 ls in
    elim (cases_Bool (nat_lt (length b) 4)) [
      | inl f ↦ let e' = rw f at e in absurd (cc)
      | inr long ↦
          elim (cases_Bool (nat_le 1 got && nat_le got 2147483647)) [
            | inr f ↦ let e' = rw (long, f) at e in absurd (cc)
            | inl good ↦
                let read = wall-only (take n b) key got t (bytes-take n b h) (rw (long, good) at e) in
                let room : 4 ≤ length b = grind (arith, nat_tests) in
                let back : bytes32 got ≡ ls = bytes32-number32 ls (omega (arith, length-drop n b)) (bytes-drop n b h) in
                let is = read.1 in
                let lo : 1 ≤ t.logical = grind (arith, nat_tests) in
                let hi : t.logical ≤ 2147483647 = grind (arith, nat_tests) in
                ((read.0, hi), lo, rw (read.1, back, ← append_assoc key (0 ∷ bytes64 t.wall) ls, ← read.2) (sym (take-append-drop n b)))
          ]
    ]

one_byte : (b : List ℕ) → length b ≡ 1 → b ≡ slice_index b 0 ∷ []
one_byte [] h = absurd (omega arith)
one_byte (x ∷ []) h = refl
one_byte (x ∷ y ∷ b) h = absurd (omega arith)

last-is : (b : List ℕ) (x : ℕ) → 1 ≤ length b → last_byte b == x ≡ true → b ≡ take (length b - 1) b ++ x ∷ []
last-is b x h e =
    let n = length b - 1 in
    let is : last_byte b ≡ x = grind (arith, nat_tests) in
    let tail : drop n b ≡ x ∷ [] = one_byte (drop n b) (omega (arith, length-drop n b)) ∙ ap (λ y. y ∷ []) is in
    sym (take-append-drop n b) ∙ ap (λ t. take n b ++ t) tail

uncounted : (b front key : List ℕ) (t : Time) → b ≡ front ++ 9 ∷ [] → front ≡ key ++ 0 ∷ bytes64 t.wall → t.logical ≡ 0 → b ≡ mvcc_key key t
unfolding mvcc_key
uncounted b front key t eb ef z = rw (eb, ef, z) (append_assoc key (0 ∷ bytes64 t.wall) (9 ∷ []))

counted : (b front key : List ℕ) (t : Time) → b ≡ front ++ 13 ∷ [] → front ≡ key ++ 0 ∷ (bytes64 t.wall ++ bytes32 t.logical) → 1 ≤ t.logical → b ≡ mvcc_key key t
unfolding mvcc_key
counted b front key t eb ef some =
    let f : t.logical == 0 ≡ false = grind (arith, nat_tests) in
    rw (eb, ef, f, append_assoc key (0 ∷ (bytes64 t.wall ++ bytes32 t.logical)) (13 ∷ []), append_assoc (bytes64 t.wall) (bytes32 t.logical) (13 ∷ [])) refl

key-only : (b key : List ℕ) (t : Time) → AreBytes b → read_mvcc_key b ≡ Some (key, t) → IsTime t × (b ≡ mvcc_key key t)
unfolding read_mvcc_key
key-only b key t h e =
    let n = length b - 1 in
    let front = take n b in
    elim (cases_Bool (nat_lt (length b) 1)) [
      | inl f ↦ let e' = rw f at e in absurd (cc)
      | inr long ↦
          let room : 1 ≤ length b = grind (arith, nat_tests) in
          elim (cases_Bool (last_byte b == 9)) [
            | inl nine ↦
                let read = wall-only front key 0 t (bytes-take n b h) (rw (long, nine) at e) in
                ((read.0, omega (arith, read.1)), uncounted b front key t (last-is b 9 room nine) read.2 read.1)
            | inr other ↦
                elim (cases_Bool (last_byte b == 13)) [
                  | inr f ↦ let e' = rw (long, other, f) at e in absurd (cc)
                  | inl mark ↦
                      let read = counter-only front key t (bytes-take n b h) (rw (long, other, mark) at e) in
                      (read.0, counted b front key t (last-is b 13 room mark) read.2 read.1)
                ]
          ]
    ]

pub mvcc_keys-exact : MvccKeysAreExact
mvcc_keys-exact = record {
  found = key-found;
  only = key-only;
  apart = λ j k s t hs ht e. some-parts j k s t (sym (key-found j s hs) ∙ (ap read_mvcc_key e ∙ key-found k t ht));
}
