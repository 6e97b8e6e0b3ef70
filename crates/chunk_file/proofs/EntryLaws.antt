-- Entries are read as they are written.
use Rattle.std.proofs.Common.{◌≡◌, ℕ, zero, suc, ◌+◌, ◌<◌, ◌≤◌, ◌^◌, false, List, [], ◌∷◌, ◌++◌, length, nat_eq, Option, Some, None, inl, inr, arith, refl, sym, ap, ◌∙◌, append_assoc, length-append}
use Rattle.std.specs.Prelude.{◌==◌}
use Rattle.std.specs.Option.{option_map}
use Rattle.std.specs.List.{AllByRecursion}
use Rattle.std.proofs.lemmas.Bool.{cases_Bool}
use Rattle.std.proofs.lemmas.Bool.Decides.{nat_tests}
use Rattle.list_laws.specs.Bytes.{AreBytes}
use Rattle.mvcc_keys.specs.Times.{Time, IsTime}
use Rattle.mvcc_keys.specs.Codes.{bytes64, bytes32, counter_bytes, mvcc_key, read_mvcc_key}
use Rattle.mvcc_keys.specs.declared.entries.Entry.{Entry}
use Rattle.mvcc_keys.proofs.CodeLaws.{mvcc_keys-exact}
use Rattle.row_codec.specs.RowValues.{sized, read_sized}
use Rattle.row_codec.proofs.KeyLaws.{pair_parts, some_is}
use Rattle.row_codec.proofs.ValueLaws.{sized-found, sized-only}
use Rattle.chunk_file.specs.Entries.{IsStored, dated, entries_code, entry_code, listed, read_dated, read_del, read_entry, read_put, read_range}
use Rattle.list_laws.specs.Options.{◌>>=◌}
use Rattle.list_laws.proofs.Bytes.{bytes-after}
use Rattle.list_laws.proofs.Options.{bind-some}

-- how long a version's key is
counter-none : (n : ℕ) → n ≡ 0 → length (counter_bytes n) ≡ 1
counter-none n e = rw e refl

counter-some : (n : ℕ) → (n ≡ 0 → ⊥) → length (counter_bytes n) ≡ 5
unfolding bytes32
counter-some n e = let f : (n == 0) ≡ false = grind (arith, nat_tests) in rw f refl

pub mvcc-length : (key : List ℕ) (at : Time) (n : ℕ) → length (counter_bytes at.logical) ≡ n → length key + (9 + n) ≡ length (mvcc_key key at)
unfolding mvcc_key bytes64
mvcc-length key at n e = let l = length-append key (0 ∷ (bytes64 at.wall ++ counter_bytes at.logical)) in omega (arith, l, e)

pub length-uncounted : (key : List ℕ) (at : Time) → at.logical ≡ 0 → length key + 10 ≡ length (mvcc_key key at)
length-uncounted key at e = mvcc-length key at 1 (counter-none at.logical e)

pub length-counted : (key : List ℕ) (at : Time) → (at.logical ≡ 0 → ⊥) → length key + 14 ≡ length (mvcc_key key at)
length-counted key at e = mvcc-length key at 5 (counter-some at.logical e)

-- ---- keys with dates

beside-some : {Y : Type 0} (o : Option Y) (r rest : List ℕ) (y : Y) → option_map {U = Y × List ℕ} (λ d. (d, r)) o ≡ Some (y, rest) → (o ≡ Some y) × (r ≡ rest)
beside-some (Some t) r rest y h =
    let parts = pair_parts (t, r) (y, rest) (some_is (t, r) (y, rest) h) in
    (ap (λ u. Some u) parts.0, parts.1)
beside-some None r rest y h = absurd (cc)

dated-found : (key r : List ℕ) (at : Time) → IsTime at → length (mvcc_key key at) < 2 ^ 64 → read_dated (sized (mvcc_key key at) ++ r) ≡ Some ((key, at), r)
unfolding read_dated
dated-found key r at t h = rw (sized-found (mvcc_key key at) r h, mvcc_keys-exact.found key at t) refl

dated-only : (b key : List ℕ) (at : Time) (r : List ℕ) → AreBytes b → read_dated b ≡ Some ((key, at), r) → IsTime at × (length (mvcc_key key at) < 2 ^ 64) × (b ≡ sized (mvcc_key key at) ++ r)
unfolding read_dated
dated-only b key at r h e =
    let step = bind-some (read_sized b) dated ((key, at), r) e in
    let front = sized-only b step.0.0 step.0.1 h step.1 in
    let split = beside-some (read_mvcc_key step.0.0) step.0.1 r (key, at) step.2 in
    let only = mvcc_keys-exact.only step.0.0 key at front.1 split.0 in
    (only.0, rw only.1 at front.0, rw (only.1, split.1) at front.2)

-- ---- entries

pub entry-found : (e : Entry) (r : List ℕ) → IsStored e → read_entry (entry_code e ++ r) ≡ Some (e, r)
unfolding entry_code read_entry read_put read_del read_range
entry-found (Entry.Put key at value) r h = rw (append_assoc (sized (mvcc_key key at)) (sized value) r, dated-found key (sized value ++ r) at h.0 h.1, sized-found value r h.2) refl
entry-found (Entry.Del key at) r h = rw (dated-found key r at h.0 h.1) refl
entry-found (Entry.Range lo hi at) r h = rw (append_assoc (sized (mvcc_key lo at)) (sized hi) r, dated-found lo (sized hi ++ r) at h.0 h.1, sized-found hi r h.2) refl

-- a key with its date and a second part, as they were read one after the other
two-parts : (b key v t rest r : List ℕ) → b ≡ sized key ++ t → t ≡ sized v ++ rest → rest ≡ r → b ≡ (sized key ++ sized v) ++ r
two-parts b key v t rest r first second is = rw (← is) (first ∙ (ap (λ u. sized key ++ u) second ∙ sym (append_assoc (sized key) (sized v) rest)))

put-only : (b : List ℕ) (e : Entry) (r : List ℕ) → AreBytes b → read_put b ≡ Some (e, r) → IsStored e × (1 ∷ b ≡ entry_code e ++ r)
unfolding entry_code read_put
put-only b e r h is =
    let key = bind-some (read_dated b) (λ k. read_sized k.1 >>= (λ v. Some (Entry.Put k.0.0 k.0.1 v.0, v.1))) (e, r) is in
    let first = dated-only b key.0.0.0 key.0.0.1 key.0.1 h key.1 in
    let value = bind-some (read_sized key.0.1) (λ v. Some (Entry.Put key.0.0.0 key.0.0.1 v.0, v.1)) (e, r) key.2 in
    let second = sized-only key.0.1 value.0.0 value.0.1 (bytes-after (sized (mvcc_key key.0.0.0 key.0.0.1)) key.0.1 (rw first.2 at h)) value.1 in
    let parts = pair_parts (Entry.Put key.0.0.0 key.0.0.1 value.0.0, value.0.1) (e, r) (some_is (Entry.Put key.0.0.0 key.0.0.1 value.0.0, value.0.1) (e, r) value.2) in
    rw (← parts.0) ((first.0, first.1, second.0), ap (λ t. 1 ∷ t) (two-parts b (mvcc_key key.0.0.0 key.0.0.1) value.0.0 key.0.1 value.0.1 r first.2 second.2 parts.1))

del-only : (b : List ℕ) (e : Entry) (r : List ℕ) → AreBytes b → read_del b ≡ Some (e, r) → IsStored e × (2 ∷ b ≡ entry_code e ++ r)
unfolding entry_code read_del
del-only b e r h is =
    let key = bind-some (read_dated b) (λ k. Some (Entry.Del k.0.0 k.0.1, k.1)) (e, r) is in
    let first = dated-only b key.0.0.0 key.0.0.1 key.0.1 h key.1 in
    let parts = pair_parts (Entry.Del key.0.0.0 key.0.0.1, key.0.1) (e, r) (some_is (Entry.Del key.0.0.0 key.0.0.1, key.0.1) (e, r) key.2) in
    rw (← parts.0) ((first.0, first.1), ap (λ t. 2 ∷ t) (first.2 ∙ ap (λ t. sized (mvcc_key key.0.0.0 key.0.0.1) ++ t) parts.1))

range-only : (b : List ℕ) (e : Entry) (r : List ℕ) → AreBytes b → read_range b ≡ Some (e, r) → IsStored e × (3 ∷ b ≡ entry_code e ++ r)
unfolding entry_code read_range
range-only b e r h is =
    let lo = bind-some (read_dated b) (λ k. read_sized k.1 >>= (λ v. Some (Entry.Range k.0.0 v.0 k.0.1, v.1))) (e, r) is in
    let first = dated-only b lo.0.0.0 lo.0.0.1 lo.0.1 h lo.1 in
    let hi = bind-some (read_sized lo.0.1) (λ v. Some (Entry.Range lo.0.0.0 v.0 lo.0.0.1, v.1)) (e, r) lo.2 in
    let second = sized-only lo.0.1 hi.0.0 hi.0.1 (bytes-after (sized (mvcc_key lo.0.0.0 lo.0.0.1)) lo.0.1 (rw first.2 at h)) hi.1 in
    let parts = pair_parts (Entry.Range lo.0.0.0 hi.0.0 lo.0.0.1, hi.0.1) (e, r) (some_is (Entry.Range lo.0.0.0 hi.0.0 lo.0.0.1, hi.0.1) (e, r) hi.2) in
    rw (← parts.0) ((first.0, first.1, second.0), ap (λ t. 3 ∷ t) (two-parts b (mvcc_key lo.0.0.0 lo.0.0.1) hi.0.0 lo.0.1 hi.0.1 r first.2 second.2 parts.1))

pub entry-only : (b : List ℕ) (e : Entry) (r : List ℕ) → AreBytes b → read_entry b ≡ Some (e, r) → IsStored e × (b ≡ entry_code e ++ r)
unfolding read_entry
entry-only [] e r h is = absurd (cc)
entry-only (mark ∷ b) e r h is =
    elim (cases_Bool (nat_eq mark 1)) [
      | inl t ↦ let m : mark ≡ 1 = grind (arith, nat_tests) in rw m (put-only b e r h.1 (rw t at is))
      | inr n1 ↦ elim (cases_Bool (nat_eq mark 2)) [
        | inl t ↦ let m : mark ≡ 2 = grind (arith, nat_tests) in rw m (del-only b e r h.1 (rw (n1, t) at is))
        | inr n2 ↦ elim (cases_Bool (nat_eq mark 3)) [
          | inl t ↦ let m : mark ≡ 3 = grind (arith, nat_tests) in rw m (range-only b e r h.1 (rw (n1, n2, t) at is))
          | inr n3 ↦ let e' = rw (n1, n2, n3) at is in absurd (cc)
        ]
      ]
    ]

-- each entry takes a byte
pub entry-takes : (e : Entry) (r : List ℕ) → length r < length (entry_code e ++ r)
unfolding entry_code
entry-takes (Entry.Put key at value) r = let l = length-append (sized (mvcc_key key at) ++ sized value) r in omega (arith, l)
entry-takes (Entry.Del key at) r = let l = length-append (sized (mvcc_key key at)) r in omega (arith, l)
entry-takes (Entry.Range lo hi at) r = let l = length-append (sized (mvcc_key lo at) ++ sized hi) r in omega (arith, l)

-- ---- lists

pub none-read : read_entry [] ≡ None
unfolding read_entry
none-read = refl

pub listed-found : (es : List Entry) (n : ℕ) → AllByRecursion IsStored es → length es ≤ n → listed n (entries_code es) ≡ es
listed-found [] zero h le = refl
listed-found [] (suc n) h le = rw none-read refl
listed-found (e ∷ es) zero h le = absurd (omega arith)
listed-found (e ∷ es) (suc n) h le = rw (entry-found e (entries_code es) h.0, listed-found es n h.1 (omega arith)) refl

pub entries-fit : (es : List Entry) → length es ≤ length (entries_code es)
entries-fit [] = omega arith
entries-fit (e ∷ es) = let rest = entries-fit es in let taken = entry-takes e (entries_code es) in omega arith

pub entries-append : (es ds : List Entry) → entries_code (es ++ ds) ≡ entries_code es ++ entries_code ds
entries-append [] ds = refl
entries-append (e ∷ es) ds = rw (entries-append es ds) (sym (append_assoc (entry_code e) (entries_code es) (entries_code ds)))
