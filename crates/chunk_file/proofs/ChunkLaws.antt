-- Chunks are read as they are written.
use Rattle.std.proofs.Common.{◌≡◌, ℕ, zero, suc, ◌+◌, ◌-◌, ◌<◌, ◌≤◌, ◌^◌, Bool, true, List, [], ◌∷◌, ◌++◌, length, take, drop, nat_eq, nat_le, Option, Some, None, Result, Ok, Err, inl, inr, arith, refl, sym, ap, ◌∙◌, append_assoc, length-append}
use Rattle.std.specs.Prelude.{◌&&◌}
use Rattle.std.specs.List.{AllByRecursion}
use Rattle.std.specs.Str.{bytes_eq}
use Rattle.std.proofs.lemmas.Bool.{cases_Bool}
use Rattle.std.proofs.lemmas.Bool.Decides.{nat_tests}
use Rattle.std.proofs.lemmas.List.{drop_at, take-append-drop}
use Rattle.std.proofs.lemmas.Slice.Eq.{bytes_eq-Decides}
use Rattle.list_laws.specs.Bytes.{AreBytes}
use Rattle.key_encoding.specs.Spelling.{uvarint}
use Rattle.key_encoding.specs.Reading.{read_uvarint}
use Rattle.key_encoding.proofs.Answered.{ok_parts}
use Rattle.key_encoding.proofs.Grammars.{uvarint-found, uvarint-only}
use Rattle.mvcc_keys.specs.declared.entries.Entry.{Entry}
use Rattle.row_codec.specs.KeyReading.{◌>>=◌, or_at}
use Rattle.row_codec.specs.declared.rows.Kind.{Kind}
use Rattle.row_codec.proofs.KeyLaws.{some_is, bind-ok, or_at-ok, valued-some}
use Rattle.row_codec.proofs.KeyOrder.{both_true}
use Rattle.chunk_file.specs.Entries.{IsStored, are_ordered, entries_code, entry_code, is_entry, listed, may_follow, read_entry}
use Rattle.chunk_file.specs.Chunks.{IsChunk, IsSpelled, ChunksAreExact, a_count, chunk_bytes, chunk_mark, fault_of, head_code, if_met, next_entry, read_chunk, read_count, read_entries, read_mark, read_next, with_entry}
use Rattle.chunk_file.specs.Held.{IsHead}
use Rattle.chunk_file.proofs.EntryLaws.{entry-found, entry-only, listed-found}
use Rattle.list_laws.proofs.Bytes.{bytes-after}
use Rattle.list_laws.proofs.Places.{none-left_test}

-- ---- one entry of a list

pub next-found : (table : ℕ) (kinds : List Kind) (last : Option Entry) (e : Entry) (r : List ℕ) → is_entry table kinds e ≡ true → may_follow last e ≡ true → IsStored e → read_next table kinds last (entry_code e ++ r) ≡ Some (e, r)
unfolding read_next
next-found table kinds last e r is follows h = rw (entry-found e r h, is, follows) refl

if_met-some : (test : Entry → Bool) (o : Option (Entry × List ℕ)) (e : Entry) (r : List ℕ) → if_met test o ≡ Some (e, r) → (test e ≡ true) × (o ≡ Some (e, r))
if_met-some test (Some p) e r h =
    elim (cases_Bool (test p.0)) [
      | inl y ↦
          let same = some_is p (e, r) (rw y at h) in
          (ap (λ (u : Entry × List ℕ). test u.0) (sym same) ∙ y, ap (λ (u : Entry × List ℕ). let w : Option (Entry × List ℕ) = Some u in w) same)
      | inr f ↦ let e' = rw f at h in absurd (cc)
    ]
if_met-some test None e r h = absurd (cc)

pub next-some : (table : ℕ) (kinds : List Kind) (last : Option Entry) (b : List ℕ) (e : Entry) (r : List ℕ) → read_next table kinds last b ≡ Some (e, r) → (is_entry table kinds e ≡ true) × (may_follow last e ≡ true) × (read_entry b ≡ Some (e, r))
unfolding read_next
next-some table kinds last b e r h =
    let met = if_met-some (λ x. is_entry table kinds x && may_follow last x) (read_entry b) e r h in
    let both = both_true (is_entry table kinds e) (may_follow last e) met.0 in
    (both.0, both.1, met.1)

-- ---- lists of entries

entries_are : (es ds : List Entry) → (let w : Result (List Entry) ℕ = Ok es in w ≡ Ok ds) → es ≡ ds
entries_are es ds e = cc

next_entry-ok : (f : Entry → List ℕ → Result (List Entry) ℕ) (at : ℕ) (o : Option (Entry × List ℕ)) (es : List Entry) → next_entry f at o ≡ Ok es
    → (e : Entry) × (r : List ℕ) × (o ≡ Some (e, r)) × (others : List Entry) × (f e r ≡ Ok others) × (e ∷ others ≡ es)
next_entry-ok f at (Some p) es h = by (f p.0 p.1) refl h
  where
    by : (o : Result (List Entry) ℕ) → f p.0 p.1 ≡ o → with_entry p.0 o ≡ Ok es
        → (e : Entry) × (r : List ℕ) × ((let w : Option (Entry × List ℕ) = Some p in w) ≡ Some (e, r)) × (others : List Entry) × (f e r ≡ Ok others) × (e ∷ others ≡ es)
    by (Ok others) is k = (p.0, p.1, refl, others, is, entries_are (p.0 ∷ others) es k)
    by (Err o) is k = absurd (cc)
next_entry-ok f at None es h = absurd (cc)

entries-found : (table : ℕ) (kinds : List Kind) (es : List Entry) (len : ℕ) (last : Option Entry) → AllByRecursion (λ e. is_entry table kinds e ≡ true) es → are_ordered last es ≡ true → AllByRecursion IsStored es
    → read_entries table kinds len (length es) last (entries_code es) ≡ Ok es
entries-found table kinds [] len last each ordered h = refl
entries-found table kinds (e ∷ es) len last each ordered h =
    let both = both_true (may_follow last e) (are_ordered (Some e) es) ordered in
    rw (next-found table kinds last e (entries_code es) each.0 both.0 h.0, entries-found table kinds es len (Some e) each.1 both.1 h.1) refl

-- what was read are n entries of the table in order, and they are spelled there
pub record AreRead (table : ℕ) (kinds : List Kind) (n : ℕ) (last : Option Entry) (b : List ℕ) (es : List Entry) : Type 0 where
  pub count : length es ≡ n
  pub each : AllByRecursion (λ e. is_entry table kinds e ≡ true) es
  pub ordered : are_ordered last es ≡ true
  pub stored : AllByRecursion IsStored es
  pub bytes : b ≡ entries_code es

one_more : (table : ℕ) (kinds : List Kind) (n : ℕ) (last : Option Entry) (b : List ℕ) (e : Entry) (r : List ℕ) (others es : List Entry)
    → (is_entry table kinds e ≡ true) × (may_follow last e ≡ true) → IsStored e × (b ≡ entry_code e ++ r) → AreRead table kinds n (Some e) r others → e ∷ others ≡ es → AreRead table kinds (suc n) last b es
one_more table kinds n last b e r others es met first rest is = rw (← is) (record {
  count = ap suc rest.count;
  each = (met.0, rest.each);
  ordered = rw met.1 rest.ordered;
  stored = (first.0, rest.stored);
  bytes = first.1 ∙ ap (λ t. entry_code e ++ t) rest.bytes;
})

entries-only : (table : ℕ) (kinds : List Kind) (n len : ℕ) (last : Option Entry) (b : List ℕ) (es : List Entry) → AreBytes b → read_entries table kinds len n last b ≡ Ok es → AreRead table kinds n last b es
entries-only table kinds zero len last b es h e =
    elim (cases_Bool (nat_eq (length b) 0)) [
      | inl z ↦
          let is : [] ≡ es = entries_are [] es (rw z at e) in
          rw (← is) (record { count = refl; each = tt; ordered = refl; stored = tt; bytes = none-left_test b z })
      | inr f ↦ let e' = rw f at e in absurd (cc)
    ]
entries-only table kinds (suc n) len last b es h e =
    let step = next_entry-ok (λ x rest. read_entries table kinds len n (Some x) rest) (len - length b) (read_next table kinds last b) es e in
    let next = next-some table kinds last b step.0 step.1 step.2 in
    let first = entry-only b step.0 step.1 h next.2 in
    let rest = entries-only table kinds n len (Some step.0) step.1 step.3 (bytes-after (entry_code step.0) step.1 (rw first.1 at h)) step.4 in
    one_more table kinds n last b step.0 step.1 step.3 es (next.0, next.1) first rest step.5

-- ---- the loop over entries

with_entry-fault : (e : Entry) (o : Result (List Entry) ℕ) → fault_of (with_entry e o) ≡ fault_of o
with_entry-fault e (Ok es) = refl
with_entry-fault e (Err k) = refl

pub next-fault : (table : ℕ) (kinds : List Kind) (len n : ℕ) (last : Option Entry) (b : List ℕ) (e : Entry) (r : List ℕ) → 0 < n → read_next table kinds last b ≡ Some (e, r)
    → fault_of (read_entries table kinds len (n - 1) (Some e) r) ≡ fault_of (read_entries table kinds len n last b)
next-fault table kinds len zero last b e r some h = absurd (omega arith)
next-fault table kinds len (suc n) last b e r some h =
    let less : suc n - 1 ≡ n = omega arith in
    rw (less, h) (sym (with_entry-fault e (read_entries table kinds len n (Some e) r)))

no-fault : (o : Result (List Entry) ℕ) → fault_of o ≡ None → (es : List Entry) × (o ≡ Ok es)
no-fault (Ok es) h = (es, refl)
no-fault (Err k) h = absurd (cc)

-- ---- the head

pub mark-only : (b r : List ℕ) → read_mark b ≡ Some r → b ≡ chunk_mark ++ r
mark-only b r h =
    elim (cases_Bool (bytes_eq (take 4 b) chunk_mark)) [
      | inl y ↦
          let front : take 4 b ≡ chunk_mark = (bytes_eq-Decides (take 4 b) chunk_mark).0 y in
          let rest : drop 4 b ≡ r = some_is (drop 4 b) r (rw y at h) in
          sym (take-append-drop 4 b) ∙ rw (front, rest) refl
      | inr f ↦ let e' = rw f at h in absurd (cc)
    ]

count-is : (n m : ℕ) → a_count n ≡ Some m → (1 ≤ m) × (m ≤ 256) × (n ≡ m)
count-is n m h =
    elim (cases_Bool (nat_le 1 n && nat_le n 256)) [
      | inl y ↦
          let both = both_true (nat_le 1 n) (nat_le n 256) y in
          let same = some_is n m (rw y at h) in
          let low : 1 ≤ n = let t = both.0 in grind (arith, nat_tests) in
          let high : n ≤ 256 = let t = both.1 in grind (arith, nat_tests) in
          (rw same at low, rw same at high, same)
      | inr f ↦ let e' = rw f at h in absurd (cc)
    ]

pub count-only : (b : List ℕ) (n : ℕ) (r : List ℕ) → AreBytes b → read_count b ≡ Some (n, r) → (1 ≤ n) × (n ≤ 256) × (b ≡ uvarint n ++ r)
unfolding read_count
count-only b n r h e =
    let read = valued-some a_count (read_uvarint b) n r e in
    let is = count-is read.0 n read.2 in
    (is.0, is.1, rw is.2 at (uvarint-only b read.0 r h read.1).1)

pub count-found : (n : ℕ) (r : List ℕ) → 1 ≤ n → n ≤ 256 → read_count (uvarint n ++ r) ≡ Some (n, r)
unfolding read_count
count-found n r low high =
    let a : nat_le 1 n ≡ true = grind (arith, nat_tests) in
    let b : nat_le n 256 ≡ true = grind (arith, nat_tests) in
    rw (uvarint-found n r (omega arith), a, b) refl

chunk-found : (table : ℕ) (kinds : List Kind) (es : List Entry) → IsChunk table kinds es → AllByRecursion IsStored es → read_chunk table kinds (chunk_bytes es) ≡ Ok es
unfolding read_chunk chunk_bytes head_code
chunk-found table kinds es c h =
    let len = length (chunk_mark ++ (uvarint (length es) ++ entries_code es)) in
    rw (count-found (length es) (entries_code es) c.some c.most, entries-found table kinds es len None c.each c.ordered h) refl

-- the parts of a chunk that was read
parts-of : (table : ℕ) (kinds : List Kind) (b r : List ℕ) (n : ℕ) (rest : List ℕ) (es : List Entry) → AreBytes b → read_mark b ≡ Some r → read_count r ≡ Some (n, rest) → read_entries table kinds (length b) n None rest ≡ Ok es
    → (1 ≤ n) × (n ≤ 256) × (b ≡ (chunk_mark ++ uvarint n) ++ rest) × AreRead table kinds n None rest es
parts-of table kinds b r n rest es h mark count entries =
    let front = mark-only b r mark in
    let after : AreBytes r = bytes-after chunk_mark r (rw front at h) in
    let number = count-only r n rest after count in
    let read = entries-only table kinds n (length b) None rest es (bytes-after (uvarint n) rest (rw number.2 at after)) entries in
    (number.0, number.1, front ∙ (ap (λ t. chunk_mark ++ t) number.2 ∙ sym (append_assoc chunk_mark (uvarint n) rest)), read)

is_spelled : (table : ℕ) (kinds : List Kind) (b : List ℕ) (n : ℕ) (rest : List ℕ) (es : List Entry) → (1 ≤ n) × (n ≤ 256) × (b ≡ (chunk_mark ++ uvarint n) ++ rest) × AreRead table kinds n None rest es → IsSpelled table kinds b es
unfolding chunk_bytes head_code
is_spelled table kinds b n rest es p = record {
  chunk = record { some = rw p.3.count p.0; most = rw p.3.count p.1; each = p.3.each; ordered = p.3.ordered };
  stored = p.3.stored;
  bytes = rw p.3.count (p.2 ∙ ap (λ t. (chunk_mark ++ uvarint n) ++ t) p.3.bytes);
}

chunk-only : (table : ℕ) (kinds : List Kind) (b : List ℕ) (es : List Entry) → AreBytes b → read_chunk table kinds b ≡ Ok es → IsSpelled table kinds b es
unfolding read_chunk
chunk-only table kinds b es h e =
    let mark = bind-ok (or_at 0 (read_mark b)) (λ r. or_at 4 (read_count r) >>= (λ c. read_entries table kinds (length b) c.0 None c.1)) es e in
    let count = bind-ok (or_at 4 (read_count mark.0)) (λ c. read_entries table kinds (length b) c.0 None c.1) es mark.2 in
    is_spelled table kinds b count.0.0 count.0.1 es (parts-of table kinds b mark.0 count.0.0 count.0.1 es h (or_at-ok 0 (read_mark b) mark.0 mark.1) (or_at-ok 4 (read_count mark.0) count.0 count.1) count.2)

-- ---- laws

head-cancels : (es ds : List Entry) → length es < 2 ^ 64 → length ds < 2 ^ 64 → chunk_bytes es ≡ chunk_bytes ds → (length es ≡ length ds) × (entries_code es ≡ entries_code ds)
unfolding chunk_bytes head_code
head-cancels es ds he hd e =
    let rest : uvarint (length es) ++ entries_code es ≡ uvarint (length ds) ++ entries_code ds = ap (λ (t : List ℕ). drop 4 t) e in
    ok_parts (length es) (length ds) (entries_code es) (entries_code ds) (sym (uvarint-found (length es) (entries_code es) he) ∙ (ap read_uvarint rest ∙ uvarint-found (length ds) (entries_code ds) hd))

pub chunks-exact : ChunksAreExact
chunks-exact = record {
  found = chunk-found;
  only = chunk-only;
  apart = λ es ds hes hds nes nds e.
      let same = head-cancels es ds nes nds e in
      sym (listed-found es (length es) hes (omega arith)) ∙ (rw (same.1, same.0) (listed-found ds (length ds) hds (omega arith)));
}

-- ---- what a test of the bytes found

head_of : (table : ℕ) (kinds : List Kind) (b r : List ℕ) (n : ℕ) (rest : List ℕ) (first : ℕ) (es : List Entry) → AreBytes b → read_mark b ≡ Some r → read_count r ≡ Some (n, rest) → read_entries table kinds (length b) n None rest ≡ Ok es
    → first ≡ length b - length rest → IsHead table kinds b (record { count = n; first = first }) (listed n (drop first b))
unfolding read_chunk head_code
head_of table kinds b r n rest first es h mark count read e =
    let parts = parts-of table kinds b r n rest es h mark count read in
    let front = chunk_mark ++ uvarint n in
    let len : length b ≡ length front + length rest = ap (λ (t : List ℕ). length t) parts.2 ∙ length-append front rest in
    let place : length front ≡ first = omega (arith, len, e) in
    let left : drop first b ≡ rest = ap (drop first) parts.2 ∙ drop_at front rest first place in
    let same : listed n (drop first b) ≡ es = ap (listed n) (left ∙ parts.3.bytes) ∙ listed-found es n parts.3.stored (omega (arith, parts.3.count)) in
    rw same (record {
      within = omega (arith, e);
      read = rw (mark, count) read;
      count = parts.3.count;
      spelled = is_spelled table kinds b n rest es parts;
      place = rw parts.3.count (sym place);
    })

pub is_head : (table : ℕ) (kinds : List Kind) (b r : List ℕ) (n : ℕ) (rest : List ℕ) (first : ℕ) → AreBytes b → read_mark b ≡ Some r → read_count r ≡ Some (n, rest) → fault_of (read_entries table kinds (length b) n None rest) ≡ None
    → first ≡ length b - length rest → IsHead table kinds b (record { count = n; first = first }) (listed n (drop first b))
is_head table kinds b r n rest first h mark count fine e =
    let found = no-fault (read_entries table kinds (length b) n None rest) fine in
    head_of table kinds b r n rest first found.0 h mark count found.1 e
