-- The fault that is named is the first.
use Rattle.std.proofs.Common.{◌≡◌, ℕ, zero, suc, ◌+◌, ◌-◌, ◌<◌, ◌≤◌, List, [], ◌∷◌, ◌++◌, length, nat_eq, Option, Some, None, Result, Ok, Err, ◌⊎◌, inl, inr, arith, refl, sym, ap, ◌∙◌, append_assoc, length-append}
use Rattle.std.proofs.lemmas.Bool.{cases_Bool}
use Rattle.std.proofs.lemmas.Bool.Decides.{nat_tests}
use Rattle.list_laws.specs.Bytes.{AreBytes}
use Rattle.key_encoding.specs.Spelling.{uvarint}
use Rattle.mvcc_keys.specs.declared.entries.Entry.{Entry}
use Rattle.row_codec.specs.KeyReading.{◌>>=◌, or_at}
use Rattle.row_codec.specs.declared.rows.Kind.{Kind}
use Rattle.list_laws.proofs.Bytes.{bytes-after}
use Rattle.chunk_file.specs.Entries.{entries_code, entry_code}
use Rattle.chunk_file.specs.Chunks.{chunk_mark, read_chunk, read_count, read_entries, read_mark, read_next, with_entry, next_entry}
use Rattle.chunk_file.specs.Faults.{FaultsAreFirst, HasNoEntry, IsBroken, IsBrokenOff, IsUncounted, IsUnmarked}
use Rattle.chunk_file.proofs.EntryLaws.{entry-only}
use Rattle.chunk_file.proofs.ChunkLaws.{count-found, count-only, mark-only, next-found, next-some}

places_are : (m n : ℕ) → (let w : Result (List Entry) ℕ = Err m in w ≡ Err n) → m ≡ n
places_are m n e = cc

with_entry-err : (e : Entry) (o : Result (List Entry) ℕ) (at : ℕ) → with_entry e o ≡ Err at → o ≡ Err at
with_entry-err e (Ok es) at h = absurd (cc)
with_entry-err e (Err k) at h = ap (λ n. Err n) (places_are k at h)

none_here : (table : ℕ) (kinds : List Kind) (last : Option Entry) (b : List ℕ) → read_next table kinds last b ≡ None → HasNoEntry table kinds last b
none_here table kinds last b none e r is follows stored spelled = let found = rw (← spelled) at (next-found table kinds last e r is follows stored) in absurd (cc)

-- the fault of entries in an input of len bytes, of which these are the last
pub record IsFault (table : ℕ) (kinds : List Kind) (len n : ℕ) (last : Option Entry) (b : List ℕ) (at : ℕ) : Type 0 where
  pub rest : List ℕ
  pub broken : IsBroken table kinds n last b rest
  pub place : at ≡ len - length rest

at_once : (table : ℕ) (kinds : List Kind) (len n : ℕ) (last : Option Entry) (b : List ℕ) (at : ℕ) → (0 < n → HasNoEntry table kinds last b) → (0 ≡ n → 0 < length b) → len - length b ≡ at → IsFault table kinds len n last b at
at_once table kinds len n last b at none left e = record {
  rest = b;
  broken = record { before = []; bytes = refl; each = tt; ordered = refl; stored = tt; few = omega arith; none = none; left_over = left };
  place = sym e;
}

after_one : (table : ℕ) (kinds : List Kind) (len n : ℕ) (last : Option Entry) (b : List ℕ) (at : ℕ) (e : Entry) (r : List ℕ) → AreBytes b → read_next table kinds last b ≡ Some (e, r) → IsFault table kinds len n (Some e) r at → IsFault table kinds len (suc n) last b at
after_one table kinds len n last b at e r h read f =
    let next = next-some table kinds last b e r read in
    let first = entry-only b e r h next.2 in
    record {
      rest = f.rest;
      broken = record {
        before = e ∷ f.broken.before;
        bytes = first.1 ∙ (ap (λ t. entry_code e ++ t) f.broken.bytes ∙ sym (append_assoc (entry_code e) (entries_code f.broken.before) f.rest));
        each = (next.0, f.broken.each);
        ordered = rw next.1 f.broken.ordered;
        stored = (first.0, f.broken.stored);
        few = let l = f.broken.few in omega (arith, l);
        none = λ l. f.broken.none (omega (arith, l));
        left_over = λ l. f.broken.left_over (omega (arith, l));
      };
      place = f.place;
    }

one_step : (table : ℕ) (kinds : List Kind) (len n : ℕ) (last : Option Entry) (b : List ℕ) (at : ℕ) → AreBytes b
    → ((e : Entry) (r : List ℕ) → AreBytes r → read_entries table kinds len n (Some e) r ≡ Err at → IsFault table kinds len n (Some e) r at)
    → (o : Option (Entry × List ℕ)) → read_next table kinds last b ≡ o → next_entry (λ x rest. read_entries table kinds len n (Some x) rest) (len - length b) o ≡ Err at → IsFault table kinds len (suc n) last b at
one_step table kinds len n last b at h others (Some p) is k =
    let rest = bytes-after (entry_code p.0) p.1 (rw (entry-only b p.0 p.1 h (next-some table kinds last b p.0 p.1 is).2).1 at h) in
    after_one table kinds len n last b at p.0 p.1 h is (others p.0 p.1 rest (with_entry-err p.0 (read_entries table kinds len n (Some p.0) p.1) at k))
one_step table kinds len n last b at h others None is k = at_once table kinds len (suc n) last b at (λ _. none_here table kinds last b is) (λ l. absurd (omega (arith, l))) (places_are (len - length b) at k)

entries-fault : (table : ℕ) (kinds : List Kind) (len n : ℕ) (last : Option Entry) (b : List ℕ) (at : ℕ) → AreBytes b → read_entries table kinds len n last b ≡ Err at → IsFault table kinds len n last b at
entries-fault table kinds len zero last b at h e =
    elim (cases_Bool (nat_eq (length b) 0)) [
      | inl z ↦ let e' = rw z at e in absurd (cc)
      | inr f ↦ at_once table kinds len 0 last b at (λ l. absurd (omega (arith, l))) (λ _. grind (arith, nat_tests)) (places_are (len - length b) at (rw f at e))
    ]
entries-fault table kinds len (suc n) last b at h e = one_step table kinds len n last b at h (λ x r hr k. entries-fault table kinds len n (Some x) r at hr k) (read_next table kinds last b) refl e

-- ---- whole chunks

no-mark : (b r : List ℕ) → read_mark b ≡ None → b ≡ chunk_mark ++ r → ⊥
no-mark b r none spelled = let none' = rw spelled at none in absurd (cc)

no-count : (b r : List ℕ) (n : ℕ) → read_count b ≡ None → 1 ≤ n → n ≤ 256 → b ≡ uvarint n ++ r → ⊥
no-count b r n none low high spelled = let none' = rw (spelled, count-found n r low high) at none in absurd (cc)

broken_off : (table : ℕ) (kinds : List Kind) (b r : List ℕ) (n : ℕ) (entries : List ℕ) (at : ℕ) → AreBytes b → read_mark b ≡ Some r → read_count r ≡ Some (n, entries) → read_entries table kinds (length b) n None entries ≡ Err at → IsBrokenOff table kinds b at
broken_off table kinds b r n entries at h mark count e =
    let front = mark-only b r mark in
    let after : AreBytes r = bytes-after chunk_mark r (rw front at h) in
    let number = count-only r n entries after count in
    let f = entries-fault table kinds (length b) n None entries at (bytes-after (uvarint n) entries (rw number.2 at after)) e in
    let head = chunk_mark ++ uvarint n in
    let whole : b ≡ head ++ entries = front ∙ (ap (λ t. chunk_mark ++ t) number.2 ∙ sym (append_assoc chunk_mark (uvarint n) entries)) in
    let len : length b ≡ length head + length entries = ap (λ (t : List ℕ). length t) whole ∙ length-append head entries in
    let parts : length entries ≡ length (entries_code f.broken.before) + length f.rest = ap (λ (t : List ℕ). length t) f.broken.bytes ∙ length-append (entries_code f.broken.before) f.rest in
    record { number = n; entries = entries; rest = f.rest; some = number.0; most = number.1; counted = whole; broken = f.broken; place = let p = f.place in omega (arith, p, len, parts) }

after_count : (table : ℕ) (kinds : List Kind) (b r : List ℕ) (at : ℕ) (o : Option (ℕ × List ℕ)) → AreBytes b → read_mark b ≡ Some r → read_count r ≡ o → (or_at 4 o >>= (λ c. read_entries table kinds (length b) c.0 None c.1)) ≡ Err at
    → IsUnmarked b at ⊎ (IsUncounted b at ⊎ IsBrokenOff table kinds b at)
after_count table kinds b r at (Some p) h mark is e = inr (inr (broken_off table kinds b r p.0 p.1 at h mark is e))
after_count table kinds b r at None h mark is e = inr (inl (record { rest = r; marked = mark-only b r mark; place = sym (places_are 4 at e); none = λ n q low high spelled. no-count r q n is low high spelled }))

after_mark : (table : ℕ) (kinds : List Kind) (b : List ℕ) (at : ℕ) (o : Option (List ℕ)) → AreBytes b → read_mark b ≡ o → (or_at 0 o >>= (λ r. or_at 4 (read_count r) >>= (λ c. read_entries table kinds (length b) c.0 None c.1))) ≡ Err at
    → IsUnmarked b at ⊎ (IsUncounted b at ⊎ IsBrokenOff table kinds b at)
after_mark table kinds b at (Some r) h is e = after_count table kinds b r at (read_count r) h is refl e
after_mark table kinds b at None h is e = inl (record { place = sym (places_are 0 at e); none = λ r spelled. no-mark b r is spelled })

pub faults-first : FaultsAreFirst
unfolding read_chunk
faults-first table kinds b at h e = after_mark table kinds b at (read_mark b) h refl e
