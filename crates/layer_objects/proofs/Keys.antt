-- The bounds of a chunk are row keys, and the least isn't after the greatest.
use Rattle.std.proofs.Common.{◌≡◌, ◌∙◌, ◌<◌, ◌^◌, ℕ, Bool, true, false, refl, sym, ap, List, [], ◌∷◌, ◌++◌, length, Ordering, Less, Equal, Greater, arith}
use Rattle.std.specs.Prelude.{◌&&◌, if◌then◌else◌}
use Rattle.std.specs.List.{AllByRecursion}
use Rattle.std.specs.Cmp.{IsTotalOrder}
use Rattle.std.specs.Cmp.Lexicographic.{slice_cmp}
use Rattle.std.specs.Ordering.{is_le, is_lt, nat_cmp, ordering_reverse}
use Rattle.std.proofs.lemmas.Cmp.{nat_list_cmp_total}
use Rattle.std.proofs.lemmas.List.{length-append}
use Rattle.sha2.proofs.Facts256.{length-sha256}
use Rattle.mvcc_keys.specs.Codes.{bytes64, counter_bytes, mvcc_key}
use Rattle.mvcc_keys.specs.Entries.{key_of, end_of}
use Rattle.mvcc_keys.specs.Times.{Time}
use Rattle.mvcc_keys.specs.declared.entries.Entry.{Entry}
use Rattle.row_codec.specs.declared.rows.Kind.{Kind}
use Rattle.version_store.specs.Tables.{bytes_cmp}
use Rattle.chunk_file.specs.Chunks.{chunk_bytes}
use Rattle.chunk_file.specs.Entries.{IsStored, is_entry, is_row_key}
use Rattle.layer_manifest.specs.Manifests.{IsBounded}
use Rattle.layer_objects.specs.Contents.{bounds_of, greater, greatest_key, info_of, least_key, lesser}
use Rattle.layer_objects.specs.CutLaws.{InfosAreProper}
use Rattle.list_laws.proofs.Bools.{and-left}
use Rattle.list_laws.proofs.Members.{all-weaker}

-- ---- what holds of all keys holds of the least and of the greatest

pick : {X : Type 0} (P : X → Type 0) (b : Bool) (x y : X) → P x → P y → P (if b then y else x)
pick P true x y p q = q
pick P false x y p q = p

least_has : (P : List ℕ → Type 0) (k : List ℕ) (es : List Entry) → P k → AllByRecursion (λ e. P (key_of e)) es → P (least_key k es)
least_has P k [] p all = p
least_has P k (e ∷ es) p all = least_has P (lesser k (key_of e)) es (pick P (is_lt (bytes_cmp (key_of e) k)) k (key_of e) p all.0) all.1

greatest_has : (P : List ℕ → Type 0) (k : List ℕ) (es : List Entry) → P k → AllByRecursion (λ e. P (end_of e)) es → P (greatest_key k es)
greatest_has P k [] p all = p
greatest_has P k (e ∷ es) p all = greatest_has P (greater k (end_of e)) es (pick P (is_lt (bytes_cmp k (end_of e))) k (end_of e) p all.0) all.1

-- ---- order

abbrev Le : List ℕ → List ℕ → Type 0
Le a b = is_le (bytes_cmp a b) ≡ true

total : IsTotalOrder bytes_cmp
total = nat_list_cmp_total

own : (o : Ordering) → o ≡ ordering_reverse o → is_le o ≡ true
own Less e = absurd cc
own Equal e = refl
own Greater e = absurd cc

le_refl : (a : List ℕ) → Le a a
le_refl a = own (bytes_cmp a a) (total.antisymm a a)

lt_le : (o : Ordering) → is_lt o ≡ true → is_le o ≡ true
lt_le Less h = refl
lt_le Equal h = absurd cc
lt_le Greater h = absurd cc

le_by : (a b c : List ℕ) (o p : Ordering) → bytes_cmp a b ≡ o → bytes_cmp b c ≡ p → is_le o ≡ true → is_le p ≡ true → Le a c
le_by a b c Less Less e f h k = ap is_le (total.trans a b c e f)
le_by a b c Less Equal e f h k = ap is_le (total.antisymm a c ∙ (ap ordering_reverse (sym (total.congr b c a f)) ∙ (sym (total.antisymm a b) ∙ e)))
le_by a b c Less Greater e f h k = absurd cc
le_by a b c Equal p e f h k = ap is_le (total.congr a b c e ∙ f) ∙ k
le_by a b c Greater p e f h k = absurd cc

le_trans : (a b c : List ℕ) → Le a b → Le b c → Le a c
le_trans a b c h k = le_by a b c (bytes_cmp a b) (bytes_cmp b c) refl refl h k

lesser_le : (k x : List ℕ) → Le (lesser k x) k
lesser_le k x = by (is_lt (bytes_cmp x k)) refl
  where
    by : (b : Bool) → is_lt (bytes_cmp x k) ≡ b → Le (if b then x else k) k
    by true e = lt_le (bytes_cmp x k) e
    by false e = le_refl k

greater_le : (k x : List ℕ) → Le k (greater k x)
greater_le k x = by (is_lt (bytes_cmp k x)) refl
  where
    by : (b : Bool) → is_lt (bytes_cmp k x) ≡ b → Le k (if b then x else k)
    by true e = lt_le (bytes_cmp k x) e
    by false e = le_refl k

least_le : (k : List ℕ) (es : List Entry) → Le (least_key k es) k
least_le k [] = le_refl k
least_le k (e ∷ es) = le_trans (least_key (lesser k (key_of e)) es) (lesser k (key_of e)) k (least_le (lesser k (key_of e)) es) (lesser_le k (key_of e))

greatest_le : (k : List ℕ) (es : List Entry) → Le k (greatest_key k es)
greatest_le k [] = le_refl k
greatest_le k (e ∷ es) = le_trans k (greater k (end_of e)) (greatest_key (greater k (end_of e)) es) (greater_le k (end_of e)) (greatest_le (greater k (end_of e)) es)

-- ---- entries

three : (a b c : Bool) → (a && b && c) ≡ true → (a ≡ true) × (b ≡ true) × (c ≡ true)
three true true true h = (refl, refl, refl)
three true true false h = absurd cc
three true false c h = absurd cc
three false b c h = absurd cc

key_ok : (table : ℕ) (kinds : List Kind) (e : Entry) → is_entry table kinds e ≡ true → is_row_key table kinds (key_of e) ≡ true
unfolding is_entry
key_ok table kinds (Entry.Put key at value) h = and-left _ _ h
key_ok table kinds (Entry.Del key at) h = h
key_ok table kinds (Entry.Range lo hi at) h = (three (is_row_key table kinds lo) (is_row_key table kinds hi) (is_lt (slice_cmp nat_cmp lo hi)) h).0

end_ok : (table : ℕ) (kinds : List Kind) (e : Entry) → is_entry table kinds e ≡ true → is_row_key table kinds (end_of e) ≡ true
unfolding is_entry
end_ok table kinds (Entry.Put key at value) h = and-left _ _ h
end_ok table kinds (Entry.Del key at) h = h
end_ok table kinds (Entry.Range lo hi at) h = (three (is_row_key table kinds lo) (is_row_key table kinds hi) (is_lt (slice_cmp nat_cmp lo hi)) h).1

key_end : (table : ℕ) (kinds : List Kind) (e : Entry) → is_entry table kinds e ≡ true → Le (key_of e) (end_of e)
unfolding is_entry
key_end table kinds (Entry.Put key at value) h = le_refl key
key_end table kinds (Entry.Del key at) h = le_refl key
key_end table kinds (Entry.Range lo hi at) h = lt_le (bytes_cmp lo hi) (three (is_row_key table kinds lo) (is_row_key table kinds hi) (is_lt (slice_cmp nat_cmp lo hi)) h).2

-- a key is shorter than what it has with its date
within_key : (key : List ℕ) (at : Time) → length (mvcc_key key at) < 2 ^ 64 → length key < 2 ^ 64
unfolding mvcc_key
within_key key at lt = let l = length-append key (0 ∷ (bytes64 at.wall ++ counter_bytes at.logical)) in omega (arith, l, lt)

key_short : (e : Entry) → IsStored e → length (key_of e) < 2 ^ 64
key_short (Entry.Put key at value) s = within_key key at s.1
key_short (Entry.Del key at) s = within_key key at s.1
key_short (Entry.Range lo hi at) s = within_key lo at s.1

end_short : (e : Entry) → IsStored e → length (end_of e) < 2 ^ 64
end_short (Entry.Put key at value) s = within_key key at s.1
end_short (Entry.Del key at) s = within_key key at s.1
end_short (Entry.Range lo hi at) s = s.2

-- ---- chunks

all_true : (a b c : Bool) → a ≡ true → b ≡ true → c ≡ true → (a && b && c) ≡ true
all_true a b c p q r = rw (p, q, r) refl

bounded : (table : ℕ) (kinds : List Kind) (piece : List Entry) → 0 < length piece → AllByRecursion (λ e. is_entry table kinds e ≡ true) piece → AllByRecursion IsStored piece → IsBounded 2 table kinds (bounds_of piece)
bounded table kinds [] some each stored = absurd (omega arith)
bounded table kinds (e ∷ es) some each stored = (
  refl,
  all_true _ _ _
      (least_has (λ k. is_row_key table kinds k ≡ true) (key_of e) es (key_ok table kinds e each.0) (all-weaker (λ d. is_entry table kinds d ≡ true) (λ d. is_row_key table kinds (key_of d) ≡ true) (key_ok table kinds) es each.1))
      (greatest_has (λ k. is_row_key table kinds k ≡ true) (end_of e) es (end_ok table kinds e each.0) (all-weaker (λ d. is_entry table kinds d ≡ true) (λ d. is_row_key table kinds (end_of d) ≡ true) (end_ok table kinds) es each.1))
      (le_trans (least_key (key_of e) es) (key_of e) (greatest_key (end_of e) es) (least_le (key_of e) es) (le_trans (key_of e) (end_of e) (greatest_key (end_of e) es) (key_end table kinds e each.0) (greatest_le (end_of e) es))),
  least_has (λ k. length k < 2 ^ 64) (key_of e) es (key_short e stored.0) (all-weaker IsStored (λ d. length (key_of d) < 2 ^ 64) key_short es stored.1),
  greatest_has (λ k. length k < 2 ^ 64) (end_of e) es (end_short e stored.0) (all-weaker IsStored (λ d. length (end_of d) < 2 ^ 64) end_short es stored.1),
)

pub infos_proper : InfosAreProper
unfolding info_of
infos_proper table kinds piece chunk stored long = record {
  some = let s = chunk.some in omega (arith, s);
  few = chunk.most;
  long = long;
  digest = length-sha256 (chunk_bytes piece);
  bounded = bounded table kinds piece (let s = chunk.some in omega (arith, s)) chunk.each stored;
}
