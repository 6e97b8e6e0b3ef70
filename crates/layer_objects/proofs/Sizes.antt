-- How many entries and chunks a table has, and how many bytes they take.
use Rattle.std.proofs.Common.{◌≡◌, ℕ, zero, suc, ◌+◌, ◌*◌, ◌^◌, ◌<◌, ◌≤◌, ◌==◌, true, refl, ap, ◌∙◌, arith, List, [], ◌∷◌, length, drop, inl, inr}
use Rattle.std.specs.List.{AllByRecursion}
use Rattle.std.proofs.lemmas.Bool.{cases_Bool, eq-eqb}
use Rattle.std.proofs.lemmas.List.{length-append}
use Rattle.mvcc_keys.specs.Codes.{bytes32, counter_bytes, mvcc_key}
use Rattle.mvcc_keys.specs.Times.{Time}
use Rattle.mvcc_keys.specs.declared.entries.Entry.{Entry}
use Rattle.key_encoding.specs.Spelling.{uvarint}
use Rattle.row_codec.specs.declared.rows.Kind.{Kind}
use Rattle.row_codec.specs.KeyReading.{is_key_of}
use Rattle.row_codec.specs.RowKeys.{IsKey, row_key, values_code}
use Rattle.row_codec.specs.RowValues.{reads, row_value, sized}
use Rattle.row_codec.proofs.KeyLaws.{row_keys-exact}
use Rattle.row_codec.proofs.ValueLaws.{row_values-exact}
use Rattle.table_descriptors.proofs.DescriptorLengths.{number-length}
use Rattle.fact_model.specs.Facts.{Del, DelRange, Put}
use Rattle.history_model.specs.Rows.{Cells, Key, RowFact}
use Rattle.history_model.specs.RowTests.{columns_len}
use Rattle.version_store.specs.Tables.{entry_of}
use Rattle.table_rows.specs.RowTables.{IsCells, IsRowFact, coded}
use Rattle.table_rows.proofs.KeySizes.{key-len}
use Rattle.chunk_file.specs.Chunks.{chunk_bytes, head_code}
use Rattle.chunk_file.specs.Entries.{IsStored, entries_code, entry_code, is_entry, is_row_key}
use Rattle.std.specs.Ordering.{is_lt}
use Rattle.table_rows.proofs.Coded.{keys-ordered}
use Rattle.chunk_file.proofs.EntryLaws.{mvcc-length}
use Rattle.layer_objects.specs.Contents.{cut, cut_times}
use Rattle.list_laws.proofs.Members.{all-drop, all-take}
use Rattle.layer_objects.specs.Storable.{IsSized}
use Rattle.list_laws.proofs.Bools.{and-both}

-- ---- numbers

times-fewer : {X : Type 0} (times n : ℕ) (xs : List X) → length (cut_times times n xs) ≤ times
times-fewer zero n xs = omega arith
times-fewer (suc times) n [] = omega arith
times-fewer (suc times) n (x ∷ xs) = let less = times-fewer times n (drop n (x ∷ xs)) in omega (arith, less)

pub cut-fewer : {X : Type 0} (n : ℕ) (xs : List X) → length (cut n xs) ≤ length xs
unfolding cut
cut-fewer n xs = times-fewer (length xs) n xs

times-all : {X : Type 0} (P : X → Type 0) (times n : ℕ) (xs : List X) → AllByRecursion P xs → AllByRecursion (AllByRecursion P) (cut_times times n xs)
times-all P zero n xs all = tt
times-all P (suc times) n [] all = tt
times-all P (suc times) n (x ∷ xs) all = (all-take P n (x ∷ xs) all, times-all P times n (drop n (x ∷ xs)) (all-drop P n (x ∷ xs) all))

-- what holds of all elements holds of those of each piece
pub cut-all : {X : Type 0} (P : X → Type 0) (n : ℕ) (xs : List X) → AllByRecursion P xs → AllByRecursion (AllByRecursion P) (cut n xs)
unfolding cut
cut-all P n xs all = times-all P (length xs) n xs all

-- ---- bytes

counter-short : (n : ℕ) → length (counter_bytes n) ≤ 5
unfolding bytes32
counter-short n = elim (cases_Bool (n == 0)) [ inl is ↦ rw is (omega arith) | inr not ↦ rw not (omega arith) ]

mvcc-short : (key : List ℕ) (at : Time) → length (mvcc_key key at) ≤ length key + 14
mvcc-short key at = let l = mvcc-length key at (length (counter_bytes at.logical)) refl in let c = counter-short at.logical in omega (arith, l, c)

sized-short : (b : List ℕ) → length (sized b) ≤ length b + 9
sized-short b = let l = length-append (uvarint (length b)) b in let n = number-length (length b) in omega (arith, l, n)

zero-long : length (uvarint 0) ≡ 1
unfolding uvarint
zero-long = refl

key-short : (id : ℕ) (kinds : List Kind) (key : Key) → IsKey kinds key → length (row_key id kinds key) ≤ columns_len kinds key + 11
unfolding row_key
key-short id kinds key is =
    let l = length-append (uvarint id) (137 ∷ values_code kinds key) in
    let o = length-append (uvarint 0) (137 ∷ values_code kinds key) in
    let whole = key-len kinds key is.0 in
    let n = number-length id in
    let one = zero-long in omega (arith, l, o, whole, n, one)

-- an entry of the table, that can be spelled in a chunk, and not in too many bytes
abbrev pub IsSmall : ℕ → List Kind → Entry → Type 0
IsSmall id kinds e = (is_entry id kinds e ≡ true) × IsStored e × (length (entry_code e) ≤ 40000)

key-known : (id : ℕ) (kinds : List Kind) (key : Key) → id < 2 ^ 32 → IsKey kinds key → is_row_key id kinds (row_key id kinds key) ≡ true
key-known id kinds key small is = ap (is_key_of id) (row_keys-exact.found kinds id key small is) ∙ eq-eqb id id refl

put-small : (id : ℕ) (kinds : List Kind) (key : Key) (cells : Cells) (at : Time) → id < 2 ^ 32 → IsKey kinds key → IsCells cells → IsSized kinds (Put key cells at) → IsSmall id kinds (Entry.Put (row_key id kinds key) at (row_value cells))
unfolding is_entry entry_code
put-small id kinds key cells at small is are fit =
    let dated = mvcc-short (row_key id kinds key) at in
    let bytes = key-short id kinds key is in
    let front = sized-short (mvcc_key (row_key id kinds key) at) in
    let back = sized-short (row_value cells) in
    let l = length-append (sized (mvcc_key (row_key id kinds key) at)) (sized (row_value cells)) in
    let columns = fit.0 in
    let value = fit.1 in (
      and-both _ _ (key-known id kinds key small is) (ap reads (row_values-exact.found cells are.0 are.1)),
      (fit.2, omega (arith, dated, bytes, columns), omega (arith, value)),
      omega (arith, dated, bytes, front, back, l, columns, value),
    )

del-small : (id : ℕ) (kinds : List Kind) (key : Key) (at : Time) → id < 2 ^ 32 → IsKey kinds key → IsSized kinds (Del key at) → IsSmall id kinds (Entry.Del (row_key id kinds key) at)
unfolding is_entry entry_code
del-small id kinds key at small is fit =
    let dated = mvcc-short (row_key id kinds key) at in
    let bytes = key-short id kinds key is in
    let front = sized-short (mvcc_key (row_key id kinds key) at) in
    let columns = fit.0 in (
      key-known id kinds key small is,
      (fit.1, omega (arith, dated, bytes, columns)),
      omega (arith, dated, bytes, front, columns),
    )

range-small : (id : ℕ) (kinds : List Kind) (lo hi : Key) (at : Time) → id < 2 ^ 32 → IsKey kinds lo → IsKey kinds hi → IsSized kinds (DelRange lo hi at) → IsSmall id kinds (Entry.Range (row_key id kinds lo) (row_key id kinds hi) at)
unfolding is_entry entry_code
range-small id kinds lo hi at small low high fit =
    let dated = mvcc-short (row_key id kinds lo) at in
    let first = key-short id kinds lo low in
    let last = key-short id kinds hi high in
    let front = sized-short (mvcc_key (row_key id kinds lo) at) in
    let back = sized-short (row_key id kinds hi) in
    let l = length-append (sized (mvcc_key (row_key id kinds lo) at)) (sized (row_key id kinds hi)) in
    let columns = fit.0 in
    let others = fit.1 in (
      and-both _ _ (and-both _ _ (key-known id kinds lo small low) (key-known id kinds hi small high)) (ap is_lt (keys-ordered id kinds small lo hi low high) ∙ fit.3),
      (fit.2, omega (arith, dated, first, columns), omega (arith, last, others)),
      omega (arith, dated, first, last, front, back, l, columns, others),
    )

-- a fact of a table, in bytes
pub coded-small : (id : ℕ) (kinds : List Kind) (f : RowFact) → id < 2 ^ 32 → IsRowFact kinds f → IsSized kinds f → IsSmall id kinds (entry_of (coded id kinds f))
coded-small id kinds (Put key cells at) small row fit = put-small id kinds key cells at small row.0 row.1 fit
coded-small id kinds (Del key at) small row fit = del-small id kinds key at small row fit
coded-small id kinds (DelRange lo hi at) small row fit = range-small id kinds lo hi at small row.0 row.1 fit

entries-short : (es : List Entry) → AllByRecursion (λ e. length (entry_code e) ≤ 40000) es → length (entries_code es) ≤ length es * 40000
entries-short [] all = omega arith
entries-short (e ∷ es) all = let l = length-append (entry_code e) (entries_code es) in let more = entries-short es all.1 in let one = all.0 in omega (arith, l, more, one)

pub chunk-short : (es : List Entry) → length es ≤ 256 → AllByRecursion (λ e. length (entry_code e) ≤ 40000) es → length (chunk_bytes es) < 2 ^ 64
unfolding chunk_bytes head_code
chunk-short es few all =
    let l = length-append (67 ∷ 72 ∷ 75 ∷ 49 ∷ uvarint (length es)) (entries_code es) in
    let n = number-length (length es) in
    let short = entries-short es all in omega (arith, l, n, short, few)
