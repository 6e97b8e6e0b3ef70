-- No fault is found exactly where the parts are whole.
use Rattle.std.proofs.Common.{◌≡◌, ◌∙◌, inl, inr, ℕ, zero, suc, ◌+◌, Bool, true, false, refl, sym, ap, subst, arith, List, [], ◌∷◌, length, Option, Some, None, Result, Ok, Err}
use Rattle.std.specs.Prelude.{if◌then◌else◌}
use Rattle.std.specs.List.{AllByRecursion, slice_get}
use Rattle.std.specs.Str.{bytes_eq}
use Rattle.std.proofs.lemmas.Option.{slice_get_cases, slice_get_within}
use Rattle.std.proofs.lemmas.Slice.Eq.{bytes_eq-Decides}
use Rattle.sha2.specs.Sha256.{sha256}
use Rattle.mvcc_keys.specs.declared.entries.Entry.{Entry}
use Rattle.row_codec.specs.declared.rows.Kind.{Kind}
use Rattle.row_codec.proofs.KeyLaws.{ok_is}
use Rattle.chunk_file.specs.Chunks.{head_code, read_chunk}
use Rattle.layer_merge.specs.Stands.{first_of, goes_on}
use Rattle.outside_world.specs.Objects.{Objects, at}
use Rattle.layer_manifest.specs.declared.manifest.ChunkInfo.{ChunkInfo}
use Rattle.layer_model.specs.declared.names.LayerName.{LayerName}
use Rattle.layer_model.specs.declared.names.Part.TheVariants.{Chunk}
use Rattle.layer_model.specs.Names.{object_name}
use Rattle.collection_dir.specs.declared.fault.DirFault.{DirFault}
use Rattle.collection_dir.specs.declared.fault.DirFault.TheVariants.{Damaged, Malformed}
use Rattle.stored_chunks.specs.Told.{is_told, read_told, tested}
use Rattle.stored_chunks.specs.Loads.{chunk_at, held, or_malformed}
use Rattle.stored_chunks.specs.Places.{Stored}
use Rattle.restore_rows.specs.Checks.{ChecksFindFaults, HoldsChunk, IsWholePart, check_chunk, check_from, check_part, check_parts, goes_after, last_after, then_check}

-- ---- one chunk

module _ (layer : LayerName) (number table : ℕ) (kinds : List Kind) (info : ChunkInfo) where
  abbrev name : List ℕ
  name = object_name layer (Chunk number)

  told-parts : (bytes : List ℕ) (entries : List Entry) → read_told table kinds info bytes ≡ Ok entries → (read_chunk table kinds bytes ≡ Ok entries) × (is_told info (length bytes) entries ≡ true)
  unfolding read_told
  told-parts bytes entries e = by (read_chunk table kinds bytes) refl e
    where
      told-by : (found : List Entry) → read_chunk table kinds bytes ≡ Ok found → (t : Bool) → is_told info (length bytes) found ≡ t → (let r : Result (List Entry) ℕ = if t then Ok found else Err 4 in r ≡ Ok entries)
          → (read_chunk table kinds bytes ≡ Ok entries) × (is_told info (length bytes) entries ≡ true)
      told-by found reads true is e = (reads ∙ e, subst (λ (es : List Entry). is_told info (length bytes) es ≡ true) (ok_is found entries e) is)
      told-by found reads false is e = cc e

      by : (r : Result (List Entry) ℕ) → read_chunk table kinds bytes ≡ r → tested info (length bytes) r ≡ Ok entries → (read_chunk table kinds bytes ≡ Ok entries) × (is_told info (length bytes) entries ≡ true)
      by (Err offset) reads e = cc e
      by (Ok found) reads e = told-by found reads (is_told info (length bytes) found) refl e

  parts-told : (bytes : List ℕ) (entries : List Entry) → read_chunk table kinds bytes ≡ Ok entries → is_told info (length bytes) entries ≡ true → read_told table kinds info bytes ≡ Ok entries
  unfolding read_told
  parts-told bytes entries reads told = ap (tested info (length bytes)) reads ∙ rw told refl

  well-formed : (r : Result (List Entry) ℕ) (entries : List Entry) → or_malformed name r ≡ Ok entries → r ≡ Ok entries
  well-formed (Ok found) entries e = (let same : found ≡ entries = cc e in ap (λ (es : List Entry). Ok es) same)
  well-formed (Err offset) entries e = cc e

  module _ (objects : Objects) (entries : List Entry) where
    pub chunk-holds : chunk_at layer number table kinds info objects ≡ Ok entries → HoldsChunk layer number table kinds info objects entries
    unfolding chunk_at
    chunk-holds e = by (at objects name) refl e
      where
        same-by : (bytes : List ℕ) → at objects name ≡ Some bytes → (b : Bool) → bytes_eq (sha256 bytes) info.digest ≡ b
            → (let r : Result (List Entry) DirFault = if b then or_malformed name (read_told table kinds info bytes) else Err (Damaged name info.digest (Some (sha256 bytes))) in r ≡ Ok entries)
            → HoldsChunk layer number table kinds info objects entries
        same-by bytes there true same e = (let reads = told-parts bytes entries (well-formed (read_told table kinds info bytes) entries e) in record {
          bytes = bytes;
          there = there;
          digest = (bytes_eq-Decides (sha256 bytes) info.digest).0 same;
          reads = reads.0;
          told = reads.1;
        })
        same-by bytes there false same e = cc e

        by : (o : Option (List ℕ)) → at objects name ≡ o → held name table kinds info o ≡ Ok entries → HoldsChunk layer number table kinds info objects entries
        by None there e = cc e
        by (Some bytes) there e = same-by bytes there (bytes_eq (sha256 bytes) info.digest) refl e

    pub holds-chunk : HoldsChunk layer number table kinds info objects entries → chunk_at layer number table kinds info objects ≡ Ok entries
    unfolding chunk_at
    holds-chunk h = ap (held name table kinds info) h.there ∙ rw ((bytes_eq-Decides (sha256 h.bytes) info.digest).1 h.digest) (ap (or_malformed name) (parts-told h.bytes entries h.reads h.told))

-- ---- chunks one after another

pub none-goes : (after : Option Entry) → goes_on None after ≡ true
none-goes None = refl
none-goes (Some e) = refl

module _ (p : Stored) (table : ℕ) (kinds : List Kind) (objects : Objects) where
  abbrev chunk_of : ℕ → ChunkInfo → Result (List Entry) DirFault
  chunk_of i info = chunk_at p.layer (p.first + i) table kinds info objects

  abbrev object_of : ℕ → List ℕ
  object_of i = object_name p.layer (Chunk (p.first + i))

  -- these are the entries of the chunks from a number on, which go on one after the other
  abbrev AreHeldFrom : ℕ → Option Entry → List ChunkInfo → List (List Entry) → Type 0
  AreHeldFrom i last [] [] = Unit {0}
  AreHeldFrom i last [] (es ∷ chunks) = ⊥
  AreHeldFrom i last (info ∷ infos) [] = ⊥
  AreHeldFrom i last (info ∷ infos) (es ∷ chunks) = (chunk_of i info ≡ Ok es) × (goes_on last (first_of es) ≡ true) × AreHeldFrom (i + 1) (last_after None es) infos chunks

  one-held : (i : ℕ) (last : Option Entry) (info : ChunkInfo) (es : List Entry) → check_chunk p table kinds objects i last info ≡ Ok es → (chunk_of i info ≡ Ok es) × (goes_on last (first_of es) ≡ true)
  one-held i last info es e = by (chunk_of i info) refl e
    where
      goes-by : (found : List Entry) → chunk_of i info ≡ Ok found → (b : Bool) → goes_on last (first_of found) ≡ b → (let r : Result (List Entry) DirFault = if b then Ok found else Err (Malformed (object_of i) (length (head_code found))) in r ≡ Ok es)
          → (chunk_of i info ≡ Ok es) × (goes_on last (first_of es) ≡ true)
      goes-by found is true goes e = (is ∙ e, (let same : found ≡ es = cc e in subst (λ (x : List Entry). goes_on last (first_of x) ≡ true) same goes))
      goes-by found is false goes e = cc e

      by : (r : Result (List Entry) DirFault) → chunk_of i info ≡ r → goes_after (object_of i) last (λ (entries : List Entry). Ok entries) r ≡ Ok es → (chunk_of i info ≡ Ok es) × (goes_on last (first_of es) ≡ true)
      by (Err fault) is e = cc e
      by (Ok found) is e = goes-by found is (goes_on last (first_of found)) refl e

  one-found : (i : ℕ) (last : Option Entry) (info : ChunkInfo) (es : List Entry) → chunk_of i info ≡ Ok es → goes_on last (first_of es) ≡ true → check_chunk p table kinds objects i last info ≡ Ok es
  one-found i last info es is goes = ap (goes_after (object_of i) last (λ (entries : List Entry). Ok entries)) is ∙ rw goes refl

  held-from : (i : ℕ) (last : Option Entry) (infos : List ChunkInfo) → check_from p table kinds objects i last infos ≡ Ok tt → (chunks : List (List Entry)) × AreHeldFrom i last infos chunks
  held-from i last [] e = ([], tt)
  held-from i last (info ∷ infos) e = by (check_chunk p table kinds objects i last info) refl e (λ es. held-from (i + 1) (last_after None es) infos)
    where
      by : (r : Result (List Entry) DirFault) → check_chunk p table kinds objects i last info ≡ r → then_check (λ (entries : List Entry). check_from p table kinds objects (i + 1) (last_after None entries) infos) r ≡ Ok tt
          → ((es : List Entry) → check_from p table kinds objects (i + 1) (last_after None es) infos ≡ Ok tt → (chunks : List (List Entry)) × AreHeldFrom (i + 1) (last_after None es) infos chunks)
          → (chunks : List (List Entry)) × AreHeldFrom i last (info ∷ infos) chunks
      by (Err fault) is e more = cc e
      by (Ok es) is e more = (let one = one-held i last info es is in let rest = more es e in (es ∷ rest.0, (one.0, one.1, rest.1)))

  from-held : (i : ℕ) (last : Option Entry) (infos : List ChunkInfo) (chunks : List (List Entry)) → AreHeldFrom i last infos chunks → check_from p table kinds objects i last infos ≡ Ok tt
  from-held i last [] [] are = refl
  from-held i last [] (es ∷ chunks) are = absurd are
  from-held i last (info ∷ infos) [] are = absurd are
  from-held i last (info ∷ infos) (es ∷ chunks) are =
      ap (then_check (λ (entries : List Entry). check_from p table kinds objects (i + 1) (last_after None entries) infos)) (one-found i last info es are.0 are.1) ∙ from-held (i + 1) (last_after None es) infos chunks are.2

  counted-so : (i : ℕ) (last : Option Entry) (infos : List ChunkInfo) (chunks : List (List Entry)) → AreHeldFrom i last infos chunks → length chunks ≡ length infos
  counted-so i last [] [] are = refl
  counted-so i last [] (es ∷ chunks) are = absurd are
  counted-so i last (info ∷ infos) [] are = absurd are
  counted-so i last (info ∷ infos) (es ∷ chunks) are = ap suc (counted-so (i + 1) (last_after None es) infos chunks are.2)

  holds-so : (i j : ℕ) (last : Option Entry) (infos : List ChunkInfo) (chunks : List (List Entry)) (info : ChunkInfo) (es : List Entry) → AreHeldFrom i last infos chunks → slice_get infos j ≡ Some info → slice_get chunks j ≡ Some es → chunk_of (i + j) info ≡ Ok es
  holds-so i j last [] [] info es are got found = cc got
  holds-so i j last [] (c ∷ chunks) info es are got found = absurd are
  holds-so i j last (x ∷ infos) [] info es are got found = absurd are
  holds-so i zero last (x ∷ infos) (c ∷ chunks) info es are got found =
      let own : x ≡ info = cc got in
      let same : c ≡ es = cc found in
      let place : i + 0 ≡ i = omega arith in
      ap (λ (k : ℕ). chunk_of k info) place ∙ (ap (chunk_of i) (sym own) ∙ (are.0 ∙ ap (λ (z : List Entry). Ok z) same))
  holds-so i (suc j) last (x ∷ infos) (c ∷ chunks) info es are got found =
      let place : i + suc j ≡ i + 1 + j = omega arith in
      ap (λ (k : ℕ). chunk_of k info) place ∙ holds-so (i + 1) j (last_after None c) infos chunks info es are.2 got found

  goes-first : (i : ℕ) (last : Option Entry) (infos : List ChunkInfo) (chunks : List (List Entry)) (after : List Entry) → AreHeldFrom i last infos chunks → slice_get chunks 0 ≡ Some after → goes_on last (first_of after) ≡ true
  goes-first i last [] [] after are got = cc got
  goes-first i last [] (c ∷ chunks) after are got = absurd are
  goes-first i last (x ∷ infos) [] after are got = absurd are
  goes-first i last (x ∷ infos) (c ∷ chunks) after are got = (let same : c ≡ after = cc got in subst (λ (es : List Entry). goes_on last (first_of es) ≡ true) same are.1)

  ordered-so : (i j : ℕ) (last : Option Entry) (infos : List ChunkInfo) (chunks : List (List Entry)) (before after : List Entry) → AreHeldFrom i last infos chunks → slice_get chunks j ≡ Some before → slice_get chunks (j + 1) ≡ Some after → goes_on (last_after None before) (first_of after) ≡ true
  ordered-so i j last [] [] before after are got next = cc got
  ordered-so i j last [] (c ∷ chunks) before after are got next = absurd are
  ordered-so i j last (x ∷ infos) [] before after are got next = absurd are
  ordered-so i zero last (x ∷ infos) (c ∷ chunks) before after are got next =
      let same : c ≡ before = cc got in
      subst (λ (es : List Entry). goes_on (last_after None es) (first_of after) ≡ true) same (goes-first (i + 1) (last_after None c) infos chunks after are.2 next)
  ordered-so i (suc j) last (x ∷ infos) (c ∷ chunks) before after are got next =
      let place : suc (j + 1) ≡ suc j + 1 = omega arith in
      ordered-so (i + 1) j (last_after None c) infos chunks before after are.2 got (ap (slice_get (c ∷ chunks)) place ∙ next)

  pub check-whole : check_part table kinds objects p ≡ Ok tt → IsWholePart table kinds objects p
  check-whole e = (let found = held-from 0 None p.chunks e in record {
    chunks = found.0;
    counted = counted-so 0 None p.chunks found.0 found.1;
    holds = λ i info es got is. chunk-holds p.layer (p.first + i) table kinds info objects es (let place : i ≡ 0 + i = omega arith in ap (λ (k : ℕ). chunk_of k info) place ∙ holds-so 0 i None p.chunks found.0 info es found.1 got is);
    ordered = λ i before after got next. ordered-so 0 i None p.chunks found.0 before after found.1 got next;
  })

  -- and the other way

  abbrev AreHeld : ℕ → List ChunkInfo → List (List Entry) → Type 0
  AreHeld i infos chunks = (j : ℕ) (info : ChunkInfo) (es : List Entry) → slice_get infos j ≡ Some info → slice_get chunks j ≡ Some es → chunk_of (i + j) info ≡ Ok es

  abbrev GoOn : List (List Entry) → Type 0
  GoOn chunks = (j : ℕ) (before after : List Entry) → slice_get chunks j ≡ Some before → slice_get chunks (j + 1) ≡ Some after → goes_on (last_after None before) (first_of after) ≡ true

  whole-from : (i : ℕ) (last : Option Entry) (infos : List ChunkInfo) (chunks : List (List Entry)) → length chunks ≡ length infos → AreHeld i infos chunks → GoOn chunks → ((first : List Entry) → slice_get chunks 0 ≡ Some first → goes_on last (first_of first) ≡ true) → AreHeldFrom i last infos chunks
  whole-from i last [] [] count all go first = tt
  whole-from i last [] (c ∷ chunks) count all go first = absurd (cc count)
  whole-from i last (x ∷ infos) [] count all go first = absurd (cc count)
  whole-from i last (x ∷ infos) (c ∷ chunks) count all go first = (
    (let place : i + 0 ≡ i = omega arith in ap (λ (k : ℕ). chunk_of k x) (sym place) ∙ all 0 x c refl refl),
    first c refl,
    whole-from (i + 1) (last_after None c) infos chunks (let n : suc (length chunks) ≡ suc (length infos) = count in omega (arith, n))
        (λ j info es got is. (let place : i + suc j ≡ i + 1 + j = omega arith in ap (λ (k : ℕ). chunk_of k info) (sym place) ∙ all (suc j) info es got is))
        (λ j before after got next. (let place : suc j + 1 ≡ suc (j + 1) = omega arith in go (suc j) before after got (ap (slice_get (c ∷ chunks)) place ∙ next)))
        (λ after got. go 0 c after refl got),
  )

  pub whole-check : IsWholePart table kinds objects p → check_part table kinds objects p ≡ Ok tt
  whole-check w = from-held 0 None p.chunks w.chunks
      (whole-from 0 None p.chunks w.chunks w.counted (λ j info es got is. (let place : 0 + j ≡ j = omega arith in ap (λ (k : ℕ). chunk_of k info) place ∙ holds-chunk p.layer (p.first + j) table kinds info objects es (w.holds j info es got is))) (λ j before after got next. w.ordered j before after got next) (λ first got. none-goes (first_of first)))

  -- the entries of a chunk of a whole part
  pub whole-chunk : (w : IsWholePart table kinds objects p) (i : ℕ) (info : ChunkInfo) → slice_get p.chunks i ≡ Some info → (es : List Entry) × (slice_get w.chunks i ≡ Some es) × (chunk_of i info ≡ Ok es)
  whole-chunk w i info got = elim (slice_get_cases w.chunks i).1 [
    | inl x ↦ (x.0, x.2, holds-chunk p.layer (p.first + i) table kinds info objects x.0 (w.holds i info x.0 got x.2))
    | inr x ↦ absurd (let lt = slice_get_within p.chunks i info got in let n = w.counted in let le = x.0 in omega (arith, lt, n, le))
  ]

-- ---- parts

module _ (table : ℕ) (kinds : List Kind) (objects : Objects) where
  pub checks-whole : (ps : List Stored) → check_parts table kinds objects ps ≡ Ok tt → AllByRecursion (IsWholePart table kinds objects) ps
  checks-whole [] e = tt
  checks-whole (p ∷ ps) e = by (check_part table kinds objects p) refl e (checks-whole ps)
    where
      by : (r : Result (Unit {0}) DirFault) → check_part table kinds objects p ≡ r → then_check (λ (u : Unit {0}). check_parts table kinds objects ps) r ≡ Ok tt
          → (check_parts table kinds objects ps ≡ Ok tt → AllByRecursion (IsWholePart table kinds objects) ps) → AllByRecursion (IsWholePart table kinds objects) (p ∷ ps)
      by (Err fault) is e more = cc e
      by (Ok u) is e more = (check-whole p table kinds objects is, more e)

  pub whole-checks : (ps : List Stored) → AllByRecursion (IsWholePart table kinds objects) ps → check_parts table kinds objects ps ≡ Ok tt
  whole-checks [] all = refl
  whole-checks (p ∷ ps) all = ap (then_check (λ (u : Unit {0}). check_parts table kinds objects ps)) (whole-check p table kinds objects all.0) ∙ whole-checks ps all.1

pub checks-find : ChecksFindFaults
checks-find table kinds objects ps = (checks-whole table kinds objects ps, whole-checks table kinds objects ps)
