-- Manifests are read as they are written.
use Rattle.std.proofs.Common.{◌≡◌, ℕ, ◌+◌, ◌<◌, ◌^◌, true, false, List, [], ◌∷◌, ◌++◌, length, nat_lt, nat_le, Option, Some, None, Result, Ok, Err, inl, inr, arith, refl, sym, ap, ◌∙◌, append_assoc}
use Rattle.std.specs.Prelude.{◌&&◌, ◌||◌, ◌==◌}
use Rattle.std.specs.List.{AllByRecursion}
use Rattle.std.specs.Str.{bytes_eq}
use Rattle.std.proofs.lemmas.Bool.{cases_Bool}
use Rattle.std.proofs.lemmas.Bool.Decides.{nat_tests}
use Rattle.std.proofs.lemmas.Slice.Eq.{bytes_eq-Decides}
use Rattle.key_encoding.specs.Coding.{IsWord}
use Rattle.list_laws.specs.Bytes.{AreBytes}
use Rattle.key_encoding.specs.Spelling.{uvarint}
use Rattle.mvcc_keys.specs.Times.{IsTime, time_lt, time_le, time_eq}
use Rattle.mvcc_keys.specs.Codes.{time_bytes}
use Rattle.row_codec.specs.declared.rows.Kind.{Kind}
use Rattle.row_codec.specs.RowValues.{sized}
use Rattle.row_codec.proofs.KeyOrder.{both_true}
use Rattle.table_descriptors.specs.Fields.{IsFormat, made_of, EachAfter, is_id, is_count, read_sized, read_name, flag_code, list_code}
use Rattle.table_descriptors.specs.Descriptors.{Schema, IsProperSchema}
use Rattle.table_descriptors.specs.DescriptorFiles.{schema_code, read_descriptor}
use Rattle.table_descriptors.specs.declared.scopes.Scope.{Scope}
use Rattle.table_descriptors.specs.declared.scopes.Scope.TheVariants.{Database, Tables}
use Rattle.table_descriptors.proofs.FieldLaws.{then-format, made-format, such-format, item-format, list-format, number-format, id-format, count-format, exactly-format, sized-format, name-format, time-format, flag-format, whole-found, whole-only, ok_parts, made_of-ok}
use Rattle.table_descriptors.proofs.ListLaws.{each-weaker}
use Rattle.table_descriptors.proofs.DescriptorLaws.{IsId, IsName, id-is, id-of, name-short, schema-format}
use Rattle.table_descriptors.proofs.DescriptorLengths.{schema-length}
use Rattle.layer_manifest.specs.Manifests.{comes_after, are_bounds, IsBounded, IsProperChunk, is_next_descriptor, kinds_of, part_id, chunk_count, IsNextTable, IsProperScope, IsProperManifest}
use Rattle.layer_manifest.specs.ManifestFiles.{version_code, bounds_code, chunk_code, descriptor_code, table_code, scope_code, manifest_code, is_version_code, version_of, read_version, read_scope_id, read_ids, read_marked_scope, read_scope, beside_or, inside_of, inside, read_next_descriptor, read_descriptors, read_keys, read_bounds, is_entry_count, chunk_of, read_chunk, read_chunks, table_of, read_table, read_tables, ManifestFields, read_items_of_manifest, manifest_of, read_manifest_front}
use Rattle.layer_manifest.specs.declared.manifest.ChunkInfo.{ChunkInfo}
use Rattle.layer_manifest.specs.declared.manifest.TablePart.{TablePart}
use Rattle.layer_manifest.specs.declared.manifest.Manifest.{Manifest}
use Rattle.list_laws.proofs.Bytes.{bytes-after, bytes-before}

-- ---- the version

abbrev IsVersion : ℕ → Type 0
IsVersion v = ((v == 1) || (v == 2)) ≡ true

version-into : (v : ℕ) → IsVersion v → ((length (version_code v) ≡ 4) × (is_version_code (version_code v) ≡ true)) × (version_of (version_code v) ≡ v)
version-into v h =
    elim (cases_Bool (v == 1)) [
      | inl t ↦ let is : v ≡ 1 = grind (arith, nat_tests) in rw is ((refl, refl), refl)
      | inr f ↦ let two : (v == 2) ≡ true = rw f at h in let is : v ≡ 2 = grind (arith, nat_tests) in rw is ((refl, refl), refl)
    ]

version-back : (b : List ℕ) → (length b ≡ 4) × (is_version_code b ≡ true) → IsVersion (version_of b) × (version_code (version_of b) ≡ b)
version-back b h =
    elim (cases_Bool (bytes_eq b (version_code 1))) [
      | inl t ↦ rw t (refl, sym ((bytes_eq-Decides b (version_code 1)).0 t))
      | inr f ↦ let two : bytes_eq b (version_code 2) ≡ true = rw f at h.1 in rw f (refl, sym ((bytes_eq-Decides b (version_code 2)).0 two))
    ]

pub version-format : IsFormat IsVersion version_code read_version
version-format = made-format IsVersion version_of version_code (such-format is_version_code (exactly-format 4)) version-into version-back

-- ---- the scope

scope_id-format : (before : List ℕ) → IsFormat (λ id. IsId id × (comes_after (λ n. n) before id ≡ true)) uvarint (read_scope_id before)
unfolding read_scope_id
scope_id-format before = such-format (comes_after (λ n. n) before) id-format

ids-format : IsFormat (λ ids. (IsWord (length ids) × (nat_lt 0 (length ids) ≡ true)) × EachAfter (λ before id. IsId id × (comes_after (λ n. n) before id ≡ true)) [] ids) (list_code uvarint) read_ids
ids-format = list-format (λ n. nat_lt 0 n) (λ n. scope_id-format)

ids-proper : (ids : List ℕ) → IsProperScope (Tables ids) → (IsWord (length ids) × (nat_lt 0 (length ids) ≡ true)) × EachAfter (λ before id. IsId id × (comes_after (λ n. n) before id ≡ true)) [] ids
ids-proper ids h = (
  (h.1, let s = h.0 in grind (arith, nat_tests)),
  each-weaker (λ before id. (is_id id ≡ true) × (comes_after (λ n. n) before id ≡ true)) (λ before id. IsId id × (comes_after (λ n. n) before id ≡ true)) (λ b id p. (id-is id p.0, p.1)) [] ids h.2,
)

proper-ids : (ids : List ℕ) → (IsWord (length ids) × (nat_lt 0 (length ids) ≡ true)) × EachAfter (λ before id. IsId id × (comes_after (λ n. n) before id ≡ true)) [] ids → IsProperScope (Tables ids)
proper-ids ids h = (
  let s = h.0.1 in grind (arith, nat_tests),
  h.0.0,
  each-weaker (λ before id. IsId id × (comes_after (λ n. n) before id ≡ true)) (λ before id. (is_id id ≡ true) × (comes_after (λ n. n) before id ≡ true)) (λ b id p. (p.0.1, p.1)) [] ids h.1,
)

database-format : IsFormat (λ s. IsProperScope s) scope_code read_marked_scope
database-format = record { found = found; only = only }
  where
    found : (s : Scope) (r : List ℕ) → IsProperScope s → read_marked_scope (scope_code s ++ r) ≡ Ok (s, r)
    found (Database name) r h = rw (name-format.found name r (name-short name h)) refl
    found (Tables ids) r h = rw (ids-format.found ids r (ids-proper ids h)) refl

    named : (b : List ℕ) (s : Scope) (r : List ℕ) → AreBytes b → made_of (λ name. Database name) (read_name b) ≡ Ok (s, r) → IsProperScope s × (1 ∷ b ≡ scope_code s ++ r)
    named b s r h e =
        let is = made_of-ok (λ name. Database name) (read_name b) s r e in
        let was = name-format.only b is.0 r h is.1 in
        rw (← is.2) (was.0.1, ap (λ t. 1 ∷ t) was.1)

    listed : (b : List ℕ) (s : Scope) (r : List ℕ) → AreBytes b → made_of (λ ids. Tables ids) (read_ids b) ≡ Ok (s, r) → IsProperScope s × (2 ∷ b ≡ scope_code s ++ r)
    listed b s r h e =
        let is = made_of-ok (λ ids. Tables ids) (read_ids b) s r e in
        let was = ids-format.only b is.0 r h is.1 in
        rw (← is.2) (proper-ids is.0 was.0, ap (λ t. 2 ∷ t) was.1)

    only : (b : List ℕ) (s : Scope) (r : List ℕ) → AreBytes b → read_marked_scope b ≡ Ok (s, r) → IsProperScope s × (b ≡ scope_code s ++ r)
    only [] s r h e = absurd (cc)
    only (mark ∷ b) s r h e =
        elim (cases_Bool (mark == 1)) [
          | inl t ↦ let is : mark ≡ 1 = grind (arith, nat_tests) in rw is (named b s r h.1 (rw t at e))
          | inr f ↦ elim (cases_Bool (mark == 2)) [
            | inl t ↦ let is : mark ≡ 2 = grind (arith, nat_tests) in rw is (listed b s r h.1 (rw (f, t) at e))
            | inr g ↦ let e' = rw (f, g) at e in absurd (cc)
          ]
        ]

pub scope-format : IsFormat IsProperScope scope_code read_scope
unfolding read_scope
scope-format = item-format database-format

-- ---- descriptors

beside_or-ok : {X : Type 0} (at : ℕ) (rest : List ℕ) (o : Result X ℕ) (x : X) (r : List ℕ) → beside_or at rest o ≡ Ok (x, r) → (o ≡ Ok x) × (rest ≡ r)
beside_or-ok {X} at rest (Ok y) x r e = let parts = ok_parts (y, rest) (x, r) e in (ap (λ (z : X). let w : Result X ℕ = Ok z in w) parts.0, parts.1)
beside_or-ok at rest (Err left) x r e = absurd (cc)

inside_of-ok : {X : Type 0} (read : List ℕ → Result X ℕ) (at : ℕ) (o : Result (List ℕ × List ℕ) ℕ) (x : X) (r : List ℕ) → inside_of read at o ≡ Ok (x, r) → (v : List ℕ) × (o ≡ Ok (v, r)) × (read v ≡ Ok x)
inside_of-ok read at (Ok p) x r e =
    let is = beside_or-ok at p.1 (read p.0) x r e in
    (p.0, ap (λ (t : List ℕ). let w : Result (List ℕ × List ℕ) ℕ = Ok (p.0, t) in w) is.1, is.0)
inside_of-ok read at (Err left) x r e = absurd (cc)

inside-format : IsFormat IsProperSchema descriptor_code (inside read_descriptor)
unfolding read_descriptor
inside-format = record {
  found = λ d r h. rw (sized-format.found (schema_code d) r (schema-length d h), whole-found schema-format d h) refl;
  only = λ b d r h e.
      let is = inside_of-ok read_descriptor (length b) (read_sized b) d r e in
      let front = sized-format.only b is.0 r h is.1 in
      let inner = bytes-before is.0 r (bytes-after (uvarint (length is.0)) (is.0 ++ r) (rw (front.1, append_assoc (uvarint (length is.0)) is.0 r) at h)) in
      let was = whole-only schema-format is.0 d inner is.2 in
      (was.0, front.1 ∙ ap (λ v. sized v ++ r) was.1);
}

pub next_descriptor-format : (id : ℕ) (before : List Schema) → IsFormat (λ d. IsProperSchema d × (is_next_descriptor id before d ≡ true)) descriptor_code (read_next_descriptor id before)
unfolding read_next_descriptor
next_descriptor-format id before = such-format (is_next_descriptor id before) inside-format

abbrev AreDescriptors : ℕ → List Schema → Type 0
AreDescriptors id ds = (IsWord (length ds) × (nat_lt 0 (length ds) ≡ true)) × EachAfter (λ before d. IsProperSchema d × (is_next_descriptor id before d ≡ true)) [] ds

descriptors-format : (id : ℕ) → IsFormat (AreDescriptors id) (list_code descriptor_code) (read_descriptors id)
descriptors-format id = list-format (λ n. nat_lt 0 n) (λ n. next_descriptor-format id)

-- ---- chunks

keys-format : (table : ℕ) (kinds : List Kind)
    → IsFormat (λ (k : List ℕ × List ℕ). ((length k.0 < 2 ^ 64) × (length k.1 < 2 ^ 64)) × (are_bounds table kinds k ≡ true)) (λ k. sized k.0 ++ sized k.1) (read_keys table kinds)
keys-format table kinds = such-format (are_bounds table kinds) (then-format sized-format (λ least. sized-format))

bounds-format : (version table : ℕ) (kinds : List Kind) → IsFormat (IsBounded version table kinds) bounds_code (read_bounds version table kinds)
bounds-format version table kinds = record { found = found; only = only }
  where
    found : (o : Option (List ℕ × List ℕ)) (r : List ℕ) → IsBounded version table kinds o → read_bounds version table kinds (bounds_code o ++ r) ≡ Ok (o, r)
    found None r h = rw h refl
    found (Some keys) r h = rw (h.0, (keys-format table kinds).found keys r ((h.2, h.3), h.1)) refl

    some : (b : List ℕ) (o : Option (List ℕ × List ℕ)) (r : List ℕ) → (version == 1) ≡ false → AreBytes b → made_of (λ keys. Some keys) (read_keys table kinds b) ≡ Ok (o, r) → IsBounded version table kinds o × (b ≡ bounds_code o ++ r)
    some b o r v h e =
        let is = made_of-ok (λ (keys : List ℕ × List ℕ). Some keys) (read_keys table kinds b) o r e in
        let was = (keys-format table kinds).only b is.0 r h is.1 in
        rw (← is.2) ((v, was.0.1, was.0.0.0, was.0.0.1), was.1)

    only : (b : List ℕ) (o : Option (List ℕ × List ℕ)) (r : List ℕ) → AreBytes b → read_bounds version table kinds b ≡ Ok (o, r) → IsBounded version table kinds o × (b ≡ bounds_code o ++ r)
    only b o r h e =
        elim (cases_Bool (version == 1)) [
          | inl t ↦ let parts = ok_parts (None, b) (o, r) (rw t at e) in rw (← parts.0) (t, parts.1)
          | inr f ↦ some b o r f h (rw f at e)
        ]

pub chunk-format : (version table : ℕ) (kinds : List Kind) → IsFormat (IsProperChunk version table kinds) chunk_code (read_chunk version table kinds)
unfolding read_chunk
chunk-format version table kinds = item-format (made-format (IsProperChunk version table kinds) chunk_of (λ (c : ChunkInfo). (c.entries, (c.length, (c.digest, c.bounds))))
    (then-format (such-format is_entry_count number-format) (λ entries. then-format number-format (λ len. then-format (exactly-format 32) (λ digest. bounds-format version table kinds))))
    (λ c h. (((let f = h.few in omega arith, let s = h.some in let f = h.few in grind (arith, nat_tests)), (h.long, (h.digest, h.bounded))), refl))
    (λ p h.
    let count = both_true (nat_lt 0 p.0) (nat_le p.0 256) h.0.1 in
    (record { some = let a = count.0 in grind (arith, nat_tests); few = let a = count.1 in grind (arith, nat_tests); long = h.1.0; digest = h.1.1.0; bounded = h.1.1.1 }, refl)))

abbrev AreChunks : ℕ → ℕ → List Kind → ℕ → List ChunkInfo → Type 0
AreChunks version table kinds so_far cs = (IsWord (length cs) × (nat_le (so_far + length cs) 1000000 ≡ true)) × EachAfter (λ before c. IsProperChunk version table kinds c) [] cs

chunks-format : (version table : ℕ) (kinds : List Kind) (so_far : ℕ) → IsFormat (AreChunks version table kinds so_far) (list_code chunk_code) (read_chunks version table kinds so_far)
chunks-format version table kinds so_far = list-format (λ n. nat_le (so_far + n) 1000000) (λ n before. chunk-format version table kinds)

each-plain : {X : Type 0} (P : X → Type 0) (before xs : List X) → AllByRecursion P xs → EachAfter (λ b x. P x) before xs
each-plain P before [] h = tt
each-plain P before (x ∷ xs) h = (h.0, each-plain P (before ++ x ∷ []) xs h.1)

plain-each : {X : Type 0} (P : X → Type 0) (before xs : List X) → EachAfter (λ b x. P x) before xs → AllByRecursion P xs
plain-each P before [] h = tt
plain-each P before (x ∷ xs) h = (h.0, plain-each P (before ++ x ∷ []) xs h.1)

-- ---- tables

table-format : (version : ℕ) (before : List TablePart) → IsFormat (IsNextTable version before) table_code (read_table version before)
unfolding read_table
table-format version before = made-format (IsNextTable version before) table_of (λ (t : TablePart). (t.id, (t.introduced, (t.descriptors, t.chunks))))
    (then-format (such-format (comes_after part_id before) id-format) (λ id. then-format flag-format (λ introduced. then-format (descriptors-format id) (λ ds. chunks-format version id (kinds_of ds) (chunk_count before)))))
    (λ t h. (
      (
        (id-of t.id h.id, h.after),
        (
          tt,
          (
            ((h.counted, let s = h.some in grind (arith, nat_tests)), h.descriptors),
            ((let f = h.few in omega arith, let f = h.few in grind (arith, nat_tests)), each-plain (IsProperChunk version t.id (kinds_of t.descriptors)) [] t.chunks h.chunks),
          ),
        ),
      ),
      refl,
    ))
    (λ p h. (
      record {
        id = let a = h.0.0.1 in grind (arith, nat_tests);
        after = h.0.1;
        some = let a = h.1.1.0.0.1 in grind (arith, nat_tests);
        counted = h.1.1.0.0.0;
        descriptors = h.1.1.0.1;
        few = let a = h.1.1.1.0.1 in grind (arith, nat_tests);
        chunks = plain-each (IsProperChunk version p.0 (kinds_of p.1.1.0)) [] p.1.1.1 h.1.1.1.1;
      },
      refl,
    ))

abbrev AreTables : ℕ → List TablePart → Type 0
AreTables version ts = (IsWord (length ts) × (true ≡ true)) × EachAfter (IsNextTable version) [] ts

tables-format : (version : ℕ) → IsFormat (AreTables version) (list_code table_code) (read_tables version)
tables-format version = list-format (λ n. true) (λ n. table-format version)

-- ---- manifests

abbrev AreFields : ManifestFields → Type 0
AreFields p =
    IsVersion p.0 × (IsName p.1.0 × ((IsId p.1.1.0 × (is_count p.1.1.0 ≡ true)) × (IsTime p.1.1.1.0 × (IsTime p.1.1.1.1.0
    × ((IsTime p.1.1.1.1.1.0 × ((time_lt p.1.1.1.1.0 p.1.1.1.1.1.0 && time_le p.1.1.1.0 p.1.1.1.1.1.0) ≡ true))
    × ((IsTime p.1.1.1.1.1.1.0 × ((time_le p.1.1.1.1.0 p.1.1.1.1.1.1.0 && time_le p.1.1.1.1.1.1.0 p.1.1.1.1.1.0) ≡ true))
    × ((Unit {0} × ((p.1.1.1.1.1.1.1.0 || time_eq p.1.1.1.1.1.1.0 p.1.1.1.1.0) ≡ true)) × (IsProperScope p.1.1.1.1.1.1.1.1.0 × AreTables p.0 p.1.1.1.1.1.1.1.1.1))))))))

abbrev fields_code : ManifestFields → List ℕ
fields_code p =
    version_code p.0 ++ (sized p.1.0 ++ (uvarint p.1.1.0 ++ (time_bytes p.1.1.1.0 ++ (time_bytes p.1.1.1.1.0 ++ (time_bytes p.1.1.1.1.1.0 ++ (time_bytes p.1.1.1.1.1.1.0
    ++ ((flag_code p.1.1.1.1.1.1.1.0 ∷ []) ++ (scope_code p.1.1.1.1.1.1.1.1.0 ++ list_code table_code p.1.1.1.1.1.1.1.1.1))))))))

fields-format : IsFormat AreFields fields_code read_items_of_manifest
fields-format =
    then-format version-format (λ version. then-format name-format (λ cluster. then-format count-format (λ job. then-format time-format (λ full. then-format time-format (λ start.
    then-format (such-format (λ end. time_lt start end && time_le full end) time-format) (λ end. then-format (such-format (λ floor. time_le start floor && time_le floor end) time-format) (λ floor.
    then-format (such-format (λ history. history || time_eq floor start) flag-format) (λ history. then-format scope-format (λ scope. tables-format version)))))))))

abbrev parts_of : Manifest → ManifestFields
parts_of m = (m.version, (m.cluster, (m.job, (m.full, (m.start, (m.end, (m.floor, (m.history, (m.scope, m.tables)))))))))

parts-fit : (m : Manifest) → IsProperManifest m → AreFields (parts_of m) × (manifest_of (parts_of m) ≡ m)
parts-fit m h =
    ((h.version, (name-short m.cluster h.cluster, ((id-of m.job h.job, let v = h.from_one in grind (arith, nat_tests)), (h.full, (h.start, ((h.end, h.ends), ((h.floor, h.floors), ((tt, h.history), (h.scope, ((h.counted, refl), h.tables)))))))))), refl)

fields-proper : (p : ManifestFields) → AreFields p → IsProperManifest (manifest_of p) × (parts_of (manifest_of p) ≡ p)
fields-proper p h = (
  record {
    version = h.0;
    cluster = h.1.0.1;
    from_one = let a = h.1.1.0.1 in grind (arith, nat_tests);
    job = let a = h.1.1.0.0.1 in grind (arith, nat_tests);
    full = h.1.1.1.0;
    start = h.1.1.1.1.0;
    end = h.1.1.1.1.1.0.0;
    floor = h.1.1.1.1.1.1.0.0;
    ends = h.1.1.1.1.1.0.1;
    floors = h.1.1.1.1.1.1.0.1;
    history = h.1.1.1.1.1.1.1.0.1;
    scope = h.1.1.1.1.1.1.1.1.0;
    counted = h.1.1.1.1.1.1.1.1.1.0.0;
    tables = h.1.1.1.1.1.1.1.1.1.1;
  },
  refl,
)

code-parts : (m : Manifest) → manifest_code m ≡ fields_code (parts_of m)
unfolding manifest_code
code-parts m = simp append_assoc refl

pub manifest-format : IsFormat IsProperManifest manifest_code read_manifest_front
unfolding read_manifest_front
manifest-format =
    let made = made-format IsProperManifest manifest_of parts_of fields-format parts-fit fields-proper in
    record {
      found = λ m r h. rw (code-parts m) (made.found m r h);
      only = λ b m r h e. let was = made.only b m r h e in (was.0, rw (code-parts m) was.1);
    }
