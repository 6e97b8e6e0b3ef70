-- Manifests that are refused, are refused at their first fault.
use Rattle.std.proofs.Common.{◌≡◌, ℕ, ◌+◌, ◌<◌, ◌≤◌, ◌^◌, Bool, true, List, length, nat_le, nat_lt, Result, Ok, Err, arith, refl, sym}
use Rattle.std.specs.Prelude.{◌&&◌, ◌||◌}
use Rattle.std.proofs.lemmas.Bool.Decides.{nat_tests}
use Rattle.list_laws.specs.Bytes.{AreBytes}
use Rattle.mvcc_keys.specs.Times.{Time, IsTime, time_le, time_lt, time_eq}
use Rattle.row_codec.specs.FirstFaults.{Grammar, Over}
use Rattle.row_codec.specs.declared.rows.Kind.{Kind}
use Rattle.row_codec.proofs.KeyOrder.{both_true}
use Rattle.row_codec.proofs.FaultWalks.{told}
use Rattle.table_descriptors.specs.Fields.{flag_of, read_byte, read_count, read_exactly, read_id, read_name, read_sized, read_time, such, ◌then◌}
use Rattle.table_descriptors.specs.Descriptors.{Schema}
use Rattle.table_descriptors.specs.DescriptorFiles.{read_descriptor}
use Rattle.table_descriptors.specs.DescriptorFaults.{counted}
use Rattle.table_descriptors.specs.declared.scopes.Scope.{Scope}
use Rattle.table_descriptors.proofs.FieldLaws.{flag-format, id-format, such-format, time-format}
use Rattle.table_descriptors.proofs.DescriptorLaws.{id-of}
use Rattle.table_descriptors.proofs.DescriptorWalks.{count-goes, fits, flag-goes, name-goes, time-goes}
use Rattle.table_descriptors.proofs.FieldWalks.{FailsInFront, Goes, byte-front, exactly-front, field-goes, id-front, item-front, list-goes, made-front, made-goes, sized-front, such-front, then-goes, time-front, whole-tells}
use Rattle.layer_manifest.specs.Manifests.{chunk_count, comes_after, is_next_descriptor, kinds_of, part_id}
use Rattle.layer_manifest.specs.ManifestFiles.{beside_or, inside, inside_of, is_version_code, manifest_of, read_chunk, read_chunk_fields, read_chunks, read_descriptors, read_end, read_floor, read_history, read_items_of_manifest, read_manifest, read_manifest_front, read_marked_scope, read_next_descriptor, read_scope, read_table, read_tables, read_version, table_of, version_of}
use Rattle.layer_manifest.specs.ManifestFaults.{chunk_item, descriptor_item, end_item, floor_item, history_item, manifest_grammar, scope_item, table_items, version_item, ManifestFaultsAreFirst}
use Rattle.layer_manifest.specs.declared.manifest.ChunkInfo.{ChunkInfo}
use Rattle.layer_manifest.specs.declared.manifest.TablePart.{TablePart}
use Rattle.layer_manifest.proofs.ManifestLaws.{chunk-format, next_descriptor-format, scope-format, version-format}

-- ---- items

version-goes : (next : ℕ → Grammar) (b : List ℕ) → AreBytes b → Goes (version_item next) next b (read_version b)
version-goes next = field-goes _ next version-format (made-front version_of (such is_version_code (read_exactly 4)) (such-front is_version_code (read_exactly 4) (exactly-front 4))) (λ v p. p) (λ v p. p)

end-goes : (full start : Time) (next : Time → Grammar) (b : List ℕ) → AreBytes b → Goes (end_item full start next) next b (read_end full start b)
end-goes full start next =
    field-goes (λ (end : Time). IsTime end × (time_lt start end ≡ true) × (time_le full end ≡ true)) next (such-format (λ end. time_lt start end && time_le full end) time-format) (such-front (λ end. time_lt start end && time_le full end) read_time time-front) (λ t p. (p.0, rw (p.1, p.2) refl)) (λ t p.
    let both = both_true (time_lt start t) (time_le full t) p.1 in
    (p.0, both.0, both.1))

floor-goes : (start end : Time) (next : Time → Grammar) (b : List ℕ) → AreBytes b → Goes (floor_item start end next) next b (read_floor start end b)
floor-goes start end next =
    field-goes (λ (floor : Time). IsTime floor × (time_le start floor ≡ true) × (time_le floor end ≡ true)) next (such-format (λ floor. time_le start floor && time_le floor end) time-format) (such-front (λ floor. time_le start floor && time_le floor end) read_time time-front) (λ t p. (p.0, rw (p.1, p.2) refl)) (λ t p.
    let both = both_true (time_le start t) (time_le t end) p.1 in
    (p.0, both.0, both.1))

history-goes : (start floor : Time) (next : Bool → Grammar) (b : List ℕ) → AreBytes b → Goes (history_item start floor next) next b (read_history start floor b)
history-goes start floor next =
    field-goes (λ (history : Bool). (history || time_eq floor start) ≡ true) next (such-format (λ history. history || time_eq floor start) flag-format) (such-front (λ history. history || time_eq floor start) (read_byte flag_of) (byte-front flag_of)) (λ x p. (tt, p)) (λ x p. p.1)

scope-goes : (next : Scope → Grammar) (b : List ℕ) → AreBytes b → Goes (scope_item next) next b (read_scope b)
unfolding read_scope
scope-goes next = field-goes _ next scope-format (item-front read_marked_scope) (λ s p. p) (λ s p. p)

-- ---- tables

left_is : {X : Type 0} (m n : ℕ) → (let u : Result (X × List ℕ) ℕ = Err m in u) ≡ Err n → m ≡ n
left_is m n e = cc

inside-front : {X : Type 0} (read : List ℕ → Result X ℕ) → FailsInFront (inside read)
inside-front {X} read b left e = by (read_sized b) refl e
  where
    beside : (rest : List ℕ) (o : Result X ℕ) → beside_or (length b) rest o ≡ Err left → left ≡ length b
    beside rest (Ok x) h = absurd (cc)
    beside rest (Err k) h = sym (left_is (length b) left h)

    by : (o : Result (List ℕ × List ℕ) ℕ) → read_sized b ≡ o → inside_of read (length b) o ≡ Err left → left ≡ length b
    by (Ok p) is h = beside p.1 (read p.0) h
    by (Err k) is h = let same = left_is k left h in rw same at (sized-front b k is)

descriptor-goes : (id : ℕ) (before : List Schema) (next : Schema → Grammar) (b : List ℕ) → AreBytes b → Goes (descriptor_item id before next) next b (read_next_descriptor id before b)
unfolding read_next_descriptor
descriptor-goes id before next = field-goes _ next (next_descriptor-format id before) (such-front (is_next_descriptor id before) (inside read_descriptor) (inside-front read_descriptor)) (λ d p. p) (λ d p. p)

descriptors-go : (id : ℕ) (next : List Schema → Grammar) (b : List ℕ) → AreBytes b → Goes (counted (λ n. (0 < n) × (n < 2 ^ 64)) (λ n. descriptor_item id) next) next b (read_descriptors id b)
descriptors-go id next =
    list-goes (λ n. (0 < n) × (n < 2 ^ 64)) (λ n. nat_lt 0 n) (λ n. descriptor_item id) (λ n. read_next_descriptor id) next (λ n p. (p.1, let a = p.0 in grind (arith, nat_tests))) (λ n p. (let a = p.1 in grind (arith, nat_tests), p.0)) (λ n. descriptor-goes id)

chunk-goes : (version table : ℕ) (kinds : List Kind) (next : ChunkInfo → Grammar) (b : List ℕ) → AreBytes b → Goes (chunk_item version table kinds next) next b (read_chunk version table kinds b)
unfolding read_chunk
chunk-goes version table kinds next = field-goes _ next (chunk-format version table kinds) (item-front (read_chunk_fields version table kinds)) (λ c p. p) (λ c p. p)

chunks-go : (version table : ℕ) (kinds : List Kind) (so_far : ℕ) (next : List ChunkInfo → Grammar) (b : List ℕ) → AreBytes b
    → Goes (counted (λ n. so_far + n ≤ 1000000) (λ n others. chunk_item version table kinds) next) next b (read_chunks version table kinds so_far b)
chunks-go version table kinds so_far next =
    list-goes (λ n. so_far + n ≤ 1000000) (λ n. nat_le (so_far + n) 1000000) (λ n others. chunk_item version table kinds) (λ n others. read_chunk version table kinds) next (λ n p. (omega (arith, p), grind (arith, nat_tests))) (λ n p. let a = p.1 in grind (arith, nat_tests)) (λ n others. chunk-goes version table kinds)

table-goes : (version : ℕ) (before : List TablePart) (next : TablePart → Grammar) (b : List ℕ) → AreBytes b → Goes (table_items version before next) next b (read_table version before b)
unfolding read_table
table-goes version before next b h =
    made-goes table_of (table_items version before next) next b ((such (comes_after part_id before) read_id then (λ id. read_byte flag_of then (λ introduced. read_descriptors id then (λ descriptors. read_chunks version id (kinds_of descriptors) (chunk_count before))))) b)
    (then-goes _ _ _ (such (comes_after part_id before) read_id) _ b
    (field-goes _ _ (such-format (comes_after part_id before) id-format) (such-front (comes_after part_id before) read_id id-front) (λ id p. (id-of id p.0, p.1)) (λ id p. (fits id p.0, p.1)) b h) (λ id b1 h1.
    then-goes _ _ _ (read_byte flag_of) _ b1 (flag-goes _ b1 h1) (λ introduced b2 h2.
    then-goes _ _ _ (read_descriptors id) _ b2 (descriptors-go id _ b2 h2) (λ descriptors b3 h3. chunks-go version id (kinds_of descriptors) (chunk_count before) _ b3 h3))))

tables-go : (version : ℕ) (next : List TablePart → Grammar) (b : List ℕ) → AreBytes b → Goes (counted (λ n. n < 2 ^ 64) (λ n. table_items version) next) next b (read_tables version b)
tables-go version next = list-goes (λ n. n < 2 ^ 64) (λ n. true) (λ n. table_items version) (λ n. read_table version) next (λ n p. (p, refl)) (λ n p. p.0) (λ n. table-goes version)

-- ---- manifests

fields-go : (b : List ℕ) → AreBytes b → Goes manifest_grammar (λ p. Over) b (read_items_of_manifest b)
fields-go b h =
    then-goes _ _ _ read_version _ b (version-goes _ b h) (λ version b1 h1.
    then-goes _ _ _ read_name _ b1 (name-goes _ b1 h1) (λ cluster b2 h2.
    then-goes _ _ _ read_count _ b2 (count-goes _ b2 h2) (λ job b3 h3.
    then-goes _ _ _ read_time _ b3 (time-goes _ b3 h3) (λ full b4 h4.
    then-goes _ _ _ read_time _ b4 (time-goes _ b4 h4) (λ start b5 h5.
    then-goes _ _ _ (read_end full start) _ b5 (end-goes full start _ b5 h5) (λ end b6 h6.
    then-goes _ _ _ (read_floor start end) _ b6 (floor-goes start end _ b6 h6) (λ floor b7 h7.
    then-goes _ _ _ (read_history start floor) _ b7 (history-goes start floor _ b7 h7) (λ history b8 h8.
    then-goes _ _ _ read_scope _ b8 (scope-goes _ b8 h8) (λ scope b9 h9. tables-go version _ b9 h9)))))))))

front-goes : (b : List ℕ) → AreBytes b → Goes manifest_grammar (λ m. Over) b (read_manifest_front b)
unfolding read_manifest_front
front-goes b h = made-goes manifest_of manifest_grammar (λ m. Over) b (read_items_of_manifest b) (fields-go b h)

pub manifest_faults-first : ManifestFaultsAreFirst
unfolding read_manifest
manifest_faults-first = told manifest_grammar read_manifest (λ b h. whole-tells manifest_grammar b (read_manifest_front b) (front-goes b h))
