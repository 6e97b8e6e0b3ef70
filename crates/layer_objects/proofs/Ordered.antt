-- The pieces of a plan's entries are chunks.
use Rattle.std.proofs.Common.{◌≡◌, ℕ, zero, suc, true, refl, List, [], ◌∷◌, length, take, drop, Some, None, Less, arith}
use Rattle.std.specs.List.{AllByRecursion}
use Rattle.std.specs.List.Sorted.{IsStrictlySortedBy}
use Rattle.std.proofs.lemmas.List.{length-take}
use Rattle.mvcc_keys.specs.declared.entries.Entry.{Entry}
use Rattle.row_codec.specs.declared.rows.Kind.{Kind}
use Rattle.list_laws.proofs.Members.{all-drop, all-take}
use Rattle.span_export.specs.Pieces.{is_after, place_of}
use Rattle.span_export.specs.Entries.{order}
use Rattle.span_export.proofs.EntryOrder.{after-is, plan-sorted}
use Rattle.chunk_file.specs.Chunks.{IsChunk}
use Rattle.chunk_file.specs.Entries.{are_ordered, comes_before, is_entry}
use Rattle.layer_objects.specs.Contents.{chunk_size, cut, cut_times}
use Rattle.layer_objects.specs.CutLaws.{PiecesAreChunks}
use Rattle.layer_objects.proofs.Cutting.{size_pos}

-- the order of a chunk is that of exports
pub comes_is : (d e : Entry) → comes_before d e ≡ is_after (place_of d) e
unfolding comes_before
comes_is (Entry.Put k t v) (Entry.Put q s w) = refl
comes_is (Entry.Put k t v) (Entry.Del q s) = refl
comes_is (Entry.Put k t v) (Entry.Range lo hi s) = refl
comes_is (Entry.Del k t) (Entry.Put q s w) = refl
comes_is (Entry.Del k t) (Entry.Del q s) = refl
comes_is (Entry.Del k t) (Entry.Range lo hi s) = refl
comes_is (Entry.Range lo hi t) (Entry.Put q s w) = refl
comes_is (Entry.Range lo hi t) (Entry.Del q s) = refl
comes_is (Entry.Range lo hi t) (Entry.Range lo' hi' s) = refl

ordered_after : (d : Entry) (es : List Entry) → AllByRecursion (λ e. order d e ≡ Less) es → IsStrictlySortedBy order es → are_ordered (Some d) es ≡ true
unfolding IsStrictlySortedBy
ordered_after d [] above up = refl
ordered_after d (e ∷ es) above up = rw (comes_is d e, after-is d e, above.0) (ordered_after e es up.0 up.1)

-- sorted entries are in a chunk's order
pub ordered_all : (es : List Entry) → IsStrictlySortedBy order es → are_ordered None es ≡ true
unfolding IsStrictlySortedBy
ordered_all [] up = refl
ordered_all (e ∷ es) up = ordered_after e es up.0 up.1

-- ---- parts of a list

sorted_take : (n : ℕ) (es : List Entry) → IsStrictlySortedBy order es → IsStrictlySortedBy order (take n es)
unfolding IsStrictlySortedBy
sorted_take zero es up = tt
sorted_take (suc n) [] up = tt
sorted_take (suc n) (e ∷ es) up = (all-take (λ d. order e d ≡ Less) n es up.0, sorted_take n es up.1)

sorted_drop : (n : ℕ) (es : List Entry) → IsStrictlySortedBy order es → IsStrictlySortedBy order (drop n es)
unfolding IsStrictlySortedBy
sorted_drop zero es up = up
sorted_drop (suc n) [] up = tt
sorted_drop (suc n) (e ∷ es) up = sorted_drop n es up.1

-- ---- pieces

size_is : chunk_size ≡ 256
unfolding chunk_size
size_is = refl

piece_chunk : (table : ℕ) (kinds : List Kind) (e : Entry) (es : List Entry) → AllByRecursion (λ d. is_entry table kinds d ≡ true) (e ∷ es) → IsStrictlySortedBy order (e ∷ es) → IsChunk table kinds (take chunk_size (e ∷ es))
piece_chunk table kinds e es all up = record {
  some = let l = length-take chunk_size (e ∷ es) in let s : length (e ∷ es) ≡ suc (length es) = refl in let p = size_pos in omega (arith, l, s, p);
  most = let l = length-take chunk_size (e ∷ es) in let s = size_is in omega (arith, l, s);
  each = all-take (λ d. is_entry table kinds d ≡ true) chunk_size (e ∷ es) all;
  ordered = ordered_all (take chunk_size (e ∷ es)) (sorted_take chunk_size (e ∷ es) up);
}

cut_chunks : (table : ℕ) (kinds : List Kind) (times : ℕ) (es : List Entry) → AllByRecursion (λ d. is_entry table kinds d ≡ true) es → IsStrictlySortedBy order es → AllByRecursion (IsChunk table kinds) (cut_times times chunk_size es)
cut_chunks table kinds zero es all up = tt
cut_chunks table kinds (suc times) [] all up = tt
cut_chunks table kinds (suc times) (e ∷ es) all up = (piece_chunk table kinds e es all up, cut_chunks table kinds times (drop chunk_size (e ∷ es)) (all-drop (λ d. is_entry table kinds d ≡ true) chunk_size (e ∷ es) all) (sorted_drop chunk_size (e ∷ es) up))

pub pieces_chunks : PiecesAreChunks
unfolding cut
pieces_chunks h kinds plan all = cut_chunks plan.id kinds (length _) _ all (plan-sorted h plan.id plan.plan)
