use Rattle.std.proofs.Common.{◌≡◌, ◌∙◌, ◌==◌, ℕ, List, length, take, sym, ap, ap₂, arith, Some}
use Rattle.std.proofs.lemmas.Bool.Decides.{nat_tests}
use Rattle.layer_manifest.specs.declared.manifest.ChunkInfo.{ChunkInfo}
use Rattle.layer_manifest.specs.Manifests.{chunk_count}
use Rattle.stored_chunks.specs.Places.{stored}
use Rattle.stored_chunks.proofs.StoredParts.{few-chunks, part-empty, part-none, part-some}
use Rattle.stored_chunks.proofs.parts.part_of.Goals as goal

pub returns-in_default : goal.returns-in_default
returns-in_default c = sym (part-none c.args.table c.args.layer.now c.args.m.now c.as_slice-tables.result.now c.as_slice-tables.ensures c.place_of.result c.place_of.ensures c.in_default.is)

pub returns-then-is_empty : goal.returns-then-is_empty
returns-then-is_empty c = sym (part-empty c.args.table c.args.layer.now c.args.m.now c.as_slice-tables.result.now c.as_slice-tables.ensures c.place_of.result c.place_of.ensures c.in-Some.place c.index-tables-place.result c.in-Some.is c.index-tables-place.is
    (ap (λ (xs : List ChunkInfo). length xs == 0) (sym c.as_slice-chunks.ensures) ∙ (sym c.is_empty.ensures ∙ c.if-is_empty.true)))

pub chunk_count-requires : goal.chunk_count-requires
chunk_count-requires c =
    let few = few-chunks c.args.table c.args.layer.now c.args.m.now c.as_slice-tables.result.now c.as_slice-tables.ensures c.place_of.result c.place_of.ensures c.in-Some.place c.index-tables-place.result c.in-Some.is c.index-tables-place.is c.requires c.split_at.result.0.now c.split_at.ensures.front in
    omega (arith, few)

pub invariant_of-result : goal.invariant_of-result
invariant_of-result c =
    let few = few-chunks c.args.table c.args.layer.now c.args.m.now c.as_slice-tables.result.now c.as_slice-tables.ensures c.place_of.result c.place_of.ensures c.in-Some.place c.index-tables-place.result c.in-Some.is c.index-tables-place.is c.requires c.split_at.result.0.now c.split_at.ensures.front in
    let count = c.chunk_count.ensures in
    let long : length c.as_slice-chunks.result.now ≡ length c.index-tables-place.result.chunks = ap length c.as_slice-chunks.ensures in
    let some = sym c.is_empty.ensures ∙ c.if-is_empty.false in
    record { some = grind (arith, nat_tests, some); few = omega (arith, few, count, long) }

pub returns : goal.returns
returns c = sym (part-some c.args.table c.args.layer.now c.args.m.now c.as_slice-tables.result.now c.as_slice-tables.ensures c.place_of.result c.place_of.ensures c.in-Some.place c.index-tables-place.result c.in-Some.is c.index-tables-place.is
    (ap (λ (xs : List ChunkInfo). length xs == 0) (sym c.as_slice-chunks.ensures) ∙ (sym c.is_empty.ensures ∙ c.if-is_empty.false))
    ∙ ap₂ (λ (n : ℕ) (xs : List ChunkInfo). Some (stored c.args.layer.now c.index-tables-place.result.introduced n xs))
    (sym (c.chunk_count.ensures ∙ ap chunk_count (c.split_at.ensures.front ∙ ap (take c.in-Some.place) c.as_slice-tables.ensures))) (sym c.as_slice-chunks.ensures))
