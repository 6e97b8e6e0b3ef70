-- A chunk that isn't in order before the one that was loaded before it.
use Rattle.std.proofs.Common.{◌≡◌, ℕ, ◌≤◌, false, sym, subst, List, length, Option, Some, None, Result, IfSome, true≢false}
use Rattle.std.specs.Prelude.{◌==◌, ◌+◌, ◌&&◌, not}
use Rattle.mvcc_keys.specs.declared.entries.Entry.{Entry}
use Rattle.row_codec.specs.declared.rows.Kind.{Kind}
use Rattle.chunk_file.specs.Chunks.{head_code}
use Rattle.chunk_file.specs.Held.{IsEntryStart, left_at}
use Rattle.layer_merge.specs.declared.chunks.MergeFault.TheVariants.{Malformed}
use Rattle.layer_merge.specs.declared.ranges.Numbered.{Numbered}
use Rattle.layer_merge.specs.Stands.{Stand, first_of, goes_on}
use Rattle.layer_merge.specs.Ranges.{is_before}
use Rattle.layer_merge.specs.Steps.{IsLoaded, IsMergeFault}
use Rattle.layer_merge.proofs.RangeLaws.{broken, last-at, not-false}
use Rattle.layer_merge.proofs.StepLaws.{AreLaws, loaded-earlier, loaded-later, loads-fault}

module _ {C F : Type 0} (kept : C → C → Type 0) (came : C → C → ℕ → ℕ → ℕ → Result (List ℕ) F → Type 0) (laws : AreLaws kept came) (table : ℕ) (kinds : List Kind) where
  -- a chunk that is asked for and was loaded
  abbrev IsThere : C → C → (ℕ → ℕ → Type 0) → ℕ → Numbered → Type 0
  IsThere a b asked layer x = IsLoaded (came a b) table kinds layer x.number x.chunk × asked layer x.number

  pub unordered-fault : (a b c : C) (asked : ℕ → ℕ → Type 0) (xs : List Stand) (layer0 layer number offset next place : ℕ) (chunk : List Entry) (after : Option Numbered) → layer ≡ layer0 → kept a b → kept b c → IsLoaded (came b c) table kinds layer number chunk → asked layer number → IfSome after (IsThere a b asked layer0) → IsEntryStart chunk offset → length (left_at chunk offset) ≤ 1 → is_before number (first_of (left_at chunk offset)) after ≡ false → IfSome after (λ x. next ≡ x.number) → IfSome after (λ x. place ≡ length (head_code x.chunk)) → IsMergeFault (came a c) table kinds asked xs (Malformed layer next place)
  unordered-fault a b c asked xs layer0 layer number offset next place chunk None l k k' here may there start one not-before n p = absurd (true≢false not-before)
  unordered-fault a b c asked xs layer0 layer number offset next place chunk (Some after) l k k' here may there start one not-before n p =
      let g = broken number after.number (goes_on (first_of (left_at chunk offset)) (first_of after.chunk)) (not-false ((after.number == number + 1) && not (goes_on (first_of (left_at chunk offset)) (first_of after.chunk))) not-before) in
      let it = subst (λ (y : ℕ). IsThere a c asked y after) (sym l) (loaded-earlier kept came laws table kinds a b c layer0 after.number after.chunk there.0 k', there.1) in
      subst (λ (y : ℕ). IsMergeFault (came a c) table kinds asked xs (Malformed layer y place)) (sym n)
      (loads-fault kept came laws table kinds a c asked xs layer number after.number place chunk after.chunk (loaded-later kept came laws table kinds a b c layer number chunk k here) may it.0 it.1 g.0 (last-at chunk offset (first_of after.chunk) start one g.1) p)

  pub loaded-there : (a b c : C) (asked : ℕ → ℕ → Type 0) (layer0 layer number : ℕ) (chunk : List Entry) → layer ≡ layer0 → kept a b → IsLoaded (came b c) table kinds layer number chunk → asked layer number → IsLoaded (came a c) table kinds layer0 number chunk × asked layer0 number
  loaded-there a b c asked layer0 layer number chunk l k h i = subst (λ (y : ℕ). IsLoaded (came a c) table kinds y number chunk × asked y number) l (loaded-later kept came laws table kinds a b c layer number chunk k h, i)
