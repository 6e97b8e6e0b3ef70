-- A call that only reads, before a call on a layer.
use Rattle.std.proofs.Common.{ℕ, List, ◌∙◌}
use Rattle.outside_world.specs.Disk.{View, IsKnown, IsImage, OnlyReads}
use Rattle.outside_world.specs.Moments.{LeavesOnly}
use Rattle.outside_world.specs.Objects.{Objects}
use Rattle.outside_world.proofs.Runs.{Run, run_read, same_from, started, still_known, then_call}
use Rattle.layer_model.specs.declared.names.LayerName.{LayerName}
use Rattle.layer_model.specs.declared.names.Part.TheVariants.{Gate}
use Rattle.layer_model.specs.Layers.{LayerObjects}
use Rattle.layer_model.specs.Names.{object_name}
use Rattle.collection_dir.specs.Safety.{IsKept, MayBegin}
use Rattle.collection_dir.proofs.Steps.{kept_at_first}

module _ {w : LayerObjects} {older : List ℕ} {layer : LayerName} {first : View} (may : MayBegin w older layer first) where
  -- before the first call
  pub kept_before : {F : List ℕ → Type 0} → (IsKnown first → (image : Objects) → first.left_since first.moment image → IsImage first image) → Run (IsKept F w older first) (IsKept F w older first) first first
  kept_before {F = F} only = started may.known (only may.known) (λ image now. kept_at_first F w older first image (may.safe image now) now) (λ c q. q)

  module _ {mid : View} (reads : OnlyReads first mid) where
    -- the same may begin after it
    pub may_still : MayBegin w older layer mid
    may_still = record {
      known = still_known may.known reads.kind;
      name = may.name;
      few = may.few;
      safe = λ image now. may.safe image (same_from (reads.content may.known.tells) image now);
      gate = (reads.content may.known.tells).touched (object_name layer Gate) ∙ may.gate;
    }

    pub read_kept : {F : List ℕ → Type 0} → (IsKnown first → (image : Objects) → first.left_since first.moment image → IsImage first image) → LeavesOnly first mid (IsKept F w older first)
    read_kept only = (run_read (kept_before only) reads (λ c q. q)).so_far

    pub read_then : {F : List ℕ → Type 0} {new : View} → (IsKnown first → (image : Objects) → first.left_since first.moment image → IsImage first image) → LeavesOnly mid new (IsKept F w older mid) → LeavesOnly first new (IsKept F w older first)
    read_then only later = then_call (read_kept only) later (λ image k. record { safe = k.safe; source = k.source; was = same_from (reads.content may.known.tells) k.source k.was; elsewhere = k.elsewhere })
