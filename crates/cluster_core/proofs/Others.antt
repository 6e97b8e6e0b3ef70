-- What a call on one layer's objects leaves of another layer, and layers that are final.
use Rattle.std.proofs.Common.{◌≡◌, ◌≢◌, inl, inr, ⊎_elim, ℕ, true, List, ◌∙◌}
use Rattle.mvcc_keys.specs.Times.{Time, time_le}
use Rattle.history_model.specs.Histories.{Table}
use Rattle.history_model.specs.Layers as recorded
use Rattle.outside_world.specs.Disk.{View}
use Rattle.outside_world.specs.Moments.{ChangesOnly}
use Rattle.outside_world.specs.Objects.{Objects, at}
use Rattle.layer_model.specs.declared.names.Part.{Part}
use Rattle.layer_model.specs.declared.names.Part.TheVariants as part
use Rattle.layer_model.specs.Names.{IsLayerName}
use Rattle.layer_model.specs.Layers.{HasPart, IsLayer, IsPartName, LayerObjects, name_of_part}
use Rattle.layer_model.proofs.LayerLaws.{part_is_numbered}
use Rattle.layer_model.proofs.StandsLaws.{one_object}
use Rattle.collection_dir.specs.Safety.{with_manifest}
use Rattle.layer_objects.specs.Objects.{bare, objects_of}
use Rattle.layer_objects.specs.Past.{AreBegun, IsFinal, KeepsPast}
use Rattle.layer_objects.specs.Storable.{IsRecord, older_manifest}
use Rattle.layer_objects.proofs.Final.{layers-final}
use Rattle.machine_model.specs.Disks.{IsGone, IsThere}
use Rattle.cluster_core.specs.ClusterView.{ClusterState}
use Rattle.cluster_core.specs.Standing.{Keeps}

-- ---- the same objects

-- each part of the layer is as it was
abbrev pub IsSameOf : LayerObjects → Objects → Objects → Type 0
IsSameOf w a b = (part : Part) → HasPart w part → at b (name_of_part w part) ≡ at a (name_of_part w part)

older-has : (w : LayerObjects) (bytes : List ℕ) (part : Part) → HasPart (with_manifest w bytes) part → HasPart w part
older-has w bytes part.Gate has = has
older-has w bytes part.Manifest has = has
older-has w bytes (part.Chunk i) has = has
older-has w bytes (part.Mark i) has = has

pub still-there : (w : LayerObjects) (a b : Objects) → IsSameOf w a b → IsThere w a → IsThere w b
still-there w a b same there = ⊎_elim
    (λ whole. inl (λ part has. same part has ∙ whole part has))
    (λ whole. inr (λ part has. same part (older-has w (older_manifest w) part has) ∙ whole part has))
    there

pub still-gone : (w : LayerObjects) (a b : Objects) → IsSameOf w a b → IsGone w a → IsGone w b
still-gone w a b same gone part has = same part has ∙ gone part has

-- only names of another layer's parts may have changed
pub same-of-other : (v w : LayerObjects) (a b : View) (P R : List ℕ → Type 0) → ((n : List ℕ) → P n → IsPartName w n) → ((n : List ℕ) → R n → IsPartName w n) → ChangesOnly P R a b → a.tells ≡ true
    → IsLayer v → IsLayer w → IsLayerName v.name → IsLayerName w.name → v.name ≢ w.name → IsSameOf v a.objects b.objects
same-of-other v w a b P R puts removals changes tells fv fw nv nw other part has =
    changes.objects tells (name_of_part v part) (λ p. apart (puts _ p)) (λ p. apart (removals _ p))
  where
    apart : IsPartName w (name_of_part v part) → ⊥
    apart is = other (one_object v.name w.name part is.0 nv nw (part_is_numbered v fv part has) (part_is_numbered w fw is.0 is.1) is.2).0

-- ---- finality

pub begun : (c : ClusterState) (tables : List Table) → Keeps c tables → AreBegun tables
begun c tables k i table got = let o = k.orderly i table got in record { some = o.begun; ascend = o.ascend }

-- a layer is the same over later tables
is-final : (c : ClusterState) (tables new : List Table) (t : Time) (r : recorded.LayerRecord) → Keeps c tables → KeepsPast t tables new → IsRecord r → time_le r.end t ≡ true → IsFinal r tables new
is-final c tables new t r k past form le = layers-final t tables new r (begun c tables k) past form.upto le

-- it has the same objects
pub final : (c : ClusterState) (tables new : List Table) (t : Time) (r : recorded.LayerRecord) → Keeps c tables → KeepsPast t tables new → IsRecord r → time_le r.end t ≡ true → objects_of new r ≡ objects_of tables r
final c tables new t r k past form le = (is-final c tables new t r k past form le).objects

-- and lists the same descriptors
pub final-bare : (c : ClusterState) (tables new : List Table) (t : Time) (r : recorded.LayerRecord) → Keeps c tables → KeepsPast t tables new → IsRecord r → time_le r.end t ≡ true → bare new r ≡ bare tables r
final-bare c tables new t r k past form le = (is-final c tables new t r k past form le).bare
