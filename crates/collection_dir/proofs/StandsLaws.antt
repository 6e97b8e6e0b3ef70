-- The law of one layer, at each moment of a call, where the manifest may have either version.
use Rattle.std.proofs.Common.{◌≡◌, ◌≢◌, ◌⊎◌, ◌<◌, ◌≤◌, inl, inr, ⊎_elim, ℕ, List, refl, sym, ap, subst, ◌∙◌, arith}
use Rattle.std.specs.List.{Contains}
use Rattle.outside_world.specs.Disk.{Tells, View}
use Rattle.outside_world.specs.Moments.{ChangesOnly, InEachImage, LeavesOnly}
use Rattle.outside_world.specs.Objects.{Objects, at}
use Rattle.outside_world.proofs.Runs.{leaves_less}
use Rattle.layer_model.specs.declared.names.LayerName.{LayerName}
use Rattle.layer_model.specs.declared.names.Part.{Part}
use Rattle.layer_model.specs.declared.names.Part.TheVariants.{Gate, Manifest, Chunk, Mark}
use Rattle.layer_model.specs.Names.{IsNumbered, IsOwnName, object_name}
use Rattle.layer_model.specs.Layers.{HasPart, Holds, IsOpen, IsOutside, IsPartName, IsWhole, LayerObjects, name_of_part}
use Rattle.layer_model.specs.Stands.{IsLocal, IsProper, Setting}
use Rattle.layer_model.proofs.LayerLaws.{part_is_numbered}
use Rattle.layer_model.proofs.StandsLaws.{layer_cases, one_object, other_outside, stands_as_source, stands_still}
use Rattle.collection_dir.specs.Footprints.{AtMarked, AtUnmarked}
use Rattle.collection_dir.specs.Safety.{IsKept, IsSafeInEither, with_manifest}
use Rattle.collection_dir.specs.Standing.{KeepManifests, KeepsManifest, LawInEither, StandsInEither}

-- that a layer is whole, or is safe in either version, only its own objects decide
whole-local : (w : LayerObjects) (a b : Objects) → ((part : Part) → HasPart w part → at b (name_of_part w part) ≡ at a (name_of_part w part)) → IsWhole w a → IsWhole w b
whole-local w a b same whole part has = same part has ∙ whole part has

either-local : (older : LayerObjects → List ℕ) → IsLocal (λ w. IsSafeInEither w (older w))
either-local older w a b same safe = record {
  open_whole = λ is_open. ⊎_elim
      (λ whole. inl (whole-local w a b same whole))
      (λ whole. inr (older-local whole))
      (safe.open_whole (sym (same Gate tt) ∙ is_open));
  marked = λ i has holds. same (Chunk i) has ∙ safe.marked i has (sym (same (Mark i) has) ∙ holds);
}
  where
    older-local : IsWhole (with_manifest w (older w)) a → IsWhole (with_manifest w (older w)) b
    older-local whole Gate has = same Gate tt ∙ whole Gate tt
    older-local whole Manifest has = same Manifest tt ∙ whole Manifest tt
    older-local whole (Chunk i) has = same (Chunk i) has ∙ whole (Chunk i) has
    older-local whole (Mark i) has = same (Mark i) has ∙ whole (Mark i) has

pub law-in-either : LawInEither
law-in-either older s proper w among before after stands agree safe finished = stands_still (λ v. IsSafeInEither v (older v)) (either-local older) s proper w among before after stands agree safe finished

-- Where each image stands as a call on a started layer begins, and the call leaves only what is kept for the layer, each image at each
-- moment of it stands. The layer is a finished one, or its gate is none of the names that the call may change.
pub stands-throughout : (older : LayerObjects → List ℕ) (s : Setting) → IsProper s → (w : LayerObjects) → Contains s.started w → (F : List ℕ → Type 0) → ((n : List ℕ) → F n → IsPartName w n)
    → Contains s.finished w ⊎ (¬ F (name_of_part w Gate)) → (first new : View) → InEachImage first (StandsInEither older s) → LeavesOnly first new (IsKept F w (older w) first) → LeavesOnly first new (StandsInEither older s)
stands-throughout older s proper w among F within gate first new stands leaves =
    leaves_less (λ image kept. stands_as_source (λ v. IsSafeInEither v (older v)) (either-local older) F s proper w among kept.source image (stands kept.source kept.was) within kept.elsewhere kept.safe gate) leaves

-- ---- manifests under open gates

-- where the objects are the same, so are the manifests
pub manifests-same : (layers : List LayerObjects) (old new : Objects) → new ≡ old → KeepManifests layers old new
manifests-same layers old new same w among is_open = inr (subst (λ (o : Objects). IsOpen w o) same is_open, ap (λ (o : Objects). at o (name_of_part w Manifest)) same)

-- one change of a layer after another
pub keeps-then : (w : LayerObjects) (a b c : Objects) → KeepsManifest w a b → KeepsManifest w b c → KeepsManifest w a c
keeps-then w a b c first second is_open = ⊎_elim
    (λ (holds : Holds w Manifest c). inl holds)
    (λ (was : IsOpen w b × (at c (name_of_part w Manifest) ≡ at b (name_of_part w Manifest))). ⊎_elim
    (λ (holds : Holds w Manifest b). inl (was.1 ∙ holds))
    (λ (before : IsOpen w a × (at b (name_of_part w Manifest) ≡ at a (name_of_part w Manifest))). inr (before.0, was.1 ∙ before.1))
    (first was.0))
    (second is_open)

-- the same of several layers
pub manifests-then : (layers : List LayerObjects) (a b c : Objects) → KeepManifests layers a b → KeepManifests layers b c → KeepManifests layers a c
manifests-then layers a b c first second w among = keeps-then w a b c (first w among) (second w among)

-- where only names of one layer changed, and it keeps its manifest, so do the others
pub manifests-by-one : (s : Setting) → IsProper s → (w : LayerObjects) → Contains s.started w → (P R : List ℕ → Type 0) → ((n : List ℕ) → P n → IsPartName w n) → ((n : List ℕ) → R n → IsPartName w n) → (a b : View) → Tells a → ChangesOnly P R a b
    → KeepsManifest w a.objects b.objects → KeepManifests s.started a.objects b.objects
manifests-by-one s proper w among P R puts removals a b tells changes keeps v is_v = ⊎_elim
    (λ (e : v.name ≡ w.name). subst (λ (u : LayerObjects). KeepsManifest u a.objects b.objects) (sym (proper.started.once v w is_v among e)) keeps)
    (λ (ne : v.name ≢ w.name).
    let out : (p : Part) → IsNumbered p → IsOutside w (object_name v.name p) = λ p numbered. other_outside w (proper.started.layer w among) (proper.started.name w among) v.name (proper.started.name v is_v) ne p numbered in
    let same : (p : Part) → IsNumbered p → at b.objects (name_of_part v p) ≡ at a.objects (name_of_part v p) = λ p numbered.
    changes.objects tells (name_of_part v p) (λ is. let n = puts _ is in out p numbered n.0 n.1 n.2) (λ is. let n = removals _ is in out p numbered n.0 n.1 n.2) in
    λ is_open. inr (sym (same Gate tt) ∙ is_open, same Manifest tt))
    (layer_cases v.name w.name (proper.started.name v is_v) (proper.started.name w among))

-- ---- names of started layers

-- the names of a started layer's parts are names of the own cluster's objects
pub part-own : (s : Setting) → IsProper s → (w : LayerObjects) → Contains s.started w → (n : List ℕ) → IsPartName w n → IsOwnName s.cluster n
part-own s proper w among n is = record {
  object = record { layer = w.name; part = is.0 };
  form = record { layer = proper.started.name w among; part = part_is_numbered w (proper.started.layer w among) is.0 is.1 };
  own = proper.own w among;
  spelled = is.2;
}

-- a name of one started layer that is none of a marked chunk of it is none of a marked chunk of another
pub unmarked-of-all : (s : Setting) → IsProper s → (w : LayerObjects) → Contains s.started w → (objects : Objects) (n : List ℕ) → AtUnmarked w objects n → (v : LayerObjects) → Contains s.started v → ¬ AtMarked v objects n
unmarked-of-all s proper w among objects n at v is_v marked =
    let i = marked.0 in
    let part_of : (p : Part) → IsNumbered p → n ≡ object_name v.name p → v ≡ w = λ p numbered is.
    proper.started.once v w is_v among (one_object v.name w.name p at.0.0 (proper.started.name v is_v) (proper.started.name w among) numbered (part_is_numbered w (proper.started.layer w among) at.0.0 at.0.1) (sym is ∙ at.0.2)).0 in
    let few = (proper.started.layer v is_v).few in
    let numbered : i < 1000000 = (let lt = marked.1 in omega (arith, lt, few)) in
    let same : v ≡ w = ⊎_elim (λ (chunk : n ≡ object_name v.name (Chunk i)). part_of (Chunk i) numbered chunk) (λ (mark : n ≡ object_name v.name (Mark i)). part_of (Mark i) numbered mark) marked.3 in
    at.1 (subst (λ (u : LayerObjects). AtMarked u objects n) same marked)

-- started layers that share the name of a part share their own
same-layer : (s : Setting) → IsProper s → (v w : LayerObjects) → Contains s.started v → Contains s.started w → (n : List ℕ) → IsPartName v n → IsPartName w n → v.name ≡ w.name
same-layer s proper v w is_v is_w n a b =
    let p = part_is_numbered v (proper.started.layer v is_v) a.0 a.1 in
    let q = part_is_numbered w (proper.started.layer w is_w) b.0 b.1 in
    (one_object v.name w.name a.0 b.0 (proper.started.name v is_v) (proper.started.name w is_w) p q (sym a.2 ∙ b.2)).0

-- where only names of one layer changed, the names of layers of later jobs are as they were
pub ahead-by-one : (s : Setting) → IsProper s → (w : LayerObjects) → Contains s.started w → (P R : List ℕ → Type 0) → ((n : List ℕ) → P n → IsPartName w n) → ((n : List ℕ) → R n → IsPartName w n) → (a b : View) → Tells a → ChangesOnly P R a b
    → (jobs : ℕ) → w.name.job ≤ jobs → (v : LayerObjects) → Contains s.started v → jobs < v.name.job → (n : List ℕ) → IsPartName v n → at b.objects n ≡ at a.objects n
ahead-by-one s proper w among P R puts removals a b tells changes jobs over v is_v later n is =
    let no : IsPartName w n → ⊥ = λ part. let same = ap (λ (x : LayerName). x.job) (same-layer s proper v w is_v among n is part) in omega (arith, same, over, later) in
    changes.objects tells n (λ at. no (puts n at)) (λ at. no (removals n at))
