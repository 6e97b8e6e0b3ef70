-- The laws of a ready disk: an empty one is ready, at the end each open layer is one of the machine's, and where none is forgotten all are done.
use Rattle.std.proofs.Common.{◌≡◌, inl, ⊎_elim, ℕ, List, [], ◌∷◌, Option, Some, None, refl, sym, ap, subst, ◌∙◌}
use Rattle.std.specs.Prelude.{slice_get}
use Rattle.std.proofs.lemmas.Option.{get_or_from_slice_get, slice_get_within}
use Rattle.list_laws.specs.Members.{Has}
use Rattle.list_laws.proofs.Members.{Contains-has}
use Rattle.outside_world.specs.Disk.{View}
use Rattle.outside_world.specs.Objects.{Objects, at}
use Rattle.layer_model.specs.declared.names.LayerName.{LayerName}
use Rattle.layer_model.specs.declared.names.Part.TheVariants.{Gate}
use Rattle.layer_model.specs.Names.{object_name}
use Rattle.layer_model.specs.Layers.{IsOpen, IsSafe, LayerObjects}
use Rattle.layer_model.proofs.StandsLaws.{empty_stands}
use Rattle.collection_dir.specs.Safety.{IsSafeInEither}
use Rattle.layer_objects.specs.Objects.{objects_of}
use Rattle.layer_objects.specs.Storable.{older_manifest}
use Rattle.layer_objects.proofs.Names.{objects-name}
use Rattle.machine_model.specs.Machine.{Backup, Machine}
use Rattle.machine_model.specs.Disks.{CompleteIsDone, EmptyIsReady, IsGone, OpenLayersAreKept, StandsUntil, setting_of}
use Rattle.machine_model.proofs.Settings.{made}

-- ---- an empty disk

-- what is safe with its own manifest is so in either version
safe_in_either : (w : LayerObjects) (older : List ℕ) (objects : Objects) → IsSafe w objects → IsSafeInEither w older objects
safe_in_either w older objects safe = record { open_whole = λ is_open. inl (safe.open_whole is_open); marked = safe.marked }

-- no objects stand for every script
stands-empty : (end : Option Machine) (objects : Objects) → ((n : List ℕ) → at objects n ≡ None) → StandsUntil end objects
stands-empty None objects nothing = tt
stands-empty (Some m) objects nothing = let stands = empty_stands (setting_of m) refl objects nothing in record {
  foreign_filled = stands.foreign_filled;
  foreign_only = stands.foreign_only;
  finished = stands.finished;
  safe = λ w is. safe_in_either w (older_manifest w) objects (stands.safe w is);
  belongs = stands.belongs;
}

pub empty-ready : (v : View) → EmptyIsReady v
empty-ready v end known settled nothing = record { known = known; settled = settled; stands = stands-empty end v.objects nothing; kept = tt }

-- ---- open layers

got-in : {X : Type 0} (xs : List X) (i : ℕ) (x : X) → slice_get xs i ≡ Some x → Has x xs
got-in xs i x got = Contains-has x xs (i, slice_get_within xs i x got, get_or_from_slice_get xs i x x got)

-- of an open layer something is there
open_not-gone : (w : LayerObjects) (n : LayerName) (objects : Objects) → w.name ≡ n → at objects (object_name n Gate) ≡ Some (1 ∷ []) → IsGone w objects → ⊥
open_not-gone w n objects named is_open gone = let e : None ≡ Some (1 ∷ []) = sym (gone Gate tt) ∙ (ap (λ (k : LayerName). at objects (object_name k Gate)) named ∙ is_open) in cc e

-- it is that of a backup of the machine's jobs, and of one that was forgotten nothing is there
pub open-kept : (v : View) → OpenLayersAreKept v
open-kept v m ready n proper own is_open =
    let found = ready.stands.finished n proper own is_open in
    let origin = made m found.0 found.1 in
    let named : (objects_of m.history.tables origin.backup).name ≡ n = ap (λ (w : LayerObjects). w.name) origin.is ∙ found.2 in (
      origin.backup,
      ⊎_elim
          (λ (kept : Has origin.backup m.layers). kept)
          (λ (gone : IsGone (objects_of m.history.tables origin.backup) v.objects). absurd (open_not-gone (objects_of m.history.tables origin.backup) n v.objects named is_open gone))
          (ready.kept.gone origin.backup (got-in m.jobs origin.place (Backup origin.backup) origin.got)),
      sym (objects-name m.history.tables origin.backup) ∙ named,
    )

-- ---- all layers

pub complete-done : (v : View) → CompleteIsDone v
complete-done v m ready none_forgotten w is_made =
    let origin = made m w is_made in
    let kept = none_forgotten origin.backup (got-in m.jobs origin.place (Backup origin.backup) origin.got) in
    let is_open : IsOpen (objects_of m.history.tables origin.backup) v.objects = ⊎_elim (λ whole. whole Gate tt) (λ whole. whole Gate tt) (ready.kept.there origin.backup kept) in (
      subst (λ (x : LayerObjects). IsOpen x v.objects) origin.is is_open,
      (origin.backup, kept, sym (objects-name m.history.tables origin.backup) ∙ ap (λ (x : LayerObjects). x.name) origin.is),
    )
