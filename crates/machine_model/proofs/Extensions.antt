-- Objects that stand for a machine stand for each later one, and so those that stand for a script stand for each longer one.
use Rattle.std.proofs.Common.{◌≡◌, ℕ, zero, suc, ◌+◌, ◌<◌, true, List, [], ◌∷◌, length, refl, sym, ap, subst, ◌∙◌, arith, Contains}
use Rattle.std.specs.Prelude.{Option, Some, None, slice_get, option_map}
use Rattle.history_model.specs.Layers as recorded
use Rattle.outside_world.specs.Objects.{Objects, at}
use Rattle.layer_model.specs.declared.names.ObjectName.{ObjectName}
use Rattle.layer_model.specs.declared.names.Part.{Part}
use Rattle.layer_model.specs.declared.names.Part.TheVariants.{Gate, Mark}
use Rattle.layer_model.specs.Names.{IsObjectName}
use Rattle.layer_model.specs.Layers.{HasPart, LayerObjects, name_of_part}
use Rattle.layer_model.proofs.NameLaws.{name-found, names-differ}
use Rattle.layer_model.proofs.LayerLaws.{part_is_numbered}
use Rattle.collection_dir.specs.Safety.{IsSafeInEither}
use Rattle.layer_objects.specs.Objects.{objects_of}
use Rattle.layer_objects.specs.Past.{AreBegun}
use Rattle.layer_objects.specs.Storable.{older_manifest}
use Rattle.layer_objects.proofs.Final.{layers-final}
use Rattle.machine_model.specs.Machine.{Backup, Job, Machine}
use Rattle.machine_model.specs.Past.{IsLater}
use Rattle.machine_model.specs.Orders.{IsInOrder}
use Rattle.machine_model.specs.Disks.{StandsUntil, can_be_stored, made_layers}
use Rattle.machine_model.proofs.Lists.{got-left}
use Rattle.machine_model.proofs.Settings.{IsFit, IsMade, fits, is-among, made}
use Rattle.machine_model.specs.Extensions.{LaterMachinesStand}

-- ---- a layer of which nothing is there

mark-some : {X Y : Type 0} (f : X → Y) (xs : List X) (i : ℕ) → i < length xs → option_map f (slice_get xs i) ≡ None → ⊥
mark-some f [] i less none = omega (arith, less)
mark-some f (x ∷ xs) zero less none = cc none
mark-some f (x ∷ xs) (suc i) less none = mark-some f xs i (omega (arith, less)) none

safe-absent : (w : LayerObjects) (older : List ℕ) (objects : Objects) → ((part : Part) → HasPart w part → at objects (name_of_part w part) ≡ None) → IsSafeInEither w older objects
safe-absent w older objects none = record {
  open_whole = λ is. absurd (let no : None ≡ Some (1 ∷ []) = sym (none Gate tt) ∙ is in cc);
  marked = λ i less is. absurd (mark-some _ w.chunks i less (sym is ∙ none (Mark i) less));
}

-- ---- from a machine to a later one

module _ (old new : Machine) (order : IsInOrder old) (later : IsLater old new) where
  begun : AreBegun old.history.tables
  begun i table got = (order.tables i table got).begun

  -- the objects of a backup's layer are the same
  same-objects : (place : ℕ) (r : recorded.LayerRecord) → slice_get old.jobs place ≡ Some (Backup r) → objects_of new.history.tables r ≡ objects_of old.history.tables r
  same-objects place r got =
      let is = order.backups place r got in
      (layers-final old.clock old.history.tables new.history.tables r begun later.tables is.floor is.over).objects

  still-there : (place : ℕ) (job : Job) → slice_get old.jobs place ≡ Some job → slice_get new.jobs place ≡ Some job
  still-there place job got = subst (λ (jobs : List Job). slice_get jobs place ≡ Some job) (sym later.jobs) (got-left old.jobs later.more place job got)

  -- a layer of the old machine is one of the new one
  carried : (w : LayerObjects) → Contains (made_layers old) w → Contains (made_layers new) w
  unfolding made_layers
  carried w h =
      let p = made old w h in
      let same : objects_of new.history.tables p.backup ≡ w = same-objects p.place p.backup p.got ∙ p.is in
      let stored : can_be_stored new.name (1 + p.place) (objects_of new.history.tables p.backup) ≡ true = rw (later.name, same) p.stored in
      subst (λ (x : LayerObjects). Contains (made_layers new) x) same (is-among new.name new.history.tables 1 new.jobs p.place p.backup (still-there p.place (Backup p.backup) p.got) stored)

  module _ (objects : Objects) (stands : StandsUntil (Some old) objects) where
    -- nothing is there of a layer whose job came later
    nothing : (w : LayerObjects) (p : IsMade new.name new.history.tables 1 new.jobs w) → slice_get old.jobs p.place ≡ None → (part : Part) → HasPart w part → at objects (name_of_part w part) ≡ None
    nothing w p none part has = by (at objects (name_of_part w part)) refl
      where
        fit : IsFit new.name (1 + p.place) w
        fit = fits new.name (1 + p.place) w p.stored

        object : ObjectName
        object = record { layer = w.name; part = part }

        is-name : IsObjectName object
        is-name = record { layer = fit.name; part = part_is_numbered w (record { few = fit.few }) part has }

        by : (o : Option (List ℕ)) → at objects (name_of_part w part) ≡ o → at objects (name_of_part w part) ≡ None
        by None is = is
        by (Some bytes) is =
            let b = stands.belongs object (name_of_part w part) (name-found object is-name) (fit.own ∙ later.name) (λ no. let e : Some bytes ≡ None = sym is ∙ no in cc) in
            let q = made old b.0 b.1 in
            let f = fits old.name (1 + q.place) b.0 q.stored in
            let n : object ≡ record { layer = b.0.name; part = b.2.0 } = names-differ object (record { layer = b.0.name; part = b.2.0 }) is-name (record { layer = f.name; part = part_is_numbered b.0 (record { few = f.few }) b.2.0 b.2.1 }) b.2.2 in
            let jobs : w.name.job ≡ b.0.name.job = ap (λ (x : ObjectName). x.layer.job) n in
            let x = fit.number in
            let y = f.number in
            let place : p.place ≡ q.place = omega (arith, x, y, jobs) in
            absurd (let no : None ≡ Some (Backup q.backup) = sym none ∙ (ap (slice_get old.jobs) place ∙ q.got) in cc)

    safe : (w : LayerObjects) → Contains (made_layers new) w → IsSafeInEither w (older_manifest w) objects
    unfolding made_layers
    safe w h = by (slice_get old.jobs (made new w h).place) refl
      where
        p : IsMade new.name new.history.tables 1 new.jobs w
        p = made new w h

        by : (o : Option Job) → slice_get old.jobs p.place ≡ o → IsSafeInEither w (older_manifest w) objects
        by None none = safe-absent w (older_manifest w) objects (nothing w p none)
        by (Some job) got =
            let there = still-there p.place job got in
            let is : job ≡ Backup p.backup = let e : Some job ≡ Some (Backup p.backup) = sym there ∙ p.got in cc in
            let was : slice_get old.jobs p.place ≡ Some (Backup p.backup) = got ∙ ap Some is in
            let same : objects_of old.history.tables p.backup ≡ w = sym (same-objects p.place p.backup was) ∙ p.is in
            let stored : can_be_stored old.name (1 + p.place) (objects_of old.history.tables p.backup) ≡ true = rw (same, ← later.name) p.stored in
            stands.safe w (subst (λ (x : LayerObjects). Contains (made_layers old) x) same (is-among old.name old.history.tables 1 old.jobs p.place p.backup was stored))

    goes-on : StandsUntil (Some new) objects
    goes-on = record {
      foreign_filled = stands.foreign_filled;
      foreign_only = λ n proper other. stands.foreign_only n proper (λ e. other (e ∙ sym later.name));
      finished = λ n proper own is_open. let f = stands.finished n proper (own ∙ later.name) is_open in (f.0, carried f.0 f.1, f.2);
      safe = safe;
      belongs = λ n text read own there. let b = stands.belongs n text read (own ∙ later.name) there in (b.0, carried b.0 b.1, b.2);
    }

pub later-stand : LaterMachinesStand
later-stand old new order later objects stands = goes-on old new order later objects stands
