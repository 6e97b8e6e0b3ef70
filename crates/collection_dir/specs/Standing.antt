-- Objects that stand for layers, where the manifest of a started layer may have the bytes of an older version.
use Rattle.std.specs.Prelude.{◌≡◌, ◌⊎◌, ℕ, List}
use Rattle.std.specs.List.{Contains}
use Rattle.outside_world.specs.Objects.{Objects, at}
use Rattle.layer_model.specs.declared.names.Part.TheVariants as part
use Rattle.layer_model.specs.Layers.{Holds, IsOpen, IsOutside, LayerObjects, name_of_part}
use Rattle.layer_model.specs.Stands.{IsProper, Setting, StandsBy}
use Rattle.collection_dir.specs.Safety.{IsSafeInEither}

abbrev pub StandsInEither : (LayerObjects → List ℕ) → Setting → Objects → Type 0
StandsInEither older s objects = StandsBy (λ w. IsSafeInEither w (older w)) s objects

-- Let one map stand, and let another agree with it but on the names of one started layer. Where that layer is safe in the other, and is
-- a finished one if its gate is open there, the other stands too.
abbrev pub LawInEither : Type 0
LawInEither = (older : LayerObjects → List ℕ) (s : Setting) → IsProper s → (w : LayerObjects) → Contains s.started w → (before after : Objects) → StandsInEither older s before
    → ((n : List ℕ) → IsOutside w n → at after n ≡ at before n) → IsSafeInEither w (older w) after → (IsOpen w after → Contains s.finished w) → StandsInEither older s after

-- A layer that is open has the manifest of its own version, unless it was open before, and its manifest is as it was.
abbrev pub KeepsManifest : LayerObjects → Objects → Objects → Type 0
KeepsManifest w old new = IsOpen w new → Holds w part.Manifest new ⊎ (IsOpen w old × (at new (name_of_part w part.Manifest) ≡ at old (name_of_part w part.Manifest)))

-- the same of each of these layers
abbrev pub KeepManifests : List LayerObjects → Objects → Objects → Type 0
KeepManifests layers old new = (w : LayerObjects) → Contains layers w → KeepsManifest w old new
