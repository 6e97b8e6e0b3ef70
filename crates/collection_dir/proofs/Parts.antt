-- Different parts of a layer have different names, so a change of one leaves the others.
use Rattle.std.proofs.Common.{◌≡◌, ◌≢◌, ◌⊎◌, inl, inr, ℕ, true, List, [], Option, Result, Ok, Err, OnOk, refl, sym, ap, ◌∙◌}
use Rattle.outside_world.specs.declared.call.DiskCall.{DiskCall}
use Rattle.outside_world.specs.declared.disk.DiskFault.{DiskFault}
use Rattle.outside_world.specs.Disk.{Changes, Settles, View}
use Rattle.outside_world.specs.Moments.{AgreeBut}
use Rattle.outside_world.specs.Objects.{Objects, at}
use Rattle.layer_model.specs.declared.names.LayerName.{LayerName}
use Rattle.layer_model.specs.declared.names.Part.{Part}
use Rattle.layer_model.specs.declared.names.Part.TheVariants.{Gate, Manifest, Chunk, Mark}
use Rattle.layer_model.specs.Layers.{LayerObjects, HasPart, Holds, name_of_part}
use Rattle.layer_model.specs.Names.{IsNumbered, object_name}
use Rattle.layer_model.proofs.LayerLaws.{name_apart}
use Rattle.collection_dir.specs.Safety.{with_manifest}

abbrev pub AreApart : LayerObjects → Type 0
AreApart w = (p q : Part) → HasPart w p → HasPart w q → p ≢ q → name_of_part w p ≢ name_of_part w q

pub names_apart : (layer : LayerName) (p q : Part) → IsNumbered p → IsNumbered q → p ≢ q → object_name layer p ≢ object_name layer q
names_apart layer p q hp hq ne = name_apart (record { name = layer; manifest = []; chunks = [] }) p q hp hq ne

-- the parts of the layer with an older version of its manifest
has_older : (w : LayerObjects) (older : List ℕ) (p : Part) → HasPart (with_manifest w older) p → HasPart w p
has_older w older Gate has = has
has_older w older Manifest has = has
has_older w older (Chunk i) has = has
has_older w older (Mark i) has = has

pub older_apart : (w : LayerObjects) (older : List ℕ) → AreApart w → AreApart (with_manifest w older)
older_apart w older apart p q hp hq = apart p q (has_older w older p hp) (has_older w older q hq)

pub part_cases : (p : Part) → (p ≡ Gate) ⊎ (p ≢ Gate)
part_cases Gate = inl refl
part_cases Manifest = inr (λ e. cc)
part_cases (Chunk i) = inr (λ e. cc)
part_cases (Mark i) = inr (λ e. cc)

module _ (w : LayerObjects) (p q : Part) (source image : Objects) (apart : AreApart w) (hp : HasPart w p) (hq : HasPart w q) (ne : q ≢ p) (agree : AgreeBut (name_of_part w p) source image) where
  other_part : at image (name_of_part w q) ≡ at source (name_of_part w q)
  other_part = agree (name_of_part w q) (apart q p hq hp ne)

  pub then_holds : Holds w q source → Holds w q image
  then_holds holds = other_part ∙ holds

  pub so_held : Holds w q image → Holds w q source
  so_held holds = sym other_part ∙ holds

-- what holds anyway holds at Ok
pub on_ok : {T E : Type 0} (r : Result T E) {P : Type 0} → P → OnOk r P
on_ok (Ok x) p = p
on_ok (Err e) p = tt

-- what stands under a name after a call that doesn't change it
pub through_sync : {T : Type 0} {result : Result T DiskFault} {old new : View} (n : List ℕ) → old.tells ≡ true → Settles result old new → at new.objects n ≡ at old.objects n
through_sync n tells settles = ap (λ (o : Objects). at o n) (settles.content tells).objects

pub through_change : {T : Type 0} {name : List ℕ} {value : Option (List ℕ)} {call : DiskCall} {result : Result T DiskFault} {old new : View} (n : List ℕ) → old.tells ≡ true → n ≢ name → Changes name value call result old new → at new.objects n ≡ at old.objects n
through_change n tells ne changes = (changes.content tells).others n ne
