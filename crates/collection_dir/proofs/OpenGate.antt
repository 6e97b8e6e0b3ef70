-- What `open_gate` leaves from call to call, and what a read of the gate tells.
use Rattle.std.proofs.Common.{◌≡◌, ◌≢◌, inl, inr, ℕ, Bool, true, false, List, [], ◌∷◌, Option, Some, Result, Ok, Err, OnOk, refl, sym, ◌∙◌, ap, subst}
use Rattle.std.specs.Prelude.{◌↔◌, IsTrue}
use Rattle.outside_world.specs.declared.call.DiskCall.{DiskCall}
use Rattle.outside_world.specs.declared.disk.DiskFault.{DiskFault}
use Rattle.outside_world.specs.Disk.{View, IsKnown, IsImage, Changes, OnlyReads, Settles}
use Rattle.outside_world.specs.Moments.{AgreeBut, InEachImage}
use Rattle.outside_world.specs.Objects.{Objects, at}
use Rattle.outside_world.proofs.PutSyncPut.{Stages}
use Rattle.outside_world.proofs.Runs.{Run, run_synced, same_from, started}
use Rattle.layer_model.specs.declared.names.LayerName.{LayerName}
use Rattle.layer_model.specs.declared.names.Part.{Part}
use Rattle.layer_model.specs.declared.names.Part.TheVariants.{Gate, Manifest, Chunk, Mark}
use Rattle.layer_model.specs.Layers.{LayerObjects, HasPart, Holds, IsWhole, name_of_part}
use Rattle.layer_model.specs.Names.{object_name}
use Rattle.layer_model.proofs.LayerLaws.{parts_apart}
use Rattle.collection_dir.specs.Finishing.{IsGateOpen, OpensOver}
use Rattle.collection_dir.specs.Footprints.{AtFinish}
use Rattle.collection_dir.specs.Safety.{IsKept, IsWholeInEither, MayFinish}
use Rattle.collection_dir.proofs.AfterRead.{may_still}
use Rattle.collection_dir.proofs.Parts.{AreApart, names_apart, through_change, through_sync}
use Rattle.collection_dir.proofs.Steps.{Closed, IsReady, Ready, kept_at_first, step_gate, step_manifest, whole_if_open}

module _ (w : LayerObjects) (older : List ℕ) (layer : LayerName) (bytes : List ℕ) (first : View) (may : MayFinish w older layer bytes first) where
  abbrev F : List ℕ → Type 0
  F = AtFinish layer

  abbrev P : Objects → Type 0
  P = IsKept F w older first

  abbrev pub AllReady : Objects → Type 0
  AllReady c = Ready F w older first c × IsReady w c

  name : (p : Part) → name_of_part w p ≡ object_name layer p
  name p = ap (λ (n : LayerName). object_name n p) may.may.name

  apart : AreApart w
  apart = parts_apart w may.may.few

  begun : ¬ IsGateOpen layer first.objects → (IsKnown first → (image : Objects) → first.left_since first.moment image → IsImage first image) → Run P (Closed F w older first) first first
  begun ne only = started may.may.known (only may.may.known)
      (λ image now. (kept_at_first F w older first image (may.may.safe image now) now, λ holds. ne (sym (now.same (object_name layer Gate) may.may.gate) ∙ ap (at image) (sym (name Gate)) ∙ holds)))
      (λ c q. q.0)

  -- the objects once the manifest is there
  module _ {call : DiskCall} {x : Unit {0}} {mid : View} (changes : Changes (object_name layer Manifest) (Some bytes) call (Ok x) first mid) where
    stays : (part : Part) → HasPart w part → part ≢ Manifest → Holds w part first.objects → Holds w part mid.objects
    stays part has ne holds = (changes.content may.may.known.tells).others (name_of_part w part) (λ e. apart part Manifest has tt ne (e ∙ sym (name Manifest))) ∙ holds

    ready_objects : (part : Part) → HasPart w part → part ≢ Gate → Holds w part mid.objects
    ready_objects Gate has ne = absurd (ne refl)
    ready_objects Manifest has ne = ap (at mid.objects) (name Manifest) ∙ (changes.content may.may.known.tells).written ∙ ap (λ (b : List ℕ). Some b) (sym may.manifest_is)
    ready_objects (Chunk i) has ne = stays (Chunk i) has (λ e. cc) (may.chunks i has)
    ready_objects (Mark i) has ne = stays (Mark i) has (λ e. cc) (may.marks i has)

  pub stages : ¬ IsGateOpen layer first.objects → (IsKnown first → (image : Objects) → first.left_since first.moment image → IsImage first image) → Stages P (Closed F w older first) AllReady AllReady (object_name layer Manifest) bytes (object_name layer Gate) first
  stages ne only = record {
    begun = begun ne only;
    on_put = λ source image q agree. step_manifest F w older first source image apart (inr (name Manifest)) (subst (λ n. AgreeBut n source image) (sym (name Manifest)) agree) q;
    on_sync = λ call x mid changes image q equal.
        let all : IsReady w image = λ part has ne. equal (name_of_part w part) ∙ ready_objects changes part has ne in
        ((q.0, inl all), all);
    on_gate = λ source image q agree.
        let here = subst (λ n. AgreeBut n source image) (sym (name Gate)) agree in
        (step_gate F w older first source image apart (inl (name Gate)) here q.0, λ part has ne. here (name_of_part w part) (apart part Gate has tt ne) ∙ q.1 part has ne);
    before = λ c q. q.0;
    between = λ c q. q.0.0;
    after = λ c q. q.0.0;
  }

  -- the gate is open on the disk
  pub opened : {call : DiskCall} {x : Unit {0}} {mid old new : View} → mid.tells ≡ true → Run P AllReady first old → Changes (object_name layer Gate) (Some (1 ∷ [])) call (Ok x) mid old → (result : Result (Unit {0}) DiskFault) → Settles result old new → OnOk result (InEachImage new (IsWhole w))
  opened tells run changes (Err e) settles = tt
  opened {old = old} {new = new} tells run changes (Ok y) settles =
      let last : Run P (λ c. P c × IsWhole w c) first new = run_synced run settles
      (λ c q equal. (q.0.0, whole_if_open w c q.1 (equal (name_of_part w Gate) ∙ ap (at old.objects) (name Gate) ∙ (changes.content tells).written)))
      (λ c q. q.0) in
      (λ image now. (last.here image now).1)

  -- a call that only reads comes first
  module _ {mid : View} (reads : OnlyReads first mid) where
    may_finish_still : MayFinish w older layer bytes mid
    may_finish_still =
        let same = (reads.content may.may.known.tells).objects in
        record {
          may = may_still may.may reads;
          manifest_is = may.manifest_is;
          chunks = λ i has. ap (λ (o : Objects). at o (name_of_part w (Chunk i))) same ∙ may.chunks i has;
          marks = λ i has. ap (λ (o : Objects). at o (name_of_part w (Mark i))) same ∙ may.marks i has;
        }

    pub whole_already : IsGateOpen layer first.objects → InEachImage mid (IsWholeInEither w older)
    whole_already is_open image now =
        let was = same_from (reads.content may.may.known.tells) image now in
        (may.may.safe image was).open_whole (ap (at image) (name Gate) ∙ was.same (object_name layer Gate) may.may.gate ∙ is_open)

-- the same for bytes that are those of the manifest
pub may_finish_of : (w : LayerObjects) (older : List ℕ) (layer : LayerName) (bytes manifest : List ℕ) (first mid : View) → MayFinish w older layer manifest first → OnlyReads first mid → bytes ≡ manifest → MayFinish w older layer bytes mid
may_finish_of w older layer bytes manifest first mid may reads are = subst (λ b. MayFinish w older layer b mid) (sym are) (may_finish_still w older layer manifest first may reads)

pub still_shut : {b : Bool} (layer : LayerName) (old new : Objects) → (IsTrue b ↔ IsGateOpen layer old) → b ≡ false → new ≡ old → ¬ IsGateOpen layer new
still_shut {b = b} layer old new test refused same is_open =
    let t : b ≡ true = test.1 (ap (λ (o : Objects). at o (object_name layer Gate)) (sym same) ∙ is_open) in
    cc

-- ---- the manifest under an open gate

-- where the gate is as it was, it wasn't opened
pub opens_same : (layer : LayerName) (bytes : List ℕ) (old new : Objects) → at new (object_name layer Gate) ≡ at old (object_name layer Gate) → OpensOver layer bytes old new
opens_same layer bytes old new same shut is_open = absurd (shut (sym same ∙ is_open))

-- a put of the manifest leaves the gate
pub opens_put : (layer : LayerName) (bytes : List ℕ) {value : Option (List ℕ)} {call : DiskCall} {result : Result (Unit {0}) DiskFault} {old new : View} → old.tells ≡ true → Changes (object_name layer Manifest) value call result old new → OpensOver layer bytes old.objects new.objects
opens_put layer bytes {old = old} {new = new} tells changes = opens_same layer bytes old.objects new.objects (through_change (object_name layer Gate) tells (names_apart layer Gate Manifest tt tt (λ e. cc)) changes)

pub opens_put_sync : (layer : LayerName) (bytes : List ℕ) {value : Option (List ℕ)} {call : DiskCall} {result other : Result (Unit {0}) DiskFault} {old mid new : View} → old.tells ≡ true → Changes (object_name layer Manifest) value call result old mid → Settles other mid new → OpensOver layer bytes old.objects new.objects
opens_put_sync layer bytes {old = old} {new = new} tells changes settles =
    opens_same layer bytes old.objects new.objects (through_sync (object_name layer Gate) (changes.kind.tells ∙ tells) settles ∙ through_change (object_name layer Gate) tells (names_apart layer Gate Manifest tt tt (λ e. cc)) changes)

-- after that it stays
pub opens_gate : (layer : LayerName) (bytes : List ℕ) {value : Option (List ℕ)} {call other : DiskCall} {x : Unit {0}} {r s : Result (Unit {0}) DiskFault} {old mid synced new : View} → old.tells ≡ true → Changes (object_name layer Manifest) (Some bytes) call (Ok x) old mid → Settles r mid synced → Changes (object_name layer Gate) value other s synced new → OpensOver layer bytes old.objects new.objects
opens_gate layer bytes tells changes settles gates shut is_open =
    let told = changes.kind.tells ∙ tells in
    through_change (object_name layer Manifest) (settles.kind.tells ∙ told) (names_apart layer Manifest Gate tt tt (λ e. cc)) gates ∙ (through_sync (object_name layer Manifest) told settles ∙ (changes.content tells).written)

pub opens_gate_sync : (layer : LayerName) (bytes : List ℕ) {value : Option (List ℕ)} {call other : DiskCall} {x : Unit {0}} {r s t : Result (Unit {0}) DiskFault} {old mid synced gated new : View} → old.tells ≡ true → Changes (object_name layer Manifest) (Some bytes) call (Ok x) old mid → Settles r mid synced → Changes (object_name layer Gate) value other s synced gated → Settles t gated new → OpensOver layer bytes old.objects new.objects
opens_gate_sync layer bytes tells changes settles gates last shut is_open =
    let told = settles.kind.tells ∙ (changes.kind.tells ∙ tells) in
    through_sync (object_name layer Manifest) (gates.kind.tells ∙ told) last ∙
    (through_change (object_name layer Manifest) told (names_apart layer Manifest Gate tt tt (λ e. cc)) gates ∙ (through_sync (object_name layer Manifest) (changes.kind.tells ∙ tells) settles ∙ (changes.content tells).written))

-- the same after a call that only reads
pub opens_read : (layer : LayerName) (bytes manifest : List ℕ) (new : Objects) {old mid : View} → OnlyReads old mid → old.tells ≡ true → bytes ≡ manifest → OpensOver layer bytes mid.objects new → OpensOver layer manifest old.objects new
opens_read layer bytes manifest new {old = old} reads tells are opens =
    subst (λ (b : List ℕ). OpensOver layer b old.objects new) are (subst (λ (o : Objects). OpensOver layer bytes o new) (reads.content tells).objects opens)

pub opens_nothing : (layer : LayerName) (bytes : List ℕ) {old mid : View} → OnlyReads old mid → old.tells ≡ true → OpensOver layer bytes old.objects mid.objects
opens_nothing layer bytes {old = old} {mid = mid} reads tells = opens_same layer bytes old.objects mid.objects (ap (λ (o : Objects). at o (object_name layer Gate)) (reads.content tells).objects)
