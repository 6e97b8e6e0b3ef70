-- What `store_chunk` leaves from call to call, and what a read of a mark tells.
use Rattle.std.proofs.Common.{◌≡◌, ◌≢◌, inl, inr, ℕ, Bool, true, false, List, Option, Some, Result, Ok, Err, OnOk, sym, ◌∙◌, ap, subst}
use Rattle.std.specs.Prelude.{◌↔◌, IsTrue, option_map}
use Rattle.sha2.specs.Sha256.{sha256}
use Rattle.outside_world.specs.declared.disk.DiskFault.{DiskFault}
use Rattle.outside_world.specs.Disk.{View, IsKnown, IsImage, OnlyReads}
use Rattle.outside_world.specs.Moments.{AgreeBut, InEachImage}
use Rattle.outside_world.specs.Objects.{Objects, at}
use Rattle.outside_world.proofs.PutSyncPut.{Stages}
use Rattle.outside_world.proofs.Runs.{Run, same_from, started}
use Rattle.layer_model.specs.declared.names.LayerName.{LayerName}
use Rattle.layer_model.specs.declared.names.Part.{Part}
use Rattle.layer_model.specs.declared.names.Part.TheVariants.{Chunk, Mark}
use Rattle.layer_model.specs.Layers.{LayerObjects, Holds, IsMarked, name_of_part, wanted}
use Rattle.layer_model.specs.Names.{object_name}
use Rattle.collection_dir.specs.Footprints.{AtChunk}
use Rattle.collection_dir.specs.Safety.{IsKept, MayWriteChunk}
use Rattle.collection_dir.proofs.AfterRead.{may_still}
use Rattle.collection_dir.proofs.Parts.{AreApart}
use Rattle.layer_model.proofs.LayerLaws.{parts_apart}
use Rattle.collection_dir.proofs.Steps.{Staged, Stored, Unvouched, kept_at_first, step_chunk, step_mark}

module _ (w : LayerObjects) (older : List ℕ) (layer : LayerName) (i : ℕ) (bytes : List ℕ) (first : View) (may : MayWriteChunk w older layer i bytes first) where
  abbrev F : List ℕ → Type 0
  F = AtChunk layer i

  abbrev P : Objects → Type 0
  P = IsKept F w older first

  name : (p : Part) → name_of_part w p ≡ object_name layer p
  name p = ap (λ (n : LayerName). object_name n p) may.may.name

  apart : AreApart w
  apart = parts_apart w may.may.few

  mark_is : wanted w (Mark i) ≡ Some (sha256 bytes)
  mark_is = ap (option_map sha256) may.bytes_are

  begun : at first.objects (object_name layer (Mark i)) ≢ Some (sha256 bytes) → (IsKnown first → (image : Objects) → first.left_since first.moment image → IsImage first image) → Run P (Unvouched F w older first i) first first
  begun ne only = started may.may.known (only may.may.known)
      (λ image now. (
        kept_at_first F w older first image (may.may.safe image now) now,
        λ holds. ne (sym (now.same (object_name layer (Mark i)) may.mark) ∙ ap (at image) (sym (name (Mark i))) ∙ holds ∙ mark_is),
      ))
      (λ c q. q.0)

  pub stages : at first.objects (object_name layer (Mark i)) ≢ Some (sha256 bytes) → (IsKnown first → (image : Objects) → first.left_since first.moment image → IsImage first image) → Stages P (Unvouched F w older first i) (Staged F w older first i) (Stored F w older first i) (object_name layer (Chunk i)) bytes (object_name layer (Mark i)) first
  stages ne only = record {
    begun = begun ne only;
    on_put = λ source image q agree. step_chunk F w older first source image apart i may.has (inl (name (Chunk i))) (subst (λ n. AgreeBut n source image) (sym (name (Chunk i))) agree) q;
    on_sync = λ call x mid changes image q equal. (q.0, q.1, ap (at image) (name (Chunk i)) ∙ equal (object_name layer (Chunk i)) ∙ (changes.content may.may.known.tells).written ∙ sym may.bytes_are);
    on_gate = λ source image q agree. step_mark F w older first source image apart i may.has (inr (name (Mark i))) (subst (λ n. AgreeBut n source image) (sym (name (Mark i))) agree) q;
    before = λ c q. q.0;
    between = λ c q. q.0;
    after = λ c q. q.0;
  }

  pub stored_on_ok : (result : Result (Unit {0}) DiskFault) {new : View} → Run P (Stored F w older first i) first new → OnOk result (InEachImage new (Holds w (Chunk i)))
  stored_on_ok (Ok x) run = λ image now. (run.here image now).1
  stored_on_ok (Err e) run = tt

  module _ {mid : View} (reads : OnlyReads first mid) where
    pub may_write_still : MayWriteChunk w older layer i bytes mid
    may_write_still = record { may = may_still may.may reads; has = may.has; bytes_are = may.bytes_are; mark = (reads.content may.may.known.tells).touched (object_name layer (Mark i)) ∙ may.mark }

    -- a mark that vouches as the call begins has its chunk in each image
    pub stored_already : at first.objects (object_name layer (Mark i)) ≡ Some (sha256 bytes) → InEachImage mid (Holds w (Chunk i))
    stored_already vouches image now =
        let was = same_from (reads.content may.may.known.tells) image now in
        let holds : IsMarked w i image = ap (at image) (name (Mark i)) ∙ was.same (object_name layer (Mark i)) may.mark ∙ vouches ∙ sym mark_is in
        (may.may.safe image was).marked i may.has holds

-- the test on what a read found was refused, or passed
pub not_vouching : {b : Bool} {found : Option (List ℕ)} {digest wanted : List ℕ} (mark : List ℕ) (old new : Objects) → (IsTrue b ↔ (found ≡ Some digest)) → b ≡ false → found ≡ at old mark → digest ≡ wanted → new ≡ old → at new mark ≢ Some wanted
not_vouching {b = b} mark old new test refused bytes_are is same e =
    let t : b ≡ true = test.1 (bytes_are ∙ ap (λ (o : Objects). at o mark) (sym same) ∙ e ∙ ap (λ (d : List ℕ). Some d) (sym is)) in
    cc

pub vouching : {b : Bool} {found : Option (List ℕ)} {digest wanted : List ℕ} (mark : List ℕ) (old : Objects) → (IsTrue b ↔ (found ≡ Some digest)) → b ≡ true → found ≡ at old mark → digest ≡ wanted → at old mark ≡ Some wanted
vouching mark old test passed bytes_are is = sym bytes_are ∙ test.0 passed ∙ ap (λ (d : List ℕ). Some d) is
