-- What `replace` leaves from call to call.
use Rattle.std.proofs.Common.{◌≡◌, ℕ, List, Some, refl, sym, ◌∙◌}
use Rattle.outside_world.specs.Disk.{View, IsImage}
use Rattle.outside_world.specs.Objects.{Objects, at}
use Rattle.outside_world.specs.Replacing.{IsOpen, IsOldOrNew, MayReplace}
use Rattle.outside_world.proofs.PutSyncPut.{Stages}
use Rattle.outside_world.proofs.Runs.{Run, started}

module _ (name bytes gate : List ℕ) (first : View) (may : MayReplace name gate first) where
  abbrev P : Objects → Type 0
  P = IsOldOrNew name bytes gate first

  -- before the gate, and once the bytes are on the disk
  abbrev Shut : Objects → Type 0
  Shut c = P c × ¬ IsOpen gate c

  abbrev Ready : Objects → Type 0
  Ready c = P c × (at c name ≡ Some bytes)

  begun : ((image : Objects) → first.left_since first.moment image → IsImage first image) → Run P Shut first first
  begun only = started may.known only
      (λ c now. (record { whole = λ opened. absurd (may.shut c now opened); source = c; was = now; elsewhere = λ n ne ng. refl }, may.shut c now)) (λ c q. q.0)

  pub stages : ((image : Objects) → first.left_since first.moment image → IsImage first image) → Stages P Shut Ready Ready name bytes gate first
  stages only = record {
    begun = begun only;
    on_put = λ source image q agree.
        let shut : ¬ IsOpen gate image = λ opened. q.1 (sym (agree gate (λ e. may.apart (sym e))) ∙ opened) in
        (record { whole = λ opened. absurd (shut opened); source = q.0.source; was = q.0.was; elsewhere = λ n ne ng. agree n ne ∙ q.0.elsewhere n ne ng }, shut);
    on_sync = λ call x mid changes image q equal. (q.0, equal name ∙ (changes.content may.known.tells).written);
    on_gate = λ source image q agree.
        let whole : at image name ≡ Some bytes = agree name may.apart ∙ q.1 in
        (record { whole = λ opened. whole; source = q.0.source; was = q.0.was; elsewhere = λ n ne ng. agree n ng ∙ q.0.elsewhere n ne ng }, whole);
    before = λ image q. q.0;
    between = λ image q. q.0;
    after = λ image q. q.0;
  }
