-- How one change of one object keeps a layer safe.
use Rattle.std.proofs.Common.{◌≡◌, ◌≢◌, ◌⊎◌, inl, inr, ⊎_elim, ℕ, ◌<◌, List, length, refl, sym, ◌∙◌, subst}
use Rattle.std.proofs.lemmas.Bool.{cases_eq}
use Rattle.outside_world.specs.Disk.{View, IsImage}
use Rattle.outside_world.specs.Moments.{AgreeBut, LeavesOnly}
use Rattle.outside_world.specs.Objects.{Objects}
use Rattle.outside_world.proofs.Runs.{then_call, leaves_less}
use Rattle.layer_model.specs.declared.names.Part.{Part}
use Rattle.layer_model.specs.declared.names.Part.TheVariants.{Gate, Manifest, Chunk, Mark}
use Rattle.layer_model.specs.Layers.{LayerObjects, HasPart, Holds, IsMarked, IsOpen, IsWhole, name_of_part}
use Rattle.collection_dir.specs.Safety.{IsKept, IsSafeInEither, with_manifest}
use Rattle.collection_dir.proofs.Parts.{AreApart, older_apart, part_cases, so_held, then_holds}

-- all but the gate is there
abbrev pub IsReady : LayerObjects → Objects → Type 0
IsReady w c = (part : Part) → HasPart w part → part ≢ Gate → Holds w part c

abbrev pub IsReadyInEither : LayerObjects → List ℕ → Objects → Type 0
IsReadyInEither w older c = IsReady w c ⊎ IsReady (with_manifest w older) c

-- the gate may change while all else is there
still_ready : (w : LayerObjects) (source image : Objects) → AreApart w → AgreeBut (name_of_part w Gate) source image → IsReady w source → IsReady w image
still_ready w source image apart agree ready part has ne = then_holds w Gate part source image apart tt has ne agree (ready part has ne)

pub whole_if_open : (w : LayerObjects) (c : Objects) → IsReady w c → IsOpen w c → IsWhole w c
whole_if_open w c ready is_open part has = ⊎_elim
    (λ (e : part ≡ Gate). subst (λ p. Holds w p c) (sym e) is_open)
    (λ (ne : part ≢ Gate). ready part has ne)
    (part_cases part)

module _ (w : LayerObjects) (older : List ℕ) where
  -- a safe map with a mark that doesn't vouch isn't open
  pub shut : (i : ℕ) (c : Objects) → IsSafeInEither w older c → i < length w.chunks → ¬ IsMarked w i c → ¬ IsOpen w c
  shut i c safe has un is_open = ⊎_elim (λ whole. un (whole (Mark i) has)) (λ whole. un (whole (Mark i) has)) (safe.open_whole is_open)

  safe_ready : (c : Objects) → IsReadyInEither w older c → IsSafeInEither w older c
  safe_ready c ready = record {
    open_whole = λ is_open. ⊎_elim (λ all. inl (whole_if_open w c all is_open)) (λ all. inr (whole_if_open (with_manifest w older) c all is_open)) ready;
    marked = λ j hj holds. ⊎_elim (λ all. all (Chunk j) hj (λ e. cc)) (λ all. all (Chunk j) hj (λ e. cc)) ready;
  }

module _ (w : LayerObjects) (older : List ℕ) (source image : Objects) (apart : AreApart w) where
  -- a chunk may change while its mark doesn't vouch
  safe_chunk : (i : ℕ) → i < length w.chunks → IsSafeInEither w older source → ¬ IsMarked w i source → AgreeBut (name_of_part w (Chunk i)) source image → IsSafeInEither w older image
  safe_chunk i has safe un agree = record {
    open_whole = λ is_open. absurd (shut w older i source safe has un (so_held w (Chunk i) Gate source image apart has tt (λ e. cc) agree is_open));
    marked = λ j hj holds. ⊎_elim
        (λ (e : j ≡ i). absurd (un (subst (λ k. IsMarked w k source) e (so_held w (Chunk i) (Mark j) source image apart has hj (λ e. cc) agree holds))))
        (λ (ne : j ≢ i). then_holds w (Chunk i) (Chunk j) source image apart has hj (λ e. ne cc) agree
        (safe.marked j hj (so_held w (Chunk i) (Mark j) source image apart has hj (λ e. cc) agree holds)))
        (cases_eq j i);
  }

  -- a mark may change while its chunk is whole and the gate is shut
  safe_mark : (i : ℕ) → i < length w.chunks → IsSafeInEither w older source → ¬ IsOpen w source → Holds w (Chunk i) source → AgreeBut (name_of_part w (Mark i)) source image → IsSafeInEither w older image
  safe_mark i has safe closed whole agree = record {
    open_whole = λ is_open. absurd (closed (so_held w (Mark i) Gate source image apart has tt (λ e. cc) agree is_open));
    marked = λ j hj holds. ⊎_elim
        (λ (e : j ≡ i). then_holds w (Mark i) (Chunk j) source image apart has hj (λ e. cc) agree (subst (λ k. Holds w (Chunk k) source) (sym e) whole))
        (λ (ne : j ≢ i). then_holds w (Mark i) (Chunk j) source image apart has hj (λ e. cc) agree
        (safe.marked j hj (so_held w (Mark i) (Mark j) source image apart has hj (λ e. ne cc) agree holds)))
        (cases_eq j i);
  }

  -- the manifest may change while the gate is shut
  safe_manifest : IsSafeInEither w older source → ¬ IsOpen w source → AgreeBut (name_of_part w Manifest) source image → IsSafeInEither w older image
  safe_manifest safe closed agree = record {
    open_whole = λ is_open. absurd (closed (so_held w Manifest Gate source image apart tt tt (λ e. cc) agree is_open));
    marked = λ j hj holds. then_holds w Manifest (Chunk j) source image apart tt hj (λ e. cc) agree
        (safe.marked j hj (so_held w Manifest (Mark j) source image apart tt hj (λ e. cc) agree holds));
  }

-- What the images of one call have, from stage to stage: F are the names that the call may change.
module _ (F : List ℕ → Type 0) (w : LayerObjects) (older : List ℕ) (first : View) where
  -- kept, and the mark doesn't vouch
  abbrev pub Unvouched : ℕ → Objects → Type 0
  Unvouched i c = IsKept F w older first c × ¬ IsMarked w i c

  -- the same, with the chunk whole
  abbrev pub Staged : ℕ → Objects → Type 0
  Staged i c = IsKept F w older first c × ¬ IsMarked w i c × Holds w (Chunk i) c

  -- kept, with the chunk whole
  abbrev pub Stored : ℕ → Objects → Type 0
  Stored i c = IsKept F w older first c × Holds w (Chunk i) c

  -- kept, and the gate is shut
  abbrev pub Closed : Objects → Type 0
  Closed c = IsKept F w older first c × ¬ IsOpen w c

  -- kept, and all but the gate is there
  abbrev pub Ready : Objects → Type 0
  Ready c = IsKept F w older first c × IsReadyInEither w older c

  -- the gate is shut and the chunks are there
  abbrev pub Bare : Objects → Type 0
  Bare c = Closed c × ((i : ℕ) → i < length w.chunks → Holds w (Chunk i) c)

  -- the gate is shut and no mark vouches
  abbrev pub Unmarked : Objects → Type 0
  Unmarked c = Closed c × ((i : ℕ) → i < length w.chunks → ¬ IsMarked w i c)

  pub kept_at_first : (image : Objects) → IsSafeInEither w older image → IsImage first image → IsKept F w older first image
  kept_at_first image safe now = record { safe = safe; source = image; was = now; elsewhere = λ n out. refl }

  module _ (source image : Objects) (apart : AreApart w) where
    -- a change of one part keeps what is elsewhere
    kept : (p : Part) → F (name_of_part w p) → IsKept F w older first source → AgreeBut (name_of_part w p) source image → IsSafeInEither w older image → IsKept F w older first image
    kept p inside k agree safe = record {
      safe = safe;
      source = k.source;
      was = k.was;
      elsewhere = λ n out. agree n (λ e. out (subst F (sym e) inside)) ∙ k.elsewhere n out;
    }

    pub step_chunk : (i : ℕ) → i < length w.chunks → F (name_of_part w (Chunk i)) → AgreeBut (name_of_part w (Chunk i)) source image → Unvouched i source → Unvouched i image
    step_chunk i has inside agree q = (
      kept (Chunk i) inside q.0 agree (safe_chunk w older source image apart i has q.0.safe q.1 agree),
      λ holds. q.1 (so_held w (Chunk i) (Mark i) source image apart has has (λ e. cc) agree holds),
    )

    pub step_mark : (i : ℕ) → i < length w.chunks → F (name_of_part w (Mark i)) → AgreeBut (name_of_part w (Mark i)) source image → Staged i source → Stored i image
    step_mark i has inside agree q = (
      kept (Mark i) inside q.0 agree (safe_mark w older source image apart i has q.0.safe (shut w older i source q.0.safe has q.1) q.2 agree),
      then_holds w (Mark i) (Chunk i) source image apart has has (λ e. cc) agree q.2,
    )

    pub step_manifest : F (name_of_part w Manifest) → AgreeBut (name_of_part w Manifest) source image → Closed source → Closed image
    step_manifest inside agree q = (
      kept Manifest inside q.0 agree (safe_manifest w older source image apart q.0.safe q.1 agree),
      λ holds. q.1 (so_held w Manifest Gate source image apart tt tt (λ e. cc) agree holds),
    )

    pub step_gate : F (name_of_part w Gate) → AgreeBut (name_of_part w Gate) source image → Ready source → Ready image
    step_gate inside agree q =
        let ready : IsReadyInEither w older image = ⊎_elim (λ all. inl (still_ready w source image apart agree all)) (λ all. inr (still_ready (with_manifest w older) source image (older_apart w older apart) agree all)) q.1 in
        (kept Gate inside q.0 agree (safe_ready w older image ready), ready)

    pub step_unmark : (j : ℕ) → j < length w.chunks → F (name_of_part w (Mark j)) → AgreeBut (name_of_part w (Mark j)) source image → Bare source → Bare image
    step_unmark j has inside agree q = (
      (
        kept (Mark j) inside q.0.0 agree (safe_mark w older source image apart j has q.0.0.safe q.0.1 (q.1 j has) agree),
        λ holds. q.0.1 (so_held w (Mark j) Gate source image apart has tt (λ e. cc) agree holds),
      ),
      λ i hi. then_holds w (Mark j) (Chunk i) source image apart has hi (λ e. cc) agree (q.1 i hi),
    )

    pub step_unchunk : (j : ℕ) → j < length w.chunks → F (name_of_part w (Chunk j)) → AgreeBut (name_of_part w (Chunk j)) source image → Unmarked source → Unmarked image
    step_unchunk j has inside agree q = (
      (
        kept (Chunk j) inside q.0.0 agree (safe_chunk w older source image apart j has q.0.0.safe (q.1 j has) agree),
        λ holds. q.0.1 (so_held w (Chunk j) Gate source image apart has tt (λ e. cc) agree holds),
      ),
      λ i hi holds. q.1 i hi (so_held w (Chunk j) (Mark i) source image apart has hi (λ e. cc) agree holds),
    )

    pub step_unlist : F (name_of_part w Manifest) → AgreeBut (name_of_part w Manifest) source image → Unmarked source → Unmarked image
    step_unlist inside agree q = (
      step_manifest inside agree q.0,
      λ i hi holds. q.1 i hi (so_held w Manifest (Mark i) source image apart tt hi (λ e. cc) agree holds),
    )

-- two calls on one layer
pub kept_then : {F G : List ℕ → Type 0} {w : LayerObjects} {older : List ℕ} {first mid new : View} → ((n : List ℕ) → G n → F n) → LeavesOnly first mid (IsKept F w older first) → ((image : Objects) → IsImage mid image → mid.left_since first.moment image) → LeavesOnly mid new (IsKept G w older mid) → LeavesOnly first new (IsKept F w older first)
kept_then within a counts b = then_call a b
    (λ c k. let s = a.each k.source (counts k.source k.was) in
    record { safe = k.safe; source = s.source; was = s.was; elsewhere = λ n out. k.elsewhere n (λ g. out (within n g)) ∙ s.elsewhere n out })

pub kept_less : {F G : List ℕ → Type 0} {w : LayerObjects} {older : List ℕ} {first new : View} → ((n : List ℕ) → F n → G n) → LeavesOnly first new (IsKept F w older first) → LeavesOnly first new (IsKept G w older first)
kept_less within a = leaves_less (λ c k. record { safe = k.safe; source = k.source; was = k.was; elsewhere = λ n out. k.elsewhere n (λ f. out (within n f)) }) a
