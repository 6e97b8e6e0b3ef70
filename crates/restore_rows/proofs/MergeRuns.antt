-- A merge that gives one row after another.
use Rattle.std.proofs.Common.{◌≡◌, ℕ, ◌+◌, false, refl, sym, ap, ◌∙◌, subst, List, [], ◌∷◌, ◌++◌, append-nil, append_assoc, length, length-append, arith, Result, Ok, Err, Some, None, if◌then◌else◌, is_err, is_ok}
use Rattle.std.specs.List.{AllByRecursion}
use Rattle.list_laws.proofs.Members.{all-append, all-weaker}
use Rattle.mvcc_keys.specs.declared.entries.Entry.{Entry}
use Rattle.row_codec.specs.declared.rows.Kind.{Kind}
use Rattle.layer_merge.specs.declared.chunks.MergeFault.{MergeFault}
use Rattle.layer_merge.specs.Loads.{Gives, World}
use Rattle.layer_merge.specs.Rows.{Gave}
use Rattle.layer_merge.specs.Steps.{AreHeld, IsHeld, IsMergeFault, IsOfHeld}
use Rattle.layer_merge.specs.Walks.{IsToLoad, MergesOver, RowState, rows_of}
use Rattle.layer_merge.proofs.StepLaws.{AreLaws, fault-then, held-later, held-then, of-held-then}

-- a push that isn't refused
pub pushed : {X T E : Type 0} (r : Result T E) (more same ys : List X) → is_err r ≡ false → ys ≡ (if is_ok r then more else same) → ys ≡ more
pushed (Ok t) more same ys good is = is
pushed (Err e) more same ys good is = cc good

-- some rows were given, and the others are still to come
pub record IsRunning {C F : Type 0} (kept : C → C → Type 0) (came : C → C → ℕ → ℕ → ℕ → Result (List ℕ) F → Type 0) (first now : C) (begun at : RowState) (rows : List Entry) (turn : ℕ) : Type 0 where
  pub is_kept : kept first now
  pub held : AreHeld (came first now) begun.walk.table begun.walk.kinds (IsToLoad begun.walk) [] at.walk.stands
  pub asks : (layer number : ℕ) → IsToLoad at.walk layer number → IsToLoad begun.walk layer number
  pub failed : at.failed ≡ false
  pub table : at.walk.table ≡ begun.walk.table
  pub kinds : at.walk.kinds ≡ begun.walk.kinds
  pub given : AllByRecursion (IsOfHeld (came first now) begun.walk.table begun.walk.kinds (IsToLoad begun.walk) []) rows
  pub world : (w : World) (all : List Entry) → Gives came begun.walk.table begun.walk.kinds w first → MergesOver w all begun.walk → MergesOver w all at.walk × (rows ++ rows_of all at.walk ≡ rows_of all begun.walk)
  pub count : length rows ≡ turn

module _ {C F : Type 0} (kept : C → C → Type 0) (came : C → C → ℕ → ℕ → ℕ → Result (List ℕ) F → Type 0) (laws : AreLaws kept came) where
  pub running-first : (first : C) (begun : RowState) (rows : List Entry) → begun.failed ≡ false → begun.walk.stands ≡ [] → rows ≡ [] → IsRunning kept came first first begun begun rows 0
  running-first first begun rows good none empty = record {
    is_kept = laws.same first;
    held = λ m has. absurd (rw none at has);
    asks = λ layer number h. h;
    failed = good;
    table = refl;
    kinds = refl;
    given = rw empty tt;
    world = λ w all gives over. (over, rw empty refl);
    count = ap length empty;
  }

  -- loads that may answer from the first value on may answer from a later one on
  gives-later : (table : ℕ) (kinds : List Kind) (first mid : C) (w : World) (T : ℕ) (K : List Kind) → T ≡ table → K ≡ kinds → kept first mid → Gives came table kinds w first → Gives came T K w mid
  gives-later table kinds first mid w T K same_table same_kinds k gives = rw (same_table, same_kinds) (λ to layer number bytes h. gives to layer number bytes (laws.later first mid to layer table number (Ok bytes) k h))

  module _ (first mid now : C) (begun at : RowState) (rows : List Entry) (turn : ℕ) (run : IsRunning kept came first mid begun at rows turn) where
    pub gives-mid : (w : World) → Gives came begun.walk.table begun.walk.kinds w first → Gives came at.walk.table at.walk.kinds w mid
    gives-mid w gives = gives-later begun.walk.table begun.walk.kinds first mid w at.walk.table at.walk.kinds run.table run.kinds run.is_kept gives

    -- the table and the kinds stay
    stays : (P : ℕ → List Kind → Type 0) → P at.walk.table at.walk.kinds → P begun.walk.table begun.walk.kinds
    stays P h = subst (λ (ks : List Kind). P begun.walk.table ks) run.kinds (subst (λ (t : ℕ). P t at.walk.kinds) run.table h)

    pub next-fault : (f : MergeFault F) → kept mid now → IsMergeFault (came mid now) at.walk.table at.walk.kinds (IsToLoad at.walk) at.walk.stands f → IsMergeFault (came first now) begun.walk.table begun.walk.kinds (IsToLoad begun.walk) [] f
    next-fault f k h = fault-then kept came laws begun.walk.table begun.walk.kinds first mid now (IsToLoad begun.walk) (IsToLoad at.walk) [] at.walk.stands f run.asks run.is_kept k run.held (stays (λ (t : ℕ) (ks : List Kind). IsMergeFault (came mid now) t ks (IsToLoad at.walk) at.walk.stands f) h)

    given-still : (e : Entry) → kept mid now → IsOfHeld (came first mid) begun.walk.table begun.walk.kinds (IsToLoad begun.walk) [] e → IsOfHeld (came first now) begun.walk.table begun.walk.kinds (IsToLoad begun.walk) [] e
    given-still e k h = (h.0, (held-later kept came laws begun.walk.table begun.walk.kinds first mid now (IsToLoad begun.walk) [] h.0 h.1.0 k, h.1.1))

    pub given-later : kept mid now → AllByRecursion (IsOfHeld (came first now) begun.walk.table begun.walk.kinds (IsToLoad begun.walk) []) rows
    given-later k = all-weaker (IsOfHeld (came first mid) begun.walk.table begun.walk.kinds (IsToLoad begun.walk) []) (IsOfHeld (came first now) begun.walk.table begun.walk.kinds (IsToLoad begun.walk) []) (λ e h. given-still e k h) rows run.given

    pub running-next : (after : RowState) (row : Entry) → kept mid now → AreHeld (came mid now) at.walk.table at.walk.kinds (IsToLoad at.walk) at.walk.stands after.walk.stands
        → ((layer number : ℕ) → IsToLoad after.walk layer number → IsToLoad at.walk layer number) → IsOfHeld (came mid now) at.walk.table at.walk.kinds (IsToLoad at.walk) at.walk.stands row
        → after.failed ≡ false → after.walk.table ≡ at.walk.table → after.walk.kinds ≡ at.walk.kinds
        → ((w : World) (all : List Entry) → Gives came at.walk.table at.walk.kinds w mid → MergesOver w all at.walk → Gave (Some row) (rows_of all at.walk) (rows_of all after.walk) × MergesOver w all after.walk)
        → IsRunning kept came first now begun after (rows ++ row ∷ []) (turn + 1)
    running-next after row k held asks put good table kinds gave = record {
      is_kept = laws.chain first mid now run.is_kept k;
      held = λ m has. held-then kept came laws begun.walk.table begun.walk.kinds first mid now (IsToLoad begun.walk) (IsToLoad at.walk) [] at.walk.stands m run.asks run.is_kept k run.held (stays (λ (t : ℕ) (ks : List Kind). IsHeld (came mid now) t ks (IsToLoad at.walk) at.walk.stands m) (held m has));
      asks = λ layer number h. run.asks layer number (asks layer number h);
      failed = good;
      table = table ∙ run.table;
      kinds = kinds ∙ run.kinds;
      given = all-append (IsOfHeld (came first now) begun.walk.table begun.walk.kinds (IsToLoad begun.walk) []) rows (row ∷ []) (given-later k)
          (of-held-then kept came laws begun.walk.table begun.walk.kinds first mid now (IsToLoad begun.walk) (IsToLoad at.walk) [] at.walk.stands row run.asks run.is_kept k run.held (stays (λ (t : ℕ) (ks : List Kind). IsOfHeld (came mid now) t ks (IsToLoad at.walk) at.walk.stands row) put), tt);
      world = λ w all gives over.
          let so_far = run.world w all gives over in
          let next = gave w all (gives-mid w gives) so_far.0 in
          (next.1, append_assoc rows (row ∷ []) (rows_of all after.walk) ∙ (ap (λ (es : List Entry). rows ++ es) (sym next.0) ∙ so_far.1));
      count = (let n = length-append rows (row ∷ []) in let c = run.count in omega (arith, n, c));
    }

    pub run-ended : (after : RowState) (w : World) (all : List Entry) → Gives came begun.walk.table begun.walk.kinds w first → MergesOver w all begun.walk
        → ((w : World) (all : List Entry) → Gives came at.walk.table at.walk.kinds w mid → MergesOver w all at.walk → Gave None (rows_of all at.walk) (rows_of all after.walk) × MergesOver w all after.walk)
        → rows ≡ rows_of all begun.walk
    run-ended after w all gives over gave =
        let so_far = run.world w all gives over in
        let last = gave w all (gives-mid w gives) so_far.0 in
        sym (append-nil rows) ∙ (ap (λ (es : List Entry). rows ++ es) (sym last.0.0) ∙ so_far.1)
