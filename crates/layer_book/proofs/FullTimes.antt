-- The greatest of some times, and the order of subdirectories.
use Rattle.std.proofs.Common.{◌≡◌, ◌∙◌, ℕ, Bool, true, false, cond, sym, refl, subst, List, [], ◌∷◌, ◌⊎◌, inl, inr, Equal}
use Rattle.std.specs.List.{fold}
use Rattle.std.specs.Ordering.{nat_cmp}
use Rattle.std.specs.Cmp.Lexicographic.{slice_cmp}
use Rattle.std.proofs.lemmas.Cmp.{on_total, then_total, nat_list_cmp_total}
use Rattle.mvcc_keys.specs.Times.{Time, time_le, time_lt}
use Rattle.mvcc_keys.specs.Codes.{time_cmp}
use Rattle.list_laws.specs.Members.{Has}
use Rattle.fact_model.specs.Facts.{IsKeyOrder}
use Rattle.mvcc_keys.proofs.TimeOrder as times
use Rattle.layer_book.specs.Subdirectories.{later_time, subdirectory_cmp}
use Rattle.layer_book.proofs.LayerOrder.{times_total}
use Rattle.mvcc_keys.proofs.TimeOrder.{cmp-Equal}
use Rattle.list_laws.proofs.Orderings.{then-Equal, bytes-Equal}

-- ---- the greatest time

later-first : (s t : Time) → time_le s (later_time s t) ≡ true
later-first s t = times.le-later s t

later-second : (s t : Time) → time_le t (later_time s t) ≡ true
later-second s t = times.le-later_second s t

fold-first : (s : Time) (ts : List Time) → time_le s (fold later_time s ts) ≡ true
fold-first s [] = times.le-refl s
fold-first s (t ∷ ts) = times.le-trans s (later_time s t) (fold later_time (later_time s t) ts) (later-first s t) (fold-first (later_time s t) ts)

pub fold_greatest : (x s : Time) (ts : List Time) → Has x ts → time_le x (fold later_time s ts) ≡ true
fold_greatest x s [] h = absurd h
fold_greatest x s (t ∷ ts) (inl e) = subst (λ (w : Time). time_le w (fold later_time (later_time s t) ts) ≡ true) (sym e) (times.le-trans t (later_time s t) (fold later_time (later_time s t) ts) (later-second s t) (fold-first (later_time s t) ts))
fold_greatest x s (t ∷ ts) (inr i) = fold_greatest x (later_time s t) ts i

later-reached : (s t : Time) → (later_time s t ≡ s) ⊎ (later_time s t ≡ t)
later-reached s t = by (time_lt s t)
  where
    by : (b : Bool) → (cond b t s ≡ s) ⊎ (cond b t s ≡ t)
    by true = inr refl
    by false = inl refl

pub fold_reached : (s : Time) (ts : List Time) → (fold later_time s ts ≡ s) ⊎ Has (fold later_time s ts) ts
fold_reached s [] = inl refl
fold_reached s (t ∷ ts) = elim (fold_reached (later_time s t) ts) [
  | inl e ↦ elim (later-reached s t) [ inl i ↦ inl (e ∙ i) | inr i ↦ inr (inl (e ∙ i)) ]
  | inr i ↦ inr (inr i)
]

-- ---- the order of subdirectories

subdirectories-same : (a b : List ℕ × Time) → subdirectory_cmp a b ≡ Equal → a ≡ b
subdirectories-same a b e = let both = then-Equal (time_cmp a.1 b.1) (slice_cmp nat_cmp a.0 b.0) e in λ i. (bytes-Equal a.0 b.0 both.1 i, cmp-Equal a.1 b.1 both.0 i)

pub subdirectory_order : IsKeyOrder subdirectory_cmp
subdirectory_order = record {
  total = then_total (on_total (λ (a : List ℕ × Time). a.1) times_total) (on_total (λ (a : List ℕ × Time). a.0) nat_list_cmp_total);
  same = subdirectories-same;
}
