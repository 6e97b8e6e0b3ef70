use Rattle.std.proofs.Common.{◌≡◌, ◌⊎◌, inl, inr, refl}
use Rattle.fact_model.specs.Laws.{IsKeyIn}
use Rattle.fact_model.proofs.Transport.{value-map, scan-map, kept-map, keys-among}
use Rattle.fact_model.proofs.laws.maps_carry.Goals as goal

pub returns : goal.returns
returns g c = record {
  value = λ cmp cmp' f w fs k t same. value-map cmp cmp' f w (λ a. (a ≡ k) ⊎ IsKeyIn fs a) same k t fs (inl refl) (keys-among (λ a. (a ≡ k) ⊎ IsKeyIn fs a) fs (λ a h. inr h));
  scan = λ cmp cmp' f w fs t same. scan-map cmp cmp' f w (IsKeyIn fs) same t fs (keys-among (IsKeyIn fs) fs (λ a h. h));
  kept = λ cmp cmp' f w fs g same. kept-map cmp cmp' f w (IsKeyIn fs) same g fs (keys-among (IsKeyIn fs) fs (λ a h. h));
}
