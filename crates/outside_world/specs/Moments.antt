-- What a caller says of a run of disk calls: what a crash leaves at each of their moments, and what they change. `proofs/Runs` has the laws.
use Rattle.std.specs.Prelude.{◌≡◌, ◌≢◌, ◌≤◌, ◌⊎◌, ℕ, Bool, false, List, [], ◌∷◌, ◌++◌}
use Rattle.outside_world.specs.declared.call.DiskCall.{DiskCall}
use Rattle.outside_world.specs.declared.call.DiskCall.TheVariants.{Put, Removal, Sync}
use Rattle.outside_world.specs.Objects.{Objects, at}
use Rattle.outside_world.specs.Disk.{View, Tells, IsImage, IsSameKind}

-- a crash at any moment from old on, up to new, leaves an image that has P
pub record LeavesOnly (old new : View) (P : Objects → Type 0) : Type 0 where
  pub later : old.moment ≤ new.moment
  pub each : (image : Objects) → new.left_since old.moment image → P image
  -- for a run that began earlier
  pub before : (t : ℕ) (image : Objects) → t ≤ old.moment → new.left_since t image → old.left_since t image ⊎ P image

-- P holds in each image of now
abbrev pub InEachImage : View → (Objects → Type 0) → Type 0
InEachImage v P = (image : Objects) → IsImage v image → P image

-- no name is touched
abbrev pub IsSettled : View → Type 0
IsSettled v = (n : List ℕ) → v.touched n ≡ false

-- two maps agree but on one name
abbrev pub AgreeBut : List ℕ → Objects → Objects → Type 0
AgreeBut name a b = (n : List ℕ) → n ≢ name → at b n ≡ at a n

-- the puts among these calls were at names with P, and the removals at names with R
abbrev pub AreCallsAt : (List ℕ → Type 0) → (List ℕ → Type 0) → List (DiskCall × Bool) → Type 0
AreCallsAt P R [] = Unit {0}
AreCallsAt P R ((Put n, ok) ∷ calls) = P n × AreCallsAt P R calls
AreCallsAt P R ((Removal n, ok) ∷ calls) = R n × AreCallsAt P R calls
AreCallsAt P R ((Sync, ok) ∷ calls) = AreCallsAt P R calls

-- the calls that were added are such
pub record Gained (P R : List ℕ → Type 0) (old new : List (DiskCall × Bool)) : Type 0 where
  pub more : List (DiskCall × Bool)
  pub are : new ≡ old ++ more
  pub each : AreCallsAt P R more

-- Names with P were put and names with R removed, and no others: those are as they were, and no more of them is touched.
pub record ChangesOnly (P R : List ℕ → Type 0) (old new : View) : Type 0 where
  pub kind : IsSameKind old new
  pub objects : Tells old → (n : List ℕ) → ¬ P n → ¬ R n → at new.objects n ≡ at old.objects n
  pub touched : Tells old → (n : List ℕ) → ¬ P n → ¬ R n → old.touched n ≡ false → new.touched n ≡ false
  pub calls : Tells old → Gained P R old.calls new.calls

-- no name at all
abbrev pub NoName : List ℕ → Type 0
NoName n = ⊥
