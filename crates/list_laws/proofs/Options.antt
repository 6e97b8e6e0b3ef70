-- Options, and the parts of what is found.
use Rattle.std.proofs.Common.{◌≡◌, Bool, true, false, cond, Option, Some, None, refl, ap}
use Rattle.std.specs.Option.{option_map}
use Rattle.list_laws.specs.Options.{◌>>=◌}

pub some-is : {X : Type 0} (x y : X) → Some x ≡ Some y → x ≡ y
some-is x y e = cc

pub none-some : {X : Type 0} (o : Option X) (x : X) → o ≡ None → o ≡ Some x → ⊥
none-some o x e f = cc

pub some-parts : {X Y : Type 0} (a b : X) (c d : Y) → (let x : Option (X × Y) = Some (a, c) in x ≡ Some (b, d)) → (a ≡ b) × (c ≡ d)
some-parts {X} {Y} a b c d e =
    let pairs : (let x : X × Y = (a, c) in x ≡ (b, d)) = cc in
    (ap (λ (p : X × Y). p.0) pairs, ap (λ (p : X × Y). p.1) pairs)

-- what was found through a step was found before it
pub bind-some : {A B : Type 0} (o : Option A) (f : A → Option B) (y : B) → (o >>= f) ≡ Some y → (x : A) × (o ≡ Some x) × (f x ≡ Some y)
bind-some (Some x) f y e = (x, refl, e)
bind-some None f y e = absurd cc

pub map-some : {A B : Type 0} (o : Option A) (f : A → B) (y : B) → option_map f o ≡ Some y → (x : A) × (o ≡ Some x) × (f x ≡ y)
map-some (Some x) f y e = (x, refl, cc)
map-some None f y e = absurd cc

pub cond-some : {A : Type 0} (b : Bool) (o : Option A) (y : A) → cond b o None ≡ Some y → (b ≡ true) × (o ≡ Some y)
cond-some true o y e = (refl, e)
cond-some false o y e = absurd cc
