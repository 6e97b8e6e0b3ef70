-- The layers of a chain that count, and what they have of a table.
use Rattle.std.proofs.Common.{◌≡◌, inl, inr, Bool, true, false, cond, ◌||◌, sym, refl, ap, ◌∙◌, List, [], ◌∷◌, ◌++◌, map}
use Rattle.std.specs.List.{flat_map, list_any}
use Rattle.std.proofs.lemmas.List.{map-append}
use Rattle.mvcc_keys.specs.declared.entries.Entry.{Entry}
use Rattle.list_laws.specs.Members.{Has}
use Rattle.list_laws.proofs.Members.{has-append_cases}
use Rattle.version_store.specs.Tables.{Bytes}
use Rattle.version_store.specs.Lists.{facts_of}
use Rattle.layer_merge.specs.FromLast.{from_last}
use Rattle.layer_merge.specs.Shares.{Share, flat, is_introduced}

-- ---- lists

module _ {X Y : Type 0} where
  pub any-map : (p : Y → Bool) (f : X → Y) (xs : List X) → list_any p (map f xs) ≡ list_any (λ x. p (f x)) xs
  any-map p f [] = refl
  any-map p f (x ∷ xs) = ap (λ (b : Bool). p (f x) || b) (any-map p f xs)

  -- those that count are the same under a map
  pub last-map : (p : Y → Bool) (f : X → Y) (xs : List X) → from_last p (map f xs) ≡ map f (from_last (λ x. p (f x)) xs)
  last-map p f [] = refl
  last-map p f (x ∷ xs) = ap (λ (b : Bool). cond b (from_last p (map f xs)) (f x ∷ map f xs)) (any-map p f xs) ∙ by (list_any (λ x. p (f x)) xs) (last-map p f xs)
    where
      by : (b : Bool) → from_last p (map f xs) ≡ map f (from_last (λ x. p (f x)) xs) → cond b (from_last p (map f xs)) (f x ∷ map f xs) ≡ map f (cond b (from_last (λ x. p (f x)) xs) (x ∷ xs))
      by true more = more
      by false more = refl

  -- an element of one of the lists
  pub flat-has : (f : X → List Y) (y : Y) (xs : List X) → Has y (flat_map f xs) → (x : X) × Has x xs × Has y (f x)
  flat-has f y [] has = absurd has
  flat-has f y (x ∷ xs) has = elim (has-append_cases y (f x) (flat_map f xs) has) [ inl here ↦ (x, inl refl, here) | inr later ↦ (let m = flat-has f y xs later in (m.0, inr m.1, m.2)) ]

-- those that count are among all
pub last-has : {X : Type 0} (p : X → Bool) (x : X) (xs : List X) → Has x (from_last p xs) → Has x xs
last-has p x [] has = absurd has
last-has p x (y ∷ ys) has = by (list_any p ys) (last-has p x ys) has
  where
    by : (b : Bool) → (Has x (from_last p ys) → Has x ys) → Has x (cond b (from_last p ys) (y ∷ ys)) → Has x (y ∷ ys)
    by true more later = inr (more later)
    by false more any = any

-- ---- shares

module _ {X : Type 0} (entries : X → List Entry) (introduces : X → Bool) where
  abbrev pub share : X → Share Bytes Bytes
  share x = record { introduced = introduces x; facts = facts_of (entries x) }

  flat-facts : (xs : List X) → flat (map share xs) ≡ facts_of (flat_map entries xs)
  flat-facts [] = refl
  flat-facts (x ∷ xs) = ap (λ fs. facts_of (entries x) ++ fs) (flat-facts xs) ∙ sym (map-append _ (entries x) (flat_map entries xs))

  -- the facts of the shares that count are those of the entries that count
  pub counted-facts : (xs : List X) → flat (from_last is_introduced (map share xs)) ≡ facts_of (flat_map entries (from_last introduces xs))
  counted-facts xs = ap flat (last-map is_introduced share xs) ∙ flat-facts (from_last introduces xs)
