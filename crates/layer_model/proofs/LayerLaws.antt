-- The names of the parts of one layer. Whoever writes or removes a layer's objects cites this.
use Rattle.std.proofs.Common.{◌≡◌, ◌≢◌, ◌⊎◌, inl, inr, ⊎_elim, ℕ, List, ◌∷◌, ◌++◌, length, drop, Some, sym, ap, ◌∙◌, arith}
use Rattle.std.proofs.lemmas.Bool.{cases_lt}
use Rattle.std.proofs.lemmas.List.{append_cancel_left}
use Rattle.layer_model.specs.declared.names.LayerName.{LayerName}
use Rattle.layer_model.specs.declared.names.Part.{Part}
use Rattle.layer_model.specs.declared.names.Part.TheVariants.{Gate, Manifest, Chunk, Mark}
use Rattle.layer_model.specs.Layers.{HasPart, IsLayer, LayerObjects, name_of_part}
use Rattle.layer_model.specs.Names.{IsNumbered, job_digits, object_name, part_text, read_part, time_digits}
use Rattle.layer_model.proofs.FieldTexts.{part-found}

-- what follows the same word and a point
after_word : (w s t : List ℕ) → w ++ 46 ∷ s ≡ w ++ 46 ∷ t → s ≡ t
after_word w s t e = ap (λ (l : List ℕ). drop 1 l) (append_cancel_left w (46 ∷ s) (46 ∷ t) e)

part_texts_same : (n : LayerName) (p q : Part) → object_name n p ≡ object_name n q → part_text p ≡ part_text q
unfolding object_name
part_texts_same n p q e =
    after_word (job_digits n.job) _ _ (after_word (time_digits n.end) _ _ (after_word (time_digits n.start) _ _ (after_word (time_digits n.full) _ _ (after_word n.cluster _ _ (after_word n.collection _ _ e)))))

-- parts of one layer that share a name are the same part
pub same_part : (n : LayerName) (p q : Part) → IsNumbered p → IsNumbered q → object_name n p ≡ object_name n q → p ≡ q
same_part n p q hp hq e =
    let same : Some p ≡ Some q = sym (part-found p hp) ∙ (ap read_part (part_texts_same n p q e) ∙ part-found q hq) in
    cc

pub name_apart : (w : LayerObjects) (p q : Part) → IsNumbered p → IsNumbered q → p ≢ q → name_of_part w p ≢ name_of_part w q
name_apart w p q hp hq ne e = ne (same_part w.name p q hp hq e)

-- the parts of a layer are numbered in six digits
pub part_is_numbered : (w : LayerObjects) → IsLayer w → (part : Part) → HasPart w part → IsNumbered part
part_is_numbered w is Gate has = tt
part_is_numbered w is Manifest has = tt
part_is_numbered w is (Chunk i) has = omega (arith, has, is.few)
part_is_numbered w is (Mark i) has = omega (arith, has, is.few)

-- the parts that a layer has have different names
pub parts_apart : (w : LayerObjects) → IsLayer w → (p q : Part) → HasPart w p → HasPart w q → p ≢ q → name_of_part w p ≢ name_of_part w q
parts_apart w is p q hp hq = name_apart w p q (part_is_numbered w is p hp) (part_is_numbered w is q hq)

-- a layer has a part, or it hasn't
pub has_or : (w : LayerObjects) (part : Part) → HasPart w part ⊎ (¬ HasPart w part)
has_or w Gate = inl tt
has_or w Manifest = inl tt
has_or w (Chunk i) = ⊎_elim (λ h. inl h) (λ h. inr (λ has. absurd (omega (arith, h, has)))) (cases_lt i (length w.chunks))
has_or w (Mark i) = ⊎_elim (λ h. inl h) (λ h. inr (λ has. absurd (omega (arith, h, has)))) (cases_lt i (length w.chunks))
