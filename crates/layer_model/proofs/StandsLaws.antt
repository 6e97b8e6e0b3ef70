-- The law of one layer.
use Rattle.std.proofs.Common.{◌≡◌, ◌≢◌, ◌⊎◌, inl, inr, ⊎_elim, ℕ, ◌<◌, List, [], length, Option, Some, None, option_map, sym, ap, subst, ◌∙◌, arith}
use Rattle.std.specs.List.{Contains, slice_get}
use Rattle.std.proofs.lemmas.Option.{slice_get-get_or}
use Rattle.sha2.specs.Sha256.{sha256}
use Rattle.outside_world.specs.Objects.{Objects, at}
use Rattle.outside_world.proofs.Names.{name_cases}
use Rattle.layer_model.specs.declared.names.LayerName.{LayerName}
use Rattle.layer_model.specs.declared.names.ObjectName.{ObjectName}
use Rattle.layer_model.specs.declared.names.Part.{Part}
use Rattle.layer_model.specs.declared.names.Part.TheVariants.{Gate, Manifest, Chunk, Mark}
use Rattle.layer_model.specs.Names.{IsLayerName, IsNumbered, object_name, read_name}
use Rattle.layer_model.specs.Layers.{HasPart, IsLayer, IsOpen, IsOutside, IsPartName, IsSafe, LayerObjects, name_of_part}
use Rattle.layer_model.specs.Stands.{EmptyStands, IsLocal, IsOpenName, IsProper, LawOfOneLayer, Setting, StandsBy}
use Rattle.layer_model.proofs.NameLaws.{name-only, names-differ}
use Rattle.layer_model.proofs.LayerLaws.{has_or, part_is_numbered}
use Rattle.list_laws.proofs.Options.{none-some}

-- objects with one name are one object
pub one_object : (m n : LayerName) (p q : Part) → IsLayerName m → IsLayerName n → IsNumbered p → IsNumbered q → object_name m p ≡ object_name n q → (m ≡ n) × (p ≡ q)
one_object m n p q hm hn hp hq e =
    let same = names-differ (record { layer = m; part = p }) (record { layer = n; part = q }) (record { layer = hm; part = hp }) (record { layer = hn; part = hq }) e in
    (ap (λ (o : ObjectName). o.layer) same, ap (λ (o : ObjectName). o.part) same)

-- names of one layer, or of different ones: their gates tell
pub layer_cases : (m n : LayerName) → IsLayerName m → IsLayerName n → (m ≡ n) ⊎ (m ≢ n)
layer_cases m n hm hn = ⊎_elim
    (λ (same : object_name m Gate ≡ object_name n Gate). inl (one_object m n Gate Gate hm hn tt tt same).0)
    (λ (other : object_name m Gate ≢ object_name n Gate). inr (λ e. other (ap (λ k. object_name k Gate) e)))
    (name_cases (object_name m Gate) (object_name n Gate))

-- no part of another layer is one of this layer
pub other_outside : (w : LayerObjects) → IsLayer w → IsLayerName w.name → (n : LayerName) → IsLayerName n → n ≢ w.name → (part : Part) → IsNumbered part → IsOutside w (object_name n part)
other_outside w is named n h ne part numbered q has e = ne (one_object n w.name part q h named numbered (part_is_numbered w is q has) e).0

pub safe_is_local : IsLocal IsSafe
safe_is_local w a b same safe = record {
  open_whole = λ is_open part has. same part has ∙ safe.open_whole (sym (same Gate tt) ∙ is_open) part has;
  marked = λ i has holds. same (Chunk i) has ∙ safe.marked i has (sym (same (Mark i) has) ∙ holds);
}

-- the law, in each sense of safe that is a layer's own
module _ (Safe : LayerObjects → Objects → Type 0) (local : IsLocal Safe) (s : Setting) (proper : IsProper s) (w : LayerObjects) (among : Contains s.started w) (a b : Objects) (stands : StandsBy Safe s a) (agree : (n : List ℕ) → IsOutside w n → at b n ≡ at a n) where
  is : IsLayer w
  is = proper.started.layer w among

  named : IsLayerName w.name
  named = proper.started.name w among

  other_same : (n : LayerName) → IsLayerName n → n ≢ w.name → (part : Part) → IsNumbered part → at b (object_name n part) ≡ at a (object_name n part)
  other_same n h ne part numbered = agree (object_name n part) (other_outside w is named n h ne part numbered)

  foreign_ne : (n : LayerName) → n.cluster ≢ s.cluster → n ≢ w.name
  foreign_ne n ne e = ne (ap (λ (m : LayerName). m.cluster) e ∙ proper.own w among)

  other_safe : (v : LayerObjects) → Contains s.started v → v.name ≢ w.name → Safe v b
  other_safe v is_v ne = local v a b (λ part has. other_same v.name (proper.started.name v is_v) ne part (part_is_numbered v (proper.started.layer v is_v) part has)) (stands.safe v is_v)

  -- an object whose layer is this one, and which is no part of it, is outside
  same_layer : (n : ObjectName) (text : List ℕ) → read_name text ≡ Some n → n.layer ≡ w.name → IsPartName w text ⊎ IsOutside w text
  same_layer n text read e =
      let spelled = name-only text n read in
      let is_w : text ≡ name_of_part w n.part = spelled.1 ∙ ap (λ m. object_name m n.part) e in
      ⊎_elim
      (λ (has : HasPart w n.part). inl (n.part, has, is_w))
      (λ (not : ¬ HasPart w n.part). inr (λ q has same. not (subst (HasPart w) (sym (one_object w.name w.name n.part q named named spelled.0.part (part_is_numbered w is q has) (sym is_w ∙ same)).1) has)))
      (has_or w n.part)

  part_or : (n : ObjectName) (text : List ℕ) → read_name text ≡ Some n → IsPartName w text ⊎ IsOutside w text
  part_or n text read =
      let spelled = name-only text n read in
      ⊎_elim
      (λ (e : n.layer ≡ w.name). same_layer n text read e)
      (λ (ne : n.layer ≢ w.name). inr (λ q has same. other_outside w is named n.layer spelled.0.layer ne n.part spelled.0.part q has (sym spelled.1 ∙ same)))
      (layer_cases n.layer w.name spelled.0.layer named)

  pub stands_still : Safe w b → (IsOpen w b → Contains s.finished w) → StandsBy Safe s b
  stands_still safe finished = record {
    foreign_filled = λ v is_v.
        let filled = stands.foreign_filled v is_v in
        let ne = foreign_ne v.name (proper.others v is_v) in
        let h = proper.foreign.name v is_v in
        let few = proper.foreign.layer v is_v in
        record {
          gate = other_same v.name h ne Gate tt ∙ filled.gate;
          manifest = other_same v.name h ne Manifest tt ∙ filled.manifest;
          chunks = λ i lt. other_same v.name h ne (Chunk i) (part_is_numbered v few (Chunk i) lt) ∙ filled.chunks i lt;
        };
    foreign_only = λ n h ne is_open. stands.foreign_only n h ne (sym (other_same n h (foreign_ne n ne) Gate tt) ∙ is_open);
    finished = λ n h own is_open. ⊎_elim
        (λ (e : n ≡ w.name). (w, finished (subst (λ m. IsOpenName m b) e is_open), sym e))
        (λ (ne : n ≢ w.name). stands.finished n h own (sym (other_same n h ne Gate tt) ∙ is_open))
        (layer_cases n w.name h named);
    safe = λ v is_v. ⊎_elim
        (λ (e : v.name ≡ w.name). subst (λ u. Safe u b) (sym (proper.started.once v w is_v among e)) safe)
        (λ (ne : v.name ≢ w.name). other_safe v is_v ne)
        (layer_cases v.name w.name (proper.started.name v is_v) named);
    belongs = λ n text read own there. ⊎_elim
        (λ (part : IsPartName w text). (w, among, part))
        (λ (out : IsOutside w text). stands.belongs n text read own (λ none. there (agree text out ∙ none)))
        (part_or n text read);
  }

pub law_of_one_layer : LawOfOneLayer
law_of_one_layer s proper w among a b stands agree safe finished = stands_still IsSafe safe_is_local s proper w among a b stands agree safe finished

-- An image that is as one that stands but on these names of the layer stands too, where the layer is a finished one, or its gate is none of the names.
pub stands_as_source : (Safe : LayerObjects → Objects → Type 0) → IsLocal Safe → (F : List ℕ → Type 0) (s : Setting) → IsProper s → (w : LayerObjects) → Contains s.started w → (source image : Objects) → StandsBy Safe s source
    → ((n : List ℕ) → F n → IsPartName w n) → ((n : List ℕ) → ¬ F n → at image n ≡ at source n) → Safe w image → Contains s.finished w ⊎ (¬ F (name_of_part w Gate)) → StandsBy Safe s image
stands_as_source Safe local F s proper w among source image stands within elsewhere safe gate =
    stands_still Safe local s proper w among source image stands
    (λ n out. elsewhere n (λ f. let p = within n f in out p.0 p.1 p.2))
    safe
    (λ is_open. ⊎_elim
    (λ (done : Contains s.finished w). done)
    (λ (alone : ¬ F (name_of_part w Gate)).
    let found = stands.finished w.name (proper.started.name w among) (proper.own w among) (sym (elsewhere (name_of_part w Gate) alone) ∙ is_open) in
    subst (Contains s.finished) (proper.started.once found.0 w (proper.finished found.0 found.1) among found.2) found.1)
    gate)

no_member : {X : Type 0} (xs : List X) (x : X) → xs ≡ [] → Contains xs x → ⊥
no_member xs x none h = let short : length xs ≡ 0 = ap length none in absurd (omega (arith, h.1, short))

chunk_there : (w : LayerObjects) (i : ℕ) → i < length w.chunks → (o : Option (List ℕ)) → o ≡ None → o ≡ option_map sha256 (slice_get w.chunks i) → ⊥
chunk_there w i lt o none some = none-some o _ none (some ∙ ap (option_map sha256) (slice_get-get_or w.chunks i [] lt))

pub empty_stands : EmptyStands
empty_stands s none objects nothing = record {
  foreign_filled = λ w is. absurd (no_member s.foreign w none is);
  foreign_only = λ n h ne is_open. absurd (none-some _ _ (nothing _) is_open);
  finished = λ n h own is_open. absurd (none-some _ _ (nothing _) is_open);
  safe = λ w is. record {
    open_whole = λ is_open. absurd (none-some _ _ (nothing _) is_open);
    marked = λ i lt holds. absurd (chunk_there w i lt _ (nothing _) holds);
  };
  belongs = λ n text read own there. absurd (there (nothing text));
}
