-- Chains of own layers: what is done with one, and that its layers lie in one subdirectory and lead to the time.
use Rattle.std.proofs.Common.{◌≡◌, inl, inr, ℕ, suc, ◌-◌, Bool, true, false, cond, ◌&&◌, ◌||◌, refl, sym, ap, ap₂, subst, ◌∙◌, arith, List, [], ◌∷◌, length, map, filter, Option, Some, None, slice_get, filter_map, option_map, true≢false}
use Rattle.std.specs.List.{AllByRecursion, cons_option, find}
use Rattle.std.specs.Str.{bytes_eq}
use Rattle.std.proofs.lemmas.List.{length-map}
use Rattle.std.proofs.lemmas.Option.{slice_get-map}
use Rattle.std.proofs.lemmas.Slice.Eq.{bytes_eq-Decides}
use Rattle.mvcc_keys.specs.Times.{Time, time_eq, time_le, time_lt, zero_time}
use Rattle.history_model.specs.Histories.{Table}
use Rattle.history_model.specs.Layers as records
use Rattle.list_laws.specs.Members.{Has}
use Rattle.list_laws.proofs.Members.{AllByRecursion-has, filter-has, filter-passes, has-AllByRecursion}
use Rattle.list_laws.proofs.Options.{map-some, some-is}
use Rattle.mvcc_keys.proofs.TimeOrder.{eq-is}
use Rattle.fact_model.proofs.Orders.{ordered-has}
use Rattle.layer_manifest.specs.declared.manifest.Manifest.{Manifest}
use Rattle.layer_manifest.specs.Manifests.{IsProperManifest}
use Rattle.layer_model.specs.declared.names.LayerName.{LayerName}
use Rattle.layer_objects.specs.Objects.{name_of_record}
use Rattle.stored_chunks.specs.Parts.{AreProperLayers}
use Rattle.layer_chains.specs.Chains.{AreChainFrom, IsChainTo, Serves}
use Rattle.layer_book.specs.Books.{name_in}
use Rattle.layer_book.specs.Subdirectories.{is_in, layers_of, place_cmp, subdirectories_of}
use Rattle.layer_book.proofs.Carried.{layers_map, subdirectories_map}
use Rattle.chain_resolver.specs.declared.layer.Layer.{Layer}
use Rattle.chain_resolver.specs.Ways.{AreOrdered, adjoins, chain_to, serves}
use Rattle.chain_resolver.specs.Cover.{reason}
use Rattle.chain_resolver.specs.Best.{Chain as Places, best_way, candidates, cover, cover_of, goes_on, is_best, is_passing, is_way, reached}
use Rattle.script_grammar.specs.declared.backups.Src.{Src}
use Rattle.reply_texts.specs.declared.refusals.Refusal.{Refusal}
use Rattle.reply_texts.specs.declared.refusals.Refusal.TheVariants.{NoSuchBackup}
use Rattle.machine_model.specs.Machine.{Backup, Stepped, refused, with_found}
use Rattle.machine_model.specs.Backups.{source_among}
use Rattle.machine_model.specs.Restores.{last_of, layers_at, link_of, links_of, time_of, with_cover}
use Rattle.cluster_core.specs.declared.chains.Chain.{Chain}
use Rattle.cluster_core.specs.declared.halts.Halt.TheVariants.{Refused}
use Rattle.cluster_core.specs.ClusterView.{ClusterState, record_of}
use Rattle.cluster_core.specs.Standing.{HasBackups, IsOwnBackup, machine_of}
use Rattle.cluster_core.specs.Backing.{AreLayersFrom}
use Rattle.cluster_core.specs.Chains.{IsChain, IsChainFault, IsOwnChain, IsOwnLayer, with_chain}
use Rattle.machine_model.proofs.Lists.{filter_map-has}
use Rattle.cluster_core.proofs.Storing.{has-place}
use Rattle.machine_model.proofs.Lists.{got-has}
use Rattle.list_laws.proofs.Bools.{and-parts}

-- ---- lists

cons-map : {X Y : Type 0} (f : X → Y) (o : Option X) (xs : List X) → cons_option (option_map f o) (map f xs) ≡ map f (cons_option o xs)
cons-map f None xs = refl
cons-map f (Some x) xs = refl

-- the elements of a mapped list at some places
at-map : {X Y : Type 0} (f : X → Y) (xs : List X) (places : List ℕ) → filter_map (slice_get (map f xs)) places ≡ map f (filter_map (slice_get xs) places)
at-map f xs [] = refl
at-map f xs (p ∷ ps) = ap₂ cons_option (slice_get-map f xs p) (at-map f xs ps) ∙ cons-map f (slice_get xs p) (filter_map (slice_get xs) ps)

-- ---- the last of a list

-- what isn't empty has a last one
some-last : {X : Type 0} (x : X) (xs : List X) → (y : X) × (last_of (x ∷ xs) ≡ Some y)
some-last x [] = (x, refl)
some-last x (y ∷ ys) =
    let more = some-last y ys in
    let place : length (x ∷ y ∷ ys) - 1 ≡ suc (length (y ∷ ys) - 1) = omega arith in
    (more.0, ap (slice_get (x ∷ y ∷ ys)) place ∙ more.1)

pub last-map : {X Y : Type 0} (f : X → Y) (xs : List X) (x : X) → last_of xs ≡ Some x → last_of (map f xs) ≡ Some (f x)
last-map f xs x last = ap (λ (n : ℕ). slice_get (map f xs) (n - 1)) (length-map xs f) ∙ (slice_get-map f xs (length xs - 1) ∙ ap (option_map f) last)

-- ---- own layers

module _ (c : ClusterState) (tables : List Table) (b : HasBackups c tables) where
  -- the backup of a layer in the book
  pub booked : (p : LayerName × Manifest) → Has p c.book.layers → (place : ℕ) × IsOwnBackup c tables place (record_of p)
  booked p h = let at = has-place (Backup (record_of p)) c.jobs (b.layers p h).among in (at.0, b.backups at.0 (record_of p) at.1)

  -- a layer of a source is in the book, in the source's subdirectory
  pub from-own : (source : Src) (collection : List ℕ) (layers : List (LayerName × Manifest)) (from : AreLayersFrom c.book source collection layers) → (p : LayerName × Manifest) → Has p layers → IsOwnLayer c.book collection from.subdirectory.1 p
  unfolding layers_of
  from-own source collection layers from p h =
      let test : LayerName × Manifest → Bool = λ x. is_in collection from.subdirectory.0 from.subdirectory.1 (name_in x) in
      let among = ordered-has (place_cmp name_in) p (filter test c.book.layers) (subst (Has p) from.are h) in
      let passed = and-parts (bytes_eq p.0.collection collection) (bytes_eq p.0.cluster from.subdirectory.0 && time_eq p.0.full from.subdirectory.1) (filter-passes test p c.book.layers among) in
      record {
        own = filter-has test p c.book.layers among;
        collection_is = (bytes_eq-Decides p.0.collection collection).0 passed.0;
        full_is = eq-is p.0.full from.subdirectory.1 (and-parts (bytes_eq p.0.cluster from.subdirectory.0) (time_eq p.0.full from.subdirectory.1) passed.1).1;
      }

  all-ordered : (layers : List (LayerName × Manifest)) → ((p : LayerName × Manifest) → Has p layers → Has p c.book.layers) → AreOrdered (links_of (map record_of layers))
  all-ordered [] all = refl
  all-ordered (p ∷ ps) all = ap₂ (λ (x y : Bool). x && y) (booked p (all p (inl refl))).1.is.ends (all-ordered ps (λ q h. all q (inr h)))

  pub from-ordered : (source : Src) (collection : List ℕ) (layers : List (LayerName × Manifest)) → AreLayersFrom c.book source collection layers → AreOrdered (links_of (map record_of layers))
  from-ordered source collection layers from = all-ordered layers (λ p h. (from-own source collection layers from p h).own)

-- ---- what is done with a chain

module _ (c : ClusterState) (tables : List Table) (source : Src) (collection : List ℕ) (at : Option Time) (change : Time → List records.LayerRecord → Stepped) where
  abbrev over : List records.LayerRecord → Stepped
  over rs = with_cover (machine_of c tables) rs (cover (links_of rs) (time_of rs at)) (change (time_of rs at))

  own-among : (o : Option (List ℕ × Time)) → source_among source (subdirectories_of name_in collection c.book.layers) ≡ o
      → with_chain (machine_of c tables) source collection at change ≡ with_found (machine_of c tables) NoSuchBackup o (λ s. over (layers_of name_of_record collection s.0 s.1 (map record_of c.book.layers)))
  own-among o e = ap (λ x. with_found (machine_of c tables) NoSuchBackup x (λ s. over (layers_of name_of_record collection s.0 s.1 (map record_of c.book.layers)))) (ap (source_among source) (subdirectories_map record_of name_of_record collection c.book.layers) ∙ e)

  from-over : (layers : List (LayerName × Manifest)) → AreLayersFrom c.book source collection layers → with_chain (machine_of c tables) source collection at change ≡ over (map record_of layers)
  from-over layers from =
      own-among (Some from.subdirectory) from.among
      ∙ ap over (layers_map record_of name_of_record collection from.subdirectory.0 from.subdirectory.1 c.book.layers ∙ ap (map record_of) (sym from.are))

  -- the change is made over the chain that is found
  pub chain-told : (x : Chain) → IsChain c.book source collection at x → with_chain (machine_of c tables) source collection at change ≡ change x.time (map record_of x.layers.items)
  chain-told x found =
      let rs = map record_of found.layers in
      from-over found.layers found.from
      ∙ (ap (λ t. with_cover (machine_of c tables) rs (cover (links_of rs) t) (change t)) (sym found.is.time)
      ∙ (ap (λ o. with_cover (machine_of c tables) rs o (change x.time)) found.is.cover
      ∙ ap (change x.time) (at-map record_of found.layers found.is.places ∙ ap (map record_of) (sym found.is.are))))

  -- a fault refuses it
  pub chain-refused : (refusal : Refusal) → IsChainFault c.book source collection at (Refused refusal) → with_chain (machine_of c tables) source collection at change ≡ refused (machine_of c tables) refusal
  chain-refused refusal (inl none) = own-among None none.1 ∙ ap (refused (machine_of c tables)) (sym none.0)
  chain-refused refusal (inr none) =
      let rs = map record_of none.layers in
      from-over none.layers none.from
      ∙ (ap (λ o. with_cover (machine_of c tables) rs o (change (time_of rs at))) none.uncovered.2 ∙ ap (refused (machine_of c tables)) (sym none.uncovered.1))

-- ---- the records of a chain

pub find-passes : {X : Type 0} (p : X → Bool) (xs : List X) (x : X) → find p xs ≡ Some x → p x ≡ true
find-passes p [] x e = cc e
find-passes p (y ∷ ys) x e = by (p y) refl e (find-passes p ys x)
  where
    by : (b : Bool) → p y ≡ b → cond b (Some y) (find p ys) ≡ Some x → (find p ys ≡ Some x → p x ≡ true) → p x ≡ true
    by true is e more = let same : y ≡ x = cc e in subst (λ z. p z ≡ true) same is
    by false is e more = more e

passing : (test : Layer → Bool) (o : Option Layer) → is_passing test o ≡ true → (l : Layer) × (o ≡ Some l) × (test l ≡ true)
passing test None e = absurd (true≢false (sym e))
passing test (Some l) e = (l, refl, e)

-- the last record of a chain serves the time
pub last-serves : (s t : Time) (rs : List records.LayerRecord) (r : records.LayerRecord) → AreChainFrom s t rs → last_of rs ≡ Some r → Serves t r
last-serves s t [] r chain last = absurd chain
last-serves s t (q ∷ []) r chain last = subst (Serves t) (some-is q r last) chain.1
last-serves s t (q ∷ k ∷ rs) r chain last =
    let place : length (q ∷ k ∷ rs) - 1 ≡ suc (length (k ∷ rs) - 1) = omega arith in
    last-serves q.end t (k ∷ rs) r chain.1 (sym (ap (slice_get (q ∷ k ∷ rs)) place) ∙ last)

-- a chain has a record
pub chain-some : (s t : Time) (ps : List (LayerName × Manifest)) → AreChainFrom s t (map record_of ps) → (p : LayerName × Manifest) × (last_of ps ≡ Some p)
chain-some s t [] chain = absurd chain
chain-some s t (p ∷ ps) chain = some-last p ps

-- a record more in front
chain-more : (s t : Time) (r : records.LayerRecord) (rs : List records.LayerRecord) → r.start ≡ s → AreChainFrom r.end t rs → AreChainFrom s t (r ∷ rs)
chain-more s t r [] start chain = absurd chain
chain-more s t r (q ∷ rs) start chain = (start, chain)

module _ (rs : List records.LayerRecord) (t : Time) where
  abbrev links : List Layer
  links = links_of rs

  serves-is : (r : records.LayerRecord) → serves (link_of r) t ≡ true → Serves t r
  serves-is r e = by (time_eq r.end t) refl e
    where
      by : (b : Bool) → time_eq r.end t ≡ b → (b || (r.history && time_lt r.start t && time_le r.floor t && time_lt t r.end)) ≡ true → Serves t r
      by true is f = inl (sym (eq-is r.end t is))
      by false is f =
          let ends = and-parts (r.history && time_lt r.start t && time_le r.floor t) (time_lt t r.end) f in
          let past = and-parts (r.history && time_lt r.start t) (time_le r.floor t) ends.0 in
          let after = and-parts r.history (time_lt r.start t) past.0 in
          inr (after.0, after.1, past.1, ends.1)

  -- the record of a place that is passed, which begins where it has to
  chain-at : (s : Time) (before : Option Layer) → ((l : Layer) → adjoins zero_time before l ≡ true → l.start ≡ s) → (p : ℕ) (rest : Layer → Bool) → is_passing (λ (l : Layer). adjoins zero_time before l && rest l) (slice_get links p) ≡ true
      → (r : records.LayerRecord) × (slice_get rs p ≡ Some r) × (r.start ≡ s) × (rest (link_of r) ≡ true)
  chain-at s before adjoin p rest e =
      let l = passing (λ (l : Layer). adjoins zero_time before l && rest l) (slice_get links p) e in
      let r = map-some (slice_get rs p) link_of l.0 (sym (slice_get-map link_of rs p) ∙ l.1) in
      let is = and-parts (adjoins zero_time before l.0) (rest l.0) l.2 in
      (r.0, r.1, ap (λ (k : Layer). k.start) r.2 ∙ adjoin l.0 is.0, subst (λ (k : Layer). rest k ≡ true) (sym r.2) is.1)

  chain-on : (s : Time) (before : Option Layer) → ((l : Layer) → adjoins zero_time before l ≡ true → l.start ≡ s) → (p : ℕ) (ps : List ℕ) → goes_on (chain_to t) links before (p ∷ ps) ≡ true → AreChainFrom s t (layers_at rs (p ∷ ps))
  chain-on s before adjoin p [] e =
      let r = chain-at s before adjoin p (λ (l : Layer). goes_on (chain_to t) links (Some l) []) e in
      subst (λ (o : Option records.LayerRecord). AreChainFrom s t (cons_option o [])) (sym r.1) (r.2, serves-is r.0 r.3)
  chain-on s before adjoin p (q ∷ ps) e =
      let r = chain-at s before adjoin p (λ (l : Layer). goes_on (chain_to t) links (Some l) (q ∷ ps)) e in
      let rest = chain-on r.0.end (Some (link_of r.0)) (λ l next. sym (eq-is r.0.end l.start next)) q ps r.3 in
      subst (λ (o : Option records.LayerRecord). AreChainFrom s t (cons_option o (layers_at rs (q ∷ ps)))) (sym r.1) (chain-more s t r.0 (layers_at rs (q ∷ ps)) r.2 rest)

  chain-way : (places : List ℕ) → is_way (chain_to t) links places ≡ true → IsChainTo t (layers_at rs places)
  chain-way [] e = absurd (true≢false (sym e))
  chain-way (p ∷ ps) e = chain-on zero_time None (λ l first. sym (eq-is zero_time l.start first)) p ps e

  -- the records at the places of a cover form a chain
  cover-chain : (places : List ℕ) → cover links t ≡ Places places → IsChainTo t (layers_at rs places)
  unfolding cover best_way
  cover-chain places e = by (best_way (chain_to t) links) refl e
    where
      by : (o : Option (List ℕ)) → best_way (chain_to t) links ≡ o → cover_of o (reason links t (reached links t)) ≡ Places places → IsChainTo t (layers_at rs places)
      by None is e = cc e
      by (Some ps) is e =
          let same : ps ≡ places = cc e in
          subst (λ (qs : List ℕ). IsChainTo t (layers_at rs qs)) same (chain-way ps (and-parts (is_way (chain_to t) links ps) _ (find-passes (is_best (chain_to t) links) (candidates links) ps is)).0)

module _ (c : ClusterState) (tables : List Table) (b : HasBackups c tables) where
  -- the chain of a source is one of own layers
  pub own-chain : (source : Src) (collection : List ℕ) (at : Option Time) (x : Chain) → IsChain c.book source collection at x → IsOwnChain c.book x
  own-chain source collection at x found =
      let full = found.from.subdirectory.1 in
      record {
        collection = collection;
        full = full;
        layers = subst (AllByRecursion (IsOwnLayer c.book collection full)) (sym found.is.are)
            (AllByRecursion-has (IsOwnLayer c.book collection full) (filter_map (slice_get found.layers) found.is.places) (λ p has.
            let place = filter_map-has (slice_get found.layers) p found.is.places has in
            from-own c tables b source collection found.layers found.from p (got-has found.layers place.0 p place.2)));
        chain = subst (IsChainTo x.time) (at-map record_of found.layers found.is.places ∙ ap (map record_of) (sym found.is.are)) (cover-chain (map record_of found.layers) x.time found.is.places found.is.cover);
      }

  -- an own layer of a chain is in the book
  own-layer : (x : Chain) → IsOwnChain c.book x → (p : LayerName × Manifest) → Has p x.layers.items → Has p c.book.layers
  own-layer x chain p has = (has-AllByRecursion (IsOwnLayer c.book chain.collection chain.full) p x.layers.items chain.layers has).own

  pub own-proper : (x : Chain) → IsOwnChain c.book x → AreProperLayers x.layers.items
  own-proper x chain = AllByRecursion-has (λ (p : LayerName × Manifest). IsProperManifest p.1) x.layers.items (λ p has. (b.layers p (own-layer x chain p has)).proper)
