-- The parts that count of layers that stand: a merge of them is one of the chain's entries.
use Rattle.std.proofs.Common.{◌≡◌, ◌∙◌, inl, inr, ℕ, zero, suc, ◌+◌, ◌<◌, Bool, true, false, ◌||◌, cond, refl, sym, ap, ap₂, subst, arith, List, [], ◌∷◌, ◌++◌, length, map, Option, Some, None, filter_map, unwrap_or}
use Rattle.std.specs.List.{AllByRecursion, cons_option, flat_map, list_any, range_with_len, slice_get}
use Rattle.std.proofs.lemmas.Bool.{and_parts}
use Rattle.std.proofs.lemmas.Option.{slice_get_cases, slice_get_within}
use Rattle.mvcc_keys.specs.Times.{Time}
use Rattle.mvcc_keys.specs.declared.entries.Entry.{Entry}
use Rattle.row_codec.specs.declared.rows.Kind.{Kind}
use Rattle.list_laws.specs.Members.{Has}
use Rattle.list_laws.proofs.Bools.{or-neither}
use Rattle.list_laws.proofs.Members.{AllByRecursion-has, has-AllByRecursion}
use Rattle.fact_model.specs.Facts.{IsApart}
use Rattle.fact_model.specs.Scans.{scan}
use Rattle.history_model.specs.Histories.{Table}
use Rattle.history_model.specs.Layers.{LayerRecord}
use Rattle.history_model.specs.Rows.{RowItem}
use Rattle.version_store.specs.Tables.{bytes_cmp}
use Rattle.version_store.specs.Lists.{facts_of}
use Rattle.chunk_file.specs.Entries.{are_ordered, may_follow}
use Rattle.outside_world.specs.Objects.{Objects}
use Rattle.layer_manifest.specs.declared.manifest.ChunkInfo.{ChunkInfo}
use Rattle.layer_manifest.specs.declared.manifest.Manifest.{Manifest}
use Rattle.layer_model.specs.declared.names.LayerName.{LayerName}
use Rattle.layer_merge.specs.declared.parts.Part.{Part}
use Rattle.layer_merge.specs.FromLast.{from_last}
use Rattle.layer_merge.specs.Loads.{World}
use Rattle.layer_merge.specs.Parts.{counted_entries, entries_of_part, entries_of_parts, is_introduced, merge_rows}
use Rattle.layer_merge.specs.Ranges.{AreDated}
use Rattle.layer_merge.specs.Rows.{put_of}
use Rattle.layer_merge.specs.Stands.{first_of, goes_on}
use Rattle.layer_merge.specs.Stands as stands
use Rattle.layer_objects.specs.Objects.{by_id, table_kinds}
use Rattle.layer_chains.specs.Chains.{ShowsTable, chain_entries, introduces, layer_entries, stored_put}
use Rattle.layer_chains.specs.Standing.{AreStandingLayers, IsStandingLayer}
use Rattle.layer_chains.proofs.Counted.{last-has}
use Rattle.stored_chunks.specs.Places.{ArePartsFrom, AreParts, IsPartOf, Stored, counted_parts, index_of, number_of, part_at, part_of}
use Rattle.stored_chunks.specs.Places as places
use Rattle.restore_rows.specs.Checks.{IsWholePart, last_after}
use Rattle.restore_rows.specs.Reading.{Merges, info_entries, or_none, world_of}
use Rattle.restore_rows.proofs.StandingParts.{HoldsPieces, StoresEntries, introduced-same, layer-stores}
use Rattle.restore_rows.proofs.WholeParts.{chunk-holds, none-goes}
use Rattle.restore_rows.proofs.Worlds.{part-place}

abbrev pub flat : List (List Entry) → List Entry
flat xs = flat_map (λ (es : List Entry). es) xs

-- ---- order

across : (k : Option Entry) (xs : List Entry) (e : Entry) (es : List Entry) → are_ordered k (xs ++ e ∷ es) ≡ true → may_follow (last_after k xs) e ≡ true
across k [] e es up = (and_parts (may_follow k e) (are_ordered (Some e) es) up).0
across k (x ∷ xs) e es up = across (Some x) xs e es (and_parts (may_follow k x) (are_ordered (Some x) (xs ++ e ∷ es)) up).1

after-those : (k : Option Entry) (xs ys : List Entry) → are_ordered k (xs ++ ys) ≡ true → are_ordered (last_after k xs) ys ≡ true
after-those k [] ys up = up
after-those k (x ∷ xs) ys up = after-those (Some x) xs ys (and_parts (may_follow k x) (are_ordered (Some x) (xs ++ ys)) up).1

goes-follow : (last : Option Entry) (e : Entry) → may_follow last e ≡ true → goes_on last (Some e) ≡ true
goes-follow None e follows = refl
goes-follow (Some d) e follows = follows

none-follows : (last : Option Entry) → goes_on last None ≡ true
none-follows None = refl
none-follows (Some d) = refl

goes-across : (k : Option Entry) (xs ys more : List Entry) → are_ordered k (xs ++ (ys ++ more)) ≡ true → goes_on (last_after None xs) (first_of ys) ≡ true
goes-across k [] ys more up = none-goes (first_of ys)
goes-across k (x ∷ xs) [] more up = none-follows (last_after (Some x) xs)
goes-across k (x ∷ xs) (e ∷ ys) more up = goes-follow (last_after (Some x) xs) e (across k (x ∷ xs) e (ys ++ more) up)

go-on : (k : Option Entry) (pieces : List (List Entry)) (i : ℕ) (before after : List Entry) → are_ordered k (flat pieces) ≡ true → slice_get pieces i ≡ Some before → slice_get pieces (i + 1) ≡ Some after → goes_on (last_after None before) (first_of after) ≡ true
go-on k [] i before after up got next = cc got
go-on k (x ∷ []) zero before after up got next = cc next
go-on k (x ∷ y ∷ pieces) zero before after up got next =
    let one : x ≡ before = cc got in
    let two : y ≡ after = cc next in
    ap₂ (λ (a b : List Entry). goes_on (last_after None a) (first_of b)) (sym one) (sym two) ∙ goes-across k x y (flat pieces) up
go-on k (x ∷ pieces) (suc i) before after up got next =
    let place : suc (i + 1) ≡ suc i + 1 = omega arith in
    go-on (last_after k x) pieces i before after (after-those k x (flat pieces) up) got (ap (slice_get (x ∷ pieces)) place ∙ next)

module _ (id : ℕ) (kinds : List Kind) (objects : Objects) where
  -- a part that holds pieces of entries in order is whole
  pub holds-whole : (s : Stored) (es : List Entry) → HoldsPieces id kinds objects s es → are_ordered None es ≡ true → IsWholePart id kinds objects s
  holds-whole s es h up = record {
    chunks = h.pieces;
    counted = h.counted;
    holds = λ i info piece got is. chunk-holds s.layer (s.first + i) id kinds info objects piece (h.found i info piece got is);
    ordered = λ i before after got next. go-on None h.pieces i before after (ap (are_ordered None) h.joined ∙ up) got next;
  }

  -- one for each part
  abbrev pub HoldEach : List Stored → List (List Entry) → Type 0
  HoldEach [] [] = Unit {0}
  HoldEach [] (es ∷ ess) = ⊥
  HoldEach (s ∷ ss) [] = ⊥
  HoldEach (s ∷ ss) (es ∷ ess) = HoldsPieces id kinds objects s es × HoldEach ss ess

  pub each-whole : (ss : List Stored) (ess : List (List Entry)) → HoldEach ss ess → AllByRecursion (λ (es : List Entry). are_ordered None es ≡ true) ess → AllByRecursion (IsWholePart id kinds objects) ss
  each-whole [] [] hold up = tt
  each-whole [] (es ∷ ess) hold up = absurd hold
  each-whole (s ∷ ss) [] hold up = absurd hold
  each-whole (s ∷ ss) (es ∷ ess) hold up = (holds-whole s es hold.0 up.0, each-whole ss ess hold.1 up.1)

  each-at : (ss : List Stored) (ess : List (List Entry)) (i : ℕ) (s : Stored) → HoldEach ss ess → slice_get ss i ≡ Some s → (es : List Entry) × Has es ess × HoldsPieces id kinds objects s es
  each-at [] ess i s hold got = cc got
  each-at (x ∷ ss) [] i s hold got = absurd hold
  each-at (x ∷ ss) (es ∷ ess) zero s hold got = (es, inl refl, (let same : x ≡ s = cc got in subst (λ (y : Stored). HoldsPieces id kinds objects y es) same hold.0))
  each-at (x ∷ ss) (es ∷ ess) (suc i) s hold got = (let rest = each-at ss ess i s hold.1 got in (rest.0, inr rest.1, rest.2))

-- ---- none introduces the table after the first

abbrev NoneAfter : {X : Type 0} → (X → Bool) → List X → Type 0
NoneAfter q [] = Unit {0}
NoneAfter q (x ∷ xs) = list_any q xs ≡ false

last-none : {X : Type 0} (q : X → Bool) (xs : List X) → NoneAfter q (from_last q xs)
last-none q [] = tt
last-none {X} q (x ∷ xs) = by (list_any q xs) refl (last-none q xs)
  where
    by : (b : Bool) → list_any q xs ≡ b → NoneAfter q (from_last q xs) → NoneAfter q (cond b (from_last q xs) (x ∷ xs))
    by true e more = more
    by false e more = e

none-last : {X : Type 0} (q : X → Bool) (xs : List X) → NoneAfter q xs → from_last q xs ≡ xs
none-last q [] none = refl
none-last q (x ∷ xs) none = rw none refl

none-after : {X : Type 0} (q : X → Bool) (xs : List X) → list_any q xs ≡ false → NoneAfter q xs
none-after q [] none = tt
none-after q (x ∷ xs) none = (or-neither (q x) (list_any q xs) none).1

any-parts : (k : ℕ) (ss : List Stored) (ps : List Part) → ArePartsFrom k ss ps → list_any is_introduced ps ≡ list_any (λ (s : Stored). s.introduced) ss
any-parts k [] [] are = refl
any-parts k [] (p ∷ ps) are = absurd (cc are)
any-parts k (s ∷ ss) [] are = absurd are
any-parts k (s ∷ ss) (p ∷ ps) are = ap₂ (λ (a b : Bool). a || b) are.0.introduced (any-parts (k + 1) ss ps are.1)

parts-after : (ss : List Stored) (ps : List Part) → AreParts ss ps → NoneAfter (λ (s : Stored). s.introduced) ss → NoneAfter is_introduced ps
parts-after [] [] are none = tt
parts-after [] (p ∷ ps) are none = absurd (cc are)
parts-after (s ∷ ss) [] are none = absurd are
parts-after (s ∷ ss) (p ∷ ps) are none = any-parts 1 ss ps are.1 ∙ none

-- ---- layers

module _ (tables : List Table) (id : ℕ) (kinds : List Kind) (objects : Objects) (kinds_are : by_id [] table_kinds tables id ≡ kinds) where
  abbrev entries : LayerRecord → List Entry
  entries r = layer_entries tables id r

  abbrev counts : LayerRecord → Bool
  counts r = introduces tables id r

  abbrev IsUp : LayerRecord → Type 0
  IsUp r = are_ordered None (entries r) ≡ true

  -- the parts of some layers hold their entries
  record Stores (rs : List LayerRecord) (ss : List Stored) : Type 0 where
    each : List (List Entry)
    hold : HoldEach id kinds objects ss each
    joined : flat each ≡ flat_map entries rs
    up : AllByRecursion (λ (es : List Entry). are_ordered None es ≡ true) each
    none : list_any counts rs ≡ false → list_any (λ (s : Stored). s.introduced) ss ≡ false

  stores-more : (r : LayerRecord) (rs : List LayerRecord) (o : Option Stored) (ss : List Stored) → StoresEntries id kinds objects o (entries r) (counts r) → IsUp r → Stores rs ss → Stores (r ∷ rs) (cons_option o ss)
  stores-more r rs None ss own up rest = record {
    each = rest.each;
    hold = rest.hold;
    joined = rest.joined ∙ ap (λ (es : List Entry). es ++ flat_map entries rs) (sym own);
    up = rest.up;
    none = λ e. rest.none (or-neither (counts r) (list_any counts rs) e).1;
  }
  stores-more r rs (Some s) ss own up rest = record {
    each = entries r ∷ rest.each;
    hold = (own.0, rest.hold);
    joined = ap (λ (es : List Entry). entries r ++ es) rest.joined;
    up = (up, rest.up);
    none = λ e. (let both = or-neither (counts r) (list_any counts rs) e in ap₂ (λ (a b : Bool). a || b) (own.1 ∙ both.0) (rest.none both.1));
  }

  stores-all : (rs : List LayerRecord) (layers : List (LayerName × Manifest)) → AreStandingLayers tables objects rs layers → AllByRecursion IsUp rs → Stores rs (filter_map (part_of id) layers)
  stores-all [] [] stand up = record { each = []; hold = tt; joined = refl; up = tt; none = λ e. refl }
  stores-all [] (entry ∷ layers) stand up = absurd stand
  stores-all (r ∷ rs) [] stand up = absurd stand
  stores-all (r ∷ rs) (entry ∷ layers) stand up = stores-more r rs (part_of id entry) (filter_map (part_of id) layers) (layer-stores tables r id kinds objects entry stand.0 kinds_are) up.0 (stores-all rs layers stand.1 up.1)

  parts-none : (rs : List LayerRecord) (layers : List (LayerName × Manifest)) → AreStandingLayers tables objects rs layers → AllByRecursion IsUp rs → NoneAfter counts rs → NoneAfter (λ (s : Stored). s.introduced) (filter_map (part_of id) layers)
  parts-none [] [] stand up none = tt
  parts-none [] (entry ∷ layers) stand up none = absurd stand
  parts-none (r ∷ rs) [] stand up none = absurd stand
  parts-none (r ∷ rs) (entry ∷ layers) stand up none = by (part_of id entry)
    where
      rest : list_any (λ (s : Stored). s.introduced) (filter_map (part_of id) layers) ≡ false
      rest = (stores-all rs layers stand.1 up.1).none none

      by : (o : Option Stored) → NoneAfter (λ (s : Stored). s.introduced) (cons_option o (filter_map (part_of id) layers))
      by None = none-after (λ (s : Stored). s.introduced) (filter_map (part_of id) layers) rest
      by (Some s) = rest

  -- the manifests tell which layers introduce the table
  same-flag : (r : LayerRecord) (entry : LayerName × Manifest) → IsStandingLayer tables objects r entry → places.introduces id entry ≡ counts r
  same-flag r entry standing = ap₂ (λ (l : LayerName) (m : Manifest). places.introduces id (l, m)) standing.name standing.manifest ∙ introduced-same tables r id

  any-standing : (rs : List LayerRecord) (layers : List (LayerName × Manifest)) → AreStandingLayers tables objects rs layers → list_any (places.introduces id) layers ≡ list_any counts rs
  any-standing [] [] stand = refl
  any-standing [] (entry ∷ layers) stand = absurd stand
  any-standing (r ∷ rs) [] stand = absurd stand
  any-standing (r ∷ rs) (entry ∷ layers) stand = ap₂ (λ (a b : Bool). a || b) (same-flag r entry stand.0) (any-standing rs layers stand.1)

  last-standing : (rs : List LayerRecord) (layers : List (LayerName × Manifest)) → AreStandingLayers tables objects rs layers → AreStandingLayers tables objects (from_last counts rs) (from_last (places.introduces id) layers)
  last-standing [] [] stand = tt
  last-standing [] (entry ∷ layers) stand = absurd stand
  last-standing (r ∷ rs) [] stand = absurd stand
  last-standing (r ∷ rs) (entry ∷ layers) stand =
      subst (λ (c : Bool). AreStandingLayers tables objects (cond (list_any counts rs) (from_last counts rs) (r ∷ rs)) (cond c (from_last (places.introduces id) layers) (entry ∷ layers))) (sym (any-standing rs layers stand.1))
      (by (list_any counts rs) (last-standing rs layers stand.1))
    where
      by : (b : Bool) → AreStandingLayers tables objects (from_last counts rs) (from_last (places.introduces id) layers)
          → AreStandingLayers tables objects (cond b (from_last counts rs) (r ∷ rs)) (cond b (from_last (places.introduces id) layers) (entry ∷ layers))
      by true more = more
      by false more = stand

  -- ---- the parts that count

  module _ (rs : List LayerRecord) (layers : List (LayerName × Manifest)) (stand : AreStandingLayers tables objects rs layers) (up : AllByRecursion IsUp rs) where
    abbrev ss : List Stored
    ss = counted_parts id layers

    counted-up : AllByRecursion IsUp (from_last counts rs)
    counted-up = AllByRecursion-has IsUp (from_last counts rs) (λ r has. has-AllByRecursion IsUp r rs up (last-has counts r rs has))

    stores : Stores (from_last counts rs) ss
    unfolding counted_parts
    stores = stores-all (from_last counts rs) (from_last (places.introduces id) layers) (last-standing rs layers stand) counted-up

    first-alone : NoneAfter (λ (s : Stored). s.introduced) ss
    unfolding counted_parts
    first-alone = parts-none (from_last counts rs) (from_last (places.introduces id) layers) (last-standing rs layers stand) counted-up (last-none counts rs)

    pub parts-whole : AllByRecursion (IsWholePart id kinds objects) ss
    parts-whole = each-whole id kinds objects ss stores.each stores.hold stores.up

-- ---- the world of the objects

entries-in : (w : World) (place k : ℕ) (pieces : List (List Entry)) → ((i : ℕ) (piece : List Entry) → slice_get pieces i ≡ Some piece → w place (k + i) ≡ piece) → stands.entries_in w place (range_with_len k (length pieces)) ≡ flat pieces
entries-in w place k [] at = refl
entries-in w place k (piece ∷ pieces) at =
    ap₂ (λ (a b : List Entry). a ++ b) ((let n : k ≡ k + 0 = omega arith in ap (w place) n) ∙ at 0 piece refl)
    (entries-in w place (k + 1) pieces (λ i x got. (let n : k + 1 + i ≡ k + suc i = omega arith in ap (w place) n) ∙ at (suc i) x got))

module _ (id : ℕ) (kinds : List Kind) (objects : Objects) (first : Stored) (others : List Stored) where
  abbrev all : List Stored
  all = first ∷ others

  abbrev w : World
  w = world_of id kinds objects all

  world-piece : (place : ℕ) (s : Stored) (es : List Entry) (h : HoldsPieces id kinds objects s es) (i : ℕ) (piece : List Entry) → slice_get all place ≡ Some s → slice_get h.pieces i ≡ Some piece → w place i ≡ piece
  world-piece place s es h i piece got is =
      let lt : i < length s.chunks = (let l = slice_get_within h.pieces i piece is in let n = h.counted in omega (arith, l, n)) in
      let index : index_of s i ≡ i = omega (arith, lt) in
      let there : (info : ChunkInfo) × (slice_get s.chunks i ≡ Some info) = elim (slice_get_cases s.chunks i).1 [ inl x ↦ (x.0, x.2) | inr x ↦ absurd (let le = x.0 in omega (arith, lt, le)) ] in
      let number : number_of s i ≡ s.first + i = ap (λ (n : ℕ). s.first + n) index in
      ap (λ (o : Option Stored). entries_of (unwrap_or o first) i) got
      ∙ (ap₂ (λ (n m : ℕ). info_entries s n id kinds objects (slice_get s.chunks m)) number index
      ∙ (ap (info_entries s (s.first + i) id kinds objects) there.1 ∙ ap or_none (h.found i there.0 piece there.1 is)))
    where
      entries_of : Stored → ℕ → List Entry
      entries_of q n = info_entries q (number_of q n) id kinds objects (slice_get q.chunks (index_of q n))

  part-entries : (place : ℕ) (s : Stored) (es : List Entry) (p : Part) → HoldsPieces id kinds objects s es → slice_get all place ≡ Some s → IsPartOf place s p → entries_of_part w p ≡ es
  part-entries place s es p h got is =
      ap₂ (λ (l n : ℕ). stands.entries_in w l (range_with_len 0 n)) is.layer (is.chunks ∙ sym h.counted)
      ∙ (entries-in w place 0 h.pieces (λ i piece found. (let n : 0 + i ≡ i = omega arith in ap (w place) n) ∙ world-piece place s es h i piece got found) ∙ h.joined)

  parts-entries : (k : ℕ) (ss : List Stored) (ps : List Part) (ess : List (List Entry)) → ((i : ℕ) (s : Stored) → slice_get ss i ≡ Some s → slice_get all (k + i) ≡ Some s) → ArePartsFrom k ss ps → HoldEach id kinds objects ss ess → entries_of_parts w ps ≡ flat ess
  parts-entries k [] [] [] at are hold = refl
  parts-entries k [] [] (es ∷ ess) at are hold = absurd hold
  parts-entries k [] (p ∷ ps) ess at are hold = absurd (cc are)
  parts-entries k (s ∷ ss) [] ess at are hold = absurd are
  parts-entries k (s ∷ ss) (p ∷ ps) [] at are hold = absurd hold
  parts-entries k (s ∷ ss) (p ∷ ps) (es ∷ ess) at are hold =
      ap₂ (λ (a b : List Entry). a ++ b) (part-entries k s es p hold.0 ((let n : k ≡ k + 0 = omega arith in ap (slice_get all) n) ∙ at 0 s refl) are.0)
      (parts-entries (k + 1) ss ps ess (λ i x got. (let n : k + 1 + i ≡ k + suc i = omega arith in ap (slice_get all) n) ∙ at (suc i) x got) are.1 hold.1)

  part-ordered : (ess : List (List Entry)) → HoldEach id kinds objects all ess → AllByRecursion (λ (es : List Entry). are_ordered None es ≡ true) ess → (ps : List Part) → AreParts all ps → (p : Part) → Has p ps → are_ordered None (entries_of_part w p) ≡ true
  part-ordered ess hold up ps are p has =
      let found = part-place 0 all ps p are has in
      let own = each-at id kinds objects all ess found.0 found.1 hold found.2 in
      ap (are_ordered None) (part-entries found.0 found.1 own.0 p own.2 found.2 (let n : 0 + found.0 ≡ found.0 = omega arith in subst (λ (m : ℕ). IsPartOf m found.1 p) n found.3))
      ∙ has-AllByRecursion (λ (es : List Entry). are_ordered None es ≡ true) own.0 ess up own.1

-- ---- a merge of the parts that count

module _ (tables : List Table) (id : ℕ) (kinds : List Kind) (objects : Objects) (kinds_are : by_id [] table_kinds tables id ≡ kinds) (rs : List LayerRecord) (layers : List (LayerName × Manifest)) (stand : AreStandingLayers tables objects rs layers) (t : Time) (rows : List RowItem) (shows : ShowsTable tables id kinds t rows rs) where
  abbrev parts : List Stored
  parts = counted_parts id layers

  abbrev held : Stores tables id kinds objects kinds_are (from_last (introduces tables id) rs) parts
  held = stores tables id kinds objects kinds_are rs layers stand shows.ordered

  counted-by : (ss : List Stored) → HoldEach id kinds objects ss held.each → NoneAfter (λ (s : Stored). s.introduced) ss → (ps : List Part) → AreParts ss ps → counted_entries (world_of id kinds objects ss) ps ≡ flat held.each
  unfolding counted_entries
  counted-by [] hold none [] are = (by held.each hold)
    where
      by : (ess : List (List Entry)) → HoldEach id kinds objects [] ess → [] ≡ flat ess
      by [] h = refl
      by (es ∷ ess) h = absurd h
  counted-by [] hold none (p ∷ ps) are = absurd (cc are)
  counted-by (s ∷ ss) hold none ps are =
      ap (entries_of_parts (world_of id kinds objects (s ∷ ss))) (none-last is_introduced ps (parts-after (s ∷ ss) ps are none))
      ∙ parts-entries id kinds objects s ss 0 (s ∷ ss) ps held.each (λ i x got. (let n : 0 + i ≡ i = omega arith in ap (slice_get (s ∷ ss)) n) ∙ got) are hold

  ordered-by : (ss : List Stored) → HoldEach id kinds objects ss held.each → (ps : List Part) → AreParts ss ps → (p : Part) → Has p ps → are_ordered None (entries_of_part (world_of id kinds objects ss) p) ≡ true
  ordered-by [] hold [] are p has = absurd has
  ordered-by [] hold (q ∷ ps) are p has = absurd (cc are)
  ordered-by (s ∷ ss) hold ps are p has = part-ordered id kinds objects s ss held.each hold held.up ps are p has

  pub parts-merge : Merges (world_of id kinds objects parts) parts t (map (stored_put id kinds) rows)
  unfolding merge_rows
  parts-merge ps are =
      let own : counted_entries (world_of id kinds objects parts) ps ≡ chain_entries tables id rs = counted-by parts held.hold (first-alone tables id kinds objects kinds_are rs layers stand shows.ordered) ps are ∙ held.joined in (
        record {
          ordered = λ p has. ordered-by parts held.hold ps are p (last-has is_introduced p ps has);
          apart = subst (λ (es : List Entry). IsApart bytes_cmp (facts_of es)) (sym own) shows.apart;
          dated = subst AreDated (sym own) shows.dated;
        },
        ap (λ (es : List Entry). map put_of (scan bytes_cmp t (facts_of es))) own ∙ shows.rows,
      )

  pub parts-stand : AllByRecursion (IsWholePart id kinds objects) parts
  parts-stand = parts-whole tables id kinds objects kinds_are rs layers stand shows.ordered
