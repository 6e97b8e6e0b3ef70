-- The entries of a chain show a table.
use Rattle.std.proofs.Common.{◌≡◌, inl, ℕ, ◌+◌, ◌-◌, ◌≤◌, ◌<◌, nat_lt, if◌then◌else◌, Bool, true, false, not, cond, ◌&&◌, sym, refl, ap, ap₂, subst, ◌∙◌, true≢false, arith, List, [], ◌∷◌, length, map, reverse, slice_get, Option, Some, None, option_map, unwrap_or}
use Rattle.std.specs.List.{AllByRecursion, list_any}
use Rattle.std.proofs.lemmas.Bool.Decides.{nat_tests}
use Rattle.std.proofs.lemmas.Option.{slice_get-map}
use Rattle.mvcc_keys.specs.Times.{IsTime, Time, time_le, time_lt, zero_time}
use Rattle.mvcc_keys.specs.declared.entries.Entry.{Entry}
use Rattle.mvcc_keys.proofs.TimeOrder.{le-refl, lt-le}
use Rattle.row_codec.specs.declared.rows.Kind.{Kind}
use Rattle.row_codec.specs.RowOrder.{row_cmp}
use Rattle.table_descriptors.specs.declared.scopes.Scope.{Scope}
use Rattle.table_descriptors.specs.Descriptors.{Schema, key_kinds}
use Rattle.list_laws.specs.Members.{AllIn, Has}
use Rattle.list_laws.proofs.Bools.{or-neither}
use Rattle.list_laws.proofs.Members.{AllByRecursion-has, filter-has, has-AllByRecursion, has-map, map-has, reverse-has}
use Rattle.fact_model.specs.Facts.{Del, DelRange, IsApart, Put, date}
use Rattle.fact_model.specs.Listings.{RangesDiffer}
use Rattle.fact_model.specs.Scans.{scan}
use Rattle.fact_model.proofs.Stores.{apart-part}
use Rattle.history_model.specs.Histories.{Table, schemas_of}
use Rattle.history_model.specs.Layers.{LayerRecord}
use Rattle.history_model.specs.Rows.{RowFact}
use Rattle.version_store.specs.Tables.{ByteFact, Bytes, Tables, bytes_cmp, entry_of}
use Rattle.version_store.specs.Lists.{fact_of, facts_of}
use Rattle.version_store.proofs.Bytes.{bytes_order, entry-fact, fact-entry}
use Rattle.span_export.specs.Plans.{plan_entries}
use Rattle.span_export.proofs.EntryOrder.{plan-sorted}
use Rattle.table_rows.specs.RowTables.{AreRowFacts, IsRowFact, bytes_of, coded}
use Rattle.introduced_spans.specs.PlanLaws.{ascend_after}
use Rattle.introduced_spans.specs.Publicity.{becomes_public_in, is_public, public_at}
use Rattle.introduced_spans.specs.Spans.{descriptors_of, is_in_scope, is_member_over, plan_by, scope_ids, table_ids}
use Rattle.introduced_spans.proofs.Lists.{range-all}
use Rattle.chunk_file.specs.Entries.{are_ordered}
use Rattle.layer_objects.specs.Objects.{by_id, covers, rows_of, table_facts, table_kinds}
use Rattle.layer_objects.specs.Storable.{IsRecord, IsSized}
use Rattle.layer_objects.proofs.Listing.{find-has}
use Rattle.layer_objects.proofs.Ordered.{ordered_all}
use Rattle.layer_objects.proofs.Planned.{entry-there}
use Rattle.layer_objects.proofs.Writable.{at-id}
use Rattle.layer_merge.specs.FromLast.{from_last}
use Rattle.layer_merge.specs.Ranges.{AreDated}
use Rattle.layer_merge.specs.Rows.{put_of}
use Rattle.layer_merge.specs.Shares.{AreShares, IsShareOf, Share, is_introduced}
use Rattle.layer_merge.proofs.ChainLaws.{shares-scan}
use Rattle.layer_merge.proofs.CoverLaws.{range-fact}
use Rattle.layer_merge.proofs.NextRows.{date-same}
use Rattle.layer_chains.specs.Chains.{AreApart, AreChainFrom, AreMergeable, AreOfScope, ChainsShowTables, IsMergeable, IsShown, Serves, ShowsTable, chain_entries, introduces, layer_entries, stored_put}
use Rattle.layer_chains.proofs.Coded.{coded-apart, coded-differ, coded-each, rows-shown}
use Rattle.layer_chains.proofs.Counted.{any-map, counted-facts, flat-has, last-has, share}
use Rattle.layer_chains.proofs.Membership.{IsReadTo, introduced-member, public-before, read-to}
use Rattle.layer_chains.proofs.Planned.{entries-are, introduces-is}
use Rattle.layer_chains.proofs.Shared.{layer-share}

-- ---- a table of the scope, in layers

module _ (tables : List Table) (scope : Scope) (id : ℕ) (member : Has id (scope_ids (schemas_of tables) scope)) where
  abbrev ds : List Schema
  ds = descriptors_of (schemas_of tables) id

  abbrev h : Tables
  h = bytes_of (rows_of tables)

  abbrev fs : List ByteFact
  fs = h.facts id

  abbrev shares : List LayerRecord → List (Share Bytes Bytes)
  shares rs = map (share (layer_entries tables id) (introduces tables id)) rs

  -- each fact of a layer's entries is one of the table
  facts-in : (r : LayerRecord) → r.scope ≡ scope → AllIn (facts_of (layer_entries tables id r)) fs
  facts-in r is f has = by (is_member_over r.history (covers r) ds) (subst (λ (es : List Entry). Has f (facts_of es)) (entries-are tables scope id member r is) has)
    where
      by : (b : Bool) → Has f (facts_of (cond b (plan_entries h id (plan_by r.history (becomes_public_in ds r.start r.end) (covers r) ds)) [])) → Has f fs
      by false none = absurd none
      by true some =
          let m = map-has fact_of f (plan_entries h id (plan_by r.history (becomes_public_in ds r.start r.end) (covers r) ds)) some in
          let g = entry-there h id (plan_by r.history (becomes_public_in ds r.start r.end) (covers r) ds) m.0 m.1 in
          subst (λ (x : ByteFact). Has x fs) (sym (m.2 ∙ (ap fact_of g.2 ∙ fact-entry g.0))) g.1

  -- the entries of a layer are in order
  pub in-order : (r : LayerRecord) → r.scope ≡ scope → are_ordered None (layer_entries tables id r) ≡ true
  in-order r is = ap (are_ordered None) (entries-are tables scope id member r is) ∙ by (is_member_over r.history (covers r) ds)
    where
      by : (b : Bool) → are_ordered None (cond b (plan_entries h id (plan_by r.history (becomes_public_in ds r.start r.end) (covers r) ds)) []) ≡ true
      by false = refl
      by true = ordered_all _ (plan-sorted h id (plan_by r.history (becomes_public_in ds r.start r.end) (covers r) ds))

  -- each fact of the entries that count is one of the table
  pub counted-in : (rs : List LayerRecord) → AllByRecursion (λ (r : LayerRecord). r.scope ≡ scope) rs → AllIn (facts_of (chain_entries tables id rs)) fs
  counted-in rs of f has =
      let m = map-has fact_of f (chain_entries tables id rs) has in
      let l = flat-has (layer_entries tables id) m.0 (from_last (introduces tables id) rs) m.1 in
      let is = has-AllByRecursion (λ (r : LayerRecord). r.scope ≡ scope) l.0 rs of (last-has (introduces tables id) l.0 rs l.1) in
      subst (λ (x : ByteFact). Has x fs) (sym m.2) (facts-in l.0 is (fact_of m.0) (has-map fact_of m.0 (layer_entries tables id l.0) l.2))

  module _ (a : ascend_after zero_time ds ≡ true) where
    -- before a layer that is read up to a time at which the table is public, and doesn't introduce it, the table is public
    before-layer : (r : LayerRecord) (x : Time) → IsRecord r → r.scope ≡ scope → Serves x r → public_at ds x ≡ true → introduces tables id r ≡ false → public_at ds r.start ≡ true
    before-layer r x is of serves on none =
        let read = read-to r x is serves in
        public-before (covers r) ds a x read on (never read (becomes_public_in ds r.start r.end) refl) r.start (le-refl r.start) (lt-le r.start x read.after)
      where
        never : IsReadTo (covers r) x → (b : Bool) → becomes_public_in ds r.start r.end ≡ b → becomes_public_in ds r.start r.end ≡ false
        never read false e = e
        never read true e = absurd (true≢false (sym (ap₂ (λ (m i : Bool). m && i) (introduced-member (covers r) ds a x read on e) e) ∙ (sym (introduces-is tables scope id member r of) ∙ none)))

    -- so is it before layers that adjoin, none of which introduces it
    pub before-chain : (e t : Time) (rs : List LayerRecord) → AreChainFrom e t rs → AllByRecursion IsRecord rs → AllByRecursion (λ (r : LayerRecord). r.scope ≡ scope) rs → public_at ds t ≡ true → list_any (introduces tables id) rs ≡ false → public_at ds e ≡ true
    before-chain e t [] chain are of on none = absurd chain
    before-chain e t (r ∷ []) chain are of on none = subst (λ (x : Time). public_at ds x ≡ true) chain.0 (before-layer r t are.0 of.0 chain.1 on (or-neither (introduces tables id r) false none).0)
    before-chain e t (r ∷ q ∷ rs) chain are of on none =
        let neither = or-neither (introduces tables id r) (list_any (introduces tables id) (q ∷ rs)) none in
        let more = before-chain r.end t (q ∷ rs) chain.1 are.1 of.1 on neither.1 in
        subst (λ (x : Time). public_at ds x ≡ true) chain.0 (before-layer r r.end are.0 of.0 (inl refl) more neither.0)

    module _ (apart : IsApart bytes_cmp fs) (differ : RangesDiffer fs) (times : (f : ByteFact) → Has f fs → IsTime (date f)) where
      -- the entries of a layer that is read up to a time at which the table is public are a share of its facts
      pub share-of : (r : LayerRecord) (x : Time) → IsRecord r → r.scope ≡ scope → Serves x r → public_at ds x ≡ true → IsShareOf bytes_cmp (introduces tables id r) r.start x fs (facts_of (layer_entries tables id r))
      share-of r x is of serves on =
          subst (λ (b : Bool). IsShareOf bytes_cmp b r.start x fs (facts_of (layer_entries tables id r))) (sym (introduces-is tables scope id member r of))
          (subst (λ (es : List Entry). IsShareOf bytes_cmp (is_member_over r.history (covers r) ds && becomes_public_in ds r.start r.end) r.start x fs (facts_of es)) (sym (entries-are tables scope id member r of))
          (layer-share h id (covers r) ds x a apart differ times (read-to r x is serves) on))

      -- those of a chain are shares, from the last layer on that introduces the table
      pub chain-shares : (s t : Time) (rs : List LayerRecord) → AreChainFrom s t rs → AllByRecursion IsRecord rs → AllByRecursion (λ (r : LayerRecord). r.scope ≡ scope) rs → public_at ds t ≡ true → AreShares bytes_cmp s t fs (shares rs)
      chain-shares s t [] chain are of on = absurd chain
      chain-shares s t (r ∷ []) chain are of on = (
        t,
        (
          subst (λ (u : Time). time_le u t ≡ true) chain.0 (lt-le r.start t (read-to r t are.0 chain.1).after),
          ((λ none. subst (λ (u : Time). IsShareOf bytes_cmp (introduces tables id r) u t fs (facts_of (layer_entries tables id r))) chain.0 (share-of r t are.0 of.0 chain.1 on)), refl),
        ),
      )
      chain-shares s t (r ∷ q ∷ rs) chain are of on = (
        r.end,
        (
          subst (λ (u : Time). time_le u r.end ≡ true) chain.0 (lt-le r.start r.end are.0.ends),
          (
            (λ none. (let more = before-chain r.end t (q ∷ rs) chain.1 are.1 of.1 on (sym (any-map is_introduced (share (layer_entries tables id) (introduces tables id)) (q ∷ rs)) ∙ none) in
                subst (λ (u : Time). IsShareOf bytes_cmp (introduces tables id r) u r.end fs (facts_of (layer_entries tables id r))) chain.0 (share-of r r.end are.0 of.0 (inl refl) more))),
            chain-shares r.end t (q ∷ rs) chain.1 are.1 of.1 on,
          ),
        ),
      )

-- ---- a mergeable table

sized-time : (kinds : List Kind) (f : RowFact) → IsSized kinds f → IsTime (date f)
sized-time kinds (Put key cells at) sized = sized.2
sized-time kinds (Del key at) sized = sized.1
sized-time kinds (DelRange lo hi at) sized = sized.2

-- range deletions among facts of different dates
pub among-dated : (all : List ByteFact) (es : List Entry) → RangesDiffer all → AllIn (facts_of es) all → AreDated es
among-dated all es differ among d e hd he rd re same =
    let one = differ.differ (fact_of d) (fact_of e) (among (fact_of d) (has-map fact_of d es hd)) (among (fact_of e) (has-map fact_of e es he)) (range-fact d ∙ ap not rd) (range-fact e ∙ ap not re) (date-same d ∙ (same ∙ sym (date-same e))) in
    sym (entry-fact d) ∙ (ap entry_of one ∙ entry-fact e)

module _ (tables : List Table) (scope : Scope) (t : Time) (d : Schema) (table : Table) (got : slice_get tables (d.id - 100) ≡ Some table) (may : IsMergeable d.id table) (shown : IsShown tables scope t d) where
  abbrev kinds : List Kind
  kinds = by_id [] table_kinds tables d.id

  abbrev rows : List RowFact
  rows = by_id [] table_facts tables d.id

  abbrev own : List Schema
  own = descriptors_of (schemas_of tables) d.id

  high : 100 ≤ d.id
  unfolding scope_ids
  high = (has-AllByRecursion (λ i. (100 ≤ i) × (i < 100 + length (schemas_of tables))) d.id (table_ids (schemas_of tables)) (range-all 100 (length (schemas_of tables))) (filter-has (is_in_scope (schemas_of tables) scope) d.id (table_ids (schemas_of tables)) shown.member)).0

  place : d.id ≡ 100 + (d.id - 100)
  place = let h = high in omega (arith, h)

  rows-are : rows ≡ table.facts
  rows-are = at-id [] table_facts tables d.id (d.id - 100) table place got

  kinds-are : kinds ≡ table_kinds table
  kinds-are = at-id [] table_kinds tables d.id (d.id - 100) table place got

  own-are : own ≡ table.descriptors
  own-are = let past : nat_lt d.id 100 ≡ false = (let h = high in grind (arith, nat_tests)) in rw (past, slice_get-map (λ (x : Table). x.descriptors) tables (d.id - 100), got) refl

  row-in : (f : RowFact) → Has f rows → Has f table.facts
  row-in f has = subst (λ (gs : List RowFact). Has f gs) rows-are has

  -- the kinds are those of the descriptor
  pub kinds-own : kinds ≡ key_kinds d
  kinds-own = kinds-are ∙ (may.storable.schemas d (subst (λ (xs : List Schema). Has d xs) own-are (reverse-has own d (find-has (λ (x : Schema). time_le x.modified t) d (reverse own) shown.force)))).1

  typed : AreRowFacts kinds rows
  typed f has = subst (λ (ks : List Kind). IsRowFact ks f) (sym kinds-are) (may.storable.facts f (row-in f has)).0

  rows-apart : AreApart kinds rows
  rows-apart = subst (λ (ks : List Kind). AreApart ks rows) (sym kinds-are) (subst (λ (gs : List RowFact). AreApart (table_kinds table) gs) (sym rows-are) may.apart)

  rows-differ : RangesDiffer rows
  rows-differ = subst RangesDiffer (sym rows-are) may.dated

  -- ---- in bytes

  pub ascends : ascend_after zero_time own ≡ true
  ascends = ap (ascend_after zero_time) own-are ∙ may.storable.ascend

  pub apart : IsApart bytes_cmp (map (coded d.id kinds) rows)
  apart = coded-apart d.id kinds rows may.small typed rows-apart rows-differ

  pub differ : RangesDiffer (map (coded d.id kinds) rows)
  differ = coded-differ d.id kinds rows may.small typed rows-differ

  pub times : (f : ByteFact) → Has f (map (coded d.id kinds) rows) → IsTime (date f)
  times = coded-each d.id kinds rows may.small typed IsTime (λ f has. sized-time (table_kinds table) f (may.storable.facts f (row-in f has)).1)

  pub begun : (f : ByteFact) → Has f (map (coded d.id kinds) rows) → time_lt zero_time (date f) ≡ true
  begun = coded-each d.id kinds rows may.small typed (λ u. time_lt zero_time u ≡ true) (λ f has. may.begun f (row-in f has))

  pub public : public_at own t ≡ true
  public = ap (λ (o : Option Schema). unwrap_or (option_map is_public o) false) shown.force ∙ shown.public

  module _ (rs : List LayerRecord) (of : AreOfScope scope rs) (chain : AreChainFrom zero_time t rs) where
    chain-scan : scan bytes_cmp t (facts_of (chain_entries tables d.id rs)) ≡ scan bytes_cmp t (map (coded d.id kinds) rows)
    chain-scan =
        let shares = map (share (layer_entries tables d.id) (introduces tables d.id)) rs in
        let are = chain-shares tables scope d.id shown.member ascends apart differ times zero_time t rs chain of.each of.scopes public in
        ap (scan bytes_cmp t) (sym (counted-facts (layer_entries tables d.id) (introduces tables d.id) rs))
        ∙ shares-scan bytes_cmp bytes_order zero_time t (map (coded d.id kinds) rows) shares apart begun are

    pub table-shown : ShowsTable tables d.id (key_kinds d) t (scan (row_cmp (key_kinds d)) t rows) rs
    table-shown =
        let among = counted-in tables scope d.id shown.member rs of.scopes in
        record {
          rows = ap (map put_of) chain-scan ∙ (rows-shown d.id kinds rows may.small typed t ∙ ap (λ (ks : List Kind). map (stored_put d.id ks) (scan (row_cmp ks) t rows)) kinds-own);
          ordered = AllByRecursion-has (λ (r : LayerRecord). are_ordered None (layer_entries tables d.id r) ≡ true) rs (λ r has. in-order tables scope d.id shown.member r (has-AllByRecursion (λ (q : LayerRecord). q.scope ≡ scope) r rs of.scopes has));
          apart = apart-part bytes_cmp (map (coded d.id kinds) rows) (facts_of (chain_entries tables d.id rs)) apart among;
          dated = among-dated (map (coded d.id kinds) rows) (chain_entries tables d.id rs) differ among;
        }

-- a descriptor that is in force is one of a table
shown-there : (tables : List Table) (scope : Scope) (t : Time) (d : Schema) → IsShown tables scope t d → (table : Table) × (100 ≤ d.id) × (slice_get tables (d.id - 100) ≡ Some table)
shown-there tables scope t d shown = by (nat_lt d.id 100) refl (find-has (λ (x : Schema). time_le x.modified t) d (reverse ds) shown.force)
  where
    ds : List Schema
    ds = descriptors_of (schemas_of tables) d.id

    there : nat_lt d.id 100 ≡ false → (o : Option Table) → slice_get tables (d.id - 100) ≡ o → Has d (unwrap_or (option_map (λ (x : Table). x.descriptors) o) []) → (table : Table) × (100 ≤ d.id) × (slice_get tables (d.id - 100) ≡ Some table)
    there high None got has = absurd has
    there high (Some table) got has = (table, (let low : 100 ≤ d.id = grind (arith, nat_tests, high) in low), got)

    by : (b : Bool) → nat_lt d.id 100 ≡ b → Has d (reverse ds) → (table : Table) × (100 ≤ d.id) × (slice_get tables (d.id - 100) ≡ Some table)
    by true low has = absurd (let none : Has d [] = subst (λ (b : Bool). Has d (if b then [] else unwrap_or (slice_get (schemas_of tables) (d.id - 100)) [])) low (reverse-has ds d has) in none)
    by false high has = there high (slice_get tables (d.id - 100)) refl
        (subst (λ (o : Option (List Schema)). Has d (unwrap_or o [])) (slice_get-map (λ (x : Table). x.descriptors) tables (d.id - 100))
        (subst (λ (b : Bool). Has d (if b then [] else unwrap_or (slice_get (schemas_of tables) (d.id - 100)) [])) high (reverse-has ds d has)))

-- which can be merged
pub shown-table : (tables : List Table) (scope : Scope) (t : Time) (d : Schema) → AreMergeable tables → IsShown tables scope t d → (table : Table) × (slice_get tables (d.id - 100) ≡ Some table) × IsMergeable d.id table
shown-table tables scope t d may shown =
    let w = shown-there tables scope t d shown in
    let id : 100 + (d.id - 100) ≡ d.id = (let low = w.1 in omega (arith, low)) in
    (w.0, w.2, subst (λ (n : ℕ). IsMergeable n w.0) id (may (d.id - 100) w.0 w.2))

pub chains-shown : ChainsShowTables
chains-shown tables scope t rs d of chain may shown = (let one = shown-table tables scope t d may shown in table-shown tables scope t d one.0 one.1 one.2 shown rs of chain)
