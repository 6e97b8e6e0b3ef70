-- Layers that adjoin, and the record without history that joins them.
use Rattle.std.proofs.Common.{◌≡◌, inl, ℕ, Bool, true, false, cond, ◌&&◌, ◌||◌, sym, refl, ap, ap₂, subst, ◌∙◌, true≢false, List, [], ◌∷◌, ◌++◌, map, append-nil, None}
use Rattle.std.specs.List.{AllByRecursion, list_any}
use Rattle.mvcc_keys.specs.Times.{IsTime, Time, time_le, time_lt, zero_time}
use Rattle.mvcc_keys.specs.declared.entries.Entry.{Entry}
use Rattle.mvcc_keys.proofs.TimeOrder.{le-refl, le-trans, lt-le, not_le-lt}
use Rattle.table_descriptors.specs.declared.scopes.Scope.{Scope}
use Rattle.table_descriptors.specs.Descriptors.{Schema}
use Rattle.list_laws.specs.Members.{Has}
use Rattle.list_laws.proofs.Bools.{and-both, and-off, and-right, or-neither}
use Rattle.list_laws.proofs.Filters.{any-none, none-any}
use Rattle.list_laws.proofs.Members.{AllByRecursion-has, has-AllByRecursion}
use Rattle.range_tombstones.specs.Intervals.{is_between}
use Rattle.range_tombstones.specs.declared.upto.Upto.TheVariants.{At}
use Rattle.fact_model.specs.Facts.{IsApart, date}
use Rattle.fact_model.specs.Listed.{points, ranges}
use Rattle.fact_model.specs.Listings.{RangesDiffer}
use Rattle.fact_model.specs.Scans.{image}
use Rattle.fact_model.proofs.Stores.{apart-part}
use Rattle.history_model.specs.Histories.{Table, schemas_of}
use Rattle.history_model.specs.Layers.{LayerRecord}
use Rattle.version_store.specs.Tables.{ByteFact, Bytes, Tables, bytes_cmp, entries_of, newest_points}
use Rattle.version_store.specs.Lists.{facts_of}
use Rattle.version_store.proofs.Bytes.{entries-facts, facts-entries}
use Rattle.span_export.specs.Plans.{plan_entries}
use Rattle.table_rows.specs.RowTables.{bytes_of}
use Rattle.introduced_spans.specs.declared.plans.Span.{Span}
use Rattle.introduced_spans.specs.PlanLaws.{ascend_after}
use Rattle.introduced_spans.specs.Publicity.{becomes_public_in, begins, dates_where, public_at}
use Rattle.introduced_spans.specs.Spans.{descriptors_of, is_member_over, plan_by, scope_ids}
use Rattle.introduced_spans.proofs.Walks.{became-wider}
use Rattle.chunk_file.specs.Entries.{are_ordered}
use Rattle.layer_objects.specs.Objects.{covers, rows_of}
use Rattle.layer_objects.specs.Storable.{IsRecord}
use Rattle.layer_merge.specs.Changes.{direct_entries}
use Rattle.layer_merge.specs.FromLast.{from_last}
use Rattle.layer_merge.specs.Joins.{AreJoined, AreTold, Tells}
use Rattle.layer_merge.specs.Shares.{Share, flat, is_introduced}
use Rattle.layer_merge.proofs.JoinLaws.{joins-direct}
use Rattle.layer_chains.specs.Chains.{AreChainFrom, chain_entries, introduces, layer_entries}
use Rattle.layer_chains.specs.Joins.{AreJoinFrom, IsDirect, JoinsAreDirect}
use Rattle.layer_chains.proofs.Counted.{any-map, counted-facts, share}
use Rattle.layer_chains.proofs.Membership.{introduced-member, read-to}
use Rattle.layer_chains.proofs.Planned.{entries-are, introduces-is}
use Rattle.layer_chains.proofs.Shown.{among-dated, apart, ascends, before-chain, chain-shares, counted-in, differ, in-order, public, shown-table, times}
use Rattle.layer_chains.proofs.Telling.{layer-tells}

-- ---- intervals that adjoin

join-chain : (s e : Time) (rs : List LayerRecord) → AreJoinFrom s e rs → AreChainFrom s e rs
join-chain s e [] join = absurd join
join-chain s e (r ∷ []) join = (join.0, inl (sym join.1))
join-chain s e (r ∷ q ∷ rs) join = (join.0, join-chain r.end e (q ∷ rs) join.1)

begins-by : (s : Time) (r : LayerRecord) → IsRecord r → r.start ≡ s → time_le s r.end ≡ true
begins-by s r is same = subst (λ (t : Time). time_le t r.end ≡ true) same (lt-le r.start r.end is.ends)

join-ordered : (s e : Time) (rs : List LayerRecord) → AreJoinFrom s e rs → AllByRecursion IsRecord rs → time_le s e ≡ true
join-ordered s e [] join are = absurd join
join-ordered s e (r ∷ []) join are = subst (λ (t : Time). time_le s t ≡ true) join.1 (begins-by s r are.0 join.0)
join-ordered s e (r ∷ q ∷ rs) join are = le-trans s r.end e (begins-by s r are.0 join.0) (join-ordered r.end e (q ∷ rs) join.1 are.1)

-- what didn't become public in either of two intervals that adjoin didn't in both
became-neither : (s m e : Time) (ds : List Schema) → becomes_public_in ds s m ≡ false → becomes_public_in ds m e ≡ false → becomes_public_in ds s e ≡ false
unfolding becomes_public_in
became-neither s m e ds first second = none-any (is_between s (At e)) dates (λ d has. by d has (time_le d m) refl (time_lt s d) refl)
  where
    dates : List Time
    dates = dates_where begins false ds

    by : (d : Time) → Has d dates → (b : Bool) → time_le d m ≡ b → (c : Bool) → time_lt s d ≡ c → (time_lt s d && time_le d e) ≡ false
    by d has true early true later = absurd (true≢false (sym (and-both (time_lt s d) (time_le d m) later early) ∙ any-none (is_between s (At m)) dates d first has))
    by d has b early false before = ap (λ (c : Bool). c && time_le d e) before
    by d has false late true later = and-off (time_lt s d) (time_le d e) (ap (λ (c : Bool). c && time_le d e) (sym (not_le-lt m d late)) ∙ any-none (is_between m (At e)) dates d second has)

-- ---- the entries of a record without history

-- they are those of a merge over all facts
direct-plan : (h : Tables) (id : ℕ) (s : Span) (ds : List Schema) (b : Bool) → plan_entries h id (plan_by false b s ds) ≡ direct_entries b s.start s.end (entries_of (h.facts id))
unfolding plan_entries
direct-plan h id s ds true = ap entries_of (append-nil (image bytes_cmp s.end (h.facts id))) ∙ ap (λ (fs : List ByteFact). entries_of (image bytes_cmp s.end fs)) (sym (facts-entries (h.facts id)))
direct-plan h id s ds false = ap (λ (fs : List ByteFact). entries_of (newest_points (points bytes_cmp (is_between s.start (At s.end)) fs) ++ ranges (is_between s.start (At s.end)) fs)) (sym (facts-entries (h.facts id)))

-- ---- a table of the scope, in layers that adjoin

module _ (tables : List Table) (scope : Scope) (id : ℕ) (member : Has id (scope_ids (schemas_of tables) scope)) (a : ascend_after zero_time (descriptors_of (schemas_of tables) id) ≡ true) where
  abbrev ds : List Schema
  ds = descriptors_of (schemas_of tables) id

  abbrev h : Tables
  h = bytes_of (rows_of tables)

  abbrev fs : List ByteFact
  fs = h.facts id

  abbrev shares : List LayerRecord → List (Share Bytes Bytes)
  shares rs = map (share (layer_entries tables id) (introduces tables id)) rs

  abbrev introduced : List LayerRecord → Bool
  introduced rs = list_any (introduces tables id) rs

  introduced-share : (rs : List LayerRecord) → list_any is_introduced (shares rs) ≡ introduced rs
  introduced-share rs = any-map is_introduced (share (layer_entries tables id) (introduces tables id)) rs

  -- a layer at whose end the table is public and that doesn't introduce it: it didn't become public in it
  never-became : (r : LayerRecord) → IsRecord r → r.scope ≡ scope → public_at ds r.end ≡ true → introduces tables id r ≡ false → becomes_public_in ds r.start r.end ≡ false
  never-became r is of on none = by (becomes_public_in ds r.start r.end) refl
    where
      by : (b : Bool) → becomes_public_in ds r.start r.end ≡ b → becomes_public_in ds r.start r.end ≡ false
      by false e = e
      by true e = absurd (true≢false (sym (ap₂ (λ (m i : Bool). m && i) (introduced-member (covers r) ds a r.end (read-to r r.end is (inl refl)) on e) e) ∙ (sym (introduces-is tables scope id member r of) ∙ none)))

  -- one that introduces it: it became public in it
  became : (r : LayerRecord) → r.scope ≡ scope → introduces tables id r ≡ true → becomes_public_in ds r.start r.end ≡ true
  became r of is = and-right (is_member_over r.history (covers r) ds) (becomes_public_in ds r.start r.end) (sym (introduces-is tables scope id member r of) ∙ is)

  -- the table became public in between where one of the layers introduces it
  became-in : (s e : Time) (rs : List LayerRecord) → AreJoinFrom s e rs → AllByRecursion IsRecord rs → AllByRecursion (λ (r : LayerRecord). r.scope ≡ scope) rs → introduced rs ≡ true → becomes_public_in ds s e ≡ true
  became-in s e [] join are of is = absurd join
  became-in s e (r ∷ []) join are of is = subst (λ (t : Time). becomes_public_in ds t e ≡ true) join.0 (subst (λ (t : Time). becomes_public_in ds r.start t ≡ true) join.1 (became r of.0 (only (introduces tables id r) is)))
    where
      only : (b : Bool) → (b || false) ≡ true → b ≡ true
      only true e = refl
      only false e = e
  became-in s e (r ∷ q ∷ rs) join are of is = by (introduces tables id r) refl is (became-in r.end e (q ∷ rs) join.1 are.1 of.1)
    where
      by : (b : Bool) → introduces tables id r ≡ b → (b || introduced (q ∷ rs)) ≡ true → (introduced (q ∷ rs) ≡ true → becomes_public_in ds r.end e ≡ true) → becomes_public_in ds s e ≡ true
      by true here any more = became-wider r.start r.end s e ds (subst (λ (t : Time). time_le t r.start ≡ true) join.0 (le-refl r.start)) (join-ordered r.end e (q ∷ rs) join.1 are.1) (became r of.0 here)
      by false other any more = became-wider r.end e s e ds (begins-by s r are.0 join.0) (le-refl e) (more any)

  -- at the end of a layer before others, none of which introduces it, it is public
  public-end : (r q : LayerRecord) (e : Time) (rs : List LayerRecord) → AreJoinFrom r.end e (q ∷ rs) → AllByRecursion IsRecord (q ∷ rs) → AllByRecursion (λ (x : LayerRecord). x.scope ≡ scope) (q ∷ rs) → public_at ds e ≡ true → introduced (q ∷ rs) ≡ false → public_at ds r.end ≡ true
  public-end r q e rs join are of on none = before-chain tables scope id member a r.end e (q ∷ rs) (join-chain r.end e (q ∷ rs) join) are of on none

  not-became : (s e : Time) (rs : List LayerRecord) → AreJoinFrom s e rs → AllByRecursion IsRecord rs → AllByRecursion (λ (r : LayerRecord). r.scope ≡ scope) rs → public_at ds e ≡ true → introduced rs ≡ false → becomes_public_in ds s e ≡ false
  not-became s e [] join are of on none = absurd join
  not-became s e (r ∷ []) join are of on none =
      subst (λ (t : Time). becomes_public_in ds t e ≡ false) join.0 (subst (λ (t : Time). becomes_public_in ds r.start t ≡ false) join.1
      (never-became r are.0 of.0 (subst (λ (t : Time). public_at ds t ≡ true) (sym join.1) on) (or-neither (introduces tables id r) false none).0))
  not-became s e (r ∷ q ∷ rs) join are of on none =
      let neither = or-neither (introduces tables id r) (introduced (q ∷ rs)) none in
      became-neither s r.end e ds
      (subst (λ (t : Time). becomes_public_in ds t r.end ≡ false) join.0 (never-became r are.0 of.0 (public-end r q e rs join.1 are.1 of.1 on neither.1) neither.0))
      (not-became r.end e (q ∷ rs) join.1 are.1 of.1 on neither.1)

  module _ (s e : Time) (rs : List LayerRecord) (join : AreJoinFrom s e rs) (are : AllByRecursion IsRecord rs) (of : AllByRecursion (λ (r : LayerRecord). r.scope ≡ scope) rs) (on : public_at ds e ≡ true) where
    introduced-is : introduced rs ≡ becomes_public_in ds s e
    introduced-is = by (introduced rs) refl
      where
        by : (b : Bool) → introduced rs ≡ b → introduced rs ≡ becomes_public_in ds s e
        by true is = is ∙ sym (became-in s e rs join are of is)
        by false none = none ∙ sym (not-became s e rs join are of on none)

    module _ (r : LayerRecord) (direct : IsDirect scope s e r) where
      abbrev over : Bool → Time → Time → Span
      over history from to = record { start = from; end = to; floor = r.floor; history = history }

      -- the record introduces the table where one of the layers does
      pub direct-introduces : introduced rs ≡ introduces tables id r
      direct-introduces = introduced-is ∙ sym (
          introduces-is tables scope id member r direct.of
          ∙ ap (λ (b : Bool). is_member_over b (over b r.start r.end) ds && becomes_public_in ds r.start r.end) direct.bare
          ∙ ap (λ (t : Time). public_at ds r.end && becomes_public_in ds t r.end) direct.from
          ∙ ap (λ (t : Time). public_at ds t && becomes_public_in ds s t) direct.to
          ∙ ap (λ (b : Bool). b && becomes_public_in ds s e) on)

      -- and its entries are those of a merge over all facts
      direct-is : layer_entries tables id r ≡ direct_entries (introduced rs) s e (entries_of fs)
      direct-is =
          entries-are tables scope id member r direct.of
          ∙ ap (λ (b : Bool). cond (is_member_over b (over b r.start r.end) ds) (plan_entries h id (plan_by b (becomes_public_in ds r.start r.end) (over b r.start r.end) ds)) []) direct.bare
          ∙ ap (λ (t : Time). cond (public_at ds r.end) (plan_entries h id (plan_by false (becomes_public_in ds t r.end) (over false t r.end) ds)) []) direct.from
          ∙ ap (λ (t : Time). cond (public_at ds t) (plan_entries h id (plan_by false (becomes_public_in ds s t) (over false s t) ds)) []) direct.to
          ∙ ap (λ (b : Bool). cond b (plan_entries h id (plan_by false (becomes_public_in ds s e) (over false s e) ds)) []) on
          ∙ direct-plan h id (over false s e) ds (becomes_public_in ds s e)
          ∙ ap (λ (b : Bool). direct_entries b s e (entries_of fs)) (sym introduced-is)

  module _ (apart : IsApart bytes_cmp fs) (differ : RangesDiffer fs) (times : (f : ByteFact) → Has f fs → IsTime (date f)) where
    tells-of : (r : LayerRecord) → IsRecord r → r.scope ≡ scope → public_at ds r.end ≡ true → introduces tables id r ≡ false → Tells r.start r.end fs (facts_of (layer_entries tables id r))
    tells-of r is of on none =
        subst (λ (es : List Entry). Tells r.start r.end fs (facts_of es)) (sym (entries-are tables scope id member r of))
        (layer-tells h id (covers r) ds r.end a apart differ times (read-to r r.end is (inl refl)) on (never-became r is of on none))

    -- layers none of which introduces the table tell together of the interval
    join-told : (s e : Time) (rs : List LayerRecord) → AreJoinFrom s e rs → AllByRecursion IsRecord rs → AllByRecursion (λ (r : LayerRecord). r.scope ≡ scope) rs → public_at ds e ≡ true → introduced rs ≡ false → AreTold s e fs (shares rs)
    join-told s e [] join are of on none = absurd join
    join-told s e (r ∷ []) join are of on none = (
      r.end,
      (
        begins-by s r are.0 join.0,
        (subst (λ (t : Time). Tells t r.end fs (facts_of (layer_entries tables id r))) join.0 (tells-of r are.0 of.0 (subst (λ (t : Time). public_at ds t ≡ true) (sym join.1) on) (or-neither (introduces tables id r) false none).0), join.1),
      ),
    )
    join-told s e (r ∷ q ∷ rs) join are of on none =
        let neither = or-neither (introduces tables id r) (introduced (q ∷ rs)) none in (
          r.end,
          (
            begins-by s r are.0 join.0,
            (
              subst (λ (t : Time). Tells t r.end fs (facts_of (layer_entries tables id r))) join.0 (tells-of r are.0 of.0 (public-end r q e rs join.1 are.1 of.1 on neither.1) neither.0),
              join-told r.end e (q ∷ rs) join.1 are.1 of.1 on neither.1,
            ),
          ),
        )

    module _ (s e : Time) (rs : List LayerRecord) (join : AreJoinFrom s e rs) (are : AllByRecursion IsRecord rs) (of : AllByRecursion (λ (r : LayerRecord). r.scope ≡ scope) rs) (on : public_at ds e ≡ true) where
      joined : (b : Bool) → list_any is_introduced (shares rs) ≡ b → AreJoined bytes_cmp b s e fs (shares rs)
      joined true is = chain-shares tables scope id member a apart differ times s e rs (join-chain s e rs join) are of on
      joined false none = join-told s e rs join are of on (sym (introduced-share rs) ∙ none)

      -- the entries of the layers that count give what all facts give
      counted-direct : direct_entries (introduced rs) s e (chain_entries tables id rs) ≡ direct_entries (introduced rs) s e (entries_of fs)
      counted-direct =
          ap (λ (es : List Entry). direct_entries (introduced rs) s e es) (sym (entries-facts (chain_entries tables id rs)))
          ∙ ap (λ (gs : List ByteFact). direct_entries (introduced rs) s e (entries_of gs)) (sym (counted-facts (layer_entries tables id) (introduces tables id) rs))
          ∙ subst (λ (b : Bool). direct_entries b s e (entries_of (flat (from_last is_introduced (shares rs)))) ≡ direct_entries b s e (entries_of fs)) (introduced-share rs) (joins-direct fs s e (shares rs) apart differ (joined (list_any is_introduced (shares rs)) refl))

      -- and so the entries of the record that joins them
      pub join-entries : (r : LayerRecord) → IsDirect scope s e r → direct_entries (introduced rs) s e (chain_entries tables id rs) ≡ layer_entries tables id r
      join-entries r direct = counted-direct ∙ sym (direct-is s e rs join are of on r direct)

-- ---- the law

pub joins-made : JoinsAreDirect
joins-made tables scope s e rs direct d of join is may shown =
    let one = shown-table tables scope e d may shown in
    let up = ascends tables scope e d one.0 one.1 one.2 shown in
    let on = public tables scope e d one.0 one.1 one.2 shown in
    let lie = apart tables scope e d one.0 one.1 one.2 shown in
    let dates = differ tables scope e d one.0 one.1 one.2 shown in
    let among = counted-in tables scope d.id shown.member rs of.scopes in
    record {
      entries = join-entries tables scope d.id shown.member up lie dates (times tables scope e d one.0 one.1 one.2 shown) s e rs join of.each of.scopes on direct is;
      introduced = direct-introduces tables scope d.id shown.member up s e rs join of.each of.scopes on direct is;
      ordered = AllByRecursion-has (λ (r : LayerRecord). are_ordered None (layer_entries tables d.id r) ≡ true) rs (λ r has. in-order tables scope d.id shown.member r (has-AllByRecursion (λ (q : LayerRecord). q.scope ≡ scope) r rs of.scopes has));
      apart = apart-part bytes_cmp ((bytes_of (rows_of tables)).facts d.id) (facts_of (chain_entries tables d.id rs)) lie among;
      dated = among-dated ((bytes_of (rows_of tables)).facts d.id) (chain_entries tables d.id rs) dates among;
    }
