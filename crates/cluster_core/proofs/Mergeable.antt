-- Layers of a cluster's tables can be merged.
use Rattle.std.proofs.Common.{◌≡◌, ◌∙◌, ℕ, ◌+◌, ◌<◌, ◌≤◌, ◌^◌, sym, ap, ap₂, subst, arith, List, [], ◌++◌, length, map, Some, slice_get}
use Rattle.std.proofs.lemmas.List.{length-map}
use Rattle.std.proofs.lemmas.Option.{slice_get_within}
use Rattle.row_codec.specs.declared.rows.Kind.{Kind}
use Rattle.row_codec.specs.RowKeys.{IsKey, row_key}
use Rattle.row_codec.specs.RowValues.{row_value}
use Rattle.row_codec.proofs.KeyLaws.{row_keys-exact}
use Rattle.row_codec.proofs.ValueLaws.{row_values-exact}
use Rattle.list_laws.proofs.Members.{has-map}
use Rattle.fact_model.specs.Facts.{Del, DelRange, IsApart, Put}
use Rattle.fact_model.specs.Listings.{RangesDiffer}
use Rattle.history_model.specs.Histories.{Table}
use Rattle.history_model.specs.Rows.{Cells, Key, RowFact}
use Rattle.table_rows.specs.RowTables.{AreRowFacts, IsRowFact, coded}
use Rattle.table_rows.proofs.Coded.{date-coded, point-coded, touches-coded}
use Rattle.version_store.specs.Tables.{bytes_cmp}
use Rattle.layer_objects.specs.Objects.{by_id, table_facts, table_kinds}
use Rattle.layer_chains.specs.Chains.{AreApart, IsMergeable}
use Rattle.cluster_core.specs.ClusterView.{ClusterState}
use Rattle.cluster_core.specs.Standing.{Keeps}
use Rattle.cluster_core.proofs.Backing.{storable}
use Rattle.cluster_core.proofs.Tables.{by_id-at}

-- facts of a table that are one in bytes are one
module _ (id : ℕ) (kinds : List Kind) (small : id < 2 ^ 32) where
  same-key : (a b : Key) → IsKey kinds a → IsKey kinds b → row_key id kinds a ≡ row_key id kinds b → a ≡ b
  same-key a b p q e = (row_keys-exact.apart kinds id id a b [] [] small small p q (ap (λ (k : List ℕ). k ++ []) e)).1

  same-fact : (f g : RowFact) → IsRowFact kinds f → IsRowFact kinds g → coded id kinds f ≡ coded id kinds g → f ≡ g
  same-fact (Put key cells at) (Put key' cells' at') p q e =
      let keys : row_key id kinds key ≡ row_key id kinds key' = cc e in
      let values : row_value cells ≡ row_value cells' = cc e in
      let dates : at ≡ at' = cc e in
      ap₂ (λ (k : Key) (c : Cells). Put k c at) (same-key key key' p.0 q.0 keys) (row_values-exact.apart cells cells' p.1.0 q.1.0 p.1.1 q.1.1 values) ∙ ap (Put key' cells') dates
  same-fact (Put key cells at) (Del key' at') p q e = cc e
  same-fact (Put key cells at) (DelRange lo hi at') p q e = cc e
  same-fact (Del key at) (Put key' cells' at') p q e = cc e
  same-fact (Del key at) (Del key' at') p q e =
      let keys : row_key id kinds key ≡ row_key id kinds key' = cc e in
      let dates : at ≡ at' = cc e in
      ap₂ Del (same-key key key' p q keys) dates
  same-fact (Del key at) (DelRange lo hi at') p q e = cc e
  same-fact (DelRange lo hi at) (Put key' cells' at') p q e = cc e
  same-fact (DelRange lo hi at) (Del key' at') p q e = cc e
  same-fact (DelRange lo hi at) (DelRange lo' hi' at') p q e =
      let first : row_key id kinds lo ≡ row_key id kinds lo' = cc e in
      let last : row_key id kinds hi ≡ row_key id kinds hi' = cc e in
      let dates : at ≡ at' = cc e in
      ap₂ (λ (x y : Key). DelRange x y at) (same-key lo lo' p.0 q.0 first) (same-key hi hi' p.1 q.1 last) ∙ ap (DelRange lo' hi') dates

  module _ (fs : List RowFact) (all : AreRowFacts kinds fs) where
    apart-rows : IsApart bytes_cmp (map (coded id kinds) fs) → AreApart kinds fs
    apart-rows is k f g key hf hg tf tg e =
        same-fact f g (all f hf) (all g hg) (is.apart (row_key id kinds k) (coded id kinds f) (coded id kinds g) (has-map (coded id kinds) f fs hf) (has-map (coded id kinds) g fs hg)
        (touches-coded id kinds small k f key (all f hf) ∙ tf) (touches-coded id kinds small k g key (all g hg) ∙ tg) (date-coded id kinds f ∙ (e ∙ sym (date-coded id kinds g))))

    differ-rows : RangesDiffer (map (coded id kinds) fs) → RangesDiffer fs
    differ-rows is = record {
      differ = λ f g hf hg rf rg e. same-fact f g (all f hf) (all g hg) (is.differ (coded id kinds f) (coded id kinds g) (has-map (coded id kinds) f fs hf) (has-map (coded id kinds) g fs hg)
          (point-coded id kinds f ∙ rf) (point-coded id kinds g ∙ rg) (date-coded id kinds f ∙ (e ∙ sym (date-coded id kinds g))));
    }

pub mergeable : (c : ClusterState) (tables : List Table) → Keeps c tables → 100 + length c.schemas.tables ≤ 2 ^ 32 → (i : ℕ) (table : Table) → slice_get tables i ≡ Some table → IsMergeable (100 + i) table
mergeable c tables k few i table got =
    let id = 100 + i in
    let within = slice_get_within tables i table got in
    let count : length c.schemas.tables ≡ length tables = ap length (sym k.schemas) ∙ length-map tables (λ (x : Table). x.descriptors) in
    let small : id < 2 ^ 32 = omega (arith, within, count, few) in
    let s = storable c tables k i table got in
    let facts : by_id [] table_facts tables id ≡ table.facts = by_id-at [] table_facts tables i table got in
    let kinds : by_id [] table_kinds tables id ≡ table_kinds table = by_id-at [] table_kinds tables i table got in
    let bytes : map (coded id (by_id [] table_kinds tables id)) (by_id [] table_facts tables id) ≡ map (coded id (table_kinds table)) table.facts = ap₂ (λ (ks : List Kind) (fs : List RowFact). map (coded id ks) fs) kinds facts in
    let all : AreRowFacts (table_kinds table) table.facts = (λ f has. (s.facts f has).0) in
    let kept = k.rows.bytes.table id in
    record {
      small = small;
      storable = s;
      begun = (k.orderly i table got).after;
      apart = apart-rows id (table_kinds table) small table.facts all (subst (IsApart bytes_cmp) bytes kept.apart);
      dated = differ-rows id (table_kinds table) small table.facts all (subst RangesDiffer bytes kept.differ);
    }
