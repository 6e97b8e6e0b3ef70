-- The facts of a table in bytes: what holds of rows holds of them.
use Rattle.std.proofs.Common.{◌≡◌, ℕ, ◌<◌, ◌^◌, Bool, true, false, sym, refl, ap, subst, ◌∙◌, List, [], ◌∷◌, map}
use Rattle.mvcc_keys.specs.Times.{Time}
use Rattle.mvcc_keys.specs.declared.entries.Entry.{Entry}
use Rattle.row_codec.specs.declared.rows.Kind.{Kind}
use Rattle.row_codec.specs.RowKeys.{IsKey, row_key}
use Rattle.row_codec.specs.RowOrder.{row_cmp}
use Rattle.row_codec.specs.RowValues.{row_value}
use Rattle.list_laws.specs.Members.{Has}
use Rattle.list_laws.proofs.Members.{map-has}
use Rattle.fact_model.specs.Facts.{Del, DelRange, IsApart, Put, date, touches}
use Rattle.fact_model.specs.Listed.{is_point}
use Rattle.fact_model.specs.Listings.{RangesDiffer}
use Rattle.fact_model.specs.Mapped.{KeysMeet, map_item}
use Rattle.fact_model.specs.Scans.{Item, scan}
use Rattle.fact_model.proofs.Transport.{scan-map}
use Rattle.history_model.specs.Rows.{Key, RowFact, RowItem}
use Rattle.version_store.specs.Tables.{ByteFact, Bytes, bytes_cmp}
use Rattle.table_rows.specs.RowTables.{AreRowFacts, IsRowFact, coded}
use Rattle.table_rows.proofs.Coded.{date-coded, keys-ordered, point-coded, touched-point, touches-coded}
use Rattle.layer_merge.specs.Rows.{put_of}
use Rattle.layer_chains.specs.Chains.{AreApart, stored_put}

module _ (id : ℕ) (kinds : List Kind) (fs : List RowFact) (small : id < 2 ^ 32) (all : AreRowFacts kinds fs) where
  -- ---- dates

  pub coded-each : (P : Time → Type 0) → ((f : RowFact) → Has f fs → P (date f)) → (f : ByteFact) → Has f (map (coded id kinds) fs) → P (date f)
  coded-each P each f has =
      let x = map-has (coded id kinds) f fs has in
      subst (λ (g : ByteFact). P (date g)) (sym x.2) (subst P (sym (date-coded id kinds x.0)) (each x.0 x.1))

  same-date : (x y : RowFact) (f g : ByteFact) → f ≡ coded id kinds x → g ≡ coded id kinds y → date f ≡ date g → date x ≡ date y
  same-date x y f g p q same = sym (date-coded id kinds x) ∙ (ap date (sym p) ∙ (same ∙ (ap date q ∙ date-coded id kinds y)))

  -- ---- facts that lie apart

  at-key : AreApart kinds fs → (x y : RowFact) → Has x fs → Has y fs → (b : Bytes) (k : Key) → IsKey kinds k → b ≡ row_key id kinds k
      → touches bytes_cmp b (coded id kinds x) ≡ true → touches bytes_cmp b (coded id kinds y) ≡ true → date x ≡ date y → x ≡ y
  at-key apart x y hx hy b k key is tx ty same = apart k x y key hx hy
      (sym (touches-coded id kinds small k x key (all x hx)) ∙ (ap (λ (c : Bytes). touches bytes_cmp c (coded id kinds x)) (sym is) ∙ tx))
      (sym (touches-coded id kinds small k y key (all y hy)) ∙ (ap (λ (c : Bytes). touches bytes_cmp c (coded id kinds y)) (sym is) ∙ ty)) same

  one-fact : AreApart kinds fs → RangesDiffer fs → (b : Bytes) (x y : RowFact) → Has x fs → Has y fs
      → touches bytes_cmp b (coded id kinds x) ≡ true → touches bytes_cmp b (coded id kinds y) ≡ true → date x ≡ date y → x ≡ y
  one-fact apart differ b x y hx hy tx ty same = by (is_point x) refl (is_point y) refl
    where
      by : (p : Bool) → is_point x ≡ p → (q : Bool) → is_point y ≡ q → x ≡ y
      by true p q r = let k = touched-point id kinds b x (all x hx) p tx in at-key apart x y hx hy b k.0 k.1 k.2 tx ty same
      by false p true r = let k = touched-point id kinds b y (all y hy) r ty in at-key apart x y hx hy b k.0 k.1 k.2 tx ty same
      by false p false r = differ.differ x y hx hy p r same

  pub coded-apart : AreApart kinds fs → RangesDiffer fs → IsApart bytes_cmp (map (coded id kinds) fs)
  coded-apart apart differ = record {
    apart = λ b f g hf hg tf tg same. (
        let x = map-has (coded id kinds) f fs hf in
        let y = map-has (coded id kinds) g fs hg in
        let one = one-fact apart differ b x.0 y.0 x.1 y.1 (subst (λ (e : ByteFact). touches bytes_cmp b e ≡ true) x.2 tf) (subst (λ (e : ByteFact). touches bytes_cmp b e ≡ true) y.2 tg) (same-date x.0 y.0 f g x.2 y.2 same) in
        x.2 ∙ (ap (coded id kinds) one ∙ sym y.2));
  }

  pub coded-differ : RangesDiffer fs → RangesDiffer (map (coded id kinds) fs)
  coded-differ differ = record {
    differ = λ f g hf hg pf pg same. (
        let x = map-has (coded id kinds) f fs hf in
        let y = map-has (coded id kinds) g fs hg in
        let one = differ.differ x.0 y.0 x.1 y.1 (sym (point-coded id kinds x.0) ∙ (ap is_point (sym x.2) ∙ pf)) (sym (point-coded id kinds y.0) ∙ (ap is_point (sym y.2) ∙ pg)) (same-date x.0 y.0 f g x.2 y.2 same) in
        x.2 ∙ (ap (coded id kinds) one ∙ sym y.2));
  }

  -- ---- scans

  abbrev in_bytes : RowItem → Item Bytes Bytes
  in_bytes i = map_item (row_key id kinds) row_value i

  meets : (x : RowFact) → IsRowFact kinds x → KeysMeet (IsKey kinds) x
  meets (Put k v at) is = is.0
  meets (Del k at) is = is
  meets (DelRange lo hi at) is = is

  stored : (is : List RowItem) → map put_of (map in_bytes is) ≡ map (stored_put id kinds) is
  stored [] = refl
  stored (i ∷ is) = ap (λ (es : List Entry). stored_put id kinds i ∷ es) (stored is)

  -- the scan of the bytes is that of the rows
  pub rows-shown : (t : Time) → map put_of (scan bytes_cmp t (map (coded id kinds) fs)) ≡ map (stored_put id kinds) (scan (row_cmp kinds) t fs)
  rows-shown t =
      ap (map put_of) (scan-map (row_cmp kinds) bytes_cmp (row_key id kinds) row_value (IsKey kinds) (keys-ordered id kinds small) t fs (λ x has. meets x (all x has)))
      ∙ stored (scan (row_cmp kinds) t fs)
