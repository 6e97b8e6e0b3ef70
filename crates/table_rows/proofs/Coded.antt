-- Rows in bytes: order, tables, and what is added to them.
use Rattle.std.proofs.Common.{◌≡◌, ◌≢◌, ℕ, ◌<◌, ◌^◌, ◌==◌, ◌&&◌, Bool, true, false, cond, sym, refl, ap, ap₂, ◌∙◌, subst, inl, inr, List, [], ◌∷◌, ◌++◌, map, Some, Ordering, Less, Equal, Greater, is_eq, is_le, is_lt, arith, append-nil, append_assoc}
use Rattle.std.proofs.lemmas.List.{map-append}
use Rattle.std.proofs.Math.Path.{fun_ext}
use Rattle.std.proofs.lemmas.Bool.{eqb-true}
use Rattle.std.proofs.lemmas.Map.Text.{is_eq-slice_cmp}
use Rattle.std.proofs.lemmas.Slice.Eq.{bytes_eq-Decides}
use Rattle.std.specs.Ordering.{nat_cmp, ordering_then}
use Rattle.std.specs.Cmp.Lexicographic.{slice_cmp}
use Rattle.mvcc_keys.specs.Times.{Time, time_lt}
use Rattle.key_encoding.proofs.Grammars.{uvarint-found}
use Rattle.row_codec.specs.declared.rows.Kind.{Kind}
use Rattle.row_codec.specs.RowOrder.{row_cmp}
use Rattle.row_codec.specs.RowKeys.{row_key, values_code, IsKey}
use Rattle.row_codec.specs.RowValues.{row_value}
use Rattle.row_codec.proofs.KeyOrder.{row_keys-ordered}
use Rattle.row_codec.proofs.KeyLaws.{row_keys-exact}
use Rattle.fact_model.specs.Facts.{Put, Del, DelRange, date, touches}
use Rattle.list_laws.specs.Members.{Has}
use Rattle.list_laws.proofs.Members.{has-append_cases, map-has}
use Rattle.fact_model.specs.Listed.{is_point}
use Rattle.history_model.specs.Rows.{Key, Cells, RowFact}
use Rattle.version_store.specs.Tables.{Bytes, bytes_cmp, ByteFact, Tables, table_of, id_read, with_fact, raised}
use Rattle.version_store.specs.Tables as store
use Rattle.table_rows.specs.RowTables.{RowTables, coded, bytes_of, IsCells, IsRowFact, AreRowFacts, HasRows, with_facts, with_threshold, MayAdd}

-- ---- keys

then-equal : (o : Ordering) → ordering_then o Equal ≡ o
then-equal Less = refl
then-equal Equal = refl
then-equal Greater = refl

pub keys-ordered : (id : ℕ) (kinds : List Kind) → id < 2 ^ 32 → (a b : Key) → IsKey kinds a → IsKey kinds b → bytes_cmp (row_key id kinds a) (row_key id kinds b) ≡ row_cmp kinds a b
keys-ordered id kinds small a b p q =
    ap₂ (λ (x y : List ℕ). slice_cmp nat_cmp x y) (sym (append-nil (row_key id kinds a))) (sym (append-nil (row_key id kinds b)))
    ∙ (row_keys-ordered id kinds small a b [] [] p q ∙ then-equal (row_cmp kinds a b))

pub table-key : (id : ℕ) (kinds : List Kind) (xs : Key) → id < 2 ^ 32 → table_of (row_key id kinds xs) ≡ Some id
unfolding table_of row_key
table-key id kinds xs small = let word : id < 2 ^ 64 = omega (arith, small) in ap id_read (uvarint-found id (137 ∷ values_code kinds xs) word)

same-bytes : (a b : Bytes) → is_eq (bytes_cmp a b) ≡ true → a ≡ b
same-bytes a b e = (bytes_eq-Decides a b).0 (sym (is_eq-slice_cmp a b) ∙ e)

-- ---- facts

pub date-coded : (id : ℕ) (kinds : List Kind) (f : RowFact) → date (coded id kinds f) ≡ date f
date-coded id kinds (Put key cells at) = refl
date-coded id kinds (Del key at) = refl
date-coded id kinds (DelRange lo hi at) = refl

pub point-coded : (id : ℕ) (kinds : List Kind) (f : RowFact) → is_point (coded id kinds f) ≡ is_point f
point-coded id kinds (Put key cells at) = refl
point-coded id kinds (Del key at) = refl
point-coded id kinds (DelRange lo hi at) = refl

pub touches-coded : (id : ℕ) (kinds : List Kind) → id < 2 ^ 32 → (k : Key) (f : RowFact) → IsKey kinds k → IsRowFact kinds f → touches bytes_cmp (row_key id kinds k) (coded id kinds f) ≡ touches (row_cmp kinds) k f
touches-coded id kinds small k (Put key cells at) p is = ap is_eq (keys-ordered id kinds small key k is.0 p)
touches-coded id kinds small k (Del key at) p is = ap is_eq (keys-ordered id kinds small key k is p)
touches-coded id kinds small k (DelRange lo hi at) p is = ap₂ (λ (a b : Ordering). is_le a && is_lt b) (keys-ordered id kinds small lo k is.0 p) (keys-ordered id kinds small k hi p is.1)

-- a key in bytes that a put or a deletion touches is that of its key
abbrev pub TouchedAs : ℕ → List Kind → Bytes → RowFact → Type 0
TouchedAs id kinds b f = (k : Key) × IsKey kinds k × (b ≡ row_key id kinds k)

pub touched-point : (id : ℕ) (kinds : List Kind) (b : Bytes) (f : RowFact) → IsRowFact kinds f → is_point f ≡ true → touches bytes_cmp b (coded id kinds f) ≡ true → TouchedAs id kinds b f
touched-point id kinds b (Put key cells at) is p t = (key, is.0, sym (same-bytes (row_key id kinds key) b t))
touched-point id kinds b (Del key at) is p t = (key, is, sym (same-bytes (row_key id kinds key) b t))
touched-point id kinds b (DelRange lo hi at) is p t = cc p

-- ---- what may be added

-- a range isn't empty
abbrev pub IsNoEmptyRange : List Kind → RowFact → Type 0
IsNoEmptyRange kinds (Put key cells at) = Unit {0}
IsNoEmptyRange kinds (Del key at) = Unit {0}
IsNoEmptyRange kinds (DelRange lo hi at) = is_lt (row_cmp kinds lo hi) ≡ true

of-table : (id : ℕ) (kinds : List Kind) → id < 2 ^ 32 → (f : RowFact) → IsRowFact kinds f → IsNoEmptyRange kinds f → store.IsOfTable id (coded id kinds f)
of-table id kinds small (Put key cells at) is full = table-key id kinds key small
of-table id kinds small (Del key at) is full = table-key id kinds key small
of-table id kinds small (DelRange lo hi at) is full = (table-key id kinds lo small, table-key id kinds hi small, ap is_lt (keys-ordered id kinds small lo hi is.0 is.1) ∙ full)

module _ (T : RowTables) (id : ℕ) (f : RowFact) (small : id < 2 ^ 32) (all : AreRowFacts (T.kinds id) (T.facts id)) (is : IsRowFact (T.kinds id) f) (may : MayAdd T id f) where
  abbrev kinds : List Kind
  kinds = T.kinds id

  dates : (g : RowFact) → (date g ≡ date f → ⊥) → date (coded id kinds g) ≡ date (coded id kinds f) → ⊥
  dates g other e = other (sym (date-coded id kinds g) ∙ (e ∙ date-coded id kinds f))

  at-key : (g : RowFact) (b : Bytes) (k : Key) → Has g (T.facts id) → IsKey kinds k → b ≡ row_key id kinds k → touches bytes_cmp b (coded id kinds g) ≡ true → touches bytes_cmp b (coded id kinds f) ≡ true → date g ≡ date f → ⊥
  at-key g b k has p e tg tf = may.fresh k g p has
      (sym (touches-coded id kinds small k g p (all g has)) ∙ (ap (λ (x : Bytes). touches bytes_cmp x (coded id kinds g)) (sym e) ∙ tg))
      (sym (touches-coded id kinds small k f p is) ∙ (ap (λ (x : Bytes). touches bytes_cmp x (coded id kinds f)) (sym e) ∙ tf))

  differ : (g : RowFact) (b : Bytes) → Has g (T.facts id) → (p q : Bool) → is_point f ≡ p → is_point g ≡ q → touches bytes_cmp b (coded id kinds g) ≡ true → touches bytes_cmp b (coded id kinds f) ≡ true → date g ≡ date f → ⊥
  differ g b has true q pf pg tg tf = (let k = touched-point id kinds b f is pf tf in at-key g b k.0 has k.1 k.2 tg tf)
  differ g b has false true pf pg tg tf = (let k = touched-point id kinds b g (all g has) pg tg in at-key g b k.0 has k.1 k.2 tg tf)
  differ g b has false false pf pg tg tf = may.other_range g has pg pf

  pub may-coded : IsNoEmptyRange (T.kinds id) f → store.MayAdd (bytes_of T) id (coded id (T.kinds id) f)
  may-coded full = record {
    table = of-table id kinds small f is full;
    late = ap (λ (t : Time). time_lt (T.threshold id) t) (date-coded id kinds f) ∙ may.late;
    fresh = λ b g has tg tf. (let old = map-has (coded id kinds) g (T.facts id) has in
        subst (λ (x : ByteFact). date x ≢ date (coded id kinds f)) (sym old.2)
        (dates old.0 (differ old.0 b old.1 (is_point f) (is_point old.0) refl refl (subst (λ (x : ByteFact). touches bytes_cmp b x ≡ true) old.2 tg) tf)));
    other_range = λ g has rg rf. (let old = map-has (coded id kinds) g (T.facts id) has in
        subst (λ (x : ByteFact). date x ≢ date (coded id kinds f)) (sym old.2)
        (dates old.0 (may.other_range old.0 old.1 (sym (point-coded id kinds old.0) ∙ (ap is_point (sym old.2) ∙ rg)) (sym (point-coded id kinds f) ∙ rf))));
  }

-- ---- the tables after a fact more

with-coded : (T : RowTables) (id : ℕ) (f : RowFact) → with_fact id (coded id (T.kinds id) f) (bytes_of T) ≡ bytes_of (with_facts id (f ∷ []) T)
with-coded T id f = ap (λ (facts : ℕ → List ByteFact). record { facts = facts; threshold = T.threshold }) (fun_ext (λ i. by i (i == id) refl))
  where
    by : (i : ℕ) (b : Bool) → i == id ≡ b → cond b (map (coded i (T.kinds i)) (T.facts i) ++ coded id (T.kinds id) f ∷ []) (map (coded i (T.kinds i)) (T.facts i)) ≡ map (coded i (T.kinds i)) (cond b (T.facts i ++ f ∷ []) (T.facts i))
    by i true e =
        ap (λ (j : ℕ). map (coded i (T.kinds i)) (T.facts i) ++ coded j (T.kinds j) f ∷ []) (sym (eqb-true i id e))
        ∙ sym (map-append (coded i (T.kinds i)) (T.facts i) (f ∷ []))
    by i false e = refl

pub rows-with : (T : RowTables) (id : ℕ) (fs : List RowFact) → ((i : ℕ) → AreRowFacts (T.kinds i) (T.facts i)) → AreRowFacts (T.kinds id) fs → (i : ℕ) → AreRowFacts (T.kinds i) ((with_facts id fs T).facts i)
rows-with T id fs old new i = by (i == id) refl
  where
    by : (b : Bool) → i == id ≡ b → AreRowFacts (T.kinds i) (cond b (T.facts i ++ fs) (T.facts i))
    by true e = λ f has. elim (has-append_cases f (T.facts i) fs has) [ inl h ↦ old i f h | inr h ↦ subst (λ (j : ℕ). IsRowFact (T.kinds j) f) (sym (eqb-true i id e)) (new f h) ]
    by false e = old i

-- what a store answers to a fact more is said of rows
pub added : (S S' : Tables → Type 0) (T : RowTables) (id : ℕ) (f : RowFact) → HasRows S T → id < 2 ^ 32 → IsRowFact (T.kinds id) f → IsNoEmptyRange (T.kinds id) f → MayAdd T id f
    → ((h : Tables) (i : ℕ) → S h → store.MayAdd h i (coded id (T.kinds id) f) → S' (with_fact i (coded id (T.kinds id) f) h))
    → HasRows S' (with_facts id (f ∷ []) T)
added S S' T id f has small is full may gives = record {
  bytes = subst S' (with-coded T id f) (gives (bytes_of T) id has.bytes (may-coded T id f small (has.rows id) is may full));
  rows = rows-with T id (f ∷ []) has.rows (λ g h. elim h [ inl e ↦ subst (λ (x : RowFact). IsRowFact (T.kinds id) x) (sym e) is | inr h ↦ absurd h ]);
}

pub kept : (S S' : Tables → Type 0) (T : RowTables) → HasRows S T → ((h : Tables) → S h → S' h) → HasRows S' T
kept S S' T has gives = record { bytes = gives (bytes_of T) has.bytes; rows = has.rows }

-- the same of a put, a deletion and a range in bytes
abbrev Takes : (S S' : Tables → Type 0) → ByteFact → Type 0
Takes S S' f = (h : Tables) (i : ℕ) → S h → store.MayAdd h i f → S' (with_fact i f h)

pub put-added : (S S' : Tables → Type 0) (T : RowTables) (id : ℕ) (xs : Key) (cells : Cells) (at : Time) (key value : Bytes) → HasRows S T → id < 2 ^ 32 → key ≡ row_key id (T.kinds id) xs → IsKey (T.kinds id) xs → value ≡ row_value cells → IsCells cells
    → MayAdd T id (Put xs cells at) → Takes S S' (Put key value at) → HasRows S' (with_facts id (Put xs cells at ∷ []) T)
put-added S S' T id xs cells at key value has small k is v cs may takes =
    added S S' T id (Put xs cells at) has small (is, cs) tt may (subst (λ (b : Bytes). Takes S S' (Put (row_key id (T.kinds id) xs) b at)) v (subst (λ (b : Bytes). Takes S S' (Put b value at)) k takes))

pub deletion-added : (S S' : Tables → Type 0) (T : RowTables) (id : ℕ) (xs : Key) (at : Time) (key : Bytes) → HasRows S T → id < 2 ^ 32 → key ≡ row_key id (T.kinds id) xs → IsKey (T.kinds id) xs
    → MayAdd T id (Del xs at) → Takes S S' (Del key at) → HasRows S' (with_facts id (Del xs at ∷ []) T)
deletion-added S S' T id xs at key has small k is may takes = added S S' T id (Del xs at) has small is tt may (subst (λ (b : Bytes). Takes S S' (Del b at)) k takes)

pub range-added : (S S' : Tables → Type 0) (T : RowTables) (id : ℕ) (xs ys : Key) (at : Time) (lo hi : Bytes) → HasRows S T → id < 2 ^ 32 → lo ≡ row_key id (T.kinds id) xs → IsKey (T.kinds id) xs → hi ≡ row_key id (T.kinds id) ys → IsKey (T.kinds id) ys
    → is_lt (row_cmp (T.kinds id) xs ys) ≡ true → MayAdd T id (DelRange xs ys at) → Takes S S' (DelRange lo hi at) → HasRows S' (with_facts id (DelRange xs ys at ∷ []) T)
range-added S S' T id xs ys at lo hi has small k is l js full may takes =
    added S S' T id (DelRange xs ys at) has small (is, js) full may (subst (λ (b : Bytes). Takes S S' (DelRange (row_key id (T.kinds id) xs) b at)) l (subst (λ (b : Bytes). Takes S S' (DelRange b hi at)) k takes))

-- a threshold raised
pub collected : (S S' : Tables → Type 0) (T : RowTables) (id : ℕ) (g : Time) → HasRows S T → ((h : Tables) → S h → S' (raised id g h)) → HasRows S' (with_threshold id g T)
collected S S' T id g has gives = record {
  bytes = subst S' (ap (λ (ts : ℕ → Time). record { facts = (bytes_of T).facts; threshold = ts }) (fun_ext (λ i. by i (i == id)))) (gives (bytes_of T) has.bytes);
  rows = has.rows;
}
  where
    by : (i : ℕ) (b : Bool) → cond (b && time_lt (T.threshold i) g) g (T.threshold i) ≡ cond b (cond (time_lt (T.threshold i) g) g (T.threshold i)) (T.threshold i)
    by i true = refl
    by i false = refl

-- ---- a list of facts, one after another

with-next : (T : RowTables) (id : ℕ) (fs : List RowFact) (f : RowFact) → with_facts id (f ∷ []) (with_facts id fs T) ≡ with_facts id (fs ++ f ∷ []) T
with-next T id fs f = ap (λ (facts : ℕ → List RowFact). record { kinds = T.kinds; facts = facts; threshold = T.threshold }) (fun_ext (λ i. by i (i == id)))
  where
    by : (i : ℕ) (b : Bool) → cond b (cond b (T.facts i ++ fs) (T.facts i) ++ f ∷ []) (cond b (T.facts i ++ fs) (T.facts i)) ≡ cond b (T.facts i ++ (fs ++ f ∷ [])) (T.facts i)
    by i true = append_assoc (T.facts i) fs (f ∷ [])
    by i false = refl

with-none : (T : RowTables) (id : ℕ) → with_facts id [] T ≡ T
with-none T id = ap (λ (facts : ℕ → List RowFact). record { kinds = T.kinds; facts = facts; threshold = T.threshold }) (fun_ext (λ i. by i (i == id)))
  where
    by : (i : ℕ) (b : Bool) → cond b (T.facts i ++ []) (T.facts i) ≡ T.facts i
    by i true = append-nil (T.facts i)
    by i false = refl

-- a store that has a front of some facts, and takes the next
pub next-added : (S : Tables → Type 0) (T : RowTables) (id : ℕ) (fs : List RowFact) (f : RowFact) → HasRows S (with_facts id (f ∷ []) (with_facts id fs T)) → HasRows S (with_facts id (fs ++ f ∷ []) T)
next-added S T id fs f has = subst (λ (U : RowTables). HasRows S U) (with-next T id fs f) has

pub none-added : (S : Tables → Type 0) (T : RowTables) (id : ℕ) → HasRows S T → HasRows S (with_facts id [] T)
none-added S T id has = subst (λ (U : RowTables). HasRows S U) (sym (with-none T id)) has

-- a point may be added after others of other keys
pub may-next : (T : RowTables) (id : ℕ) (fs : List RowFact) (f : RowFact) → is_point f ≡ true
    → ((g : RowFact) → Has g fs → (k : Key) → IsKey (T.kinds id) k → touches (row_cmp (T.kinds id)) k g ≡ true → touches (row_cmp (T.kinds id)) k f ≡ true → ⊥)
    → MayAdd T id f → MayAdd (with_facts id fs T) id f
may-next T id fs f point other may = record {
  late = may.late;
  fresh = λ k g is has tg tf e. by k g is (id == id) has tg tf e;
  other_range = λ g has rg rf. absurd (let no : true ≡ false = sym point ∙ rf in cc no);
}
  where
    by : (k : Key) (g : RowFact) → IsKey (T.kinds id) k → (b : Bool) → Has g (cond b (T.facts id ++ fs) (T.facts id)) → touches (row_cmp (T.kinds id)) k g ≡ true → touches (row_cmp (T.kinds id)) k f ≡ true → date g ≡ date f → ⊥
    by k g is true has tg tf same = elim (has-append_cases g (T.facts id) fs has) [ inl h ↦ may.fresh k g is h tg tf same | inr h ↦ other g h k is tg tf ]
    by k g is false has tg tf same = may.fresh k g is has tg tf same

-- keys that compare as equal are one
pub key-same : (kinds : List Kind) (a b : Key) → IsKey kinds a → IsKey kinds b → is_eq (row_cmp kinds a b) ≡ true → a ≡ b
key-same kinds a b p q e =
    let small : 0 < 2 ^ 32 = omega arith in
    let bytes : row_key 0 kinds a ≡ row_key 0 kinds b = same-bytes (row_key 0 kinds a) (row_key 0 kinds b) (ap is_eq (keys-ordered 0 kinds small a b p q) ∙ e) in
    let apart = row_keys-exact.apart kinds 0 0 a b [] [] small small p q (append-nil (row_key 0 kinds a) ∙ (bytes ∙ sym (append-nil (row_key 0 kinds b)))) in
    apart.1
