-- Stored puts of different keys, put one after another under a new id.
use Rattle.std.proofs.Common.{◌≡◌, ◌≢◌, ℕ, ◌+◌, ◌<◌, ◌≤◌, ◌^◌, nat_eq, true, sym, refl, ap, ◌∙◌, subst, inl, inr, arith, List, [], ◌∷◌, ◌++◌, map, length, take, get_or, Some, Ok, drop}
use Rattle.std.specs.List.{AllByRecursion}
use Rattle.std.specs.Map.{lookup}
use Rattle.std.proofs.lemmas.List.{drop_more, get_or-map, length-map, map-append, take-append-drop, take-map, take_all, take_more}
use Rattle.mvcc_keys.specs.Times.{Time, time_lt}
use Rattle.mvcc_keys.specs.declared.entries.Entry.{Entry}
use Rattle.key_encoding.proofs.Grammars.{uvarint-found}
use Rattle.row_codec.specs.declared.rows.Kind.{Kind}
use Rattle.row_codec.specs.RowKeys.{row_key, values_code, IsKey}
use Rattle.row_codec.specs.RowOrder.{row_cmp}
use Rattle.row_codec.specs.RowValues.{row_value}
use Rattle.fact_model.specs.Facts.{Put, touches}
use Rattle.list_laws.specs.Members.{Has}
use Rattle.list_laws.proofs.Members.{has-AllByRecursion, map-has}
use Rattle.history_model.specs.Rows.{Key, Cells, RowFact, RowItem}
use Rattle.version_store.specs.Tables.{Tables}
use Rattle.table_rows.specs.RowTables.{HasFront, HasRows, IsCells, MayAdd, RowTables, with_facts}
use Rattle.table_rows.proofs.Coded.{key-same, may-next, next-added, none-added}
use Rattle.key_rewriter.specs.Rewriting.{replaced, rewritten, rewritten_by}
use Rattle.layer_chains.specs.Chains.{stored_put}
use Rattle.restore_rows.specs.Putting.{AreItems, DifferInKey, IsItem, IsMapped, put_at}

pub rewritten-row : (ids : List (ℕ × ℕ)) (kinds : List Kind) (old new : ℕ) (xs : Key) → old < 2 ^ 32 → lookup (nat_eq old) ids ≡ Some new → rewritten ids (row_key old kinds xs) ≡ Ok (row_key new kinds xs)
unfolding row_key
rewritten-row ids kinds old new xs small found =
    let word : old < 2 ^ 64 = omega (arith, small) in
    ap (rewritten_by ids) (uvarint-found old (137 ∷ values_code kinds xs) word) ∙ ap (replaced old (137 ∷ values_code kinds xs)) found

-- what a store takes as a put, said of the entry that it came from
abbrev pub Takes : (Tables → Type 0) → (Tables → Type 0) → Time → List ℕ → List ℕ → Type 0
Takes S S' at key value = (T : RowTables) (id : ℕ) (xs : Key) (cells : Cells) → HasRows S T → id < 2 ^ 32 → key ≡ row_key id (T.kinds id) xs → IsKey (T.kinds id) xs → value ≡ row_value cells → IsCells cells
    → MayAdd T id (Put xs cells at) → HasRows S' (with_facts id (Put xs cells at ∷ []) T)

pub put-renewed : (S S' : Tables → Type 0) (T : RowTables) (ids : List (ℕ × ℕ)) (old new : ℕ) (item : RowItem) (at date : Time) (entry : Entry) (key value moved : List ℕ) → Takes S S' at moved value
    → entry ≡ Entry.Put key date value → rewritten ids key ≡ Ok moved → HasRows S T → entry ≡ stored_put old (T.kinds new) item → old < 2 ^ 32 → new < 2 ^ 32
    → lookup (nat_eq old) ids ≡ Some new → IsItem (T.kinds new) item → MayAdd T new (put_at at item) → HasRows S' (with_facts new (put_at at item ∷ []) T)
put-renewed S S' T ids old new item at date entry key value moved takes is key_is has stored old_small new_small found good may =
    let both : Entry.Put key date value ≡ Entry.Put (row_key old (T.kinds new) item.key) item.at (row_value item.value) = sym is ∙ stored in
    let same_key : key ≡ row_key old (T.kinds new) item.key = cc both in
    let same_value : value ≡ row_value item.value = cc both in
    let oks : Ok moved ≡ Ok (row_key new (T.kinds new) item.key) = sym key_is ∙ (ap (rewritten ids) same_key ∙ rewritten-row ids (T.kinds new) old new item.key old_small found) in
    let same : moved ≡ row_key new (T.kinds new) item.key = cc oks in
    takes T new item.key item.value has new_small same good.0 same_value good.1 may

pub all-mapped : (ids : List (ℕ × ℕ)) (kinds : List Kind) (old new : ℕ) (items : List RowItem) → old < 2 ^ 32 → lookup (nat_eq old) ids ≡ Some new → AllByRecursion (IsMapped ids) (map (stored_put old kinds) items)
all-mapped ids kinds old new [] small found = tt
all-mapped ids kinds old new (i ∷ is) small found = ((row_key new kinds i.key, rewritten-row ids kinds old new i.key small found), all-mapped ids kinds old new is small found)

-- ---- the next of some items

all-of : {X : Type 0} (P : X → Type 0) (xs ys : List X) → AllByRecursion P (xs ++ ys) → AllByRecursion P xs × AllByRecursion P ys
all-of P [] ys all = (tt, all)
all-of P (x ∷ xs) ys all = (let rest = all-of P xs ys all.1 in ((all.0, rest.0), rest.1))

differ-before : (xs ys : List RowItem) (y x : RowItem) → DifferInKey (xs ++ x ∷ ys) → Has y xs → y.key ≢ x.key
differ-before [] ys y x differ has = absurd has
differ-before (z ∷ xs) ys y x differ (inl e) = subst (λ (w : RowItem). w.key ≢ x.key) (sym e) (all-of (λ (j : RowItem). z.key ≢ j.key) xs (x ∷ ys) differ.0).1.0
differ-before (z ∷ xs) ys y x differ (inr has) = differ-before xs ys y x differ.1 has

-- an element of a list with those before and after it
record IsAt {X : Type 0} (xs : List X) (i : ℕ) (x : X) : Type 0 where
  pub default : X
  pub value : get_or xs i default ≡ x
  pub after : List X
  pub whole : xs ≡ take i xs ++ x ∷ after
  pub front : take (i + 1) xs ≡ take i xs ++ x ∷ []

at-place : {X : Type 0} (xs : List X) (i : ℕ) → i < length xs → (x : X) × IsAt xs i x
at-place [] i lt = absurd (omega (arith, lt))
at-place {X} (d ∷ xs) i lt = (
  get_or (d ∷ xs) i d,
  record {
    default = d;
    value = refl;
    after = drop (i + 1) (d ∷ xs);
    whole = sym (take-append-drop i (d ∷ xs)) ∙ ap (λ (ys : List X). take i (d ∷ xs) ++ ys) (drop_more (d ∷ xs) i d lt);
    front = take_more (d ∷ xs) i d lt;
  },
)

-- ---- all of some items

-- the entries are the stored puts of items of an empty table, which can take them
pub record MayPut (T : RowTables) (ids : List (ℕ × ℕ)) (entries : List Entry) (at : Time) (old new : ℕ) (items : List RowItem) : Type 0 where
  pub stored : entries ≡ map (stored_put old (T.kinds new)) items
  pub old_small : old < 2 ^ 32
  pub new_small : new < 2 ^ 32
  pub mapped : lookup (nat_eq old) ids ≡ Some new
  pub none : T.facts new ≡ []
  pub late : time_lt (T.threshold new) at ≡ true
  pub good : AreItems (T.kinds new) items

module _ (T : RowTables) (ids : List (ℕ × ℕ)) (entries : List Entry) (at : Time) (old new : ℕ) (items : List RowItem) (may : MayPut T ids entries at old new items) where
  -- the first so many items were put
  abbrev pub HasFirst : (Tables → Type 0) → ℕ → Type 0
  HasFirst S i = HasRows S (with_facts new (map (put_at at) (take i items)) T)

  pub none-put : (S : Tables → Type 0) → HasRows S T → HasFirst S 0
  none-put S has = none-added S T new has

  may-one : (x : RowItem) → MayAdd T new (put_at at x)
  may-one x = record {
    late = may.late;
    fresh = λ k g is has tg tf. absurd (subst (λ (fs : List RowFact). Has g fs) may.none has);
    other_range = λ g has rg rf. absurd (subst (λ (fs : List RowFact). Has g fs) may.none has);
  }

  item-good : (i : ℕ) (x : RowItem) → IsAt items i x → AllByRecursion (IsItem (T.kinds new)) (take i items) × IsItem (T.kinds new) x
  item-good i x is = (let p = all-of (IsItem (T.kinds new)) (take i items) (x ∷ is.after) (subst (λ (xs : List RowItem). AllByRecursion (IsItem (T.kinds new)) xs) is.whole may.good.each) in (p.0, p.1.0))

  may-item : (i : ℕ) (x : RowItem) → IsAt items i x → MayAdd (with_facts new (map (put_at at) (take i items)) T) new (put_at at x)
  may-item i x is = may-next T new (map (put_at at) (take i items)) (put_at at x) refl other (may-one x)
    where
      other : (g : RowFact) → Has g (map (put_at at) (take i items)) → (k : Key) → IsKey (T.kinds new) k → touches (row_cmp (T.kinds new)) k g ≡ true → touches (row_cmp (T.kinds new)) k (put_at at x) ≡ true → ⊥
      other g has k key tg tf =
          let y = map-has (put_at at) g (take i items) has in
          let good = item-good i x is in
          let first : y.0.key ≡ k = key-same (T.kinds new) y.0.key k (has-AllByRecursion (IsItem (T.kinds new)) y.0 (take i items) good.0 y.1).0 key (subst (λ (f : RowFact). touches (row_cmp (T.kinds new)) k f ≡ true) y.2 tg) in
          let second : x.key ≡ k = key-same (T.kinds new) x.key k good.1.0 key tf in
          differ-before (take i items) is.after y.0 x (subst DifferInKey is.whole may.good.differ) y.1 (first ∙ sym second)

  -- the entry at a place, put
  pub next-put : (S S' : Tables → Type 0) (i : ℕ) (entry : Entry) → i < length entries → entry ≡ get_or entries i entry
      → ((U : RowTables) (o n : ℕ) (item : RowItem) → HasRows S U → entry ≡ stored_put o (U.kinds n) item → o < 2 ^ 32 → n < 2 ^ 32 → lookup (nat_eq o) ids ≡ Some n → IsItem (U.kinds n) item → MayAdd U n (put_at at item) → HasRows S' (with_facts n (put_at at item ∷ []) U))
      → HasFirst S i → HasFirst S' (i + 1)
  next-put S S' i entry lt is takes has =
      let long : length entries ≡ length items = ap length may.stored ∙ length-map items (stored_put old (T.kinds new)) in
      let there : i < length items = omega (arith, lt, long) in
      let x = at-place items i there in
      let stored : entry ≡ stored_put old (T.kinds new) x.0 = is ∙ (ap (λ (es : List Entry). get_or es i entry) may.stored ∙ (get_or-map (stored_put old (T.kinds new)) items i x.1.default entry there ∙ ap (stored_put old (T.kinds new)) x.1.value)) in
      let put = takes (with_facts new (map (put_at at) (take i items)) T) old new x.0 has stored may.old_small may.new_small may.mapped (item-good i x.0 x.1).1 (may-item i x.0 x.1) in
      subst (λ (fs : List RowFact). HasRows S' (with_facts new fs T)) (sym (ap (map (put_at at)) x.1.front ∙ map-append (put_at at) (take i items) (x.0 ∷ []))) (next-added S' T new (map (put_at at) (take i items)) (put_at at x.0) put)

  pub front-put : (S : Tables → Type 0) (i : ℕ) → HasFirst S i → HasFront S T new (map (put_at at) items)
  front-put S i has = record { n = i; rows = subst (λ (fs : List RowFact). HasRows S (with_facts new fs T)) (sym (take-map (put_at at) i items)) has }

  pub all-put : (S : Tables → Type 0) (i : ℕ) → length entries ≤ i → HasFirst S i → HasRows S (with_facts new (map (put_at at) items) T)
  all-put S i past has =
      let long : length entries ≡ length items = ap length may.stored ∙ length-map items (stored_put old (T.kinds new)) in
      subst (λ (xs : List RowItem). HasRows S (with_facts new (map (put_at at) xs) T)) (take_all i items (omega (arith, past, long))) has
