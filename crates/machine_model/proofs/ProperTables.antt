-- A proper table with a further descriptor, or with further facts, is a proper one.
use Rattle.std.proofs.Common.{◌≡◌, ⊎_elim, ℕ, true, refl, sym, subst, ◌∙◌, List, [], ◌∷◌, ◌++◌}
use Rattle.mvcc_keys.specs.Times.{Time, zero_time, time_le, time_lt}
use Rattle.mvcc_keys.proofs.TimeOrder.{lt-le-absurd, le-lt-lt, zero-le}
use Rattle.row_codec.specs.declared.rows.Kind.{Kind}
use Rattle.row_codec.specs.RowOrder.{row_cmp}
use Rattle.table_descriptors.specs.Descriptors.{IsProperSchema, Schema, key_kinds}
use Rattle.fact_model.specs.Facts.{Put, Del, DelRange, date}
use Rattle.list_laws.specs.Members.{Has}
use Rattle.list_laws.proofs.Members.{has-append_cases}
use Rattle.history_model.specs.Rows.{RowFact}
use Rattle.history_model.specs.Histories.{Table, key_order}
use Rattle.table_rows.specs.RowTables.{IsRowFact}
use Rattle.layer_objects.specs.Storable.{IsSized}
use Rattle.machine_model.specs.Tables.{described, new_table}
use Rattle.machine_model.specs.TableRows.{extended}
use Rattle.machine_model.specs.Proper.{AreRangesOfOneDate, IsProperTable, IsSameTable, NoTwo, RunsUp, TouchOneKey}
use Rattle.machine_model.proofs.Orders.{and-true, ascend-more, not-none}
use Rattle.machine_model.proofs.ProperLists.{two-append, two-none}

-- ---- the same table

same-itself : (d : Schema) → IsSameTable d d
same-itself d = record { database = refl; key_columns = refl; kinds = refl }

same-back : (d e : Schema) → IsSameTable d e → IsSameTable e d
same-back d e s = record { database = sym s.database; key_columns = sym s.key_columns; kinds = sym s.kinds }

same-then : (c d e : Schema) → IsSameTable c d → IsSameTable d e → IsSameTable c e
same-then c d e s r = record { database = r.database ∙ s.database; key_columns = r.key_columns ∙ s.key_columns; kinds = r.kinds ∙ s.kinds }

-- what is so of each of a list and of one more
or-last : {X : Type 0} (P : X → Type 0) (xs : List X) (e : X) → ((x : X) → Has x xs → P x) → P e → (x : X) → Has x (xs ++ e ∷ []) → P x
or-last P xs e all last x has = ⊎_elim (all x) (λ (here : Has x (e ∷ [])). ⊎_elim (λ (is : x ≡ e). subst P (sym is) last) (λ no. absurd no) here) (has-append_cases x xs (e ∷ []) has)

-- ---- a further descriptor

pub proper-described : (id : ℕ) (c : Time) (table : Table) (d e : Schema) → IsProperTable id table → ((x : Schema) → Has x table.descriptors → time_le x.modified c ≡ true) → Has d table.descriptors
    → IsProperSchema e → e.id ≡ id → IsSameTable d e → time_lt c e.modified ≡ true → IsProperTable id (described table e)
proper-described id c table d e p dated has proper own s later = record {
  id_is = p.id_is;
  some = not-none table.descriptors e;
  ascend = ascend-more zero_time c table.descriptors e (zero-le c) p.ascend dated later;
  after = p.after;
  schemas = or-last (λ (x : Schema). IsProperSchema x × (x.id ≡ id)) table.descriptors e p.schemas (proper, own);
  same = λ x y hx hy. or-last (λ (v : Schema). IsSameTable v y) table.descriptors e
      (λ v hv. or-last (λ (w : Schema). IsSameTable v w) table.descriptors e (λ w hw. p.same v w hv hw) (same-then v d e (p.same v d hv has) s) y hy)
      (or-last (λ (w : Schema). IsSameTable e w) table.descriptors e (λ w hw. same-then e d w (same-back d e s) (p.same d w has hw)) (same-itself e) y hy) x hx;
  facts = or-last (λ (x : Schema). (f : RowFact) → Has f table.facts → IsRowFact (key_kinds x) f) table.descriptors e p.facts (λ f hf. subst (λ (ks : List Kind). IsRowFact ks f) (sym s.kinds) (p.facts d has f hf));
  ranges = or-last (λ (x : Schema). (f : RowFact) → Has f table.facts → RunsUp (key_order x) f) table.descriptors e p.ranges (λ f hf. subst (λ (ks : List Kind). RunsUp (row_cmp ks) f) (sym s.kinds) (p.ranges d has f hf));
  apart = or-last (λ (x : Schema). NoTwo (TouchOneKey (key_order x)) table.facts) table.descriptors e p.apart (subst (λ (ks : List Kind). NoTwo (TouchOneKey (row_cmp ks)) table.facts) (sym s.kinds) (p.apart d has));
  differ = p.differ;
  sized = or-last (λ (x : Schema). (f : RowFact) → Has f table.facts → IsSized (key_kinds x) f) table.descriptors e p.sized (λ f hf. subst (λ (ks : List Kind). IsSized ks f) (sym s.kinds) (p.sized d has f hf));
}

-- ---- further facts

-- facts of one date for a table with key columns of these kinds, no two of which clash
pub record AreNew (kinds : List Kind) (t : Time) (fs : List RowFact) : Type 0 where
  pub dated : (f : RowFact) → Has f fs → date f ≡ t
  pub facts : (f : RowFact) → Has f fs → IsRowFact kinds f
  pub sized : (f : RowFact) → Has f fs → IsSized kinds f
  pub apart : NoTwo (TouchOneKey (row_cmp kinds)) fs
  pub differ : NoTwo AreRangesOfOneDate fs

runs-up : (kinds : List Kind) (f : RowFact) → IsSized kinds f → RunsUp (row_cmp kinds) f
runs-up kinds (Put key cells at) is = tt
runs-up kinds (Del key at) is = tt
runs-up kinds (DelRange lo hi at) is = is.3

module _ (id : ℕ) (c t : Time) (table : Table) (d : Schema) (fs : List RowFact) (p : IsProperTable id table) (has : Has d table.descriptors) (old : (f : RowFact) → Has f table.facts → time_le (date f) c ≡ true) (later : time_lt c t ≡ true) (new : AreNew (key_kinds d) t fs) where
  either : (P : RowFact → Type 0) → ((f : RowFact) → Has f table.facts → P f) → ((f : RowFact) → Has f fs → P f) → (f : RowFact) → Has f (table.facts ++ fs) → P f
  either P one two f hf = ⊎_elim (one f) (two f) (has-append_cases f table.facts fs hf)

  kinds-are : (x : Schema) → Has x table.descriptors → key_kinds x ≡ key_kinds d
  kinds-are x hx = (p.same d x has hx).kinds

  clash : (f g : RowFact) → Has f table.facts → Has g fs → date f ≡ date g → ⊥
  clash f g hf hg same = lt-le-absurd c t later (subst (λ (x : Time). time_le x c ≡ true) (same ∙ new.dated g hg) (old f hf))

  pub proper-extended : IsProperTable id (extended table fs)
  proper-extended = record {
    id_is = p.id_is;
    some = p.some;
    ascend = p.ascend;
    after = either (λ (f : RowFact). time_lt zero_time (date f) ≡ true) p.after (λ f hf. subst (λ (x : Time). time_lt zero_time x ≡ true) (sym (new.dated f hf)) (le-lt-lt zero_time c t (zero-le c) later));
    schemas = p.schemas;
    same = p.same;
    facts = λ x hx. either (IsRowFact (key_kinds x)) (p.facts x hx) (λ f hf. subst (λ (ks : List Kind). IsRowFact ks f) (sym (kinds-are x hx)) (new.facts f hf));
    ranges = λ x hx. either (RunsUp (key_order x)) (p.ranges x hx) (λ f hf. subst (λ (ks : List Kind). RunsUp (row_cmp ks) f) (sym (kinds-are x hx)) (runs-up (key_kinds d) f (new.sized f hf)));
    apart = λ x hx. two-append (TouchOneKey (key_order x)) table.facts fs (p.apart x hx) (subst (λ (ks : List Kind). NoTwo (TouchOneKey (row_cmp ks)) fs) (sym (kinds-are x hx)) new.apart)
        (λ f g hf hg touch. clash f g hf hg touch.0) (λ f g hf hg touch. clash f g hf hg (sym touch.0));
    differ = two-append AreRangesOfOneDate table.facts fs p.differ new.differ (λ f g hf hg both. clash f g hf hg both.0) (λ f g hf hg both. clash f g hf hg (sym both.0));
    sized = λ x hx. either (IsSized (key_kinds x)) (p.sized x hx) (λ f hf. subst (λ (ks : List Kind). IsSized ks f) (sym (kinds-are x hx)) (new.sized f hf));
  }

-- ---- a new table

module _ (d : Schema) (proper : IsProperSchema d) (dated : time_lt zero_time d.modified ≡ true) where
  only : (P : Schema → Type 0) → P d → (x : Schema) → Has x (d ∷ []) → P x
  only P is x has = ⊎_elim (λ (same : x ≡ d). subst P (sym same) is) (λ no. absurd no) has

  pub proper-first : IsProperTable d.id (new_table d)
  proper-first = record {
    id_is = refl;
    some = λ none. let no : d ∷ [] ≡ [] = none in cc no;
    ascend = and-true (time_lt zero_time d.modified) dated;
    after = λ f no. absurd no;
    schemas = only (λ (x : Schema). IsProperSchema x × (x.id ≡ d.id)) (proper, refl);
    same = λ x y hx hy. only (λ (v : Schema). IsSameTable v y) (only (λ (w : Schema). IsSameTable d w) (same-itself d) y hy) x hx;
    facts = λ x hx f no. absurd no;
    ranges = λ x hx f no. absurd no;
    apart = λ x hx. two-none (TouchOneKey (key_order x));
    differ = two-none AreRangesOfOneDate;
    sized = λ x hx f no. absurd no;
  }
