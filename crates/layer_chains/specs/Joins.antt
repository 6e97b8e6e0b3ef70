-- Layers that adjoin, joined into one without history.
use Rattle.std.specs.Prelude.{◌≡◌, ℕ, true, false, List, [], ◌∷◌, None}
use Rattle.std.specs.List.{AllByRecursion, list_any}
use Rattle.mvcc_keys.specs.Times.{Time}
use Rattle.table_descriptors.specs.declared.scopes.Scope.{Scope}
use Rattle.table_descriptors.specs.Descriptors.{Schema}
use Rattle.fact_model.specs.Facts.{IsApart}
use Rattle.history_model.specs.Histories.{Table}
use Rattle.history_model.specs.Layers.{LayerRecord}
use Rattle.version_store.specs.Tables.{bytes_cmp}
use Rattle.version_store.specs.Lists.{facts_of}
use Rattle.chunk_file.specs.Entries.{are_ordered}
use Rattle.layer_merge.specs.Changes.{direct_entries}
use Rattle.layer_merge.specs.Ranges.{AreDated}
use Rattle.layer_chains.specs.Chains.{AreMergeable, AreOfScope, IsShown, chain_entries, introduces, layer_entries}

-- records that adjoin from one time to another
abbrev pub AreJoinFrom : Time → Time → List LayerRecord → Type 0
AreJoinFrom s e [] = ⊥
AreJoinFrom s e (r ∷ []) = (r.start ≡ s) × (r.end ≡ e)
AreJoinFrom s e (r ∷ q ∷ rs) = (r.start ≡ s) × AreJoinFrom r.end e (q ∷ rs)

-- a record of a layer of the scope from one time to another, without history
pub record IsDirect (scope : Scope) (s e : Time) (r : LayerRecord) : Type 0 where
  pub of : r.scope ≡ scope
  pub from : r.start ≡ s
  pub to : r.end ≡ e
  pub bare : r.history ≡ false

-- What layers have of a table is joined into what a record without history has of it: a merge of the entries of those that count gives the
-- record's entries, and the record introduces the table where one of them does. The entries of each are in order throughout, and facts that
-- touch one key have different dates, as have range deletions.
pub record JoinsTable (tables : List Table) (id : ℕ) (s e : Time) (rs : List LayerRecord) (direct : LayerRecord) : Type 0 where
  pub entries : direct_entries (list_any (introduces tables id) rs) s e (chain_entries tables id rs) ≡ layer_entries tables id direct
  pub introduced : list_any (introduces tables id) rs ≡ introduces tables id direct
  pub ordered : AllByRecursion (λ (r : LayerRecord). are_ordered None (layer_entries tables id r) ≡ true) rs
  pub apart : IsApart bytes_cmp (facts_of (chain_entries tables id rs))
  pub dated : AreDated (chain_entries tables id rs)

-- ---- the law

-- For records of one scope that adjoin from one time to another, and a table of the scope that is public at the last end, the merge of their
-- entries gives the entries of the record without history between these times.
abbrev pub JoinsAreDirect : Type 0
JoinsAreDirect = (tables : List Table) (scope : Scope) (s e : Time) (rs : List LayerRecord) (direct : LayerRecord) (d : Schema)
    → AreOfScope scope rs → AreJoinFrom s e rs → IsDirect scope s e direct → AreMergeable tables → IsShown tables scope e d
    → JoinsTable tables d.id s e rs direct
