-- What is read of a table that is public, out of layers that stand.
use Rattle.std.proofs.Common.{◌≡◌, ◌∙◌, ℕ, ◌+◌, sym, ap, subst₂, List, [], map, Ok}
use Rattle.mvcc_keys.specs.Times.{Time}
use Rattle.mvcc_keys.specs.declared.entries.Entry.{Entry}
use Rattle.row_codec.specs.declared.rows.Kind.{Kind}
use Rattle.table_descriptors.specs.declared.scopes.Scope.{Scope}
use Rattle.table_descriptors.specs.Descriptors.{Schema, key_kinds}
use Rattle.history_model.specs.Histories.{Table}
use Rattle.history_model.specs.Layers.{LayerRecord}
use Rattle.layer_manifest.specs.declared.manifest.Manifest.{Manifest}
use Rattle.layer_model.specs.declared.names.LayerName.{LayerName}
use Rattle.layer_model.specs.declared.names.Part.TheVariants.{Chunk}
use Rattle.layer_model.specs.Names.{object_name}
use Rattle.outside_world.specs.Disk.{OnlyReads, View}
use Rattle.outside_world.specs.Objects.{Objects, at}
use Rattle.layer_objects.specs.Objects.{by_id, table_kinds}
use Rattle.layer_chains.specs.Chains.{AreMergeable, AreOfScope, IsChainTo, IsShown, ShowsTable, rows_at, stored_put}
use Rattle.layer_chains.specs.Standing.{AreStandingLayers}
use Rattle.layer_chains.proofs.Shown.{chains-shown, kinds-own, shown-table}
use Rattle.stored_chunks.specs.Loads.{chunk_at}
use Rattle.stored_chunks.specs.Places.{Stored, counted_parts}
use Rattle.restore_rows.specs.Checks.{check_parts}
use Rattle.restore_rows.specs.Reading.{IsReadOf, Merges, world_of}
use Rattle.restore_rows.proofs.ChainParts.{parts-merge, parts-stand}
use Rattle.restore_rows.proofs.WholeParts.{whole-checks}

-- what was read later was there before
pub read-before : (table : ℕ) (kinds : List Kind) (parts : List Stored) (old new : View) (reads : OnlyReads old new) (e : Entry) → IsReadOf table kinds parts new e → IsReadOf table kinds parts old e
read-before table kinds parts old new reads e read =
    let layer = read.part.layer in
    let number = read.part.first + read.chunk in
    let given = read.given in record {
      part = read.part;
      among = read.among;
      chunk = read.chunk;
      info = read.info;
      there = read.there;
      bytes = read.bytes;
      given = record {
        entries = given.entries;
        spelled = given.spelled;
        digest = given.digest;
        told = given.told;
        bytes_are = λ tells. ap (λ (o : Objects). at o (object_name layer (Chunk number))) (sym (reads.content tells).objects) ∙ given.bytes_are (reads.kind.tells ∙ tells);
        stored = λ tells. ap (chunk_at layer number table kinds read.info) (sym (reads.content tells).objects) ∙ given.stored (reads.kind.tells ∙ tells);
      };
      holds = read.holds;
    }

module _ (table : ℕ) (kinds : List Kind) (objects : Objects) (layers : List (LayerName × Manifest)) (t : Time) (tables : List Table) (rs : List LayerRecord) (scope : Scope) (d : Schema)
    (stand : AreStandingLayers tables objects rs layers) (of : AreOfScope scope rs) (chain : IsChainTo t rs) (may : AreMergeable tables) (shown : IsShown tables scope t d) (id_is : table ≡ d.id) (kinds_is : kinds ≡ key_kinds d) where
  kinds-are : by_id [] table_kinds tables d.id ≡ key_kinds d
  kinds-are = (let one = shown-table tables scope t d may shown in kinds-own tables scope t d one.0 one.1 one.2 shown)

  shows : ShowsTable tables d.id (key_kinds d) t (rows_at tables t d) rs
  shows = chains-shown tables scope t rs d of chain may shown

  pub shown-merge : Merges (world_of table kinds objects (counted_parts table layers)) (counted_parts table layers) t (map (stored_put d.id (key_kinds d)) (rows_at tables t d))
  shown-merge = subst₂ (λ (i : ℕ) (ks : List Kind). Merges (world_of i ks objects (counted_parts i layers)) (counted_parts i layers) t (map (stored_put d.id (key_kinds d)) (rows_at tables t d))) (sym id_is) (sym kinds_is)
      (parts-merge tables d.id (key_kinds d) objects kinds-are rs layers stand t (rows_at tables t d) shows)

  pub shown-whole : check_parts table kinds objects (counted_parts table layers) ≡ Ok tt
  shown-whole = subst₂ (λ (i : ℕ) (ks : List Kind). check_parts i ks objects (counted_parts i layers) ≡ Ok tt) (sym id_is) (sym kinds_is)
      (whole-checks d.id (key_kinds d) objects (counted_parts d.id layers) (parts-stand tables d.id (key_kinds d) objects kinds-are rs layers stand t (rows_at tables t d) shows))
