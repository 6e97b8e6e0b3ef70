-- Layers as they are recorded: without content.
use Rattle.std.specs.Prelude.{ℕ, Bool, List}
use Rattle.mvcc_keys.specs.Times.{Time}
use Rattle.table_descriptors.specs.declared.scopes.Scope.{Scope}

-- a layer of a collection: whose it is, which full backup it belongs to, what it covers, and in which
-- version of the manifest it is written
pub record LayerRecord : Type 0 where
  pub collection : List ℕ
  pub cluster : List ℕ
  pub full : Time
  pub start : Time
  pub end : Time
  pub job : ℕ
  pub floor : Time
  pub history : Bool
  pub scope : Scope
  pub version : ℕ
