-- A book of layers: what a cluster keeps of the layers that its jobs finished.
use Rattle.std.specs.Prelude.{ℕ, Bool, not, ◌&&◌, ◌==◌, List, [], ◌∷◌, ◌++◌, filter}
use Rattle.layer_manifest.specs.declared.manifest.Manifest.{Manifest}
use Rattle.layer_model.specs.declared.names.LayerName.{LayerName}
use Rattle.mvcc_keys.specs.Times.{time_eq}
use Rattle.layer_book.specs.Subdirectories.{is_in}

-- the cluster that keeps the book, and its own layers in the order in which they were added
pub record Book : Type 0 where
  pub cluster : List ℕ
  pub layers : List (LayerName × Manifest)

-- the name in an entry
abbrev pub name_in : LayerName × Manifest → LayerName
name_in p = p.0

-- a book without layers
abbrev pub no_layers : List ℕ → Book
no_layers cluster = record { cluster = cluster; layers = [] }

-- the book with one layer more, as the last
abbrev pub with_layer : Book → LayerName → Manifest → Book
with_layer b n m = record { cluster = b.cluster; layers = b.layers ++ (n, m) ∷ [] }

-- two layers have one name
abbrev pub same_name : LayerName → LayerName → Bool
same_name m n = is_in n.collection n.cluster n.full m && (time_eq m.start n.start && (time_eq m.end n.end && m.job == n.job))

-- the book without each layer of that name
abbrev pub without_layer : Book → LayerName → Book
without_layer b n = record { cluster = b.cluster; layers = filter (λ p. not (same_name p.0 n)) b.layers }
