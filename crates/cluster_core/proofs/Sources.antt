-- The subdirectories and the layers of a machine, by the book of its cluster.
use Rattle.std.proofs.Common.{◌≡◌, inl, inr, ℕ, Bool, true, false, List, [], ◌∷◌, ◌++◌, map, filter, option_map, not, refl, sym, ap, ◌∙◌}
use Rattle.std.specs.List.{find}
use Rattle.std.proofs.lemmas.List.{append-nil}
use Rattle.std.proofs.lemmas.Bool.{cases_Bool}
use Rattle.mvcc_keys.specs.Times.{Time}
use Rattle.history_model.specs.Histories.{Table}
use Rattle.history_model.specs.Layers.{LayerRecord}
use Rattle.layer_manifest.specs.declared.manifest.Manifest.{Manifest}
use Rattle.layer_model.specs.declared.names.LayerName.{LayerName}
use Rattle.layer_book.specs.Books.{name_in, same_name}
use Rattle.layer_book.specs.Subdirectories.{layers_of, subdirectories_of}
use Rattle.layer_book.proofs.Carried.{layers_map, subdirectories_map}
use Rattle.layer_objects.specs.Objects.{name_of_record}
use Rattle.machine_model.specs.Backups.{is_between_times, layers_in, own_subdirectories}
use Rattle.cluster_core.specs.ClusterView.{ClusterState, record_of}
use Rattle.cluster_core.specs.Standing.{machine_of}

pub subdirectories-are : (c : ClusterState) (tables : List Table) (collection : List ℕ) → own_subdirectories (machine_of c tables) collection ≡ subdirectories_of name_in collection (c.book.layers ++ [])
subdirectories-are c tables collection = subdirectories_map record_of name_of_record collection c.book.layers ∙ ap (subdirectories_of name_in collection) (sym (append-nil c.book.layers))

pub subdirectories-in : (c : ClusterState) (tables : List Table) (collection : List ℕ) → own_subdirectories (machine_of c tables) collection ≡ subdirectories_of name_in collection c.book.layers
subdirectories-in c tables collection = subdirectories_map record_of name_of_record collection c.book.layers

pub layers-are : (c : ClusterState) (tables : List Table) (collection : List ℕ) (s : List ℕ × Time) → layers_in (machine_of c tables) collection s ≡ map record_of (layers_of name_in collection s.0 s.1 c.book.layers)
layers-are c tables collection s = layers_map record_of name_of_record collection s.0 s.1 c.book.layers

pub find-map : {X Y : Type 0} (f : X → Y) (p : Y → Bool) (xs : List X) → find p (map f xs) ≡ option_map f (find (λ x. p (f x)) xs)
find-map f p [] = refl
find-map f p (x ∷ xs) = elim (cases_Bool (p (f x))) [ inl t ↦ rw t refl | inr e ↦ rw e (find-map f p xs) ]

pub between-is : (start end : Time) (ls : List (LayerName × Manifest)) → find (is_between_times start end) (map record_of ls) ≡ option_map record_of (find (λ p. is_between_times start end (record_of p)) ls)
between-is start end ls = find-map record_of (is_between_times start end) ls

-- the layers of other names
pub others-map : (n : LayerName) (r : LayerRecord) → n ≡ name_of_record r → (ls : List (LayerName × Manifest)) → map record_of (filter (λ p. not (same_name p.0 n)) ls) ≡ filter (λ x. not (same_name (name_of_record x) (name_of_record r))) (map record_of ls)
others-map n r is [] = refl
others-map n r is (p ∷ ps) = by (same_name p.0 n) refl (others-map n r is ps)
  where
    by : (b : Bool) → same_name p.0 n ≡ b → map record_of (filter (λ q. not (same_name q.0 n)) ps) ≡ filter (λ x. not (same_name (name_of_record x) (name_of_record r))) (map record_of ps)
        → map record_of (filter (λ q. not (same_name q.0 n)) (p ∷ ps)) ≡ filter (λ x. not (same_name (name_of_record x) (name_of_record r))) (map record_of (p ∷ ps))
    by true e more = let f : same_name p.0 (name_of_record r) ≡ true = ap (same_name p.0) (sym is) ∙ e in rw (e, f) more
    by false e more = let f : same_name p.0 (name_of_record r) ≡ false = ap (same_name p.0) (sym is) ∙ e in rw (e, f) (ap (λ xs. record_of p ∷ xs) more)
