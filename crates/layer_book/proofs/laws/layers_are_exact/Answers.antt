use Rattle.std.proofs.Common.{filter}
use Rattle.layer_book.specs.Subdirectories.{is_in, layers_of}
use Rattle.layer_book.proofs.LayerOrder.{ordered_sorted, ordered_permuted, ordered_stable}
use Rattle.layer_book.proofs.laws.layers_are_exact.Goals as goal

pub returns : goal.returns
unfolding layers_of
returns g c = record {
  sorted = λ name collection cluster full xs. ordered_sorted name (filter (λ x. is_in collection cluster full (name x)) xs);
  same = λ name collection cluster full xs. ordered_permuted name (filter (λ x. is_in collection cluster full (name x)) xs);
  stable = λ name collection cluster full xs. ordered_stable name (filter (λ x. is_in collection cluster full (name x)) xs);
}
