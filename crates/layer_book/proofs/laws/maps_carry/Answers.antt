use Rattle.layer_book.proofs.Carried.{first_map, last_end_map, last_full_map, layers_map, subdirectories_map}
use Rattle.layer_book.proofs.laws.maps_carry.Goals as goal

pub returns : goal.returns
returns g c = record {
  layers = λ f name collection cluster full xs. layers_map f name collection cluster full xs;
  subdirectories = λ f name collection xs. subdirectories_map f name collection xs;
  last_full = λ f name collection xs. last_full_map f name collection xs;
  last_end = λ f name collection cluster full xs. last_end_map f name collection cluster full xs;
  first = λ f name collection cluster full xs. first_map f name collection cluster full xs;
}
