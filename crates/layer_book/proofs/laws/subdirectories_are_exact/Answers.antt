use Rattle.std.proofs.Common.{map, filter}
use Rattle.fact_model.proofs.Orders as orders
use Rattle.layer_book.specs.Subdirectories.{is_of, subdirectories_of, subdirectory, subdirectory_cmp}
use Rattle.layer_book.proofs.Carried.{told_there, told_only}
use Rattle.layer_book.proofs.FullTimes.{subdirectory_order}
use Rattle.layer_book.proofs.laws.subdirectories_are_exact.Goals as goal

pub returns : goal.returns
unfolding subdirectories_of
returns g c = record {
  ascending = λ name collection xs. orders.ascending-ordered subdirectory_cmp subdirectory_order.total (map (λ x. subdirectory (name x)) (filter (λ x. is_of collection (name x)) xs));
  there = λ name collection xs x h e. orders.has-ordered subdirectory_cmp subdirectory_order (subdirectory (name x)) (map (λ x. subdirectory (name x)) (filter (λ x. is_of collection (name x)) xs)) (told_there name collection subdirectory xs x h e);
  only = λ name collection xs s h. told_only name collection subdirectory xs s (orders.ordered-has subdirectory_cmp s (map (λ x. subdirectory (name x)) (filter (λ x. is_of collection (name x)) xs)) h);
}
