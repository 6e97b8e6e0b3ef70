use Rattle.std.proofs.Common.{map, filter, inl, inr}
use Rattle.mvcc_keys.specs.Times.{zero_time}
use Rattle.layer_model.specs.declared.names.LayerName.{LayerName}
use Rattle.layer_book.specs.Subdirectories.{greatest, is_of, last_full_of}
use Rattle.layer_book.proofs.Carried.{told_there, told_only}
use Rattle.layer_book.proofs.FullTimes.{fold_greatest, fold_reached}
use Rattle.layer_book.proofs.laws.last_full_is_greatest.Goals as goal

pub returns : goal.returns
unfolding last_full_of
returns g c = record {
  reached = λ name collection xs. elim (fold_reached zero_time (map (λ x. (name x).full) (filter (λ x. is_of collection (name x)) xs))) [
    | inl e ↦ inl e
    | inr h ↦ inr (told_only name collection (λ (n : LayerName). n.full) xs (greatest (map (λ x. (name x).full) (filter (λ x. is_of collection (name x)) xs))) h)
  ];
  greatest = λ name collection xs x h e. fold_greatest (name x).full zero_time (map (λ x. (name x).full) (filter (λ x. is_of collection (name x)) xs)) (told_there name collection (λ (n : LayerName). n.full) xs x h e);
}
