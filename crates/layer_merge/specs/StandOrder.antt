-- The order of stands is an order.
use Rattle.std.proofs.Common.{is_eq}
use Rattle.std.specs.Cmp.{IsTotalOrder, IsEquivalence, eq_by_cmp_equiv}
use Rattle.std.proofs.lemmas.Cmp.{nat_cmp_total, on_total, then_total, back_total, nat_list_cmp_total}
use Rattle.mvcc_keys.specs.Times.{Time}
use Rattle.layer_merge.specs.Stands.{Stand, entry_cmp, stand_cmp, first_of, rank_of, key_in, date_in}

entries_total : IsTotalOrder entry_cmp
entries_total = then_total (on_total rank_of nat_cmp_total) (then_total (on_total key_in nat_list_cmp_total) (back_total (on_total date_in (then_total (on_total (λ (t : Time). t.wall) nat_cmp_total) (on_total (λ (t : Time). t.logical) nat_cmp_total)))))

pub stands_total : IsTotalOrder stand_cmp
stands_total = back_total (on_total (λ (s : Stand). first_of s.left) entries_total)

pub stands_equiv : IsEquivalence (λ (a b : Stand). is_eq (stand_cmp a b))
stands_equiv = eq_by_cmp_equiv stands_total
