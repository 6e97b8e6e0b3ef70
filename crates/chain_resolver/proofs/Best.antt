-- There is at most one best way, and at most one reason why there is none.
use Rattle.std.proofs.Common.{◌≡◌, ℕ, true, sym, refl, ap, ◌∙◌, subst, inl, inr, List, length, Ordering, Less, Equal, Greater, true≢false}
use Rattle.std.specs.Ordering.{nat_cmp, is_le, ordering_reverse}
use Rattle.std.specs.Cmp.{IsTotalOrder}
use Rattle.std.specs.Cmp.Lexicographic.{slice_cmp}
use Rattle.std.proofs.lemmas.Cmp.{nat_cmp_total, on_total, then_total, back_total, lists_total, nat_list_cmp_total}
use Rattle.std.proofs.lemmas.Map.Lookups.{exact_bytes}
use Rattle.chain_resolver.specs.declared.layer.Layer.{Layer}
use Rattle.mvcc_keys.specs.Times.{Time, time_le}
use Rattle.mvcc_keys.specs.Codes.{time_cmp}
use Rattle.chain_resolver.specs.Ways.{Route, IsBestWay, way_cmp, ends}
use Rattle.chain_resolver.specs.Cover.{IsReached, IsReason, reason}
use Rattle.chain_resolver.specs.declared.faults.CoverFault.{CoverFault}
use Rattle.list_laws.proofs.Orderings.{then-Equal}
use Rattle.mvcc_keys.proofs.TimeOrder as times

way_total : (ls : List Layer) → IsTotalOrder (way_cmp ls)
way_total ls = then_total (on_total length nat_cmp_total) (then_total (back_total (on_total (ends ls) (lists_total times.time_total))) nat_list_cmp_total)

both : (o o' : Ordering) → is_le o ≡ true → is_le o' ≡ true → o ≡ ordering_reverse o' → o ≡ Equal
both Less Less p q e = cc
both Less Equal p q e = e
both Less Greater p q e = absurd (true≢false (sym q))
both Equal o' p q e = refl
both Greater o' p q e = absurd (true≢false (sym p))

pub unique : (r : Route) (ls : List Layer) (ps qs : List ℕ) → IsBestWay r ls ps → IsBestWay r ls qs → ps ≡ qs
unique r ls ps qs hp hq =
    let e : way_cmp ls ps qs ≡ Equal = both (way_cmp ls ps qs) (way_cmp ls qs ps) (hp.best qs hq.way) (hq.best ps hp.way) ((way_total ls).antisymm ps qs) in
    let last : slice_cmp nat_cmp ps qs ≡ Equal = (then-Equal (slice_cmp time_cmp (ends ls qs) (ends ls ps)) _ (then-Equal (nat_cmp (length ps) (length qs)) _ e).1).1 in
    exact_bytes ps qs last

reached-le : (ls : List Layer) (t x y : Time) → IsReached ls t x → IsReached ls t y → time_le x y ≡ true
reached-le ls t x y h k = elim h.is [ inl e ↦ subst (λ (z : Time). time_le z y ≡ true) (sym e) (times.zero-le y) | inr a ↦ k.greatest x a.1 a.0 a.2 ]

pub reason-unique : (ls : List Layer) (t : Time) (f g : CoverFault) → IsReason ls t f → IsReason ls t g → f ≡ g
reason-unique ls t f g h k = h.first ∙ ap (reason ls t) (times.le-antisymm h.reached k.reached (reached-le ls t h.reached k.reached h.reach k.reach) (reached-le ls t k.reached h.reached k.reach h.reach)) ∙ sym k.first
