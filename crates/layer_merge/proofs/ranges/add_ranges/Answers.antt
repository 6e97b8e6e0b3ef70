-- One entry more of the chunk.
use Rattle.std.proofs.Common.{◌≡◌, false, sym, ap, subst, length, List, is_err, arith}
use Rattle.std.specs.List.{AllByRecursion}
use Rattle.mvcc_keys.specs.declared.entries.Entry.{Entry}
use Rattle.layer_merge.specs.Ranges.{AddsAll, IsUpward}
use Rattle.layer_merge.proofs.RangeLaws.{adds-then}
use Rattle.list_laws.proofs.Results.{on-ok}
use Rattle.layer_merge.proofs.ranges.add_ranges.Goals as goal

pub loop-entry-preserved : goal.loop-entry-preserved
loop-entry-preserved c =
    let e : is_err c.add_range.result ≡ false = cc in
    let same = c.in-Some.ensures.entry in
    record {
      at = c.in-Some.ensures.next.0;
      start = c.loop-entry.invariant.at;
      near = omega (arith, ap length same);
      some = λ n. omega (arith, ap length same);
      upward = (subst (λ (l : List Entry). AllByRecursion IsUpward l) same c.loop-entry.invariant.upward).1;
      adds = λ new a. c.loop-entry.invariant.adds new (subst (λ (l : List Entry). AddsAll l c.loop-entry.ranges new) (sym same) (adds-then _ _ _ _ new (on-ok _ _ e c.add_range.ensures) a));
    }
