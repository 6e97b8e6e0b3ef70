use Rattle.std.proofs.Common.{sym, ap, ap₂, ◌∙◌, subst, List, arith, ℕ, ◌<◌, ◌^◌}
use Rattle.std.specs.Ordering.{is_lt}
use Rattle.std.proofs.lemmas.Result.{on_ok_weaker}
use Rattle.row_codec.specs.declared.rows.Kind.{Kind}
use Rattle.row_codec.specs.RowOrder.{row_cmp}
use Rattle.row_codec.specs.RowKeys.{row_key, are_of_kinds, IsKey}
use Rattle.table_rows.proofs.Coded.{range-added}
use Rattle.table_rows.proofs.Passed.{range-passed}
use Rattle.table_rows.proofs.rows.TableRows.delete_range.Goals as goal

pub key_bytes-requires : goal.key_bytes-requires
key_bytes-requires g c = ap (λ (ks : List Kind). are_of_kinds ks c.args.lo.now) (c.deref.ensures.value ∙ c.in_ok-kinds.ensures) ∙ (range-passed c.args.d.now c.args.lo.now c.args.hi.now c.requires).0

pub key_bytes-requires-2 : goal.key_bytes-requires-2
key_bytes-requires-2 g c = ap (λ (ks : List Kind). are_of_kinds ks c.args.hi.now) (c.deref-2.ensures.value ∙ c.in_ok-kinds.ensures) ∙ (range-passed c.args.d.now c.args.lo.now c.args.hi.now c.requires).1

pub returns-clause-added : goal.returns-clause-added
returns-clause-added g c = rw (← c.self.view_is) (on_ok_weaker c.delete_range.result (λ takes T has kinds may.
    let d = c.args.d.now in
    let passed = range-passed d c.args.lo.now c.args.hi.now c.requires in
    let small : d.id < 2 ^ 32 = omega (arith, c.id.type_inv, c.id.ensures) in
    let lo : IsKey (T.kinds d.id) c.args.lo.now = subst (λ (ks : List Kind). IsKey ks c.args.lo.now) (sym kinds) (passed.0, c.prove_values_fit.ensures) in
    let hi : IsKey (T.kinds d.id) c.args.hi.now = subst (λ (ks : List Kind). IsKey ks c.args.hi.now) (sym kinds) (passed.1, c.prove_values_fit-2.ensures) in
    range-added _ _ T d.id c.args.lo.now c.args.hi.now c.args.at _ _ has small
    (c.deref-3.ensures.value ∙ (c.in_ok-from.ensures ∙ ap₂ (λ (i : ℕ) (ks : List Kind). row_key i ks c.args.lo.now) c.id.ensures (c.deref.ensures.value ∙ (c.in_ok-kinds.ensures ∙ sym kinds)))) lo
    (c.deref-4.ensures.value ∙ (c.in_ok-to.ensures ∙ ap₂ (λ (i : ℕ) (ks : List Kind). row_key i ks c.args.hi.now) c.id-2.ensures (c.deref-2.ensures.value ∙ (c.in_ok-kinds.ensures ∙ sym kinds)))) hi
    (ap (λ (ks : List Kind). is_lt (row_cmp ks c.args.lo.now c.args.hi.now)) kinds ∙ passed.2) may takes) c.delete_range.ensures.added)
