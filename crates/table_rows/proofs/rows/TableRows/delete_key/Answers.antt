use Rattle.std.proofs.Common.{sym, ap, ap₂, ◌∙◌, subst, List, arith, ℕ, ◌<◌, ◌^◌}
use Rattle.std.proofs.lemmas.Result.{on_ok_weaker}
use Rattle.row_codec.specs.declared.rows.Kind.{Kind}
use Rattle.row_codec.specs.RowKeys.{row_key, are_of_kinds, IsKey}
use Rattle.table_rows.proofs.Coded.{deletion-added}
use Rattle.table_rows.proofs.rows.TableRows.delete_key.Goals as goal

pub key_bytes-requires : goal.key_bytes-requires
key_bytes-requires g c = ap (λ (ks : List Kind). are_of_kinds ks c.args.key.now) c.requires.kinds ∙ c.requires.fits

pub returns-clause-added : goal.returns-clause-added
returns-clause-added g c = rw (← c.self.view_is) (on_ok_weaker c.delete.result (λ takes T has kinds may.
    let d = c.args.d.now in
    let small : d.id < 2 ^ 32 = omega (arith, c.id.type_inv, c.id.ensures) in
    let is : IsKey (T.kinds d.id) c.args.key.now = subst (λ (ks : List Kind). IsKey ks c.args.key.now) (sym kinds) (c.requires.fits, c.prove_values_fit.ensures) in
    deletion-added _ _ T d.id c.args.key.now c.args.at _ has small
    (c.deref.ensures.value ∙ (c.in_ok-bytes.ensures ∙ ap₂ (λ (i : ℕ) (ks : List Kind). row_key i ks c.args.key.now) c.id.ensures (c.requires.kinds ∙ sym kinds)))
    is (may is) takes) c.delete.ensures.added)
