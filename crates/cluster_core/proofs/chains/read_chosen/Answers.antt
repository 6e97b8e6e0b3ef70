use Rattle.std.proofs.Common.{◌∙◌, subst₂, ℕ, List}
use Rattle.std.specs.List.{AllByRecursion}
use Rattle.std.specs.Prelude.{IfOk, ◌≡◌, true}
use Rattle.mvcc_keys.specs.declared.entries.Entry.{Entry}
use Rattle.row_codec.specs.declared.rows.Kind.{Kind}
use Rattle.chunk_file.specs.Entries.{IsStored, is_entry}
use Rattle.cluster_core.proofs.chains.read_chosen.Goals as goal

pub read_rows-requires : goal.read_rows-requires
read_rows-requires g c = rw c.deref.ensures.value c.requires

pub returns-clause-rows : goal.returns-clause-rows
returns-clause-rows g c tables scope rs tells s shown = (rw c.deref.ensures.value at c.read_rows.ensures.rows) tables rs scope c.args.d.now tells s.stored s.scopes s.chain s.mergeable shown c.id.ensures (c.deref-2.ensures.value ∙ c.in_ok-kinds.ensures)

pub returns-clause-typed : goal.returns-clause-typed
returns-clause-typed g c = subst₂ (λ (n : ℕ) (ks : List Kind). IfOk c.read_rows.result (λ v. AllByRecursion (λ (e : Entry). (is_entry n ks e ≡ true) × IsStored e) v.items)) c.id.ensures (c.deref-2.ensures.value ∙ c.in_ok-kinds.ensures) c.read_rows.ensures.typed
