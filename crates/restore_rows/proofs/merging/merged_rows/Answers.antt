use Rattle.std.proofs.Common.{ℕ, List, [], subst₂}
use Rattle.std.specs.List.{AllByRecursion}
use Rattle.list_laws.proofs.Members.{all-weaker}
use Rattle.row_codec.specs.declared.rows.Kind.{Kind}
use Rattle.layer_merge.specs.Parts.{IsCountedChunk}
use Rattle.layer_merge.specs.Steps.{IsMergeFault, IsOfHeld}
use Rattle.layer_merge.specs.Walks.{IsToLoad}
use Rattle.layer_merge.proofs.StepLaws.{fault-asked, of-held-then}
use Rattle.restore_rows.proofs.merging.merged_rows.Goals as goal

pub returns-in-Ok-add_rows-clause-given : goal.returns-in-Ok-add_rows-clause-given
returns-in-Ok-add_rows-clause-given g c =
    let from = c.args.chunks.now in
    let to = c.add_rows.new.chunks in
    let m = c.in-Ok.merge.walk in
    subst₂ (λ (t : ℕ) (ks : List Kind). AllByRecursion (IsOfHeld (g.C.Chunks.came from to) t ks (IsCountedChunk c.args.parts.now) []) c.add_rows.new.rows.items) c.in-Ok.ensures.table c.in-Ok.ensures.kinds
    (all-weaker (IsOfHeld (g.C.Chunks.came from to) m.table m.kinds (IsToLoad m) []) (IsOfHeld (g.C.Chunks.came from to) m.table m.kinds (IsCountedChunk c.args.parts.now) [])
    (λ e h. of-held-then g.C.Chunks.kept g.C.Chunks.came (record { same = g.met.C.Chunks.kept_same; chain = g.met.C.Chunks.kept_chain; later = g.met.C.Chunks.came_later; earlier = g.met.C.Chunks.came_earlier }) m.table m.kinds from from to (IsCountedChunk c.args.parts.now) (IsToLoad m) [] [] e c.in-Ok.ensures.asks (g.met.C.Chunks.kept_same from) c.in-Ok-add_rows.ensures.kept (λ s has. absurd has) h)
    c.add_rows.new.rows.items c.in-Ok-add_rows.ensures.given)

pub returns-clause-fault : goal.returns-clause-fault
returns-clause-fault g c =
    let from = c.args.chunks.now in
    let to = c.add_rows.new.chunks in
    let m = c.in-Ok.merge.walk in
    subst₂ (λ (t : ℕ) (ks : List Kind). IsMergeFault (g.C.Chunks.came from to) t ks (IsCountedChunk c.args.parts.now) [] c.in-Err-add_rows.fault) c.in-Ok.ensures.table c.in-Ok.ensures.kinds
    (fault-asked g.C.Chunks.kept g.C.Chunks.came (record { same = g.met.C.Chunks.kept_same; chain = g.met.C.Chunks.kept_chain; later = g.met.C.Chunks.came_later; earlier = g.met.C.Chunks.came_earlier }) m.table m.kinds from to (IsCountedChunk c.args.parts.now) (IsToLoad m) [] c.in-Err-add_rows.fault c.in-Ok.ensures.asks c.in-Err-add_rows.ensures.kept c.in-Err-add_rows.ensures.fault)
