use Rattle.outside_world.proofs.Runs.{only_read, only_then}
use Rattle.collection_dir.proofs.AfterRead.{read_kept, read_then}
use Rattle.collection_dir.proofs.WriteChunk.{may_write_still, not_vouching, stored_already, vouching}
use Rattle.collection_dir.proofs.chunks.write_chunk.Goals as goal

pub returns-in_err-found-clause-layer : goal.returns-in_err-found-clause-layer
returns-in_err-found-clause-layer g c w older may = read_kept may.may c.get_part.ensures.reads (g.met.D.Disk.only_now c.args.disk.now)

pub returns-then-is_found-clause-layer : goal.returns-then-is_found-clause-layer
returns-then-is_found-clause-layer g c w older may = read_kept may.may c.get_part.ensures.reads (g.met.D.Disk.only_now c.args.disk.now)

pub returns-in_err-store_chunk-clause-layer : goal.returns-in_err-store_chunk-clause-layer
returns-in_err-store_chunk-clause-layer g c w older may =
    let tells = may.may.known.tells in
    let ne = not_vouching _ _ _ c.is_found.ensures c.if-is_found.false (c.in_ok-found.ensures.bytes tells) c.digest-digest.ensures (c.get_part.ensures.reads.content tells).objects in
    read_then may.may c.get_part.ensures.reads (g.met.D.Disk.only_now c.args.disk.now) (c.store_chunk.ensures.layer w older (may_write_still w older _ _ _ _ may c.get_part.ensures.reads) ne)

pub returns-clause-layer : goal.returns-clause-layer
returns-clause-layer g c w older may =
    let tells = may.may.known.tells in
    let ne = not_vouching _ _ _ c.is_found.ensures c.if-is_found.false (c.in_ok-found.ensures.bytes tells) c.digest-digest.ensures (c.get_part.ensures.reads.content tells).objects in
    read_then may.may c.get_part.ensures.reads (g.met.D.Disk.only_now c.args.disk.now) (c.store_chunk.ensures.layer w older (may_write_still w older _ _ _ _ may c.get_part.ensures.reads) ne)

pub returns-then-is_found-clause-stored : goal.returns-then-is_found-clause-stored
returns-then-is_found-clause-stored g c w older may =
    stored_already w older _ _ _ _ may c.get_part.ensures.reads (vouching _ _ c.is_found.ensures c.if-is_found.true (c.in_ok-found.ensures.bytes may.may.known.tells) c.digest-digest.ensures)

pub returns-clause-stored : goal.returns-clause-stored
returns-clause-stored g c w older may =
    let tells = may.may.known.tells in
    let ne = not_vouching _ _ _ c.is_found.ensures c.if-is_found.false (c.in_ok-found.ensures.bytes tells) c.digest-digest.ensures (c.get_part.ensures.reads.content tells).objects in
    c.in_ok-store_chunk.ensures.stored w older (may_write_still w older _ _ _ _ may c.get_part.ensures.reads) ne

pub returns-in_err-found-clause-changes : goal.returns-in_err-found-clause-changes
returns-in_err-found-clause-changes g c = only_read c.get_part.ensures.reads

pub returns-then-is_found-clause-changes : goal.returns-then-is_found-clause-changes
returns-then-is_found-clause-changes g c = only_read c.get_part.ensures.reads

pub returns-in_err-store_chunk-clause-changes : goal.returns-in_err-store_chunk-clause-changes
returns-in_err-store_chunk-clause-changes g c = only_then (only_read c.get_part.ensures.reads) c.store_chunk.ensures.changes

pub returns-clause-changes : goal.returns-clause-changes
returns-clause-changes g c = only_then (only_read c.get_part.ensures.reads) c.store_chunk.ensures.changes
