-- Loads one after another. The implementation cites this.
use Rattle.std.proofs.Common.{◌≡◌, ℕ, Bool, true, false, true≢false, refl, sym, ap, subst, ◌∙◌, inl, arith, List, Result, Ok, Err}
use Rattle.row_codec.specs.declared.rows.Kind.{Kind}
use Rattle.outside_world.specs.Causes.{Rose}
use Rattle.outside_world.specs.Disk.{OnlyReads, View}
use Rattle.outside_world.specs.Objects.{Objects, at}
use Rattle.outside_world.proofs.Runs.{reads_then}
use Rattle.layer_manifest.specs.declared.manifest.ChunkInfo.{ChunkInfo}
use Rattle.layer_model.specs.declared.names.LayerName.{LayerName}
use Rattle.layer_model.specs.declared.names.Part.TheVariants.{Chunk}
use Rattle.layer_model.specs.Names.{object_name}
use Rattle.collection_dir.specs.declared.fault.DirFault.{DirFault}
use Rattle.stored_chunks.specs.Places.{Stored, number_of, part_at}
use Rattle.stored_chunks.specs.Loads.{Answers, Came, FaultIs, IsKept, chunk_at}

pub kept-same : (v : View) (failed : Bool) → IsKept v v failed failed
kept-same v failed = record {
  reads = record {
    kind = record { tells = refl; honest = refl };
    time = record { later = omega arith; keeps = λ t image le left. left; adds = λ known t image le left. inl left };
    content = λ tells. record { objects = refl; touched = λ n. refl; calls = refl };
  };
  later = omega arith;
  capped = λ le. le;
  stays = λ e. e;
  same = λ e. refl;
  rose = λ low up. absurd (true≢false (sym up ∙ low));
}

pub kept-chain : (a b c : View) (f g h : Bool) → IsKept a b f g → IsKept b c g h → IsKept a c f h
kept-chain a b c f g h p q = record {
  reads = reads_then p.reads q.reads;
  later = (let x = p.later in let y = q.later in omega (arith, x, y));
  capped = λ le. q.capped (p.capped le);
  stays = λ e. q.stays (p.stays e);
  same = λ e. same g refl e;
  rose = λ low up. rose g refl low up;
}
  where
    same : (x : Bool) → g ≡ x → h ≡ false → c.faults ≡ a.faults
    same true is low = absurd (true≢false (sym (q.stays is) ∙ low))
    same false is low = q.same low ∙ p.same is

    rose : (x : Bool) → g ≡ x → f ≡ false → h ≡ true → Rose a.faults c.faults
    rose true is low up = (let one = p.rose low is in let two = q.later in omega (arith, one, two))
    rose false is low up = subst (λ (n : ℕ). Rose n c.faults) (p.same is) (q.rose is up)

module _ (layer : LayerName) (number table : ℕ) (kinds : List Kind) (info : ChunkInfo) (old new : View) (reads : OnlyReads old new) where
  answers-before : (failed : Bool) (r : Result (List ℕ) DirFault) → Answers layer number table kinds info new failed r → Answers layer number table kinds info old failed r
  answers-before failed (Ok bytes) given = record {
    entries = given.entries;
    spelled = given.spelled;
    digest = given.digest;
    told = given.told;
    bytes_are = λ tells. ap (λ (o : Objects). at o (object_name layer (Chunk number))) (sym (reads.content tells).objects) ∙ given.bytes_are (reads.kind.tells ∙ tells);
    stored = λ tells. ap (λ (o : Objects). chunk_at layer number table kinds info o) (sym (reads.content tells).objects) ∙ given.stored (reads.kind.tells ∙ tells);
  }
  answers-before failed (Err fault) refused = record {
    of_chunk = refused.of_chunk;
    stored = λ tells. subst (λ (o : Objects). FaultIs fault (chunk_at layer number table kinds info o)) (reads.content tells).objects (refused.stored (reads.kind.tells ∙ tells));
    failed_is = refused.failed_is;
  }

came-before : (p : Stored) (chunk table : ℕ) (kinds : List Kind) (old new : View) (failed : Bool) (r : Result (List ℕ) DirFault) → OnlyReads old new → Came p chunk table kinds new failed r → Came p chunk table kinds old failed r
came-before p chunk table kinds old new failed r reads came = record {
  info = came.info;
  there = came.there;
  answers = answers-before p.layer (number_of p chunk) table kinds came.info old new reads failed r came.answers;
}

pub came-after : (p : Stored) (chunk table : ℕ) (kinds : List Kind) (disk : View) (failed_old failed_new : Bool) (r : Result (List ℕ) DirFault) → (failed_old ≡ true → failed_new ≡ true) → Came p chunk table kinds disk failed_old r → Came p chunk table kinds disk failed_new r
came-after p chunk table kinds disk failed_old failed_new r stays came = record {
  info = came.info;
  there = came.there;
  answers = after r came.answers;
}
  where
    after : (x : Result (List ℕ) DirFault) → Answers p.layer (number_of p chunk) table kinds came.info disk failed_old x → Answers p.layer (number_of p chunk) table kinds came.info disk failed_new x
    after (Ok bytes) given = given
    after (Err fault) refused = record { of_chunk = refused.of_chunk; stored = refused.stored; failed_is = λ e. stays (refused.failed_is e) }

pub came-later : (parts parts' : List Stored) (other other' : Stored) (kinds kinds' : List Kind) (layer chunk table : ℕ) (old new : View) (failed : Bool) (r : Result (List ℕ) DirFault) → parts' ≡ parts → other' ≡ other → kinds' ≡ kinds → OnlyReads old new
    → Came (part_at parts' other' layer) chunk table kinds' new failed r → Came (part_at parts other layer) chunk table kinds old failed r
came-later parts parts' other other' kinds kinds' layer chunk table old new failed r e f g reads h = came-before (part_at parts other layer) chunk table kinds old new failed r reads (subst (λ (ks : List Kind). Came (part_at parts other layer) chunk table ks new failed r) g (subst (λ (q : Stored). Came (part_at parts q layer) chunk table kinds' new failed r) f (subst (λ (ps : List Stored). Came (part_at ps other' layer) chunk table kinds' new failed r) e h)))
