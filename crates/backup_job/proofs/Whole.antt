-- A job that is run to its end: each unit goes on from the one before.
use Rattle.std.proofs.Common.{◌≡◌, ◌≢◌, true≢false, Contains, true, false, ◌⊎◌, inl, inr, ⊎_elim, ℕ, zero, suc, ◌<◌, ◌≤◌, eqb, List, [], ◌∷◌, map, drop, length, Some, None, Ok, Err, IfErr, IfOk, refl, sym, ap, subst, ◌∙◌, arith}
use Rattle.std.specs.Prelude.{MatchResult, Option, Result}
use Rattle.std.proofs.lemmas.Bool.{cases_Bool, cases_eq}
use Rattle.std.proofs.lemmas.List.{append-nil}
use Rattle.std.proofs.lemmas.Bool.Decides.{nat_tests}
use Rattle.outside_world.specs.Disk.{View, IsImage, IsSameContent, IsSameKind}
use Rattle.outside_world.specs.Moments.{ChangesOnly, InEachImage, IsSettled, LeavesOnly, NoName}
use Rattle.outside_world.specs.Objects.{Objects, at}
use Rattle.outside_world.proofs.Names.{name_cases}
use Rattle.outside_world.proofs.Runs.{as_read, only_less, only_none, only_then, same_then, still_known, then_call}
use Rattle.version_store.specs.Tables.{Tables}
use Rattle.chunk_file.specs.Chunks.{chunk_bytes}
use Rattle.layer_manifest.specs.declared.manifest.Manifest.{Manifest}
use Rattle.layer_manifest.specs.ManifestFiles.{manifest_code}
use Rattle.layer_model.specs.declared.names.LayerName.{LayerName}
use Rattle.layer_model.specs.declared.names.Part.{Part}
use Rattle.layer_model.specs.declared.names.Part.TheVariants as part
use Rattle.layer_model.specs.Layers.{HasPart, Holds, IsLayer, IsMarked, IsOpen, IsPartName, IsWhole, LayerObjects, name_of_part, wanted}
use Rattle.layer_model.specs.Names.{IsNumbered}
use Rattle.layer_model.specs.Stands.{Setting}
use Rattle.mvcc_keys.specs.declared.entries.Entry.{Entry}
use Rattle.layer_model.proofs.LayerLaws.{name_apart, part_is_numbered}
use Rattle.collection_dir.specs.declared.fault.DirFault.{DirFault}
use Rattle.collection_dir.specs.declared.fault.DirFault.TheVariants.{Failed, Memory, Damaged, Malformed, LayerDiffers}
use Rattle.collection_dir.specs.Faults.{IsDiskFault}
use Rattle.collection_dir.specs.Finishing.{DiffersOnlyOver, IsFinishFault, IsManifestOf}
use Rattle.collection_dir.specs.Footprints.{AtChunk, AtFinish, AtMarked, AtUnmarked}
use Rattle.collection_dir.specs.Safety.{MayBegin, MayFinish}
use Rattle.collection_dir.specs.Standing.{KeepsManifest, StandsInEither}
use Rattle.collection_dir.specs.Versions.{first_version}
use Rattle.collection_dir.proofs.StandsLaws.{keeps-then, stands-throughout}
use Rattle.backup_job.specs.declared.job.Progress.{Progress}
use Rattle.backup_job.specs.declared.job.Progress.TheVariants.{Running, Done}
use Rattle.backup_job.specs.Jobs.{Job, IsAbout, completed, left, written}
use Rattle.backup_job.specs.Units.{AtLayer, Finishes, Steps, UnitWrites, WritesChunk}
use Rattle.backup_job.proofs.Stepping.{next_within}
use Rattle.backup_job.specs.Whole.{IsAmong, IsAsked, IsStarted, IsUnderWay, IsWriting, IsWritten, RunWrites, UnitLeaves}

-- ---- numbers

none-left : {X : Type 0} (n : ℕ) (xs : List X) → drop n xs ≡ [] → length xs ≤ n
none-left n [] e = omega arith
none-left zero (x ∷ xs) e = absurd cc
none-left (suc n) (x ∷ xs) e = let less = none-left n xs e in omega (arith, less)

chunk-other : (i j : ℕ) → j ≢ i → part.Chunk j ≢ part.Chunk i
chunk-other i j ne e = ne cc

mark-other : (i j : ℕ) → j ≢ i → part.Mark j ≢ part.Mark i
mark-other i j ne e = ne cc

-- two options are one, or they differ
option-or : (o q : Option (List ℕ)) → (o ≡ q) ⊎ (o ≢ q)
option-or None None = inl refl
option-or None (Some y) = inr (λ e. cc e)
option-or (Some x) None = inr (λ e. cc e)
option-or (Some x) (Some y) = ⊎_elim (λ e. inl (ap Some e)) (λ ne. inr (λ e. ne cc)) (name_cases x y)

-- what is the same may be said to have changed at any names
only-same : {P R : List ℕ → Type 0} {a b : View} → IsSameKind a b → IsSameContent a b → ChangesOnly P R a b
only-same {a = a} kind same = record {
  kind = kind;
  objects = λ tells n p r. ap (λ (o : Objects). at o n) same.objects;
  touched = λ tells n p r untouched. same.touched n ∙ untouched;
  calls = λ tells. record { more = []; are = same.calls ∙ sym (append-nil a.calls); each = tt };
}

-- what was marked is marked still, so a later change at names that aren't is one at names that weren't
still-marked : (w : LayerObjects) {a b : View} → a.tells ≡ true → ChangesOnly (AtUnmarked w a.objects) NoName a b → (n : List ℕ) → AtMarked w a.objects n → AtMarked w b.objects n
still-marked w tells changes n at = (at.0, at.1, changes.objects tells (name_of_part w (part.Mark at.0)) (λ p. p.1 (at.0, at.1, at.2, inr refl)) (λ no. no) ∙ at.2, at.3)

unmarked-then : (w : LayerObjects) {a b c : View} → a.tells ≡ true → ChangesOnly (AtUnmarked w a.objects) NoName a b → ChangesOnly (AtUnmarked w b.objects) NoName b c → ChangesOnly (AtUnmarked w a.objects) NoName a c
unmarked-then w tells first second = only_then first (only_less (λ n p. (p.0, λ marked. p.1 (still-marked w tells first n marked))) (λ n no. no) second)

-- what a job asks of the layers that objects stand for
pub started-of : (s : Setting) (w : LayerObjects) (pieces : List (List Entry)) → IsAsked s w pieces → IsStarted s w
started-of s w [] asked = asked.started
started-of s w (piece ∷ more) asked = asked

pub asked-of : (s : Setting) (w : LayerObjects) (pieces : List (List Entry)) → IsAmong s w → IsAsked s w pieces
asked-of s w [] among = among
asked-of s w (piece ∷ more) among = among.started

module _ (older : LayerObjects → List ℕ) (s : Setting) (w : LayerObjects) (among : IsStarted s w) where
  few : IsLayer w
  few = among.proper.started.layer w among.among

  numbered : (p : Part) → HasPart w p → IsNumbered p
  numbered p has = part_is_numbered w few p has

  module _ (h : Tables) (job : Job) (now : View) (writing : IsWriting older s w h job now) where
    begin : MayBegin w (older w) w.name now
    begin = record { known = writing.known; name = refl; few = few; safe = λ image is. (writing.stands image is).safe w among.among; gate = writing.gate }

    -- an open layer is marked
    open-marked : (i : ℕ) → i < length w.chunks → IsOpen w now.objects → IsMarked w i now.objects
    open-marked i lt is_open = ⊎_elim (λ whole. whole (part.Mark i) lt) (λ whole. whole (part.Mark i) lt) (((writing.stands now.objects (as_read now)).safe w among.among).open_whole is_open)

    -- ---- a chunk

    module _ (new : View) where
      at-chunk : (i : ℕ) → i < length w.chunks → (n : List ℕ) → AtChunk w.name i n → IsPartName w n
      at-chunk i lt n is = ⊎_elim (λ chunk. (part.Chunk i, lt, chunk)) (λ mark. (part.Mark i, lt, mark)) is

      -- a part that is neither the chunk nor its mark
      apart : (i : ℕ) → i < length w.chunks → (p : Part) → HasPart w p → p ≢ part.Chunk i → p ≢ part.Mark i → ¬ AtChunk w.name i (name_of_part w p)
      apart i lt p has other mark is = ⊎_elim (name_apart w p (part.Chunk i) (numbered p has) (numbered (part.Chunk i) lt) other) (name_apart w p (part.Mark i) (numbered p has) (numbered (part.Mark i) lt) mark) is

      chunk-moments : (r : Result Progress DirFault) → WritesChunk w (written job) r now new → written job < length w.chunks → LeavesOnly now new (StandsInEither older s)
      chunk-moments r writes lt = stands-throughout older s among.proper w among.among (AtChunk w.name (written job)) (at-chunk (written job) lt) (inr (apart (written job) lt part.Gate tt (λ e. cc e) (λ e. cc e))) now new writing.stands
          (writes.layer (older w) begin (writing.ahead (written job) (omega arith) lt))

      some : (piece : List Entry) (more : List (List Entry)) → left h job ≡ piece ∷ more → written job < length w.chunks
      some = next_within writing.about

      job-next : (next : Job) (x : Progress) → Steps h w job next Running → WritesChunk w (written job) (Ok x) now new → ((image : Objects) → IsImage new image → new.left_since now.moment image) → IsWriting older s w h next new
      job-next next x takes writes counts =
          let i = written job in
          let lt = some _ _ takes.takes in
          let tells = writing.known.tells in
          let moment = chunk-moments (Ok x) writes lt in
          let same : (p : Part) → HasPart w p → p ≢ part.Chunk i → p ≢ part.Mark i → at new.objects (name_of_part w p) ≡ at now.objects (name_of_part w p) = λ p has other mark. writes.changes.objects tells (name_of_part w p) (apart i lt p has other mark) (λ no. no) in
          record {
            known = still_known writing.known writes.changes.kind;
            may = takes.may;
            about = takes.about;
            stands = λ image is. moment.each image (counts image is);
            gate = writes.changes.touched tells (name_of_part w part.Gate) (apart i lt part.Gate tt (λ e. cc e) (λ e. cc e)) (λ no. no) writing.gate;
            ahead = λ j le less.
                let counts_one = takes.counts in
                let other : j ≢ i = λ e. omega (arith, le, counts_one, e) in
                writes.changes.touched tells (name_of_part w (part.Mark j)) (apart i lt (part.Mark j) less (λ e. cc e) (mark-other i j other)) (λ no. no) (writing.ahead j (omega (arith, le, counts_one)) less);
            chunks = λ j less. elim (cases_Bool (eqb j i)) [
              | inl is ↦ (let e : j ≡ i = grind (arith, nat_tests) in subst (λ k. Holds w (part.Chunk k) new.objects) (sym e) (writes.stored (older w) begin (writing.ahead i (omega arith) lt) new.objects (as_read new)))
              | inr is ↦ (let other : j ≢ i = grind (arith, nat_tests) in let counts_one = takes.counts in let before : j < i = omega (arith, less, counts_one, other) in
                  same (part.Chunk j) (omega (arith, before, lt)) (chunk-other i j other) (λ e. cc e) ∙ writing.chunks j before)
            ];
            marks = λ j less. elim (cases_Bool (eqb j i)) [
              | inl is ↦ (let e : j ≡ i = grind (arith, nat_tests) in subst (λ k. IsMarked w k new.objects) (sym e) (writes.marked tells))
              | inr is ↦ (let other : j ≢ i = grind (arith, nat_tests) in let counts_one = takes.counts in let before : j < i = omega (arith, less, counts_one, other) in
                  same (part.Mark j) (omega (arith, before, lt)) (λ e. cc e) (mark-other i j other) ∙ writing.marks j before)
            ];
            calm = record {
              marks = λ n touched. ⊎_elim
                  (λ (is : n ≡ name_of_part w (part.Mark i)). (w.name, i, is))
                  (λ (other : n ≢ name_of_part w (part.Mark i)). ⊎_elim
                  (λ (before : now.touched n ≡ true). writing.calm.marks n before)
                  (λ (before : now.touched n ≡ false). absurd (true≢false (sym touched ∙ writes.settled tells n other before)))
                  (cases_Bool (now.touched n)))
                  (name_cases n (name_of_part w (part.Mark i)));
              shut = λ is_open n is_part.
                  let was_open : IsOpen w now.objects = sym (same part.Gate tt (λ e. cc e) (λ e. cc e)) ∙ is_open in
                  (writes.same tells (open-marked i lt was_open)).touched n ∙ writing.calm.shut was_open n is_part;
            };
          }

      -- gate and manifest are none of the chunk's names
      chunk-same : (r : Result Progress DirFault) → WritesChunk w (written job) r now new → written job < length w.chunks → (p : Part) → HasPart w p → p ≢ part.Chunk (written job) → p ≢ part.Mark (written job) → at new.objects (name_of_part w p) ≡ at now.objects (name_of_part w p)
      chunk-same r writes lt p has other mark = writes.changes.objects writing.known.tells (name_of_part w p) (apart (written job) lt p has other mark) (λ no. no)

      -- a chunk that isn't marked is put at its names, which are no others' that are
      chunk-unmarked : (i : ℕ) → i < length w.chunks → ¬ IsMarked w i now.objects → (n : List ℕ) → AtChunk w.name i n → ¬ AtMarked w now.objects n
      chunk-unmarked i lt un n at marked =
          let j = marked.0 in
          ⊎_elim
          (λ (same : j ≡ i). un (subst (λ k. IsMarked w k now.objects) same marked.2))
          (λ (other : j ≢ i). ⊎_elim
          (λ (chunk : n ≡ name_of_part w (part.Chunk j)). apart i lt (part.Chunk j) marked.1 (chunk-other i j other) (λ e. cc e) (subst (AtChunk w.name i) chunk at))
          (λ (mark : n ≡ name_of_part w (part.Mark j)). apart i lt (part.Mark j) marked.1 (λ e. cc e) (mark-other i j other) (subst (AtChunk w.name i) mark at))
          marked.3)
          (cases_eq j i)

      chunk-changes : (r : Result Progress DirFault) → WritesChunk w (written job) r now new → written job < length w.chunks → ChangesOnly (AtUnmarked w now.objects) NoName now new
      chunk-changes r writes lt =
          let i = written job in
          ⊎_elim
          (λ (is : IsMarked w i now.objects). only-same writes.changes.kind (writes.same writing.known.tells is))
          (λ (un : ¬ IsMarked w i now.objects). only_less (λ n at. (at-chunk i lt n at, chunk-unmarked i lt un n at)) (λ n no. no) writes.changes)
          (option-or (at now.objects (name_of_part w (part.Mark i))) (wanted w (part.Mark i)))

      -- ---- the end

      at-finish : (n : List ℕ) → AtFinish w.name n → IsPartName w n
      at-finish n is = ⊎_elim (λ gate. (part.Gate, tt, gate)) (λ manifest. (part.Manifest, tt, manifest)) is

      finish : left h job ≡ [] → MayFinish w (older w) w.name w.manifest now
      finish none =
          let all : length w.chunks ≤ written job = none-left (written job) w.chunks (writing.about.chunks ∙ ap (map chunk_bytes) none) in
          record { may = begin; manifest_is = refl; chunks = λ i lt. writing.chunks i (omega (arith, lt, all)); marks = λ i lt. writing.marks i (omega (arith, lt, all)) }

      -- gate and manifest are no chunk's names
      finish-unmarked : (n : List ℕ) → AtFinish w.name n → ¬ AtMarked w now.objects n
      finish-unmarked n is marked =
          let j = marked.0 in
          ⊎_elim
          (λ (gate : n ≡ name_of_part w part.Gate). apart j marked.1 part.Gate tt (λ e. cc e) (λ e. cc e) (subst (AtChunk w.name j) gate marked.3))
          (λ (manifest : n ≡ name_of_part w part.Manifest). apart j marked.1 part.Manifest tt (λ e. cc e) (λ e. cc e) (subst (AtChunk w.name j) manifest marked.3))
          is

      finish-moments : (r : Result Progress DirFault) → Finishes w (completed h job) r now new → left h job ≡ [] → Contains s.finished w → LeavesOnly now new (StandsInEither older s)
      finish-moments r finishes none finished = stands-throughout older s among.proper w among.among (AtFinish w.name) at-finish (inl finished) now new writing.stands (finishes.layer (older w) (finish none))

      -- the gate is open, or it isn't
      gate-or : IsOpen w now.objects ⊎ (¬ IsOpen w now.objects)
      gate-or = option-or (at now.objects (name_of_part w part.Gate)) (Some (1 ∷ []))

      finish-keeps : (r : Result Progress DirFault) → Finishes w (completed h job) r now new → KeepsManifest w now.objects new.objects
      finish-keeps r finishes is_open =
          let tells = writing.known.tells in
          ⊎_elim
          (λ (was : IsOpen w now.objects). inr (was, ap (λ (o : Objects). at o (name_of_part w part.Manifest)) (finishes.same tells was).objects))
          (λ (shut : ¬ IsOpen w now.objects). inl (finishes.opens tells shut is_open))
          gate-or

      job-done : (x : Progress) → left h job ≡ [] → Finishes w (completed h job) (Ok x) now new → IsWritten older w new
      job-done x none finishes =
          let tells = writing.known.tells in
          record {
            known = still_known writing.known finishes.changes.kind;
            whole = finishes.whole (older w) (finish none);
            is_open = finishes.is_open tells;
            calm = ⊎_elim
                (λ (is_open : IsOpen w now.objects).
                let same = finishes.same tells is_open in
                record {
                  marks = λ n touched. writing.calm.marks n (sym (same.touched n) ∙ touched);
                  shut = λ still n is_part. same.touched n ∙ writing.calm.shut is_open n is_part;
                })
                (λ (shut : ¬ IsOpen w now.objects).
                let settled = finishes.settled tells shut in
                record { marks = λ n touched. absurd (true≢false (sym touched ∙ settled n)); shut = λ still n is_part. settled n })
                gate-or;
          }

      -- ---- whatever a unit answered

      moments : (r : Result Progress DirFault) (pieces : List (List Entry)) → left h job ≡ pieces → IsAsked s w pieces → UnitWrites h job pieces w r now new → LeavesOnly now new (StandsInEither older s)
      moments r [] is asked unit = finish-moments r unit is asked.finished
      moments r (piece ∷ more) is asked unit = chunk-moments r unit (some piece more is)

      unit-changes : (r : Result Progress DirFault) (pieces : List (List Entry)) → left h job ≡ pieces → UnitWrites h job pieces w r now new → ChangesOnly (AtUnmarked w now.objects) NoName now new
      unit-changes r [] is unit = only_less (λ n at. (at-finish n at, finish-unmarked n at)) (λ n no. no) unit.changes
      unit-changes r (piece ∷ more) is unit = chunk-changes r unit (some piece more is)

      unit-keeps : (r : Result Progress DirFault) (pieces : List (List Entry)) → left h job ≡ pieces → UnitWrites h job pieces w r now new → KeepsManifest w now.objects new.objects
      unit-keeps r [] is unit is_open = finish-keeps r unit is_open
      unit-keeps r (piece ∷ more) is unit is_open =
          let lt = some piece more is in
          inr (sym (chunk-same r unit lt part.Gate tt (λ e. cc e) (λ e. cc e)) ∙ is_open, chunk-same r unit lt part.Manifest tt (λ e. cc e) (λ e. cc e))

      -- after a unit that wrote a chunk gate and manifest are as they were
      unit-same : (next : Job) (r : Result Progress DirFault) (pieces : List (List Entry)) → left h job ≡ pieces → UnitWrites h job pieces w r now new → Steps h w job next Running → (p : Part) → HasPart w p → ((i : ℕ) → (p ≢ part.Chunk i) × (p ≢ part.Mark i)) → at new.objects (name_of_part w p) ≡ at now.objects (name_of_part w p)
      unit-same next r [] is unit takes p has none = (let e = sym takes.takes ∙ is in absurd cc)
      unit-same next r (piece ∷ more) is unit takes p has none = chunk-same r unit (some piece more is) p has (none (written job)).0 (none (written job)).1

      fresh-by : (x : Progress) (pieces : List (List Entry)) → left h job ≡ pieces → left h job ≡ [] → UnitWrites h job pieces w (Ok x) now new → ¬ IsOpen w now.objects → InEachImage new (IsWhole w)
      fresh-by x [] is none unit shut = unit.fresh (older w) (finish none) shut
      fresh-by x (piece ∷ more) is none unit shut = (let e = sym is ∙ none in absurd cc)

      settled-by : (x : Progress) (pieces : List (List Entry)) → left h job ≡ pieces → left h job ≡ [] → UnitWrites h job pieces w (Ok x) now new → ¬ IsOpen w now.objects → IsSettled new
      settled-by x [] is none unit shut = unit.settled writing.known.tells shut
      settled-by x (piece ∷ more) is none unit shut = (let e = sym is ∙ none in absurd cc)

      -- where the gate is open, nothing is left to do
      unit-calm : (r : Result Progress DirFault) (pieces : List (List Entry)) → left h job ≡ pieces → UnitWrites h job pieces w r now new → IsOpen w now.objects → IsSameContent now new
      unit-calm r [] is unit is_open = unit.same writing.known.tells is_open
      unit-calm r (piece ∷ more) is unit is_open = unit.same writing.known.tells (open-marked (written job) (some piece more is) is_open)

      -- an open layer has its manifest, in either version
      has-manifest : older w ≡ manifest_code (first_version (completed h job)) → IsOpen w now.objects → IsManifestOf (completed h job) (at now.objects (name_of_part w part.Manifest))
      has-manifest first is_open = ⊎_elim (λ whole. inl (whole part.Manifest tt ∙ ap Some writing.about.manifest)) (λ whole. inr (whole part.Manifest tt ∙ ap Some first))
          (((writing.stands now.objects (as_read now)).safe w among.among).open_whole is_open)

      no-other : older w ≡ manifest_code (first_version (completed h job)) → (r : Result Progress DirFault) → IfErr r (IsFinishFault w.name (completed h job)) → IfErr r (DiffersOnlyOver w.name (completed h job) now.objects) → IfErr r IsDiskFault
      no-other first (Ok x) fault differs = tt
      no-other first (Err Failed) fault differs = tt
      no-other first (Err Memory) fault differs = tt
      no-other first (Err (Damaged object wanted found)) fault differs = absurd fault
      no-other first (Err (Malformed object offset)) fault differs = absurd fault
      no-other first (Err (LayerDiffers object wanted found)) fault differs = absurd (differs.1 (has-manifest first differs.0))

      faults : older w ≡ manifest_code (first_version (completed h job)) → (r : Result Progress DirFault) (pieces : List (List Entry)) → UnitWrites h job pieces w r now new → IfErr r IsDiskFault
      faults first r [] unit = no-other first r unit.fault (unit.differs writing.known.tells)
      faults first r (piece ∷ more) unit = unit.fault

      next-by : (next : Job) (pieces : List (List Entry)) → left h job ≡ pieces → Steps h w job next Running → UnitWrites h job pieces w (Ok Running) now new → ((image : Objects) → IsImage new image → new.left_since now.moment image) → IsWriting older s w h next new
      next-by next [] is takes unit counts = (let e = sym takes.takes ∙ is in absurd cc)
      next-by next (piece ∷ more) is takes unit counts = job-next next Running takes unit counts

      done-by : (pieces : List (List Entry)) → left h job ≡ pieces → left h job ≡ [] → UnitWrites h job pieces w (Ok Done) now new → IsWritten older w new
      done-by [] is none unit = job-done Done none unit
      done-by (piece ∷ more) is none unit = (let e = sym is ∙ none in absurd cc)

  -- ---- a run of units

  module _ (finished : Contains s.finished w) (h : Tables) (began job next : Job) (first now new : View) (way : IsUnderWay older s w h began job first now) where
    asked : IsAsked s w (left h job)
    asked = asked-of s w (left h job) (record { started = among; finished = finished })

    module _ (r : Result Progress DirFault) (steps : IfOk r (Steps h w job next)) (writes : UnitWrites h job (left h job) w r now new) where
      took : (x : Progress) → r ≡ Ok x → Steps h w job next x
      took x is = subst (λ (r : Result Progress DirFault). IfOk r (Steps h w job next)) is steps

      wrote : (x : Result Progress DirFault) → r ≡ x → UnitWrites h job (left h job) w x now new
      wrote x is = subst (λ (r : Result Progress DirFault). UnitWrites h job (left h job) w r now new) is writes

      left-now : LeavesOnly now new (StandsInEither older s)
      left-now = moments h job now way.writing new r (left h job) refl asked writes

      tells-first : first.tells ≡ true
      tells-first = sym way.changes.kind.tells ∙ way.writing.known.tells

      changes-then : ChangesOnly (AtUnmarked w first.objects) NoName first new
      changes-then = unmarked-then w tells-first way.changes (unit-changes h job now way.writing new r (left h job) refl writes)

      keeps-now : KeepsManifest w first.objects new.objects
      keeps-now = keeps-then w first.objects now.objects new.objects (λ is_open. inr (sym way.gate ∙ is_open, way.manifest)) (unit-keeps h job now way.writing new r (left h job) refl writes)

      calm-then : IsOpen w first.objects → IsSameContent first new
      calm-then is_open =
          let before = way.calm is_open in
          same_then before (unit-calm h job now way.writing new r (left h job) refl writes (subst (λ (o : Objects). IsOpen w o) (sym before.objects) is_open))

      left-then : LeavesOnly first new (StandsInEither older s)
      left-then = then_call way.moments left-now (λ image stands. stands)

      pub goes-on : r ≡ Ok Running → (now.moment ≤ new.moment → (image : Objects) → IsImage new image → new.left_since now.moment image) → IsUnderWay older s w h began next first new
      goes-on is counts = record {
        writing = next-by h job now way.writing new next (left h job) refl (took Running is) (wrote (Ok Running) is) (counts left-now.later);
        same = (took Running is).same ∙ way.same;
        moments = left-then;
        changes = changes-then;
        calm = calm-then;
        gate = unit-same h job now way.writing new next r (left h job) refl writes (took Running is) part.Gate tt (λ i. ((λ e. cc e), (λ e. cc e))) ∙ way.gate;
        manifest = unit-same h job now way.writing new next r (left h job) refl writes (took Running is) part.Manifest tt (λ i. ((λ e. cc e), (λ e. cc e))) ∙ way.manifest;
      }

      pub ends : r ≡ Ok Done → RunWrites {T = Unit {0}} older s w (completed h began) (Ok (tt {0})) next first new
      ends is = record {
        moments = left-then;
        changes = changes-then;
        calm = calm-then;
        keeps = keeps-now;
        is_written = done-by h job now way.writing new (left h job) refl (took Done is).none (wrote (Ok Done) is);
        fresh = λ shut. fresh-by h job now way.writing new Done (left h job) refl (took Done is).none (wrote (Ok Done) is) (λ is_open. shut (sym way.gate ∙ is_open));
        settled = λ settled. ⊎_elim
            (λ (is_open : IsOpen w now.objects). λ n. (calm-then (sym way.gate ∙ is_open)).touched n ∙ settled n)
            (λ (shut : ¬ IsOpen w now.objects). settled-by h job now way.writing new Done (left h job) refl (took Done is).none (wrote (Ok Done) is) shut)
            (gate-or h job now way.writing new);
        manifest = (took Done is).whole ∙ way.same;
        fault = λ e. tt;
      }

      pub fails : (e : DirFault) → r ≡ Err e → RunWrites {T = Unit {0}} older s w (completed h began) (Err e) next first new
      fails e is = record {
        moments = left-then;
        changes = changes-then;
        calm = calm-then;
        keeps = keeps-now;
        is_written = tt;
        fresh = λ shut. tt;
        settled = λ settled. tt;
        manifest = tt;
        fault = λ first. faults h job now way.writing new (first ∙ ap (λ (m : Manifest). manifest_code (first_version m)) (sym way.same)) (Err e) (left h job) (wrote (Err e) is);
      }

-- no unit yet
pub begins : (older : LayerObjects → List ℕ) (s : Setting) (w : LayerObjects) (h : Tables) (job : Job) (now : View) → IsWriting older s w h job now → ((image : Objects) → now.left_since now.moment image → IsImage now image) → IsUnderWay older s w h job job now now
begins older s w h job now writing only = record {
  writing = writing;
  same = refl;
  moments = record { later = omega arith; each = λ image left. writing.stands image (only image left); before = λ t image le left. inl left };
  changes = only_none now;
  calm = λ is_open. record { objects = refl; touched = λ n. refl; calls = refl };
  gate = refl;
  manifest = refl;
}

-- ---- one unit

pub unit-leaves : (older : LayerObjects → List ℕ) (s : Setting) (w : LayerObjects) (h : Tables) (job next : Job) (now new : View) (r : Result Progress DirFault) → IsAsked s w (left h job) → IsWriting older s w h job now → IfOk r (Steps h w job next) → UnitWrites h job (left h job) w r now new
    → (now.moment ≤ new.moment → (image : Objects) → IsImage new image → new.left_since now.moment image) → UnitLeaves older s w h r next now new
unit-leaves older s w h job next now new r asked writing steps writes counts =
    let among = started-of s w (left h job) asked in
    let leaves = moments older s w among h job now writing new r (left h job) refl asked writes in
    let took : (x : Progress) → r ≡ Ok x → Steps h w job next x = λ x is. subst (λ (y : Result Progress DirFault). IfOk y (Steps h w job next)) is steps in
    let wrote : (x : Progress) → r ≡ Ok x → UnitWrites h job (left h job) w (Ok x) now new = λ x is. subst (λ (y : Result Progress DirFault). UnitWrites h job (left h job) w y now new) is writes in
    record {
      moments = leaves;
      changes = unit-changes older s w among h job now writing new r (left h job) refl writes;
      running = λ is. next-by older s w among h job now writing new next (left h job) refl (took Running is) (wrote Running is) (counts leaves.later);
      done = λ is. done-by older s w among h job now writing new (left h job) refl (took Done is).none (wrote Done is);
    }

-- ---- a layer that a job is about

abbrev fill : ℕ → List (List ℕ) → List (List ℕ)
fill zero rest = rest
fill (suc n) rest = [] ∷ fill n rest

dropped : (n : ℕ) (rest : List (List ℕ)) → drop n (fill n rest) ≡ rest
dropped zero rest = refl
dropped (suc n) rest = dropped n rest

filled : (n : ℕ) (rest : List (List ℕ)) → n ≤ length (fill n rest)
filled zero rest = omega arith
filled (suc n) rest = let l = filled n rest in omega (arith, l)

abbrev about : Tables → Job → LayerObjects
about h job = record { name = job.name; manifest = manifest_code (completed h job); chunks = fill (written job) (map chunk_bytes (left h job)) }

pub is-about : (h : Tables) (job : Job) → IsAbout h job (about h job)
is-about h job = record {
  name = refl;
  manifest = refl;
  within = filled (written job) (map chunk_bytes (left h job));
  chunks = dropped (written job) (map chunk_bytes (left h job));
}

-- ---- what a unit answered

pub as-ok : {T E : Type 0} (P : T → Type 0) (Q : E → Type 0) (r : Result T E) (x : T) → MatchResult r P Q → r ≡ Ok x → P x
as-ok P Q r x p is = subst (λ (r : Result _ _). MatchResult r P Q) is p

pub changes-on : {R : List ℕ → Type 0} (a b : LayerName) (first old new : View) → a ≡ b → ChangesOnly (AtLayer b) R first old → ChangesOnly (AtLayer a) R old new → ChangesOnly (AtLayer b) R first new
changes-on {R = R} a b first old new is before after = only_then before (subst (λ (n : LayerName). ChangesOnly (AtLayer n) R old new) is after)
