-- A run between two reads, and at its end.
use Rattle.std.proofs.Common.{◌≡◌, ◌≢◌, inl, inr, ℕ, Bool, true, false, List, [], ◌++◌, Some, None, refl, sym, ap, subst, ◌∙◌, arith, append_assoc}
use Rattle.std.specs.Prelude.{Option}
use Rattle.std.proofs.lemmas.List.{append-nil}
use Rattle.outside_world.specs.Told.{told_before, before_told, AtEnd}
use Rattle.outside_world.specs.Causes.{Rose}
use Rattle.outside_world.specs.Disk.{View, IsImage, IsKnown}
use Rattle.outside_world.specs.Objects.{Objects}
use Rattle.outside_world.proofs.Runs.{leaves_less, only_none, only_then}
use Rattle.machine_model.specs.Machine.{Machine, World}
use Rattle.machine_model.specs.Disks.{IsReady, StandsUntil}
use Rattle.machine_model.proofs.LongerScripts.{longer-stand}
use Rattle.machine_model.specs.Script.{Outcome, outcome, lines, script_outcome, whole_lines}
use Rattle.backup_run.specs.declared.stops.Stop.{Stop}
use Rattle.backup_run.specs.declared.stops.Stop.TheVariants.{Malformed, WriteFault, DiskFault, Memory}
use Rattle.backup_run.specs.declared.stops.Ending.{Ending}
use Rattle.backup_run.specs.declared.stops.Ending.TheVariants.{AllDone, SomeRefused, IllFormed, ReadFault, Unwritten, DiskFailed, NoMemory}
use Rattle.backup_run.specs.Endings.{AnswersFront, EndsBy, Answers, AnswersAtEnd, IsLast, IsWhole, Leads, RunsScript, ending_of, code_of, CodeCause, ReadCause, WriteCause, StoreCause, StaysLow, Completes}
use Rattle.backup_run.specs.Run.{Here, at_of, at_first, SessionAt, StandsAt, Fed, EndedIn, Running, AtInputEnd, Ran, written_before, outcome_of_rest, outcome_of_lines}
use Rattle.backup_run.proofs.Steps.{begins_written, begins_more, met_at, here, fed_nothing, fed_fed, fed_ended}
use Rattle.backup_run.proofs.Stepping.{leads_then, still}
use Rattle.backup_run.proofs.Telling.{told_twice, told_nothing}

-- ---- what a source tells

told_read : (o : Option (List ℕ)) (a b : List ℕ) → before_told a (before_told b o) ≡ before_told (a ++ b) o
told_read None a b = refl
told_read (Some x) a b = ap Some (sym (append_assoc a b x))

told_no : (o : Option (List ℕ)) → o ≡ before_told [] o
told_no None = refl
told_no (Some x) = refl

-- nothing more is left
only_end : (left : Option (List ℕ)) (more : List ℕ) → AtEnd left → left ≡ Some more → more ≡ []
only_end None more end e = absurd cc
only_end (Some x) more end e = let same : x ≡ more = cc in sym same ∙ end

-- ---- between two reads

pub running_first : (left held : Option (List ℕ)) (v : View) (at : Here) → (IsKnown v → (image : Objects) → v.left_since v.moment image → IsImage v image) → Running left left held held v v at at
running_first left held v at only = record { read = []; source = told_no left; fed = fed_nothing held v at only }

-- a piece was read and fed
pub running_next : (l0 l1 l2 h0 h1 h2 : Option (List ℕ)) (v0 v1 v2 : View) (a b c : Here) (piece : List ℕ)
    → Running l0 l1 h0 h1 v0 v1 a b → l1 ≡ before_told piece l2 → Fed h1 h2 v1 v2 b c piece → Running l0 l2 h0 h2 v0 v2 a c
running_next l0 l1 l2 h0 h1 h2 v0 v1 v2 a b c piece r is t = record {
  read = r.read ++ piece;
  source = r.source ∙ ap (λ o. before_told r.read o) is ∙ told_read l2 r.read piece;
  fed = fed_fed h0 h1 h2 v0 v1 v2 a b c r.read piece r.fed t;
}

-- where the run stands now, from the start, at which nothing was read
now_at : (l0 l1 h0 h1 : Option (List ℕ)) (v0 v1 : View) (a b : Here) (worlds : List World) (began : Objects) (whole : List ℕ → Outcome) (more : List ℕ) → (r : Running l0 l1 h0 h1 v0 v1 a b)
    → SessionAt worlds began a v0 whole [] [] (r.read ++ more) → SessionAt worlds began b v1 whole r.read r.fed.text more
now_at l0 l1 h0 h1 v0 v1 a b worlds began whole more r s = r.fed.stands worlds began whole [] [] more s

-- nothing was read
pub ran_nothing : (left held : Option (List ℕ)) (v : View) (at : Here) → (IsKnown v → (image : Objects) → v.left_since v.moment image → IsImage v image) → Ran left left held held v v at NoMemory
ran_nothing left held v at only = record {
  read = [];
  written = [];
  source = told_no left;
  sink = sym (told_nothing held);
  answers = λ worlds began whole more tells s. ((whole more).text, refl);
  leads = λ worlds began whole more tells s. still s.machine (whole more).machine began v only s.ready.now;
  ready = λ no. absurd no;
  changes = only_none v;
}

-- a read failed
pub ran_unread : (l0 l1 l2 h0 h1 : Option (List ℕ)) (v0 v1 : View) (a b : Here) → Running l0 l1 h0 h1 v0 v1 a b → l2 ≡ l1 → Ran l0 l2 h0 h1 v0 v1 a ReadFault
ran_unread l0 l1 l2 h0 h1 v0 v1 a b r is = record {
  read = r.read;
  written = r.fed.text;
  source = r.source ∙ ap (λ o. before_told r.read o) (sym is);
  sink = r.fed.wrote;
  answers = λ worlds began whole more left s.
      let now = now_at l0 l1 h0 h1 v0 v1 a b worlds began whole more r s in
      (now.at.answers, begins_written r.fed.text (whole (r.read ++ more)) (outcome_of_rest worlds (at_of b now.machine) more) (now.at.goes_on more));
  leads = λ worlds began whole more left s. r.fed.leads worlds began whole [] [] more s;
  ready = λ no. absurd no;
  changes = r.fed.changes;
}

answers_stopped : (stop : Stop) (whole : List ℕ → Outcome) (read text more : List ℕ) → EndsBy stop whole read text more → Answers (ending_of stop) whole read more text
answers_stopped Malformed whole read text more h = h
answers_stopped WriteFault whole read text more h = h
answers_stopped DiskFault whole read text more h = h
answers_stopped Memory whole read text more h = h

-- a piece was read, and the run ended in it
pub ran_stopped : (l0 l1 l2 h0 h1 h2 : Option (List ℕ)) (v0 v1 v2 : View) (a b : Here) (piece : List ℕ) (stop : Stop)
    → Running l0 l1 h0 h1 v0 v1 a b → l1 ≡ before_told piece l2 → EndedIn h1 h2 v1 v2 b piece stop → Ran l0 l2 h0 h2 v0 v2 a (ending_of stop)
ran_stopped l0 l1 l2 h0 h1 h2 v0 v1 v2 a b piece stop r is t =
    let w = fed_ended h0 h1 h2 v0 v1 v2 a b r.read piece stop r.fed t in
    record {
      read = r.read ++ piece;
      written = w.text;
      source = r.source ∙ ap (λ o. before_told r.read o) is ∙ told_read l2 r.read piece;
      sink = w.wrote;
      answers = λ worlds began whole more left s. answers_stopped stop whole (r.read ++ piece) w.text more (w.ends worlds began whole [] [] more s);
      leads = λ worlds began whole more left s. w.leads worlds began whole [] [] more s;
      ready = λ complete worlds began whole more left s. w.ready complete worlds began whole [] [] more s;
      changes = w.changes;
    }

whole_after : (refused : Bool) (front text : List ℕ) (w o : Outcome) → w ≡ written_before front o → IsWhole refused text o → IsWhole refused (front ++ text) w
whole_after refused front text w o is h = record {
  text_is = ap (λ (x : Outcome). x.text) is ∙ ap (λ (t : List ℕ). front ++ t) h.text_is;
  refused_is = ap (λ (x : Outcome). x.refused) is ∙ h.refused_is;
  well_formed = ap (λ (x : Outcome). x.malformed) is ∙ h.well_formed;
}

answers_end : (ending : Ending) (whole : List ℕ → Outcome) (read pending front text : List ℕ) (o : Outcome)
    → read ≡ whole_lines read ++ pending → front ≡ (whole (whole_lines read)).text → whole (read ++ []) ≡ written_before front o → AnswersAtEnd ending pending text o → Answers ending whole read [] (front ++ text)
answers_end AllDone whole read pending front text o split lines is h = (refl, whole_after false front text (whole read) o (ap whole (sym (append-nil read)) ∙ is) h)
answers_end SomeRefused whole read pending front text o split lines is h = (refl, whole_after true front text (whole read) o (ap whole (sym (append-nil read)) ∙ is) h)
answers_end IllFormed whole read pending front text o split lines is h = (ap (λ (x : Outcome). x.text) is ∙ ap (λ (t : List ℕ). front ++ t) h.0, ap (λ (x : Outcome). x.malformed) is ∙ h.1)
answers_end ReadFault whole read pending front text o split lines is h = absurd h
answers_end Unwritten whole read pending front text o split lines is h = begins_more front text (whole (read ++ [])).text o.text h (ap (λ (x : Outcome). x.text) is)
answers_end DiskFailed whole read pending front text o split lines is h = (
  subst (λ (r : List ℕ). AnswersFront whole r [] (front ++ text)) (append-nil read) (met_at whole read pending [] [] (front ++ text) split tt h.1 (ap (λ (t : List ℕ). front ++ t) h.0 ∙ append-nil front ∙ lines)),
  begins_more front text (whole (read ++ [])).text o.text (o.text, ap (λ (t : List ℕ). t ++ o.text) (sym h.0)) (ap (λ (x : Outcome). x.text) is),
)
answers_end NoMemory whole read pending front text o split lines is h = begins_more front text (whole (read ++ [])).text o.text h (ap (λ (x : Outcome). x.text) is)

-- the input was at its end
pub ran_ended : (l0 l1 l2 h0 h1 h2 : Option (List ℕ)) (v0 v1 v2 : View) (a b : Here) (nothing : List ℕ) (ending : Ending)
    → Running l0 l1 h0 h1 v0 v1 a b → l1 ≡ before_told nothing l2 → nothing ≡ [] → AtEnd l2 → AtInputEnd h1 h2 v1 v2 b ending → Ran l0 l2 h0 h2 v0 v2 a ending
ran_ended l0 l1 l2 h0 h1 h2 v0 v1 v2 a b nothing ending r is none end e = record {
  read = r.read;
  written = r.fed.text ++ e.text;
  source = r.source ∙ ap (λ o. before_told r.read o) (is ∙ ap (λ (n : List ℕ). before_told n l2) none ∙ sym (told_no l2));
  sink = e.wrote ∙ ap (λ o. told_before o e.text) r.fed.wrote ∙ told_twice h0 r.fed.text e.text;
  answers = λ worlds began whole more left s.
      let now = last worlds began whole more left s in
      subst (λ (x : List ℕ). Answers ending whole r.read x (r.fed.text ++ e.text)) (sym (only_end l2 more end left))
      (answers_end ending whole r.read b.pending r.fed.text e.text (outcome_of_rest worlds (at_of b now.machine) []) now.split now.at.answers (now.at.goes_on []) (e.answers worlds began now.machine (here worlds began b v1 whole r.read r.fed.text [] now)));
  leads = λ worlds began whole more left s.
      let now = last worlds began whole more left s in
      leads_then (whole (r.read ++ more)).machine began v0 v1 v2 (r.fed.leads worlds began whole [] [] more s)
      (subst (λ (m : Outcome). Leads m.machine began v1 v2) (sym (now.at.goes_on []) ∙ ap (λ (x : List ℕ). whole (r.read ++ x)) (sym (only_end l2 more end left)))
      (e.leads worlds began now.machine (here worlds began b v1 whole r.read r.fed.text [] now)));
  ready = λ complete worlds began whole more left s.
      let now = last worlds began whole more left s in
      subst (λ (m : Outcome). IsReady m.machine m.machine v2) (sym (now.at.goes_on []) ∙ ap (λ (x : List ℕ). whole (r.read ++ x)) (sym (only_end l2 more end left)))
      (e.ready complete worlds began now.machine (here worlds began b v1 whole r.read r.fed.text [] now));
  changes = only_then r.fed.changes e.changes;
}
  where
    last : (worlds : List World) (began : Objects) (whole : List ℕ → Outcome) (more : List ℕ) → l2 ≡ Some more → SessionAt worlds began a v0 whole [] [] (r.read ++ more) → SessionAt worlds began b v1 whole r.read r.fed.text []
    last worlds began whole more left s = subst (λ (x : List ℕ). SessionAt worlds began b v1 whole r.read r.fed.text x) (only_end l2 more end left) (now_at l0 l1 h0 h1 v0 v1 a b worlds began whole more r s)

-- ---- the whole script

start_is_script : (worlds : List World) (bytes : List ℕ) → script_outcome worlds bytes ≡ outcome_of_rest worlds (at_of at_first None) bytes
unfolding outcome_of_rest outcome_of_lines at_first script_outcome
start_is_script worlds bytes = refl

nothing_said : (worlds : List World) → [] ≡ (script_outcome worlds []).text
unfolding script_outcome lines outcome
nothing_said worlds = refl

stands_at : (worlds : List World) → StandsAt (script_outcome worlds) (outcome_of_rest worlds (at_of at_first None)) [] []
stands_at worlds = record { goes_on = λ more. start_is_script worlds more; answers = nothing_said worlds }

-- a run begins where nothing was read and nothing written
stands_first : (worlds : List World) (v : View) (script : List ℕ) → IsReady None (script_outcome worlds script).machine v → SessionAt worlds v.objects at_first v (script_outcome worlds) [] [] script
unfolding at_first
stands_first worlds v script ready = record { machine = None; stands = tt; at = stands_at worlds; split = refl; ready = record { now = ready; ahead = refl } }

told_left : (script read : List ℕ) (left : Option (List ℕ)) → Some script ≡ before_told read left → (rest : List ℕ) × (left ≡ Some rest) × (script ≡ read ++ rest)
told_left script read None e = absurd cc
told_left script read (Some x) e = (x, refl, cc)

pub runs_script : (code : ℕ) (worlds : List World) (script held : List ℕ) (l0 l1 h0 h1 : Option (List ℕ)) (v0 v1 : View) (ending : Ending) → code ≡ code_of ending → l0 ≡ Some script → h0 ≡ Some held
    → IsReady None (script_outcome worlds script).machine v0 → Ran l0 l1 h0 h1 v0 v1 at_first ending → RunsScript worlds l1 h1 v0 v1 script held code
runs_script code worlds script held l0 l1 h0 h1 v0 v1 ending status tells holds ready r =
    let t = told_left script r.read l1 (sym tells ∙ r.source) in
    let s = subst (λ (bs : List ℕ). SessionAt worlds v0.objects at_first v0 (script_outcome worlds) [] [] bs) t.2 (stands_first worlds v0 script ready) in
    let leads = subst (λ (bs : List ℕ). Leads (script_outcome worlds bs).machine v0.objects v0 v1) (sym t.2) (r.leads worlds v0.objects (script_outcome worlds) t.0 t.1 s) in
    record {
      ending = ending;
      read = r.read;
      rest = t.0;
      written = r.written;
      status = status;
      split = t.2;
      left = t.1;
      got = r.sink ∙ ap (λ o. told_before o r.written) holds;
      answers = r.answers worlds v0.objects (script_outcome worlds) t.0 t.1 s;
      leads = leads;
      ready = λ complete. subst (λ (bs : List ℕ). IsReady (script_outcome worlds bs).machine (script_outcome worlds bs).machine v1) (sym t.2) (r.ready complete worlds v0.objects (script_outcome worlds) t.0 t.1 s);
      longer = λ longer m more is goes. leaves_less (λ image stands. longer-stand worlds script longer m more is goes image (subst (λ (o : Option Machine). StandsUntil o image) is stands)) leads.leaves;
    }

-- ---- completeness

-- a count that stands below its end didn't rise
stood : (before now : ℕ) → StaysLow before now → Rose before now → ⊥
stood before now low rose = let same = low.0 in let less = low.1 in omega (arith, same, less, rose)

pub read_cause : (ending : Ending) (code before now : ℕ) → code ≡ code_of ending → ReadCause before now ending → CodeCause 4 before now code
read_cause AllDone code before now is cause = record { fault = λ e. absurd (omega (arith, is, e)); kept = λ _. cause }
read_cause SomeRefused code before now is cause = record { fault = λ e. absurd (omega (arith, is, e)); kept = λ _. cause }
read_cause IllFormed code before now is cause = record { fault = λ e. absurd (omega (arith, is, e)); kept = λ _. cause }
read_cause ReadFault code before now is cause = record { fault = λ _. cause; kept = λ other. absurd (other is) }
read_cause Unwritten code before now is cause = record { fault = λ e. absurd (omega (arith, is, e)); kept = λ _. cause }
read_cause DiskFailed code before now is cause = record { fault = λ e. absurd (omega (arith, is, e)); kept = λ _. cause }
read_cause NoMemory code before now is cause = record { fault = λ e. absurd (omega (arith, is, e)); kept = λ _. cause }

pub write_cause : (ending : Ending) (code before now : ℕ) → code ≡ code_of ending → WriteCause before now ending → CodeCause 5 before now code
write_cause AllDone code before now is cause = record { fault = λ e. absurd (omega (arith, is, e)); kept = λ _. cause }
write_cause SomeRefused code before now is cause = record { fault = λ e. absurd (omega (arith, is, e)); kept = λ _. cause }
write_cause IllFormed code before now is cause = record { fault = λ e. absurd (omega (arith, is, e)); kept = λ _. cause }
write_cause ReadFault code before now is cause = record { fault = λ e. absurd (omega (arith, is, e)); kept = λ _. cause }
write_cause Unwritten code before now is cause = record { fault = λ _. cause; kept = λ other. absurd (other is) }
write_cause DiskFailed code before now is cause = record { fault = λ e. absurd (omega (arith, is, e)); kept = λ _. cause }
write_cause NoMemory code before now is cause = record { fault = λ e. absurd (omega (arith, is, e)); kept = λ _. cause }

pub store_cause : (ending : Ending) (code before now : ℕ) → code ≡ code_of ending → StoreCause before now ending → CodeCause 6 before now code
store_cause AllDone code before now is cause = record { fault = λ e. absurd (omega (arith, is, e)); kept = λ _. cause }
store_cause SomeRefused code before now is cause = record { fault = λ e. absurd (omega (arith, is, e)); kept = λ _. cause }
store_cause IllFormed code before now is cause = record { fault = λ e. absurd (omega (arith, is, e)); kept = λ _. cause }
store_cause ReadFault code before now is cause = record { fault = λ e. absurd (omega (arith, is, e)); kept = λ _. cause }
store_cause Unwritten code before now is cause = record { fault = λ e. absurd (omega (arith, is, e)); kept = λ _. cause }
store_cause DiskFailed code before now is cause = record { fault = λ _. cause; kept = λ other. absurd (other is) }
store_cause NoMemory code before now is cause = record { fault = λ e. absurd (omega (arith, is, e)); kept = λ _. cause }

completes_by : (ending : Ending) (worlds : List World) (script read rest written held : List ℕ) (held_new : Option (List ℕ)) → held_new ≡ Some (held ++ written) → script ≡ read ++ rest
    → (code_of ending ≢ 4) → (code_of ending ≢ 5) → (code_of ending ≢ 6) → Answers ending (script_outcome worlds) read rest written → Completes held held_new (code_of ending) (script_outcome worlds script)
completes_by AllDone worlds script read rest written held held_new got split no4 no5 no6 h =
    let w = subst (λ (bs : List ℕ). IsWhole false written (script_outcome worlds bs)) (sym (split ∙ ap (λ (r : List ℕ). read ++ r) h.0 ∙ append-nil read)) h.1 in
    inl (got ∙ ap (λ (t : List ℕ). Some (held ++ t)) (sym w.text_is), inl (refl, w.refused_is, w.well_formed))
completes_by SomeRefused worlds script read rest written held held_new got split no4 no5 no6 h =
    let w = subst (λ (bs : List ℕ). IsWhole true written (script_outcome worlds bs)) (sym (split ∙ ap (λ (r : List ℕ). read ++ r) h.0 ∙ append-nil read)) h.1 in
    inl (got ∙ ap (λ (t : List ℕ). Some (held ++ t)) (sym w.text_is), inr (inl (refl, w.refused_is, w.well_formed)))
completes_by IllFormed worlds script read rest written held held_new got split no4 no5 no6 h =
    let w = subst (λ (bs : List ℕ). IsLast written (script_outcome worlds bs)) (sym split) h in
    inl (got ∙ ap (λ (t : List ℕ). Some (held ++ t)) (sym w.0), inr (inr (refl, w.1)))
completes_by ReadFault worlds script read rest written held held_new got split no4 no5 no6 h = absurd (no4 refl)
completes_by Unwritten worlds script read rest written held held_new got split no4 no5 no6 h = absurd (no5 refl)
completes_by DiskFailed worlds script read rest written held held_new got split no4 no5 no6 h = absurd (no6 refl)
completes_by NoMemory worlds script read rest written held held_new got split no4 no5 no6 h = inr refl

never : (number before now code ending : ℕ) → code ≡ ending → CodeCause number before now code → StaysLow before now → ending ≢ number
never number before now code ending is cause low e = stood before now low (cause.fault (is ∙ e))

pub completes : (code : ℕ) (worlds : List World) (script held : List ℕ) (l1 h1 : Option (List ℕ)) (v0 v1 : View) (read read_now wrote wrote_now stored stored_now : ℕ)
    → RunsScript worlds l1 h1 v0 v1 script held code → CodeCause 4 read read_now code → CodeCause 5 wrote wrote_now code → CodeCause 6 stored stored_now code
    → StaysLow read read_now → StaysLow wrote wrote_now → StaysLow stored stored_now → Completes held h1 code (script_outcome worlds script)
completes code worlds script held l1 h1 v0 v1 read read_now wrote wrote_now stored stored_now r c4 c5 c6 low4 low5 low6 =
    subst (λ (n : ℕ). Completes held h1 n (script_outcome worlds script)) (sym r.status)
    (completes_by r.ending worlds script r.read r.rest r.written held h1 r.got r.split
    (never 4 read read_now code _ r.status c4 low4) (never 5 wrote wrote_now code _ r.status c5 low5) (never 6 stored stored_now code _ r.status c6 low6) r.answers)
