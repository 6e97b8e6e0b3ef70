-- One byte and one piece: what is written for them, where the run stands then, and what the disk may be left as.
use Rattle.std.proofs.Common.{◌≡◌, ◌≢◌, inl, inr, ℕ, ◌+◌, ◌<◌, Bool, true, false, ◌||◌, ◌==◌, List, [], ◌∷◌, ◌++◌, length, take, drop, get_or, refl, sym, ap, subst, ◌∙◌, arith, append_assoc}
use Rattle.std.specs.Prelude.{Option}
use Rattle.std.specs.List.{list_any}
use Rattle.std.proofs.lemmas.Bool.{cases_Bool}
use Rattle.std.proofs.lemmas.Bool.Decides.{nat_tests}
use Rattle.std.proofs.lemmas.List.{append-nil, take_more, take-append-drop}
use Rattle.outside_world.specs.Told.{told_before}
use Rattle.outside_world.specs.Disk.{View, IsImage, IsKnown}
use Rattle.outside_world.specs.declared.disk.DiskFault.{DiskFault as Outage}
use Rattle.outside_world.specs.declared.disk.DiskFault.TheVariants as outage
use Rattle.outside_world.specs.Moments.{ChangesOnly}
use Rattle.outside_world.specs.Objects.{Objects}
use Rattle.outside_world.proofs.Runs.{only_none, only_then}
use Rattle.machine_model.specs.Machine.{World, Machine}
use Rattle.machine_model.specs.Script.{Outcome, whole_lines}
use Rattle.machine_model.specs.Disks.{IsReady}
use Rattle.backup_run.specs.declared.stops.Stop.{Stop}
use Rattle.backup_run.specs.declared.stops.Stop.TheVariants.{Malformed, WriteFault, DiskFault, Memory}
use Rattle.backup_run.specs.declared.stops.Ending.TheVariants.{Unwritten, IllFormed}
use Rattle.backup_run.specs.Endings.{AnswersFront, Begins, EndsBy, EndsLine, IsComplete, IsLast, IsLastAt, IsLineOfDisk, IsWholeAt, Leads, WritesPart, done_ending, ending_of, stop_of}
use Rattle.layer_model.specs.Names.{NamesObject}
use Rattle.backup_run.specs.Run.{At, Here, at_of, SessionAt, StandsAt, IsHere, IsReadyFrom, Fed, EndedIn, AtInputEnd, written_before, outcome_of_rest}
use Rattle.backup_run.proofs.Telling.{told_twice, told_nothing}
use Rattle.backup_run.proofs.Bytes.{rest_nothing}
use Rattle.backup_run.proofs.Saying.{BytesGo}
use Rattle.backup_run.proofs.Stepping.{leads_then, still}
use Rattle.list_laws.proofs.Bools.{or-false, or-true}

-- ---- texts

pub begins_written : (text : List ℕ) (o p : Outcome) → o ≡ written_before text p → Begins text o.text
begins_written text o p e = (p.text, ap (λ x. x.text) e)

pub begins_last : (text : List ℕ) (o : Outcome) → IsLast text o → Begins text o.text
begins_last text o l = ([], l.0 ∙ sym (append-nil text))

pub begins_part : (n : ℕ) (text whole : List ℕ) → Begins text whole → Begins (take n text) whole
begins_part n text whole b =
    (drop n text ++ b.0, b.1 ∙ ap (λ (t : List ℕ). t ++ b.0) (sym (take-append-drop n text)) ∙ append_assoc (take n text) (drop n text) b.0)

pub begins_more : (front text whole rest : List ℕ) → Begins text rest → whole ≡ front ++ rest → Begins (front ++ text) whole
begins_more front text whole rest b e =
    (b.0, e ∙ ap (λ (t : List ℕ). front ++ t) b.1 ∙ sym (append_assoc front text b.0))

written_twice : (a b : List ℕ) (o : Outcome) → written_before a (written_before b o) ≡ written_before (a ++ b) o
written_twice a b o = ap (λ (t : List ℕ). record o { text = t }) (sym (append_assoc a b o.text))

last_after : (front text : List ℕ) (o p : Outcome) → o ≡ written_before front p → IsLast text p → IsLast (front ++ text) o
last_after front text o p e h = (ap (λ x. x.text) e ∙ ap (λ (t : List ℕ). front ++ t) h.0, ap (λ x. x.malformed) e ∙ h.1)

begins_after : (front text : List ℕ) (o p : Outcome) → o ≡ written_before front p → Begins text p.text → Begins (front ++ text) o.text
begins_after front text o p e h = begins_more front text o.text p.text h (ap (λ x. x.text) e)

-- ---- whole lines

any_append : (xs ys : List ℕ) → list_any (λ c. c == 10) (xs ++ ys) ≡ (list_any (λ c. c == 10) xs || list_any (λ c. c == 10) ys)
any_append [] ys = refl
any_append (x ∷ xs) ys = ap (λ (b : Bool). (x == 10) || b) (any_append xs ys) ∙ assoc (x == 10) (list_any (λ c. c == 10) xs) (list_any (λ c. c == 10) ys)
  where
    assoc : (a b c : Bool) → (a || (b || c)) ≡ ((a || b) || c)
    assoc true b c = refl
    assoc false b c = refl

-- with a newline at the end all lines are whole
lines_newline : (read : List ℕ) (b : ℕ) → b ≡ 10 → whole_lines (read ++ b ∷ []) ≡ read ++ b ∷ []
lines_newline [] b is = let t : (b == 10) ≡ true = grind (arith, nat_tests) in rw t refl
lines_newline (x ∷ read) b is =
    let t : (b == 10) ≡ true = grind (arith, nat_tests) in
    let some : list_any (λ c. c == 10) (x ∷ (read ++ b ∷ [])) ≡ true = any_append (x ∷ read) (b ∷ []) ∙ ap (λ (e : Bool). list_any (λ c. c == 10) (x ∷ read) || (e || false)) t ∙ or-true (list_any (λ c. c == 10) (x ∷ read)) in
    rw (some, lines_newline read b is) refl

-- another byte leaves the whole lines
lines_other : (read : List ℕ) (b : ℕ) → b ≢ 10 → whole_lines (read ++ b ∷ []) ≡ whole_lines read
lines_other [] b other = let f : (b == 10) ≡ false = grind (arith, nat_tests) in rw f refl
lines_other (x ∷ read) b other =
    let f : (b == 10) ≡ false = grind (arith, nat_tests) in
    let same : list_any (λ c. c == 10) (x ∷ (read ++ b ∷ [])) ≡ list_any (λ c. c == 10) (x ∷ read) = any_append (x ∷ read) (b ∷ []) ∙ ap (λ (e : Bool). list_any (λ c. c == 10) (x ∷ read) || (e || false)) f ∙ or-false (list_any (λ c. c == 10) (x ∷ read)) in
    rw (same, lines_other read b other) refl

-- a newline ends the line so far, and another byte goes on with it
byte_splits : (read pending new : List ℕ) (b : ℕ) → (b ≡ 10 → new ≡ []) → (b ≢ 10 → new ≡ pending ++ b ∷ []) → read ≡ whole_lines read ++ pending → read ++ b ∷ [] ≡ whole_lines (read ++ b ∷ []) ++ new
byte_splits read pending new b cleared longer split = elim (cases_Bool (b == 10)) [ inl is ↦ at_newline (grind (arith, nat_tests)) | inr is ↦ elsewhere (grind (arith, nat_tests)) ]
  where
    at_newline : b ≡ 10 → read ++ b ∷ [] ≡ whole_lines (read ++ b ∷ []) ++ new
    at_newline is = sym (lines_newline read b is) ∙ sym (append-nil (whole_lines (read ++ b ∷ []))) ∙ ap (λ (p : List ℕ). whole_lines (read ++ b ∷ []) ++ p) (sym (cleared is))

    elsewhere : b ≢ 10 → read ++ b ∷ [] ≡ whole_lines (read ++ b ∷ []) ++ new
    elsewhere other =
        ap (λ (r : List ℕ). r ++ b ∷ []) split ∙ append_assoc (whole_lines read) pending (b ∷ []) ∙ ap (λ (p : List ℕ). whole_lines read ++ p) (sym (longer other))
        ∙ ap (λ (ls : List ℕ). ls ++ new) (sym (lines_other read b other))

-- the disk failed at the line so far
pub met_at : (whole : List ℕ → Outcome) (read pending rest more text : List ℕ) → read ≡ whole_lines read ++ pending → EndsLine (rest ++ more) → IsLineOfDisk pending → text ≡ (whole (whole_lines read)).text → AnswersFront whole (read ++ rest) more text
met_at whole read pending rest more text split ends meets is = record {
  front = whole_lines read;
  line = pending;
  rest = rest;
  split = ap (λ (r : List ℕ). r ++ rest) split;
  lines_are = ap whole_lines (sym split);
  ends = ends;
  meets = meets;
  text_is = is;
}

-- ---- one byte

-- what a byte says keeps the run where it stands
byte_stands : (a new : At) (b : ℕ) (text : List ℕ) (worlds : List World) (whole : List ℕ → Outcome) (read front : List ℕ)
    → ((more : List ℕ) → outcome_of_rest worlds a (b ∷ more) ≡ written_before text (outcome_of_rest worlds new more))
    → (b ≡ 10 → new.pending ≡ []) → (b ≢ 10 → text ≡ [])
    → StandsAt whole (outcome_of_rest worlds a) read front → StandsAt whole (outcome_of_rest worlds new) (read ++ b ∷ []) (front ++ text)
byte_stands a new b text worlds whole read front goes cleared quiet s = record { goes_on = goes_on; answers = elim (cases_Bool (b == 10)) [ inl is ↦ at_newline (grind (arith, nat_tests)) | inr is ↦ elsewhere (grind (arith, nat_tests)) ] }
  where
    goes_on : (more : List ℕ) → whole ((read ++ b ∷ []) ++ more) ≡ written_before (front ++ text) (outcome_of_rest worlds new more)
    goes_on more = ap whole (append_assoc read (b ∷ []) more) ∙ s.goes_on (b ∷ more) ∙ ap (written_before front) (goes more) ∙ written_twice front text (outcome_of_rest worlds new more)

    at_newline : b ≡ 10 → front ++ text ≡ (whole (whole_lines (read ++ b ∷ []))).text
    at_newline is =
        let none : length new.pending ≡ 0 = ap length (cleared is) in
        let all : (whole ((read ++ b ∷ []) ++ [])).text ≡ (front ++ text) ++ [] = ap (λ (o : Outcome). o.text) (goes_on [] ∙ ap (written_before (front ++ text)) (rest_nothing worlds new none)) in
        sym (append-nil (front ++ text)) ∙ sym all ∙ ap (λ (bs : List ℕ). (whole bs).text) (append-nil (read ++ b ∷ []) ∙ sym (lines_newline read b is))

    elsewhere : b ≢ 10 → front ++ text ≡ (whole (whole_lines (read ++ b ∷ []))).text
    elsewhere other = ap (λ (t : List ℕ). front ++ t) (quiet other) ∙ append-nil front ∙ s.answers ∙ ap (λ (bs : List ℕ). (whole bs).text) (sym (lines_other read b other))

-- ---- one byte, and the disk

-- what is asked of a byte, where the run stands there
pub here : (worlds : List World) (began : Objects) (a : Here) (v : View) (whole : List ℕ → Outcome) (read front xs : List ℕ) → (s : SessionAt worlds began a v whole read front xs) → IsHere worlds began a v s.machine xs
here worlds began a v whole read front xs s = record { stands = s.stands; ready = subst (λ (o : Outcome). IsReadyFrom began s.machine o.machine v) (s.at.goes_on xs) s.ready }

-- what a byte, or the end of the input, does to the disk
abbrev pub LeadsBy : Here → ℕ → View → View → Type 0
LeadsBy a b v0 v1 = (worlds : List World) (began : Objects) (m : Option Machine) (more : List ℕ) → IsHere worlds began a v0 m (b ∷ more) → Leads (outcome_of_rest worlds (at_of a m) (b ∷ more)).machine began v0 v1

abbrev pub LeadsAtEnd : Here → View → View → Type 0
LeadsAtEnd a v0 v1 = (worlds : List World) (began : Objects) (m : Option Machine) → IsHere worlds began a v0 m [] → Leads (outcome_of_rest worlds (at_of a m) []).machine began v0 v1

-- the same, of the whole script
by_leads : (a : Here) (b : ℕ) (v0 v1 : View) → LeadsBy a b v0 v1 → (worlds : List World) (began : Objects) (whole : List ℕ → Outcome) (read front more : List ℕ) → SessionAt worlds began a v0 whole read front (b ∷ more) → Leads (whole (read ++ (b ∷ more))).machine began v0 v1
by_leads a b v0 v1 leads worlds began whole read front more s =
    subst (λ (o : Outcome). Leads o.machine began v0 v1) (sym (s.at.goes_on (b ∷ more))) (leads worlds began s.machine more (here worlds began a v0 whole read front (b ∷ more) s))

pub fed_byte : (held now : Option (List ℕ)) (v0 v1 : View) (a new : Here) (b : ℕ) (text : List ℕ) → now ≡ told_before held text
    → ((worlds : List World) (began : Objects) (m : Option Machine) (more : List ℕ) → IsHere worlds began a v0 m (b ∷ more) → BytesGo worlds began a m b new v1 (outcome_of_rest worlds (at_of a m) (b ∷ more)).machine text)
    → (b ≡ 10 → new.pending ≡ []) → (b ≢ 10 → new.pending ≡ a.pending ++ b ∷ []) → (b ≢ 10 → text ≡ []) → LeadsBy a b v0 v1 → ChangesOnly NamesObject NamesObject v0 v1 → Fed held now v0 v1 a new (b ∷ [])
fed_byte held now v0 v1 a new b text wrote goes cleared longer quiet leads changes = record {
  text = text;
  wrote = wrote;
  stands = λ worlds began whole read front more s.
      let g = goes worlds began s.machine more (here worlds began a v0 whole read front (b ∷ more) s) in
      record {
        machine = g.machine;
        stands = g.stands;
        at = byte_stands (at_of a s.machine) (at_of new g.machine) b text worlds whole read front g.goes_on cleared quiet s.at;
        split = byte_splits read a.pending new.pending b cleared longer s.split;
        ready = subst (λ (bs : List ℕ). IsReadyFrom began g.machine (whole bs).machine v1) (sym (append_assoc read (b ∷ []) more)) (subst (λ (o : Outcome). IsReadyFrom began g.machine o.machine v1) (sym (s.at.goes_on (b ∷ more))) g.ready);
      };
  leads = by_leads a b v0 v1 leads;
  changes = changes;
}

-- the run ends in a byte, of which this much was written
ended_by : (stop : Stop) (held now : Option (List ℕ)) (v0 v1 : View) (a : Here) (b : ℕ) (text : List ℕ) → now ≡ told_before held text
    → ((worlds : List World) (began : Objects) (whole : List ℕ → Outcome) (read front more : List ℕ) → (s : SessionAt worlds began a v0 whole read front (b ∷ more)) → (o : Outcome) → whole ((read ++ b ∷ []) ++ more) ≡ written_before front o
    → o ≡ outcome_of_rest worlds (at_of a s.machine) (b ∷ more) → EndsBy stop whole (read ++ b ∷ []) (front ++ text) more)
    → (IsComplete (ending_of stop) → (worlds : List World) (began : Objects) (m : Option Machine) (more : List ℕ) → IsHere worlds began a v0 m (b ∷ more) → IsReady (outcome_of_rest worlds (at_of a m) (b ∷ more)).machine (outcome_of_rest worlds (at_of a m) (b ∷ more)).machine v1)
    → LeadsBy a b v0 v1 → ChangesOnly NamesObject NamesObject v0 v1 → EndedIn held now v0 v1 a (b ∷ []) stop
ended_by stop held now v0 v1 a b text wrote ends ready leads changes = record {
  text = text;
  wrote = wrote;
  ends = λ worlds began whole read front more s.
      ends worlds began whole read front more s _ (ap whole (append_assoc read (b ∷ []) more) ∙ s.at.goes_on (b ∷ more)) refl;
  leads = by_leads a b v0 v1 leads;
  ready = λ complete worlds began whole read front more s.
      subst (λ (o : Outcome). IsReady o.machine o.machine v1) (sym (s.at.goes_on (b ∷ more))) (ready complete worlds began s.machine more (here worlds began a v0 whole read front (b ∷ more) s));
  changes = changes;
}

-- a write that failed took a front of what the byte says
pub ended_by_fault : (held now : Option (List ℕ)) (v0 v1 : View) (a new : Here) (b : ℕ) (malformed : Bool) (text : List ℕ) → WritesPart held now text
    → ((worlds : List World) (began : Objects) (m : Option Machine) (more : List ℕ) → IsHere worlds began a v0 m (b ∷ more) → malformed ≡ true → IsLastAt text (outcome_of_rest worlds (at_of a m) (b ∷ more)) v1)
    → ((worlds : List World) (began : Objects) (m : Option Machine) (more : List ℕ) → IsHere worlds began a v0 m (b ∷ more) → malformed ≡ false → BytesGo worlds began a m b new v1 (outcome_of_rest worlds (at_of a m) (b ∷ more)).machine text)
    → LeadsBy a b v0 v1 → ChangesOnly NamesObject NamesObject v0 v1 → EndedIn held now v0 v1 a (b ∷ []) WriteFault
ended_by_fault held now v0 v1 a new b malformed text part last goes leads changes = ended_by WriteFault held now v0 v1 a b (take part.0 text) part.1
    (λ worlds began whole read front more s o is o_is.
    let at = here worlds began a v0 whole read front (b ∷ more) s in
    begins_after front (take part.0 text) _ o is (subst (λ (x : Outcome). Begins (take part.0 text) x.text) (sym o_is) (said malformed worlds began s.machine more (last worlds began s.machine more at) (goes worlds began s.machine more at))))
    (λ no. absurd no) leads changes
  where
    said : (bad : Bool) (worlds : List World) (began : Objects) (m : Option Machine) (more : List ℕ) → (bad ≡ true → IsLastAt text (outcome_of_rest worlds (at_of a m) (b ∷ more)) v1) → (bad ≡ false → BytesGo worlds began a m b new v1 (outcome_of_rest worlds (at_of a m) (b ∷ more)).machine text)
        → Begins (take part.0 text) (outcome_of_rest worlds (at_of a m) (b ∷ more)).text
    said true worlds began m more is_last _ =
        let o = outcome_of_rest worlds (at_of a m) (b ∷ more) in
        begins_part part.0 text o.text (begins_last text o (is_last refl).0)
    said false worlds began m more _ goes_on =
        let o = outcome_of_rest worlds (at_of a m) (b ∷ more) in
        let g = goes_on refl in
        begins_part part.0 text o.text (begins_written text o (outcome_of_rest worlds (at_of new g.machine) more) (g.goes_on more))

-- the line is malformed
pub ended_malformed : (held now : Option (List ℕ)) (v0 v1 : View) (a : Here) (b : ℕ) (text : List ℕ) → now ≡ told_before held text
    → ((worlds : List World) (began : Objects) (m : Option Machine) (more : List ℕ) → IsHere worlds began a v0 m (b ∷ more) → IsLastAt text (outcome_of_rest worlds (at_of a m) (b ∷ more)) v1)
    → LeadsBy a b v0 v1 → ChangesOnly NamesObject NamesObject v0 v1 → EndedIn held now v0 v1 a (b ∷ []) Malformed
ended_malformed held now v0 v1 a b text wrote last leads changes = ended_by Malformed held now v0 v1 a b text wrote
    (λ worlds began whole read front more s o is o_is. last_after front text _ o is (subst (IsLast text) (sym o_is) (last worlds began s.machine more (here worlds began a v0 whole read front (b ∷ more) s)).0))
    (λ complete worlds began m more at. (last worlds began m more at).1) leads changes

-- a line that gave no reply: nothing was written
pub ended_outage : (fault : Outage) (held : Option (List ℕ)) (v0 v1 : View) (a : Here) (b : ℕ) → (fault ≡ outage.Failed → (b ≡ 10) × IsLineOfDisk a.pending) → LeadsBy a b v0 v1 → ChangesOnly NamesObject NamesObject v0 v1 → EndedIn held held v0 v1 a (b ∷ []) (stop_of fault)
ended_outage outage.Failed held v0 v1 a b meets leads changes = ended_by DiskFault held held v0 v1 a b [] (sym (told_nothing held))
    (λ worlds began whole read front more s o is o_is. (
      met_at whole read a.pending (b ∷ []) more (front ++ []) s.split (meets refl).0 (meets refl).1 (append-nil front ∙ s.at.answers),
      begins_after front [] _ o is (o.text, refl),
    ))
    (λ no. absurd no) leads changes
ended_outage outage.Memory held v0 v1 a b meets leads changes = ended_by Memory held held v0 v1 a b [] (sym (told_nothing held))
    (λ worlds began whole read front more s o is o_is. begins_after front [] _ o is (o.text, refl))
    (λ no. absurd no) leads changes

-- ---- pieces

-- the premise is the disk's law `only_now`
pub fed_nothing : (held : Option (List ℕ)) (v : View) (a : Here) → (IsKnown v → (image : Objects) → v.left_since v.moment image → IsImage v image) → Fed held held v v a a []
fed_nothing held v a only = record {
  text = [];
  wrote = sym (told_nothing held);
  stands = λ worlds began whole read front more s. subst (λ (f : List ℕ). SessionAt worlds began a v whole (read ++ []) f more) (sym (append-nil front)) (subst (λ (r : List ℕ). SessionAt worlds began a v whole r front more) (sym (append-nil read)) s);
  leads = λ worlds began whole read front more s. still s.machine (whole (read ++ more)).machine began v only s.ready.now;
  changes = only_none v;
}

-- what a crash leaves in the second of two pieces, said of the bytes of both
second_leads : (began : Objects) (v1 v2 : View) (whole : List ℕ → Outcome) (read p q more : List ℕ) → Leads (whole ((read ++ p) ++ (q ++ more))).machine began v1 v2 → Leads (whole (read ++ ((p ++ q) ++ more))).machine began v1 v2
second_leads began v1 v2 whole read p q more l = subst (λ (bs : List ℕ). Leads (whole bs).machine began v1 v2) (append_assoc read p (q ++ more) ∙ ap (λ (bs : List ℕ). read ++ bs) (sym (append_assoc p q more))) l

first_leads : (began : Objects) (v0 v1 : View) (whole : List ℕ → Outcome) (read p q more : List ℕ) → Leads (whole (read ++ (p ++ (q ++ more)))).machine began v0 v1 → Leads (whole (read ++ ((p ++ q) ++ more))).machine began v0 v1
first_leads began v0 v1 whole read p q more l = subst (λ (bs : List ℕ). Leads (whole (read ++ bs)).machine began v0 v1) (sym (append_assoc p q more)) l

-- the run stands before both pieces, and so before the first
before_both : (worlds : List World) (began : Objects) (a : Here) (v : View) (whole : List ℕ → Outcome) (read front p q more : List ℕ) → SessionAt worlds began a v whole read front ((p ++ q) ++ more) → SessionAt worlds began a v whole read front (p ++ (q ++ more))
before_both worlds began a v whole read front p q more s = subst (SessionAt worlds began a v whole read front) (append_assoc p q more) s

pub fed_fed : (h0 h1 h2 : Option (List ℕ)) (v0 v1 v2 : View) (a b c : Here) (p q : List ℕ) → Fed h0 h1 v0 v1 a b p → Fed h1 h2 v1 v2 b c q → Fed h0 h2 v0 v2 a c (p ++ q)
fed_fed h0 h1 h2 v0 v1 v2 a b c p q t u = record {
  text = t.text ++ u.text;
  wrote = u.wrote ∙ ap (λ o. told_before o u.text) t.wrote ∙ told_twice h0 t.text u.text;
  stands = λ worlds began whole read front more s.
      let w = u.stands worlds began whole (read ++ p) (front ++ t.text) more (t.stands worlds began whole read front (q ++ more) (before_both worlds began a v0 whole read front p q more s)) in
      subst (λ (f : List ℕ). SessionAt worlds began c v2 whole (read ++ (p ++ q)) f more) (append_assoc front t.text u.text)
      (subst (λ (r : List ℕ). SessionAt worlds began c v2 whole r ((front ++ t.text) ++ u.text) more) (append_assoc read p q) w);
  leads = λ worlds began whole read front more s.
      let at = before_both worlds began a v0 whole read front p q more s in
      leads_then (whole (read ++ ((p ++ q) ++ more))).machine began v0 v1 v2 (first_leads began v0 v1 whole read p q more (t.leads worlds began whole read front (q ++ more) at))
      (second_leads began v1 v2 whole read p q more (u.leads worlds began whole (read ++ p) (front ++ t.text) more (t.stands worlds began whole read front (q ++ more) at)));
  changes = only_then t.changes u.changes;
}

pub fed_ended : (h0 h1 h2 : Option (List ℕ)) (v0 v1 v2 : View) (a b : Here) (p q : List ℕ) (stop : Stop) → Fed h0 h1 v0 v1 a b p → EndedIn h1 h2 v1 v2 b q stop → EndedIn h0 h2 v0 v2 a (p ++ q) stop
fed_ended h0 h1 h2 v0 v1 v2 a b p q stop t u = record {
  text = t.text ++ u.text;
  wrote = u.wrote ∙ ap (λ o. told_before o u.text) t.wrote ∙ told_twice h0 t.text u.text;
  ends = λ worlds began whole read front more s.
      let w = u.ends worlds began whole (read ++ p) (front ++ t.text) more (t.stands worlds began whole read front (q ++ more) (before_both worlds began a v0 whole read front p q more s)) in
      subst (λ (f : List ℕ). EndsBy stop whole (read ++ (p ++ q)) f more) (append_assoc front t.text u.text)
      (subst (λ (r : List ℕ). EndsBy stop whole r ((front ++ t.text) ++ u.text) more) (append_assoc read p q) w);
  leads = λ worlds began whole read front more s.
      let at = before_both worlds began a v0 whole read front p q more s in
      leads_then (whole (read ++ ((p ++ q) ++ more))).machine began v0 v1 v2 (first_leads began v0 v1 whole read p q more (t.leads worlds began whole read front (q ++ more) at))
      (second_leads began v1 v2 whole read p q more (u.leads worlds began whole (read ++ p) (front ++ t.text) more (t.stands worlds began whole read front (q ++ more) at)));
  ready = λ complete worlds began whole read front more s.
      subst (λ (bs : List ℕ). IsReady (whole bs).machine (whole bs).machine v2) (append_assoc read p (q ++ more) ∙ ap (λ (bs : List ℕ). read ++ bs) (sym (append_assoc p q more)))
      (u.ready complete worlds began whole (read ++ p) (front ++ t.text) more (t.stands worlds began whole read front (q ++ more) (before_both worlds began a v0 whole read front p q more s)));
  changes = only_then t.changes u.changes;
}

front_longer : (whole : List ℕ → Outcome) (read rest more text : List ℕ) → AnswersFront whole read (rest ++ more) text → AnswersFront whole (read ++ rest) more text
front_longer whole read rest more text a = record {
  front = a.front;
  line = a.line;
  rest = a.rest ++ rest;
  split = ap (λ (r : List ℕ). r ++ rest) a.split ∙ append_assoc (a.front ++ a.line) a.rest rest;
  lines_are = a.lines_are;
  ends = subst EndsLine (sym (append_assoc a.rest rest more)) a.ends;
  meets = a.meets;
  text_is = a.text_is;
}

ends_longer : (stop : Stop) (whole : List ℕ → Outcome) (read rest text more : List ℕ) → EndsBy stop whole read text (rest ++ more) → EndsBy stop whole (read ++ rest) text more
ends_longer Malformed whole read rest text more h = subst (λ (bs : List ℕ). IsLast text (whole bs)) (sym (append_assoc read rest more)) h
ends_longer WriteFault whole read rest text more h = subst (λ (bs : List ℕ). Begins text (whole bs).text) (sym (append_assoc read rest more)) h
ends_longer DiskFault whole read rest text more h = (front_longer whole read rest more text h.0, subst (λ (bs : List ℕ). Begins text (whole bs).text) (sym (append_assoc read rest more)) h.1)
ends_longer Memory whole read rest text more h = subst (λ (bs : List ℕ). Begins text (whole bs).text) (sym (append_assoc read rest more)) h

-- what comes after the byte in its piece wasn't looked at
pub ended_more : (h0 h1 : Option (List ℕ)) (v0 v1 : View) (a : Here) (p rest : List ℕ) (stop : Stop) → EndedIn h0 h1 v0 v1 a p stop → EndedIn h0 h1 v0 v1 a (p ++ rest) stop
ended_more h0 h1 v0 v1 a p rest stop t = record {
  text = t.text;
  wrote = t.wrote;
  ends = λ worlds began whole read front more s.
      subst (λ (r : List ℕ). EndsBy stop whole r (front ++ t.text) more) (append_assoc read p rest)
      (ends_longer stop whole (read ++ p) rest (front ++ t.text) more (t.ends worlds began whole read front (rest ++ more) (before_both worlds began a v0 whole read front p rest more s)));
  leads = λ worlds began whole read front more s. first_leads began v0 v1 whole read p rest more (t.leads worlds began whole read front (rest ++ more) (before_both worlds began a v0 whole read front p rest more s));
  ready = λ complete worlds began whole read front more s.
      subst (λ (bs : List ℕ). IsReady (whole (read ++ bs)).machine (whole (read ++ bs)).machine v1) (sym (append_assoc p rest more)) (t.ready complete worlds began whole read front (rest ++ more) (before_both worlds began a v0 whole read front p rest more s));
  changes = t.changes;
}

one_more : (piece : List ℕ) (i b : ℕ) → i < length piece → b ≡ get_or piece i 0 → take (i + 1) piece ≡ take i piece ++ b ∷ []
one_more piece i b l at = take_more piece i 0 l ∙ ap (λ (x : ℕ). take i piece ++ x ∷ []) (sym at)

pub fed_next : (h0 h1 h2 : Option (List ℕ)) (v0 v1 v2 : View) (a b c : Here) (piece : List ℕ) (i byte : ℕ) → i < length piece → byte ≡ get_or piece i 0
    → Fed h0 h1 v0 v1 a b (take i piece) → Fed h1 h2 v1 v2 b c (byte ∷ []) → Fed h0 h2 v0 v2 a c (take (i + 1) piece)
fed_next h0 h1 h2 v0 v1 v2 a b c piece i byte l at t u = subst (λ (p : List ℕ). Fed h0 h2 v0 v2 a c p) (sym (one_more piece i byte l at)) (fed_fed h0 h1 h2 v0 v1 v2 a b c (take i piece) (byte ∷ []) t u)

pub ended_next : (h0 h1 h2 : Option (List ℕ)) (v0 v1 v2 : View) (a b : Here) (piece : List ℕ) (i byte : ℕ) (stop : Stop) → i < length piece → byte ≡ get_or piece i 0
    → Fed h0 h1 v0 v1 a b (take i piece) → EndedIn h1 h2 v1 v2 b (byte ∷ []) stop → EndedIn h0 h2 v0 v2 a piece stop
ended_next h0 h1 h2 v0 v1 v2 a b piece i byte stop l at t u =
    let stopped = fed_ended h0 h1 h2 v0 v1 v2 a b (take i piece) (byte ∷ []) stop t u in
    let all : (take i piece ++ byte ∷ []) ++ drop (i + 1) piece ≡ piece = ap (λ (p : List ℕ). p ++ drop (i + 1) piece) (sym (one_more piece i byte l at)) ∙ take-append-drop (i + 1) piece in
    subst (λ (p : List ℕ). EndedIn h0 h2 v0 v2 a p stop) all (ended_more h0 h2 v0 v2 a (take i piece ++ byte ∷ []) (drop (i + 1) piece) stop stopped)

-- ---- the end of the input

-- a write that failed took a front of what the end of the input says
pub end_by_fault : (held now : Option (List ℕ)) (v0 v1 : View) (a : Here) (refused malformed : Bool) (text : List ℕ) → WritesPart held now text
    → ((worlds : List World) (began : Objects) (m : Option Machine) → IsHere worlds began a v0 m [] → malformed ≡ true → IsLastAt text (outcome_of_rest worlds (at_of a m) []) v1)
    → ((worlds : List World) (began : Objects) (m : Option Machine) → IsHere worlds began a v0 m [] → malformed ≡ false → IsWholeAt refused text (outcome_of_rest worlds (at_of a m) []) v1)
    → LeadsAtEnd a v0 v1 → ChangesOnly NamesObject NamesObject v0 v1 → AtInputEnd held now v0 v1 a Unwritten
end_by_fault held now v0 v1 a refused malformed text part last goes leads changes = record {
  text = take part.0 text;
  wrote = part.1;
  answers = λ worlds began m at. begins_part part.0 text _ (said malformed (outcome_of_rest worlds (at_of a m) []) (last worlds began m at) (goes worlds began m at));
  leads = leads;
  ready = λ no. absurd no;
  changes = changes;
}
  where
    said : (bad : Bool) (o : Outcome) → (bad ≡ true → IsLastAt text o v1) → (bad ≡ false → IsWholeAt refused text o v1) → Begins text o.text
    said true o is_last _ = begins_last text o (is_last refl).0
    said false o _ goes_on = ([], (goes_on refl).0.text_is ∙ sym (append-nil text))

pub end_malformed : (held now : Option (List ℕ)) (v0 v1 : View) (a : Here) (text : List ℕ) → now ≡ told_before held text
    → ((worlds : List World) (began : Objects) (m : Option Machine) → IsHere worlds began a v0 m [] → IsLastAt text (outcome_of_rest worlds (at_of a m) []) v1)
    → LeadsAtEnd a v0 v1 → ChangesOnly NamesObject NamesObject v0 v1 → AtInputEnd held now v0 v1 a IllFormed
end_malformed held now v0 v1 a text wrote last leads changes = record {
  text = text;
  wrote = wrote;
  answers = λ worlds began m at. (last worlds began m at).0;
  leads = leads;
  ready = λ complete worlds began m at. (last worlds began m at).1;
  changes = changes;
}

pub end_outage : (fault : Outage) (held : Option (List ℕ)) (v0 v1 : View) (a : Here) → (fault ≡ outage.Failed → IsLineOfDisk a.pending) → LeadsAtEnd a v0 v1 → ChangesOnly NamesObject NamesObject v0 v1 → AtInputEnd held held v0 v1 a (ending_of (stop_of fault))
end_outage outage.Failed held v0 v1 a meets leads changes = record { text = []; wrote = sym (told_nothing held); answers = λ worlds began m at. (refl, meets refl); leads = leads; ready = λ no. absurd no; changes = changes }
end_outage outage.Memory held v0 v1 a meets leads changes = record { text = []; wrote = sym (told_nothing held); answers = λ worlds began m at. ((outcome_of_rest worlds (at_of a m) []).text, refl); leads = leads; ready = λ no. absurd no; changes = changes }

pub end_done : (held now : Option (List ℕ)) (v0 v1 : View) (a : Here) (refused : Bool) (text : List ℕ) → now ≡ told_before held text
    → ((worlds : List World) (began : Objects) (m : Option Machine) → IsHere worlds began a v0 m [] → IsWholeAt refused text (outcome_of_rest worlds (at_of a m) []) v1)
    → LeadsAtEnd a v0 v1 → ChangesOnly NamesObject NamesObject v0 v1 → AtInputEnd held now v0 v1 a (done_ending refused)
end_done held now v0 v1 a true text wrote goes leads changes = record { text = text; wrote = wrote; answers = λ worlds began m at. (goes worlds began m at).0; leads = leads; ready = λ complete worlds began m at. (goes worlds began m at).1; changes = changes }
end_done held now v0 v1 a false text wrote goes leads changes = record { text = text; wrote = wrote; answers = λ worlds began m at. (goes worlds began m at).0; leads = leads; ready = λ complete worlds began m at. (goes worlds began m at).1; changes = changes }
