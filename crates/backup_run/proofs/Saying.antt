-- What one byte says.
use Rattle.std.proofs.Common.{◌≡◌, ◌≢◌, ℕ, ◌+◌, ◌-◌, ◌<◌, ◌≤◌, Bool, true, false, ◌||◌, eqb, List, [], ◌∷◌, ◌++◌, length, Some, None, Ok, Err, refl, sym, ap, subst, ◌∙◌, arith}
use Rattle.std.specs.Prelude.{Result, Option, is_none, IfOk}
use Rattle.std.proofs.lemmas.Bool.Decides.{nat_tests}
use Rattle.std.proofs.lemmas.List.{append-nil}
use Rattle.std.proofs.lemmas.Result.{IfOk-weaker}
use Rattle.outside_world.specs.Disk.{View}
use Rattle.outside_world.specs.Objects.{Objects}
use Rattle.machine_model.specs.Machine.{World, Machine}
use Rattle.machine_model.specs.Disks.{IsReady}
use Rattle.cluster_core.specs.ClusterView.{ClusterState}
use Rattle.machine_model.specs.Script.{Line, Within, lines, Outcome, outcome, malformed_at, malformed_text, reading_before, machine_after, read_at}
use Rattle.backup_run.specs.declared.answering.Said.{Said}
use Rattle.backup_run.specs.Endings.{IsLastAt, IsWholeAt, Leads}
use Rattle.backup_run.specs.Run.{At, Here, at_of, StandsAs, IsAt, IsHere, IsHereAtLines, IsReadyFrom, Goes, MayGo, SaysLine, written_before, with_refused, outcome_of_lines, outcome_of_rest}
use Rattle.backup_run.proofs.Ends.{line-later}
use Rattle.backup_run.proofs.Bytes.{rest_beyond, rest_newline, rest_other, rest_too_long, rest_ends, rest_nothing}
use Rattle.list_laws.proofs.Bools.{or-false}

-- ---- malformed lines

-- the disk that is ready for an end at which the machine is, holds just its layers
at_last : (m : Option Machine) (o : Outcome) (v : View) → o.machine ≡ m → IsReady m o.machine v → IsReady o.machine o.machine v
at_last m o v is ready = subst (λ (x : Option Machine). IsReady x o.machine v) (sym is) ready

is_last : (n column : ℕ) (m : Option Machine) (refused : Bool) (o : Outcome) (v : View) → o ≡ with_refused refused (malformed_at n column m) → IsReady m o.machine v → IsLastAt (malformed_text n column) o v
is_last n column m refused o v e ready = ((ap (λ x. x.text) e, ap (λ x. x.malformed) e), at_last m o v (ap (λ (x : Outcome). x.machine) e) ready)

pub last_beyond : (worlds : List World) (began : Objects) (h : Here) (v : View) (m : Option Machine) (b : ℕ) (more : List ℕ) → h.room ≡ 0 → length h.pending ≤ 65536 → IsHere worlds began h v m (b ∷ more) → IsLastAt (malformed_text h.line (length h.pending + 1)) (outcome_of_rest worlds (at_of h m) (b ∷ more)) v
last_beyond worlds began h v m b more is fits here = is_last h.line (length h.pending + 1) m h.refused (outcome_of_rest worlds (at_of h m) (b ∷ more)) v (rest_beyond worlds (at_of h m) b more is fits) here.ready.now

pub last_too_long : (worlds : List World) (began : Objects) (h : Here) (v : View) (m : Option Machine) (b : ℕ) (more : List ℕ) → h.room ≢ 0 → b ≢ 10 → length h.pending ≡ 65536 → IsHere worlds began h v m (b ∷ more) → IsLastAt (malformed_text h.line 65537) (outcome_of_rest worlds (at_of h m) (b ∷ more)) v
last_too_long worlds began h v m b more some other full here = is_last h.line 65537 m h.refused (outcome_of_rest worlds (at_of h m) (b ∷ more)) v (rest_too_long worlds (at_of h m) (h.room - 1) b more (omega arith) (grind (arith, nat_tests)) full) here.ready.now

-- ---- newlines

-- the session of which a newline was read
abbrev after_newline : Here → Here
after_newline h = record h { room = h.room - 1 }

-- a room less, for the lines that come next it is the same
same_lines : (worlds : List World) (a : At) (k : ℕ) (ls : List Line) → outcome_of_lines worlds (record a { room = k }) ls ≡ outcome_of_lines worlds a ls
unfolding outcome_of_lines
same_lines worlds a k ls = refl

newline_is : (worlds : List World) (h : Here) (m : Option Machine) (b : ℕ) (more : List ℕ) → h.room ≢ 0 → b ≡ 10
    → outcome_of_rest worlds (at_of h m) (b ∷ more) ≡ outcome_of_lines worlds (at_of (after_newline h) m) (Within h.pending ∷ lines (h.room - 1) more)
newline_is worlds h m b more some is =
    let newline : eqb b 10 ≡ true = grind (arith, nat_tests) in
    rest_newline worlds (at_of h m) (h.room - 1) b more (omega arith) newline ∙ sym (same_lines worlds (at_of h m) (h.room - 1) (Within h.pending ∷ lines (h.room - 1) more))

at_lines : (worlds : List World) (began : Objects) (h : Here) (v : View) (m : Option Machine) (b : ℕ) (more : List ℕ) → h.room ≢ 0 → b ≡ 10 → IsHere worlds began h v m (b ∷ more)
    → IsHereAtLines worlds began (after_newline h) v m (Within h.pending ∷ lines (h.room - 1) more)
at_lines worlds began h v m b more some is here = record { stands = here.stands; ready = subst (λ (o : Outcome). IsReadyFrom began m o.machine v) (newline_is worlds h m b more some is) here.ready }

pub newline_last : {E : Type 0} (worlds : List World) (began : Objects) (h : Here) (v v1 : View) (m : Option Machine) (b : ℕ) (more : List ℕ) (r : Result Said E) → h.room ≢ 0 → b ≡ 10 → IsHere worlds began h v m (b ∷ more)
    → ((ls : List Line) → IsHereAtLines worlds began (after_newline h) v m (Within h.pending ∷ ls) → IfOk r (λ s. s.malformed ≡ true → IsLastAt s.text.items (outcome_of_lines worlds (at_of (after_newline h) m) (Within h.pending ∷ ls)) v1))
    → IfOk r (λ s. s.malformed ≡ true → IsLastAt s.text.items (outcome_of_rest worlds (at_of h m) (b ∷ more)) v1)
newline_last worlds began h v v1 m b more r some is here last =
    IfOk-weaker r _ _ (λ s f t. subst (λ (o : Outcome). IsLastAt s.text.items o v1) (sym (newline_is worlds h m b more some is)) (f t)) (last (lines (h.room - 1) more) (at_lines worlds began h v m b more some is here))

pub newline_leads : (worlds : List World) (began : Objects) (h : Here) (v v1 : View) (m : Option Machine) (b : ℕ) (more : List ℕ) → h.room ≢ 0 → b ≡ 10 → IsHere worlds began h v m (b ∷ more)
    → ((ls : List Line) → IsHereAtLines worlds began (after_newline h) v m (Within h.pending ∷ ls) → Leads (outcome_of_lines worlds (at_of (after_newline h) m) (Within h.pending ∷ ls)).machine began v v1)
    → Leads (outcome_of_rest worlds (at_of h m) (b ∷ more)).machine began v v1
newline_leads worlds began h v v1 m b more some is here leads = subst (λ (o : Outcome). Leads o.machine began v v1) (sym (newline_is worlds h m b more some is)) (leads (lines (h.room - 1) more) (at_lines worlds began h v m b more some is here))

-- after a newline the next line begins
begins : (worlds : List World) (a : At) (more : List ℕ) → a.pending ≡ [] → outcome_of_rest worlds a more ≡ outcome_of_lines worlds a (lines a.room more)
unfolding outcome_of_rest
begins worlds a more e = rw e refl

-- a line and what follows go on, and so do a byte and what follows
abbrev pub LinesGo : List World → Objects → Here → Option Machine → Here → View → Option Machine → List ℕ → Type 0
LinesGo worlds began h m new v end text = Goes began new v end text (λ ls. outcome_of_lines worlds (at_of h m) (Within h.pending ∷ ls)) (outcome_of_lines worlds)

abbrev pub BytesGo : List World → Objects → Here → Option Machine → ℕ → Here → View → Option Machine → List ℕ → Type 0
BytesGo worlds began h m b new v end text = Goes began new v end text (λ xs. outcome_of_rest worlds (at_of h m) (b ∷ xs)) (outcome_of_rest worlds)

bytes_go : (worlds : List World) (began : Objects) (h new : Here) (v : View) (end by : Option Machine) (m : Option Machine) (b : ℕ) (text : List ℕ) → end ≡ by → h.room ≢ 0 → b ≡ 10 → new.pending ≡ [] → new.room ≡ h.room - 1 → LinesGo worlds began (after_newline h) m new v end text → BytesGo worlds began h m b new v by text
bytes_go worlds began h new v end by m b text same some is cleared room g = record {
  machine = g.machine;
  stands = g.stands;
  ready = subst (λ (x : Option Machine). IsReadyFrom began g.machine x v) same g.ready;
  goes_on = λ more.
      let after : outcome_of_rest worlds (at_of new g.machine) more ≡ outcome_of_lines worlds (at_of new g.machine) (lines (h.room - 1) more) =
      begins worlds (at_of new g.machine) more cleared ∙ ap (λ (k : ℕ). outcome_of_lines worlds (at_of new g.machine) (lines k more)) room in
      newline_is worlds h m b more some is ∙ g.goes_on (lines (h.room - 1) more) ∙ ap (written_before text) (sym after);
}

pub newline_goes_on : {E : Type 0} (worlds : List World) (began : Objects) (h new : Here) (v v1 : View) (m : Option Machine) (b : ℕ) (more : List ℕ) (r : Result Said E) → h.room ≢ 0 → b ≡ 10 → IsHere worlds began h v m (b ∷ more)
    → ((ls : List Line) → IsHereAtLines worlds began (after_newline h) v m (Within h.pending ∷ ls) → IfOk r (λ s. s.malformed ≡ false → LinesGo worlds began (after_newline h) m new v1 (outcome_of_lines worlds (at_of (after_newline h) m) (Within h.pending ∷ ls)).machine s.text.items))
    → IfOk r (λ _. new.pending ≡ []) → new.room ≡ h.room - 1
    → IfOk r (λ s. s.malformed ≡ false → BytesGo worlds began h m b new v1 (outcome_of_rest worlds (at_of h m) (b ∷ more)).machine s.text.items)
newline_goes_on worlds began h new v v1 m b more (Ok s) some is here goes cleared room = λ t.
    bytes_go worlds began h new v1 (outcome_of_lines worlds (at_of (after_newline h) m) (Within h.pending ∷ lines (h.room - 1) more)).machine (outcome_of_rest worlds (at_of h m) (b ∷ more)).machine m b s.text.items (ap (λ (o : Outcome). o.machine) (sym (newline_is worlds h m b more some is))) some is cleared room (goes (lines (h.room - 1) more) (at_lines worlds began h v m b more some is here) t)
newline_goes_on worlds began h new v v1 m b more (Err e) some is here goes cleared room = tt

-- ---- other bytes

byte_more : (a : At) (b : ℕ) (pending : List ℕ) → a.room ≢ 0 → b ≢ 10 → pending ≡ a.pending ++ b ∷ []
    → (worlds : List World) (more : List ℕ) → outcome_of_rest worlds a (b ∷ more) ≡ outcome_of_rest worlds (record a { pending = pending; room = a.room - 1 }) more
unfolding outcome_of_rest outcome_of_lines
byte_more a b pending some other is worlds more =
    let no : eqb b 10 ≡ false = grind (arith, nat_tests) in
    rest_other worlds a (a.room - 1) b more (omega arith) no ∙ rw is refl

pub byte_goes_on : (worlds : List World) (began : Objects) (h : Here) (v : View) (m : Option Machine) (b : ℕ) (more : List ℕ) (pending text : List ℕ) → text ≡ [] → h.room ≢ 0 → b ≢ 10 → pending ≡ h.pending ++ b ∷ [] → IsHere worlds began h v m (b ∷ more)
    → BytesGo worlds began h m b (record h { pending = pending; room = h.room - 1 }) v (outcome_of_rest worlds (at_of h m) (b ∷ more)).machine text
byte_goes_on worlds began h v m b more pending text none some other is here =
    record { machine = m; stands = here.stands; ready = here.ready; goes_on = λ more. rw none (byte_more (at_of h m) b pending some other is worlds more) }

-- ---- the end of the input

at_end : (worlds : List World) (began : Objects) (h : Here) (v : View) (m : Option Machine) → 0 < length h.pending → IsHere worlds began h v m [] → IsHereAtLines worlds began h v m (Within h.pending ∷ [])
at_end worlds began h v m some here = record { stands = here.stands; ready = subst (λ (o : Outcome). IsReadyFrom began m o.machine v) (rest_ends worlds (at_of h m) some) here.ready }

pub end_last : {E : Type 0} (worlds : List World) (began : Objects) (h : Here) (v v1 : View) (m : Option Machine) (r : Result Said E) → 0 < length h.pending → IsHere worlds began h v m []
    → ((ls : List Line) → IsHereAtLines worlds began h v m (Within h.pending ∷ ls) → IfOk r (λ s. s.malformed ≡ true → IsLastAt s.text.items (outcome_of_lines worlds (at_of h m) (Within h.pending ∷ ls)) v1))
    → IfOk r (λ s. s.malformed ≡ true → IsLastAt s.text.items (outcome_of_rest worlds (at_of h m) []) v1)
end_last worlds began h v v1 m r some here last =
    IfOk-weaker r _ _ (λ s f t. subst (λ (o : Outcome). IsLastAt s.text.items o v1) (sym (rest_ends worlds (at_of h m) some)) (f t)) (last [] (at_end worlds began h v m some here))

pub end_leads : (worlds : List World) (began : Objects) (h : Here) (v v1 : View) (m : Option Machine) → 0 < length h.pending → IsHere worlds began h v m []
    → ((ls : List Line) → IsHereAtLines worlds began h v m (Within h.pending ∷ ls) → Leads (outcome_of_lines worlds (at_of h m) (Within h.pending ∷ ls)).machine began v v1) → Leads (outcome_of_rest worlds (at_of h m) []).machine began v v1
end_leads worlds began h v v1 m some here leads = subst (λ (o : Outcome). Leads o.machine began v v1) (sym (rest_ends worlds (at_of h m) some)) (leads [] (at_end worlds began h v m some here))

no_lines : (worlds : List World) (a : At) → outcome_of_lines worlds a [] ≡ record { text = []; refused = a.refused || false; malformed = false; machine = a.machine }
unfolding outcome_of_lines outcome
no_lines worlds a = refl

whole_at : (refused : Bool) (text : List ℕ) (m : Option Machine) (o : Outcome) (v : View) → o ≡ written_before text (record { text = []; refused = refused || false; malformed = false; machine = m }) → IsReady m o.machine v → IsWholeAt refused text o v
whole_at refused text m o v is ready = (
  record {
    text_is = ap (λ (x : Outcome). x.text) is ∙ append-nil text;
    refused_is = ap (λ (x : Outcome). x.refused) is ∙ or-false refused;
    well_formed = ap (λ (x : Outcome). x.malformed) is;
  },
  at_last m o v (ap (λ (x : Outcome). x.machine) is) ready,
)

pub end_goes_on : {E : Type 0} (worlds : List World) (began : Objects) (h new : Here) (v v1 : View) (m : Option Machine) (r : Result Said E) → 0 < length h.pending → IsHere worlds began h v m []
    → ((ls : List Line) → IsHereAtLines worlds began h v m (Within h.pending ∷ ls) → IfOk r (λ s. s.malformed ≡ false → LinesGo worlds began h m new v1 (outcome_of_lines worlds (at_of h m) (Within h.pending ∷ ls)).machine s.text.items))
    → IfOk r (λ s. s.malformed ≡ false → IsWholeAt new.refused s.text.items (outcome_of_rest worlds (at_of h m) []) v1)
end_goes_on worlds began h new v v1 m r some here goes = IfOk-weaker r _ _ (λ s f t.
    let g = f t in
    whole_at new.refused s.text.items g.machine (outcome_of_rest worlds (at_of h m) []) v1 (rest_ends worlds (at_of h m) some ∙ g.goes_on [] ∙ ap (written_before s.text.items) (no_lines worlds (at_of new g.machine)))
    (subst (λ (o : Outcome). IsReady g.machine o.machine v1) (sym (rest_ends worlds (at_of h m) some)) g.ready.now))
    (goes [] (at_end worlds began h v m some here))

pub nothing_left : (worlds : List World) (began : Objects) (h : Here) (v : View) (m : Option Machine) (text : List ℕ) → length h.pending ≡ 0 → text ≡ [] → IsHere worlds began h v m [] → IsWholeAt h.refused text (outcome_of_rest worlds (at_of h m) []) v
nothing_left worlds began h v m text none is here = whole_at h.refused text m (outcome_of_rest worlds (at_of h m) []) v (rw is (rest_nothing worlds (at_of h m) none)) here.ready.now

-- ---- the end of a line

pub same-none : (c : Option ClusterState) (m : Option Machine) → StandsAs c m → is_none m ≡ is_none c
same-none None None stands = refl
same-none None (Some m) stands = absurd stands
same-none (Some c) None stands = absurd stands
same-none (Some c) (Some m) stands = refl

or_assoc : (a b c : Bool) → (a || (b || c)) ≡ ((a || b) || c)
or_assoc true b c = refl
or_assoc false b c = refl

-- what a line says, from each machine for which the cluster stands
abbrev pub LineSays : List World → Here → Option Machine → Bool → Bool → List ℕ → Type 0
LineSays worlds h m malformed refused text = SaysLine (machine_after worlds m (read_at m h.pending)) malformed refused text (λ (o : Outcome). reading_before worlds h.line m (read_at m h.pending) o) (λ o. o)

pub line_last : (worlds : List World) (began : Objects) (h : Here) (c : Option ClusterState) (v : View) (m : Option Machine) (ls : List Line) (malformed refused : Bool) (text : List ℕ)
    → LineSays worlds h m malformed refused text → IsAt began c (machine_after worlds m (read_at m h.pending)) (outcome_of_lines worlds (at_of h m) (Within h.pending ∷ ls)).machine v
    → malformed ≡ true → IsLastAt text (outcome_of_lines worlds (at_of h m) (Within h.pending ∷ ls)) v
unfolding outcome_of_lines outcome
line_last worlds began h c v m ls true refused text said at t =
    let last = said (outcome worlds (h.line + 1) (machine_after worlds m (read_at m h.pending)) ls) in
    (last.0, at_last (machine_after worlds m (read_at m h.pending)) (outcome_of_lines worlds (at_of h m) (Within h.pending ∷ ls)) v last.1 at.ready.now)
line_last worlds began h c v m ls false refused text said at t = absurd cc

-- a line may be executed that is the next of a script for which the disk is ready
pub may_go : (worlds : List World) (began : Objects) (h : Here) (v : View) (m : Option Machine) (ls : List Line) → IsHereAtLines worlds began h v m (Within h.pending ∷ ls)
    → MayGo began h.cluster m (machine_after worlds m (read_at m h.pending)) (outcome_of_lines worlds (at_of h m) (Within h.pending ∷ ls)).machine v
unfolding outcome_of_lines outcome
may_go worlds began h v m ls here = record { stands = here.stands; ready = here.ready; later = line-later worlds h.line m (read_at m h.pending) ls }

pub line_goes_on : (worlds : List World) (began : Objects) (h now : Here) (v : View) (end m : Option Machine) (malformed refused : Bool) (text : List ℕ) → LineSays worlds h m malformed refused text
    → IsAt began now.cluster (machine_after worlds m (read_at m h.pending)) end v → now.line ≡ h.line + 1 → now.refused ≡ (h.refused || refused)
    → malformed ≡ false → LinesGo worlds began h m now v end text
unfolding outcome_of_lines outcome
line_goes_on worlds began h now v end m true refused text said at line is t = absurd cc
line_goes_on worlds began h now v end m false refused text said at line is t = record {
  machine = machine_after worlds m (read_at m h.pending);
  stands = at.stands;
  ready = at.ready;
  goes_on = λ ls.
      let new = at_of now (machine_after worlds m (read_at m h.pending)) in
      let rest = outcome worlds (h.line + 1) (machine_after worlds m (read_at m h.pending)) ls in
      let same : outcome worlds new.line new.machine ls ≡ rest = rw line refl in
      ap (with_refused h.refused) (said rest)
      ∙ ap (λ (r : Bool). record { text = text ++ rest.text; refused = r; malformed = rest.malformed; machine = rest.machine }) (or_assoc h.refused refused rest.refused ∙ ap (λ (r : Bool). r || rest.refused) (sym is))
      ∙ ap (λ (o : Outcome). written_before text (with_refused new.refused o)) (sym same);
}
