-- The laws of runs of disk calls: what a crash may leave at each of their moments, and what they change. Proofs above cite this.
use Rattle.std.proofs.Common.{◌≡◌, ◌≢◌, ◌⊎◌, inl, inr, ⊎_elim, ℕ, Bool, true, false, List, [], ◌∷◌, ◌++◌, append_assoc, Option, Result, Ok, Err, refl, sym, ◌∙◌, ap, subst, arith}
use Rattle.std.proofs.lemmas.List.{append-nil}
use Rattle.outside_world.specs.declared.call.DiskCall.{DiskCall}
use Rattle.outside_world.specs.declared.call.DiskCall.TheVariants.{Put, Removal, Sync}
use Rattle.outside_world.specs.declared.disk.DiskFault.{DiskFault}
use Rattle.outside_world.specs.declared.disk.DiskFault.TheVariants.{Failed, Memory}
use Rattle.outside_world.specs.Disk.{View, IsKnown, IsImage, IsSameKind, Writes, Syncs, IsSameContent, Elapses, OnlyReads, Changes, Settles, logged}
use Rattle.outside_world.specs.Moments.{AgreeBut, AreCallsAt, ChangesOnly, Gained, InEachImage, LeavesOnly}
use Rattle.outside_world.specs.Objects.{Objects, at}
use Rattle.outside_world.proofs.Names.{name_cases, reset}

-- A run from a known disk: a crash so far leaves what has P, and one now leaves what has Q.
pub record Run (P Q : Objects → Type 0) (first now : View) : Type 0 where
  pub known : IsKnown now
  pub so_far : LeavesOnly first now P
  pub here : InEachImage now Q

pub still_known : {old new : View} → IsKnown old → IsSameKind old new → IsKnown new
still_known k s = record { tells = s.tells ∙ k.tells; honest = s.honest ∙ k.honest }

-- before the first call; the second premise is the disk's law `only_now`
pub started : {P Q : Objects → Type 0} {v : View} → IsKnown v → ((image : Objects) → v.left_since v.moment image → IsImage v image) → InEachImage v Q → ((image : Objects) → Q image → P image) → Run P Q v v
started known only here so = record {
  known = known;
  so_far = record { later = omega arith; each = λ c left. so c (here c (only c left)); before = λ t c le left. inl left };
  here = here;
}

-- one call more
pub goes_on : {P Q R : Objects → Type 0} {first old new : View} → Run P Q first old → IsSameKind old new → Elapses old new → InEachImage new R → ((image : Objects) → R image → P image) → Run P R first new
goes_on {first = first} run kind time here so = record {
  known = still_known run.known kind;
  so_far = record {
    later = omega (arith, run.so_far.later, time.later);
    each = λ c left. ⊎_elim (run.so_far.each c) (λ now. so c (here c now)) (time.adds run.known first.moment c run.so_far.later left);
    before = λ t c le left. ⊎_elim (run.so_far.before t c le) (λ now. inr (so c (here c now))) (time.adds run.known t c (omega (arith, le, run.so_far.later)) left);
  };
  here = here;
}

-- a call that ran from its own beginning on
pub then_call : {P Q : Objects → Type 0} {first old new : View} → LeavesOnly first old P → LeavesOnly old new Q → ((image : Objects) → Q image → P image) → LeavesOnly first new P
then_call {first = first} a b so = record {
  later = omega (arith, a.later, b.later);
  each = λ c left. ⊎_elim (a.each c) (so c) (b.before first.moment c a.later left);
  before = λ t c le left. ⊎_elim (a.before t c le) (λ q. inr (so c q)) (b.before t c (omega (arith, le, a.later)) left);
}

pub leaves_less : {P Q : Objects → Type 0} {first new : View} → ((image : Objects) → P image → Q image) → LeavesOnly first new P → LeavesOnly first new Q
leaves_less so a = record { later = a.later; each = λ c left. so c (a.each c left); before = λ t c le left. ⊎_elim (λ l. inl l) (λ p. inr (so c p)) (a.before t c le left) }

-- each image after a write is one from before it, with that name changed
pub record From (old : View) (name : List ℕ) (image : Objects) : Type 0 where
  pub source : Objects
  pub was : IsImage old source
  pub agree : AgreeBut name source image
  pub unchanged : at source name ≡ at old.objects name

pub write_from : {T : Type 0} {name : List ℕ} {value : Option (List ℕ)} {call : DiskCall} {result : Result T DiskFault} {old new : View} → Writes name value call result old new → (image : Objects) → IsImage new image → From old name image
write_from {name = name} {old = old} w image now =
    let r = reset image name (at old.objects name) in
    record {
      source = r.map;
      was = record {
        same = λ n untouched. ⊎_elim
            (λ (e : n ≡ name). ap (at r.map) e ∙ r.here ∙ sym (ap (at old.objects) e))
            (λ (ne : n ≢ name). r.others n ne ∙ now.same n (w.others_touched n ne ∙ untouched) ∙ w.others n ne)
            (name_cases n name);
      };
      agree = λ n ne. sym (r.others n ne);
      unchanged = r.here;
    }

-- a sync leaves no image that there wasn't
pub sync_from : {T : Type 0} (result : Result T DiskFault) {old new : View} → Syncs result old new → (image : Objects) → IsImage new image → IsImage old image
sync_from (Ok x) s image now = record { same = λ n untouched. now.same n (s.ok n) ∙ ap (λ (o : Objects). at o n) s.objects }
sync_from (Err e) s image now = record { same = λ n untouched. now.same n (s.err n ∙ untouched) ∙ ap (λ (o : Objects). at o n) s.objects }

-- nor do calls that only read
pub same_from : {old new : View} → IsSameContent old new → (image : Objects) → IsImage new image → IsImage old image
same_from s image now = record { same = λ n untouched. now.same n (s.touched n ∙ untouched) ∙ ap (λ (o : Objects). at o n) s.objects }

pub run_write : {T : Type 0} {P Q R : Objects → Type 0} {first old new : View} {name : List ℕ} {value : Option (List ℕ)} {call : DiskCall} {result : Result T DiskFault} → Run P Q first old → Changes name value call result old new
    → ((source image : Objects) → Q source → at source name ≡ at old.objects name → AgreeBut name source image → R image) → ((image : Objects) → R image → P image) → Run P R first new
run_write run changes step so =
    goes_on run changes.kind changes.time (λ image now.
    let f = write_from (changes.content run.known.tells) image now in
    step f.source image (run.here f.source f.was) f.unchanged f.agree) so

pub run_sync : {T : Type 0} {P Q : Objects → Type 0} {first old new : View} {result : Result T DiskFault} → Run P Q first old → Settles result old new → ((image : Objects) → Q image → P image) → Run P Q first new
run_sync {result = result} run settles so =
    goes_on run settles.kind settles.time (λ image now. run.here image (sync_from result (settles.content run.known.tells) image now)) so

-- after a sync that is Ok each image has what the objects have
pub run_synced : {T : Type 0} {P Q R : Objects → Type 0} {first old new : View} {x : T} → Run P Q first old → Settles (Ok x) old new
    → ((image : Objects) → Q image → ((n : List ℕ) → at image n ≡ at old.objects n) → R image) → ((image : Objects) → R image → P image) → Run P R first new
run_synced {x = x} run settles step so =
    let s = settles.content run.known.tells in
    goes_on run settles.kind settles.time (λ image now.
    step image (run.here image (sync_from (Ok x) s image now)) (λ n. now.same n (s.ok n) ∙ ap (λ (o : Objects). at o n) s.objects)) so

pub run_read : {P Q : Objects → Type 0} {first old new : View} → Run P Q first old → OnlyReads old new → ((image : Objects) → Q image → P image) → Run P Q first new
run_read run reads so =
    goes_on run reads.kind reads.time (λ image now. run.here image (same_from (reads.content run.known.tells) image now)) so

-- the objects themselves are an image
pub as_read : (v : View) → IsImage v v.objects
as_read v = record { same = λ n untouched. refl }

-- two calls that only read
pub same_then : {a b c : View} → IsSameContent a b → IsSameContent b c → IsSameContent a c
same_then s t = record { objects = t.objects ∙ s.objects; touched = λ n. t.touched n ∙ s.touched n; calls = t.calls ∙ s.calls }

pub reads_then : {a b c : View} → OnlyReads a b → OnlyReads b c → OnlyReads a c
reads_then {b = b} s t = record {
  kind = record { tells = t.kind.tells ∙ s.kind.tells; honest = t.kind.honest ∙ s.kind.honest };
  time = record {
    later = omega (arith, s.time.later, t.time.later);
    keeps = λ m image le left. t.time.keeps m image (omega (arith, le, s.time.later)) (s.time.keeps m image le left);
    adds = λ known m image le left.
        let known_b = still_known known s.kind in
        let same = t.content known_b.tells in
        ⊎_elim
        (λ before. ⊎_elim (λ l. inl l) (λ (now : IsImage b image). inr (record { same = λ n untouched. now.same n (sym (same.touched n) ∙ untouched) ∙ sym (ap (λ (o : Objects). at o n) same.objects) })) (s.time.adds known m image le before))
        (λ now. inr now)
        (t.time.adds known_b m image (omega (arith, le, s.time.later)) left);
  };
  content = λ tells. same_then (s.content tells) (t.content (s.kind.tells ∙ tells));
}

-- what calls change
none_gained : {P R : List ℕ → Type 0} {old new : List (DiskCall × Bool)} → new ≡ old → Gained P R old new
none_gained {old = old} is = record { more = []; are = is ∙ sym (append-nil old); each = tt }

gained : {T : Type 0} {P R : List ℕ → Type 0} (call : DiskCall) (r : Result T DiskFault) {old new : List (DiskCall × Bool)} → ((ok : Bool) → AreCallsAt P R ((call, ok) ∷ [])) → new ≡ logged call r old → Gained P R old new
gained call (Ok x) has is = record { more = (call, true) ∷ []; are = is; each = has true }
gained call (Err Failed) has is = record { more = (call, false) ∷ []; are = is; each = has false }
gained call (Err Memory) has is = none_gained is

calls_append : (P R : List ℕ → Type 0) (a b : List (DiskCall × Bool)) → AreCallsAt P R a → AreCallsAt P R b → AreCallsAt P R (a ++ b)
calls_append P R [] b p q = q
calls_append P R ((Put n, ok) ∷ a) b p q = (p.0, calls_append P R a b p.1 q)
calls_append P R ((Removal n, ok) ∷ a) b p q = (p.0, calls_append P R a b p.1 q)
calls_append P R ((Sync, ok) ∷ a) b p q = calls_append P R a b p q

gained_then : {P R : List ℕ → Type 0} {a b c : List (DiskCall × Bool)} → Gained P R a b → Gained P R b c → Gained P R a c
gained_then {P = P} {R = R} {a = a} s t = record { more = s.more ++ t.more; are = t.are ∙ ap (λ (l : List (DiskCall × Bool)). l ++ t.more) s.are ∙ append_assoc a s.more t.more; each = calls_append P R s.more t.more s.each t.each }

only_changed : {T : Type 0} {P R : List ℕ → Type 0} {name : List ℕ} {value : Option (List ℕ)} {call : DiskCall} {result : Result T DiskFault} {old new : View} → P name ⊎ R name → ((ok : Bool) → AreCallsAt P R ((call, ok) ∷ [])) → Changes name value call result old new → ChangesOnly P R old new
only_changed {P = P} {R = R} {name = name} {call = call} {result = result} has at_name c =
    let differs : (n : List ℕ) → ¬ P n → ¬ R n → n ≢ name = λ n p r e. ⊎_elim (λ (h : P name). p (subst P (sym e) h)) (λ (h : R name). r (subst R (sym e) h)) has in
    record {
      kind = c.kind;
      objects = λ tells n p r. (c.content tells).others n (differs n p r);
      touched = λ tells n p r untouched. (c.content tells).others_touched n (differs n p r) ∙ untouched;
      calls = λ tells. gained call result at_name (c.content tells).calls;
    }

pub only_put : {T : Type 0} {P R : List ℕ → Type 0} {name : List ℕ} {value : Option (List ℕ)} {result : Result T DiskFault} {old new : View} → P name → Changes name value (Put name) result old new → ChangesOnly P R old new
only_put has c = only_changed (inl has) (λ ok. (has, tt)) c

pub only_remove : {T : Type 0} {P R : List ℕ → Type 0} {name : List ℕ} {value : Option (List ℕ)} {result : Result T DiskFault} {old new : View} → R name → Changes name value (Removal name) result old new → ChangesOnly P R old new
only_remove has c = only_changed (inr has) (λ ok. (has, tt)) c

settled_touched : {T : Type 0} (result : Result T DiskFault) {old new : View} → Syncs result old new → (n : List ℕ) → old.touched n ≡ false → new.touched n ≡ false
settled_touched (Ok x) s n untouched = s.ok n
settled_touched (Err e) s n untouched = s.err n ∙ untouched

pub only_sync : {T : Type 0} {P R : List ℕ → Type 0} {result : Result T DiskFault} {old new : View} → Settles result old new → ChangesOnly P R old new
only_sync {result = result} c = record {
  kind = c.kind;
  objects = λ tells n p r. ap (λ (o : Objects). at o n) (c.content tells).objects;
  touched = λ tells n p r untouched. settled_touched result (c.content tells) n untouched;
  calls = λ tells. gained Sync result (λ ok. tt) (c.content tells).calls;
}

pub only_read : {P R : List ℕ → Type 0} {old new : View} → OnlyReads old new → ChangesOnly P R old new
only_read c = record {
  kind = c.kind;
  objects = λ tells n p r. ap (λ (o : Objects). at o n) (c.content tells).objects;
  touched = λ tells n p r untouched. (c.content tells).touched n ∙ untouched;
  calls = λ tells. none_gained (c.content tells).calls;
}

pub only_then : {P R : List ℕ → Type 0} {a b c : View} → ChangesOnly P R a b → ChangesOnly P R b c → ChangesOnly P R a c
only_then s t = record {
  kind = record { tells = t.kind.tells ∙ s.kind.tells; honest = t.kind.honest ∙ s.kind.honest };
  objects = λ tells n p r. t.objects (s.kind.tells ∙ tells) n p r ∙ s.objects tells n p r;
  touched = λ tells n p r untouched. t.touched (s.kind.tells ∙ tells) n p r (s.touched tells n p r untouched);
  calls = λ tells. gained_then (s.calls tells) (t.calls (s.kind.tells ∙ tells));
}

pub only_none : {P R : List ℕ → Type 0} (v : View) → ChangesOnly P R v v
only_none v = record { kind = record { tells = refl; honest = refl }; objects = λ tells n p r. refl; touched = λ tells n p r untouched. untouched; calls = λ tells. none_gained refl }

-- the same of more names
calls_less : (P Q R S : List ℕ → Type 0) → ((n : List ℕ) → P n → Q n) → ((n : List ℕ) → R n → S n) → (a : List (DiskCall × Bool)) → AreCallsAt P R a → AreCallsAt Q S a
calls_less P Q R S puts removals [] p = tt
calls_less P Q R S puts removals ((Put n, ok) ∷ a) p = (puts n p.0, calls_less P Q R S puts removals a p.1)
calls_less P Q R S puts removals ((Removal n, ok) ∷ a) p = (removals n p.0, calls_less P Q R S puts removals a p.1)
calls_less P Q R S puts removals ((Sync, ok) ∷ a) p = calls_less P Q R S puts removals a p

pub only_less : {P Q R S : List ℕ → Type 0} {a b : View} → ((n : List ℕ) → P n → Q n) → ((n : List ℕ) → R n → S n) → ChangesOnly P R a b → ChangesOnly Q S a b
only_less {P = P} {Q = Q} {R = R} {S = S} puts removals s = record {
  kind = s.kind;
  objects = λ tells n q r. s.objects tells n (λ p. q (puts n p)) (λ p. r (removals n p));
  touched = λ tells n q r untouched. s.touched tells n (λ p. q (puts n p)) (λ p. r (removals n p)) untouched;
  calls = λ tells. let k = s.calls tells in record { more = k.more; are = k.are; each = calls_less P Q R S puts removals k.more k.each };
}
