-- The layers of a machine's jobs are those of a proper setting, and each that can be stored is among them.
use Rattle.std.proofs.Common.{◌≡◌, ◌⊎◌, inl, inr, ⊎_elim, ℕ, zero, suc, ◌+◌, ◌≤◌, ◌^◌, ◌==◌, Bool, true, false, ◌&&◌, nat_lt, nat_le, List, [], ◌∷◌, length, Some, None, refl, sym, ap, subst, ◌∙◌, arith, Contains}
use Rattle.std.specs.Prelude.{slice_get}
use Rattle.std.specs.Str.{bytes_eq}
use Rattle.std.proofs.lemmas.Bool.Decides.{nat_tests}
use Rattle.std.proofs.lemmas.List.Elements.{Contains-append_cases, Contains-append_left, Contains-append_right, Contains-push, Contains-push_cases}
use Rattle.std.proofs.lemmas.Slice.Eq.{bytes_eq-Decides}
use Rattle.mvcc_keys.specs.Times.{Time, IsTime}
use Rattle.row_codec.proofs.KeyOrder.{both_true}
use Rattle.table_descriptors.specs.Names.{is_name}
use Rattle.history_model.specs.Histories.{Table}
use Rattle.history_model.specs.Layers as recorded
use Rattle.layer_model.specs.declared.names.LayerName.{LayerName}
use Rattle.layer_model.specs.Names.{IsLayerName}
use Rattle.layer_model.specs.Layers.{LayerObjects}
use Rattle.layer_model.specs.Stands.{IsProper}
use Rattle.layer_objects.specs.Objects.{objects_of}
use Rattle.machine_model.specs.Machine.{Backup, Job, Machine, Restore}
use Rattle.machine_model.specs.Disks.{can_be_stored, is_named_for, is_time, kept_if, layers_from, made_layers, setting_of}

-- ---- membership

none-in : {X : Type 0} (x : X) → Contains [] x → ⊥
none-in x h = omega (arith, h.1)

in-cons : {X : Type 0} (y x : X) (ys : List X) → Contains (y ∷ ys) x → (y ≡ x) ⊎ Contains ys x
in-cons y x ys h = ⊎_elim
    (λ (first : Contains (y ∷ []) x). ⊎_elim (λ (no : Contains [] x). absurd (none-in x no)) (λ (is : y ≡ x). inl is) (Contains-push_cases [] y x first))
    (λ (more : Contains ys x). inr more)
    (Contains-append_cases (y ∷ []) ys x h)

-- ---- the layers of jobs

-- the layer is that of the backup at a place, and can be stored
pub record IsMade (cluster : List ℕ) (tables : List Table) (n : ℕ) (jobs : List Job) (w : LayerObjects) : Type 0 where
  pub place : ℕ
  pub backup : recorded.LayerRecord
  pub got : slice_get jobs place ≡ Some (Backup backup)
  pub is : objects_of tables backup ≡ w
  pub stored : can_be_stored cluster (n + place) w ≡ true

module _ (cluster : List ℕ) (tables : List Table) where
  later-made : (n : ℕ) (job : Job) (jobs : List Job) (w : LayerObjects) → IsMade cluster tables (n + 1) jobs w → IsMade cluster tables n (job ∷ jobs) w
  later-made n job jobs w m = record { place = suc m.place; backup = m.backup; got = m.got; is = m.is; stored = (let e : n + suc m.place ≡ n + 1 + m.place = omega arith in rw e m.stored) }

  pub made-of : (n : ℕ) (jobs : List Job) (w : LayerObjects) → Contains (layers_from cluster tables n jobs) w → IsMade cluster tables n jobs w
  made-of n [] w h = absurd (none-in w h)
  made-of n (Restore ∷ jobs) w h = later-made n Restore jobs w (made-of (n + 1) jobs w h)
  made-of n (Backup r ∷ jobs) w h = by (can_be_stored cluster n (objects_of tables r)) refl h (λ there. later-made n (Backup r) jobs w (made-of (n + 1) jobs w there))
    where
      first : can_be_stored cluster n (objects_of tables r) ≡ true → objects_of tables r ≡ w → IsMade cluster tables n (Backup r ∷ jobs) w
      first can is = record { place = 0; backup = r; got = refl; is = is; stored = (let e : n + 0 ≡ n = omega arith in rw (e, ← is) can) }

      by : (b : Bool) → can_be_stored cluster n (objects_of tables r) ≡ b → Contains (kept_if b (objects_of tables r) (layers_from cluster tables (n + 1) jobs)) w
          → (Contains (layers_from cluster tables (n + 1) jobs) w → IsMade cluster tables n (Backup r ∷ jobs) w) → IsMade cluster tables n (Backup r ∷ jobs) w
      by true can there later = ⊎_elim (λ (is : objects_of tables r ≡ w). first can is) later (in-cons (objects_of tables r) w _ there)
      by false can there later = later there

  pub is-among : (n : ℕ) (jobs : List Job) (place : ℕ) (r : recorded.LayerRecord) → slice_get jobs place ≡ Some (Backup r) → can_be_stored cluster (n + place) (objects_of tables r) ≡ true → Contains (layers_from cluster tables n jobs) (objects_of tables r)
  is-among n [] place r got can = absurd (let no : None ≡ Some (Backup r) = got in cc no)
  is-among n (Restore ∷ jobs) zero r got can = absurd (let no : Some Restore ≡ Some (Backup r) = got in cc no)
  is-among n (Restore ∷ jobs) (suc place) r got can = is-among (n + 1) jobs place r got (let e : n + suc place ≡ n + 1 + place = omega arith in rw (← e) can)
  is-among n (Backup q ∷ jobs) zero r got can = let same : q ≡ r = cc got in let e : n + 0 ≡ n = omega arith in
      let here : can_be_stored cluster n (objects_of tables q) ≡ true = rw (same, ← e) can in
      rw here (subst (λ (x : recorded.LayerRecord). Contains (objects_of tables q ∷ layers_from cluster tables (n + 1) jobs) (objects_of tables x)) same (Contains-append_left (objects_of tables q ∷ []) (layers_from cluster tables (n + 1) jobs) (objects_of tables q) (Contains-push [] (objects_of tables q))))
  is-among n (Backup q ∷ jobs) (suc place) r got can = more (can_be_stored cluster n (objects_of tables q)) (is-among (n + 1) jobs place r got (let e : n + suc place ≡ n + 1 + place = omega arith in rw (← e) can))
    where
      more : (b : Bool) → Contains (layers_from cluster tables (n + 1) jobs) (objects_of tables r) → Contains (kept_if b (objects_of tables q) (layers_from cluster tables (n + 1) jobs)) (objects_of tables r)
      more true there = Contains-append_right (objects_of tables q ∷ []) (layers_from cluster tables (n + 1) jobs) (objects_of tables r) there
      more false there = there

-- ---- what can be stored

same-bytes : (a b : List ℕ) → bytes_eq a b ≡ true → a ≡ b
same-bytes a b e = (bytes_eq-Decides a b).0 e

time-is : (t : Time) → is_time t ≡ true → IsTime t
time-is t e = let p = both_true (nat_lt t.wall (2 ^ 64)) (nat_le t.logical 2147483647) e in (let a = p.0 in grind (arith, nat_tests, a), let b = p.1 in grind (arith, nat_tests, b))

-- what the test of a layer of a job says
pub record IsFit (cluster : List ℕ) (job : ℕ) (w : LayerObjects) : Type 0 where
  pub name : IsLayerName w.name
  pub own : w.name.cluster ≡ cluster
  pub number : w.name.job ≡ job
  pub few : length w.chunks ≤ 1000000

pub fits : (cluster : List ℕ) (job : ℕ) (w : LayerObjects) → can_be_stored cluster job w ≡ true → IsFit cluster job w
fits cluster job w e =
    let p = both_true (is_named_for cluster job w) (nat_le (length w.chunks) 1000000) e in
    let q = both_true (is_name w.name.collection && (is_name w.name.cluster && bytes_eq w.name.cluster cluster)) ((is_time w.name.full && (is_time w.name.start && is_time w.name.end)) && (w.name.job == job && nat_lt job (2 ^ 32))) p.0 in
    let names = both_true (is_name w.name.collection) (is_name w.name.cluster && bytes_eq w.name.cluster cluster) q.0 in
    let own = both_true (is_name w.name.cluster) (bytes_eq w.name.cluster cluster) names.1 in
    let rest = both_true (is_time w.name.full && (is_time w.name.start && is_time w.name.end)) (w.name.job == job && nat_lt job (2 ^ 32)) q.1 in
    let times = both_true (is_time w.name.full) (is_time w.name.start && is_time w.name.end) rest.0 in
    let ends = both_true (is_time w.name.start) (is_time w.name.end) times.1 in
    let jobs = both_true (w.name.job == job) (nat_lt job (2 ^ 32)) rest.1 in
    let number : w.name.job ≡ job = (let a = jobs.0 in grind (arith, nat_tests, a)) in
    record {
      name = record { collection = names.0; cluster = own.0; full = time-is w.name.full times.0; start = time-is w.name.start ends.0; end = time-is w.name.end ends.1; job = (let b = jobs.1 in grind (arith, nat_tests, b, number)) };
      own = same-bytes w.name.cluster cluster own.1;
      number = number;
      few = (let b = p.1 in grind (arith, nat_tests, b));
    }

time-test : (t : Time) → IsTime t → is_time t ≡ true
time-test t is = let a = is.0 in let b = is.1 in let x : nat_lt t.wall (2 ^ 64) ≡ true = grind (arith, nat_tests, a) in let y : nat_le t.logical 2147483647 ≡ true = grind (arith, nat_tests, b) in rw (x, y) refl

pub is-fit : (cluster : List ℕ) (job : ℕ) (w : LayerObjects) → IsFit cluster job w → can_be_stored cluster job w ≡ true
is-fit cluster job w f =
    let own : bytes_eq w.name.cluster cluster ≡ true = (bytes_eq-Decides w.name.cluster cluster).1 f.own in
    let number : (w.name.job == job) ≡ true = (let e = f.number in grind (arith, nat_tests, e)) in
    let small : nat_lt job (2 ^ 32) ≡ true = (let e = f.name.job in let n = f.number in grind (arith, nat_tests, e, n)) in
    let few : nat_le (length w.chunks) 1000000 ≡ true = (let e = f.few in grind (arith, nat_tests, e)) in
    rw (f.name.collection, f.name.cluster, own, time-test w.name.full f.name.full, time-test w.name.start f.name.start, time-test w.name.end f.name.end, number, small, few) refl

-- ---- settings

module _ (m : Machine) where
  pub made : (w : LayerObjects) → Contains (made_layers m) w → IsMade m.name m.history.tables 1 m.jobs w
  unfolding made_layers
  made w h = made-of m.name m.history.tables 1 m.jobs w h

  fit : (w : LayerObjects) (h : Contains (made_layers m) w) → IsFit m.name (1 + (made w h).place) w
  fit w h = fits m.name (1 + (made w h).place) w (made w h).stored

  one-backup : (i j : ℕ) (q r : recorded.LayerRecord) → slice_get m.jobs i ≡ Some (Backup q) → slice_get m.jobs j ≡ Some (Backup r) → i ≡ j → q ≡ r
  one-backup i j q r a b same = let e : Some (Backup q) ≡ Some (Backup r) = sym a ∙ (ap (slice_get m.jobs) same ∙ b) in cc e

  once : (v w : LayerObjects) → Contains (made_layers m) v → Contains (made_layers m) w → v.name ≡ w.name → v ≡ w
  once v w hv hw same =
      let mv = made v hv in
      let mw = made w hw in
      let jobs : v.name.job ≡ w.name.job = ap (λ (n : LayerName). n.job) same in
      let a = (fit v hv).number in
      let b = (fit w hw).number in
      let place : mv.place ≡ mw.place = omega (arith, a, b, jobs) in
      sym mv.is ∙ (ap (objects_of m.history.tables) (one-backup mv.place mw.place mv.backup mw.backup mv.got mw.got place) ∙ mw.is)

  pub settings-proper : IsProper (setting_of m)
  settings-proper = record {
    started = record { layer = λ w h. record { few = (fit w h).few }; name = λ w h. (fit w h).name; once = once };
    foreign = record { layer = λ w h. absurd (none-in w h); name = λ w h. absurd (none-in w h); once = λ v w hv hw same. absurd (none-in v hv) };
    finished = λ w h. h;
    own = λ w h. (fit w h).own;
    others = λ w h. absurd (none-in w h);
  }

  -- the layer of a backup that can be stored
  pub is-made : (place : ℕ) (r : recorded.LayerRecord) → slice_get m.jobs place ≡ Some (Backup r) → IsFit m.name (1 + place) (objects_of m.history.tables r) → Contains (made_layers m) (objects_of m.history.tables r)
  unfolding made_layers
  is-made place r got f = is-among m.name m.history.tables 1 m.jobs place r got (is-fit m.name (1 + place) (objects_of m.history.tables r) f)
