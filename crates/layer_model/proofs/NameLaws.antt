-- Names of objects, both ways.
use Rattle.std.proofs.Common.{◌≡◌, ℕ, ◌<◌, ◌^◌, List, ◌∷◌, ◌++◌, Option, Some, None, refl, sym, ap, subst, ◌∙◌}
use Rattle.std.specs.Prelude.{IfOk, Result, Ok, Err}
use Rattle.mvcc_keys.specs.Times.{Time, IsTime}
use Rattle.table_descriptors.specs.Names.{name_of}
use Rattle.layer_model.specs.declared.names.ObjectName.{ObjectName}
use Rattle.layer_model.specs.declared.reading.Numbers.{Numbers}
use Rattle.layer_model.specs.Names.{IsNameOf, IsNumbered, IsObjectName, NamesAreExact, NamesDiffer, job_digits, object_name, object_of, part_text, read_job, read_job_field, read_name, read_numbers, read_part, read_time, read_time_field, read_word, time_digits}
use Rattle.list_laws.specs.Options.{◌>>=◌}
use Rattle.layer_model.proofs.FieldTexts.{job-found, job-only, job_has_no_point, name_has_no_point, part-found, part-only, time-found, time-only, time_has_no_point, word-found, word-only}
use Rattle.list_laws.proofs.Options.{bind-some, some-parts}
use Rattle.table_descriptors.proofs.Ascii.{name_of-some}

-- ---- one field and its point

time_field-found : (t : Time) (r : List ℕ) → IsTime t → read_time_field (time_digits t ++ 46 ∷ r) ≡ Some (t, r)
unfolding read_time_field
time_field-found t r h = rw (word-found (time_digits t) r (time_has_no_point t), time-found t h) refl

moved : {A B : Type 0} (P : A → B → Type 0) (a b : A) (c d : B) → a ≡ b → c ≡ d → P a c → P b d
moved P a b c d e f h = rw (← e, ← f) h

time_field-only : (b : List ℕ) (t : Time) (r : List ℕ) → read_time_field b ≡ Some (t, r) → IsTime t × (b ≡ time_digits t ++ 46 ∷ r)
unfolding read_time_field
time_field-only b t r e =
    let word = bind-some (read_word b) (λ w. read_time w.0 >>= (λ s. Some (s, w.1))) (t, r) e in
    let time = bind-some (read_time word.0.0) (λ s. Some (s, word.0.1)) (t, r) word.2 in
    let parts = some-parts time.0 t word.0.1 r time.2 in
    let only = time-only word.0.0 time.0 time.1 in
    moved (λ s q. IsTime s × (b ≡ time_digits s ++ 46 ∷ q)) time.0 t word.0.1 r parts.0 parts.1 (only.0, word-only b word.0.0 word.0.1 word.1 ∙ ap (λ (x : List ℕ). x ++ 46 ∷ word.0.1) only.1)

job_field-found : (n : ℕ) (r : List ℕ) → n < 2 ^ 32 → read_job_field (job_digits n ++ 46 ∷ r) ≡ Some (n, r)
unfolding read_job_field
job_field-found n r h = rw (word-found (job_digits n) r (job_has_no_point n), job-found n h) refl

job_field-only : (b : List ℕ) (n : ℕ) (r : List ℕ) → read_job_field b ≡ Some (n, r) → (n < 2 ^ 32) × (b ≡ job_digits n ++ 46 ∷ r)
unfolding read_job_field
job_field-only b n r e =
    let word = bind-some (read_word b) (λ w. read_job w.0 >>= (λ s. Some (s, w.1))) (n, r) e in
    let job = bind-some (read_job word.0.0) (λ s. Some (s, word.0.1)) (n, r) word.2 in
    let parts = some-parts job.0 n word.0.1 r job.2 in
    let only = job-only word.0.0 job.0 job.1 in
    moved (λ s q. (s < 2 ^ 32) × (b ≡ job_digits s ++ 46 ∷ q)) job.0 n word.0.1 r parts.0 parts.1 (only.0, word-only b word.0.0 word.0.1 word.1 ∙ ap (λ (x : List ℕ). x ++ 46 ∷ word.0.1) only.1)

-- ---- what follows the collection and the cluster

abbrev numbers_text : Numbers → List ℕ
numbers_text n = time_digits n.full ++ 46 ∷ (time_digits n.start ++ 46 ∷ (time_digits n.end ++ 46 ∷ (job_digits n.job ++ 46 ∷ part_text n.part)))

pub record AreNumbers (n : Numbers) : Type 0 where
  pub full : IsTime n.full
  pub start : IsTime n.start
  pub end : IsTime n.end
  pub job : n.job < 2 ^ 32
  pub part : IsNumbered n.part

numbers-found : (n : Numbers) → AreNumbers n → read_numbers (numbers_text n) ≡ Some n
unfolding read_numbers
numbers-found n h =
    rw (time_field-found n.full _ h.full, time_field-found n.start _ h.start, time_field-found n.end _ h.end, job_field-found n.job _ h.job, part-found n.part h.part) refl

numbers_joined : (n : Numbers) (b after_full after_start after_end after_job : List ℕ) → b ≡ time_digits n.full ++ 46 ∷ after_full → after_full ≡ time_digits n.start ++ 46 ∷ after_start → after_start ≡ time_digits n.end ++ 46 ∷ after_end → after_end ≡ job_digits n.job ++ 46 ∷ after_job → after_job ≡ part_text n.part → b ≡ numbers_text n
numbers_joined n b after_full after_start after_end after_job f s d j p = rw (f, s, d, j, p) refl

numbers-only : (b : List ℕ) (n : Numbers) → read_numbers b ≡ Some n → AreNumbers n × (b ≡ numbers_text n)
unfolding read_numbers
numbers-only b n e =
    let full = bind-some (read_time_field b) _ n e in
    let start = bind-some (read_time_field full.0.1) _ n full.2 in
    let end = bind-some (read_time_field start.0.1) _ n start.2 in
    let job = bind-some (read_job_field end.0.1) _ n end.2 in
    let part = bind-some (read_part job.0.1) _ n job.2 in
    let f = time_field-only b full.0.0 full.0.1 full.1 in
    let s = time_field-only full.0.1 start.0.0 start.0.1 start.1 in
    let d = time_field-only start.0.1 end.0.0 end.0.1 end.1 in
    let j = job_field-only end.0.1 job.0.0 job.0.1 job.1 in
    let p = part-only job.0.1 part.0 part.1 in
    let made : Numbers = record { full = full.0.0; start = start.0.0; end = end.0.0; job = job.0.0; part = part.0 } in
    let same : made ≡ n = cc in
    let text = numbers_joined made b full.0.1 start.0.1 end.0.1 job.0.1 f.1 s.1 d.1 j.1 p.1 in
    subst (λ m. AreNumbers m × (b ≡ numbers_text m)) same (record { full = f.0; start = s.0; end = d.0; job = j.0; part = p.0 }, text)

-- ---- names

name_joined : (n : Numbers) (text w v after_w after_v collection cluster : List ℕ) → text ≡ w ++ 46 ∷ after_w → after_w ≡ v ++ 46 ∷ after_v → w ≡ collection → v ≡ cluster → after_v ≡ numbers_text n → text ≡ collection ++ 46 ∷ (cluster ++ 46 ∷ numbers_text n)
name_joined n text w v after_w after_v collection cluster first second c k r = rw (first, second, c, k, r) refl

pub name-found : (n : ObjectName) → IsObjectName n → read_name (object_name n.layer n.part) ≡ Some n
unfolding read_name object_name
name-found n is =
    let h = is.layer in
    let numbers : Numbers = record { full = n.layer.full; start = n.layer.start; end = n.layer.end; job = n.layer.job; part = n.part } in
    let read = numbers-found numbers (record { full = h.full; start = h.start; end = h.end; job = h.job; part = is.part }) in
    rw (word-found n.layer.collection _ (name_has_no_point n.layer.collection h.collection), word-found n.layer.cluster _ (name_has_no_point n.layer.cluster h.cluster), read, h.collection, h.cluster) refl

pub name-only : (text : List ℕ) (n : ObjectName) → read_name text ≡ Some n → IsObjectName n × (text ≡ object_name n.layer n.part)
unfolding read_name object_name
name-only text n e =
    let first = bind-some (read_word text) _ n e in
    let second = bind-some (read_word first.0.1) _ n first.2 in
    let numbers = bind-some (read_numbers second.0.1) _ n second.2 in
    let collection = bind-some (name_of first.0.0) _ n numbers.2 in
    let cluster = bind-some (name_of second.0.0) _ n collection.2 in
    let c = name_of-some first.0.0 collection.0 collection.1 in
    let k = name_of-some second.0.0 cluster.0 cluster.1 in
    let v = numbers-only second.0.1 numbers.0 numbers.1 in
    let same : object_of collection.0 cluster.0 numbers.0 ≡ n = let is = cluster.2 in cc in
    let h = v.0 in
    let text_is = name_joined numbers.0 text first.0.0 second.0.0 first.0.1 second.0.1 collection.0 cluster.0 (word-only text first.0.0 first.0.1 first.1) (word-only first.0.1 second.0.0 second.0.1 second.1) c.1 k.1 v.1 in
    subst (λ m. IsObjectName m × (text ≡ object_name m.layer m.part)) same (record { layer = record { collection = c.0; cluster = k.0; full = h.full; start = h.start; end = h.end; job = h.job }; part = h.part }, text_is)

pub names-exact : NamesAreExact
names-exact = record { found = name-found; only = name-only }

pub names-differ : NamesDiffer
names-differ m n hm hn e =
    let same : Some m ≡ Some n = sym (name-found m hm) ∙ (ap read_name e ∙ name-found n hn) in
    cc

read_is : (text : List ℕ) (o : Option ObjectName) → read_name text ≡ o → IsNameOf text o
read_is text (Some n) e = name-only text n e
read_is text None e = λ n h same. let some : Some n ≡ None = sym (name-found n h) ∙ (ap read_name (sym same) ∙ e) in absurd cc

-- what was read of a text is the object whose name it is
pub read_names : {E : Type 0} (text : List ℕ) (r : Result (Option ObjectName) E) → IfOk r (λ o. o ≡ read_name text) → IfOk r (IsNameOf text)
read_names text (Ok o) h = read_is text o (sym h)
read_names text (Err e) h = tt
