-- What is done to one row, and to all rows.
use Rattle.std.proofs.Common.{◌≡◌, ◌∙◌, ℕ, zero, suc, ◌+◌, ◌<◌, ◌≤◌, ◌==◌, Bool, true, false, cond, not, sym, refl, ap, ap₂, subst, List, [], ◌∷◌, ◌++◌, length, get_or, take, drop, filter, Option, Some, arith, append_assoc}
use Rattle.std.specs.Global.{Vec}
use Rattle.std.specs.Map.Calls.{RetainsPairs}
use Rattle.std.proofs.lemmas.Bool.Decides.{nat_tests}
use Rattle.std.proofs.lemmas.List.{drop_more}
use Rattle.mvcc_keys.specs.Times.{Time, time_le, time_lt}
use Rattle.mvcc_keys.specs.declared.entries.Entry.{Entry}
use Rattle.range_tombstones.specs.declared.deletion.RangeDeletion.{RangeDeletion}
use Rattle.range_tombstones.specs.Ranges.{newest_cover}
use Rattle.version_store.specs.Tables.{Bytes, entries_of}
use Rattle.version_store.specs.Rows.{chosen_in, count_left, count_newer, first_upto, is_hidden, row_chosen, row_events, row_facts, shows, shows_first, trimmed, trimmed_rows, with_row, with_version}
use Rattle.version_store.specs.declared.choice.Choice.{Choice}
use Rattle.version_store.specs.declared.row.Version.{Version}

one : (n : ℕ) → 1 + n ≡ suc n
one n = omega arith

-- a version is put behind the newer ones
with-newer : (v : Version) (vs : List Version) → take (count_newer v.at vs) vs ++ v ∷ drop (count_newer v.at vs) vs ≡ with_version v vs
unfolding with_version count_newer
with-newer v [] = refl
with-newer v (w ∷ ws) = by (time_lt v.at w.at) (with-newer v ws)
  where
    by : (b : Bool) → take (count_newer v.at ws) ws ++ v ∷ drop (count_newer v.at ws) ws ≡ with_version v ws → take (cond b (1 + count_newer v.at ws) 0) (w ∷ ws) ++ v ∷ drop (cond b (1 + count_newer v.at ws) 0) (w ∷ ws) ≡ cond b (w ∷ with_version v ws) (v ∷ w ∷ ws)
    by true more = ap (λ n. take n (w ∷ ws) ++ v ∷ drop n (w ∷ ws)) (one (count_newer v.at ws)) ∙ ap (λ (xs : List Version). w ∷ xs) more
    by false more = refl

pub inserted : (v : Version) (vs new : List Version) (n : ℕ) → n ≡ count_newer v.at vs → new ≡ take n vs ++ v ∷ drop n vs → new ≡ with_version v vs
inserted v vs new n e is = is ∙ (ap (λ m. take m vs ++ v ∷ drop m vs) e ∙ with-newer v vs)

left-is : (g : Time) (cover : Option Time) (vs : List Version) → take (count_left g cover vs) vs ≡ trimmed g cover vs
unfolding trimmed count_left
left-is g cover [] = refl
left-is g cover (v ∷ vs) = by (time_lt g v.at) (left-is g cover vs)
  where
    by : (b : Bool) → take (count_left g cover vs) vs ≡ trimmed g cover vs → take (cond b (1 + count_left g cover vs) (cond (shows v.value (is_hidden v.at cover)) 1 0)) (v ∷ vs) ≡ cond b (v ∷ trimmed g cover vs) (cond (shows v.value (is_hidden v.at cover)) (v ∷ []) [])
    by true more = ap (λ n. take n (v ∷ vs)) (one (count_left g cover vs)) ∙ ap (λ (xs : List Version). v ∷ xs) more
    by false more = at (shows v.value (is_hidden v.at cover))
      where
        at : (b : Bool) → take (cond b 1 0) (v ∷ vs) ≡ cond b (v ∷ []) []
        at true = refl
        at false = refl

pub left : (g : Time) (cover : Option Time) (vs new : List Version) (n : ℕ) → n ≡ count_left g cover vs → new ≡ take n vs → new ≡ trimmed g cover vs
left g cover vs new n e is = is ∙ (ap (λ m. take m vs) e ∙ left-is g cover vs)

not-after : (s t : Time) → time_le s t ≡ not (time_lt t s)
not-after s t = grind (arith, nat_tests)

left-parts : (g : Time) (cover : Option Time) (vs : List Version) → count_left g cover vs ≡ count_newer g vs + cond (shows_first cover (first_upto g vs)) 1 0
unfolding count_left count_newer first_upto
left-parts g cover [] = refl
left-parts g cover (v ∷ vs) = by (time_lt g v.at) (left-parts g cover vs) ∙ ap (λ (b : Bool). cond (time_lt g v.at) (1 + count_newer g vs) 0 + cond (shows_first cover (cond b (Some v) (first_upto g vs))) 1 0) (sym (not-after v.at g))
  where
    by : (b : Bool) → count_left g cover vs ≡ count_newer g vs + cond (shows_first cover (first_upto g vs)) 1 0 → cond b (1 + count_left g cover vs) (cond (shows v.value (is_hidden v.at cover)) 1 0) ≡ cond b (1 + count_newer g vs) 0 + cond (shows_first cover (cond (not b) (Some v) (first_upto g vs))) 1 0
    by true more = omega (arith, more)
    by false more = omega arith

pub left-shown : (g : Time) (cover : Option Time) (vs : List Version) (n : ℕ) → n ≡ count_newer g vs → shows_first cover (first_upto g vs) ≡ true → n + 1 ≡ count_left g cover vs
left-shown g cover vs n e shown = ap (λ m. m + 1) e ∙ (ap (λ (b : Bool). count_newer g vs + cond b 1 0) (sym shown) ∙ sym (left-parts g cover vs))

pub left-hidden : (g : Time) (cover : Option Time) (vs : List Version) (n : ℕ) → n ≡ count_newer g vs → shows_first cover (first_upto g vs) ≡ false → n ≡ count_left g cover vs
left-hidden g cover vs n e shown = e ∙ (omega arith ∙ (ap (λ (b : Bool). count_newer g vs + cond b 1 0) (sym shown) ∙ sym (left-parts g cover vs)))

left-all : (g : Time) (cover : Option Time) (vs : List Version) → length vs ≤ count_newer g vs → count_newer g vs ≡ count_left g cover vs
unfolding count_left count_newer
left-all g cover [] l = refl
left-all g cover (v ∷ vs) l = by (time_lt g v.at) l (left-all g cover vs)
  where
    by : (b : Bool) → suc (length vs) ≤ cond b (1 + count_newer g vs) 0 → (length vs ≤ count_newer g vs → count_newer g vs ≡ count_left g cover vs) → cond b (1 + count_newer g vs) 0 ≡ cond b (1 + count_left g cover vs) (cond (shows v.value (is_hidden v.at cover)) 1 0)
    by true l more = ap (λ m. 1 + m) (more (omega arith))
    by false l more = absurd (omega arith)

pub left-whole : (g : Time) (cover : Option Time) (vs : List Version) (n : ℕ) → n ≡ count_newer g vs → length vs ≤ n → n ≡ count_left g cover vs
left-whole g cover vs n e l = e ∙ left-all g cover vs (omega (arith, e, l))

pub newer-bound : (t : Time) (vs : List Version) → count_newer t vs ≤ length vs
unfolding count_newer
newer-bound t [] = omega arith
newer-bound t (v ∷ vs) = by (time_lt t v.at) (newer-bound t vs)
  where
    by : (b : Bool) → count_newer t vs ≤ length vs → cond b (1 + count_newer t vs) 0 ≤ suc (length vs)
    by true more = omega arith
    by false more = omega arith

-- ---- one row's events

-- more behind two lists that begin alike
pub take-more : {X : Type 0} (n : ℕ) (xs ys zs : List X) → take n xs ≡ take n ys → take n (xs ++ zs) ≡ take n (ys ++ zs)
take-more {X} n xs ys zs e = front n xs ∙ (ap (λ (l : List X). take n (l ++ zs)) e ∙ sym (front n ys))
  where
    front : (m : ℕ) (l : List X) → take m (l ++ zs) ≡ take m (take m l ++ zs)
    front zero l = refl
    front (suc m) [] = refl
    front (suc m) (x ∷ l) = ap (λ (r : List X). x ∷ r) (front m l)

pub chosen-more : (choice : Choice) (place : Option (Bytes × Time)) (n : ℕ) (e : Vec ℕ × List Version) (es : List (Vec ℕ × List Version)) (old new whole : List Entry) → take n new ≡ take n (old ++ row_chosen choice place e.0.items e.1) → take n (old ++ chosen_in choice place (e ∷ es)) ≡ whole → take n (new ++ chosen_in choice place es) ≡ whole
unfolding chosen_in
chosen-more choice place n e es old new whole added kept = take-more n new (old ++ row_chosen choice place e.0.items e.1) (chosen_in choice place es) added ∙ (ap (take n) (append_assoc old (row_chosen choice place e.0.items e.1) (chosen_in choice place es)) ∙ kept)

pub events-more : (p : Bytes → Time → Bool) (k : Bytes) (vs : List Version) (i : ℕ) (v : Version) (old new whole : List Entry) → i < length vs → v ≡ get_or vs i v → new ≡ old ++ row_events p k (v ∷ []) → old ++ row_events p k (drop i vs) ≡ whole → new ++ row_events p k (drop (i + 1) vs) ≡ whole
events-more p k vs i v old new whole l at pushed kept = ap (λ (xs : List Entry). xs ++ rest) pushed ∙ (append_assoc old (row_events p k (v ∷ [])) rest ∙ (ap (λ (xs : List Entry). old ++ xs) (sym there) ∙ kept))
  where
    rest : List Entry
    rest = row_events p k (drop (i + 1) vs)

    split : (w : Version) (ws : List Version) → row_events p k (w ∷ ws) ≡ row_events p k (w ∷ []) ++ row_events p k ws
    split w ws = by (p k w.at)
      where
        by : (b : Bool) → entries_of (row_facts k (cond b (w ∷ filter (λ u. p k u.at) ws) (filter (λ u. p k u.at) ws))) ≡ entries_of (row_facts k (cond b (w ∷ []) [])) ++ entries_of (row_facts k (filter (λ u. p k u.at) ws))
        by true = refl
        by false = refl

    there : row_events p k (drop i vs) ≡ row_events p k (v ∷ []) ++ rest
    there = ap (row_events p k) (drop_more vs i v l) ∙ (split (get_or vs i v) (drop (i + 1) vs) ∙ ap (λ (w : Version). row_events p k (w ∷ []) ++ rest) (sym at))

-- ---- all rows trimmed

pub retained : {F : Type 0} (T : F → Vec ℕ → List Version → Bool → List Version → F → Type 0) (g : Time) (rs : List RangeDeletion) (f : F) → ((k : Vec ℕ) (vs : List Version) (b : Bool) (ws : List Version) (f' : F) → T f k vs b ws f' → (b ≡ not (length ws == 0)) × (ws ≡ trimmed g (newest_cover k.items g rs) vs) × (f' ≡ f)) → (es kept : List (Vec ℕ × List Version)) → RetainsPairs T f es kept → kept ≡ trimmed_rows g rs es
unfolding trimmed_rows
retained T g rs f says [] kept r = r
retained {F} T g rs f says (e ∷ es) kept r = by r (λ x s. retained T g rs f says es x s)
  where
    row : (ws : List Version) (b : Bool) (xs : List (Vec ℕ × List Version)) → b ≡ not (length ws == 0) → cond b ((e.0, ws) ∷ xs) xs ≡ with_row e.0 ws xs
    row [] b xs m = rw m refl
    row (w ∷ ws) b xs m = rw (m, some (length ws)) refl
      where
        some : (n : ℕ) → not (suc n == 0) ≡ true
        some n = grind (arith, nat_tests)

    by : RetainsPairs T f (e ∷ es) kept → ((xs : List (Vec ℕ × List Version)) → RetainsPairs T f es xs → xs ≡ trimmed_rows g rs es) → kept ≡ with_row e.0 (trimmed g (newest_cover e.0.items g rs) e.1) (trimmed_rows g rs es)
    by (b, ws, f', xs, t, s, is) more =
        let m = says e.0 e.1 b ws f' t in
        is ∙ (row ws b xs m.0 ∙ ap₂ (with_row e.0) m.1 (more xs (subst (λ (x : F). RetainsPairs T x es xs) m.2 s)))
