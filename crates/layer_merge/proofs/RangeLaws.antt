-- Range deletions that are put in, chunk by chunk.
use Rattle.std.proofs.Common.{◌≡◌, ℕ, ◌≤◌, Bool, true, false, cond, ◌&&◌, ◌||◌, sym, refl, ap, ap₂, arith, ◌∙◌, subst, List, [], ◌∷◌, ◌++◌, length, take, Option, Some, None, inl, inr, true≢false, append_assoc, not, Result, Ok, Err, is_err, is_ok}
use Rattle.std.specs.List.{AllByRecursion}
use Rattle.std.specs.Prelude.{◌==◌, ◌+◌}
use Rattle.std.proofs.lemmas.Bool.Decides.{nat_tests}
use Rattle.mvcc_keys.specs.declared.entries.Entry.{Entry}
use Rattle.row_codec.specs.declared.rows.Kind.{Kind}
use Rattle.list_laws.specs.Members.{Has}
use Rattle.list_laws.proofs.Members as members
use Rattle.chunk_file.specs.Entries.{is_range, are_ordered, comes_before, is_entry, is_row_key, may_follow}
use Rattle.chunk_file.specs.Chunks.{IsChunk}
use Rattle.chunk_file.proofs.EntryOrder.{entries-ordered}
use Rattle.layer_merge.specs.Loads.{World}
use Rattle.layer_merge.specs.Steps.{last_of}
use Rattle.layer_merge.specs.Stands.{entries_in, first_of, goes_on}
use Rattle.layer_merge.specs.declared.ranges.Numbered.{Numbered}
use Rattle.chunk_file.specs.Held.{IsEntryStart, left_at}
use Rattle.chunk_file.proofs.HeldLaws.{left-is}
use Rattle.layer_merge.specs.Ranges.{AddsAll, is_before, IsUpward, TakesRanges, TakenSoFar, begins_with_range}
use Rattle.list_laws.proofs.Bools.{and-parts}

-- ---- what is put in

pub adds-none : (rs : List Entry) → AddsAll [] rs rs
adds-none rs = record { kept = λ e h. h; there = λ e h. absurd h; only = λ e h. inl h }

pub adds-point : (e : Entry) (rs : List Entry) → is_range e ≡ false → AddsAll (e ∷ []) rs rs
adds-point e rs p = record { kept = λ x h. h; there = λ x. elim [ inl i ↦ λ r. absurd (true≢false (sym r ∙ ap is_range i ∙ p)) | inr i ↦ absurd i ]; only = λ x h. inl h }

-- one after the other, in either order of the lists
pub adds-both : (xs ys a b c : List Entry) → AddsAll xs a b → AddsAll ys b c → AddsAll (ys ++ xs) a c
adds-both xs ys a b c p q = record {
  kept = λ e h. q.kept e (p.kept e h);
  there = λ e h r. elim (members.has-append_cases e ys xs h) [ inl i ↦ q.there e i r | inr j ↦ let t = p.there e j r in (t.0, (q.kept t.0 t.1.0, t.1.1)) ];
  only = λ e h. elim (q.only e h) [ inl i ↦ elim (p.only e i) [ inl j ↦ inl j | inr j ↦ inr (members.has-append_right e ys xs j.0, j.1) ] | inr i ↦ inr (members.has-append_left e ys xs i.0, i.1) ];
}

pub adds-then : (e : Entry) (es a b c : List Entry) → AddsAll (e ∷ []) a b → AddsAll es b c → AddsAll (e ∷ es) a c
adds-then e es a b c p q = record {
  kept = λ x h. q.kept x (p.kept x h);
  there = λ x. elim [ inl i ↦ λ r. (let t = p.there x (inl i) r in (t.0, (q.kept t.0 t.1.0, t.1.1))) | inr j ↦ q.there x j ];
  only = λ x h. elim (q.only x h) [ inl i ↦ elim (p.only x i) [ inl j ↦ inl j | inr j ↦ inr (only-one x j.0, j.1) ] | inr i ↦ inr (inr i.0, i.1) ];
}
  where
    only-one : (x : Entry) → Has x (e ∷ []) → Has x (e ∷ es)
    only-one x (inl i) = inl i
    only-one x (inr i) = absurd i

-- puts and deletions change nothing
pub adds-after_points : (ps es a b : List Entry) → ((e : Entry) → Has e ps → is_range e ≡ false) → AddsAll es a b → AddsAll (ps ++ es) a b
adds-after_points ps es a b n p = record {
  kept = p.kept;
  there = λ e h r. elim (members.has-append_cases e ps es h) [ inl i ↦ absurd (true≢false (sym r ∙ n e i)) | inr j ↦ p.there e j r ];
  only = λ e h. elim (p.only e h) [ inl i ↦ inl i | inr j ↦ inr (members.has-append_right e ps es j.0, j.1) ];
}

-- ---- chunks

upward : (table : ℕ) (kinds : List Kind) (e : Entry) → is_entry table kinds e ≡ true → IsUpward e
unfolding is_entry
upward table kinds (Entry.Put key at value) h = tt
upward table kinds (Entry.Del key at) h = tt
upward table kinds (Entry.Range lo hi at) h = (and-parts (is_row_key table kinds lo && is_row_key table kinds hi) _ h).1

all-upward : (table : ℕ) (kinds : List Kind) (es : List Entry) → AllByRecursion (λ e. is_entry table kinds e ≡ true) es → AllByRecursion IsUpward es
all-upward table kinds [] a = tt
all-upward table kinds (e ∷ es) a = (upward table kinds e a.0, all-upward table kinds es a.1)

pub chunk-upward : (table : ℕ) (kinds : List Kind) (es : List Entry) → IsChunk table kinds es → AllByRecursion IsUpward es
chunk-upward table kinds es c = all-upward table kinds es c.each

pub entries-push : (w : World) (layer : ℕ) (ns : List ℕ) (n : ℕ) → entries_in w layer (ns ++ n ∷ []) ≡ entries_in w layer ns ++ w layer n
entries-push w layer [] n = right (w layer n)
  where
    right : (xs : List Entry) → xs ++ [] ≡ xs
    right [] = refl
    right (x ∷ xs) = ap (λ (ys : List Entry). x ∷ ys) (right xs)
entries-push w layer (m ∷ ns) n = ap (λ (xs : List Entry). w layer m ++ xs) (entries-push w layer ns n) ∙ sym (append_assoc (w layer m) (entries_in w layer ns) (w layer n))

-- ---- order

before-by : (a b c l : Bool) → cond a (b && c) (b || l) ≡ true → b ≡ false → a ≡ false
before-by true b c l h e = absurd (true≢false (sym (and-parts b c h).0 ∙ e))
before-by false b c l h e = refl

after-by : (a b c l : Bool) → cond a (b && c) (b || l) ≡ true → a ≡ true → b ≡ true
after-by true b c l h e = (and-parts b c h).0
after-by false b c l h e = absurd (true≢false (sym e))

before-point : (d e : Entry) → comes_before d e ≡ true → is_range e ≡ false → is_range d ≡ false
unfolding comes_before
before-point d e h p = before-by (is_range d) (is_range e) _ _ h p

after-range : (d e : Entry) → comes_before d e ≡ true → is_range d ≡ true → is_range e ≡ true
unfolding comes_before
after-range d e h p = after-by (is_range d) (is_range e) _ _ h p

ordered-tail : (e : Entry) (es : List Entry) → are_ordered None (e ∷ es) ≡ true → are_ordered None es ≡ true
ordered-tail e [] o = refl
ordered-tail e (x ∷ xs) o = (and-parts (comes_before e x) (are_ordered (Some x) xs) o).1

-- what stands in front comes before what stands behind
across : (xs ys : List Entry) (d e : Entry) → are_ordered None (xs ++ ys) ≡ true → Has d xs → Has e ys → comes_before d e ≡ true
across [] ys d e o h k = absurd h
across (x ∷ xs) ys d e o (inl i) k = subst (λ (y : Entry). comes_before y e ≡ true) (sym i) (members.has-AllByRecursion (λ y. comes_before x y ≡ true) e (xs ++ ys) (entries-ordered.throughout x (xs ++ ys) o) (members.has-append_right e xs ys k))
across (x ∷ xs) ys d e o (inr i) k = across xs ys d e (ordered-tail x (xs ++ ys) o) i k

pub ordered-front : (xs ys : List Entry) → are_ordered None (xs ++ ys) ≡ true → are_ordered None xs ≡ true
ordered-front [] ys o = refl
ordered-front (x ∷ xs) ys o = from (Some x) xs o
  where
    from : (last : Option Entry) (zs : List Entry) → are_ordered last (zs ++ ys) ≡ true → are_ordered last zs ≡ true
    from last [] h = refl
    from last (z ∷ zs) h = let b = and-parts (may_follow last z) (are_ordered (Some z) (zs ++ ys)) h in ap₂ (λ (p q : Bool). p && q) b.0 (from (Some z) zs b.1)

-- ---- the walk backwards

all-ranges : (chunk tail : List Entry) → are_ordered None (chunk ++ tail) ≡ true → begins_with_range (first_of chunk) ≡ true → (e : Entry) → Has e chunk → is_range e ≡ true
all-ranges [] tail o b e h = absurd h
all-ranges (x ∷ xs) tail o b e (inl i) = ap is_range i ∙ b
all-ranges (x ∷ xs) tail o b e (inr i) = after-range x e (across (x ∷ []) (xs ++ tail) x e o (inl refl) (members.has-append_left e xs tail i)) b

ordered-behind : (xs ys : List Entry) → are_ordered None (xs ++ ys) ≡ true → are_ordered None ys ≡ true
ordered-behind [] ys o = o
ordered-behind (x ∷ xs) ys o = ordered-behind xs ys (ordered-tail x (xs ++ ys) o)

-- a chunk that begins with a range deletion is passed
pub taken-more : (all left chunk old now new : List Entry) (after : Option Numbered) (here : Numbered) → here.chunk ≡ chunk → are_ordered None all ≡ true → begins_with_range (first_of chunk) ≡ true → AddsAll chunk now new → TakenSoFar all (left ++ chunk) after old now → TakenSoFar all left (Some here) old new
taken-more all left chunk old now new after here same o b a t = record {
  begins = (t.tail, ap (λ (l : List Entry). l ++ t.tail) (sym same));
  tail = chunk ++ t.tail;
  whole = t.whole ∙ append_assoc left chunk t.tail;
  ranges = λ e h. elim (members.has-append_cases e chunk t.tail h) [ inl i ↦ all-ranges chunk t.tail (ordered-behind left (chunk ++ t.tail) (subst (λ (l : List Entry). are_ordered None l ≡ true) (t.whole ∙ append_assoc left chunk t.tail) o)) b e i | inr j ↦ t.ranges e j ];
  added = adds-both t.tail chunk old now new t.added a;
}

-- a chunk that doesn't is the last one of which points are walked
pub taken-last : (all left chunk old now new : List Entry) (after : Option Numbered) → are_ordered None all ≡ true → begins_with_range (first_of chunk) ≡ false → 1 ≤ length chunk → AddsAll chunk now new → TakenSoFar all (left ++ chunk) after old now → TakesRanges all (left ++ chunk) old new
taken-last all left chunk old now new after o b n a t = record {
  added = subst (λ (l : List Entry). AddsAll l old new) (sym whole) (adds-after_points left (chunk ++ t.tail) old new points (adds-both t.tail chunk old now new t.added a));
  points = λ e h p. elim (members.has-append_cases e (left ++ chunk) t.tail (subst (λ (l : List Entry). Has e l) t.whole h)) [ inl i ↦ i | inr j ↦ absurd (true≢false (sym (t.ranges e j) ∙ p)) ];
  only = λ e h. subst (λ (l : List Entry). Has e l) (sym t.whole) (members.has-append_left e (left ++ chunk) t.tail h);
  ordered = ordered-front (left ++ chunk) t.tail (subst (λ (l : List Entry). are_ordered None l ≡ true) t.whole o);
}
  where
    whole : all ≡ left ++ (chunk ++ t.tail)
    whole = t.whole ∙ append_assoc left chunk t.tail

    first : (es : List Entry) → 1 ≤ length es → begins_with_range (first_of es) ≡ false → (x : Entry) × (Has x es × (is_range x ≡ false))
    first [] m c = absurd (omega arith)
    first (x ∷ xs) m c = (x, (inl refl, c))

    points : (e : Entry) → Has e left → is_range e ≡ false
    points e h = let x = first chunk n b in before-point e x.0 (across left (chunk ++ t.tail) e x.0 (subst (λ (l : List Entry). are_ordered None l ≡ true) whole o) h (members.has-append_left x.0 chunk t.tail x.1.0)) x.1.1

pub taken-all : (all old now : List Entry) (after : Option Numbered) → TakenSoFar all [] after old now → TakesRanges all [] old now
taken-all all old now after t = record {
  added = subst (λ (l : List Entry). AddsAll l old now) (sym t.whole) t.added;
  points = λ e h p. absurd (true≢false (sym (t.ranges e (subst (λ (l : List Entry). Has e l) t.whole h)) ∙ p));
  only = λ e h. absurd h;
  ordered = refl;
}

pub taken-start : (all old : List Entry) → TakenSoFar all all None old old
taken-start all old = record { tail = []; begins = tt; whole = sym (right all); ranges = λ e h. absurd h; added = adds-none old }
  where
    right : (xs : List Entry) → xs ++ [] ≡ xs
    right [] = refl
    right (x ∷ xs) = ap (λ (ys : List Entry). x ∷ ys) (right xs)

pub pushed : (w : World) (layer0 layer : ℕ) (numbers rest : List ℕ) (n : ℕ) (chunk : List Entry) → numbers ≡ rest ++ n ∷ [] → layer ≡ layer0 → chunk ≡ w layer n → entries_in w layer0 numbers ≡ entries_in w layer0 rest ++ chunk
pushed w layer0 layer numbers rest n chunk e l c = ap (entries_in w layer0) e ∙ entries-push w layer0 rest n ∙ ap (λ (x : List Entry). entries_in w layer0 rest ++ x) (sym (c ∙ ap (λ (x : ℕ). w x n) l))

pub popped : (w : World) (layer0 layer : ℕ) (numbers rest : List ℕ) (n : ℕ) (chunk all old now : List Entry) (after : Option Numbered) → numbers ≡ rest ++ n ∷ [] → layer ≡ layer0 → chunk ≡ w layer n → TakenSoFar all (entries_in w layer0 numbers) after old now → TakenSoFar all (entries_in w layer0 rest ++ chunk) after old now
popped w layer0 layer numbers rest n chunk all old now after e l c t = subst (λ (x : List Entry). TakenSoFar all x after old now) (pushed w layer0 layer numbers rest n chunk e l c) t

pub pushed-ok : {T E : Type 0} (r : Result T E) (xs a b : List ℕ) → is_err r ≡ false → xs ≡ cond (is_ok r) a b → xs ≡ a
pushed-ok (Ok x) xs a b e h = h
pushed-ok (Err x) xs a b e h = absurd (true≢false e)

pub not-false : (b : Bool) → not b ≡ false → b ≡ true
not-false true e = refl
not-false false e = absurd (true≢false e)

pub taken-stop : (w : World) (layer0 layer : ℕ) (numbers rest back : List ℕ) (n : ℕ) (chunk all old now new : List Entry) (after : Option Numbered) → numbers ≡ rest ++ n ∷ [] → back ≡ rest ++ n ∷ [] → layer ≡ layer0 → chunk ≡ w layer n → are_ordered None all ≡ true → begins_with_range (first_of chunk) ≡ false → 1 ≤ length chunk → AddsAll chunk now new → TakenSoFar all (entries_in w layer0 numbers) after old now → TakesRanges all (entries_in w layer0 back) old new
taken-stop w layer0 layer numbers rest back n chunk all old now new after e f l c o b s a t = subst (λ (x : List Entry). TakesRanges all x old new) (sym (pushed w layer0 layer back rest n chunk f l c)) (taken-last all (entries_in w layer0 rest) chunk old now new after o b s a (popped w layer0 layer numbers rest n chunk all old now after e l c t))

-- ---- the test of the chunk after it

-- the last entry of a chunk comes before the first of what follows in order
goes-across : (last : Option Entry) (before chunk after more : List Entry) → ((d : Entry) → last ≡ Some d → Has d chunk) → are_ordered None (before ++ (chunk ++ (after ++ more))) ≡ true → goes_on last (first_of after) ≡ true
goes-across None before chunk after more h o = refl
goes-across (Some d) before chunk [] more h o = refl
goes-across (Some d) before chunk (e ∷ after) more h o = across chunk ((e ∷ after) ++ more) d e (ordered-behind before (chunk ++ ((e ∷ after) ++ more)) o) (h d refl) (inl refl)

left-among : (chunk : List Entry) (offset : ℕ) → IsEntryStart chunk offset → (d : Entry) → first_of (left_at chunk offset) ≡ Some d → Has d chunk
left-among chunk offset start d f = by (left_at chunk offset) refl f
  where
    by : (l : List Entry) → left_at chunk offset ≡ l → first_of l ≡ Some d → Has d chunk
    by [] e g = absurd (cc)
    by (x ∷ xs) e g = let same = sym (left-is chunk start.0 offset start.1) ∙ e in
        let i : x ≡ d = cc in
        subst (λ (l : List Entry). Has d l) (sym (start.1.whole ∙ ap (λ (l : List Entry). start.1.before ++ l) same)) (members.has-append_right d start.1.before (x ∷ xs) (inl (sym i)))

pub broken : (number n : ℕ) (g : Bool) → ((n == number + 1) && not g) ≡ true → (n ≡ number + 1) × (g ≡ false)
broken number n true h = absurd (two (n == number + 1) h)
  where
    two : (b : Bool) → (b && false) ≡ true → ⊥
    two true e = true≢false (sym e)
    two false e = true≢false (sym e)
broken number n false h = (same n number (and-parts (n == number + 1) true h).0, refl)
  where
    same : (a b : ℕ) → (a == b + 1) ≡ true → a ≡ b + 1
    same a b e = grind (arith, nat_tests)

pub not-broken : (number n : ℕ) (g : Bool) → ((n == number + 1) && not g) ≡ false → n ≡ number + 1 → g ≡ true
not-broken number n true h e = refl
not-broken number n false h e = absurd (true≢false (sym (grind (arith, nat_tests)) ∙ h))

-- chunks in order are never named
pub unbroken : (all left chunk old now : List Entry) (after : Option Numbered) (number offset : ℕ) → IsEntryStart chunk offset → is_before number (first_of (left_at chunk offset)) after ≡ false → are_ordered None all ≡ true → TakenSoFar all (left ++ chunk) after old now → ⊥
unbroken all left chunk old now None number offset start b o t = true≢false b
unbroken all left chunk old now (Some after) number offset start b o t =
    let g = broken number after.number (goes_on (first_of (left_at chunk offset)) (first_of after.chunk)) (not-false ((after.number == number + 1) && not (goes_on (first_of (left_at chunk offset)) (first_of after.chunk))) b) in
    true≢false (sym (goes-across (first_of (left_at chunk offset)) left chunk after.chunk t.begins.0 (left-among chunk offset start) (subst (λ (l : List Entry). are_ordered None l ≡ true) (t.whole ∙ append_assoc left chunk t.tail ∙ ap (λ (l : List Entry). left ++ (chunk ++ l)) t.begins.1) o)) ∙ g.1)

last-push : (es : List Entry) (e : Entry) → last_of (es ++ e ∷ []) ≡ Some e
last-push [] e = refl
last-push (d ∷ []) e = refl
last-push (d ∷ c ∷ es) e = last-push (c ∷ es) e

-- the last entry of a chunk is the one of which no more than it is left
last-left : (chunk left before : List Entry) (b : Option Entry) → chunk ≡ before ++ left → length left ≤ 1 → goes_on (first_of left) b ≡ false → goes_on (last_of chunk) b ≡ false
last-left chunk [] before b e n h = absurd (true≢false h)
last-left chunk (x ∷ []) before b e n h = ap (λ (l : List Entry). goes_on (last_of l) b) e ∙ ap (λ (o : Option Entry). goes_on o b) (last-push before x) ∙ h
last-left chunk (x ∷ y ∷ left) before b e n h = absurd (omega (arith, n))

pub last-at : (chunk : List Entry) (offset : ℕ) (b : Option Entry) → IsEntryStart chunk offset → length (left_at chunk offset) ≤ 1 → goes_on (first_of (left_at chunk offset)) b ≡ false → goes_on (last_of chunk) b ≡ false
last-at chunk offset b start n h = last-left chunk (left_at chunk offset) start.1.before b (start.1.whole ∙ ap (λ (l : List Entry). start.1.before ++ l) (sym (left-is chunk start.0 offset start.1))) n h

-- the same where it goes on
goes-left : (chunk left before : List Entry) (b : Option Entry) → chunk ≡ before ++ left → length left ≤ 1 → 1 ≤ length left → goes_on (first_of left) b ≡ true → goes_on (last_of chunk) b ≡ true
goes-left chunk [] before b e n m h = absurd (omega (arith, m))
goes-left chunk (x ∷ []) before b e n m h = ap (λ (l : List Entry). goes_on (last_of l) b) e ∙ ap (λ (o : Option Entry). goes_on o b) (last-push before x) ∙ h
goes-left chunk (x ∷ y ∷ left) before b e n m h = absurd (omega (arith, n))

pub goes-at : (chunk : List Entry) (offset : ℕ) (b : Option Entry) → IsEntryStart chunk offset → length (left_at chunk offset) ≤ 1 → 1 ≤ length (left_at chunk offset) → goes_on (first_of (left_at chunk offset)) b ≡ true → goes_on (last_of chunk) b ≡ true
goes-at chunk offset b start n m h = goes-left chunk (left_at chunk offset) start.1.before b (start.1.whole ∙ ap (λ (l : List Entry). start.1.before ++ l) (sym (left-is chunk start.0 offset start.1))) n m h

pub one-left : (l : List Entry) → l ≡ take 1 l → length l ≤ 1
one-left [] e = omega arith
one-left (x ∷ []) e = omega arith
one-left (x ∷ y ∷ l) e = omega (arith, ap length e)

-- the last entry of a chunk and the first of the next one, where they are in order
pub last-goes : (w : World) (layer n : ℕ) (numbers rest : List ℕ) (after : List Entry) (d : Option Entry) → numbers ≡ n ∷ rest → after ≡ w layer n → are_ordered d (entries_in w layer numbers) ≡ true → goes_on d (first_of after) ≡ true
last-goes w layer n numbers rest after d e f o = by d after (subst (λ (l : List Entry). are_ordered d (l ++ entries_in w layer rest) ≡ true) (sym f) (subst (λ (ns : List ℕ). are_ordered d (entries_in w layer ns) ≡ true) e o))
  where
    by : (d : Option Entry) (after : List Entry) → are_ordered d (after ++ entries_in w layer rest) ≡ true → goes_on d (first_of after) ≡ true
    by None after h = refl
    by (Some d) [] h = refl
    by (Some d) (x ∷ after) h = (and-parts (comes_before d x) (are_ordered (Some x) (after ++ entries_in w layer rest)) h).0
