-- Steps of a walk, one after the other.
use Rattle.std.proofs.Common.{◌≡◌, ℕ, ◌≤◌, ◌+◌, false, sym, refl, ap, ◌∙◌, subst, List, [], ◌∷◌, ◌++◌, map, Option, Some, None, inl, inr, ◌⊎◌, Result, Ok, Err, Bool, IfErr, IfOk, IfSome, arith, append_assoc, append-nil, IsPermutation, length, true, cond}
use Rattle.std.proofs.lemmas.Bool.Decides.{nat_tests}
use Rattle.std.proofs.lemmas.List.{map-append}
use Rattle.std.proofs.lemmas.List.Sums.{sum_by-cons, sum_by-append}
use Rattle.std.proofs.lemmas.List.Sorted.{IsPermutation-sym, sum_by-IsPermutation}
use Rattle.mvcc_keys.specs.declared.entries.Entry.{Entry}
use Rattle.row_codec.specs.declared.rows.Kind.{Kind}
use Rattle.std.specs.Prelude.{◌==◌, ◌&&◌}
use Rattle.chunk_file.specs.Chunks.{chunk_bytes, head_code, read_chunk}
use Rattle.list_laws.proofs.Members as members
use Rattle.layer_merge.specs.declared.chunks.MergeFault.{MergeFault}
use Rattle.layer_merge.specs.declared.chunks.MergeFault.TheVariants.{Chunk, Malformed, Memory}
use Rattle.layer_merge.specs.declared.ranges.Waiting.{Waiting}
use Rattle.layer_merge.specs.Loads.{IsLoadFault, Load, load, with_load, with_loads}
use Rattle.layer_merge.specs.Stands.{Stand, first_of, goes_on, stand}
use Rattle.layer_merge.specs.Steps.{AreHeld, IsHeld, IsLoaded, IsMergeFault, IsOfHeld, IsOutOfOrder, IsStep, MayLoad, is_load, last_of, loads_of, times, to_begin, to_load}

-- ---- loads

pub loads-none : (told : Option (List Load)) → told ≡ with_loads [] told
loads-none None = refl
loads-none (Some ls) = ap Some (sym (append-nil ls))

loads-then : (xs ys : List Load) (told : Option (List Load)) → with_loads ys (with_loads xs told) ≡ with_loads (xs ++ ys) told
loads-then xs ys None = refl
loads-then xs ys (Some ls) = ap Some (append_assoc ls xs ys)

pub told-then : (xs ys : List Load) (a b c : Option (List Load)) → b ≡ with_loads xs a → c ≡ with_loads ys b → c ≡ with_loads (xs ++ ys) a
told-then xs ys a b c p q = q ∙ ap (with_loads ys) p ∙ loads-then xs ys a

pub times-then : (x : Load) (xs ys : List Load) → times x (xs ++ ys) ≡ times x xs + times x ys
times-then x xs ys = sum_by-append _ xs ys

load-append : (table : ℕ) (x : Load) (xs ys : List Stand) → to_load table x (xs ++ ys) ≡ to_load table x xs + to_load table x ys
load-append table x xs ys = sum_by-append _ xs ys

load-permuted : (table : ℕ) (x : Load) (xs ys : List Stand) → IsPermutation xs ys → to_load table x ys ≡ to_load table x xs
load-permuted table x xs ys p = sum_by-IsPermutation _ xs ys p

begin-cons : (table : ℕ) (x : Load) (p : Waiting) (ps : List Waiting) → to_begin table x (p ∷ ps) ≡ times x (loads_of table p.layer p.numbers.items) + to_begin table x ps
begin-cons table x p ps = sum_by-cons _ p ps

pub begin-push : (table : ℕ) (x : Load) (ps : List Waiting) (p : Waiting) → to_begin table x (ps ++ p ∷ []) ≡ to_begin table x ps + times x (loads_of table p.layer p.numbers.items)
begin-push table x ps p = sum_by-append _ ps (p ∷ []) ∙ omega arith

pub begin-none : (table : ℕ) (x : Load) (ready waiting : List Waiting) → ready ≡ [] → to_begin table x ready + to_begin table x waiting ≤ to_begin table x waiting
begin-none table x ready waiting e = omega (arith, ap (to_begin table x) e)

pub begin-more : (table : ℕ) (x : Load) (first waiting ps ready ready' : List Waiting) (p p' : Waiting) → waiting ≡ p ∷ ps → ready' ≡ ready ++ p' ∷ [] → times x (loads_of table p'.layer p'.numbers.items) ≤ times x (loads_of table p.layer p.numbers.items) → to_begin table x ready + to_begin table x waiting ≤ to_begin table x first → to_begin table x ready' + to_begin table x ps ≤ to_begin table x first
begin-more table x first waiting ps ready ready' p p' e f le h = omega (arith, le, h, ap (to_begin table x) e, begin-cons table x p ps, ap (to_begin table x) f, begin-push table x ready p')

times-push : (table : ℕ) (x : Load) (layer : ℕ) (rest : List ℕ) (n : ℕ) → times x (map (load layer table) (rest ++ n ∷ [])) ≡ times x (map (load layer table) rest) + times x (load layer table n ∷ [])
times-push table x layer rest n = ap (times x) (map-append (load layer table) rest (n ∷ [])) ∙ times-then x (map (load layer table) rest) (load layer table n ∷ [])

-- a chunk of some numbers is to be loaded
load-itself : (x : Load) → is_load x x ≡ true
load-itself x = by x.layer x.table x.chunk
  where
    same : (n : ℕ) → (n == n) ≡ true
    same n = grind (arith, nat_tests)

    by : (l t n : ℕ) → ((l == l && t == t) && n == n) ≡ true
    by l t n = rw (same l, same t, same n) refl

-- how often a load is made that is a given one, or isn't
abbrev pub weight : Bool → ℕ
weight b = cond b 1 0

times-itself : (x : Load) (ls : List Load) → 1 ≤ times x (x ∷ ls)
times-itself x ls =
    let sum = sum_by-cons (λ (y : Load). cond (is_load x y) 1 0) x ls in
    let one = ap weight (load-itself x) in
    omega (arith, sum, one)

pub may-first : (table layer n : ℕ) (numbers rest : List ℕ) → numbers ≡ n ∷ rest → 1 ≤ times (load layer table n) (loads_of table layer numbers)
may-first table layer n numbers rest e = subst (λ (ns : List ℕ). 1 ≤ times (load layer table n) (loads_of table layer ns)) (sym e) (times-itself (load layer table n) (loads_of table layer rest))

pub may-last : (table layer0 layer n : ℕ) (numbers rest : List ℕ) → numbers ≡ rest ++ n ∷ [] → layer ≡ layer0 → 1 ≤ times (load layer table n) (loads_of table layer0 numbers)
may-last table layer0 layer n numbers rest e l =
    let push = times-push table (load layer table n) layer rest n in
    let one = times-itself (load layer table n) [] in
    let here : 1 ≤ times (load layer table n) (loads_of table layer (rest ++ n ∷ [])) = omega (arith, push, one) in
    subst (λ (y : ℕ). 1 ≤ times (load layer table n) (loads_of table y numbers)) l (subst (λ (ns : List ℕ). 1 ≤ times (load layer table n) (loads_of table layer ns)) (sym e) here)

pub may-next : (table layer number n : ℕ) (entries left : List Entry) (numbers rest : List ℕ) → numbers ≡ n ∷ rest → MayLoad (λ x. to_load table x (stand layer number entries left numbers ∷ [])) table layer n
may-next table layer number n entries left numbers rest e = let w = may-first table layer n numbers rest e in omega (arith, w)

-- ---- what a call answered

pub if-err : {X F : Type 0} (r : Result X (MergeFault F)) (P Q : MergeFault F → Type 0) → ((f : MergeFault F) → P f → Q f) → IfErr r P → IfErr r Q
if-err (Ok x) P Q to h = tt
if-err (Err f) P Q to h = to f h

pub if-put : {E : Type 0} (r : Result (Option Entry) E) (P Q : Entry → Type 0) → ((e : Entry) → P e → Q e) → IfOk r (λ x. IfSome x P) → IfOk r (λ x. IfSome x Q)
if-put (Ok None) P Q to h = tt
if-put (Ok (Some e)) P Q to h = to e h
if-put (Err f) P Q to h = tt

-- ---- what is held

-- the laws of a source of chunks
pub record AreLaws {C F : Type 0} (kept : C → C → Type 0) (came : C → C → ℕ → ℕ → ℕ → Result (List ℕ) F → Type 0) : Type 0 where
  pub same : (a : C) → kept a a
  pub chain : (a b c : C) → kept a b → kept b c → kept a c
  pub later : (a b c : C) (layer table chunk : ℕ) (r : Result (List ℕ) F) → kept a b → came b c layer table chunk r → came a c layer table chunk r
  pub earlier : (a b c : C) (layer table chunk : ℕ) (r : Result (List ℕ) F) → came a b layer table chunk r → kept b c → came a c layer table chunk r

module _ {C F : Type 0} (kept : C → C → Type 0) (came : C → C → ℕ → ℕ → ℕ → Result (List ℕ) F → Type 0) (laws : AreLaws kept came) (table : ℕ) (kinds : List Kind) where
  pub loaded-earlier : (a b c : C) (layer number : ℕ) (es : List Entry) → IsLoaded (came a b) table kinds layer number es → kept b c → IsLoaded (came a c) table kinds layer number es
  loaded-earlier a b c layer number es l k = record { came = laws.earlier a b c layer table number (Ok (chunk_bytes es)) l.came k; chunk = l.chunk; stored = l.stored }

  pub loaded-later : (a b c : C) (layer number : ℕ) (es : List Entry) → kept a b → IsLoaded (came b c) table kinds layer number es → IsLoaded (came a c) table kinds layer number es
  loaded-later a b c layer number es k l = record { came = laws.later a b c layer table number (Ok (chunk_bytes es)) k l.came; chunk = l.chunk; stored = l.stored }

  pub held-later : (a b c : C) (asked : ℕ → ℕ → Type 0) (xs : List Stand) (m : Stand) → IsHeld (came a b) table kinds asked xs m → kept b c → IsHeld (came a c) table kinds asked xs m
  held-later a b c asked xs m (inl h) k = inl h
  held-later a b c asked xs m (inr l) k = inr (loaded-earlier a b c m.layer m.number m.entries l.0 k, l.1)

  same-place : (P : ℕ → ℕ → List Entry → Type 0) (l l' n n' : ℕ) (es es' : List Entry) → l ≡ l' → n ≡ n' → es ≡ es' → P l' n' es' → P l n es
  same-place P l l' n n' es es' p q r h = subst (λ (x : List Entry). P l n x) (sym r) (subst (λ (x : ℕ). P l x es') (sym q) (subst (λ (x : ℕ). P x n' es') (sym p) h))

  pub held-then : (a b c : C) (asked next : ℕ → ℕ → Type 0) (xs ys : List Stand) (m : Stand) → ((l n : ℕ) → next l n → asked l n) → kept a b → kept b c → AreHeld (came a b) table kinds asked xs ys → IsHeld (came b c) table kinds next ys m → IsHeld (came a c) table kinds asked xs m
  held-then a b c asked next xs ys m wide k l old (inr i) = inr (loaded-later a b c m.layer m.number m.entries k i.0, wide m.layer m.number i.1)
  held-then a b c asked next xs ys m wide k l old (inl h) = by (old h.0 h.1.0)
    where
      by : IsHeld (came a b) table kinds asked xs h.0 → IsHeld (came a c) table kinds asked xs m
      by (inl o) = inl (o.0, (o.1.0, (h.1.1.0 ∙ o.1.1.0, h.1.1.1 ∙ o.1.1.1, h.1.1.2 ∙ o.1.1.2)))
      by (inr i) = inr (same-place (λ (y n : ℕ) (es : List Entry). IsLoaded (came a c) table kinds y n es × asked y n) m.layer h.0.layer m.number h.0.number m.entries h.0.entries h.1.1.0 h.1.1.1 h.1.1.2 (loaded-earlier a b c h.0.layer h.0.number h.0.entries i.0 l, i.1))

  pub held-itself : (a b : C) (asked : ℕ → ℕ → Type 0) (xs : List Stand) → AreHeld (came a b) table kinds asked xs xs
  held-itself a b asked xs m h = inl (m, (h, (refl, refl, refl)))

  -- ---- faults

  pub fault-then : (a b c : C) (asked next : ℕ → ℕ → Type 0) (xs ys : List Stand) (f : MergeFault F) → ((l n : ℕ) → next l n → asked l n) → kept a b → kept b c → AreHeld (came a b) table kinds asked xs ys → IsMergeFault (came b c) table kinds next ys f → IsMergeFault (came a c) table kinds asked xs f
  fault-then a b c asked next xs ys (Chunk f) wide k l old h = (h.0, h.1, (laws.later a b c h.0 table h.1 (Err f) k h.2.0, wide h.0 h.1 h.2.1))
  fault-then a b c asked next xs ys (Malformed y n o) wide k l old h = (by h.0, wide y n h.1)
    where
      by : (((bytes : List ℕ) × (came b c y table n (Ok bytes) × (read_chunk table kinds bytes ≡ Err o))) ⊎ IsOutOfOrder (came b c) table kinds next ys y n o) → (((bytes : List ℕ) × (came a c y table n (Ok bytes) × (read_chunk table kinds bytes ≡ Err o))) ⊎ IsOutOfOrder (came a c) table kinds asked xs y n o)
      by (inl i) = inl (i.0, (laws.later a b c y table n (Ok i.0) k i.1.0, i.1.1))
      by (inr i) = inr (record { before = i.before; entries = i.entries; held = held-then a b c asked next xs ys i.before wide k l old i.held; loaded = loaded-later a b c y n i.entries k i.loaded; same_layer = i.same_layer; next = i.next; order = i.order; place = i.place })
  fault-then a b c asked next xs ys Memory wide k l old h = tt

  pub of-held-then : (a b c : C) (asked next : ℕ → ℕ → Type 0) (xs ys : List Stand) (e : Entry) → ((l n : ℕ) → next l n → asked l n) → kept a b → kept b c → AreHeld (came a b) table kinds asked xs ys → IsOfHeld (came b c) table kinds next ys e → IsOfHeld (came a c) table kinds asked xs e
  of-held-then a b c asked next xs ys e wide k l old h = (h.0, (held-then a b c asked next xs ys h.0 wide k l old h.1.0, h.1.1))

  -- what may be asked for is wider
  pub fault-asked : (a b : C) (asked next : ℕ → ℕ → Type 0) (xs : List Stand) (f : MergeFault F) → ((l n : ℕ) → next l n → asked l n) → kept a b → IsMergeFault (came a b) table kinds next xs f → IsMergeFault (came a b) table kinds asked xs f
  fault-asked a b asked next xs f wide k h = fault-then a a b asked next xs xs f wide (laws.same a) k (held-itself a a asked xs) h

  pub load-fault : (a b : C) (asked : ℕ → ℕ → Type 0) (xs : List Stand) (layer number : ℕ) (f : MergeFault F) → asked layer number → IsLoadFault (came a b) table kinds layer number f → IsMergeFault (came a b) table kinds asked xs f
  load-fault a b asked xs layer number (Chunk f) k h = (layer, number, (h, k))
  load-fault a b asked xs layer number (Malformed l n o) k h = (
    inl (h.2, (subst (λ (y : ℕ). came a b y table n (Ok h.2)) (sym h.0) (subst (λ (y : ℕ). came a b layer table y (Ok h.2)) (sym h.1) h.3), h.4)),
    subst (λ (y : ℕ). asked y n) (sym h.0) (subst (λ (y : ℕ). asked layer y) (sym h.1) k),
  )
  load-fault a b asked xs layer number Memory k h = tt

  pub order-fault : (a b : C) (asked : ℕ → ℕ → Type 0) (layer number n offset : ℕ) (entries left after : List Entry) (numbers : List ℕ) → IsLoaded (came a b) table kinds layer n after → asked layer n → n ≡ number + 1 → goes_on (last_of entries) (first_of after) ≡ false → offset ≡ length (head_code after) → IsMergeFault (came a b) table kinds asked (stand layer number entries left numbers ∷ []) (Malformed layer n offset)
  order-fault a b asked layer number n offset entries left after numbers l k e o p = (inr (record { before = stand layer number entries left numbers; entries = after; held = inl (stand layer number entries left numbers, (inl refl, (refl, refl, refl))); loaded = l; same_layer = refl; next = e; order = o; place = p }), k)

  -- both chunks were loaded
  pub loads-fault : (a b : C) (asked : ℕ → ℕ → Type 0) (xs : List Stand) (layer number n offset : ℕ) (entries after : List Entry) → IsLoaded (came a b) table kinds layer number entries → asked layer number → IsLoaded (came a b) table kinds layer n after → asked layer n → n ≡ number + 1 → goes_on (last_of entries) (first_of after) ≡ false → offset ≡ length (head_code after) → IsMergeFault (came a b) table kinds asked xs (Malformed layer n offset)
  loads-fault a b asked xs layer number n offset entries after k i l j e o p = (inr (record { before = stand layer number entries [] []; entries = after; held = inr (k, i); loaded = l; same_layer = refl; next = e; order = o; place = p }), j)

  -- ---- steps

  module _ (loads : C → Option (List Load)) where
    abbrev Step : C → C → List Stand → List Stand → (Load → ℕ) → (Load → ℕ) → Type 0
    Step a b xs ys p q = IsStep kept came loads table kinds a b xs ys p q

    -- what may still be loaded after a step might be loaded before it
    pub step-asked : (a b : C) (xs ys : List Stand) (p q : Load → ℕ) → Step a b xs ys p q → (l n : ℕ) → MayLoad q table l n → MayLoad p table l n
    step-asked a b xs ys p q s l n h = omega (arith, s.bound (load l table n), h)

    -- what is held after a step
    pub step-held : (a b : C) (xs ys : List Stand) (p q : Load → ℕ) → Step a b xs ys p q → AreHeld (came a b) table kinds (MayLoad p table) xs ys
    step-held a b xs ys p q s = s.held

    pub step-none : (a : C) (xs : List Stand) (p : Load → ℕ) → Step a a xs xs p p
    step-none a xs p = record { kept = laws.same a; held = held-itself a a (MayLoad p table) xs; more = []; told = loads-none (loads a); bound = λ x. omega arith }

    pub step-then : (a b c : C) (xs ys zs : List Stand) (p q r : Load → ℕ) → Step a b xs ys p q → Step b c ys zs q r → Step a c xs zs p r
    step-then a b c xs ys zs p q r s t = record {
      kept = laws.chain a b c s.kept t.kept;
      held = λ m h. held-then a b c (MayLoad p table) (MayLoad q table) xs ys m (step-asked a b xs ys p q s) s.kept t.kept s.held (t.held m h);
      more = s.more ++ t.more;
      told = told-then s.more t.more (loads a) (loads b) (loads c) s.told t.told;
      bound = λ x. omega (arith, times-then x s.more t.more, s.bound x, t.bound x);
    }

    -- bounds that are wider
    pub step-bounds : (a b : C) (xs ys : List Stand) (p q p' q' : Load → ℕ) → ((x : Load) → p x ≤ p' x) → ((x : Load) → q' x ≤ q x) → Step a b xs ys p q → Step a b xs ys p' q'
    step-bounds a b xs ys p q p' q' le ge s = record { kept = s.kept; held = λ m h. held-then a a b (MayLoad p' table) (MayLoad p table) xs xs m (λ l n i. omega (arith, le (load l table n), i)) (laws.same a) s.kept (held-itself a a (MayLoad p' table) xs) (s.held m h); more = s.more; told = s.told; bound = λ x. omega (arith, s.bound x, le x, ge x) }

    -- other stands stay beside those that moved
    step-beside : (a b : C) (xs ys zs : List Stand) (p q : Load → ℕ) → Step a b xs ys p q → Step a b (xs ++ zs) (ys ++ zs) (λ x. p x + to_load table x zs) (λ x. q x + to_load table x zs)
    step-beside a b xs ys zs p q s = record {
      kept = s.kept;
      held = λ m h. elim (members.has-append_cases m ys zs h) [ inl i ↦ elim (s.held m i) [ inl o ↦ inl (o.0, (members.has-append_left o.0 xs zs o.1.0, o.1.1)) | inr l ↦ inr (l.0, (let w = l.1 in omega (arith, w))) ] | inr j ↦ inl (m, (members.has-append_right m xs zs j, (refl, refl, refl))) ];
      more = s.more;
      told = s.told;
      bound = λ x. omega (arith, s.bound x);
    }

    -- the order of stands says nothing
    step-reordered : (a b : C) (xs ys ys' : List Stand) (p q : Load → ℕ) → IsPermutation ys ys' → Step a b xs ys p q → Step a b xs ys' p q
    step-reordered a b xs ys ys' p q per s = record {
      kept = s.kept;
      held = λ m h. s.held m (members.permuted-in ys' ys (IsPermutation-sym ys ys' per) m h);
      more = s.more;
      told = s.told;
      bound = s.bound;
    }

    pub step-permuted : (a b : C) (xs ys ys' : List Stand) (p : Load → ℕ) → IsPermutation ys ys' → Step a b xs ys p (λ x. to_load table x ys) → Step a b xs ys' p (λ x. to_load table x ys')
    step-permuted a b xs ys ys' p per s = step-bounds a b xs ys' p (λ x. to_load table x ys) p (λ x. to_load table x ys') (λ x. omega arith) (λ x. omega (arith, load-permuted table x ys ys' per)) (step-reordered a b xs ys ys' p (λ x. to_load table x ys) per s)

    -- stands that are lost
    pub step-fewer : (a b : C) (xs ys zs : List Stand) (p : Load → ℕ) → Step a b xs (ys ++ zs) p (λ x. to_load table x (ys ++ zs)) → Step a b xs zs p (λ x. to_load table x zs)
    step-fewer a b xs ys zs p s = record {
      kept = s.kept;
      held = λ m h. s.held m (members.has-append_right m ys zs h);
      more = s.more;
      told = s.told;
      bound = λ x. omega (arith, s.bound x, load-append table x ys zs);
    }

    -- all stands but the first are lost
    step-one : (a b : C) (first h0 h1 : List Stand) (s : Stand) (p : Load → ℕ) → IsPermutation h0 (s ∷ h1) → Step a b first h0 p (λ x. to_load table x h0) → Step a b first (s ∷ []) p (λ x. to_load table x (s ∷ []))
    step-one a b first h0 h1 s p per one =
        let t = step-permuted a b first h0 (s ∷ h1) p per one in
        record { kept = t.kept; held = λ m. elim [ inl i ↦ t.held m (inl i) | inr i ↦ absurd i ]; more = t.more; told = t.told; bound = λ x. omega (arith, t.bound x, load-append table x (s ∷ []) h1) }

    pub step-lost : (a b : C) (xs ys : List Stand) (p q : Load → ℕ) → Step a b xs ys p q → Step a b xs [] p (λ x. 0)
    step-lost a b xs ys p q s = record { kept = s.kept; held = λ m h. absurd h; more = s.more; told = s.told; bound = λ x. omega (arith, s.bound x) }

    -- the first of some stands moves on
    pub step-over : (a b c : C) (first h0 h1 ys : List Stand) (s : Stand) (p : Load → ℕ) → IsPermutation h0 (s ∷ h1) → Step a b first h0 p (λ x. to_load table x h0) → Step b c (s ∷ []) ys (λ x. to_load table x (s ∷ [])) (λ x. to_load table x ys) → Step a c first (ys ++ h1) p (λ x. to_load table x (ys ++ h1))
    step-over a b c first h0 h1 ys s p per one two =
        step-then a b c first (s ∷ h1) (ys ++ h1) p (λ x. to_load table x (s ∷ h1)) (λ x. to_load table x (ys ++ h1)) (step-permuted a b first h0 (s ∷ h1) p per one)
        (step-bounds b c (s ∷ h1) (ys ++ h1) (λ x. to_load table x (s ∷ []) + to_load table x h1) (λ x. to_load table x ys + to_load table x h1) (λ x. to_load table x (s ∷ h1)) (λ x. to_load table x (ys ++ h1)) (λ x. omega (arith, load-append table x (s ∷ []) h1)) (λ x. omega (arith, load-append table x ys h1)) (step-beside b c (s ∷ []) ys h1 (λ x. to_load table x (s ∷ [])) (λ x. to_load table x ys) two))

    pub step-moved : (a b c : C) (first h0 h1 h2 ys : List Stand) (s : Stand) (p : Load → ℕ) → IsPermutation h0 (s ∷ h1) → IsPermutation (ys ++ h1) h2 → Step a b first h0 p (λ x. to_load table x h0) → Step b c (s ∷ []) ys (λ x. to_load table x (s ∷ [])) (λ x. to_load table x ys) → Step a c first h2 p (λ x. to_load table x h2)
    step-moved a b c first h0 h1 h2 ys s p per per' one two = step-permuted a c first (ys ++ h1) h2 p per' (step-over a b c first h0 h1 ys s p per one two)

    -- the moved stand is lost
    pub step-dropped : (a b c : C) (first h0 h1 h2 ys : List Stand) (s : Stand) (p : Load → ℕ) → h2 ≡ h1 → IsPermutation h0 (s ∷ h1) → Step a b first h0 p (λ x. to_load table x h0) → Step b c (s ∷ []) ys (λ x. to_load table x (s ∷ [])) (λ x. to_load table x ys) → Step a c first h2 p (λ x. to_load table x h2)
    step-dropped a b c first h0 h1 h2 ys s p e per one two = subst (λ (h : List Stand). Step a c first h p (λ x. to_load table x h)) (sym e) (step-fewer a c first ys h1 p (step-over a b c first h0 h1 ys s p per one two))

    -- a fault after a step
    pub fault-after : (a b c : C) (xs ys : List Stand) (p q : Load → ℕ) (f : MergeFault F) → Step a b xs ys p q → kept b c → IsMergeFault (came b c) table kinds (MayLoad q table) ys f → IsMergeFault (came a c) table kinds (MayLoad p table) xs f
    fault-after a b c xs ys p q f s k h = fault-then a b c (MayLoad p table) (MayLoad q table) xs ys f (step-asked a b xs ys p q s) s.kept k s.held h

    -- an entry of a chunk that is held after a step
    pub of-held-after : (a b c : C) (xs ys : List Stand) (p q : Load → ℕ) (e : Entry) → Step a b xs ys p q → kept b c → IsOfHeld (came b c) table kinds (MayLoad q table) ys e → IsOfHeld (came a c) table kinds (MayLoad p table) xs e
    of-held-after a b c xs ys p q e s k h = (h.0, (held-then a b c (MayLoad p table) (MayLoad q table) xs ys h.0 (step-asked a b xs ys p q s) s.kept k s.held h.1.0, h.1.1))

    -- a fault of the first of some stands
    pub fault-over : (a b c : C) (first h0 h1 : List Stand) (s : Stand) (p : Load → ℕ) (f : MergeFault F) → IsPermutation h0 (s ∷ h1) → Step a b first h0 p (λ x. to_load table x h0) → kept b c → IsMergeFault (came b c) table kinds (MayLoad (λ x. to_load table x (s ∷ [])) table) (s ∷ []) f → IsMergeFault (came a c) table kinds (MayLoad p table) first f
    fault-over a b c first h0 h1 s p f per one k h = fault-after a b c first (s ∷ []) p (λ x. to_load table x (s ∷ [])) f (step-one a b first h0 h1 s p per one) k h

    -- ---- one stand

    pub step-within : (a : C) (s m : Stand) (left : List Entry) → m ≡ stand s.layer s.number s.entries left s.numbers → Step a a (s ∷ []) (m ∷ []) (λ x. to_load table x (s ∷ [])) (λ x. to_load table x (m ∷ []))
    step-within a s m left e = record {
      kept = laws.same a;
      held = λ y. elim [ inl i ↦ inl (s, (inl refl, (ap (λ (z : Stand). z.layer) (i ∙ e), ap (λ (z : Stand). z.number) (i ∙ e), ap (λ (z : Stand). z.entries) (i ∙ e)))) | inr i ↦ absurd i ];
      more = [];
      told = loads-none (loads a);
      bound = λ x. omega (arith, ap (λ (z : Stand). to_load table x (z ∷ [])) e);
    }

    -- the next chunk is loaded
    pub step-loaded : (a b : C) (layer number n : ℕ) (entries left after : List Entry) (numbers rest : List ℕ) (m : Stand) → m ≡ stand layer n after after rest → numbers ≡ n ∷ rest → kept a b → IsLoaded (came a b) table kinds layer n after → loads b ≡ with_load layer table n (loads a) → Step a b (stand layer number entries left numbers ∷ []) (m ∷ []) (λ x. to_load table x (stand layer number entries left numbers ∷ [])) (λ x. to_load table x (m ∷ []))
    step-loaded a b layer number n entries left after numbers rest m same e k l t = record {
      kept = k;
      held = λ y. elim [ inl i ↦ inr (subst (λ (z : Stand). IsLoaded (came a b) table kinds z.layer z.number z.entries × MayLoad (λ x. to_load table x (stand layer number entries left numbers ∷ [])) table z.layer z.number) (sym (i ∙ same)) (l, (let w = may-first table layer n numbers rest e in omega (arith, w)))) | inr i ↦ absurd i ];
      more = load layer table n ∷ [];
      told = t;
      bound = λ x. omega (arith, ap (λ (z : Stand). to_load table x (z ∷ [])) same, ap (λ (ns : List ℕ). times x (map (load layer table) ns)) e, times-then x (load layer table n ∷ []) (map (load layer table) rest));
    }

    -- the load of the next chunk fails
    pub step-failed : (a b : C) (layer number n : ℕ) (entries left : List Entry) (numbers rest : List ℕ) → numbers ≡ n ∷ rest → kept a b → loads b ≡ with_load layer table n (loads a) → Step a b (stand layer number entries left numbers ∷ []) [] (λ x. to_load table x (stand layer number entries left numbers ∷ [])) (λ x. to_load table x [])
    step-failed a b layer number n entries left numbers rest e k t = record {
      kept = k;
      held = λ y h. absurd h;
      more = load layer table n ∷ [];
      told = t;
      bound = λ x. omega (arith, ap (λ (ns : List ℕ). times x (map (load layer table) ns)) e, times-then x (load layer table n ∷ []) (map (load layer table) rest));
    }

    pub step-ended : (a : C) (s : Stand) → Step a a (s ∷ []) [] (λ x. to_load table x (s ∷ [])) (λ x. to_load table x [])
    step-ended a s = record { kept = laws.same a; held = λ y h. absurd h; more = []; told = loads-none (loads a); bound = λ x. omega arith }

    -- ---- the walk of the ranges

    -- a part's last chunk is loaded
    pub step-range : (a b c : C) (layer0 layer n : ℕ) (first numbers rest : List ℕ) → numbers ≡ rest ++ n ∷ [] → layer ≡ layer0 → Step a b [] [] (λ x. times x (map (load layer0 table) first)) (λ x. times x (map (load layer0 table) numbers)) → kept b c → loads c ≡ with_load layer table n (loads b) → Step a c [] [] (λ x. times x (map (load layer0 table) first)) (λ x. times x (map (load layer0 table) rest))
    step-range a b c layer0 layer n first numbers rest e l one k t = record {
      kept = laws.chain a b c one.kept k;
      held = λ y h. absurd h;
      more = one.more ++ load layer table n ∷ [];
      told = told-then one.more (load layer table n ∷ []) (loads a) (loads b) (loads c) one.told t;
      bound = λ x. omega (arith, one.bound x, times-then x one.more (load layer table n ∷ []), ap (λ (z : ℕ). times x (load z table n ∷ [])) l, ap (λ (ns : List ℕ). times x (map (load layer0 table) ns)) e, times-push table x layer0 rest n);
    }

    pub range-asked : (a b : C) (layer0 layer n : ℕ) (first numbers rest : List ℕ) → numbers ≡ rest ++ n ∷ [] → layer ≡ layer0 → Step a b [] [] (λ x. times x (map (load layer0 table) first)) (λ x. times x (map (load layer0 table) numbers)) → MayLoad (λ x. times x (map (load layer0 table) first)) table layer n
    range-asked a b layer0 layer n first numbers rest e l one = step-asked a b [] [] (λ x. times x (map (load layer0 table) first)) (λ x. times x (map (load layer0 table) numbers)) one layer n (may-last table layer0 layer n numbers rest e l)

    pub step-part : (a b c : C) (first waiting ps : List Waiting) (p : Waiting) → waiting ≡ p ∷ ps → Step a b [] [] (λ x. to_begin table x first) (λ x. to_begin table x waiting) → Step b c [] [] (λ x. times x (loads_of table p.layer p.numbers.items)) (λ x. 0) → Step a c [] [] (λ x. to_begin table x first) (λ x. to_begin table x ps)
    step-part a b c first waiting ps p e one two =
        step-then a b c [] [] [] (λ x. to_begin table x first) (λ x. to_begin table x waiting) (λ x. to_begin table x ps) one
        (record { kept = two.kept; held = λ y h. absurd h; more = two.more; told = two.told; bound = λ x. omega (arith, two.bound x, ap (to_begin table x) e, begin-cons table x p ps) })

    -- ---- the start of the walk of the points

    pub step-first : (a b : C) (part : Waiting) (n : ℕ) (rest : List ℕ) (after : List Entry) (m : Stand) → m ≡ stand part.layer n after after rest → part.numbers.items ≡ n ∷ rest → kept a b → IsLoaded (came a b) table kinds part.layer n after → loads b ≡ with_load part.layer table n (loads a) → Step a b [] (m ∷ []) (λ x. times x (loads_of table part.layer part.numbers.items)) (λ x. to_load table x (m ∷ []))
    step-first a b part n rest after m same e k l t = record {
      kept = k;
      held = λ y. elim [ inl i ↦ inr (subst (λ (z : Stand). IsLoaded (came a b) table kinds z.layer z.number z.entries × MayLoad (λ x. times x (loads_of table part.layer part.numbers.items)) table z.layer z.number) (sym (i ∙ same)) (l, may-first table part.layer n part.numbers.items rest e)) | inr i ↦ absurd i ];
      more = load part.layer table n ∷ [];
      told = t;
      bound = λ x. omega (arith, ap (λ (z : Stand). to_load table x (z ∷ [])) same, ap (λ (ns : List ℕ). times x (map (load part.layer table) ns)) e, times-then x (load part.layer table n ∷ []) (map (load part.layer table) rest));
    }

    pub step-first_failed : (a b : C) (part : Waiting) (n : ℕ) (rest : List ℕ) → part.numbers.items ≡ n ∷ rest → kept a b → loads b ≡ with_load part.layer table n (loads a) → Step a b [] [] (λ x. times x (loads_of table part.layer part.numbers.items)) (λ x. to_load table x [])
    step-first_failed a b part n rest e k t = record {
      kept = k;
      held = λ y h. absurd h;
      more = load part.layer table n ∷ [];
      told = t;
      bound = λ x. omega (arith, ap (λ (ns : List ℕ). times x (map (load part.layer table) ns)) e, times-then x (load part.layer table n ∷ []) (map (load part.layer table) rest));
    }

    pub step-no_first : (a : C) (part : Waiting) → Step a a [] [] (λ x. times x (loads_of table part.layer part.numbers.items)) (λ x. to_load table x [])
    step-no_first a part = record { kept = laws.same a; held = λ y h. absurd h; more = []; told = loads-none (loads a); bound = λ x. omega arith }

    -- one part more begins
    step-beginning : (a b c : C) (first h1 ys : List Stand) (ready ps : List Waiting) (p : Waiting) (before : Load → ℕ) → ready ≡ p ∷ ps → Step a b first h1 before (λ x. to_load table x h1 + to_begin table x ready) → Step b c [] ys (λ x. times x (loads_of table p.layer p.numbers.items)) (λ x. to_load table x ys) → Step a c first (ys ++ h1) before (λ x. to_load table x (ys ++ h1) + to_begin table x ps)
    step-beginning a b c first h1 ys ready ps p before e one two =
        step-then a b c first h1 (ys ++ h1) before (λ x. to_load table x h1 + to_begin table x ready) (λ x. to_load table x (ys ++ h1) + to_begin table x ps) one
        (record {
          kept = two.kept;
          held = λ m h. elim (members.has-append_cases m ys h1 h) [ inl i ↦ elim (two.held m i) [ inl o ↦ absurd o.1.0 | inr l ↦ inr (l.0, (let x = load m.layer table m.number in let w = l.1 in omega (arith, w, ap (to_begin table x) e, begin-cons table x p ps))) ] | inr j ↦ inl (m, (j, (refl, refl, refl))) ];
          more = two.more;
          told = two.told;
          bound = λ x. omega (arith, two.bound x, load-append table x ys h1, ap (to_begin table x) e, begin-cons table x p ps);
        })

    pub step-begun : (a b c : C) (first h1 h2 ys : List Stand) (ready ps : List Waiting) (p : Waiting) (before : Load → ℕ) → ready ≡ p ∷ ps → IsPermutation (ys ++ h1) h2 → Step a b first h1 before (λ x. to_load table x h1 + to_begin table x ready) → Step b c [] ys (λ x. times x (loads_of table p.layer p.numbers.items)) (λ x. to_load table x ys) → Step a c first h2 before (λ x. to_load table x h2 + to_begin table x ps)
    step-begun a b c first h1 h2 ys ready ps p before e per one two =
        let s = step-beginning a b c first h1 ys ready ps p before e one two in
        step-bounds a c first h2 before (λ x. to_load table x (ys ++ h1) + to_begin table x ps) before (λ x. to_load table x h2 + to_begin table x ps) (λ x. omega arith) (λ x. omega (arith, load-permuted table x (ys ++ h1) h2 per)) (step-reordered a c first (ys ++ h1) h2 before (λ x. to_load table x (ys ++ h1) + to_begin table x ps) per s)

    -- it fails, and what it held is lost
    pub step-unbegun : (a b c : C) (first h1 h2 ys : List Stand) (ready ps : List Waiting) (p : Waiting) (before : Load → ℕ) → h2 ≡ h1 → ready ≡ p ∷ ps → Step a b first h1 before (λ x. to_load table x h1 + to_begin table x ready) → Step b c [] ys (λ x. times x (loads_of table p.layer p.numbers.items)) (λ x. to_load table x ys) → Step a c first h2 before (λ x. to_load table x h2)
    step-unbegun a b c first h1 h2 ys ready ps p before same e one two = subst (λ (h : List Stand). Step a c first h before (λ x. to_load table x h)) (sym same) (
        step-fewer a c first ys h1 before (step-bounds a c first (ys ++ h1) before (λ x. to_load table x (ys ++ h1) + to_begin table x ps) before (λ x. to_load table x (ys ++ h1)) (λ x. omega arith) (λ x. omega arith) (step-beginning a b c first h1 ys ready ps p before e one two)))

    -- the ranges were walked
    step-ready : (a b : C) (first : List Stand) (waiting ready : List Waiting) → ((x : Load) → to_begin table x ready ≤ to_begin table x waiting) → Step a b [] [] (λ x. to_begin table x waiting) (λ x. 0) → Step a b first first (λ x. to_load table x first + (to_begin table x waiting + to_begin table x waiting)) (λ x. to_load table x first + to_begin table x ready)
    step-ready a b first waiting ready fewer one = record { kept = one.kept; held = held-itself a b (MayLoad (λ x. to_load table x first + (to_begin table x waiting + to_begin table x waiting)) table) first; more = one.more; told = one.told; bound = λ x. omega (arith, one.bound x, fewer x) }

    -- ranges first, then the first chunks
    pub step-start : (a b c : C) (first stands : List Stand) (waiting ready : List Waiting) → ((x : Load) → to_begin table x ready ≤ to_begin table x waiting) → Step a b [] [] (λ x. to_begin table x waiting) (λ x. 0) → Step b c first stands (λ x. to_load table x first + to_begin table x ready) (λ x. to_load table x stands) → Step a c first stands (λ x. to_load table x first + (to_begin table x waiting + to_begin table x waiting)) (λ x. to_load table x stands)
    step-start a b c first stands waiting ready fewer one two =
        step-then a b c first first stands (λ x. to_load table x first + (to_begin table x waiting + to_begin table x waiting)) (λ x. to_load table x first + to_begin table x ready) (λ x. to_load table x stands) (step-ready a b first waiting ready fewer one) two

    pub step-unstarted : (a b : C) (first : List Stand) (waiting : List Waiting) → Step a b [] [] (λ x. to_begin table x waiting) (λ x. 0) → Step a b first first (λ x. to_load table x first + (to_begin table x waiting + to_begin table x waiting)) (λ x. to_load table x first)
    step-unstarted a b first waiting one = record { kept = one.kept; held = held-itself a b (MayLoad (λ x. to_load table x first + (to_begin table x waiting + to_begin table x waiting)) table) first; more = one.more; told = one.told; bound = λ x. omega (arith, one.bound x) }

    -- the loads of the chunks that are left of a part
    pub fewer-left : (a b : C) (layer0 layer n : ℕ) (first numbers rest back : List ℕ) → numbers ≡ rest ++ n ∷ [] → back ≡ rest ++ n ∷ [] → layer ≡ layer0 → Step a b [] [] (λ x. times x (map (load layer0 table) first)) (λ x. times x (map (load layer0 table) numbers)) → (x : Load) → times x (map (load layer table) back) ≤ times x (map (load layer0 table) first)
    fewer-left a b layer0 layer n first numbers rest back e f l s x = omega (arith, s.bound x, ap (λ (ns : List ℕ). times x (map (load layer0 table) ns)) (f ∙ sym e), ap (λ (y : ℕ). times x (map (load y table) back)) l)

    pub fewer-none : (a b : C) (layer0 layer : ℕ) (first numbers numbers' : List ℕ) → numbers ≡ numbers' ++ [] → layer ≡ layer0 → Step a b [] [] (λ x. times x (map (load layer0 table) first)) (λ x. times x (map (load layer0 table) numbers)) → (x : Load) → times x (map (load layer table) numbers') ≤ times x (map (load layer0 table) first)
    fewer-none a b layer0 layer first numbers numbers' e l s x = omega (arith, s.bound x, ap (λ (ns : List ℕ). times x (map (load layer0 table) ns)) (e ∙ append-nil numbers'), ap (λ (y : ℕ). times x (map (load y table) numbers')) l)

    -- what is left to begin is left aside
    pub step-all : (a b : C) (xs ys : List Stand) (p q r : Load → ℕ) → Step a b xs ys p (λ x. q x + r x) → Step a b xs ys p q
    step-all a b xs ys p q r s = record { kept = s.kept; held = s.held; more = s.more; told = s.told; bound = λ x. omega (arith, s.bound x) }

    pub part-fault : (a b c : C) (first waiting ps : List Waiting) (p : Waiting) (f : MergeFault F) → waiting ≡ p ∷ ps → Step a b [] [] (λ x. to_begin table x first) (λ x. to_begin table x waiting) → kept b c → IsMergeFault (came b c) table kinds (MayLoad (λ x. times x (loads_of table p.layer p.numbers.items)) table) [] f → IsMergeFault (came a c) table kinds (MayLoad (λ x. to_begin table x first) table) [] f
    part-fault a b c first waiting ps p f e one k h = fault-after a b c [] [] (λ x. to_begin table x first) (λ x. times x (loads_of table p.layer p.numbers.items)) f (step-bounds a b [] [] (λ x. to_begin table x first) (λ x. to_begin table x waiting) (λ x. to_begin table x first) (λ x. times x (loads_of table p.layer p.numbers.items)) (λ x. omega arith) (λ x. omega (arith, ap (to_begin table x) e, begin-cons table x p ps)) one) k h

    pub begin-fault : (a b c : C) (first h1 : List Stand) (ready ps : List Waiting) (p : Waiting) (before : Load → ℕ) (f : MergeFault F) → ready ≡ p ∷ ps → Step a b first h1 before (λ x. to_load table x h1 + to_begin table x ready) → kept b c → IsMergeFault (came b c) table kinds (MayLoad (λ x. times x (loads_of table p.layer p.numbers.items)) table) [] f → IsMergeFault (came a c) table kinds (MayLoad before table) first f
    begin-fault a b c first h1 ready ps p before f e one k h =
        let lost = step-lost a b first h1 before (λ x. to_load table x h1 + to_begin table x ready) one in
        fault-after a b c first [] before (λ x. times x (loads_of table p.layer p.numbers.items)) f (record { kept = lost.kept; held = lost.held; more = one.more; told = one.told; bound = λ x. omega (arith, one.bound x, ap (to_begin table x) e, begin-cons table x p ps) }) k h

    pub start-fault : (a b c : C) (first : List Stand) (waiting ready : List Waiting) (f : MergeFault F) → ((x : Load) → to_begin table x ready ≤ to_begin table x waiting) → Step a b [] [] (λ x. to_begin table x waiting) (λ x. 0) → kept b c → IsMergeFault (came b c) table kinds (MayLoad (λ x. to_load table x first + to_begin table x ready) table) first f → IsMergeFault (came a c) table kinds (MayLoad (λ x. to_load table x first + (to_begin table x waiting + to_begin table x waiting)) table) first f
    start-fault a b c first waiting ready f fewer one k h = fault-after a b c first first (λ x. to_load table x first + (to_begin table x waiting + to_begin table x waiting)) (λ x. to_load table x first + to_begin table x ready) f (step-ready a b first waiting ready fewer one) k h

    -- a fault of a walk that began with nothing
    fault-none : (a b : C) (xs : List Stand) (p q : Load → ℕ) (f : MergeFault F) → ((x : Load) → q x ≤ p x) → kept a b → IsMergeFault (came a b) table kinds (MayLoad q table) [] f → IsMergeFault (came a b) table kinds (MayLoad p table) xs f
    fault-none a b xs p q f le k h = fault-then a a b (MayLoad p table) (MayLoad q table) xs [] f (λ l n i. omega (arith, le (load l table n), i)) (laws.same a) k (λ m i. absurd i) h

    pub unstarted-fault : (a b : C) (first : List Stand) (waiting : List Waiting) (f : MergeFault F) → kept a b → IsMergeFault (came a b) table kinds (MayLoad (λ x. to_begin table x waiting) table) [] f → IsMergeFault (came a b) table kinds (MayLoad (λ x. to_load table x first + (to_begin table x waiting + to_begin table x waiting)) table) first f
    unstarted-fault a b first waiting f k h = fault-none a b first (λ x. to_load table x first + (to_begin table x waiting + to_begin table x waiting)) (λ x. to_begin table x waiting) f (λ x. omega arith) k h

    -- a fault of a walk that might load less
    pub fault-before : (a b : C) (xs : List Stand) (p q : Load → ℕ) (f : MergeFault F) → ((x : Load) → q x ≤ p x) → kept a b → IsMergeFault (came a b) table kinds (MayLoad q table) xs f → IsMergeFault (came a b) table kinds (MayLoad p table) xs f
    fault-before a b xs p q f le k h = fault-asked a b (MayLoad p table) (MayLoad q table) xs f (λ l n i. omega (arith, le (load l table n), i)) k h

    pub step-before : (a b : C) (xs ys : List Stand) (p p' q : Load → ℕ) → ((x : Load) → p x ≤ p' x) → Step a b xs ys p q → Step a b xs ys p' q
    step-before a b xs ys p p' q le s = step-bounds a b xs ys p q p' q le (λ x. omega arith) s
