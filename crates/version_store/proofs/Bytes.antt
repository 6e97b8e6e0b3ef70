-- Keys in bytes, and facts and the entries in which they are handed out.
use Rattle.std.proofs.Common.{◌≡◌, ℕ, ◌==◌, Bool, true, false, cond, refl, ap, ap₂, List, [], ◌∷◌, filter, ◌&&◌, Option, Some, None, Ordering, Equal, arith, true≢false, sym}
use Rattle.std.specs.Ordering.{nat_cmp, ordering_then}
use Rattle.std.proofs.lemmas.Bool.Decides.{nat_tests}
use Rattle.std.proofs.lemmas.Cmp.{nat_list_cmp_total}
use Rattle.mvcc_keys.specs.declared.entries.Entry.{Entry}
use Rattle.fact_model.specs.Facts.{Fact, IsKeyOrder}
use Rattle.version_store.specs.Tables.{Bytes, ByteFact, bytes_cmp, entry_of, entries_of}
use Rattle.version_store.specs.Lists.{fact_of, facts_of, is_id}
use Rattle.list_laws.proofs.Orderings.{nats-Equal}

bytes-same : (xs ys : Bytes) → bytes_cmp xs ys ≡ Equal → xs ≡ ys
bytes-same [] [] e = refl
bytes-same [] (y ∷ ys) e = absurd (cc)
bytes-same (x ∷ xs) [] e = absurd (cc)
bytes-same (x ∷ xs) (y ∷ ys) e = go (nat_cmp x y) refl e (bytes-same xs ys)
  where
    go : (o : Ordering) → nat_cmp x y ≡ o → ordering_then o (bytes_cmp xs ys) ≡ Equal → (bytes_cmp xs ys ≡ Equal → xs ≡ ys) → x ∷ xs ≡ y ∷ ys
    go Ordering.Less a b more = absurd (cc)
    go Ordering.Equal a b more = λ i. nats-Equal x y a i ∷ more b i
    go Ordering.Greater a b more = absurd (cc)

-- the order of bytes tells different keys apart
pub bytes_order : IsKeyOrder bytes_cmp
bytes_order = record { total = nat_list_cmp_total; same = bytes-same }

-- ---- facts and entries

pub fact-entry : (f : ByteFact) → fact_of (entry_of f) ≡ f
fact-entry (Fact.Put k v t) = refl
fact-entry (Fact.Del k t) = refl
fact-entry (Fact.DelRange lo hi t) = refl

pub entry-fact : (e : Entry) → entry_of (fact_of e) ≡ e
entry-fact (Entry.Put k t v) = refl
entry-fact (Entry.Del k t) = refl
entry-fact (Entry.Range lo hi t) = refl

pub facts-entries : (fs : List ByteFact) → facts_of (entries_of fs) ≡ fs
facts-entries [] = refl
facts-entries (f ∷ fs) = λ i. fact-entry f i ∷ facts-entries fs i

pub entries-facts : (es : List Entry) → entries_of (facts_of es) ≡ es
entries-facts [] = refl
entries-facts (e ∷ es) = λ i. entry-fact e i ∷ entries-facts es i

-- ---- ids

pub id-itself : (n : ℕ) → (n == n) ≡ true
id-itself n = grind (arith, nat_tests)

pub id-turned : (a b : ℕ) → (a == b) ≡ (b == a)
id-turned a b = grind (arith, nat_tests)

pub id-same : (a b : ℕ) → (a == b) ≡ true → a ≡ b
id-same a b e = grind (arith, nat_tests)

-- a key's table is one
pub one-table : (id i : ℕ) (o : Option ℕ) → (i == id) ≡ false → is_id id o ≡ true → is_id i o ≡ false
one-table id i None e own = absurd (true≢false (sym own))
one-table id i (Some n) e own = other n e own
  where
    other : (n : ℕ) → (i == id) ≡ false → (n == id) ≡ true → (n == i) ≡ false
    other n a b = grind (arith, nat_tests)

-- ---- lists

pub filter-both : {X : Type 0} (p q : X → Bool) (xs : List X) → filter q (filter p xs) ≡ filter (λ x. p x && q x) xs
filter-both p q [] = refl
filter-both {X} p q (x ∷ xs) = by (p x) (filter-both p q xs)
  where
    by : (b : Bool) → filter q (filter p xs) ≡ filter (λ x. p x && q x) xs → filter q (cond b (x ∷ filter p xs) (filter p xs)) ≡ cond (b && q x) (x ∷ filter (λ x. p x && q x) xs) (filter (λ x. p x && q x) xs)
    by true more = ap (λ (ys : List X). cond (q x) (x ∷ ys) ys) more
    by false more = more

pub filter-same : {X : Type 0} (p q : X → Bool) (xs : List X) → ((x : X) → p x ≡ q x) → filter p xs ≡ filter q xs
filter-same p q [] same = refl
filter-same {X} p q (x ∷ xs) same = ap₂ (λ (b : Bool) (ys : List X). cond b (x ∷ ys) ys) (same x) (filter-same p q xs same)
