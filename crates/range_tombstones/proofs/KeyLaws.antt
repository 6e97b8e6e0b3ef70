-- The order of keys.
use Rattle.std.proofs.Common.{◌≡◌, Bool, true, false, not, refl, sym, ap, ◌∙◌, Ordering, Less, Equal, Greater, true≢false}
use Rattle.std.proofs.lemmas.Cmp.{nat_list_cmp_total, tied_itself}
use Rattle.std.proofs.lemmas.Map.Text.{is_eq-slice_cmp}
use Rattle.std.proofs.lemmas.Slice.Eq.{bytes_eq-Decides}
use Rattle.std.specs.Ordering.{nat_cmp, is_eq, is_le, is_lt, ordering_reverse}
use Rattle.std.specs.Cmp.Lexicographic.{slice_cmp}
use Rattle.range_tombstones.specs.Ranges.{Bytes, bytes_le, bytes_lt}

abbrev cmp : Bytes → Bytes → Ordering
cmp = slice_cmp nat_cmp

less : (a b : Bytes) → bytes_lt a b ≡ true → cmp a b ≡ Less
less a b h = by (cmp a b) refl h
  where
    by : (o : Ordering) → cmp a b ≡ o → is_lt o ≡ true → cmp a b ≡ Less
    by Less e h = e
    by Equal e h = absurd (true≢false (sym h))
    by Greater e h = absurd (true≢false (sym h))

pub lt-trans : (a b c : Bytes) → bytes_lt a b ≡ true → bytes_lt b c ≡ true → bytes_lt a c ≡ true
lt-trans a b c p q = ap is_lt (nat_list_cmp_total.trans a b c (less a b p) (less b c q))

pub le-itself : (a : Bytes) → bytes_le a a ≡ true
le-itself a = ap is_le (tied_itself nat_list_cmp_total a)

pub lt-itself : (a : Bytes) → bytes_lt a a ≡ false
lt-itself a = ap is_lt (tied_itself nat_list_cmp_total a)

pub not-le : (a b : Bytes) → not (bytes_le a b) ≡ bytes_lt b a
not-le a b = by (cmp a b) (cmp b a) (nat_list_cmp_total.antisymm a b)
  where
    by : (o q : Ordering) → o ≡ ordering_reverse q → not (is_le o) ≡ is_lt q
    by o Less e = rw e refl
    by o Equal e = rw e refl
    by o Greater e = rw e refl

pub not-lt : (a b : Bytes) → not (bytes_lt a b) ≡ bytes_le b a
not-lt a b = by (cmp a b) (cmp b a) (nat_list_cmp_total.antisymm a b)
  where
    by : (o q : Ordering) → o ≡ ordering_reverse q → not (is_lt o) ≡ is_le q
    by o Less e = rw e refl
    by o Equal e = rw e refl
    by o Greater e = rw e refl

pub lt-le : (a b : Bytes) → bytes_lt a b ≡ true → bytes_le a b ≡ true
lt-le a b p = ap is_le (less a b p)

pub le-lt : (a b c : Bytes) → bytes_le a b ≡ true → bytes_lt b c ≡ true → bytes_lt a c ≡ true
le-lt a b c p q = by (cmp a b) refl p
  where
    by : (o : Ordering) → cmp a b ≡ o → is_le o ≡ true → bytes_lt a c ≡ true
    by Less e h = ap is_lt (nat_list_cmp_total.trans a b c e (less b c q))
    by Equal e h = ap is_lt (nat_list_cmp_total.congr a b c e) ∙ q
    by Greater e h = absurd (true≢false (sym h))

pub lt-upto : (a b c : Bytes) → bytes_lt a b ≡ true → bytes_le b c ≡ true → bytes_lt a c ≡ true
lt-upto a b c p q = by (bytes_lt a c) refl
  where
    by : (x : Bool) → bytes_lt a c ≡ x → x ≡ true
    by true e = refl
    by false e = absurd (true≢false (sym (le-lt c a b (sym (not-lt a c) ∙ ap not e) p) ∙ (sym (not-le b c) ∙ ap not q)))

pub le-trans : (a b c : Bytes) → bytes_le a b ≡ true → bytes_le b c ≡ true → bytes_le a c ≡ true
le-trans a b c p q = by (bytes_le a c) refl
  where
    by : (x : Bool) → bytes_le a c ≡ x → x ≡ true
    by true e = refl
    by false e = absurd (true≢false (sym (le-lt b c a q (sym (not-le a c) ∙ ap not e)) ∙ (sym (not-le a b) ∙ ap not p)))

pub lt-not_le : (a b : Bytes) → bytes_lt a b ≡ true → bytes_le b a ≡ false
lt-not_le a b p = sym (not-lt a b) ∙ ap not p

pub le-down : (key a b : Bytes) → bytes_lt a b ≡ true → bytes_le b key ≡ true → bytes_le a key ≡ true
le-down key a b p q = lt-le a key (lt-upto a b key p q)

pub lt-other : (a b : Bytes) → bytes_lt a b ≡ true → is_eq (cmp a b) ≡ false
lt-other a b p = ap is_eq (less a b p)

pub not-le_other : (a b : Bytes) → bytes_le a b ≡ false → is_eq (cmp a b) ≡ false
not-le_other a b p = by (cmp a b) p
  where
    by : (o : Ordering) → is_le o ≡ false → is_eq o ≡ false
    by Less e = refl
    by Equal e = absurd (true≢false e)
    by Greater e = refl

pub le-other_lt : (a b : Bytes) → bytes_le a b ≡ true → is_eq (cmp a b) ≡ false → bytes_lt a b ≡ true
le-other_lt a b p q = by (cmp a b) p q
  where
    by : (o : Ordering) → is_le o ≡ true → is_eq o ≡ false → is_lt o ≡ true
    by Less e f = refl
    by Equal e f = absurd (true≢false f)
    by Greater e f = absurd (true≢false (sym e))

pub same-itself : (a : Bytes) → is_eq (cmp a a) ≡ true
same-itself a = ap is_eq (tied_itself nat_list_cmp_total a)

pub same-is : (a b : Bytes) → is_eq (cmp a b) ≡ true → a ≡ b
same-is a b e = (bytes_eq-Decides a b).0 (sym (is_eq-slice_cmp a b) ∙ e)

pub le-same : (a b : Bytes) → bytes_le a b ≡ true → bytes_lt a b ≡ false → a ≡ b
le-same a b p q = by (is_eq (cmp a b)) refl
  where
    by : (c : Bool) → is_eq (cmp a b) ≡ c → a ≡ b
    by true e = same-is a b e
    by false e = absurd (true≢false (sym (le-other_lt a b p e) ∙ q))
