-- A line is parted into its pieces, and in no other way.
use Rattle.std.proofs.Common.{◌≡◌, ℕ, zero, suc, ◌+◌, ◌-◌, ◌<◌, ◌≤◌, Bool, true, false, if◌then◌else◌, List, [], ◌∷◌, ◌++◌, length, drop, refl, sym, ap, ◌∙◌, arith, inl, inr, true≢false}
use Rattle.std.specs.List.{list_all}
use Rattle.std.proofs.Math.Seq.{drop-append_seam}
use Rattle.std.proofs.lemmas.List.{length-append}
use Rattle.list_laws.proofs.Bools.{and-left, and-right}
use Rattle.script_tokens.specs.declared.token.Token.{Token}
use Rattle.script_tokens.specs.Tokens.{Cut, Piece, piece, pieces, pieces_after, is_bad, is_blank, first_token}
use Rattle.script_tokens.specs.Spellings.{Spells, IsTokenOf, is_solid, IsNext, ArePieces, PiecesAreExact}
use Rattle.script_tokens.proofs.Lexing.{pieces_skip}
use Rattle.script_tokens.proofs.Spelled.{spells_some, one_token}
use Rattle.script_tokens.proofs.Pieces.{IsFirst, first_is, Ends, longest_of, begun}

-- ---- the pieces that are read part the line

token_some : (bytes : List ℕ) (t : Token) → IsTokenOf bytes t → is_bad t ≡ false → 0 < length bytes
token_some [] t (inl s) good = absurd (spells_some t s)
token_some [] t (inr p) good = absurd (true≢false (rw p.0 at good))
token_some (b ∷ bytes) t is good = omega arith

-- what is left after the bytes of a piece
record IsAfter (bytes bs rest : List ℕ) : Type 0 where
  pub few : length bytes - 1 ≤ length bs
  pub dropped : drop (length bytes - 1) bs ≡ rest
  pub short : length rest ≤ length bs

after : (b : ℕ) (bs bytes rest : List ℕ) → 0 < length bytes → b ∷ bs ≡ bytes ++ rest → IsAfter bytes bs rest
after b bs [] rest some split = absurd (omega (arith, some))
after b bs (c ∷ w) rest some split =
    let others : bs ≡ w ++ rest = cc in
    let len : length bs ≡ length w + length rest = ap length others ∙ length-append w rest in
    let n : length (c ∷ w) - 1 ≡ length w = omega arith in
    record {
      few = omega (arith, len, n);
      dropped = rw n (ap (λ (ys : List ℕ). drop (length w) ys) others ∙ drop-append_seam w rest);
      short = omega (arith, len);
    }

after_blank : (at b : ℕ) (bs : List ℕ) (ps : List Piece) → is_blank b ≡ true → ArePieces (suc at) bs ps → ArePieces at (b ∷ bs) ps
after_blank at b bs [] e h = rw (e, h) refl
after_blank at b bs (p ∷ ps) e (next, bad, good) =
    let place : p.place ≡ at + length (b ∷ next.blanks) = omega (arith, next.place) in (
      record {
        blanks = b ∷ next.blanks;
        bytes = next.bytes;
        rest = next.rest;
        split = ap (λ ys. b ∷ ys) next.split;
        blank = rw (e, next.blank) refl;
        solid = next.solid;
        longest = next.longest;
        token = next.token;
        place = place;
      },
      bad,
      good,
    )

token_step : (at b : ℕ) (bs : List ℕ) (c : Cut) → is_blank b ≡ false → IsFirst b bs c
    → ((k : ℕ) (ls : List ℕ) → length ls ≤ length bs → ArePieces k ls (pieces_after 0 k ls))
    → ArePieces at (b ∷ bs) (piece c.token at ∷ (if is_bad c.token then [] else pieces_after (c.len - 1) (suc at) bs))
token_step at b bs c solid f again =
    let front : is_solid (b ∷ bs) ≡ true = rw solid refl in
    let at_front : is_solid (f.bytes ++ f.rest) ≡ true = ap is_solid (sym f.split) ∙ front in
    let here : at ≡ at + 0 = omega arith in (
      record {
        blanks = [];
        bytes = f.bytes;
        rest = f.rest;
        split = f.split;
        blank = refl;
        solid = at_front;
        longest = f.longest;
        token = f.token;
        place = here;
      },
      (λ e. rw e refl),
      (λ e. rw e (go e)),
    )
  where
    go : is_bad c.token ≡ false → ArePieces (at + length f.bytes) f.rest (pieces_after (c.len - 1) (suc at) bs)
    go good =
        let some = token_some f.bytes c.token f.token good in
        let a = after b bs f.bytes f.rest some f.split in
        let len : c.len - 1 ≡ length f.bytes - 1 = ap (λ n. n - 1) (f.len good) in
        let skip = pieces_skip (length f.bytes - 1) (suc at) bs a.few in
        let place : suc at + (length f.bytes - 1) ≡ at + length f.bytes = omega (arith, some) in
        let same : pieces_after (c.len - 1) (suc at) bs ≡ pieces_after 0 (at + length f.bytes) f.rest =
        ap (λ n. pieces_after n (suc at) bs) len ∙ (skip ∙ (ap (λ n. pieces_after 0 n (drop (length f.bytes - 1) bs)) place ∙ ap (λ ys. pieces_after 0 (at + length f.bytes) ys) a.dropped)) in
        rw same (again (at + length f.bytes) f.rest a.short)

parts_step : (at b : ℕ) (bs : List ℕ) → ((k : ℕ) (ls : List ℕ) → length ls ≤ length bs → ArePieces k ls (pieces_after 0 k ls)) → ArePieces at (b ∷ bs) (pieces_after 0 at (b ∷ bs))
unfolding pieces_after
parts_step at b bs again = go (is_blank b) refl
  where
    go : (x : Bool) → is_blank b ≡ x
        → ArePieces at (b ∷ bs) (if x then pieces_after 0 (suc at) bs else piece (first_token b bs).token at ∷ (if is_bad (first_token b bs).token then [] else pieces_after ((first_token b bs).len - 1) (suc at) bs))
    go true e = after_blank at b bs (pieces_after 0 (suc at) bs) e (again (suc at) bs (omega arith))
    go false e = token_step at b bs (first_token b bs) e (first_is b bs) again

pub nothing_left : (at : ℕ) → pieces_after 0 at [] ≡ []
unfolding pieces_after
nothing_left at = refl

parts_within : (n at : ℕ) (left : List ℕ) → length left ≤ n → ArePieces at left (pieces_after 0 at left)
parts_within n at [] few = rw (nothing_left at) refl
parts_within zero at (b ∷ bs) few = absurd (omega (arith, few))
parts_within (suc n) at (b ∷ bs) few = parts_step at b bs (λ k ls short. parts_within n k ls (omega (arith, few, short)))

-- ---- and in one way

-- two lists of blanks before what is solid
record SameBlanks (blanks blanks' xs xs' : List ℕ) : Type 0 where
  pub blank : blanks ≡ blanks'
  pub others : xs ≡ xs'

no_blank : (b : ℕ) (bs : List ℕ) → is_blank b ≡ true → is_solid (b ∷ bs) ≡ true → ⊥
no_blank b bs blank solid = true≢false (sym (rw blank at solid))

same_blanks : (blanks blanks' xs xs' : List ℕ) → blanks ++ xs ≡ blanks' ++ xs' → list_all is_blank blanks ≡ true → list_all is_blank blanks' ≡ true
    → is_solid xs ≡ true → is_solid xs' ≡ true → SameBlanks blanks blanks' xs xs'
same_blanks [] [] xs xs' same all all' solid solid' = record { blank = refl; others = same }
same_blanks [] (b ∷ blanks') xs xs' same all all' solid solid' =
    absurd (no_blank b (blanks' ++ xs') (and-left (is_blank b) (list_all is_blank blanks') all') (ap is_solid (sym same) ∙ solid))
same_blanks (b ∷ blanks) [] xs xs' same all all' solid solid' =
    absurd (no_blank b (blanks ++ xs) (and-left (is_blank b) (list_all is_blank blanks) all) (ap is_solid same ∙ solid'))
same_blanks (b ∷ blanks) (c ∷ blanks') xs xs' same all all' solid solid' =
    let first : b ≡ c = cc in
    let tails : blanks ++ xs ≡ blanks' ++ xs' = cc in
    let s = same_blanks blanks blanks' xs xs' tails (and-right (is_blank b) (list_all is_blank blanks) all) (and-right (is_blank c) (list_all is_blank blanks') all') solid solid' in
    record { blank = ap (λ d. d ∷ blanks) first ∙ ap (λ ys. c ∷ ys) s.blank; others = s.others }

same_front : (xs ys r s : List ℕ) → xs ++ r ≡ ys ++ s → length xs ≡ length ys → (xs ≡ ys) × (r ≡ s)
same_front [] [] r s same len = (refl, same)
same_front [] (y ∷ ys) r s same len = absurd (omega (arith, len))
same_front (x ∷ xs) [] r s same len = absurd (omega (arith, len))
same_front (x ∷ xs) (y ∷ ys) r s same len =
    let first : x ≡ y = cc in
    let tails : xs ++ r ≡ ys ++ s = cc in
    let again = same_front xs ys r s tails (omega (arith, len)) in
    (ap (λ c. c ∷ xs) first ∙ ap (λ zs. y ∷ zs) again.0, again.1)

same_token : (bs : List ℕ) (t u : Token) → IsTokenOf bs t → IsTokenOf bs u → t ≡ u
same_token bs t u (inl s) (inl r) = one_token bs t u s r
same_token bs t u (inl s) (inr q) = absurd (q.1 t s)
same_token bs t u (inr p) (inl r) = absurd (p.1 u r)
same_token bs t u (inr p) (inr q) = p.0 ∙ sym q.0

same_piece : (p q : Piece) → p.token ≡ q.token → p.place ≡ q.place → p ≡ q
same_piece p q t n =
    let one : piece p.token p.place ≡ piece q.token p.place = ap (λ u. piece u p.place) t in
    let two : piece q.token p.place ≡ piece q.token q.place = ap (λ k. piece q.token k) n in
    one ∙ two

record SameNext (at : ℕ) (left : List ℕ) (p q : Piece) (n : IsNext at left p) (m : IsNext at left q) : Type 0 where
  pub bytes : n.bytes ≡ m.bytes
  pub rest : n.rest ≡ m.rest
  pub token : p.token ≡ q.token
  pub place : p.place ≡ q.place

same_next : (at : ℕ) (left : List ℕ) (p q : Piece) (n : IsNext at left p) (m : IsNext at left q) → SameNext at left p q n m
same_next at left p q n m =
    let s = same_blanks n.blanks m.blanks (n.bytes ++ n.rest) (m.bytes ++ m.rest) (sym n.split ∙ m.split) n.blank m.blank n.solid m.solid in
    let one : length m.bytes ≤ length n.bytes = n.longest.longest m.bytes m.rest (sym s.others) m.longest.begins in
    let other : length n.bytes ≤ length m.bytes = m.longest.longest n.bytes n.rest s.others n.longest.begins in
    let len : length n.bytes ≡ length m.bytes = omega (arith, one, other) in
    let fronts = same_front n.bytes m.bytes n.rest m.rest s.others len in
    let token : IsTokenOf m.bytes p.token = carry fronts.0 n.token in
    record {
      bytes = fronts.0;
      rest = fronts.1;
      token = same_token m.bytes p.token q.token token m.token;
      place = n.place ∙ (ap (λ (bs : List ℕ). at + length bs) s.blank ∙ sym m.place);
    }
  where
    carry : {bs cs : List ℕ} → bs ≡ cs → IsTokenOf bs p.token → IsTokenOf cs p.token
    carry e h = rw (← e) h

moved : (k l : ℕ) (bs cs xs ys : List ℕ) (ps : List Piece) → k ≡ l → bs ≡ cs → xs ≡ ys → ArePieces (k + length bs) xs ps → ArePieces (l + length cs) ys ps
moved k l bs cs xs ys ps e f g h = rw (← e, ← f, ← g) h

-- the other pieces, where the first are equal
choose : (x : Bool) (ps qs : List Piece) → (x ≡ true → ps ≡ []) → (x ≡ true → qs ≡ []) → (x ≡ false → ps ≡ qs) → ps ≡ qs
choose true ps qs one other both = one refl ∙ sym (other refl)
choose false ps qs one other both = both refl

blank_and_solid : (blanks xs left : List ℕ) → left ≡ blanks ++ xs → list_all is_blank left ≡ true → is_solid xs ≡ true → ⊥
blank_and_solid [] [] left split all solid = true≢false (sym solid)
blank_and_solid [] (b ∷ xs) left split all solid = no_blank b xs (and-left (is_blank b) (list_all is_blank xs) (rw split at all)) solid
blank_and_solid (b ∷ blanks) xs left split all solid =
    blank_and_solid blanks xs (blanks ++ xs) refl (and-right (is_blank b) (list_all is_blank (blanks ++ xs)) (rw split at all)) solid

unique : (ps qs : List Piece) (at : ℕ) (left : List ℕ) → ArePieces at left ps → ArePieces at left qs → ps ≡ qs
unique [] [] at left h k = refl
unique [] (q ∷ qs) at left h (m, bad, good) = absurd (blank_and_solid m.blanks (m.bytes ++ m.rest) left m.split h m.solid)
unique (p ∷ ps) [] at left (n, bad, good) k = absurd (blank_and_solid n.blanks (n.bytes ++ n.rest) left n.split k n.solid)
unique (p ∷ ps) (q ∷ qs) at left (n, bad, good) (m, bad', good') =
    let s = same_next at left p q n m in
    let same_bad : is_bad q.token ≡ is_bad p.token = ap is_bad (sym s.token) in
    let others : ps ≡ qs = choose (is_bad p.token) ps qs bad (λ e. bad' (same_bad ∙ e)) (λ e. unique ps qs (q.place + length m.bytes) m.rest (moved p.place q.place n.bytes m.bytes n.rest m.rest ps s.place s.bytes s.rest (good e)) (good' (same_bad ∙ e))) in
    ap (λ x. x ∷ ps) (same_piece p q s.token s.place) ∙ ap (λ xs. q ∷ xs) others

-- a spelling with which no spelling goes on is the next piece
pub piece_spelled : (at : ℕ) (bs rest : List ℕ) (t : Token) → Spells bs t → is_bad t ≡ false → is_solid (bs ++ rest) ≡ true → Ends bs rest
    → pieces_after 0 at (bs ++ rest) ≡ piece t at ∷ pieces_after 0 (at + length bs) rest
piece_spelled at bs rest t s good solid ends =
    let place : at ≡ at + 0 = omega arith in
    let next : IsNext at (bs ++ rest) (piece t at) = record {
      blanks = [];
      bytes = bs;
      rest = rest;
      split = refl;
      blank = refl;
      solid = solid;
      longest = longest_of bs rest (begun bs t s) ends;
      token = inl s;
      place = place;
    } in
    let others = parts_within (length rest) (at + length bs) rest (omega arith) in
    let all : ArePieces at (bs ++ rest) (piece t at ∷ pieces_after 0 (at + length bs) rest) = (next, (λ bad. absurd (true≢false (sym bad ∙ good))), (λ same. others)) in
    unique (pieces_after 0 at (bs ++ rest)) (piece t at ∷ pieces_after 0 (at + length bs) rest) at (bs ++ rest) (parts_within (length (bs ++ rest)) at (bs ++ rest) (omega arith)) all

-- blanks at the front are left out
pub blank_skipped : (at b : ℕ) (bs : List ℕ) → is_blank b ≡ true → pieces_after 0 at (b ∷ bs) ≡ pieces_after 0 (suc at) bs
unfolding pieces_after
blank_skipped at b bs e = rw e refl

pub pieces_exact : PiecesAreExact
pieces_exact = record {
  parts = λ line. parts_within (length line) 1 line (omega arith);
  only = λ line ps h. unique ps (pieces line) 1 line h (parts_within (length line) 1 line (omega arith));
}
