-- Pieces that begin at or before a key.
use Rattle.std.proofs.Common.{◌≡◌, ℕ, zero, suc, Bool, true, false, cond, List, [], ◌∷◌, ◌++◌, take, drop, Option, Some, None, option_map, map, filter, refl, sym, ap, ap₂, ◌∙◌}
use Rattle.std.specs.List.{AllByRecursion}
use Rattle.mvcc_keys.specs.Times.{Time}
use Rattle.range_tombstones.specs.declared.piece.Piece.{Piece}
use Rattle.range_tombstones.specs.Dates.{Ascends, with_date, last_after, last_of}
use Rattle.range_tombstones.specs.Ranges.{Bytes, bytes_le, bytes_lt, is_within}
use Rattle.range_tombstones.specs.Pieces.{piece, begins_before, piece_after, piece_at, dated, undated, MayDate}
use Rattle.range_tombstones.proofs.DateLaws as dates

abbrev pub begun : Bytes → List Piece → List Piece
begun key ps = filter (λ p. bytes_le p.start key) ps

abbrev or_last : Option Piece → List Piece → Option Piece
or_last before [] = before
or_last before (p ∷ ps) = Some (last_after p ps)

after-begun : (before : Option Piece) (key : Bytes) (ps : List Piece) → piece_after before key ps ≡ or_last before (begun key ps)
after-begun before key [] = refl
after-begun before key (p ∷ ps) = by (bytes_le p.start key) (λ b. after-begun b key ps)
  where
    shift : (qs : List Piece) → or_last (Some p) qs ≡ Some (last_after p qs)
    shift [] = refl
    shift (q ∷ qs) = refl

    by : (b : Bool) → ((o : Option Piece) → piece_after o key ps ≡ or_last o (begun key ps)) → piece_after (cond b (Some p) before) key ps ≡ or_last before (cond b (p ∷ begun key ps) (begun key ps))
    by true more = more (Some p) ∙ shift (begun key ps)
    by false more = more before

pub at-begun : (key : Bytes) (ps : List Piece) → last_of (begun key ps) ≡ piece_at key ps
unfolding piece_at
at-begun key ps = by (begun key ps) ∙ sym (after-begun None key ps)
  where
    by : (qs : List Piece) → last_of qs ≡ or_last None qs
    by [] = refl
    by (q ∷ qs) = refl

-- ---- changes of pieces that leave where they begin

pub after-map : (f : Piece → Piece) → ((p : Piece) → (f p).start ≡ p.start) → (before : Option Piece) (key : Bytes) (ps : List Piece) → piece_after (option_map f before) key (map f ps) ≡ option_map f (piece_after before key ps)
after-map f same before key [] = refl
after-map f same before key (p ∷ ps) = ap (λ (s : Bytes). piece_after (cond (bytes_le s key) (Some (f p)) (option_map f before)) key (map f ps)) (same p) ∙ (ap (λ o. piece_after o key (map f ps)) (by (bytes_le p.start key)) ∙ after-map f same (cond (bytes_le p.start key) (Some p) before) key ps)
  where
    by : (b : Bool) → cond b (Some (f p)) (option_map f before) ≡ option_map f (cond b (Some p) before)
    by true = refl
    by false = refl

pub at-map : (f : Piece → Piece) → ((p : Piece) → (f p).start ≡ p.start) → (key : Bytes) (ps : List Piece) → piece_at key (map f ps) ≡ option_map f (piece_at key ps)
unfolding piece_at
at-map f same key ps = after-map f same None key ps

pub ascends-map : (f : Piece → Piece) → ((p : Piece) → (f p).start ≡ p.start) → (ps : List Piece) → Ascends begins_before ps → Ascends begins_before (map f ps)
ascends-map f same [] a = tt
ascends-map f same (p ∷ ps) a = (by ps a.0, ascends-map f same ps a.1)
  where
    by : (qs : List Piece) → AllByRecursion (λ q. begins_before p q ≡ true) qs → AllByRecursion (λ q. begins_before (f p) q ≡ true) (map f qs)
    by [] h = tt
    by (q ∷ qs) h = (ap₂ (λ (a b : Bytes). bytes_lt a b) (same p) (same q) ∙ h.0, by qs h.1)

-- ---- dates put in and taken out

dated-back : (lo hi : Bytes) (t : Time) (p : Piece) → MayDate t p → undated t (dated lo hi t p) ≡ p
dated-back lo hi t p m = by (is_within lo hi p.start)
  where
    by : (b : Bool) → undated t (cond b (piece p.start (with_date t p.dates)) p) ≡ p
    by true = ap (λ (ds : List Time). piece p.start ds) (dates.without-with t p.dates m.0 m.1)
    by false = ap (λ (ds : List Time). piece p.start ds) (dates.without-new t p.dates m.1)

-- pieces of which some were dated
pub undated-back : (lo hi : Bytes) (t : Time) (n : ℕ) (ps : List Piece) → AllByRecursion (MayDate t) ps → map (undated t) (map (dated lo hi t) (take n ps) ++ drop n ps) ≡ ps
undated-back lo hi t zero [] m = refl
undated-back lo hi t (suc n) [] m = refl
undated-back lo hi t zero (p ∷ ps) m = ap₂ (λ (q : Piece) qs. q ∷ qs) (ap (λ (ds : List Time). piece p.start ds) (dates.without-new t p.dates m.0.1)) (undated-back lo hi t zero ps m.1)
undated-back lo hi t (suc n) (p ∷ ps) m = ap₂ (λ (q : Piece) qs. q ∷ qs) (dated-back lo hi t p m.0) (undated-back lo hi t n ps m.1)
