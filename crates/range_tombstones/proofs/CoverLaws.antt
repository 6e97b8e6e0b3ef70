-- What the piece of a key answers.
use Rattle.std.proofs.Common.{◌≡◌, Bool, true, false, cond, ◌&&◌, List, [], ◌∷◌, Some, filter, refl, sym, ap, ◌∙◌}
use Rattle.mvcc_keys.specs.Times.{Time, time_lt, time_le}
use Rattle.list_laws.specs.Members.{Has}
use Rattle.list_laws.proofs.Members as members
use Rattle.range_tombstones.specs.declared.deletion.RangeDeletion.{RangeDeletion}
use Rattle.range_tombstones.specs.declared.piece.Piece.{Piece}
use Rattle.range_tombstones.specs.Dates.{Ascends, last_of, last_after, last_upto}
use Rattle.range_tombstones.specs.Ranges.{Bytes, by_date, dates_of, covers, later_date, newest_cover}
use Rattle.range_tombstones.specs.Pieces.{piece_at, dates_at, IsMadeOf}
use Rattle.range_tombstones.proofs.Lists as lists
use Rattle.range_tombstones.proofs.DateLaws.{upto}
use Rattle.range_tombstones.proofs.MadeLaws as made
use Rattle.range_tombstones.proofs.MadeLaws.{covering}

pub made-none : IsMadeOf [] []
unfolding piece_at
made-none = record { pieces = tt; ascends = tt; proper = tt; dates = λ key. refl }

-- ---- the newest range deletion over a key

last-later : (x : Time) (ys : List Time) → ((y : Time) → Has y ys → time_lt x y ≡ true) → last_of (x ∷ ys) ≡ later_date x (last_of ys)
last-later x [] f = refl
last-later x (y ∷ ys) f = sym (ap (λ (b : Bool). cond b (Some (last_after y ys)) (Some x)) (f (last_after y ys) (lists.last-has y ys)))

newest-is : (key : Bytes) (t : Time) (rs : List RangeDeletion) → Ascends by_date rs → last_of (upto t (covering key rs)) ≡ newest_cover key t rs
unfolding newest_cover
newest-is key t [] a = refl
newest-is key t (r ∷ rs) a = by (covers key r) (time_le r.at t) (newest-is key t rs a.1)
  where
    later : (y : Time) → Has y (upto t (covering key rs)) → time_lt r.at y ≡ true
    later y h = let w = made.at-has y (filter (covers key) rs) (members.filter-has (λ d. time_le d t) y (covering key rs) h) in ap (time_lt r.at) w.2 ∙ lists.all-has (λ s. by_date r s ≡ true) rs a.0 w.0 (members.filter-has (covers key) w.0 rs w.1)

    by : (b c : Bool) → last_of (upto t (covering key rs)) ≡ newest_cover key t rs → last_of (upto t (dates_of (cond b (r ∷ filter (covers key) rs) (filter (covers key) rs)))) ≡ cond (b && time_le r.at t) (later_date r.at (newest_cover key t rs)) (newest_cover key t rs)
    by b c more = go b (time_le r.at t) refl
      where
        go : (b c : Bool) → time_le r.at t ≡ c → last_of (upto t (dates_of (cond b (r ∷ filter (covers key) rs) (filter (covers key) rs)))) ≡ cond (b && time_le r.at t) (later_date r.at (newest_cover key t rs)) (newest_cover key t rs)
        go true true e = rw e (last-later r.at (upto t (covering key rs)) later ∙ ap (later_date r.at) more)
        go true false e = rw e more
        go false c e = more

-- what the piece of a key answers
pub newest-at : (key : Bytes) (t : Time) (ps : List Piece) (rs : List RangeDeletion) → IsMadeOf ps rs → last_upto t (dates_at key ps) ≡ newest_cover key t rs
unfolding last_upto
newest-at key t ps rs m = ap (λ ds. last_of (upto t ds)) (m.dates key) ∙ newest-is key t rs m.ascends
