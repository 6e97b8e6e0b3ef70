-- One descriptor more of a walk.
use Rattle.std.proofs.Common.{◌≡◌, Bool, true, false, cond, ◌&&◌, if◌then◌else◌, refl, sym, ap, ◌∙◌, ℕ, ◌+◌, ◌<◌, length, get_or, drop, drop-cons, add-one, List, ◌∷◌, Option, map, filter, fold}
use Rattle.mvcc_keys.specs.Times.{Time, time_le}
use Rattle.table_descriptors.specs.Descriptors.{Schema}
use Rattle.introduced_spans.specs.Publicity.{ends, dates_where, with_before, is_public, later_or}

pub last_date : (e : Time) (best : Option Time) (before : Bool) (d : Schema) (ds : List Schema) → fold later_or best (filter (λ t. time_le t e) (dates_where ends before (d ∷ ds))) ≡ fold later_or (if ends (before, d) && time_le d.modified e then later_or best d.modified else best) (filter (λ t. time_le t e) (dates_where ends (is_public d) ds))
last_date e best before d ds = by (ends (before, d))
  where
    rest : List Time
    rest = filter (λ t. time_le t e) (dates_where ends (is_public d) ds)

    upto : (c : Bool) → fold later_or best (cond c (d.modified ∷ rest) rest) ≡ fold later_or (if c then later_or best d.modified else best) rest
    upto true = refl
    upto false = refl

    by : (b : Bool) → fold later_or best (filter (λ t. time_le t e) (map (λ (p : Bool × Schema). p.1.modified) (cond b ((before, d) ∷ filter ends (with_before (is_public d) ds)) (filter ends (with_before (is_public d) ds))))) ≡ fold later_or (if b && time_le d.modified e then later_or best d.modified else best) rest
    by true = upto (time_le d.modified e)
    by false = refl

pub last_date_at : (e : Time) (best : Option Time) (before : Bool) (d : Schema) (xs : List Schema) (i : ℕ) → i < length xs → d ≡ get_or xs i d → fold later_or best (filter (λ t. time_le t e) (dates_where ends before (drop i xs))) ≡ fold later_or (if ends (before, d) && time_le d.modified e then later_or best d.modified else best) (filter (λ t. time_le t e) (dates_where ends (is_public d) (drop (i + 1) xs)))
last_date_at e best before d xs i h is = let cut : drop i xs ≡ get_or xs i d ∷ drop (i + 1) xs = rw add-one (drop-cons xs i d h) in let at : drop i xs ≡ d ∷ drop (i + 1) xs = cut ∙ ap (λ (x : Schema). x ∷ drop (i + 1) xs) (sym is) in ap (λ (ys : List Schema). fold later_or best (filter (λ t. time_le t e) (dates_where ends before ys))) at ∙ last_date e best before d (drop (i + 1) xs)
