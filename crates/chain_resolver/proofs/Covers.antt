-- Faults of a cover.
use Rattle.std.proofs.Common.{◌≡◌, ℕ, zero, suc, Bool, true, false, ◌&&◌, ◌||◌, sym, refl, ap, ◌∙◌, subst, List, [], ◌∷◌, Some, length, map, filter, cond}
use Rattle.std.specs.List.{slice_get, list_any, list_all, zip}
use Rattle.std.proofs.lemmas.Bool.{and_parts}
use Rattle.chain_resolver.specs.declared.layer.Layer.{Layer}
use Rattle.chain_resolver.specs.declared.task.Task.{Task}
use Rattle.chain_resolver.specs.declared.task.Task.TheVariants.{Chain, Join, Span}
use Rattle.chain_resolver.specs.declared.faults.CoverFault.{CoverFault}
use Rattle.chain_resolver.specs.declared.faults.CoverFault.TheVariants.{NotCovered, HistoryCollected, NeedsHistory, Gap, Memory}
use Rattle.mvcc_keys.specs.Times.{Time, zero_time, time_lt, time_eq, latest, or_zero}
use Rattle.chain_resolver.specs.Ways.{AreOrdered, NoWay, usable, chain_to}
use Rattle.chain_resolver.specs.Steps.{IsForward}
use Rattle.chain_resolver.specs.Tasks.{route_of}
use Rattle.chain_resolver.specs.Cover.{CoverFaultIs, IsReason, reason}
use Rattle.chain_resolver.specs.Reaching.{marked_times, reach, reach_on, reached_times}
use Rattle.mvcc_keys.proofs.TimeOrder as times
use Rattle.list_laws.proofs.Options as walks
use Rattle.chain_resolver.proofs.Reach.{reached-is}

after : (l m : Layer) → time_lt l.start l.end ≡ true → time_eq l.end m.start ≡ true → time_lt l.start m.start ≡ true
after l m lt e = subst (λ (x : Time). time_lt l.start x ≡ true) (times.eq-is l.end m.start e) lt

ordered-at : (ls : List Layer) → AreOrdered ls → (p : ℕ) (l : Layer) → slice_get ls p ≡ Some l → time_lt l.start l.end ≡ true
ordered-at [] h p l at = cc
ordered-at (x ∷ xs) h zero l at = subst (λ (y : Layer). time_lt y.start y.end ≡ true) (walks.some-is x l at) (and_parts (time_lt x.start x.end) (list_all (λ m. time_lt m.start m.end) xs) h).0
ordered-at (x ∷ xs) h (suc p) l at = ordered-at xs (and_parts (time_lt x.start x.end) (list_all (λ m. time_lt m.start m.end) xs) h).1 p l at

pub route-IsForward : (t : Task) (ls : List Layer) → AreOrdered ls → IsForward (route_of t) ls
route-IsForward (Chain t) ls ordered = λ p l m at e. after l m (ordered-at ls ordered p l at) e
route-IsForward (Join from to) ls ordered = λ p l m at e. after l m (ordered-at ls ordered p l at) e
route-IsForward (Span t1 t2) ls ordered = λ p l m at e. after l m (ordered-at ls ordered p l at) (and_parts (usable t1 m) (time_eq l.end m.start) e).1

pub reach-on : (ls : List Layer) (k : ℕ) (l : Layer) → reach_on ls (map (reach ls k) ls) l ≡ reach ls (suc k) l
reach-on ls k l = ap (λ (b : Bool). time_eq zero_time l.start || b) (along ls)
  where
    along : (xs : List Layer) → list_any (λ (p : Layer × Bool). time_eq p.0.end l.start && p.1) (zip xs (map (reach ls k) xs)) ≡ list_any (λ m. time_eq m.end l.start && reach ls k m) xs
    along [] = refl
    along (x ∷ xs) = ap (λ (b : Bool). (time_eq x.end l.start && reach ls k x) || b) (along xs)

pub reach-next : (ls : List Layer) (k n : ℕ) (row next : List Bool) → n ≡ suc k → row ≡ map (reach ls k) ls → next ≡ map (reach_on ls row) ls → next ≡ map (reach ls n) ls
reach-next ls k n row next same is e = e ∙ ap (λ (xs : List Bool). map (reach_on ls xs) ls) is ∙ (λ i. map (λ l. reach-on ls k l i) ls) ∙ ap (λ (j : ℕ). map (reach ls j) ls) (sym same)

pub marked-reached : (ls : List Layer) (t : Time) (n : ℕ) (row : List Bool) → row ≡ map (reach ls n) ls → marked_times t ls row ≡ reached_times ls t n
marked-reached ls t n row is = ap (marked_times t ls) is ∙ along ls
  where
    along : (xs : List Layer) → map (λ (p : Layer × Bool). p.0.end) (filter (λ (p : Layer × Bool). time_lt p.0.end t && p.1) (zip xs (map (reach ls n) xs))) ≡ map (λ l. l.end) (filter (λ l. time_lt l.end t && reach ls n l) xs)
    along [] = refl
    along (x ∷ xs) = by (time_lt x.end t && reach ls n x) (along xs)
      where
        by : (b : Bool) → map (λ (p : Layer × Bool). p.0.end) (filter (λ (p : Layer × Bool). time_lt p.0.end t && p.1) (zip xs (map (reach ls n) xs))) ≡ map (λ l. l.end) (filter (λ l. time_lt l.end t && reach ls n l) xs) → map (λ (p : Layer × Bool). p.0.end) (cond b ((x, reach ls n x) ∷ filter (λ (p : Layer × Bool). time_lt p.0.end t && p.1) (zip xs (map (reach ls n) xs))) (filter (λ (p : Layer × Bool). time_lt p.0.end t && p.1) (zip xs (map (reach ls n) xs)))) ≡ map (λ l. l.end) (cond b (x ∷ filter (λ l. time_lt l.end t && reach ls n l) xs) (filter (λ l. time_lt l.end t && reach ls n l) xs))
        by true e = ap (λ (ts : List Time). x.end ∷ ts) e
        by false e = e

pub fault-is : (ls : List Layer) (t x : Time) (f : CoverFault) → NoWay (chain_to t) ls → AreOrdered ls → x ≡ or_zero (latest (reached_times ls t (length ls))) → f ≡ reason ls t x → CoverFaultIs ls t f
fault-is ls t x f none ordered at is = by f (record { none = none; reached = x; reach = rw at (reached-is ls t (λ y. route-IsForward (Join zero_time y) ls ordered)); first = is })
  where
    by : (f : CoverFault) → IsReason ls t f → CoverFaultIs ls t f
    by Memory h = tt
    by (NotCovered a b) h = h
    by (HistoryCollected a) h = h
    by (NeedsHistory a b) h = h
    by (Gap a b) h = h
