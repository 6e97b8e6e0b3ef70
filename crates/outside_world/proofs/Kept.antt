-- One more state joins those that a disk in memory has had.
use Rattle.std.proofs.Common.{◌≡◌, ◌⊎◌, inl, inr, ⊎_elim, ℕ, zero, suc, ◌≤◌, Bool, true, List, [], ◌∷◌, ◌++◌, length, drop, Ok, refl, sym, ap, subst, arith, length-append}
use Rattle.outside_world.specs.declared.call.DiskCall.{DiskCall}
use Rattle.outside_world.specs.declared.call.DiskCall.TheVariants.{Sync}
use Rattle.outside_world.specs.Objects.{Objects}
use Rattle.outside_world.specs.Disk.{Elapses, Settles}
use Rattle.outside_world.specs.Entries.{Entries, is_touched, objects_of}
use Rattle.outside_world.specs.Past.{State, Image, HadBeen, memory_view}

keeps : (past : List State) (s : State) (c : Objects) → HadBeen past c → HadBeen (past ++ s ∷ []) c
keeps [] s c had = absurd had
keeps (p ∷ past) s c (inl here) = inl here
keeps (p ∷ past) s c (inr there) = inr (keeps past s c there)

adds : (past : List State) (s : State) (c : Objects) → HadBeen (past ++ s ∷ []) c → HadBeen past c ⊎ Image s c
adds [] s c (inl here) = inr here
adds [] s c (inr none) = absurd none
adds (p ∷ past) s c (inl here) = inl (inl here)
adds (p ∷ past) s c (inr there) = ⊎_elim (λ had. inl (inr had)) (λ new. inr new) (adds past s c there)

newest : (past : List State) (s : State) (c : Objects) → Image s c → HadBeen (past ++ s ∷ []) c
newest [] s c is = inl is
newest (p ∷ past) s c is = inr (newest past s c is)

drop_push : (t : ℕ) (past : List State) (s : State) → t ≤ length past → drop t (past ++ s ∷ []) ≡ drop t past ++ s ∷ []
drop_push zero past s le = refl
drop_push (suc t) [] s le = absurd (omega arith)
drop_push (suc t) (p ∷ past) s le = drop_push t past s (omega arith)

was : (had_been : Type 0) (now : Type 0) → had_been ⊎ now → now ⊎ had_been
was had_been now (inl had) = inr had
was had_been now (inr new) = inl new

-- the state that was joins the past
pub elapses_kept : (past later : List State) (old new : State) (a b : List (DiskCall × Bool)) (f h : ℕ) → later ≡ past ++ old ∷ [] → Elapses (memory_view past old a f) (memory_view later new b h)
elapses_kept past later old new a b f h is = subst (λ (l : List State). Elapses (memory_view past old a f) (memory_view l new b h)) (sym is) (record {
  later = omega (arith, length-append past (old ∷ []));
  keeps = λ t c le left. inr (subst (λ (l : List State). HadBeen l c) (sym (drop_push t past old le)) (⊎_elim (λ now. newest (drop t past) old c now) (keeps (drop t past) old c) left));
  adds = λ known t c le left. ⊎_elim (λ now. inr now) (λ had. inl (was _ _ (adds (drop t past) old c (subst (λ (l : List State). HadBeen l c) (drop_push t past old le) had)))) left;
})

-- a sync that is done
pub settles_done : {T : Type 0} (past later : List State) (es fs : Entries) (ts us : List (List ℕ)) (a b : List (DiskCall × Bool)) (f h : ℕ) (x : T) → fs ≡ es → later ≡ past ++ (es, ts) ∷ [] → us ≡ [] → b ≡ a ++ (Sync, true) ∷ []
    → Settles (Ok x) (memory_view past (es, ts) a f) (memory_view later (fs, us) b h)
settles_done past later es fs ts us a b f h x same kept none noted = record {
  kind = record { tells = refl; honest = refl };
  time = elapses_kept past later (es, ts) (fs, us) a b f h kept;
  content = λ tells. record { objects = ap objects_of same; ok = λ n. ap (λ (l : List (List ℕ)). is_touched l n) none; err = tt; calls = noted };
}
