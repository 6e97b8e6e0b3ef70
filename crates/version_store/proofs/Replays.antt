-- One call more.
use Rattle.std.proofs.Common.{◌≡◌, ◌∙◌, ℕ, ◌+◌, ◌<◌, zero, suc, refl, ap, ap₂, sym, subst, List, [], ◌∷◌, ◌++◌, length, get_or, take, arith}
use Rattle.std.proofs.lemmas.List.{take_more}
use Rattle.version_store.specs.Tables.{Tables}
use Rattle.version_store.specs.Calls.{after_call, after_calls, answer_of, answers_of, IsAllowed, AreAllowed}
use Rattle.version_store.specs.declared.calls.VersionCall.{VersionCall}
use Rattle.version_store.specs.declared.calls.VersionAnswer.{VersionAnswer}

after-one_more : (cs : List VersionCall) (c : VersionCall) (h : Tables) → after_calls (cs ++ c ∷ []) h ≡ after_call c (after_calls cs h)
unfolding after_calls
after-one_more [] c h = refl
after-one_more (b ∷ cs) c h = after-one_more cs c (after_call b h)

answers-one_more : (cs : List VersionCall) (c : VersionCall) (h : Tables) → answers_of h (cs ++ c ∷ []) ≡ answers_of h cs ++ answer_of (after_calls cs h) c ∷ []
unfolding after_calls answers_of
answers-one_more [] c h = refl
answers-one_more (b ∷ cs) c h = ap (λ (as' : List VersionAnswer). answer_of h b ∷ as') (answers-one_more cs c (after_call b h))

pub after-more : (cs : List VersionCall) (i : ℕ) (c : VersionCall) (h : Tables) → i < length cs → c ≡ get_or cs i c → after_calls (take (i + 1) cs) h ≡ after_call c (after_calls (take i cs) h)
after-more cs i c h l at = ap (λ (xs : List VersionCall). after_calls xs h) (take_more cs i c l ∙ ap (λ (x : VersionCall). take i cs ++ x ∷ []) (sym at)) ∙ after-one_more (take i cs) c h

pub answers-more : (cs : List VersionCall) (i : ℕ) (c : VersionCall) (h : Tables) (old new : List VersionAnswer) (a : VersionAnswer) → i < length cs → c ≡ get_or cs i c → new ≡ old ++ a ∷ [] → old ≡ answers_of h (take i cs) → a ≡ answer_of (after_calls (take i cs) h) c → new ≡ answers_of h (take (i + 1) cs)
answers-more cs i c h old new a l at pushed before answer = pushed ∙ (ap₂ (λ (xs : List VersionAnswer) (x : VersionAnswer). xs ++ x ∷ []) before answer ∙ sym (ap (answers_of h) (take_more cs i c l ∙ ap (λ (x : VersionCall). take i cs ++ x ∷ []) (sym at)) ∙ answers-one_more (take i cs) c h))

allowed-at : (cs : List VersionCall) (i : ℕ) (d : VersionCall) (h : Tables) → i < length cs → AreAllowed h cs → IsAllowed (after_calls (take i cs) h) (get_or cs i d)
unfolding after_calls AreAllowed
allowed-at [] i d h l all = absurd (omega arith)
allowed-at (c ∷ cs) zero d h l all = all.0
allowed-at (c ∷ cs) (suc i) d h l all = allowed-at cs i d (after_call c h) (omega arith) all.1

pub allowed : (cs : List VersionCall) (i : ℕ) (c : VersionCall) (h : Tables) → i < length cs → c ≡ get_or cs i c → AreAllowed h cs → IsAllowed (after_calls (take i cs) h) c
allowed cs i c h l at all = subst (IsAllowed (after_calls (take i cs) h)) (sym at) (allowed-at cs i c h l all)
