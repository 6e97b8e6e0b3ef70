-- A script is its lines.
use Rattle.std.proofs.Common.{◌≡◌, ℕ, zero, suc, true, false, ◌==◌, List, [], ◌∷◌, ◌++◌, take, ◌⊎◌, inl, inr, arith, refl, sym, ap, ◌∙◌}
use Rattle.std.specs.List.{AllByRecursion}
use Rattle.std.proofs.lemmas.Bool.{cases_Bool}
use Rattle.std.proofs.lemmas.Bool.Decides.{nat_tests}
use Rattle.machine_model.specs.Script.{Line, Within, Beyond, lines, put_front}
use Rattle.machine_model.specs.LineLaws.{AreItsLines, LacksNewline, PassesLimit, ScriptsAreTheirLines, ended, is_within}

-- ---- one byte more in front

no-lines : (room : ℕ) → AreItsLines room [] []
no-lines room = record { single = tt; short = λ l. (tt, inl refl); long = λ l. absurd (omega (arith, l)) }

at-limit : (b : ℕ) (bs : List ℕ) → AreItsLines 0 (b ∷ bs) (Beyond [] ∷ [])
at-limit b bs = record {
  single = (refl, tt);
  short = λ l. absurd (omega (arith, l));
  long = λ l. record { before = []; last = []; all = refl; within = tt; bytes = refl };
}

-- a newline in front
lacks-more : (b : ℕ) (bs : List ℕ) → LacksNewline bs → LacksNewline (b ∷ bs)
lacks-more b bs h = record { some = omega arith; last = last }
  where
    last : (front : List ℕ) → b ∷ bs ≡ front ++ 10 ∷ [] → ⊥
    last [] e = let none : bs ≡ [] = cc in let s = h.some in absurd (let s' = rw none at s in omega (arith, s'))
    last (x ∷ front) e = h.last front (cc)

after-newline : (room : ℕ) (bs : List ℕ) (ls : List Line) → AreItsLines room bs ls → AreItsLines (suc room) (10 ∷ bs) (Within [] ∷ ls)
after-newline room bs ls a = record {
  single = (refl, a.single);
  short = λ l. let s = a.short (omega (arith, l)) in ((refl, s.0), by s.1);
  long = λ l. let p = a.long (omega (arith, l)) in record { before = Within [] ∷ p.before; last = p.last; all = ap (λ (ms : List Line). Within [] ∷ ms) p.all; within = (refl, p.within); bytes = ap (λ (t : List ℕ). 10 ∷ t) p.bytes };
}
  where
    by : ((bs ≡ ended ls) ⊎ (LacksNewline bs × (bs ++ 10 ∷ [] ≡ ended ls))) → (10 ∷ bs ≡ ended (Within [] ∷ ls)) ⊎ (LacksNewline (10 ∷ bs) × ((10 ∷ bs) ++ 10 ∷ [] ≡ ended (Within [] ∷ ls)))
    by (inl e) = inl (ap (λ (t : List ℕ). 10 ∷ t) e)
    by (inr e) = inr (lacks-more 10 bs e.0, ap (λ (t : List ℕ). 10 ∷ t) e.1)

-- another byte in front
alone : (b : ℕ) → (b == 10) ≡ false → LacksNewline (b ∷ [])
alone b other = record { some = omega arith; last = last }
  where
    last : (front : List ℕ) → b ∷ [] ≡ front ++ 10 ∷ [] → ⊥
    last [] e = let is : b ≡ 10 = cc in absurd (let f = other in grind (arith, nat_tests))
    last (x ∷ []) e = absurd (cc)
    last (x ∷ y ∷ front) e = absurd (cc)

after-byte : (room b : ℕ) (bs : List ℕ) (ls : List Line) → (b == 10) ≡ false → ls ≡ lines room bs → AreItsLines room bs ls → AreItsLines (suc room) (b ∷ bs) (put_front b ls)
after-byte room b bs [] other is a = record {
  single = (rw other refl, tt);
  short = λ l. ((refl, tt), by bs (a.short (omega (arith, l))).1);
  long = λ l. absurd (let p = a.long (omega (arith, l)) in none p.before p.last p.all);
}
  where
    none : (before : List Line) (last : List ℕ) → [] ≡ before ++ Beyond last ∷ [] → ⊥
    none [] last e = absurd (cc)
    none (m ∷ before) last e = absurd (cc)

    by : (xs : List ℕ) → ((xs ≡ ended []) ⊎ (LacksNewline xs × (xs ++ 10 ∷ [] ≡ ended []))) → (b ∷ xs ≡ ended (Within (b ∷ []) ∷ [])) ⊎ (LacksNewline (b ∷ xs) × ((b ∷ xs) ++ 10 ∷ [] ≡ ended (Within (b ∷ []) ∷ [])))
    by [] e = inr (alone b other, refl)
    by (x ∷ xs) (inl e) = absurd (cc)
    by (x ∷ xs) (inr e) = absurd (let f = e.1 in cc)
after-byte room b bs (Within bytes ∷ ls) other is a = record {
  single = (rw other a.single.0, a.single.1);
  short = λ l. let s = a.short (omega (arith, l)) in ((refl, s.0.1), by s.1);
  long = λ l. let p = a.long (omega (arith, l)) in passes p.before p.last p.all p.within p.bytes;
}
  where
    by : ((bs ≡ ended (Within bytes ∷ ls)) ⊎ (LacksNewline bs × (bs ++ 10 ∷ [] ≡ ended (Within bytes ∷ ls)))) → (b ∷ bs ≡ ended (Within (b ∷ bytes) ∷ ls)) ⊎ (LacksNewline (b ∷ bs) × ((b ∷ bs) ++ 10 ∷ [] ≡ ended (Within (b ∷ bytes) ∷ ls)))
    by (inl e) = inl (ap (λ (t : List ℕ). b ∷ t) e)
    by (inr e) = inr (lacks-more b bs e.0, ap (λ (t : List ℕ). b ∷ t) e.1)

    passes : (before : List Line) (last : List ℕ) → Within bytes ∷ ls ≡ before ++ Beyond last ∷ [] → AllByRecursion (λ l. is_within l ≡ true) before → take room bs ≡ ended before ++ last → PassesLimit (suc room) (b ∷ bs) (Within (b ∷ bytes) ∷ ls)
    passes [] last e w t = absurd (cc)
    passes (m ∷ before) last e w t =
        let first : Within bytes ≡ m = cc in
        let others : ls ≡ before ++ Beyond last ∷ [] = cc in
        let t' : take room bs ≡ ended (Within bytes ∷ before) ++ last = t ∙ ap (λ (x : Line). ended (x ∷ before) ++ last) (sym first) in
        record { before = Within (b ∷ bytes) ∷ before; last = last; all = ap (λ (ms : List Line). Within (b ∷ bytes) ∷ ms) others; within = (refl, w.1); bytes = ap (λ (u : List ℕ). b ∷ u) t' }
after-byte room b bs (Beyond bytes ∷ ls) other is a = record {
  single = (rw other a.single.0, a.single.1);
  short = λ l. absurd (let s = a.short (omega (arith, l)) in let f = s.0.0 in cc);
  long = λ l. let p = a.long (omega (arith, l)) in passes p.before p.last p.all p.within p.bytes;
}
  where
    passes : (before : List Line) (last : List ℕ) → Beyond bytes ∷ ls ≡ before ++ Beyond last ∷ [] → AllByRecursion (λ l. is_within l ≡ true) before → take room bs ≡ ended before ++ last → PassesLimit (suc room) (b ∷ bs) (Beyond (b ∷ bytes) ∷ ls)
    passes [] last e w t =
        let first : Beyond bytes ≡ Beyond last = cc in
        let same : bytes ≡ last = cc in
        let others : ls ≡ [] = cc in
        rw (same, others) (record { before = []; last = b ∷ last; all = refl; within = tt; bytes = ap (λ (u : List ℕ). b ∷ u) t })
    passes (m ∷ before) last e w t = absurd (let first : Beyond bytes ≡ m = cc in let f = w.0 in let f' = rw (← first) at f in cc)

pub scripts-lines : ScriptsAreTheirLines
unfolding lines
scripts-lines room [] = no-lines room
scripts-lines zero (b ∷ bs) = at-limit b bs
scripts-lines (suc room) (b ∷ bs) =
    elim (cases_Bool (b == 10)) [
      | inl t ↦ let is : b ≡ 10 = grind (arith, nat_tests) in rw is (after-newline room bs (lines room bs) (scripts-lines room bs))
      | inr f ↦ rw f (after-byte room b bs (lines room bs) f refl (scripts-lines room bs))
    ]
