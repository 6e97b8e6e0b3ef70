-- How many bytes a number takes.
use Rattle.std.proofs.Common.{ℕ, ◌-◌, ◌^◌, ◌<◌, ◌≤◌, arith, inl, inr, nat_lt}
use Rattle.std.proofs.lemmas.Bool.{cases_Bool}
use Rattle.key_encoding.specs.Spelling.{byte_count}
use Rattle.list_laws.proofs.Orderings.{not-lt-above, lt-below}

pub record Counts (v n : ℕ) : Type 0 where
  pub least : 1 ≤ n
  pub most : n ≤ 8
  pub fits : v < 256 ^ n
  pub needs : 1 < n → 256 ^ (n - 1) ≤ v

pub counts : (v : ℕ) → v < 2 ^ 64 → Counts v (byte_count v)
counts v w =
    elim (cases_Bool (nat_lt v (2 ^ 8))) [
      | inl t ↦ rw t (record { least = omega arith; most = omega arith; fits = lt-below v (2 ^ 8) t; needs = λ h. absurd (omega arith) })
      | inr f1 ↦ rw f1 (
          elim (cases_Bool (nat_lt v (2 ^ 16))) [
            | inl t ↦ rw t (record { least = omega arith; most = omega arith; fits = lt-below v (2 ^ 16) t; needs = λ h. not-lt-above v (2 ^ 8) f1 })
            | inr f2 ↦ rw f2 (
                elim (cases_Bool (nat_lt v (2 ^ 24))) [
                  | inl t ↦ rw t (record { least = omega arith; most = omega arith; fits = lt-below v (2 ^ 24) t; needs = λ h. not-lt-above v (2 ^ 16) f2 })
                  | inr f3 ↦ rw f3 (
                      elim (cases_Bool (nat_lt v (2 ^ 32))) [
                        | inl t ↦ rw t (record { least = omega arith; most = omega arith; fits = lt-below v (2 ^ 32) t; needs = λ h. not-lt-above v (2 ^ 24) f3 })
                        | inr f4 ↦ rw f4 (
                            elim (cases_Bool (nat_lt v (2 ^ 40))) [
                              | inl t ↦ rw t (record { least = omega arith; most = omega arith; fits = lt-below v (2 ^ 40) t; needs = λ h. not-lt-above v (2 ^ 32) f4 })
                              | inr f5 ↦ rw f5 (
                                  elim (cases_Bool (nat_lt v (2 ^ 48))) [
                                    | inl t ↦ rw t (record { least = omega arith; most = omega arith; fits = lt-below v (2 ^ 48) t; needs = λ h. not-lt-above v (2 ^ 40) f5 })
                                    | inr f6 ↦ rw f6 (
                                        elim (cases_Bool (nat_lt v (2 ^ 56))) [
                                          | inl t ↦ rw t (record { least = omega arith; most = omega arith; fits = lt-below v (2 ^ 56) t; needs = λ h. not-lt-above v (2 ^ 48) f6 })
                                          | inr f7 ↦ rw f7 (
                                              record { least = omega arith; most = omega arith; fits = w; needs = λ h. not-lt-above v (2 ^ 56) f7 }
                                              )
                                        ])
                                  ])
                            ])
                      ])
                ])
          ])
    ]
