-- Parts of bytes are bytes.
use Rattle.std.proofs.Common.{ℕ, zero, suc, ◌<◌, List, [], ◌∷◌, ◌++◌, take, drop, get_or, arith}
use Rattle.list_laws.specs.Bytes.{AreBytes}
use Rattle.list_laws.proofs.Members.{all-append, all-back, all-drop, all-front, all-take}

pub bytes-get : (b : List ℕ) (i : ℕ) → AreBytes b → get_or b i 0 < 256
bytes-get [] i h = omega arith
bytes-get (x ∷ b) zero h = h.0
bytes-get (x ∷ b) (suc i) h = bytes-get b i h.1

pub bytes-take : (n : ℕ) (b : List ℕ) → AreBytes b → AreBytes (take n b)
bytes-take = all-take (λ x. x < 256)

pub bytes-drop : (n : ℕ) (b : List ℕ) → AreBytes b → AreBytes (drop n b)
bytes-drop = all-drop (λ x. x < 256)

pub bytes-append : (b c : List ℕ) → AreBytes b → AreBytes c → AreBytes (b ++ c)
bytes-append = all-append (λ x. x < 256)

pub bytes-before : (b c : List ℕ) → AreBytes (b ++ c) → AreBytes b
bytes-before = all-front (λ x. x < 256)

pub bytes-after : (b c : List ℕ) → AreBytes (b ++ c) → AreBytes c
bytes-after = all-back (λ x. x < 256)
