-- Keys under new ids.
use Rattle.std.specs.Prelude.{◌≡◌, ℕ, List, ◌++◌, Option, Some, None, Result, Ok, Err, nat_eq}
use Rattle.std.specs.Map.{lookup}
use Rattle.std.specs.Ordering.{nat_cmp}
use Rattle.std.specs.Cmp.Lexicographic.{slice_cmp}
use Rattle.list_laws.specs.Bytes.{AreBytes}
use Rattle.key_encoding.specs.Reading.{no_memory, read_uvarint}
use Rattle.key_encoding.specs.Spelling.{uvarint}
use Rattle.key_encoding.specs.declared.fault.KeyFault.{KeyFault}
use Rattle.key_rewriter.specs.declared.rewriting.RewriteFault.{RewriteFault}
use Rattle.key_rewriter.specs.declared.rewriting.RewriteFault.TheVariants.{NotMapped, Key, Memory}
use Rattle.key_rewriter.specs.Ids.{IsIdMap}

abbrev pub replaced : ℕ → List ℕ → Option ℕ → Result (List ℕ) RewriteFault
replaced id rest None = Err (NotMapped id)
replaced id rest (Some new) = Ok (uvarint new ++ rest)

abbrev pub rewritten_by : List (ℕ × ℕ) → Result (ℕ × List ℕ) KeyFault → Result (List ℕ) RewriteFault
rewritten_by map (Err fault) = Err (Key fault)
rewritten_by map (Ok p) = replaced p.0 p.1 (lookup (nat_eq p.0) map)

-- the key with the partner in place of the id in front of it, or why there is none
abbrev pub rewritten : List (ℕ × ℕ) → List ℕ → Result (List ℕ) RewriteFault
rewritten map key = rewritten_by map (read_uvarint key)

-- bytes, and a key after them
abbrev pub after : List ℕ → Result (List ℕ) RewriteFault → Result (List ℕ) RewriteFault
after bs (Ok key) = Ok (bs ++ key)
after bs (Err fault) = Err fault

-- want of memory has no cause, and every other refusal is the key's
abbrev pub RefusalIs : Result (List ℕ) RewriteFault → RewriteFault → Type 0
RefusalIs answer Memory = Unit {0}
RefusalIs answer fault = answer ≡ Err fault

-- a fault of a key is one of its bytes
abbrev pub IsOfBytes : RewriteFault → Type 0
IsOfBytes (Key fault) = fault.kind ≡ no_memory.kind → ⊥
IsOfBytes fault = Unit {0}

-- keys of one table have the same id in front
abbrev pub KeepsOrder : Type 0
KeepsOrder =
    (map : List (ℕ × ℕ)) (id : ℕ) (a b r s x y : List ℕ) → IsIdMap map → AreBytes a → AreBytes b
    → read_uvarint a ≡ Ok (id, r) → read_uvarint b ≡ Ok (id, s) → rewritten map a ≡ Ok x → rewritten map b ≡ Ok y
    → slice_cmp nat_cmp x y ≡ slice_cmp nat_cmp a b

abbrev pub KeepsDifferences : Type 0
KeepsDifferences =
    (map : List (ℕ × ℕ)) (a b x : List ℕ) → IsIdMap map → AreBytes a → AreBytes b
    → rewritten map a ≡ Ok x → rewritten map b ≡ Ok x → a ≡ b
