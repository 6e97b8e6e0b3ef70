-- The tests of a key say whether it reads as one.
use Rattle.std.proofs.Common.{◌≡◌, ℕ, suc, ◌-◌, arith, Bool, false, List, [], ◌∷◌, length, nat_eq, Option, Some, None, Result, Ok, Err, refl}
use Rattle.std.specs.Prelude.{◌&&◌}
use Rattle.std.proofs.lemmas.Bool.Decides.{nat_tests}
use Rattle.key_encoding.specs.Reading.{read_uvarint}
use Rattle.row_codec.specs.KeyChecking.{are_values, index_tests, is_last, key_tests, then_byte, values_left}
use Rattle.row_codec.specs.KeyReading.{◌>>=◌, all_read, an_id, is_key_of, or_at, read_byte, read_key_front, read_row_key, read_values, valued}
use Rattle.row_codec.specs.declared.rows.Kind.{Kind}
use Rattle.row_codec.specs.declared.rows.Datum.{Datum}
use Rattle.row_codec.proofs.KeyLaws.{after_index, after_table, after_values}

-- a key that was read in front of a rest, if nothing is left
abbrev whole_key : ℕ → ℕ → Result ((ℕ × List Datum) × List ℕ) ℕ → Bool
whole_key table len r = is_key_of table (r >>= (λ p. all_read len p))

at_family : (table len t place : ℕ) (xs : List Datum) (o : Option (List ℕ)) → is_last o && nat_eq t table ≡ whole_key table len (or_at place o >>= (λ family. Ok ((t, xs), family)))
at_family table len t place xs (Some []) = refl
at_family table len t place xs (Some (x ∷ rest)) = let more : nat_eq (suc (length rest)) 0 ≡ false = grind (arith, nat_tests) in rw more refl
at_family table len t place xs None = refl

at_values : (table len t : ℕ) (r : Result (List Datum × List ℕ) ℕ) → is_last (then_byte 136 (values_left r)) && nat_eq t table ≡ whole_key table len (r >>= (λ values. after_values len t values))
at_values table len t (Ok v) = at_family table len t (len - length v.1) v.0 (read_byte 136 v.1)
at_values table len t (Err o) = refl

at_index : (table len t place : ℕ) (kinds : List Kind) (o : Option (List ℕ)) → index_tests kinds len o && nat_eq t table ≡ whole_key table len (or_at place o >>= (λ index. after_index kinds len t index))
unfolding are_values
at_index table len t place kinds (Some b) = at_values table len t (read_values kinds len b)
at_index table len t place kinds None = refl

at_table : (table len place : ℕ) (kinds : List Kind) (o : Option (ℕ × List ℕ)) → key_tests table kinds len o ≡ whole_key table len (or_at place o >>= (λ p. after_table kinds len p))
at_table table len place kinds (Some p) = at_index table len p.0 (len - length p.1) kinds (read_byte 137 p.1)
at_table table len place kinds None = refl

pub tests-tell : (table : ℕ) (kinds : List Kind) (b : List ℕ) → key_tests table kinds (length b) (valued an_id (read_uvarint b)) ≡ is_key_of table (read_row_key kinds b)
unfolding read_row_key read_key_front
tests-tell table kinds b = at_table table (length b) (length b - length b) kinds (valued an_id (read_uvarint b))
