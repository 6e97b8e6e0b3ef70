-- The parts of forms are read exactly as they are defined.
use Rattle.std.proofs.Common.{◌≡◌, ℕ, pos, Bool, true, false, List, [], ◌∷◌, codes, Option, Some, None, is_some, refl}
use Rattle.std.specs.Str.{bytes_eq}
use Rattle.std.specs.List.{fold}
use Rattle.table_descriptors.specs.Names.{is_name}
use Rattle.mvcc_keys.specs.Times.{Time, time}
use Rattle.mvcc_keys.specs.TimeTexts.{read_time, read_digits}
use Rattle.row_codec.specs.declared.rows.Datum.{Datum}
use Rattle.row_codec.specs.declared.rows.Kind.{Kind}
use Rattle.row_codec.specs.declared.rows.Datum.TheVariants.{Null}
use Rattle.row_codec.specs.declared.rows.Kind.TheVariants.{Int as IntKind}
use Rattle.script_tokens.specs.declared.token.Token.{Token}
use Rattle.script_tokens.specs.declared.token.Token.TheVariants.{Word, Number, Text, Bytes, Mark, Bad}
use Rattle.script_grammar.specs.Grammar.{Form, give, one, fits, word, is_word, mark, is_mark, many, list_of, maybe_one, ending, ◌>>=◌, ◌>>◌}
use Rattle.script_grammar.specs.Parts.{name, name_of_token, new_name_of, count_of, kind_of, datum_of, time_of, order_of, table, row, rows, time_clause, asof, column, column_and_comma, starts_column, columns, key_column, key, reference, references, collection_of, source_of, in_collection, source_in, with_table, tables, with_options, backup_option_of, options_in, backup_options_clause, backup_options, options_after, backup_clauses, restore_option, new_name_after, options_clause, restore_options, PartsAreExact}
use Rattle.script_grammar.specs.declared.backups.Src.TheVariants.{Latest}
use Rattle.script_grammar.specs.declared.options.BackupOption.TheVariants.{RevisionHistory}
use Rattle.script_grammar.specs.declared.options.BackupOptions.{BackupOptions}
use Rattle.script_grammar.proofs.Exactness.{IsPart, IsPartBefore, one_part, part_rest, part_then, part_before, part_before_then, give_rest, give_then, upto_assoc, repeat_then, listed_rest, either_then, wants_bare, refuses_one, refuses_give, word_part, mark_part}
use Rattle.script_tokens.proofs.Lexing.{apart}
use Rattle.script_grammar.proofs.Rights.{IsRight, Bars, Opens, explained, then_, word_, then_before_, end_, give_, repeat_, listed_, either_, assoc_, fits_none, opens_mark, opens_word, bars_mark_mark, bars_mark_end, bars_word_end, bars_word_either, bars_give, bars_then, bars_assoc, bars_one, opens_one}
use Rattle.script_grammar.proofs.Families.{Family, family, or_, making_family, lead_word, lead_table, lead_end}

-- ---- one token

pub name_part : IsPart name
name_part = one_part name_of_token (Word (codes "a")) (codes "a") refl

pub new_name_part : IsPart (one new_name_of)
new_name_part = one_part new_name_of (Word (codes "a")) (codes "a") refl

pub count_part : IsPart (one count_of)
count_part = one_part count_of (Number (pos 0)) 0 refl

pub kind_part : IsPart (one kind_of)
kind_part = one_part kind_of (Word (codes "int")) IntKind refl

pub datum_part : IsPart (one datum_of)
datum_part = one_part datum_of (Word (codes "null")) Null refl

pub time_part : IsPart (one time_of)
unfolding read_time read_digits
time_part = one_part time_of (Text (codes "0.0000000000")) (time 0 0) refl

order_part : IsPart (one order_of)
order_part = one_part order_of (Word (codes "asc")) false refl

some_is : {A : Type 0} (o : Option A) (a : A) → o ≡ Some a → is_some o ≡ true
some_is o a e = rw e refl

-- ---- tables and rows

pub table_part : IsPart table
unfolding table
table_part = part_then name _ name_part (λ d. part_rest _ (part_then (mark 46) _ (mark_part 46 refl) (λ _. part_rest _ (part_then name _ name_part (λ n. give_rest _)))))

pub row_part : IsPart row
unfolding row
row_part =
    part_then (mark 40) _ (mark_part 40 refl) (λ _. listed_rest (λ _. false) (one datum_of) close (part_before (one datum_of) datum_part) (λ t hit. absurd (apart false refl hit))
    (λ vs. part_rest (close vs) (part_then (mark 41) (λ _. give vs) (mark_part 41 refl) (λ _. give_rest vs)))
    (λ vs. (bars_mark_mark 44 41 (give vs) refl).bars)
    (λ vs t ts b rest hit l. apart false refl hit))
  where
    close : List Datum → Form (List Datum)
    close vs = mark 41 >> give vs

-- rows, and then what begins with no comma
pub rows_ : {B : Type 0} (k : List (List Datum) → Form B) → ((rs : List (List Datum)) → IsRight (k rs)) → ((rs : List (List Datum)) → Bars (is_mark 44) (k rs)) → IsRight (rows >>= k)
rows_ k right bars = listed_ row k row_part right bars

time_given_part : IsPart time_clause
unfolding time_clause
time_given_part =
    part_then _ _ (word_part (codes "as") refl) (λ _. part_rest _ (part_then _ _ (word_part (codes "of") refl) (λ _. part_rest _ (
    part_then _ _ (word_part (codes "system") refl) (λ _. part_rest _ (part_then _ _ (word_part (codes "time") refl) (λ _. part_rest _ (
    part_then (one time_of) _ time_part (λ t. give_rest _)))))))))

time_given_opens : Opens (is_word (codes "as")) time_clause
unfolding time_clause
time_given_opens = opens_word (codes "as") _

-- `[AS OF SYSTEM TIME time]`, and then what doesn't begin with AS
pub asof_ : {B : Type 0} (k : Option Time → Form B) → ((t : Option Time) → IsRight (k t)) → Bars (is_word (codes "as")) (k None) → IsRight (asof >>= k)
unfolding asof
asof_ k right bars = either_ (is_word (codes "as")) time_clause (give None) k time_given_opens
    (then_ time_clause k time_given_part right) (give_ None k (right None)) (bars_give (is_word (codes "as")) None k bars)

-- ---- columns

pub column_part : IsPart column
unfolding column
column_part = part_then (one new_name_of) _ new_name_part (λ n. part_rest _ (part_then (one kind_of) _ kind_part (λ k. give_rest _)))

column_and_comma_part : IsPart column_and_comma
unfolding column_and_comma
column_and_comma_part = part_then column _ column_part (λ c. part_rest _ (part_then (mark 44) _ (mark_part 44 refl) (λ _. give_rest _)))

column_opens : Opens starts_column column
unfolding column
column_opens = opens_one starts_column new_name_of _ (λ t a e. some_is (new_name_of t) a e)

column_and_comma_opens : Opens starts_column column_and_comma
unfolding column_and_comma
column_and_comma_opens = record { opens = λ ts c rest l. column_opens.opens ts l.0 l.1 l.2 }

-- columns stand before what begins no column
pub columns_part : IsPartBefore starts_column columns
unfolding columns
columns_part = part_before_then starts_column column_and_comma tail column_and_comma_part (λ C n g right refuses x.
    upto_assoc more (λ xs. give (x ∷ xs)) g n (repeat_then starts_column column_and_comma column_and_comma_part column_and_comma_opens.opens n (λ xs. give (x ∷ xs) >>= g)
    (λ xs. give_then (x ∷ xs) g n (right (x ∷ xs))) (λ xs. refuses_give starts_column (x ∷ xs) g (refuses (x ∷ xs)))))
  where
    more : Form (List (List ℕ × Kind))
    more = many starts_column column_and_comma

    tail : List ℕ × Kind → Form (List (List ℕ × Kind))
    tail x = more >>= (λ xs. give (x ∷ xs))

-- the word PRIMARY begins no column
not_primary : (t : Token) → starts_column t ≡ true → fits (is_word (codes "primary")) t ≡ None
not_primary (Word v) hit = fits_none (is_word (codes "primary")) (Word v) (go (bytes_eq v (codes "primary")) refl)
  where
    go : (x : Bool) → bytes_eq v (codes "primary") ≡ x → x ≡ false
    go true e = absurd (apart false refl (rw e at hit))
    go false e = refl
not_primary (Number n) hit = refl
not_primary (Text s) hit = refl
not_primary (Bytes s) hit = refl
not_primary (Mark b) hit = refl
not_primary Bad hit = refl

order_is_no_mark : (m : ℕ) (t : Token) → is_some (order_of t) ≡ true → is_mark m t ≡ false
order_is_no_mark m (Word v) hit = refl
order_is_no_mark m (Number n) hit = refl
order_is_no_mark m (Text s) hit = refl
order_is_no_mark m (Bytes s) hit = refl
order_is_no_mark m (Mark b) hit = absurd (apart false refl hit)
order_is_no_mark m Bad hit = refl

-- a key column stands before what is neither ASC nor DESC
key_column_part : IsPartBefore (λ t. is_some (order_of t)) key_column
unfolding key_column
key_column_part = part_before_then stop name tail name_part (λ C n g right refuses name'.
    upto_assoc (maybe_one order_of false) (λ d. give (name', d)) g n
    (either_then stop (one order_of) (give false) (wants_bare stop order_of (λ t a e. some_is (order_of t) a e)) n (λ d. give (name', d) >>= g)
    (part_rest (one order_of) order_part C n (λ d. give (name', d) >>= g) (λ d. give_then (name', d) g n (right (name', d))))
    (give_then false (λ d. give (name', d) >>= g) n (give_then (name', false) g n (right (name', false))))
    (refuses_give stop false (λ d. give (name', d) >>= g) (refuses_give stop (name', false) g (refuses (name', false))))))
  where
    stop : Token → Bool
    stop t = is_some (order_of t)

    tail : List ℕ → Form (List ℕ × Bool)
    tail n = maybe_one order_of false >>= (λ d. give (n, d))

pub key_part : IsPart key
unfolding key
key_part =
    part_then (word (codes "primary")) _ (word_part (codes "primary") refl) (λ _. part_rest _ (part_then (word (codes "key")) _ (word_part (codes "key") refl) (λ _. part_rest _ (
    part_then (mark 40) _ (mark_part 40 refl) (λ _. listed_rest (λ t. is_some (order_of t)) key_column close key_column_part (order_is_no_mark 44)
    (λ ns. part_rest (close ns) (part_then (mark 41) (λ _. give ns) (mark_part 41 refl) (λ _. give_rest ns)))
    (λ ns. (bars_mark_mark 44 41 (give ns) refl).bars)
    (λ ns. refuses_one (λ t. is_some (order_of t)) (fits (is_mark 41)) (λ _. give ns) (λ t hit. fits_none (is_mark 41) t (order_is_no_mark 41 t hit))))))))
  where
    close : List (List ℕ × Bool) → Form (List (List ℕ × Bool))
    close ns = mark 41 >> give ns

key_bars_column : Bars starts_column key
unfolding key
key_bars_column = bars_one starts_column (fits (is_word (codes "primary"))) _ not_primary

pub key_then_bars_column : {B : Type 0} (g : List (List ℕ × Bool) → Form B) → Bars starts_column (key >>= g)
key_then_bars_column g = bars_then starts_column key g key_bars_column

reference_part : IsPart reference
unfolding reference
reference_part = part_then (mark 44) _ (mark_part 44 refl) (λ _. part_rest _ (part_then _ _ (word_part (codes "references") refl) (λ _. part_rest _ table_part)))

reference_opens : Opens (is_mark 44) reference
unfolding reference
reference_opens = opens_mark 44 _

-- references, and then what begins with no comma
pub references_ : {B : Type 0} (k : List (List ℕ × List ℕ) → Form B) → ((rs : List (List ℕ × List ℕ)) → IsRight (k rs)) → ((rs : List (List ℕ × List ℕ)) → Bars (is_mark 44) (k rs)) → IsRight (references >>= k)
references_ k right bars = repeat_ (is_mark 44) reference k reference_part reference_opens right bars

-- ---- backups

pub collection_part : IsPart (one collection_of)
unfolding is_name
collection_part = one_part collection_of (Text (codes "a")) (codes "a") refl

source_part : IsPart (one source_of)
source_part = one_part source_of (Word (codes "latest")) Latest refl

pub source_in_part : IsPart source_in
unfolding source_in
source_in_part = part_then (one source_of) in_collection source_part (λ s. part_rest _ (part_then _ _ (word_part (codes "in") refl) (λ _. part_rest _ (part_then (one collection_of) _ collection_part (λ c. give_rest _)))))

-- tables, and then what begins with no comma
pub tables_ : {B : Type 0} (k : List (List ℕ × List ℕ) → Form B) → ((ts : List (List ℕ × List ℕ)) → IsRight (k ts)) → ((ts : List (List ℕ × List ℕ)) → Bars (is_mark 44) (k ts)) → IsRight (tables >>= k)
unfolding tables
tables_ k right bars =
    assoc_ (list_of table) (λ ts. give (fold with_table [] ts)) k
    (listed_ table (λ ts. give (fold with_table [] ts) >>= k) table_part (λ ts. give_ _ k (right _)) (λ ts. bars_give (is_mark 44) _ k (bars _)))

-- ---- options

-- `WITH option {, option}`, and then what begins with no comma
with_options_ : {A B C : Type 0} (f : Form A) (say : List A → B) (k : B → Form C) → IsPart f → ((b : B) → IsRight (k b)) → ((b : B) → Bars (is_mark 44) (k b)) → IsRight (with_options f say >>= k)
with_options_ {A} {B} f say k part right bars =
    assoc_ (word (codes "with")) (λ _. list_of f >>= chosen) k (word_ (codes "with") _ refl
    (assoc_ (list_of f) chosen k
    (listed_ f (λ os. chosen os >>= k) part (λ os. give_ _ k (right _)) (λ os. bars_give (is_mark 44) _ k (bars _)))))
  where
    chosen : List A → Form B
    chosen os = give (say os)

backup_option_part : IsPart (one backup_option_of)
backup_option_part = one_part backup_option_of (Word (codes "revision_history")) RevisionHistory refl

backup_options_clause_opens : Opens (is_word (codes "with")) backup_options_clause
unfolding backup_options_clause
backup_options_clause_opens = opens_word (codes "with") _

backup_options_clause_ : {B : Type 0} (k : BackupOptions → Form B) → ((os : BackupOptions) → IsRight (k os)) → ((os : BackupOptions) → Bars (is_mark 44) (k os)) → IsRight (backup_options_clause >>= k)
unfolding backup_options_clause
backup_options_clause_ k right bars = with_options_ (one backup_option_of) options_in k backup_option_part right bars

-- `[WITH option {, option}]`, and then what begins with no comma, and not with WITH
backup_options_ : {B : Type 0} (k : BackupOptions → Form B) → ((os : BackupOptions) → IsRight (k os)) → ((os : BackupOptions) → Bars (is_mark 44) (k os)) → Bars (is_word (codes "with")) (k (options_in [])) → IsRight (backup_options >>= k)
unfolding backup_options
backup_options_ k right commas bars = either_ (is_word (codes "with")) backup_options_clause (give (options_in [])) k backup_options_clause_opens
    (backup_options_clause_ k right commas) (give_ (options_in []) k (right (options_in []))) (bars_give (is_word (codes "with")) (options_in []) k bars)

-- options don't begin with another word
backup_options_bar : {B : Type 0} (w : List ℕ) (k : BackupOptions → Form B) → is_word (codes "with") (Word w) ≡ false → Bars (is_word w) (k (options_in [])) → Bars (is_word w) (backup_options >>= k)
unfolding backup_options
backup_options_bar w k is bars = bars_word_either w (codes "with") backup_options_clause (give (options_in [])) k backup_options_clause_opens is (bars_give (is_word w) (options_in []) k bars)

-- the clauses of a backup, and then what begins with no comma, and neither with AS nor with WITH
pub backup_clauses_ : {B : Type 0} (k : Option Time × BackupOptions → Form B) → ((x : Option Time × BackupOptions) → IsRight (k x)) → ((x : Option Time × BackupOptions) → Bars (is_mark 44) (k x))
    → ((x : Option Time × BackupOptions) → Bars (is_word (codes "as")) (k x)) → ((x : Option Time × BackupOptions) → Bars (is_word (codes "with")) (k x)) → IsRight (backup_clauses >>= k)
unfolding backup_clauses
backup_clauses_ {B} k right commas times withs =
    assoc_ asof options_after k (asof_ (λ at. options_after at >>= k)
    (λ at. assoc_ backup_options (pair at) k (backup_options_ (λ os. pair at os >>= k) (λ os. give_ _ k (right _)) (λ os. bars_give (is_mark 44) _ k (commas _)) (bars_give (is_word (codes "with")) _ k (withs _))))
    (bars_assoc (is_word (codes "as")) backup_options (pair None) k (backup_options_bar (codes "as") (λ os. pair None os >>= k) refl (bars_give (is_word (codes "as")) _ k (times _)))))
  where
    pair : Option Time → BackupOptions → Form (Option Time × BackupOptions)
    pair at os = give (at, os)

restore_option_part : IsPart restore_option
unfolding restore_option
restore_option_part = part_then _ _ (word_part (codes "new_db_name") refl) (λ _. part_rest _ (part_then (mark 61) _ (mark_part 61 refl) (λ _. part_rest _ (part_then (one collection_of) _ collection_part (λ c. give_rest _)))))

restore_options_given_opens : Opens (is_word (codes "with")) options_clause
unfolding options_clause
restore_options_given_opens = opens_word (codes "with") _

restore_options_given_ : {B : Type 0} (k : Option (List ℕ) → Form B) → ((n : Option (List ℕ)) → IsRight (k n)) → ((n : Option (List ℕ)) → Bars (is_mark 44) (k n)) → IsRight (options_clause >>= k)
unfolding options_clause
restore_options_given_ k right bars = with_options_ restore_option (λ os. fold new_name_after None os) k restore_option_part right bars

-- `[WITH option {, option}]`, and then what begins with no comma, and not with WITH
pub restore_options_ : {B : Type 0} (k : Option (List ℕ) → Form B) → ((n : Option (List ℕ)) → IsRight (k n)) → ((n : Option (List ℕ)) → Bars (is_mark 44) (k n)) → Bars (is_word (codes "with")) (k None) → IsRight (restore_options >>= k)
unfolding restore_options
restore_options_ k right commas bars = either_ (is_word (codes "with")) options_clause (give None) k restore_options_given_opens
    (restore_options_given_ k right commas) (give_ None k (right None)) (bars_give (is_word (codes "with")) None k bars)

-- options don't begin with another word
pub restore_options_bar : {B : Type 0} (w : List ℕ) (k : Option (List ℕ) → Form B) → is_word (codes "with") (Word w) ≡ false → Bars (is_word w) (k None) → Bars (is_word w) (restore_options >>= k)
unfolding restore_options
restore_options_bar w k is bars = bars_word_either w (codes "with") options_clause (give None) k restore_options_given_opens is (bars_give (is_word w) None k bars)

-- ---- the law

pub parts_exact : PartsAreExact
parts_exact = record {
  a_name = explained _ (then_ name _ name_part (λ n. end_ n));
  a_count = explained _ (then_ (one count_of) _ count_part (λ n. end_ n));
  a_table = explained _ (then_ table _ table_part (λ t. end_ t));
  some_rows = explained _ (rows_ _ (λ rs. end_ rs) (λ rs. bars_mark_end 44 rs refl));
  a_past_time = explained _ (asof_ _ (λ t. end_ t) (bars_word_end (codes "as") None));
  a_column = explained _ (then_ column _ column_part (λ c. end_ c));
  some_columns = explained _ (then_before_ starts_column columns _ columns_part (λ cs. then_ key _ key_part (λ ks. references_ _ (λ rs. end_ _) (λ rs. bars_mark_end 44 _ refl))) (λ cs. key_then_bars_column _));
  a_choice = explained _ (or_ _ _ _ _ (led_by (codes "key") refl) (making_family _ _ _ (led_by (codes "references") refl)) refl).right;
  a_source = explained _ (then_ source_in _ source_in_part (λ s. end_ s));
  some_tables = explained _ (tables_ _ (λ ts. end_ ts) (λ ts. bars_mark_end 44 ts refl));
  some_options = explained _ (asof_ _ (λ t. restore_options_ _ (λ n. end_ (t, n)) (λ n. bars_mark_end 44 (t, n) refl) (bars_word_end (codes "with") (t, None)))
      (restore_options_bar (codes "as") _ refl (bars_word_end (codes "as") (None, None))));
  some_clauses = explained _ (backup_clauses_ _ (λ x. end_ x) (λ x. bars_mark_end 44 x refl) (λ x. bars_word_end (codes "as") x) (λ x. bars_word_end (codes "with") x));
}
  where
    led_by : (w : List ℕ) → fits (is_word w) (Word w) ≡ Some tt → Family ((Some w ∷ None ∷ None ∷ None ∷ []) ∷ []) (word w >> (table >>= (λ t. ending t)))
    led_by w is = family _ _ (word_ w _ is (then_ table _ table_part (λ t. end_ t))) (lead_word _ w _ (lead_table _ _ (λ t. lead_end _)))
