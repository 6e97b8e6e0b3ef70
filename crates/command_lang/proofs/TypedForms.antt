-- What forms read of tokens in form is in form.
use Rattle.std.proofs.Common.{◌≡◌, ℕ, ℤ, pos, negsuc, zero, suc, ◌<◌, Bool, true, false, List, [], ◌∷◌, ◌++◌, length, codes, Option, Some, None, if◌then◌else◌, refl, arith}
use Rattle.std.specs.List.{AllByRecursion, list_any, fold}
use Rattle.std.specs.Str.{bytes_eq}
use Rattle.list_laws.proofs.Members.{all-append}
use Rattle.mvcc_keys.specs.Times.{Time, IsTime}
use Rattle.mvcc_keys.proofs.Numerals.{times_exact}
use Rattle.row_codec.specs.declared.rows.Datum.{Datum}
use Rattle.row_codec.specs.declared.rows.Datum.TheVariants.{Null, Bool as Truth, Int, Text as TextDatum, Bytes as BytesDatum}
use Rattle.row_codec.specs.declared.rows.Kind.{Kind}
use Rattle.row_codec.specs.RowKeys.{IsValue}
use Rattle.table_descriptors.specs.Names.{is_name, name_of}
use Rattle.script_tokens.specs.declared.token.Token.{Token}
use Rattle.script_tokens.specs.declared.token.Token.TheVariants.{Word, Number, Text, Bytes, Mark, Bad}
use Rattle.script_grammar.specs.Grammar.{Form, Progress, Read, Fault, give, one, word, mark, fits, is_word, is_mark, many, list_of, either, maybe_one, ending, ◌making◌, ◌or◌, ◌>>=◌, ◌>>◌, and_read, begins_with, farthest, read_ending, read_within, token_or_fault}
use Rattle.script_grammar.specs.Parts.{name, name_of_token, new_name_of, is_reserved, count_of, at_least_0, kind_of, datum_of, datum_of_word, time_of, order_of, table, row, rows, time_clause, asof, column, column_and_comma, starts_column, columns, key_column, key, reference, references, collection_of, source_of, source_word, source_text, source_in, with_table, is_table, tables, backup_option_of, options_in, backup_options_clause, backup_options, backup_clauses, restore_option, new_name_after, options_clause, restore_options}
use Rattle.script_grammar.specs.declared.backups.Src.{Src}
use Rattle.script_grammar.specs.declared.backups.Src.TheVariants.{Latest, Named}
use Rattle.script_grammar.specs.declared.options.BackupOptions.{BackupOptions}
use Rattle.script_grammar.proofs.SourceTexts.{sources_exact}
use Rattle.command_lang.specs.Typed.{AreColumns, AreValues, IfGiven, IsKeyOfColumns, IsName, IsSource, IsTableName}
use Rattle.command_lang.proofs.TypedTokens.{AreTokens, IsToken}

-- what is read meets P, and what is left are tokens in form
abbrev pub Meets : {A : Type 0} → (A → Type 0) → Progress A → Type 0
Meets P (Read a rest) = P a × AreTokens rest
Meets P (Fault left) = Unit {0}

-- of tokens in form the form reads what meets P
pub record Gets {A : Type 0} (P : A → Type 0) (form : Form A) : Type 0 where
  pub gets : (ts : List Token) → AreTokens ts → Meets P (form.read ts)

abbrev pub Any : {A : Type 0} → A → Type 0
Any a = Unit {0}

-- ---- forms

and-gets : {A B : Type 0} (P : A → Type 0) (Q : B → Type 0) (p : Progress A) (go : A → List Token → Progress B) → Meets P p → ((a : A) (rest : List Token) → P a → AreTokens rest → Meets Q (go a rest)) → Meets Q (and_read p go)
and-gets P Q (Read a rest) go met more = more a rest met.0 met.1
and-gets P Q (Fault left) go met more = tt

pub then-gets : {A B : Type 0} (P : A → Type 0) (Q : B → Type 0) (f : Form A) (g : A → Form B) → Gets P f → ((a : A) → P a → Gets Q (g a)) → Gets Q (f >>= g)
then-gets P Q f g first second = record { gets = λ ts all. and-gets P Q (f.read ts) (λ a rest. (g a).read rest) (first.gets ts all) (λ a rest is more. (second a is).gets rest more) }

pub give-gets : {A : Type 0} (P : A → Type 0) (a : A) → P a → Gets P (give a)
give-gets P a is = record { gets = λ ts all. (is, all) }

pub ending-gets : {A : Type 0} (P : A → Type 0) (a : A) → P a → Gets P (ending a)
ending-gets P a is = record { gets = by }
  where
    semi : (t : Token) (ts : List Token) (b c : Bool) → Meets P (if b then (if c then Fault (length ts) else Read a []) else Fault (length (t ∷ ts)))
    semi t ts true true = tt
    semi t ts true false = (is, tt)
    semi t ts false c = tt

    by : (ts : List Token) → AreTokens ts → Meets P (read_ending a ts)
    by [] all = (is, tt)
    by (t ∷ ts) all = semi t ts (is_mark 59 t) (begins_with (λ _. true) ts)

pub one-gets : {A : Type 0} (P : A → Type 0) (means : Token → Option A) → ((t : Token) (a : A) → IsToken t → means t ≡ Some a → P a) → Gets P (one means)
one-gets {A} P means is = record { gets = by }
  where
    token : (t : Token) (ts : List Token) (o : Option A) → IsToken t → AreTokens ts → means t ≡ o → Meets P (token_or_fault (length (t ∷ ts)) o ts)
    token t ts None typed all e = tt
    token t ts (Some a) typed all e = (is t a typed e, all)

    by : (ts : List Token) → AreTokens ts → Meets P ((one means).read ts)
    by [] all = tt
    by (t ∷ ts) all = token t ts (means t) all.0 all.1 refl

pub word-gets : {B : Type 0} (Q : B → Type 0) (w : List ℕ) (g : Form B) → Gets Q g → Gets Q (word w >> g)
word-gets Q w g is = then-gets Any Q (word w) (λ _. g) (one-gets Any (fits (is_word w)) (λ t a typed e. tt)) (λ a any. is)

pub mark-gets : {B : Type 0} (Q : B → Type 0) (m : ℕ) (g : Form B) → Gets Q g → Gets Q (mark m >> g)
mark-gets Q m g is = then-gets Any Q (mark m) (λ _. g) (one-gets Any (fits (is_mark m)) (λ t a typed e. tt)) (λ a any. is)

within-gets : {A : Type 0} (P : A → Type 0) (n : ℕ) (starts : Token → Bool) (f : Form A) → Gets P f → (ts : List Token) → AreTokens ts → Meets (λ (os : List A). AllByRecursion P os) (read_within n starts f.read ts)
within-gets P zero starts f is ts all = (tt, all)
within-gets {A} P (suc n) starts f is ts all = by (within-gets P n starts f is) (begins_with starts ts)
  where
    by : ((rest : List Token) → AreTokens rest → Meets (λ (os : List A). AllByRecursion P os) (read_within n starts f.read rest)) → (b : Bool) → Meets (λ (os : List A). AllByRecursion P os) (if b then and_read (f.read ts) (λ a rest. and_read (read_within n starts f.read rest) (λ others end. Read (a ∷ others) end)) else Read [] ts)
    by others true = and-gets P (λ (os : List A). AllByRecursion P os) (f.read ts) _ (is.gets ts all) (λ a rest good more.
        and-gets (λ (os : List A). AllByRecursion P os) (λ (os : List A). AllByRecursion P os) (read_within n starts f.read rest) _ (others rest more) (λ others end are last. ((good, are), last)))
    by others false = (tt, all)

pub many-gets : {A : Type 0} (P : A → Type 0) (starts : Token → Bool) (f : Form A) → Gets P f → Gets (λ (os : List A). AllByRecursion P os) (many starts f)
many-gets P starts f is = record { gets = λ ts all. within-gets P (length ts) starts f is ts all }

-- some that meet P
abbrev pub Some_ : {A : Type 0} → (A → Type 0) → List A → Type 0
Some_ P xs = AllByRecursion P xs × (0 < length xs)

pub list-gets : {A : Type 0} (P : A → Type 0) (f : Form A) → Gets P f → Gets (Some_ P) (list_of f)
list-gets {A} P f is = then-gets P (Some_ P) f _ is (λ x good. then-gets (λ (os : List A). AllByRecursion P os) (Some_ P) (many (is_mark 44) (mark 44 >> f)) _
    (many-gets P (is_mark 44) (mark 44 >> f) (mark-gets P 44 f is)) (λ xs are. give-gets (Some_ P) (x ∷ xs) ((good, are), omega arith)))

pub either-gets : {A : Type 0} (P : A → Type 0) (starts : Token → Bool) (f g : Form A) → Gets P f → Gets P g → Gets P (either starts f g)
either-gets P starts f g first second = record { gets = λ ts all. by ts all (begins_with starts ts) }
  where
    by : (ts : List Token) → AreTokens ts → (b : Bool) → Meets P (if b then f.read ts else g.read ts)
    by ts all true = first.gets ts all
    by ts all false = second.gets ts all

pub making-gets : {A B : Type 0} (P : A → Type 0) (Q : B → Type 0) (f : Form A) (make : A → B) → Gets P f → ((a : A) → P a → Q (make a)) → Gets Q (f making make)
making-gets P Q f make is made = record { gets = λ ts all. and-gets P Q (f.read ts) (λ a rest. Read (make a) rest) (is.gets ts all) (λ a rest good more. (made a good, more)) }

pub or-gets : {A : Type 0} (P : A → Type 0) (f g : Form A) → Gets P f → Gets P g → Gets P (f or g)
or-gets {A} P f g first second = record { gets = λ ts all. by (f.read ts) (g.read ts) (first.gets ts all) (second.gets ts all) }
  where
    by : (p q : Progress A) → Meets P p → Meets P q → Meets P (farthest p q)
    by (Read a rest) q one other = one
    by (Fault left) (Read a rest) one other = other
    by (Fault left) (Fault less) one other = tt

-- ---- one token

pub name-gets : Gets IsName name
name-gets = one-gets IsName name_of_token by
  where
    by : (t : Token) (a : List ℕ) → IsToken t → name_of_token t ≡ Some a → IsName a
    by (Word w) a typed e = let same : w ≡ a = cc e in rw (← same) typed
    by (Number n) a typed e = cc e
    by (Text s) a typed e = cc e
    by (Bytes s) a typed e = cc e
    by (Mark b) a typed e = cc e
    by Bad a typed e = cc e

pub new_name-gets : Gets IsName (one new_name_of)
new_name-gets = one-gets IsName new_name_of by
  where
    free : (w a : List ℕ) (b : Bool) → is_name w ≡ true → (if b then None else Some w) ≡ Some a → IsName a
    free w a true typed e = cc e
    free w a false typed e = let same : w ≡ a = cc e in rw (← same) typed

    by : (t : Token) (a : List ℕ) → IsToken t → new_name_of t ≡ Some a → IsName a
    by (Word w) a typed e = free w a (is_reserved w) typed e
    by (Number n) a typed e = cc e
    by (Text s) a typed e = cc e
    by (Bytes s) a typed e = cc e
    by (Mark b) a typed e = cc e
    by Bad a typed e = cc e

abbrev pub IsWall : ℕ → Type 0
IsWall n = IsToken (Number (pos n))

pub count-gets : Gets IsWall (one count_of)
count-gets = one-gets IsWall count_of by
  where
    upright : (n : ℤ) (a : ℕ) → IsToken (Number n) → at_least_0 n ≡ Some a → IsWall a
    upright (pos n) a typed e = let same : n ≡ a = cc e in rw (← same) typed
    upright (negsuc n) a typed e = cc e

    by : (t : Token) (a : ℕ) → IsToken t → count_of t ≡ Some a → IsWall a
    by (Word w) a typed e = cc e
    by (Number n) a typed e = upright n a typed e
    by (Text s) a typed e = cc e
    by (Bytes s) a typed e = cc e
    by (Mark b) a typed e = cc e
    by Bad a typed e = cc e

pub kind-gets : Gets Any (one kind_of)
kind-gets = one-gets Any kind_of (λ t a typed e. tt)

pub time-gets : Gets IsTime (one time_of)
time-gets = one-gets IsTime time_of by
  where
    by : (t : Token) (a : Time) → IsToken t → time_of t ≡ Some a → IsTime a
    by (Word w) a typed e = cc e
    by (Number n) a typed e = cc e
    by (Text s) a typed e = (times_exact.only s a e).0
    by (Bytes s) a typed e = cc e
    by (Mark b) a typed e = cc e
    by Bad a typed e = cc e

word-value : (w : List ℕ) (a : Datum) → datum_of_word w ≡ Some a → IsValue a
word-value w a = by (bytes_eq w (codes "true")) (bytes_eq w (codes "false")) (bytes_eq w (codes "null"))
  where
    is : (x : Datum) → IsValue x → x ≡ a → IsValue a
    is x good same = rw (← same) good

    by : (p q r : Bool) → (if p then Some (Truth true) else (if q then Some (Truth false) else (if r then Some Null else None))) ≡ Some a → IsValue a
    by true q r e = is (Truth true) tt (cc e)
    by false true r e = is (Truth false) tt (cc e)
    by false false true e = is Null tt (cc e)
    by false false false e = cc e

pub datum-gets : Gets IsValue (one datum_of)
datum-gets = one-gets IsValue datum_of by
  where
    is : (x a : Datum) → IsValue x → x ≡ a → IsValue a
    is x a good same = rw (← same) good

    by : (t : Token) (a : Datum) → IsToken t → datum_of t ≡ Some a → IsValue a
    by (Word w) a typed e = word-value w a e
    by (Number n) a typed e = is (Int n) a typed (cc e)
    by (Text s) a typed e = is (TextDatum s) a typed (cc e)
    by (Bytes s) a typed e = is (BytesDatum s) a typed (cc e)
    by (Mark b) a typed e = cc e
    by Bad a typed e = cc e

name-of : (s a : List ℕ) → name_of s ≡ Some a → IsName a
name-of s a = by (is_name s) refl
  where
    by : (b : Bool) → is_name s ≡ b → (if b then Some s else None) ≡ Some a → IsName a
    by true is e = let same : s ≡ a = cc e in rw (← same) is
    by false is e = cc e

pub collection-gets : Gets IsName (one collection_of)
collection-gets = one-gets IsName collection_of by
  where
    by : (t : Token) (a : List ℕ) → IsToken t → collection_of t ≡ Some a → IsName a
    by (Word w) a typed e = cc e
    by (Number n) a typed e = cc e
    by (Text s) a typed e = name-of s a e
    by (Bytes s) a typed e = cc e
    by (Mark b) a typed e = cc e
    by Bad a typed e = cc e

text-source : (s : List ℕ) (a : Src) → source_text s ≡ Some a → IsSource a
text-source s Latest e = tt
text-source s (Named cluster full) e = let p = (sources_exact times_exact).only s cluster full e in (p.0, p.1)

word-source : (w : List ℕ) (a : Src) → source_word w ≡ Some a → IsSource a
word-source w a = by (bytes_eq w (codes "latest"))
  where
    by : (b : Bool) → (if b then Some Latest else None) ≡ Some a → IsSource a
    by true e = let same : Latest ≡ a = cc e in rw (← same) tt
    by false e = cc e

pub source-gets : Gets IsSource (one source_of)
source-gets = one-gets IsSource source_of by
  where
    by : (t : Token) (a : Src) → IsToken t → source_of t ≡ Some a → IsSource a
    by (Word w) a typed e = word-source w a e
    by (Number n) a typed e = cc e
    by (Text s) a typed e = text-source s a e
    by (Bytes s) a typed e = cc e
    by (Mark b) a typed e = cc e
    by Bad a typed e = cc e

-- ---- tables and rows

pub table-gets : Gets IsTableName table
unfolding table
table-gets = then-gets IsName IsTableName name _ name-gets (λ d is. mark-gets IsTableName 46 _ (then-gets IsName IsTableName name _ name-gets (λ t also. give-gets IsTableName (d, t) (is, also))))

pub row-gets : Gets AreValues row
unfolding row
row-gets = mark-gets AreValues 40 _ (then-gets (Some_ IsValue) AreValues (list_of (one datum_of)) _ (list-gets IsValue (one datum_of) datum-gets) (λ vs are. mark-gets AreValues 41 _ (give-gets AreValues vs are.0)))

pub rows-gets : Gets (λ (rs : List (List Datum)). AllByRecursion AreValues rs) rows
rows-gets = record { gets = λ ts all. by (rows.read ts) ((list-gets AreValues row row-gets).gets ts all) }
  where
    by : (p : Progress (List (List Datum))) → Meets (Some_ AreValues) p → Meets (λ (rs : List (List Datum)). AllByRecursion AreValues rs) p
    by (Read a rest) met = (met.0.0, met.1)
    by (Fault left) met = tt

pub asof-gets : Gets (IfGiven IsTime) asof
unfolding asof time_clause
asof-gets = either-gets (IfGiven IsTime) (is_word (codes "as")) _ (give None)
    (word-gets _ _ _ (word-gets _ _ _ (word-gets _ _ _ (word-gets _ _ _ (then-gets IsTime (IfGiven IsTime) (one time_of) _ time-gets (λ t is. give-gets (IfGiven IsTime) (Some t) is))))))
    (give-gets (IfGiven IsTime) None tt)

-- ---- columns

abbrev IsColumn : List ℕ × Kind → Type 0
IsColumn c = IsName c.0

column-gets : Gets IsColumn column_and_comma
unfolding column column_and_comma
column-gets = then-gets IsColumn IsColumn _ _ (then-gets IsName IsColumn (one new_name_of) _ new_name-gets (λ n is. then-gets Any IsColumn (one kind_of) _ kind-gets (λ k any. give-gets IsColumn (n, k) is)))
    (λ c is. mark-gets IsColumn 44 _ (give-gets IsColumn c is))

pub columns-gets : Gets AreColumns columns
unfolding columns
columns-gets = then-gets IsColumn AreColumns column_and_comma _ column-gets (λ first is. then-gets AreColumns AreColumns (many starts_column column_and_comma) _ (many-gets IsColumn starts_column column_and_comma column-gets) (λ others are. give-gets AreColumns (first ∷ others) (is, are)))

abbrev IsKeyColumn : List ℕ × Bool → Type 0
IsKeyColumn k = IsName k.0

key_column-gets : Gets IsKeyColumn key_column
unfolding key_column
key_column-gets = then-gets IsName IsKeyColumn name _ name-gets (λ n is. then-gets Any IsKeyColumn (maybe_one order_of false) _
    (either-gets Any _ (one order_of) (give false) (one-gets Any order_of (λ t a typed e. tt)) (give-gets Any false tt)) (λ down any. give-gets IsKeyColumn (n, down) is))

pub key-gets : Gets IsKeyOfColumns key
unfolding key
key-gets = word-gets _ _ _ (word-gets _ _ _ (mark-gets _ _ _ (then-gets (Some_ IsKeyColumn) IsKeyOfColumns (list_of key_column) _ (list-gets IsKeyColumn key_column key_column-gets)
    (λ names are. mark-gets _ _ _ (give-gets IsKeyOfColumns names are)))))

abbrev pub AreTables : List (List ℕ × List ℕ) → Type 0
AreTables ts = AllByRecursion IsTableName ts

pub references-gets : Gets AreTables references
unfolding reference
references-gets = many-gets IsTableName (is_mark 44) reference (mark-gets _ _ _ (word-gets _ _ _ table-gets))

-- ---- backups

pub source_in-gets : Gets (λ (x : Src × List ℕ). IsSource x.0 × IsName x.1) source_in
unfolding source_in
source_in-gets = then-gets IsSource _ (one source_of) _ source-gets (λ s is. word-gets _ _ _ (then-gets IsName _ (one collection_of) _ collection-gets (λ c also. give-gets (λ (x : Src × List ℕ). IsSource x.0 × IsName x.1) (s, c) (is, also))))

with-gets : (ts : List (List ℕ × List ℕ)) (t : List ℕ × List ℕ) → AreTables ts → IsTableName t → AreTables (with_table ts t)
with-gets ts t all is = by (list_any (is_table t) ts)
  where
    by : (b : Bool) → AreTables (if b then ts else ts ++ t ∷ [])
    by true = all
    by false = all-append IsTableName ts (t ∷ []) all (is, tt)

folded : (before ts : List (List ℕ × List ℕ)) → AreTables before → AreTables ts → AreTables (fold with_table before ts)
folded before [] all are = all
folded before (t ∷ ts) all are = folded (with_table before t) ts (with-gets before t all are.0) are.1

pub tables-gets : Gets AreTables tables
unfolding tables
tables-gets = then-gets (Some_ IsTableName) AreTables (list_of table) _ (list-gets IsTableName table table-gets) (λ ts are. give-gets AreTables (fold with_table [] ts) (folded [] ts tt are.0))

-- ---- options

backup_options-gets : Gets Any backup_options
unfolding backup_options backup_options_clause
backup_options-gets = either-gets Any (is_word (codes "with")) _ (give (options_in []))
    (word-gets Any _ _ (then-gets (Some_ Any) Any (list_of (one backup_option_of)) _ (list-gets Any (one backup_option_of) (one-gets Any backup_option_of (λ t a typed e. tt))) (λ os are. give-gets Any (options_in os) tt)))
    (give-gets Any (options_in []) tt)

-- of the clauses of a backup the time is a time
abbrev pub IsDated : Option Time × BackupOptions → Type 0
IsDated x = IfGiven IsTime x.0

pub backup_clauses-gets : Gets IsDated backup_clauses
unfolding backup_clauses
backup_clauses-gets = then-gets (IfGiven IsTime) IsDated asof _ asof-gets (λ at is. then-gets Any IsDated backup_options _ backup_options-gets (λ os any. give-gets IsDated (at, os) is))

-- an option keeps a name a name
module _ {O : Type 0} (name_after : Option (List ℕ) → O → Option (List ℕ)) where
  abbrev pub KeepsName : O → Type 0
  KeepsName o = (before : Option (List ℕ)) → IfGiven IsName before → IfGiven IsName (name_after before o)

  last-option : (before : Option (List ℕ)) (os : List O) → IfGiven IsName before → AllByRecursion KeepsName os → IfGiven IsName (fold name_after before os)
  last-option before [] is are = is
  last-option before (o ∷ os) is are = last-option (name_after before o) os (are.0 before is) are.1

option-gets : Gets (KeepsName new_name_after) restore_option
unfolding restore_option
option-gets = word-gets _ _ _ (mark-gets _ _ _ (then-gets IsName (KeepsName new_name_after) (one collection_of) _ collection-gets (λ c is. give-gets (KeepsName new_name_after) _ (λ before was. is))))

pub options-gets : Gets (IfGiven IsName) restore_options
unfolding restore_options options_clause
options-gets = either-gets (IfGiven IsName) (is_word (codes "with")) _ (give None)
    (word-gets _ _ _ (then-gets (Some_ (KeepsName new_name_after)) (IfGiven IsName) (list_of restore_option) _ (list-gets (KeepsName new_name_after) restore_option option-gets) (λ os are. give-gets (IfGiven IsName) (fold new_name_after None os) (last-option new_name_after None os tt are.0))))
    (give-gets (IfGiven IsName) None tt)
