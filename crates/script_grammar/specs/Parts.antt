-- The parts that forms of lines share.
use Rattle.std.specs.Prelude.{◌≡◌, ℕ, ℤ, pos, negsuc, Bool, true, false, not, List, [], ◌∷◌, ◌++◌, length, take, drop, codes, Option, Some, None, if◌then◌else◌, ◌==◌, ◌&&◌, ◌||◌, is_some}
use Rattle.std.specs.List.{take_while, list_any, fold}
use Rattle.std.specs.Str.{bytes_eq}
use Rattle.mvcc_keys.specs.Times.{Time, IsTime}
use Rattle.mvcc_keys.specs.TimeTexts.{time_text, read_time}
use Rattle.row_codec.specs.declared.rows.Datum.{Datum}
use Rattle.row_codec.specs.declared.rows.Datum.TheVariants.{Int, Bool as Truth, Null, Text as TextDatum, Bytes as BytesDatum}
use Rattle.row_codec.specs.declared.rows.Kind.{Kind}
use Rattle.row_codec.specs.declared.rows.Kind.TheVariants.{Int as IntKind, Text as TextKind, Bytes as BytesKind, Bool as BoolKind}
use Rattle.table_descriptors.specs.Names.{is_name, name_of}
use Rattle.script_grammar.specs.Grammar.{Form, ◌>>=◌, ◌>>◌, give, one, word, mark, is_word, is_mark, many, list_of, either, maybe_one, ending, ◌making◌, ◌or◌}
use Rattle.script_grammar.specs.Columns.{IsExact}
use Rattle.script_grammar.specs.declared.backups.Src.{Src}
use Rattle.script_grammar.specs.declared.backups.Src.TheVariants.{Latest, Named}
use Rattle.script_grammar.specs.declared.options.BackupOption.{BackupOption}
use Rattle.script_grammar.specs.declared.options.BackupOption.TheVariants.{RevisionHistory}
use Rattle.script_grammar.specs.declared.options.BackupOptions.{BackupOptions}
use Rattle.script_grammar.specs.declared.options.RestoreOption.{RestoreOption}
use Rattle.script_grammar.specs.declared.options.RestoreOption.TheVariants.{NewName}
use Rattle.script_tokens.specs.declared.token.Token.{Token}
use Rattle.script_tokens.specs.declared.token.Token.TheVariants.{Word, Number, Text, Bytes, Mark, Bad}

-- ---- one token

-- any word
abbrev pub name_of_token : Token → Option (List ℕ)
name_of_token (Word v) = Some v
name_of_token (Number n) = None
name_of_token (Text s) = None
name_of_token (Bytes s) = None
name_of_token (Mark b) = None
name_of_token Bad = None

abbrev pub is_reserved : List ℕ → Bool
is_reserved w = bytes_eq w (codes "primary") || bytes_eq w (codes "references")

-- a word that can name a new column
abbrev pub new_name_of : Token → Option (List ℕ)
new_name_of (Word v) = if is_reserved v then None else Some v
new_name_of (Number n) = None
new_name_of (Text s) = None
new_name_of (Bytes s) = None
new_name_of (Mark b) = None
new_name_of Bad = None

abbrev pub at_least_0 : ℤ → Option ℕ
at_least_0 (pos n) = Some n
at_least_0 (negsuc n) = None

-- a number that is not negative
abbrev pub count_of : Token → Option ℕ
count_of (Word v) = None
count_of (Number n) = at_least_0 n
count_of (Text s) = None
count_of (Bytes s) = None
count_of (Mark b) = None
count_of Bad = None

-- INT | STRING | BYTES | BOOL
abbrev pub kind_of_word : List ℕ → Option Kind
kind_of_word w =
    if bytes_eq w (codes "int") then Some IntKind
    else (if bytes_eq w (codes "string") then Some TextKind
    else (if bytes_eq w (codes "bytes") then Some BytesKind
    else (if bytes_eq w (codes "bool") then Some BoolKind else None)))

abbrev pub kind_of : Token → Option Kind
kind_of (Word v) = kind_of_word v
kind_of (Number n) = None
kind_of (Text s) = None
kind_of (Bytes s) = None
kind_of (Mark b) = None
kind_of Bad = None

-- TRUE | FALSE | NULL
abbrev pub datum_of_word : List ℕ → Option Datum
datum_of_word w =
    if bytes_eq w (codes "true") then Some (Truth true)
    else (if bytes_eq w (codes "false") then Some (Truth false)
    else (if bytes_eq w (codes "null") then Some Null else None))

-- a value: number | text | bytes | TRUE | FALSE | NULL
abbrev pub datum_of : Token → Option Datum
datum_of (Word v) = datum_of_word v
datum_of (Number n) = Some (Int n)
datum_of (Text s) = Some (TextDatum s)
datum_of (Bytes s) = Some (BytesDatum s)
datum_of (Mark b) = None
datum_of Bad = None

-- a text that spells a time
abbrev pub time_of : Token → Option Time
time_of (Word v) = None
time_of (Number n) = None
time_of (Text s) = read_time s
time_of (Bytes s) = None
time_of (Mark b) = None
time_of Bad = None

-- ASC | DESC: whether the column descends
abbrev pub order_of_word : List ℕ → Option Bool
order_of_word w = if bytes_eq w (codes "asc") then Some false else (if bytes_eq w (codes "desc") then Some true else None)

abbrev pub order_of : Token → Option Bool
order_of (Word v) = order_of_word v
order_of (Number n) = None
order_of (Text s) = None
order_of (Bytes s) = None
order_of (Mark b) = None
order_of Bad = None

abbrev pub name : Form (List ℕ)
name = one name_of_token

-- ---- tables and rows

-- database . table
unfoldable pub table : Form (List ℕ × List ℕ)
table = do
  database ← name
  mark 46
  table_name ← name
  give (database, table_name)

-- ( value {, value} )
unfoldable pub row : Form (List Datum)
row = do
  mark 40
  values ← list_of (one datum_of)
  mark 41
  give values

-- AS OF SYSTEM TIME time
unfoldable pub time_clause : Form (Option Time)
time_clause = do
  word (codes "as")
  word (codes "of")
  word (codes "system")
  word (codes "time")
  t ← one time_of
  give (Some t)

-- [AS OF SYSTEM TIME time]
unfoldable pub asof : Form (Option Time)
asof = either (is_word (codes "as")) time_clause (give None)

-- ---- columns

-- name type
unfoldable pub column : Form (List ℕ × Kind)
column = do
  n ← one new_name_of
  k ← one kind_of
  give (n, k)

unfoldable pub column_and_comma : Form (List ℕ × Kind)
column_and_comma = do
  c ← column
  mark 44
  give c

abbrev pub starts_column : Token → Bool
starts_column t = is_some (new_name_of t)

-- `col {, col} ,`, with each comma read at the end of its column
unfoldable pub columns : Form (List (List ℕ × Kind))
columns = do
  first ← column_and_comma
  others ← many starts_column column_and_comma
  give (first ∷ others)

-- name [ASC | DESC]
unfoldable pub key_column : Form (List ℕ × Bool)
key_column = do
  n ← name
  down ← maybe_one order_of false
  give (n, down)

-- PRIMARY KEY ( name [ASC | DESC] {, name [ASC | DESC]} )
unfoldable pub key : Form (List (List ℕ × Bool))
key = do
  word (codes "primary")
  word (codes "key")
  mark 40
  names ← list_of key_column
  mark 41
  give names

-- , REFERENCES tbl
unfoldable pub reference : Form (List ℕ × List ℕ)
reference = do
  mark 44
  word (codes "references")
  table

abbrev pub references : Form (List (List ℕ × List ℕ))
references = many (is_mark 44) reference

-- row {, row}
abbrev pub rows : Form (List (List Datum))
rows = list_of row

-- ---- backups

-- a text that is a name
abbrev pub collection_of : Token → Option (List ℕ)
collection_of (Word v) = None
collection_of (Number n) = None
collection_of (Text s) = name_of s
collection_of (Bytes s) = None
collection_of (Mark b) = None
collection_of Bad = None

abbrev pub is_no_slash : ℕ → Bool
is_no_slash b = not (b == 47)

-- the place of the first slash, and the length where none is there
abbrev pub slash_at : List ℕ → ℕ
slash_at s = length (take_while is_no_slash s)

-- the time after a slash
abbrev pub time_after : List ℕ → Option Time
time_after [] = None
time_after (slash ∷ text) = read_time text

abbrev pub named_source : Option (List ℕ) → Option Time → Option Src
named_source (Some cluster) (Some full) = Some (Named cluster full)
named_source (Some cluster) None = None
named_source None full = None

-- a name, `/` and a time: what stands before the first `/`, which a name has none of, and what stands after it
unfoldable pub source_text : List ℕ → Option Src
source_text s = named_source (name_of (take (slash_at s) s)) (time_after (drop (slash_at s) s))

-- a text is read as the one source whose text it is
pub record SourcesAreExact : Type 0 where
  pub found : (cluster : List ℕ) (full : Time) → is_name cluster ≡ true → IsTime full → source_text (cluster ++ 47 ∷ time_text full) ≡ Some (Named cluster full)
  pub only : (text cluster : List ℕ) (full : Time) → source_text text ≡ Some (Named cluster full) → (is_name cluster ≡ true) × IsTime full × (text ≡ cluster ++ 47 ∷ time_text full)

-- the word LATEST
abbrev pub source_word : List ℕ → Option Src
source_word w = if bytes_eq w (codes "latest") then Some Latest else None

-- LATEST | a text that is a name, `/` and a time
abbrev pub source_of : Token → Option Src
source_of (Word v) = source_word v
source_of (Number n) = None
source_of (Text s) = source_text s
source_of (Bytes s) = None
source_of (Mark b) = None
source_of Bad = None

-- a source, and then IN coll
abbrev pub in_collection : Src → Form (Src × List ℕ)
in_collection s = do
  word (codes "in")
  c ← one collection_of
  give (s, c)

-- src IN coll
unfoldable pub source_in : Form (Src × List ℕ)
source_in = do
  s ← one source_of
  in_collection s

abbrev pub is_table : List ℕ × List ℕ → List ℕ × List ℕ → Bool
is_table t u = bytes_eq t.0 u.0 && bytes_eq t.1 u.1

-- a table after others, unless it is one of them
abbrev pub with_table : List (List ℕ × List ℕ) → List ℕ × List ℕ → List (List ℕ × List ℕ)
with_table ts t = if list_any (is_table t) ts then ts else ts ++ t ∷ []

-- tbl {, tbl}: each table once, at its first place
unfoldable pub tables : Form (List (List ℕ × List ℕ))
tables = do
  ts ← list_of table
  give (fold with_table [] ts)

-- ---- options

-- WITH option {, option}
abbrev pub with_options : {A B : Type 0} → Form A → (List A → B) → Form B
with_options f say = do
  word (codes "with")
  os ← list_of f
  give (say os)

-- REVISION_HISTORY
abbrev pub backup_option_of_word : List ℕ → Option BackupOption
backup_option_of_word w = if bytes_eq w (codes "revision_history") then Some RevisionHistory else None

abbrev pub backup_option_of : Token → Option BackupOption
backup_option_of (Word v) = backup_option_of_word v
backup_option_of (Number n) = None
backup_option_of (Text s) = None
backup_option_of (Bytes s) = None
backup_option_of (Mark b) = None
backup_option_of Bad = None

abbrev pub is_history : BackupOption → Bool
is_history RevisionHistory = true

-- a field is true exactly where its option stands
abbrev pub options_in : List BackupOption → BackupOptions
options_in os = record { history = list_any is_history os }

-- WITH option {, option}
unfoldable pub backup_options_clause : Form BackupOptions
backup_options_clause = with_options (one backup_option_of) options_in

-- [WITH option {, option}]
unfoldable pub backup_options : Form BackupOptions
backup_options = either (is_word (codes "with")) backup_options_clause (give (options_in []))

abbrev pub options_after : Option Time → Form (Option Time × BackupOptions)
options_after at = do
  os ← backup_options
  give (at, os)

-- [AS OF SYSTEM TIME time] [WITH option {, option}]
unfoldable pub backup_clauses : Form (Option Time × BackupOptions)
backup_clauses = do
  at ← asof
  options_after at

-- NEW_DB_NAME = coll
unfoldable pub restore_option : Form RestoreOption
restore_option = do
  word (codes "new_db_name")
  mark 61
  c ← one collection_of
  give (NewName c)

-- the name that a restored database gets, after one more option
abbrev pub new_name_after : Option (List ℕ) → RestoreOption → Option (List ℕ)
new_name_after before (NewName n) = Some n

-- WITH option {, option}: of the options of a kind the last counts
unfoldable pub options_clause : Form (Option (List ℕ))
options_clause = with_options restore_option (λ os. fold new_name_after None os)

-- [WITH option {, option}]
unfoldable pub restore_options : Form (Option (List ℕ))
restore_options = either (is_word (codes "with")) options_clause (give None)

-- ---- the law of parts

-- lines of one part alone, and those of the columns, the key and the references of a table
abbrev pub columns_alone : Form (List (List ℕ × Kind) × List (List ℕ × Bool) × List (List ℕ × List ℕ))
columns_alone = do
  cs ← columns
  ks ← key
  rs ← references
  ending (cs, ks, rs)

-- a time and options, each of which may be absent
abbrev pub options_alone : Form (Option Time × Option (List ℕ))
options_alone = do
  t ← asof
  n ← restore_options
  ending (t, n)

-- one of two forms with unlike first words
abbrev pub choice_alone : Form (List ℕ × List ℕ)
choice_alone = (word (codes "key") >> (table >>= (λ t. ending t))) or (word (codes "references") >> (table >>= (λ t. ending t))) making (λ t. t)

-- they are read exactly as they are spelled
pub record PartsAreExact : Type 0 where
  pub a_name : IsExact (name >>= (λ n. ending n))
  pub a_count : IsExact (one count_of >>= (λ n. ending n))
  pub a_table : IsExact (table >>= (λ t. ending t))
  pub some_rows : IsExact (rows >>= (λ rs. ending rs))
  pub a_past_time : IsExact (asof >>= (λ t. ending t))
  pub a_column : IsExact (column >>= (λ c. ending c))
  pub some_columns : IsExact columns_alone
  pub a_choice : IsExact choice_alone
  pub a_source : IsExact (source_in >>= (λ s. ending s))
  pub some_tables : IsExact (tables >>= (λ ts. ending ts))
  pub some_options : IsExact options_alone
  pub some_clauses : IsExact (backup_clauses >>= (λ x. ending x))
