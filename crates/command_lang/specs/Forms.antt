-- The forms of commands. Words in quotes stand there in any case, since tokens hold words in lower case.
use Rattle.std.specs.Prelude.{ℕ, Bool, true, false, List, codes, Option}
use Rattle.mvcc_keys.specs.Times.{Time}
use Rattle.row_codec.specs.declared.rows.Datum.{Datum}
use Rattle.row_codec.specs.declared.rows.Kind.{Kind}
use Rattle.script_grammar.specs.Grammar.{Form, ◌>>=◌, ◌>>◌, one, word, mark, ending, ◌making◌, ◌or◌}
use Rattle.script_grammar.specs.Parts.{name, new_name_of, count_of, kind_of, time_of, table, row, rows, asof, columns, key, references, collection_of, source_in, tables, backup_clauses, restore_options}
use Rattle.script_grammar.specs.declared.backups.Src.{Src}
use Rattle.script_grammar.specs.declared.options.BackupOptions.{BackupOptions}
use Rattle.command_lang.specs.declared.command.Command.{Command}
use Rattle.command_lang.specs.declared.command.Command.TheVariants.{Cluster, Tick, CreateDatabase, CreateTable, AddColumn, DropColumn, RenameColumn, RenameTable, DropTable, Upsert, Delete, DeleteRange, Select, Gc, BackupDatabase, BackupTables, BackupLatest, RestoreDatabase, Forget, ShowBackups}

-- ---- the cluster

-- CLUSTER name
unfoldable pub cluster : Form (List ℕ)
cluster = do
  word (codes "cluster")
  n ← name
  ending n

-- TICK n
unfoldable pub tick : Form ℕ
tick = do
  word (codes "tick")
  wall ← one count_of
  ending wall

-- ---- databases and tables

-- CREATE DATABASE name
unfoldable pub create_database : Form (List ℕ)
create_database = do
  word (codes "create")
  word (codes "database")
  n ← name
  ending n

-- CREATE TABLE tbl ( col {, col} , PRIMARY KEY ( name [ASC | DESC] {, name [ASC | DESC]} ) {, REFERENCES tbl} )
unfoldable pub create_table : Form ((List ℕ × List ℕ) × List (List ℕ × Kind) × List (List ℕ × Bool) × List (List ℕ × List ℕ))
create_table = do
  word (codes "create")
  word (codes "table")
  t ← table
  mark 40
  cs ← columns
  ks ← key
  rs ← references
  mark 41
  ending (t, cs, ks, rs)

-- DROP TABLE tbl
unfoldable pub drop_table : Form (List ℕ × List ℕ)
drop_table = do
  word (codes "drop")
  word (codes "table")
  t ← table
  ending t

-- ---- changes of a table

-- ALTER TABLE tbl ADD COLUMN name type, with a name that a column may get
unfoldable pub add_column : Form ((List ℕ × List ℕ) × List ℕ × Kind)
add_column = do
  word (codes "alter")
  word (codes "table")
  t ← table
  word (codes "add")
  word (codes "column")
  n ← one new_name_of
  k ← one kind_of
  ending (t, n, k)

-- ALTER TABLE tbl DROP COLUMN name
unfoldable pub drop_column : Form ((List ℕ × List ℕ) × List ℕ)
drop_column = do
  word (codes "alter")
  word (codes "table")
  t ← table
  word (codes "drop")
  word (codes "column")
  n ← name
  ending (t, n)

-- ALTER TABLE tbl RENAME COLUMN name TO name, where the second is a name that a column may get
unfoldable pub rename_column : Form ((List ℕ × List ℕ) × List ℕ × List ℕ)
rename_column = do
  word (codes "alter")
  word (codes "table")
  t ← table
  word (codes "rename")
  word (codes "column")
  n ← name
  word (codes "to")
  m ← one new_name_of
  ending (t, n, m)

-- ALTER TABLE tbl RENAME TO name
unfoldable pub rename_table : Form ((List ℕ × List ℕ) × List ℕ)
rename_table = do
  word (codes "alter")
  word (codes "table")
  t ← table
  word (codes "rename")
  word (codes "to")
  n ← name
  ending (t, n)

-- ---- rows

-- UPSERT INTO tbl VALUES row {, row}
unfoldable pub upsert : Form ((List ℕ × List ℕ) × List (List Datum))
upsert = do
  word (codes "upsert")
  word (codes "into")
  t ← table
  word (codes "values")
  rs ← rows
  ending (t, rs)

-- DELETE FROM tbl KEY row {, row}
unfoldable pub delete : Form ((List ℕ × List ℕ) × List (List Datum))
delete = do
  word (codes "delete")
  word (codes "from")
  t ← table
  word (codes "key")
  ks ← rows
  ending (t, ks)

-- DELETE RANGE FROM tbl BETWEEN row AND row
unfoldable pub delete_range : Form ((List ℕ × List ℕ) × List Datum × List Datum)
delete_range = do
  word (codes "delete")
  word (codes "range")
  word (codes "from")
  t ← table
  word (codes "between")
  lo ← row
  word (codes "and")
  hi ← row
  ending (t, lo, hi)

-- SELECT * FROM tbl [AS OF SYSTEM TIME time]
unfoldable pub select : Form ((List ℕ × List ℕ) × Option Time)
select = do
  word (codes "select")
  mark 42
  word (codes "from")
  t ← table
  at ← asof
  ending (t, at)

-- GC tbl BEFORE time
unfoldable pub gc : Form ((List ℕ × List ℕ) × Time)
gc = do
  word (codes "gc")
  t ← table
  word (codes "before")
  before ← one time_of
  ending (t, before)

-- ---- backups

-- BACKUP DATABASE name INTO coll [AS OF SYSTEM TIME time] [WITH options]
unfoldable pub backup_database : Form (List ℕ × List ℕ × Option Time × BackupOptions)
backup_database = do
  word (codes "backup")
  word (codes "database")
  d ← name
  word (codes "into")
  c ← one collection_of
  x ← backup_clauses
  ending (d, c, x.0, x.1)

-- BACKUP TABLE tbl {, tbl} INTO coll [AS OF SYSTEM TIME time] [WITH options]
unfoldable pub backup_tables : Form (List (List ℕ × List ℕ) × List ℕ × Option Time × BackupOptions)
backup_tables = do
  word (codes "backup")
  word (codes "table")
  ts ← tables
  word (codes "into")
  c ← one collection_of
  x ← backup_clauses
  ending (ts, c, x.0, x.1)

-- BACKUP INTO LATEST IN coll [AS OF SYSTEM TIME time] [WITH options]
unfoldable pub backup_latest : Form (List ℕ × Option Time × BackupOptions)
backup_latest = do
  word (codes "backup")
  word (codes "into")
  word (codes "latest")
  word (codes "in")
  c ← one collection_of
  x ← backup_clauses
  ending (c, x.0, x.1)

abbrev pub restore_with : List ℕ → Src → List ℕ → Option Time → Form (List ℕ × Src × List ℕ × Option Time × Option (List ℕ))
restore_with d s c at = do
  new ← restore_options
  ending (d, s, c, at, new)

abbrev pub restore_at : List ℕ → Src → List ℕ → Form (List ℕ × Src × List ℕ × Option Time × Option (List ℕ))
restore_at d s c = do
  at ← asof
  restore_with d s c at

-- RESTORE DATABASE name FROM src IN coll [AS OF SYSTEM TIME time] [WITH options]
unfoldable pub restore_database : Form (List ℕ × Src × List ℕ × Option Time × Option (List ℕ))
restore_database = do
  word (codes "restore")
  word (codes "database")
  d ← name
  word (codes "from")
  s ← source_in
  restore_at d s.0 s.1

abbrev pub forget_to : Src → List ℕ → Time → Form (Src × List ℕ × Time × Time)
forget_to s c start = do
  word (codes "to")
  end ← one time_of
  ending (s, c, start, end)

abbrev pub forget_layer : Src → List ℕ → Form (Src × List ℕ × Time × Time)
forget_layer s c = do
  word (codes "layer")
  start ← one time_of
  forget_to s c start

-- FORGET BACKUP FROM src IN coll LAYER time TO time
unfoldable pub forget : Form (Src × List ℕ × Time × Time)
forget = do
  word (codes "forget")
  word (codes "backup")
  word (codes "from")
  s ← source_in
  forget_layer s.0 s.1

-- SHOW BACKUPS IN coll
unfoldable pub show_backups : Form (List ℕ)
show_backups = do
  word (codes "show")
  word (codes "backups")
  word (codes "in")
  c ← one collection_of
  ending c

-- ---- families of commands

unfoldable pub schema_command : Form Command
schema_command = create_database making CreateDatabase or create_table making (λ x. CreateTable x.0 x.1 x.2 x.3) or drop_table making DropTable

unfoldable pub alter_command : Form Command
alter_command =
    add_column making (λ x. AddColumn x.0 x.1 x.2)
    or drop_column making (λ x. DropColumn x.0 x.1)
    or rename_column making (λ x. RenameColumn x.0 x.1 x.2)
    or rename_table making (λ x. RenameTable x.0 x.1)

unfoldable pub row_command : Form Command
row_command =
    upsert making (λ x. Upsert x.0 x.1)
    or delete making (λ x. Delete x.0 x.1)
    or delete_range making (λ x. DeleteRange x.0 x.1 x.2)
    or select making (λ x. Select x.0 x.1)
    or gc making (λ x. Gc x.0 x.1)

unfoldable pub layer_command : Form Command
layer_command =
    backup_database making (λ x. BackupDatabase x.0 x.1 x.2 x.3.history)
    or backup_tables making (λ x. BackupTables x.0 x.1 x.2 x.3.history)
    or backup_latest making (λ x. BackupLatest x.0 x.1 x.2.history)
    or restore_database making (λ x. RestoreDatabase x.0 x.1 x.2 x.3 x.4)
    or forget making (λ x. Forget x.0 x.1 x.2 x.3)
    or show_backups making ShowBackups

-- the first command names the cluster, and no other does
unfoldable pub command : Bool → Form Command
command true = cluster making Cluster
command false = tick making Tick or schema_command or alter_command or row_command or layer_command
