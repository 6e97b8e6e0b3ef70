-- A command that is read of a line of bytes is in form.
use Rattle.std.proofs.Common.{◌≡◌, ℕ, Bool, true, false, List, length, ◌+◌, nat_lt, Option, if◌then◌else◌}
use Rattle.std.specs.List.{AllByRecursion}
use Rattle.mvcc_keys.specs.Times.{Time, IsTime}
use Rattle.row_codec.specs.declared.rows.Datum.{Datum}
use Rattle.row_codec.specs.declared.rows.Kind.{Kind}
use Rattle.script_tokens.specs.Tokens.{tokens, places}
use Rattle.script_grammar.specs.Grammar.{Progress, Read, Fault, one, ◌making◌}
use Rattle.script_grammar.specs.Parts.{name, new_name_of, count_of, kind_of, time_of, table, row, rows, asof, columns, key, references, collection_of, source_in, tables, backup_clauses, restore_options}
use Rattle.script_grammar.specs.declared.backups.Src.{Src}
use Rattle.script_grammar.specs.declared.options.BackupOptions.{BackupOptions}
use Rattle.command_lang.specs.declared.command.Command.{Command}
use Rattle.command_lang.specs.declared.command.Command.TheVariants.{Cluster, Tick, CreateDatabase, CreateTable, AddColumn, DropColumn, RenameColumn, RenameTable, DropTable, Upsert, Delete, DeleteRange, Select, Gc, BackupDatabase, BackupTables, BackupLatest, RestoreDatabase, Forget, ShowBackups}
use Rattle.command_lang.specs.declared.limits.TheConstants.{LINE_BYTES_MAX}
use Rattle.command_lang.specs.Forms.{cluster, tick, create_database, create_table, drop_table, add_column, drop_column, rename_column, rename_table, upsert, delete, delete_range, select, gc, backup_database, backup_tables, backup_latest, restore_database, forget, show_backups, schema_command, alter_command, row_command, layer_command, command}
use Rattle.command_lang.specs.Lines.{Reads, Malformed, Skipped, reading, reading_of, after_blanks, is_skipped_text}
use Rattle.command_lang.specs.Typed.{AreColumns, AreValues, IfGiven, IsKeyOfColumns, IsName, IsSource, IsTableName, IsTyped, ReadCommandsAreTyped}
use Rattle.command_lang.proofs.TypedTokens.{tokens-are}
use Rattle.command_lang.proofs.TypedForms.{Any, AreTables, Gets, IsDated, IsWall, Meets, then-gets, ending-gets, word-gets, mark-gets, making-gets, or-gets, name-gets, new_name-gets, count-gets, kind-gets, time-gets, table-gets, row-gets, rows-gets, asof-gets, columns-gets, key-gets, references-gets, collection-gets, source_in-gets, tables-gets, backup_clauses-gets, options-gets}

-- ---- each form

cluster-typed : Gets IsTyped (cluster making Cluster)
unfolding cluster
cluster-typed = making-gets IsName IsTyped _ Cluster (word-gets IsName _ _ (then-gets IsName IsName name _ name-gets (λ n is. ending-gets IsName n is))) (λ n is. is)

tick-typed : Gets IsTyped (tick making Tick)
unfolding tick
tick-typed = making-gets IsWall IsTyped _ Tick (word-gets IsWall _ _ (then-gets IsWall IsWall (one count_of) _ count-gets (λ n is. ending-gets IsWall n is))) (λ n is. is)

create_database-typed : Gets IsTyped (create_database making CreateDatabase)
unfolding create_database
create_database-typed = making-gets IsName IsTyped _ CreateDatabase (word-gets IsName _ _ (word-gets IsName _ _ (then-gets IsName IsName name _ name-gets (λ n is. ending-gets IsName n is)))) (λ n is. is)

abbrev IsNewTable : (List ℕ × List ℕ) × List (List ℕ × Kind) × List (List ℕ × Bool) × List (List ℕ × List ℕ) → Type 0
IsNewTable x = IsTableName x.0 × AreColumns x.1 × IsKeyOfColumns x.2 × AreTables x.3

create_table-typed : Gets IsTyped (create_table making (λ x. CreateTable x.0 x.1 x.2 x.3))
unfolding create_table
create_table-typed = making-gets IsNewTable IsTyped _ (λ x. CreateTable x.0 x.1 x.2 x.3)
    (word-gets IsNewTable _ _ (word-gets IsNewTable _ _ (then-gets IsTableName IsNewTable table _ table-gets (λ t it. mark-gets IsNewTable _ _ (then-gets AreColumns IsNewTable columns _ columns-gets (λ cs ic.
    then-gets IsKeyOfColumns IsNewTable key _ key-gets (λ ks ik. then-gets AreTables IsNewTable references _ references-gets (λ rs ir. mark-gets IsNewTable _ _ (ending-gets IsNewTable (t, cs, ks, rs) (it, ic, ik, ir))))))))))
    (λ x is. is)

drop_table-typed : Gets IsTyped (drop_table making DropTable)
unfolding drop_table
drop_table-typed = making-gets IsTableName IsTyped _ DropTable (word-gets IsTableName _ _ (word-gets IsTableName _ _ (then-gets IsTableName IsTableName table _ table-gets (λ t is. ending-gets IsTableName t is)))) (λ t is. is)

abbrev IsNamed : (List ℕ × List ℕ) × List ℕ × Kind → Type 0
IsNamed x = IsTableName x.0 × IsName x.1

add_column-typed : Gets IsTyped (add_column making (λ x. AddColumn x.0 x.1 x.2))
unfolding add_column
add_column-typed = making-gets IsNamed IsTyped _ (λ x. AddColumn x.0 x.1 x.2)
    (word-gets IsNamed _ _ (word-gets IsNamed _ _ (then-gets IsTableName IsNamed table _ table-gets (λ t it. word-gets IsNamed _ _ (word-gets IsNamed _ _ (then-gets IsName IsNamed (one new_name_of) _ new_name-gets (λ n is.
    then-gets Any IsNamed (one kind_of) _ kind-gets (λ k any. ending-gets IsNamed (t, n, k) (it, is)))))))))
    (λ x is. is)

abbrev IsOneMore : (List ℕ × List ℕ) × List ℕ → Type 0
IsOneMore x = IsTableName x.0 × IsName x.1

drop_column-typed : Gets IsTyped (drop_column making (λ x. DropColumn x.0 x.1))
unfolding drop_column
drop_column-typed = making-gets IsOneMore IsTyped _ (λ x. DropColumn x.0 x.1)
    (word-gets IsOneMore _ _ (word-gets IsOneMore _ _ (then-gets IsTableName IsOneMore table _ table-gets (λ t it. word-gets IsOneMore _ _ (word-gets IsOneMore _ _ (then-gets IsName IsOneMore name _ name-gets (λ n is.
    ending-gets IsOneMore (t, n) (it, is))))))))
    (λ x is. is)

abbrev AreTwoNames : (List ℕ × List ℕ) × List ℕ × List ℕ → Type 0
AreTwoNames x = IsTableName x.0 × IsName x.1 × IsName x.2

rename_column-typed : Gets IsTyped (rename_column making (λ x. RenameColumn x.0 x.1 x.2))
unfolding rename_column
rename_column-typed = making-gets AreTwoNames IsTyped _ (λ x. RenameColumn x.0 x.1 x.2)
    (word-gets AreTwoNames _ _ (word-gets AreTwoNames _ _ (then-gets IsTableName AreTwoNames table _ table-gets (λ t it. word-gets AreTwoNames _ _ (word-gets AreTwoNames _ _ (then-gets IsName AreTwoNames name _ name-gets (λ n is.
    word-gets AreTwoNames _ _ (then-gets IsName AreTwoNames (one new_name_of) _ new_name-gets (λ k also. ending-gets AreTwoNames (t, n, k) (it, is, also))))))))))
    (λ x is. is)

rename_table-typed : Gets IsTyped (rename_table making (λ x. RenameTable x.0 x.1))
unfolding rename_table
rename_table-typed = making-gets IsOneMore IsTyped _ (λ x. RenameTable x.0 x.1)
    (word-gets IsOneMore _ _ (word-gets IsOneMore _ _ (then-gets IsTableName IsOneMore table _ table-gets (λ t it. word-gets IsOneMore _ _ (word-gets IsOneMore _ _ (then-gets IsName IsOneMore name _ name-gets (λ n is.
    ending-gets IsOneMore (t, n) (it, is))))))))
    (λ x is. is)

abbrev AreRowsOf : (List ℕ × List ℕ) × List (List Datum) → Type 0
AreRowsOf x = IsTableName x.0 × AllByRecursion AreValues x.1

abbrev AreRows : List (List Datum) → Type 0
AreRows rs = AllByRecursion AreValues rs

upsert-typed : Gets IsTyped (upsert making (λ x. Upsert x.0 x.1))
unfolding upsert
upsert-typed = making-gets AreRowsOf IsTyped _ (λ x. Upsert x.0 x.1)
    (word-gets AreRowsOf _ _ (word-gets AreRowsOf _ _ (then-gets IsTableName AreRowsOf table _ table-gets (λ t it. word-gets AreRowsOf _ _ (then-gets AreRows AreRowsOf rows _ rows-gets (λ rs are. ending-gets AreRowsOf (t, rs) (it, are)))))))
    (λ x is. is)

delete-typed : Gets IsTyped (delete making (λ x. Delete x.0 x.1))
unfolding delete
delete-typed = making-gets AreRowsOf IsTyped _ (λ x. Delete x.0 x.1)
    (word-gets AreRowsOf _ _ (word-gets AreRowsOf _ _ (then-gets IsTableName AreRowsOf table _ table-gets (λ t it. word-gets AreRowsOf _ _ (then-gets AreRows AreRowsOf rows _ rows-gets (λ rs are. ending-gets AreRowsOf (t, rs) (it, are)))))))
    (λ x is. is)

abbrev IsRangeOf : (List ℕ × List ℕ) × List Datum × List Datum → Type 0
IsRangeOf x = IsTableName x.0 × AreValues x.1 × AreValues x.2

delete_range-typed : Gets IsTyped (delete_range making (λ x. DeleteRange x.0 x.1 x.2))
unfolding delete_range
delete_range-typed = making-gets IsRangeOf IsTyped _ (λ x. DeleteRange x.0 x.1 x.2)
    (word-gets IsRangeOf _ _ (word-gets IsRangeOf _ _ (word-gets IsRangeOf _ _ (then-gets IsTableName IsRangeOf table _ table-gets (λ t it. word-gets IsRangeOf _ _ (then-gets AreValues IsRangeOf row _ row-gets (λ lo il.
    word-gets IsRangeOf _ _ (then-gets AreValues IsRangeOf row _ row-gets (λ hi ih. ending-gets IsRangeOf (t, lo, hi) (it, il, ih))))))))))
    (λ x is. is)

abbrev IsSelect : (List ℕ × List ℕ) × Option Time → Type 0
IsSelect x = IsTableName x.0 × IfGiven IsTime x.1

select-typed : Gets IsTyped (select making (λ x. Select x.0 x.1))
unfolding select
select-typed = making-gets IsSelect IsTyped _ (λ x. Select x.0 x.1)
    (word-gets IsSelect _ _ (mark-gets IsSelect _ _ (word-gets IsSelect _ _ (then-gets IsTableName IsSelect table _ table-gets (λ t it. then-gets (IfGiven IsTime) IsSelect asof _ asof-gets (λ at is. ending-gets IsSelect (t, at) (it, is)))))))
    (λ x is. is)

abbrev IsCollection : (List ℕ × List ℕ) × Time → Type 0
IsCollection x = IsTableName x.0 × IsTime x.1

gc-typed : Gets IsTyped (gc making (λ x. Gc x.0 x.1))
unfolding gc
gc-typed = making-gets IsCollection IsTyped _ (λ x. Gc x.0 x.1)
    (word-gets IsCollection _ _ (then-gets IsTableName IsCollection table _ table-gets (λ t it. word-gets IsCollection _ _ (then-gets IsTime IsCollection (one time_of) _ time-gets (λ g is. ending-gets IsCollection (t, g) (it, is))))))
    (λ x is. is)

abbrev IsBackup : List ℕ × List ℕ × Option Time × BackupOptions → Type 0
IsBackup x = IsName x.0 × IsName x.1 × IfGiven IsTime x.2

backup_database-typed : Gets IsTyped (backup_database making (λ x. BackupDatabase x.0 x.1 x.2 x.3.history))
unfolding backup_database
backup_database-typed = making-gets IsBackup IsTyped _ (λ x. BackupDatabase x.0 x.1 x.2 x.3.history)
    (word-gets IsBackup _ _ (word-gets IsBackup _ _ (then-gets IsName IsBackup name _ name-gets (λ d id. word-gets IsBackup _ _ (then-gets IsName IsBackup (one collection_of) _ collection-gets (λ c ic.
    then-gets IsDated IsBackup backup_clauses _ backup_clauses-gets (λ y is. ending-gets IsBackup (d, c, y.0, y.1) (id, ic, is))))))))
    (λ x is. is)

abbrev IsTablesBackup : List (List ℕ × List ℕ) × List ℕ × Option Time × BackupOptions → Type 0
IsTablesBackup x = AreTables x.0 × IsName x.1 × IfGiven IsTime x.2

backup_tables-typed : Gets IsTyped (backup_tables making (λ x. BackupTables x.0 x.1 x.2 x.3.history))
unfolding backup_tables
backup_tables-typed = making-gets IsTablesBackup IsTyped _ (λ x. BackupTables x.0 x.1 x.2 x.3.history)
    (word-gets IsTablesBackup _ _ (word-gets IsTablesBackup _ _ (then-gets AreTables IsTablesBackup tables _ tables-gets (λ ts it. word-gets IsTablesBackup _ _ (then-gets IsName IsTablesBackup (one collection_of) _ collection-gets (λ c ic.
    then-gets IsDated IsTablesBackup backup_clauses _ backup_clauses-gets (λ y is. ending-gets IsTablesBackup (ts, c, y.0, y.1) (it, ic, is))))))))
    (λ x is. is)

abbrev IsLayerBackup : List ℕ × Option Time × BackupOptions → Type 0
IsLayerBackup x = IsName x.0 × IfGiven IsTime x.1

backup_latest-typed : Gets IsTyped (backup_latest making (λ x. BackupLatest x.0 x.1 x.2.history))
unfolding backup_latest
backup_latest-typed = making-gets IsLayerBackup IsTyped _ (λ x. BackupLatest x.0 x.1 x.2.history)
    (word-gets IsLayerBackup _ _ (word-gets IsLayerBackup _ _ (word-gets IsLayerBackup _ _ (word-gets IsLayerBackup _ _ (then-gets IsName IsLayerBackup (one collection_of) _ collection-gets (λ c ic.
    then-gets IsDated IsLayerBackup backup_clauses _ backup_clauses-gets (λ y is. ending-gets IsLayerBackup (c, y.0, y.1) (ic, is))))))))
    (λ x is. is)

abbrev IsRestore : List ℕ × Src × List ℕ × Option Time × Option (List ℕ) → Type 0
IsRestore x = IsName x.0 × IsSource x.1 × IsName x.2 × IfGiven IsTime x.3 × IfGiven IsName x.4

restore_database-typed : Gets IsTyped (restore_database making (λ x. RestoreDatabase x.0 x.1 x.2 x.3 x.4))
unfolding restore_database
restore_database-typed = making-gets IsRestore IsTyped _ (λ x. RestoreDatabase x.0 x.1 x.2 x.3 x.4)
    (word-gets IsRestore _ _ (word-gets IsRestore _ _ (then-gets IsName IsRestore name _ name-gets (λ d id. word-gets IsRestore _ _ (then-gets (λ (x : Src × List ℕ). IsSource x.0 × IsName x.1) IsRestore source_in _ source_in-gets (λ s is.
    then-gets (IfGiven IsTime) IsRestore asof _ asof-gets (λ at ia. then-gets (IfGiven IsName) IsRestore restore_options _ options-gets (λ new iw. ending-gets IsRestore (d, s.0, s.1, at, new) (id, is.0, is.1, ia, iw)))))))))
    (λ x is. is)

abbrev IsForget : Src × List ℕ × Time × Time → Type 0
IsForget x = IsSource x.0 × IsName x.1 × IsTime x.2 × IsTime x.3

forget-typed : Gets IsTyped (forget making (λ x. Forget x.0 x.1 x.2 x.3))
unfolding forget
forget-typed = making-gets IsForget IsTyped _ (λ x. Forget x.0 x.1 x.2 x.3)
    (word-gets IsForget _ _ (word-gets IsForget _ _ (word-gets IsForget _ _ (then-gets (λ (x : Src × List ℕ). IsSource x.0 × IsName x.1) IsForget source_in _ source_in-gets (λ s is.
    word-gets IsForget _ _ (then-gets IsTime IsForget (one time_of) _ time-gets (λ start ia. word-gets IsForget _ _ (then-gets IsTime IsForget (one time_of) _ time-gets (λ end ie. ending-gets IsForget (s.0, s.1, start, end) (is.0, is.1, ia, ie))))))))))
    (λ x is. is)

show_backups-typed : Gets IsTyped (show_backups making ShowBackups)
unfolding show_backups
show_backups-typed = making-gets IsName IsTyped _ ShowBackups (word-gets IsName _ _ (word-gets IsName _ _ (word-gets IsName _ _ (then-gets IsName IsName (one collection_of) _ collection-gets (λ c is. ending-gets IsName c is))))) (λ c is. is)

-- ---- all forms

schema-typed : Gets IsTyped schema_command
unfolding schema_command
schema-typed = or-gets IsTyped _ _ (or-gets IsTyped _ _ create_database-typed create_table-typed) drop_table-typed

alter-typed : Gets IsTyped alter_command
unfolding alter_command
alter-typed = or-gets IsTyped _ _ (or-gets IsTyped _ _ (or-gets IsTyped _ _ add_column-typed drop_column-typed) rename_column-typed) rename_table-typed

row-typed : Gets IsTyped row_command
unfolding row_command
row-typed = or-gets IsTyped _ _ (or-gets IsTyped _ _ (or-gets IsTyped _ _ (or-gets IsTyped _ _ upsert-typed delete-typed) delete_range-typed) select-typed) gc-typed

layer-typed : Gets IsTyped layer_command
unfolding layer_command
layer-typed = or-gets IsTyped _ _ (or-gets IsTyped _ _ (or-gets IsTyped _ _ (or-gets IsTyped _ _ (or-gets IsTyped _ _ backup_database-typed backup_tables-typed) backup_latest-typed) restore_database-typed) forget-typed) show_backups-typed

command-typed : (first : Bool) → Gets IsTyped (command first)
unfolding command
command-typed true = cluster-typed
command-typed false = or-gets IsTyped _ _ (or-gets IsTyped _ _ (or-gets IsTyped _ _ (or-gets IsTyped _ _ tick-typed schema-typed) alter-typed) row-typed) layer-typed

-- ---- lines

pub read-typed : ReadCommandsAreTyped
unfolding reading
read-typed first line c all e = long (nat_lt LINE_BYTES_MAX (length line)) (is_skipped_text (after_blanks line)) ((command first).read (tokens line)) ((command-typed first).gets (tokens line) (tokens-are line all)) e
  where
    long : (b s : Bool) (p : Progress Command) → Meets IsTyped p → (if b then Malformed (LINE_BYTES_MAX + 1) else (if s then Skipped else reading_of (places line) (length line) p)) ≡ Reads c → IsTyped c
    long true s p met is = cc is
    long false true p met is = cc is
    long false false (Fault left) met is = cc is
    long false false (Read d rest) met is = let same : d ≡ c = cc is in rw (← same) met.0
