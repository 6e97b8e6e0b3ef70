-- Commands in form: names are names, values are of their types, a key has a column, a wall is one that a number can say.
use Rattle.std.specs.Prelude.{◌≡◌, ℕ, ◌<◌, ◌^◌, Bool, true, List, length, Option, Some, None}
use Rattle.std.specs.List.{AllByRecursion}
use Rattle.list_laws.specs.Bytes.{AreBytes}
use Rattle.mvcc_keys.specs.Times.{IsTime}
use Rattle.row_codec.specs.declared.rows.Datum.{Datum}
use Rattle.row_codec.specs.declared.rows.Kind.{Kind}
use Rattle.row_codec.specs.RowKeys.{IsValue}
use Rattle.table_descriptors.specs.Names.{is_name}
use Rattle.script_grammar.specs.declared.backups.Src.{Src}
use Rattle.script_grammar.specs.declared.backups.Src.TheVariants.{Latest, Named}
use Rattle.command_lang.specs.declared.command.Command.{Command}
use Rattle.command_lang.specs.declared.command.Command.TheVariants.{Cluster, Tick, CreateDatabase, CreateTable, AddColumn, DropColumn, RenameColumn, RenameTable, DropTable, Upsert, Delete, DeleteRange, Select, Gc, BackupDatabase, BackupTables, BackupLatest, RestoreDatabase, Forget, ShowBackups}
use Rattle.command_lang.specs.Lines.{Reads, reading}

abbrev pub IsName : List ℕ → Type 0
IsName n = is_name n ≡ true

-- the names of a database and of a table
abbrev pub IsTableName : List ℕ × List ℕ → Type 0
IsTableName t = IsName t.0 × IsName t.1

abbrev pub AreColumns : List (List ℕ × Kind) → Type 0
AreColumns columns = AllByRecursion (λ (c : List ℕ × Kind). IsName c.0) columns

-- at least one column, by name
abbrev pub IsKeyOfColumns : List (List ℕ × Bool) → Type 0
IsKeyOfColumns key = AllByRecursion (λ (k : List ℕ × Bool). IsName k.0) key × (0 < length key)

-- numbers have 64 bits with their sign, texts are UTF-8
abbrev pub AreValues : List Datum → Type 0
AreValues row = AllByRecursion IsValue row

abbrev pub IsSource : Src → Type 0
IsSource Latest = Unit {0}
IsSource (Named cluster full) = IsName cluster × IsTime full

abbrev pub IfGiven : {X : Type 0} → (X → Type 0) → Option X → Type 0
IfGiven P None = Unit {0}
IfGiven P (Some x) = P x

-- all parts of the command are in form
abbrev pub IsTyped : Command → Type 0
IsTyped (Cluster name) = IsName name
IsTyped (Tick wall) = wall < 2 ^ 63
IsTyped (CreateDatabase name) = IsName name
IsTyped (CreateTable table columns key references) = IsTableName table × AreColumns columns × IsKeyOfColumns key × AllByRecursion IsTableName references
IsTyped (AddColumn table name kind) = IsTableName table × IsName name
IsTyped (DropColumn table name) = IsTableName table × IsName name
IsTyped (RenameColumn table name to) = IsTableName table × IsName name × IsName to
IsTyped (RenameTable table to) = IsTableName table × IsName to
IsTyped (DropTable table) = IsTableName table
IsTyped (Upsert table rows) = IsTableName table × AllByRecursion AreValues rows
IsTyped (Delete table keys) = IsTableName table × AllByRecursion AreValues keys
IsTyped (DeleteRange table lo hi) = IsTableName table × AreValues lo × AreValues hi
IsTyped (Select table at) = IsTableName table × IfGiven IsTime at
IsTyped (Gc table before) = IsTableName table × IsTime before
IsTyped (BackupDatabase database collection at history) = IsName database × IsName collection × IfGiven IsTime at
IsTyped (BackupTables tables collection at history) = AllByRecursion IsTableName tables × IsName collection × IfGiven IsTime at
IsTyped (BackupLatest collection at history) = IsName collection × IfGiven IsTime at
IsTyped (RestoreDatabase database source collection at new) = IsName database × IsSource source × IsName collection × IfGiven IsTime at × IfGiven IsName new
IsTyped (Forget source collection start end) = IsSource source × IsName collection × IsTime start × IsTime end
IsTyped (ShowBackups collection) = IsName collection

-- a command that is read of a line of bytes is in form
abbrev pub ReadCommandsAreTyped : Type 0
ReadCommandsAreTyped = (first : Bool) (line : List ℕ) (c : Command) → AreBytes line → reading first line ≡ Reads c → IsTyped c
