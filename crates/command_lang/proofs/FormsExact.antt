-- Each form is read exactly as it is defined, and no tokens are in two of them.
use Rattle.std.proofs.Common.{Bool, true, false, List, [], ◌∷◌, ◌++◌, codes, Some, None, refl}
use Rattle.script_grammar.specs.Grammar.{Form, one, ◌making◌}
use Rattle.script_grammar.specs.Columns.{IsExact}
use Rattle.script_grammar.specs.Parts.{name, new_name_of, count_of, kind_of, time_of, table, row, columns, starts_column, collection_of, source_in}
use Rattle.script_grammar.proofs.Rights.{IsRight, explained, then_, then_before_, word_, mark_, end_, making_, bars_mark_mark, bars_mark_word, bars_mark_end, bars_word_end}
use Rattle.script_grammar.proofs.PartsExact.{name_part, new_name_part, count_part, kind_part, time_part, table_part, row_part, columns_part, key_part, key_then_bars_column, references_, rows_, asof_, collection_part, source_in_part, tables_, backup_clauses_, restore_options_, restore_options_bar}
use Rattle.script_grammar.proofs.Families.{Lead, Leads, Family, lead_word, lead_table, lead_end, family, making_family, or_}
use Rattle.command_lang.specs.declared.command.Command.TheVariants.{Cluster, Tick, CreateDatabase, CreateTable, AddColumn, DropColumn, RenameColumn, RenameTable, DropTable, Upsert, Delete, DeleteRange, Select, Gc, BackupDatabase, BackupTables, BackupLatest, RestoreDatabase, Forget, ShowBackups}
use Rattle.command_lang.specs.Forms.{cluster, tick, create_database, create_table, drop_table, add_column, drop_column, rename_column, rename_table, upsert, delete, delete_range, select, gc, backup_database, backup_tables, backup_latest, restore_database, forget, show_backups, schema_command, alter_command, row_command, layer_command, command}

-- ---- each form is read right

cluster_right : IsRight cluster
unfolding cluster
cluster_right = word_ _ _ refl (then_ name _ name_part (λ n. end_ _))

tick_right : IsRight tick
unfolding tick
tick_right = word_ _ _ refl (then_ (one count_of) _ count_part (λ n. end_ _))

create_database_right : IsRight create_database
unfolding create_database
create_database_right = word_ _ _ refl (word_ _ _ refl (then_ name _ name_part (λ n. end_ _)))

create_table_right : IsRight create_table
unfolding create_table
create_table_right =
    word_ _ _ refl (word_ _ _ refl (then_ table _ table_part (λ t. mark_ _ _ refl (then_before_ starts_column columns _ columns_part
    (λ cs. then_ _ _ key_part (λ ks. references_ _ (λ rs. mark_ _ _ refl (end_ _)) (λ rs. bars_mark_mark 44 41 _ refl)))
    (λ cs. key_then_bars_column _)))))

drop_table_right : IsRight drop_table
unfolding drop_table
drop_table_right = word_ _ _ refl (word_ _ _ refl (then_ table _ table_part (λ t. end_ _)))

add_column_right : IsRight add_column
unfolding add_column
add_column_right =
    word_ _ _ refl (word_ _ _ refl (then_ table _ table_part (λ t. word_ _ _ refl (word_ _ _ refl
    (then_ (one new_name_of) _ new_name_part (λ n. then_ (one kind_of) _ kind_part (λ k. end_ _)))))))

drop_column_right : IsRight drop_column
unfolding drop_column
drop_column_right = word_ _ _ refl (word_ _ _ refl (then_ table _ table_part (λ t. word_ _ _ refl (word_ _ _ refl (then_ name _ name_part (λ n. end_ _))))))

rename_column_right : IsRight rename_column
unfolding rename_column
rename_column_right =
    word_ _ _ refl (word_ _ _ refl (then_ table _ table_part (λ t. word_ _ _ refl (word_ _ _ refl
    (then_ name _ name_part (λ n. word_ _ _ refl (then_ (one new_name_of) _ new_name_part (λ m. end_ _))))))))

rename_table_right : IsRight rename_table
unfolding rename_table
rename_table_right = word_ _ _ refl (word_ _ _ refl (then_ table _ table_part (λ t. word_ _ _ refl (word_ _ _ refl (then_ name _ name_part (λ n. end_ _))))))

upsert_right : IsRight upsert
unfolding upsert
upsert_right =
    word_ _ _ refl (word_ _ _ refl (then_ table _ table_part (λ t. word_ _ _ refl (rows_ _ (λ rs. end_ _) (λ rs. bars_mark_end 44 _ refl)))))

delete_right : IsRight delete
unfolding delete
delete_right =
    word_ _ _ refl (word_ _ _ refl (then_ table _ table_part (λ t. word_ _ _ refl (rows_ _ (λ ks. end_ _) (λ ks. bars_mark_end 44 _ refl)))))

delete_range_right : IsRight delete_range
unfolding delete_range
delete_range_right =
    word_ _ _ refl (word_ _ _ refl (word_ _ _ refl (then_ table _ table_part (λ t. word_ _ _ refl
    (then_ row _ row_part (λ lo. word_ _ _ refl (then_ row _ row_part (λ hi. end_ _))))))))

select_right : IsRight select
unfolding select
select_right = word_ _ _ refl (mark_ _ _ refl (word_ _ _ refl (then_ table _ table_part (λ t. asof_ _ (λ at. end_ _) (bars_word_end (codes "as") _)))))

gc_right : IsRight gc
unfolding gc
gc_right = word_ _ _ refl (then_ table _ table_part (λ t. word_ _ _ refl (then_ (one time_of) _ time_part (λ before. end_ _))))

backup_database_right : IsRight backup_database
unfolding backup_database
backup_database_right =
    word_ _ _ refl (word_ _ _ refl (then_ name _ name_part (λ d. word_ _ _ refl (then_ (one collection_of) _ collection_part
    (λ c. backup_clauses_ _ (λ x. end_ _) (λ x. bars_mark_end 44 _ refl) (λ x. bars_word_end (codes "as") _) (λ x. bars_word_end (codes "with") _))))))

backup_tables_right : IsRight backup_tables
unfolding backup_tables
backup_tables_right =
    word_ _ _ refl (word_ _ _ refl (tables_ _ (λ ts. word_ _ _ refl (then_ (one collection_of) _ collection_part
    (λ c. backup_clauses_ _ (λ x. end_ _) (λ x. bars_mark_end 44 _ refl) (λ x. bars_word_end (codes "as") _) (λ x. bars_word_end (codes "with") _))))
    (λ ts. bars_mark_word 44 (codes "into") _)))

backup_latest_right : IsRight backup_latest
unfolding backup_latest
backup_latest_right =
    word_ _ _ refl (word_ _ _ refl (word_ _ _ refl (word_ _ _ refl (then_ (one collection_of) _ collection_part
    (λ c. backup_clauses_ _ (λ x. end_ _) (λ x. bars_mark_end 44 _ refl) (λ x. bars_word_end (codes "as") _) (λ x. bars_word_end (codes "with") _))))))

restore_database_right : IsRight restore_database
unfolding restore_database
restore_database_right =
    word_ _ _ refl (word_ _ _ refl (then_ name _ name_part (λ d. word_ _ _ refl (then_ source_in _ source_in_part
    (λ s. asof_ _ (λ at. restore_options_ _ (λ new. end_ _) (λ new. bars_mark_end 44 _ refl) (bars_word_end (codes "with") _))
    (restore_options_bar (codes "as") _ refl (bars_word_end (codes "as") _)))))))

forget_right : IsRight forget
unfolding forget
forget_right =
    word_ _ _ refl (word_ _ _ refl (word_ _ _ refl (then_ source_in _ source_in_part (λ s. word_ _ _ refl
    (then_ (one time_of) _ time_part (λ start. word_ _ _ refl (then_ (one time_of) _ time_part (λ end. end_ _))))))))

show_backups_right : IsRight show_backups
unfolding show_backups
show_backups_right = word_ _ _ refl (word_ _ _ refl (word_ _ _ refl (then_ (one collection_of) _ collection_part (λ c. end_ _))))

-- ---- what each begins with

tick_leads : Leads (Some (codes "tick") ∷ []) tick
unfolding tick
tick_leads = lead_word _ _ _ (lead_end _)

create_database_leads : Leads (Some (codes "create") ∷ Some (codes "database") ∷ []) create_database
unfolding create_database
create_database_leads = lead_word _ _ _ (lead_word _ _ _ (lead_end _))

create_table_leads : Leads (Some (codes "create") ∷ Some (codes "table") ∷ []) create_table
unfolding create_table
create_table_leads = lead_word _ _ _ (lead_word _ _ _ (lead_end _))

drop_table_leads : Leads (Some (codes "drop") ∷ []) drop_table
unfolding drop_table
drop_table_leads = lead_word _ _ _ (lead_end _)

-- ALTER TABLE tbl, and then this
abbrev altering : Lead → Lead
altering ps = Some (codes "alter") ∷ Some (codes "table") ∷ None ∷ None ∷ None ∷ ps

add_column_leads : Leads (altering (Some (codes "add") ∷ [])) add_column
unfolding add_column
add_column_leads = lead_word _ _ _ (lead_word _ _ _ (lead_table _ _ (λ t. lead_word _ _ _ (lead_end _))))

drop_column_leads : Leads (altering (Some (codes "drop") ∷ [])) drop_column
unfolding drop_column
drop_column_leads = lead_word _ _ _ (lead_word _ _ _ (lead_table _ _ (λ t. lead_word _ _ _ (lead_end _))))

rename_column_leads : Leads (altering (Some (codes "rename") ∷ Some (codes "column") ∷ [])) rename_column
unfolding rename_column
rename_column_leads = lead_word _ _ _ (lead_word _ _ _ (lead_table _ _ (λ t. lead_word _ _ _ (lead_word _ _ _ (lead_end _)))))

rename_table_leads : Leads (altering (Some (codes "rename") ∷ Some (codes "to") ∷ [])) rename_table
unfolding rename_table
rename_table_leads = lead_word _ _ _ (lead_word _ _ _ (lead_table _ _ (λ t. lead_word _ _ _ (lead_word _ _ _ (lead_end _)))))

upsert_leads : Leads (Some (codes "upsert") ∷ []) upsert
unfolding upsert
upsert_leads = lead_word _ _ _ (lead_end _)

delete_leads : Leads (Some (codes "delete") ∷ Some (codes "from") ∷ []) delete
unfolding delete
delete_leads = lead_word _ _ _ (lead_word _ _ _ (lead_end _))

delete_range_leads : Leads (Some (codes "delete") ∷ Some (codes "range") ∷ []) delete_range
unfolding delete_range
delete_range_leads = lead_word _ _ _ (lead_word _ _ _ (lead_end _))

select_leads : Leads (Some (codes "select") ∷ []) select
unfolding select
select_leads = lead_word _ _ _ (lead_end _)

gc_leads : Leads (Some (codes "gc") ∷ []) gc
unfolding gc
gc_leads = lead_word _ _ _ (lead_end _)

backup_database_leads : Leads (Some (codes "backup") ∷ Some (codes "database") ∷ []) backup_database
unfolding backup_database
backup_database_leads = lead_word _ _ _ (lead_word _ _ _ (lead_end _))

backup_tables_leads : Leads (Some (codes "backup") ∷ Some (codes "table") ∷ []) backup_tables
unfolding backup_tables
backup_tables_leads = lead_word _ _ _ (lead_word _ _ _ (lead_end _))

backup_latest_leads : Leads (Some (codes "backup") ∷ Some (codes "into") ∷ []) backup_latest
unfolding backup_latest
backup_latest_leads = lead_word _ _ _ (lead_word _ _ _ (lead_end _))

restore_database_leads : Leads (Some (codes "restore") ∷ []) restore_database
unfolding restore_database
restore_database_leads = lead_word _ _ _ (lead_end _)

forget_leads : Leads (Some (codes "forget") ∷ []) forget
unfolding forget
forget_leads = lead_word _ _ _ (lead_end _)

show_backups_leads : Leads (Some (codes "show") ∷ []) show_backups
unfolding show_backups
show_backups_leads = lead_word _ _ _ (lead_end _)

-- ---- families

made : {A B : Type 0} (ps : Lead) (f : Form A) (make : A → B) → IsRight f → Leads ps f → Family (ps ∷ []) (f making make)
made ps f make right leads = making_family _ f make (family ps f right leads)

schema_leads : List Lead
schema_leads = (Some (codes "create") ∷ Some (codes "database") ∷ []) ∷ (Some (codes "create") ∷ Some (codes "table") ∷ []) ∷ (Some (codes "drop") ∷ []) ∷ []

schema_family : Family schema_leads schema_command
unfolding schema_command schema_leads
schema_family =
    or_ _ _ _ _ (or_ _ _ _ _ (made _ create_database CreateDatabase create_database_right create_database_leads)
    (made _ create_table (λ x. CreateTable x.0 x.1 x.2 x.3) create_table_right create_table_leads) refl)
    (made _ drop_table DropTable drop_table_right drop_table_leads) refl

alter_leads : List Lead
alter_leads = altering (Some (codes "add") ∷ []) ∷ altering (Some (codes "drop") ∷ []) ∷ altering (Some (codes "rename") ∷ Some (codes "column") ∷ []) ∷ altering (Some (codes "rename") ∷ Some (codes "to") ∷ []) ∷ []

alter_family : Family alter_leads alter_command
unfolding alter_command alter_leads
alter_family =
    or_ _ _ _ _ (or_ _ _ _ _ (or_ _ _ _ _ (made _ add_column (λ x. AddColumn x.0 x.1 x.2) add_column_right add_column_leads)
    (made _ drop_column (λ x. DropColumn x.0 x.1) drop_column_right drop_column_leads) refl)
    (made _ rename_column (λ x. RenameColumn x.0 x.1 x.2) rename_column_right rename_column_leads) refl)
    (made _ rename_table (λ x. RenameTable x.0 x.1) rename_table_right rename_table_leads) refl

row_leads : List Lead
row_leads =
    (Some (codes "upsert") ∷ []) ∷ (Some (codes "delete") ∷ Some (codes "from") ∷ []) ∷ (Some (codes "delete") ∷ Some (codes "range") ∷ [])
    ∷ (Some (codes "select") ∷ []) ∷ (Some (codes "gc") ∷ []) ∷ []

row_family : Family row_leads row_command
unfolding row_command row_leads
row_family =
    or_ _ _ _ _ (or_ _ _ _ _ (or_ _ _ _ _ (or_ _ _ _ _ (made _ upsert (λ x. Upsert x.0 x.1) upsert_right upsert_leads)
    (made _ delete (λ x. Delete x.0 x.1) delete_right delete_leads) refl)
    (made _ delete_range (λ x. DeleteRange x.0 x.1 x.2) delete_range_right delete_range_leads) refl)
    (made _ select (λ x. Select x.0 x.1) select_right select_leads) refl)
    (made _ gc (λ x. Gc x.0 x.1) gc_right gc_leads) refl

layer_leads : List Lead
layer_leads =
    (Some (codes "backup") ∷ Some (codes "database") ∷ []) ∷ (Some (codes "backup") ∷ Some (codes "table") ∷ []) ∷ (Some (codes "backup") ∷ Some (codes "into") ∷ [])
    ∷ (Some (codes "restore") ∷ []) ∷ (Some (codes "forget") ∷ []) ∷ (Some (codes "show") ∷ []) ∷ []

layer_family : Family layer_leads layer_command
unfolding layer_command layer_leads
layer_family =
    or_ _ _ _ _ (or_ _ _ _ _ (or_ _ _ _ _ (or_ _ _ _ _ (or_ _ _ _ _ (made _ backup_database (λ x. BackupDatabase x.0 x.1 x.2 x.3.history) backup_database_right backup_database_leads)
    (made _ backup_tables (λ x. BackupTables x.0 x.1 x.2 x.3.history) backup_tables_right backup_tables_leads) refl)
    (made _ backup_latest (λ x. BackupLatest x.0 x.1 x.2.history) backup_latest_right backup_latest_leads) refl)
    (made _ restore_database (λ x. RestoreDatabase x.0 x.1 x.2 x.3 x.4) restore_database_right restore_database_leads) refl)
    (made _ forget (λ x. Forget x.0 x.1 x.2 x.3) forget_right forget_leads) refl)
    (made _ show_backups ShowBackups show_backups_right show_backups_leads) refl

command_family : Family ((Some (codes "tick") ∷ []) ∷ schema_leads ++ alter_leads ++ row_leads ++ layer_leads) (command false)
unfolding command schema_leads alter_leads row_leads layer_leads
command_family =
    or_ _ layer_leads _ layer_command (or_ _ row_leads _ row_command (or_ _ alter_leads _ alter_command (or_ _ schema_leads _ schema_command
    (made _ tick Tick tick_right tick_leads) schema_family refl) alter_family refl) row_family refl) layer_family refl

command_right : (first : Bool) → IsRight (command first)
unfolding command
command_right true = making_ cluster Cluster cluster_right
command_right false = command_family.right

pub command_explained : (first : Bool) → IsExact (command first)
command_explained first = explained (command first) (command_right first)
