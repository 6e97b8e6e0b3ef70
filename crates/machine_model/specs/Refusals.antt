-- What the faults of a catalog and of rows refuse a command by.
use Rattle.std.specs.Prelude.{Option, Some, None, option_and_then}
use Rattle.reply_texts.specs.declared.refusals.Refusal.{Refusal}
use Rattle.reply_texts.specs.declared.refusals.Refusal.TheVariants.{NoSuchDatabase, DatabaseExists, NoSuchTable, NameTaken, NotPublic, BadSchema, WrongRow, TooLarge, Referenced, DuplicateKey, TooManyTables, EmptyRange}
use Rattle.schema_catalog.specs.declared.faults.CatalogFault.{CatalogFault}
use Rattle.schema_catalog.specs.declared.faults.CatalogFault.TheVariants.{NoSuchDatabase as NoDatabase, DatabaseExists as Exists, NoSuchTable as NoTable, NameTaken as Taken, NotPublic as IsOffline, BadSchema as Bad, Referenced as IsReferenced, TooManyTables as Full, Memory as Wanted}
use Rattle.table_rows.specs.declared.faults.RowsFault.{RowsFault}
use Rattle.table_rows.specs.declared.faults.RowsFault.TheVariants.{WrongRow as Wrong, TooLarge as Large, DuplicateKey as Duplicate, EmptyRange as Empty, Memory as NoMemory}

-- want of memory refuses nothing: it is no fault of a command
abbrev pub refusal_of_catalog : CatalogFault → Option Refusal
refusal_of_catalog (NoDatabase database) = Some (NoSuchDatabase database)
refusal_of_catalog (Exists database) = Some (DatabaseExists database)
refusal_of_catalog (NoTable table) = Some (NoSuchTable table)
refusal_of_catalog (Taken table) = Some (NameTaken table)
refusal_of_catalog (IsOffline table) = Some (NotPublic table)
refusal_of_catalog (Bad which) = Some (BadSchema which)
refusal_of_catalog (IsReferenced by) = Some (Referenced by)
refusal_of_catalog Full = Some TooManyTables
refusal_of_catalog Wanted = None

abbrev pub catalog_refusal : Option CatalogFault → Option Refusal
catalog_refusal fault = option_and_then refusal_of_catalog fault

abbrev pub refusal_of_rows : RowsFault → Option Refusal
refusal_of_rows (Wrong row column) = Some (WrongRow row column)
refusal_of_rows (Large row) = Some (TooLarge row)
refusal_of_rows (Duplicate row) = Some (DuplicateKey row)
refusal_of_rows Empty = Some EmptyRange
refusal_of_rows NoMemory = None

abbrev pub rows_refusal : Option RowsFault → Option Refusal
rows_refusal fault = option_and_then refusal_of_rows fault
