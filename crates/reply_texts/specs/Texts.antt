-- The lines of replies.
use Rattle.std.specs.Prelude.{ℕ, true, false, Option, Some, None, List, [], ◌∷◌, ◌++◌, length, codes}
use Rattle.std.specs.Fmt.{decimal, signed_decimal}
use Rattle.hex.specs.Hex.{encode_lower}
use Rattle.mvcc_keys.specs.Times.{Time}
use Rattle.mvcc_keys.specs.TimeTexts.{time_text}
use Rattle.row_codec.specs.declared.rows.Datum.{Datum}
use Rattle.row_codec.specs.declared.rows.Datum.TheVariants.{Int, Text, Bytes, Bool as Truth, Null}
use Rattle.script_tokens.specs.Spellings.{double_quotes}
use Rattle.reply_texts.specs.declared.refusals.Refusal.{Refusal}
use Rattle.reply_texts.specs.declared.refusals.Refusal.TheVariants.{ClockFull, TickBack, NoSuchDatabase, DatabaseExists, NoSuchTable, NameTaken, NotPublic, BadSchema, WrongRow, TooLarge, Future, Collected, Referenced, DuplicateKey, NoSuchBackup, StartCollected, EndNotAfter, NotCovered, NeedsHistory, HistoryCollected, Gap, NothingToRestore, MissingReference, LayerDiffers, Damaged, Malformed, TooManyTables, TooManyEvents, NoSuchLayer, EmptyRange}
use Rattle.reply_texts.specs.declared.answers.RestoredTable.{RestoredTable}
use Rattle.reply_texts.specs.declared.answers.Answer.{Answer}
use Rattle.reply_texts.specs.declared.answers.Answer.TheVariants.{Nothing, Plain, ClockSet, TableMade, TableChanged, RowsWritten, RangeDeleted, ThresholdRaised, RowsShown, BackupDone, RestoreDone, BackupsShown}
use Rattle.reply_texts.specs.declared.replies.Response.{Response}
use Rattle.reply_texts.specs.declared.replies.Response.TheVariants.{Refused, Answered}

-- a digest in lower-case hexadecimal digits, `none` where there is none
abbrev pub digest_text : Option (List ℕ) → List ℕ
digest_text None = codes "none"
digest_text (Some digest) = encode_lower digest

-- the digest of what an object should hold, and that of what it holds
abbrev pub digests_text : List ℕ → Option (List ℕ) → List ℕ
digests_text wanted found = codes " wanted=" ++ (encode_lower wanted ++ (codes " found=" ++ (digest_text found ++ codes "\n")))

-- the line of a refusal by an object of the disk, and nothing for another
abbrev pub object_refusal_text : Refusal → List ℕ
object_refusal_text (LayerDiffers object wanted found) = codes "refused 32 LayerDiffers object=" ++ (object ++ digests_text wanted found)
object_refusal_text (Damaged object wanted found) = codes "refused 33 Damaged object=" ++ (object ++ digests_text wanted found)
object_refusal_text (Malformed object offset) = codes "refused 34 Malformed object=" ++ (object ++ (codes " offset=" ++ (decimal offset ++ codes "\n")))
object_refusal_text refusal = []

-- the line of a refusal of a backup, of a restore or by an object
abbrev pub backup_refusal_text : Refusal → List ℕ
backup_refusal_text NoSuchBackup = codes "refused 16 NoSuchBackup\n"
backup_refusal_text (StartCollected table threshold start) = codes "refused 19 StartCollected table=" ++ (decimal table ++ (codes " threshold=" ++ (time_text threshold ++ (codes " start=" ++ (time_text start ++ codes "\n")))))
backup_refusal_text (EndNotAfter end last) = codes "refused 20 EndNotAfter end=" ++ (time_text end ++ (codes " last=" ++ (time_text last ++ codes "\n")))
backup_refusal_text (NotCovered first last) = codes "refused 21 NotCovered first=" ++ (time_text first ++ (codes " last=" ++ (time_text last ++ codes "\n")))
backup_refusal_text (NeedsHistory below above) = codes "refused 22 NeedsHistory below=" ++ (time_text below ++ (codes " above=" ++ (time_text above ++ codes "\n")))
backup_refusal_text (HistoryCollected floor) = codes "refused 23 HistoryCollected floor=" ++ (time_text floor ++ codes "\n")
backup_refusal_text (Gap reached wants) = codes "refused 24 Gap reached=" ++ (time_text reached ++ (codes " wants=" ++ (time_text wants ++ codes "\n")))
backup_refusal_text NothingToRestore = codes "refused 25 NothingToRestore\n"
backup_refusal_text (MissingReference table referenced) = codes "refused 26 MissingReference table=" ++ (decimal table ++ (codes " referenced=" ++ (decimal referenced ++ codes "\n")))
backup_refusal_text TooManyTables = codes "refused 35 TooManyTables\n"
backup_refusal_text TooManyEvents = codes "refused 36 TooManyEvents\n"
backup_refusal_text NoSuchLayer = codes "refused 37 NoSuchLayer\n"
backup_refusal_text refusal = object_refusal_text refusal

-- the line of a refusal: its number, its name and its fields
abbrev pub refusal_text : Refusal → List ℕ
refusal_text ClockFull = codes "refused 1 ClockFull\n"
refusal_text (TickBack now) = codes "refused 2 TickBack now=" ++ (time_text now ++ codes "\n")
refusal_text (NoSuchDatabase database) = codes "refused 3 NoSuchDatabase database=" ++ (database ++ codes "\n")
refusal_text (DatabaseExists database) = codes "refused 4 DatabaseExists database=" ++ (database ++ codes "\n")
refusal_text (NoSuchTable table) = codes "refused 5 NoSuchTable table=" ++ (table.0 ++ (codes "." ++ (table.1 ++ codes "\n")))
refusal_text (NameTaken table) = codes "refused 6 NameTaken table=" ++ (table.0 ++ (codes "." ++ (table.1 ++ codes "\n")))
refusal_text (NotPublic table) = codes "refused 7 NotPublic table=" ++ (table.0 ++ (codes "." ++ (table.1 ++ codes "\n")))
refusal_text (BadSchema which) = codes "refused 8 BadSchema which=" ++ (decimal which ++ codes "\n")
refusal_text (WrongRow row column) = codes "refused 9 WrongRow row=" ++ (decimal row ++ (codes " column=" ++ (decimal column ++ codes "\n")))
refusal_text (TooLarge row) = codes "refused 10 TooLarge row=" ++ (decimal row ++ codes "\n")
refusal_text (Future now) = codes "refused 11 Future now=" ++ (time_text now ++ codes "\n")
refusal_text (Collected table threshold) = codes "refused 12 Collected table=" ++ (decimal table ++ (codes " threshold=" ++ (time_text threshold ++ codes "\n")))
refusal_text (Referenced by) = codes "refused 14 Referenced by=" ++ (decimal by ++ codes "\n")
refusal_text (DuplicateKey row) = codes "refused 15 DuplicateKey row=" ++ (decimal row ++ codes "\n")
refusal_text EmptyRange = codes "refused 38 EmptyRange\n"
refusal_text refusal = backup_refusal_text refusal

-- ---- rows

-- a value: a number in decimal, a text in quotes, bytes in hexadecimal digits, a truth value, NULL
abbrev pub datum_text : Datum → List ℕ
datum_text (Int n) = signed_decimal n
datum_text (Text s) = codes "'" ++ (double_quotes s ++ codes "'")
datum_text (Bytes b) = codes "x'" ++ (encode_lower b ++ codes "'")
datum_text (Truth true) = codes "true"
datum_text (Truth false) = codes "false"
datum_text Null = codes "NULL"

-- further values, each after a comma
abbrev pub more_text : List Datum → List ℕ
more_text [] = []
more_text (x ∷ xs) = (codes ", " ++ datum_text x) ++ more_text xs

abbrev pub values_text : List Datum → List ℕ
values_text [] = []
values_text (x ∷ xs) = datum_text x ++ more_text xs

-- the line of a row
unfoldable pub row_text : List Datum → List ℕ
row_text row = codes "  (" ++ (values_text row ++ codes ")\n")

abbrev pub rows_text : List (List Datum) → List ℕ
rows_text [] = []
rows_text (row ∷ rows) = row_text row ++ rows_text rows

-- ---- backups

-- a layer: its subdirectory, its start and its end
abbrev pub layer_text : List ℕ → Time → Time → Time → List ℕ
layer_text cluster full start end = cluster ++ (codes "/" ++ (time_text full ++ (codes " start=" ++ (time_text start ++ (codes " end=" ++ time_text end)))))

-- a layer of a chain, from its start to its end
abbrev pub link_text : Time × Time → List ℕ
link_text link = time_text link.0 ++ (codes "-" ++ time_text link.1)

-- further layers of a chain, each after a comma
abbrev pub links_text : List (Time × Time) → List ℕ
links_text [] = []
links_text (link ∷ links) = (codes "," ++ link_text link) ++ links_text links

-- the layers of a chain, with commas
abbrev pub chain_text : List (Time × Time) → List ℕ
chain_text [] = []
chain_text (link ∷ links) = link_text link ++ links_text links

-- the line of a restored table: its old id, its new id and its name
abbrev pub restored_text : RestoredTable → List ℕ
restored_text t = codes "  " ++ (decimal t.old ++ (codes " -> " ++ (decimal t.new ++ (codes " " ++ (t.table.0 ++ (codes "." ++ (t.table.1 ++ codes "\n")))))))

abbrev pub tables_text : List RestoredTable → List ℕ
tables_text [] = []
tables_text (t ∷ ts) = restored_text t ++ tables_text ts

-- the line of a subdirectory: its cluster and its time
abbrev pub subdirectory_text : List ℕ × Time → List ℕ
subdirectory_text d = codes "  " ++ (d.0 ++ (codes "/" ++ (time_text d.1 ++ codes "\n")))

abbrev pub subdirectories_text : List (List ℕ × Time) → List ℕ
subdirectories_text [] = []
subdirectories_text (d ∷ ds) = subdirectory_text d ++ subdirectories_text ds

-- ---- answers

-- the one line of an answer, and the first where others follow
abbrev pub first_line : Answer → List ℕ
first_line Nothing = []
first_line Plain = codes "ok\n"
first_line (ClockSet now) = codes "ok now=" ++ (time_text now ++ codes "\n")
first_line (TableMade table at) = codes "ok table=" ++ (decimal table ++ (codes " at=" ++ (time_text at ++ codes "\n")))
first_line (TableChanged table version at) = codes "ok table=" ++ (decimal table ++ (codes " version=" ++ (decimal version ++ (codes " at=" ++ (time_text at ++ codes "\n")))))
first_line (RowsWritten rows at) = codes "ok rows=" ++ (decimal rows ++ (codes " at=" ++ (time_text at ++ codes "\n")))
first_line (RangeDeleted at) = codes "ok at=" ++ (time_text at ++ codes "\n")
first_line (ThresholdRaised threshold) = codes "ok threshold=" ++ (time_text threshold ++ codes "\n")
first_line (RowsShown rows) = codes "ok rows=" ++ (decimal (length rows) ++ codes "\n")
first_line (BackupDone job cluster full start end entries chunks) =
    codes "ok job=" ++ (decimal job ++ (codes " state=done layer=" ++ (layer_text cluster full start end
    ++ (codes " entries=" ++ (decimal entries ++ (codes " chunks=" ++ (decimal chunks ++ codes "\n")))))))
first_line (RestoreDone job time at rows chain tables) =
    codes "ok job=" ++ (decimal job ++ (codes " state=done time=" ++ (time_text time ++ (codes " at=" ++ (time_text at ++ (codes " rows=" ++ (decimal rows
    ++ (codes " chain=" ++ (chain_text chain ++ codes "\n")))))))))
first_line (BackupsShown subdirectories) = codes "ok backups=" ++ (decimal (length subdirectories) ++ codes "\n")

-- the lines that follow: of rows, of restored tables, of subdirectories
abbrev pub more_lines : Answer → List ℕ
more_lines (RowsShown rows) = rows_text rows
more_lines (RestoreDone job time at rows chain tables) = tables_text tables
more_lines (BackupsShown subdirectories) = subdirectories_text subdirectories
more_lines answer = []

-- the lines of an answer
abbrev pub answer_text : Answer → List ℕ
answer_text answer = first_line answer ++ more_lines answer

-- what a command is answered in all
unfoldable pub reply_text : Response → List ℕ
reply_text (Refused refusal) = refusal_text refusal
reply_text (Answered answer) = answer_text answer

abbrev pub refusal_of : Response → Option Refusal
refusal_of (Refused refusal) = Some refusal
refusal_of (Answered answer) = None
