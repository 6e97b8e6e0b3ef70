-- What borrowed values and cells are.
use Rattle.row_codec.specs.declared.rows.Cell.{Cell}
use Rattle.row_codec.specs.declared.rows.Datum.{Datum}
use Rattle.row_codec.specs.declared.rows.Datum.TheVariants.{Int, Text, Bytes, Bool as Truth}
use Rattle.row_codec.specs.declared.values.CellView.{CellView}
use Rattle.row_codec.specs.declared.values.DatumView.{DatumView}
use Rattle.row_codec.specs.declared.values.DatumView.TheVariants.{Int as IntView, Text as TextView, Bytes as BytesView, Bool as TruthView}

abbrev pub seen : DatumView → Datum
seen (IntView n) = Int n
seen (TextView t) = Text t.now
seen (BytesView b) = Bytes b.now
seen (TruthView b) = Truth b

abbrev pub seen_cell : CellView → Cell
seen_cell c = record { column = c.column; datum = seen c.datum }
