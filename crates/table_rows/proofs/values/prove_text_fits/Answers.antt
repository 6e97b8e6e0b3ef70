use Rattle.std.proofs.lemmas.Str.{is_utf8-from_IsUtf8}
use Rattle.table_rows.proofs.values.prove_text_fits.Goals as goal

pub returns : goal.returns
returns c = record { text = is_utf8-from_IsUtf8 c.args.s.now c.utf8.s }
