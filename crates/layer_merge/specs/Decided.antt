-- Whether the first entry that counts is shown.
use Rattle.std.specs.Prelude.{◌≡◌, List, Option, None}
use Rattle.mvcc_keys.specs.Times.{Time}
use Rattle.mvcc_keys.specs.declared.entries.Entry.{Entry}
use Rattle.layer_merge.specs.Nexts.{IsCover}
use Rattle.version_store.specs.Tables.{bytes_cmp}
use Rattle.version_store.specs.Lists.{facts_of}
use Rattle.layer_merge.specs.Rows.{shown_of}

-- a put is shown unless one of these range deletions hides it; a deletion isn't
abbrev pub IsDecided : List Entry → Time → Entry → Option Entry → Type 0
IsDecided rs upto (Entry.Put key at value) r = (c : Option Time) × (IsCover bytes_cmp key upto (facts_of rs) c × (r ≡ shown_of c (Entry.Put key at value)))
IsDecided rs upto (Entry.Del key at) r = r ≡ None
IsDecided rs upto (Entry.Range lo hi at) r = r ≡ None
