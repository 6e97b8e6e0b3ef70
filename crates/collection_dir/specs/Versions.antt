-- A manifest in version 1: the same without bounds. Finishing a layer accepts it beside version 2.
use Rattle.std.specs.Prelude.{None, map}
use Rattle.layer_manifest.specs.declared.manifest.ChunkInfo.{ChunkInfo}
use Rattle.layer_manifest.specs.declared.manifest.TablePart.{TablePart}
use Rattle.layer_manifest.specs.declared.manifest.Manifest.{Manifest}

abbrev pub first_chunk : ChunkInfo → ChunkInfo
first_chunk c = record { entries = c.entries; length = c.length; digest = c.digest; bounds = None }

abbrev pub first_table : TablePart → TablePart
first_table t = record { id = t.id; introduced = t.introduced; descriptors = t.descriptors; chunks = map first_chunk t.chunks }

unfoldable pub first_version : Manifest → Manifest
first_version m = record {
  cluster = m.cluster;
  job = m.job;
  full = m.full;
  start = m.start;
  end = m.end;
  floor = m.floor;
  history = m.history;
  scope = m.scope;
  tables = map first_table m.tables;
  version = 1;
}
