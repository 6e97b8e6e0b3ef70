-- Keys of versions as they are stored.
use Rattle.std.specs.Prelude.{ℕ, List}
use Rattle.mvcc_keys.specs.declared.entries.Entry.{Entry}

-- the key of a put or of a deletion, the first key of a range deletion
abbrev pub key_of : Entry → List ℕ
key_of (Entry.Put key at value) = key
key_of (Entry.Del key at) = key
key_of (Entry.Range lo hi at) = lo

-- the key of a put or of a deletion, the end of a range deletion
abbrev pub end_of : Entry → List ℕ
end_of (Entry.Put key at value) = key
end_of (Entry.Del key at) = key
end_of (Entry.Range lo hi at) = hi
