-- Names of objects: how they are spelled, and how they are read. Everything about layers stands on them.
use Rattle.std.specs.Prelude.{◌≡◌, ◌≢◌, ℕ, ◌+◌, ◌-◌, ◌*◌, ◌/◌, ◌%◌, ◌^◌, ◌<◌, Bool, true, not, ◌&&◌, ◌||◌, ◌==◌, nat_lt, nat_le, if◌then◌else◌, List, [], ◌∷◌, ◌++◌, length, drop, slice_index, codes, Option, Some, None, option_map}
use Rattle.std.specs.List.{list_all, take_while}
use Rattle.std.specs.Result.{result_ok}
use Rattle.std.specs.Str.{bytes_eq}
use Rattle.hex.specs.Hex.{decode_sized, encode_lower}
use Rattle.mvcc_keys.specs.Codes.{bytes32, number32, read_time_bytes, time_bytes}
use Rattle.mvcc_keys.specs.TimeTexts.{are_digits}
use Rattle.mvcc_keys.specs.Times.{Time, IsTime}
use Rattle.table_descriptors.specs.Names.{is_name, name_of}
use Rattle.layer_model.specs.declared.names.LayerName.{LayerName}
use Rattle.layer_model.specs.declared.names.ObjectName.{ObjectName}
use Rattle.layer_model.specs.declared.names.Part.{Part}
use Rattle.layer_model.specs.declared.names.Part.TheVariants.{Gate, Manifest, Chunk, Mark}
use Rattle.layer_model.specs.declared.reading.Numbers.{Numbers}
use Rattle.list_laws.specs.Options.{◌>>=◌}

-- ---- spelling

-- a time in 24 lower-case hexadecimal digits, two for each of its 12 bytes
abbrev pub time_digits : Time → List ℕ
time_digits t = encode_lower (time_bytes t)

-- a job in 8 such digits
abbrev pub job_digits : ℕ → List ℕ
job_digits n = encode_lower (bytes32 n)

-- the last decimal digit of a number
abbrev pub last_digit : ℕ → ℕ
last_digit n = 48 + n % 10

-- the last six decimal digits
unfoldable pub six_digits : ℕ → List ℕ
six_digits n = last_digit (n / 100000) ∷ last_digit (n / 10000) ∷ last_digit (n / 1000) ∷ last_digit (n / 100) ∷ last_digit (n / 10) ∷ last_digit n ∷ []

-- `gate`, `manifest`, `c` and six digits for a chunk, `m` and six digits for its mark
unfoldable pub part_text : Part → List ℕ
part_text Gate = codes "gate"
part_text Manifest = codes "manifest"
part_text (Chunk n) = 99 ∷ six_digits n
part_text (Mark n) = 109 ∷ six_digits n

-- <collection>.<cluster>.<full>.<start>.<end>.<job>.<part>
unfoldable pub object_name : LayerName → Part → List ℕ
object_name n part = n.collection ++ 46 ∷ (n.cluster ++ 46 ∷ (time_digits n.full ++ 46 ∷ (time_digits n.start ++ 46 ∷ (time_digits n.end ++ 46 ∷ (job_digits n.job ++ 46 ∷ part_text part)))))

-- a chunk or a mark is numbered below 1,000,000
abbrev pub IsNumbered : Part → Type 0
IsNumbered Gate = Unit {0}
IsNumbered Manifest = Unit {0}
IsNumbered (Chunk n) = n < 1000000
IsNumbered (Mark n) = n < 1000000

-- what holds of the name of every layer
pub record IsLayerName (n : LayerName) : Type 0 where
  pub collection : is_name n.collection ≡ true
  pub cluster : is_name n.cluster ≡ true
  pub full : IsTime n.full
  pub start : IsTime n.start
  pub end : IsTime n.end
  pub job : n.job < 2 ^ 32

-- ---- reading

abbrev pub is_no_point : ℕ → Bool
is_no_point b = not (b == 46)

-- the bytes before the first point, and those after it
unfoldable pub read_word : List ℕ → Option (List ℕ × List ℕ)
read_word b =
    if nat_lt (length (take_while is_no_point b)) (length b)
    then Some (take_while is_no_point b, drop 1 (drop (length (take_while is_no_point b)) b))
    else None

-- a hexadecimal digit in lower case
abbrev pub is_lower_digit : ℕ → Bool
is_lower_digit b = (nat_le 48 b && nat_le b 57) || (nat_le 97 b && nat_le b 102)

-- the n bytes that lower-case digits write
unfoldable pub read_hex : ℕ → List ℕ → Option (List ℕ)
read_hex n digits = if list_all is_lower_digit digits then result_ok (decode_sized digits n) else None

-- the time that 24 digits write: its counter is at most 2147483647
unfoldable pub read_time : List ℕ → Option Time
read_time digits = read_hex 12 digits >>= (λ bytes. option_map (λ p. p.0) (read_time_bytes bytes))

-- the number that 8 digits write
unfoldable pub read_job : List ℕ → Option ℕ
read_job digits = option_map number32 (read_hex 4 digits)

-- the value of a decimal digit
abbrev pub digit_value : ℕ → ℕ
digit_value b = b - 48

-- the number that six decimal digits write
unfoldable pub read_six : List ℕ → Option ℕ
read_six ds =
    if length ds == 6 && are_digits ds
    then Some (100000 * digit_value (slice_index ds 0) + 10000 * digit_value (slice_index ds 1) + 1000 * digit_value (slice_index ds 2) + 100 * digit_value (slice_index ds 3) + 10 * digit_value (slice_index ds 4) + digit_value (slice_index ds 5))
    else None

-- a chunk or a mark
abbrev pub read_numbered : List ℕ → Option Part
read_numbered [] = None
read_numbered (b ∷ ds) = if b == 99 then option_map Chunk (read_six ds) else if b == 109 then option_map Mark (read_six ds) else None

unfoldable pub read_part : List ℕ → Option Part
read_part text =
    if bytes_eq text (codes "gate") then Some Gate
    else if bytes_eq text (codes "manifest") then Some Manifest
    else read_numbered text

-- a time, a point, and what follows
unfoldable pub read_time_field : List ℕ → Option (Time × List ℕ)
read_time_field b = do
  word ← read_word b
  t ← read_time word.0
  Some (t, word.1)

-- a job, a point, and what follows
unfoldable pub read_job_field : List ℕ → Option (ℕ × List ℕ)
read_job_field b = do
  word ← read_word b
  job ← read_job word.0
  Some (job, word.1)

-- what follows the collection and the cluster
unfoldable pub read_numbers : List ℕ → Option Numbers
read_numbers b = do
  full ← read_time_field b
  start ← read_time_field full.1
  end ← read_time_field start.1
  job ← read_job_field end.1
  part ← read_part job.1
  Some (record { full = full.0; start = start.0; end = end.0; job = job.0; part = part })

-- an object, by its collection, its cluster and its numbers
abbrev pub object_of : List ℕ → List ℕ → Numbers → ObjectName
object_of collection cluster n = record { layer = record { collection = collection; cluster = cluster; full = n.full; start = n.start; end = n.end; job = n.job }; part = n.part }

-- the object whose name a text is
unfoldable pub read_name : List ℕ → Option ObjectName
read_name text = do
  first ← read_word text
  second ← read_word first.1
  numbers ← read_numbers second.1
  collection ← name_of first.0
  cluster ← name_of second.0
  Some (object_of collection cluster numbers)

-- what holds of the name of every object
pub record IsObjectName (n : ObjectName) : Type 0 where
  pub layer : IsLayerName n.layer
  pub part : IsNumbered n.part

-- a text is the name of an object
abbrev pub NamesObject : List ℕ → Type 0
NamesObject text = (n : ObjectName) × IsObjectName n × (text ≡ object_name n.layer n.part)

-- A text is the name of an object of this cluster.
pub record IsOwnName (cluster : List ℕ) (text : List ℕ) : Type 0 where
  pub object : ObjectName
  pub form : IsObjectName object
  pub own : object.layer.cluster ≡ cluster
  pub spelled : text ≡ object_name object.layer object.part

-- a text is the name of this object, or of no object
abbrev pub IsNameOf : List ℕ → Option ObjectName → Type 0
IsNameOf text (Some n) = IsObjectName n × (text ≡ object_name n.layer n.part)
IsNameOf text None = (n : ObjectName) → IsObjectName n → text ≢ object_name n.layer n.part

-- What is read of a text is the one object whose name it is, and a text that is no object's name is read as none.
pub record NamesAreExact : Type 0 where
  pub found : (n : ObjectName) → IsObjectName n → read_name (object_name n.layer n.part) ≡ Some n
  pub only : (text : List ℕ) (n : ObjectName) → read_name text ≡ Some n → IsObjectName n × (text ≡ object_name n.layer n.part)

-- different objects have different names
abbrev pub NamesDiffer : Type 0
NamesDiffer = (m n : ObjectName) → IsObjectName m → IsObjectName n → object_name m.layer m.part ≡ object_name n.layer n.part → m ≡ n
