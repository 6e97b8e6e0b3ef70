-- The items of a descriptor in their order, and which place is the first fault of bytes that are no descriptor.
use Rattle.std.specs.Prelude.{◌≡◌, ℕ, zero, suc, ◌<◌, ◌≤◌, ◌^◌, Bool, true, false, List, [], ◌∷◌, ◌++◌}
use Rattle.key_encoding.specs.Spelling.{uvarint}
use Rattle.mvcc_keys.specs.Times.{Time, IsTime}
use Rattle.mvcc_keys.specs.Codes.{time_bytes}
use Rattle.row_codec.specs.FirstFaults.{Grammar, Over, Item, FaultsAreFirst}
use Rattle.row_codec.specs.RowValues.{sized}
use Rattle.row_codec.specs.declared.rows.Kind.{Kind}
use Rattle.table_descriptors.specs.declared.columns.Column.{Column}
use Rattle.table_descriptors.specs.declared.columns.State.{State}
use Rattle.table_descriptors.specs.Names.{is_name}
use Rattle.table_descriptors.specs.Fields.{flag_code}
use Rattle.table_descriptors.specs.Descriptors.{column_id, has_column, has_id, is_column, is_upright, last_key}
use Rattle.table_descriptors.specs.DescriptorFiles.{form_code, has_key, has_to_descend, kind_code, read_descriptor, state_code}

-- ---- lists

-- so many values, each after those before it
abbrev pub times : {X : Type 0} → ℕ → (List X → (X → Grammar) → Grammar) → List X → (List X → Grammar) → Grammar
times zero one before next = next before
times (suc n) one before next = one before (λ x. times n one (before ++ x ∷ []) next)

-- a number under a condition, and so many values
abbrev pub counted : {X : Type 0} → (ℕ → Type 0) → (ℕ → List X → (X → Grammar) → Grammar) → (List X → Grammar) → Grammar
counted P one next = Item P uvarint (λ n. times n (one n) [] next)

-- ---- items

-- a number of 32 bits
abbrev pub number : (ℕ → Grammar) → Grammar
number = Item (λ (n : ℕ). n < 2 ^ 32) uvarint

-- a number of 32 bits from 1
abbrev pub number_from_one : (ℕ → Grammar) → Grammar
number_from_one = Item (λ (n : ℕ). (0 < n) × (n < 2 ^ 32)) uvarint

abbrev pub name_item : (List ℕ → Grammar) → Grammar
name_item = Item (λ (name : List ℕ). is_name name ≡ true) sized

abbrev pub time_item : (Time → Grammar) → Grammar
time_item = Item IsTime time_bytes

abbrev pub flag_item : (Bool → Grammar) → Grammar
flag_item = Item (λ (flag : Bool). Unit {0}) (λ flag. flag_code flag ∷ [])

-- 01, or 02 where each key column comes with its direction
abbrev pub form_item : (Bool → Grammar) → Grammar
form_item = Item (λ (descends : Bool). Unit {0}) (λ descends. form_code descends ∷ [])

abbrev pub state_item : (State → Grammar) → Grammar
state_item = Item (λ (state : State). Unit {0}) (λ state. state_code state ∷ [])

-- a column after others: a greater id, a new name, a kind
abbrev pub column_items : List Column → (Column → Grammar) → Grammar
column_items before next =
    Item (λ (id : ℕ). (id < 2 ^ 32) × (last_key column_id before < id)) uvarint (λ id.
    Item (λ (name : List ℕ). (is_name name ≡ true) × (has_column name before ≡ false)) sized (λ name.
    Item (λ (kind : Kind). is_upright kind ≡ true) (λ kind. kind_code kind ∷ []) (λ kind. next (record { id = id; name = name; kind = kind }))))

-- where some key column descends, a flag: the last descends if none before it does
abbrev pub direction_item : Bool → Bool → (Bool → Grammar) → Grammar
direction_item true has_to next = Item (λ (down : Bool). has_to ≡ true → down ≡ true) (λ down. flag_code down ∷ []) next
direction_item false has_to next = next false

-- a key column after others: the id of another column, and its direction
abbrev pub key_items : Bool → List Column → ℕ → List (ℕ × Bool) → (ℕ × Bool → Grammar) → Grammar
key_items descends columns count before next =
    Item (λ (id : ℕ). (id < 2 ^ 32) × (is_column id columns ≡ true) × (has_key id before ≡ false)) uvarint (λ id.
    direction_item descends (has_to_descend count before) (λ down. next (id, down)))

-- the id of another table
abbrev pub reference_item : List ℕ → (ℕ → Grammar) → Grammar
reference_item before = Item (λ (id : ℕ). (id < 2 ^ 32) × (has_id id before ≡ false)) uvarint

-- above the ids of the columns
abbrev pub next_item : List Column → (ℕ → Grammar) → Grammar
next_item columns = Item (λ (next : ℕ). (next < 2 ^ 32) × (last_key column_id columns < next)) uvarint

-- ---- descriptors

-- form; id; version, from 1; name of the database; name; state; 1 to 64 columns; at least one key column; references; next column id,
-- above those of the columns; date
abbrev pub descriptor_grammar : Grammar
descriptor_grammar =
    form_item (λ descends. number (λ id. number_from_one (λ version. name_item (λ database. name_item (λ name. state_item (λ state.
    counted (λ n. (0 < n) × (n ≤ 64)) (λ n. column_items) (λ columns.
    counted (λ n. (0 < n) × (n < 2 ^ 64)) (key_items descends columns) (λ keys.
    counted (λ n. n < 2 ^ 64) (λ n. reference_item) (λ references.
    next_item columns (λ next. time_item (λ date. Over)))))))))))

-- bytes that are no descriptor are refused where their first fault is
abbrev pub DescriptorFaultsAreFirst : Type 0
DescriptorFaultsAreFirst = FaultsAreFirst descriptor_grammar read_descriptor
