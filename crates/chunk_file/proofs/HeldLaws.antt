-- Where the entries of a chunk begin in its bytes.
use Rattle.std.proofs.Common.{◌≡◌, ℕ, nat_eq, true, false, ◌+◌, ◌-◌, ◌<◌, ◌≤◌, List, [], ◌∷◌, ◌++◌, length, drop, Some, None, arith, refl, sym, ap, ◌∙◌, append_assoc, append-nil, length-append}
use Rattle.std.specs.List.{AllByRecursion}
use Rattle.std.proofs.lemmas.Bool.Decides.{nat_tests}
use Rattle.std.proofs.lemmas.List.{drop_at}
use Rattle.mvcc_keys.specs.declared.entries.Entry.{Entry}
use Rattle.mvcc_keys.specs.declared.entries.EntryView.{EntryView}
use Rattle.row_codec.specs.declared.rows.Kind.{Kind}
use Rattle.row_codec.proofs.KeyLaws.{pair_parts, some_is}
use Rattle.chunk_file.specs.declared.checks.Head.{Head}
use Rattle.chunk_file.specs.Entries.{IsStored, entries_code, entry_code, listed, read_entry, seen}
use Rattle.chunk_file.specs.Chunks.{chunk_bytes, head_code}
use Rattle.chunk_file.specs.Held.{Begins, IsEntryStart, IsHead, IsHeld, left_at, left_from}
use Rattle.chunk_file.proofs.EntryLaws.{entries-append, entries-fit, entry-found, entry-takes, listed-found, none-read}

-- the bytes of a chunk after some offset
after_front : (b : List ℕ) (first : ℕ) (es : List Entry) → b ≡ chunk_bytes es → first ≡ length (head_code es) → drop first b ≡ entries_code es
unfolding chunk_bytes
after_front b first es whole place = rw whole (drop_at (head_code es) (entries_code es) first (sym place))

spelled_fit : (b : List ℕ) (es : List Entry) → b ≡ chunk_bytes es → length (head_code es) + length (entries_code es) ≡ length b
unfolding chunk_bytes
spelled_fit b es whole = rw whole (sym (length-append (head_code es) (entries_code es)))

pub held-is : (table : ℕ) (kinds : List Kind) (b : List ℕ) (h : Head) (es : List Entry) → IsHead table kinds b h es → listed (length b) (drop h.first b) ≡ es
held-is table kinds b h es head =
    let fits : length es ≤ length b = omega (arith, entries-fit es, spelled_fit b es head.spelled.bytes) in
    ap (listed (length b)) (after_front b h.first es head.spelled.bytes head.place) ∙ listed-found es (length b) head.spelled.stored fits

-- ---- the walk

-- what stands at an offset where entries begin
pub record StandsAt (b : List ℕ) (offset : ℕ) (left : List Entry) : Type 0 where
  pub rest : drop offset b ≡ entries_code left
  pub length_is : offset + length (entries_code left) ≡ length b
  pub stored : AllByRecursion IsStored left

stored-after : (es ds : List Entry) → AllByRecursion IsStored (es ++ ds) → AllByRecursion IsStored ds
stored-after [] ds h = h
stored-after (e ∷ es) ds h = stored-after es ds h.1

pub stands-at : (b : List ℕ) (first offset : ℕ) (es left : List Entry) → IsHeld b first es → Begins es offset left → StandsAt b offset left
unfolding chunk_bytes
stands-at b first offset es left held at =
    let front = head_code es ++ entries_code at.before in
    let code : entries_code es ≡ entries_code at.before ++ entries_code left = ap entries_code at.whole ∙ entries-append at.before left in
    let whole : b ≡ front ++ entries_code left = held.bytes ∙ (ap (λ t. head_code es ++ t) code ∙ sym (append_assoc (head_code es) (entries_code at.before) (entries_code left))) in
    let place : length front ≡ offset = length-append (head_code es) (entries_code at.before) ∙ sym at.place in
    let len : length b ≡ length front + length (entries_code left) = ap (λ (t : List ℕ). length t) whole ∙ length-append front (entries_code left) in
    record {
      rest = rw whole (drop_at front (entries_code left) offset place);
      length_is = omega (arith, place, len);
      stored = stored-after at.before left (rw at.whole at held.stored);
    }

left_from-is : (before left : List Entry) (at offset : ℕ) → offset ≡ at + length (entries_code before) → left_from at (before ++ left) offset ≡ left
left_from-is [] [] at offset e = refl
left_from-is [] (d ∷ ds) at offset e = let here : nat_eq offset at ≡ true = grind (arith, nat_tests) in rw here refl
left_from-is (d ∷ ds) left at offset e =
    let split = length-append (entry_code d) (entries_code ds) in
    let takes = entry-takes d (entries_code ds) in
    let later : at < offset = omega (arith, e, takes) in
    let apart : nat_eq offset at ≡ false = grind (arith, nat_tests) in
    rw apart (left_from-is ds left (at + length (entry_code d)) offset (omega (arith, e, split)))

pub left-is : (es left : List Entry) (offset : ℕ) → Begins es offset left → left_at es offset ≡ left
unfolding left_at
left-is es left offset at = ap (λ ds. left_from (length (head_code es)) ds offset) at.whole ∙ left_from-is at.before left (length (head_code es)) offset at.place

pub first-starts : (es : List Entry) (first : ℕ) → first ≡ length (head_code es) → Begins es first es
first-starts es first place = record { before = []; whole = refl; place = omega (arith, place) }

-- an entry was taken: it is the first that is left, and the others begin after it
pub record IsStep (es : List Entry) (offset : ℕ) (v : EntryView) (rest : List ℕ) (next end : ℕ) : Type 0 where
  pub entry : left_at es offset ≡ seen v ∷ left_at es next
  pub start : IsEntryStart es next
  pub later : offset < next
  pub within : next ≤ end
  pub fits : length rest ≤ end

step_is : (es left : List Entry) (offset next end : ℕ) (e : Entry) (v : EntryView) (rest : List ℕ) → Begins es offset (e ∷ left) → e ≡ seen v → next ≡ offset + length (entry_code e) → 0 < length (entry_code e) → next ≤ end → length rest ≤ end → IsStep es offset v rest next end
step_is es left offset next end e v rest at is place takes within fits =
    let one : length (entries_code (e ∷ [])) ≡ length (entry_code e) = ap (λ (t : List ℕ). length t) (append-nil (entry_code e)) in
    let more : length (entries_code (at.before ++ e ∷ [])) ≡ length (entries_code at.before) + length (entries_code (e ∷ [])) =
    ap (λ (t : List ℕ). length t) (entries-append at.before (e ∷ [])) ∙ length-append (entries_code at.before) (entries_code (e ∷ [])) in
    let after : Begins es next left = record { before = at.before ++ e ∷ []; whole = at.whole ∙ sym (append_assoc at.before (e ∷ []) left); place = omega (arith, at.place, one, more, place) } in
    record {
      entry = left-is es (e ∷ left) offset at ∙ (ap (λ d. d ∷ left) is ∙ ap (λ ds. seen v ∷ ds) (sym (left-is es left next after)));
      start = (left, after);
      later = omega (arith, place, takes);
      within = within;
      fits = fits;
    }

pub took : (b : List ℕ) (first offset next : ℕ) (es left : List Entry) (v : EntryView) (rest : List ℕ) → IsHeld b first es → Begins es offset left → read_entry (drop offset b) ≡ Some (seen v, rest) → next ≡ length b - length rest
    → IsStep es offset v rest next (length b) × (offset < length b)
took b first offset next es [] v rest held at read is =
    let stands = stands-at b first offset es [] held at in
    let none = rw (stands.rest, none-read) at read in absurd (cc)
took b first offset next es (e ∷ left) v rest held at read is =
    let stands = stands-at b first offset es (e ∷ left) held at in
    let found = sym (entry-found e (entries_code left) stands.stored.0) ∙ (ap read_entry (sym stands.rest) ∙ read) in
    let parts = pair_parts (e, entries_code left) (seen v, rest) (some_is (e, entries_code left) (seen v, rest) found) in
    let split = length-append (entry_code e) (entries_code left) in
    let takes = entry-takes e (entries_code left) in
    let others : length rest ≡ length (entries_code left) = ap (λ (t : List ℕ). length t) (sym parts.1) in (
      step_is es left offset next (length b) e v rest at parts.0 (omega (arith, is, others, split, stands.length_is)) (omega (arith, split, takes)) (omega (arith, is)) (omega (arith, stands.length_is, others, split)),
      omega (arith, stands.length_is, takes),
    )

-- no entry was taken: none is left, and the bytes end
pub took-none : (b : List ℕ) (first offset : ℕ) (es left : List Entry) → IsHeld b first es → Begins es offset left → read_entry (drop offset b) ≡ None → (left_at es offset ≡ []) × (offset ≡ length b)
took-none b first offset es [] held at read = let stands = stands-at b first offset es [] held at in (left-is es [] offset at, omega (arith, stands.length_is))
took-none b first offset es (e ∷ left) held at read =
    let stands = stands-at b first offset es (e ∷ left) held at in
    let found = sym (entry-found e (entries_code left) stands.stored.0) ∙ (ap read_entry (sym stands.rest) ∙ read) in absurd (cc)
