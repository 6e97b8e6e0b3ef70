-- A text is read as a source just where it is that source's text.
use Rattle.std.proofs.Common.{◌≡◌, ℕ, Bool, true, false, List, [], ◌∷◌, ◌++◌, take, drop, Option, Some, None, refl, sym, ◌∙◌, arith, if◌then◌else◌}
use Rattle.std.specs.List.{take_while, list_all}
use Rattle.std.proofs.Math.Seq.{take-append_seam, drop-append_seam}
use Rattle.std.proofs.lemmas.Bool.Decides.{nat_tests}
use Rattle.std.proofs.lemmas.List.{take-append-drop}
use Rattle.std.proofs.lemmas.List.Sums.{take_while-cons}
use Rattle.mvcc_keys.specs.Times.{Time, IsTime}
use Rattle.mvcc_keys.specs.TimeTexts.{TimesAreExact, time_text}
use Rattle.table_descriptors.specs.Names.{is_name, is_name_text, is_name_byte, name_of}
use Rattle.script_grammar.specs.declared.backups.Src.TheVariants.{Named}
use Rattle.script_grammar.specs.Parts.{is_no_slash, slash_at, time_after, named_source, source_text, SourcesAreExact}
use Rattle.table_descriptors.proofs.Ascii.{name_of-some}

bytes_have_none : (bs : List ℕ) → list_all is_name_byte bs ≡ true → list_all is_no_slash bs ≡ true
bytes_have_none [] h = refl
bytes_have_none (b ∷ bs) h =
    let more : list_all is_no_slash bs ≡ true = bytes_have_none bs (grind (arith, nat_tests)) in
    grind (arith, nat_tests)

text_has_none : (bs : List ℕ) → is_name_text bs ≡ true → list_all is_no_slash bs ≡ true
text_has_none [] h = refl
text_has_none (b ∷ bs) h =
    let more : list_all is_no_slash bs ≡ true = bytes_have_none bs (grind (arith, nat_tests)) in
    grind (arith, nat_tests)

name_has_none : (bs : List ℕ) → is_name bs ≡ true → list_all is_no_slash bs ≡ true
unfolding is_name
name_has_none bs h = text_has_none bs (grind (arith, nat_tests))

take_while-slash : (w r : List ℕ) → list_all is_no_slash w ≡ true → take_while is_no_slash (w ++ 47 ∷ r) ≡ w
take_while-slash [] r h = take_while-cons is_no_slash 47 r
take_while-slash (x ∷ w) r h =
    let parts : (is_no_slash x ≡ true) × (list_all is_no_slash w ≡ true) = grind (arith, nat_tests) in
    rw (take_while-cons is_no_slash x (w ++ 47 ∷ r), parts.0, take_while-slash w r parts.1) refl

source-found : TimesAreExact → (cluster : List ℕ) (full : Time) → is_name cluster ≡ true → IsTime full → source_text (cluster ++ 47 ∷ time_text full) ≡ Some (Named cluster full)
unfolding source_text
source-found times cluster full name is =
    let r = 47 ∷ time_text full in
    rw (take_while-slash cluster (time_text full) (name_has_none cluster name), take-append_seam cluster r, drop-append_seam cluster r, name, times.found full is) refl

-- what begins with a slash, or is empty
abbrev IsAfter : List ℕ → Type 0
IsAfter [] = Unit {0}
IsAfter (b ∷ bs) = b ≡ 47

rest-after : (s : List ℕ) → IsAfter (drop (slash_at s) s)
rest-after [] = tt
rest-after (b ∷ bs) = go (rest-after bs) (is_no_slash b) refl
  where
    go : IsAfter (drop (slash_at bs) bs) → (x : Bool) → is_no_slash b ≡ x → IsAfter (drop (slash_at (b ∷ bs)) (b ∷ bs))
    go again true e = rw (take_while-cons is_no_slash b bs, e) again
    go again false e = rw (take_while-cons is_no_slash b bs, e) (grind (arith, nat_tests))

both : (o : Option (List ℕ)) (p : Option Time) (c : List ℕ) (f : Time) → named_source o p ≡ Some (Named c f) → (o ≡ Some c) × (p ≡ Some f)
both (Some x) (Some t) c f e = (cc, cc)
both (Some x) None c f e = cc
both None p c f e = cc

parted : TimesAreExact → (s a r cluster : List ℕ) (full : Time) → a ++ r ≡ s → IsAfter r → (a ≡ cluster) → time_after r ≡ Some full → IsTime full × (s ≡ cluster ++ 47 ∷ time_text full)
parted times s a [] cluster full split after same e = cc
parted times s a (b ∷ text) cluster full split after same e =
    let only = times.only text full e in
    (only.0, sym split ∙ rw (same, after, only.1) refl)

source-only : TimesAreExact → (s cluster : List ℕ) (full : Time) → source_text s ≡ Some (Named cluster full) → (is_name cluster ≡ true) × IsTime full × (s ≡ cluster ++ 47 ∷ time_text full)
unfolding source_text
source-only times s cluster full e =
    let parts = both (name_of (take (slash_at s) s)) (time_after (drop (slash_at s) s)) cluster full e in
    let name = name_of-some (take (slash_at s) s) cluster parts.0 in
    let rest = parted times s (take (slash_at s) s) (drop (slash_at s) s) cluster full (take-append-drop (slash_at s) s) (rest-after s) name.1 parts.1 in
    (name.0, rest.0, rest.1)

pub sources_exact : TimesAreExact → SourcesAreExact
sources_exact times = record { found = source-found times; only = source-only times }
