use Rattle.std.proofs.Common.{◌≡◌, ℕ, true, inl, inr, refl, ap}
use Rattle.std.specs.Prelude.{string_bytes}
use Rattle.std.specs.Global.{Vec}
use Rattle.std.specs.Str.{is_utf8}
use Rattle.std.proofs.lemmas.Bool.{cases_Bool}
use Rattle.std.proofs.lemmas.Str.{IsUtf8-string_bytes, IsUtf8-from_is_utf8, is_utf8-from_IsUtf8}
use Rattle.row_codec.proofs.keys.text_of.Goals as goal

pub returns-in-Ok : goal.returns-in-Ok
returns-in-Ok c =
    let same : string_bytes c.in-Ok.text ≡ c.args.bytes.items = ap (λ (v : Vec ℕ). v.items) c.in-Ok.ensures.ok in
    let yes : is_utf8 c.args.bytes.items ≡ true = rw same at (is_utf8-from_IsUtf8 (string_bytes c.in-Ok.text) (IsUtf8-string_bytes c.in-Ok.text)) in
    rw (yes, c.from_string.ensures, same) refl

pub returns : goal.returns
returns c = elim (cases_Bool (is_utf8 c.args.bytes.items)) [ inr f ↦ rw f refl | inl t ↦ let both = c.in-Err.ensures.succeeds (IsUtf8-from_is_utf8 c.args.bytes.items t) in absurd (cc) ]
