-- What is said of a call's answer, by whether it is Ok.
use Rattle.std.proofs.Common.{◌≡◌, true, false, Result, Ok, Err, OnOk, OnErr, sym, true≢false}
use Rattle.std.specs.Result.{is_err}

pub on-any : {T E : Type 0} (r : Result T E) (P : Type 0) → P → OnErr r P
on-any (Ok x) P p = tt
on-any (Err e) P p = p

pub on-err : {T E : Type 0} (r : Result T E) (P : Type 0) → is_err r ≡ true → OnErr r P → P
on-err (Ok x) P e p = absurd (true≢false (sym e))
on-err (Err x) P e p = p

pub on-ok : {T E : Type 0} (r : Result T E) (P : Type 0) → is_err r ≡ false → OnOk r P → P
on-ok (Ok x) P e p = p
on-ok (Err x) P e p = absurd (true≢false e)

pub ok-follows : {T E : Type 0} (r : Result T E) (P Q : Type 0) → (P → Q) → OnOk r P → OnOk r Q
ok-follows (Ok x) P Q f p = f p
ok-follows (Err e) P Q f p = tt

pub err-follows : {T E : Type 0} (r : Result T E) (P Q : Type 0) → (P → Q) → OnErr r P → OnErr r Q
err-follows (Ok x) P Q f p = tt
err-follows (Err e) P Q f p = f p

pub either : {T E : Type 0} (r : Result T E) (P Q X : Type 0) → (P → X) → (Q → X) → OnOk r P → OnErr r Q → X
either (Ok x) P Q X f g p q = f p
either (Err e) P Q X f g p q = g q
