-- What holds of a result where it is Ok, taken further.
use Rattle.std.proofs.Common.{◌≡◌, false, refl}
use Rattle.std.specs.Prelude.{Result, Ok, Err, OnOk, IfOk, is_err}

pub on_ok : {A E : Type 0} {P Q : Type 0} (r : Result A E) → OnOk r P → (P → Q) → OnOk r Q
on_ok (Ok a) p f = f p
on_ok (Err e) p f = tt

pub if_ok : {A E : Type 0} {P Q : A → Type 0} (r : Result A E) → IfOk r P → ((a : A) → P a → Q a) → IfOk r Q
if_ok (Ok a) p f = f a p
if_ok (Err e) p f = tt

-- what holds where the code's test finds no error
pub ok_then : {A E : Type 0} {P : Type 0} (r : Result A E) → (is_err r ≡ false → P) → OnOk r P
ok_then (Ok a) f = f refl
ok_then (Err e) f = tt
