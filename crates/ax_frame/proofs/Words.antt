-- What the words of reading mean for what they answer.
use Rattle.std.proofs.Common.{◌≡◌, ◌<◌, ◌+◌, ◌∙◌, ℕ, zero, suc, refl, sym, ap, subst, List, [], ◌∷◌, drop, get_or, arith, Bool, true, false, cond}
use Rattle.std.specs.Prelude.{Some, Result, Ok, Err, slice_get}
use Rattle.std.specs.List.{find, AllByRecursion}
use Rattle.ax_address.specs.Results.{◌>>=◌}
use Rattle.ax_frame.specs.declared.control.Control.{Control}
use Rattle.ax_frame.specs.declared.frame.FrameRefusal.{FrameRefusal}

pub bind_ok : {A B : Type 0} (r : Result A FrameRefusal) (f : A → Result B FrameRefusal) (y : B) → (r >>= f) ≡ Ok y → (x : A) × (r ≡ Ok x) × (f x ≡ Ok y)
bind_ok (Ok x) f y e = (x, refl, e)
bind_ok (Err d) f y e = absurd cc

find_step : (P : Control → Type 0) (test : Control → Bool) (x : Control) (xs : List Control) (c : Control) (b : Bool) → test x ≡ b → (AllByRecursion P xs → find test xs ≡ Some c → P c × (test c ≡ true)) → AllByRecursion P (x ∷ xs) → cond b (Some x) (find test xs) ≡ Some c → P c × (test c ≡ true)
find_step P test x xs c true t ih h e = let k : x ≡ c = cc in (subst P k h.0, ap test (sym k) ∙ t)
find_step P test x xs c false t ih h e = ih h.1 e

-- what is found passes the test, and is one of the list
pub find_has : (P : Control → Type 0) (test : Control → Bool) (xs : List Control) (c : Control) → AllByRecursion P xs → find test xs ≡ Some c → P c × (test c ≡ true)
find_has P test [] c h e = absurd cc
find_has P test (x ∷ xs) c h e = find_step P test x xs c (test x) refl (find_has P test xs c) h e

-- ---- octets from a place on

pub get_at_drop : (n k : ℕ) (bytes : List ℕ) → slice_get bytes (n + k) ≡ slice_get (drop n bytes) k
get_at_drop zero k bytes = ap (slice_get bytes) (omega arith)
get_at_drop (suc n) k [] = refl
get_at_drop (suc n) k (b ∷ bs) = let next : suc n + k ≡ suc (n + k) = omega arith in rw next (get_at_drop n k bs)

abbrev pub IsBytes : List ℕ → Type 0
IsBytes bytes = (i : ℕ) → get_or bytes i 0 < 256
