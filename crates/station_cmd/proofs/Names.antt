-- The name of a file, slash by slash.
use Rattle.std.proofs.Common.{◌≡◌, ◌<◌, ◌+◌, ℕ, suc, List, [], ◌∷◌, Bool, true, false, refl, sym, ap, length, drop, ◌∙◌, arith}
use Rattle.std.specs.Prelude.{◌==◌, if◌then◌else◌}
use Rattle.std.specs.List.{after_first, position_or_len}
use Rattle.station_cmd.specs.Files.{name_from}

abbrev pub is_slash : ℕ → Bool
is_slash b = b == 47

plain_case : (b : ℕ) (name bs : List ℕ) (test : Bool) → (b == 47) ≡ test
    → (position_or_len is_slash bs ≡ length bs → name_from name bs ≡ name)
    → position_or_len is_slash (b ∷ bs) ≡ length (b ∷ bs) → name_from name (b ∷ bs) ≡ name
plain_case b name bs true is rest e = absurd (omega (arith, rw is at e))
plain_case b name bs false is rest e =
    let more : position_or_len is_slash bs ≡ length bs = omega (arith, rw is at e) in
    rw is (rest more)

-- where no slash stands it is the whole
pub plain_name : (name bs : List ℕ) → position_or_len is_slash bs ≡ length bs → name_from name bs ≡ name
plain_name name [] e = refl
plain_name name (b ∷ bs) e = plain_case b name bs (b == 47) refl (plain_name name bs) e

-- what stands behind more of them
skips : (b : ℕ) (bs : List ℕ) (k : ℕ) → drop (1 + k + 1) (b ∷ bs) ≡ drop (k + 1) bs
skips b bs k = let e : 1 + k + 1 ≡ suc (k + 1) = omega arith in ap (λ n. drop n (b ∷ bs)) e

behind_case : (b : ℕ) (name bs : List ℕ) (test : Bool) → (b == 47) ≡ test
    → (position_or_len is_slash bs < length bs → name_from name bs ≡ name_from (after_first is_slash bs) (after_first is_slash bs))
    → position_or_len is_slash (b ∷ bs) < length (b ∷ bs)
    → name_from name (b ∷ bs) ≡ name_from (after_first is_slash (b ∷ bs)) (after_first is_slash (b ∷ bs))
behind_case b name bs true is rest h = rw is refl
behind_case b name bs false is rest h =
    let more : position_or_len is_slash bs < length bs = omega (arith, rw is at h) in
    let here : name_from name (b ∷ bs) ≡ name_from name bs = ap (λ t. if t then name_from bs bs else name_from name bs) is in
    let there : after_first is_slash (b ∷ bs) ≡ after_first is_slash bs = rw is (skips b bs (position_or_len is_slash bs)) in
    here ∙ (rest more ∙ sym (ap (λ r. name_from r r) there))

-- else it is the one of what stands behind the first slash
pub name_behind : (name bs : List ℕ) → position_or_len is_slash bs < length bs
    → name_from name bs ≡ name_from (after_first is_slash bs) (after_first is_slash bs)
name_behind name [] h = absurd (omega (arith, h))
name_behind name (b ∷ bs) h = behind_case b name bs (b == 47) refl (name_behind name bs) h
