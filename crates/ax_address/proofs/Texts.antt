-- The texts of a call, and what they are read as.
use Rattle.std.proofs.Common.{◌≡◌, ◌≤◌, ◌<◌, ◌+◌, ◌++◌, ◌∙◌, ℕ, suc, refl, sym, ap, subst, inl, inr, List, [], ◌∷◌, length, take, drop, arith, Bool, true, false, cond, append-nil}
use Rattle.std.specs.Prelude.{◌==◌, ◌⊎◌, Option, Some, None, Result, Ok, Err, nat_lt, not, position, codes, unwrap_or, All}
use Rattle.std.specs.List.{prefix_len, AllByRecursion}
use Rattle.std.specs.Fmt.{decimal}
use Rattle.std.proofs.lemmas.List.{take_all, take_at, drop_at, take-append-drop}
use Rattle.std.proofs.lemmas.List.Sums.{prefix_len-le-length}
use Rattle.std.proofs.lemmas.List.Elements.{recursion_from_All}
use Rattle.std.proofs.lemmas.Bool.Decides.{nat_tests}
use Rattle.std.proofs.lemmas.Fmt.{decimal_digit}
use Rattle.ax_address.specs.declared.call.CallRefusal.{CallRefusal}
use Rattle.ax_address.specs.declared.call.CallRefusal.TheVariants.{Empty, TooLong}
use Rattle.ax_address.specs.Callsign.{Callsign, IsCallsign, IsCallChar, is_call_char, name_in, padded, suffix, shown, IsTextOf, ReadsCallTexts, name_end, fits_six, name_at, ssid_at, suffix_of, call_at}
use Rattle.ax_address.proofs.Names.{name_in-padded, padded_is_call, no_bad}
use Rattle.ax_address.proofs.Suffixes.{ssid_of_takes, ssid_of-decimal}
use Rattle.ax_address.specs.Results.{◌>>=◌}

pub bind_ok : {A B : Type 0} (r : Result A CallRefusal) (f : A → Result B CallRefusal) (y : B) → (r >>= f) ≡ Ok y → (x : A) × (r ≡ Ok x) × (f x ≡ Ok y)
bind_ok (Ok x) f y e = (x, refl, e)
bind_ok (Err d) f y e = absurd cc

-- ---- where the name ends

abbrev goes_on : ℕ → Bool
goes_on b = not (b == 45)

end_is : (k n : ℕ) (b : Bool) → nat_lt k n ≡ b → k ≤ n → unwrap_or (cond b (Some k) None) n ≡ k
end_is k n true e h = refl
end_is k n false e h = grind (arith, nat_tests)

name_end_is : (text : List ℕ) → name_end text ≡ prefix_len goes_on text
name_end_is text = end_is (prefix_len goes_on text) (length text) (nat_lt (prefix_len goes_on text) (length text)) refl (prefix_len-le-length goes_on text)

ends_step : (b : ℕ) (bs : List ℕ) (t : Bool) → (b == 45) ≡ t
    → ((drop (prefix_len goes_on bs) bs ≡ []) ⊎ ((more : List ℕ) × (drop (prefix_len goes_on bs) bs ≡ 45 ∷ more)))
    → (drop (cond (not t) (1 + prefix_len goes_on bs) 0) (b ∷ bs) ≡ []) ⊎ ((more : List ℕ) × (drop (cond (not t) (1 + prefix_len goes_on bs) 0) (b ∷ bs) ≡ 45 ∷ more))
ends_step b bs true e ih = let k : b ≡ 45 = grind (arith, nat_tests) in inr (bs, ap (λ c. c ∷ bs) k)
ends_step b bs false e ih = let next : 1 + prefix_len goes_on bs ≡ suc (prefix_len goes_on bs) = omega arith in rw next ih

-- behind the name stands nothing, or a hyphen
ends : (text : List ℕ) → (drop (prefix_len goes_on text) text ≡ []) ⊎ ((more : List ℕ) × (drop (prefix_len goes_on text) text ≡ 45 ∷ more))
ends [] = inl refl
ends (b ∷ bs) = ends_step b bs (b == 45) refl (ends bs)

char_goes_on : (b : ℕ) → IsCallChar b → goes_on b ≡ true
char_goes_on b h = grind (arith, nat_tests)

name_then : (name rest : List ℕ) → AllByRecursion IsCallChar name → prefix_len goes_on (name ++ rest) ≡ length name + prefix_len goes_on rest
name_then [] rest h = omega arith
name_then (b ∷ bs) rest h = rw (char_goes_on b h.0) (let ih = name_then bs rest h.1 in omega (arith, ih))

-- ---- the name

name_takes_step : (name x : List ℕ) (o : Option ℕ) (b : Bool) → position (λ b. not (is_call_char b)) (take 6 name) ≡ o → nat_lt 6 (length name) ≡ b → fits_six name o ≡ Ok x → (x ≡ name) × (length name ≤ 6) × All IsCallChar name
name_takes_step name x (Some at) b e t h = absurd cc
name_takes_step name x None true e t h = absurd (let k : fits_six name None ≡ Err (TooLong 6) = rw t refl in cc)
name_takes_step name x None false e t h =
    let k : fits_six name None ≡ Ok name = rw t refl in
    let six : length name ≤ 6 = grind (arith, nat_tests) in
    (cc, six, no_bad name six e)

name_takes : (name x : List ℕ) (b : Bool) → (length name == 0) ≡ b → name_at name ≡ Ok x → (x ≡ name) × (0 < length name) × (length name ≤ 6) × All IsCallChar name
name_takes name x true t h = absurd (let k : name_at name ≡ Err Empty = rw t refl in cc)
name_takes name x false t h =
    let k : fits_six name (position (λ b. not (is_call_char b)) (take 6 name)) ≡ Ok x = rw t at h in
    let s = name_takes_step name x (position (λ b. not (is_call_char b)) (take 6 name)) (nat_lt 6 (length name)) refl refl k in
    (s.0, grind (arith, nat_tests), s.1, s.2)

passes : (name : List ℕ) → AllByRecursion IsCallChar name → prefix_len (λ b. not (not (is_call_char b))) name ≡ length name
passes [] h = refl
passes (b ∷ bs) h = let k : is_call_char b ≡ true = grind (arith, h.0) in rw (k, passes bs h.1) (omega arith)

none_found : (k n : ℕ) → k ≡ n → cond (nat_lt k n) (Some k) None ≡ None
none_found k n e = grind (arith, nat_tests)

name_again : (name : List ℕ) → AllByRecursion IsCallChar name → 0 < length name → length name ≤ 6 → name_at name ≡ Ok name
name_again name h some six =
    let some' : (length name == 0) ≡ false = grind (arith, nat_tests) in
    let six' : nat_lt 6 (length name) ≡ false = grind (arith, nat_tests) in
    let all : take 6 name ≡ name = take_all 6 name six in
    let none : position (λ b. not (is_call_char b)) name ≡ None = none_found (prefix_len (λ b. not (not (is_call_char b))) name) (length name) (passes name h) in
    let none' : position (λ b. not (is_call_char b)) (take 6 name) ≡ None = rw all none in
    rw (some', none', six') refl

-- ---- the whole text

read_parts : (name rest : List ℕ) (ssid : ℕ) → AllByRecursion IsCallChar name → 0 < length name → length name ≤ 6 → prefix_len goes_on rest ≡ 0 → suffix_of rest ≡ Some ssid → call_at (name ++ rest) ≡ Ok (record { letters = padded name; ssid = ssid })
unfolding call_at
read_parts name rest ssid chars some six stops is =
    let end : name_end (name ++ rest) ≡ length name = name_end_is (name ++ rest) ∙ (name_then name rest chars ∙ omega (arith, stops)) in
    rw (end, take_at name rest (length name) refl, drop_at name rest (length name) refl, name_again name chars some six, is) refl

suffix_is : (ssid : ℕ) (b : Bool) → (ssid == 0) ≡ b → ssid ≤ 15 → (prefix_len goes_on (cond b [] (45 ∷ decimal ssid)) ≡ 0) × (suffix_of (cond b [] (45 ∷ decimal ssid)) ≡ Some ssid)
suffix_is ssid true e h = let k : ssid ≡ 0 = grind (arith, nat_tests) in (refl, ap Some (sym k))
suffix_is ssid false e h = (refl, ssid_of-decimal ssid h)

of_padded : (c : Callsign) → IsCallsign c.letters c.ssid → (record { letters = padded (name_in c.letters); ssid = c.ssid }) ≡ c
of_padded c h = ap (λ ls. record c { letters = ls }) (sym h.spaces)

hyphen_then : (ssid : ℕ) (b : Bool) → (ssid == 0) ≡ b → (rest : List ℕ) → rest ≡ 45 ∷ decimal ssid → (rest ≡ cond b [] (45 ∷ decimal ssid)) ⊎ ((ssid ≡ 0) × (rest ≡ codes "-0"))
hyphen_then ssid true e rest is =
    let z : ssid ≡ 0 = grind (arith, nat_tests) in
    inr (z, is ∙ ap (λ ds. 45 ∷ ds) (ap decimal z ∙ decimal_digit 0 (omega arith)))
hyphen_then ssid false e rest is = inl is

-- what stands behind the name shows the SSID, and for SSID 0 may be -0
rest_is : (rest : List ℕ) (ssid : ℕ) → (rest ≡ []) ⊎ ((more : List ℕ) × (rest ≡ 45 ∷ more)) → suffix_of rest ≡ Some ssid → (ssid ≤ 15) × ((rest ≡ suffix ssid) ⊎ ((ssid ≡ 0) × (rest ≡ codes "-0")))
rest_is rest ssid (inl e) h = let k : suffix_of [] ≡ Some ssid = rw e at h in let z : 0 ≡ ssid = cc in (rw (← z) (omega arith), inl (rw (e, ← z) refl))
rest_is rest ssid (inr (more, e)) h =
    let k : suffix_of (45 ∷ more) ≡ Some ssid = rw e at h in
    let t = ssid_of_takes more ssid k in
    (t.0, hyphen_then ssid (ssid == 0) refl rest (e ∙ ap (λ ds. 45 ∷ ds) t.1))

text_is : (name rest : List ℕ) (ssid : ℕ) → AllByRecursion IsCallChar name → (rest ≡ suffix ssid) ⊎ ((ssid ≡ 0) × (rest ≡ codes "-0")) → IsTextOf (record { letters = padded name; ssid = ssid }) (name ++ rest)
text_is name rest ssid chars (inl e) = inl (rw (e, name_in-padded name chars) refl)
text_is name rest ssid chars (inr (z, e)) = inr (z, rw (e, z, name_in-padded name chars) (ap (λ n. n ++ codes "-0") (sym (append-nil name))))

ssid_takes : (end ssid : ℕ) (o : Option ℕ) → ssid_at end o ≡ Ok ssid → o ≡ Some ssid
ssid_takes end ssid (Some n) h = let k : n ≡ ssid = cc in ap Some k
ssid_takes end ssid None h = absurd cc

read_takes : (text : List ℕ) (c : Callsign) → call_at text ≡ Ok c → IsCallsign c.letters c.ssid × IsTextOf c text
unfolding call_at
read_takes text c e =
    let end = name_end text in
    let a = bind_ok (name_at (take end text)) (λ name. ssid_at end (suffix_of (drop end text)) >>= λ ssid. Ok (record { letters = padded name; ssid = ssid })) c e in
    let b = bind_ok (ssid_at end (suffix_of (drop end text))) (λ ssid. Ok (record { letters = padded a.0; ssid = ssid })) c a.2 in
    let name = name_takes (take end text) a.0 (length (take end text) == 0) refl a.1 in
    let chars : All IsCallChar a.0 = rw name.0 name.3 in
    let rest = rest_is (drop end text) b.0 (rw (name_end_is text) (ends text)) (ssid_takes end b.0 (suffix_of (drop end text)) b.1) in
    let call : record { letters = padded a.0; ssid = b.0 } ≡ c = cc in
    let whole : a.0 ++ drop end text ≡ text = ap (λ n. n ++ drop end text) name.0 ∙ take-append-drop end text in
    let is_call = padded_is_call a.0 b.0 chars (rw name.0 name.1) (rw name.0 name.2) rest.0 in
    let texts = text_is a.0 (drop end text) b.0 (recursion_from_All IsCallChar a.0 chars) rest.1 in
    subst (λ (d : Callsign). IsCallsign d.letters d.ssid × IsTextOf d text) call (is_call, subst (λ (t : List ℕ). IsTextOf (record { letters = padded a.0; ssid = b.0 }) t) whole texts)

zero_is : (c : Callsign) → c.ssid ≡ 0 → shown c ≡ name_in c.letters
zero_is c z = rw z (append-nil (name_in c.letters))

read_again : (text : List ℕ) (c : Callsign) → IsCallsign c.letters c.ssid → IsTextOf c text → call_at text ≡ Ok c
read_again text c h (inl e) =
    let rest = suffix_is c.ssid (c.ssid == 0) refl h.small in
    ap call_at e ∙ (read_parts (name_in c.letters) (suffix c.ssid) c.ssid h.chars h.some h.six rest.0 rest.1 ∙ ap Ok (of_padded c h))
read_again text c h (inr (z, e)) =
    let plain : text ≡ name_in c.letters ++ codes "-0" = e ∙ ap (λ n. n ++ codes "-0") (zero_is c z) in
    let zero_ssid : suffix_of (codes "-0") ≡ Some c.ssid = rw z refl in
    ap call_at plain ∙ (read_parts (name_in c.letters) (codes "-0") c.ssid h.chars h.some h.six refl zero_ssid ∙ ap Ok (of_padded c h))

-- a text is read as a call exactly where it is one of that call's texts
pub reads_call_texts : ReadsCallTexts
reads_call_texts text c = (read_takes text c, λ h. read_again text c h.0 h.1)
