-- Addresses in a frame.
use Rattle.std.proofs.Common.{◌≡◌, ◌≤◌, ◌<◌, ◌+◌, ◌-◌, ◌*◌, ◌%◌, ◌++◌, ◌∙◌, ℕ, zero, suc, refl, sym, ap, List, [], ◌∷◌, length, replicate, map, take, drop, get_or, arith, Bool, true, false, cond}
use Rattle.std.specs.Prelude.{◌==◌, None, Ok, Err, nat_lt}
use Rattle.std.specs.List.{AllByRecursion, flat_map}
use Rattle.std.proofs.Math.Seq.{take-add}
use Rattle.std.proofs.lemmas.List.{take-take, get_or-take, get_or-drop, get_or_at, length-append, length-map, length-replicate, append_assoc, append-nil, drop-drop, length-drop}
use Rattle.std.proofs.lemmas.Bool.Decides.{nat_tests}
use Rattle.ax_address.specs.declared.address.Address.{Address}
use Rattle.ax_address.specs.Callsign.{IsCallsign, name_in}
use Rattle.ax_address.specs.Octets.{SpellsAddress, ssid_octet, address_octets, address_fault, fault_in}
use Rattle.ax_frame.specs.declared.frame.FrameRefusal.{FrameRefusal}
use Rattle.ax_frame.specs.declared.frame.FrameRefusal.TheVariants.{BadCall, TooManyRepeaters}
use Rattle.ax_frame.specs.Frames.{IsAddress, addresses_octets}
use Rattle.ax_frame.specs.Parts.{SpellsLast}
use Rattle.ax_frame.specs.Reading.{extension_at, addresses_end, head_end}

pub six_letters : (letters : List ℕ) (ssid : ℕ) → IsCallsign letters ssid → length letters ≡ 6
six_letters letters ssid h =
    let n = length (name_in letters) in
    ap length h.spaces ∙ omega (arith, length-append (name_in letters) (replicate (6 - n) 32), length-replicate {A = ℕ} (6 - n) 32, h.six)

even_or_odd : (b : Bool) (r s : ℕ) (l : Bool) → ((cond b 128 0 + 32 * r + 2 * s + cond l 1 0) % 2 == 1) ≡ l
even_or_odd true r s true = grind (arith, nat_tests)
even_or_odd true r s false = grind (arith, nat_tests)
even_or_odd false r s true = grind (arith, nat_tests)
even_or_odd false r s false = grind (arith, nat_tests)

-- the seventh octet tells the extension bit
pub extension_is : (a : Address) (last : Bool) (octets : List ℕ) → SpellsAddress a last octets → (get_or octets 6 0 % 2 == 1) ≡ last
extension_is a last octets h =
    let len : length (map (λ b. 2 * b) a.call.letters) ≡ 6 = length-map a.call.letters (λ b. 2 * b) ∙ six_letters a.call.letters a.call.ssid h.is_call in
    let seventh : get_or octets 6 0 ≡ ssid_octet a last = ap (λ os. get_or os 6 0) h.spelled ∙ get_or_at (map (λ b. 2 * b) a.call.letters) (ssid_octet a last) [] 0 6 len in
    ap (λ o. o % 2 == 1) seventh ∙ even_or_odd a.bit7 a.reserved a.call.ssid last

-- what seven octets from a place on give
pub judged_ok : (at : ℕ) (bytes rest octets : List ℕ) (a : Address) (last : Bool) → at ≤ length bytes → rest ≡ drop at bytes → 7 ≤ length rest → octets ≡ take 7 rest → SpellsAddress a last octets → None ≡ address_fault octets → extension_at at bytes ≡ Ok last
judged_ok at bytes rest octets a last within rest-is long octets-is spells none =
    let none' : address_fault (drop at bytes) ≡ None = ap address_fault (sym rest-is) ∙ (ap fault_in (sym (take-take 6 7 rest (omega arith))) ∙ (ap address_fault (sym octets-is) ∙ sym none)) in
    let long'' : 7 ≤ length (drop at bytes) = rw (← rest-is) long in
    let long' : nat_lt (length bytes) (at + 7) ≡ false = let k : at + 7 ≤ length bytes = omega (arith, length-drop at bytes) in grind (arith, nat_tests) in
    let seventh : get_or octets 6 0 ≡ get_or bytes (at + 6) 0 = ap (λ os. get_or os 6 0) (octets-is ∙ ap (take 7) rest-is) ∙ (get_or-take 7 (drop at bytes) 6 0 (omega arith) ∙ get_or-drop at bytes 6 0) in
    let bit : (get_or bytes (at + 6) 0 % 2 == 1) ≡ last = ap (λ o. o % 2 == 1) (sym seventh) ∙ extension_is a last octets spells in
    rw (none', long', bit) refl

-- ---- one address after the other

-- addresses from a place on, none of which is the last
pub record SpellsFirst (at : ℕ) (bytes : List ℕ) (many : List Address) : Type 0 where
  pub within : at + 7 * length many ≤ length bytes
  pub calls : AllByRecursion IsAddress many
  pub spelled : take (7 * length many) (drop at bytes) ≡ flat_map (λ a. address_octets a false) many

all_snoc : (many : List Address) (a : Address) → AllByRecursion IsAddress many → IsAddress a → AllByRecursion IsAddress (many ++ a ∷ [])
all_snoc [] a h k = (k, tt)
all_snoc (b ∷ bs) a h k = (h.0, all_snoc bs a h.1 k)

last_snoc : (many : List Address) (a : Address) → addresses_octets (many ++ a ∷ []) ≡ flat_map (λ b. address_octets b false) many ++ address_octets a true
last_snoc [] a = refl
last_snoc (b ∷ []) a = ap (λ os. os ++ address_octets a true) (sym (append-nil (address_octets b false)))
last_snoc (b ∷ c ∷ more) a = ap (λ os. address_octets b false ++ os) (last_snoc (c ∷ more) a) ∙ sym (append_assoc (address_octets b false) (flat_map (λ d. address_octets d false) (c ∷ more)) (address_octets a true))

first_snoc : (many : List Address) (a : Address) → flat_map (λ b. address_octets b false) (many ++ a ∷ []) ≡ flat_map (λ b. address_octets b false) many ++ address_octets a false
first_snoc [] a = append-nil (address_octets a false)
first_snoc (b ∷ bs) a = ap (λ os. address_octets b false ++ os) (first_snoc bs a) ∙ sym (append_assoc (address_octets b false) (flat_map (λ c. address_octets c false) bs) (address_octets a false))

one_more : (many : List Address) (a : Address) → length (many ++ a ∷ []) ≡ length many + 1
one_more many a = omega (arith, length-append {A = Address} many (a ∷ []))

-- the octets of one address more
grown : (at : ℕ) (bytes : List ℕ) (many : List Address) (a : Address) → take (7 * length (many ++ a ∷ [])) (drop at bytes) ≡ take (7 * length many) (drop at bytes) ++ take 7 (drop (at + 7 * length many) bytes)
grown at bytes many a =
    let n = length many in
    let len : 7 * length (many ++ a ∷ []) ≡ 7 * n + 7 = omega (arith, one_more many a) in
    ap (λ k. take k (drop at bytes)) len ∙ (take-add (7 * n) 7 (drop at bytes) ∙ ap (λ os. take (7 * n) (drop at bytes) ++ take 7 os) (drop-drop (7 * n) at bytes))

pub first_more : (at next : ℕ) (bytes : List ℕ) (many : List Address) (a : Address) → SpellsFirst at bytes many → next ≡ at + 7 * length many → next + 7 ≤ length bytes → SpellsAddress a false (take 7 (drop next bytes)) → SpellsFirst at bytes (many ++ a ∷ [])
first_more at next bytes many a h e within spells = record {
  within = omega (arith, one_more many a, e);
  calls = all_snoc many a h.calls spells.is_call;
  spelled = grown at bytes many a ∙ (ap (λ os. os ++ take 7 (drop (at + 7 * length many) bytes)) h.spelled ∙ (ap (λ os. flat_map (λ b. address_octets b false) many ++ os) (ap (λ k. take 7 (drop k bytes)) (sym e) ∙ spells.spelled) ∙ sym (first_snoc many a)));
}

pub last_more : (at next : ℕ) (bytes : List ℕ) (many : List Address) (a : Address) → SpellsFirst at bytes many → next ≡ at + 7 * length many → next + 7 ≤ length bytes → SpellsAddress a true (take 7 (drop next bytes)) → SpellsLast at bytes (many ++ a ∷ [])
last_more at next bytes many a h e within spells = record {
  some = omega (arith, one_more many a);
  within = omega (arith, one_more many a, e);
  calls = all_snoc many a h.calls spells.is_call;
  spelled = grown at bytes many a ∙ (ap (λ os. os ++ take 7 (drop (at + 7 * length many) bytes)) h.spelled ∙ (ap (λ os. flat_map (λ b. address_octets b false) many ++ os) (ap (λ k. take 7 (drop k bytes)) (sym e) ∙ spells.spelled) ∙ sym (last_snoc many a)));
}

-- ---- where the addresses end

pub end_refused : (left at : ℕ) (bytes : List ℕ) (e : FrameRefusal) → 0 < left → extension_at at bytes ≡ Err e → addresses_end left at bytes ≡ Err e
unfolding addresses_end
end_refused zero at bytes e some h = absurd (omega arith)
end_refused (suc n) at bytes e some h = rw h refl

pub end_here : (left at : ℕ) (bytes : List ℕ) → 0 < left → extension_at at bytes ≡ Ok true → addresses_end left at bytes ≡ Ok (at + 7)
unfolding addresses_end
end_here zero at bytes some h = absurd (omega arith)
end_here (suc n) at bytes some h = rw h refl

pub end_later : (left at : ℕ) (bytes : List ℕ) → 0 < left → extension_at at bytes ≡ Ok false → addresses_end left at bytes ≡ addresses_end (left - 1) (at + 7) bytes
unfolding addresses_end
end_later zero at bytes some h = absurd (omega arith)
end_later (suc n) at bytes some h = rw h (ap (λ k. addresses_end k (at + 7) bytes) (omega arith))

pub end_nowhere : (left at : ℕ) (bytes : List ℕ) → left ≡ 0 → addresses_end left at bytes ≡ Err TooManyRepeaters
unfolding addresses_end
end_nowhere zero at bytes h = refl
end_nowhere (suc n) at bytes h = absurd (omega arith)

-- ---- the head

pub head_refused : (bytes : List ℕ) (e : FrameRefusal) → extension_at 0 bytes ≡ Err e → head_end bytes ≡ Err e
unfolding head_end
head_refused bytes e h = rw h refl

pub head_ended : (bytes : List ℕ) → extension_at 0 bytes ≡ Ok true → head_end bytes ≡ Err (BadCall 6)
unfolding head_end
head_ended bytes h = rw h refl

pub head_goes_on : (bytes : List ℕ) → extension_at 0 bytes ≡ Ok false → head_end bytes ≡ addresses_end 9 7 bytes
unfolding head_end
head_goes_on bytes h = rw h refl

with_source : (d s : Address) (path : List Address) → 0 < length path → addresses_octets (d ∷ s ∷ path) ≡ address_octets d false ++ (address_octets s false ++ addresses_octets path)
with_source d s [] some = absurd (omega arith)
with_source d s (r ∷ more) some = refl

pub two_spelled : (bytes : List ℕ) (d s : Address) → SpellsAddress d false (take 7 (drop 0 bytes)) → SpellsAddress s true (take 7 (drop 7 bytes)) → take 14 bytes ≡ address_octets d false ++ address_octets s true
two_spelled bytes d s h k = take-add 7 7 bytes ∙ (ap (λ os. os ++ take 7 (drop 7 bytes)) h.spelled ∙ ap (λ os. address_octets d false ++ os) k.spelled)

pub more_spelled : (bytes : List ℕ) (d s : Address) (path : List Address) (n : ℕ) → n ≡ 14 + 7 * length path → SpellsAddress d false (take 7 (drop 0 bytes)) → SpellsAddress s false (take 7 (drop 7 bytes)) → SpellsLast 14 bytes path → take n bytes ≡ addresses_octets (d ∷ s ∷ path)
more_spelled bytes d s path n e h k p =
    let ends : take n bytes ≡ take 14 bytes ++ take (7 * length path) (drop 14 bytes) = ap (λ m. take m bytes) e ∙ take-add 14 (7 * length path) bytes in
    let two : take 14 bytes ≡ address_octets d false ++ address_octets s false = take-add 7 7 bytes ∙ (ap (λ os. os ++ take 7 (drop 7 bytes)) h.spelled ∙ ap (λ os. address_octets d false ++ os) k.spelled) in
    ends ∙ (ap (λ os. os ++ take (7 * length path) (drop 14 bytes)) two ∙ (ap (λ os. (address_octets d false ++ address_octets s false) ++ os) p.spelled ∙ (append_assoc (address_octets d false) (address_octets s false) (addresses_octets path) ∙ sym (with_source d s path p.some))))
