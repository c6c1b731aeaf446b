-- What is spelled is read, and what is written spells it.
use Rattle.std.proofs.Common.{◌≡◌, ◌+◌, ◌≤◌, ◌++◌, ◌∙◌, ℕ, refl, sym, ap, List, [], ◌∷◌, length, take, drop, Some, None, Result, Ok, Err, Bool, true, false, cond, arith}
use Rattle.std.specs.Prelude.{◌&&◌, ◌==◌}
use Rattle.std.specs.Int.{w64, to_be_bytes, from_be_bytes}
use Rattle.std.proofs.lemmas.Bool.Decides.{nat_tests}
use Rattle.std.proofs.lemmas.Nat.{from_be_bytes-to_be_bytes_8}
use Rattle.std.proofs.lemmas.List.{take_at, length-append}
use Rattle.std.proofs.Math.Seq.{drop-append-add}
use Rattle.ax_address.specs.Callsign.{Callsign}
use Rattle.ax_address.specs.Octets.{SpellsNetCall, SpelledNetCallIsRead, WrittenNetCallSpellsIt, net_call_at, net_call_octets}
use Rattle.ax_address.specs.declared.address_refusal.AddressRefusal.{AddressRefusal}
use Rattle.l3_datagram.proofs.Spelling.{seven}
use Rattle.node_mail.specs.Wires.{Wire, Carries, Receipt, IsNumber, IsText, Spells, SpellsNumber, SpelledWireIsRead, WrittenWireSpellsIt, is_number, is_mail_size, carried, mail_at, receipt_at, wire_at, wire_octets}

number_is : (n : ℕ) → IsNumber n → is_number n ≡ true
number_is n h = let a = h.some in let b = h.most in grind (arith, nat_tests, a, b)

number_back : (n : ℕ) → IsNumber n → from_be_bytes w64 (to_be_bytes w64 n) ≡ n
number_back n h = let m = h.most in from_be_bytes-to_be_bytes_8 n (omega (arith, m))

-- the parts behind the first octet, of which the first has eight octets
module _ (a b text : List ℕ) (eight : length a ≡ 8) (sevens : length b ≡ 7) where
  pub front : take 8 (a ++ (b ++ text)) ≡ a
  front = take_at a (b ++ text) 8 eight

  behind : drop 8 (a ++ (b ++ text)) ≡ b ++ text
  behind = ap (λ k. drop (k + 0) (a ++ (b ++ text))) (sym eight) ∙ drop-append-add a (b ++ text) 0

  pub middle : take 7 (drop 8 (a ++ (b ++ text))) ≡ b
  middle = ap (take 7) behind ∙ take_at b text 7 sevens

  pub rest_of : drop 15 (a ++ (b ++ text)) ≡ text
  rest_of = ap (λ k. drop (k + 7) (a ++ (b ++ text))) (sym eight) ∙ (drop-append-add a (b ++ text) 7 ∙ (ap (λ k. drop (k + 0) (b ++ text)) (sym sevens) ∙ drop-append-add b text 0))

  pub size : length (a ++ (b ++ text)) ≡ 15 + length text
  size = omega (arith, length-append a (b ++ text), length-append b text, eight, sevens)

-- a mail by its parts
mail_read : (rest bytes call text : List ℕ) (n : ℕ) (to : Callsign) → take 8 rest ≡ bytes → from_be_bytes w64 bytes ≡ n → take 7 (drop 8 rest) ≡ call → drop 15 rest ≡ text
    → is_mail_size (length rest) ≡ true → is_number n ≡ true → net_call_at call ≡ Ok to → mail_at rest ≡ Some (Carries n to text)
mail_read rest bytes call text n to e8 en ec et es ei er =
    let eb : from_be_bytes w64 (take 8 rest) ≡ n = ap (from_be_bytes w64) e8 ∙ en in
    ap (λ b. cond (b && is_number (from_be_bytes w64 (take 8 rest))) (carried (from_be_bytes w64 (take 8 rest)) (drop 15 rest) (net_call_at (take 7 (drop 8 rest)))) None) es
    ∙ (ap (λ k. cond (is_number k) (carried k (drop 15 rest) (net_call_at (take 7 (drop 8 rest)))) None) eb
    ∙ (ap (λ b. cond b (carried n (drop 15 rest) (net_call_at (take 7 (drop 8 rest)))) None) ei
    ∙ (ap (λ t. carried n t (net_call_at (take 7 (drop 8 rest)))) et
    ∙ (ap (λ c. carried n text (net_call_at c)) ec ∙ ap (carried n text) er))))

receipt_read : (rest : List ℕ) (n : ℕ) → length rest ≡ 8 → from_be_bytes w64 rest ≡ n → is_number n ≡ true → receipt_at rest ≡ Some (Receipt n)
receipt_read rest n el en ei =
    ap (λ k. cond ((k == 8) && is_number (from_be_bytes w64 rest)) (Some (Receipt (from_be_bytes w64 rest))) None) el
    ∙ (ap (λ k. cond (is_number k) (Some (Receipt k)) None) en ∙ ap (λ b. cond b (Some (Receipt n)) None) ei)

mail_size_is : (n : ℕ) → 16 ≤ n → n ≤ 1039 → is_mail_size n ≡ true
mail_size_is n a b = grind (arith, nat_tests, a, b)

pub spelled_is_read : SpelledNetCallIsRead → SpelledWireIsRead
unfolding wire_at
spelled_is_read read (Carries n to text) octets h =
    let rest : List ℕ = h.digits ++ (h.call ++ text) in
    let eight = h.spells_number.eight in
    let sevens = seven to h.call h.spells_call in
    let long = size h.digits h.call text eight sevens in
    let is_read : mail_at rest ≡ Some (Carries n to text) =
    mail_read rest h.digits h.call text n to (front h.digits h.call text eight sevens) h.spells_number.value (middle h.digits h.call text eight sevens) (rest_of h.digits h.call text eight sevens)
    (mail_size_is (length rest) (omega (arith, long, h.is_text.some)) (omega (arith, long, h.is_text.most))) (number_is n h.spells_number.is_number) (read to h.call h.spells_call) in
    ap wire_at h.spelled ∙ is_read
spelled_is_read read (Receipt n) octets h =
    ap wire_at h.spelled ∙ receipt_read h.digits n h.spells_number.eight h.spells_number.value (number_is n h.spells_number.is_number)

written_number : (n : ℕ) → IsNumber n → SpellsNumber n (to_be_bytes w64 n)
written_number n h = record { is_number = h; eight = refl; value = number_back n h }

pub written_mail : (n : ℕ) (to : Callsign) (text : List ℕ) → IsNumber n → SpellsNetCall to (net_call_octets to) → IsText text → Spells (Carries n to text) (wire_octets (Carries n to text))
unfolding wire_octets
written_mail n to text is spells is_text = record {
  digits = to_be_bytes w64 n;
  spells_number = written_number n is;
  call = net_call_octets to;
  spells_call = spells;
  is_text = is_text;
  spelled = refl;
}

pub written_spells : WrittenNetCallSpellsIt → WrittenWireSpellsIt
unfolding wire_octets
written_spells written (Carries n to text) h = written_mail n to text h.0 (written to h.1) h.2
written_spells written (Receipt n) h = record { digits = to_be_bytes w64 n; spells_number = written_number n h; spelled = refl }

is_number_of : (n : ℕ) → is_number n ≡ true → IsNumber n
is_number_of n h = record { some = grind (arith, nat_tests, h); most = grind (arith, nat_tests, h) }

-- each number that is read is one
abbrev number_in : Wire → ℕ
number_in (Carries n to text) = n
number_in (Receipt n) = n

carried_case : (n : ℕ) (text : List ℕ) (r : Result Callsign AddressRefusal) (w : Wire) → carried n text r ≡ Some w → number_in w ≡ n
carried_case n text (Ok to) w h = let e : Carries n to text ≡ w = cc in sym (ap number_in e)
carried_case n text (Err why) w h = absurd (cc)

mail_case : (rest : List ℕ) (w : Wire) (a b : Bool) → is_number (from_be_bytes w64 (take 8 rest)) ≡ b
    → cond (a && b) (carried (from_be_bytes w64 (take 8 rest)) (drop 15 rest) (net_call_at (take 7 (drop 8 rest)))) None ≡ Some w → IsNumber (number_in w)
mail_case rest w true true e h = rw (carried_case _ (drop 15 rest) (net_call_at (take 7 (drop 8 rest))) w h) (is_number_of _ e)
mail_case rest w true false e h = absurd (cc)
mail_case rest w false b e h = absurd (cc)

receipt_case : (n : ℕ) (w : Wire) (a b : Bool) → is_number n ≡ b → cond (a && b) (Some (Receipt n)) None ≡ Some w → IsNumber (number_in w)
receipt_case n w true true e h = let s : Receipt n ≡ w = cc in rw (sym (ap number_in s)) (is_number_of n e)
receipt_case n w true false e h = absurd (cc)
receipt_case n w false b e h = absurd (cc)

tag_case : (rest : List ℕ) (w : Wire) (a b : Bool) → cond a (mail_at rest) (cond b (receipt_at rest) None) ≡ Some w → IsNumber (number_in w)
tag_case rest w true b h = mail_case rest w (is_mail_size (length rest)) (is_number (from_be_bytes w64 (take 8 rest))) refl h
tag_case rest w false true h = receipt_case (from_be_bytes w64 rest) w (length rest == 8) (is_number (from_be_bytes w64 rest)) refl h
tag_case rest w false false h = absurd (cc)

read_number_of : (octets : List ℕ) (w : Wire) → wire_at octets ≡ Some w → IsNumber (number_in w)
unfolding wire_at
read_number_of [] w h = absurd (cc)
read_number_of (tag ∷ rest) w h = tag_case rest w (tag == 0x4D) (tag == 0x41) h

pub read_mail_number : (octets : List ℕ) (number : ℕ) (to : Callsign) (text : List ℕ) → wire_at octets ≡ Some (Carries number to text) → IsNumber number
read_mail_number octets number to text h = read_number_of octets (Carries number to text) h
