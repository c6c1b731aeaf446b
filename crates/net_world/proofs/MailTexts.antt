-- How long the text of a mail is shows in the message that offers it: it is all from octet 16 on.
use Rattle.std.proofs.Common.{◌≡◌, ◌∙◌, ◌-◌, ℕ, subst, arith, List, [], ◌∷◌, length, take, drop, Bool, true, false, ◌&&◌, cond}
use Rattle.std.specs.Prelude.{◌==◌, Some, None, Result, Ok, Err}
use Rattle.std.specs.Int.{w64, from_be_bytes}
use Rattle.std.proofs.lemmas.List.{length-drop}
use Rattle.ax_address.specs.Callsign.{Callsign}
use Rattle.ax_address.specs.Octets.{net_call_at}
use Rattle.ax_address.specs.declared.address_refusal.AddressRefusal.{AddressRefusal}
use Rattle.node_mail.specs.Wires.{Carries, Receipt, Wire, carried, is_mail_size, is_number, mail_at, receipt_at, wire_at}

abbrev pub IsLong : ℕ → Wire → Type 0
IsLong size (Carries number to text) = length text ≡ size
IsLong size (Receipt number) = Unit {0}

carried_long : (size number : ℕ) (text : List ℕ) (r : Result Callsign AddressRefusal) (w : Wire) → length text ≡ size → carried number text r ≡ Some w → IsLong size w
carried_long size number text (Ok to) w long e = let is : Carries number to text ≡ w = cc in subst (IsLong size) is long
carried_long size number text (Err why) w long e = absurd (cc)

mail_case : (size : ℕ) (rest : List ℕ) (w : Wire) (a b : Bool) → length (drop 15 rest) ≡ size
    → cond (a && b) (carried (from_be_bytes w64 (take 8 rest)) (drop 15 rest) (net_call_at (take 7 (drop 8 rest)))) None ≡ Some w → IsLong size w
mail_case size rest w true true long e = carried_long size _ (drop 15 rest) (net_call_at (take 7 (drop 8 rest))) w long e
mail_case size rest w true false long e = absurd (cc)
mail_case size rest w false b long e = absurd (cc)

receipt_case : (size number : ℕ) (w : Wire) (a b : Bool) → cond (a && b) (Some (Receipt number)) None ≡ Some w → IsLong size w
receipt_case size number w true true e = let is : Receipt number ≡ w = cc in subst (IsLong size) is tt
receipt_case size number w true false e = absurd (cc)
receipt_case size number w false b e = absurd (cc)

tag_case : (size : ℕ) (rest : List ℕ) (w : Wire) (a b : Bool) → length (drop 15 rest) ≡ size → cond a (mail_at rest) (cond b (receipt_at rest) None) ≡ Some w → IsLong size w
tag_case size rest w true b long e = mail_case size rest w (is_mail_size (length rest)) (is_number (from_be_bytes w64 (take 8 rest))) long e
tag_case size rest w false true long e = receipt_case size (from_be_bytes w64 rest) w (length rest == 8) (is_number (from_be_bytes w64 rest)) e
tag_case size rest w false false long e = absurd (cc)

pub read_long : (octets : List ℕ) (w : Wire) → wire_at octets ≡ Some w → IsLong (length octets - 16) w
unfolding wire_at
read_long [] w e = absurd (cc)
read_long (tag ∷ rest) w e =
    let long : length (drop 15 rest) ≡ length (tag ∷ rest) - 16 = length-drop 15 rest ∙ omega arith in
    tag_case (length (tag ∷ rest) - 16) rest w (tag == 0x4D) (tag == 0x41) long e
