-- The messages by which nodes hand mail over, each one message of a circuit: a mail, and a receipt. Own profile.
use Rattle.std.specs.Prelude.{ℕ, ◌≡◌, ◌≤◌, List, [], ◌∷◌, ◌++◌, length, take, drop, Bool, ◌&&◌, ◌==◌, nat_le, Option, Some, None, Result, Ok, Err, if◌then◌else◌}
use Rattle.std.specs.Int.{w64, to_be_bytes, from_be_bytes}
use Rattle.radio_base.specs.declared.modulus.TheConstants.{COUNT_MAX}
use Rattle.ax_address.specs.Callsign.{Callsign, IsCallsign}
use Rattle.ax_address.specs.Octets.{SpellsNetCall, net_call_at, net_call_octets}
use Rattle.ax_address.specs.declared.address_refusal.AddressRefusal.{AddressRefusal}

-- a mail, with the number that it has at the node where it was posted, its user and its text; and a receipt for the
-- mail of a number
pub data Wire : Type 0 where
  Carries : (number : ℕ) → (to : Callsign) → (text : List ℕ) → Wire
  Receipt : (number : ℕ) → Wire

-- the octet with which each begins: the letters M and A
abbrev pub mail_tag : ℕ
mail_tag = 0x4D

abbrev pub receipt_tag : ℕ
receipt_tag = 0x41

pub record IsNumber (number : ℕ) : Type 0 where
  pub some : 1 ≤ number
  pub most : number ≤ COUNT_MAX

pub record IsText (text : List ℕ) : Type 0 where
  pub some : 1 ≤ length text
  pub most : length text ≤ 1024

-- eight octets are the number, the highest first
pub record SpellsNumber (number : ℕ) (octets : List ℕ) : Type 0 where
  pub is_number : IsNumber number
  pub eight : length octets ≡ 8
  pub value : from_be_bytes w64 octets ≡ number

-- The octets are the mail: the tag, its number, its user and its text. The user's call is spelled as in a datagram: of
-- its last octet bits 4 to 1 alone count.
pub record SpellsMail (number : ℕ) (to : Callsign) (text octets : List ℕ) : Type 0 where
  pub digits : List ℕ
  pub spells_number : SpellsNumber number digits
  pub call : List ℕ
  pub spells_call : SpellsNetCall to call
  pub is_text : IsText text
  pub spelled : octets ≡ mail_tag ∷ (digits ++ (call ++ text))

-- the octets are the receipt: the tag and the number
pub record SpellsReceipt (number : ℕ) (octets : List ℕ) : Type 0 where
  pub digits : List ℕ
  pub spells_number : SpellsNumber number digits
  pub spelled : octets ≡ receipt_tag ∷ digits

abbrev pub Spells : Wire → List ℕ → Type 0
Spells (Carries number to text) octets = SpellsMail number to text octets
Spells (Receipt number) octets = SpellsReceipt number octets

-- what is written for a message
unfoldable pub wire_octets : Wire → List ℕ
wire_octets (Carries number to text) = mail_tag ∷ (to_be_bytes w64 number ++ (net_call_octets to ++ text))
wire_octets (Receipt number) = receipt_tag ∷ to_be_bytes w64 number

-- what may be written
abbrev pub IsWire : Wire → Type 0
IsWire (Carries number to text) = IsNumber number × IsCallsign to.letters to.ssid × IsText text
IsWire (Receipt number) = IsNumber number

abbrev pub is_number : ℕ → Bool
is_number n = nat_le 1 n && nat_le n COUNT_MAX

-- behind the tag stand eight octets of a number, seven of a call, and 1 to 1,024 of a text
abbrev pub is_mail_size : ℕ → Bool
is_mail_size n = nat_le 16 n && nat_le n 1039

abbrev pub carried : ℕ → List ℕ → Result Callsign AddressRefusal → Option Wire
carried number text (Ok to) = Some (Carries number to text)
carried number text (Err refusal) = None

-- what stands behind the tag
abbrev pub mail_at : List ℕ → Option Wire
mail_at rest =
    if is_mail_size (length rest) && is_number (from_be_bytes w64 (take 8 rest))
    then carried (from_be_bytes w64 (take 8 rest)) (drop 15 rest) (net_call_at (take 7 (drop 8 rest)))
    else None

abbrev pub receipt_at : List ℕ → Option Wire
receipt_at rest =
    if (length rest == 8) && is_number (from_be_bytes w64 rest)
    then Some (Receipt (from_be_bytes w64 rest))
    else None

-- The message that the octets are, and None where they are none. By the law of `wire_spelling` what spells a message is
-- read as it, and by a clause of `Store::hear` what is read as a message spells it.
unfoldable pub wire_at : List ℕ → Option Wire
wire_at [] = None
wire_at (tag ∷ rest) = if tag == mail_tag then mail_at rest else (if tag == receipt_tag then receipt_at rest else None)

-- octets that spell a message are read as it, and so spell no other one
abbrev pub SpelledWireIsRead : Type 0
SpelledWireIsRead = (wire : Wire) (octets : List ℕ) → Spells wire octets → wire_at octets ≡ Some wire

-- octets that are read as a message spell it
abbrev pub ReadWireIsSpelled : List ℕ → Type 0
ReadWireIsSpelled octets = (wire : Wire) → wire_at octets ≡ Some wire → Spells wire octets

-- what is written for a message spells it
abbrev pub WrittenWireSpellsIt : Type 0
WrittenWireSpellsIt = (wire : Wire) → IsWire wire → Spells wire (wire_octets wire)
