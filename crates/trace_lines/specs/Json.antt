-- JSON objects, one a line (RFC 8259, sections 2 to 7). Which there are is own profile.
use Prim.Native.String.{String}
use Rattle.std.specs.Prelude.{ℕ, List, [], ◌∷◌, ◌++◌, flat_map, Bool, not, ◌&&◌, ◌==◌, nat_le, if◌then◌else◌, codes, Option, Some, None}
use Rattle.std.specs.Fmt.{decimal}
use Rattle.ax_address.specs.Callsign as calls
use Rattle.ax_address.specs.Callsign.{Callsign}
use Rattle.radio_base.specs.Text.{hex_of}

-- ---- strings

-- from 0x20 to 0x7E, without the quotation mark and the reverse solidus
abbrev pub is_plain : ℕ → Bool
is_plain b = nat_le 32 b && nat_le b 126 && not (b == 34) && not (b == 92)

-- a byte as the character of that number (Latin-1): itself, or by its number
abbrev pub character : ℕ → List ℕ
character b = if is_plain b then b ∷ [] else codes "\\u00" ++ hex_of b

abbrev pub quoted : List ℕ → List ℕ
quoted text = codes "\"" ++ (text ++ codes "\"")

unfoldable pub string_text : List ℕ → List ℕ
string_text bytes = quoted (flat_map character bytes)

unfoldable pub hex_text : List ℕ → List ℕ
hex_text octets = quoted (flat_map hex_of octets)

-- ---- other values

abbrev pub truth : Bool → List ℕ
truth is_so = if is_so then codes "true" else codes "false"

unfoldable pub or_null : {A : Type 0} → (A → List ℕ) → Option A → List ℕ
or_null text None = codes "null"
or_null text (Some x) = text x

-- what an array has, with commas between
unfoldable pub listed : {A : Type 0} → (A → List ℕ) → List A → List ℕ
listed text [] = []
listed text (x ∷ xs) = text x ++ flat_map (λ y. codes "," ++ text y) xs

-- ---- objects

-- A name and its value. The characters of a word stand for themselves; bytes are each the character of that number; octets are two
-- capital hexadecimal digits each.
pub data Field : Type 0 where
  Number : String → ℕ → Field
  Word : String → List ℕ → Field
  Bytes : String → List ℕ → Field
  Octets : String → List ℕ → Field
  Truth : String → Bool → Field
  NumberOrNull : String → Option ℕ → Field
  WordOrNull : String → Option (List ℕ) → Field
  OctetsOrNull : String → Option (List ℕ) → Field
  -- arrays
  Numbers : String → List ℕ → Field
  Calls : String → List Callsign → Field

-- a name, its value and what follows
abbrev pub named : String → List ℕ → List ℕ
named name value = codes ",\"" ++ (codes name ++ (codes "\":" ++ value))

abbrev pub field_then : Field → List ℕ → List ℕ
field_then (Number name n) rest = named name (decimal n ++ rest)
field_then (Word name word) rest = named name (codes "\"" ++ (word ++ (codes "\"" ++ rest)))
field_then (Bytes name bytes) rest = named name (string_text bytes ++ rest)
field_then (Octets name octets) rest = named name (hex_text octets ++ rest)
field_then (Truth name is_so) rest = named name (truth is_so ++ rest)
field_then (NumberOrNull name number) rest = named name (or_null decimal number ++ rest)
field_then (WordOrNull name word) rest = named name (or_null quoted word ++ rest)
field_then (OctetsOrNull name octets) rest = named name (or_null hex_text octets ++ rest)
field_then (Numbers name numbers) rest = named name (codes "[" ++ (listed decimal numbers ++ (codes "]" ++ rest)))
field_then (Calls name names) rest = named name (codes "[" ++ (listed (λ c. quoted (calls.shown c)) names ++ (codes "]" ++ rest)))

abbrev pub fields_text : List Field → List ℕ
fields_text [] = codes "}\n"
fields_text (field ∷ fields) = field_then field (fields_text fields)

-- an object of a kind in a line: {"kind":"KIND","NAME":VALUE}
unfoldable pub object : String → List Field → List ℕ
object kind fields = codes "{\"kind\":\"" ++ (codes kind ++ (codes "\"" ++ fields_text fields))
