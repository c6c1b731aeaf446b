-- Whose letters they are. Own profile.
use Rattle.std.specs.Prelude.{ℕ, Bool, ◌||◌, nat_eq, List, take, codes}
use Rattle.std.specs.Cmp.Lexicographic.{pointwise}
use Rattle.ax_address.specs.Callsign.{Callsign, padded}
use Rattle.ax_address.specs.Octets.{net_call_octets}
use Rattle.mail_box.specs.declared.letter.Letter.{Letter}

-- the six characters of a call, as they stand in a message
abbrev pub letters_of : Callsign → List ℕ
letters_of c = take 6 (net_call_octets c)

-- a user is his call, whatever its SSID
abbrev pub is_user : Callsign → Callsign → Bool
is_user a b = pointwise nat_eq (letters_of a) (letters_of b)

-- for whom a letter is that is for everybody
abbrev pub everybody : Callsign
everybody = record { letters = padded (codes "ALL"); ssid = 0 }

abbrev pub is_for : Callsign → Letter → Bool
is_for user l = is_user l.user user || is_user l.user everybody
