-- What can be written down of a change at a post. Own profile.
use Rattle.std.specs.Prelude.{ℕ, ◌≤◌, ◌^◌, List, length}
use Rattle.ax_address.specs.Callsign.{Callsign, IsCallsign}
use Rattle.mail_records.specs.declared.record.Record.{Record}
use Rattle.mail_records.specs.declared.record.Record.TheVariants.{Posted, Settled, Stored, Local, Read, Killed}

-- numbers of mails and letters go up to 2^62
abbrev pub IsNumbered : Record → Type 0
IsNumbered (Posted number user dest text) = number ≤ 2 ^ 62
IsNumbered (Settled number) = number ≤ 2 ^ 62
IsNumbered (Stored origin number user text) = number ≤ 2 ^ 62
IsNumbered (Local user text) = Unit {0}
IsNumbered (Read letter) = letter ≤ 2 ^ 62
IsNumbered (Killed letter) = letter ≤ 2 ^ 62

abbrev pub IsCall : Callsign → Type 0
IsCall c = IsCallsign c.letters c.ssid

abbrev pub IsText : List ℕ → Type 0
IsText text = length text ≤ 1024

-- its calls are calls, and its text is at most 1,024 octets
abbrev pub IsWhole : Record → Type 0
IsWhole (Posted number user dest text) = IsCall user × IsCall dest × IsText text
IsWhole (Settled number) = Unit {0}
IsWhole (Stored origin number user text) = IsCall origin × IsCall user × IsText text
IsWhole (Local user text) = IsCall user × IsText text
IsWhole (Read letter) = Unit {0}
IsWhole (Killed letter) = Unit {0}

-- what a log may have
abbrev pub IsRecord : Record → Type 0
IsRecord r = IsNumbered r × IsWhole r
