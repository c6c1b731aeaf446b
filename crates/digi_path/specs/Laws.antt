-- What holds of every path.
use Rattle.std.specs.Prelude.{true, false, List, ◌∷◌, ◌++◌, ◌≡◌, ◌≢◌, ◌↔◌}
use Rattle.std.specs.List.{AllByRecursion}
use Rattle.ax_address.specs.declared.address.Address.{Address}
use Rattle.ax_address.specs.Callsign.{Callsign}
use Rattle.digi_path.specs.Paths.{Action, For_me, Repeat, Not_yet, Heard, action, repeated, way_back}

-- the H bit of each of these repeaters is set
abbrev pub AllHaveRepeated : List Address → Type 0
AllHaveRepeated path = AllByRecursion (λ repeater. repeater.bit7 ≡ true) path

-- the H bit of none of these repeaters is set
abbrev pub NoneHasRepeated : List Address → Type 0
NoneHasRepeated path = AllByRecursion (λ repeater. repeater.bit7 ≡ false) path

-- this repeater is the first whose H bit is unset, between those before it and those behind it
pub record IsNext (before : List Address) (repeater : Address) (rest : List Address) (path : List Address) : Type 0 where
  pub whole : path ≡ before ++ repeater ∷ rest
  pub done : AllHaveRepeated before
  pub unset : repeater.bit7 ≡ false

-- By the first repeater whose H bit is unset: where it is this station, the frame is sent on with that bit set and
-- nothing else changed; where it is another, the frame is left to it. Where there is none, the destination decides.
pub data Acts (path : List Address) (dest : Callsign) (own : Callsign) : Action → Type 0 where
  For_this_station : AllHaveRepeated path → dest ≡ own → Acts path dest own For_me
  For_another_station : AllHaveRepeated path → dest ≢ own → Acts path dest own Heard
  By_this_repeater : (before : List Address) (repeater : Address) (rest : List Address) → IsNext before repeater rest path → repeater.call ≡ own → Acts path dest own (Repeat (before ++ repeated repeater ∷ rest))
  By_another_repeater : (before : List Address) (repeater : Address) (rest : List Address) → IsNext before repeater rest path → repeater.call ≢ own → Acts path dest own Not_yet

-- what a station does is exactly what the rule says
abbrev pub ActsByTheNextRepeater : Type 0
ActsByTheNextRepeater = (path : List Address) (dest own : Callsign) (what : Action) → (action path dest own ≡ what) ↔ Acts path dest own what

-- the way back of the way back is the path
abbrev pub TwiceReversed : Type 0
TwiceReversed = (path : List Address) → NoneHasRepeated path → way_back (way_back path) ≡ path
