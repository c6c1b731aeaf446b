use Rattle.std.proofs.Common.{◌≡◌, drop}
use Rattle.station_screen.specs.Screens.{Shown, tell}
use Rattle.station_screen.specs.Standing.{ScreenStands}
use Rattle.station_screen.proofs.screen.Screen.tell.Given as goal

-- what is left of the text is told at the state that the screen has come to
abbrev pub invariant-loop-byte : goal.invariant-loop-byte
invariant-loop-byte l =
    (s : Shown) → ScreenStands l.fn.self s
    → (t : Shown) × ScreenStands l.self t × (tell l.station (drop l.byte-index l.told) t ≡ tell l.station l.told s)
