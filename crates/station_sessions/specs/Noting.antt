-- What a session of a station notes of its far side. Own profile.
use Rattle.std.specs.Prelude.{ℕ, List, Bool, true, not, ◌||◌, ◌≤◌, length, drop}
use Rattle.std.specs.Bool.{⊤}
use Rattle.station_sessions.specs.declared.far.Far.{Far}
use Rattle.station_sessions.specs.declared.far.Stage.{Stage}
use Rattle.station_sessions.specs.declared.far.Stage.TheVariants.{AtPrompt, Trying, With}
use Rattle.station_sessions.specs.Sessions.{Session, has_some}

-- a change of what is tried or stands, and of what stands
abbrev pub at_far : (Far → Far) → Stage → Stage
at_far change AtPrompt = AtPrompt
at_far change (Trying far) = Trying (change far)
at_far change (With far) = With (change far)

abbrev pub at_standing : (Far → Far) → Stage → Stage
at_standing change AtPrompt = AtPrompt
at_standing change (Trying far) = Trying far
at_standing change (With far) = With (change far)

abbrev pub closed : Session → Session
closed s = record s { stage = at_far (λ f. record f { closed = true }) s.stage }

abbrev pub ended : Bool → Session → Session
ended failed s = record s { stage = at_standing (λ f. record f { failed = f.failed || failed }) s.stage }

abbrev pub lost : Bool → Session → Session
lost failed s = record s { stage = at_standing (λ f. record f { failed = failed || f.waited }) s.stage }

abbrev pub waits : Bool → Session → Session
waits text s = record s { stage = at_far (λ f. record f { waited = text || has_some f.unsent }) s.stage }

abbrev pub far_waits_with : List ℕ → Session → Session
far_waits_with text s = record s { stage = at_far (λ f. record f { unsent = text }) s.stage }

-- as many bytes wait there
abbrev pub MayGo : ℕ → Stage → Type 0
MayGo count AtPrompt = ⊤
MayGo count (Trying far) = count ≤ length far.unsent
MayGo count (With far) = count ≤ length far.unsent

abbrev pub far_went : ℕ → Session → Session
far_went count s = record s { stage = at_far (λ f. record f { unsent = drop count f.unsent }) s.stage }
