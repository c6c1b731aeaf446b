-- The directives of a trial, by the words behind the mark. Own profile.
use Rattle.std.specs.Prelude.{ℕ, List, [], ◌∷◌, Option, Some, None, Result, Ok, Err, Bool, true, false, nat_eq, codes, if◌then◌else◌}
use Rattle.std.specs.Cmp.Lexicographic.{pointwise}
use Rattle.text_lines.specs.Lines.{number_of}
use Rattle.station_script.specs.declared.directive.Directive.{Directive}
use Rattle.station_script.specs.declared.directive.Directive.TheVariants as typed
use Rattle.station_script.specs.declared.directive_refusal.DirectiveRefusal.{DirectiveRefusal}
use Rattle.station_script.specs.declared.directive_refusal.DirectiveRefusal.TheVariants.{NoDirective, NoStation, NoPort, BadCall, BadNumber, BadHex, MembersCall}

-- the console of a station; that opened under a call; time goes by; a round; frames are shown; frames are lost; a frame is heard at a
-- port; a station starts again; one goes down; the end
pub data Asked : Type 0 where
  At : ℕ → Asked
  Open : List ℕ → Asked
  Tick : ℕ → Asked
  Round : Asked
  Frames : Bool → Asked
  Lose : ℕ → Asked
  Heard : List ℕ → List ℕ → Asked
  Restart : ℕ → Asked
  Stop : ℕ → Asked
  Quit : Asked

abbrev pub is : List ℕ → List ℕ → Bool
is word text = pointwise nat_eq word text

-- a number, where it is one that is allowed
abbrev pub unless_none : {A : Type 0} → DirectiveRefusal → Option A → Result A DirectiveRefusal
unless_none why None = Err why
unless_none why (Some a) = Ok a

abbrev pub number_in : ℕ → ℕ → List ℕ → Result ℕ DirectiveRefusal
number_in least most word = unless_none BadNumber (number_of least most word)

-- one of at most 8 stations
abbrev pub station_in : List ℕ → Result ℕ DirectiveRefusal
station_in word = unless_none NoStation (number_of 1 8 word)

abbrev pub directive_alone : List ℕ → Result Asked DirectiveRefusal
directive_alone verb =
    if is verb (codes "round") then Ok Round
    else (if is verb (codes "quit") then Ok Quit else Err NoDirective)

abbrev pub frames : List ℕ → Result Asked DirectiveRefusal
frames word =
    if is word (codes "on") then Ok (Frames true)
    else (if is word (codes "off") then Ok (Frames false) else Err NoDirective)

abbrev pub with_number : (ℕ → Asked) → Result ℕ DirectiveRefusal → Result Asked DirectiveRefusal
with_number asked (Ok n) = Ok (asked n)
with_number asked (Err why) = Err why

abbrev pub directive_about : List ℕ → List ℕ → Result Asked DirectiveRefusal
directive_about verb word =
    if is verb (codes "at") then with_number At (station_in word)
    else (if is verb (codes "call") then Ok (Open word)
    else (if is verb (codes "tick") then with_number Tick (number_in 1 86400000 word)
    else (if is verb (codes "frames") then frames word
    else (if is verb (codes "lose") then with_number Lose (number_in 0 1000000 word)
    else (if is verb (codes "restart") then with_number Restart (station_in word)
    else (if is verb (codes "stop") then with_number Stop (station_in word) else Err NoDirective))))))

abbrev pub directive_at : List ℕ → List ℕ → List ℕ → Result Asked DirectiveRefusal
directive_at verb port digits = if is verb (codes "heard") then Ok (Heard port digits) else Err NoDirective

abbrev pub directive_of : List (List ℕ) → Result Asked DirectiveRefusal
directive_of (verb ∷ []) = directive_alone verb
directive_of (verb ∷ word ∷ []) = directive_about verb word
directive_of (verb ∷ port ∷ digits ∷ []) = directive_at verb port digits
directive_of words = Err NoDirective

-- what the code answers, as what it asks for
abbrev pub asked : Directive → Asked
asked (typed.At n) = At n
asked (typed.Open call) = Open call.now
asked (typed.Tick n) = Tick n
asked typed.Round = Round
asked (typed.Frames on) = Frames on
asked (typed.Lose n) = Lose n
asked (typed.Heard port digits) = Heard port.now digits.now
asked (typed.Restart n) = Restart n
asked (typed.Stop n) = Stop n
asked typed.Quit = Quit

abbrev pub asked_by : Result Directive DirectiveRefusal → Result Asked DirectiveRefusal
asked_by (Ok directive) = Ok (asked directive)
asked_by (Err why) = Err why

-- what is noted of a refusal
abbrev pub refusal_text : DirectiveRefusal → List ℕ
refusal_text NoDirective = codes "no such directive"
refusal_text NoStation = codes "no such station"
refusal_text NoPort = codes "no such port"
refusal_text BadCall = codes "bad call"
refusal_text BadNumber = codes "bad number"
refusal_text BadHex = codes "bad hex"
refusal_text MembersCall = codes "a member's call"
