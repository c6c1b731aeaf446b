-- The lines of a trial, as they are read: what is shown, and which directives are refused. Own profile.
use Rattle.std.specs.Prelude.{ℕ, ◌≡◌, ◌+◌, ◌-◌, ◌^◌, ◌==◌, ◌++◌, min, length, List, [], ◌∷◌, Bool, true, false, not, ◌&&◌, codes}
use Rattle.std.specs.Bool.{MatchBool}
use Rattle.std.specs.Fmt.{decimal}
use Rattle.std.specs.Str.Lines.{strip_carriage_return}
use Rattle.cmd_streams.specs.Streams.{Read}
use Rattle.station_file.specs.Station.{Station}
use Rattle.station_screen.specs.Screens.{Spells}
use Rattle.station_script.specs.Directives.{refusal_text}
use Rattle.station_trial.specs.Directing.{TakesLine}
use Rattle.station_trial.specs.Standing.{TrialStands}
use Rattle.station_trial.specs.Starting.{AllStart}
use Rattle.station_trial.specs.Stations.{TriedState}
use Rattle.station_trial.specs.Trials.{TrialState, end_screen, new_trial, take_text}
use Rattle.station_trial.specs.declared.trial.Came.{Came}
use Rattle.station_trial.specs.declared.trial.Came.TheVariants.{Done, Quit, Refused}
use Rattle.station_run.specs.declared.typing.Typing.{Typing}

pub record TypingState : Type 0 where
  pub trial : TrialState
  pub line : List ℕ  -- what was read of a line that hasn't ended
  pub lines : ℕ  -- how many were done
  pub over : Bool  -- one of them was the last

abbrev pub new_typing : TrialState → TypingState
new_typing trial = record { trial = trial; line = []; lines = 0; over = false }

-- ---- lines

abbrev pub one_more : ℕ → ℕ
one_more lines = min (lines + 1) (2 ^ 64 - 1)

-- why the directive of a line was refused
abbrev pub note_of : ℕ → Came → List ℕ
note_of number (Refused why) = codes "line " ++ (decimal number ++ (codes ": " ++ (refusal_text why ++ codes "\n")))
note_of number Done = []
note_of number Quit = []

abbrev pub is_last : Came → Bool
is_last Quit = true
is_last Done = false
is_last (Refused why) = false

-- the line has ended, and was done; this is noted
pub record EndsLine (s : TypingState) (note : List ℕ) (s' : TypingState) : Type 0 where
  pub came : Came
  pub trial : TrialState
  pub takes : TakesLine (strip_carriage_return s.line) s.trial came trial
  pub noted : note ≡ note_of (one_more s.lines) came
  pub then : s' ≡ record { trial = trial; line = []; lines = one_more s.lines; over = is_last came }

abbrev pub Stays : TypingState → List ℕ → TypingState → Type 0
Stays s note s' = (note ≡ []) × (s' ≡ s)

abbrev pub with_byte : ℕ → TypingState → TypingState
with_byte byte s = record s { line = s.line ++ byte ∷ [] }

-- LF ends a line; behind the last line nothing is read
abbrev pub TakesByte : ℕ → TypingState → List ℕ → TypingState → Type 0
TakesByte byte s note s' =
    MatchBool s.over (Stays s note s') (MatchBool (byte == 10) (EndsLine s note s') (Stays (with_byte byte s) note s'))

abbrev pub TakesBytes : List ℕ → TypingState → List ℕ → TypingState → Type 0
TakesBytes [] s note s' = Stays s note s'
TakesBytes (byte ∷ bytes) s note s' =
    (first : List ℕ) × (mid : TypingState) × (rest : List ℕ) × TakesByte byte s first mid × TakesBytes bytes mid rest s'
    × (note ≡ first ++ rest)

abbrev pub shown : TypingState → TypingState
shown s = record s { trial = take_text s.trial }

-- the text is what was shown since the last time
abbrev pub Shows : TypingState → List ℕ → Type 0
Shows s text = Spells s.trial.outlet.shown.pieces text

-- At these reads the text is shown, and one of the others is noted of each.
abbrev pub Tries : List Read → TypingState → List ℕ → List (List ℕ) → TypingState → Type 0
Tries [] s text notes s' = (text ≡ []) × ((notes ≡ []) × (s' ≡ s))
Tries (read ∷ reads) s text notes s' =
    (note : List ℕ) × (mid : TypingState) × (first : List ℕ) × (rest : List ℕ) × (later : List (List ℕ))
    × TakesBytes read.bytes s note mid × Shows mid first × Tries reads (shown mid) rest later s'
    × (text ≡ first ++ rest) × (notes ≡ note ∷ later)

-- ---- the end

-- what stands behind the last LF is a line too, where there is something and it isn't over
abbrev pub has_more : TypingState → Bool
has_more s = not s.over && not (length s.line == 0)

abbrev pub EndsLast : TypingState → List ℕ → TypingState → Type 0
EndsLast s note s' = MatchBool (has_more s) (EndsLine s note s') (Stays s note s')

abbrev pub end_screen_of : TypingState → TypingState
end_screen_of s = record s { trial = end_screen s.trial }

-- so the trial goes to its end: the line that is open is ended
pub record TriesToEnd (over : Bool) (reads : List Read) (s : TypingState) (text : List ℕ) (notes : List (List ℕ)) : Type 0 where
  pub read : TypingState
  pub earlier_text : List ℕ
  pub earlier : List (List ℕ)
  pub tries : Tries reads s earlier_text earlier read
  pub is_over : over ≡ read.over
  pub last : TypingState
  pub note : List ℕ
  pub ends : EndsLast read note last
  pub shown : List ℕ
  pub shows : Shows (end_screen_of last) shown
  pub text_is : text ≡ earlier_text ++ shown
  pub notes_are : notes ≡ earlier ++ note ∷ []

-- ---- the stations of files

-- the text is shown of a trial of the stations of these files at these reads, and one of the others noted of each
pub record IsTried (files : List Station) (reads : List Read) (text : List ℕ) (notes : List (List ℕ)) : Type 0 where
  pub stations : List TriedState
  pub start : AllStart files stations
  pub last : TypingState
  pub tries : Tries reads (new_typing (new_trial stations)) text notes last

pub record IsTriedToEnd (files : List Station) (over : Bool) (reads : List Read) (text : List ℕ) (notes : List (List ℕ)) : Type 0 where
  pub stations : List TriedState
  pub start : AllStart files stations
  pub tries : TriesToEnd over reads (new_typing (new_trial stations)) text notes

-- ---- what the code keeps

pub record TypingStands (k : Typing) (s : TypingState) : Type 0 where
  pub trial : TrialStands k.trial s.trial
  pub line : k.line.items ≡ s.line
  pub lines : k.lines ≡ s.lines
  pub over : k.over ≡ s.over

-- the first value has become the last so, from whatever state it stood for
abbrev pub TriesThrough : Typing → Typing → List Read → List ℕ → List (List ℕ) → Type 0
TriesThrough first last reads text notes =
    (s : TypingState) → TypingStands first s → (s' : TypingState) × Tries reads s text notes s' × TypingStands last s'

abbrev pub TriesThroughEnd : Typing → Typing → Bool → List Read → List ℕ → List (List ℕ) → Type 0
TriesThroughEnd first last over reads text notes =
    (s : TypingState) → TypingStands first s → TriesToEnd over reads s text notes
