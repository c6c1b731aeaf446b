-- The bytes of a trial, one after another, and its reads.
use Rattle.std.proofs.Common.{◌≡◌, ◌∙◌, ◌++◌, ◌∷◌, [], ℕ, List, Bool, true, false, refl, sym, ap, subst, append_assoc, append-nil}
use Rattle.std.specs.Prelude.{◌==◌}
use Rattle.std.specs.Bool.{MatchBool}
use Rattle.std.specs.Str.Lines.{strip_carriage_return}
use Rattle.cmd_streams.specs.Streams.{Read}
use Rattle.station_trial.specs.Directing.{TakesLine}
use Rattle.station_trial.specs.Trials.{TrialState}
use Rattle.station_trial.specs.declared.trial.Came.{Came}
use Rattle.station_run.specs.Typing.{EndsLast, EndsLine, Shows, Stays, TakesByte, TakesBytes, Tries, TypingState, has_more, is_last, note_of, one_more, shown, with_byte}

-- one byte more
pub bytes_more : (bytes : List ℕ) (byte : ℕ) (s mid s' : TypingState) (note more : List ℕ) → TakesBytes bytes s note mid → TakesByte byte mid more s' → TakesBytes (bytes ++ byte ∷ []) s (note ++ more) s'
bytes_more [] byte s mid s' note more before takes =
    (more, s', [], rw before.1 at takes, (refl, refl), ap (λ n. n ++ more) before.0 ∙ sym (append-nil more))
bytes_more (b ∷ bs) byte s mid s' note more before takes = (
  before.0,
  before.1,
  before.2 ++ more,
  before.3,
  bytes_more bs byte before.1 mid s' before.2 more before.4 takes,
  ap (λ n. n ++ more) before.5 ∙ append_assoc before.0 before.2 more,
)

-- one read more
pub tries_more : (reads : List Read) (read : Read) (s mid done : TypingState) (text first : List ℕ) (notes : List (List ℕ)) (note : List ℕ) → Tries reads s text notes mid → TakesBytes read.bytes mid note done → Shows done first → Tries (reads ++ read ∷ []) s (text ++ first) (notes ++ note ∷ []) (shown done)
tries_more [] read s mid done text first notes note before takes shows =
    (note, done, first, [], [], rw before.1.1 at takes, shows, (refl, (refl, refl)), ap (λ t. t ++ first) before.0 ∙ sym (append-nil first), ap (λ n. n ++ note ∷ []) before.1.0)
tries_more (r ∷ rs) read s mid done text first notes note before takes shows = (
  before.0,
  before.1,
  before.2,
  before.3 ++ first,
  before.4 ++ note ∷ [],
  before.5,
  before.6,
  tries_more rs read (shown before.1) mid done before.3 first before.4 note before.7 takes shows,
  ap (λ t. t ++ first) before.8 ∙ append_assoc before.2 before.3 first,
  ap (λ n. n ++ note ∷ []) before.9,
)

-- ---- one byte

pub behind_the_end : (byte : ℕ) (s : TypingState) → s.over ≡ true → TakesByte byte s [] s
behind_the_end byte s over =
    subst (λ b. MatchBool b (Stays s [] s) (MatchBool (byte == 10) (EndsLine s [] s) (Stays (with_byte byte s) [] s))) (sym over) (refl, refl)

pub ends_a_line : (byte : ℕ) (s s' : TypingState) (note : List ℕ) → s.over ≡ false → byte ≡ 10 → EndsLine s note s' → TakesByte byte s note s'
ends_a_line byte s s' note more lf ends =
    subst (λ b. MatchBool b (Stays s note s') (MatchBool (byte == 10) (EndsLine s note s') (Stays (with_byte byte s) note s'))) (sym more)
    (subst (λ n. MatchBool (n == 10) (EndsLine s note s') (Stays (with_byte byte s) note s')) (sym lf) ends)

pub goes_on : (byte : ℕ) (s : TypingState) → s.over ≡ false → (byte == 10) ≡ false → TakesByte byte s [] (with_byte byte s)
goes_on byte s more other =
    subst (λ b. MatchBool b (Stays s [] (with_byte byte s)) (MatchBool (byte == 10) (EndsLine s [] (with_byte byte s)) (Stays (with_byte byte s) [] (with_byte byte s)))) (sym more)
    (subst (λ b. MatchBool b (EndsLine s [] (with_byte byte s)) (Stays (with_byte byte s) [] (with_byte byte s))) (sym other) (refl, refl))

-- ---- a line

abbrev pub line_done : Came → TrialState → TypingState → TypingState
line_done came trial s = record { trial = trial; line = []; lines = one_more s.lines; over = is_last came }

pub line_ends : (s : TypingState) (typed read : List ℕ) (came : Came) (trial : TrialState) → read ≡ s.line → typed ≡ strip_carriage_return read → TakesLine typed s.trial came trial → EndsLine s (note_of (one_more s.lines) came) (line_done came trial s)
line_ends s typed read came trial same strip takes =
    record { came = came; trial = trial; takes = subst (λ line. TakesLine line s.trial came trial) (strip ∙ ap strip_carriage_return same) takes; noted = refl; then = refl }

-- ---- the end

pub ends_there : (s s' : TypingState) (note : List ℕ) → has_more s ≡ true → EndsLine s note s' → EndsLast s note s'
ends_there s s' note more ends = subst (λ b. MatchBool b (EndsLine s note s') (Stays s note s')) (sym more) ends

pub ended_before : (s : TypingState) → has_more s ≡ false → EndsLast s [] s
ended_before s none = subst (λ b. MatchBool b (EndsLine s [] s) (Stays s [] s)) (sym none) (refl, refl)

-- ---- a read, and the end, as they were answered and told

pub tries_on : (reads : List Read) (read : Read) (s mid done : TypingState) (text first answer : List ℕ) (notes : List (List ℕ)) (note told : List ℕ) → answer ≡ first → told ≡ note
    → Tries reads s text notes mid → TakesBytes read.bytes mid note done → Shows done first → Tries (reads ++ read ∷ []) s (text ++ answer) (notes ++ told ∷ []) (shown done)
tries_on reads read s mid done text first answer notes note told answers tells before takes shows =
    subst (λ a. Tries (reads ++ read ∷ []) s (text ++ a) (notes ++ told ∷ []) (shown done)) (sym answers)
    (subst (λ n. Tries (reads ++ read ∷ []) s (text ++ first) (notes ++ n ∷ []) (shown done)) (sym tells)
    (tries_more reads read s mid done text first notes note before takes shows))
