-- A post over any inputs, where the program may end anywhere and the log is opened again. Own profile.
use Rattle.std.specs.Prelude.{◌≡◌, ◌⊎◌, Bool, true, false, if◌then◌else◌, List, [], ◌∷◌, Option, IsSome, option_and_then}
use Rattle.ax_address.specs.Callsign.{Callsign}
use Rattle.mail_records.specs.declared.record.Record.{Record}
use Rattle.mail_box.specs.Boxes.{new_box, after_all}
use Rattle.mail_box.specs.Inputs.{Input, record_of, with_record}

-- how an input ends
pub data Ending : Type 0 where
  -- it is done, and that is told: to a user, or by a receipt
  Told : Ending
  -- it is refused, or can't be kept: then nothing is changed
  Refused : Ending
  -- the program ends within it, and an opening finds its record or doesn't
  CutOff : (is_found : Bool) → Ending

pub data Happening : Type 0 where
  Asked : (input : Input) → (ending : Ending) → Happening
  -- the program ends between two inputs, and the log is opened again
  Restarted : Happening

-- the records that an opening finds, those of what was told, and those that were to be written, each in their order
pub record Ledger : Type 0 where
  pub found : List Record
  pub told : List Record
  pub meant : List Record

abbrev pub nothing_written : Ledger
nothing_written = record { found = []; told = []; meant = [] }

-- the record of an input at the post that is opened over what is found
abbrev pub record_at : Callsign → Ledger → Input → Option Record
record_at own l input = option_and_then (λ b. record_of b input) (after_all (new_box own) l.found)

abbrev pub is_told : Ending → Bool
is_told Told = true
is_told _ = false

-- what an opening finds then, where this was found and this is the record
abbrev pub found_after : List Record → Option Record → Ending → List Record
found_after found r Told = with_record found r
found_after found r Refused = found
found_after found r (CutOff is_found) = if is_found then with_record found r else found

abbrev pub ended : Ledger → Option Record → Ending → Ledger
ended l r ending = record {
  found = found_after l.found r ending;
  told = if is_told ending then with_record l.told r else l.told;
  meant = with_record l.meant r;
}

abbrev pub happens : Callsign → Ledger → Happening → Ledger
happens own l (Asked input ending) = ended l (record_at own l input) ending
happens own l Restarted = l

abbrev pub run : Callsign → List Happening → Ledger → Ledger
run own [] l = l
run own (h ∷ hs) l = run own hs (happens own l h)

-- all of these stand in the other list too, in the same order
abbrev pub AreAmong : List Record → List Record → Type 0
AreAmong [] others = Unit {0}
AreAmong (r ∷ rs) [] = ⊥
AreAmong (r ∷ rs) (other ∷ others) = ((r ≡ other) × AreAmong rs others) ⊎ AreAmong (r ∷ rs) others

pub record IsFoundAgain (own : Callsign) (l : Ledger) : Type 0 where
  -- a post is opened over what is found:
  pub opens : IsSome (after_all (new_box own) l.found)
  -- all that was told is among it,
  pub told : AreAmong l.told l.found
  -- and all of it was meant to be written
  pub meant : AreAmong l.found l.meant

-- whatever is asked, and wherever the program ends
abbrev pub TellsOnlyWhatIsKept : Type 0
TellsOnlyWhatIsKept =
    (own : Callsign) (happenings : List Happening) → IsFoundAgain own (run own happenings nothing_written)
