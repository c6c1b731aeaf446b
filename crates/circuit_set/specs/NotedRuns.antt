-- Runs with the notes of the book, and what these allow. Nothing behind `run` cites it: laws of this crate and of `circuit_verdict` do.
use Rattle.std.specs.Prelude.{◌≡◌, ◌≢◌, ℕ, ◌+◌, ◌-◌, ◌*◌, ◌≤◌, if◌then◌else◌, List, [], ◌∷◌, ◌++◌, slice_get, Option, Some, None}
use Rattle.circuit_l4.specs.declared.notice.EndNotice.{EndNotice}
use Rattle.circuit_l4.specs.declared.notice.EndNotice.TheVariants.{Opened}
use Rattle.circuit_set.specs.Books.{Book, MadeNote, Timely, empty, with_events, partner, was_asked}
use Rattle.circuit_table.specs.Events.{Name, same_name}
use Rattle.circuit_table.specs.Runs.{AreNarrow, AreStarts, AreSteps, Step, end_named, events_of, sets_at, told_at}
use Rattle.circuit_table.specs.Sets.{Holder, SetState}

pub record Net : Type 0 where
  pub sets : List SetState
  pub book : Book

abbrev pub net_step : Net → Step → Net
net_step net st = record {
  sets = sets_at net.sets st.node (slice_get net.sets st.node) st.act;
  book = with_events net.book (told_at net.sets st.node (slice_get net.sets st.node) st.act);
}

abbrev pub net_run : Net → List Step → Net
net_run net [] = net
net_run net (st ∷ sts) = net_run (net_step net st) sts

abbrev pub begins : List SetState → Net
begins sets = record { sets = sets; book = empty }

-- the end of this name
abbrev pub end_at : Net → Name → Option Holder
end_at net x = end_named net.sets x

abbrev pub told_to : List MadeNote → Name → List EndNotice
told_to [] x = []
told_to (m ∷ ms) x = if same_name m.who x then m.told else told_to ms x

-- ---- how many overtakers are too many ----
-- the window that is told at an opening
abbrev pub opened_window : List EndNotice → Option ℕ
opened_window [] = None
opened_window (Opened window ∷ ns) = Some window
opened_window (n ∷ ns) = opened_window ns

abbrev pub allowance : Option ℕ → ℕ
allowance None = 0
allowance (Some window) = 256 - 2 * window

abbrev pub partner_allowance : Book → Option Name → ℕ
partner_allowance b None = 0
partner_allowance b (Some y) = allowance (opened_window (told_to b.made y))

-- how many overtakers are too many: by the window of that end of the circuit which a request has opened
abbrev pub allowance_at : Book → Name → ℕ
allowance_at b x = if was_asked b.made x then allowance (opened_window (told_to b.made x)) else partner_allowance b (partner b x)

-- a partner stays, and partners are two ends of which each is the other's
abbrev pub PartnersStay : Type 0
PartnersStay =
    (sets : List SetState) → AreStarts sets → (steps later : List Step) → AreSteps (steps ++ later)
    → Timely allowance_at empty (events_of sets (steps ++ later))
    → (x y : Name) → partner (net_run (begins sets) steps).book x ≡ Some y
    → (partner (net_run (begins sets) (steps ++ later)).book x ≡ Some y) × (partner (net_run (begins sets) steps).book y ≡ Some x) × (x ≢ y)

-- the windows that an end may have fit their allowance
abbrev pub WindowsFit : Type 0
WindowsFit = (w : ℕ) → 1 ≤ w → w ≤ 127 → 2 * w + allowance (Some w) ≤ 256

-- Then fewer than 128 overtakers are fewer than each circuit allows.
abbrev pub NarrowIsTimely : Type 0
NarrowIsTimely =
    (sets : List SetState) → AreStarts sets → AreNarrow sets → (steps : List Step) → AreSteps steps
    → Timely (λ b x. 128) empty (events_of sets steps) → Timely allowance_at empty (events_of sets steps)
