-- Who an end is stays: its role, its pair, its partner's pair, its settings and its window, in each step but the taking of an Accept.
use Rattle.std.specs.Prelude.{◌≡◌, ℕ, Bool, true, false, refl, min}
use Rattle.circuit_l4.specs.declared.transport.Transport.{Transport}
use Rattle.circuit_l4.specs.declared.transport.Transport.TheVariants.{Accept, Request, Refuse, Disconnect, Disconnected, Info, InfoAck}
use Rattle.circuit_l4.specs.State.{State, Effect, begin}
use Rattle.circuit_l4.specs.Table.{Input, Arrive, step, common_window, arrive_in, come_up, Write, Tick, Close, Take}
use Rattle.circuit_table.proofs.Lasting.{lasts}
use Rattle.circuit_table.proofs.Choices.{names, Named}
use Rattle.std.proofs.Common.{ap}
use Rattle.radio_base.specs.declared.modulus.TheConstants.{COUNT_MAX}
use Rattle.circuit_l4.specs.declared.pair.Pair.{Pair}
use Rattle.circuit_l4.specs.declared.phase.EndPhase.{EndPhase}
use Rattle.circuit_l4.specs.declared.phase.EndPhase.TheVariants.{Connecting, Up, Closing, Ended}
use Rattle.circuit_l4.specs.declared.notice.EndNotice.TheVariants.{Opened}
use Rattle.circuit_l4.specs.Moves.{on_state, begin_to_close, is_done, note}
use Rattle.circuit_l4.proofs.Parts.{either_going}
use Rattle.circuit_table.specs.Sets.{Call, Closes, Takes, Ticks, Writes, input_of}

abbrev pub is_accept : Transport → Bool
is_accept (Accept to own window) = true
is_accept _ = false

abbrev pub AcceptsNone : Input → Type 0
AcceptsNone (Arrive t) = is_accept t ≡ false
AcceptsNone _ = Unit {0}

-- each step but the taking of an Accept leaves who the end is
pub step_same : (s : State) (i : Input) (now : ℕ) → AcceptsNone i → names (step s i now).end ≡ names s
step_same s i now h =
    lasts (λ c d. d.named ≡ c.named) (λ c. refl) (λ c d k e. e) (λ c d p e. e) AcceptsNone (λ s to own window now e. absurd (cc e)) (λ s r a. refl) s i now h

-- an end keeps its role, its pair and its settings whatever comes
pub record SameEnd (s t : State) : Type 0 where
  pub role : t.role ≡ s.role
  pub pair : t.pair ≡ s.pair
  pub config : t.config ≡ s.config

by_names : (s t : State) → names t ≡ names s → SameEnd s t
by_names s t e = record { role = ap (λ (n : Named). n.role) e; pair = ap (λ (n : Named). n.pair) e; config = ap (λ (n : Named). n.config) e }

accept_same : (p : EndPhase) (s : State) (now : ℕ) (to own : Pair) (window : ℕ) → SameEnd s (arrive_in p now (Accept to own window) (begin s)).end
accept_same Connecting s now to own window =
    let g : Effect = note (Opened (common_window s.config.window window)) (on_state (come_up now own window) (begin s)) in
    either_going (λ h. SameEnd s h.end) (is_done g.end) (begin_to_close now g) g (record { role = refl; pair = refl; config = refl }) (record { role = refl; pair = refl; config = refl })
accept_same Up s now to own window = record { role = refl; pair = refl; config = refl }
accept_same Closing s now to own window = record { role = refl; pair = refl; config = refl }
accept_same Ended s now to own window = record { role = refl; pair = refl; config = refl }

pub arrival_same : (s : State) (t : Transport) (now : ℕ) → SameEnd s (step s (Arrive t) now).end
arrival_same s (Accept to own window) now = accept_same s.phase s (min now COUNT_MAX) to own window
arrival_same s (Refuse to) now = by_names s _ (step_same s (Arrive (Refuse to)) now refl)
arrival_same s (Request pair window user node) now = by_names s _ (step_same s (Arrive (Request pair window user node)) now refl)
arrival_same s (Disconnect to) now = by_names s _ (step_same s (Arrive (Disconnect to)) now refl)
arrival_same s (Disconnected to) now = by_names s _ (step_same s (Arrive (Disconnected to)) now refl)
arrival_same s (Info to tx rx flags text) now = by_names s _ (step_same s (Arrive (Info to tx rx flags text)) now refl)
arrival_same s (InfoAck to rx flags) now = by_names s _ (step_same s (Arrive (InfoAck to rx flags)) now refl)

pub call_names : (s : State) (call : Call) (now : ℕ) → names (step s (input_of call) now).end ≡ names s
call_names s (Writes m) now = step_same s (Write m) now tt
call_names s Ticks now = step_same s Tick now tt
call_names s Closes now = step_same s Close now tt
call_names s Takes now = step_same s Take now tt
