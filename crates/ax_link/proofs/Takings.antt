-- What is taken in a clean run.
use Rattle.std.proofs.Common.{◌<◌, ℕ, List, [], ◌∷◌, ◌++◌, sym, ap, ◌∙◌, append_assoc}
use mathlib.Core.List.{IsPrefix, IsSuffix}
use Rattle.ax_link.specs.Runs.{Calls, Comes, Ends, EndsBounded, Event, Left, Lost, Right, Safe, Side, TakenIn, TakenSafe, arrives, at_left, called, happens, loses, new_ends, run, swap}
use Rattle.ax_link.specs.State.{Frame, Rules, State}
use Rattle.ax_link.specs.Table.{Input, Set_up, Send, Arrive, Tick, Close, Take}
use Rattle.ax_link.proofs.PutOut.{emptied}
use Rattle.ax_link.proofs.PutFrames.{bounds_stay}

called_bounds : (w : Ends) (i : Input) (now : ℕ) → EndsBounded w → EndsBounded (called w i now)
called_bounds w Set_up now b = record { left = bounds_stay w.left.link Set_up now b.left; right = b.right }
called_bounds w (Send p) now b = record { left = bounds_stay w.left.link (Send p) now b.left; right = b.right }
called_bounds w (Arrive f) now b = b
called_bounds w Tick now b = record { left = bounds_stay w.left.link Tick now b.left; right = b.right }
called_bounds w Close now b = record { left = bounds_stay w.left.link Close now b.left; right = b.right }
called_bounds w Take now b = record { left = bounds_stay w.left.link Take now b.left; right = b.right }

arrives_bounds : (w : Ends) (now : ℕ) (fs : List Frame) → EndsBounded w → EndsBounded (arrives w now fs)
arrives_bounds w now [] b = b
arrives_bounds w now (f ∷ fs) b = record { left = bounds_stay w.left.link (Arrive f) now b.left; right = b.right }

loses_bounds : (w : Ends) (fs : List Frame) → EndsBounded w → EndsBounded (loses w fs)
loses_bounds w [] b = b
loses_bounds w (f ∷ fs) b = record { left = b.left; right = b.right }

left_bounds : (w : Ends) (e : Event) → EndsBounded w → EndsBounded (at_left w e)
left_bounds w (Calls i now) b = called_bounds w i now b
left_bounds w (Comes now) b = arrives_bounds w now w.left.coming b
left_bounds w Lost b = loses_bounds w w.left.coming b

swapped_bounds : (w : Ends) → EndsBounded w → EndsBounded (swap w)
swapped_bounds w b = record { left = b.right; right = b.left }

happens_bounds : (w : Ends) (side : Side) (e : Event) → EndsBounded w → EndsBounded (happens w side e)
happens_bounds w Left e b = left_bounds w e b
happens_bounds w Right e b = swapped_bounds (at_left (swap w) e) (left_bounds (swap w) e (swapped_bounds w b))

pub run_bounds : (w : Ends) (events : List (Side × Event)) → EndsBounded w → EndsBounded (run w events)
run_bounds w [] b = b
run_bounds w (e ∷ es) b = run_bounds (happens w e.0 e.1) es (happens_bounds w e.0 e.1 b)

taken_in : (from to : State) → IsPrefix to.received from.given → IsSuffix to.inbox to.received → TakenIn from to
taken_in from to begun untaken =
    record {
      take_plain = untaken.0;
      rest = untaken.1;
      begun = (to.inbox ++ begun.0, sym (append_assoc untaken.0 to.inbox begun.0) ∙ ap (λ xs. xs ++ begun.0) untaken.1 ∙ begun.1);
    }

pub taken_safe : (w : Ends) → EndsBounded w → Safe w → TakenSafe w
taken_safe w b s =
    record { right = taken_in w.left.link w.right.link s.right_got b.right.untaken; left = taken_in w.right.link w.left.link s.left_got b.left.untaken }

pub new_bounds : (a b : Rules) → a.window < a.size → b.window < b.size → EndsBounded (new_ends a b)
new_bounds a b x y = record { left = emptied a x; right = emptied b y }
