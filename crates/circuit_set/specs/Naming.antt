-- To whom an end sends: what of it stands on time alone, and what on freshness alone.
use Rattle.std.specs.Prelude.{◌≡◌, ℕ, true, false, List, ◌++◌, Some, None}
use Rattle.circuit_table.specs.Sets.{Holder, SetState, is_open}
use Rattle.circuit_set.specs.Books.{Fresh, Timely, empty, partner}
use Rattle.circuit_table.specs.Events.{Name}
use Rattle.circuit_set.specs.NotedRuns.{Net, allowance_at, begins, end_at, net_run, opened_window, told_to}
use Rattle.circuit_table.specs.Runs.{AreStarts, AreSteps, Step, events_of}

-- it has a partner, and sends to its partner's pair
pub record SendsToPartner (net : Net) (x : Name) (h : Holder) : Type 0 where
  pub partner_is : Name
  pub met : partner net.book x ≡ Some partner_is
  pub end : Holder
  pub there : end_at net partner_is ≡ Some end
  pub to : h.end.to ≡ end.end.pair

-- At each moment of a timely run: so does each requester's end that was told that its circuit is open.
abbrev pub RequestersSend : Type 0
RequestersSend =
    (sets : List SetState) → AreStarts sets → (steps later : List Step) → AreSteps (steps ++ later) → Timely allowance_at empty (events_of sets (steps ++ later))
    → let net : Net = net_run (begins sets) steps in
    (x : Name) (h : Holder) → end_at net x ≡ Some h → h.asked ≡ None → (window : ℕ) → opened_window (told_to net.book.made x) ≡ Some window → SendsToPartner net x h

-- At each moment of a fresh run, timely or not: the pair of an open end's partner is that of no other end that the partner's node holds.
abbrev pub PairNamesOne : Type 0
PairNamesOne =
    (sets : List SetState) → AreStarts sets → (steps later : List Step) → AreSteps (steps ++ later) → Fresh empty (events_of sets (steps ++ later))
    → let net : Net = net_run (begins sets) steps in
    (x y z : Name) (h j k : Holder) → end_at net x ≡ Some h → is_open h ≡ true → partner net.book x ≡ Some y → end_at net y ≡ Some j
    → end_at net z ≡ Some k → k.gone ≡ false → z.node ≡ y.node → k.end.pair ≡ j.end.pair → z ≡ y
