use Rattle.l3_datagram.specs.declared.carrier.Offered.TheVariants.{Taken}
use Rattle.circuit_table.specs.CircuitSets.{Circuits}
use Rattle.circuit_table.proofs.Asking.{asks_idle, asks_some, mid_stands, pick}
use Rattle.circuit_table.proofs.set.CircuitSet.ask_once.Goals as goal

pub returns-in_ok-take_in-in-Some-clause-asks : goal.returns-in_ok-take_in-in-Some-clause-asks
returns-in_ok-take_in-in-Some-clause-asks g c =
    let old : Circuits g.row.C.Denot = record { router = c.self.inside.router; held = c.self.inside.held; lost = c.self.inside.lost; spent = c.self.inside.spent } in
    let made = g.C.Carrier.made in
    let more = g.met.C.Carrier.more_made in
    let pumps = rw c.in-Some.is at c.in_ok-routed.ensures.pumps in
    let takes = c.in_ok-take_in-in-Some.ensures.takes in
    let same = c.in_ok-routed.ensures.same in
    let r = c.in-Some.routed in
    rw (← c.self.view_is) (
      pick r pumps.0 takes.0,
      λ log s stands st.
          let lost = g.C.Carrier.lost c.self.inside.router.carrier in
          let waiting = g.C.Carrier.waiting c.self.inside.router.carrier in
          asks_some made more old c.take_in.new.self c.pump.new.self log c.args.now.0 s st same lost waiting r pumps.0 takes.0 c.take_in.new.told (pumps.1 log stands)
          (λ log2 st2. takes.1 log2 s st2 (mid_stands made more old c.take_in.new.self c.pump.new.self log c.args.now.0 s st same)),
    )

pub returns-in-None-clause-asks : goal.returns-in-None-clause-asks
returns-in-None-clause-asks g c =
    let none = rw c.in-None.is at c.in_ok-routed.ensures.none in
    absurd (cc (c.is_idle.ensures.1 none, c.if-is_idle.false))

pub returns-then-is_idle-clause-asks : goal.returns-then-is_idle-clause-asks
returns-then-is_idle-clause-asks g c =
    let old : Circuits g.row.C.Denot = record { router = c.self.inside.router; held = c.self.inside.held; lost = c.self.inside.lost; spent = c.self.inside.spent } in
    let carrier = c.self.inside.router.carrier in
    let idle = c.is_idle.ensures.0 c.if-is_idle.true in
    rw (← c.self.view_is, c.requires.none) (
      Taken,
      λ log s stands st.
          asks_idle g.C.Carrier.made old log c.args.now.0 s Taken (g.C.Carrier.lost carrier) (g.C.Carrier.waiting carrier) idle.0 idle.1 (g.met.C.Carrier.none_made carrier) stands st,
    )
