use Rattle.std.proofs.Common.{◌∙◌, ap, drop, List, ℕ, Ok, Option, is_some, subst, sym}
use Rattle.std.proofs.lemmas.List.{take_rest}
use Rattle.l3_datagram.specs.declared.carrier.Offered.TheVariants.{Taken}
use Rattle.circuit_l4.specs.Transports.{transport_at}
use Rattle.circuit_table.specs.declared.untold.Untold.{Untold}
use Rattle.circuit_table.specs.Sets.{after_transport}
use Rattle.circuit_table.specs.Standing.{Gives}
use Rattle.circuit_table.proofs.Owning.{comes}
use Rattle.circuit_table.proofs.Pumping.{on_ok}
use Rattle.circuit_table.proofs.Turning.{held_stands, reads, takes_loud, takes_silent}
use Rattle.circuit_table.proofs.set.CircuitSet.hand_up.Goals as goal

pub returns-in-None-clause-takes : goal.returns-in-None-clause-takes
returns-in-None-clause-takes g c =
    let d = c.args.datagram in
    let t = c.in-Ok.transport in
    let mine = rw (← c.self.view_is) at c.requires.mine in
    rw (← c.self.view_is, c.requires.none) (
      Taken,
      λ log s stands st.
          let r = after_transport s c.args.origin d.items t c.args.now.0 in
          takes_silent g.C.Carrier.made g.met.C.Carrier.none_made _ log c.args.now.0 s stands st r _ c.receive.new.self
          (reads s c.self.inside.router.own c.args.origin d c.args.now.0 (Ok t) st.own mine (c.in-Ok.ensures.exact ∙ ap transport_at (take_rest c.as_slice.result.now 15) ∙ ap (λ (b : List ℕ). transport_at (drop 15 b)) c.as_slice.ensures.value))
          (comes s c.args.origin d.items t c.args.now.0) (subst (λ (o : Option Untold). Gives r o c.receive.new.self) c.in-None.is (c.in_ok-receive.ensures.gives s st.ends)),
    )

pub returns-in-Some-clause-takes : goal.returns-in-Some-clause-takes
returns-in-Some-clause-takes g c =
    let d = c.args.datagram in
    let t = c.in-Ok.transport in
    let mine = rw (← c.self.view_is) at c.requires.mine in
    rw (← c.self.view_is) (on_ok c.tell.result c.tell.ensures.tells (λ w. (
      w.0,
      λ log s stands st.
          let r = after_transport s c.args.origin d.items t c.args.now.0 in
          let gives = subst (λ (o : Option Untold). Gives r o c.receive.new.self) c.in-Some.is (c.in_ok-receive.ensures.gives s st.ends) in
          let same = comes s c.args.origin d.items t c.args.now.0 in
          takes_loud g.C.Carrier.made g.met.C.Carrier.none_made _ log c.args.now.0 s stands st r _ c.tell.new.self c.receive.new.self gives.0 gives.1 w.0 c.tell.new.told
          (reads s c.self.inside.router.own c.args.origin d c.args.now.0 (Ok t) st.own mine (c.in-Ok.ensures.exact ∙ ap transport_at (take_rest c.as_slice.result.now 15) ∙ ap (λ (b : List ℕ). transport_at (drop 15 b)) c.as_slice.ensures.value))
          gives.2
          (w.1 log r.set gives.0 gives.1 stands (held_stands g.C.Carrier.made g.met.C.Carrier.none_made _ log c.args.now.0 s stands st c.receive.new.self r.set gives.1 same gives.4) gives.3),
    )))

-- (written, since `search` takes seconds for each of these)
pub returns-in-None-clause-rests : goal.returns-in-None-clause-rests
returns-in-None-clause-rests g c = let lost = rw (← c.self.view_is) at c.requires.lost in λ none. (c.in_ok-receive.ensures.rests c.in-None.is, lost)

pub returns-in-None-clause-few : goal.returns-in-None-clause-few
returns-in-None-clause-few g c = rw (← c.self.view_is) (c.in_ok-receive.ensures.few)

pub returns-in-Some-clause-rests : goal.returns-in-Some-clause-rests
returns-in-Some-clause-rests g c = on_ok c.tell.result c.tell.ensures.told (λ some none. absurd (cc (sym some ∙ ap is_some none)))

pub returns-in-Some-clause-few : goal.returns-in-Some-clause-few
returns-in-Some-clause-few g c = rw (← c.self.view_is, c.tell.ensures.held) (on_ok c.tell.result c.tell.ensures.tells (λ tells. c.in_ok-receive.ensures.few))
