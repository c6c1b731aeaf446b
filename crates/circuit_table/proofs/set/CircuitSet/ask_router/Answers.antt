use Rattle.std.proofs.Common.{Bool, ◌∙◌, subst, sym}
use Rattle.circuit_table.specs.SetTurns.{IsAsked}
use Rattle.circuit_table.proofs.GoingOn.{is_none_by}
use Rattle.circuit_table.proofs.Looping.{begins, goes_on, idles, tells_it}
use Rattle.circuit_table.proofs.set.CircuitSet.ask_router.Goals as goal

pub loop-told-init : goal.loop-told-init
loop-told-init g c =
    let m = g.met.C.Carrier in (
      begins g.C.Carrier.made m.none_made m.more_made g.C.Carrier.lost g.C.Carrier.waiting c.args.self.now c.args.now.0 c.requires.rests c.requires.lost,
      c.requires.none,
    )

pub returns-then-is_some-clause-asks : goal.returns-then-is_some-clause-asks
returns-then-is_some-clause-asks g c =
    let m = g.met.C.Carrier in
    let e = c.in_ok-ask_once.ensures in
    tells_it g.C.Carrier.made m.none_made m.more_made g.C.Carrier.lost g.C.Carrier.waiting c.args.self.now c.loop-told.self c.args.now.0 c.loop-told.invariant.0 c.ask_once.new.self c.ask_once.new.told c.in_ok-ask_once.field-0
    (sym c.is_some.ensures ∙ c.if-is_some.true) e.asks e.asked

pub loop-told-preserved : goal.loop-told-preserved
loop-told-preserved g c =
    let m = g.met.C.Carrier in
    let e = c.in_ok-ask_once.ensures in
    let none = is_none_by c.ask_once.new.told (sym c.if-is_some.false ∙ c.is_some.ensures) in
    let quiet = e.rests none in
    let carrier = c.loop-told.self.router.carrier in (
      goes_on g.C.Carrier.made m.none_made m.more_made g.C.Carrier.lost g.C.Carrier.waiting c.args.self.now c.loop-told.self c.args.now.0 c.loop-told.invariant.0 c.ask_once.new.self c.ask_once.new.told none
          e.asks (subst (λ (b : Bool). IsAsked (g.C.Carrier.lost carrier) (g.C.Carrier.waiting carrier) c.ask_once.new.told b) c.if-branch.true e.asked) e.lost e.waiting quiet.0 quiet.1 e.router e.spent (e.falls c.if-branch.true),
      none,
    )

pub returns-clause-asks : goal.returns-clause-asks
returns-clause-asks g c =
    let m = g.met.C.Carrier in
    let e = c.in_ok-ask_once.ensures in
    let carrier = c.loop-told.self.router.carrier in
    idles g.C.Carrier.made m.none_made m.more_made g.C.Carrier.lost g.C.Carrier.waiting c.args.self.now c.loop-told.self c.args.now.0 c.loop-told.invariant.0 c.ask_once.new.self c.ask_once.new.told (e.idle c.if-branch.false)
    e.asks (subst (λ (b : Bool). IsAsked (g.C.Carrier.lost carrier) (g.C.Carrier.waiting carrier) c.ask_once.new.told b) c.if-branch.false e.asked)
