use Rattle.std.proofs.Common.{◌∙◌, sym, arith}
use Rattle.circuit_set.proofs.Bridge.{same_names}
use Rattle.circuit_verdict.proofs.Heard.{overtakers_same, overtakers_apart}
use Rattle.circuit_verdict.proofs.sendings.Sendings.overtakers.Goals as goal

pub returns-then-eq : goal.returns-then-eq
returns-then-eq c last ss hs s =
    let same = same_names c.args.one.now c.args.other.now (sym c.eq.ensures ∙ c.if-eq.true) in
    c.heard_after-by_other.ensures.exact last ss hs s ∙ rw same (sym (overtakers_same hs ss c.args.other.now c.args.place))

pub returns : goal.returns
returns c last ss hs s =
    let apart = overtakers_apart hs ss c.args.one.now c.args.other.now c.args.place (sym c.eq.ensures ∙ c.if-eq.false) in
    let one_way = c.heard_after-by_other.ensures.exact last ss hs s in
    let other_way = c.heard_after.ensures.exact last ss hs s in
    omega (arith, apart, one_way, other_way)
