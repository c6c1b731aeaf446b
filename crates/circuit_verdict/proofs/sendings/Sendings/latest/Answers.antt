use Rattle.std.proofs.Common.{◌≡◌, ◌∙◌, refl, rules, arith}
use Rattle.std.specs.BTreeMap.{get}
use Rattle.circuit_verdict.specs.Sendings.{likeness_cmp}
use Rattle.circuit_verdict.proofs.Likenesses.{latest_found, latest_short}
use Rattle.circuit_verdict.proofs.sendings.Sendings.latest.Goals as goal

pub returns-then-datagram-lt-HEAD_SIZE : goal.returns-then-datagram-lt-HEAD_SIZE
returns-then-datagram-lt-HEAD_SIZE c place ss hs s = rw (latest_short ss c.args.who.now c.args.datagram.now (omega arith)) refl

pub returns : goal.returns
returns c place ss hs s =
    let key = c.in_ok-likeness.likeness in
    let found : c.copied.result ≡ get likeness_cmp c.args.self.now.latest key = search rules in
    found ∙ s.latest key
    ∙ rw (c.in_ok-likeness.ensures.who, c.in_ok-likeness.ensures.octets) (latest_found ss c.args.who.now c.args.datagram.now (omega arith))
