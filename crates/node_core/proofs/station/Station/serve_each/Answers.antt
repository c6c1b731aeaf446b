use Rattle.std.proofs.Common.{◌<◌, ◌≤◌, arith, length, refl, subst, sym}
use Rattle.node_model.specs.Serving.{serve, serve_all}
use Rattle.node_core.specs.Going.{HoldsTold}
use Rattle.node_core.proofs.Serving.{none_more, one_more, same_number}
use Rattle.node_core.proofs.station.Station.serve_each.Goals as goal

pub loop-nth-init : goal.loop-nth-init
loop-nth-init c = record {
  some = c.requires;
  stands = λ n t. (n, length n.sessions, t, omega arith, record { after = refl; did = refl });
}

pub loop-nth-preserved : goal.loop-nth-preserved
loop-nth-preserved c =
    let now = c.args.now.0 in
    let nth = c.loop-nth.nth in
    let some = c.loop-nth.invariant.some in
    record {
      some = ((serve now nth some.0).after, (c.in_ok-served.ensures some.0 some.1).stands);
      stands = λ n t.
          let i = c.loop-nth.invariant.stands n t in
          let x = c.in_ok-served.ensures i.0 i.2 in
          let number = same_number c.args.self.now n t.0 in
          let within : nth < length n.sessions = omega (arith, number, c.len-nth-end.ensures, c.args.self.now.sessions.ok.0, c.loop-nth-test.true) in
          let more = one_more now (serve_all now n) nth i.1 (length n.sessions) c.loop-nth.served _ i.0 i.3 within x.did_is i.4 in
          ((serve now nth i.0).after, more.0, x.stands, more.1, more.2);
    }

pub returns : goal.returns
returns c = λ n t.
    let now = c.args.now.0 in
    let i = c.loop-nth.invariant.stands n t in
    let number = same_number c.args.self.now n t.0 in
    let over : length n.sessions ≤ c.loop-nth.nth = omega (arith, number, c.len-nth-end.ensures, c.args.self.now.sessions.ok.0, c.loop-nth-test.false) in
    let whole = none_more now (serve_all now n) c.loop-nth.nth i.1 (length n.sessions) c.loop-nth.served i.0 i.3 over i.4 in
    record { did_is = sym whole.1; stands = subst (HoldsTold c.loop-nth.self) (sym whole.0) i.2 }
