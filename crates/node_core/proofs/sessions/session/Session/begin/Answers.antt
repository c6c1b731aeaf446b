use Rattle.std.proofs.Common.{refl, arith}
use Rattle.node_core.proofs.Placing.{few_taken}
use Rattle.node_core.proofs.sessions.session.Session.begin.Goals as goal

pub returns : goal.returns
returns c = rw (← c.self.view_is, few_taken c.args.text.items 8192 (omega (arith, c.if-prove.false, c.len-fits.ensures.value))) refl
