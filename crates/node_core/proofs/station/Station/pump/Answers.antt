use Rattle.std.proofs.Common.{◌≡◌, ◌∙◌, arith, false, nat_lt, length, refl}
use Rattle.std.proofs.lemmas.Bool.Decides.{nat_tests}
use Rattle.node_model.specs.Pumping.{pump}
use Rattle.node_core.specs.Standing.{Holds}
use Rattle.node_core.proofs.Entering.{told_by_length}
use Rattle.node_core.proofs.Nodes.{pumped_told}
use Rattle.node_core.proofs.Leading.{nothing_lies}
use Rattle.node_core.proofs.station.Station.pump.Goals as goal

pub returns-then-is_idle-clause-did : goal.returns-then-is_idle-clause-did
returns-then-is_idle-clause-did c = λ n h.
    let s = c.args.self.now in
    let held : Holds s (pump c.args.now.0 n) = nothing_lies c.parts.ensures.offers c.parts.ensures.takes c.parts.ensures.less c.args.now.0 s n h (c.is_idle.ensures.pumps c.if-is_idle.true c.args.now.0) in
    let many = length s.entries.items in
    let same : false ≡ nat_lt many many = grind (arith, nat_tests) in
    same ∙ told_by_length s s n (pump c.args.now.0 n) many many h held refl refl

pub returns-then-is_idle-clause-goes : goal.returns-then-is_idle-clause-goes
returns-then-is_idle-clause-goes c = λ n h.
    nothing_lies c.parts.ensures.offers c.parts.ensures.takes c.parts.ensures.less c.args.now.0 c.args.self.now n h (c.is_idle.ensures.pumps c.if-is_idle.true c.args.now.0)

pub returns-then-is_idle-clause-told : goal.returns-then-is_idle-clause-told
returns-then-is_idle-clause-told c = λ n. pumped_told c.parts.ensures.offers c.parts.ensures.takes c.parts.ensures.less c.args.now.0 n
