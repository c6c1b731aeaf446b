use Rattle.std.proofs.Common.{ap, refl, sym}
use Rattle.circuit_l4.specs.Table.{note_activity}
use Rattle.circuit_l4.specs.Standing.{EndView, effect_of, view_of}
use Rattle.circuit_l4.proofs.Standings.{changes}
use Rattle.circuit_l4.proofs.machine.Machine.hear_info.Goals as goal

pub returns-clause-does : goal.returns-clause-does
returns-clause-does c = λ g h.
    let k : EndView = view_of c.args.self.now in
    c.on_info.ensures.does _ (changes k (record k { last_active = c.ms-self.result }) (note_activity c.args.now) refl refl (λ s r. ap (λ at. effect_of (record k { last_active = at }) s r) (sym c.ms-self.ensures.value)) g h)
