use Rattle.std.proofs.Common.{◌≡◌, ℕ, List, ap, sym, ◌∙◌, subst}
use Rattle.circuit_l4.specs.declared.piece.Piece.{Piece}
use Rattle.circuit_l4.specs.declared.transport.Transport.{Transport}
use Rattle.circuit_l4.specs.Table.{arrive_up, hear_info}
use Rattle.circuit_l4.specs.Standing.{KeepsEffect, view_of}
use Rattle.circuit_l4.proofs.machine.Machine.arrive_up.Goals as goal

pub returns-in-Info-clause-does : goal.returns-in-Info-clause-does
returns-in-Info-clause-does c = λ g h.
    let note_activity = c.in-Info in
    let piece : c.piece_of-piece.result ≡ record { text = note_activity.text; more = note_activity.flags.more } =
    c.piece_of-piece.ensures ∙ ap (λ (bytes : List ℕ). record { text = record { items = bytes }; more = note_activity.flags.more }) c.as_slice.ensures.value in
    subst (λ (t : Transport). KeepsEffect (view_of c.hear_info.new.self) (arrive_up c.args.now t g)) (sym note_activity.is)
    (subst (λ (p : Piece). KeepsEffect (view_of c.hear_info.new.self) (hear_info c.args.now note_activity.tx note_activity.rx note_activity.flags p g)) piece (c.hear_info.ensures.does g h))
