use Rattle.std.proofs.Common.{◌≡◌, ℕ, ◌∙◌, subst}
use Rattle.circuit_l4.specs.Moves.{on_state, count_out, fill, fill_with, emit_infos}
use Rattle.circuit_l4.specs.Standing.{EndView, KeepsEffect, effect_of, view_of}
use Rattle.circuit_l4.proofs.Standings.{itself, standing}
use Rattle.circuit_l4.proofs.machine.Machine.fill.Goals as goal

pub returns-clause-does : goal.returns-clause-does
returns-clause-does c =
    let k : EndView = view_of c.args.self.now in
    let many : ℕ = c.fill_count-many.result in
    standing k _ (fill c.args.now) (λ s r a b.
    let sent : c.sent-sent.result ≡ s.sent = c.sent-sent.ensures ∙ a.sent in
    subst (λ (m : ℕ). KeepsEffect (view_of c.count_out.new.self) (fill_with c.args.now m (effect_of k s r))) (c.fill_count-many.ensures.exact s r a)
    (subst (λ (from : ℕ). KeepsEffect (view_of c.count_out.new.self) (on_state (count_out c.args.now many) (emit_infos from many (effect_of k s r))))
    sent (c.count_out.ensures.does _ (c.emit_infos.ensures.does _ (itself k s r a b)))))
