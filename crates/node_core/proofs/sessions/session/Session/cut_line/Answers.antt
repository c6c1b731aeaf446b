use Rattle.std.proofs.Common.{◌≡◌, ◌∙◌, sym, ap, arith, drop, length, length-drop}
use Rattle.node_model.specs.Sessions.{Session}
use Rattle.node_core.proofs.sessions.session.Session.cut_line.Goals as goal

pub overflow_add-self : goal.overflow_add-self
overflow_add-self c =
    let rest : c.rest.result.now ≡ drop c.self.inside.done c.self.inside.text.items = c.rest.ensures ∙ sym (ap (λ (s : Session). s.rest) c.self.view_is) in
    let same = ap (λ xs. length xs) rest in
    let len = length-drop c.self.inside.done c.self.inside.text.items in
    omega (arith, same, len, c.line_size-size.ensures.most, c.self.invariant, c.if-prove.false, c.len-fits.ensures.value)
