use Rattle.std.proofs.Common.{◌≡◌, ◌-◌, ◌∙◌, ℕ, List, ap, drop, length, subst, sym}
use Rattle.text_lines.specs.UserLines.{behind_line}
use Rattle.station_sessions.specs.Sessions.{Session}
use Rattle.station_users.proofs.Lines.{behind_drop}
use Rattle.station_users.proofs.texts.cut_line.Goals as goal

pub returns : goal.returns
returns c =
    let rest = c.args.session.now.rest in
    let size : c.line_size-size.result ≡ length rest - length (behind_line rest)
    = c.line_size-size.ensures.size ∙ ap (λ t. length t - length (behind_line t)) c.rest.ensures in
    let is : drop c.line_size-size.result rest ≡ behind_line rest = subst (λ n. drop n rest ≡ behind_line rest) (sym size) (behind_drop rest) in
    let with_rest : List ℕ → Session = λ r. record c.args.session.now { rest = r } in
    c.cut.ensures ∙ ap with_rest is
