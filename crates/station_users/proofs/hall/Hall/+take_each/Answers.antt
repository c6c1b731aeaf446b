use Rattle.std.proofs.Common.{◌≡◌, ◌≤◌, ◌-◌, ◌∙◌, ℕ, List, [], ◌∷◌, length, take, drop, get_or, sym, ap, subst, arith}
use Rattle.std.specs.Prelude.{◌||◌}
use Rattle.std.proofs.lemmas.List.{take_rest}
use Rattle.radio_base.specs.declared.moment.Moment.{Moment}
use Rattle.ax_address.specs.Callsign.{Callsign}
use Rattle.station_users.specs.Standing.{HallStands}
use Rattle.station_users.specs.States.{UsersState}
use Rattle.station_users.specs.Unclaimed.{take_each, take_link_text, takes_any, takes_link_text}
use Rattle.station_users.proofs.hall.Hall.+take_each.Goals as goal

-- the first peer, and then the others
takes_next : (member : ℕ) (now : Moment) (peers : List Callsign) (peer : Callsign) (u : UsersState) → 1 ≤ length peers → peer ≡ get_or peers 0 peer
    → take_each member now peers u ≡ take_each member now (take (length peers - 1) (drop 1 peers)) (take_link_text member now peer u)
takes_next member now [] peer u some is = absurd (omega (arith, some))
takes_next member now (p ∷ ps) peer u some is =
    ap (λ (q : Callsign). take_each member now ps (take_link_text member now q u)) (sym is)
    ∙ sym (ap (λ (others : List Callsign). take_each member now others (take_link_text member now peer u)) (take_rest (p ∷ ps) 1))

says_next : (member : ℕ) (now : Moment) (peers : List Callsign) (peer : Callsign) (u : UsersState) → 1 ≤ length peers → peer ≡ get_or peers 0 peer
    → takes_any member now peers u
    ≡ (takes_link_text member now peer u || takes_any member now (take (length peers - 1) (drop 1 peers)) (take_link_text member now peer u))
says_next member now [] peer u some is = absurd (omega (arith, some))
says_next member now (p ∷ ps) peer u some is =
    ap (λ (q : Callsign). takes_link_text member now q u || takes_any member now ps (take_link_text member now q u)) (sym is)
    ∙ sym (ap (λ (others : List Callsign). takes_link_text member now peer u || takes_any member now others (take_link_text member now peer u))
    (take_rest (p ∷ ps) 1))

pub returns-in_ok-others-in-len1-up-clause-goes : goal.returns-in_ok-others-in-len1-up-clause-goes
returns-in_ok-others-in-len1-up-clause-goes t c = λ u s.
    subst (λ v. HallStands c.take_each.new.self v)
    (sym (takes_next c.args.member c.args.turn.moment c.args.peers.now c.peer-item.result u c.in-len1-up.len_at_least c.peer-item.is))
    (c.in_ok-others-in-len1-up.ensures.goes _ (c.in_ok-dropped-in-len1-up.ensures.goes u s))

pub returns-in_ok-others-in-len1-up-clause-dropped : goal.returns-in_ok-others-in-len1-up-clause-dropped
returns-in_ok-others-in-len1-up-clause-dropped t c = λ u s.
    let member = c.args.member in
    let now = c.args.turn.moment in
    let peer = c.peer-item.result in
    let others = c.in_ok-others-in-len1-up.ensures.dropped _ (c.in_ok-dropped-in-len1-up.ensures.goes u s) in
    ap (λ b. b || c.in_ok-others-in-len1-up.others) (c.in_ok-dropped-in-len1-up.ensures.dropped u s)
    ∙ (ap (λ b. takes_link_text member now peer u || b) others
    ∙ sym (says_next member now c.args.peers.now peer u c.in-len1-up.len_at_least c.peer-item.is))
