-- What is left to do falls with each turn that follows an input and does something, so that the turns settle.
use Rattle.std.proofs.Common.{◌≡◌, ◌≤◌, ◌<◌, ◌∙◌, ℕ, zero, suc, refl, ap, arith, length, sym, slice_get, List, [], ◌∷◌}
use Rattle.std.specs.Prelude.{Bool, true, false, not, filter, None, if◌then◌else◌}
use Rattle.ax_address.specs.Callsign.{Callsign}
use Rattle.circuit_table.specs.Pumps.{TellsLess}
use Rattle.link_table.specs.Kept.{OffersLeave, TakesLower}
use Rattle.node_model.specs.Links as links
use Rattle.node_model.specs.Pumping as p
use Rattle.node_model.specs.Serving as serving
use Rattle.node_model.specs.Sessions.{Session}
use Rattle.node_model.specs.States.{State, at_sessions}
use Rattle.node_model.specs.Turns.{Settled, Turn, idle}
use Rattle.circuit_table.proofs.ByInputs.{tells_less}
use Rattle.link_table.proofs.Payloads.{offers_leave, takes_lower}
use Rattle.node_model.proofs.Falling.{ServesAll, sessions_served}
use Rattle.node_model.proofs.Parts.{noticed_payloads, untaken}
use Rattle.node_model.proofs.Resting.{drop_falls, dropped_none, dry_is_quiet, or_false, pumped_dry, Quiet, quiet_is, quiet_pumped, same_entries}
use Rattle.node_model.proofs.Texting.{text_leaves_less}
use Rattle.node_model.proofs.Turns.{Falls, goes_on, kept, settles_where}
use Rattle.node_model.proofs.Weights as weights
use Rattle.node_model.proofs.Weights.{work}
use Rattle.node_model.proofs.Working.{links_less, pumped_below}

drop_set : (now : ℕ) (o n : State) (peers : List Callsign) → n.set ≡ o.set → (serving.drop_first now peers n).after.set ≡ o.set
drop_set now o n [] e = e
drop_set now o n (peer ∷ peers) e = e

pub dropped_set : (now : ℕ) (n : State) → (serving.drop_texts now n).set ≡ n.set
dropped_set now n = kept (serving.drop_text now) (serving.payloads) (λ m. m.set ≡ n.set) (λ m e. drop_set now n m (serving.dropped_peers m) e) n refl

pub none_greeted : (n : State) → None ≡ slice_get (links.text_peers n.links) 0 → serving.greet_links n ≡ n
none_greeted n = by (links.text_peers n.links)
  where
    by : (peers : List Callsign) → None ≡ slice_get peers 0 → at_sessions (serving.greet_each n.settings.prompt peers) n ≡ n
    by [] e = refl
    by (peer ∷ peers) e = absurd (cc e)

-- where no text waits none is dropped
pub none_dropped : (n : State) → None ≡ slice_get (links.text_peers n.links) 0 → None ≡ slice_get (serving.dropped_peers n) 0
none_dropped n none = by n.settings.hosts
  where
    by : (b : Bool) → None ≡ slice_get (if b then [] else links.text_peers n.links) 0
    by true = refl
    by false = none

module _ (offers : OffersLeave) (takes : TakesLower) (less : TellsLess) where
  -- ---- texts that are dropped

  drop_if : (now bound : ℕ) (n : State) (peer : Callsign) (b : Bool) → links.has_text peer n.links ≡ b → work n ≤ bound → work (serving.drop_first now (peer ∷ []) n).after ≤ bound
  drop_if now bound n peer true e few = let x = text_leaves_less peer now n.links e in omega (arith, few, x)
  drop_if now bound n peer false e few = rw (untaken peer now n.links e) few

  drop_most : (now bound : ℕ) (n : State) (peers : List Callsign) → work n ≤ bound → work (serving.drop_first now peers n).after ≤ bound
  drop_most now bound n [] few = few
  drop_most now bound n (peer ∷ peers) few = drop_if now bound n peer (links.has_text peer n.links) refl few

  drop_less : (now : ℕ) (n : State) (peers : List Callsign) → (serving.drop_first now peers n).did ≡ true → work (serving.drop_first now peers n).after < work n
  drop_less now n [] e = absurd (cc e)
  drop_less now n (peer ∷ peers) e = let x = text_leaves_less peer now n.links e in omega (arith, x)

  dropped_most : (now bound : ℕ) (n : State) → work n ≤ bound → work (serving.drop_texts now n) ≤ bound
  dropped_most now bound n few = kept (serving.drop_text now) serving.payloads (λ m. work m ≤ bound) (λ m f. drop_most now bound m (serving.dropped_peers m) f) n few

  texts_dropped : (now : ℕ) (n : State) → ServesAll n (serving.drop_turn now n)
  texts_dropped now n = record {
    most = dropped_most now (work n) n (omega arith);
    less = λ e.
        let m : State = (serving.drop_text now n).after in
        let one : work m < work n = drop_less now n (serving.dropped_peers n) e in
        let rest = dropped_most now (work m) m (omega arith) in
        rw (goes_on (serving.drop_text now) serving.payloads (drop_falls offers takes less now) n e) (omega (arith, one, rest));
    idle = λ e f g. (n.sessions, dropped_none offers takes less now n e);
  }

  -- ---- nobody is served

  abbrev dropping : Turn State → Turn State
  dropping t = record { did = t.did; after = serving.drop_over t.after }

  abbrev dropped : State → List Session → State
  dropped n ss = record n { sessions = filter (λ x. not (serving.is_over n x)) ss }

  abbrev left_with : State → List Session → State
  left_with n ss = record n { sessions = ss }

  sessions_idle : (now : ℕ) (n : State) → n.sessions ≡ [] → None ≡ slice_get (links.text_peers n.links) 0 → serving.serve_sessions now n ≡ idle n
  unfolding serving.serve_sessions
  sessions_idle now n e none =
      ap (serving.serve_greeted now) (none_greeted n none)
      ∙ (ap (λ (k : ℕ). dropping (serving.serve_each now 0 k n)) (ap length e)
      ∙ (ap (λ (ss : List Session). idle (dropped n ss)) e ∙ ap (λ (ss : List Session). idle (left_with n ss)) (sym e)))

  drop_idle : (now : ℕ) (n : State) → None ≡ slice_get (serving.dropped_peers n) 0 → serving.drop_turn now n ≡ idle n
  drop_idle now n none =
      let quiet : (serving.drop_text now n).did ≡ false = by (serving.dropped_peers n) none in
      rw (quiet, dropped_none offers takes less now n quiet) refl
    where
      by : (peers : List Callsign) → None ≡ slice_get peers 0 → (serving.drop_first now peers n).did ≡ false
      by [] e = refl
      by (peer ∷ peers) e = absurd (cc e)

  texts_idle : (now : ℕ) (n : State) → None ≡ slice_get (links.text_peers n.links) 0 → serving.drop_turn now n ≡ idle n
  texts_idle now n none = drop_idle now n (none_dropped n none)

  -- where whoever holds the node serves its users, serving them does nothing
  pub hosted_idle : (now : ℕ) (n : State) → n.settings.prompt ≡ false → n.settings.hosts ≡ true → serving.serve_users now n ≡ idle n
  hosted_idle now n unserved hosted =
      ap (λ b. if b then serving.serve_sessions now n else serving.drop_turn now n) unserved
      ∙ drop_idle now n (ap (λ b. slice_get (if b then [] else links.text_peers n.links) 0) (sym hosted))

  -- where there is no user and no text waits, serving the users does nothing
  pub users_idle : (now : ℕ) (n : State) → n.sessions ≡ [] → None ≡ slice_get (links.text_peers n.links) 0 → serving.serve_users now n ≡ idle n
  users_idle now n e none = by n.settings.prompt
    where
      by : (b : Bool) → (if b then serving.serve_sessions now n else serving.drop_turn now n) ≡ idle n
      by true = sessions_idle now n e none
      by false = texts_idle now n none

  pub users_served : (now : ℕ) (n : State) → ServesAll n (serving.serve_users now n)
  users_served now n = by n.settings.prompt
    where
      by : (b : Bool) → ServesAll n (if b then serving.serve_sessions now n else serving.drop_turn now n)
      by true = sessions_served offers takes less now n
      by false = texts_dropped now n

  -- ---- a turn

  most_one : (b : Bool) → weights.one_unless b < 2
  most_one true = omega arith
  most_one false = omega arith

  pumped : ℕ → State → State
  pumped now n = p.pump now (serving.enter_notices n)

  work_stays : (now : ℕ) (n : State) → work (pumped now n) ≤ work n
  unfolding pumped
  work_stays now n =
      let x = pumped_below offers takes less now (serving.enter_notices n) in
      let y = links_less n.links.pending.notices n.sessions in
      let z = noticed_payloads n.links in
      omega (arith, x.units, x.sessions, y, z)

  then_quiet : (now : ℕ) (n : State) (ss : List Session) → weights.is_quiet (record (pumped now n) { sessions = ss }) ≡ true
  unfolding pumped
  then_quiet now n ss =
      let dry = pumped_dry offers takes less now (serving.enter_notices n) in
      dry_is_quiet offers takes less (record (p.pump now (serving.enter_notices n)) { sessions = ss }) dry.notices dry.pending dry.router

  quiet_does_nothing : (now : ℕ) (n : State) → Quiet offers takes less n → (serving.serve_users now (p.pump now (serving.enter_notices n))).did ≡ false → (serving.turn now n).did ≡ false
  quiet_does_nothing now n q e =
      or_false offers takes less _ _ _ q.notices (rw (quiet_pumped offers takes less now n q) (same_entries offers takes less (serving.enter_notices n))) e

  turn_by : (now : ℕ) (n : State) (served quiet : Bool) → (serving.serve_users now (p.pump now (serving.enter_notices n))).did ≡ served → weights.is_quiet n ≡ quiet
      → (serving.turn now n).did ≡ true → weights.left (serving.turn now n).after < weights.left n
  unfolding pumped
  turn_by now n true quiet e f did =
      let b : State = p.pump now (serving.enter_notices n) in
      let x = users_served now b in
      let fewer = x.less e in
      let stay = work_stays now n in
      let most = most_one (weights.is_quiet (serving.serve_users now b).after) in
      omega (arith, fewer, stay, most)
  turn_by now n false true e f did =
      let none = quiet_does_nothing now n (quiet_is offers takes less n f) e in
      absurd (cc (did, none))
  turn_by now n false false e f did =
      let b : State = p.pump now (serving.enter_notices n) in
      let dry = pumped_dry offers takes less now (serving.enter_notices n) in
      let x = users_served now b in
      let y = x.idle e dry.pending dry.router in
      let quiet = then_quiet now n y.0 in
      let stay = work_stays now n in
      let most = x.most in
      let after : weights.is_quiet (serving.serve_users now b).after ≡ true = rw y.1 quiet in
      rw (after, f) (omega (arith, most, stay))

  -- each turn that does something leaves less to do
  pub turn_falls : (now : ℕ) → Falls (serving.turn now) weights.left
  turn_falls now n did = turn_by now n (serving.serve_users now (p.pump now (serving.enter_notices n))).did (weights.is_quiet n) refl refl did

  -- ---- nothing is untold after a turn

  served_told : (now nth k : ℕ) (n : State) → links.pending n.set ≡ 0 → links.pending (serving.serve_each now nth k n).after.set ≡ 0
  served_told now nth zero n e = e
  served_told now nth (suc k) n e =
      let m : State = (serving.serve_once now nth n).after in
      served_told now (suc nth) k (p.pump now m) (pumped_dry offers takes less now m).pending

  sessions_told : (now : ℕ) (n : State) → links.pending n.set ≡ 0 → links.pending (serving.serve_sessions now n).after.set ≡ 0
  unfolding serving.serve_sessions
  sessions_told now n e = let m : State = serving.greet_links n in served_told now 0 (length m.sessions) m e

  pub users_told : (now : ℕ) (n : State) → links.pending n.set ≡ 0 → links.pending (serving.serve_users now n).after.set ≡ 0
  users_told now n e = by n.settings.prompt
    where
      by : (b : Bool) → links.pending (if b then serving.serve_sessions now n else serving.drop_turn now n).after.set ≡ 0
      by true = sessions_told now n e
      by false = rw (dropped_set now n) e

  pub turn_told : (now : ℕ) (n : State) → links.pending (serving.turn now n).after.set ≡ 0
  turn_told now n = users_told now (p.pump now (serving.enter_notices n)) (pumped_dry offers takes less now (serving.enter_notices n)).pending

-- from each state the turns settle
pub turns_end : (now : ℕ) (n : State) → Settled (serving.turn now) n
turns_end now = settles_where (serving.turn now) weights.left (turn_falls offers_leave takes_lower tells_less now)
