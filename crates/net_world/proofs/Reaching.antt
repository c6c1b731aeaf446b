-- Something reaches the node at a place.
use Rattle.std.proofs.Common.{◌≡◌, ◌<◌, ◌≤◌, ◌∙◌, ◌++◌, ℕ, sym, ap, subst, length, get_or}
use Rattle.std.specs.Prelude.{None, min, Result}
use Rattle.node_core.specs.declared.acts.ActDone.{ActDone}
use Rattle.node_core.specs.declared.acts.ActRefusal.{ActRefusal}
use Rattle.node_core.specs.Acts.{UserAct}
use Rattle.node_core.specs.Inputs.{act_answer, after_input, after_items, new_items, settled_act}
use Rattle.node_core.specs.Standing.{Kept, NodeStands}
use Rattle.node_core.specs.Broadcasts.{tick}
use Rattle.node_model.specs.States.{NodeState}
use Rattle.net_world.specs.Running.{Course, GoesOn, Stands, all_entries, change}
use Rattle.net_model.specs.Starting.{Placed}
use Rattle.net_model.specs.World.{Act, Bytes, Input, Time, World, after, answer, reach}
use Rattle.net_world.proofs.Entering.{reach_is}
use Rattle.net_model.proofs.Looks.{answers}
use Rattle.net_world.proofs.Placing.{at_place, changed, past_place, same_moment, with_node}
use Rattle.net_model.proofs.LineWalks.{reach_none}
use Rattle.net_model.specs.declared.members.Member.{Member}

-- ---- the code's time is the world's for a node

same_after : (now later : ℕ) (input : Input) (n : NodeState) → now ≡ min later 18446744073709551615 → after now input n ≡ after later input n
same_after now later (Bytes bytes) n e =
    ap (λ m. record n { stream = n.stream ++ bytes; station = after_items m (new_items n.stream bytes) n.station }) (same_moment now later e)
same_after now later Time n e = ap (λ m. record n { station = after_input m (tick m n.station) }) (same_moment now later e)
same_after now later (Act act) n e = ap (λ m. record n { station = (settled_act m act n.station).node }) (same_moment now later e)

stepped : (c : Course) (w : World) (at : ℕ) (input : Input) (before : Member) (n : Kept) → at < length c.left.members → Stands c w → before ≡ get_or c.left.members at before
    → ((s : NodeState) → NodeStands before.node s → NodeStands n (after c.now input s)) → Stands (with_node c at before n) (change at (after w.now input) w)
stepped c w at input before n h t here goes =
    changed c w at before n (after w.now input) h t here
    (λ s stands. subst (λ (m : NodeState). NodeStands n m) (same_after c.now w.now input s t.now) (goes s stands))

pub reached : (old new : Course) (line at : ℕ) (input : Input) (before : Member) (n : Kept) → at < length old.left.members → before ≡ get_or old.left.members at before
    → ((s : NodeState) → NodeStands before.node s → NodeStands n (after old.now input s))
    → GoesOn (with_node old at before n) new (all_entries line at) → GoesOn old new (reach line at input)
reached old new line at input before n h here goes told w t =
    subst (λ v. Stands new v) (reach_is line at input w) (told (change at (after w.now input) w) (stepped old w at input before n h t here goes))

-- ---- there is no such node

pub stays : (c : Course) (line at : ℕ) (input : Input) → length c.left.members ≤ at → GoesOn c c (reach line at input)
stays c line at input h w t = subst (λ v. Stands c v) (sym (reach_none line at input w (past_place c w at h t))) t

-- ---- what it answers

pub no_answer : (c : Course) (at : ℕ) (act : UserAct) (w : World) → length c.left.members ≤ at → Stands c w → answer at act w ≡ answers act w.now None
unfolding answer
no_answer c at act w h t = ap (answers act w.now) (past_place c w at h t)

pub answered : (c : Course) (at : ℕ) (act : UserAct) (w : World) (before : Member) (r : Result ActDone ActRefusal) → at < length c.left.members → Stands c w
    → before ≡ get_or c.left.members at before → ((s : NodeState) → NodeStands before.node s → r ≡ act_answer c.now act s) → answer at act w ≡ r
unfolding answer
answered c at act w before r h t here says =
    let place = at_place c.left.members w.nodes w.mails at before h t.trace.members in
    let p : Placed = place.placed in
    let said : r ≡ act_answer c.now act p.state = says p.state (subst (λ (m : Member). NodeStands m.node p.state) (sym here) place.stands) in
    let same : act_answer c.now act p.state ≡ act_answer w.now act p.state = ap (λ m. (settled_act m act p.state.station).answer) (same_moment c.now w.now t.now) in
    ap (answers act w.now) place.is_in ∙ sym (said ∙ same)
