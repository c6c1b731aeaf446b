-- Texts are dropped until a link has none: each that is taken leaves fewer payloads that wait.
use Rattle.std.proofs.Common.{◌≡◌, ◌∙◌, ◌≤◌, ◌<◌, ◌-◌, ℕ, zero, suc, refl, sym, ap, arith, List, [], ◌∷◌, length}
use Rattle.std.specs.Prelude.{Bool, true, false, is_some, nat_lt, slice_get, if◌then◌else◌, Option, Some, None, Result, Ok, Err}
use Rattle.std.proofs.lemmas.Bool.Decides.{nat_tests}
use Rattle.std.proofs.lemmas.Option.{slice_get_within}
use Rattle.ax_address.specs.Callsign.{Callsign}
use Rattle.circuit_table.specs.Pumps.{TellsLess}
use Rattle.link_table.specs.Kept.{OffersLeave, TakesLower}
use Rattle.node_core.specs.Acts as acts
use Rattle.node_core.specs.Acts.{Answered, TakeText, UserAct}
use Rattle.node_core.specs.Bridged as inputs
use Rattle.node_core.specs.Inputs.{after_input, moment, turns_settle}
use Rattle.node_core.proofs.Coming.{pumped_came}
use Rattle.node_model.specs.Links as links
use Rattle.node_model.specs.Pumping as p
use Rattle.node_model.specs.Serving as serving
use Rattle.node_model.specs.States.{NodeState, Settings, State}
use Rattle.node_model.proofs.Parts.{noticed_payloads, taken as takes_one}
use Rattle.node_model.proofs.Resting.{pumped_dry}
use Rattle.node_model.proofs.Settled.{hosted_idle}
use Rattle.node_model.proofs.Turns.{settled_kept}
use Rattle.radio_base.specs.declared.moment.Moment.{Moment}
use Rattle.station_members.specs.Places.{at_place}
use Rattle.station_members.specs.States as states
use Rattle.station_places.specs.Laws.{IsEmptied, IsHost, LinksAreEmptied}
use Rattle.station_places.specs.Sides.{SidesState, act, node_at}
use Rattle.station_places.specs.Taking.{drop_texts, drop_up_to, take_from, taken, text_in}
use Rattle.station_sessions.specs.declared.place.Place.{Place}
use Rattle.station_sessions.specs.declared.place.Place.TheVariants.{Link}
use Rattle.station_places.proofs.Asking.{answered_at}

-- ---- the node that makes a step

got : {A : Type 0} (xs : List A) (at : ℕ) (f : A → A) (x : A) → slice_get xs at ≡ Some x → slice_get (at_place at f xs) at ≡ Some (f x)
got [] at f x e = absurd (cc e)
got (y ∷ ys) zero f x e = let same : y ≡ x = cc e in ap (λ z. Some (f z)) same
got (y ∷ ys) (suc at) f x e = got ys at f x e

acted_if : (now : Moment) (member : ℕ) (a : UserAct) (s : SidesState) (n : NodeState) → nat_lt member (length s.members.nodes) ≡ true
    → node_at member s ≡ Some n → node_at member (act now member a s) ≡ Some (inputs.after (inputs.Acts now.0 a) n)
unfolding states.give
acted_if now member a s n e here = rw e (got s.members.nodes member (inputs.after (inputs.Acts now.0 a)) n here)

acted : (now : Moment) (member : ℕ) (a : UserAct) (s : SidesState) (n : NodeState) → node_at member s ≡ Some n
    → node_at member (act now member a s) ≡ Some (inputs.after (inputs.Acts now.0 a) n)
acted now member a s n here =
    let h : member < length s.members.nodes = slice_get_within s.members.nodes member n here in
    acted_if now member a s n (grind (arith, nat_tests, h)) here

has_by : (b : Bool) (message text : List ℕ) → text_in (acts.answer_to_take_text b message) ≡ Some text → b ≡ true
has_by true message text e = refl
has_by false message text e = absurd (cc e)

-- ---- what turns leave

-- a node whose users are served by whoever holds it, over whose links so many payloads at most came and weren't taken
record Holds (most : ℕ) (n : State) : Type 0 where
  hosts : n.settings.hosts ≡ true
  prompt : n.settings.prompt ≡ false
  few : links.payloads n.links ≤ most

record At (member most : ℕ) (s : SidesState) : Type 0 where
  node : NodeState
  here : node_at member s ≡ Some node
  holds : Holds most node.station

module _ (offers : OffersLeave) (lower : TakesLower) (less : TellsLess) where
  turned : (now most : ℕ) (n : State) → Holds most n → Holds most (serving.turn now n).after
  turned now most n h =
      let noticed : State = serving.enter_notices n in
      let pumped : State = p.pump now noticed in
      let same : pumped.settings ≡ n.settings = (pumped_came now noticed).settings in
      let hosts : pumped.settings.hosts ≡ true = ap (λ (x : Settings). x.hosts) same ∙ h.hosts in
      let prompt : pumped.settings.prompt ≡ false = ap (λ (x : Settings). x.prompt) same ∙ h.prompt in
      let count : links.payloads pumped.links ≡ links.payloads n.links = (pumped_dry offers lower less now noticed).payloads ∙ noticed_payloads n.links in
      rw (hosted_idle offers lower less now pumped prompt hosts) (record { hosts = hosts; prompt = prompt; few = omega (arith, count, h.few) })

  settled : (now most : ℕ) (n : State) → Holds most n → Holds most (after_input now n)
  unfolding after_input
  settled now most n h = settled_kept (serving.turn now) (turns_settle now) (Holds most) (λ m i. turned now most m i) n h

  -- a text that was taken leaves fewer
  one_less : (member most : ℕ) (peer : Callsign) (now : Moment) (s : SidesState) (text : List ℕ) → At member most s → taken (Link member peer) now s ≡ Some text
      → (1 ≤ most) × At member (most - 1) (take_from (Link member peer) now s)
  one_less member most peer now s text a e =
      let n : NodeState = a.node in
      let m : ℕ = moment now.0 in
      let h = a.holds in
      let done : acts.do_act m (TakeText peer) n.station ≡ acts.take_text m peer n.station = rw h.hosts refl in
      let has : links.has_text peer n.station.links ≡ true =
      has_by (links.has_text peer n.station.links) (links.text_with peer n.station.links) text
      (sym (ap text_in (answered_at now member (TakeText peer) s n a.here ∙ ap (λ (x : Answered). x.answer) done)) ∙ e) in
      let fewer = takes_one offers lower less peer m n.station.links has in
      let few = h.few in
      let after : Holds (most - 1) (acts.take_text m peer n.station).node = record { hosts = h.hosts; prompt = h.prompt; few = omega (arith, fewer, few) } in (
        omega (arith, fewer, few),
        record {
          node = inputs.after (inputs.Acts now.0 (TakeText peer)) n;
          here = acted now member (TakeText peer) s n a.here;
          holds = settled m (most - 1) (acts.do_act m (TakeText peer) n.station).node (rw done after);
        },
      )

  emptied : (count most member : ℕ) (peer : Callsign) (now : Moment) (s : SidesState) → At member most s → most < count
      → IsEmptied (Link member peer) now s (drop_up_to count (Link member peer) now s)
  emptied zero most member peer now s a h = absurd (omega (arith, h))
  emptied (suc count) most member peer now s a h =
      by (taken (Link member peer) now s) refl (λ i j. emptied count (most - 1) member peer now (take_from (Link member peer) now s) i j)
    where
      next : SidesState
      next = take_from (Link member peer) now s

      by : (o : Option (List ℕ)) → taken (Link member peer) now s ≡ o
          → (At member (most - 1) next → most - 1 < count → IsEmptied (Link member peer) now next (drop_up_to count (Link member peer) now next))
          → IsEmptied (Link member peer) now s (if is_some o then drop_up_to count (Link member peer) now next else next)
      by None e rest = (0, (e, refl))
      by (Some text) e rest =
          let one = one_less member most peer now s text a e in
          let some = one.0 in
          let r = rest one.1 (omega (arith, some, h)) in
          (suc r.0, r.1)

  pub links_are_emptied : LinksAreEmptied
  unfolding drop_texts
  links_are_emptied member peer now s n here host few =
      let holds : Holds 65535 n.station = record { hosts = host.hosts; prompt = host.prompt; few = omega (arith, few) } in
      emptied 65536 65535 member peer now s (record { node = n; here = here; holds = holds }) (omega arith)
