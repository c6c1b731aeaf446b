-- What a step is made of, and the code that does it.
use Rattle.std.proofs.Common.{◌≡◌, ◌≤◌, ◌∙◌, ℕ, refl, sym, ap, subst, length, arith, Bool, true, false, cond}
use Rattle.std.proofs.lemmas.Bool.Decides.{nat_tests}
use Rattle.std.specs.Prelude.{nat_lt}
use Rattle.node_core.specs.Bridged.{Input, after}
use Rattle.station_members.specs.declared.backplane.Backplane.{Backplane}
use Rattle.station_members.specs.Desks.{Desk, desk_of}
use Rattle.station_members.specs.Nodes.{AllStand, NodesGo}
use Rattle.station_members.specs.Places.{at_place}
use Rattle.station_members.specs.Standing.{PlaneGoes}
use Rattle.station_members.specs.States.{Source, State, at_desk, give, given}
use Rattle.station_members.proofs.Places.{place_past}

-- where no member stands nothing is given, and no node changes
give_by : (b : Bool) (to : ℕ) (from : Source) (input : Input) (s : State) → nat_lt to (length s.nodes) ≡ b
    → (cond b (given to from input s) s).nodes ≡ at_place to (after input) s.nodes
give_by true to from input s e = refl
give_by false to from input s e = let past : length s.nodes ≤ to = grind (arith, nat_tests, e) in sym (place_past s.nodes to (after input) past)

pub give_nodes : (to : ℕ) (from : Source) (input : Input) (s : State) → (give to from input s).nodes ≡ at_place to (after input) s.nodes
unfolding give
give_nodes to from input s = give_by (nat_lt to (length s.nodes)) to from input s refl

give_desk_by : (b : Bool) (to : ℕ) (from : Source) (input : Input) (s : State) → (cond b (given to from input s) s).desk ≡ s.desk
give_desk_by true to from input s = refl
give_desk_by false to from input s = refl

pub give_desk : (to : ℕ) (from : Source) (input : Input) (s : State) → (give to from input s).desk ≡ s.desk
unfolding give
give_desk to from input s = give_desk_by (nat_lt to (length s.nodes)) to from input s

-- a node is given an input
pub gives : (old new : Backplane) (to : ℕ) (from : Source) (input : Input) → desk_of new.desk ≡ desk_of old.desk
    → NodesGo to (after input) old.nodes.items new.nodes.items → PlaneGoes (give to from input) old new
gives old new to from input same goes = λ s t. record {
  nodes = subst (λ ns. AllStand new.nodes.items ns) (sym (give_nodes to from input s)) (goes s.nodes t.nodes);
  desk = same ∙ (t.desk ∙ sym (give_desk to from input s));
}

-- something is done at the desk
pub works : (old new : Backplane) (step : Desk → Desk) → new.nodes.items ≡ old.nodes.items → desk_of new.desk ≡ step (desk_of old.desk)
    → PlaneGoes (at_desk step) old new
works old new step same goes = λ s t. record {
  nodes = subst (λ ks. AllStand ks s.nodes) (sym same) t.nodes;
  desk = goes ∙ ap step t.desk;
}
