-- Each member is the node that was made, after all that it was given.
use Rattle.std.proofs.Common.{inl, inr, ◌⊎◌, ◌≡◌, ◌≢◌, ◌<◌, ◌≤◌, ◌∙◌, ℕ, zero, suc, refl, sym, ap, subst, List, [], ◌∷◌, ◌++◌, length, arith, Bool, true, false, cond}
use Rattle.std.proofs.lemmas.Bool.Decides.{nat_tests}
use Rattle.std.specs.Prelude.{Some, slice_get, ◌==◌, nat_lt}
use Rattle.ax_address.specs.Callsign.{Callsign}
use Rattle.radio_base.specs.declared.moment.Moment.{Moment}
use Rattle.link_table.specs.declared.written.Written.{Written}
use Rattle.node_core.specs.Bridged as nodes
use Rattle.node_core.specs.Bridged.{Input}
use Rattle.node_core.specs.Configs.{hosting_node}
use Rattle.node_core.specs.declared.config.NodeConfig.{NodeConfig}
use Rattle.node_model.specs.States.{NodeState}
use Rattle.station_members.specs.declared.config.MemberConfig.{MemberConfig}
use Rattle.station_members.specs.declared.routing.Parcel.{Parcel}
use Rattle.station_members.specs.declared.routing.Parcel.TheVariants.{Nothing, For, ForFellows}
use Rattle.station_members.specs.Desks as desks
use Rattle.station_members.specs.Desks.{Desk}
use Rattle.station_members.specs.Ports.{fetched}
use Rattle.station_members.specs.Waiting.{beacons_sent, held_sent}
use Rattle.station_members.specs.Laws.{IsNode, MembersAreNodes, inputs_of}
use Rattle.station_members.specs.Places.{at_place}
use Rattle.station_members.specs.States as states
use Rattle.station_members.specs.States.{Fellow, Given, Own, Port, Source, State, at_desk, each_from, give, given, new_state}
use Rattle.station_members.proofs.Keeping.{Keeps, always}
use Rattle.station_members.proofs.Places.{place_length}

-- ---- places

place_got : (ns : List NodeState) (at : ℕ) (f : NodeState → NodeState) (n : NodeState) → slice_get ns at ≡ Some n → slice_get (at_place at f ns) at ≡ Some (f n)
place_got [] at f n e = absurd (cc e)
place_got (m ∷ ns) zero f n e = let same : m ≡ n = cc e in ap (λ k. Some (f k)) same
place_got (m ∷ ns) (suc at) f n e = place_got ns at f n e

place_beside : (ns : List NodeState) (to at : ℕ) (f : NodeState → NodeState) → to ≢ at → slice_get (at_place to f ns) at ≡ slice_get ns at
place_beside [] to at f apart = refl
place_beside (m ∷ ns) zero zero f apart = absurd (apart refl)
place_beside (m ∷ ns) zero (suc at) f apart = refl
place_beside (m ∷ ns) (suc to) zero f apart = refl
place_beside (m ∷ ns) (suc to) (suc at) f apart = place_beside ns to at f (λ e. apart (ap suc e))

-- ---- what a node was given

inputs_cons : (b : Bool) (at : ℕ) (i : Input) (gs : List Given) (g : Given) (more : List Input) → inputs_of at (gs ++ g ∷ []) ≡ inputs_of at gs ++ more
    → cond b (i ∷ inputs_of at (gs ++ g ∷ [])) (inputs_of at (gs ++ g ∷ [])) ≡ cond b (i ∷ inputs_of at gs) (inputs_of at gs) ++ more
inputs_cons true at i gs g more e = ap (λ is. i ∷ is) e
inputs_cons false at i gs g more e = e

inputs_here : (at : ℕ) (gs : List Given) (g : Given) → g.to == at ≡ true → inputs_of at (gs ++ g ∷ []) ≡ inputs_of at gs ++ g.input ∷ []
inputs_here at [] g e = rw e refl
inputs_here at (h ∷ gs) g e = inputs_cons (h.to == at) at h.input gs g (g.input ∷ []) (inputs_here at gs g e)

no_more : (is : List Input) → is ++ [] ≡ is
no_more [] = refl
no_more (i ∷ is) = ap (λ js. i ∷ js) (no_more is)

inputs_there : (at : ℕ) (gs : List Given) (g : Given) → g.to == at ≡ false → inputs_of at (gs ++ g ∷ []) ≡ inputs_of at gs
inputs_there at gs g e = by gs ∙ no_more (inputs_of at gs)
  where
    by : (hs : List Given) → inputs_of at (hs ++ g ∷ []) ≡ inputs_of at hs ++ []
    by [] = rw e refl
    by (h ∷ hs) = inputs_cons (h.to == at) at h.input hs g [] (by hs)

after_more : (is : List Input) (i : Input) (n : NodeState) → nodes.after_all (is ++ i ∷ []) n ≡ nodes.after i (nodes.after_all is n)
after_more [] i n = refl
after_more (j ∷ is) i n = after_more is i (nodes.after j n)

-- ---- a node is given an input

node_by : (b : Bool) (to : ℕ) (from : Source) (i : Input) (s : State) (at : ℕ) (c : NodeConfig) → to == at ≡ b → IsNode s at c → IsNode (given to from i s) at c
node_by true to from i s at c e is =
    let g : Given = record { to = to; from = from; input = i } in
    let same : to ≡ at = grind (arith, nat_tests, e) in
    let n = nodes.after_all (inputs_of at s.given) (hosting_node c) in
    let got : slice_get (at_place at (nodes.after i) s.nodes) at ≡ Some (nodes.after i n) = place_got s.nodes at (nodes.after i) n is in
    let all : nodes.after_all (inputs_of at (s.given ++ g ∷ [])) (hosting_node c) ≡ nodes.after i n =
    ap (λ is. nodes.after_all is (hosting_node c)) (inputs_here at s.given g e) ∙ after_more (inputs_of at s.given) i (hosting_node c)
    in
    subst (λ k. slice_get (at_place k (nodes.after i) s.nodes) at ≡ Some (nodes.after_all (inputs_of at (s.given ++ g ∷ [])) (hosting_node c))) (sym same)
    (got ∙ sym (ap Some all))
node_by false to from i s at c e is =
    let g : Given = record { to = to; from = from; input = i } in
    let apart : to ≢ at = (λ same. (let bad : ⊥ = grind (arith, nat_tests, e, same) in bad)) in
    place_beside s.nodes to at (nodes.after i) apart
    ∙ (is ∙ sym (ap (λ is. Some (nodes.after_all is (hosting_node c))) (inputs_there at s.given g e)))

-- and nothing was given where no member stands
pub record Sound (s : State) : Type 0 where
  pub each : (at : ℕ) (c : NodeConfig) → slice_get s.made at ≡ Some c → IsNode s at c
  pub all : length s.made ≡ length s.nodes
  pub none : (at : ℕ) → length s.nodes ≤ at → inputs_of at s.given ≡ []

given_keeps : (to : ℕ) (from : Source) (i : Input) (s : State) → to < length s.nodes → Sound s → Sound (given to from i s)
given_keeps to from i s low a = record {
  each = λ at c e. node_by (to == at) to from i s at c refl (a.each at c e);
  all = a.all ∙ sym (place_length s.nodes to (nodes.after i));
  none = λ at h.
      let same = place_length s.nodes to (nodes.after i) in
      let past : length s.nodes ≤ at = omega (arith, h, same) in
      let other : to == at ≡ false = grind (arith, nat_tests, low, past) in
      inputs_there at s.given (record { to = to; from = from; input = i }) other ∙ a.none at past;
}

give_by : (b : Bool) (to : ℕ) (from : Source) (i : Input) (s : State) → nat_lt to (length s.nodes) ≡ b → Sound s → Sound (cond b (given to from i s) s)
give_by true to from i s e a = given_keeps to from i s (grind (arith, nat_tests, e)) a
give_by false to from i s e a = a

gives : (to : ℕ) (from : Source) (i : Input) (s : State) → Sound s → Sound (give to from i s)
unfolding states.give
gives to from i s a = give_by (nat_lt to (length s.nodes)) to from i s refl a

works : (step : Desk → Desk) (s : State) → Sound s → Sound (at_desk step s)
works step s a = record { each = a.each; all = a.all; none = a.none }

-- ---- a frame of a member goes

delivers_by : (b : Bool) (from to : ℕ) (i : Input) (s : State) → Sound s → Sound (cond b s (give to (Fellow from) i s))
delivers_by true from to i s a = a
delivers_by false from to i s a = gives to (Fellow from) i s a

delivers_all : (now : Moment) (from : ℕ) (octets : List ℕ) (at left : ℕ) (s : State) → Sound s → Sound (each_from (states.deliver_to now from octets) at left s)
delivers_all now from octets at zero s a = a
delivers_all now from octets at (suc left) s a =
    delivers_all now from octets (suc at) left _ (delivers_by (at == from) from at (states.frame_in now octets) s a)

delivers : (now : Moment) (from : ℕ) (parcel : Parcel) (s : State) → Sound s → Sound (states.deliver now from parcel s)
delivers now from Nothing s a = a
delivers now from (For to octets) s a = gives to (Fellow from) (states.frame_in now octets) s a
delivers now from (ForFellows octets) s a = delivers_all now from octets 0 (length s.nodes) s a

sends : (now : Moment) (from : ℕ) (w : Written) (s : State) → Sound s → Sound (states.send_one now from w s)
unfolding states.send_one
sends now from w s a = delivers now from _ _ (record { each = a.each; all = a.all; none = a.none })

-- ---- one member more

last_got : {A : Type 0} (xs : List A) (x : A) (at : ℕ) (y : A) → slice_get (xs ++ x ∷ []) at ≡ Some y → (slice_get xs at ≡ Some y) ⊎ ((at ≡ length xs) × (x ≡ y))
last_got [] x zero y e = inr (refl, cc e)
last_got [] x (suc at) y e = absurd (cc e)
last_got (z ∷ xs) x zero y e = inl e
last_got {A} (z ∷ xs) x (suc at) y e = by (last_got xs x at y e)
  where
    by : (slice_get xs at ≡ Some y) ⊎ ((at ≡ length xs) × (x ≡ y)) → (slice_get xs at ≡ Some y) ⊎ ((suc at ≡ suc (length xs)) × (x ≡ y))
    by (inl f) = inl f
    by (inr f) = inr (ap suc f.0, f.1)

front_got : {A : Type 0} (xs : List A) (x : A) (at : ℕ) (y : A) → slice_get xs at ≡ Some y → slice_get (xs ++ x ∷ []) at ≡ Some y
front_got [] x at y e = absurd (cc e)
front_got (z ∷ xs) x zero y e = e
front_got (z ∷ xs) x (suc at) y e = front_got xs x at y e

new_got : {A : Type 0} (xs : List A) (x : A) → slice_get (xs ++ x ∷ []) (length xs) ≡ Some x
new_got [] x = refl
new_got (z ∷ xs) x = new_got xs x

one_longer : {A : Type 0} (xs : List A) (x : A) → length (xs ++ x ∷ []) ≡ suc (length xs)
one_longer [] x = refl
one_longer (z ∷ xs) x = ap suc (one_longer xs x)

made_by : (c : MemberConfig) (s : State) (at : ℕ) (d : NodeConfig) → Sound s → (slice_get s.made at ≡ Some d) ⊎ ((at ≡ length s.made) × (c.node ≡ d))
    → slice_get (s.nodes ++ hosting_node c.node ∷ []) at ≡ Some (nodes.after_all (inputs_of at s.given) (hosting_node d))
made_by c s at d a (inl e) = front_got s.nodes (hosting_node c.node) at _ (a.each at d e)
made_by c s at d a (inr e) =
    let place : at ≡ length s.nodes = e.0 ∙ a.all in
    let past : length s.nodes ≤ at = omega (arith, place) in
    subst (λ k. slice_get (s.nodes ++ hosting_node c.node ∷ []) k ≡ Some (nodes.after_all (inputs_of at s.given) (hosting_node d))) (sym place)
    (new_got s.nodes (hosting_node c.node)
    ∙ (ap (λ f. Some (hosting_node f)) e.1 ∙ sym (ap (λ is. Some (nodes.after_all is (hosting_node d))) (a.none at past))))

makes : (c : MemberConfig) (s : State) → Sound s → Sound (states.made c s)
makes c s a = record {
  each = λ at d e. made_by c s at d a (last_got s.made c.node at d e);
  all = one_longer s.made c.node ∙ (ap suc a.all ∙ sym (one_longer s.nodes (hosting_node c.node)));
  none = λ at h. a.none at (let more = one_longer s.nodes (hosting_node c.node) in omega (arith, h, more));
}

kept : Keeps Sound
kept = record {
  own = λ to i s a. gives to Own i s a;
  port = λ to port i s a. gives to (Port port) i s a;
  notes = λ port hop now s a. works (desks.noted_at port hop now) s a;
  hears = λ at port h up s a. works (desks.hears_at at port h up) s a;
  ticks = λ at now s a. works (desks.ticked_at at now) s a;
  beacons = λ now s a. works (beacons_sent now) s a;
  held = λ at now s a. works (held_sent at now) s a;
  sends = sends;
  unnames = λ at peer s a. works (desks.unnamed_at at peer) s a;
  remembers = λ at call port s a. works (desks.remembers_at at call port) s a;
  beacon = λ c s a. works (desks.with_beacon c) s a;
  fetches = λ s a. works (desks.at_air fetched) s a;
  makes = λ c s room a. makes c s a;
}

begins : (ports : ℕ) (deny : List Callsign) → Sound (new_state ports deny)
begins ports deny = record { each = λ at c e. absurd (no_item at c e); all = refl; none = λ at h. refl }
  where
    no_item : (at : ℕ) (c : NodeConfig) → slice_get [] at ≡ Some c → ⊥
    no_item at c e = cc e

pub members_are_nodes : MembersAreNodes
members_are_nodes ports deny moves = let a = always kept begins ports deny moves in record { each = a.each; all = a.all }
