-- When all has happened to the members of stations, their nodes are as the stations have them.
use Rattle.std.proofs.Common.{◌≡◌, ◌≢◌, ◌∙◌, ◌-◌, ◌<◌, ◌≤◌, ℕ, refl, sym, ap, arith, List, [], ◌∷◌, ◌++◌, length, map, Bool, true, false, cond}
use Rattle.std.proofs.lemmas.Bool.Decides.{nat_tests}
use Rattle.std.specs.Prelude.{◌==◌, nat_lt, slice_get, Option, Some, None}
use Rattle.std.specs.Option.{option_map}
use Rattle.node_core.specs.Bridged.{Input, after, after_all}
use Rattle.node_core.specs.Configs.{hosting_node}
use Rattle.node_core.specs.declared.config.NodeConfig.{NodeConfig}
use Rattle.node_model.specs.States.{NodeState}
use Rattle.station_members.specs.Laws.{AreNodes, MembersAreNodes, inputs_of}
use Rattle.station_members.specs.Places.{at_place}
use Rattle.station_members.specs.States.{State}
use Rattle.station_laws.specs.Happenings.{Happening, Station, given_in, inputs_to, made_in, nodes_after, nodes_in, started_in, state_of}
use Rattle.station_laws.specs.Laws.{NodesAreTheirs}
use Rattle.station_laws.proofs.Lists.{get_behind, get_front, get_map, get_some, place_beside, place_here, same_list}

-- ---- one node, by what happens to it

none_given : (o : Option NodeState) → o ≡ option_map (after_all []) o
none_given None = refl
none_given (Some n) = refl

one_given : (i : Input) (is : List Input) (o : Option NodeState) → option_map (after_all is) (option_map (after i) o) ≡ option_map (after_all (i ∷ is)) o
one_given i is None = refl
one_given i is (Some n) = refl

node_by : (b : Bool) (h : Happening) (is : List Input) (ns : List NodeState) (n : ℕ) → h.member == n ≡ b
    → option_map (after_all is) (slice_get (at_place h.member (after h.input) ns) n) ≡ option_map (after_all (cond b (h.input ∷ is) is)) (slice_get ns n)
node_by true h is ns n e =
    let same : h.member ≡ n = grind (arith, nat_tests, e) in
    ap (λ m. option_map (after_all is) (slice_get (at_place m (after h.input) ns) n)) same
    ∙ (ap (option_map (after_all is)) (place_here ns n (after h.input)) ∙ one_given h.input is (slice_get ns n))
node_by false h is ns n e =
    let apart : h.member ≢ n = (λ same. (let bad : ⊥ = grind (arith, nat_tests, e, same) in bad)) in
    ap (option_map (after_all is)) (place_beside ns h.member n (after h.input) apart)

node_after : (hs : List Happening) (ns : List NodeState) (n : ℕ) → slice_get (nodes_after hs ns) n ≡ option_map (after_all (inputs_to n hs)) (slice_get ns n)
node_after [] ns n = none_given (slice_get ns n)
node_after (h ∷ hs) ns n =
    node_after hs (at_place h.member (after h.input) ns) n ∙ node_by (h.member == n) h (inputs_to n hs) ns n refl

-- ---- one node, by its station

node_of : (s : State) → AreNodes s → (n : ℕ) → n < length s.nodes
    → slice_get s.nodes n ≡ option_map (after_all (inputs_of n s.given)) (option_map hosting_node (slice_get s.made n))
node_of s are n low =
    let all = are.all in
    let made : (c : NodeConfig) × (slice_get s.made n ≡ Some c) = get_some s.made n (omega (arith, low, all)) in
    are.each n made.0 made.1 ∙ sym (ap (λ o. option_map (after_all (inputs_of n s.given)) (option_map hosting_node o)) made.1)

front_is : (s : State) (cs : List NodeConfig) (ns : List NodeState) → AreNodes s → (n : ℕ) → n < length s.nodes
    → slice_get (s.nodes ++ ns) n ≡ option_map (after_all (inputs_of n s.given)) (slice_get (map hosting_node (s.made ++ cs)) n)
front_is s cs ns are n low =
    let all = are.all in
    get_front s.nodes ns n low
    ∙ (node_of s are n low
    ∙ sym (ap (option_map (after_all (inputs_of n s.given))) (get_map hosting_node (s.made ++ cs) n
    ∙ ap (option_map hosting_node) (get_front s.made cs n (omega (arith, low, all))))))

behind_is : (s : State) (cs : List NodeConfig) (ns : List NodeState) (is : List Input) → AreNodes s → (n : ℕ) → length s.nodes ≤ n
    → slice_get ns (n - length s.nodes) ≡ option_map (after_all is) (slice_get (map hosting_node cs) (n - length s.nodes))
    → slice_get (s.nodes ++ ns) n ≡ option_map (after_all is) (slice_get (map hosting_node (s.made ++ cs)) n)
behind_is s cs ns is are n high same =
    let all = are.all in
    let started : slice_get (map hosting_node (s.made ++ cs)) n ≡ slice_get (map hosting_node cs) (n - length s.nodes) =
    get_map hosting_node (s.made ++ cs) n
    ∙ (ap (option_map hosting_node) (get_behind s.made cs n (omega (arith, high, all)) ∙ ap (λ k. slice_get cs (n - k)) all)
    ∙ sym (get_map hosting_node cs (n - length s.nodes)))
    in
    get_behind s.nodes ns n high ∙ (same ∙ sym (ap (option_map (after_all is)) started))

node_in : MembersAreNodes → (ss : List Station) (n : ℕ) → slice_get (nodes_in ss) n ≡ option_map (after_all (given_in n ss)) (slice_get (started_in ss) n)
node_in law [] n = refl
node_in law (s ∷ ss) n = by (nat_lt n (length (state_of s).nodes)) refl (node_in law ss (n - length (state_of s).nodes))
  where
    by : (b : Bool) → nat_lt n (length (state_of s).nodes) ≡ b
        → slice_get (nodes_in ss) (n - length (state_of s).nodes) ≡ option_map (after_all (given_in (n - length (state_of s).nodes) ss)) (slice_get (started_in ss) (n - length (state_of s).nodes))
        → slice_get ((state_of s).nodes ++ nodes_in ss) n
        ≡ option_map (after_all (cond b (inputs_of n (state_of s).given) (given_in (n - length (state_of s).nodes) ss))) (slice_get (map hosting_node ((state_of s).made ++ made_in ss)) n)
    by true e rest = front_is (state_of s) (made_in ss) (nodes_in ss) (law s.ports s.deny s.moves) n (grind (arith, nat_tests, e))
    by false e rest =
        behind_is (state_of s) (made_in ss) (nodes_in ss) (given_in (n - length (state_of s).nodes) ss) (law s.ports s.deny s.moves) n (grind (arith, nat_tests, e)) rest

pub nodes_are_theirs : MembersAreNodes → NodesAreTheirs
nodes_are_theirs law stations all are =
    same_list (nodes_after all (started_in stations)) (nodes_in stations)
    (λ n.
    node_after all (started_in stations) n
    ∙ (ap (λ is. option_map (after_all is) (slice_get (started_in stations) n)) (are n) ∙ sym (node_in law stations n)))
