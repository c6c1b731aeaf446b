-- Nodes at their places.
use Rattle.std.proofs.Common.{◌≡◌, ◌<◌, ◌≤◌, ◌∙◌, ℕ, zero, suc, refl, sym, ap, subst, List, [], ◌∷◌, length, arith, get_or, set}
use Rattle.std.specs.Prelude.{Option, Some, None, min, slice_get, slice_set}
use Rattle.std.specs.List.{position_or_len}
use Rattle.std.proofs.lemmas.Option.{slice_get_past}
use Rattle.node_core.specs.Inputs.{moment}
use Rattle.node_core.specs.Standing.{Kept, NodeStands, entries_left, frames_left}
use Rattle.node_model.specs.States.{NodeState}
use Rattle.net_world.specs.Running.{Course, Stands, change, entries_at, frames_at}
use Rattle.net_model.specs.Starting.{Placed}
use Rattle.net_model.specs.Standing.{MembersStand, is_member}
use Rattle.net_model.specs.World.{World, place_of_node}
use Rattle.net_model.proofs.Looks.{change_of}
use Rattle.net_model.specs.declared.members.Member.{Member}
use Rattle.node_mail.specs.Lists.{Lists}
use Rattle.net_model.proofs.Stores.{all_declared, declared_place}

-- ---- the place of a number

pub place_is : (c : Course) (w : World) (number at : ℕ) → at ≡ position_or_len (is_member number) c.left.members → Stands c w → at ≡ place_of_node number w.nodes
place_is c w number at e t = e ∙ declared_place number c.left.members w.nodes (all_declared c.left.members w.nodes w.mails t.trace.members)

-- ---- the node at a place

-- the node there: in its place may stand another that is declared so, with the same mail
pub record AtPlace (ms : List Member) (ps : List Placed) (ss : List (Option Lists)) (at : ℕ) (before : Member) : Type 0 where
  pub placed : Placed
  pub is_in : slice_get ps at ≡ Some placed
  pub declared : (get_or ms at before).declared ≡ placed.declared
  pub stands : NodeStands (get_or ms at before).node placed.state
  pub replaced : (n : Kept) (p : Placed) → p.declared ≡ placed.declared → NodeStands n p.state
      → MembersStand (set ms at (record (get_or ms at before) { node = n })) (slice_set ps at p) ss

pub at_place : (ms : List Member) (ps : List Placed) (ss : List (Option Lists)) (at : ℕ) (before : Member) → at < length ms → MembersStand ms ps ss → AtPlace ms ps ss at before
at_place [] ps ss at before h stand = absurd (omega arith)
at_place (m ∷ ms) [] ss at before h stand = absurd stand
at_place (m ∷ ms) (p ∷ ps) [] at before h stand = absurd stand
at_place (m ∷ ms) (p ∷ ps) (s ∷ ss) zero before h stand = record {
  placed = p;
  is_in = refl;
  declared = stand.0.declared;
  stands = stand.0.node;
  replaced = λ n q same k. (record { declared = stand.0.declared ∙ sym same; node = k; mail = stand.0.mail }, stand.1);
}
at_place (m ∷ ms) (p ∷ ps) (s ∷ ss) (suc at) before h stand =
    let rest = at_place ms ps ss at before (omega arith) stand.1 in
    record { placed = rest.placed; is_in = rest.is_in; declared = rest.declared; stands = rest.stands; replaced = λ n q same k. (stand.0, rest.replaced n q same k) }

pub same_length : (ms : List Member) (ps : List Placed) (ss : List (Option Lists)) → MembersStand ms ps ss → length ms ≡ length ps
same_length [] [] ss stand = refl
same_length [] (p ∷ ps) ss stand = absurd stand
same_length (m ∷ ms) [] ss stand = absurd stand
same_length (m ∷ ms) (p ∷ ps) [] stand = absurd stand
same_length (m ∷ ms) (p ∷ ps) (s ∷ ss) stand = ap suc (same_length ms ps ss stand.1)

pub past_place : (c : Course) (w : World) (at : ℕ) → length c.left.members ≤ at → Stands c w → slice_get w.nodes at ≡ None
past_place c w at h t = let same = same_length c.left.members w.nodes w.mails t.trace.members in slice_get_past w.nodes at (omega arith)

-- ---- a step of the node at a place

abbrev pub with_members : Course → List Member → Course
with_members c members = record c { left = record c.left { members = members } }

-- the node at a place becomes this one
abbrev pub with_node : Course → ℕ → Member → Kept → Course
with_node c at before n = with_members c (set c.left.members at (record before { node = n }))

pub changed : (c : Course) (w : World) (at : ℕ) (before : Member) (n : Kept) (step : NodeState → NodeState) → at < length c.left.members → Stands c w
    → before ≡ get_or c.left.members at before → ((s : NodeState) → NodeStands before.node s → NodeStands n (step s))
    → Stands (with_node c at before n) (change at step w)
unfolding change
changed c w at before n step h t here goes =
    let place = at_place c.left.members w.nodes w.mails at before h t.trace.members in
    let p : Placed = place.placed in
    let q : Placed = record p { state = step p.state } in
    subst (λ o. Stands (with_node c at before n) (change_of at step o w)) (sym place.is_in)
    (record {
      trace = record {
        told = t.trace.told;
        air = t.trace.air;
        members =
            subst (λ (m : Member). MembersStand (set c.left.members at (record m { node = n })) (slice_set w.nodes at q) w.mails) (sym here)
            (place.replaced n q refl (goes p.state (subst (λ (m : Member). NodeStands m.node p.state) (sym here) place.stands)));
        ends = t.trace.ends;
        allowance = t.trace.allowance;
      };
      channels = t.channels;
      now = t.now;
    })

-- what is asked of the node at a place
pub asked : {A : Type 0} (c : Course) (w : World) (at : ℕ) (before : Member) (f : NodeState → A) (g : Option Placed → A) (a : A) → at < length c.left.members → Stands c w
    → before ≡ get_or c.left.members at before → ((p : Placed) → slice_get w.nodes at ≡ Some p → g (Some p) ≡ f p.state) → ((s : NodeState) → NodeStands before.node s → a ≡ f s) → a ≡ g (slice_get w.nodes at)
asked c w at before f g a h t here same says =
    let place = at_place c.left.members w.nodes w.mails at before h t.trace.members in
    says place.placed.state (subst (λ (m : Member). NodeStands m.node place.placed.state) (sym here) place.stands) ∙ (sym (same place.placed place.is_in) ∙ sym (ap g place.is_in))

pub asked_none : {A : Type 0} (c : Course) (w : World) (at : ℕ) (g : Option Placed → A) → length c.left.members ≤ at → Stands c w → g None ≡ g (slice_get w.nodes at)
asked_none c w at g h t = sym (ap g (past_place c w at h t))

-- ---- time

pub same_moment : (now later : ℕ) → now ≡ min later 18446744073709551615 → moment now ≡ moment later
same_moment now later e = omega arith

-- ---- what is left at a place

pub entries_set : (ms : List Member) (at : ℕ) (m : Member) → at < length ms → entries_at at (set ms at m) ≡ entries_left m.node
entries_set [] at m h = absurd (omega arith)
entries_set (x ∷ ms) zero m h = refl
entries_set (x ∷ ms) (suc at) m h = entries_set ms at m (omega arith)

pub entries_got : (ms : List Member) (at : ℕ) (d : Member) → at < length ms → entries_at at ms ≡ entries_left (get_or ms at d).node
entries_got [] at d h = absurd (omega arith)
entries_got (m ∷ ms) zero d h = refl
entries_got (m ∷ ms) (suc at) d h = entries_got ms at d (omega arith)

pub frames_set : (ms : List Member) (at : ℕ) (m : Member) → at < length ms → frames_at at (set ms at m) ≡ frames_left m.node
frames_set [] at m h = absurd (omega arith)
frames_set (x ∷ ms) zero m h = refl
frames_set (x ∷ ms) (suc at) m h = frames_set ms at m (omega arith)

pub frames_got : (ms : List Member) (at : ℕ) (d : Member) → at < length ms → frames_at at ms ≡ frames_left (get_or ms at d).node
frames_got [] at d h = absurd (omega arith)
frames_got (m ∷ ms) zero d h = refl
frames_got (m ∷ ms) (suc at) d h = frames_got ms at d (omega arith)

-- ---- how a node is declared

-- the node at a place is declared as it is kept
pub declared_is : (c : Course) (w : World) (at : ℕ) (before : Member) (p : Placed) → at < length c.left.members → before ≡ get_or c.left.members at before → Stands c w
    → slice_get w.nodes at ≡ Some p → p.declared ≡ before.declared
declared_is c w at before p h here t is =
    let place = at_place c.left.members w.nodes w.mails at before h t.trace.members in
    let same : place.placed ≡ p = (let some : Some place.placed ≡ Some p = sym place.is_in ∙ is in cc some) in
    sym (ap (λ (m : Member). m.declared) here ∙ (place.declared ∙ ap (λ (q : Placed). q.declared) same))
