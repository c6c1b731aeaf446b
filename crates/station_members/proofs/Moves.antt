-- The moves of the backplane, of the parts that its code does one after another.
use Rattle.std.proofs.Common.{◌≡◌, ◌<◌, ◌≤◌, ◌∙◌, ℕ, zero, suc, refl, sym, ap, subst, List, [], ◌∷◌, ◌++◌, length, arith, Bool, true, false, cond}
use Rattle.std.proofs.lemmas.Bool.Decides.{nat_tests}
use Rattle.std.specs.Prelude.{slice_get, Option, Some, Result}
use Rattle.radio_base.specs.declared.moment.Moment.{Moment}
use Rattle.ax_address.specs.declared.alias.Alias.{Alias}
use Rattle.ax_address.specs.Callsign.{Callsign}
use Rattle.link_table.specs.declared.written.Written.{Written}
use Rattle.node_core.specs.Bridged.{Input, after, after_all}
use Rattle.node_core.specs.Bridged as inputs
use Rattle.node_core.specs.Acts.{Lock}
use Rattle.node_core.specs.Configs.{hosting_node}
use Rattle.node_core.specs.Standing.{Kept, NodeStands}
use Rattle.node_core.specs.declared.quality_refusal.QualityRefusal.{QualityRefusal}
use Rattle.node_model.specs.States.{Entry, NodeState}
use Rattle.station_ports.specs.declared.heading.Heading.{Heading}
use Rattle.station_members.specs.declared.backplane.Backplane.{Backplane}
use Rattle.station_members.specs.declared.config.MemberConfig.{MemberConfig}
use Rattle.station_members.specs.declared.hearing.Intake.{Intake}
use Rattle.station_members.specs.declared.routing.Parcel.{Parcel}
use Rattle.station_members.specs.Desks as desks
use Rattle.station_members.specs.Desks.{Desk, desk_of}
use Rattle.station_members.specs.Hearing.{is_set_up}
use Rattle.station_members.specs.Nodes.{AllStand, NodesGo, all_fetched, fetches, first_entry, frames_of}
use Rattle.station_members.specs.Places.{at_place}
use Rattle.station_members.specs.Routing.{parcel_of, routed}
use Rattle.station_members.specs.Standing.{PlaneGoes, PlaneStands}
use Rattle.station_members.specs.States.{Own, Source, State, at_desk, deliver, frames_at, give, give_all, hear_all, hear_at, hear_headed, note_sent, round_if, send_each, send_one, send_waiting, take_in, tick_at, fetch_told_at, note_if, entry_at, add, has_room, made, meet, meet_all, meet_quality, quality_answer, quality_if}
use Rattle.station_members.proofs.Giving.{give_desk, give_nodes, gives, works}
use Rattle.station_members.proofs.NodesStand.{same_length, stand_last}

-- ---- hearing

pub hears : (old mid new : Backplane) (at port : ℕ) (h : Heading) (octets : List ℕ) (now : Moment) (up : Bool) (k : Intake) → mid.nodes.items ≡ old.nodes.items
    → up ≡ is_set_up octets → desk_of mid.desk ≡ desks.hears_at at port h up (desk_of old.desk) → k ≡ desks.intake_at at port h up (desk_of old.desk)
    → PlaneGoes (take_in at port k octets now) mid new → PlaneGoes (hear_at port h octets now at) old new
unfolding hear_at
hears old mid new at port h octets now up k same is desk says goes = λ s t.
    let desk_is = desk ∙ ap (λ b. desks.hears_at at port h b (desk_of old.desk)) is in
    let stands = works old mid (desks.hears_at at port h (is_set_up octets)) same desk_is s t in
    let intake = says ∙ (ap (λ b. desks.intake_at at port h b (desk_of old.desk)) is ∙ ap (desks.intake_at at port h (is_set_up octets)) t.desk) in
    subst (λ j. PlaneStands new (take_in at port j octets now (at_desk (desks.hears_at at port h (is_set_up octets)) s))) intake (goes _ stands)

abbrev pub hear_if_heard : Bool → ℕ → Heading → List ℕ → Moment → State → State
hear_if_heard b port h octets now s = cond b (hear_all port h octets now s) s

pub heads : (old mid new : Backplane) (port : ℕ) (h : Heading) (octets : List ℕ) (now : Moment) (b : Bool) → mid.nodes.items ≡ old.nodes.items
    → desk_of mid.desk ≡ desks.noted_at port h.hop now (desk_of old.desk) → b ≡ desks.is_heard h (desk_of mid.desk)
    → PlaneGoes (hear_if_heard b port h octets now) mid new → PlaneGoes (hear_headed port h octets now) old new
heads old mid new port h octets now b same desk says goes = λ s t.
    let stands = works old mid (desks.noted_at port h.hop now) same desk s t in
    let is = says ∙ ap (desks.is_heard h) stands.desk in
    subst (λ a. PlaneStands new (hear_if_heard a port h octets now (at_desk (desks.noted_at port h.hop now) s))) is (goes _ stands)

-- ---- time

pub ticks : (old mid late new : Backplane) (at : ℕ) (now : Moment) (due : Bool) → desk_of mid.desk ≡ desk_of old.desk
    → NodesGo at (after (inputs.Ticks now.0)) old.nodes.items mid.nodes.items → late.nodes.items ≡ mid.nodes.items
    → desk_of late.desk ≡ desks.ticked_at at now.0 (desk_of mid.desk) → due ≡ desks.first_due_at at now.0 (desk_of mid.desk)
    → PlaneGoes (round_if due now at) late new → PlaneGoes (tick_at now at) old new
unfolding tick_at
ticks old mid late new at now due same nodes still desk says goes = λ s t.
    let once = gives old mid at Own (inputs.Ticks now.0) same nodes s t in
    let then = works mid late (desks.ticked_at at now.0) still desk _ once in
    let is = says ∙ (ap (desks.first_due_at at now.0) same ∙ ap (desks.first_due_at at now.0) t.desk) in
    subst (λ b. PlaneStands new (round_if b now at (at_desk (desks.ticked_at at now.0) (give at Own (inputs.Ticks now.0) s)))) is (goes _ then)

-- ---- frames that members put out

pub sends : (old mid new : Backplane) (now : Moment) (from : ℕ) (w : Written) (parcel : Parcel) → mid.nodes.items ≡ old.nodes.items
    → desk_of mid.desk ≡ routed from w now (desk_of old.desk) → parcel ≡ parcel_of from w (desk_of old.desk)
    → PlaneGoes (deliver now from parcel) mid new → PlaneGoes (send_one now from w) old new
unfolding send_one
sends old mid new now from w parcel same desk says goes = λ s t.
    let stands = works old mid (routed from w now) same desk s t in
    let is = says ∙ ap (parcel_of from w) t.desk in
    subst (λ p. PlaneStands new (deliver now from p (note_sent now from w p (at_desk (routed from w now) s)))) is
    (goes (note_sent now from w parcel (at_desk (routed from w now) s)) (record { nodes = stands.nodes; desk = stands.desk }))

place_twice : {A : Type 0} (xs : List A) (at : ℕ) (f g : A → A) → at_place at g (at_place at f xs) ≡ at_place at (λ x. g (f x)) xs
place_twice [] at f g = refl
place_twice (x ∷ xs) zero f g = refl
place_twice (x ∷ xs) (suc at) f g = ap (λ ys. x ∷ ys) (place_twice xs at f g)

place_still : {A : Type 0} (xs : List A) (at : ℕ) → at_place at (λ x. x) xs ≡ xs
place_still [] at = refl
place_still (x ∷ xs) zero = refl
place_still (x ∷ xs) (suc at) = ap (λ ys. x ∷ ys) (place_still xs at)

place_same : {A : Type 0} (xs : List A) (at : ℕ) (f g : A → A) → ((x : A) → slice_get xs at ≡ Some x → f x ≡ g x) → at_place at f xs ≡ at_place at g xs
place_same [] at f g same = refl
place_same (x ∷ xs) zero f g same = ap (λ y. y ∷ xs) (same x refl)
place_same (x ∷ xs) (suc at) f g same = ap (λ ys. x ∷ ys) (place_same xs at f g same)

pub all_nodes : (to : ℕ) (from : Source) (is : List Input) (s : State) → (give_all to from is s).nodes ≡ at_place to (after_all is) s.nodes
all_nodes to from [] s = sym (place_still s.nodes to)
all_nodes to from (i ∷ is) s =
    all_nodes to from is (give to from i s) ∙ (ap (at_place to (after_all is)) (give_nodes to from i s) ∙ place_twice s.nodes to (after i) (after_all is))

pub all_desk : (to : ℕ) (from : Source) (is : List Input) (s : State) → (give_all to from is s).desk ≡ s.desk
all_desk to from [] s = refl
all_desk to from (i ∷ is) s = all_desk to from is (give to from i s) ∙ give_desk to from i s

fetched_same : (ns : List NodeState) (at : ℕ) → at_place at all_fetched ns ≡ at_place at (after_all (fetches (frames_of (slice_get ns at)))) ns
fetched_same ns at = place_same ns at all_fetched (after_all (fetches (frames_of (slice_get ns at))))
    (λ n is. ap (λ (o : Option NodeState). after_all (fetches (frames_of o)) n) (sym is))

pub waits : (old mid new : Backplane) (now : Moment) (at : ℕ) (ws : List Written) → desk_of mid.desk ≡ desk_of old.desk
    → ((ns : List NodeState) → AllStand old.nodes.items ns → ws ≡ frames_of (slice_get ns at)) → NodesGo at all_fetched old.nodes.items mid.nodes.items
    → PlaneGoes (send_each now at ws) mid new → PlaneGoes (send_waiting now at) old new
unfolding send_waiting
waits old mid new now at ws same says nodes goes = λ s t.
    let is : ws ≡ frames_at at s = says s.nodes t.nodes in
    let stands : PlaneStands mid (give_all at Own (fetches (frames_at at s)) s) = record {
      nodes = subst (λ ns. AllStand mid.nodes.items ns) (fetched_same s.nodes at ∙ sym (all_nodes at Own (fetches (frames_at at s)) s)) (nodes s.nodes t.nodes);
      desk = same ∙ (t.desk ∙ sym (all_desk at Own (fetches (frames_at at s)) s));
    } in
    subst (λ fs. PlaneStands new (send_each now at fs (give_all at Own (fetches (frames_at at s)) s))) is (goes _ stands)

-- ---- entries

pub fetches_told : (old mid new : Backplane) (at : ℕ) (told : Option Entry) → desk_of mid.desk ≡ desk_of old.desk
    → ((ns : List NodeState) → AllStand old.nodes.items ns → told ≡ first_entry (slice_get ns at))
    → NodesGo at (after inputs.Fetches_entry) old.nodes.items mid.nodes.items → PlaneGoes (note_if told at) mid new → PlaneGoes (fetch_told_at at) old new
fetches_told old mid new at told same says nodes goes = λ s t.
    let stands = gives old mid at Own inputs.Fetches_entry same nodes s t in
    let is : told ≡ entry_at at s = says s.nodes t.nodes in
    subst (λ o. PlaneStands new (note_if o at (give at Own inputs.Fetches_entry s))) is (goes _ stands)

-- ---- one member more

room_by : (s : State) (n : ℕ) → n ≡ length s.nodes → 8 ≤ n → has_room s ≡ false
room_by s n e h = let past : 8 ≤ length s.nodes = omega (arith, e, h) in grind (arith, nat_tests, past)

pub no_room : (old : Backplane) (s : State) → 8 ≤ length old.nodes.items → PlaneStands old s → has_room s ≡ false
no_room old s h t = room_by s (length old.nodes.items) (same_length old.nodes.items s.nodes t.nodes) h

pub some_room : (old : Backplane) (s : State) → length old.nodes.items < 8 → PlaneStands old s → has_room s ≡ true
some_room old s h t =
    let e = same_length old.nodes.items s.nodes t.nodes in
    let few : length s.nodes < 8 = omega (arith, e, h) in
    grind (arith, nat_tests, few)

abbrev pub add_if : Bool → MemberConfig → State → State
add_if b c s = cond b (meet_all (length s.nodes) (made c s)) s

pub full : (old : Backplane) (c : MemberConfig) → 8 ≤ length old.nodes.items → PlaneGoes (add c) old old
full old c h = λ s t. subst (λ b. PlaneStands old (add_if b c s)) (sym (no_room old s h t)) t

pub adds : (old mid new : Backplane) (c : MemberConfig) → length old.nodes.items < 8 → PlaneGoes (made c) old mid
    → PlaneGoes (meet_all (length old.nodes.items)) mid new → PlaneGoes (add c) old new
adds old mid new c h makes meets = λ s t.
    let e = same_length old.nodes.items s.nodes t.nodes in
    subst (λ b. PlaneStands new (add_if b c s)) (sym (some_room old s h t))
    (subst (λ n. PlaneStands new (meet_all n (made c s))) e (meets _ (makes s t)))

pub makes : (old new : Backplane) (c : MemberConfig) (k : Kept) → NodeStands k (hosting_node c.node) → new.nodes.items ≡ old.nodes.items ++ k ∷ []
    → desk_of new.desk ≡ desks.seated c.node c.rules (desk_of old.desk) → PlaneGoes (made c) old new
makes old new c k one nodes desk = λ s t. record {
  nodes = subst (λ ks. AllStand ks (s.nodes ++ hosting_node c.node ∷ [])) (sym nodes) (stand_last old.nodes.items s.nodes k (hosting_node c.node) one t.nodes);
  desk = desk ∙ ap (desks.seated c.node c.rules) t.desk;
}

pub meets : (old mid new : Backplane) (call : Callsign) (alias : Alias) (at : ℕ) → PlaneGoes (meet_quality call at) old mid → desk_of new.desk ≡ desk_of mid.desk
    → NodesGo at (after (inputs.Acts 0 (Lock call alias call 255))) mid.nodes.items new.nodes.items → PlaneGoes (meet call alias at) old new
unfolding meet
meets old mid new call alias at first same nodes = λ s t. gives mid new at Own (inputs.Acts 0 (Lock call alias call 255)) same nodes _ (first s t)

pub qualities_go : (old new : Backplane) (call : Callsign) (at : ℕ) (a : Result (Unit {0}) QualityRefusal) → ((s : State) → PlaneStands old s → a ≡ quality_answer at call s)
    → PlaneGoes (quality_if a at call) old new → PlaneGoes (meet_quality call at) old new
qualities_go old new call at a says goes = λ s t. subst (λ r. PlaneStands new (quality_if r at call s)) (says s t) (goes s t)
