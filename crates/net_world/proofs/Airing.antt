-- The frames of a node, put in the air one after another.
use Rattle.std.proofs.Common.{◌≡◌, ◌≤◌, ◌+◌, ◌++◌, ◌∙◌, ℕ, zero, suc, refl, sym, ap, subst, List, [], ◌∷◌, length, map, drop, append_assoc, append-nil, arith, cond, Bool, true, false}
use Rattle.std.specs.Prelude.{Option, Some, None, slice_get, slice_set}
use Rattle.std.proofs.lemmas.List.{length-append, map-append}
use Rattle.radio_base.specs.declared.modulus.LinkModulus.{LinkModulus}
use Rattle.network_file.specs.Plan.{is_on_air}
use Rattle.link_table.specs.Table.{written}
use Rattle.link_table.specs.Frames.{Sent}
use Rattle.link_table.specs.declared.written.Written.{Written}
use Rattle.node_model.specs.Links.{all_fetched, sent_frames}
use Rattle.node_model.specs.States.{NodeState, State, fetch_frame, fetch_own, frames}
use Rattle.net_model.specs.declared.air.Aired.{Aired}
use Rattle.net_model.specs.Events.{InAir, NumberedEvent}
use Rattle.net_world.specs.Running.{Course, GoesOn, Stands, airs, aired_one, change, fetched_frame, first_frame, put_by}
use Rattle.net_model.specs.Starting.{Placed}
use Rattle.net_model.specs.World.{World, air_events, aired_as, all_fetched_of, numbered, put, puts, tell}
use Rattle.net_model.proofs.Looks.{change_of, put_by_of, put_of}
use Rattle.net_model.proofs.Changing.{get_set, set_twice}
use Rattle.net_world.proofs.Runs.{with_air}

-- ---- a frame fetched

drop_one : {A B : Type 0} (f : A → B) (xs : List A) → map f (drop 1 xs) ≡ drop 1 (map f xs)
drop_one f [] = refl
drop_one f (x ∷ xs) = refl

fetched_own : (n : State) (own : List Written) → n.own ≡ own → frames (fetch_own own n) ≡ drop 1 (own ++ sent_frames n.links)
fetched_own n [] e = ap (λ (fs : List Written). fs ++ map written (drop 1 n.links.pending.frames)) e ∙ drop_one written n.links.pending.frames
fetched_own n (f ∷ fs) e = refl

left_frames : (n : State) → frames (fetch_frame n) ≡ drop 1 (frames n)
left_frames n = fetched_own n n.own refl

rest_own : (n : NodeState) (own : List Written) → all_fetched_of (record n { station = fetch_own own n.station }) ≡ all_fetched_of n
rest_own n [] = refl
rest_own n (f ∷ fs) = refl

rest : (n : NodeState) → all_fetched_of (fetched_frame n) ≡ all_fetched_of n
rest n = rest_own n n.station.own

-- ---- frames and events, one and then the others

abbrev of_node : Bool → ℕ → LinkModulus → List Written → List Aired
of_node on_air node came fs = cond on_air (map (aired_as node came) fs) []

of_first : (on_air : Bool) (node : ℕ) (came : LinkModulus) (f : Written) (fs : List Written) → of_node on_air node came (f ∷ fs) ≡ aired_one on_air node came f ++ of_node on_air node came fs
of_first true node came f fs = refl
of_first false node came f fs = refl

of_none : (on_air : Bool) (node : ℕ) (came : LinkModulus) → of_node on_air node came [] ≡ []
of_none true node came = refl
of_none false node came = refl

events_of_both : (count m k : ℕ) (start : ℕ) → start ≡ count + m → air_events count (m + k) ≡ air_events count m ++ air_events start k
events_of_both count zero k start e =
    let none : zero + k ≡ k = omega arith in
    let here : start ≡ count = omega (arith, e) in
    rw (none, here) refl
events_of_both count (suc m) k start e =
    let next : suc m + k ≡ suc (m + k) = omega arith in
    let here : start ≡ suc count + m = omega (arith, e) in
    rw next (ap (λ es. InAir (suc count) ∷ es) (events_of_both (suc count) m k start here))

-- some frames come in the air, and then others
pub airs_both : (line : ℕ) (first later : List Aired) (v : World) → airs line later (airs line first v) ≡ airs line (first ++ later) v
airs_both line first later v =
    let count : length (v.air ++ first) ≡ length v.air + length first = length-append v.air first in
    let both : length (first ++ later) ≡ length first + length later = length-append first later in
    let es = air_events (length v.air) (length first) in
    let fs = air_events (length (v.air ++ first)) (length later) in
    let all : es ++ fs ≡ air_events (length v.air) (length (first ++ later)) =
    sym (ap (air_events (length v.air)) both ∙ events_of_both (length v.air) (length first) (length later) (length (v.air ++ first)) count) in
    let told : (v.told ++ map (numbered line) es) ++ map (numbered line) fs ≡ v.told ++ map (numbered line) (air_events (length v.air) (length (first ++ later))) =
    append_assoc v.told (map (numbered line) es) (map (numbered line) fs)
    ∙ ap (λ ts. v.told ++ ts) (sym (map-append (numbered line) es fs) ∙ ap (map (numbered line)) all) in
    ap (λ (ts : List NumberedEvent). record v { air = (v.air ++ first) ++ later; told = ts }) told
    ∙ ap (λ (air : List Aired). record v { air = air; told = v.told ++ map (numbered line) (air_events (length v.air) (length (first ++ later))) }) (append_assoc v.air first later)

pub airs_none : (line : ℕ) (v : World) → airs line [] v ≡ v
airs_none line v =
    ap (λ (ts : List NumberedEvent). record v { air = v.air ++ []; told = ts }) (append-nil v.told) ∙ ap (λ (air : List Aired). record v { air = air }) (append-nil v.air)

-- ---- one frame of the node at a place

abbrev with_placed : ℕ → Placed → World → World
with_placed at p v = record v { nodes = slice_set v.nodes at p }

abbrev emptied : Placed → Placed
emptied p = record p { state = all_fetched_of p.state }

frame_case : (line at node : ℕ) (on_air : Bool) (came : LinkModulus) (v : World) (f : Written) (p : Placed) (fs : List Written) → slice_get v.nodes at ≡ Some p → frames p.state.station ≡ fs
    → Some f ≡ slice_get fs 0
    → put_by line at node on_air came (airs line (aired_one on_air node came f) (change_of at fetched_frame (Some p) v)) ≡ put_by_of line at node on_air came (Some p) v
unfolding put_by
frame_case line at node on_air came v f p [] is waits first = absurd (cc)
frame_case line at node on_air came v f p (g ∷ fs) is waits first =
    let same : f ≡ g = cc in
    let q : Placed = record p { state = fetched_frame p.state } in
    let u : World = with_placed at q v in
    let one : List Aired = aired_one on_air node came f in
    let got : slice_get u.nodes at ≡ Some q = get_set v.nodes at p q is in
    let others : frames q.state.station ≡ fs = left_frames p.state.station ∙ ap (λ (xs : List Written). drop 1 xs) waits in
    let later : List Aired = of_node on_air node came fs in
    let all : one ++ later ≡ of_node on_air node came (frames p.state.station) =
    sym (of_first on_air node came f fs) ∙ ap (of_node on_air node came) (ap (λ k. k ∷ fs) same ∙ sym waits) in
    ap (λ o. put_by_of line at node on_air came o (airs line one u)) got
    ∙ (ap (λ (xs : List Written). puts line at q (of_node on_air node came xs) (airs line one u)) others
    ∙ (ap (λ (ns : List Placed). airs line later (airs line one (record v { nodes = ns }))) (set_twice v.nodes at q (emptied q))
    ∙ (ap (λ (n : NodeState). airs line later (airs line one (with_placed at (record p { state = n }) v))) (rest p.state)
    ∙ (airs_both line one later (with_placed at (emptied p) v)
    ∙ ap (λ (xs : List Aired). airs line xs (with_placed at (emptied p) v)) all))))

frame_of_option : (line at node : ℕ) (on_air : Bool) (came : LinkModulus) (v : World) (f : Written) (o : Option Placed) → slice_get v.nodes at ≡ o → Some f ≡ first_frame o
    → put_by line at node on_air came (airs line (aired_one on_air node came f) (change_of at fetched_frame o v)) ≡ put_by_of line at node on_air came o v
frame_of_option line at node on_air came v f None is first = absurd (cc)
frame_of_option line at node on_air came v f (Some p) is first = frame_case line at node on_air came v f p (frames p.state.station) is refl first

-- a frame that is fetched and put in the air leaves the others to be put there
pub one_frame : (line at node : ℕ) (on_air : Bool) (came : LinkModulus) (v : World) (f : Written) → Some f ≡ first_frame (slice_get v.nodes at)
    → put_by line at node on_air came (airs line (aired_one on_air node came f) (change at fetched_frame v)) ≡ put_by line at node on_air came v
unfolding put_by change
one_frame line at node on_air came v f first = frame_of_option line at node on_air came v f (slice_get v.nodes at) refl first

-- ---- none is left

no_frames : (fs : List Sent) → map written fs ≡ [] → drop 1 fs ≡ []
no_frames [] e = refl
no_frames (f ∷ fs) e = absurd (cc)

empty_both : (own : List Written) (links : List Written) → own ++ links ≡ [] → (own ≡ []) × (links ≡ [])
empty_both [] links e = (refl, e)
empty_both (f ∷ own) links e = absurd (cc)

rest_none : (n : NodeState) → frames n.station ≡ [] → fetched_frame n ≡ all_fetched_of n
rest_none n e =
    let both = empty_both n.station.own (sent_frames n.station.links) e in
    let none : drop 1 n.station.links.pending.frames ≡ [] = no_frames n.station.links.pending.frames both.1 in
    ap (λ (own : List Written). record n { station = fetch_own own n.station }) both.0
    ∙ (ap (λ (fs : List Sent). record n { station = record (n.station) { links = record (n.station.links) { pending = record (n.station.links.pending) { frames = fs } } } }) none
    ∙ ap (λ (own : List Written). record n { station = record (n.station) { own = own; links = all_fetched n.station.links } }) both.0)

none_frame_case : (line at node : ℕ) (on_air : Bool) (came : LinkModulus) (v : World) (p : Placed) (fs : List Written) → slice_get v.nodes at ≡ Some p → frames p.state.station ≡ fs
    → None ≡ slice_get fs 0 → change_of at fetched_frame (Some p) v ≡ put_by_of line at node on_air came (Some p) v
none_frame_case line at node on_air came v p (f ∷ fs) is waits first = absurd (cc)
none_frame_case line at node on_air came v p [] is waits first =
    let u : World = with_placed at (emptied p) v in
    let none : of_node on_air node came (frames p.state.station) ≡ [] = ap (of_node on_air node came) waits ∙ of_none on_air node came in
    ap (λ (n : NodeState). with_placed at (record p { state = n }) v) (rest_none p.state waits)
    ∙ sym (ap (λ (xs : List Aired). airs line xs u) none ∙ airs_none line u)

none_frame_option : (line at node : ℕ) (on_air : Bool) (came : LinkModulus) (v : World) (o : Option Placed) → slice_get v.nodes at ≡ o → None ≡ first_frame o
    → change_of at fetched_frame o v ≡ put_by_of line at node on_air came o v
none_frame_option line at node on_air came v None is first = refl
none_frame_option line at node on_air came v (Some p) is first = none_frame_case line at node on_air came v p (frames p.state.station) is refl first

pub no_frame : (line at node : ℕ) (on_air : Bool) (came : LinkModulus) (v : World) → None ≡ first_frame (slice_get v.nodes at)
    → change at fetched_frame v ≡ put_by line at node on_air came v
unfolding put_by change
no_frame line at node on_air came v first = none_frame_option line at node on_air came v (slice_get v.nodes at) refl first

put_of_grows : (line at node : ℕ) (on_air : Bool) (came : LinkModulus) (w : World) (o : Option Placed) → length w.air ≤ length (put_by_of line at node on_air came o w).air
put_of_grows line at node on_air came w None = omega arith
put_of_grows line at node on_air came w (Some p) = omega (arith, length-append w.air (of_node on_air node came (frames p.state.station)))

pub put_by_grows : (line at node : ℕ) (on_air : Bool) (came : LinkModulus) (w : World) → length w.air ≤ length (put_by line at node on_air came w).air
unfolding put_by
put_by_grows line at node on_air came w = put_of_grows line at node on_air came w (slice_get w.nodes at)

-- the frames of a node with a number are those of the node at its place
put_case : (line at node : ℕ) (came : LinkModulus) (w : World) (o : Option Placed) → ((p : Placed) → o ≡ Some p → p.declared.node ≡ node)
    → put_by_of line at node (is_on_air w.channels node) came o w ≡ put_of line at came o w
put_case line at node came w None same = refl
put_case line at node came w (Some p) same =
    ap (λ n. puts line at p (cond (is_on_air w.channels n) (map (aired_as n came) (frames p.state.station)) []) w) (sym (same p refl))

pub put_is : (line at node : ℕ) (on_air : Bool) (came : LinkModulus) (w : World) → on_air ≡ is_on_air w.channels node → ((p : Placed) → slice_get w.nodes at ≡ Some p → p.declared.node ≡ node)
    → put_by line at node on_air came w ≡ put line at came w
unfolding put_by put
put_is line at node on_air came w says same = ap (λ b. put_by_of line at node b came (slice_get w.nodes at) w) says ∙ put_case line at node came w (slice_get w.nodes at) same

-- ---- one frame put in the air by the code

pub put_one : (old new : Course) (line node frame : ℕ) (came : LinkModulus) (f : Written) (air : List Aired) → air ≡ old.left.air ++ aired_as node came f ∷ []
    → frame ≡ length air → GoesOn (with_air old air) new (tell line (InAir frame ∷ [])) → GoesOn old new (airs line (aired_one true node came f))
put_one old new line node frame came f air e count tells w t =
    let x : Aired = aired_as node came f in
    let v : World = record w { air = w.air ++ x ∷ [] } in
    let there : Stands (with_air old air) v =
    record {
      trace = record {
        told = t.trace.told;
        air = e ∙ ap (λ (fs : List Aired). fs ++ x ∷ []) t.trace.air;
        members = t.trace.members;
        ends = t.trace.ends;
        allowance = t.trace.allowance;
      };
      channels = t.channels;
      now = t.now;
    }
    in
    let number : frame ≡ suc (length w.air) =
    omega (arith, count, ap (λ (fs : List Aired). length fs) e, length-append old.left.air (x ∷ []), ap (λ (fs : List Aired). length fs) t.trace.air) in
    subst (λ k. Stands new (tell line (InAir k ∷ []) v)) number (tells v there)
