-- Events told one after another.
use Rattle.std.proofs.Common.{◌≡◌, ◌+◌, ◌++◌, ◌∙◌, ℕ, refl, sym, ap, List, [], ◌∷◌, length, map, arith, append_assoc, append-nil}
use Rattle.std.specs.Prelude.{Option, Some, None, slice_get, slice_set}
use Rattle.std.specs.List.{flat_map, range_with_len}
use Rattle.std.proofs.lemmas.List.{map-append}
use Rattle.std.proofs.lemmas.Grind.{flat_map-append}
use Rattle.circuit_l4.specs.declared.pair.Pair.{Pair}
use Rattle.circuit_table.specs.CircuitSets.{facts_at}
use Rattle.circuit_table.specs.Sets.{Holder, end_of}
use Rattle.network_file.specs.Plan.{Plan}
use Rattle.std.specs.Option.{option_map}
use Rattle.net_model.specs.Events.{Event, NumberedEvent, Restarted, Shown}
use Rattle.net_model.specs.Ends.{ends_of}
use Rattle.net_model.specs.Lines.{loss_of, losses_of, table_of}
use Rattle.net_model.specs.Tables.{Table}
use Rattle.net_world.specs.Running.{change, loss_at, losses_at}
use Rattle.net_model.specs.Starting.{Placed, started}
use Rattle.net_model.specs.World.{World, numbered, tell}
use Rattle.net_model.proofs.Looks.{change_of, restart_of, shown_of}
use Rattle.node_core.proofs.Paging.{range_more}

pub tell_both : (line : ℕ) (es fs : List Event) (w : World) → tell line fs (tell line es w) ≡ tell line (es ++ fs) w
tell_both line es fs w =
    ap (λ (ts : List NumberedEvent). record w { told = ts })
    (append_assoc w.told (map (numbered line) es) (map (numbered line) fs) ∙ ap (λ ts. w.told ++ ts) (sym (map-append (numbered line) es fs)))

pub tell_none : (line : ℕ) (w : World) → tell line [] w ≡ w
tell_none line w = ap (λ (ts : List NumberedEvent). record w { told = ts }) (append-nil w.told)

-- ---- the ends that a restart takes away, by number

losses_more : (node n : ℕ) (held : List Holder) → losses_of node (n + 1) held ≡ losses_of node n held ++ loss_of node (n + 1) (facts_at (end_of (n + 1) held))
losses_more node n held =
    let f : ℕ → List Event = λ id. loss_of node id (facts_at (end_of id held)) in
    let next : 1 + n ≡ n + 1 = omega arith in
    ap (flat_map f) (range_more 1 n ∙ ap (λ k. range_with_len 1 n ++ k ∷ []) next)
    ∙ (flat_map-append f (range_with_len 1 n) ((n + 1) ∷ []) ∙ ap (λ es. flat_map f (range_with_len 1 n) ++ es) (append-nil (f (n + 1))))

more_at : (node n : ℕ) (o : Option Placed) → losses_at node n o ++ loss_at node (n + 1) o ≡ losses_at node (n + 1) o
more_at node n None = refl
more_at node n (Some p) = sym (losses_more node n p.state.station.set.set.ends)

none_at : (node : ℕ) (o : Option Placed) → losses_at node 0 o ≡ []
none_at node None = refl
none_at node (Some p) = refl

pub one_loss : (line node n at : ℕ) (w : World) → tell line (loss_at node (n + 1) (slice_get w.nodes at)) (tell line (losses_at node n (slice_get w.nodes at)) w)
    ≡ tell line (losses_at node (n + 1) (slice_get w.nodes at)) w
one_loss line node n at w =
    tell_both line (losses_at node n (slice_get w.nodes at)) (loss_at node (n + 1) (slice_get w.nodes at)) w
    ∙ ap (λ es. tell line es w) (more_at node n (slice_get w.nodes at))

pub no_loss : (line node at : ℕ) (w : World) → tell line (losses_at node 0 (slice_get w.nodes at)) w ≡ w
no_loss line node at w = ap (λ es. tell line es w) (none_at node (slice_get w.nodes at)) ∙ tell_none line w

-- ---- a restart

restart_case : (plan : Plan) (line at made : ℕ) (pair : Pair) (w : World) (o : Option Placed) (p : Placed) → slice_get w.nodes at ≡ o → o ≡ Some p
    → made ≡ length (ends_of p.declared.node w.told)
    → change_of at (λ s. started plan p.declared pair (made + 1)) o (tell line (losses_at p.declared.node made o) (tell line (Restarted p.declared.node pair ∷ []) w))
    ≡ restart_of plan line at pair o w
restart_case plan line at made pair w None p is e count = absurd (cc)
restart_case plan line at made pair w (Some q) p is e count =
    let same : p ≡ q = cc in
    let ended : World → World = λ v. record v { nodes = slice_set w.nodes at (record q { state = started plan p.declared pair (made + 1) }) } in
    ap ended (tell_both line (Restarted p.declared.node pair ∷ []) (losses_of p.declared.node made q.state.station.set.set.ends) w)
    ∙ (ap (λ n. tell line (Restarted p.declared.node pair ∷ losses_of p.declared.node n q.state.station.set.set.ends)
    (record w { nodes = slice_set w.nodes at (record q { state = started plan p.declared pair (n + 1) }) })) count
    ∙ ap (λ (r : Placed). tell line (Restarted r.declared.node pair ∷ losses_of r.declared.node (length (ends_of r.declared.node w.told)) q.state.station.set.set.ends)
    (record w { nodes = slice_set w.nodes at (record q { state = started plan r.declared pair (length (ends_of r.declared.node w.told) + 1) }) })) same)

pub restarted : (plan : Plan) (line at made : ℕ) (pair : Pair) (w : World) (p : Placed) → slice_get w.nodes at ≡ Some p → made ≡ length (ends_of p.declared.node w.told)
    → change at (λ s. started plan p.declared pair (made + 1))
    (tell line (losses_at p.declared.node made (slice_get w.nodes at)) (tell line (Restarted p.declared.node pair ∷ []) w))
    ≡ restart_of plan line at pair (slice_get w.nodes at) w
unfolding change
restarted plan line at made pair w p is count = restart_case plan line at made pair w (slice_get w.nodes at) p refl is count

-- ---- a table that is shown

pub shown_some : (line : ℕ) (w : World) (o : Option Placed) (table : Table) → Some table ≡ option_map table_of o → shown_of line o w ≡ tell line (Shown table ∷ []) w
shown_some line w None table e = absurd (cc)
shown_some line w (Some p) table e = let same : table ≡ table_of p = cc in ap (λ t. tell line (Shown t ∷ []) w) (sym same)

pub shown_none : (line : ℕ) (w : World) (o : Option Placed) → None ≡ option_map table_of o → shown_of line o w ≡ w
shown_none line w None e = refl
shown_none line w (Some p) e = absurd (cc)
