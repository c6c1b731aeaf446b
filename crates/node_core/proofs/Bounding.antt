-- Between two inputs a node keeps no more than its bound.
use Rattle.std.proofs.Common.{◌≡◌, ◌≤◌, ◌+◌, ◌*◌, ◌∙◌, ◌⊎◌, inl, inr, ℕ, suc, ap, subst, arith, length, List, [], ◌∷◌}
use Rattle.std.specs.Prelude.{Bool, true, false, if◌then◌else◌}
use Rattle.ax_address.specs.Callsign.{Callsign}
use Rattle.circuit_table.specs.CircuitSets.{held_ids}
use Rattle.circuit_table.specs.Kept as ends
use Rattle.circuit_table.specs.Sets as sets
use Rattle.circuit_table.specs.Sets.{CircuitTold}
use Rattle.circuit_table.specs.Standing.{EachStands, Here, Past}
use Rattle.circuit_table.specs.declared.holder.Holder.{Holder}
use Rattle.link_table.specs.Kept as links
use Rattle.link_table.specs.Standing.{LinksStand}
use Rattle.link_table.specs.Table.{Linked}
use Rattle.link_table.specs.declared.entry.LinkEntry.{LinkEntry}
use Rattle.node_core.specs.Bounds.{IsWithin, pairs_of}
use Rattle.node_core.specs.Bridged.{UsersAreFew}
use Rattle.node_core.specs.Standing.{Kept}
use Rattle.node_core.specs.Sound.{IsSound}
use Rattle.node_model.specs.States.{NodeState}
use Rattle.node_core.proofs.Serving.{same_number}

-- ---- as many links and ends as the state has

links_many : (own : Callsign) (es : List (Callsign × LinkEntry)) (ls : List Linked) → LinksStand own es ls → length ls ≤ length es
links_many own [] [] s = omega arith
links_many own (e ∷ es) (l ∷ ls) s = omega (arith, links_many own es ls s.1)
links_many own [] (l ∷ ls) s = absurd s
links_many own (e ∷ es) [] s = absurd s

no_more_links : (own : Callsign) (es : List (Callsign × LinkEntry)) (ls : List Linked) → LinksStand own es ls → length es ≤ length ls
no_more_links own [] [] s = omega arith
no_more_links own (e ∷ es) (l ∷ ls) s = omega (arith, no_more_links own es ls s.1)
no_more_links own [] (l ∷ ls) s = absurd s
no_more_links own (e ∷ es) [] s = absurd s

one_more : (b : Bool) (id : ℕ) (ids : List ℕ) → length (if b then ids else id ∷ ids) ≤ 1 + length ids
one_more true id ids = omega arith
one_more false id ids = omega arith

ends_many : (own : Callsign) (ttl hi lo : ℕ) (es : List (ℕ × Holder)) (hs : List sets.Holder) (told : List CircuitTold) → EachStands own ttl hi lo es hs told → length (held_ids hs) ≤ length es
ends_many own ttl hi lo es [] told s = omega arith
ends_many own ttl hi lo es (h ∷ hs) told s = by s.1 (λ fs us t. ends_many own ttl hi (suc h.id) fs hs us t)
  where
    by : Past (λ rest theirs. EachStands own ttl hi (suc h.id) rest hs theirs) h es told ⊎ Here own ttl (λ rest theirs. EachStands own ttl hi (suc h.id) rest hs theirs) h es told
        → ((fs : List (ℕ × Holder)) (us : List CircuitTold) → EachStands own ttl hi (suc h.id) fs hs us → length (held_ids hs) ≤ length fs)
        → length (if h.gone then held_ids hs else h.id ∷ held_ids hs) ≤ length es
    by (inl past) more =
        let rest = more es told past.others in
        let same = ap (λ b. length (if b then held_ids hs else h.id ∷ held_ids hs)) past.gone in
        omega (arith, rest, same)
    by (inr here) more =
        let rest = more here.rest here.theirs here.others in
        let all : length es ≡ length ((h.id, here.k) ∷ here.rest) = ap (λ (fs : List (ℕ × Holder)). length fs) here.is in
        omega (arith, rest, all, one_more h.gone h.id (held_ids hs))

-- ---- the bound

pub within : links.KeepsItsShare → ends.KeepsItsShare → UsersAreFew → (k : Kept) → IsSound k → pairs_of k ≤ 16384 → IsWithin k
within of_links of_ends users_few k sound pairs =
    let station = sound.stands.station in
    let parts = station.parts in
    let n : NodeState = sound.state in
    let r = sound.reached in
    let table = k.station.set.router.carrier in
    let held = k.station.set.held in
    let waiting : links.waiting_octets table.waiting ≡ 0 = ap links.waiting_octets (parts.links.waiting ∙ sound.collected) in
    let l : links.kept table ≤ 98175 * length table.links + links.waiting_octets table.waiting = of_links table n.station.links parts.links in
    let e : ends.kept held ≤ 90347 * length held.ends.entries + 236 * ends.windows held.ends.entries = of_ends held n.station.set.set n.station.set.untold parts.set.ends in
    let both = users_few r.hosts r.config r.inputs r.call r.asked in
    let few : length n.station.sessions ≤ length n.station.links.links + length (held_ids n.station.set.set.ends) =
    subst (λ (m : NodeState). length m.station.sessions ≤ length m.station.links.links + length (held_ids m.station.set.set.ends)) r.is both.0 in
    let few_links : length n.station.links.links ≤ 64 = subst (λ (m : NodeState). length m.station.links.links ≤ 64) r.is both.1 in
    let same = same_number k.station n.station station in
    let many_links = links_many table.own table.links n.station.links.links parts.links.links in
    let many_ends = ends_many n.station.set.set.own n.station.set.set.ttl n.station.set.set.number 0 held.ends.entries n.station.set.set.ends n.station.set.untold parts.set.ends.ends in
    let users : length k.station.sessions.items ≤ length table.links + length held.ends.entries = omega (arith, few, same, many_links, many_ends) in
    record {
      bound = omega (arith, l, e, waiting, users);
      links = omega (arith, few_links, no_more_links table.own table.links n.station.links.links parts.links.links);
      ends = held.few;
      pairs = pairs;
      qualities = k.station.qualities.few;
      users = users;
    }
