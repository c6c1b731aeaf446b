-- Runs that show what the premises bear.
use Rattle.std.specs.Prelude.{◌≡◌, ℕ, ◌≤◌, true, List, [], ◌∷◌, Option, Some, None, refl}
use Rattle.std.proofs.Common.{sym, ◌∙◌, arith, lit<}
use Rattle.l3_datagram.specs.Datagrams.{head_at}
use Rattle.circuit_l4.specs.declared.notice.EndNotice.TheVariants.{Opened}
use Rattle.circuit_l4.specs.Transports as reading
use Rattle.circuit_l4.specs.Transports.{transport_at}
use Rattle.circuit_table.specs.Sets.{Holder}
use Rattle.circuit_set.specs.Books.{Fresh, MadeNote, Timely, empty, is_unknown, partner_in}
use Rattle.circuit_table.specs.Events.{Event, Name}
use Rattle.circuit_set.specs.NotedRuns.{Net, allowance_at, begins, end_at, net_run}
use Rattle.circuit_table.specs.Runs.{events_of}
use Rattle.circuit_set.specs.Safe.{IsSafe, Safe, SafeAlone}
use Rattle.circuit_set.proofs.Joined.{has_none}
use Rattle.circuit_set.proofs.Noted.{book}
use Rattle.circuit_set.specs.Examples.{ForgedIsUnsafe, OneMoreIsTooMany, RestartIsStale, again_at, forged_steps, n0aaa, node, pair_of, n0bbb}

abbrev first : Name
first = record { node = 0; id = 1 }

abbrev forged_net : Net
forged_net = net_run (begins (node n0aaa ∷ [])) forged_steps

abbrev received_by : Option Holder → List (List ℕ)
received_by None = []
received_by (Some h) = h.end.receiving.received

heard : received_by (end_at forged_net first) ≡ (88 ∷ []) ∷ []
unfolding head_at transport_at reading.accept_at
heard = refl

abbrev told : List Event
told = events_of (node n0aaa ∷ []) forged_steps

forged_fresh : Fresh empty told
unfolding head_at transport_at reading.accept_at
forged_fresh = ((tt, λ m q in_m in_q lasts kept far joined there same. absurd (let none = in_m.1 in omega (arith, none))), (tt, (tt, (tt, (tt, (tt, tt))))))

free : is_unknown (partner_in (book told).made first) ≡ true
unfolding head_at transport_at reading.accept_at
free = refl

unsafe_case : (o : Option Holder) → end_at forged_net first ≡ o → received_by o ≡ (88 ∷ []) ∷ [] → Safe (node n0aaa ∷ []) forged_steps → ⊥
unsafe_case None e r safe = cc r
unsafe_case (Some h) e r safe =
    let s : IsSafe (node n0aaa ∷ []) forged_steps first h = safe first h e in
    let a : SafeAlone h.end = s.end.alone (has_none told forged_fresh first free) in
    let z : [] ≡ (88 ∷ []) ∷ [] = sym a.received ∙ r in
    cc z

late : Timely allowance_at empty (events_of (node n0aaa ∷ []) forged_steps) → ⊥
unfolding head_at transport_at reading.accept_at
late t = let met = t.1.1.0.2 in cc met

pub forged_is_unsafe : ForgedIsUnsafe
forged_is_unsafe = record { late = late; unsafe = unsafe_case (end_at forged_net first) refl heard }

pub one_more_is_too_many : OneMoreIsTooMany
one_more_is_too_many acked low = omega arith

timely : Timely allowance_at empty (events_of (node n0aaa ∷ node n0bbb ∷ []) (again_at 1))
unfolding head_at transport_at reading.request_at
timely = (tt, (tt, (tt, (tt, (tt, (tt, (tt, (tt, (tt, tt)))))))))

apart : (n : ℕ) → n ≡ 0 → 1 ≤ n → ⊥
apart n e l = omega arith

stale : Fresh empty (events_of (node n0aaa ∷ node n0bbb ∷ []) (again_at 1)) → ⊥
unfolding head_at transport_at reading.request_at
stale f =
    let other : MadeNote = record { who = record { node = 1; id = 1 }; own = n0bbb; pair = pair_of 1; partner = Some first; told = Opened 1 ∷ [] } in
    let old : MadeNote = record { who = first; own = n0aaa; pair = pair_of 1; partner = None; told = [] } in
    f.1.1.1.1.1.1.1.0.1 other old (0, lit< tt, refl) (1, lit< tt, refl) refl refl (λ e. apart 1 e (omega arith)) refl refl refl

pub restart_is_stale : RestartIsStale
restart_is_stale = record { timely = timely; stale = stale }
