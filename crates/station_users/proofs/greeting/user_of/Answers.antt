use Rattle.std.proofs.Common.{◌≡◌, ◌≤◌, ◌-◌, ◌∙◌, ℕ, suc, sym, ap, List, length, take, drop, arith, false}
use Rattle.std.specs.Prelude.{None, Result, nat_lt, if◌then◌else◌}
use Rattle.std.proofs.lemmas.Bool.{lt-leb}
use Rattle.std.proofs.lemmas.List.{take_rest}
use Rattle.circuit_l4.specs.Transports.{transport_at}
use Rattle.circuit_l4.specs.declared.transport.Transport.{Transport}
use Rattle.circuit_l4.specs.declared.transport.TransportRefusal.{TransportRefusal}
use Rattle.station_users.specs.Greeting.{user_by, user_of}
use Rattle.station_users.proofs.greeting.user_of.Goals as goal

-- what is read of the octets behind the head of a request, by which its user is named
named : (items all : List ℕ) (r : Result Transport TransportRefusal) → 15 ≤ length items → all ≡ items
    → r ≡ transport_at (take (length all - 15) (drop 15 all)) → user_by r ≡ user_of items
named items all r whole is read =
    let long : nat_lt (length items) 15 ≡ false = lt-leb (suc (length items)) 15 (omega (arith, whole)) in
    ap user_by (read ∙ (ap transport_at (take_rest all 15) ∙ ap (λ bytes. transport_at (drop 15 bytes)) is))
    ∙ sym (ap (λ short. if short then None else user_by (transport_at (drop 15 items))) long)

pub returns-in-Ok : goal.returns-in-Ok
returns-in-Ok c =
    let items = c.args.request.now.items in
    let whole : 15 ≤ length items = omega (arith, c.if-len-lt-HEAD_SIZE.false, c.len.ensures.value) in
    c.user_in.ensures ∙ named items c.as_slice.result.now _ whole c.as_slice.ensures.value c.in-Ok.ensures.exact

pub returns-in-Err : goal.returns-in-Err
returns-in-Err c =
    let items = c.args.request.now.items in
    let whole : 15 ≤ length items = omega (arith, c.if-len-lt-HEAD_SIZE.false, c.len.ensures.value) in
    named items c.as_slice.result.now _ whole c.as_slice.ensures.value c.in-Err.ensures.exact
