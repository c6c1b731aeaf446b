-- The octet that a refusal names is the first that no transport has at its place, or one that must follow.
use Rattle.std.proofs.Common.{◌≡◌, ◌≤◌, ◌<◌, ◌+◌, ◌-◌, ◌%◌, ◌/◌, ◌++◌, ◌∙◌, inl, inr, ℕ, refl, sym, ap, subst, List, [], ◌∷◌, length, take, drop, replicate, get_or, arith, Bool, true, false}
use Rattle.std.specs.Prelude.{Some, None, Result, Ok, Err, nat_lt, ◌==◌}
use Rattle.std.proofs.lemmas.Bool.{ltb-true, ltb-false}
use Rattle.std.proofs.lemmas.List.{append_assoc, drop-append-le, drop-take, take-append-drop, take-append-le, get_or_append_left, get_or-take, get_or_at, length-append, length-drop, length-replicate, length-take}
use Rattle.ax_address.specs.Octets.{net_call_in, address_fault, fault_in, refused_octet}
use Rattle.ax_address.specs.Octets as octets
use Rattle.ax_address.specs.declared.address_refusal.AddressRefusal.{AddressRefusal}
use Rattle.ax_address.proofs.CallFaults.{call_bad, not_both, still_none}
use Rattle.l3_datagram.proofs.Spelling.{drop_at}
use Rattle.circuit_l4.specs.declared.transport.Transport.{Transport}
use Rattle.circuit_l4.specs.declared.transport.Transport.TheVariants.{Request, Accept, Disconnect}
use Rattle.circuit_l4.specs.declared.transport.TransportRefusal.{TransportRefusal}
use Rattle.circuit_l4.specs.declared.transport.TransportRefusal.TheVariants.{Short, BadOpcode, TooLong}
use Rattle.circuit_l4.specs.Transports.{pair_at, opcode, choke, of_opcode, transport_at}
use Rattle.circuit_l4.specs.Faults.{BeginsTransport, FirstBad, FirstFault, FaultIsFirst}
use Rattle.circuit_l4.proofs.Spelling.{sized, octet_there, requested, on_accept}
use Rattle.circuit_l4.proofs.TransportsRead.{CallFault, RequestFault, CodeFault, NoCode, ReadRequest, by_size, size_is, call_good, request_ok, request_err, accept_err, code_err, no_code, requesting, accepting, disconnecting, transport_ok}

-- ---- octets that are kept

-- octet 4
fifth_kept : (k : ℕ) (os more : List ℕ) → 5 ≤ k → k ≤ length os → get_or (take k os ++ more) 4 0 ≡ get_or os 4 0
fifth_kept k os more h g = get_or_append_left (take k os) more 0 4 (omega (arith, length-take k os, h, g)) ∙ get_or-take k os 4 0 (omega (arith, h))

fifth_before : (os more : List ℕ) → 5 ≤ length os → get_or (os ++ more) 4 0 ≡ get_or os 4 0
fifth_before os more h = get_or_append_left os more 0 4 (omega (arith, h))

code_of : (os other : List ℕ) → get_or other 4 0 ≡ get_or os 4 0 → opcode other ≡ opcode os
code_of os other h = ap (λ n. n % 32) h

-- the characters of the user's call
user_before : (os more : List ℕ) → 12 ≤ length os → address_fault (drop 6 (os ++ more)) ≡ address_fault (drop 6 os)
user_before os more h = ap fault_in (sym (drop-take 6 6 (os ++ more)) ∙ (ap (drop 6) (take-append-le 12 os more h) ∙ drop-take 6 6 os))

user_kept : (k : ℕ) (os more : List ℕ) → 12 ≤ k → k ≤ length os → address_fault (drop 6 (take k os ++ more)) ≡ address_fault (drop 6 os)
user_kept k os more h g =
    let long : 12 ≤ length (take k os) = omega (arith, length-take k os, h, g) in
    user_before (take k os) more long ∙ (sym (user_before (take k os) (drop k os) long) ∙ ap (λ xs. address_fault (drop 6 xs)) (take-append-drop k os))

-- ---- what goes on to a transport

-- whatever four octets are, with opcode 3 they are a transport
ends : (front : List ℕ) → length front ≡ 4 → transport_at (front ++ 3 ∷ []) ≡ Ok (Disconnect (pair_at 0 (front ++ 3 ∷ [])))
ends front len =
    let all = front ++ 3 ∷ [] in
    let code : opcode all ≡ 3 = ap (λ n. n % 32) (get_or_at front 3 [] 0 4 len) in
    let long : length all ≡ 5 = omega (arith, length-append front (3 ∷ []), len) in
    sized all _ (omega (arith, long)) (omega (arith, long)) (disconnecting all code)

accepts : (os : List ℕ) → length os ≡ 5 → opcode os ≡ 2 → choke os ≡ false → transport_at (os ++ 1 ∷ []) ≡ Ok (Accept (pair_at 0 (os ++ 1 ∷ [])) (pair_at 2 (os ++ 1 ∷ [])) (get_or (os ++ 1 ∷ []) 5 0))
accepts os len two clear =
    let all = os ++ 1 ∷ [] in
    let fifth : get_or all 4 0 ≡ get_or os 4 0 = fifth_before os (1 ∷ []) (omega (arith, len)) in
    let code : opcode all ≡ 2 = code_of os all fifth ∙ two in
    let chokes : choke all ≡ false = ap (λ n. n / 128 % 2 == 1) fifth ∙ clear in
    let long : length all ≡ 6 = omega (arith, length-append os (1 ∷ []), len) in
    sized all _ (omega (arith, long)) (omega (arith, long)) (accepting all code chokes ∙ on_accept all (get_or all 5 0) (octet_there 5 all (omega (arith, long))))

record Requests (os : List ℕ) : Type 0 where
  low : 20 ≤ length os
  high : length os ≤ 241
  code : opcode os ≡ 1
  user : address_fault (drop 6 os) ≡ None
  node : address_fault (drop 13 os) ≡ None

abbrev request_in : List ℕ → Transport
request_in os = Request (pair_at 0 os) (get_or os 5 0) (net_call_in (take 7 (drop 6 os))) (net_call_in (take 7 (drop 13 os)))

requests : (os : List ℕ) → Requests os → transport_at os ≡ Ok (request_in os)
requests os h =
    let window = octet_there 5 os (omega (arith, h.low)) in
    let user = call_good 6 os (omega (arith, h.low)) h.user in
    let node = call_good 13 os h.low h.node in
    let read = requested os (get_or os 5 0) (net_call_in (take 7 (drop 6 os))) (net_call_in (take 7 (drop 13 os))) window user node in
    sized os _ (omega (arith, h.low)) h.high (requesting os h.code ∙ read)

-- a window, and the call A twice
abbrev behind_head : List ℕ
behind_head = 1 ∷ 130 ∷ 64 ∷ 64 ∷ 64 ∷ 64 ∷ 64 ∷ 96 ∷ 130 ∷ 64 ∷ 64 ∷ 64 ∷ 64 ∷ 64 ∷ 96 ∷ []

-- the last octet of a call, and the call A
abbrev behind_user : List ℕ
behind_user = 96 ∷ 130 ∷ 64 ∷ 64 ∷ 64 ∷ 64 ∷ 64 ∷ 96 ∷ []

abbrev behind_node : List ℕ
behind_node = 96 ∷ []

request_goes : (front more : List ℕ) → Requests (front ++ more) → BeginsTransport front
request_goes front more h = (more, request_in (front ++ more), requests (front ++ more) h)

-- octets that are put behind in two parts
in_parts : (front more rest : List ℕ) → Requests ((front ++ more) ++ rest) → BeginsTransport front
in_parts front more rest h = request_goes front (more ++ rest) (subst Requests (append_assoc front more rest) h)

head_goes : (os : List ℕ) → length os ≡ 5 → opcode os ≡ 1 → BeginsTransport os
head_goes os len code =
    let all = os ++ behind_head in
    let long : length all ≡ 20 = omega (arith, length-append os behind_head, len) in
    request_goes os behind_head (record {
      low = omega (arith, long);
      high = omega (arith, long);
      code = code_of os all (fifth_before os behind_head (omega (arith, len))) ∙ code;
      user = ap address_fault (drop_at os behind_head 5 1 len);
      node = ap address_fault (drop_at os behind_head 5 8 len);
    })

user_goes : (front more : List ℕ) → length (front ++ more) ≡ 12 → opcode (front ++ more) ≡ 1 → address_fault (drop 6 (front ++ more)) ≡ None → BeginsTransport front
user_goes front more len code none =
    let twelve = front ++ more in
    let all = twelve ++ behind_user in
    let long : length all ≡ 20 = omega (arith, length-append twelve behind_user, len) in
    in_parts front more behind_user (record {
      low = omega (arith, long);
      high = omega (arith, long);
      code = code_of twelve all (fifth_before twelve behind_user (omega (arith, len))) ∙ code;
      user = still_none 6 twelve behind_user len none;
      node = ap address_fault (drop_at twelve behind_user 12 1 len);
    })

node_goes : (front more : List ℕ) → length (front ++ more) ≡ 19 → opcode (front ++ more) ≡ 1 → address_fault (drop 6 (front ++ more)) ≡ None → address_fault (drop 13 (front ++ more)) ≡ None → BeginsTransport front
node_goes front more len code user none =
    let most = front ++ more in
    let all = most ++ behind_node in
    let long : length all ≡ 20 = omega (arith, length-append most behind_node, len) in
    in_parts front more behind_node (record {
      low = omega (arith, long);
      high = omega (arith, long);
      code = code_of most all (fifth_before most behind_node (omega (arith, len))) ∙ code;
      user = user_before most behind_node (omega (arith, len)) ∙ user;
      node = still_none 13 most behind_node len none;
    })

-- ---- a call at fault

reads : (os : List ℕ) (t : Transport) → opcode os ≡ 1 → transport_at os ≡ Ok t → ReadRequest os
reads os t code h = request_ok os t (sym (requesting os code) ∙ (transport_ok os t h).read)

user_bad : octets.FaultIsFirst → octets.FrontGoesOn → (os : List ℕ) (r : AddressRefusal) → opcode os ≡ 1 → address_fault (drop 6 os) ≡ Some r → FirstBad os (6 + refused_octet r)
user_bad first law os r code h =
    let b = call_bad first law 6 os r h in
    let p = 6 + refused_octet r in
    record {
      within = b.within;
      before = user_goes (take p os) b.more b.six (code_of os (take p os ++ b.more) (fifth_kept p os b.more (omega arith) (omega (arith, b.within))) ∙ code) b.none;
      stays = λ more t k.
          let other = take (p + 1) os ++ more in
          let same : opcode other ≡ 1 = code_of os other (fifth_kept (p + 1) os more (omega arith) (omega (arith, b.within))) ∙ code in
          not_both (address_fault (drop 6 other)) r (reads other t same k).user (b.stays more);
    }

node_bad : octets.FaultIsFirst → octets.FrontGoesOn → (os : List ℕ) (r : AddressRefusal) → opcode os ≡ 1 → address_fault (drop 6 os) ≡ None → address_fault (drop 13 os) ≡ Some r → FirstBad os (13 + refused_octet r)
node_bad first law os r code none h =
    let b = call_bad first law 13 os r h in
    let p = 13 + refused_octet r in
    record {
      within = b.within;
      before =
          node_goes (take p os) b.more b.six (code_of os (take p os ++ b.more) (fifth_kept p os b.more (omega arith) (omega (arith, b.within))) ∙ code)
          (user_kept p os b.more (omega arith) (omega (arith, b.within)) ∙ none) b.none;
      stays = λ more t k.
          let other = take (p + 1) os ++ more in
          let same : opcode other ≡ 1 = code_of os other (fifth_kept (p + 1) os more (omega arith) (omega (arith, b.within))) ∙ code in
          not_both (address_fault (drop 13 other)) r (reads other t same k).node (b.stays more);
    }

-- ---- octets that end

cut : octets.FrontGoesOn → (at : ℕ) (os : List ℕ) → at ≤ length os → length os ≤ at + 6 → address_fault (drop at os) ≡ None → (more : List ℕ) × (length (os ++ more) ≡ at + 6) × (address_fault (drop at (os ++ more)) ≡ None)
cut law at os low high none =
    let rest = drop at os in
    let m = law rest (omega (arith, length-drop at os, high)) none in
    (m.0, omega (arith, length-append os m.0, length-append rest m.0, length-drop at os, m.1, low), ap address_fault (drop-append-le at os m.0 low) ∙ m.2)

user_cut : octets.FrontGoesOn → (os : List ℕ) → opcode os ≡ 1 → 6 ≤ length os → length os < 13 → address_fault (drop 6 os) ≡ None → BeginsTransport os
user_cut law os code low high none =
    let c = cut law 6 os low (omega (arith, high)) none in
    user_goes os c.0 c.1 (code_of os (os ++ c.0) (fifth_before os c.0 (omega (arith, low))) ∙ code) c.2

node_cut : octets.FrontGoesOn → (os : List ℕ) → opcode os ≡ 1 → 13 ≤ length os → length os < 20 → address_fault (drop 6 os) ≡ None → address_fault (drop 13 os) ≡ None → BeginsTransport os
node_cut law os code low high user none =
    let c = cut law 13 os low (omega (arith, high)) none in
    node_goes os c.0 c.1 (code_of os (os ++ c.0) (fifth_before os c.0 (omega (arith, low))) ∙ code)
    (user_before os c.0 (omega (arith, low)) ∙ user) c.2

short_goes : (os : List ℕ) → length os < 5 → BeginsTransport os
short_goes os h =
    let rest = replicate (4 - length os) 0 in
    let four : length (os ++ rest) ≡ 4 = omega (arith, length-append os rest, length-replicate {A = ℕ} (4 - length os) 0, h) in
    let all = (os ++ rest) ++ 3 ∷ [] in
    (rest ++ 3 ∷ [], Disconnect (pair_at 0 all), ap transport_at (sym (append_assoc os rest (3 ∷ []))) ∙ ends (os ++ rest) four)

-- ---- an opcode that is none

no_opcode : (os : List ℕ) → 5 ≤ length os → NoCode (opcode os) → FirstBad os 4
no_opcode os long none = record {
  within = omega (arith, long);
  before =
      let front = take 4 os in
      let len : length front ≡ 4 = omega (arith, length-take 4 os, long) in
      (3 ∷ [], Disconnect (pair_at 0 (front ++ 3 ∷ [])), ends front len);
  stays = λ more t k.
      let other = take (4 + 1) os ++ more in
      let same : opcode os ≡ opcode other = sym (code_of os other (fifth_kept 5 os more (omega arith) long)) in
      let refused : of_opcode other ≡ Err BadOpcode = no_code other (subst NoCode same none) in
      let read : of_opcode other ≡ Ok t = (transport_ok other t k).read in
      absurd cc;
}

-- ---- whichever it is

by_user : octets.FaultIsFirst → octets.FrontGoesOn → (os : List ℕ) (w : TransportRefusal) → opcode os ≡ 1 → 6 ≤ length os → CallFault 6 (length os) (address_fault (drop 6 os)) w → FirstFault os w
by_user first law os w code low (inl f) = subst (FirstFault os) f.2 (user_bad first law os f.0 code f.1)
by_user first law os w code low (inr s) = subst (FirstFault os) s.2 (refl, user_cut law os code low s.0 s.1)

by_node : octets.FaultIsFirst → octets.FrontGoesOn → (os : List ℕ) (w : TransportRefusal) → opcode os ≡ 1 → 13 ≤ length os → address_fault (drop 6 os) ≡ None → CallFault 13 (length os) (address_fault (drop 13 os)) w → FirstFault os w
by_node first law os w code low user (inl f) = subst (FirstFault os) f.2 (node_bad first law os f.0 code user f.1)
by_node first law os w code low user (inr s) = subst (FirstFault os) s.2 (refl, node_cut law os code low s.0 user s.1)

by_request : octets.FaultIsFirst → octets.FrontGoesOn → (os : List ℕ) (w : TransportRefusal) → 5 ≤ length os → opcode os ≡ 1 → RequestFault os w → FirstFault os w
by_request first law os w low code (inl s) = subst (FirstFault os) s.1 (refl, head_goes os (omega (arith, low, s.0)) code)
by_request first law os w low code (inr (inl u)) = by_user first law os w code (omega (arith, u.0)) u.1
by_request first law os w low code (inr (inr n)) = by_node first law os w code n.0 n.1 n.2

by_code : octets.FaultIsFirst → octets.FrontGoesOn → (os : List ℕ) (w : TransportRefusal) → 5 ≤ length os → CodeFault os w → FirstFault os w
by_code first law os w low (inl r) = by_request first law os w low r.0 (request_err os w r.1)
by_code first law os w low (inr (inl a)) =
    let s = accept_err os w a.2 in
    let all = os ++ 1 ∷ [] in
    let goes : BeginsTransport os = (1 ∷ [], Accept (pair_at 0 all) (pair_at 2 all) (get_or all 5 0), accepts os (omega (arith, low, s.0)) a.0 a.1) in
    subst (FirstFault os) s.1 (refl, goes)
by_code first law os w low (inr (inr n)) = subst (FirstFault os) n.1 (no_opcode os low n.0)

too_long : (os : List ℕ) → 241 < length os → FirstFault os TooLong
too_long os long many le other t len k = omega (arith, long, le, len, (transport_ok other t k).high)

abbrev err_transport : TransportRefusal → Result Transport TransportRefusal
err_transport w = Err w

same_refusal : (d w : TransportRefusal) → err_transport d ≡ err_transport w → d ≡ w
same_refusal d w h = cc

sizes : octets.FaultIsFirst → octets.FrontGoesOn → (os : List ℕ) (w : TransportRefusal) (long short : Bool) → nat_lt 241 (length os) ≡ long → nat_lt (length os) 5 ≡ short → by_size long short (length os) (of_opcode os) ≡ Err w → FirstFault os w
sizes first law os w true short l s h = subst (FirstFault os) (same_refusal TooLong w h) (too_long os (ltb-true 241 (length os) l))
sizes first law os w false true l s h = subst (FirstFault os) (same_refusal (Short (length os)) w h) (refl, short_goes os (ltb-true (length os) 5 s))
sizes first law os w false false l s h = by_code first law os w (ltb-false (length os) 5 s) (code_err os w h)

pub fault_is_first : octets.FaultIsFirst → octets.FrontGoesOn → FaultIsFirst
fault_is_first first law os w h = sizes first law os w (nat_lt 241 (length os)) (nat_lt (length os) 5) refl refl (sym (size_is os) ∙ h)
