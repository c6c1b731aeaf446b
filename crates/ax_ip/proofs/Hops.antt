-- What is forwarded, and how often.
use Rattle.std.proofs.Common.{◌≡◌, ◌<◌, ◌≤◌, ◌-◌, ◌/◌, ◌∙◌, ℕ, refl, sym, ap, subst, List, [], ◌∷◌, length, take, arith, Bool, true, false, cond}
use Rattle.std.specs.Prelude.{Option, Some, None, Result, Ok, Err, nat_lt, nat_le, ◌==◌}
use Rattle.std.proofs.lemmas.Bool.{eqb-true, not-false}
use Rattle.std.proofs.lemmas.Bool.Decides.{nat_tests}
use Rattle.ax_address.specs.Callsign.{Callsign}
use Rattle.ax_frame.specs.Frames.{Frame}
use Rattle.ax_ip.specs.declared.arp.ArpRefusal.{ArpRefusal}
use Rattle.ax_ip.specs.declared.content.Content.{Content}
use Rattle.ax_ip.specs.declared.content.Content.TheVariants as content
use Rattle.ax_ip.specs.declared.ip_done.IpDone.TheVariants.{Forwarded, Echoed}
use Rattle.ax_ip.specs.declared.ip_done.IpWhy.TheVariants.{Ours, Expired}
use Rattle.ax_ip.specs.declared.out.IpOut.{IpOut}
use Rattle.ax_ip.specs.declared.packet.PacketRefusal.{PacketRefusal}
use Rattle.ax_ip.specs.Arps.{Arp, arp_at}
use Rattle.ax_ip.specs.Machine.{Neighbour, call_of, content_of, is_request, reply, onward, State, Turn, turn, packet_to, sends, arp_turn, own_turn, to_call, by_route, onward_turn, packet_turn, content_turn, dropped}
use Rattle.ax_ip.specs.Laws.{SendsOn, ForwardedIsSentOn, Forwards, AtMostItsTimeToLive}
use Rattle.ax_ip.specs.Packets.{octet, word, PacketHead, SpellsPacket, packet_at, head_in, header_len, is_outside, is_right}
use Rattle.ax_ip.specs.Routes.{IpRoute, longest, next_hop}
use Rattle.ax_ip.proofs.Aged.{onward_ttl}

-- what is read is laid out so

ok_else : (b : Bool) (e : PacketRefusal) (r : Result PacketHead PacketRefusal) (h : PacketHead) → cond b (Err e) r ≡ Ok h → (b ≡ false) × (r ≡ Ok h)
ok_else true e r h k = absurd (cc)
ok_else false e r h k = (refl, k)

within : (least n most : ℕ) → is_outside least n most ≡ false → (least ≤ n) × (n ≤ most)
within least n most h = (grind (arith, nat_tests), grind (arith, nat_tests))

spelled_head : (os : List ℕ) → nat_lt (length os) 20 ≡ false → nat_lt 256 (length os) ≡ false → (octet os 0 / 16 == 4) ≡ true → is_outside 20 (header_len os) (length os) ≡ false
    → is_outside (header_len os) (word os 2) (length os) ≡ false → is_right (take (header_len os) os) ≡ true → SpellsPacket (head_in os) os
spelled_head os a b c d e f = record {
  enough = grind (arith, nat_tests);
  few = grind (arith, nat_tests);
  version = eqb-true (octet os 0 / 16) 4 c;
  header = refl;
  header_whole = (within 20 (header_len os) (length os) d).0;
  total = refl;
  holds_header = (within (header_len os) (word os 2) (length os) e).0;
  whole = (within (header_len os) (word os 2) (length os) e).1;
  ttl = refl;
  protocol = refl;
  right = f;
  source = refl;
  dest = refl;
}

spelled : (os : List ℕ) (h : PacketHead) → packet_at os ≡ Ok h → SpellsPacket h os
spelled os h k =
    let a = ok_else _ _ _ h k in
    let b = ok_else _ _ _ h a.1 in
    let c = ok_else _ _ _ h b.1 in
    let d = ok_else _ _ _ h c.1 in
    let e = ok_else _ _ _ h d.1 in
    let f = ok_else _ _ _ h e.1 in
    let same : head_in os ≡ h = ok_same (Ok (head_in os)) (head_in os) h refl f.1 in
    subst (λ x. SpellsPacket x os) same (spelled_head os a.0 b.0 (not-false _ c.0) d.0 e.0 (not-false _ f.0))
  where
    ok_same : (p : Result PacketHead PacketRefusal) (x y : PacketHead) → p ≡ Ok x → p ≡ Ok y → x ≡ y
    ok_same p x y e f = cc

-- what is forwarded

by_call : (s : State) (h : PacketHead) (os : List ℕ) (hop : ℕ) (o : Option Callsign) → SpellsPacket h os → 1 < h.ttl → (to_call s h (take h.total os) hop o).done ≡ Forwarded → SendsOn os (to_call s h (take h.total os) hop o)
by_call s h os hop (Some call) p a e = record { head = h; packet = p; alive = a; call = call; sent = refl }
by_call s h os hop None p a e = absurd (cc)

routed : (s : State) (h : PacketHead) (os : List ℕ) (o : Option IpRoute) → SpellsPacket h os → 1 < h.ttl → (by_route s h (take h.total os) o).done ≡ Forwarded → SendsOn os (by_route s h (take h.total os) o)
routed s h os (Some r) p a e = by_call s h os (next_hop r h.dest) (call_of (next_hop r h.dest) s.cache) p a e
routed s h os None p a e = absurd (cc)

lived : (s : State) (h : PacketHead) (os : List ℕ) (b : Bool) (t : Turn) → nat_le h.ttl 1 ≡ b → (1 < h.ttl → t.done ≡ Forwarded → SendsOn os t) → (cond b (dropped Expired s) t).done ≡ Forwarded → SendsOn os (cond b (dropped Expired s) t)
lived s h os true t l f e = absurd (cc)
lived s h os false t l f e = f (grind (arith, nat_tests)) e

owned : (s : State) (source : Callsign) (h : PacketHead) (packet os : List ℕ) (b : Bool) → (cond b (sends Echoed (packet_to source (reply packet)) s.cache) (dropped Ours s)).done ≡ Forwarded → SendsOn os (cond b (sends Echoed (packet_to source (reply packet)) s.cache) (dropped Ours s))
owned s source h packet os true e = absurd (cc)
owned s source h packet os false e = absurd (cc)

either : (os : List ℕ) (b : Bool) (t u : Turn) → (t.done ≡ Forwarded → SendsOn os t) → (u.done ≡ Forwarded → SendsOn os u) → (cond b t u).done ≡ Forwarded → SendsOn os (cond b t u)
either os true t u f g e = f e
either os false t u f g e = g e

read : (s : State) (source : Callsign) (os : List ℕ) (r : Result PacketHead PacketRefusal) → packet_at os ≡ r → (packet_turn s source os r).done ≡ Forwarded → SendsOn os (packet_turn s source os r)
read s source os (Err refusal) k e = absurd (cc)
read s source os (Ok h) k e =
    either os (h.dest == s.address) (own_turn s source h (take h.total os)) (onward_turn s h (take h.total os))
    (owned s source h (take h.total os) os (is_request h (take h.total os)))
    (lived s h os (nat_le h.ttl 1) (by_route s h (take h.total os) (longest h.dest s.routes)) refl (routed s h os (longest h.dest s.routes) (spelled os h k))) e

heard_none : (s : State) (arp : Arp) (cache : List Neighbour) (os : List ℕ) (b : Bool) (t u : Turn) → (t.done ≡ Forwarded → ⊥) → (u.done ≡ Forwarded → ⊥) → (cond b t u).done ≡ Forwarded → ⊥
heard_none s arp cache os true t u f g e = f e
heard_none s arp cache os false t u f g e = g e

arp_none : (s : State) (r : Result Arp ArpRefusal) → (arp_turn s r).done ≡ Forwarded → ⊥
arp_none s (Err refusal) e = absurd (cc)
arp_none s (Ok arp) e =
    heard_none s arp s.cache [] (arp.target_ip == s.address) _ _
    (heard_none s arp s.cache [] arp.reply _ _ (λ k. absurd (cc)) (λ k. absurd (cc))) (λ k. absurd (cc)) e

carried : (s : State) (f : Frame) (c : Content) → (content_turn s f c).done ≡ Forwarded → SendsOn f.info (content_turn s f c)
carried s f content.Packet e = read s f.head.source.call f.info (packet_at f.info) refl e
carried s f content.Arp e = absurd (arp_none s (arp_at f.info) e)
carried s f content.Nothing e = absurd (cc)

pub sent_on : ForwardedIsSentOn
unfolding turn
sent_on s f e = carried s f (content_of s.call f) e

-- a hop takes one from the time to live

same_info : (a b : Callsign) (x y : List ℕ) (o : Option IpOut) → o ≡ Some (packet_to a x) → o ≡ Some (packet_to b y) → x ≡ y
same_info a b x y o h g = let e : Some (packet_to a x) ≡ Some (packet_to b y) = sym h ∙ g in ap info_of e
  where
    info_of : Option IpOut → List ℕ
    info_of (Some out) = out.info.items
    info_of None = []

one_less : (s : State) (p q : List ℕ) → Forwards s p q → (1 < octet p 8) × (octet q 8 ≡ octet p 8 - 1)
one_less s p q f =
    let on = subst (λ os. SendsOn os (turn s f.frame)) f.brings (sent_on s f.frame f.done) in
    let same = same_info on.call f.call (onward on.head (take on.head.total p)) q (turn s f.frame).out on.sent f.sent in
    let ttl = on.packet.ttl in
    let alive = on.alive in
    let left : octet (onward on.head (take on.head.total p)) 8 ≡ on.head.ttl - 1 = onward_ttl on.head p on.packet in
    let gone : octet q 8 ≡ octet (onward on.head (take on.head.total p)) 8 = ap (λ os. octet os 8) (sym same) in
    (omega arith, omega arith)

pub hops : AtMostItsTimeToLive
hops [] p t = omega arith
hops (s ∷ ss) p t =
    let one = one_less s p t.0 t.1 in
    let rest : length ss ≤ octet t.0 8 = hops ss t.0 t.2 in
    let less = one.0 in
    let same = one.1 in
    omega arith
