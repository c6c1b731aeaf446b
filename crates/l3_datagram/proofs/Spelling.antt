-- What is spelled is read, and what is written spells it.
use Rattle.std.proofs.Common.{◌≡◌, ◌+◌, ◌-◌, ◌*◌, ◌≤◌, ◌++◌, ◌∙◌, ℕ, refl, sym, ap, List, [], ◌∷◌, length, replicate, map, take, drop, get_or, Ok, arith, append_assoc}
use Rattle.std.proofs.lemmas.List.{take_at, length-append, length-map, length-replicate, get_or-append_right}
use Rattle.std.proofs.Math.Seq.{drop-append-add}
use Rattle.ax_address.specs.Callsign.{Callsign, name_in, padded}
use Rattle.ax_address.specs.Octets.{SpellsNetCall, SpelledNetCallIsRead, WrittenNetCallSpellsIt, net_call_at, net_call_octets}
use Rattle.l3_datagram.specs.declared.datagram.DatagramHead.{DatagramHead}
use Rattle.l3_datagram.specs.Datagrams.{SpelledDatagramIsRead, WrittenAgainIsTheSame, WrittenDatagramSpellsIt, plain_call, sized, call_from, fault_from, head_at}

-- a call has six characters
doubled_six : (c : Callsign) (octets : List ℕ) → SpellsNetCall c octets → length (map (λ b. 2 * b) c.letters) ≡ 6
doubled_six c octets h =
    let name = name_in c.letters in
    let six : length (padded name) ≡ 6 = omega (arith, length-append name (replicate (6 - length name) 32), length-replicate {A = ℕ} (6 - length name) 32, h.is_call.six) in
    length-map c.letters (λ b. 2 * b) ∙ (ap length h.is_call.spaces ∙ six)

-- a call is spelled by seven octets
pub seven : (c : Callsign) (octets : List ℕ) → SpellsNetCall c octets → length octets ≡ 7
seven c octets h =
    let doubled : length (map (λ b. 2 * b) c.letters) ≡ 6 = doubled_six c octets h in
    ap length h.spelled ∙ omega (arith, length-append (map (λ b. 2 * b) c.letters) (h.last ∷ []), doubled)

-- a call that is read and written again is the same, but for what is ignored
same_call : (c : Callsign) (octets : List ℕ) → SpellsNetCall c octets → net_call_octets c ≡ plain_call octets
same_call c octets h =
    let doubled = map (λ b. 2 * b) c.letters in
    let six = doubled_six c octets h in
    let front : take 6 (doubled ++ h.last ∷ []) ≡ doubled = take_at doubled (h.last ∷ []) 6 six in
    let back : get_or (doubled ++ h.last ∷ []) 6 0 ≡ h.last = get_or-append_right doubled (h.last ∷ []) 6 6 0 six (omega arith) in
    rw (h.spelled, front, back, h.ssid) refl

pub drop_at : (front back : List ℕ) (n more : ℕ) → length front ≡ n → drop (n + more) (front ++ back) ≡ drop more back
drop_at front back n more len = ap (λ k. drop (k + more) (front ++ back)) (sym len) ∙ drop-append-add front back more

-- the parts of a datagram's octets
module _ (a b : List ℕ) (ttl : ℕ) (transport : List ℕ) (seven_a : length a ≡ 7) (seven_b : length b ≡ 7) where
  both : length (a ++ b) ≡ 14
  both = omega (arith, length-append a b)

  size : length (a ++ b ++ ttl ∷ transport) ≡ 15 + length transport
  size = omega (arith, length-append (a ++ b) (ttl ∷ transport), both)

  first : take 7 (drop 0 (a ++ b ++ ttl ∷ transport)) ≡ a
  first = rw append_assoc (take_at a (b ++ ttl ∷ transport) 7 seven_a)

  second : take 7 (drop 7 (a ++ b ++ ttl ∷ transport)) ≡ b
  second = rw append_assoc (ap (take 7) (drop_at a (b ++ ttl ∷ transport) 7 0 seven_a) ∙ take_at b (ttl ∷ transport) 7 seven_b)

  hops : get_or (a ++ b ++ ttl ∷ transport) 14 0 ≡ ttl
  hops = get_or-append_right (a ++ b) (ttl ∷ transport) 14 14 0 both (omega arith)

  from_hops : drop 14 (a ++ b ++ ttl ∷ transport) ≡ ttl ∷ transport
  from_hops = drop_at (a ++ b) (ttl ∷ transport) 14 0 both

  rest : drop 15 (a ++ b ++ ttl ∷ transport) ≡ transport
  rest = drop_at (a ++ b) (ttl ∷ transport) 14 1 both

pub sized_whole : (octets : List ℕ) → 15 ≤ length octets → length octets ≤ 256 → sized octets ≡ Ok octets
sized_whole octets low high = grind arith

read_by : (octets : List ℕ) (origin dest : Callsign) → sized octets ≡ Ok octets → call_from 0 octets ≡ Ok origin → call_from 7 octets ≡ Ok dest
    → head_at octets ≡ Ok (record { origin = origin; dest = dest; ttl = get_or octets 14 0 })
unfolding head_at
read_by octets origin dest s o d = rw (s, o, d) refl

abbrev with_hops : DatagramHead → ℕ → DatagramHead
with_hops head ttl = record { origin = head.origin; dest = head.dest; ttl = ttl }

pub spelled_is_read : SpelledNetCallIsRead → SpelledDatagramIsRead
spelled_is_read read head transport octets h =
    let sa = seven head.origin h.origin h.from in
    let sb = seven head.dest h.dest h.to in
    let whole : List ℕ = h.origin ++ h.dest ++ head.ttl ∷ transport in
    let origin : call_from 0 whole ≡ Ok head.origin =
    ap (λ os. fault_from 0 (net_call_at os)) (first h.origin h.dest head.ttl transport sa sb) ∙ ap (fault_from 0) (read head.origin h.origin h.from) in
    let dest : call_from 7 whole ≡ Ok head.dest =
    ap (λ os. fault_from 7 (net_call_at os)) (second h.origin h.dest head.ttl transport sa sb) ∙ ap (fault_from 7) (read head.dest h.dest h.to) in
    let fits : length whole ≤ 256 = rw h.spelled at h.fits in
    let low : 15 ≤ length whole = omega (arith, size h.origin h.dest head.ttl transport sa sb) in
    let is_read : head_at whole ≡ Ok head =
    read_by whole head.origin head.dest (sized_whole whole low fits) origin dest
    ∙ ap (λ (t : ℕ). Ok (with_hops head t)) (hops h.origin h.dest head.ttl transport sa sb) in
    rw h.spelled (is_read, rest h.origin h.dest head.ttl transport sa sb)

pub written_spells : WrittenNetCallSpellsIt → WrittenDatagramSpellsIt
written_spells written head transport from to fits = record {
  origin = net_call_octets head.origin;
  dest = net_call_octets head.dest;
  from = written head.origin from;
  to = written head.dest to;
  spelled = refl;
  fits =
      let a = net_call_octets head.origin in
      let b = net_call_octets head.dest in
      omega (arith, size a b head.ttl transport (seven head.origin a (written head.origin from)) (seven head.dest b (written head.dest to)));
}

pub written_again : WrittenAgainIsTheSame
written_again head transport octets h =
    let sa = seven head.origin h.origin h.from in
    let sb = seven head.dest h.dest h.to in
    rw (h.spelled, first h.origin h.dest head.ttl transport sa sb, second h.origin h.dest head.ttl transport sa sb, from_hops h.origin h.dest head.ttl transport sa sb, same_call head.origin h.origin h.from, same_call head.dest h.dest h.to) refl
