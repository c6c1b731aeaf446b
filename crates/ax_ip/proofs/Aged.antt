-- Packets that go on.
use Rattle.std.proofs.Common.{◌≡◌, ◌≢◌, ◌<◌, ◌≤◌, ◌+◌, ◌-◌, ◌*◌, ◌/◌, ◌%◌, ◌∙◌, ℕ, suc, refl, sym, subst, List, [], ◌∷◌, length, take, drop, get_or, set, arith, true}
use Rattle.std.specs.Prelude.{nat_lt, ◌&&◌, ◌==◌}
use Rattle.std.proofs.lemmas.Bool.{eq-eqb, and_from}
use Rattle.std.proofs.lemmas.Bool.Decides.{nat_tests}
use Rattle.std.proofs.lemmas.List.{length-set, length-take, get_or-set_same, get_or-set_other, get_or-take}
use Rattle.ax_ip.specs.Machine.{onward, header_sum}
use Rattle.ax_ip.specs.Laws.{OnwardIsPacket, OnwardIsTheSame}
use Rattle.ax_ip.specs.Packets.{octet, long, PacketHead, SpellsPacket, is_right, lacking, word_sum}

twelve : (p : List ℕ) → 12 ≤ length p → p ≡ get_or p 0 0 ∷ get_or p 1 0 ∷ get_or p 2 0 ∷ get_or p 3 0 ∷ get_or p 4 0 ∷ get_or p 5 0 ∷ get_or p 6 0 ∷ get_or p 7 0 ∷ get_or p 8 0 ∷ get_or p 9 0 ∷ get_or p 10 0 ∷ get_or p 11 0 ∷ drop 12 p
twelve [] h = absurd (omega arith)
twelve (a ∷ []) h = absurd (omega arith)
twelve (a ∷ b ∷ []) h = absurd (omega arith)
twelve (a ∷ b ∷ c ∷ []) h = absurd (omega arith)
twelve (a ∷ b ∷ c ∷ d ∷ []) h = absurd (omega arith)
twelve (a ∷ b ∷ c ∷ d ∷ e ∷ []) h = absurd (omega arith)
twelve (a ∷ b ∷ c ∷ d ∷ e ∷ f ∷ []) h = absurd (omega arith)
twelve (a ∷ b ∷ c ∷ d ∷ e ∷ f ∷ g ∷ []) h = absurd (omega arith)
twelve (a ∷ b ∷ c ∷ d ∷ e ∷ f ∷ g ∷ i ∷ []) h = absurd (omega arith)
twelve (a ∷ b ∷ c ∷ d ∷ e ∷ f ∷ g ∷ i ∷ j ∷ []) h = absurd (omega arith)
twelve (a ∷ b ∷ c ∷ d ∷ e ∷ f ∷ g ∷ i ∷ j ∷ k ∷ []) h = absurd (omega arith)
twelve (a ∷ b ∷ c ∷ d ∷ e ∷ f ∷ g ∷ i ∷ j ∷ k ∷ l ∷ []) h = absurd (omega arith)
twelve (a ∷ b ∷ c ∷ d ∷ e ∷ f ∷ g ∷ i ∷ j ∷ k ∷ l ∷ m ∷ rest) h = refl

-- a header whose checksum lacks what its other words lack is right
balanced : (a b t : ℕ) → 0 < t → t ≡ a + (256 * (lacking (a + b) / 256) + lacking (a + b) % 256) + b → (nat_lt 0 t && (t % 65535 == 0)) ≡ true
balanced a b t some e =
    let multiple : t % 65535 ≡ 0 = omega (arith, e) in
    let first : nat_lt 0 t ≡ true = grind (arith, nat_tests) in
    and_from (nat_lt 0 t) (t % 65535 == 0) first (eq-eqb (t % 65535) 0 multiple)

signed_right : (x0 x1 x2 x3 x4 x5 x6 x7 x8 x9 : ℕ) (rest : List ℕ) (n header s : ℕ) → header ≡ suc (suc (suc (suc (suc (suc (suc (suc (suc (suc (suc (suc n))))))))))) → 0 < x0
    → s ≡ lacking (word_sum (x0 ∷ x1 ∷ x2 ∷ x3 ∷ x4 ∷ x5 ∷ x6 ∷ x7 ∷ x8 ∷ x9 ∷ []) + word_sum (take n rest))
    → is_right (take header (x0 ∷ x1 ∷ x2 ∷ x3 ∷ x4 ∷ x5 ∷ x6 ∷ x7 ∷ x8 ∷ x9 ∷ s / 256 ∷ s % 256 ∷ rest)) ≡ true
signed_right x0 x1 x2 x3 x4 x5 x6 x7 x8 x9 rest n header s e some w =
    rw e
    (balanced (word_sum (x0 ∷ x1 ∷ x2 ∷ x3 ∷ x4 ∷ x5 ∷ x6 ∷ x7 ∷ x8 ∷ x9 ∷ [])) (word_sum (take n rest))
    (word_sum (x0 ∷ x1 ∷ x2 ∷ x3 ∷ x4 ∷ x5 ∷ x6 ∷ x7 ∷ x8 ∷ x9 ∷ s / 256 ∷ s % 256 ∷ take n rest)) (omega arith) (rw (← w) (omega arith)))

onward_right_at : (h : PacketHead) (x0 x1 x2 x3 x4 x5 x6 x7 x8 x9 x10 x11 : ℕ) (rest : List ℕ) → 12 ≤ h.header → 0 < x0 → is_right (take h.header (onward h (x0 ∷ x1 ∷ x2 ∷ x3 ∷ x4 ∷ x5 ∷ x6 ∷ x7 ∷ x8 ∷ x9 ∷ x10 ∷ x11 ∷ rest))) ≡ true
onward_right_at h x0 x1 x2 x3 x4 x5 x6 x7 x8 x9 x10 x11 rest long some =
    signed_right x0 x1 x2 x3 x4 x5 x6 x7 (h.ttl - 1) x9 rest (h.header - 12) h.header
    (lacking (word_sum (x0 ∷ x1 ∷ x2 ∷ x3 ∷ x4 ∷ x5 ∷ x6 ∷ x7 ∷ (h.ttl - 1) ∷ x9 ∷ []) + word_sum (take (h.header - 12) rest))) (omega arith) some refl

onward_right : (h : PacketHead) (p : List ℕ) → 12 ≤ h.header → 12 ≤ length p → 0 < octet p 0 → is_right (take h.header (onward h p)) ≡ true
onward_right h p long enough some =
    subst (λ xs. is_right (take h.header (onward h xs)) ≡ true) (sym (twelve p enough))
    (onward_right_at h (get_or p 0 0) (get_or p 1 0) (get_or p 2 0) (get_or p 3 0) (get_or p 4 0) (get_or p 5 0) (get_or p 6 0) (get_or p 7 0) (get_or p 8 0) (get_or p 9 0) (get_or p 10 0) (get_or p 11 0) (drop 12 p) long some)

-- the octets that stay

kept : (h : PacketHead) (p : List ℕ) (k : ℕ) → k ≢ 8 → k ≢ 10 → k ≢ 11 → octet (onward h p) k ≡ octet p k
kept h p k e f g =
    let aged = set p 8 (h.ttl - 1) in
    let s = header_sum h.header aged in
    get_or-set_other (set aged 10 (s / 256)) 11 k (s % 256) 0 g ∙ (get_or-set_other aged 10 k (s / 256) 0 f ∙ get_or-set_other p 8 k (h.ttl - 1) 0 e)

aged_ttl : (h : PacketHead) (p : List ℕ) → 8 < length p → octet (onward h p) 8 ≡ h.ttl - 1
aged_ttl h p long =
    let aged = set p 8 (h.ttl - 1) in
    let s = header_sum h.header aged in
    get_or-set_other (set aged 10 (s / 256)) 11 8 (s % 256) 0 (omega arith) ∙ (get_or-set_other aged 10 8 (s / 256) 0 (omega arith) ∙ get_or-set_same p 8 (h.ttl - 1) 0 long)

as_long : (h : PacketHead) (p : List ℕ) → length (onward h p) ≡ length p
as_long h p =
    let aged = set p 8 (h.ttl - 1) in
    let s = header_sum h.header aged in
    length-set (set aged 10 (s / 256)) 11 (s % 256) ∙ (length-set aged 10 (s / 256) ∙ length-set p 8 (h.ttl - 1))

octet_before : (n : ℕ) (os : List ℕ) (k : ℕ) → k < n → octet (take n os) k ≡ octet os k
octet_before n os k h = get_or-take n os k 0 h

total_len : (h : PacketHead) (os : List ℕ) → SpellsPacket h os → length (take h.total os) ≡ h.total
total_len h os s = omega (arith, length-take h.total os, s.whole)

pub onward_same : OnwardIsTheSame
onward_same h os s = (as_long h (take h.total os) ∙ total_len h os s, kept h (take h.total os))

same_octet : (h : PacketHead) (os : List ℕ) → SpellsPacket h os → (k : ℕ) → k ≢ 8 → k ≢ 10 → k ≢ 11 → k < h.total → octet (onward h (take h.total os)) k ≡ octet os k
same_octet h os s k e f g within = kept h (take h.total os) k e f g ∙ octet_before h.total os k within

pub onward_ttl : (h : PacketHead) (os : List ℕ) → SpellsPacket h os → octet (onward h (take h.total os)) 8 ≡ h.ttl - 1
onward_ttl h os s = aged_ttl h (take h.total os) (omega (arith, total_len h os s, s.header_whole, s.holds_header))

pub onward_packet : OnwardIsPacket
onward_packet h os s =
    let len = as_long h (take h.total os) ∙ total_len h os s in
    let twenty : 20 ≤ h.total = omega (arith, s.header_whole, s.holds_header) in
    let same : (k : ℕ) → k ≢ 8 → k ≢ 10 → k ≢ 11 → k < h.total → octet (onward h (take h.total os)) k ≡ octet os k = same_octet h os s in
    let at : (k : ℕ) → k < 8 → octet (onward h (take h.total os)) k ≡ octet os k = λ k b. same k (omega arith) (omega arith) (omega arith) (omega arith) in
    let behind : (k : ℕ) → 12 ≤ k → k < 20 → octet (onward h (take h.total os)) k ≡ octet os k = λ k a b. same k (omega arith) (omega arith) (omega arith) (omega arith) in
    record {
      enough = omega (arith, len);
      few = omega (arith, len, s.whole, s.few);
      version = rw (at 0 (omega arith)) s.version;
      header = rw (at 0 (omega arith)) s.header;
      header_whole = s.header_whole;
      total = rw (at 2 (omega arith), at 3 (omega arith)) s.total;
      holds_header = s.holds_header;
      whole = omega (arith, len);
      ttl = onward_ttl h os s;
      protocol = rw (same 9 (omega arith) (omega arith) (omega arith) (omega arith)) s.protocol;
      right = onward_right h (take h.total os) (omega (arith, s.header_whole)) (omega (arith, total_len h os s)) (omega (arith, octet_before h.total os 0 (omega arith), s.version));
      source = rw (behind 12 (omega arith) (omega arith), behind 13 (omega arith) (omega arith), behind 14 (omega arith) (omega arith), behind 15 (omega arith) (omega arith)) s.source;
      dest = rw (behind 16 (omega arith) (omega arith), behind 17 (omega arith) (omega arith), behind 18 (omega arith) (omega arith), behind 19 (omega arith) (omega arith)) s.dest;
    }
