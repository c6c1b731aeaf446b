-- A carried frame that a repeater has repeated is the same, with the H bit of that repeater set, and is carried.
use Rattle.std.proofs.Common.{◌≡◌, ◌∙◌, ◌+◌, ◌*◌, ◌-◌, ◌^◌, ◌<◌, ◌≤◌, ℕ, zero, suc, refl, sym, ap, subst, arith, List, [], ◌∷◌, ◌++◌, length, map, append_assoc, inl, inr}
use Rattle.std.specs.Prelude.{Bool, true, false, ◌⊎◌, nat_eq, if◌then◌else◌, cond, slice_set, slice_index}
use Rattle.std.specs.List.{AllByRecursion, prefix_len}
use Rattle.std.specs.Int.Bits.{bit_and, bit_or, and_zero_r}
use Rattle.std.proofs.lemmas.Nat.{and_block, or_disjoint}
use Rattle.std.proofs.lemmas.List.{length-map}
use Rattle.radio_base.specs.declared.payload.Payload.{Payload}
use Rattle.ax_address.specs.Callsign.{Callsign, same_call}
use Rattle.ax_address.specs.declared.address.Address.{Address}
use Rattle.ax_address.specs.Octets.{address_octets, ssid_octet}
use Rattle.ax_frame.specs.Controls.{control_octets}
use Rattle.ax_frame.specs.Frames.{Frame, IsAddress, addresses, addresses_octets, frame, head, pid_octets}
use Rattle.ax_frame.proofs.Addresses.{six_letters}
use Rattle.ax_frame.proofs.Spelled.{seven}
use Rattle.digi_path.specs.Paths.{Action, For_me, Repeat, Not_yet, Heard, action, behind, has_repeated, repeated}
use Rattle.link_table.specs.Frames as frames
use Rattle.link_table.specs.Laws.{FrameHolds}
use Rattle.node_core.specs.Broadcasts.{is_broadcast}
use Rattle.node_core.specs.Carried.{IsCarried}
use Rattle.node_core.specs.Receiving.{repeated_octets}
use Rattle.node_core.proofs.Spelling.{parted}

-- ---- the H bit of an address

or_high : (n : ℕ) → n < 128 → bit_or n 128 ≡ n + 128
or_high n low =
    let block = and_block 7 0 1 n 0 low (omega arith) in
    or_disjoint n 128 (sym (and_at n) ∙ (block ∙ rest n))
  where
    and_at : (n : ℕ) → bit_and (0 * 2 ^ 7 + n) (1 * 2 ^ 7 + 0) ≡ bit_and n 128
    and_at n = let e : 0 * 2 ^ 7 + n ≡ n = omega arith in ap (λ k. bit_and k 128) e

    rest : (n : ℕ) → bit_and 0 1 * 2 ^ 7 + bit_and n 0 ≡ 0
    rest n = ap (λ k. 0 * 2 ^ 7 + k) (and_zero_r n)

bits : (last : Bool) (r : Address) → r.bit7 ≡ false → IsAddress r → bit_or (ssid_octet r last) 128 ≡ ssid_octet (repeated r) last
bits last r e i =
    let low : ssid_octet (record r { bit7 = false }) last < 128 = small last r (r.two_bits) (i.small) in
    ap (λ b. bit_or ((if b then 128 else 0) + 32 * r.reserved + 2 * r.call.ssid + (if last then 1 else 0)) 128) e
    ∙ (or_high (ssid_octet (record r { bit7 = false }) last) low ∙ more last r)
  where
    small : (last : Bool) (r : Address) → r.reserved ≤ 3 → r.call.ssid ≤ 15 → 0 + 32 * r.reserved + 2 * r.call.ssid + (if last then 1 else 0) < 128
    small true r a b = omega (arith, a, b)
    small false r a b = omega (arith, a, b)

    more : (last : Bool) (r : Address) → (0 + 32 * r.reserved + 2 * r.call.ssid + (if last then 1 else 0)) + 128 ≡ 128 + 32 * r.reserved + 2 * r.call.ssid + (if last then 1 else 0)
    more true r = omega arith
    more false r = omega arith

-- ---- an octet with bit 7 set
raised : ℕ → List ℕ → List ℕ
raised n os = slice_set os n (bit_or (slice_index os n) 128)

set_behind : (xs ys : List ℕ) (n k v : ℕ) → n ≡ length xs + k → slice_set (xs ++ ys) n v ≡ xs ++ slice_set ys k v
set_behind [] ys n k v e = let same : n ≡ k = omega (arith, e) in ap (λ m. slice_set ys m v) same
set_behind (x ∷ xs) ys zero k v e = absurd (omega (arith, e))
set_behind (x ∷ xs) ys (suc n) k v e = ap (λ zs. x ∷ zs) (set_behind xs ys n k v (omega (arith, e)))

index_behind : (xs ys : List ℕ) (n k : ℕ) → n ≡ length xs + k → slice_index (xs ++ ys) n ≡ slice_index ys k
index_behind [] ys n k e = let same : n ≡ k = omega (arith, e) in ap (slice_index ys) same
index_behind (x ∷ xs) ys zero k e = absurd (omega (arith, e))
index_behind (x ∷ xs) ys (suc n) k e = index_behind xs ys n k (omega (arith, e))

raised_behind : (xs ys : List ℕ) (n k : ℕ) → n ≡ length xs + k → raised n (xs ++ ys) ≡ xs ++ raised k ys
unfolding raised
raised_behind xs ys n k e =
    ap (λ v. slice_set (xs ++ ys) n (bit_or v 128)) (index_behind xs ys n k e) ∙ set_behind xs ys n k (bit_or (slice_index ys k) 128) e

raised_here : (r : Address) (last : Bool) (more : List ℕ) → IsAddress r → r.bit7 ≡ false → raised 6 (address_octets r last ++ more) ≡ address_octets (repeated r) last ++ more
unfolding raised
raised_here r last more i e =
    let letters = map (λ o. 2 * o) r.call.letters in
    let long : 6 ≡ length letters + 0 = (let a = length-map r.call.letters (λ o. 2 * o) in let b = six_letters r.call.letters r.call.ssid i in omega (arith, a, b)) in
    ap (raised 6) (append_assoc letters (ssid_octet r last ∷ []) more)
    ∙ (raised_behind letters (ssid_octet r last ∷ more) 6 0 long
    ∙ (ap (λ o. letters ++ o ∷ more) (bits last r e i) ∙ sym (append_assoc letters (ssid_octet (repeated r) last ∷ []) more)))

-- ---- the addresses of a frame

abbrev Raises : Address → List Address → List Address → List ℕ → ℕ → Type 0
Raises a path p rest n = (raised n (addresses_octets (a ∷ path) ++ rest) ≡ addresses_octets (a ∷ p) ++ rest) × AllByRecursion IsAddress p × (length p ≡ length path)

first_raised : (r : Address) (more : List Address) (rest : List ℕ) → IsAddress r → r.bit7 ≡ false → raised 6 (addresses_octets (r ∷ more) ++ rest) ≡ addresses_octets (repeated r ∷ more) ++ rest
first_raised r [] rest i e = raised_here r true rest i e
first_raised r (b ∷ more) rest i e =
    ap (raised 6) (append_assoc (address_octets r false) (addresses_octets (b ∷ more)) rest)
    ∙ (raised_here r false (addresses_octets (b ∷ more) ++ rest) i e ∙ sym (append_assoc (address_octets (repeated r) false) (addresses_octets (b ∷ more)) rest))

behind_first : (a r : Address) (more p : List Address) (rest : List ℕ) (n k : ℕ) → IsAddress a → n ≡ 7 + k → raised k (addresses_octets (r ∷ more) ++ rest) ≡ addresses_octets p ++ rest
    → raised n (addresses_octets (a ∷ r ∷ more) ++ rest) ≡ address_octets a false ++ (addresses_octets p ++ rest)
behind_first a r more p rest n k i e q =
    let long : n ≡ length (address_octets a false) + k = (let s = seven a false i in omega (arith, e, s)) in
    ap (raised n) (append_assoc (address_octets a false) (addresses_octets (r ∷ more)) rest)
    ∙ (raised_behind (address_octets a false) (addresses_octets (r ∷ more) ++ rest) n k long ∙ ap (λ os. address_octets a false ++ os) q)

with_first : (a b : Address) (p : List Address) (rest : List ℕ) → address_octets a false ++ (addresses_octets (b ∷ p) ++ rest) ≡ addresses_octets (a ∷ b ∷ p) ++ rest
with_first a b p rest = sym (append_assoc (address_octets a false) (addresses_octets (b ∷ p)) rest)

module _ (dest own : Callsign) (rest : List ℕ) where
  later_by : (a r : Address) (more : List Address) (p : List Address) (n : ℕ) (act : Action) → IsAddress a → IsAddress r → n ≡ 7 + (7 + (7 * prefix_len has_repeated more + 6)) → behind r act ≡ Repeat p
      → ((p2 : List Address) → act ≡ Repeat p2 → Raises r more p2 rest (7 + (7 * prefix_len has_repeated more + 6))) → Raises a (r ∷ more) p rest n
  later_by a r more p n For_me i j e q ih = absurd (cc q)
  later_by a r more p n Not_yet i j e q ih = absurd (cc q)
  later_by a r more p n Heard i j e q ih = absurd (cc q)
  later_by a r more p n (Repeat p2) i j e q ih =
      let is : r ∷ p2 ≡ p = cc q in
      let deep = ih p2 refl in
      subst (λ x. Raises a (r ∷ more) x rest n) is (
        behind_first a r more (r ∷ p2) rest n (7 + (7 * prefix_len has_repeated more + 6)) i e deep.0 ∙ with_first a r p2 rest,
        (j, deep.1),
        ap suc deep.2,
      )

  here_by : (a r : Address) (more : List Address) (p : List Address) (n : ℕ) (mine : Bool) → IsAddress a → IsAddress r → AllByRecursion IsAddress more → r.bit7 ≡ false → n ≡ 7 + 6
      → (if mine then Repeat (repeated r ∷ more) else Not_yet) ≡ Repeat p → Raises a (r ∷ more) p rest n
  here_by a r more p n false i j all e k q = absurd (cc q)
  here_by a r more p n true i j all e k q =
      let is : repeated r ∷ more ≡ p = cc q in
      subst (λ x. Raises a (r ∷ more) x rest n) is (
        behind_first a r more (repeated r ∷ more) rest n 6 i k (first_raised r more rest j e) ∙ with_first a (repeated r) more rest,
        (j, all),
        refl,
      )

  raises_by : (a r : Address) (more p : List Address) (n : ℕ) (b : Bool) → r.bit7 ≡ b → IsAddress a → IsAddress r → AllByRecursion IsAddress more
      → n ≡ 7 + (7 * cond b (1 + prefix_len has_repeated more) 0 + 6) → (if b then behind r (action more dest own) else (if same_call r.call own then Repeat (repeated r ∷ more) else Not_yet)) ≡ Repeat p
      → ((p2 : List Address) → action more dest own ≡ Repeat p2 → Raises r more p2 rest (7 + (7 * prefix_len has_repeated more + 6))) → Raises a (r ∷ more) p rest n
  raises_by a r more p n true e i j all k q ih = later_by a r more p n (action more dest own) i j (omega (arith, k)) q ih
  raises_by a r more p n false e i j all k q ih = here_by a r more p n (same_call r.call own) i j all e (omega (arith, k)) q

  none_by : (b : Bool) (p : List Address) → (if b then For_me else Heard) ≡ Repeat p → ⊥
  none_by true p q = cc q
  none_by false p q = cc q

  raises : (a : Address) (path p : List Address) (n : ℕ) → IsAddress a → AllByRecursion IsAddress path → n ≡ 7 + (7 * prefix_len has_repeated path + 6) → action path dest own ≡ Repeat p → Raises a path p rest n
  raises a [] p n i all e q = absurd (none_by (same_call dest own) p q)
  raises a (r ∷ more) p n i all e q =
      raises_by a r more p n r.bit7 refl i all.0 all.1 e q (λ p2 q2. raises r more p2 (7 + (7 * prefix_len has_repeated more + 6)) all.0 all.1 refl q2)

-- ---- a frame

pub repeat_carried : (size : ℕ) (offers : Callsign → Payload → Bool) (own : Callsign) (octets : List ℕ) (p : List Address) → (x : IsCarried size offers octets)
    → action x.frame.frame.head.path.items x.frame.frame.head.dest.call own ≡ Repeat p → IsCarried size offers (repeated_octets x.frame.frame.head.path.items octets)
unfolding raised
repeat_carried size offers own octets p x q =
    let f : Frame = x.frame.frame in
    let rest : List ℕ = control_octets x.frame.size f.control ++ (pid_octets f.pid ++ f.info) in
    let n : ℕ = 7 * prefix_len has_repeated f.head.path.items + 6 in
    let sp = x.spelled.spelled in
    let inner = raises f.head.dest.call own rest f.head.source f.head.path.items p (7 + n) sp.calls.1.0 sp.calls.1.1 refl q in
    let outer : raised (14 + 7 * prefix_len has_repeated f.head.path.items + 6) (addresses_octets (addresses f.head) ++ rest) ≡ addresses_octets (f.head.dest ∷ f.head.source ∷ p) ++ rest =
    behind_first f.head.dest f.head.source f.head.path.items (f.head.source ∷ p) rest _ (7 + n) sp.calls.0 (omega arith) inner.0 ∙ with_first f.head.dest f.head.source p rest in
    let g : Frame = frame (head f.head.dest f.head.source (record { items = p })) f.control f.pid f.info in
    let s : frames.Sent = record { size = x.frame.size; frame = g } in
    let few = sp.eight in
    let same = inner.2 in
    record {
      frame = s;
      are = ap (raised (14 + 7 * prefix_len has_repeated f.head.path.items + 6)) (x.are ∙ parted x.frame.size f) ∙ (outer ∙ sym (parted x.frame.size g));
      spelled = record {
        spelled = record {
          calls = (sp.calls.0, (sp.calls.1.0, inner.1));
          eight = omega (arith, few, same);
          parts = sp.parts;
          spelled = refl;
        };
        sets_up = x.spelled.sets_up;
      };
      fit = by x.fit;
    }
  where
    by : (is_broadcast x.frame.frame ≡ true) ⊎ FrameHolds offers offers (nat_eq size) x.frame
        → (is_broadcast x.frame.frame ≡ true) ⊎ FrameHolds offers offers (nat_eq size)
        (record { size = x.frame.size; frame = frame (head x.frame.frame.head.dest x.frame.frame.head.source (record { items = p })) x.frame.frame.control x.frame.frame.pid x.frame.frame.info })
    by (inl b) = inl b
    by (inr h) = inr (record { payload = h.payload; size = h.size })
