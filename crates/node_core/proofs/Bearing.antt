-- What a frame that is put in the air carries, as its octets are read.
use Rattle.std.proofs.Common.{◌≡◌, ◌∙◌, ℕ, refl, sym, ap, subst, arith, List, [], ◌∷◌, inl, inr}
use Rattle.std.specs.Prelude.{Bool, true, false, ◌&&◌, ◌==◌, ◌⊎◌, not, nat_eq, if◌then◌else◌, Option, Some, None, Result, Ok}
use Rattle.std.specs.Cmp.Lexicographic.{pointwise}
use Rattle.std.specs.List.{AllByRecursion}
use Rattle.std.proofs.lemmas.Bool.Decides.{nat_tests}
use Rattle.std.proofs.lemmas.Cmp.{nat_list_eq_equiv}
use Rattle.std.proofs.lemmas.Bool.{or_right, and_from, or_left}
use Rattle.radio_base.specs.declared.payload.Payload.{Payload}
use Rattle.ax_address.specs.Callsign.{Callsign, same_call}
use Rattle.ax_address.proofs.SameCalls.{call_refl}
use Rattle.ax_frame.specs.Controls.{IsLinkModulus}
use Rattle.ax_frame.specs.Frames.{Frame, Spells, SpelledIsRead, read_at}
use Rattle.ax_frame.specs.declared.frame.FrameRefusal.{FrameRefusal}
use Rattle.link_table.specs.Frames.{is_numbered, netrom}
use Rattle.link_table.specs.Laws.{FrameHolds}
use Rattle.node_core.specs.Broadcasts.{has_netrom_pid, is_broadcast}
use Rattle.node_core.specs.Carried.{Borne, IsAloft, IsCarried, Offered, borne_by, borne_in, borne_of, is_aloft, is_borne}
use Rattle.node_core.proofs.Spelling.{any_modulus, own_size}

-- ---- calls

-- ---- a frame

pid_is : (o : Option ℕ) → has_netrom_pid o ≡ true → o ≡ Some netrom
pid_is None e = absurd (cc e)
pid_is (Some k) e = let same : k ≡ netrom = grind (arith, nat_tests, e) in ap Some same

other_pid : (o : Option ℕ) (pid : ℕ) → has_netrom_pid o ≡ false → o ≡ Some pid → not (pid == netrom) ≡ true
other_pid None pid e f = absurd (cc f)
other_pid (Some k) pid e f = let same : k ≡ pid = cc f in subst (λ j. not (j == netrom) ≡ true) same (ap not e)

module _ (size : ℕ) (offers : Callsign → Payload → Bool) (octets : List ℕ) (x : IsCarried size offers octets) where
  abbrev f : Frame
  f = x.frame.frame

  with_fit : (borne : List Borne) → (is_broadcast f ≡ true) ⊎ FrameHolds (is_aloft borne) (is_aloft borne) (nat_eq size) x.frame → IsAloft size borne octets
  with_fit borne fit = record { frame = x.frame; are = x.are; spelled = x.spelled; fit = fit }

  holds : (is_broadcast f ≡ true) ⊎ FrameHolds offers offers (nat_eq size) x.frame → is_broadcast f ≡ false → FrameHolds offers offers (nat_eq size) x.frame
  holds (inl b) e = absurd (cc (sym b ∙ e))
  holds (inr h) e = h

  abbrev alone : Borne
  alone = record { to = f.head.dest.call; datagram = f.info }

  -- it is carried there
  there : (p : Payload) → f.info ≡ p.info.items → is_borne (alone ∷ []) f.head.dest.call p.info.items ≡ true
  there p i =
      or_left (same_call f.head.dest.call f.head.dest.call && pointwise nat_eq f.info p.info.items) false
      (and_from (same_call f.head.dest.call f.head.dest.call) (pointwise nat_eq f.info p.info.items) (call_refl f.head.dest.call)
      (ap (pointwise nat_eq f.info) (sym i) ∙ nat_list_eq_equiv.refl f.info))

  frame_by : (b : Bool) → is_broadcast f ≡ b → (g : Bool) → has_netrom_pid f.pid ≡ g
      → AllByRecursion (Offered offers) (if b then [] else (if g then alone ∷ [] else [])) × IsAloft size (if b then [] else (if g then alone ∷ [] else [])) octets
  frame_by true e g h = (tt, with_fit [] (inl e))
  frame_by false e true h =
      let hold = holds x.fit e in
      let p : Payload = record { pid = netrom; info = record { items = f.info } } in
      let one : offers f.head.dest.call p ≡ true = hold.payload p (pid_is f.pid h) refl in (
        (one, tt),
        with_fit (alone ∷ []) (inr (record { payload = λ q i j. or_right (not (q.pid == netrom)) (is_borne (alone ∷ []) f.head.dest.call q.info.items) (there q j); size = hold.size })),
      )
  frame_by false e false h =
      let hold = holds x.fit e in
      (tt, with_fit [] (inr (record { payload = λ q i j. or_left (not (q.pid == netrom)) false (other_pid f.pid q.pid h i); size = hold.size })))

  frame_bears : AllByRecursion (Offered offers) (borne_by f) × IsAloft size (borne_by f) octets
  frame_bears = frame_by (is_broadcast f) refl (has_netrom_pid f.pid) refl

  module _ (is_read : SpelledIsRead) (m : IsLinkModulus size) where
    spells : Spells x.frame.size f octets
    spells = subst (Spells x.frame.size f) (sym x.are) x.spelled.spelled

    read_by : (b : Bool) → is_numbered f.control ≡ b → read_at size octets ≡ Ok f
    read_by true e = is_read size f octets m (subst (λ k. Spells k f octets) (own_size size offers octets x e) spells)
    read_by false e = is_read size f octets m (any_modulus size x.frame.size f octets e spells)

    bears : AllByRecursion (Offered offers) (borne_in size octets) × IsAloft size (borne_in size octets) octets
    bears =
        subst (λ (r : Result Frame FrameRefusal). AllByRecursion (Offered offers) (borne_of r) × IsAloft size (borne_of r) octets) (sym (read_by (is_numbered f.control) refl)) frame_bears

pub carried_bears : SpelledIsRead → (size : ℕ) (offers : Callsign → Payload → Bool) (octets : List ℕ) → (size ≡ 8) ⊎ (size ≡ 128) → IsCarried size offers octets
    → AllByRecursion (Offered offers) (borne_in size octets) × IsAloft size (borne_in size octets) octets
carried_bears is_read size offers octets m x = bears size offers octets x is_read m
