-- A step of an end that is Up keeps the two ways, whether it stays Up or leaves; and frames of no account may come and go.
use Rattle.std.proofs.Common.{◌≡◌, ℕ, suc, Bool, true, false, if◌then◌else◌, List, [], ◌∷◌, ◌++◌, length, refl, ap, sym, subst, ◌≤◌}
use Rattle.ax_link.specs.State.{State, Frame, begin}
use Rattle.ax_link.specs.Table.{Input, Set_up, Send, Arrive, Tick, Close, Take, step_at, arrive_in, arrive_setting_up, come_up}
use Rattle.ax_link.specs.declared.kind.Kind.TheVariants.{Ua}
use Rattle.ax_link.specs.declared.phase.LinkPhase.{LinkPhase}
use Rattle.ax_link.specs.declared.phase.LinkPhase.TheVariants.{Down, SettingUp, Up, Releasing}
use Rattle.ax_link.specs.Pair.{AcksFine, TextsFine, Both, Core, core, reach, PairSound, SettingFine, Queue, NoRestartIn, OfNoAccount, after_ua, counted, opens, opens_count, text_of, ack_of, texts_of, acks_of}
use Rattle.ax_link.proofs.Steps.{Fine, fine_supply, way_texts, way_acks}
use Rattle.ax_link.proofs.PairArrivals.{fine_up}
use Rattle.ax_link.proofs.Inputs.{fine_send, fine_close, fine_take, fine_tick, fine_begin}
use Rattle.ax_link.proofs.PairSteps.{idle_set_up}

pub both_step : (now : ℕ) (l : State) (i : Input) (other : Core) (tl tl2 to_other : List Frame) → l.phase ≡ Up → Queue i tl tl2 → NoRestartIn i → Both (core l) other tl to_other → Fine (step_at now l i) other tl2 to_other
both_step now l Set_up other tl tl2 to_other u e k b = subst (λ g. Fine g other tl2 to_other) (sym (idle_set_up now l u)) (fine_begin l other tl2 to_other (subst (λ q. Both (core l) other q to_other) e b))
both_step now l (Send x) other tl tl2 to_other u e k b = fine_send now x l other tl2 to_other (subst (λ q. Both (core l) other q to_other) e b)
both_step now l Tick other tl tl2 to_other u e k b = fine_tick now (begin l) other tl2 to_other (fine_begin l other tl2 to_other (subst (λ q. Both (core l) other q to_other) e b))
both_step now l Close other tl tl2 to_other u e k b = fine_close now l other tl2 to_other (subst (λ q. Both (core l) other q to_other) e b)
both_step now l Take other tl tl2 to_other u e k b = fine_take now l other tl2 to_other (subst (λ q. Both (core l) other q to_other) e b)
both_step now l (Arrive f) other tl tl2 to_other u e k b =
    subst (λ ph. Fine (arrive_in ph now f (begin (record l { last_arrival = now }))) other tl2 to_other) (sym u)
    (fine_up now f.command f.kind f.payload (begin (record l { last_arrival = now })) other tl2 to_other k (fine_begin l other (f ∷ tl2) to_other (subst (λ q. Both (core l) other q to_other) e b)))

-- an end that comes up by a UA with F
pub both_opens : (now : ℕ) (l : State) (f : Frame) (other : Core) (tl to_other : List Frame) → l.phase ≡ SettingUp → f.kind ≡ Ua true → Both (core l) other tl to_other → Fine (step_at now l (Arrive f)) other tl to_other
both_opens now l f other tl to_other u k b =
    subst (λ ph. Fine (arrive_in ph now f (begin (record l { last_arrival = now }))) other tl to_other) (sym u)
    (subst (λ c. Fine (arrive_setting_up now c (begin (record l { last_arrival = now }))) other tl to_other) (sym k)
    (fine_supply now (come_up now (begin (record l { last_arrival = now }))) other tl to_other (fine_begin l other tl to_other b)))

-- ---- frames of no account ----
-- only the texts and the acknowledgements on the way are of account
pub both_same : (me other : Core) (x x2 y y2 : List Frame) → texts_of x ≡ texts_of x2 → acks_of x ≡ acks_of x2 → texts_of y ≡ texts_of y2 → acks_of y ≡ acks_of y2 → Both me other x y → Both me other x2 y2
both_same me other x x2 y y2 tx ax ty ay b = record {
  out = way_acks me other y2 x x2 (way_texts me other y x y2 b.out (subst (λ k. TextsFine me.given me.rules.size me.rules.window me.sent k (reach other)) ty b.out.texts)) (subst (λ k. AcksFine me.rules.size (length other.received) k me.acked) ax b.out.acks);
  back = way_acks other me x2 y y2 (way_texts other me x y x2 b.back (subst (λ k. TextsFine other.given other.rules.size other.rules.window other.sent k (reach me)) tx b.back.texts)) (subst (λ k. AcksFine other.rules.size (length me.received) k other.acked) ay b.back.acks);
}

-- both lists say the same
record Alike (xs ys : List Frame) : Type 0 where
  texts : texts_of xs ≡ texts_of ys
  acks : acks_of xs ≡ acks_of ys

alike : (xs : List Frame) → Alike xs xs
alike xs = record { texts = refl; acks = refl }

alike_in : (f : Frame) (xs ys : List Frame) → OfNoAccount f → Alike (xs ++ f ∷ ys) (xs ++ ys)
alike_in f [] ys n = record { texts = ap (λ k. k ++ texts_of ys) n.text; acks = ap (λ k. k ++ acks_of ys) n.ack }
alike_in f (x ∷ xs) ys n =
    let h = alike_in f xs ys n in
    record { texts = ap (λ k. text_of x.kind x.payload ++ k) h.texts; acks = ap (λ k. ack_of x.kind x.payload ++ k) h.acks }

unopened : (c : Bool) (fs gs : List Frame) → c ≡ false → (if c then fs else gs) ≡ gs
unopened true fs gs e = absurd (cc e)
unopened false fs gs e = refl

behind_by : (c : Bool) (f : Frame) (xs ys : List Frame) → OfNoAccount f → Alike (after_ua (xs ++ f ∷ ys)) (after_ua (xs ++ ys)) → Alike (if c then xs ++ f ∷ ys else after_ua (xs ++ f ∷ ys)) (if c then xs ++ ys else after_ua (xs ++ ys))
behind_by true f xs ys n h = alike_in f xs ys n
behind_by false f xs ys n h = h

behind : (f : Frame) (xs ys : List Frame) → OfNoAccount f → Alike (after_ua (xs ++ f ∷ ys)) (after_ua (xs ++ ys))
behind f [] ys n = subst (λ k. Alike k (after_ua ys)) (sym (unopened (opens f.kind) ys (after_ua ys) n.opens)) (alike (after_ua ys))
behind f (x ∷ xs) ys n = behind_by (opens x.kind) f xs ys n (behind f xs ys n)

counted_alike : (ph : LinkPhase) (f : Frame) (xs ys : List Frame) → OfNoAccount f → Alike (counted ph (xs ++ f ∷ ys)) (counted ph (xs ++ ys))
counted_alike Down f xs ys n = alike_in f xs ys n
counted_alike SettingUp f xs ys n = behind f xs ys n
counted_alike Up f xs ys n = alike_in f xs ys n
counted_alike Releasing f xs ys n = alike_in f xs ys n

same_count : (f : Frame) (xs ys : List Frame) → OfNoAccount f → opens_count (xs ++ f ∷ ys) ≡ opens_count (xs ++ ys)
same_count f [] ys n = ap (λ c. if c then suc (opens_count ys) else opens_count ys) n.opens
same_count f (x ∷ xs) ys n = ap (λ k. if opens x.kind then suc k else k) (same_count f xs ys n)

setting_alike : (ph : LinkPhase) (s : State) (xs ys : List Frame) → opens_count xs ≡ opens_count ys → SettingFine ph s xs → SettingFine ph s ys
setting_alike Down s xs ys e p = tt
setting_alike SettingUp s xs ys e p = (p.0, p.1, p.2, subst (λ k. k ≤ 1) e p.3)
setting_alike Up s xs ys e p = tt
setting_alike Releasing s xs ys e p = tt

pub frame_gone : (l r : State) (f : Frame) (xs ys tr : List Frame) → OfNoAccount f → PairSound l r (xs ++ f ∷ ys) tr → PairSound l r (xs ++ ys) tr
frame_gone l r f xs ys tr n p =
    let h = counted_alike l.phase f xs ys n in
    let b = both_same (core l) (core r) (counted l.phase (xs ++ f ∷ ys)) (counted l.phase (xs ++ ys)) (counted r.phase tr) (counted r.phase tr) h.texts h.acks refl refl (record { out = p.rightward; back = p.leftward }) in
    record { joined = p.joined; left_new = setting_alike l.phase l (xs ++ f ∷ ys) (xs ++ ys) (same_count f xs ys n) p.left_new; right_new = p.right_new; rightward = b.out; leftward = b.back }

pub frame_put : (l r : State) (f : Frame) (xs ys tr : List Frame) → OfNoAccount f → PairSound l r (xs ++ ys) tr → PairSound l r (xs ++ f ∷ ys) tr
frame_put l r f xs ys tr n p =
    let h = counted_alike l.phase f xs ys n in
    let b = both_same (core l) (core r) (counted l.phase (xs ++ ys)) (counted l.phase (xs ++ f ∷ ys)) (counted r.phase tr) (counted r.phase tr) (sym h.texts) (sym h.acks) refl refl (record { out = p.rightward; back = p.leftward }) in
    record { joined = p.joined; left_new = setting_alike l.phase l (xs ++ ys) (xs ++ f ∷ ys) (sym (same_count f xs ys n)) p.left_new; right_new = p.right_new; rightward = b.out; leftward = b.back }
