-- What carried octets are read as, by either modulus; and that they are carried on where a repeater has repeated them.
use Rattle.std.proofs.Common.{◌≡◌, ◌∙◌, ◌+◌, ◌*◌, ◌%◌, ◌/◌, ◌-◌, ℕ, refl, sym, ap, subst, arith, List, [], ◌∷◌, ◌++◌, length, drop, append_assoc, cond, inl, inr}
use Rattle.std.specs.Prelude.{Bool, true, false, ◌&&◌, ◌==◌, ◌⊎◌, nat_eq, nat_le, if◌then◌else◌, slice_get, Option, Some, None, Result, Ok, Err}
use Rattle.std.specs.List.{AllByRecursion, find}
use Rattle.std.proofs.lemmas.Bool.Decides.{nat_tests}
use Rattle.radio_base.specs.declared.payload.Payload.{Payload}
use Rattle.ax_address.specs.Callsign.{Callsign}
use Rattle.ax_address.specs.Results.{◌>>=◌}
use Rattle.ax_frame.specs.declared.control.Control.{Control}
use Rattle.ax_frame.specs.declared.control.Control.TheVariants as control
use Rattle.ax_frame.specs.declared.frame.FrameRefusal.{FrameRefusal}
use Rattle.ax_frame.specs.declared.head.Head.{Head}
use Rattle.ax_frame.specs.Controls.{IsLinkModulus, NumbersFit, control_octets, format_of, is_ui}
use Rattle.ax_frame.specs.Frames.{Frame, HeadWithoutFault, IsAddress, addresses, addresses_octets, frame, frame_octets, pid_octets, Spells, SpelledHeadIsRead, SpelledIsRead, head_in, read_at, read_head_at}
use Rattle.ax_frame.specs.Reading.{control_at, control_from, control_or_short, field_end, frame_at, has_code, head_end, numbered, pid_at, poll_bit, supervisory, unnumbered}
use Rattle.ax_link.specs.Kinds.{payload_of}
use Rattle.link_table.specs.Calls.{set_up_size}
use Rattle.link_table.specs.Frames.{is_numbered}
use Rattle.link_table.specs.Laws.{Brings, FrameHolds}
use Rattle.link_table.specs.Reaching.{ComesFrom, IsWay}
use Rattle.node_core.specs.Broadcasts.{is_broadcast}
use Rattle.node_core.specs.Carried.{Borne, IsAloft, IsCarried, brings_to, is_aloft}

-- a frame as it is read: a broadcast, or what it brings was carried to the node to which it goes, and it sets up a link of this modulus alone
abbrev pub IsFit : ℕ → List Borne → Frame → Type 0
IsFit size borne f = (is_broadcast f ≡ true) ⊎ Brings (is_aloft borne) (brings_to borne f.head.dest.call) (nat_eq size) f

-- the octets of a frame, part by part
pub parted : (k : ℕ) (f : Frame) → frame_octets k f ≡ addresses_octets (addresses f.head) ++ (control_octets k f.control ++ (pid_octets f.pid ++ f.info))
parted k f =
    let front : List ℕ = addresses_octets (addresses f.head) in
    append_assoc (front ++ control_octets k f.control) (pid_octets f.pid) f.info ∙ append_assoc front (control_octets k f.control) (pid_octets f.pid ++ f.info)

-- so they are read by this modulus; and by modulo 8, by which they are read where no link stands with their sender
pub record MayCome (size : ℕ) (borne : List Borne) (octets : List ℕ) : Type 0 where
  pub read : (f : Frame) → read_at size octets ≡ Ok f → IsFit size borne f × ComesFrom size f
  pub source : (k : ℕ) (f : Frame) → read_at k octets ≡ Ok f → IsAddress f.head.source
  pub unlinked : (f : Frame) → read_at 8 octets ≡ Ok f → ((is_numbered f.control ≡ true) ⊎ IsFit size borne f) × ComesFrom size f

-- ---- frames without numbers are the same by either modulus

any_fits : (k : ℕ) (c : Control) → is_numbered c ≡ false → NumbersFit k c
any_fits k (control.I ns nr pf) e = absurd (cc e)
any_fits k (control.Rr nr pf) e = absurd (cc e)
any_fits k (control.Rnr nr pf) e = absurd (cc e)
any_fits k (control.Rej nr pf) e = absurd (cc e)
any_fits k (control.Srej nr pf) e = absurd (cc e)
any_fits k (control.Sabm pf) e = tt
any_fits k (control.Sabme pf) e = tt
any_fits k (control.Disc pf) e = tt
any_fits k (control.Dm pf) e = tt
any_fits k (control.Ua pf) e = tt
any_fits k (control.Frmr pf) e = tt
any_fits k (control.Ui pf) e = tt
any_fits k (control.Xid pf) e = tt
any_fits k (control.Test pf) e = tt

same_octets : (k m : ℕ) (c : Control) → is_numbered c ≡ false → control_octets k c ≡ control_octets m c
same_octets k m (control.I ns nr pf) e = absurd (cc e)
same_octets k m (control.Rr nr pf) e = absurd (cc e)
same_octets k m (control.Rnr nr pf) e = absurd (cc e)
same_octets k m (control.Rej nr pf) e = absurd (cc e)
same_octets k m (control.Srej nr pf) e = absurd (cc e)
same_octets k m (control.Sabm pf) e = refl
same_octets k m (control.Sabme pf) e = refl
same_octets k m (control.Disc pf) e = refl
same_octets k m (control.Dm pf) e = refl
same_octets k m (control.Ua pf) e = refl
same_octets k m (control.Frmr pf) e = refl
same_octets k m (control.Ui pf) e = refl
same_octets k m (control.Xid pf) e = refl
same_octets k m (control.Test pf) e = refl

pub any_modulus : (k m : ℕ) (f : Frame) (octets : List ℕ) → is_numbered f.control ≡ false → Spells m f octets → Spells k f octets
any_modulus k m f octets e s = record {
  calls = s.calls;
  eight = s.eight;
  parts = record { numbers = any_fits k f.control e; pid_there = s.parts.pid_there; no_info = s.parts.no_info };
  spelled = s.spelled ∙ ap (λ xs. addresses_octets (addresses f.head) ++ xs ++ pid_octets f.pid ++ f.info) (same_octets m k f.control e);
}

-- ---- the head is the same by either modulus

abbrev headed_at : List ℕ → ℕ → Result (Head × ℕ) FrameRefusal
headed_at octets at = Ok (head_in at octets, at)

-- the head of a frame is that of its octets
heads_by : (octets : List ℕ) (r : Result ℕ FrameRefusal) (q : Result (Control × Option ℕ × ℕ) FrameRefusal) (h : Head) (end : ℕ) (f : Frame)
    → (r >>= headed_at octets) ≡ Ok (h, end)
    → (r >>= λ at. q >>= λ parts. Ok (frame (head_in at octets) parts.0 parts.1 (drop parts.2 octets))) ≡ Ok f → f.head ≡ h
heads_by octets (Err why) q h end f e g = absurd (cc e)
heads_by octets (Ok at) (Err why) h end f e g = absurd (cc g)
heads_by octets (Ok at) (Ok parts) h end f e g =
    let whole : frame (head_in at octets) parts.0 parts.1 (drop parts.2 octets) ≡ f = cc g in
    let both : (head_in at octets, at) ≡ (h, end) = cc e in
    ap (λ (x : Frame). x.head) (sym whole) ∙ ap (λ (x : Head × ℕ). x.0) both

pub same_head : (k : ℕ) (octets : List ℕ) (h : Head) (end : ℕ) (f : Frame) → read_head_at octets ≡ Ok (h, end) → read_at k octets ≡ Ok f → f.head ≡ h
unfolding read_at read_head_at
same_head k octets h end f e g = heads_by octets (head_end octets) (frame_at k octets) h end f e g

-- ---- a frame with numbers modulo 128 has some by modulo 8

found_is : (P : Control → Type 0) (test : Control → Bool) (xs : List Control) (c : Control) → AllByRecursion P xs → find test xs ≡ Some c → P c
found_is P test [] c a e = absurd (cc e)
found_is P test (x ∷ xs) c a e = by (test x) e (found_is P test xs c a.1)
  where
    by : (b : Bool) → cond b (Some x) (find test xs) ≡ Some c → (find test xs ≡ Some c → P c) → P c
    by true q rest = let same : x ≡ c = cc q in subst P same a.0
    by false q rest = rest q

numbered_is : (code ns nr : ℕ) (pf : Bool) (c : Control) → numbered code ns nr pf ≡ Some c → is_numbered c ≡ true
numbered_is code ns nr pf c e = by (code % 2 == 0) e
  where
    by : (b : Bool) → (if b then Some (control.I ns nr pf) else supervisory code nr pf) ≡ Some c → is_numbered c ≡ true
    by true q = let same : control.I ns nr pf ≡ c = cc q in subst (λ (x : Control). is_numbered x ≡ true) same refl
    by false q = found_is (λ (x : Control). is_numbered x ≡ true) (λ x. has_code code (format_of x)) (control.Rr nr pf ∷ control.Rnr nr pf ∷ control.Rej nr pf ∷ control.Srej nr pf ∷ []) c (refl, (refl, (refl, (refl, tt)))) q

field_is : (at end : ℕ) (o : Option Control) (r : Control × ℕ) → field_end at end o ≡ Ok r → o ≡ Some r.0
field_is at end None r e = absurd (cc e)
field_is at end (Some c) r e = let whole : (c, end) ≡ r = cc e in ap (λ (x : Control × ℕ). Some x.0) whole

-- the first octet of a control field with numbers
record First (c : Control) : Type 0 where
  octet : ℕ
  rest : List ℕ
  are : control_octets 128 c ≡ octet ∷ rest
  low : (octet % 4 == 3) ≡ false

even_low : (ns : ℕ) → ((2 * ns) % 4 == 3) ≡ false
even_low ns = grind (arith, nat_tests)

first_of : (c : Control) → is_numbered c ≡ true → First c
first_of (control.I ns nr pf) e = record { octet = 2 * ns; rest = _; are = refl; low = even_low ns }
first_of (control.Rr nr pf) e = record { octet = 1; rest = _; are = refl; low = refl }
first_of (control.Rnr nr pf) e = record { octet = 5; rest = _; are = refl; low = refl }
first_of (control.Rej nr pf) e = record { octet = 9; rest = _; are = refl; low = refl }
first_of (control.Srej nr pf) e = record { octet = 13; rest = _; are = refl; low = refl }
first_of (control.Sabm pf) e = absurd (cc e)
first_of (control.Sabme pf) e = absurd (cc e)
first_of (control.Disc pf) e = absurd (cc e)
first_of (control.Dm pf) e = absurd (cc e)
first_of (control.Ua pf) e = absurd (cc e)
first_of (control.Frmr pf) e = absurd (cc e)
first_of (control.Ui pf) e = absurd (cc e)
first_of (control.Xid pf) e = absurd (cc e)
first_of (control.Test pf) e = absurd (cc e)

from_low : (at b : ℕ) (next : Option ℕ) (r : Control × ℕ) (low : Bool) → (b % 4 == 3) ≡ low → low ≡ false
    → (if low then field_end at (at + 1) (unnumbered (b - 16 * (b / 16 % 2)) (poll_bit b)) else field_end at (at + 1) (numbered (b % 16) (b / 2 % 8) (b / 32) (poll_bit b))) ≡ Ok r → is_numbered r.0 ≡ true
from_low at b next r true e f q = absurd (cc f)
from_low at b next r false e f q = numbered_is (b % 16) (b / 2 % 8) (b / 32) (poll_bit b) r.0 (field_is at (at + 1) _ r q)

read_low : (at b : ℕ) (next : Option ℕ) (r : Control × ℕ) → (b % 4 == 3) ≡ false → control_from 8 at b next ≡ Ok r → is_numbered r.0 ≡ true
read_low at b next r e q = from_low at b next r (b % 4 == 3) refl e q

get_behind : (xs ys : List ℕ) (b : ℕ) → slice_get (xs ++ b ∷ ys) (length xs) ≡ Some b
get_behind [] ys b = refl
get_behind (x ∷ xs) ys b = get_behind xs ys b

abbrev parts_with : Control → Option ℕ × ℕ → Result (Control × Option ℕ × ℕ) FrameRefusal
parts_with c pid = Ok (c, pid.0, pid.1)

abbrev frame_with : List ℕ → ℕ → Control × Option ℕ × ℕ → Result Frame FrameRefusal
frame_with octets at parts = Ok (frame (head_in at octets) parts.0 parts.1 (drop parts.2 octets))

pid_then : (octets : List ℕ) (n : ℕ) (c : Control) (rp : Result (Option ℕ × ℕ) FrameRefusal) (g : Frame) → is_numbered c ≡ true → ((rp >>= parts_with c) >>= frame_with octets n) ≡ Ok g → is_numbered g.control ≡ true
pid_then octets n c (Err why) g e q = absurd (cc q)
pid_then octets n c (Ok pid) g e q =
    let whole : frame (head_in n octets) c pid.0 (drop pid.1 octets) ≡ g = cc q in subst (λ (x : Frame). is_numbered x.control ≡ true) whole e

control_then : (octets : List ℕ) (n : ℕ) (rc : Result (Control × ℕ) FrameRefusal) (g : Frame) → ((r : Control × ℕ) → rc ≡ Ok r → is_numbered r.0 ≡ true)
    → ((rc >>= λ c. pid_at c.0 c.1 octets >>= parts_with c.0) >>= frame_with octets n) ≡ Ok g → is_numbered g.control ≡ true
control_then octets n (Err why) g f q = absurd (cc q)
control_then octets n (Ok c) g f q = pid_then octets n c.0 (pid_at c.0 c.1 octets) g (f c refl) q

low_control : (octets : List ℕ) (n b : ℕ) (r : Control × ℕ) → slice_get octets n ≡ Some b → (b % 4 == 3) ≡ false → control_at 8 n octets ≡ Ok r → is_numbered r.0 ≡ true
unfolding control_at
low_control octets n b r e low q = read_low n b (slice_get octets (n + 1)) r low (subst (λ o. control_or_short 8 n o (slice_get octets (n + 1)) ≡ Ok r) e q)

numbers_stay : (octets : List ℕ) (n b : ℕ) (g : Frame) → head_end octets ≡ Ok n → slice_get octets n ≡ Some b → (b % 4 == 3) ≡ false → read_at 8 octets ≡ Ok g → is_numbered g.control ≡ true
unfolding read_at frame_at
numbers_stay octets n b g end first low q =
    control_then octets n (control_at 8 n octets) g (λ r e. low_control octets n b r first low e)
    (subst (λ (x : Result ℕ FrameRefusal). (x >>= λ at. (x >>= λ start. control_at 8 start octets >>= λ c. pid_at c.0 c.1 octets >>= parts_with c.0) >>= frame_with octets at) ≡ Ok g) end q)

-- ---- what is carried is read so

parcel : (pid : Option ℕ) (info : List ℕ) (p : Payload) → payload_of pid info ≡ Some p → (pid ≡ Some p.pid) × (info ≡ p.info.items)
parcel None info p e = absurd (cc e)
parcel (Some pid) info p e = by (nat_le (length info) 256) e
  where
    by : (b : Bool) → (if b then Some (record { pid = pid; info = record { items = info } }) else None) ≡ Some p → (Some pid ≡ Some p.pid) × (info ≡ p.info.items)
    by true q =
        let same : (record { pid = pid; info = record { items = info } }) ≡ p = cc q in
        (ap (λ (x : Payload). Some x.pid) same, ap (λ (x : Payload). x.info.items) same)
    by false q = absurd (cc q)

is_ui_not : (c : Control) → is_numbered c ≡ true → is_ui c ≡ false
is_ui_not (control.I ns nr pf) e = refl
is_ui_not (control.Rr nr pf) e = refl
is_ui_not (control.Rnr nr pf) e = refl
is_ui_not (control.Rej nr pf) e = refl
is_ui_not (control.Srej nr pf) e = refl
is_ui_not (control.Sabm pf) e = absurd (cc e)
is_ui_not (control.Sabme pf) e = absurd (cc e)
is_ui_not (control.Disc pf) e = absurd (cc e)
is_ui_not (control.Dm pf) e = absurd (cc e)
is_ui_not (control.Ua pf) e = absurd (cc e)
is_ui_not (control.Frmr pf) e = absurd (cc e)
is_ui_not (control.Ui pf) e = absurd (cc e)
is_ui_not (control.Xid pf) e = absurd (cc e)
is_ui_not (control.Test pf) e = absurd (cc e)

false_and : (a b : Bool) → a ≡ false → (a && b) ≡ true → ⊥
false_and true b e f = cc e
false_and false b e f = cc f

-- a frame with numbers is of the network's modulus
pub own_size : (size : ℕ) (offers : Callsign → Payload → Bool) (octets : List ℕ) (x : IsCarried size offers octets) → is_numbered x.frame.frame.control ≡ true → x.frame.size ≡ size
own_size size offers octets x e = by x.fit
  where
    by : (is_broadcast x.frame.frame ≡ true) ⊎ FrameHolds offers offers (nat_eq size) x.frame → x.frame.size ≡ size
    by (inl b) = absurd (false_and (is_ui x.frame.frame.control) _ (is_ui_not x.frame.frame.control e) b)
    by (inr h) = let is : nat_eq size x.frame.size ≡ true = h.size e in grind (arith, nat_tests, is)

module _ (is_read : SpelledIsRead) (head_is_read : SpelledHeadIsRead) (without : HeadWithoutFault) (size : ℕ) (borne : List Borne) (octets : List ℕ) (m : IsLinkModulus size) (x : IsAloft size borne octets) where
  abbrev rest_of : ℕ → List ℕ
  rest_of k = control_octets k x.frame.frame.control ++ (pid_octets x.frame.frame.pid ++ x.frame.frame.info)

  spells : Spells x.frame.size x.frame.frame octets
  spells = subst (Spells x.frame.size x.frame.frame) (sym x.are) x.spelled.spelled

  front : List ℕ
  front = addresses_octets (addresses x.frame.frame.head)

  head_read : read_head_at octets ≡ Ok (x.frame.frame.head, length front)
  unfolding front
  head_read =
      ap read_head_at (spells.spelled ∙ parted x.frame.size x.frame.frame)
      ∙ head_is_read x.frame.frame.head (addresses_octets (addresses x.frame.frame.head)) (rest_of x.frame.size) (record { calls = spells.calls; eight = spells.eight; spelled = refl })

  head_ends : head_end octets ≡ Ok (length front)
  unfolding front
  head_ends =
      ap head_end (spells.spelled ∙ parted x.frame.size x.frame.frame)
      ∙ without x.frame.frame.head (addresses_octets (addresses x.frame.frame.head)) (rest_of x.frame.size) (record { calls = spells.calls; eight = spells.eight; spelled = refl })

  from : (k : ℕ) (f : Frame) → read_at k octets ≡ Ok f → ((n : ℕ) → set_up_size f.control ≡ Some n → n ≡ size) → ComesFrom size f
  from k f r u =
      let same : f.head ≡ x.frame.frame.head = same_head k octets x.frame.frame.head (length front) f head_read r in
      record {
        source = subst (λ (h : Head). IsAddress h.source) (sym same) spells.calls.1.0;
        path = subst (λ (h : Head). IsWay h.path) (sym same) (record { calls = spells.calls.1.1; eight = spells.eight });
        sets_up = u;
      }

  source_of : (k : ℕ) (f : Frame) → read_at k octets ≡ Ok f → IsAddress f.head.source
  source_of k f r = subst (λ (h : Head). IsAddress h.source) (sym (same_head k octets x.frame.frame.head (length front) f head_read r)) spells.calls.1.0

  pub head_of : (h : Head) (end : ℕ) → read_head_at octets ≡ Ok (h, end) → x.frame.frame.head ≡ h
  head_of h end e =
      let both : Ok (x.frame.frame.head, length front) ≡ Ok (h, end) = sym head_read ∙ e in
      let pair : (x.frame.frame.head, length front) ≡ (h, end) = cc both in
      ap (λ (z : Head × ℕ). z.0) pair

  fits : IsFit size borne x.frame.frame
  fits = by x.fit
    where
      by : (is_broadcast x.frame.frame ≡ true) ⊎ FrameHolds (is_aloft borne) (is_aloft borne) (nat_eq size) x.frame → IsFit size borne x.frame.frame
      by (inl b) = inl b
      by (inr h) = inr (record {
        payload = λ p e. (let both = parcel x.frame.frame.pid x.frame.frame.info p e in h.payload p both.0 both.1);
        size = λ n e. (let is : n ≡ size = x.spelled.sets_up n e in grind (arith, nat_tests, is));
      })

  as_it_is : (k : ℕ) (f : Frame) → IsLinkModulus k → Spells k x.frame.frame octets → read_at k octets ≡ Ok f → IsFit size borne f × ComesFrom size f
  as_it_is k f l sp r =
      let same : x.frame.frame ≡ f = (let both : Ok x.frame.frame ≡ Ok f = sym (is_read k x.frame.frame octets l sp) ∙ r in cc both) in
      (subst (IsFit size borne) same fits, from k f r (λ n e. x.spelled.sets_up n (ap (λ (y : Frame). set_up_size y.control) same ∙ e)))

  none_set_up : (c : Control) (n : ℕ) → is_numbered c ≡ true → set_up_size c ≡ Some n → n ≡ size
  none_set_up (control.I ns nr pf) n e u = absurd (cc u)
  none_set_up (control.Rr nr pf) n e u = absurd (cc u)
  none_set_up (control.Rnr nr pf) n e u = absurd (cc u)
  none_set_up (control.Rej nr pf) n e u = absurd (cc u)
  none_set_up (control.Srej nr pf) n e u = absurd (cc u)
  none_set_up (control.Sabm pf) n e u = absurd (cc e)
  none_set_up (control.Sabme pf) n e u = absurd (cc e)
  none_set_up (control.Disc pf) n e u = absurd (cc u)
  none_set_up (control.Dm pf) n e u = absurd (cc u)
  none_set_up (control.Ua pf) n e u = absurd (cc u)
  none_set_up (control.Frmr pf) n e u = absurd (cc u)
  none_set_up (control.Ui pf) n e u = absurd (cc u)
  none_set_up (control.Xid pf) n e u = absurd (cc u)
  none_set_up (control.Test pf) n e u = absurd (cc u)

  misread : (f : Frame) → is_numbered x.frame.frame.control ≡ true → IsLinkModulus size → read_at 8 octets ≡ Ok f → ((is_numbered f.control ≡ true) ⊎ IsFit size borne f) × ComesFrom size f
  unfolding front
  misread f e (inl eight) r =
      let both = as_it_is 8 f (inl refl) (subst (λ k. Spells k x.frame.frame octets) (own_size size (is_aloft borne) octets x e ∙ eight) spells) r in
      (inr both.0, both.1)
  misread f e (inr wide) r =
      let c = first_of x.frame.frame.control e in
      let sp : Spells 128 x.frame.frame octets = subst (λ k. Spells k x.frame.frame octets) (own_size size (is_aloft borne) octets x e ∙ wide) spells in
      let there : slice_get octets (length front) ≡ Some c.octet =
      ap (λ os. slice_get os (length front))
      (sp.spelled ∙ (parted 128 x.frame.frame ∙ ap (λ cs. addresses_octets (addresses x.frame.frame.head) ++ (cs ++ (pid_octets x.frame.frame.pid ++ x.frame.frame.info))) c.are))
      ∙ get_behind (addresses_octets (addresses x.frame.frame.head)) (c.rest ++ (pid_octets x.frame.frame.pid ++ x.frame.frame.info)) c.octet in
      let some : is_numbered f.control ≡ true = numbers_stay octets (length front) c.octet f head_ends there c.low r in
      (inl some, from 8 f r (λ n u. none_set_up f.control n some u))

  pub may_come : MayCome size borne octets
  may_come = by (is_numbered x.frame.frame.control) refl
    where
      by : (b : Bool) → is_numbered x.frame.frame.control ≡ b → MayCome size borne octets
      by true e = record {
        source = source_of;
        read = λ f r. as_it_is size f m (subst (λ k. Spells k x.frame.frame octets) (own_size size (is_aloft borne) octets x e) spells) r;
        unlinked = λ f r. misread f e m r;
      }
      by false e = record {
        source = source_of;
        read = λ f r. as_it_is size f m (any_modulus size x.frame.size x.frame.frame octets e spells) r;
        unlinked = λ f r. (let both = as_it_is 8 f (inl refl) (any_modulus 8 x.frame.size x.frame.frame octets e spells) r in (inr both.0, both.1));
      }
