-- What a table carries, by weaker properties; and that a frame with numbers brings nothing where no link stands.
use Rattle.std.proofs.Common.{◌≡◌, ℕ, ◌==◌, Bool, true, false, [], Option, Some, None, refl, ap, sym, ◌∙◌, subst, if◌then◌else◌, ◌||◌}
use Rattle.std.specs.Prelude.{not}
use Rattle.radio_base.specs.declared.payload.Payload.{Payload}
use Rattle.radio_base.proofs.Each.{each_map}
use Rattle.ax_address.specs.Callsign.{Callsign}
use Rattle.ax_frame.specs.declared.control.Control.{Control}
use Rattle.ax_frame.specs.declared.control.Control.TheVariants as control
use Rattle.ax_frame.specs.FrameText.{is_command}
use Rattle.ax_frame.specs.Frames.{Frame as AirFrame, frame}
use Rattle.ax_link.specs.Bounds.{Has, HasIf}
use Rattle.link_table.specs.Calls.{answer_down, arrive, arrive_kind, no_set_up, pack, set_up_size, source, to_link}
use Rattle.link_table.specs.Frames.{Sent, is_numbered, netrom}
use Rattle.link_table.specs.Laws.{Brings, Carries, CarriesByWeaker, CarriesOn, CarriesWhatWasOffered, FrameHolds, Implies, LinkHolds, NumberedWithoutLink, ParcelCame, goes_to}
use Rattle.link_table.specs.Table.{Linked, Table, link_with}

-- ---- weaker properties

if_map : (one other : Payload → Bool) → ((p : Payload) → Has one p → Has other p) → (o : Option Payload) → HasIf one o → HasIf other o
if_map one other f None a = tt
if_map one other f (Some p) a = f p a

pub or_map : (b c d : Bool) → (c ≡ true → d ≡ true) → (b || c) ≡ true → (b || d) ≡ true
or_map true c d f e = refl
or_map false c d f e = f e

module _ (offered offered2 came came2 : Callsign → Payload → Bool) (sizes : ℕ → Bool) (more : Implies offered offered2) (on : Implies came came2) where
  goes : (peer : Callsign) (p : Payload) → Has (goes_to offered came sizes peer) p → Has (goes_to offered2 came2 sizes peer) p
  goes peer p a = or_map (not (p.pid == netrom)) (offered peer p) (offered2 peer p) (more peer p) a

  link_widened : (l : Linked) → LinkHolds offered came sizes l → LinkHolds offered2 came2 sizes l
  link_widened l h =
      let given = goes_to offered came sizes l.peer in
      let given2 = goes_to offered2 came2 sizes l.peer in
      record {
        bounds = h.bounds;
        payloads = record {
          given = each_map (Has given) (Has given2) (goes l.peer) l.link.given h.payloads.given;
          received = each_map (Has (came l.peer)) (Has (came2 l.peer)) (on l.peer) l.link.received h.payloads.received;
          inbox = each_map (Has (came l.peer)) (Has (came2 l.peer)) (on l.peer) l.link.inbox h.payloads.inbox;
          early = each_map (HasIf (came l.peer)) (HasIf (came2 l.peer)) (if_map (came l.peer) (came2 l.peer) (on l.peer)) l.link.early h.payloads.early;
        };
        size = h.size;
      }

  frame_widened : (s : Sent) → FrameHolds offered came sizes s → FrameHolds offered2 came2 sizes s
  frame_widened s h = record { payload = λ p e i. goes s.frame.head.dest.call p (h.payload p e i); size = h.size }

  widened : (t : Table) → Carries offered came sizes t → Carries offered2 came2 sizes t
  widened t c = record {
    modulus = c.modulus;
    size = c.size;
    links = each_map (LinkHolds offered came sizes) (LinkHolds offered2 came2 sizes) link_widened t.links c.links;
    waiting = each_map (ParcelCame offered came sizes) (ParcelCame offered2 came2 sizes) (λ p a. on p.0 (pack p.1) a) t.pending.waiting c.waiting;
    frames = each_map (FrameHolds offered came sizes) (FrameHolds offered2 came2 sizes) frame_widened t.pending.frames c.frames;
  }

pub carries_by_weaker : CarriesByWeaker
carries_by_weaker offered offered2 came came2 sizes t more on c = widened offered offered2 came came2 sizes more on t c

-- ---- frames with numbers, where no link stands

-- a frame without what it carries
bare : AirFrame → AirFrame
bare f = frame f.head f.control None []

numbered_kind : (command : Bool) (c : Control) (f : AirFrame) (now : ℕ) (t : Table) → is_numbered c ≡ true → arrive_kind command c f now t ≡ no_set_up f now t
numbered_kind true (control.I ns nr pf) f now t e = refl
numbered_kind false (control.I ns nr pf) f now t e = refl
numbered_kind true (control.Rr nr pf) f now t e = refl
numbered_kind false (control.Rr nr pf) f now t e = refl
numbered_kind true (control.Rnr nr pf) f now t e = refl
numbered_kind false (control.Rnr nr pf) f now t e = refl
numbered_kind true (control.Rej nr pf) f now t e = refl
numbered_kind false (control.Rej nr pf) f now t e = refl
numbered_kind true (control.Srej nr pf) f now t e = refl
numbered_kind false (control.Srej nr pf) f now t e = refl
numbered_kind command (control.Sabm pf) f now t e = absurd (cc e)
numbered_kind command (control.Sabme pf) f now t e = absurd (cc e)
numbered_kind command (control.Disc pf) f now t e = absurd (cc e)
numbered_kind command (control.Dm pf) f now t e = absurd (cc e)
numbered_kind command (control.Ua pf) f now t e = absurd (cc e)
numbered_kind command (control.Frmr pf) f now t e = absurd (cc e)
numbered_kind command (control.Ui pf) f now t e = absurd (cc e)
numbered_kind command (control.Xid pf) f now t e = absurd (cc e)
numbered_kind command (control.Test pf) f now t e = absurd (cc e)

no_size : (c : Control) (n : ℕ) → is_numbered c ≡ true → set_up_size c ≡ Some n → ⊥
no_size (control.I ns nr pf) n e s = cc s
no_size (control.Rr nr pf) n e s = cc s
no_size (control.Rnr nr pf) n e s = cc s
no_size (control.Rej nr pf) n e s = cc s
no_size (control.Srej nr pf) n e s = cc s
no_size (control.Sabm pf) n e s = cc e
no_size (control.Sabme pf) n e s = cc e
no_size (control.Disc pf) n e s = cc e
no_size (control.Dm pf) n e s = cc e
no_size (control.Ua pf) n e s = cc e
no_size (control.Frmr pf) n e s = cc e
no_size (control.Ui pf) n e s = cc e
no_size (control.Xid pf) n e s = cc e
no_size (control.Test pf) n e s = cc e

unlinked : (f : AirFrame) (now : ℕ) (t : Table) → link_with (source f) t.links ≡ None → no_set_up f now t ≡ no_set_up (bare f) now t
unfolding bare
unlinked f now t e =
    ap (λ r. elim r as (λ x. Table) [ None ↦ if is_command f.head then answer_down f t else t | Some l ↦ to_link f now t ]) e
    ∙ sym (ap (λ r. elim r as (λ x. Table) [ None ↦ if is_command f.head then answer_down f t else t | Some l ↦ to_link (bare f) now t ]) e)

same_without : (f : AirFrame) (now : ℕ) (t : Table) → is_numbered f.control ≡ true → link_with (source f) t.links ≡ None → arrive f now t ≡ arrive (bare f) now t
unfolding bare
same_without f now t n e =
    numbered_kind (is_command f.head) f.control f now t n ∙ (unlinked f now t e ∙ sym (numbered_kind (is_command f.head) f.control (bare f) now t n))

bare_brings : (offered came : Callsign → Payload → Bool) (sizes : ℕ → Bool) (f : AirFrame) → is_numbered f.control ≡ true → Brings offered came sizes (bare f)
unfolding bare
bare_brings offered came sizes f n = record { payload = λ p e. absurd (cc e); size = λ k e. absurd (no_size f.control k n e) }

pub numbered_without_link : CarriesWhatWasOffered → NumberedWithoutLink
numbered_without_link law offered came sizes t f now n e c =
    let on : CarriesOn offered came sizes = law offered came sizes in
    subst (Carries offered came sizes) (sym (same_without f now t n e)) (on.arrives t (bare f) now (bare_brings offered came sizes f n) c)
