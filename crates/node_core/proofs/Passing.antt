-- What needn't be looked at: a frame to another station that goes to no node is no broadcast, and is left alone.
use Rattle.std.proofs.Common.{◌≡◌, ℕ, refl, sym, ap, Bool, true, false, ◌&&◌, List, length, take, drop, slice_get, Option, None, ◌∙◌}
use Rattle.std.specs.Prelude.{Result, Ok, Err, IsOkAnd}
use Rattle.std.proofs.lemmas.List.{take-append-drop}
use Rattle.ax_address.specs.Callsign.{same_call}
use Rattle.ax_address.specs.Results.{◌>>=◌}
use Rattle.ax_frame.specs.declared.head.Head.{Head}
use Rattle.ax_frame.specs.declared.control.Control.{Control}
use Rattle.ax_frame.specs.declared.frame.FrameRefusal.{FrameRefusal}
use Rattle.ax_frame.specs.Frames.{BeginsWith, Frame, frame, SpelledHeadIsRead, head_in, read_at, read_head_at}
use Rattle.ax_frame.specs.Reading.{frame_at, head_end}
use Rattle.ax_frame.specs.Controls.{is_ui}
use Rattle.node_core.specs.Broadcasts.{has_netrom_pid, nodes_call}
use Rattle.node_core.specs.Receiving.{take_frame}
use Rattle.node_model.specs.Links as links
use Rattle.node_model.specs.Serving.{greet_links}
use Rattle.node_model.specs.States.{State}
use Rattle.node_model.proofs.Settled.{none_greeted}

not_both : (a b c : Bool) → c ≡ false → (a && (b && c)) ≡ false
not_both true true c e = e
not_both true false c e = refl
not_both false b c e = refl

left_alone : (now : ℕ) (f : Frame) (n : State) → same_call f.head.dest.call nodes_call ≡ false → take_frame now false (Ok f) n ≡ n
left_alone now f n e = rw (not_both (is_ui f.control) (has_netrom_pid f.pid) (same_call f.head.dest.call nodes_call) e) refl

pub passes_by : (now size : ℕ) (octets : List ℕ) (h : Head) (n : State) → IsOkAnd {T = Head × ℕ} (read_head_at octets) (λ x. x.0 ≡ h) → same_call h.dest.call nodes_call ≡ false
    → take_frame now false (read_at size octets) n ≡ n
unfolding read_head_at read_at
passes_by now size octets h n = by (head_end octets) (frame_at size octets)
  where
    by : (r : Result ℕ FrameRefusal) (p : Result (Control × Option ℕ × ℕ) FrameRefusal) →
        IsOkAnd {T = Head × ℕ} (r >>= (λ end. Ok (head_in end octets, end))) (λ x. x.0 ≡ h) → same_call h.dest.call nodes_call ≡ false →
        take_frame now false (r >>= (λ end. p >>= (λ parts. Ok (frame (head_in end octets) parts.0 parts.1 (drop parts.2 octets))))) n ≡ n
    by (Err e) p q s = refl
    by (Ok end) (Err e) q s = refl
    by (Ok end) (Ok parts) q s =
        left_alone now (frame (head_in end octets) parts.0 parts.1 (drop parts.2 octets)) n (ap (λ (x : Head). same_call x.dest.call nodes_call) q ∙ s)

-- octets that begin with a head are read as it
pub head_read : SpelledHeadIsRead → (octets : List ℕ) (h : Head) (end : ℕ) → BeginsWith octets h end → IsOkAnd {T = Head × ℕ} (read_head_at octets) (λ x. x.0 ≡ h)
head_read read octets h end begins =
    let again : read_head_at octets ≡ Ok (h, length (take end octets)) = ap read_head_at (sym (take-append-drop end octets)) ∙ read h (take end octets) (drop end octets) begins.spelled in
    rw again refl

-- where no text waits at a link, nobody is greeted
pub nobody_greeted : (n : State) → None ≡ slice_get (links.text_peers n.links) 0 → greet_links n ≡ n
nobody_greeted n none = none_greeted n none
