-- A frame that was put out comes as it is.
use Rattle.std.proofs.Common.{◌≡◌, ◌≤◌, ℕ, Bool, true, false, List, length, Option, Some, None, ap, sym, ◌∙◌, arith, if◌then◌else◌}
use Rattle.std.specs.Prelude.{nat_le}
use Rattle.std.proofs.lemmas.Bool.Decides.{nat_tests}
use Rattle.radio_base.specs.declared.payload.Payload.{Payload}
use Rattle.ax_link.specs.declared.out.LinkOut.{LinkOut}
use Rattle.ax_link.specs.Kinds.{frame_in, kind_of, payload_of}
use Rattle.ax_link.specs.Standing.{frame_of}
use Rattle.ax_link.specs.State.{Frame}

payload_comes : (p : Payload) (info : List ℕ) → info ≡ p.info.items → length info ≤ 256 → payload_of (Some p.pid) info ≡ Some p
payload_comes p info e few = by (nat_le (length info) 256) (grind (arith, nat_tests))
  where
    by : (b : Bool) → b ≡ true → (if b then Some (record { pid = p.pid; info = record { items = info } }) else None) ≡ Some p
    by true t = ap (λ (xs : List ℕ). Some (record p { info = record { items = xs } })) e
    by false t = absurd (cc t)

pub frame_comes : (size : ℕ) (out : LinkOut) (p : Payload) (info : List ℕ) → out.payload ≡ Some p → info ≡ p.info.items → length info ≤ 256 →
    frame_in size out.command out.control (Some p.pid) info ≡ frame_of size out
frame_comes size out p info is e few =
    ap (λ (x : Option Payload). let f : Frame = record { command = out.command; kind = kind_of size out.command out.control; payload = x } in f) (payload_comes p info e few ∙ sym is)
