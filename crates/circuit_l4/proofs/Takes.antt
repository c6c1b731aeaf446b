-- A message is take_first out.
use Rattle.std.proofs.Common.{◌≡◌, Bool, true, false, not, ◌&&◌, if◌then◌else◌, nat_lt, length}
use Rattle.circuit_l4.specs.State.{Sending, Receiving, busy, without_first, inbox, Effect, is_up}
use Rattle.circuit_l4.specs.Moves.{with_receiving}
use Rattle.circuit_l4.specs.Table.{resume, take_first, take_from}
use Rattle.circuit_l4.specs.Standing.{EndView, KeepsEffect, effect_of}
use Rattle.circuit_l4.specs.Table.{resume}

-- a message waits
some_taken : (some : Bool) (later : EndView) (g h : Effect) → some ≡ true → KeepsEffect later h → KeepsEffect later (if some then h else g)
some_taken true later g h e x = x
some_taken false later g h e x = absurd (cc e)

-- the end was busy, and no longer is
goes : (was now : Bool) (later : EndView) (on off : Effect) → was ≡ true → now ≡ false → KeepsEffect later on → KeepsEffect later (if was && not now then on else off)
goes true false later on off e f x = x
goes true true later on off e f x = absurd (cc f)
goes false now later on off e f x = absurd (cc e)

pub taken_on : (k later : EndView) (s : Sending) (r : Receiving) → nat_lt 0 (length (inbox r)) ≡ true → (is_up k.phase && busy r) ≡ true → busy (without_first r) ≡ false →
    KeepsEffect later (resume (effect_of k s (without_first r))) → KeepsEffect later (take_first (effect_of k s r))
taken_on k later s r some was now x =
    some_taken (nat_lt 0 (length (inbox r))) later (effect_of k s r) (take_from (without_first r) (effect_of k s r)) some
    (goes (is_up k.phase && busy r) (busy (without_first r)) later (resume (with_receiving (without_first r) (effect_of k s r))) (with_receiving (without_first r) (effect_of k s r)) was now x)
