-- The steps of which the rows of an end's table are made.
use Rattle.std.specs.Prelude.{ℕ, suc, ◌+◌, ◌-◌, min, Bool, true, false, not, ◌&&◌, ◌||◌, nat_eq, nat_lt, if◌then◌else◌, [], ◌∷◌, ◌++◌, Option, Some, None}
use Rattle.radio_base.specs.Modulus.{place_of}
use Rattle.circuit_l4.specs.declared.transport.Transport.{Transport}
use Rattle.circuit_l4.specs.declared.transport.Transport.TheVariants.{Disconnect}
use Rattle.circuit_l4.specs.declared.transport.Flags.{Flags}
use Rattle.circuit_l4.specs.declared.piece.Piece.{Piece}
use Rattle.circuit_l4.specs.declared.owed.Owed.{Owed}
use Rattle.circuit_l4.specs.declared.phase.EndPhase.TheVariants.{Closing, Ended}
use Rattle.circuit_l4.specs.declared.notice.EndNotice.{EndNotice}
use Rattle.circuit_l4.specs.declared.notice.EndNotice.TheVariants.{FailedOversize}
use Rattle.circuit_l4.specs.State.{State, Effect, infos, info_ack, is_up, total, Receipt, Receiving, receive}

-- a change of the state alone
abbrev pub on_state : (State → State) → Effect → Effect
on_state f g = record g { end = f g.end }

abbrev pub emit : Transport → Effect → Effect
emit transport g = record g { outs = g.outs ++ (transport, None) ∷ [] }

-- what was got goes out, with a negative acknowledgement or without
abbrev pub emit_ack : Bool → Effect → Effect
emit_ack nak g = emit (info_ack g.end nak) g

-- many fragments from number n on
abbrev pub emit_infos : ℕ → ℕ → Effect → Effect
emit_infos n many g = record g { outs = g.outs ++ infos g.end n many }

abbrev pub note : EndNotice → Effect → Effect
note n g = record g { notes = g.notes ++ n ∷ [] }

abbrev pub end_with : EndNotice → Effect → Effect
end_with why g = note why (on_state (λ s. record s { phase = Ended }) g)

abbrev pub wait : ℕ → State → State
wait now s = record s { answer_due = Some (now + s.config.timeout) }

-- an answer is waited for while text is out
abbrev pub wait_if_out : ℕ → State → State
wait_if_out now s = if nat_lt s.sending.acked s.sending.sent then wait now s else record s { answer_due = None }

-- how many fragments Fill puts out
abbrev pub fill_count : State → ℕ
fill_count s =
    if is_up s.phase && not s.choked
    then min ((s.sending.acked + s.window) - s.sending.sent) (total s.sending - s.sending.sent)
    else 0

abbrev pub put_out : ℕ → State → State
put_out many s = record s { sending = record s.sending { sent = s.sending.sent + many } }

-- where text goes out and no answer is waited for, one is from now on
abbrev pub wait_from : ℕ → ℕ → State → State
wait_from now many s = if nat_lt 0 many then elim s.answer_due as (λ d. State) [ None ↦ wait now s | Some d ↦ s ] else s

abbrev pub count_out : ℕ → ℕ → State → State
count_out now many s = wait_from now many (put_out many s)

abbrev pub fill_with : ℕ → ℕ → Effect → Effect
fill_with now many g = on_state (count_out now many) (emit_infos g.end.sending.sent many g)

-- Fill: what the window has room for goes out
abbrev pub fill : ℕ → Effect → Effect
fill now g = fill_with now (fill_count g.end) g

-- Finish: once all is acknowledged, an end that is to close begins to
abbrev pub to_closing : ℕ → State → State
to_closing now s = wait now (record s { phase = Closing; choked = false; tries = 0 })

abbrev pub begin_to_close : ℕ → Effect → Effect
begin_to_close now g = emit (Disconnect g.end.to) (on_state (to_closing now) g)

abbrev pub is_done : State → Bool
is_done s = is_up s.phase && s.closing && nat_eq s.sending.acked (total s.sending)

abbrev pub finish : ℕ → Effect → Effect
finish now g = if is_done g.end then begin_to_close now g else g

-- Fill, then Finish
abbrev pub supply : ℕ → Effect → Effect
supply now g = finish now (fill now g)

-- Again: what is put out and isn't acknowledged
abbrev pub again : Effect → Effect
again g = emit_infos g.end.sending.acked (g.end.sending.sent - g.end.sending.acked) g

-- the acknowledgement in an information message or for itself

-- fragments below number x are acknowledged
abbrev pub advance : ℕ → ℕ → State → State
advance now x s =
    if nat_lt s.sending.acked x
    then wait_if_out now (record s { sending = record s.sending { acked = x }; tries = 0 })
    else s

-- with choke the other end takes no text for now; without it, it takes text again
abbrev pub hold : ℕ → Bool → State → State
hold now choke s =
    if choke then record s { choked = true; answer_due = Some (now + s.config.busy) }
    else if s.choked then wait_if_out now (record s { choked = false })
    else s

abbrev pub nothing_owed : State → Owed
nothing_owed s = record { from = s.sending.acked; many = 0 }

-- An end that was held owes all that is out. Else a negative acknowledgement asks for fragment x, where that is out.
abbrev pub owed_by : Flags → ℕ → State → Owed
owed_by flags x s =
    if flags.choke then nothing_owed s
    else if s.choked then record { from = s.sending.acked; many = s.sending.sent - s.sending.acked }
    else if flags.nak then record { from = x; many = min 1 (s.sending.sent - x) }
    else nothing_owed s

pub record Acknowledgement : Type 0 where
  pub end : State
  pub owed : Owed

abbrev pub acknowledge_at : ℕ → Flags → ℕ → State → Acknowledgement
acknowledge_at now flags x s =
    let t = advance now x s in record { end = hold now flags.choke t; owed = owed_by flags x t }

abbrev pub acknowledge_by : ℕ → Flags → Option ℕ → State → Acknowledgement
acknowledge_by now flags None s = record { end = s; owed = nothing_owed s }
acknowledge_by now flags (Some x) s = acknowledge_at now flags x s

-- rx, the next number expected, is one of what is out or the next one behind it, or nothing is done
abbrev pub acknowledge : ℕ → ℕ → Flags → State → Acknowledgement
acknowledge now rx flags s =
    acknowledge_by now flags (place_of 256 rx s.sending.acked (suc (s.sending.sent - s.sending.acked))) s

abbrev pub emit_owed : Owed → Effect → Effect
emit_owed owed g = emit_infos owed.from owed.many g

-- no text goes out
abbrev pub is_silent : Owed → State → Bool
is_silent owed s = nat_eq (owed.many + fill_count s) 0

-- Text is answered by what was got, unless text that carries it goes out. A negative acknowledgement always goes out.
abbrev pub answer : Bool → Owed → Effect → Effect
answer nak owed g = if nak || is_silent owed g.end then emit_ack nak g else g

-- an acknowledgement for itself
abbrev pub on_info_ack : ℕ → ℕ → Flags → Effect → Effect
on_info_ack now rx flags g =
    let a = acknowledge now rx flags g.end in supply now (emit_owed a.owed (record g { end = a.end }))

-- a text that fits its message is answered, and all goes out that has to
abbrev pub answer_all : ℕ → Bool → Owed → Effect → Effect
answer_all now nak owed g = supply now (emit_owed owed (answer nak owed g))

abbrev pub with_receiving : Receiving → Effect → Effect
with_receiving r g = on_state (λ s. record s { receiving = r }) g

-- one whose message is too long ends the circuit, and nothing goes out
abbrev pub answer_text : ℕ → Owed → Receipt → Effect → Effect
answer_text now owed c g =
    if c.fits then answer_all now c.nak owed (with_receiving c.half g) else end_with FailedOversize (with_receiving c.half g)

-- an information message: its acknowledgement first, then its text
abbrev pub on_info : ℕ → ℕ → ℕ → Flags → Piece → Effect → Effect
on_info now tx rx flags piece g =
    let a = acknowledge now rx flags g.end in
    answer_text now a.owed (receive a.end.window tx piece a.end.receiving) (record g { end = a.end })
