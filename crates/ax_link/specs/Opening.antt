-- How a link begins, when it accepts a payload, and what it tells of itself.
use Rattle.std.specs.Prelude.{ℕ, ◌+◌, Bool, false, not, ◌||◌, ◌==◌, nat_le, min, if◌then◌else◌, [], length, None, Result, Ok, Err, replicate}
use Rattle.ax_link.specs.declared.config.LinkConfig.{LinkConfig}
use Rattle.ax_link.specs.declared.facts.LinkFacts.{LinkFacts}
use Rattle.ax_link.specs.declared.phase.LinkPhase.TheVariants.{Down}
use Rattle.ax_link.specs.declared.refusal.SendRefusal.{SendRefusal}
use Rattle.ax_link.specs.declared.refusal.SendRefusal.TheVariants.{NotUp, QueueFull, Exhausted}
use Rattle.ax_link.specs.State.{Rules, State, count_end, places}
use Rattle.ax_link.specs.Table.{may_close}
use Rattle.ax_link.specs.Standing.{LinkView}

-- how many payloads may be under way: one less than there are numbers, with SREJ half as many as there are numbers
abbrev pub window_most : ℕ → Bool → ℕ
window_most size srej = if size == 8 then (if srej then 4 else 7) else (if srej then 64 else 127)

-- the window that is used: 0 stands for 4 of modulo 8, and for 32 of modulo 128
abbrev pub window_used : ℕ → Bool → ℕ → ℕ
window_used size srej window = if window == 0 then (if size == 8 then 4 else 32) else min window (window_most size srej)

abbrev pub taken_in : Result (Unit {0}) SendRefusal
taken_in = Ok tt

abbrev pub answer_by : Bool → Bool → Bool → Result (Unit {0}) SendRefusal
answer_by refused full ended =
    if refused then Err NotUp else if full then Err QueueFull else if ended then Err Exhausted else taken_in

-- whether a payload is accepted
abbrev pub send_answer : LinkView → Result (Unit {0}) SendRefusal
send_answer h =
    answer_by (not (may_close h.phase) || h.closing) (nat_le 128 (length h.queue)) (nat_le count_end (h.acked + length h.queue))

abbrev pub rules_new : ℕ → LinkConfig → Rules
rules_new size config =
    record { size = size; window = window_used size config.srej config.window; srej = config.srej; t1 = config.t1; t3 = config.t3; retries = config.retries }

-- a link that is Down and has known nothing yet
abbrev pub opening : Rules → State
opening rules =
    record {
      rules = rules;
      phase = Down;
      given = [];
      acked = 0;
      sent = 0;
      received = [];
      early = replicate (places rules) None;
      inbox = [];
      tries = 0;
      polling = false;
      peer_busy = false;
      rej_sent = false;
      closing = false;
      t1_at = 0;
      last_arrival = 0;
      t1_stopped_at = 0;
    }

-- what a link tells of itself
abbrev pub facts_of : LinkView → LinkFacts
facts_of h = record { phase = h.phase; acked = h.acked; sent = h.sent; got = h.got; held = length h.queue; inbox = length h.inbox; closing = h.closing }
