-- What waits to be put out.
use Rattle.std.proofs.Common.{◌≡◌, ℕ, ◌+◌, ◌-◌, ◌%◌, ◌≤◌, ◌<◌, Bool, false, List, [], ◌∷◌, ◌++◌, length, length-append, drop, slice_get, Option, Some, None, refl, ap, sym, ◌∙◌, arith}
use Rattle.std.specs.Prelude.{unwrap_or}
use Rattle.std.specs.Option.{option_map}
use Rattle.std.proofs.lemmas.List.{append-nil, length-map, map_push}
use Rattle.std.proofs.lemmas.Option.{slice_get-get_or, slice_get_past}
use Rattle.circular_buffer.specs.Buffer.{keep_last}
use Rattle.circuit_reassembly.specs.Fragments.{Fragment}
use Rattle.circuit_l4.specs.declared.piece.Piece.{Piece}
use Rattle.circuit_l4.specs.declared.output.Output.{Output}
use Rattle.circuit_l4.specs.declared.output.Output.TheVariants.{Info}
use Rattle.circuit_l4.specs.State.{Sending, fragments, fragments_of_all, Receiving, busy, Effect, State, info}
use Rattle.circuit_l4.specs.Halves.{IsSending, Outbox, fragment_in}
use Rattle.circuit_l4.specs.Moves.{emit_infos}
use Rattle.circuit_l4.specs.Standing.{EndView, KeepsEffect, effect_of}
use Rattle.circuit_l4.specs.Calls.{emits}
use Rattle.circuit_l4.specs.Outputs.{out_of, outs_of, with_text}
use Rattle.circuit_l4.proofs.Acknowledged.{all-append}
use Rattle.circuit_l4.proofs.Queues.{keep_all}
use Rattle.circuit_l4.proofs.Rings.{get-behind}

-- ---- a queue of outputs ----
pub none_out : (queue : List (List ℕ)) (first : ℕ) → outs_of queue first [] ≡ []
unfolding outs_of
none_out queue first = refl

-- where nothing waits, it doesn't count what was written
pub same_none : (queue other : List (List ℕ)) (first second : ℕ) (outputs : List Output) → outputs ≡ [] → outs_of queue first outputs ≡ outs_of other second outputs
unfolding outs_of
same_none queue other first second outputs e = rw e refl

first_out : (queue : List (List ℕ)) (first : ℕ) (outputs : List Output) → slice_get (outs_of queue first outputs) 0 ≡ option_map (out_of queue first) (slice_get outputs 0)
unfolding outs_of
first_out queue first [] = refl
first_out queue first (o ∷ os) = refl

pub next_out : (queue : List (List ℕ)) (first : ℕ) (outputs : List Output) (r : Option Output) → r ≡ slice_get outputs 0 → option_map (out_of queue first) r ≡ slice_get (outs_of queue first outputs) 0
next_out queue first outputs r e = ap (option_map (out_of queue first)) e ∙ sym (first_out queue first outputs)

pub others_out : (queue : List (List ℕ)) (first : ℕ) (outputs : List Output) → drop 1 (outs_of queue first outputs) ≡ outs_of queue first (drop 1 outputs)
unfolding outs_of
others_out queue first [] = refl
others_out queue first (o ∷ os) = refl

more_out : (queue : List (List ℕ)) (first : ℕ) (outputs : List Output) (o : Output) → outs_of queue first (outputs ++ o ∷ []) ≡ outs_of queue first outputs ++ out_of queue first o ∷ []
unfolding outs_of
more_out queue first outputs o = map_push (out_of queue first) outputs o

pub emptied : (queue : List (List ℕ)) (first : ℕ) (outputs : List Output) → outs_of queue first outputs ≡ [] → outputs ≡ []
unfolding outs_of
emptied queue first [] e = refl
emptied queue first (o ∷ os) e = absurd (cc e)

pub few_out : (queue : List (List ℕ)) (first : ℕ) (outputs : List Output) (n : ℕ) → length outputs ≤ n → length (outs_of queue first outputs) ≤ n
unfolding outs_of
few_out queue first outputs n h = rw (length-map outputs (out_of queue first)) h

-- ---- something more waits ----
pub waits_too : (queue : List (List ℕ)) (first : ℕ) (outputs : List Output) (o : Output) (room : ℕ) → length outputs < room →
    outs_of queue first (keep_last room (outputs ++ o ∷ [])) ≡ outs_of queue first outputs ++ out_of queue first o ∷ []
waits_too queue first outputs o room h =
    ap (outs_of queue first) (keep_all (outputs ++ o ∷ []) room (rw (length-append outputs (o ∷ [])) (omega (arith, h)))) ∙ more_out queue first outputs o

pub puts_stand : (k later : EndView) (o : Output) → later ≡ record k { outs = k.outs ++ out_of k.outgoing.queue (k.outgoing.acked - k.outgoing.done) o ∷ [] } →
    (g : Effect) → KeepsEffect k g → KeepsEffect later (emits k.outgoing o g)
puts_stand k later o e g h =
    rw e
    (record {
      written = h.written;
      came = h.came;
      sending = h.sending;
      receiving = h.receiving;
      is = ap (emits k.outgoing o) h.is;
    })

-- ---- a fragment waits ----
-- the fragments of the queue are the last ones
found_behind : (o : Outbox) (s : Sending) (number : ℕ) → o.acked ≤ number → IsSending o s →
    slice_get (fragments_of_all o.queue) (number - (o.acked - o.done)) ≡ slice_get (fragments s) number
found_behind o s number from h =
    let nth : ℕ = number - (o.acked - o.done) in
    let place : number ≡ length (fragments_of_all h.before) + nth = omega (arith, h.places, h.acked, from) in
    let all : fragments s ≡ fragments_of_all h.before ++ fragments_of_all o.queue = ap fragments_of_all h.wrote ∙ all-append h.before o.queue in
    sym (ap (λ fs. slice_get fs number) all ∙ ap (slice_get (fragments_of_all h.before ++ fragments_of_all o.queue)) place ∙ get-behind (fragments_of_all h.before) (fragments_of_all o.queue) nth)

as_info : (s : State) (n rx : ℕ) (choke : Bool) (x : Option Fragment) (f : Fragment) → x ≡ Some f → rx ≡ s.receiving.got % 256 → choke ≡ busy s.receiving →
    with_text s.to n rx choke (unwrap_or x ([], false)) ∷ [] ≡ info s n x
as_info s n rx choke x f e a b = rw (e, a, b) refl

pub info_waits : (k : EndView) (s : Sending) (r : Receiving) (number rx : ℕ) (choke : Bool) → IsSending k.outgoing s → k.outgoing.acked ≤ number → number < k.outgoing.total →
    rx ≡ r.got % 256 → choke ≡ busy r → emits k.outgoing (Info k.to number rx choke) (effect_of k s r) ≡ emit_infos number 1 (effect_of k s r)
info_waits k s r number rx choke h from to a b =
    let there : number < length (fragments s) = omega (arith, h.total, to) in
    let none : Fragment = ([], false) in
    let same = found_behind k.outgoing s number from h in
    let out = as_info (effect_of k s r).end number rx choke (slice_get (fragments s) number) _ (slice_get-get_or (fragments s) number none there) a b in
    ap (λ outs. record (effect_of k s r) { outs = k.outs ++ outs })
    (ap (λ x. with_text k.to number rx choke (unwrap_or x ([], false)) ∷ []) same ∙ out ∙ sym (append-nil (info (effect_of k s r).end number (slice_get (fragments s) number))))

pub none_waits : (k : EndView) (s : Sending) (r : Receiving) (number : ℕ) → IsSending k.outgoing s → k.outgoing.total ≤ number → effect_of k s r ≡ emit_infos number 1 (effect_of k s r)
none_waits k s r number h past =
    let none : slice_get (fragments s) number ≡ None = slice_get_past (fragments s) number (omega (arith, h.total, past)) in
    rw none (ap (λ outs. record (effect_of k s r) { outs = outs }) (sym (append-nil k.outs)))

-- ---- a fragment is fetched ----
pub fetched : (r : Option Piece) (x : Option Fragment) (p : Piece) → option_map fragment_in r ≡ x → fragment_in p ≡ ([], false) → fragment_in (unwrap_or r p) ≡ unwrap_or x ([], false)
fetched None x p e h = rw (← e) h
fetched (Some q) x p e h = rw (← e) refl
