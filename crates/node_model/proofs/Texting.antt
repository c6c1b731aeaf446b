-- A text that is taken leaves less over the links: of the payloads behind it each brings one datagram at most.
use Rattle.std.proofs.Common.{◌≡◌, ◌≤◌, ◌+◌, ◌∙◌, ◌==◌, ℕ, zero, suc, refl, ap, arith, length, length-append, List, [], ◌∷◌, ◌++◌, slice_get}
use Rattle.std.specs.Prelude.{Bool, true, false, if◌then◌else◌, is_some, Option, Some, None}
use Rattle.std.proofs.lemmas.Bool.Decides.{nat_tests}
use Rattle.radio_base.specs.declared.payload.Payload.{Payload}
use Rattle.ax_address.specs.Callsign.{Callsign}
use Rattle.ax_link.specs.Moves as moves
use Rattle.ax_link.specs.State.{Effect, State, begin}
use Rattle.ax_link.specs.Table as link
use Rattle.ax_link.specs.Table.{Take}
use Rattle.ax_segment.specs.Joining.{HeldMessage, join_step}
use Rattle.link_table.specs.Calls as calls
use Rattle.link_table.specs.Frames.{netrom, plain_text, segmented}
use Rattle.link_table.specs.Kept.{link_payloads, payloads}
use Rattle.link_table.specs.Table.{Linked, Table, link_with}
use Rattle.link_table.specs.Texts as texts
use Rattle.link_table.specs.Works.{Work, first_to_take, is_text, most_taken, settle, step_link, take_payload, unless_text}
use Rattle.link_table.proofs.Payloads.{kept_most}
use Rattle.link_table.proofs.Settling.{less, take_weight}
use Rattle.link_table.proofs.Waiting.{each_keeps}
use Rattle.node_model.specs.Links as links

-- ---- a take of a link

-- ---- what is handed up

-- what came over a link and was handed up and not taken
held : Work → ℕ
held w = link_payloads w.linked.link + length w.pending.waiting

handed_link : (p : Payload) (w : Work) (b c : Bool) → (if b
    then record w { pending = record w.pending { waiting = w.pending.waiting ++ (w.linked.peer, p.info) ∷ [] } }
    else if c then record w { linked = record w.linked { joiner = (join_step w.linked.joiner p.info.items).0 } } else w).linked.link ≡ w.linked.link
handed_link p w true c = refl
handed_link p w false true = refl
handed_link p w false false = refl

handed_waiting : (p : Payload) (w : Work) (b c : Bool) → length (if b
    then record w { pending = record w.pending { waiting = w.pending.waiting ++ (w.linked.peer, p.info) ∷ [] } }
    else if c then record w { linked = record w.linked { joiner = (join_step w.linked.joiner p.info.items).0 } } else w).pending.waiting ≤ suc (length w.pending.waiting)
handed_waiting p w true c = let n = length-append w.pending.waiting ((w.linked.peer, p.info) ∷ []) in omega (arith, n)
handed_waiting p w false true = omega arith
handed_waiting p w false false = omega arith

none_handed : (p : Payload) (w : Work) (b c : Bool) → b ≡ false → (if b
    then record w { pending = record w.pending { waiting = w.pending.waiting ++ (w.linked.peer, p.info) ∷ [] } }
    else if c then record w { linked = record w.linked { joiner = (join_step w.linked.joiner p.info.items).0 } } else w).pending.waiting ≡ w.pending.waiting
none_handed p w true c e = absurd (cc e)
none_handed p w false true e = refl
none_handed p w false false e = refl

lighter : (own : Callsign) (now : ℕ) (p q : Payload) (w : Work) → slice_get w.linked.link.inbox 0 ≡ Some q → suc (link_payloads (take_payload own now p w).linked.link) ≡ link_payloads w.linked.link
lighter own now p q w e = ap (λ s. suc (link_payloads s)) (handed_link p (step_link own Take now w) (p.pid == netrom) (p.pid == segmented)) ∙ take_weight now w.linked.link q e

one_most : (own : Callsign) (now : ℕ) (p q : Payload) (w : Work) → slice_get w.linked.link.inbox 0 ≡ Some q → held (take_payload own now p w) ≤ held w
unfolding held
one_most own now p q w e =
    omega (arith, lighter own now p q w e, handed_waiting p (step_link own Take now w) (p.pid == netrom) (p.pid == segmented))

untexted : (j : HeldMessage) (x : Option Payload) (p : Payload) → unless_text j x ≡ Some p → x ≡ Some p
untexted j None p e = absurd (cc e)
untexted j (Some q) p e = by (is_text j q) e
  where
    by : (b : Bool) → (if b then None else Some q) ≡ Some p → Some q ≡ Some p
    by true r = absurd (cc r)
    by false r = r

settled_most : (n : ℕ) (own : Callsign) (now : ℕ) (w : Work) → held (settle n own now w) ≤ held w
unfolding held
settled_most zero own now w = omega arith
settled_most (suc n) own now w = by (first_to_take w) refl (λ p. settled_most n own now (take_payload own now p w))
  where
    by : (r : Option Payload) → first_to_take w ≡ r →
        ((p : Payload) → held (settle n own now (take_payload own now p w)) ≤ held (take_payload own now p w)) →
        held (elim r as (λ y. Work) [ None ↦ w | Some p ↦ settle n own now (take_payload own now p w) ]) ≤ held w
    by None e rest = omega arith
    by (Some p) e rest = omega (arith, one_most own now p p w (untexted w.linked.joiner (slice_get w.linked.link.inbox 0) p e), rest p)

-- ---- a text

not_netrom : (pid : ℕ) (x y : Bool) (a b c : Bool) → (pid == plain_text) ≡ a → (pid == segmented) ≡ b → (pid == netrom) ≡ c → (if a then x else (if b then y else false)) ≡ true → c ≡ false
not_netrom pid x y true b c e f g h = grind (arith, nat_tests, e, g)
not_netrom pid x y false true c e f g h = grind (arith, nat_tests, f, g)
not_netrom pid x y false false c e f g h = absurd (cc h)

text_pid : (j : HeldMessage) (p : Payload) → is_text j p ≡ true → (p.pid == netrom) ≡ false
text_pid j p e = not_netrom p.pid _ _ (p.pid == plain_text) (p.pid == segmented) (p.pid == netrom) refl refl refl e

text_less : (own : Callsign) (now : ℕ) (w : Work) (r : Option Payload) → slice_get w.linked.link.inbox 0 ≡ r → is_some (texts.first_text w.linked.joiner r) ≡ true
    → suc (held (elim r as (λ y. Work) [ None ↦ w | Some p ↦ settle most_taken own now (take_payload own now p w) ])) ≤ held w
unfolding held
text_less own now w None e f = absurd (cc f)
text_less own now w (Some p) e f = by (is_text w.linked.joiner p) refl f
  where
    by : (b : Bool) → is_text w.linked.joiner p ≡ b → is_some (if b then Some (texts.text_of w.linked.joiner p) else None) ≡ true → suc (held (settle most_taken own now (take_payload own now p w))) ≤ held w
    by false g h = absurd (cc h)
    by true g h =
        let s : Work = step_link own Take now w in
        let same = ap (λ xs. length xs) (none_handed p s (p.pid == netrom) (p.pid == segmented) (text_pid w.linked.joiner p g)) in
        omega (arith, lighter own now p p w e, same, settled_most most_taken own now (take_payload own now p w))

-- ---- the links of a table

taken_by : (peer : Callsign) (now : ℕ) (t : Table) (r : Option Linked) → link_with peer t.links ≡ r → is_some (elim r as (λ x. Option (List ℕ)) [ None ↦ None | Some l ↦ texts.text_at l ]) ≡ true
    → (let u : Table = elim r as (λ y. Table) [ None ↦ t | Some l ↦ calls.keep peer (texts.take_text_of t.own now (record { linked = l; pending = t.pending })) t ] in
    suc (payloads u + length u.pending.waiting) ≤ payloads t + length t.pending.waiting)
unfolding held
taken_by peer now t None f g = absurd (cc g)
taken_by peer now t (Some l) f g =
    let w : Work = record { linked = l; pending = t.pending } in
    omega (arith, text_less t.own now w (slice_get l.link.inbox 0) refl g, kept_most peer (texts.take_text_of t.own now w) t l f)

-- a text that is taken leaves less
pub text_leaves_less : (peer : Callsign) (now : ℕ) (t : Table) → links.has_text peer t ≡ true
    → (let u : Table = links.take_text peer now t in suc (links.payloads u + length u.pending.waiting) ≤ links.payloads t + length t.pending.waiting)
unfolding links.has_text links.take_text links.payloads
text_leaves_less peer now t e = rw e (taken_by peer now t (link_with peer t.links) refl e)

-- ---- a text that is sent, and a link that is closed: what came over it stays, and nothing comes up

-- nothing more is there than before
pub record Most (old new : Table) : Type 0 where
  pub payloads : links.payloads new ≤ links.payloads old
  pub waiting : new.pending.waiting ≡ old.pending.waiting

send_same : (s : State) (p : Payload) (now : ℕ) (b : Bool) → link_payloads (if b then link.accept now p (begin s) else begin s).link ≡ link_payloads s
send_same s p now true = refl
send_same s p now false = refl

each_same : (own : Callsign) (ps : List Payload) (now : ℕ) (w : Work) → link_payloads (texts.send_each own ps now w).linked.link ≡ link_payloads w.linked.link
each_same own [] now w = refl
each_same own (p ∷ ps) now w =
    each_same own ps now (step_link own (link.Send p) now w) ∙ send_same w.linked.link p _ (link.takes w.linked.link)

at_link_most : (peer : Callsign) (part : Work → Work) (t : Table) → ((w : Work) → link_payloads (part w).linked.link ≡ link_payloads w.linked.link) → ((w : Work) → (part w).pending.waiting ≡ w.pending.waiting)
    → (r : Option Linked) → link_with peer t.links ≡ r
    → (let u : Table = elim r as (λ x. Table) [ None ↦ t | Some l ↦ calls.keep peer (part (record { linked = l; pending = t.pending })) t ] in (payloads u ≤ payloads t) × (u.pending.waiting ≡ t.pending.waiting))
at_link_most peer part t same waits None e = (omega arith, refl)
at_link_most peer part t same waits (Some l) e =
    let w : Work = record { linked = l; pending = t.pending } in
    (omega (arith, kept_most peer (part w) t l e, same w), waits w)

pub sent_most : (peer : Callsign) (text : List ℕ) (now : ℕ) (t : Table) → Most t (links.send_text peer text now t)
unfolding links.send_text links.payloads
sent_most peer text now t =
    let x = at_link_most peer (texts.send_text_of t.own text now) t (λ w. each_same t.own (texts.payloads_of w.linked.link.rules.size text) now w) (λ w. each_keeps t.own (texts.payloads_of w.linked.link.rules.size text) now w) (link_with peer t.links) refl in
    record { payloads = x.0; waiting = x.1 }

finished_same : (now : ℕ) (g : Effect) (b : Bool) → link_payloads (if b then moves.release now g else g).link ≡ link_payloads g.link
finished_same now g true = refl
finished_same now g false = refl

close_same : (s : State) (now : ℕ) (b : Bool) → link_payloads (if b then link.close_in_turn now (begin s) else begin s).link ≡ link_payloads s
close_same s now true = finished_same now (record (begin s) { link = record s { closing = true } }) _
close_same s now false = refl

pub closed_most : (peer : Callsign) (now : ℕ) (t : Table) → Most t (links.close peer now t)
unfolding links.close links.payloads
closed_most peer now t =
    let x = at_link_most peer (step_link t.own link.Close now) t (λ w. close_same w.linked.link _ (link.may_close w.linked.link.phase)) (λ w. refl) (link_with peer t.links) refl in
    record { payloads = x.0; waiting = x.1 }
