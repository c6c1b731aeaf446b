-- What is known of every run: of its ends, of what was sent, and of what has opened an end.
use Rattle.std.specs.Prelude.{◌≡◌, ℕ, suc, ◌⊎◌, Bool, true, false, ◌&&◌, ◌||◌, List, [], ◌∷◌, drop, slice_get, Option, Some, None, Ok, refl}
use Rattle.std.specs.List.{AllByRecursion}
use Rattle.std.proofs.Common.{sym, ◌∙◌, ap, subst, inl, inr}
use Rattle.std.proofs.lemmas.Bool.{and_parts}
use Rattle.ax_address.specs.Callsign.{Callsign, IsCallsign}
use Rattle.l3_datagram.specs.declared.datagram.DatagramHead.{DatagramHead}
use Rattle.l3_datagram.specs.Datagrams.{head_at, octets_with}
use Rattle.circuit_l4.specs.declared.pair.Pair.{Pair}
use Rattle.circuit_l4.specs.declared.transport.Transport.{Transport}
use Rattle.circuit_l4.specs.declared.transport.Transport.TheVariants.{Request, Accept, Refuse, Disconnect, Disconnected, Info, InfoAck}
use Rattle.circuit_l4.specs.declared.role.Role.TheVariants.{Requester, Responder}
use Rattle.circuit_l4.specs.State.{Out}
use Rattle.circuit_l4.specs.Spelling.{IsTransport}
use Rattle.circuit_l4.specs.Transports.{transport_at, pair_at, transport_octets}
use Rattle.circuit_set.specs.Books.{MadeNote, SentNote, has_sent}
use Rattle.circuit_table.specs.Events.{Name, is_copy, same_name}
use Rattle.circuit_set.specs.NotedRuns.{Net, end_at}
use Rattle.circuit_set.specs.Facing.{IsCallOf}
use Rattle.circuit_set.specs.Returning.{CallsDiffer}
use Rattle.circuit_table.specs.Sets.{Holder, SetState, datagram_to}
use Rattle.circuit_set.proofs.Asks.{AskOf, Asks}
use Rattle.circuit_set.proofs.Bridge.{same_names}
use Rattle.circuit_set.proofs.Copies.{Reads, Spelled, copy_carries, copy_reads}
use Rattle.circuit_set.proofs.Fair.{NoteOk}
use Rattle.circuit_set.proofs.Pasts.{put_sents}
use Rattle.circuit_set.proofs.Requests.{IsRequest, is_request}
use Rattle.circuit_set.proofs.Written.{RoleSpeaks, role_calls}

pub record EndOk (h : Holder) : Type 0 where
  pub at : IsCallsign h.at.letters h.at.ssid
  pub speaks : RoleSpeaks h.end.role
  pub asked : (h.asked ≡ None) ⊎ (h.end.role ≡ Responder)

-- a connect request is that of an end that was opened by none, to the node with which it asks for a circuit
abbrev pub SaidBy : Net → Name → Callsign → Transport → Type 0
SaidBy net x at (Request pair window user node) =
    (h : Holder) × (end_at net x ≡ Some h) × (h.asked ≡ None) × (h.end.pair ≡ pair) × (h.at ≡ at) × IsCallsign user.letters user.ssid × IsCallsign node.letters node.ssid
SaidBy net x at t = Unit {0}

pub record SentOk (net : Net) (s : SentNote) : Type 0 where
  pub own : Callsign
  pub node : IsCallOf net.sets s.who.node own
  pub call : IsCallsign own.letters own.ssid
  pub at : Callsign
  pub to : IsCallsign at.letters at.ssid
  pub ttl : ℕ
  pub out : Transport
  pub is : s.datagram ≡ octets_with (record { origin = own; dest = at; ttl = ttl }) (transport_octets out)
  pub by : SaidBy net s.who at out

-- the request of x has opened this end
pub record Opened (net : Net) (m : MadeNote) (x : Name) : Type 0 where
  pub asker : Holder
  pub there : end_at net x ≡ Some asker
  pub end : Holder
  pub here : end_at net m.who ≡ Some end
  pub pair : end.asked ≡ Some asker.end.pair
  pub from : IsCallOf net.sets x.node end.at
  pub to : IsCallOf net.sets m.who.node asker.at

pub record MadeOk (net : Net) (m : MadeNote) : Type 0 where
  pub note : NoteOk net m
  pub alone : note.end.asked ≡ None → m.partner ≡ None
  pub opened : (x : Name) → m.partner ≡ Some x → Opened net m x

pub record Known (net : Net) : Type 0 where
  pub calls : CallsDiffer net.sets
  pub sets : (n : ℕ) (s : SetState) → slice_get net.sets n ≡ Some s → IsCallsign s.own.letters s.own.ssid × IsCallsign s.user.letters s.user.ssid
  pub ends : (x : Name) (h : Holder) → end_at net x ≡ Some h → EndOk h
  pub sent : AllByRecursion (SentOk net) net.book.sent
  pub made : AllByRecursion (MadeOk net) net.book.made

-- ---- what stays ----
pub record Lasts (h to : Holder) : Type 0 where
  pub pair : to.end.pair ≡ h.end.pair
  pub asked : to.asked ≡ h.asked
  pub at : to.at ≡ h.at

pub lasts_itself : (h : Holder) → Lasts h h
lasts_itself h = record { pair = refl; asked = refl; at = refl }

pub record Forth (net new : Net) : Type 0 where
  pub is : (x : Name) (h : Holder) → end_at net x ≡ Some h → (to : Holder) × (end_at new x ≡ Some to) × Lasts h to
  pub owns : (n : ℕ) (s : SetState) → slice_get net.sets n ≡ Some s → (t : SetState) × (slice_get new.sets n ≡ Some t) × (t.own ≡ s.own)

module _ (net new : Net) (f : Forth net new) where
  pub own_then : (node : ℕ) (own : Callsign) → IsCallOf net.sets node own → IsCallOf new.sets node own
  own_then node own o = let r = f.owns node o.0 o.1 in (r.0, r.1, r.2 ∙ o.2)

  said_then : (x : Name) (at : Callsign) (t : Transport) → SaidBy net x at t → SaidBy new x at t
  said_then x at (Request pair window user node) b =
      let r = f.is x b.0 b.1 in
      let l : Lasts b.0 r.0 = r.2 in
      (r.0, r.1, l.asked ∙ b.2, l.pair ∙ b.3, l.at ∙ b.4, b.5, b.6)
  said_then x at (Accept to own window) b = tt
  said_then x at (Refuse to) b = tt
  said_then x at (Disconnect to) b = tt
  said_then x at (Disconnected to) b = tt
  said_then x at (Info to tx rx flags text) b = tt
  said_then x at (InfoAck to rx flags) b = tt

  pub sent_then : (s : SentNote) → SentOk net s → SentOk new s
  sent_then s o = record { own = o.own; node = own_then s.who.node o.own o.node; call = o.call; at = o.at; to = o.to; ttl = o.ttl; out = o.out; is = o.is; by = said_then s.who o.at o.out o.by }

  opened_then : (m : MadeNote) (x : Name) → Opened net m x → Opened new m x
  opened_then m x o =
      let r = f.is x o.asker o.there in
      let l : Lasts o.asker r.0 = r.2 in
      let q = f.is m.who o.end o.here in
      let k : Lasts o.end q.0 = q.2 in
      record {
        asker = r.0;
        there = r.1;
        end = q.0;
        here = q.1;
        pair = k.asked ∙ o.pair ∙ ap (λ p. Some p) (sym l.pair);
        from = subst (λ c. IsCallOf new.sets x.node c) (sym k.at) (own_then x.node o.end.at o.from);
        to = subst (λ c. IsCallOf new.sets m.who.node c) (sym l.at) (own_then m.who.node o.asker.at o.to);
      }

  pub made_then : (m : MadeNote) → MadeOk net m → MadeOk new m
  made_then m o =
      let n : NoteOk net m = o.note in
      let r = f.is m.who n.end n.there in
      let l : Lasts n.end r.0 = r.2 in
      let s = f.owns m.who.node n.set n.here in
      record {
        note = record { end = r.0; there = r.1; pair = l.pair ∙ n.pair; set = s.0; here = s.1; own = s.2 ∙ n.own };
        alone = λ e. o.alone (sym l.asked ∙ e);
        opened = λ x e. opened_then m x (o.opened x e);
      }

-- ---- what an end puts out ----
-- its role in the run
requests_itself : (net : Net) (x : Name) (h to : Holder) → end_at net x ≡ Some to → Lasts h to → EndOk h → (t : Transport) (o : Option ℕ) → AskOf h.end t o → SaidBy net x h.at t
requests_itself net x h to there l k (Request pair window user node) o a =
    let calls = role_calls h.end.role user node k.speaks a.0 in
    let unasked : h.asked ≡ None = elim k.asked [ inl e ↦ e | inr e ↦ (let bad : Responder ≡ Requester user node = sym e ∙ a.0 in cc) ] in
    (to, there, l.asked ∙ unasked, l.pair ∙ sym a.3, l.at, calls.0, calls.1)
requests_itself net x h to there l k (Accept p own window) o a = tt
requests_itself net x h to there l k (Refuse p) o a = tt
requests_itself net x h to there l k (Disconnect p) o a = tt
requests_itself net x h to there l k (Disconnected p) o a = tt
requests_itself net x h to there l k (Info p tx rx flags text) o a = tt
requests_itself net x h to there l k (InfoAck p rx flags) o a = tt

pub outs_sent : (net : Net) (x : Name) (h to : Holder) (s : SetState) → end_at net x ≡ Some to → Lasts h to → EndOk h → IsCallOf net.sets x.node s.own → IsCallsign s.own.letters s.own.ssid
    → (os : List Out) (i : ℕ) (ss : List SentNote) → Asks h.end os → AllByRecursion (SentOk net) ss → AllByRecursion (SentOk net) (put_sents x i (datagram_to s h.at) os ss)
outs_sent net x h to s there l k own call [] i ss a p = p
outs_sent net x h to s there l k own call (o ∷ os) i ss a p =
    let now : SentOk net (record { who = x; place = i; number = o.1; datagram = datagram_to s h.at o.0 }) = record {
      own = s.own;
      node = own;
      call = call;
      at = h.at;
      to = k.at;
      ttl = s.ttl;
      out = o.0;
      is = refl;
      by = requests_itself net x h to there l k o.0 o.1 a.0;
    } in
    outs_sent net x h to s there l k own call os (suc i) (record { who = x; place = i; number = o.1; datagram = datagram_to s h.at o.0 } ∷ ss) a.1 (now, p)

-- ---- who has asked ----
-- the sending of a copy
pub record Sender (net : Net) (x : Name) (d : List ℕ) : Type 0 where
  pub note : SentNote
  pub who : note.who ≡ x
  pub copy : is_copy d note.datagram ≡ true
  pub ok : SentOk net note

sender_case : (net : Net) (x : Name) (d : List ℕ) (s : SentNote) (b c : Bool) → (same_name s.who x && is_copy d s.datagram) ≡ b → (b || c) ≡ true → SentOk net s → (c ≡ true → Sender net x d) → Sender net x d
sender_case net x d s true c t e k later = let two = and_parts (same_name s.who x) (is_copy d s.datagram) t in record { note = s; who = same_names s.who x two.0; copy = two.1; ok = k }
sender_case net x d s false c t e k later = later e

pub sender_of : (net : Net) (x : Name) (d : List ℕ) (ss : List SentNote) → AllByRecursion (SentOk net) ss → has_sent ss x d ≡ true → Sender net x d
sender_of net x d [] a e = cc
sender_of net x d (s ∷ ss) a e = sender_case net x d s (same_name s.who x && is_copy d s.datagram) (has_sent ss x d) refl e a.0 (sender_of net x d ss a.1)

-- an end whose request this is
pub record Asker (net : Net) (x : Name) (d : List ℕ) (head : DatagramHead) (pair : Pair) : Type 0 where
  pub end : Holder
  pub there : end_at net x ≡ Some end
  pub asked : end.asked ≡ None
  pub pair_is : end.end.pair ≡ pair
  pub first : pair_at 0 (drop 15 d) ≡ pair
  pub own : IsCallOf net.sets x.node head.origin
  pub to : end.at ≡ head.dest

asker_by : (net : Net) (x : Name) (d : List ℕ) (head : DatagramHead) (pair : Pair) (window : ℕ) (user node : Callsign) (s : Sender net x d) → head_at d ≡ Ok head → transport_at (drop 15 d) ≡ Ok (Request pair window user node)
    → drop 15 d ≡ transport_octets s.ok.out → IsRequest s.ok.out → Asker net x d head pair
asker_by net x d head pair window user node s read is carries r =
    let o : SentOk net s.note = s.ok in
    let said : SaidBy net s.note.who o.at (Request r.0 r.1 r.2 r.3) = subst (SaidBy net s.note.who o.at) r.4 o.by in
    let fits : IsTransport o.out = subst IsTransport (sym r.4) (said.5, said.6) in
    let spelled : Spelled s.note.datagram o.out = record { head = record { origin = o.own; dest = o.at; ttl = o.ttl }; is = o.is; origin = o.call; dest = o.to; transport = fits } in
    let reads : Reads d (record { origin = o.own; dest = o.at; ttl = o.ttl }) o.out = copy_reads d s.note.datagram o.out s.copy spelled in
    let heads : Ok head ≡ Ok (record { origin = o.own; dest = o.at; ttl = reads.ttl }) = sym read ∙ reads.as_head in
    let same_head : head ≡ record { origin = o.own; dest = o.at; ttl = reads.ttl } = cc in
    let two : Ok (Request r.0 r.1 r.2 r.3) ≡ Ok (Request pair window user node) = ap (λ t. Ok t) (sym r.4) ∙ sym reads.transport ∙ is in
    let same_pair : r.0 ≡ pair = cc in
    let octets : drop 15 d ≡ transport_octets (Request r.0 r.1 r.2 r.3) = carries ∙ ap transport_octets r.4 in
    record {
      end = said.0;
      there = subst (λ w. end_at net w ≡ Some said.0) s.who said.1;
      asked = said.2;
      pair_is = said.3 ∙ same_pair;
      first = ap (λ os. pair_at 0 os) octets ∙ same_pair;
      own = subst (λ c. IsCallOf net.sets x.node c) (sym (ap (λ (k : DatagramHead). k.origin) same_head)) (subst (λ (w : Name). IsCallOf net.sets w.node o.own) s.who o.node);
      to = said.4 ∙ sym (ap (λ (k : DatagramHead). k.dest) same_head);
    }

pub asker_of : (net : Net) (x : Name) (d : List ℕ) (head : DatagramHead) (pair : Pair) (window : ℕ) (user node : Callsign) → Sender net x d → head_at d ≡ Ok head → transport_at (drop 15 d) ≡ Ok (Request pair window user node)
    → Asker net x d head pair
asker_of net x d head pair window user node s read is =
    let o : SentOk net s.note = s.ok in
    let carries : drop 15 d ≡ transport_octets o.out = copy_carries d s.note.datagram (transport_octets o.out) (record { origin = o.own; dest = o.at; ttl = o.ttl }) s.copy o.is o.call o.to in
    asker_by net x d head pair window user node s read is carries (is_request o.out pair window user node (sym (ap transport_at carries) ∙ is))
