-- Pieces that go over a link.
use Rattle.std.proofs.Common.{◌≡◌, ◌∙◌, ◌≤◌, ◌<◌, ◌+◌, ◌-◌, ◌⊎◌, ℕ, refl, sym, ap, subst, arith, List, [], ◌∷◌, ◌++◌, length, take, inl, inr}
use Rattle.std.specs.Prelude.{Bool, true, false, ◌&&◌, ◌==◌, not, is_ok, min, max, nat_lt, if◌then◌else◌, Option, Some, None, Result, Ok, Err}
use Rattle.std.specs.List.{AllByRecursion}
use Rattle.std.proofs.Math.Bool.{and-false}
use Rattle.std.proofs.Math.Seq.{take-append-add}
use Rattle.std.proofs.lemmas.Bool.Decides.{nat_tests}
use Rattle.ax_address.specs.Callsign.{Callsign}
use Rattle.ax_link.specs.State as link
use Rattle.link_table.specs.Frames.{plain_text, segmented}
use Rattle.link_table.specs.Table.{Linked, Table, link_with}
use Rattle.link_table.specs.Texts as texts
use Rattle.link_table.specs.declared.text_refusal.TextRefusal.{TextRefusal}
use Rattle.link_table.specs.declared.text_refusal.TextRefusal.TheVariants.{NoLink, TooLong, Full}
use Rattle.link_table.proofs.Sending.{length_cut, length_payloads}
use Rattle.ax_segment.specs.Segments.{segments_of}
use Rattle.node_core.specs.Acts as acts
use Rattle.node_core.specs.Acts.{Answered, SendText}
use Rattle.node_core.specs.Inputs.{moment}
use Rattle.node_model.specs.Links as circuits
use Rattle.node_model.specs.States.{NodeState, State}
use Rattle.radio_base.specs.declared.moment.Moment.{Moment}
use Rattle.station_members.specs.Looks.{rules_at}
use Rattle.station_members.specs.declared.config.MemberRules.{MemberRules}
use Rattle.station_places.specs.Giving as giving
use Rattle.station_places.specs.Giving.{Sent, behind, has_taken, none_sent, octets_of, paclen, paclen_by, pieces, send, send_each, send_pieces}
use Rattle.station_places.specs.Laws.{AreTaken, EndsWith, IsHost, IsPiece, LinksAreGiven, PiecesAreTaken, joined}
use Rattle.station_places.specs.Links as links
use Rattle.station_places.specs.Looks.{link_room}
use Rattle.station_places.specs.Sides.{SidesState, node_at}
use Rattle.station_places.proofs.Asking.{answered_at, where_hosted}
use Rattle.station_places.proofs.Pieces.{each_first, joined_pieces}

-- ---- what goes of pieces

record Goes (P : List ℕ → Type 0) (now : Moment) (member : ℕ) (peer : Callsign) (ps : List (List ℕ)) (sent : Sent) (s : SidesState) : Type 0 where
  octets : joined sent.pieces ≡ take (octets_of sent.pieces) (joined ps)
  each : AllByRecursion P sent.pieces
  taken : AreTaken now member peer sent.pieces s
  after : EndsWith now member peer sent s

goes : (P : List ℕ → Type 0) (now : Moment) (member : ℕ) (peer : Callsign) (ps : List (List ℕ)) (s : SidesState) → AllByRecursion P ps
    → Goes P now member peer ps (send_each now member peer ps s) s
goes P now member peer [] s all = record { octets = refl; each = tt; taken = tt; after = inl refl }
goes P now member peer (p ∷ ps) s all = by (nat_lt 0 (link_room member peer s)) (has_taken now member peer p s) refl (goes P now member peer ps (send now member peer p s) all.1)
  where
    next : SidesState
    next = send now member peer p s

    by : (room taken : Bool) → has_taken now member peer p s ≡ taken → Goes P now member peer ps (send_each now member peer ps next) next
        → Goes P now member peer (p ∷ ps) (if room then (if taken then behind p (send_each now member peer ps next) else none_sent next) else none_sent s) s
    by false taken e rest = record { octets = refl; each = tt; taken = tt; after = inl refl }
    by true false e rest = record { octets = refl; each = tt; taken = tt; after = inr (p, (e, refl)) }
    by true true e rest = record {
      octets = ap (λ (xs : List ℕ). p ++ xs) rest.octets ∙ sym (take-append-add p (joined ps) (octets_of (send_each now member peer ps next).pieces));
      each = (all.0, rest.each);
      taken = (e, rest.taken);
      after = rest.after;
    }

some_by : (r : Option MemberRules) → 1 ≤ paclen_by r
some_by None = omega arith
some_by (Some rules) = omega arith

pub some_paclen : (member : ℕ) (s : SidesState) → 1 ≤ paclen member s
some_paclen member s = some_by (rules_at member s.members)

pub links_are_given : LinksAreGiven
unfolding send_pieces
links_are_given member peer text now s =
    let size : ℕ = paclen member s in
    let g = goes (IsPiece size) now member peer (pieces size text) s (each_first (length text) size text (some_paclen member s)) in
    record {
      pieces = (send_pieces now member peer text s).pieces;
      octets = g.octets ∙ ap (take (octets_of (send_pieces now member peer text s).pieces)) (joined_pieces size text (some_paclen member s));
      each = g.each;
      taken = g.taken;
      after = g.after;
    }

-- ---- which pieces a link takes

small : (size : ℕ) (text : List ℕ) → 1 ≤ length text → length text ≤ 256 → length (texts.payloads_of size text) ≡ 1
small size text some few =
    let short : nat_lt 256 (length text) ≡ false = grind (arith, nat_tests, few) in
    let plain : texts.in_segments size text ≡ false = ap (λ b. (size == 128) && b) short ∙ and-false (size == 128) in
    let one : length (texts.payloads plain_text (texts.cut text)) ≡ 1 =
    let l = length_payloads plain_text (texts.cut text) in
    let c = length_cut text in
    omega (arith, l, c, some, few) in
    ap (λ b. length (if b then texts.payloads segmented (segments_of plain_text text) else texts.payloads plain_text (texts.cut text))) plain ∙ one

abbrev answer_for : Bool → Bool → Bool → Result (Unit {0}) TextRefusal
answer_for takes long full = if not takes then Err NoLink else if long then Err TooLong else if full then Err Full else Ok tt

answers : (takes long full : Bool) → takes ≡ true → long ≡ false → full ≡ false → answer_for takes long full ≡ Ok tt
answers false long full a b c = absurd (cc a)
answers true true full a b c = absurd (cc b)
answers true false true a b c = absurd (cc c)
answers true false false a b c = refl

with_room : (s : link.State) → 0 < texts.room_of s → texts.takes_texts s ≡ true
with_room s = by (texts.takes_texts s)
  where
    by : (b : Bool) → 0 < (if b then min (s.acked + 128 - length s.given) (link.count_end - length s.given) else 0) → b ≡ true
    by true room = refl
    by false room = absurd (omega (arith, room))

link_answers : (text : List ℕ) (s : link.State) → 1 ≤ length text → length text ≤ 256 → 0 < texts.room_of s → texts.answer_of text s ≡ Ok tt
link_answers text s some few room =
    let one = small s.rules.size text some few in
    let long : nat_lt texts.most_text (length text) ≡ false = grind (arith, nat_tests, few) in
    let fits : nat_lt (texts.room_of s) (length (texts.payloads_of s.rules.size text)) ≡ false = grind (arith, nat_tests, one, room) in
    answers (texts.takes_texts s) (nat_lt texts.most_text (length text)) (nat_lt (texts.room_of s) (length (texts.payloads_of s.rules.size text))) (with_room s room) long fits

link_by : (text : List ℕ) (o : Option Linked) → 1 ≤ length text → length text ≤ 256 → 0 < (elim o as (λ x. ℕ) [ None ↦ 0 | Some l ↦ texts.room_of l.link ])
    → (elim o as (λ x. Result (Unit {0}) TextRefusal) [ None ↦ Err NoLink | Some l ↦ texts.answer_of text l.link ]) ≡ Ok tt
link_by text None some few room = absurd (omega (arith, room))
link_by text (Some l) some few room = link_answers text l.link some few room

table_answers : (peer : Callsign) (text : List ℕ) (t : Table) → IsPiece 256 text → 0 < texts.room peer t → circuits.text_answer peer text t ≡ Ok tt
unfolding circuits.text_answer
table_answers peer text t piece room = link_by text (link_with peer t.links) piece.0 piece.1 room

pub pieces_are_taken : PiecesAreTaken
pieces_are_taken member peer piece now s n here host is room =
    let m : ℕ = moment now.0 in
    let there : 0 < links.room peer (Some n) = subst (λ (o : Option NodeState). 0 < links.room peer o) here room in
    let answer = answered_at now member (SendText peer piece) s n here
    ∙ (ap (λ (a : Answered). a.answer) (where_hosted (acts.send_text m peer piece n.station) n host)
    ∙ ap (λ r. (acts.send_by r m peer piece n.station).answer) (table_answers peer piece n.station.links is there)) in
    ap is_ok answer
