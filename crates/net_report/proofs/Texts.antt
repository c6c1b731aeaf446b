-- Texts that are written in pieces.
use Rattle.std.proofs.Common.{◌≡◌, ◌<◌, ◌≤◌, ◌-◌, ◌++◌, ◌∷◌, [], ◌∙◌, ℕ, suc, List, ap, sym, subst, append_assoc, append-nil, length, take, drop, get_or, drop-cons, arith}
use Rattle.std.proofs.lemmas.List.{take_all}
use Rattle.std.proofs.lemmas.List.Folds.{flat_map-map}
use Rattle.std.specs.Prelude.{Option, codes, flat_map}
use Rattle.std.specs.Fmt.{decimal}
use Rattle.circuit_l4.specs.declared.facts.EndFacts.{EndFacts}
use Rattle.circuit_table.specs.CircuitSets.{facts_at}
use Rattle.circuit_table.specs.Sets.{Holder, end_of}
use Rattle.circuit_verdict.specs.declared.late.Late.{Late}
use Rattle.node_core.specs.Standing.{NodeStands}
use Rattle.node_mail.specs.Lists.{Lists}
use Rattle.net_model.specs.declared.ends.EndRecord.{EndRecord}
use Rattle.net_model.specs.Ends.{ends_of}
use Rattle.net_model.specs.Events.{numbered_of}
use Rattle.net_report.specs.Reporting.{ends_left, text_left}
use Rattle.net_report.specs.Reports.{by_place, nodes_text, report_text, told_text, verdict_line}
use Rattle.net_model.specs.Starting.{Placed}
use Rattle.net_report.specs.ToldLines.{last_text, last_texts}
use Rattle.net_model.specs.Standing.{IsTraceOf, Left, MailStands, MemberStands, MembersStand}
use Rattle.net_model.specs.World.{World}
use Rattle.net_model.specs.declared.members.Member.{Member}

-- the start of the line, the frame, and the line feed
pub frame_line_joined : (text start : List ℕ) (number sender : ℕ) (frame : List ℕ) → start ≡ codes "air " ++ (decimal number ++ (codes " " ++ (decimal sender ++ codes " ")))
    → ((text ++ start) ++ frame) ++ 10 ∷ [] ≡ text ++ (codes "air " ++ (decimal number ++ (codes " " ++ (decimal sender ++ (codes " " ++ (frame ++ 10 ∷ []))))))
frame_line_joined text start number sender frame e =
    let rest = frame ++ 10 ∷ [] in
    let last : (decimal sender ++ codes " ") ++ rest ≡ decimal sender ++ (codes " " ++ rest) = append_assoc (decimal sender) (codes " ") rest in
    let third : (decimal number ++ (codes " " ++ (decimal sender ++ codes " "))) ++ rest ≡ decimal number ++ (codes " " ++ (decimal sender ++ (codes " " ++ rest))) = append_assoc (decimal number) (codes " " ++ (decimal sender ++ codes " ")) rest ∙ ap (λ xs. decimal number ++ (codes " " ++ xs)) last in
    append_assoc (text ++ start) frame (10 ∷ []) ∙ (append_assoc text start rest ∙ ap (λ xs. text ++ xs) (ap (λ s. s ++ rest) e ∙ ap (λ xs. codes "air " ++ xs) third))

-- one end more
ends_on : (number place : ℕ) (ends : List EndRecord) (end : EndRecord) (facts : Option EndFacts) (held : List Holder) (text next all : List ℕ)
    → place < length ends → end ≡ get_or ends place end → facts ≡ facts_at (end_of (suc place) held) → next ≡ text ++ last_text number (suc place) end facts
    → text ++ last_texts number (suc place) (drop place ends) held ≡ all → next ++ last_texts number (suc (suc place)) (drop (suc place) ends) held ≡ all
ends_on number place ends end facts held text next all h is told wrote so_far =
    let line = last_text number (suc place) end facts in
    let rest = last_texts number (suc (suc place)) (drop (suc place) ends) held in
    let here : line ≡ last_text number (suc place) (get_or ends place end) (facts_at (end_of (suc place) held)) =
    ap (λ (x : EndRecord). last_text number (suc place) x facts) is ∙ ap (last_text number (suc place) (get_or ends place end)) told in
    let both : line ++ rest ≡ last_texts number (suc place) (drop place ends) held =
    ap (λ xs. xs ++ rest) here ∙ ap (λ (xs : List EndRecord). last_texts number (suc place) xs held) (sym (drop-cons ends place end h)) in
    ap (λ xs. xs ++ rest) wrote ∙ (append_assoc text line rest ∙ (ap (λ xs. text ++ xs) both ∙ so_far))

pub next_end : (number place id : ℕ) (ends : List EndRecord) (end : EndRecord) (facts : Option EndFacts) (held : List Holder) (text next all : List ℕ)
    → id ≡ suc place → place < length ends → end ≡ get_or ends place end
    → text ++ last_texts number (suc place) (drop place ends) held ≡ all → facts ≡ facts_at (end_of id held) → next ≡ text ++ last_text number id end facts
    → next ++ last_texts number (suc id) (drop id ends) held ≡ all
next_end number place id ends end facts held text next all e h is so_far =
    let P : ℕ → Type 0 =
    λ k. facts ≡ facts_at (end_of k held) → next ≡ text ++ last_text number k end facts → next ++ last_texts number (suc k) (drop k ends) held ≡ all in
    subst P (sym e) (λ told wrote. ends_on number place ends end facts held text next all h is told wrote so_far)

-- the first node with its mail, and then the others
pub kept_joined : {A : Type 0} (of : Placed → Option Lists → List A) (members : List Member) (m : Member) (placed : List Placed) (kept : List (Option Lists)) (text mid new : List A)
    → 1 ≤ length members → m ≡ get_or members 0 m → MembersStand members placed kept
    → ((p : Placed) (o : Option Lists) → m.declared ≡ p.declared → NodeStands m.node p.state → MailStands m.mail o → mid ≡ text ++ of p o)
    → ((ps : List Placed) (os : List (Option Lists)) → MembersStand (take (length members - 1) (drop 1 members)) ps os → new ≡ mid ++ by_place of ps os)
    → new ≡ text ++ by_place of placed kept
kept_joined of [] m placed kept text mid new some first stand one rest = absurd (omega (arith, some))
kept_joined of (x ∷ xs) m [] kept text mid new some first stand one rest = absurd stand
kept_joined of (x ∷ xs) m (p ∷ ps) [] text mid new some first stand one rest = absurd stand
kept_joined of (x ∷ xs) m (p ∷ ps) (o ∷ os) text mid new some first stand one rest =
    let all : take (length (x ∷ xs) - 1) xs ≡ xs = take_all _ xs (omega arith) in
    let here : MemberStands m p o = subst (λ (k : Member). MemberStands k p o) (sym first) stand.0 in
    rest ps os (subst (λ (ms : List Member). MembersStand ms ps os) (sym all) stand.1)
    ∙ (ap (λ t. t ++ by_place of ps os) (one p o here.declared here.node here.mail) ∙ append_assoc text (of p o) (by_place of ps os))

-- the same of the nodes alone
pub nodes_joined : {A : Type 0} (of : Placed → List A) (members : List Member) (m : Member) (placed : List Placed) (kept : List (Option Lists)) (text mid new : List A)
    → 1 ≤ length members → m ≡ get_or members 0 m → MembersStand members placed kept
    → ((p : Placed) → m.declared ≡ p.declared → NodeStands m.node p.state → mid ≡ text ++ of p)
    → ((ps : List Placed) (os : List (Option Lists)) → MembersStand (take (length members - 1) (drop 1 members)) ps os → new ≡ mid ++ flat_map of ps)
    → new ≡ text ++ flat_map of placed
nodes_joined of [] m placed kept text mid new some first stand one rest = absurd (omega (arith, some))
nodes_joined of (x ∷ xs) m [] kept text mid new some first stand one rest = absurd stand
nodes_joined of (x ∷ xs) m (p ∷ ps) [] text mid new some first stand one rest = absurd stand
nodes_joined of (x ∷ xs) m (p ∷ ps) (o ∷ os) text mid new some first stand one rest =
    let all : take (length (x ∷ xs) - 1) xs ≡ xs = take_all _ xs (omega arith) in
    let here : MemberStands m p o = subst (λ (k : Member). MemberStands k p o) (sym first) stand.0 in
    rest ps os (subst (λ (ms : List Member). MembersStand ms ps os) (sym all) stand.1)
    ∙ (ap (λ t. t ++ flat_map of ps) (one p here.declared here.node) ∙ append_assoc text (of p) (flat_map of ps))

-- of none nothing is written
pub none_placed : {A : Type 0} (of : Placed → Option Lists → List A) (members : List Member) (placed : List Placed) (kept : List (Option Lists)) (text : List A) → length members ≡ 0
    → MembersStand members placed kept → text ≡ text ++ by_place of placed kept
none_placed of [] [] [] text none stand = sym (append-nil text)
none_placed of [] [] (o ∷ os) text none stand = absurd stand
none_placed of [] (p ∷ ps) kept text none stand = absurd stand
none_placed of (m ∷ ms) placed kept text none stand = absurd (omega (arith, none))

pub none_added : {A : Type 0} (of : Placed → List A) (members : List Member) (placed : List Placed) (kept : List (Option Lists)) (text : List A) → length members ≡ 0
    → MembersStand members placed kept → text ≡ text ++ flat_map of placed
none_added of [] [] kept text none stand = sym (append-nil text)
none_added of [] (p ∷ ps) kept text none stand = absurd stand
none_added of (m ∷ ms) placed kept text none stand = absurd (omega (arith, none))

-- ---- the report as a whole

pub ends_same : (left : Left) (w : World) → IsTraceOf left w → ends_left left ≡ (λ node. ends_of node w.told)
ends_same left w trace = λ i node. trace.ends node i

told_same : (left : Left) (w : World) → IsTraceOf left w → flat_map (text_left left) left.events ≡ flat_map (told_text w.air (λ node. ends_of node w.told)) w.told
told_same left w trace =
    sym (flat_map-map (told_text left.air (ends_left left)) numbered_of left.events)
    ∙ (ap (flat_map (told_text left.air (ends_left left))) trace.told
    ∙ (ap (λ air. flat_map (told_text air (ends_left left)) w.told) trace.air ∙ ap (λ ends. flat_map (told_text w.air ends) w.told) (ends_same left w trace)))

pub report_joined : (left : Left) (w : World) (late : Option Late) (empty first second third : List ℕ) → IsTraceOf left w → empty ≡ []
    → first ≡ empty ++ flat_map (text_left left) left.events → second ≡ first ++ nodes_text (ends_left left) w.nodes w.mails → third ≡ second ++ verdict_line late
    → third ≡ report_text w late
report_joined left w late empty first second third trace none events nodes verdict =
    let told : first ≡ flat_map (told_text w.air (λ node. ends_of node w.told)) w.told = events ∙ (ap (λ t. t ++ flat_map (text_left left) left.events) none ∙ told_same left w trace) in
    let last : nodes_text (ends_left left) w.nodes w.mails ≡ nodes_text (λ node. ends_of node w.told) w.nodes w.mails = ap (λ ends. nodes_text ends w.nodes w.mails) (ends_same left w trace) in
    verdict ∙ ap (λ t. t ++ verdict_line late) (nodes ∙ (ap (λ t. t ++ nodes_text (ends_left left) w.nodes w.mails) told ∙ ap (λ t. flat_map (told_text w.air (λ node. ends_of node w.told)) w.told ++ t) last))
