-- Notices that are entered one by one.
use Rattle.std.proofs.Common.{◌≡◌, ◌+◌, ◌++◌, ◌∙◌, ℕ, refl, sym, ap, arith, append_assoc, append-nil, drop, List, [], ◌∷◌, length, length-append, map, slice_get}
use Rattle.std.specs.Prelude.{false, nat_lt, not, is_some, ◌==◌, Some, None}
use Rattle.std.proofs.lemmas.Bool.Decides.{nat_tests}
use Rattle.std.proofs.lemmas.List.{length-map}
use Rattle.ax_address.specs.Callsign.{Callsign}
use Rattle.ax_link.specs.declared.notice.LinkNotice.{LinkNotice}
use Rattle.link_table.specs.Calls as calls
use Rattle.node_core.specs.declared.station.Station.{Station}
use Rattle.node_model.specs.Links.{all_noticed}
use Rattle.node_model.specs.Serving.{enter_notices, has_some}
use Rattle.node_core.specs.Standing.{Holds, entry_of}
use Rattle.node_model.specs.Sessions.{Session, hear_link, hear_links}
use Rattle.node_model.specs.States.{Entry, Of_link, State, at_links, at_sessions, enter}

first_entry : (es : List Entry) (peer : Callsign) (note : LinkNotice) (xs : List (Callsign × LinkNotice)) → Some (peer, note) ≡ slice_get xs 0
    → es ++ map (λ (x : Callsign × LinkNotice). Of_link x.0 x.1) xs ≡ (es ++ Of_link peer note ∷ []) ++ map (λ (x : Callsign × LinkNotice). Of_link x.0 x.1) (drop 1 xs)
first_entry es peer note [] p = absurd (cc p)
first_entry es peer note (x ∷ xs) p =
    let same : (peer, note) ≡ x = cc p in
    let entry : Of_link peer note ≡ Of_link x.0 x.1 = ap (λ (y : Callsign × LinkNotice). Of_link y.0 y.1) same in
    rw entry (sym (append_assoc es (Of_link x.0 x.1 ∷ []) (map (λ (y : Callsign × LinkNotice). Of_link y.0 y.1) xs)))

first_heard : (ss : List Session) (peer : Callsign) (note : LinkNotice) (xs : List (Callsign × LinkNotice)) → Some (peer, note) ≡ slice_get xs 0
    → hear_links xs ss ≡ hear_links (drop 1 xs) (hear_link peer note ss)
first_heard ss peer note [] p = absurd (cc p)
first_heard ss peer note (x ∷ xs) p =
    let same : (peer, note) ≡ x = cc p in
    ap (λ (y : Callsign × LinkNotice). hear_links xs (hear_link y.0 y.1 ss)) (sym same)

-- the first notice may be entered before the others
pub notice_moves : (peer : Callsign) (note : LinkNotice) (m : State) → Some (peer, note) ≡ slice_get m.links.pending.notices 0
    → enter_notices m ≡ enter_notices (enter (Of_link peer note ∷ []) (at_sessions (hear_link peer note) (at_links calls.notice m)))
notice_moves peer note m p =
    ap (λ (es : List Entry). record m { entries = es; sessions = hear_links m.links.pending.notices m.sessions; links = all_noticed m.links })
    (first_entry m.entries peer note m.links.pending.notices p)
    ∙ ap (λ (ss : List Session). record (enter_notices (enter (Of_link peer note ∷ []) (at_links calls.notice m))) { sessions = ss })
    (first_heard m.sessions peer note m.links.pending.notices p)

no_notice : (xs : List (Callsign × LinkNotice)) → None ≡ slice_get xs 0 → xs ≡ []
no_notice [] p = refl
no_notice (x ∷ xs) p = absurd (cc p)

pub none_waits : (xs : List (Callsign × LinkNotice)) → false ≡ is_some (slice_get xs 0) → None ≡ slice_get xs 0
none_waits [] e = refl
none_waits (x ∷ xs) e = absurd (cc e)

pub nothing_noticed : (xs : List (Callsign × LinkNotice)) → None ≡ slice_get xs 0 → false ≡ has_some xs
nothing_noticed [] e = refl
nothing_noticed (x ∷ xs) e = absurd (cc e)

pub none_to_enter : (m : State) → None ≡ slice_get m.links.pending.notices 0 → enter_notices m ≡ m
none_to_enter m p =
    let e = no_notice m.links.pending.notices p in
    let entries : m.entries ++ map (λ (x : Callsign × LinkNotice). Of_link x.0 x.1) m.links.pending.notices ≡ m.entries =
    ap (λ (xs : List (Callsign × LinkNotice)). m.entries ++ map (λ (x : Callsign × LinkNotice). Of_link x.0 x.1) xs) e ∙ append-nil m.entries in
    ap (λ (es : List Entry). record m { entries = es; sessions = hear_links m.links.pending.notices m.sessions; links = all_noticed m.links }) entries
    ∙ (ap (λ (xs : List (Callsign × LinkNotice)). record m { sessions = hear_links xs m.sessions; links = all_noticed m.links }) e
    ∙ ap (λ (xs : List (Callsign × LinkNotice)). record m { links = record m.links { pending = record m.links.pending { notices = xs } } }) (sym e))

pub none_fetched : (m : State) → None ≡ slice_get m.links.pending.notices 0 → at_links calls.notice m ≡ m
none_fetched m p =
    let e = no_notice m.links.pending.notices p in
    ap (λ (xs : List (Callsign × LinkNotice)). record m { links = record m.links { pending = record m.links.pending { notices = xs } } }) (ap (drop 1) e ∙ sym e)

lt_more : (a c : ℕ) → nat_lt a (a + c) ≡ nat_lt 0 c
lt_more a c = grind (arith, nat_tests)

-- whether there were more entries then, by what the code keeps
pub told_some : (old new : Station) (n : State) (a b : ℕ) → Holds old n → Holds new (enter_notices n) → a ≡ length old.entries.items → b ≡ length new.entries.items
    → nat_lt a b ≡ has_some n.links.pending.notices
told_some old new n a b h g e f =
    let before : a ≡ length n.entries = e ∙ (sym (length-map old.entries.items entry_of) ∙ ap length h.queues.entries) in
    let grown : b ≡ length (enter_notices n).entries = f ∙ (sym (length-map new.entries.items entry_of) ∙ ap length g.queues.entries) in
    let more : length (enter_notices n).entries ≡ length n.entries + length n.links.pending.notices =
    omega (arith, length-append n.entries (map (λ (x : Callsign × LinkNotice). Of_link x.0 x.1) n.links.pending.notices), length-map n.links.pending.notices (λ (x : Callsign × LinkNotice). Of_link x.0 x.1)) in
    rw (before, grown ∙ more) (lt_more (length n.entries) (length n.links.pending.notices))

pub told_by_length : (old new : Station) (n m : State) (a b : ℕ) → Holds old n → Holds new m → a ≡ length old.entries.items → b ≡ length new.entries.items
    → nat_lt a b ≡ nat_lt (length n.entries) (length m.entries)
told_by_length old new n m a b h g e f =
    let before : a ≡ length n.entries = e ∙ (sym (length-map old.entries.items entry_of) ∙ ap length h.queues.entries) in
    let grown : b ≡ length m.entries = f ∙ (sym (length-map new.entries.items entry_of) ∙ ap length g.queues.entries) in
    rw (before, grown) refl

-- whether there is something to tell, by how much there is
first_is : (es : List Entry) → not (length es == 0) ≡ is_some (slice_get es 0)
first_is [] = refl
first_is (e ∷ es) = grind (arith, nat_tests)

pub some_entries : (s : Station) (n : State) (many : ℕ) → Holds s n → many ≡ length s.entries.items → not (many == 0) ≡ is_some (slice_get n.entries 0)
some_entries s n many h e =
    let same : many ≡ length n.entries = e ∙ (sym (length-map s.entries.items entry_of) ∙ ap length h.queues.entries) in
    ap (λ k. not (k == 0)) same ∙ first_is n.entries
