-- What is held, and what contracts see of it.
use Rattle.std.proofs.Common.{◌≡◌, ◌==◌, ℕ, Bool, false, List, [], ◌∷◌, Option, Some, None, ap, sym, ◌∙◌, subst}
use Rattle.std.specs.Prelude.{Result, Ok, Err, OnOk, IfOk, is_err}
use Rattle.std.specs.Map.{lookup}
use Rattle.arrayvec.specs.ArrayVec.{ArrayVec}
use Rattle.ax_address.specs.Callsign.{Callsign, same_call}
use Rattle.ax_address.specs.declared.address.Address.{Address}
use Rattle.ax_link.specs.State.{State}
use Rattle.l3_datagram.specs.Datagrams.{Datagram, Offer}
use Rattle.l3_datagram.specs.declared.carrier.Offered.{Offered}
use Rattle.link_table.specs.declared.entry.LinkEntry.{LinkEntry}
use Rattle.link_table.specs.Calls.{is_128, is_called, link_path, offer}
use Rattle.link_table.proofs.Links.{Found, found, none_found}
use Rattle.link_table.specs.declared.held_links.HeldLinks.{HeldLinks}
use Rattle.link_table.specs.Standing.{CoreGoes, CoreStands, LentStands, LinksStand, Made, TableGoes, TableStands, shown, size_of}
use Rattle.link_table.specs.Table.{Linked, Table, link_with}

pub to_table : (c : HeldLinks) (spent : Bool) (t : Table) → spent ≡ false → CoreStands c t → TableStands (shown c spent) t
to_table c spent t unspent s =
    record {
      spent = unspent;
      own = s.own;
      by_links = s.by_links;
      size = s.size;
      config = s.config;
      links = s.links;
      paths = s.paths;
      waiting = s.pending.waiting;
      lost = s.pending.lost;
      notices = s.pending.notices;
      frames = s.pending.frames;
    }

pub to_core : (c : HeldLinks) (spent : Bool) (t : Table) → TableStands (shown c spent) t → CoreStands c t
to_core c spent t s =
    record {
      own = s.own;
      by_links = s.by_links;
      size = s.size;
      config = s.config;
      links = s.links;
      paths = s.paths;
      pending = record { waiting = s.waiting; lost = s.lost; notices = s.notices; frames = s.frames };
    }

-- what the links do, the table does, where memory didn't run out
pub goes_as : (part : Table → Table) (old new : HeldLinks) (before spent : Bool) → spent ≡ false → CoreGoes part old new → TableGoes part (shown old before) (shown new spent)
goes_as part old new before spent unspent goes t s = to_table new spent (part t) unspent (goes t (to_core old before t s))

-- ---- the same by what a call of the links answers, which tells whether memory ran out

pub goes_if_ok : {T E : Type 0} (r : Result T E) (part : Table → Table) (old new : HeldLinks) (before spent : Bool) → spent ≡ is_err r → OnOk r (CoreGoes part old new) →
    OnOk r (TableGoes part (shown old before) (shown new spent))
goes_if_ok (Ok x) part old new before spent told goes = goes_as part old new before spent told goes
goes_if_ok (Err e) part old new before spent told goes = tt

pub offers_if_ok : {E : Type 0} (r : Result Offered E) (to : Callsign) (d : Datagram) (now : ℕ) (old new : HeldLinks) (before spent : Bool) → spent ≡ is_err r →
    IfOk r (λ answer. (t : Table) → CoreStands old t → (answer ≡ (offer to d now t).answer) × CoreStands new (offer to d now t).table) →
    IfOk r (λ answer. Made (shown old before) (Offer to d now answer ∷ []) (shown new spent))
offers_if_ok (Ok answer) to d now old new before spent told offers = λ t s.
    let x = offers t (to_core old before t s) in
    ((x.0, tt), to_table new spent (offer to d now t).table told x.1)
offers_if_ok (Err e) to d now old new before spent told offers = tt

-- ---- what is lent, by what the map has

pub lent : (own peer : Callsign) (es : List (Callsign × LinkEntry)) (ls : List Linked) (e : LinkEntry) → LinksStand own es ls → lookup (same_call peer) es ≡ Some e →
    LentStands (Some e.link) (link_with peer ls)
lent own peer es ls e s q =
    let f : Found own peer e ls = found own peer es ls e s q in
    subst (λ x. LentStands (Some e.link) x) (sym f.with) f.stands.link

pub lent_none : (own peer : Callsign) (es : List (Callsign × LinkEntry)) (ls : List Linked) → LinksStand own es ls → lookup (same_call peer) es ≡ None → LentStands None (link_with peer ls)
lent_none own peer es ls s q = subst (λ x. LentStands None x) (sym (none_found own peer es ls s q)) tt

pub extended_is : (own peer : Callsign) (es : List (Callsign × LinkEntry)) (t : Table) (e : LinkEntry) → LinksStand own es t.links → lookup (same_call peer) es ≡ Some e →
    (size_of e.link == 128) ≡ is_128 peer t
extended_is own peer es t e s q =
    let f : Found own peer e t.links = found own peer es t.links e s q in
    let size : f.link.link.rules.size ≡ size_of e.link = ap (λ (z : State). z.rules.size) f.stands.link.keeps.is in
    sym (ap (λ z. elim z as (λ x. Bool) [ None ↦ false | Some l ↦ l.link.rules.size == 128 ]) f.with ∙ ap (λ n. n == 128) size)

pub extended_none : (own peer : Callsign) (es : List (Callsign × LinkEntry)) (t : Table) → LinksStand own es t.links → lookup (same_call peer) es ≡ None → false ≡ is_128 peer t
extended_none own peer es t s q = sym (ap (λ z. elim z as (λ x. Bool) [ None ↦ false | Some l ↦ l.link.rules.size == 128 ]) (none_found own peer es t.links s q))

-- who set a link up

pub called_is : (c : HeldLinks) (peer : Callsign) (e : LinkEntry) → lookup (same_call peer) c.links.entries ≡ Some e → (t : Table) → CoreStands c t → e.called ≡ is_called peer t
called_is c peer e q t s =
    let f : Found c.own peer e t.links = found c.own peer c.links.entries t.links e s.links q in
    sym (ap (λ z. elim z as (λ x. Bool) [ None ↦ false | Some l ↦ l.called ]) f.with ∙ f.stands.called)

pub called_none : (c : HeldLinks) (peer : Callsign) → lookup (same_call peer) c.links.entries ≡ None → (t : Table) → CoreStands c t → false ≡ is_called peer t
called_none c peer q t s = sym (ap (λ z. elim z as (λ x. Bool) [ None ↦ false | Some l ↦ l.called ]) (none_found c.own peer c.links.entries t.links s.links q))

-- and over what it goes

pub path_is : (c : HeldLinks) (peer : Callsign) (e : LinkEntry) → lookup (same_call peer) c.links.entries ≡ Some e → (t : Table) → CoreStands c t → Some e.route.path ≡ link_path peer t
path_is c peer e q t s =
    let f : Found c.own peer e t.links = found c.own peer c.links.entries t.links e s.links q in
    sym (ap (λ z. elim z as (λ x. Option (ArrayVec Address)) [ None ↦ None | Some l ↦ Some l.path ]) f.with ∙ ap Some f.stands.path)

pub path_none : (c : HeldLinks) (peer : Callsign) → lookup (same_call peer) c.links.entries ≡ None → (t : Table) → CoreStands c t → None ≡ link_path peer t
path_none c peer q t s = sym (ap (λ z. elim z as (λ x. Option (ArrayVec Address)) [ None ↦ None | Some l ↦ Some l.path ]) (none_found c.own peer c.links.entries t.links s.links q))
