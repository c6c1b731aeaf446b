use Rattle.std.proofs.Common.{◌≡◌, ◌<◌, ◌∙◌, ap, arith, length, ◌-◌, get_or}
use Rattle.std.specs.Vec.{with_items}
use Rattle.std.proofs.lemmas.List.{with_items_is}
use Rattle.net_model.specs.declared.outcome.Outcome.TheVariants.{Lost}
use Rattle.net_model.specs.declared.end_datagrams.LostEnd.{LostEnd}
use Rattle.net_model.specs.declared.mails.Offer.{Offer}
use Rattle.net_model.specs.Ends.{note_entry, with_offered, with_outcome}
use Rattle.node_core.specs.declared.entry.NodeEntry.{NodeEntry}
use Rattle.node_core.specs.Standing.{entry_of}
use Rattle.net_model.proofs.Noting.{noted}
use Rattle.net_model.proofs.ends.note_in.Goals as goal

pub returns-in_ok-note_entry-in-Entry : goal.returns-in_ok-note_entry-in-Entry
returns-in_ok-note_entry-in-Entry c =
    let at = c.in-Entry.node in
    let lists = c.args.lists.now in
    let h : at < length lists = omega (arith, c.requires) in
    rw c.in-Entry.is (λ node. noted lists at node c.note_entry.new.made c.index-lists-node.result (note_entry (entry_of c.in-Entry.entry.value)) h
    (c.in_ok-note_entry-in-Entry.ensures ∙ ap (λ (e : NodeEntry). note_entry (entry_of e) (get_or lists at c.index-lists-node.result).items) c.deref.ensures))

pub returns-in-Lost : goal.returns-in-Lost
returns-in-Lost c =
    let at = c.in-Lost.node in
    let lists = c.args.lists.now in
    let h : at < length lists = omega (arith, c.requires) in
    let old = get_or lists at c.index-lists-node-in-Lost.result in
    let same : length c.set_outcome.new.made ≡ old.len = c.set_outcome.auto.made ∙ c.deref_mut.ensures.len in
    rw c.in-Lost.is
    (λ node. noted lists at node (with_items old c.set_outcome.new.made) c.index-lists-node-in-Lost.result (with_outcome (Lost c.in-Lost.end.value.facts) (c.in-Lost.end.value.id - 1)) h
    (with_items_is old c.set_outcome.new.made same ∙ (c.set_outcome.ensures ∙ (ap (λ (l : LostEnd). with_outcome (Lost l.facts) (l.id - 1) c.deref_mut.result.now) c.deref-in-Lost.ensures ∙ ap (with_outcome (Lost c.in-Lost.end.value.facts) (c.in-Lost.end.value.id - 1)) c.deref_mut.ensures.value))))

pub returns-in-Offered : goal.returns-in-Offered
returns-in-Offered c =
    let at = c.in-Offered.node in
    let lists = c.args.lists.now in
    let h : at < length lists = omega (arith, c.requires) in
    let old = get_or lists at c.index-lists-node-in-Offered.result in
    let same : length c.set_offered.new.made ≡ old.len = c.set_offered.auto.made ∙ c.deref_mut-in-Offered.ensures.len in
    rw c.in-Offered.is
    (λ node. noted lists at node (with_items old c.set_offered.new.made) c.index-lists-node-in-Offered.result (with_offered c.in-Offered.offer.value.number (c.in-Offered.offer.value.id - 1)) h
    (with_items_is old c.set_offered.new.made same ∙ (c.set_offered.ensures ∙ (ap (λ (o : Offer). with_offered o.number (o.id - 1) c.deref_mut-in-Offered.result.now) c.deref-in-Offered.ensures ∙ ap (with_offered c.in-Offered.offer.value.number (c.in-Offered.offer.value.id - 1)) c.deref_mut-in-Offered.ensures.value))))
