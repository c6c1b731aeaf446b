use Rattle.std.proofs.Common.{ap, sym, refl}
use Rattle.link_table.proofs.Links.{drained_at}
use Rattle.link_table.proofs.LinkOffers.{offer_at, offer_at_none, rests_set, unchanged}
use Rattle.link_table.proofs.held_links.HeldLinks.send.Goals as goal

pub send-requires : goal.send-requires
send-requires c = record { drained = drained_at c.args.to.now c.args.self.now.links.entries c.in-Some.entry.now c.requires.drained (sym c.in-Some.ensures.value) }

pub returns-in_ok-offered-in-Some-clause-rests : goal.returns-in_ok-offered-in-Some-clause-rests
returns-in_ok-offered-in-Some-clause-rests c =
    rests_set c.args.self.now _ c.args.to.now c.send.new.self c.requires c.in_ok-offered-in-Some.ensures.drained (c.get_mut.follows.holds c.send.new.self).0

pub returns-in_ok-offered-in-Some-clause-offers : goal.returns-in_ok-offered-in-Some-clause-offers
returns-in_ok-offered-in-Some-clause-offers c = λ t s.
    offer_at c.args.self.now _ c.args.to.now c.in-Some.entry.now c.send.new.self c.args.datagram.now c.args.now.0 c.in_ok-offered-in-Some.offered
    (sym c.in-Some.ensures.value) c.in_ok-offered-in-Some.ensures.same (rw c.pack-payload.ensures at c.in_ok-offered-in-Some.ensures.offers)
    refl refl refl (record { own = refl; by_links = refl; modulus = refl; config = refl; paths = refl }) (c.get_mut.follows.holds c.send.new.self).0 t s

pub returns-in-None-clause-offers : goal.returns-in-None-clause-offers
returns-in-None-clause-offers c = λ t s.
    offer_at_none c.args.self.now _ c.args.to.now c.args.datagram.now c.args.now.0 (sym c.in-None.ensures.value)
    (unchanged c.args.self.now _ (record { own = refl; by_links = refl; modulus = refl; config = refl; paths = refl }) (ap (λ m. m.entries) c.get_mut.follows.holds-at-none) refl) t s
