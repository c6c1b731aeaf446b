use Rattle.std.proofs.Common.{ap, sym, refl}
use Rattle.ax_link.specs.Table as table
use Rattle.link_table.specs.Works as works
use Rattle.link_table.proofs.Links.{at_no_link, drained_at}
use Rattle.link_table.proofs.LinkOffers.{quiet_at, rests_set, set_up_stays}
use Rattle.link_table.proofs.held_links.HeldLinks.set_up_link.Goals as goal

pub set_up-requires : goal.set_up-requires
set_up-requires c = record { drained = drained_at c.args.to.now c.args.self.now.links.entries c.in-Some.entry.now c.requires.drained (sym c.in-Some.ensures.value) }

pub returns-in_ok-set_up-in-Some-clause-rests : goal.returns-in_ok-set_up-in-Some-clause-rests
returns-in_ok-set_up-in-Some-clause-rests c =
    rests_set c.args.self.now _ c.args.to.now c.set_up.new.self c.requires c.in_ok-set_up-in-Some.ensures.drained (c.get_mut.follows.holds c.set_up.new.self).0

pub returns-in_ok-set_up-in-Some-clause-goes : goal.returns-in_ok-set_up-in-Some-clause-goes
returns-in_ok-set_up-in-Some-clause-goes c = λ t s.
    quiet_at c.args.self.now _ c.args.to.now c.in-Some.entry.now c.set_up.new.self table.Set_up c.args.now.0 (sym c.in-Some.ensures.value) c.in_ok-set_up-in-Some.ensures.same c.in_ok-set_up-in-Some.ensures.goes
    refl refl refl (record { own = refl; by_links = refl; modulus = refl; config = refl; paths = refl }) (c.get_mut.follows.holds c.set_up.new.self).0 t s (λ l q. set_up_stays c.args.now.0 l.link)

pub returns-in-None-clause-goes : goal.returns-in-None-clause-goes
returns-in-None-clause-goes c = λ t s.
    at_no_link c.args.self.now _ c.args.to.now (λ own. works.step_link own table.Set_up c.args.now.0) (sym c.in-None.ensures.value)
    (record { own = refl; by_links = refl; modulus = refl; config = refl; paths = refl }) (ap (λ m. m.entries) c.get_mut.follows.holds-at-none) refl t s
