use Rattle.std.proofs.Common.{◌∙◌, ap, sym, refl}
use Rattle.ax_frame.specs.Frames.{view}
use Rattle.link_table.specs.declared.held_links.HeldLinks.{HeldLinks}
use Rattle.link_table.specs.Calls.{link_frame, source}
use Rattle.link_table.specs.Standing.{drop_if_down}
use Rattle.link_table.specs.Works as works
use Rattle.link_table.proofs.Links.{at_link_stands, at_no_link, drained_at, rests_at}
use Rattle.link_table.proofs.LinkOffers.{sized}
use Rattle.link_table.proofs.held_links.HeldLinks.to_link.Goals as goal

pub arrive-requires : goal.arrive-requires
arrive-requires c = record { drained = drained_at (source (view c.args.frame.now)) c.args.self.now.links.entries c.in-Some.entry.now c.requires.drained (sym c.in-Some.ensures.value) }

pub returns-in-None-clause-goes : goal.returns-in-None-clause-goes
returns-in-None-clause-goes c = λ t s.
    at_no_link c.args.self.now _ (source (view c.args.frame.now)) (λ own w. works.arrive_at_link own (link_frame w.linked.link.rules.size (view c.args.frame.now)) c.args.now.0 w) (sym c.in-None.ensures.value)
    (record { own = refl; by_links = refl; modulus = refl; config = refl; paths = refl }) (ap (λ m. m.entries) c.get_mut.follows.holds-at-none) refl t s

pub returns-clause-rests : goal.returns-clause-rests
returns-clause-rests c =
    rests_at c.args.self.now _ (source (view c.args.frame.now)) c.arrive.new.self c.requires c.in_ok-arrive-in-Some.ensures.drained
    (c.drop_if_down.ensures.left ∙ ap (drop_if_down (source (view c.args.frame.now))) (c.get_mut.follows.holds c.arrive.new.self).0)

pub returns-clause-goes : goal.returns-clause-goes
returns-clause-goes c = λ t s.
    let rest = c.drop_if_down.ensures.rest in
    at_link_stands c.args.self.now c.drop_if_down.new.self (source (view c.args.frame.now)) c.in-Some.entry.now c.arrive.new.self c.arrive.new.pending
    (λ own w. works.arrive_at_link own (link_frame w.linked.link.rules.size (view c.args.frame.now)) c.args.now.0 w)
    (sym c.in-Some.ensures.value) (sized (view c.args.frame.now) c.args.now.0 c.in-Some.entry.now c.arrive.new.self c.args.self.now.pending c.arrive.new.pending c.in_ok-arrive-in-Some.ensures.goes) (ap (λ (x : HeldLinks). x.pending) rest)
    (record { own = ap (λ (x : HeldLinks). x.own) rest; by_links = ap (λ (x : HeldLinks). x.by_links) rest; modulus = ap (λ (x : HeldLinks). x.modulus) rest; config = ap (λ (x : HeldLinks). x.config) rest; paths = ap (λ (x : HeldLinks). x.paths.entries) rest })
    (c.drop_if_down.ensures.left ∙ ap (drop_if_down (source (view c.args.frame.now))) (c.get_mut.follows.holds c.arrive.new.self).0) t s
