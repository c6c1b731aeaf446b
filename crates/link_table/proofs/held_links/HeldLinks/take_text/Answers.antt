use Rattle.std.proofs.Common.{◌∙◌, ap, sym, refl, is_some}
use Rattle.link_table.specs.declared.held_links.HeldLinks.{HeldLinks}
use Rattle.link_table.specs.Standing.{drop_if_down, text_of_entry}
use Rattle.link_table.specs.Texts.{take_text_of}
use Rattle.link_table.proofs.Links.{at_link_stands, at_no_link, drained_at, rests_at}
use Rattle.link_table.proofs.held_links.HeldLinks.take_text.Goals as goal

pub take_text-requires : goal.take_text-requires
take_text-requires c =
    record {
      drained = drained_at c.args.peer.now c.args.self.now.links.entries c.in-Some.entry.now c.requires.rests.drained (sym c.in-Some.ensures.value);
      waits = ap (λ x. is_some (text_of_entry x)) c.in-Some.ensures.value ∙ c.requires.waits;
    }

pub returns-in-None-clause-goes : goal.returns-in-None-clause-goes
returns-in-None-clause-goes c = λ t s.
    at_no_link c.args.self.now _ c.args.peer.now (λ own. take_text_of own c.args.now.0) (sym c.in-None.ensures.value)
    (record { own = refl; by_links = refl; modulus = refl; config = refl; paths = refl }) (ap (λ m. m.entries) c.get_mut.follows.holds-at-none) refl t s

pub returns-clause-rests : goal.returns-clause-rests
returns-clause-rests c =
    rests_at c.args.self.now _ c.args.peer.now c.take_text.new.self c.requires.rests c.in_ok-take_text-in-Some.ensures.drained
    (c.drop_if_down.ensures.left ∙ ap (drop_if_down c.args.peer.now) (c.get_mut.follows.holds c.take_text.new.self).0)

pub returns-clause-text : goal.returns-clause-text
returns-clause-text c = ap text_of_entry (sym c.in-Some.ensures.value) ∙ c.in_ok-take_text-in-Some.ensures.text

pub returns-clause-goes : goal.returns-clause-goes
returns-clause-goes c = λ t s.
    let rest = c.drop_if_down.ensures.rest in
    at_link_stands c.args.self.now c.drop_if_down.new.self c.args.peer.now c.in-Some.entry.now c.take_text.new.self c.take_text.new.pending (λ own. take_text_of own c.args.now.0)
    (sym c.in-Some.ensures.value) c.in_ok-take_text-in-Some.ensures.goes (ap (λ (x : HeldLinks). x.pending) rest)
    (record { own = ap (λ (x : HeldLinks). x.own) rest; by_links = ap (λ (x : HeldLinks). x.by_links) rest; modulus = ap (λ (x : HeldLinks). x.modulus) rest; config = ap (λ (x : HeldLinks). x.config) rest; paths = ap (λ (x : HeldLinks). x.paths.entries) rest })
    (c.drop_if_down.ensures.left ∙ ap (drop_if_down c.args.peer.now) (c.get_mut.follows.holds c.take_text.new.self).0) t s
