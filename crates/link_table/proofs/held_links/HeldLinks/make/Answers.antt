use Rattle.std.proofs.Common.{◌∙◌, ap, refl}
use Rattle.ax_address.specs.Callsign.{same_call}
use Rattle.indexmap.proofs.CallerLemmas.{insert_entry-new}
use Rattle.radio_base.specs.Modulus.{modulus_size}
use Rattle.link_table.proofs.Links.{made_stands, rests_more}
use Rattle.link_table.proofs.held_links.HeldLinks.make.Goals as goal

pub returns-clause-rests : goal.returns-clause-rests
returns-clause-rests c =
    rests_more c.args.self.now _ c.args.route.peer c.in_ok-entry.entry c.requires.rests c.requires.room c.in_ok-entry.ensures.drained
    (c.in_ok-insert.ensures.entries ∙ insert_entry-new same_call c.args.self.now.links c.args.route.peer c.in_ok-entry.entry c.requires.none)

pub returns-clause-goes : goal.returns-clause-goes
returns-clause-goes c = λ t s.
    made_stands c.args.self.now _ (modulus_size c.args.modulus) c.in_ok-entry.entry c.args.route (record { own = refl; by_links = refl; modulus = refl; config = refl; paths = refl }) refl
    (c.in_ok-insert.ensures.entries ∙ insert_entry-new same_call c.args.self.now.links c.args.route.peer c.in_ok-entry.entry c.requires.none)
    c.requires.own c.in_ok-entry.ensures.route c.in_ok-entry.ensures.joiner c.in_ok-entry.ensures.called (ap modulus_size c.in_ok-entry.ensures.modulus) c.in_ok-entry.ensures.link t s
