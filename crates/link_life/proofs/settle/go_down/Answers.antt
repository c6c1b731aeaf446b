use Rattle.std.proofs.Common.{refl, subst}
use Rattle.ax_link.specs.declared.config.LinkConfig.{LinkConfig}
use Rattle.ax_link.specs.Opening.{opening, rules_new}
use Rattle.ax_link.specs.Standing.{StandsFor}
use Rattle.link_life.proofs.Books.{all_over, facts_stand}
use Rattle.link_life.proofs.settle.go_down.Goals as goal

pub returns-clause-stands : goal.returns-clause-stands
returns-clause-stands g c = λ e s.
    let size = g.M.Modulus.SIZE in
    record {
      link = subst (λ (x : LinkConfig). StandsFor size c.in_ok-near.field-0 (opening (rules_new size x))) c.config.ensures c.in_ok-near.ensures.opening;
      book = record {
        over = all_over size c.args.near.now.book e c.facts-facts.result c.end_epoch.new.self.over.items (rw c.facts-facts.ensures (facts_stand size c.args.near.now.link e.link s.link)) s.book c.in_ok-end_epoch.ensures.over;
        lasting = c.in_ok-end_epoch.ensures.lasting;
        down = refl;
        coming = rw c.in_ok-end_epoch.ensures.coming s.book.coming;
      };
    }
