use Rattle.std.proofs.Common.{◌++◌, ◌∙◌, ap, List}
use Rattle.link_life.specs.declared.epoch.Epoch.{Epoch}
use Rattle.link_life.specs.Standing.{epoch_line_kept, epoch_lines_kept, number_kept}
use Rattle.link_life.proofs.Books.{facts_stand}
use Rattle.link_life.proofs.LastLines.{ends_lasting, ends_over}
use Rattle.link_life.proofs.epoch_lines.write_end.Goals as goal

pub returns-in_ok-write_epoch-in-Some : goal.returns-in_ok-write_epoch-in-Some
returns-in_ok-write_epoch-in-Some g c = λ e s.
    let b = c.args.end.now.book in
    ends_lasting g.M.Modulus.SIZE c.args.side b e c.facts.result c.in-Some.lasting c.args.text.now c.write_over.new.text c.write_epoch.new.text
    (rw c.facts.ensures (facts_stand g.M.Modulus.SIZE c.args.end.now.link e.link s.link)) s.book c.in-Some.is
    (c.in_ok-write_over.ensures ∙ ap (λ (xs : List Epoch). c.args.text.now ++ epoch_lines_kept c.args.side 0 xs) c.deref.ensures.value)
    (c.in_ok-write_epoch-in-Some.ensures ∙ ap (λ n. c.write_over.new.text ++ epoch_line_kept c.args.side n c.epoch_of-epoch.result) c.number.ensures
    ∙ ap (λ (x : Epoch). c.write_over.new.text ++ epoch_line_kept c.args.side (number_kept b) x) c.epoch_of-epoch.ensures)

pub returns-in-None : goal.returns-in-None
returns-in-None g c = λ e s.
    let b = c.args.end.now.book in
    ends_over g.M.Modulus.SIZE c.args.side b e c.args.text.now c.write_over.new.text s.book c.in-None.is
    (c.in_ok-write_over.ensures ∙ ap (λ (xs : List Epoch). c.args.text.now ++ epoch_lines_kept c.args.side 0 xs) c.deref.ensures.value)
