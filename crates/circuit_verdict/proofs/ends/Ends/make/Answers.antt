use Rattle.circuit_verdict.proofs.Making.{made_stands}
use Rattle.circuit_verdict.proofs.ends.Ends.make.Goals as goal

pub returns : goal.returns
returns c ms lost s =
    made_stands c.args.self.now c.give.new.self c.note_made.new.self c.join.new.self c.args.end c.args.own.now c.args.pair.now c.args.requester ms lost
    (record {
      gives = c.in_ok-give.ensures.rest;
      last = c.in_ok-give.ensures.last;
      lists = c.in_ok-give.ensures.given;
      notes = c.in_ok-note_made.ensures.rest;
      noting = rw c.is_some.ensures at c.in_ok-note_made.ensures.notes;
      joins = c.in_ok-join.ensures.rest;
      partners = c.in_ok-join.ensures.partners;
      faces = c.in_ok-join.ensures.facing;
    })
    s
