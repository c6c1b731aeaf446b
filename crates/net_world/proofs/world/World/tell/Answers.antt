use Rattle.std.proofs.Common.{◌++◌, ◌∷◌, [], ◌∙◌, ap, sym, map}
use Rattle.std.proofs.lemmas.List.{map-append}
use Rattle.net_model.specs.Ends.{note_event}
use Rattle.net_model.specs.Events.{event_of, numbered_of}
use Rattle.net_model.specs.World.{numbered}
use Rattle.net_model.proofs.Noting.{one_more}
use Rattle.net_world.proofs.world.World.tell.Goals as goal

pub returns-clause-goes : goal.returns-clause-goes
returns-clause-goes c = λ w t.
    let event = event_of c.args.event in
    record {
      trace = record {
        told =
            ap (map numbered_of) c.in_ok-push.ensures.items
            ∙ (map-append numbered_of c.args.self.now.events.items (record { line = c.args.line; event = c.args.event } ∷ [])
            ∙ ap (λ es. es ++ numbered c.args.line event ∷ []) t.trace.told);
        air = t.trace.air;
        members = t.trace.members;
        ends = λ node. c.in_ok-note.ensures node ∙ (ap (note_event node event) (t.trace.ends node) ∙ sym (one_more node w.told (numbered c.args.line event)));
        allowance = t.trace.allowance;
      };
      channels = t.channels;
      now = t.now;
    }
