use Rattle.std.proofs.Common.{◌≡◌, ◌∙◌, ◌++◌, ◌∷◌, [], ap, sym, subst, refl}
use Rattle.station_run.specs.Typing.{Shows, end_screen_of}
use Rattle.station_run.proofs.typing.TypingTeller.end.Goals as goal

pub returns : goal.returns
returns c = record {
  ends = λ first reads text texts took s stands.
      let before = took s stands in
      let last = c.in_ok-end_last.ensures before.0 before.2 in
      let closed = c.in_ok-end.ensures last.1.trial last.4.trial in
      let shows = c.take_text.ensures.text _ closed in
      let answers = rw c.requires.answer at c.in_ok-append.ensures.ok in
      let tells = rw c.requires.told at last.3 in
      record {
        read = before.0;
        earlier_text = text;
        earlier = texts;
        tries = before.1;
        is_over = before.2.over;
        last = last.1;
        note = last.0;
        ends = last.2;
        shown = c.append.new.self;
        shows = subst (λ t. Shows (end_screen_of last.1) t) (sym answers) shows;
        text_is = refl;
        notes_are = ap (λ n. texts ++ n ∷ []) tells;
      };
}
