use Rattle.std.proofs.Common.{◌≡◌, ◌∙◌}
use Rattle.cmd_streams.specs.Streams.{read_of}
use Rattle.station_run.specs.Typing.{shown}
use Rattle.station_run.proofs.OneByte.{tries_on}
use Rattle.station_run.proofs.typing.TypingTeller.take.Goals as goal

pub returns : goal.returns
returns c = record {
  takes = λ first reads text texts took s stands.
      let before = took s stands in
      let done = c.in_ok-take_bytes.ensures before.0 before.2 in
      let shows = c.take_text.ensures.text done.1.trial done.4.trial in
      let answers = rw c.requires.answer at c.in_ok-append.ensures.ok in
      let tells = rw c.requires.told at done.3 in (
        shown done.1,
        tries_on reads (read_of c.args.bytes.now c.args.now.0) s before.0 done.1 text _ _ texts done.0 _ answers tells before.1 done.2 shows,
        record {
          trial = c.take_text.ensures.goes done.1.trial done.4.trial;
          line = done.4.line;
          lines = done.4.lines;
          over = done.4.over;
        },
      );
}
