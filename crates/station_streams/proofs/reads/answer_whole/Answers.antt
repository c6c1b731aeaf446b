use Rattle.std.proofs.Common.{◌++◌, ◌∷◌, []}
use Rattle.std.proofs.KnownBytes.{Appends-trans}
use Rattle.cmd_streams.specs.Told.{told_by}
use Rattle.station_streams.proofs.Saying.{says-more}
use Rattle.station_streams.proofs.Unanswered.{unended}
use Rattle.station_streams.proofs.reads.answer_whole.Goals as goal

pub returns-in-Err-answer_end-clause-err : goal.returns-in-Err-answer_end-clause-err
returns-in-Err-answer_end-clause-err g c =
    unended g.row.T.Denot g.T.Teller.took g.T.Teller.ended c.args.teller.now c.answer_reads.new.teller c.answer_end.new.teller (g.T.Teller.over c.answer_reads.new.teller) _ _ _
    (told_by g.S.Source g.K.Sink g.N.Sink c.args.source.now c.args.sink.now c.args.notes.now)
    (told_by g.S.Source g.K.Sink g.N.Sink c.answer_reads.new.source c.answer_reads.new.sink c.answer_reads.new.notes)
    (told_by g.S.Source g.K.Sink g.N.Sink c.answer_reads.new.source c.answer_end.new.sink c.answer_end.new.notes)
    _ _ _ _ _ _ _ _ c.in-Err-answer_end.stop c.in-Ok.ensures.all.0 c.in-Ok.ensures.read_same c.in-Ok.ensures.write_same c.in-Err-answer_end.ensures.err

pub returns-in-Ok-answer_end-clause-all : goal.returns-in-Ok-answer_end-clause-all
returns-in-Ok-answer_end-clause-all g c =
    let reads = c.in-Ok.ensures.all in
    let a = reads.0 in
    let e = c.in-Ok-answer_end.ensures.answered in (
      g.T.Teller.over c.answer_reads.new.teller,
      record {
        reads = a.reads;
        text = a.text ++ e.0;
        taken = a.taken;
        fits = a.fits;
        answered = (a.answered.0 ++ e.1 ∷ [], (c.answer_end.new.teller, e.4 c.args.teller.now a.reads a.text a.answered.0 a.answered.1), says-more _ _ _ _ _ _ a.answered.0 e.1 a.answered.2 e.3);
        written = Appends-trans _ _ _ _ _ a.written e.2;
      },
      reads.1,
    )
