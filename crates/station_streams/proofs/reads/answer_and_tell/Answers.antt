use Rattle.cmd_streams.specs.Told.{told_by}
use Rattle.station_streams.proofs.Endings.{by_fault, by_length}
use Rattle.station_streams.proofs.reads.answer_and_tell.Goals as goal

pub returns-in-Err-ReadFault : goal.returns-in-Err-ReadFault
returns-in-Err-ReadFault g c =
    let why = rw c.in-Err-ReadFault.field-0-is at c.in-Err-ReadFault.ensures in
    let noted = rw c.refuse_input.ensures.status at c.refuse_input.ensures.noted in
    record {
      ends = by_fault _ _ _ _ _
          (told_by g.S.Source g.K.Sink g.N.Sink c.args.source.now c.args.sink.now c.args.notes.now)
          (told_by g.S.Source g.K.Sink g.N.Sink c.answer_whole.new.source c.answer_whole.new.sink c.answer_whole.new.notes)
          (told_by g.S.Source g.K.Sink g.N.Sink c.answer_whole.new.source c.answer_whole.new.sink c.refuse_input.new.notes)
          _ c.refuse_input.ensures.status why.err.0 why.err.1 why.err.2 noted;
    }

pub returns-in-Err-TooLong : goal.returns-in-Err-TooLong
returns-in-Err-TooLong g c =
    let why = rw c.in-Err-TooLong.field-0-is at c.in-Err-TooLong.ensures in
    let noted = rw c.refuse_input-in-Err-TooLong.ensures.status at c.refuse_input-in-Err-TooLong.ensures.noted in
    record {
      ends = by_length _ _ _ _ _
          (told_by g.S.Source g.K.Sink g.N.Sink c.args.source.now c.args.sink.now c.args.notes.now)
          (told_by g.S.Source g.K.Sink g.N.Sink c.answer_whole.new.source c.answer_whole.new.sink c.answer_whole.new.notes)
          (told_by g.S.Source g.K.Sink g.N.Sink c.answer_whole.new.source c.answer_whole.new.sink c.refuse_input-in-Err-TooLong.new.notes)
          _ c.refuse_input-in-Err-TooLong.ensures.status why.err.0 why.err.1 why.err.2 noted;
    }
