use Rattle.cmd_streams.specs.Streams.{bytes_of}
use Rattle.cmd_streams.proofs.StreamReads.{bytes_of-more}
use Rattle.cmd_streams.proofs.items.DeframedTaker.take.Goals as goal

pub returns-clause-takes : goal.returns-clause-takes
returns-clause-takes g c = λ first reads text more grown took.
    let told = c.in_ok-take_items.ensures in (
      rw (bytes_of-more reads c.args.bytes.now c.args.now.0) (told.fed (bytes_of reads) took.0),
      rw (bytes_of-more reads c.args.bytes.now c.args.now.0) (told.takes (bytes_of reads) took.0 first.taker text more grown took.1),
    )
