use Rattle.std.proofs.Common.{length, ap, arith}
use Rattle.cmd_streams.proofs.FramedSizes.{framed_so}
use Rattle.cmd_streams.proofs.kiss.put_data.Goals as goal

pub returns : goal.returns
returns g c = framed_so g.row.CAP c.enframe.result c.args.octets.now c.enframe.new.out.items
    (λ h. c.enframe.ensures.fits.1 (omega (arith, h, ap length c.clear.ensures))) (rw c.clear.ensures at c.enframe.ensures.ok)
