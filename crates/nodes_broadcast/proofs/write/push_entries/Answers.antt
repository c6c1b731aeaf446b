use Rattle.std.proofs.Common.{◌≤◌, arith, length}
use Rattle.nodes_broadcast.proofs.Turns.{written_on, written_all, all_on, all_done}
use Rattle.nodes_broadcast.proofs.write.push_entries.Goals as goal

pub loop-entry-preserved : goal.loop-entry-preserved
loop-entry-preserved g c =
    let es = c.args.entries.now in
    let i = c.loop-entry.entry-index in
    let e = c.entry-item.result in
    let within = c.loop-entry-test.true in
    record {
      told = written_on es i e c.loop-entry.out.items c.push_entry.new.out.items _ within c.entry-item.is c.push_entry.ensures.octets c.loop-entry.invariant.told;
      every = all_on es i e within c.entry-item.is c.push_entry.ensures.entry c.loop-entry.invariant.every;
      room = omega (arith, c.push_entry.ensures.len, c.loop-entry.invariant.room);
    }

pub returns-clause-octets : goal.returns-clause-octets
returns-clause-octets g c =
    let es = c.args.entries.now in
    let whole : length es ≤ c.loop-entry.entry-index = omega (arith, c.loop-entry-test.false) in
    written_all es c.loop-entry.entry-index c.loop-entry.out.items _ whole c.loop-entry.invariant.told

pub returns-clause-entries : goal.returns-clause-entries
returns-clause-entries g c =
    let es = c.args.entries.now in
    let whole : length es ≤ c.loop-entry.entry-index = omega (arith, c.loop-entry-test.false) in
    all_done es c.loop-entry.entry-index whole c.loop-entry.invariant.every
