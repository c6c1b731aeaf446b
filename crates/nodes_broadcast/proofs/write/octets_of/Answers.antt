use Rattle.std.proofs.Common.{rules, ◌≡◌, ◌∙◌, length, refl}
use Rattle.nodes_broadcast.proofs.Joined.{joined}
use Rattle.nodes_broadcast.proofs.write.octets_of.Goals as goal

pub returns-clause-octets : goal.returns-clause-octets
returns-clause-octets c =
    let dest : length c.copy_from_slice.new.self ≡ 7 = search rules in
    let alias : length c.copy_from_slice-2.new.self ≡ 6 = search rules in
    let best : length c.copy_from_slice-3.new.self ≡ 7 = search rules in
    let parts = joined c.copy_from_slice.new.self c.copy_from_slice-2.new.self c.copy_from_slice-3.new.self c.args.entry.now.quality dest alias best in
    parts ∙ rw (c.copy_from_slice.ensures.after, c.copy_from_slice-2.ensures.after, c.copy_from_slice-3.ensures.after, c.write_net_call.ensures.exact, c.bytes.ensures, c.write_net_call-2.ensures.exact) refl
