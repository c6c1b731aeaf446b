use Rattle.std.proofs.Common.{◌≡◌, ◌∙◌, sym, ap, length, rules}
use Rattle.nodes_broadcast.proofs.write.push_nodes.Goals as goal

pub returns-clause-spelled : goal.returns-clause-spelled
returns-clause-spelled g c =
    let six : length c.bytes.result ≡ 6 = search rules in
    c.nodes_spelling.ensures.written (record { alias = c.args.alias.now; entries = c.args.entries.now }) (record {
      alias = sym (ap length c.bytes.ensures) ∙ six;
      few = c.requires.few;
      entries = c.push_entries.ensures.entries;
    })
