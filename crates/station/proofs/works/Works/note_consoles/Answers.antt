use Rattle.std.proofs.Common.{◌≡◌, ◌∙◌, ◌-◌, ◌++◌, ap, length, refl, sym}
use Rattle.station.specs.Outs.{consoles, consoles_in}
use Rattle.station.proofs.Waiting.{with_consoles}
use Rattle.station.proofs.works.Works.note_consoles.Goals as goal

pub returns : goal.returns
returns c = λ s stands.
    let count : c.outs_len-count.result ≡ length s.users.sides.outs = c.outs_len-count.ensures s.users stands.users in
    let told = c.in_ok-note_consoles.ensures in
    record {
      users = stands.users;
      outs = told.waiting ∙ (ap (λ xs. xs ++ consoles (c.outs_len-count.result - c.args.self.now.outs.consoles)) stands.outs ∙ rw (count, stands.counted) refl);
      counted = told.consoles ∙ (rw (count, stands.counted) refl ∙ sym (with_consoles s.outs (length s.users.sides.outs - consoles_in s.outs)));
      entries = stands.entries;
    }
