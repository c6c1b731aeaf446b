use Rattle.std.proofs.Common.{◌≡◌, ◌++◌, ◌∙◌, ap, length, refl}
use Rattle.station_lists.specs.Lists.{stats_text}
use Rattle.station_lists.specs.declared.stats.Stats.{Stats}
use Rattle.station_looks.specs.Rows as rows
use Rattle.station_looks.proofs.stats.see_stats.Goals as goal

same_text : (a b : Stats) → a.up ≡ b.up → a.came ≡ b.came → a.went ≡ b.went → a.users ≡ b.users → a.circuits ≡ b.circuits → a.links ≡ b.links
    → a.destinations ≡ b.destinations → stats_text a ≡ stats_text b
same_text a b up came went users circuits links destinations = rw (up, came, went, users, circuits, links, destinations) refl

pub returns : goal.returns
returns c = λ s stand.
    let frames = c.frames_of-came.ensures s stand in
    c.in_ok-add_stats.ensures
    ∙ ap (λ text. c.args.text.now ++ text)
    (same_text _ (rows.stats c.args.sessions.now (rows.moment_of c.args.started) c.args.now.0 s) c.up_by.ensures (ap (λ p. p.0) frames)
    (ap (λ p. p.1) frames) (c.count_users.ensures s stand)
    (ap length (c.as_slice.ensures.value ∙ c.in_ok-ends.ensures s stand))
    (ap length (c.as_slice-2.ensures.value ∙ c.in_ok-peers.ensures s stand))
    (ap length (c.as_slice-3.ensures.value ∙ c.in_ok-known.ensures s stand)))
