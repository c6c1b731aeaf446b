use Rattle.std.proofs.Common.{◌≡◌, ◌∙◌, ℕ, arith, length, map}
use Rattle.station_lists.specs.Lists as lists
use Rattle.station_looks.specs.Nodes.{places}
use Rattle.station_looks.specs.Rows.{by_member, link_rows_at}
use Rattle.station_looks.proofs.Places.{all_collected, collected}
use Rattle.station_looks.proofs.Slices.{lines_of}
use Rattle.station_looks.proofs.links.link_rows.Goals as goal

pub loop-at-preserved : goal.loop-at-preserved
loop-at-preserved c = λ s stand.
    collected (λ (at : ℕ). map lists.link_line (by_member (link_rows_at c.args.about.now s) s at)) c.loop-at.at (map lists.link_line c.loop-at.all.items)
    (map lists.link_line c.add_links_at.new.all.items) (c.loop-at.invariant s stand) (c.in_ok-add_links_at.ensures s stand)

pub returns : goal.returns
returns c = λ s stand.
    let e : c.loop-at.at ≡ length s.nodes = omega (arith, c.loop-at-test.false, c.loop-at.auto.at-end, c.len-at-end.ensures s stand) in
    all_collected (λ (at : ℕ). map lists.link_line (by_member (link_rows_at c.args.about.now s) s at)) c.loop-at.at (length s.nodes)
    (map lists.link_line c.loop-at.all.items) e (c.loop-at.invariant s stand)
    ∙ lines_of lists.link_line (by_member (link_rows_at c.args.about.now s) s) (places s)
