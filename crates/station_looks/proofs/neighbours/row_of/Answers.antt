use Rattle.std.proofs.Common.{◌≡◌, ◌∙◌, ℕ, Bool, refl}
use Rattle.std.specs.Prelude.{Option, Some, None, is_some}
use Rattle.std.specs.Option.{option_map}
use Rattle.ax_address.specs.Callsign.{Callsign}
use Rattle.ax_address.specs.declared.alias.Alias.{Alias}
use Rattle.ax_link.specs.declared.facts.LinkFacts.{LinkFacts}
use Rattle.link_table.specs.Table.{Linked}
use Rattle.station_lists.specs.Lists as lists
use Rattle.station_lists.specs.Lists.{neighbour_line}
use Rattle.station_lists.specs.declared.place.Place.{Place}
use Rattle.station_looks.specs.Nodes.{link_at, seen_link, told_of}
use Rattle.station_looks.specs.Reached.{neighbour_place}
use Rattle.station_looks.proofs.neighbours.row_of.Goals as goal

-- a link that tells of itself stands
stands_where_told : (facts : Option LinkFacts) (o : Option Linked) → option_map told_of facts ≡ option_map seen_link o → is_some facts ≡ is_some o
stands_where_told None None e = refl
stands_where_told None (Some l) e = absurd (cc)
stands_where_told (Some f) None e = absurd (cc)
stands_where_told (Some f) (Some l) e = refl

same_line : (mark mark2 : Bool) (member : Alias) (call : Callsign) (quality : ℕ) (place place2 : Place) → mark ≡ mark2 → lists.place place ≡ lists.place place2
    → neighbour_line (record { has_link = mark; member = member; call = call; quality = quality; place = place })
    ≡ neighbour_line (record { has_link = mark2; member = member; call = call; quality = quality; place = place2 })
same_line mark mark2 member call quality place place2 e f = rw (e, f) refl

pub returns : goal.returns
returns c = λ s stand.
    same_line _ _ c.args.member c.args.route.now.dest c.args.route.now.quality
    c.neighbour_place.result (neighbour_place c.args.at c.args.route.now.dest c.args.about.now s)
    (c.is_some.ensures ∙ stands_where_told c.link_at.result (link_at c.args.at c.args.route.now.dest s) (c.link_at.ensures s stand))
    (c.neighbour_place.ensures s stand)
