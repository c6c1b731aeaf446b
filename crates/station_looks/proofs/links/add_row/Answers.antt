use Rattle.std.proofs.Common.{◌≡◌, ◌++◌, ◌∷◌, [], ℕ, List, append-nil, map, refl, sym}
use Rattle.std.specs.Prelude.{Option, Some, None}
use Rattle.std.specs.Option.{option_map}
use Rattle.std.proofs.lemmas.Option.{same_Some}
use Rattle.std.proofs.lemmas.Result.{on_ok_weaker}
use Rattle.ax_address.specs.Callsign.{Callsign}
use Rattle.ax_address.specs.declared.alias.Alias.{Alias}
use Rattle.ax_link.specs.declared.facts.LinkFacts.{LinkFacts}
use Rattle.ax_link.specs.declared.phase.LinkPhase.{LinkPhase}
use Rattle.link_table.specs.Table.{Linked}
use Rattle.station_lists.specs.Lists as lists
use Rattle.station_lists.specs.Lists.{link_line}
use Rattle.station_lists.specs.declared.links.LinkRow.{LinkRow}
use Rattle.station_lists.specs.declared.place.Place.{Place}
use Rattle.station_members.specs.States.{State}
use Rattle.station_looks.specs.Nodes.{link_at, seen_link, told_of}
use Rattle.station_looks.specs.Reached.{link_place}
use Rattle.station_looks.specs.Rows.{link_by}
use Rattle.station_looks.specs.declared.about.About.{About}
use Rattle.station_looks.proofs.Lines.{row_added}
use Rattle.station_looks.proofs.links.add_row.Goals as goal

abbrev row : Alias → Callsign → Place → LinkPhase × ℕ → LinkRow
row member peer place told = record { member = member; peer = peer; place = place; phase = told.0; held = told.1 }

same_line : (member : Alias) (peer : Callsign) (place place2 : Place) (told told2 : LinkPhase × ℕ) → lists.place place ≡ lists.place place2 → told ≡ told2
    → link_line (row member peer place told) ≡ link_line (row member peer place2 told2)
same_line member peer place place2 told told2 e f = rw (e, f) refl

-- the row of a link that stands
row_of_link : (about : About) (s : State) (at : ℕ) (member : Alias) (peer : Callsign) (place : Place) (facts : LinkFacts) (o : Option Linked)
    (old new : List LinkRow) → Some (told_of facts) ≡ option_map seen_link o → lists.place place ≡ lists.place (link_place at peer about s)
    → new ≡ old ++ row member peer place (told_of facts) ∷ []
    → map link_line new ≡ map link_line old ++ map link_line (link_by about s at member peer o)
row_of_link about s at member peer place facts None old new told e more = absurd (cc)
row_of_link about s at member peer place facts (Some l) old new told e more =
    row_added link_line old new (row member peer place (told_of facts)) (row member peer (link_place at peer about s) (seen_link l)) more
    (same_line member peer place (link_place at peer about s) (told_of facts) (seen_link l) e (same_Some (told_of facts) (seen_link l) told))

no_link : (about : About) (s : State) (at : ℕ) (member : Alias) (peer : Callsign) (o : Option Linked) (all : List LinkRow)
    → None ≡ option_map seen_link o → map link_line all ≡ map link_line all ++ map link_line (link_by about s at member peer o)
no_link about s at member peer None all e = sym (append-nil (map link_line all))
no_link about s at member peer (Some l) all e = absurd (cc)

pub returns-in-Some : goal.returns-in-Some
returns-in-Some c = on_ok_weaker c.push_row.result
    (λ more s stand. row_of_link c.args.about.now s c.args.at c.args.member c.args.peer.now c.link_place.result c.in-Some.facts
    (link_at c.args.at c.args.peer.now s) c.args.all.now.items c.push_row.new.all.items (c.in-Some.ensures s stand) (c.link_place.ensures s stand)
    more)
    c.push_row.ensures

pub returns-in-None : goal.returns-in-None
returns-in-None c = λ s stand.
    no_link c.args.about.now s c.args.at c.args.member c.args.peer.now (link_at c.args.at c.args.peer.now s) c.args.all.now.items (c.in-None.ensures s stand)
