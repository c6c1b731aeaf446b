-- Which node a word names, whose route to it is best, and how a node is shown. Own profile.
use Rattle.std.specs.Prelude.{ℕ, List, [], ◌∷◌, flat_map, slice_get, Option, Some, None, Result, Ok, Err, Bool, false, ◌||◌, nat_eq, nat_lt, codes, if◌then◌else◌}
use Rattle.std.specs.List.{find}
use Rattle.std.specs.Option.{option_map}
use Rattle.std.specs.Cmp.Lexicographic.{pointwise}
use Rattle.std.specs.Str.{str_eq_ignore_ascii_case}
use Rattle.ax_address.specs.Alias as aliases
use Rattle.ax_address.specs.declared.alias.Alias.{Alias}
use Rattle.ax_address.specs.declared.call.CallRefusal.{CallRefusal}
use Rattle.ax_address.specs.Callsign as calls
use Rattle.ax_address.specs.Callsign.{Callsign}
use Rattle.route_table.specs.declared.route.Route.{Route}
use Rattle.station_lists.specs.declared.shown_node.ShownNode.{ShownNode}
use Rattle.station_members.specs.Looks.{alias_at, place_of, seat_at}
use Rattle.station_members.specs.States.{State}
use Rattle.station_members.specs.declared.seat.Seat.{Seat}
use Rattle.station_looks.specs.Nodes.{best_at, destinations_at, is_member, places}
use Rattle.station_looks.specs.declared.naming.Named.{Named}
use Rattle.station_looks.specs.declared.naming.Named.TheVariants.{Member, Node, Nothing}
use Rattle.station_looks.specs.declared.ways.Way.{Way}

-- Ways to a node: a member, and its best route to it.

abbrev pub way : ℕ → Route → Way
way at route = record { member = at; route = route }

abbrev pub ways_by : ℕ → Option Route → List Way
ways_by at None = []
ways_by at (Some route) = way at route ∷ []

-- this member is left out
abbrev pub is_but : Option ℕ → ℕ → Bool
is_but None at = false
is_but (Some but) at = nat_eq but at

-- The better of two: that of the higher quality, and the first where these are equal.
abbrev pub better_way : Way → Way → Way
better_way one other = if nat_lt one.route.quality other.route.quality then other else one

abbrev pub better : Option Way → Option Way → Option Way
better None other = other
better (Some one) None = Some one
better (Some one) (Some other) = Some (better_way one other)

-- the one of the highest quality, the first of equals
abbrev pub best_of : List Way → Option Way
best_of [] = None
best_of (w ∷ ws) = better (Some w) (best_of ws)

-- the ways to a node, in the order of the members
abbrev pub ways_at : Option ℕ → Callsign → State → ℕ → List Way
ways_at but dest s at = if is_but but at then [] else ways_by at (best_at at dest s)

abbrev pub ways_to : Option ℕ → Callsign → State → List Way
ways_to but dest s = flat_map (ways_at but dest s) (places s)

-- the member whose route to a node is best, the first of equals, of all but one
abbrev pub best_member : Option ℕ → Callsign → State → Option ℕ
best_member but dest s = option_map (λ (w : Way). w.member) (best_of (ways_to but dest s))

-- What a word in capital letters names.

-- the word is an alias, without regard to case
abbrev pub is_alias : List ℕ → Alias → Bool
is_alias word alias = str_eq_ignore_ascii_case (aliases.shown alias) word

-- or the call
abbrev pub is_name : List ℕ → Alias → Callsign → Bool
is_name word alias call = is_alias word alias || pointwise nat_eq (calls.shown call) word

abbrev pub is_seat_named : List ℕ → Option Seat → Bool
is_seat_named word None = false
is_seat_named word (Some seat) = is_name word seat.alias seat.call

abbrev pub is_member_named : List ℕ → State → ℕ → Bool
is_member_named word s at = is_seat_named word (seat_at at s)

-- the first member of this alias or call
abbrev pub member_named : List ℕ → State → Option ℕ
member_named word s = find (is_member_named word s) (places s)

-- a destination has the alias of its best route
abbrev pub ways_named_by : List ℕ → ℕ → Option Route → List Way
ways_named_by word at None = []
ways_named_by word at (Some route) = if is_alias word route.alias then way at route ∷ [] else []

abbrev pub ways_named_to : List ℕ → State → ℕ → Callsign → List Way
ways_named_to word s at dest = if is_member dest s then [] else ways_named_by word at (best_at at dest s)

-- the best routes of a member to destinations of this alias that are no members, in the order of their calls
abbrev pub ways_named_at : Option ℕ → List ℕ → State → ℕ → List Way
ways_named_at but word s at = if is_but but at then [] else flat_map (ways_named_to word s at) (destinations_at at s)

-- of the highest quality, then of the first member, then to the lowest call
abbrev pub way_named : Option ℕ → List ℕ → State → Option Way
way_named but word s = best_of (flat_map (ways_named_at but word s) (places s))

abbrev pub named_as_call : Result Callsign CallRefusal → Named
named_as_call (Ok call) = Node call
named_as_call (Err why) = Nothing

abbrev pub named_as_node : List ℕ → Option Way → Named
named_as_node word (Some w) = Node w.route.dest
named_as_node word None = named_as_call (calls.call_at word)

abbrev pub named_from : Option ℕ → List ℕ → State → Option ℕ → Named
named_from but word s (Some at) = Member at
named_from but word s None = named_as_node word (way_named but word s)

-- a member, by its alias or call; else a destination, by the alias of its best route, as all members but one know it; else a call
abbrev pub named : Option ℕ → List ℕ → State → Named
named but word s = named_from but word s (member_named word s)

-- How a node is shown.

abbrev pub blank : Alias
blank = codes "      "

abbrev pub unless_blank : Alias → Option Alias
unless_blank alias = if pointwise nat_eq alias blank then None else Some alias

abbrev pub alias_by : Option Way → Option Alias
alias_by None = None
alias_by (Some w) = unless_blank w.route.alias

-- by the alias by which the first member that knows it knows it, where that isn't blank
abbrev pub known_alias : Callsign → State → Option Alias
known_alias call s = alias_by (slice_get (ways_to None call s) 0)

abbrev pub alias_from : Callsign → State → Option ℕ → Option Alias
alias_from call s (Some at) = alias_at at s
alias_from call s None = known_alias call s

-- a member by its own alias
abbrev pub alias_of : Callsign → State → Option Alias
alias_of call s = alias_from call s (place_of call s)

abbrev pub shown : Callsign → State → ShownNode
shown call s = record { alias = alias_of call s; call = call }
