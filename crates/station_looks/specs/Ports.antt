-- Which member stands on a port. Own profile.
use Rattle.std.specs.Prelude.{ℕ, Option, Some, None, Bool, false, ◌==◌, if◌then◌else◌}
use Rattle.std.specs.List.{find, list_any}
use Rattle.station_members.specs.Looks.{rules_at}
use Rattle.station_members.specs.States.{State}
use Rattle.station_members.specs.declared.config.MemberRules.{MemberRules}
use Rattle.station_looks.specs.Nodes.{places}

abbrev pub has_port : ℕ → Option MemberRules → Bool
has_port port None = false
has_port port (Some rules) = list_any (λ p. p == port) rules.ports.items

-- the member at a place stands on a port
abbrev pub is_on : ℕ → State → ℕ → Bool
is_on port s at = has_port port (rules_at at s)

abbrev pub first_on : ℕ → State → Option ℕ
first_on port s = find (is_on port s) (places s)

-- the member at this place, where it stands on a port, or else the first that does
abbrev pub member_on : ℕ → ℕ → State → Option ℕ
member_on member port s = if is_on port s member then Some member else first_on port s
