-- What a station tells of what its members have told: what has become of links and circuits. Own profile.
use Rattle.std.specs.Prelude.{Option, Some, None}
use Rattle.ax_address.specs.Callsign.{Callsign}
use Rattle.circuit_table.specs.Pumps.{SetTold, Of}
use Rattle.circuit_table.specs.Sets.{CircuitTold, Notice}
use Rattle.node_model.specs.States.{Entry, Of_link, Of_set}
use Rattle.station_entries.specs.declared.entry.StationEntry.{StationEntry}
use Rattle.station_entries.specs.declared.entry.StationEntry.TheVariants.{Link, Circuit}

abbrev pub told_of_circuit : Callsign → CircuitTold → Option StationEntry
told_of_circuit member (Notice id notice) = Some (Circuit member id notice)
told_of_circuit member _ = None

abbrev pub told_of_set : Callsign → SetTold → Option StationEntry
told_of_set member (Of told) = told_of_circuit member told
told_of_set member _ = None

-- of an entry of the member of this call
abbrev pub told_of : Callsign → Entry → Option StationEntry
told_of member (Of_link peer notice) = Some (Link member peer notice)
told_of member (Of_set told) = told_of_set member told
told_of member _ = None
