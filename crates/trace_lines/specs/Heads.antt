-- The network that was read, and the lines of its file, one JSON object a line. Own profile.
use Rattle.std.specs.Prelude.{ℕ, suc, List, [], ◌∷◌, ◌++◌, flat_map}
use Rattle.std.specs.Str.Lines.{lines}
use Rattle.ax_address.specs.Alias as aliases
use Rattle.ax_address.specs.Callsign as calls
use Rattle.network_file.specs.Keys.{Assignment, word_of}
use Rattle.network_file.specs.Plan.{Plan, version_of}
use Rattle.network_file.specs.declared.plan.channels.Channel.{Channel}
use Rattle.network_file.specs.declared.plan.declarations.Declaration.{Declaration}
use Rattle.network_file.specs.declared.plan.vias.Via.{Via}
use Rattle.trace_lines.specs.Json.{object, Number, Numbers, Bytes, Calls, Word}

-- ---- what it declares, in the order of the file

abbrev pub version_line : ℕ → List ℕ
version_line version = object "network" (Number "version" version ∷ [])

abbrev pub node_line : Declaration → List ℕ
node_line d = object "node" (Number "node" d.node ∷ Word "call" (calls.shown d.call) ∷ Bytes "alias" (aliases.shown d.alias) ∷ [])

abbrev pub channel_line : Channel → List ℕ
channel_line c = object "channel" (Numbers "nodes" c.nodes.items ∷ [])

abbrev pub setting_line : Assignment → List ℕ
setting_line s = object "setting" (Number "node" s.node ∷ Bytes "key" (word_of s.key) ∷ Number "value" s.value ∷ [])

abbrev pub path_line : Via → List ℕ
path_line v = object "path" (Number "node" v.node ∷ Word "peer" (calls.shown v.peer) ∷ Calls "repeaters" v.repeaters.items ∷ [])

abbrev pub network_text : Plan → List ℕ
network_text plan =
    version_line (version_of plan)
    ++ (flat_map node_line plan.declared ++ (flat_map channel_line plan.channels ++ (flat_map setting_line plan.settings ++ flat_map path_line plan.vias)))

-- ---- the lines of the file, by number

abbrev pub line_line : ℕ → List ℕ → List ℕ
line_line number line = object "line" (Number "line" number ∷ Bytes "text" line ∷ [])

abbrev pub lines_from : ℕ → List (List ℕ) → List ℕ
lines_from number [] = []
lines_from number (line ∷ later) = line_line number line ++ lines_from (suc number) later

abbrev pub file_text : List ℕ → List ℕ
file_text bytes = lines_from 1 (lines bytes)
