-- Entries as JSON objects, one a line (RFC 8259, sections 4 to 7). Which there are is own profile.
use Rattle.std.specs.Prelude.{ℕ, List, ◌++◌, codes}
use Rattle.std.specs.Fmt.{decimal}
use Rattle.ax_address.specs.Callsign as calls
use Rattle.ax_address.specs.Callsign.{Callsign}
use Rattle.ax_link.specs.declared.notice.LinkNotice.{LinkNotice}
use Rattle.ax_link.specs.declared.notice.LinkNotice.TheVariants as links
use Rattle.circuit_l4.specs.declared.notice.EndNotice.{EndNotice}
use Rattle.circuit_l4.specs.declared.notice.EndNotice.TheVariants as ends
use Rattle.station_entries.specs.declared.entry.StationEntry.{StationEntry}
use Rattle.station_entries.specs.declared.entry.StationEntry.TheVariants.{Link, Circuit}

abbrev pub link_word : LinkNotice → List ℕ
link_word links.Opened = codes "opened"
link_word links.Reset = codes "reset"
link_word links.Closed = codes "closed"
link_word links.Refused = codes "refused"
link_word links.Failed = codes "failed"

abbrev pub end_word : EndNotice → List ℕ
end_word (ends.Opened window) = codes "opened"
end_word ends.Refused = codes "refused"
end_word ends.Closed = codes "closed"
end_word ends.ClosedByPartner = codes "closed by partner"
end_word ends.FailedRetries = codes "failed retries"
end_word ends.FailedOversize = codes "failed oversize"
end_word ends.FailedInactive = codes "failed inactive"

-- {"at":N,"member":"CALL","link":"PEER","what":"WORD"}
abbrev pub link_line : ℕ → Callsign → Callsign → LinkNotice → List ℕ
link_line at member peer notice =
    codes "{\"at\":" ++ (decimal at ++ (codes ",\"member\":\"" ++ (calls.shown member ++ (codes "\",\"link\":\"" ++ (calls.shown peer
    ++ (codes "\",\"what\":\"" ++ (link_word notice ++ codes "\"}\n")))))))

-- {"at":N,"member":"CALL","end":N,"what":"WORD"}
abbrev pub circuit_line : ℕ → Callsign → ℕ → EndNotice → List ℕ
circuit_line at member id notice =
    codes "{\"at\":" ++ (decimal at ++ (codes ",\"member\":\"" ++ (calls.shown member ++ (codes "\",\"end\":" ++ (decimal id
    ++ (codes ",\"what\":\"" ++ (end_word notice ++ codes "\"}\n")))))))

abbrev pub entry_line : ℕ → StationEntry → List ℕ
entry_line at (Link member peer notice) = link_line at member peer notice
entry_line at (Circuit member id notice) = circuit_line at member id notice

-- {"at":N,"status":{"sessions":N}}
abbrev pub status_line : ℕ → ℕ → List ℕ
status_line at sessions = codes "{\"at\":" ++ (decimal at ++ (codes ",\"status\":{\"sessions\":" ++ (decimal sessions ++ codes "}}\n")))
