use Rattle.std.proofs.Common.{◌≡◌, ◌∙◌, ◌++◌, ◌∷◌, [], ap, true, nat_lt}
use Rattle.std.specs.List.{list_all}
use Rattle.ax_address.specs.Callsign.{Callsign}
use Rattle.ax_address.proofs.CallOctets.{doubles}
use Rattle.station_ports.proofs.AliasCalls.{is_alias, alias_spelled, small_letters, refused-read}
use Rattle.station_ports.proofs.alias_calls.call_of_alias.Goals as goal

pub returns-then-not-are_ascii-clause-none : goal.returns-then-not-are_ascii-clause-none
returns-then-not-are_ascii-clause-none c h =
    let small : c.are_ascii.result ≡ true =
    c.are_ascii.ensures ∙ (ap (list_all (λ b. nat_lt b 128)) c.bytes-letters.ensures ∙ small_letters c.args.alias.now 0 h) in
    let not_small = rw small at c.if-not-are_ascii.true in
    absurd (cc)

pub returns-in-Ok-clause-found : goal.returns-in-Ok-clause-found
returns-in-Ok-clause-found c =
    let octets : c.octets_of.result ≡ doubles c.args.alias.now ++ 0 ∷ [] =
    c.octets_of.ensures ∙ ap (λ letters. doubles letters ++ 0 ∷ []) c.bytes-letters.ensures in
    is_alias c.args.alias.now c.in-Ok.call (rw octets at c.in-Ok.ensures.found)

pub returns-in-Err-clause-none : goal.returns-in-Err-clause-none
returns-in-Err-clause-none c h =
    let octets : c.octets_of.result ≡ doubles c.args.alias.now ++ 0 ∷ [] =
    c.octets_of.ensures ∙ ap (λ letters. doubles letters ++ 0 ∷ []) c.bytes-letters.ensures in
    let alias : Callsign = record { letters = c.args.alias.now; ssid = 0 } in
    refused-read _ alias (c.in-Err.ensures.only alias (rw octets (alias_spelled c.args.alias.now h)))
