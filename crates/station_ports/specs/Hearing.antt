-- Who was heard at a port. Own profile.
use Rattle.std.specs.Prelude.{ℕ, ◌+◌, ◌-◌, ◌^◌, min, List, ◌∷◌, take, filter, not, unwrap_or}
use Rattle.std.specs.List.{find}
use Rattle.std.specs.Option.{option_map}
use Rattle.radio_base.specs.declared.moment.Moment.{Moment}
use Rattle.ax_address.specs.Callsign.{Callsign, same_call}
use Rattle.station_ports.specs.declared.heard_list.Heard.{Heard}

-- how many frames a call was heard in
abbrev pub count_of : Callsign → List Heard → ℕ
count_of call list = unwrap_or (option_map (λ h. h.count) (find (λ h. same_call h.call call) list)) 0

abbrev pub without : Callsign → List Heard → List Heard
without call list = filter (λ h. not (same_call h.call call)) list

-- the call in front, with one frame more, and behind it the first 31 others; a count stands still at 2^64 - 1
abbrev pub noted : Callsign → Moment → List Heard → List Heard
noted call now list =
    record { call = call; count = min (count_of call list + 1) (2 ^ 64 - 1); last = now } ∷ take 31 (without call list)
