-- Routes: a prefix with its length, and the next hop. (RFC 1812, section 5.2.4.3: the longest match is taken.)
use Rattle.std.specs.Prelude.{ℕ, ◌≡◌, ◌-◌, ◌/◌, ◌%◌, ◌^◌, List, [], ◌∷◌, Bool, ◌&&◌, ◌||◌, ◌==◌, nat_lt, nat_le, not, length, Option, Some, None, Result, Ok, Err, if◌then◌else◌}
use Rattle.std.specs.List.{list_any}
pub use Rattle.ax_ip.specs.declared.route.IpRoute.{IpRoute}
use Rattle.ax_ip.specs.declared.routes.RouteRefusal.{RouteRefusal}
use Rattle.ax_ip.specs.declared.routes.RouteRefusal.TheVariants.{Bits, Twice, Full}

-- a route with these parts
pub record IsRoute (prefix len hop : ℕ) (r : IpRoute) : Type 0 where
  pub has_prefix : r.prefix ≡ prefix
  pub has_len : r.len ≡ len
  pub has_hop : r.hop ≡ hop

-- the first bits of an address
abbrev pub front : ℕ → ℕ → ℕ
front len address = address / 2 ^ (32 - len)

abbrev pub has_bits_past : ℕ → ℕ → Bool
has_bits_past prefix len = not (prefix % 2 ^ (32 - len) == 0)

-- the destination begins with the prefix
abbrev pub matches : ℕ → IpRoute → Bool
matches dest r = front r.len dest == front r.len r.prefix

abbrev pub stands : ℕ → ℕ → List IpRoute → Bool
stands prefix len rs = list_any (λ (r : IpRoute). (r.prefix == prefix) && (r.len == len)) rs

abbrev pub longer : IpRoute → Option IpRoute → IpRoute
longer r None = r
longer r (Some other) = if nat_lt r.len other.len then other else r

-- a route by these parts, where these stand, is taken or refused
abbrev pub route_at : ℕ → ℕ → List IpRoute → Result Unit RouteRefusal
route_at prefix len rs =
    if nat_lt 32 len || has_bits_past prefix len then Err Bits
    else if stands prefix len rs then Err Twice
    else if nat_le 16 (length rs) then Err Full
    else Ok tt

-- the longest of the routes that match, as the law of `longest_match` says
abbrev pub longest : ℕ → List IpRoute → Option IpRoute
longest dest [] = None
longest dest (r ∷ rs) = if matches dest r then Some (longer r (longest dest rs)) else longest dest rs

-- the destination is the next hop where the route names none
abbrev pub next_hop : IpRoute → ℕ → ℕ
next_hop r dest = if r.hop == 0 then dest else r.hop
