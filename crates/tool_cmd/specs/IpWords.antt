-- The words of `ip`: `call=CALL`, `addr=IP`, and each route as `route=IP/N,IP`. Own profile.
use Rattle.std.specs.Cmp.Lexicographic.{pointwise}
use Rattle.std.specs.Prelude.{ℕ, ◌≡◌, List, [], ◌∷◌, length, take, drop, nat_eq, Option, Some, None, Result, Ok, Err, codes, if◌then◌else◌}
use Rattle.ax_address.specs.Callsign.{Callsign}
use Rattle.ax_address.specs.declared.call.CallRefusal.{CallRefusal}
use Rattle.ax_address.specs.Callsign as reading
use Rattle.ax_ip.specs.Machine.{State}
use Rattle.ax_ip.specs.declared.route.IpRoute.{IpRoute}
use Rattle.ax_ip.specs.Routes as routes
use Rattle.tool_cmd.specs.declared.ip.texts.RouteText.{RouteText}
use Rattle.tool_cmd.specs.Gateways.{with_route}
use Rattle.tool_cmd.specs.IpTexts.{◌>>=◌, address_at, route_at}

-- what stands behind the key of a word
abbrev pub behind : List ℕ → List ℕ → Option (List ℕ)
behind key word = if pointwise nat_eq (take (length key) word) key then Some (drop (length key) word) else None

abbrev pub read : Result Callsign CallRefusal → Option Callsign
read (Ok call) = Some call
read (Err refusal) = None

abbrev pub call_at : List ℕ → Option Callsign
call_at text = read (reading.call_at text)

abbrev pub without_routes : Callsign → ℕ → State
without_routes call address = record { call = call; address = address; routes = []; cache = [] }

-- a gateway by its call and its address
unfoldable pub start_at : List ℕ → List ℕ → Option State
start_at call addr = do
  text ← behind (codes "call=") call
  own ← call_at text
  number ← behind (codes "addr=") addr
  address ← address_at number
  Some (without_routes own address)

unfoldable pub route_word_at : List ℕ → Option RouteText
route_word_at word = do
  text ← behind (codes "route=") word
  route_at text

-- the word is a route, which is taken and stands last
pub record AddsRoute (word : List ℕ) (old new : State) : Type 0 where
  pub text : RouteText
  pub spelled : route_word_at word ≡ Some text
  pub taken : routes.route_at text.prefix text.len old.routes ≡ Ok tt
  pub route : IpRoute
  pub parts : routes.IsRoute text.prefix text.len text.hop route
  pub last : new ≡ with_route route old

-- route by route
abbrev pub Adds : List (List ℕ) → State → State → Type 0
Adds [] old new = new ≡ old
Adds (word ∷ later) old new = (next : State) × AddsRoute word old next × Adds later next new

-- the words behind `ip` are those of a gateway that begins so
abbrev pub IsGateway : List (List ℕ) → State → Type 0
IsGateway (call ∷ addr ∷ later) s = (start : State) × (start_at call addr ≡ Some start) × Adds later start s
IsGateway _ s = ⊥
