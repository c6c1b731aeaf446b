use Rattle.std.proofs.Common.{◌≡◌, ◌∙◌, sym, List, ℕ}
use Rattle.std.specs.Prelude.{Some, Result, Ok, Err, IsOk, OnOk}
use Rattle.ax_ip.specs.declared.routes.RouteRefusal.{RouteRefusal}
use Rattle.ax_ip.specs.Machine.{State}
use Rattle.ax_ip.specs.Routes.{route_at}
use Rattle.tool_cmd.specs.declared.ip.texts.RouteText.{RouteText}
use Rattle.tool_cmd.specs.Gateways.{EntersRoute}
use Rattle.tool_cmd.specs.IpWords.{AddsRoute, route_word_at}
use Rattle.tool_cmd.proofs.ip.words.add_route.Goals as goal

entered : (r : Result Unit RouteRefusal) (word : List ℕ) (old new : State) (text : RouteText) → IsOk r → route_word_at word ≡ Some text → r ≡ route_at text.prefix text.len old.routes
    → OnOk r (EntersRoute text.prefix text.len text.hop old new) → AddsRoute word old new
entered (Ok u) word old new text ok spelled exact more =
    record { text = text; spelled = spelled; taken = sym exact; route = more.0; parts = more.1; last = more.2 }
entered (Err e) word old new text ok spelled exact more = absurd (cc ok)

pub returns-in-Some-clause-added : goal.returns-in-Some-clause-added
returns-in-Some-clause-added c = λ is.
    entered c.route.result c.args.word.now _ _ c.in-Some.route (sym c.is_ok.ensures.value ∙ is) (cc (c.route_of.ensures, c.in-Some.is)) c.route.ensures.exact c.route.ensures.entered
