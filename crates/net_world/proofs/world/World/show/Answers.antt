use Rattle.std.proofs.Common.{◌≡◌, ◌∙◌, ◌∷◌, [], ap, sym, subst}
use Rattle.std.specs.Prelude.{None, Some, slice_get}
use Rattle.std.specs.Option.{option_map}
use Rattle.net_model.specs.Events.{Shown}
use Rattle.net_model.specs.Lines.{table_of}
use Rattle.net_world.specs.Running.{Stands, course}
use Rattle.net_model.specs.Tables.{Table}
use Rattle.net_model.specs.World.{tell}
use Rattle.net_model.proofs.Looks.{shown_of}
use Rattle.net_world.proofs.Placing.{place_is}
use Rattle.net_world.proofs.Telling.{shown_none, shown_some}
use Rattle.net_world.proofs.world.World.show.Goals as goal

pub returns-in_ok-tell-in-Some : goal.returns-in_ok-tell-in-Some
returns-in_ok-tell-in-Some c = λ w t.
    let line = c.args.line in
    let at = c.place_of-at.result in
    let o = slice_get w.nodes at in
    let e : Some c.in-Some.table ≡ option_map table_of o = sym c.in-Some.is ∙ c.in_ok-table.ensures w t in
    let place = place_is (course c.args.self.now) w c.args.number at c.place_of-at.ensures t in
    subst (λ v. Stands (course c.tell.new.self) v)
    (ap (λ (t : Table). tell line (Shown t ∷ []) w) c.in_ok-table-in-Some.ensures.ok
    ∙ (sym (shown_some line w o c.in-Some.table e) ∙ ap (λ k. shown_of line (slice_get w.nodes k) w) place)) (c.in_ok-tell-in-Some.ensures.goes w t)

pub returns-in-None : goal.returns-in-None
returns-in-None c = λ w t.
    let line = c.args.line in
    let at = c.place_of-at.result in
    let o = slice_get w.nodes at in
    let e : None ≡ option_map table_of o = sym c.in-None.is ∙ c.in_ok-table.ensures w t in
    let place = place_is (course c.args.self.now) w c.args.number at c.place_of-at.ensures t in
    subst (λ v. Stands (course c.args.self.now) v)
    (sym (shown_none line w o e) ∙ ap (λ k. shown_of line (slice_get w.nodes k) w) place) t
