use Rattle.std.proofs.Common.{◌≡◌, ◌∙◌, sym, ap, true, cond}
use Rattle.std.specs.Prelude.{insert, is_ok}
use Rattle.route_table.specs.Places.{place_among}
use Rattle.route_table.proofs.Placing.{placed-insert}
use Rattle.route_table.proofs.rows.enter.Goals as goal

pub returns-clause-items : goal.returns-clause-items
returns-clause-items c =
    let ok : is_ok c.insert.result ≡ true = c.insert.ensures.succeeds c.requires.room in
    let at = c.place_of-at.ensures.place ∙ ap (place_among c.args.route.now) c.deref.ensures.value in
    c.insert.ensures.items
    ∙ (ap (λ b. cond b (insert c.args.rows.now.items c.place_of-at.result c.args.route.now) c.args.rows.now.items) ok
    ∙ (ap (λ n. insert c.args.rows.now.items n c.args.route.now) at ∙ sym (placed-insert c.args.route.now c.args.rows.now.items)))
