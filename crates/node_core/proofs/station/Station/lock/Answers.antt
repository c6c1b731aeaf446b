use Rattle.std.proofs.Common.{[], ◌∷◌}
use Rattle.std.proofs.lemmas.Result.{err_from_is_err_and}
use Rattle.route_table.specs.Log as logs
use Rattle.node_core.proofs.Holding.{room, table_goes, table_stays, with_table}
use Rattle.node_core.proofs.Refusing.{lock_done, lock_refused}
use Rattle.node_core.proofs.station.Station.lock.Goals as goal

pub returns-in_err-lock : goal.returns-in_err-lock
returns-in_err-lock c =
    let p = err_from_is_err_and c.from_residual.result c.from_residual.ensures.1 in
    rw (p.1, p.2) (λ a n h told.
    let s = c.args.self.now in
    let r = c.router_mut.result.now in
    let t = c.table_mut-table.result.now in
    let e = c.router_mut.ensures.value in
    let f = c.table_mut-table.ensures.value in
    lock_refused (with_table s r c.lock.new.self) t n c.args.dest.now (logs.Lock c.args.dest.now c.args.alias.now c.args.neighbour.now c.args.quality) c.args.quality c.in_err-lock.field-0.0
    (rw (f, e) h.parts.log) (rw (f, e) h.parts.rules) (rw (f, e) h.parts.own) c.in_err-lock.ensures.refused (table_stays s r t c.lock.new.self e f c.in_err-lock.ensures.unchanged n h) a)

pub returns : goal.returns
returns c = λ a n h told.
    let s = c.args.self.now in
    let r = c.router_mut.result.now in
    let t = c.table_mut-table.result.now in
    let e = c.router_mut.ensures.value in
    let f = c.table_mut-table.ensures.value in
    let item = logs.Lock c.args.dest.now c.args.alias.now c.args.neighbour.now c.args.quality in
    lock_done (with_table s r c.lock.new.self) t n c.args.dest.now item c.args.quality (rw (f, e) h.parts.rules) (rw (f, e) h.parts.own) c.in_ok-lock.ensures.taken
    (room t n (item ∷ []) (rw (f, e) h.parts.log) (rw (f, e) h.parts.rules) c.in_ok-lock.ensures.room)
    (table_goes (item ∷ []) s r t c.lock.new.self e f c.in_ok-lock.ensures.stands c.lock.ensures.node n h)
