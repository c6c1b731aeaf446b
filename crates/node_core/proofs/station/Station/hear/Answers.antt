use Rattle.std.proofs.Common.{subst}
use Rattle.route_table.specs.Held.{IsFull}
use Rattle.route_table.specs.Log.{broadcast}
use Rattle.node_core.specs.Receiving.{take_in}
use Rattle.node_core.specs.Standing.{Holds}
use Rattle.node_core.proofs.Holding.{full_in, heard_in, no_room, same_items, table_stays, with_table}
use Rattle.node_core.proofs.station.Station.hear.Goals as goal

pub returns-in-Ok : goal.returns-in-Ok
returns-in-Ok c = λ n h.
    let s = c.args.self.now in
    let r = c.router_mut.result.now in
    let t = c.table_mut-table.result.now in
    let items = broadcast t.own c.args.source.now c.args.alias.now c.quality_to-path_quality.result c.args.reported.now in
    let same = same_items s r t c.router_mut.ensures.value c.table_mut-table.ensures.value n h c.args.source.now c.args.alias.now c.quality_to-path_quality.result c.args.reported.now (c.quality_to-path_quality.ensures n h) in
    subst (λ xs. Holds (with_table s r c.heard.new.self) (take_in xs n)) same
    (heard_in items s r t c.heard.new.self c.router_mut.ensures.value c.table_mut-table.ensures.value c.in-Ok.ensures.stands c.in-Ok.ensures.room c.heard.ensures.node n h)

pub returns-in_ok-tell_overflow-in-Err-TableFull : goal.returns-in_ok-tell_overflow-in-Err-TableFull
returns-in_ok-tell_overflow-in-Err-TableFull c = λ n h.
    let s = c.args.self.now in
    let r = c.router_mut.result.now in
    let t = c.table_mut-table.result.now in
    let live = c.in-Err-TableFull.live in
    let would_be = c.in-Err-TableFull.would_be in
    let items = broadcast t.own c.args.source.now c.args.alias.now c.quality_to-path_quality.result c.args.reported.now in
    let same = same_items s r t c.router_mut.ensures.value c.table_mut-table.ensures.value n h c.args.source.now c.args.alias.now c.quality_to-path_quality.result c.args.reported.now (c.quality_to-path_quality.ensures n h) in
    let refused : IsFull t items live would_be = rw c.in-Err-TableFull.field-0-is at c.in-Err-TableFull.ensures.refused in
    let stays = table_stays s r t c.heard.new.self c.router_mut.ensures.value c.table_mut-table.ensures.value c.in-Err-TableFull.ensures.unchanged n h in
    let full = no_room t n items live would_be (rw (c.table_mut-table.ensures.value, c.router_mut.ensures.value) h.parts.log) (rw (c.table_mut-table.ensures.value, c.router_mut.ensures.value) h.parts.rules) refused in
    let told = c.tell_overflow.new.self in
    subst (λ xs. Holds told (take_in xs n)) same
    (full_in items n live would_be told full (c.in_ok-tell_overflow-in-Err-TableFull.ensures n stays))
