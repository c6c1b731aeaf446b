use Rattle.std.proofs.Common.{ap, sym, subst}
use Rattle.node_core.specs.Standing.{NodeStands}
use Rattle.node_settings.specs.Settings.{with_via, with_via_by}
use Rattle.node_settings.proofs.paths.set_path.Goals as goal

pub returns-in-Err-TooLong : goal.returns-in-Err-TooLong
returns-in-Err-TooLong c = λ n t.
    let e = rw c.in-Err-TooLong.field-0-is at c.in-Err-TooLong.ensures in
    let says = rw c.path_of.ensures at (e.answer tt n t) in
    let via = c.args.via.now in
    let stays = subst (λ m. NodeStands c.args.node.now m) (ap (λ r. with_via_by r via n) says) t in
    subst (λ k. NodeStands k (with_via via n)) (sym (e.err tt)) stays

pub returns-in-Err-Full : goal.returns-in-Err-Full
returns-in-Err-Full c = λ n t.
    let e = rw c.in-Err-Full.field-0-is at c.in-Err-Full.ensures in
    let says = rw c.path_of.ensures at (e.answer tt n t) in
    let via = c.args.via.now in
    let stays = subst (λ m. NodeStands c.args.node.now m) (ap (λ r. with_via_by r via n) says) t in
    subst (λ k. NodeStands k (with_via via n)) (sym (e.err tt)) stays
