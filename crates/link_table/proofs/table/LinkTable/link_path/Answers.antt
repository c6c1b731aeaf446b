use Rattle.arrayvec.specs.ArrayVec.{ArrayVec}
use Rattle.ax_address.specs.declared.address.Address.{Address}
use Rattle.std.proofs.Common.{◌≡◌, Some, subst, sym}
use Rattle.link_table.specs.Calls.{link_path}
use Rattle.link_table.proofs.Tables.{path_is, path_none, to_core}
use Rattle.link_table.proofs.table.LinkTable.link_path.Goals as goal

pub returns-in-Some : goal.returns-in-Some
returns-in-Some c = rw (← c.self.view_is) (λ t s.
    subst (λ (p : ArrayVec Address). Some p ≡ link_path c.args.peer.now t) (sym c.path.ensures)
    (path_is c.self.inside.core c.args.peer.now c.in-Some.entry.now (sym c.in-Some.ensures.value) t (to_core c.self.inside.core c.self.inside.spent t s)))

pub returns-in-None : goal.returns-in-None
returns-in-None c = rw (← c.self.view_is) (λ t s. path_none c.self.inside.core c.args.peer.now (sym c.in-None.ensures.value) t (to_core c.self.inside.core c.self.inside.spent t s))
