use Rattle.std.proofs.Common.{◌++◌, ◌∙◌, ap, map}
use Rattle.std.specs.Prelude.{codes}
use Rattle.station_lists.specs.Lists.{ended, port_line}
use Rattle.station_looks.specs.Rows.{items_of, port_rows, port_rows_from}
use Rattle.station_looks.proofs.Lines.{same_text}
use Rattle.station_looks.proofs.ports.see_ports.Goals as goal

pub returns : goal.returns
returns c = λ s stand.
    let standing = ap (map items_of) c.deref.ensures.value ∙ c.in_ok-standing.ensures.each s stand in
    c.in_ok-add_ports.ensures
    ∙ ap (λ lines. c.args.text.now ++ (ended (codes "Ports:") ++ lines))
    (same_text port_line c.deref-2.result.now (port_rows c.args.about.now s)
    (ap (map port_line) c.deref-2.ensures.value
    ∙ (c.in_ok-all.ensures s stand standing ∙ ap (λ names. map port_line (port_rows_from s 0 names)) c.names-names.ensures.value)))
