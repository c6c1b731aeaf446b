use Rattle.std.proofs.Common.{◌∙◌, ◌++◌, sym, ap, subst, append_assoc, append-nil}
use Rattle.std.specs.List.{flat_map}
use Rattle.station.specs.Standing.{StationStand}
use Rattle.station.specs.States.{StationState, fetch_entry}
use Rattle.station.proofs.Fetched.{all_told, first_told, none_told}
use Rattle.station_entries.specs.Lines.{entry_line}
use Rattle.station_live.specs.Lives.{entries_text}
use Rattle.station_live.proofs.sending.add_entries.Goals as goal

pub loop-entry-preserved : goal.loop-entry-preserved
loop-entry-preserved c = λ s stands.
    let i = c.loop-entry.invariant s stands in
    let t : StationState = i.0 in
    let entry = c.in-Some.entry in
    let now = c.args.now in
    let is = c.in-Some.ensures.answer t i.1 in (
      fetch_entry t,
      c.in-Some.ensures.goes t i.1,
      i.2,
      (ap (λ lines. lines ++ entries_text now (fetch_entry t)) c.in_ok-add_entry.ensures
          ∙ (append_assoc c.loop-entry.lines (entry_line now.0 entry) (entries_text now (fetch_entry t))
          ∙ sym (ap (λ es. c.loop-entry.lines ++ flat_map (entry_line now.0) es) (first_told t entry is)))) ∙ i.3,
    )

pub returns : goal.returns
returns c = record {
  goes = λ s stands.
      let i = c.loop-entry.invariant s stands in
      subst (λ t. StationStand c.next_entry.new.self t) (all_told i.0 (c.in_default.ensures.answer i.0 i.1) ∙ i.2) (c.in_default.ensures.goes i.0 i.1);
  added = λ s stands.
      let i = c.loop-entry.invariant s stands in
      sym (append-nil c.loop-entry.lines)
      ∙ (sym (ap (λ es. c.loop-entry.lines ++ flat_map (entry_line c.args.now.0) es) (none_told i.0 (c.in_default.ensures.answer i.0 i.1))) ∙ i.3);
}
