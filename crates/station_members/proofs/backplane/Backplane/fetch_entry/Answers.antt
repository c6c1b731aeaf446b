use Rattle.std.proofs.Common.{refl}
use Rattle.std.specs.Prelude.{None, Some}
use Rattle.node_core.specs.Standing.{entry_of}
use Rattle.station_members.proofs.Moves.{fetches_told}
use Rattle.station_members.proofs.backplane.Backplane.fetch_entry.Goals as goal

pub returns-in-None-clause-goes : goal.returns-in-None-clause-goes
returns-in-None-clause-goes c = fetches_told c.args.self.now _ _ c.args.at None refl c.in-None.ensures.answer c.in-None.ensures.goes (λ s t. t)

pub returns-in-Some-clause-goes : goal.returns-in-Some-clause-goes
returns-in-Some-clause-goes c =
    fetches_told c.args.self.now _ _ c.args.at (Some (entry_of c.in-Some.entry)) refl c.in-Some.ensures.answer c.in-Some.ensures.goes c.note_end.ensures
