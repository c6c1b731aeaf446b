use Rattle.std.proofs.Common.{rules}
use Rattle.std.specs.Prelude.{not}
use Rattle.std.proofs.lemmas.Fn.{filter_same}
use Rattle.frame_lines.specs.declared.stations.Stations.{Stations}
use Rattle.frame_lines.specs.Moduli as moduli
use Rattle.frame_lines.proofs.stations.forget.Goals as goal

pub returns : goal.returns
returns c =
    let test : Stations → _ = λ s. not (moduli.are_these c.args.head.now.source.call c.args.head.now.dest.call s) in
    filter_same _ test _ (λ x b f h. (search rules, search rules)) _ _ c.retain.ensures.filtered
