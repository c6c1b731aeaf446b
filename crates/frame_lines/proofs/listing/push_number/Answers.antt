use Rattle.std.proofs.Common.{◌≡◌, ◌+◌, ◌++◌, ◌∙◌, [], ◌∷◌, sym, ap, arith, append_assoc}
use Rattle.std.specs.Fmt.{decimal}
use Rattle.std.proofs.lemmas.Fmt.{decimal_digit}
use Rattle.frame_lines.proofs.listing.push_number.Goals as goal

pub returns-then-number-lt10-clause-text : goal.returns-then-number-lt10-clause-text
returns-then-number-lt10-clause-text c =
    let text = c.args.line.now.bytes in
    let name = c.args.name.now in
    let digit : decimal c.args.number ≡ (48 + c.args.number) ∷ [] = decimal_digit c.args.number c.if-number-lt10.true in
    c.push.ensures.ascii (omega arith) ∙ (ap (λ bs. bs ++ (48 + c.args.number) ∷ []) c.push_str.ensures.bytes ∙ (append_assoc text name ((48 + c.args.number) ∷ []) ∙ ap (λ ds. text ++ (name ++ ds)) (sym digit)))
