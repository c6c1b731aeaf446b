use Rattle.std.proofs.Common.{◌≡◌, ◌∷◌, sym, subst, length, arith, refl, inl}
use Rattle.std.specs.Prelude.{codes, string_bytes}
use Rattle.std.proofs.lemmas.List.{length-map}
use Rattle.station_cmd.specs.Words.{IsCommandOf, texts_of}
use Rattle.station_cmd.proofs.Commands.{no_run, one_file, two_texts}
use Rattle.station_cmd.proofs.command.run_of.Goals as goal

pub returns-then-count-eq1 : goal.returns-then-count-eq1
returns-then-count-eq1 c =
    let one : length c.args.rest.now ≡ 1 = omega arith in (
      (texts_of c.args.rest.now, refl, inl (one_file c.args.rest.now c.index-rest-0.result c.as_str.result.now one c.index-rest-0.is c.as_str.ensures.value, refl)),
      record { index_some = omega arith; index_most = omega arith; ident_some = omega arith; ident_most = omega arith },
    )

pub returns-then-count-eq2 : goal.returns-then-count-eq2
returns-then-count-eq2 c =
    let two : length c.args.rest.now ≡ 2 = omega arith in
    subst (λ ts. IsCommandOf (codes "run" ∷ ts) c.run_with.result)
    (sym (two_texts c.args.rest.now c.index-rest-0-then-count-eq2.result c.index-rest-1.result c.as_str-then-count-eq2.result.now c.as_bytes.result.now two c.index-rest-0-then-count-eq2.is c.index-rest-1.is c.as_str-then-count-eq2.ensures.value c.as_bytes.ensures.value))
    c.run_with.ensures

pub returns-else-count-eq2 : goal.returns-else-count-eq2
returns-else-count-eq2 c =
    no_run (texts_of c.args.rest.now)
    (λ e. let many = length-map c.args.rest.now (λ w. string_bytes w) in omega (arith, e, many))
    (λ e. let many = length-map c.args.rest.now (λ w. string_bytes w) in omega (arith, e, many))
