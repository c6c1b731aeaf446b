use Rattle.std.proofs.Common.{subst, sym}
use Rattle.circuit_table.specs.declared.loud.Loud.TheVariants.{Nobody, One}
use Rattle.circuit_table.specs.Still.{ComesTo}
use Rattle.circuit_table.proofs.Stillness.{comes, comes_still}
use Rattle.circuit_table.proofs.loud.Loud.after.Goals as goal

pub returns-in-One : goal.returns-in-One
returns-in-One c =
    subst (λ l. ComesTo c.args.id l c.args.holder.now Nobody) (sym c.in-One.is)
    (comes_still c.args.id c.in-One.one c.args.holder.now c.if-one-id.true (c.is_quiet.ensures.still c.if-is_quiet.true))

pub returns-in_default : goal.returns-in_default
returns-in_default c = subst (λ l. ComesTo c.args.id l c.args.holder.now (One c.in-One.one)) (sym c.in-One.is) (comes c.args.id (One c.in-One.one) c.args.holder.now)

pub returns-in_default-2 : goal.returns-in_default-2
returns-in_default-2 c = subst (λ l. ComesTo c.args.id l c.args.holder.now (One c.in-One.one)) (sym c.in-One.is) (comes c.args.id (One c.in-One.one) c.args.holder.now)

pub returns-in_default-3 : goal.returns-in_default-3
returns-in_default-3 c = comes c.args.id c.args.self c.args.holder.now
