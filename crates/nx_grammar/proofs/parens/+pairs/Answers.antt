use Rattle.std.proofs.Common.{◌-◌, sym, ap, ◌∙◌, arith}
use Rattle.std.specs.Prelude.{Err}
use Rattle.nx_grammar.specs.declared.kind.Kind.TheVariants.{Limit}
use Rattle.nx_grammar.proofs.NestedLaws.{opens_on, stops_on}
use Rattle.nx_grammar.proofs.parens.+pairs.Goals as goal

pub opened-returns-then-limit-eq0-clause-gives : goal.opened-returns-then-limit-eq0-clause-gives
opened-returns-then-limit-eq0-clause-gives t c = stops_on c.args.limit c.args.rest.now (omega (arith, c.if-limit-eq0.true)) ∙ ap (λ z. Err (Limit, z)) (sym c.requires.first)

pub opened-returns-clause-gives : goal.opened-returns-clause-gives
opened-returns-clause-gives t c = rw (opens_on c.args.limit (c.args.limit - 1) c.args.rest.now (omega (arith, c.if-limit-eq0.false))) c.inside.ensures.gives
