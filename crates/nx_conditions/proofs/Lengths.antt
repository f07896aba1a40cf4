-- What a condition takes is at least a token.
use Rattle.std.proofs.Common.{◌<◌, List, length, arith}
use Rattle.nx_conditions.specs.declared.token.Token.{Token}
use Rattle.nx_conditions.specs.declared.condition.Condition.{Condition}
use Rattle.nx_conditions.specs.Grammar.{IsUnary, Number, Name, Defined, Not, Group, IsComparison, Lone, Compare, IsConjunction, Single, And, IsDisjunction, Whole, Or}

mutual
  -- A unary is at least a token.
  pub unary_less : {ts : List Token} {a : Condition} {rest : List Token} → IsUnary ts a rest → length rest < length ts
  unary_less (Number n rest) = omega arith
  unary_less (Name name rest) = omega arith
  unary_less (Defined name rest) = omega arith
  unary_less (Not ts a rest x) = omega (arith, unary_less x)
  unary_less (Group ts a rest x) = omega (arith, disjunction_less x)

  -- So is a comparison.
  pub comparison_less : {ts : List Token} {a : Condition} {rest : List Token} → IsComparison ts a rest → length rest < length ts
  comparison_less (Lone ts a rest x) = unary_less x
  comparison_less (Compare by ts us a b rest x y) = omega (arith, unary_less x, unary_less y)

  -- So is a conjunction.
  pub conjunction_less : {ts : List Token} {a : Condition} {rest : List Token} → IsConjunction ts a rest → length rest < length ts
  conjunction_less (Single ts a rest x) = comparison_less x
  conjunction_less (And ts us a b rest x y) = omega (arith, conjunction_less x, comparison_less y)

  -- So is a disjunction.
  pub disjunction_less : {ts : List Token} {a : Condition} {rest : List Token} → IsDisjunction ts a rest → length rest < length ts
  disjunction_less (Whole ts a rest x) = conjunction_less x
  disjunction_less (Or ts us a b rest x y) = omega (arith, disjunction_less x, conjunction_less y)
