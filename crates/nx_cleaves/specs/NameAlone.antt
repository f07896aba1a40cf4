-- The name that an expression of the code is, if it is a name alone, with its line.
use Rattle.std.specs.Prelude.{ℕ, List, Option}
use Rattle.nx_ctree.specs.declared.expression.Expr.{Expr}
use Rattle.nx_ctyping.specs.Trees.{expr_of}
use Rattle.nx_ctyping.specs.Verdicts.{name_of}

unfoldable pub alone : Expr → Option (ℕ × List ℕ)
alone e = name_of (expr_of e)
