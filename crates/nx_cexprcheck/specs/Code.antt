-- What the trees of the code are checked as.
use Rattle.std.specs.Prelude.{Bool, List}
use Rattle.nx_calls.specs.declared.row.CallRow.{CallRow}
use Rattle.nx_ctree.specs.declared.expression.Expr.{Expr}
use Rattle.nx_ctree.specs.declared.expression.Place.{Place}
use Rattle.nx_crules.specs.declared.types.Typed.{Typed}
use Rattle.nx_crules.specs.declared.types.Target.{Target}
use Rattle.nx_ctype.specs.declared.names.Names.{Names}
use Rattle.nx_ctyping.specs.Checks.{Check}
use Rattle.nx_ctyping.specs.Trees.{expr_of, place_of, args_of}
use Rattle.nx_ctyping.specs.Verdicts.{verdict, place_verdict, argument_check, arguments_verdict}

-- An expression and a place.
unfoldable pub expression_check : Names → List CallRow → Expr → Check Typed
expression_check names rows e = verdict names rows (expr_of e)

unfoldable pub place_check : Names → List CallRow → Place → Check Target
place_check names rows p = place_verdict names rows (place_of p)

-- One argument and several, of a call that starts a thread or not.
unfoldable pub one_argument_check : Names → List CallRow → Bool → Expr → Check Typed
one_argument_check names rows b e = argument_check names b (expr_of e) (verdict names rows (expr_of e))

unfoldable pub arguments_check : Names → List CallRow → Bool → List Expr → Check (List Typed)
arguments_check names rows b es = arguments_verdict names rows b (args_of es)
