use Rattle.std.proofs.Common.{◌≡◌, ◌+◌, ◌*◌, drop}
use Rattle.std.specs.Prelude.{max}
use Rattle.nx_ctree.specs.declared.expression.Expr.{size-Expr}
use Rattle.nx_ctree.specs.declared.expression.Place.{size-Place}
use Rattle.nx_cexprcheck.specs.Code.{arguments_check}
use Rattle.nx_cexprcheck.proofs.Arguments.{left}
use Rattle.nx_cexprcheck.proofs.expression.+expression.Given as goal

-- The arguments that are left, after those that are done, are what all of them are.
abbrev pub invariant-check_arguments-loop-argument : goal.invariant-check_arguments-loop-argument
invariant-check_arguments-loop-argument l =
    left l.names l.rows l.done.items l.first (drop l.argument-index l.arguments) l.used ≡ arguments_check l.names l.rows l.starts l.arguments l.fn.used

-- How deep the trees are, and how far a function is from the next that goes down.
abbrev pub decreases-check_expression : goal.decreases-check_expression
decreases-check_expression l = 4 * size-Expr l.e.now

abbrev pub decreases-check_place : goal.decreases-check_place
decreases-check_place l = 4 * size-Place l.p.now

abbrev pub decreases-check_one : goal.decreases-check_one
decreases-check_one l = 4 * size-Expr l.a.now + 1

abbrev pub decreases-check_pointed : goal.decreases-check_pointed
decreases-check_pointed l = 4 * size-Expr l.a.now + 1

abbrev pub decreases-check_step : goal.decreases-check_step
decreases-check_step l = 4 * size-Place l.p.now + 1

abbrev pub decreases-check_pair : goal.decreases-check_pair
decreases-check_pair l = 4 * max (size-Expr l.a.now) (size-Expr l.b.now) + 1

abbrev pub decreases-check_two : goal.decreases-check_two
decreases-check_two l = 4 * max (size-Expr l.a.now) (size-Expr l.b.now) + 2

abbrev pub decreases-check_element : goal.decreases-check_element
decreases-check_element l = 4 * max (size-Expr l.a.now) (size-Expr l.i.now) + 2

abbrev pub decreases-check_choice : goal.decreases-check_choice
decreases-check_choice l = 4 * max (size-Expr l.c.now) (max (size-Expr l.a.now) (size-Expr l.b.now)) + 2

abbrev pub decreases-check_assignment : goal.decreases-check_assignment
decreases-check_assignment l = 4 * max (size-Place l.p.now) (size-Expr l.e.now) + 1

abbrev pub decreases-check_argument : goal.decreases-check_argument
decreases-check_argument l = 4 * size-Expr l.e.now + 1

abbrev pub decreases-check_arguments : goal.decreases-check_arguments
decreases-check_arguments l = 4 * goal.size-check_arguments l + 2

abbrev pub decreases-check_call : goal.decreases-check_call
decreases-check_call l = 4 * goal.size-check_call l + 3
