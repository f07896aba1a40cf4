use Rattle.std.proofs.Common.{◌≡◌, ◌+◌, ◌*◌, drop}
use Rattle.std.specs.Prelude.{max}
use Rattle.nx_ctree.specs.declared.statement.Stmt.{size-Stmt}
use Rattle.nx_cstmtcheck.specs.Code.{statements_check}
use Rattle.nx_cstmtcheck.proofs.Statements.{left}
use Rattle.nx_cstmtcheck.proofs.statement.+statement.Given as goal

-- The statements that are left, after those that are done, are what all of them are.
abbrev pub invariant-check_statements-loop-statement : goal.invariant-check_statements-loop-statement
invariant-check_statements-loop-statement l =
    left l.names l.rows l.returns l.done (drop l.statement-index l.statements) l.used ≡ statements_check l.names l.rows l.returns l.statements l.fn.used

-- How deep the trees are, and how far a function is from the next that goes down.
abbrev pub decreases-check_statement : goal.decreases-check_statement
decreases-check_statement l = 4 * size-Stmt l.s.now

abbrev pub decreases-check_tested : goal.decreases-check_tested
decreases-check_tested l = 4 * size-Stmt l.a.now + 1

abbrev pub decreases-check_do : goal.decreases-check_do
decreases-check_do l = 4 * size-Stmt l.a.now + 1

abbrev pub decreases-check_for : goal.decreases-check_for
decreases-check_for l = 4 * size-Stmt l.a.now + 1

abbrev pub decreases-check_both : goal.decreases-check_both
decreases-check_both l = 4 * max (size-Stmt l.a.now) (size-Stmt l.b.now) + 1

abbrev pub decreases-check_if_else : goal.decreases-check_if_else
decreases-check_if_else l = 4 * max (size-Stmt l.a.now) (size-Stmt l.b.now) + 2

abbrev pub decreases-check_statements : goal.decreases-check_statements
decreases-check_statements l = 4 * goal.size-check_statements l + 1

abbrev pub decreases-check_block : goal.decreases-check_block
decreases-check_block l = 4 * goal.size-check_block l + 2
