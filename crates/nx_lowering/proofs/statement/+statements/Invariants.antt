use Rattle.std.proofs.Common.{◌≡◌, ◌≤◌, ◌++◌, length, drop}
use Rattle.nx_checked.specs.Trees.{stmts_of}
use Rattle.nx_lower.specs.Bodies.{stmts_code}
use Rattle.nx_lowerexpr.specs.Sources.{source_of}
use Rattle.nx_lowering.proofs.statement.+statements.Given as goal

-- the statements from the one that is left on have their code before what stood there
abbrev pub invariant-put_stmts-loop-left : goal.invariant-put_stmts-loop-left
invariant-put_stmts-loop-left l = record {
  within : l.left ≤ length l.ss;
  rest : l.code ≡ stmts_code (source_of l.program) l.n l.on l.out (stmts_of (drop l.left l.ss)) ++ l.fn.code;
}

abbrev pub decreases-put_stmts-loop-left : goal.decreases-put_stmts-loop-left
decreases-put_stmts-loop-left l = l.left
